-- The test of a world, part by part as Valid says it.
use Rattle.std.specs.Prelude.{ℕ, Bool, true, false, ◌&&◌, ◌||◌, not, nat_eq, nat_lt, nat_le, bytes_eq, is_some, List, [], ◌∷◌, map, length, Option, Some, None, slice_get}
use Rattle.std.specs.List.{list_all}
use Rattle.tea_base.specs.Order.{comes_before}
use Rattle.model_value.specs.Plain.{PlainValue, is_in_bounds, text_weight, most_weight}
use Rattle.saved_value.specs.Saving.{has_ref}
use Rattle.world_plain.specs.Messages.{PlainMessage}
use Rattle.world_plain.specs.World.{ObjectRecord, WorldRecord, world_weight, most_world_weight}
use Rattle.world_plain.specs.Valid.{object_at, most_turns, most_objects, most_subscriptions, most_messages, most_arguments}
use Rattle.tea_base.specs.Limits.{time_limit, most_here}
use Rattle.world_plain.specs.declared.message.Subscription.{Subscription}
use Rattle.world_plain.specs.declared.world.Known.{Known}

-- numbers rise, the first above this one
abbrev pub is_rising : ℕ → List ℕ → Bool
is_rising low [] = true
is_rising low (x ∷ xs) = nat_lt low x && is_rising x xs

-- each item and each behind it pass a test
abbrev pub each_pair : {A : Type 0} → (A → A → Bool) → List A → Bool
each_pair test [] = true
each_pair test (x ∷ xs) = list_all (test x) xs && each_pair test xs

abbrev pub is_fit_text : List ℕ → Bool
is_fit_text characters = nat_le (text_weight characters) most_weight

abbrev pub holds_object : List ObjectRecord → ℕ → Bool
holds_object objects id = is_some (object_at objects id)

abbrev pub is_number : Option ℕ → ℕ → Bool
is_number None n = false
is_number (Some m) n = nat_eq m n

abbrev pub is_fit_object : List ℕ → ℕ → ObjectRecord → Bool
is_fit_object counts next o =
    nat_lt o.id next && is_number (slice_get counts o.class) (length o.fields) && list_all is_in_bounds o.fields

abbrev pub is_fit_name : List ObjectRecord → Known → Bool
is_fit_name objects k = is_fit_text k.name && holds_object objects k.object

abbrev pub is_fit_subscription : List ObjectRecord → Subscription → Bool
is_fit_subscription objects s =
    is_fit_text s.scope && is_fit_text s.event && is_fit_text s.method && holds_object objects s.object

-- two subscriptions are equal
abbrev pub same_subscription : Subscription → Subscription → Bool
same_subscription s t =
    (bytes_eq s.scope t.scope && bytes_eq s.event t.event) && (nat_eq s.object t.object && bytes_eq s.method t.method)

-- by time, and at one time by number
abbrev pub is_due_before : PlainMessage → PlainMessage → Bool
is_due_before m n = nat_lt m.time n.time || (nat_eq m.time n.time && nat_lt m.number n.number)

abbrev pub is_fit_message : ℕ → ℕ → List ObjectRecord → PlainMessage → Bool
is_fit_message time next objects m =
    nat_le time m.time
    && nat_lt m.time time_limit
    && nat_lt m.number next
    && holds_object objects m.object
    && is_fit_text m.method
    && nat_le (length m.args) most_arguments
    && list_all is_in_bounds m.args

-- ---- the parts of a world

abbrev pub is_valid_clock : WorldRecord → Bool
is_valid_clock w = nat_lt w.time time_limit && nat_le w.turns most_turns

abbrev pub is_valid_views : WorldRecord → Bool
is_valid_views w = is_rising 0 w.views && nat_le (length w.views) most_here

abbrev pub is_valid_objects : List ℕ → WorldRecord → Bool
is_valid_objects counts w =
    nat_le 1 w.next_object
    && is_rising 0 (map (λ o. o.id) w.objects)
    && list_all (is_fit_object counts w.next_object) w.objects
    && nat_le (length w.objects) most_objects

abbrev pub is_valid_names : WorldRecord → Bool
is_valid_names w = each_pair (λ k n. comes_before k.name n.name) w.known && list_all (is_fit_name w.objects) w.known

abbrev pub is_valid_subscriptions : WorldRecord → Bool
is_valid_subscriptions w =
    each_pair (λ s t. not (same_subscription s t)) w.subscriptions
    && list_all (is_fit_subscription w.objects) w.subscriptions
    && nat_le (length w.subscriptions) most_subscriptions

abbrev pub is_valid_messages : WorldRecord → Bool
is_valid_messages w =
    each_pair is_due_before w.pending
    && each_pair (λ m n. not (nat_eq m.number n.number)) w.pending
    && list_all (is_fit_message w.time w.next_number w.objects) w.pending
    && nat_le (length w.pending) most_messages

abbrev pub can_be_saved : PlainValue → Bool
can_be_saved value = is_in_bounds value && not (has_ref value)

-- by the numbers of fields of the classes of a program
abbrev pub is_valid : List ℕ → WorldRecord → Bool
is_valid counts w =
    is_valid_clock w
    && is_valid_views w
    && is_valid_objects counts w
    && is_valid_names w
    && is_valid_subscriptions w
    && is_valid_messages w
    && can_be_saved w.saved
    && nat_le (world_weight w) most_world_weight
