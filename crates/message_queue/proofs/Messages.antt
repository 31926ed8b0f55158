-- Texts compared, the messages that are kept, and the bounds of weights.
use Rattle.std.proofs.Common.{◌≡◌, ℕ, zero, suc, ◌+◌, ◌*◌, ◌<◌, ◌≤◌, ◌↔◌, Bool, true, false, cond, List, [], ◌∷◌, length, get_or, refl, sym, ap, ◌∙◌, arith, drop, IsTrue}
use Rattle.std.specs.List.{filter}
use Rattle.std.specs.Str.{bytes_eq}
use Rattle.std.specs.Cmp.Lexicographic.{bytes_decides}
use Rattle.std.proofs.lemmas.List.{length-map}
use Rattle.world_plain.specs.Messages.{PlainMessage, plain_message}
use Rattle.world_plain.specs.Valid.{most_messages}
use Rattle.world_plain.specs.declared.message.Message.{Message}
use Rattle.world_plain.specs.World.{message_weight, total_weight}
use Rattle.message_queue.specs.Queue.{IsLightMessage, AreLightMessages}
use Rattle.message_queue.specs.View.{messages_seen}

-- ---- texts

told_same : (told same : Bool) (xs ys : List ℕ) → bytes_eq xs ys ≡ same → (IsTrue told ↔ (xs ≡ ys)) → told ≡ same
told_same true true xs ys e h = refl
told_same true false xs ys e h = sym (sym e ∙ (bytes_decides xs ys).1 (h.0 refl))
told_same false true xs ys e h = h.1 ((bytes_decides xs ys).0 e)
told_same false false xs ys e h = refl

-- what tells whether texts are the same answers as their comparison
pub is_same : (told : Bool) (xs ys : List ℕ) → (IsTrue told ↔ (xs ≡ ys)) → told ≡ bytes_eq xs ys
is_same told xs ys h = told_same told (bytes_eq xs ys) xs ys refl h

pub ruleset by_text = (is_same)

-- ---- messages fewer

kept_one : (b : Bool) (m : Message) (ms : List Message) → messages_seen (cond b (m ∷ ms) ms) ≡ cond b (plain_message m ∷ messages_seen ms) (messages_seen ms)
kept_one true m ms = refl
kept_one false m ms = refl

-- the messages kept are seen as those kept of the messages seen
pub seen_filter : (test : PlainMessage → Bool) (ms : List Message) → messages_seen (filter (λ (m : Message). test (plain_message m)) ms) ≡ filter test (messages_seen ms)
seen_filter test [] = refl
seen_filter test (m ∷ ms) =
    kept_one (test (plain_message m)) m (filter (λ (n : Message). test (plain_message n)) ms)
    ∙ ap (λ (rest : List PlainMessage). cond (test (plain_message m)) (plain_message m ∷ rest) rest) (seen_filter test ms)

-- ---- weights

pub message_at : (ms : List Message) (i : ℕ) (d : Message) → i < length ms → message_weight (plain_message (get_or ms i d)) ≤ total_weight message_weight (messages_seen (drop i ms))
message_at [] i d h = absurd (omega arith)
message_at (m ∷ ms) zero d h = omega arith
message_at (m ∷ ms) (suc i) d h = message_at ms i d (omega arith)

pub total_bound : (ms : List PlainMessage) → AreLightMessages ms → total_weight message_weight ms ≤ length ms * 131072
total_bound [] h = omega arith
total_bound (m ∷ ms) h = omega (arith, h.0, total_bound ms h.1)

pub light_at : (ms : List Message) (i : ℕ) (d : Message) → i < length ms → AreLightMessages (messages_seen (drop i ms)) → IsLightMessage (plain_message (get_or ms i d))
light_at [] i d inside h = absurd (omega arith)
light_at (m ∷ ms) zero d inside h = h.0
light_at (m ∷ ms) (suc i) d inside h = light_at ms i d (omega arith) h

-- what a loop over messages has summed, and the next of them
pub sum_bound : (ms : List Message) (i sum : ℕ) (d m : Message)
    → i < length ms
    → m ≡ get_or ms i d
    → sum + total_weight message_weight (messages_seen (drop i ms)) ≡ total_weight message_weight (messages_seen ms)
    → AreLightMessages (messages_seen ms)
    → length ms ≤ most_messages
    → sum + message_weight (plain_message m) ≤ 2147483648
sum_bound ms i sum d m inside is so_far light few =
    omega (arith, message_at ms i d inside, ap (λ (n : Message). message_weight (plain_message n)) is, so_far, total_bound (messages_seen ms) light, few, length-map ms plain_message)
