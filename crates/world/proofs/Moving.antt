-- A world whose time is moved, or whose least message is taken, stays valid.
use Rattle.std.proofs.Common.{◌≡◌, ℕ, ◌+◌, ◌<◌, ◌≤◌, inl, inr, Bool, true, false, if◌then◌else◌, ◌&&◌, nat_lt, nat_le, List, [], ◌∷◌, length, Some, None, refl, sym, ap, ◌∙◌, subst, arith}
use Rattle.std.proofs.lemmas.Bool.{and_parts, leb-true, leb-false, lt-leb, lt-ltb, ltb-true}
use Rattle.std.proofs.lemmas.Option.{none-some, same_Some}
use Rattle.saved_value.specs.Saving.{saved_weight}
use Rattle.world_plain.specs.Messages.{PlainMessage}
use Rattle.world_plain.specs.World.{ObjectRecord, WorldRecord, total_weight, object_weight, message_weight, subscription_weight, known_weight, most_world_weight}
use Rattle.world_plain.specs.Valid.{Valid, ValidMessages, most_turns, most_messages, PrecedesAll, AreInOrder, MessageFits, MessagesFit, NumbersDiffer}
use Rattle.tea_base.specs.Limits.{time_limit}
use Rattle.model_eval.proofs.ValidLaws.{valid-beside, valid-around}
use Rattle.world.specs.View.{are_behind}
use Rattle.world.specs.Worlds.{at_later_time, first_where, due}

abbrev pub AllFrom : ℕ → List PlainMessage → Type 0
AllFrom t [] = Unit {0}
AllFrom t (m ∷ ms) = (t ≤ m.time) × AllFrom t ms

preceded-from : (m : PlainMessage) (ms : List PlainMessage) → PrecedesAll m ms → AllFrom m.time ms
preceded-from m [] h = tt
preceded-from m (n ∷ ns) (inl before, h) = (omega (arith, before), preceded-from m ns h)
preceded-from m (n ∷ ns) (inr same, h) = (omega (arith, same.0), preceded-from m ns h)

-- where nothing is due, all lies behind
none_due : (t : ℕ) (b : Bool) (m : PlainMessage) (ms : List PlainMessage) → b ≡ nat_le m.time t → first_where b m ms ≡ None → t < m.time
none_due t true m ms e h = absurd (none-some (m, ms) (sym h))
none_due t false m ms e h = leb-false m.time t (sym e)

all-from : (t u : ℕ) (ms : List PlainMessage) → t ≤ u → AllFrom u ms → AllFrom t ms
all-from t u [] le h = tt
all-from t u (m ∷ ms) le h = (omega (arith, le, h.0), all-from t u ms le h.1)

pub due-none : (t : ℕ) (ms : List PlainMessage) → AreInOrder ms → due t ms ≡ None → AllFrom (t + 1) ms
due-none t [] o h = tt
due-none t (m ∷ ms) o h =
    let lt : t < m.time = none_due t (nat_le m.time t) m ms refl h in
    (omega (arith, lt), all-from (t + 1) m.time ms (omega (arith, lt)) (preceded-from m ms o.0))

-- where all lies behind, nothing is due
pub behind-none : (t : ℕ) (ms : List PlainMessage) → are_behind t ms ≡ true → due t ms ≡ None
behind-none t [] behind = refl
behind-none t (m ∷ ms) behind = ap (λ b. first_where b m ms) (lt-leb m.time t (ltb-true t m.time (and_parts (nat_lt t m.time) (are_behind t ms) behind).0))

-- what lies from the next time on lies behind
pub from-behind : (t : ℕ) (ms : List PlainMessage) → AllFrom (t + 1) ms → are_behind t ms ≡ true
from-behind t [] from = refl
from-behind t (m ∷ ms) from = ap (λ b. b && are_behind t ms) (lt-ltb t m.time (omega (arith, from.0))) ∙ from-behind t ms from.1

-- a message that is due stands first
pub record IsFirst (t : ℕ) (ms : List PlainMessage) (m : PlainMessage) (rest : List PlainMessage) : Type 0 where
  pub first : ms ≡ m ∷ rest
  pub time : m.time ≤ t

some_due : (t : ℕ) (b : Bool) (n : PlainMessage) (ns : List PlainMessage) (m : PlainMessage) (rest : List PlainMessage) → b ≡ nat_le n.time t → first_where b n ns ≡ Some (m, rest) → IsFirst t (n ∷ ns) m rest
some_due t true n ns m rest e h =
    let both : ◌≡◌ {A = PlainMessage × List PlainMessage} (n, ns) (m, rest) = same_Some (n, ns) (m, rest) h in
    let one : n ≡ m = ap (λ p. p.0) both in
    let others : ns ≡ rest = ap (λ p. p.1) both in
    let le : n.time ≤ t = leb-true n.time t (sym e) in
    record { first = ap (λ k. k ∷ ns) one ∙ ap (λ ks. m ∷ ks) others; time = subst (λ (k : PlainMessage). k.time ≤ t) one le }
some_due t false n ns m rest e h = absurd (none-some (m, rest) h)

pub due-some : (t : ℕ) (ms : List PlainMessage) (m : PlainMessage) (rest : List PlainMessage) → due t ms ≡ Some (m, rest) → IsFirst t ms m rest
due-some t [] m rest h = absurd (none-some (m, rest) h)
due-some t (n ∷ ns) m rest h = some_due t (nat_le n.time t) n ns m rest refl h

-- the messages still fit in a world of another time, where they lie from it on
fit-at : (t time next : ℕ) (os : List ObjectRecord) (ms : List PlainMessage) → AllFrom t ms → MessagesFit time next os ms → MessagesFit t next os ms
fit-at t time next os [] from h = tt
fit-at t time next os (m ∷ ms) from h = ((from.0, h.0.1, h.0.2, h.0.3, h.0.4, h.0.5, h.0.6), fit-at t time next os ms from.1 h.1)

-- the world as it is at another time
at-valid : (counts : List ℕ) (t turns : ℕ) (w : WorldRecord) → t < time_limit → turns ≤ most_turns → AllFrom t w.pending → Valid counts w → Valid counts (record w { time = t; turns = turns })
at-valid counts t turns w below few from v =
    valid-beside counts (record w { time = t; turns = turns }) w (record { time_fits = below; turns_fit = few }) v.views (fit-at t w.time w.next_number w.objects w.pending from v.messages.fit) v

pub moved-if : (counts : List ℕ) (t : ℕ) (later : Bool) (w : WorldRecord) → t < time_limit → AllFrom t w.pending → Valid counts w → Valid counts (if later then record w { time = t; turns = 0 } else w)
moved-if counts t true w below from v = at-valid counts t 0 w below (omega arith) from v
moved-if counts t false w below from v = v

pub moved-valid : (counts : List ℕ) (t : ℕ) (w : WorldRecord) → t < time_limit → AllFrom t w.pending → Valid counts w → Valid counts (at_later_time t w)
moved-valid counts t w below from v = moved-if counts t (nat_lt w.time t) w below from v

pub taken-valid : (counts : List ℕ) (w : WorldRecord) (m : PlainMessage) (rest : List PlainMessage) → w.pending ≡ m ∷ rest → Valid counts w → Valid counts (record w { pending = rest })
taken-valid counts w m rest e v =
    let order : AreInOrder (m ∷ rest) = subst AreInOrder e v.messages.order in
    let differ : NumbersDiffer (m ∷ rest) = subst NumbersDiffer e v.messages.differ in
    let fit : MessagesFit w.time w.next_number w.objects (m ∷ rest) = subst (MessagesFit w.time w.next_number w.objects) e v.messages.fit in
    let few : length (m ∷ rest) ≤ most_messages = subst (λ ms. length ms ≤ most_messages) e v.messages.few in
    let light : total_weight object_weight w.objects + total_weight message_weight (m ∷ rest) + total_weight subscription_weight w.subscriptions + total_weight known_weight w.known + saved_weight w.saved ≤ most_world_weight =
    subst (λ ms. total_weight object_weight w.objects + total_weight message_weight ms + total_weight subscription_weight w.subscriptions + total_weight known_weight w.known + saved_weight w.saved ≤ most_world_weight) e v.weight in
    let messages : ValidMessages w.time w.next_number w.objects rest = record { order = order.1; differ = differ.1; fit = fit.1; few = omega (arith, few) } in
    valid-around counts (record w { pending = rest }) w v.names v.subscriptions messages (omega (arith, light)) v

pub first-fits : (counts : List ℕ) (w : WorldRecord) (m : PlainMessage) (rest : List PlainMessage) → w.pending ≡ m ∷ rest → Valid counts w → MessageFits w.time w.next_number w.objects m
first-fits counts w m rest e v =
    let fit : MessagesFit w.time w.next_number w.objects (m ∷ rest) = subst (MessagesFit w.time w.next_number w.objects) e v.messages.fit in
    fit.0

pub rest-from : (counts : List ℕ) (w : WorldRecord) (m : PlainMessage) (rest : List PlainMessage) → w.pending ≡ m ∷ rest → Valid counts w → AllFrom m.time rest
rest-from counts w m rest e v =
    let order : AreInOrder (m ∷ rest) = subst AreInOrder e v.messages.order in
    preceded-from m rest order.0

-- where nothing is due, the time may become t
pub arrived-valid : (counts : List ℕ) (t : ℕ) (w : WorldRecord) → t < time_limit → due t w.pending ≡ None → Valid counts w → Valid counts (at_later_time t w)
arrived-valid counts t w below none v = moved-valid counts t w below (all-from t (t + 1) w.pending (omega arith) (due-none t w.pending v.messages.order none)) v
