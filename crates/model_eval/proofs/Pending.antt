-- What one more message keeps of the pending ones.
use Rattle.std.proofs.Common.{◌≡◌, ℕ, ◌+◌, ◌*◌, ◌≤◌, ◌<◌, ℤ, pos, negsuc, List, [], ◌∷◌, length, Some, None, nat_lt, nat_le, refl, ap, ◌∙◌, arith, if◌then◌else◌, encode_utf8_all, encode_utf8, length-append}
use Rattle.std.proofs.lemmas.Bool.{ltb-true, lt-leb}
use Rattle.std.proofs.lemmas.Str.{length-encode, len_utf8_bounds}
use Rattle.world_plain.specs.World.{ObjectRecord}
use Rattle.world_plain.specs.Messages.{PlainMessage}
use Rattle.model_value.specs.Plain.{TextFits}
use Rattle.world_plain.specs.Valid.{IsUnused, MessageFits, MessagesFit}
use Rattle.tea_base.specs.Limits.{time_limit}
use Rattle.model_tree.specs.Tree.{Name}
use Rattle.model_tree.specs.Names.{IsShortName}
use Rattle.model_eval.specs.Kept.{count_due}
pub use Rattle.message_queue.proofs.Order.{if_either, AreInOrder-inserted, NumbersDiffer-inserted, length-inserted, total-inserted}
use Rattle.message_queue.specs.Queue.{insert_in_order}
use Rattle.world_plain.specs.ValidTest.{is_due_before}
use Rattle.model_eval.specs.Futures.{ahead}
use Rattle.model_eval.proofs.FieldBounds.{StillHeld}

-- a world's next number is new
pub next_number-unused : (time next : ℕ) (os : List ObjectRecord) (ns : List PlainMessage) → MessagesFit time next os ns → IsUnused next ns
next_number-unused time next os [] h = tt
next_number-unused time next os (n ∷ ns) h = let below : n.number < next = h.0.2 in (λ e. omega arith, next_number-unused time next os ns h.1)

-- ---- what fits

pub MessagesFit-inserted : (time next : ℕ) (os : List ObjectRecord) (m : PlainMessage) (ns : List PlainMessage) → MessageFits time next os m → MessagesFit time next os ns → MessagesFit time next os (insert_in_order m ns)
MessagesFit-inserted time next os m [] h g = (h, tt)
MessagesFit-inserted time next os m (n ∷ ns) h g =
    if_either (MessagesFit time next os) (is_due_before m n) (m ∷ n ∷ ns) (n ∷ insert_in_order m ns) (λ _. (h, g)) (λ _. (g.0, MessagesFit-inserted time next os m ns h g.1))

-- the same messages where more numbers are used, and the objects are still held
pub MessagesFit-later : (time next later : ℕ) (os ps : List ObjectRecord) (ms : List PlainMessage) → next ≤ later → StillHeld os ps → MessagesFit time next os ms → MessagesFit time later ps ms
MessagesFit-later time next later os ps [] n held h = tt
MessagesFit-later time next later os ps (m ∷ ms) n held h =
    let below : m.number < next = h.0.2 in
    ((h.0.0, h.0.1, omega arith, held m.object h.0.3, h.0.4, h.0.5, h.0.6), MessagesFit-later time next later os ps ms n held h.1)

-- ---- counts and weights

pub due-inserted : (time : ℕ) (m : PlainMessage) (ns : List PlainMessage) → count_due time (insert_in_order m ns) ≡ (if nat_le m.time time then 1 else 0) + count_due time ns
due-inserted time m [] = refl
due-inserted time m (n ∷ ns) =
    if_either (λ l. count_due time l ≡ (if nat_le m.time time then 1 else 0) + count_due time (n ∷ ns)) (is_due_before m n) (m ∷ n ∷ ns) (n ∷ insert_in_order m ns) (λ _. refl) (λ _. omega (arith, due-inserted time m ns))

-- a message that is not due yet adds nothing to those that are
pub due-later : (time : ℕ) (m : PlainMessage) (ns : List PlainMessage) → time < m.time → count_due time (insert_in_order m ns) ≡ count_due time ns
due-later time m ns h = due-inserted time m ns ∙ ap (λ b. (if b then 1 else 0) + count_due time ns) (lt-leb m.time time h) ∙ omega arith

-- ---- names and times

pub encoded-length : (cs : List ℕ) → length (encode_utf8_all cs) ≤ 4 * length cs
encoded-length [] = omega arith
encoded-length (c ∷ cs) = omega (arith, length-append (encode_utf8 c) (encode_utf8_all cs), length-encode c, len_utf8_bounds c, encoded-length cs)

pub short-fits : (x : Name) → IsShortName x → TextFits x
short-fits x h = omega (arith, encoded-length x)

-- a time that lies ahead is to come, and below the limit
pub ahead-is : (now : ℕ) (delay : ℤ) (time : ℕ) → ahead now delay ≡ Some time → (now ≤ time) × (time < time_limit)
ahead-is now (pos n) time =
    if_either (λ t. t ≡ Some time → (now ≤ time) × (time < time_limit)) (nat_lt (now + 1000 * n) time_limit) (Some (now + 1000 * n)) None
    (λ e h. let same : now + 1000 * n ≡ time = cc in let below : now + 1000 * n < time_limit = ltb-true (now + 1000 * n) time_limit e in (omega arith, omega arith))
    (λ e h. absurd cc)
ahead-is now (negsuc n) time = λ h. absurd cc
