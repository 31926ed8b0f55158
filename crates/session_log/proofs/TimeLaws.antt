-- The times of heads rise, so those until a time are the first ones.
use Rattle.std.proofs.Common.{ℕ, ◌+◌, ◌-◌, ◌≡◌, ◌≤◌, ◌<◌, Bool, true, false, cond, List, [], ◌∷◌, zero, suc, length, get_or, slice_get, Some, map, sym, ap, ◌∙◌, arith}
use Rattle.std.specs.Prelude.{nat_le}
use Rattle.std.proofs.lemmas.List.Sums.{sum_by-cons}
use Rattle.std.specs.List.Sorted.{IsNonDecreasingBy}
use Rattle.tea_base.specs.declared.entry.Entry.{Entry}
use Rattle.tea_base.specs.Readings.{count_until, last_time}
use Rattle.tea_base.specs.Legal.{TimesRiseAfter}
use Rattle.session_log.specs.declared.heads.Head.{Head}
use Rattle.session_log.specs.Heads.{entry_of}

time_above : (payloads : List ℕ) (heads : List Head) (time i : ℕ) (none : Head) → TimesRiseAfter time (map (entry_of payloads) heads) → i < length heads → time < (get_or heads i none).time
time_above payloads [] time i none rise below = absurd (omega arith)
time_above payloads (head ∷ rest) time zero none rise below = rise.0
time_above payloads (head ∷ rest) time (suc i) none rise below =
    let first = rise.0 in
    let later = time_above payloads rest head.time i none rise.1 (omega arith) in
    omega arith

pub heads_rise : (payloads : List ℕ) (heads : List Head) (time : ℕ) → TimesRiseAfter time (map (entry_of payloads) heads) → IsNonDecreasingBy (λ (head : Head). head.time) heads
heads_rise payloads [] time rise i j none le below = absurd (omega arith)
heads_rise payloads (head ∷ rest) time rise zero zero none le below = omega arith
heads_rise payloads (head ∷ rest) time rise zero (suc j) none le below =
    let later = time_above payloads rest head.time j none rise.1 (omega arith) in
    omega arith
heads_rise payloads (head ∷ rest) time rise (suc i) zero none le below = absurd (omega arith)
heads_rise payloads (head ∷ rest) time rise (suc i) (suc j) none le below = heads_rise payloads rest head.time rise.1 i j none (omega arith) (omega arith)

one_more : (entry : Entry) (log : List Entry) (time : ℕ) (until : Bool) → nat_le entry.time time ≡ until → count_until (entry ∷ log) time ≡ cond until 1 0 + count_until log time
one_more entry log time until is =
    sum_by-cons (λ (e : Entry). cond (nat_le e.time time) 1 0) entry log ∙ ap (λ (b : Bool). cond b 1 0 + count_until log time) is

-- the first ones have a time of at most this, and the others a later one
pub count_until_at : (payloads : List ℕ) (heads : List Head) (time n : ℕ) → n ≤ length heads
    → ((k : ℕ) (none : Head) → 0 ≤ k → k < n → nat_le (get_or heads k none).time time ≡ true)
    → ((k : ℕ) (none : Head) → n ≤ k → k < length heads → nat_le (get_or heads k none).time time ≡ false)
    → count_until (map (entry_of payloads) heads) time ≡ n
count_until_at payloads [] time n bound before after = omega arith
count_until_at payloads (head ∷ rest) time zero bound before after =
    let here = one_more (entry_of payloads head) (map (entry_of payloads) rest) time false (after 0 head (omega arith) (omega arith)) in
    let others = count_until_at payloads rest time zero (omega arith) (λ k none low below. absurd (omega arith)) (λ k none low below. after (suc k) none (omega arith) (omega arith)) in
    let all : cond false 1 0 + count_until (map (entry_of payloads) rest) time ≡ zero = omega arith in
    here ∙ all
count_until_at payloads (head ∷ rest) time (suc n) bound before after =
    let here = one_more (entry_of payloads head) (map (entry_of payloads) rest) time true (before 0 head (omega arith) (omega arith)) in
    let others = count_until_at payloads rest time n (omega arith) (λ k none low below. before (suc k) none (omega arith) (omega arith)) (λ k none low below. after (suc k) none (omega arith) (omega arith)) in
    let all : cond true 1 0 + count_until (map (entry_of payloads) rest) time ≡ suc n = omega arith in
    here ∙ all

-- the time of the last head is that of the last entry
pub last_time_at : (payloads : List ℕ) (heads : List Head) (head : Head) → slice_get heads (length heads - 1) ≡ Some head → head.time ≡ last_time (map (entry_of payloads) heads)
last_time_at payloads [] head at = absurd cc
last_time_at payloads (first ∷ []) head at =
    let place : length (first ∷ []) - 1 ≡ 0 = omega arith in
    let there : slice_get (first ∷ []) 0 ≡ Some head = sym (ap (slice_get (first ∷ [])) place) ∙ at in
    let is : first ≡ head = cc in
    ap (λ (h : Head). h.time) (sym is)
last_time_at payloads (first ∷ second ∷ rest) head at =
    let place : length (first ∷ second ∷ rest) - 1 ≡ suc (length (second ∷ rest) - 1) = omega arith in
    let there : slice_get (second ∷ rest) (length (second ∷ rest) - 1) ≡ Some head = sym (ap (slice_get (first ∷ second ∷ rest)) place) ∙ at in
    last_time_at payloads (second ∷ rest) head there
