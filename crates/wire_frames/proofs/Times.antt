-- Which entries of a legal log stand at and before a time.
use Rattle.std.proofs.Common.{ℕ, ◌+◌, ◌≡◌, ◌≤◌, ◌<◌, cond, List, [], ◌∷◌, ◌++◌, Some, length, zero, suc, slice_get, take, nat_le, refl, arith, subst, sym}
use Rattle.std.proofs.lemmas.List.{append-nil, append_assoc}
use Rattle.std.proofs.lemmas.List.Sums.{sum_by-cons, sum_by-append}
use Rattle.std.proofs.lemmas.Bool.Decides.{nat_tests}
use Rattle.tea_base.specs.declared.entry.Entry.{Entry}
use Rattle.tea_base.specs.Readings.{count_until, last_time}
use Rattle.tea_base.specs.Legal.{IsLegal, IsLegalAfter, MayFollow, TimesRiseAfter}

-- ---- an entry at a place

MayFollow-at_after : (before log : List Entry) (k : ℕ) (entry : Entry) → IsLegalAfter before log → slice_get log k ≡ Some entry → MayFollow (before ++ take k log) entry
MayFollow-at_after before [] k entry legal at = absurd cc
MayFollow-at_after before (first ∷ rest) zero entry legal at =
    let same : first ≡ entry = cc in
    subst (λ (e : Entry). MayFollow (before ++ []) e) same (rw append-nil legal.0)
MayFollow-at_after before (first ∷ rest) (suc k) entry legal at =
    rw append_assoc at (MayFollow-at_after (before ++ first ∷ []) rest k entry legal.1 at)

-- it may follow those before it
pub MayFollow-at : (log : List Entry) (k : ℕ) (entry : Entry) → IsLegal log → slice_get log k ≡ Some entry → MayFollow (take k log) entry
MayFollow-at log k entry legal at = MayFollow-at_after [] log k entry legal at

length-take_at : {A : Type 0} (xs : List A) (k : ℕ) (x : A) → slice_get xs k ≡ Some x → length (take k xs) ≡ k
length-take_at [] k x at = absurd cc
length-take_at (y ∷ ys) zero x at = refl
length-take_at (y ∷ ys) (suc k) x at = omega (arith, length-take_at ys k x at)

-- its seq is its place, counted from 1
pub seq_at : (log : List Entry) (k : ℕ) (entry : Entry) → IsLegal log → slice_get log k ≡ Some entry → entry.seq ≡ k + 1
seq_at log k entry legal at = omega (arith, (MayFollow-at log k entry legal at).seq, length-take_at log k entry at)

-- it is later than what its log is later than
pub later_at : (low : ℕ) (log : List Entry) (k : ℕ) (entry : Entry) → TimesRiseAfter low log → slice_get log k ≡ Some entry → low < entry.time
later_at low [] k entry rise at = absurd cc
later_at low (first ∷ rest) zero entry rise at = let same : first ≡ entry = cc in subst (λ (e : Entry). low < e.time) same rise.0
later_at low (first ∷ rest) (suc k) entry rise at = omega (arith, rise.0, later_at first.time rest k entry rise.1 at)

-- ---- counts

pub count_until-cons : (first : Entry) (rest : List Entry) (t : ℕ) → count_until (first ∷ rest) t ≡ cond (nat_le first.time t) 1 0 + count_until rest t
count_until-cons first rest t = sum_by-cons (λ (e : Entry). cond (nat_le e.time t) 1 0) first rest

pub count_until-append : (log rest : List Entry) (t : ℕ) → count_until (log ++ rest) t ≡ count_until log t + count_until rest t
count_until-append log rest t = sum_by-append (λ (e : Entry). cond (nat_le e.time t) 1 0) log rest

-- none is counted until a time that all are later than
pub none_until : (low t : ℕ) (log : List Entry) → TimesRiseAfter low log → t ≤ low → count_until log t ≡ 0
none_until low t [] rise le = refl
none_until low t (first ∷ rest) rise le = grind (arith, nat_tests, rise.0, none_until first.time t rest rise.1 (omega (arith, rise.0)))

pub count_until-grows : (s t : ℕ) (log : List Entry) → s ≤ t → count_until log s ≤ count_until log t
count_until-grows s t [] le = omega arith
count_until-grows s t (first ∷ rest) le = rw (count_until-cons first rest s, count_until-cons first rest t) (grind (arith, nat_tests, count_until-grows s t rest le))

-- until its own time, an entry and those before it are counted
pub count_until-at : (low : ℕ) (log : List Entry) (k : ℕ) (entry : Entry) → TimesRiseAfter low log → slice_get log k ≡ Some entry → count_until log entry.time ≡ k + 1
count_until-at low [] k entry rise at = absurd cc
count_until-at low (first ∷ rest) zero entry rise at =
    let same : first ≡ entry = cc in
    subst (λ (e : Entry). count_until (first ∷ rest) e.time ≡ 1) same (rw (count_until-cons first rest first.time, none_until first.time first.time rest rise.1 (omega arith)) (grind (arith, nat_tests)))
count_until-at low (first ∷ rest) (suc k) entry rise at =
    let later = later_at first.time rest k entry rise.1 at in
    let more = count_until-at first.time rest k entry rise.1 at in
    rw (count_until-cons first rest entry.time) (grind (arith, nat_tests))

-- until an earlier time, at most those before it
pub count_until-before : (low t : ℕ) (log : List Entry) (k : ℕ) (entry : Entry) → TimesRiseAfter low log → slice_get log k ≡ Some entry → t < entry.time → count_until log t ≤ k
count_until-before low t [] k entry rise at before = absurd cc
count_until-before low t (first ∷ rest) zero entry rise at before =
    let same : first ≡ entry = cc in
    let early : t < first.time = subst (λ (e : Entry). t < e.time) (sym same) before in
    rw (count_until-cons first rest t, none_until first.time t rest rise.1 (omega arith)) (grind (arith, nat_tests))
count_until-before low t (first ∷ rest) (suc k) entry rise at before =
    let more = count_until-before first.time t rest k entry rise.1 at before in
    rw (count_until-cons first rest t) (grind (arith, nat_tests))

-- an entry that is not counted is later
pub later_than_counted : (low t : ℕ) (log : List Entry) (k : ℕ) (entry : Entry) → TimesRiseAfter low log → slice_get log k ≡ Some entry → count_until log t ≤ k → t < entry.time
later_than_counted low t log k entry rise at few =
    let all = count_until-at low log k entry rise at in
    let grows : entry.time ≤ t → count_until log entry.time ≤ count_until log t = count_until-grows entry.time t log in
    grind arith

-- and one that is counted is not
pub counted_is_early : (low t : ℕ) (log : List Entry) (k : ℕ) (entry : Entry) → TimesRiseAfter low log → slice_get log k ≡ Some entry → k < count_until log t → entry.time ≤ t
counted_is_early low t log k entry rise at many =
    let before : t < entry.time → count_until log t ≤ k = count_until-before low t log k entry rise at in
    grind arith

-- later entries change no count until an earlier time
pub count_until-append_later : (bound t : ℕ) (log rest : List Entry) → TimesRiseAfter bound rest → t ≤ bound → count_until (log ++ rest) t ≡ count_until log t
count_until-append_later bound t log rest rise le = omega (arith, count_until-append log rest t, none_until bound t rest rise le)

-- no entry is later than the last one
pub early_as_last : (low : ℕ) (log : List Entry) (k : ℕ) (entry : Entry) → TimesRiseAfter low log → slice_get log k ≡ Some entry → entry.time ≤ last_time log
early_as_last low [] k entry rise at = absurd cc
early_as_last low (first ∷ []) zero entry rise at = let same : first ≡ entry = cc in subst (λ (e : Entry). e.time ≤ first.time) same (omega arith)
early_as_last low (first ∷ []) (suc k) entry rise at = absurd cc
early_as_last low (first ∷ second ∷ rest) zero entry rise at =
    let same : first ≡ entry = cc in
    subst (λ (e : Entry). e.time ≤ last_time (first ∷ second ∷ rest)) same (omega (arith, rise.1.0, early_as_last first.time (second ∷ rest) zero second rise.1 refl))
early_as_last low (first ∷ second ∷ rest) (suc k) entry rise at = early_as_last first.time (second ∷ rest) k entry rise.1 at

-- until its time and later, all are counted
pub all_until : (low t : ℕ) (log : List Entry) → TimesRiseAfter low log → last_time log ≤ t → count_until log t ≡ length log
all_until low t [] rise le = refl
all_until low t (first ∷ []) rise le = rw (count_until-cons first [] t) (grind (arith, nat_tests))
all_until low t (first ∷ second ∷ rest) rise le =
    let second_is = early_as_last first.time (second ∷ rest) zero second rise.1 refl in
    let more = all_until first.time t (second ∷ rest) rise.1 le in
    let step = rise.1.0 in
    rw (count_until-cons first (second ∷ rest) t) (grind (arith, nat_tests))
