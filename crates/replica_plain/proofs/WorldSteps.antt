-- Which worlds follow a log, as they take its entries and ticks.
use Rattle.std.proofs.Common.{ℕ, ◌+◌, ◌≡◌, ◌≤◌, ◌<◌, Bool, true, false, List, [], ◌∷◌, ◌++◌, Some, zero, suc, slice_get, take, ap, sym, ◌∙◌, nat_le, refl, arith, cond}
use Rattle.std.proofs.lemmas.List.{append-nil}
use Rattle.std.proofs.lemmas.List.Elements.{filter-append}
use Rattle.std.proofs.lemmas.Bool.Decides.{nat_tests}
use Rattle.tea_base.specs.declared.entry.Entry.{Entry}
use Rattle.tea_base.specs.Legal.{IsLegal, IsLegalAfter, TimesRise, TimesRiseAfter}
use Rattle.tea_base.specs.Limits.{time_limit}
use Rattle.tea_base.specs.Readings.{count_until}
use Rattle.tea_base.proofs.LogLaws.{TimesRise-legal}
use Rattle.wire_frames.proofs.Times.{none_until, count_until-at, count_until-cons}
use Rattle.replica_plain.specs.Worlds.{Worlds, AreWorlds, WorldFollows, IsHonest, entries_until, externals, replay_world}

-- ---- the entries until a time

until_front_if : (early : Bool) (t : ℕ) (first : Entry) (rest : List Entry) → nat_le first.time t ≡ early → TimesRiseAfter first.time rest → entries_until t rest ≡ take (count_until rest t) rest
    → cond early (first ∷ entries_until t rest) (entries_until t rest) ≡ take (cond early 1 0 + count_until rest t) (first ∷ rest)
until_front_if true t first rest early rise front =
    let next : 1 + count_until rest t ≡ suc (count_until rest t) = omega arith in
    rw next (ap (λ entries. first ∷ entries) front)
until_front_if false t first rest early rise front =
    let none = none_until first.time t rest rise (grind (arith, nat_tests)) in
    rw (front, none) refl

-- they are the first of the log, as many as are counted
until_front : (low t : ℕ) (log : List Entry) → TimesRiseAfter low log → entries_until t log ≡ take (count_until log t) log
until_front low t [] rise = refl
until_front low t (first ∷ rest) rise =
    rw (count_until-cons first rest t) (until_front_if (nat_le first.time t) t first rest refl rise.1 (until_front first.time t rest rise.1))

take_next : {A : Type 0} (xs : List A) (k : ℕ) (x : A) → slice_get xs k ≡ Some x → take (k + 1) xs ≡ take k xs ++ x ∷ []
take_next [] k x at = absurd cc
take_next (y ∷ ys) zero x at = cc
take_next (y ∷ ys) (suc k) x at =
    let next : suc k + 1 ≡ suc (k + 1) = omega arith in
    rw next (ap (λ zs. y ∷ zs) (take_next ys k x at))

-- the next entry of the log stands behind those until a time
until_next : (log : List Entry) (t k : ℕ) (entry : Entry) → TimesRise log → count_until log t ≡ k → slice_get log k ≡ Some entry → entries_until entry.time log ≡ entries_until t log ++ entry ∷ []
until_next log t k entry rise counted at =
    rw (until_front 0 entry.time log rise, until_front 0 t log rise, count_until-at 0 log k entry rise at, counted) (take_next log k entry at)

-- two times with as many entries have the same ones
until_same : (log : List Entry) (s t : ℕ) → TimesRise log → count_until log t ≡ count_until log s → entries_until t log ≡ entries_until s log
until_same log s t rise counted = rw (until_front 0 t log rise, until_front 0 s log rise, counted) refl

-- ---- worlds until a time

externals-append : {W O : Type 0} (m : Worlds W O) (w : W) (entries : List Entry) (entry : Entry) → externals m w (entries ++ entry ∷ []) ≡ m.external (externals m w entries) entry
externals-append m w [] entry = refl
externals-append m w (first ∷ rest) entry = externals-append m (m.external w first) rest entry

-- a valid world of a time or an earlier one
record IsValidUntil {W O : Type 0} (m : Worlds W O) (t : ℕ) (w : W) : Type 0 where
  valid : m.valid w ≡ true
  within : m.time w ≤ t

externals_valid_if : {W O : Type 0} (m : Worlds W O) → AreWorlds m → (early : Bool) (w : W) (t : ℕ) (first : Entry) (rest : List Entry) → nat_le first.time t ≡ early
    → TimesRiseAfter first.time rest → IsValidUntil m t w → m.time w < first.time → first.time < time_limit
    → (m.time (m.external w first) ≡ first.time → IsValidUntil m t (m.external w first) → IsValidUntil m t (externals m (m.external w first) (entries_until t rest)))
    → IsValidUntil m t (externals m w (cond early (first ∷ entries_until t rest) (entries_until t rest)))
externals_valid_if m laws true w t first rest early rise is later bound more =
    let timed = laws.external_time w first is.valid (omega arith) in
    more timed (record { valid = laws.external_valid w first is.valid later bound; within = grind (arith, nat_tests, timed) })
externals_valid_if m laws false w t first rest early rise is later bound more =
    rw (until_front first.time t rest rise, none_until first.time t rest rise (grind (arith, nat_tests))) is

-- so is the world after the entries until then
externals_valid : {W O : Type 0} (m : Worlds W O) → AreWorlds m → (w : W) (low t : ℕ) (before log : List Entry) → IsLegalAfter before log → TimesRiseAfter low log → m.time w ≤ low → IsValidUntil m t w → IsValidUntil m t (externals m w (entries_until t log))
externals_valid m laws w low t before [] legal rise at is = is
externals_valid m laws w low t before (first ∷ rest) legal rise at is =
    externals_valid_if m laws (nat_le first.time t) w t first rest refl rise.1 is (omega (arith, rise.0)) legal.0.time_bound
    (λ now came. externals_valid m laws (m.external w first) first.time t (before ++ first ∷ []) rest legal.1 rise.1 (omega (arith, now)) came)

first_valid_until : {W O : Type 0} (m : Worlds W O) → AreWorlds m → (t : ℕ) (log : List Entry) → IsLegal log → IsValidUntil m t (externals m m.first (entries_until t log))
first_valid_until m laws t log legal =
    externals_valid m laws m.first 0 t [] log legal (TimesRise-legal log legal) (omega (arith, laws.first_time)) (record { valid = laws.first_valid; within = omega (arith, laws.first_time) })

-- ---- worlds that follow a log

pub first_follows : {W O : Type 0} (m : Worlds W O) → AreWorlds m → (log : List Entry) → IsLegal log → WorldFollows m log m.first
first_follows m laws log legal =
    let rise = TimesRise-legal log legal in
    let none : entries_until 0 log ≡ [] = until_front 0 0 log rise ∙ ap (λ (k : ℕ). take k log) (none_until 0 0 log rise (omega arith)) in
    rw laws.first_time (ap (λ entries. m.advance (externals m m.first entries) 0) (sym none))

-- the next entry is taken
pub external_follows : {W O : Type 0} (m : Worlds W O) → AreWorlds m → (log : List Entry) (w : W) (k : ℕ) (entry : Entry) → IsLegal log → m.valid w ≡ true → WorldFollows m log w
    → count_until log (m.time w) ≡ k → slice_get log k ≡ Some entry → m.time w < entry.time → WorldFollows m log (m.external w entry)
external_follows m laws log w k entry legal valid follows counted at later =
    let past = externals m m.first (entries_until (m.time w) log) in
    let is : IsValidUntil m (m.time w) past = first_valid_until m laws (m.time w) log legal in
    let bound = laws.valid_time w valid in
    let own = laws.external_after w (m.time w) entry valid (omega arith) (omega arith) bound in
    let along = ap (λ v. m.external v entry) follows in
    let other = laws.external_after past (m.time w) entry is.valid is.within (omega arith) bound in
    let entries = until_next log (m.time w) k entry (TimesRise-legal log legal) counted at in
    let same : m.external w entry ≡ externals m m.first (entries_until entry.time log) =
    sym own ∙ along ∙ other ∙ sym (externals-append m m.first (entries_until (m.time w) log) entry) ∙ ap (λ es. externals m m.first es) (sym entries) in
    rw (laws.external_time w entry valid (omega arith)) (ap (λ v. m.advance v entry.time) same)

-- a tick before the next entry is taken
pub advance_follows : {W O : Type 0} (m : Worlds W O) → AreWorlds m → (log : List Entry) (w : W) (t : ℕ) → IsLegal log → t < time_limit → m.valid w ≡ true → WorldFollows m log w
    → m.time w ≤ t → count_until log t ≡ count_until log (m.time w) → WorldFollows m log (m.advance w t)
advance_follows m laws log w t legal below valid follows le counted =
    let past = externals m m.first (entries_until (m.time w) log) in
    let is : IsValidUntil m (m.time w) past = first_valid_until m laws (m.time w) log legal in
    let bound = laws.valid_time w valid in
    let own = laws.advance_again w t t valid le (omega arith) below in
    let along = laws.advance_again w (m.time w) t valid (omega arith) le bound in
    let other = laws.advance_again past (m.time w) t is.valid is.within le bound in
    let same : m.advance (m.advance w t) t ≡ m.advance past t = own ∙ sym along ∙ ap (λ v. m.advance v t) follows ∙ other in
    let entries = until_same log (m.time w) t (TimesRise-legal log legal) counted in
    rw (laws.advance_time w t valid le) (same ∙ ap (λ es. m.advance (externals m m.first es) t) (sym entries))

-- later entries change nothing for it
until-append : (bound t : ℕ) (log rest : List Entry) → TimesRiseAfter bound rest → t ≤ bound → entries_until t (log ++ rest) ≡ entries_until t log
until-append bound t log rest rise le =
    let none : entries_until t rest ≡ [] = until_front bound t rest rise ∙ ap (λ (k : ℕ). take k rest) (none_until bound t rest rise le) in
    filter-append (λ (e : Entry). nat_le e.time t) log rest ∙ ap (λ es. entries_until t log ++ es) none ∙ append-nil (entries_until t log)

pub WorldFollows-append : {W O : Type 0} (m : Worlds W O) (log rest : List Entry) (bound : ℕ) (w : W) → TimesRiseAfter bound rest → m.time w ≤ bound → WorldFollows m log w → WorldFollows m (log ++ rest) w
WorldFollows-append m log rest bound w rise le follows = follows ∙ ap (λ es. m.advance (externals m m.first es) (m.time w)) (sym (until-append bound (m.time w) log rest rise le))

pub IsHonest-append : {W O : Type 0} (m : Worlds W O) (log rest : List Entry) (bound time : ℕ) (bytes : List ℕ) → TimesRiseAfter bound rest → time ≤ bound → IsHonest m log time bytes → IsHonest m (log ++ rest) time bytes
IsHonest-append m log rest bound time bytes rise le honest =
    record { world = honest.world; spelled = honest.spelled; timed = honest.timed; follows = WorldFollows-append m log rest bound honest.world rise (omega (arith, honest.timed)) honest.follows }

-- a world at rest is the replay to its time
pub rest_is_replay : {W O : Type 0} (m : Worlds W O) → AreWorlds m → (log : List Entry) (w : W) → m.valid w ≡ true → WorldFollows m log w → m.at_rest w ≡ true → w ≡ replay_world m log (m.time w)
rest_is_replay m laws log w valid follows rests = sym (laws.at_rest_stays w valid rests) ∙ follows
