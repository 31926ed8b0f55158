-- What is left of a drill, once its session is closed.
use Rattle.std.proofs.Common.{◌≡◌, ℕ, zero, suc, ◌+◌, ◌≤◌, ◌<◌, Bool, false, List, [], ◌∷◌, slice_index, All, ne_eqb, refl, sym, ap, ◌∙◌, subst, arith}
use mathlib.Core.Logic.{dite}
use native.Mathlib.Decide.{ℕ_discrete}
use Rattle.std.specs.List.{AllByRecursion}
use Rattle.std.proofs.lemmas.List.Elements.{recursion_from_All}
use Rattle.reflector_core.specs.PlainSession.{PlainSession}
use Rattle.reflector_core.specs.Play.{first_session}
use Rattle.session_lock.specs.declared.knowledge.Item.{Item}
use Rattle.session_lock.specs.History.{IsSoundThrough, Saw, calls_of, has, play}
use Rattle.session_lock.specs.Passes.{PassState, SharedState, own_calls}
use Rattle.session_lock.proofs.Histories.{none_among, saw_own}
use Rattle.connection.specs.Exchanges.{exchanges_in}
use Rattle.connection.proofs.Callers.{exchanges_same}
use Rattle.drill.specs.declared.finished.Finished.{Finished}
use Rattle.drill.specs.declared.size.Size.{Size}
use Rattle.drill.specs.declared.trust.TrustReplay.{TrustReplay}
use Rattle.drill.specs.Asking.{IsAskedInDrill, IsDrillHistory, entries_used_by, most_asked}
use Rattle.drill.specs.Doing.{HasFinished}
use Rattle.drill.specs.Drilled.{Drilled, IsOfDrill, own}
use Rattle.drill.specs.Drilling.{GathersWorkers, numbers_from, views_of}
use Rattle.drill.specs.Sizes.{IsOfSize}
use Rattle.drill.specs.Turns.{HasEnded}
use Rattle.drill.specs.ViewCalls.{AreCallsOf}
use Rattle.drill.proofs.Callers.{EachAsks, drill_history}
use Rattle.drill.proofs.Drills.{drilled}
use Rattle.drill.proofs.Histories.{history_first}
use Rattle.drill.proofs.Wholes.{IsDoneIn, done_in}

-- ---- who calls

not_among : (n first count : ℕ) → ((first ≤ n) × (n < first + count) → ⊥) → has n (numbers_from first count) ≡ false
not_among n first zero other = refl
not_among n first (suc count) other =
    rw (ne_eqb n first (λ same. other (omega (arith, same), omega (arith, same)))) (not_among n (first + 1) count (λ within. other (omega (arith, within.0), omega (arith, within.1))))

-- ---- lists by their views

abbrev others_of : List ℕ → List ℕ
others_of [] = []
others_of (n ∷ ns) = ns

pub first_view : (one : Finished) (rest : List Finished) (first count : ℕ) → views_of (one ∷ rest) ≡ numbers_from first (suc count) → one.worker.view ≡ first
first_view one rest first count views = ap (λ (ns : List ℕ). slice_index ns 0) views

pub rest_views : (one : Finished) (rest : List Finished) (first count : ℕ) → views_of (one ∷ rest) ≡ numbers_from first (suc count) → views_of rest ≡ numbers_from (first + 1) count
rest_views one rest first count views = ap others_of views

-- the one of this view
of_view : (P : Finished → Type 0) (ended : List Finished) (first count view : ℕ) → views_of ended ≡ numbers_from first count → AllByRecursion P ended → first ≤ view → view < first + count
    → (one : Finished) × (one.worker.view ≡ view) × P one
of_view P [] first zero view views all low high = absurd (omega (arith, low, high))
of_view P [] first (suc count) view views all low high = absurd (cc (views))
of_view P (one ∷ rest) first zero view views all low high = absurd (cc (views))
of_view P (one ∷ rest) first (suc count) view views all low high = dite (ℕ_discrete first view)
    (λ is. (one, first_view one rest first count views ∙ is, all.0))
    (λ other. of_view P rest (first + 1) count view (rest_views one rest first count views) all.1 (omega (arith, low, other)) (omega (arith, high)))

all_both : (P Q : Finished → Type 0) (xs : List Finished) → AllByRecursion P xs → AllByRecursion Q xs → AllByRecursion (λ x. P x × Q x) xs
all_both P Q [] p q = tt
all_both P Q (x ∷ xs) p q = ((p.0, q.0), all_both P Q xs p.1 q.1)

all_weaker : (P Q : Finished → Type 0) → ((x : Finished) → P x → Q x) → (xs : List Finished) → AllByRecursion P xs → AllByRecursion Q xs
all_weaker P Q so [] all = tt
all_weaker P Q so (x ∷ xs) all = (so x all.0, all_weaker P Q so xs all.1)

-- ---- the closed session

-- those that have ended, the pass that theirs were merged into, and the session that it closed
pub record IsClosed (gives : ℕ → Type 0) (size : Size) (shared : SharedState TrustReplay) (ended : List Finished) (keeper : PassState) (s : PlainSession) : Type 0 where
  pub fits : IsOfSize size
  pub each : All (HasEnded gives size shared) ended
  pub views : views_of ended ≡ numbers_from 1 size.views
  pub gathers : GathersWorkers shared ended keeper
  pub plays : s ≡ play keeper.seen
  pub calls : own_calls keeper ≡ keeper.seen
  pub sound : IsSoundThrough first_session keeper.seen

-- one that has ended, by its own history and by the whole one
pub record HasLeft (gives : ℕ → Type 0) (size : Size) (shared : SharedState TrustReplay) (s : PlainSession) (one : Finished) : Type 0 where
  pub ended : HasEnded gives size shared one
  pub done : IsDoneIn size s one

module _ (gives : ℕ → Type 0) (size : Size) (shared : SharedState TrustReplay) (ended : List Finished) (keeper : PassState) (s : PlainSession) (closed : IsClosed gives size shared ended keeper s) where
  abbrev IsSeen : Finished → Type 0
  IsSeen one = HasEnded gives size shared one × Saw (one.worker.view ∷ []) one.worker.pass.seen keeper.seen

  seen : AllByRecursion IsSeen ended
  seen = all_both (HasEnded gives size shared) (λ one. Saw (one.worker.view ∷ []) one.worker.pass.seen keeper.seen) ended (recursion_from_All (HasEnded gives size shared) ended closed.each) closed.gathers.saw

  found : (view : ℕ) → IsOfDrill size.views view → (one : Finished) × (one.worker.view ≡ view) × IsSeen one
  found view of = of_view IsSeen ended 1 size.views view closed.views seen of.0 (omega (arith, of.1))

  own_of : (view : ℕ) (one : Finished) → one.worker.view ≡ view → IsSeen one → calls_of (view ∷ []) keeper.seen ≡ own_calls one.worker.pass
  own_of view one is saw =
      ap (λ (n : ℕ). calls_of (n ∷ []) keeper.seen) (sym is)
      ∙ saw_own (one.worker.view ∷ []) one.worker.pass.seen keeper.seen saw.1
      ∙ ap (λ (ns : List ℕ). calls_of ns one.worker.pass.seen) (sym saw.0.worker.callers)

  nobody_else : (caller : ℕ) → (IsOfDrill size.views caller → ⊥) → calls_of (caller ∷ []) keeper.seen ≡ []
  nobody_else caller other = dite (ℕ_discrete caller 0)
      (λ same. ap (λ (n : ℕ). calls_of (n ∷ []) keeper.seen) same ∙ closed.gathers.idle)
      (λ some.
      let away : has caller (numbers_from 1 size.views) ≡ false = not_among caller 1 size.views (λ within. other (within.0, omega (arith, within.1))) in
      let out : has caller (0 ∷ views_of ended) ≡ false = rw (ne_eqb caller 0 some) (ap (has caller) closed.views ∙ away) in
      ap (calls_of (caller ∷ [])) (sym closed.calls) ∙ none_among keeper.callers caller keeper.seen (ap (has caller) closed.gathers.callers ∙ out))

  asks : EachAsks gives size.views size.events keeper.seen
  asks = record {
    each = λ view of. let one = found view of in subst (AllByRecursion (IsAskedInDrill gives size.views)) (sym (own_of view one.0 one.1 one.2)) one.2.0.worker.asked;
    few = λ view of. let one = found view of in subst (λ (xs : List Item). entries_used_by xs ≤ most_asked size.events) (sym (own_of view one.0 one.1 one.2)) one.2.0.few;
    others = nobody_else;
  }

  pub whole : IsDrillHistory gives size.views keeper.seen
  whole = drill_history gives size.views size.events keeper.seen closed.fits.views closed.fits.events asks

  has_left : (one : Finished) → IsSeen one → HasLeft gives size shared s one
  has_left one saw = record {
    ended = saw.0;
    done = subst (λ (t : PlainSession). IsDoneIn size t one) (sym closed.plays) (done_in gives size shared one keeper.seen saw.0 whole closed.sound saw.1);
  }

  pub all_left : AllByRecursion (HasLeft gives size shared s) ended
  all_left = all_weaker IsSeen (HasLeft gives size shared s) has_left ended seen

  finished : (view : ℕ) → IsOfDrill size.views view → HasFinished s view (own size.seed view size.events)
  finished view of =
      let one = found view of in
      let left = has_left one.0 one.2 in
      subst (λ (v : ℕ). HasFinished s v (own size.seed v size.events)) one.1 left.done.ends.finished

  -- the calls of each view are those of its worker
  pub all_called : (view : ℕ) → IsOfDrill size.views view → AreCallsOf view size.events (exchanges_in first_session keeper.seen view)
  all_called view of =
      let found_one = found view of in
      let one = found_one.0 in
      let own = one.worker.view in
      let seen = one.worker.pass.seen in
      let saw = found_one.2.1 in
      let first : IsDrillHistory gives size.views seen = history_first gives size.views seen saw.0 (subst (IsDrillHistory gives size.views) (sym saw.1) whole) in
      let same : exchanges_in first_session seen own ≡ exchanges_in first_session keeper.seen own = sym (exchanges_same first_session seen saw.0 own saw.2) ∙ ap (λ (history : List Item). exchanges_in first_session history own) saw.1 in
      subst (λ (view : ℕ). AreCallsOf view size.events (exchanges_in first_session keeper.seen view)) found_one.1 (subst (AreCallsOf own size.events) same (found_one.2.0.calls first))

  pub all_drilled : Drilled size.seed size.views size.events s.log s.horizon
  all_drilled = drilled size.seed size.views size.events s finished
