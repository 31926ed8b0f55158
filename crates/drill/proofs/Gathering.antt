-- How the passes of those that have ended are merged into the one that is kept.
use Rattle.std.proofs.Common.{◌≡◌, ℕ, Bool, true, false, eqb, ◌||◌, List, [], ◌∷◌, ◌++◌, if◌then◌else◌, ne_eqb, refl, sym, ap, ◌∙◌, subst}
use mathlib.Core.Logic.{dite}
use native.Mathlib.Decide.{ℕ_discrete}
use Rattle.std.specs.List.{AllByRecursion}
use Rattle.std.proofs.lemmas.List.{map-append}
use Rattle.session_lock.specs.declared.knowledge.Item.{Item}
use Rattle.session_lock.specs.History.{Saw, caller_of, calls_of, has}
use Rattle.session_lock.specs.Passes.{Merged, PassState, SharedState}
use Rattle.session_lock.proofs.Histories.{has_own, none_behind, saw_trans}
use Rattle.drill.specs.declared.finished.Finished.{Finished}
use Rattle.drill.specs.declared.trust.TrustReplay.{TrustReplay}
use Rattle.drill.specs.Drilling.{GathersWorkers, HasPass, keeper_after, views_of}

-- ---- callers

or_right : (a b : Bool) → b ≡ true → (a || b) ≡ true
or_right true b is = refl
or_right false b is = is

first_is_other : (b : Bool) (x : Item) (xs : List Item) → (if b then x ∷ xs else xs) ≡ [] → b ≡ false
first_is_other true x xs none = absurd cc
first_is_other false x xs none = refl

-- where these callers make no call, each of them makes none
pub none_of_each : (n : ℕ) (callers : List ℕ) (xs : List Item) → has n callers ≡ true → calls_of callers xs ≡ [] → calls_of (n ∷ []) xs ≡ []
none_of_each n callers [] own none = refl
none_of_each n callers (x ∷ xs) own none = dite (ℕ_discrete (caller_of x) n)
    (λ same.
    let yes : has (caller_of x) callers ≡ true = ap (λ (m : ℕ). has m callers) same ∙ own in
    let no : has (caller_of x) callers ≡ false = first_is_other (has (caller_of x) callers) x (calls_of callers xs) none in
    absurd (cc (yes, no)))
    (λ other. rw (ne_eqb (caller_of x) n other) (none_of_each n callers xs own (none_behind (has (caller_of x) callers) x (calls_of callers xs) none)))

saw_one : (n : ℕ) (callers : List ℕ) (seen history : List Item) → has n callers ≡ true → Saw callers seen history → Saw (n ∷ []) seen history
saw_one n callers seen history own saw = (saw.0, saw.1, none_of_each n callers saw.0 own saw.2)

-- ---- lists of those that have ended

all_push : (P : Finished → Type 0) (xs : List Finished) (x : Finished) → AllByRecursion P xs → P x → AllByRecursion P (xs ++ x ∷ [])
all_push P [] x all one = (one, tt)
all_push P (y ∷ ys) x all one = (all.0, all_push P ys x all.1 one)

-- what they have seen begins the longer history too
saw_on : (callers : List ℕ) (old new : List Item) (ended : List Finished) → Saw callers old new → ((n : ℕ) → has n (views_of ended) ≡ true → has n callers ≡ true)
    → AllByRecursion (λ one. Saw (one.worker.view ∷ []) one.worker.pass.seen old) ended → AllByRecursion (λ one. Saw (one.worker.view ∷ []) one.worker.pass.seen new) ended
saw_on callers old new [] saw among all = tt
saw_on callers old new (one ∷ rest) saw among all =
    let view = one.worker.view in
    let later : Saw (view ∷ []) old new = saw_one view callers old new (among view (has_own view (views_of rest))) saw in (
      saw_trans (view ∷ []) one.worker.pass.seen old new all.0 later,
      saw_on callers old new rest saw (λ n is. among n (or_right (eqb n view) (has n (views_of rest)) is)) all.1,
    )

-- ---- merges

module _ (shared : SharedState TrustReplay) where
  pub gathers_none : (made : ℕ) (keeper : PassState) → keeper ≡ keeper_after shared made → GathersWorkers shared [] keeper
  gathers_none made keeper is =
      subst (GathersWorkers shared []) (sym is) (record { same = refl; opening = refl; callers = refl; idle = refl; saw = tt })

  pub gathers_more : (ended : List Finished) (one : Finished) (old new : PassState) → GathersWorkers shared ended old → HasPass shared one → Merged old one.worker.pass new
      → GathersWorkers shared (ended ++ one ∷ []) new
  gathers_more ended one old new gathers has_pass merged =
      let callers : old.callers ≡ 0 ∷ views_of ended = gathers.callers in
      let first : has 0 old.callers ≡ true = ap (has 0) callers ∙ has_own 0 (views_of ended) in
      record {
        same = ap (λ (p : PassState). p.session) merged.same ∙ gathers.same;
        opening = ap (λ (p : PassState). p.opening) merged.same ∙ gathers.opening;
        callers =
            ap (λ (p : PassState). p.callers) merged.same
            ∙ ap (λ (ns : List ℕ). ns ++ one.worker.pass.callers) callers
            ∙ ap (λ (ns : List ℕ). 0 ∷ views_of ended ++ ns) has_pass.callers
            ∙ ap (λ (ns : List ℕ). 0 ∷ ns) (sym (map-append (λ (e : Finished). e.worker.view) ended (one ∷ [])));
        idle = merged.each 0 first ∙ gathers.idle;
        saw =
            all_push (λ e. Saw (e.worker.view ∷ []) e.worker.pass.seen new.seen) ended one
            (saw_on old.callers old.seen new.seen ended merged.saw (λ n is. ap (has n) callers ∙ or_right (eqb n 0) (has n (views_of ended)) is) gathers.saw)
            (subst (λ (ns : List ℕ). Saw ns one.worker.pass.seen new.seen) has_pass.callers merged.saw_other);
      }
