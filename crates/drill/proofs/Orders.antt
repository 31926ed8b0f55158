-- Those that have ended, in the order of their workers.
use Rattle.std.proofs.Common.{All, IfOk, IsOkAnd, Result, Ok, Err, Vec, ◌≡◌, ℕ, List, [], ◌∷◌, ◌++◌, sym, ap, ◌∙◌, subst}
use Rattle.std.proofs.lemmas.List.{map-append}
use Rattle.std.proofs.lemmas.List.Elements.{All-push}
use Rattle.session_lock.specs.Passes.{SharedState}
use Rattle.drill.specs.declared.finished.Finished.{Finished}
use Rattle.drill.specs.declared.size.Size.{Size}
use Rattle.drill.specs.declared.trust.TrustReplay.{TrustReplay}
use Rattle.drill.specs.declared.worker.Worker.{Worker}
use Rattle.drill.specs.Drilling.{AllAnswer, WorkerAnswers, HaveEnded, views_of, views_of_workers}
use Rattle.drill.specs.Turns.{HasEnded}

pub views_with_last : (workers former : List Worker) (w : Worker) (ended all : List Finished) (one : Finished) → workers ≡ former ++ w ∷ [] → all ≡ ended ++ one ∷ []
    → views_of ended ≡ views_of_workers former → one.worker.view ≡ w.view → views_of all ≡ views_of_workers workers
views_with_last workers former w ended all one is_workers is_all views view =
    ap views_of is_all ∙ map-append (λ (e : Finished). e.worker.view) ended (one ∷ [])
    ∙ ap (λ (ns : List ℕ). ns ++ one.worker.view ∷ []) views
    ∙ ap (λ (n : ℕ). views_of_workers former ++ n ∷ []) view
    ∙ sym (map-append (λ (u : Worker). u.view) former (w ∷ []))
    ∙ ap views_of_workers (sym is_workers)

pub if_ok_weaker : {A E : Type 0} (P Q : A → Type 0) (r : Result A E) → ((x : A) → P x → Q x) → IfOk r P → IfOk r Q
if_ok_weaker P Q (Ok x) so told = so x told
if_ok_weaker P Q (Err e) so told = tt

module _ (gives : ℕ → Type 0) (size : Size) (shared : SharedState TrustReplay) where
  pub all_answered : {Z E : Type 0} (workers former : List Worker) (w : Worker) (last : Result Finished E) (ended all : Result (Vec Finished Z) E) → workers ≡ former ++ w ∷ []
      → WorkerAnswers gives size shared w last → AllAnswer gives size shared former ended → IfOk all (λ v. IsOkAnd ended (λ before. IsOkAnd last (λ one. v.items ≡ before.items ++ one ∷ [])))
      → IfOk all (λ v. HaveEnded gives size shared workers v.items)
  all_answered workers former w (Ok one) (Ok before) (Ok v) is told told_before is_all = record {
    each = subst (All (HasEnded gives size shared)) (sym is_all) (All-push (HasEnded gives size shared) before.items one told_before.told.each told.told.0);
    views = views_with_last workers former w before.items v.items one is is_all told_before.told.views told.told.1;
  }
  all_answered workers former w (Err e) (Ok before) (Ok v) is told told_before is_all = absurd is_all
  all_answered workers former w last (Err e) (Ok v) is told told_before is_all = absurd is_all
  all_answered workers former w last ended (Err e) is told told_before is_all = tt
