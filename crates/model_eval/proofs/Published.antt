-- What publishing gives, once models were told, and the builtins that start no method.
use Rattle.std.proofs.Common.{◌≡◌, ◌∙◌, ℕ, List, Option, None, Result, Ok, Err, refl, sym, ap, subst}
use Rattle.std.specs.Prelude.{⊤}
use Rattle.std.specs.Result.{IsErrAnd}
use Rattle.model_value.specs.Plain.{PlainValue, nil}
use Rattle.model_value.specs.View.{plain}
use Rattle.model_value.specs.declared.value.Value.{Value}
use Rattle.model_value.specs.declared.value.Value.TheVariants.{Nil}
use Rattle.model_solved.specs.declared.builtin.Builtin.{Builtin}
use Rattle.model_solved.specs.declared.builtin.Builtin.TheVariants as builtin
use Rattle.model_tree.specs.Tree.{Name, ProgramTree}
use Rattle.world_state.specs.declared.fault.EvalStop.{EvalStop}
use Rattle.world_state.specs.declared.fault.EvalStop.TheVariants.{Fault, WantOfMemory}
use Rattle.world_state.specs.declared.state.State.{State}
use Rattle.world_state.specs.declared.state.Budget.{Budget}
use Rattle.world_state.specs.Running.{Running, Outcome, Gives, Faults, and_then, Start}
use Rattle.model_eval.specs.Builtins.{run_builtin, run_builtin_alone}
use Rattle.model_eval.specs.Publishing.{Notice, tell_handlers, with_outgoing, model_notice, publish}
use Rattle.model_eval.specs.declared.calls.Event.{Event}
use Rattle.model_eval.specs.Answer.{notice_of}
use Rattle.world_state.specs.Answer.{Answers, Did, running}
use Rattle.world_state.proofs.PlainLaws.{plain-Nil}

pub answered-alone : (program : ProgramTree) (start : Start) (f : Builtin) (object : ℕ) (args : List PlainValue) (r : Running) → ¬ (f ≡ builtin.Publish) → run_builtin program start f object args r ≡ run_builtin_alone f object args r
answered-alone program start builtin.Publish object args r other = absurd (other refl)
answered-alone program start f object args r other = refl

-- what is told of an event that no view sent is told as of a model
pub told_of_model : (e : Event) → e.sender ≡ None → (P : Notice → Type 0) → P (notice_of e) → P (model_notice (plain e.value.now))
told_of_model e none P h = subst (λ (sender : Option ℕ). P (record { value = plain e.value.now; sender = sender })) none h

-- behind the event that is published, s runs
published-is : (program : ProgramTree) (start : Start) (scope event : Name) (v : PlainValue) (r s : Running) (o : Outcome ⊤) → s ≡ with_outgoing scope event v r → tell_handlers program start scope event (model_notice v) s ≡ o → publish program start scope event v r ≡ and_then o (λ _. Gives nil)
published-is program start scope event v r s o e h =
    subst (λ (u : Running). and_then (tell_handlers program start scope event (model_notice v) u) (λ _. Gives nil) ≡ and_then o (λ _. Gives nil)) e (ap (λ (p : Outcome ⊤). and_then p (λ _. Gives nil)) h)

pub published-gives : (program : ProgramTree) (start : Start) (scope event : Name) (v : PlainValue) (r s t : Running) → s ≡ with_outgoing scope event v r → tell_handlers program start scope event (model_notice v) s ≡ Gives tt t → publish program start scope event v r ≡ Gives (plain Nil) t
published-gives program start scope event v r s t e h = published-is program start scope event v r s (Gives tt t) e h ∙ ap (λ (w : PlainValue). Gives w t) (sym plain-Nil)

stopped : (stop : EvalStop) (state : State) (budget : Budget) (program : ProgramTree) (start : Start) (scope event : Name) (v : PlainValue) (r s : Running)
    → s ≡ with_outgoing scope event v r → Did (Err stop) state budget (tell_handlers program start scope event (model_notice v) s) → Answers (Err stop) state budget (publish program start scope event v r)
stopped (Fault f) state budget program start scope event v r s e h = published-is program start scope event v r s (Faults f (running state budget)) e h
stopped WantOfMemory state budget program start scope event v r s e h = tt

pub published-stops : (result : Result Value EvalStop) (stop : EvalStop) (state : State) (budget : Budget) (program : ProgramTree) (start : Start) (scope event : Name) (v : PlainValue) (r s : Running)
    → IsErrAnd result (λ found. found ≡ stop) → s ≡ with_outgoing scope event v r → Did (Err stop) state budget (tell_handlers program start scope event (model_notice v) s) → Answers result state budget (publish program start scope event v r)
published-stops (Ok value) stop state budget program start scope event v r s given e h = absurd given
published-stops (Err found) stop state budget program start scope event v r s given e h =
    subst (λ (tell_handlers : EvalStop). Answers (Err tell_handlers) state budget (publish program start scope event v r)) (sym given) (stopped stop state budget program start scope event v r s e h)
