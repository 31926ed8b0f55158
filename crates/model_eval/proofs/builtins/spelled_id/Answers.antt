use Rattle.std.proofs.Common.{◌≤◌, length, ap, sym, ◌∙◌, arith}
use Rattle.model_value.specs.Plain.{PlainValue, text}
use Rattle.model_value.proofs.Plains.{plain-Text}
use Rattle.world_state.specs.Running.{Gives}
use Rattle.world_state.specs.Answer.{running}
use Rattle.model_eval.proofs.ValueBounds.{digits-given}
use Rattle.model_eval.proofs.builtins.spelled_id.Goals as goal

pub returns : goal.returns
returns c = λ budget.
    let id = c.args.state.now.id.0 in
    let r = running c.args.state.now budget in
    let long : length id ≤ 32 = omega (arith, c.session_text.ensures.bytes) in
    digits-given id r long ∙ ap (λ (v : PlainValue). Gives v r) (ap text (sym c.in_ok-session_text.ensures.digits) ∙ sym (plain-Text c.in_ok-session_text.field-0))
