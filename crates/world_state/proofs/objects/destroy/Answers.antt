use Rattle.std.proofs.Common.{◌≡◌, ℕ, true, sym, ap₂, ◌∙◌, refl}
use Rattle.model_value.specs.Plain.{PlainValue, nil}
use Rattle.world_state.specs.Running.{Running, Gives, with_world}
use Rattle.world_state.specs.Objects.{destroy, is_held, without_object}
use Rattle.world_state.specs.Answer.{running}
use Rattle.world_state.proofs.PlainLaws.{plain-Nil}
use Rattle.world_state.proofs.objects.destroy.Goals as goal

there : (id : ℕ) (r : Running) → is_held id r.world ≡ true → destroy id r ≡ Gives nil (with_world r (without_object id r.world))
there id r held = rw held refl

pub returns : goal.returns
returns c = λ budget.
    there c.args.id (running c.args.state.now budget) (sym c.is_held.ensures ∙ c.if-not-is_held.false)
    ∙ ap₂ (λ (v : PlainValue) (r : Running). Gives v r) (sym plain-Nil) (sym (c.take_away.ensures budget))
