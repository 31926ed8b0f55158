use Rattle.std.proofs.Common.{◌≡◌, ℕ, List, IfOk, subst}
use Rattle.live_view.specs.declared.machine.LiveView.{LiveView}
use Rattle.live_view.specs.Live.{live_step}
use Rattle.live_view.specs.View.{live_state, told_by}
use Rattle.croquet_page.proofs.living.Living.step.Goals as goal

pub returns-clause-ok : goal.returns-clause-ok
returns-clause-ok c =
    subst (λ (old : LiveView). (address : List ℕ) → IfOk c.step.result (λ out. told_by address out c.step.new.self ≡ live_step (live_state address old) c.args.input.now)) c.self.view_is c.step.ensures.ok
