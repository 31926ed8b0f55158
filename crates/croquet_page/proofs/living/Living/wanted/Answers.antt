use Rattle.std.proofs.Common.{ap, ◌∙◌}
use Rattle.live_view.specs.declared.machine.LiveView.{LiveView}
use Rattle.live_view.specs.Live.{wanted}
use Rattle.live_view.specs.View.{live_state}
use Rattle.croquet_page.proofs.living.Living.wanted.Goals as goal

pub returns : goal.returns
returns c address = c.wanted.ensures address ∙ ap (λ (v : LiveView). wanted (live_state address v).phase) c.self.view_is
