use Rattle.std.proofs.Common.{sym, ◌∙◌}
use Rattle.live_view.specs.View.{live_state}
use Rattle.live_shell.proofs.Turns.{link_no_input, over_no_input}
use Rattle.live_shell.proofs.run.wants_input.Goals as goal

pub returns-in-Input : goal.returns-in-Input
returns-in-Input c address = sym (c.wanted.ensures address) ∙ c.in-Input.is

pub returns-in-Link : goal.returns-in-Link
returns-in-Link c address = link_no_input (live_state address c.args.view.now).phase c.wanted.result (c.wanted.ensures address) c.in-Link.is

pub returns-in-Over : goal.returns-in-Over
returns-in-Over c address = over_no_input (live_state address c.args.view.now).phase c.wanted.result c.in-Over.field-0 (c.wanted.ensures address) c.in-Over.is
