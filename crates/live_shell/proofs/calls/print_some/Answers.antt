use Rattle.std.proofs.Common.{sym, ◌∙◌}
use Rattle.live_shell.proofs.Sendings.{prints_none, prints_some}
use Rattle.live_shell.proofs.calls.print_some.Goals as goal

pub returns-then-is_empty : goal.returns-then-is_empty
returns-then-is_empty g c = prints_none _ c.args.text.now c.args.out.now (sym c.is_empty.ensures ∙ c.if-is_empty.true)

pub returns : goal.returns
returns g c = prints_some _ c.args.text.now _ c.args.out.now c.print_text.new.out (sym c.is_empty.ensures ∙ c.if-is_empty.false) c.print_text.ensures
