use Rattle.std.proofs.Common.{◌++◌, ℕ, List, ap, ◌∙◌, decimal}
use Rattle.command_outcome.proofs.Numbered.{named}
use Rattle.command_outcome.proofs.outcome.numbered_name.Goals as goal

pub returns : goal.returns
returns c =
    named c.args.prefix.now c.copy.result c.as_str-2.result.now c.args.number c.ranges.number.fits c.copy.ensures.ok
    (c.as_str-2.ensures.value ∙ c.in_ok-write.ensures.bytes ∙ ap (λ (front : List ℕ). front ++ decimal c.args.number) (c.in_ok-name.ensures.ok ∙ c.as_str.ensures))
