use Rattle.std.proofs.Common.{arith, string_bytes}
use Rattle.world_lines.proofs.LineTexts.{fields_end}
use Rattle.world_lines.proofs.lines.push_fields.Goals as goal

pub returns : goal.returns
returns c = fields_end c.args.names.now c.args.values.now c.loop-i.i (string_bytes c.loop-i.line) _ (omega arith) c.loop-i.invariant
