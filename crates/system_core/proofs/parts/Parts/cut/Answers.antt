use Rattle.std.proofs.Common.{refl}
use Rattle.system_core.proofs.PartTakes.{counted-past, counted-within}
use Rattle.system_core.proofs.PartTurns.{cut-past, cut-takes}
use Rattle.system_core.proofs.parts.Parts.cut.Goals as goal

pub returns-then-number-len : goal.returns-then-number-len
returns-then-number-len c =
    cut-past c.args.self.now c.args.connection c.args.up c.args.down c.requires (counted-past c.args.self.now.connections c.len.ensures c.if-number-len.true)

pub returns : goal.returns
returns c =
    cut-takes c.args.self.now _ c.args.connection c.args.up c.args.down c.index_mut.result.now c.cut.new.self c.requires (counted-within c.args.self.now.connections c.len.ensures c.if-number-len.false) c.index_mut.ensures.value c.cut.ensures refl refl refl refl refl
