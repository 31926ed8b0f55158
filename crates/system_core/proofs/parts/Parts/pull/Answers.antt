use Rattle.std.proofs.Common.{refl}
use Rattle.std.proofs.lemmas.Result.{on_ok_weaker}
use Rattle.system_core.proofs.PartTakes.{counted-past, counted-within}
use Rattle.system_core.proofs.PartTurns.{pull-past, pull-takes}
use Rattle.system_core.proofs.parts.Parts.pull.Goals as goal

pub returns-then-number-len : goal.returns-then-number-len
returns-then-number-len c =
    pull-past c.args.self.now c.args.connection c.requires (counted-past c.args.self.now.connections c.len.ensures c.if-number-len.true)

pub returns : goal.returns
returns c =
    on_ok_weaker c.pull.result
    (λ is_turn. pull-takes c.args.self.now _ c.args.connection c.index_mut.result.now c.pull.new.self c.pull.new.session.plain c.requires (counted-within c.args.self.now.connections c.len.ensures c.if-number-len.false) c.index_mut.ensures.value is_turn refl refl refl refl refl)
    c.pull.ensures
