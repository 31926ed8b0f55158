use Rattle.std.proofs.lemmas.Bool.Decides.{same_from_decides}
use Rattle.world_plain.specs.World.{world_record}
use Rattle.world_plain.specs.ValidTest.{is_valid}
use Rattle.world_plain.proofs.ValidTests.{Valid-Decides}
use Rattle.world_plain.proofs.validity.valid.Goals as goal

pub returns-clause-test : goal.returns-clause-test
returns-clause-test c =
    let w = world_record c.args.world.now in
    same_from_decides c.has_valid_parts.result (is_valid c.args.counts.now w) c.has_valid_parts.ensures (Valid-Decides c.args.counts.now w)
