use Rattle.std.proofs.Common.{ap}
use Rattle.std.proofs.lemmas.Result.{on_ok_weaker}
use Rattle.system_plain.specs.Steps.{reconnect_by}
use Rattle.system_core.specs.Parts.{part_worlds, plain_system}
use Rattle.system_core.proofs.PartSteps.{absent-in, member-at, reconnect-takes, unmade}
use Rattle.system_core.proofs.parts.Parts.reconnect.Goals as goal

pub returns-in_default : goal.returns-in_default
returns-in_default c =
    unmade c.args.self.now _ c.requires tt tt (ap (reconnect_by (part_worlds c.args.self.now) (plain_system c.args.self.now) c.args.how) (absent-in c.args.self.now c.args.view c.requires c.in_default.ensures))

pub connect-requires : goal.connect-requires
connect-requires c =
    (c.in-Some.ensures.0, c.in-Some.ensures.1, member-at c.args.self.now c.in-Some.place c.in-Some.ensures.0 c.requires c.in-Some.ensures.1)

pub returns : goal.returns
returns c =
    on_ok_weaker c.connect.result (reconnect-takes c.args.self.now c.connect.new.self c.args.view c.in-Some.place c.args.how c.in-Some.ensures.0 c.requires c.in-Some.ensures.1 c.in-Some.ensures.2) c.connect.ensures
