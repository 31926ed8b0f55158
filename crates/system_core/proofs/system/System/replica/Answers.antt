use Rattle.std.proofs.Common.{sym}
use Rattle.system_core.proofs.PartJoins.{replica-none, replica-some}
use Rattle.system_core.proofs.PartTakes.{placed-within}
use Rattle.system_core.proofs.system.System.replica.Goals as goal

pub returns-in_default : goal.returns-in_default
returns-in_default c = replica-none c.self.inside.parts c.self.inside.spoilt c.args.self.now c.args.view (sym c.self.view_is) (c.self.invariant c.if-self.false) c.in_default.ensures

pub index-requires : goal.index-requires
index-requires c = placed-within c.self.inside.parts.members c.in-Some.place c.args.view c.in-Some.ensures

pub returns : goal.returns
returns c =
    replica-some c.self.inside.parts c.self.inside.spoilt c.args.self.now c.in-Some.place c.args.view c.index.result.now (sym c.self.view_is) c.if-self.false (c.self.invariant c.if-self.false) c.in-Some.ensures c.index.ensures
