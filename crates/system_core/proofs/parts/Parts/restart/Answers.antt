use Rattle.std.proofs.Common.{refl, subst, ap}
use Rattle.std.specs.Vec.{with_item}
use Rattle.std.proofs.lemmas.Result.{on_ok_weaker}
use Rattle.system_plain.specs.Steps.{restart_by}
use Rattle.replica_plain.specs.declared.how.How.{How}
use Rattle.system_core.specs.declared.parts.Parts.{Parts}
use Rattle.system_core.specs.Parts.{Connects, part_worlds, plain_system}
use Rattle.system_core.proofs.PartSteps.{absent-in, restart-takes, unmade}
use Rattle.system_core.proofs.PartJoins.{lost-has, lost-members}
use Rattle.system_core.proofs.PartTakes.{read-member}
use Rattle.system_core.proofs.parts.Parts.restart.Goals as goal

pub returns-in_default : goal.returns-in_default
returns-in_default c =
    unmade c.args.self.now _ c.requires tt tt (ap (restart_by (part_worlds c.args.self.now) (plain_system c.args.self.now) c.args.how) (absent-in c.args.self.now c.args.view c.requires c.in_default.ensures))

pub connect-requires : goal.connect-requires
connect-requires c =
    let lost : Parts =
    record c.args.self.now { members = with_item c.args.self.now.members c.in-Some.place (record { view = c.index_mut.result.now.view; replica = c.lose.new.self; newest = c.index_mut.result.now.newest }) } in
    let members = lost-members c.args.self.now lost.members.items c.in-Some.place c.args.view c.index_mut.result.now c.lose.new.self c.requires c.in-Some.ensures c.index_mut.ensures.value c.in_ok-lose.ensures.ok refl in
    lost-has c.args.self.now lost c.in-Some.place c.args.view c.index_mut.result.now c.requires c.in-Some.ensures c.index_mut.ensures.value refl refl members

pub returns : goal.returns
returns c =
    let lost : Parts =
    record c.args.self.now { members = with_item c.args.self.now.members c.in-Some.place (record { view = c.index_mut.result.now.view; replica = c.lose.new.self; newest = c.index_mut.result.now.newest }) } in
    let found = read-member c.args.self.now.members.items c.in-Some.place c.args.view c.index_mut.result.now c.in-Some.ensures c.index_mut.ensures.value in
    let members = lost-members c.args.self.now lost.members.items c.in-Some.place c.args.view c.index_mut.result.now c.lose.new.self c.requires c.in-Some.ensures c.index_mut.ensures.value c.in_ok-lose.ensures.ok refl in
    on_ok_weaker c.connect.result
    (λ did. restart-takes c.args.self.now lost c.connect.new.self c.args.view c.in-Some.place c.args.how c.index_mut.result.now c.requires found.0 found.1 refl refl refl refl refl members
    (subst (λ (how : How). Connects lost c.connect.new.self c.in-Some.place how) c.whole_for.ensures did))
    c.connect.ensures
