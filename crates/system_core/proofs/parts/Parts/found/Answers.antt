use Rattle.std.proofs.Common.{refl, arith}
use Rattle.std.specs.Arc.{arc_value}
use Rattle.std.proofs.lemmas.Result.{on_ok_weaker}
use Rattle.system_plain.proofs.StepRows.{found_again}
use Rattle.system_core.specs.declared.parts.Parts.{Parts}
use Rattle.system_core.specs.Parts.{part_worlds, plain_client, plain_system}
use Rattle.system_core.proofs.PartJoins.{found-made}
use Rattle.system_core.proofs.PartSteps.{found-at, unmade}
use Rattle.system_core.proofs.parts.Parts.found.Goals as goal

pub returns-in-Some : goal.returns-in-Some
returns-in-Some c =
    let m = c.in-Some.ensures.0 in
    unmade c.args.self.now _ c.requires c.ranges.view.fits tt
    (found_again (part_worlds c.args.self.now) (plain_system c.args.self.now) c.args.view (plain_client m) (found-at c.args.self.now c.in-Some.field-0 c.args.view m c.requires c.in-Some.ensures.1 c.in-Some.ensures.2))

pub returns : goal.returns
returns c =
    let len = c.args.self.now.connections.ok.0 in
    let is = c.len-newest.ensures in
    let new : Parts = record c.args.self.now { members = c.push-2.new.items; connections = c.push.new.items } in
    on_ok_weaker c.push-2.result
    (λ pushed.
    found-made c.args.self.now new c.args.view c.len-newest.result (arc_value c.in_ok-clone.field-0) c.in_ok-replica.replica c.join-frame.new.self c.join-frame.result c.in_ok-connection.connection c.requires c.ranges.view.fits c.if-view-eq0.false
    c.in_default.ensures c.in_ok-clone.ensures.cases c.in_ok-replica.ensures c.join-frame.ensures.joins c.join-frame.ensures.frame (omega (arith, len, is)) c.in_ok-connection.ensures refl refl refl pushed c.in_ok-push.ensures.ok)
    c.push-2.ensures.ok
