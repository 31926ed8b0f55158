use Rattle.std.proofs.Common.{◌≡◌}
use Rattle.std.proofs.lemmas.Result.{on_ok_weaker}
use Rattle.model_solved.specs.Founding.{founding_of}
use Rattle.drill.proofs.JoiningClosed.{joins_closed, catches_new, fine_joined, kept_new}
use Rattle.drill.proofs.ending.join_closed.Goals as goal

pub take_fine-requires-clause-fine : goal.take_fine-requires-clause-fine
take_fine-requires-clause-fine c =
    let s = c.args.session.now.plain in
    let r = c.args.replica.now in
    let view : c.in-Join.view ≡ r.plain.view = cc (c.in-Join.ensures.frame) in
    fine_joined s r c.join.new.self c.last_number.result
    (joins_closed s r c.log.result.now.entries c.in-Join.view c.last_number.result (c.worlds_stand.ensures (founding_of r.program) r.id c.requires.program) c.horizon-horizon.ensures.sound c.requires c.log.ensures.log view c.last_number.ensures.number)
    c.join.ensures.joins

pub returns-clause-catches : goal.returns-clause-catches
returns-clause-catches c =
    let s = c.args.session.now.plain in
    let r = c.args.replica.now in
    let view : c.in-Join.view ≡ r.plain.view = cc (c.in-Join.ensures.frame) in
    on_ok_weaker c.take_fine.result
    (catches_new s r c.join.new.self c.take_fine.new.replica c.last_number.result
    (joins_closed s r c.log.result.now.entries c.in-Join.view c.last_number.result (c.worlds_stand.ensures (founding_of r.program) r.id c.requires.program) c.horizon-horizon.ensures.sound c.requires c.log.ensures.log view c.last_number.ensures.number)
    c.join.ensures.joins) c.take_fine.ensures

pub returns-clause-kept : goal.returns-clause-kept
returns-clause-kept c =
    on_ok_weaker c.take_fine.result (kept_new c.args.replica.now c.join.new.self c.take_fine.new.replica c.last_number.result c.join.ensures.joins) c.take_fine.ensures
