use Rattle.reflector_core.specs.declared.session.Session.TheInside.{Inside}
use Rattle.reflector_core.proofs.PreparedLaws.{answers_on_ok}
use Rattle.reflector_core.proofs.session.Session.prepare.Goals as goal

pub returns-clause-answered : goal.returns-clause-answered
returns-clause-answered c =
    let old = c.self.inside in
    let room = c.make_room in
    let new : Inside = record { alloc = old.alloc; log = room.new.log; resend = room.new.resend; horizon = old.horizon; kept = old.kept } in
    answers_on_ok room.result new c.args.calls c.args.bytes room.ensures.entries room.ensures.notes room.ensures.bytes
