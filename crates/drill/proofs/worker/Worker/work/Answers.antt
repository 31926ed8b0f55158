use Rattle.std.proofs.Common.{Bool, sym, subst}
use Rattle.drill.specs.Turns.{HasEnded, HasJoined}
use Rattle.drill.proofs.Courses.{made_worker, synced_is}
use Rattle.drill.proofs.Joinings.{first_joined, first_refused}
use Rattle.drill.proofs.Leavings.{left}
use Rattle.drill.proofs.worker.Worker.work.Goals as goal

pub returns-in_default-clause-ended : goal.returns-in_default-clause-ended
returns-in_default-clause-ended g c =
    first_refused _ _ _ c.args.self c.join.new.self c.requires.size c.requires.first c.in_ok-cursor.ensures.source c.in_ok-cursor.ensures.worker
    (subst (HasJoined _ _ _ _ _ _) c.in_default.is c.in_ok-cursor.ensures.joined)

pub make_turns-requires-clause-ready : goal.make_turns-requires-clause-ready
make_turns-requires-clause-ready g c =
    first_joined _ _ _ c.args.self c.join.new.self c.requires.size c.requires.first c.in_ok-cursor.ensures.source c.in_ok-cursor.ensures.worker c.in-Some.cursor
    (subst (HasJoined _ _ _ _ _ _) c.in-Some.is c.in_ok-cursor.ensures.joined)

pub leave-requires : goal.leave-requires
leave-requires g c = record { worker = made_worker _ _ _ _ _ _ c.in_ok-course.course c.in_ok-course.ensures.made }

pub returns-clause-ended : goal.returns-clause-ended
returns-clause-ended g c =
    let asked = c.in_ok-leave.ensures.asked in
    let same = synced_is c.in_ok-course.course c.ne.result (λ is. rw is at c.ne.ensures) (λ is. rw is at c.ne.ensures) (λ is. rw is at c.ne.ensures) in
    let ended = left _ _ _ c.make_turns.new.self c.leave.new.self c.make_turns.new.cursor c.in_ok-course.course asked.0 asked.1 c.in_ok-course.ensures.made c.in_ok-leave.ensures.pass c.in_ok-leave.ensures.worker asked.2 in
    subst (λ (synced : Bool). HasEnded (g.C.Clock.gives c.args.service.now.clock.now) c.args.service.now.size c.args.service.now.shared.now (record { worker = c.leave.new.self; is_synced = synced })) (sym same) ended
