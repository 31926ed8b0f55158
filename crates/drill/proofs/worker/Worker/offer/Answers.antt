use Rattle.std.proofs.Common.{sym, subst}
use Rattle.std.specs.Arc.{arc_value}
use Rattle.model_solved.specs.Founding.{founding_of}
use Rattle.reflector_core.specs.PlainSession.{PlainSession}
use Rattle.session_lock.specs.History.{play, play_from}
use Rattle.drill.specs.Trust.{AllowsReplay}
use Rattle.drill.proofs.Offers.{has_offered, may_offer}
use Rattle.drill.proofs.worker.Worker.offer.Goals as goal

pub offer-requires-clause-allowed : goal.offer-requires-clause-allowed
offer-requires-clause-allowed g c =
    let same = c.equal_snapshots.ensures.replays c.args.self.now.replica (play c.args.self.now.pass.seen).log c.requires.works.program c.requires.works.follows c.requires.rests in
    let trust = c.args.service.now.shared.now.trust in
    subst (λ (o : PlainSession). let s = play_from o c.args.self.now.pass.seen in AllowsReplay (founding_of (arc_value trust.program)) c.args.service.now.shared.now.id.0 s.log s.horizon c.time.result c.in-Ok.bytes) (sym c.requires.worker.opening)
    (may_offer c.args.service.now.shared.now _ c.args.self.now.replica c.args.cursor.now c.time.result c.in-Ok.bytes c.requires.worker.program c.requires.worker.id c.requires.works same c.requires.rests
    c.in-Ok.ensures.3 c.time.ensures.time)

pub returns-clause-offered : goal.returns-clause-offered
returns-clause-offered g c =
    has_offered _ _ _ c.args.self.now c.offer.new.pass c.args.cursor.now c.time.result c.in-Ok.bytes c.in_ok-_kept._kept _ _ c.time.ensures.time c.requires.worker c.in-Ok.ensures.2
    c.in_ok-_kept.ensures.call c.in_ok-_kept.ensures.sound
