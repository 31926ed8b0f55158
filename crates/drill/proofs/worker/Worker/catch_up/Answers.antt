use Rattle.std.proofs.Common.{Bool, ap, subst, arith}
use Rattle.session_lock.specs.History.{play}
use Rattle.drill.specs.declared.worker.Worker.{Worker}
use Rattle.drill.specs.Turns.{HasCome, HasPulled}
use Rattle.drill.proofs.CatchUps.{begins, goes_on, more_on, never_more, read_on}
use Rattle.drill.proofs.worker.Worker.catch_up.Goals as goal

pub loop-init : goal.loop-init
loop-init g c =
    begins _ c.args.service.now.size c.args.service.now.shared.now c.args.self.now c.ask.new.self c.args.cursor.now _ c.in_ok-_ticked._ticked
    c.requires.works c.in_ok-_ticked.ensures.pass c.in_ok-_ticked.ensures.worker c.in_ok-_ticked.ensures.asked

pub returns-then-branch-clause-more : goal.returns-then-branch-clause-more
returns-then-branch-clause-more g c =
    more_on _ c.args.service.now.size c.args.service.now.shared.now c.args.self.now c.loop.self c.pull.new.self c.args.cursor.now c.loop.cursor c.pull.new.cursor
    (ap (λ (w : Worker). w.view) c.loop.invariant.kept) c.loop.invariant.more c.in_ok-pull.ensures.more

pub returns-then-branch-clause-read : goal.returns-then-branch-clause-read
returns-then-branch-clause-read g c =
    read_on _ c.args.service.now.size c.args.service.now.shared.now c.args.self.now c.loop.self c.pull.new.self c.args.cursor.now c.loop.cursor c.pull.new.cursor c.loop.counter c.loop.invariant
    (subst (HasPulled c.loop.self.view c.loop.self.pass c.pull.new.self.pass c.loop.cursor c.pull.new.cursor) c.if-branch.true c.in_ok-pull.ensures.pulled)

pub loop-preserved : goal.loop-preserved
loop-preserved g c =
    goes_on _ c.args.service.now.size c.args.service.now.shared.now c.args.self.now c.loop.self c.pull.new.self c.args.cursor.now c.loop.cursor c.pull.new.cursor c.loop.counter
    c.loop.invariant c.in_ok-pull.ensures.worker c.in_ok-pull.ensures.source c.in_ok-pull.ensures.more
    (subst (λ (last : Bool). HasCome (play c.pull.new.self.pass.seen) c.pull.new.self.replica c.loop.cursor c.pull.new.cursor last) c.if-branch.false c.in_ok-pull.ensures.come)
    (subst (HasPulled c.loop.self.view c.loop.self.pass c.pull.new.self.pass c.loop.cursor c.pull.new.cursor) c.if-branch.false c.in_ok-pull.ensures.pulled)

pub unreachable-requires : goal.unreachable-requires
unreachable-requires g c =
    never_more _ c.args.service.now.size c.args.service.now.shared.now c.args.self.now c.loop.self c.args.cursor.now c.loop.cursor c.loop.counter (omega arith) c.loop.invariant
