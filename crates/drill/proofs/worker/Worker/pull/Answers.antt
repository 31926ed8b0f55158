use Rattle.std.proofs.Common.{Bool, ◌∙◌, subst, sym, ap}
use Rattle.model_solved.specs.Founding.{founding_of}
use Rattle.replica.specs.View.{ReplicaView}
use Rattle.drill.specs.declared.worker.Worker.{Worker}
use Rattle.drill.proofs.Asks.{worker_with}
use Rattle.drill.proofs.Pulls.{asked_behind, batch_follows, has_taken_more, pull_comes, pull_fine, pull_keeps, pull_passes, pull_works}
use Rattle.session_lock.specs.History.{play}
use Rattle.drill.specs.Turns.{HasCome}
use Rattle.drill.specs.ViewCalls.{has_tick}
use Rattle.drill.proofs.CallLaws.{has_pulled}
use Rattle.drill.proofs.worker.Worker.pull.Goals as goal

pub next-requires : goal.next-requires
next-requires g c =
    let laws = c.worlds_stand.ensures (founding_of c.args.self.now.replica.program) c.args.self.now.replica.id c.requires.works.program in
    let asked = asked_behind _ _ _ _ _ _ c.after.result c.args.cursor.now c.in_ok-batch.batch c.in_ok-batch.ensures.asked c.after.ensures in
    batch_follows _ _ _ _ _ _ _ c.args.cursor.now c.in_ok-batch.batch asked c.requires.works laws

pub take_all-requires : goal.take_all-requires
take_all-requires g c =
    let laws = c.worlds_stand.ensures (founding_of c.args.self.now.replica.program) c.args.self.now.replica.id c.requires.works.program in
    let asked = asked_behind _ _ _ _ _ _ c.after.result c.args.cursor.now c.in_ok-batch.batch c.in_ok-batch.ensures.asked c.after.ensures in
    let same = ap (λ (w : Worker). w.replica) c.in_ok-batch.ensures.pass in
    rw same (pull_fine _ _ _ _ _ _ c.args.self.now.replica c.args.cursor.now c.in_ok-batch.batch asked c.requires.works laws _ (c.as_slice.ensures ∙ c.in_ok-frames.ensures.frames))

pub returns-clause-worker : goal.returns-clause-worker
returns-clause-worker g c =
    let laws = c.worlds_stand.ensures (founding_of c.args.self.now.replica.program) c.args.self.now.replica.id c.requires.works.program in
    let asked = asked_behind _ _ _ _ _ _ c.after.result c.args.cursor.now c.in_ok-batch.batch c.in_ok-batch.ensures.asked c.after.ensures in
    let same = ap (λ (w : Worker). w.replica) c.in_ok-batch.ensures.pass in
    let keeps = pull_keeps _ _ _ _ _ _ c.args.self.now.replica c.args.cursor.now c.in_ok-batch.batch asked c.requires.works laws c.take_all.new.replica _ (c.as_slice.ensures ∙ c.in_ok-frames.ensures.frames) (rw same at c.in_ok-take_all.ensures) in
    worker_with _ _ _ c.ask.new.self c.ask.new.self.source c.take_all.new.replica
    (rw same (ap (λ (r : ReplicaView). r.program) keeps.0)) (rw same (ap (λ (r : ReplicaView). r.id) keeps.0)) (rw same keeps.1.view) c.in_ok-batch.ensures.worker

pub returns-clause-more : goal.returns-clause-more
returns-clause-more g c =
    let laws = c.worlds_stand.ensures (founding_of c.args.self.now.replica.program) c.args.self.now.replica.id c.requires.works.program in
    let asked = asked_behind _ _ _ _ _ _ c.after.result c.args.cursor.now c.in_ok-batch.batch c.in_ok-batch.ensures.asked c.after.ensures in
    let same = ap (λ (w : Worker). w.replica) c.in_ok-batch.ensures.pass in
    let frames = c.as_slice.ensures ∙ c.in_ok-frames.ensures.frames in
    let taken = rw same at c.in_ok-take_all.ensures in
    let keeps = pull_keeps _ _ _ _ _ _ c.args.self.now.replica c.args.cursor.now c.in_ok-batch.batch asked c.requires.works laws c.take_all.new.replica _ frames taken in
    has_taken_more _ c.args.service.now.size c.args.service.now.shared.now c.args.self.now (record c.ask.new.self { replica = c.take_all.new.replica }) c.args.cursor.now c.next.new.self c.in_ok-batch.batch
    (pull_passes _ _ _ _ _ _ c.args.self.now.replica c.args.cursor.now c.in_ok-batch.batch asked c.requires.works laws)
    (pull_works _ _ _ _ _ _ c.args.self.now.replica c.args.cursor.now c.in_ok-batch.batch asked c.requires.works laws c.take_all.new.replica c.next.new.self _ frames c.in_ok-frames.ensures.cursor taken)
    keeps c.in_ok-frames.ensures.cursor

pub returns-clause-come : goal.returns-clause-come
returns-clause-come g c =
    let laws = c.worlds_stand.ensures (founding_of c.args.self.now.replica.program) c.args.self.now.replica.id c.requires.works.program in
    let asked = asked_behind _ _ _ _ _ _ c.after.result c.args.cursor.now c.in_ok-batch.batch c.in_ok-batch.ensures.asked c.after.ensures in
    let same = ap (λ (w : Worker). w.replica) c.in_ok-batch.ensures.pass in
    let comes = pull_comes _ _ _ _ _ _ c.args.self.now.replica c.args.cursor.now c.in_ok-batch.batch asked c.requires.works laws c.take_all.new.replica c.next.new.self _
    (c.as_slice.ensures ∙ c.in_ok-frames.ensures.frames) c.in_ok-frames.ensures.cursor (rw same at c.in_ok-take_all.ensures) in
    subst (λ (last : Bool). HasCome (play c.ask.new.self.pass.seen) c.take_all.new.replica c.args.cursor.now c.next.new.self last) (ap has_tick c.in-Batch.is ∙ sym c.is_some-is_last.ensures) comes

pub returns-clause-pulled : goal.returns-clause-pulled
returns-clause-pulled g c =
    let asked = asked_behind _ _ _ _ _ _ c.after.result c.args.cursor.now c.in_ok-batch.batch c.in_ok-batch.ensures.asked c.after.ensures in
    has_pulled _ _ _ c.args.self.now.view c.args.self.now.pass c.ask.new.self.pass c.args.cursor.now c.next.new.self c.in_ok-batch.batch _ asked c.in_ok-frames.ensures.cursor
    (ap has_tick c.in-Batch.is ∙ sym c.is_some-is_last.ensures)
