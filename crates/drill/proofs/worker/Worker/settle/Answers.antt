use Rattle.std.proofs.Common.{◌≡◌, ◌%◌, subst, arith}
use Rattle.std.proofs.lemmas.Bool.Decides.{nat_tests}
use Rattle.wire_frames.specs.declared.frame.ServerFrame.{ServerFrame}
use Rattle.drill.specs.Drilled.{drop_interval}
use Rattle.drill.specs.Taking.{HasTaken}
use Rattle.drill.proofs.Settlings.{done_settles}
use Rattle.drill.proofs.worker.Worker.settle.Goals as goal

pub returns-clause-settled : goal.returns-clause-settled
returns-clause-settled g c =
    let keeps : c.args.turn % drop_interval ≡ 0 → ⊥ = λ multiple. grind (arith, nat_tests) in
    let told : HasTaken c.args.self.now.replica c.args.done.now c.take_fine.new.replica = c.in_ok-take_fine.ensures in
    done_settles _ _ _ c.args.self.now c.args.cursor.now c.args.turn c.requires.done.0 c.requires.done.1 c.requires.owed.0 c.take_fine.new.replica c.requires.owed.1 keeps
    (subst (λ (done : ServerFrame). HasTaken c.args.self.now.replica done c.take_fine.new.replica) c.requires.done.2 told)
