use Rattle.std.proofs.Common.{◌≡◌, ◌%◌, arith}
use Rattle.std.proofs.lemmas.Bool.Decides.{nat_tests}
use Rattle.drill.specs.Doing.{loss_interval}
use Rattle.drill.proofs.Losings.{dropped, offered}
use Rattle.drill.proofs.worker.Worker.lose_connection.Goals as goal

pub returns-then-turn-ne0-clause-lost : goal.returns-then-turn-ne0-clause-lost
returns-then-turn-ne0-clause-lost g c =
    (c.requires.owed.0, dropped _ _ _ _ _ _ _ c.requires.owed.1 c.requires.multiple (λ zero. grind (arith, nat_tests)))

pub returns-clause-lost : goal.returns-clause-lost
returns-clause-lost g c =
    let multiple : c.args.turn % loss_interval ≡ 0 = grind (arith, nat_tests) in
    (c.requires.owed.0, offered _ _ _ _ c.offer.new.self _ _ _ c.lose.new.self c.requires.owed.1 multiple c.offer.ensures.rest c.in_ok-offer.ensures.worker c.in_ok-offer.ensures.offered c.in_ok-lose.ensures.ok)
