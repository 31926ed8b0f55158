use Rattle.std.proofs.Common.{ap}
use Rattle.view_shell.specs.Viewers.{viewer}
use Rattle.view_shell.proofs.Voting.{not_voted, voted}
use Rattle.std.proofs.Common.{◌≡◌, ◌+◌, Bool, arith, subst, sym}
use Rattle.std.specs.Prelude.{OnOk}
use Rattle.view_shell.specs.Hearing.{vote_count}
use Rattle.view_shell.proofs.hearing.vote_if.Goals as goal

pub returns-then-comes-clause-voted : goal.returns-then-comes-clause-voted
returns-then-comes-clause-voted c address lines = voted address lines c.args.watcher.now c.vote.new.watcher c.args.at c.args.comes c.vote.result c.if-comes.true c.vote.ensures.kept c.vote.ensures.votes

pub returns-clause-voted : goal.returns-clause-voted
returns-clause-voted c address lines = not_voted (viewer address c.args.watcher.now lines) c.args.at c.args.comes c.if-comes.false

pub returns-then-comes-clause-count : goal.returns-then-comes-clause-count
returns-then-comes-clause-count c =
    subst (λ (b : Bool). OnOk c.vote.result (c.vote.new.watcher.published ≡ c.args.watcher.now.published + vote_count b)) (sym c.if-comes.true) c.vote.ensures.count

pub returns-clause-count : goal.returns-clause-count
returns-clause-count c = let none : vote_count c.args.comes ≡ 0 = ap vote_count c.if-comes.false in omega (arith, none)
