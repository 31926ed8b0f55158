use Rattle.std.proofs.Common.{sym, subst}
use Rattle.reflector_core.specs.PlainSession.{PlainSession}
use Rattle.reflect_server.specs.Opening.{HasOpened, gives_later}
use Rattle.reflect_server.proofs.OpeningLaws.{unopened_wants}
use Rattle.reflect_posts.proofs.preparing.prepare.Goals as goal

pub returns-clause-opened : goal.returns-clause-opened
returns-clause-opened g c =
    let gives = gives_later (g.C.Clock.gives c.args.server.now.clock.now) c.horizon-since.result in
    let opens = c.in_ok-shared.ensures in
    record {
      session = opens.session;
      opened = subst (λ (o : PlainSession). HasOpened gives o c.in_ok-shared.lead) (sym opens.begins) opens.leaves;
      numbers = opens.numbers;
    }

pub returns-in_default-clause-unopened : goal.returns-in_default-clause-unopened
returns-in_default-clause-unopened g c =
    unopened_wants g.K.Keeper.holds g.K.Keeper.shut g.K.Keeper.faults (gives_later (g.C.Clock.gives c.args.server.now.clock.now) c.args.opening.session.plain.horizon) c.args.opening.session.plain c.args.opening.keeper c.wants.result.keeper c.wants.result.fault
    c.requires.covered c.requires.unshut c.wants.ensures.0 c.wants.ensures.1
