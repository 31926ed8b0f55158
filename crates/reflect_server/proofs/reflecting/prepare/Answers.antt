use Rattle.std.proofs.Common.{arith, sym, subst}
use Rattle.reflector_core.specs.PlainSession.{PlainSession}
use Rattle.reflect_server.specs.Opening.{HasOpened, gives_later}
use Rattle.reflect_server.proofs.reflecting.prepare.Goals as goal

pub returns-clause-prepared : goal.returns-clause-prepared
returns-clause-prepared g c =
    let gives = gives_later (g.C.Clock.gives c.args.server.now.clock.now) c.horizon-since.result in
    let opens = c.in_ok-shared.ensures in
    record {
      session = opens.session;
      opened = subst (λ (o : PlainSession). HasOpened gives o c.in_ok-shared.lead) (sym opens.begins) opens.leaves;
      numbers = opens.numbers;
      spare = omega (arith, opens.spare, c.requires.connections);
      rooms = c.in-Ok.ensures;
    }
