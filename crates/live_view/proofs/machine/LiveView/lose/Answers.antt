use Rattle.std.proofs.Common.{arith, refl}
use Rattle.live_view.proofs.machine.LiveView.lose.Goals as goal

pub returns-clause-live : goal.returns-clause-live
returns-clause-live c = record {
  knows = c.requires.knows;
  ready = c.requires.knows;
  lines =
      let most = c.tell_few.ensures in
      let knows = c.requires.knows.published in
      c.clear.ensures.lines _ (omega (arith, most, knows));
  lost = λ yes. refl;
  empty = λ yes. c.clear.ensures.left;
}
