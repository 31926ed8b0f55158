use Rattle.run_steps.specs.Outside.{links_tell}
use Rattle.view_follows.proofs.Living.{runs_so}
use Rattle.view_follows.proofs.laws.views_of_many_runs.Goals as goal

pub returns : goal.returns
returns g c =
    let links = links_tell g.L.Link in
    let gives = g.C.Clock.gives in
    record {
      honest = λ founding id runs views s. c.views_of_any_runs.ensures.honest founding id runs views (runs_so gives links founding id runs views s);
      served = λ founding id runs views s. c.views_of_any_runs.ensures.served founding id runs views (runs_so gives links founding id runs views s);
      done = λ founding id runs views s. c.views_of_any_runs.ensures.done founding id runs views (runs_so gives links founding id runs views s);
    }
