use Rattle.std.proofs.Common.{refl}
use Rattle.command_reflect.specs.ReflectedSteps.{log_name}
use Rattle.croquet.specs.Run.{OfKept, OfKeptOn, is_shut}
use Rattle.croquet.proofs.VisitRuns.{ran_beside}
use Rattle.croquet.proofs.kept.serve_kept.Goals as goal

pub reflect_kept-net-requires-clause-connections : goal.reflect_kept-net-requires-clause-connections
reflect_kept-net-requires-clause-connections g c _ _ = rw c.in-Connections.is at c.requires.span

pub reflect_on-net-requires-clause-posts : goal.reflect_on-net-requires-clause-posts
reflect_on-net-requires-clause-posts g c _ _ = rw c.in-Posts.is at c.requires.span

pub returns-in-Connections : goal.returns-in-Connections
returns-in-Connections g c = record {
  keeper = c.reflect_kept-net.result.1;
  serves = rw c.in-Connections.is (record {
    answer = c.reflect_kept-net.result.2;
    served = _;
    serves = (c.reflect_kept-net.ensures, refl);
    behind = ran_beside _ _ _ _ c.reflect_kept-net.result.0 (OfKept (log_name c.args.keeping.log) (is_shut c.reflect_kept-net.result.1) c.reflect_kept-net.result.2) c.args.files.now c.tell_kept-status.new.files c.args.out.now c.tell_kept-status.new.out c.tell_kept-status.result (rw c.is_shut-unkept.ensures at c.tell_kept-status.ensures);
  });
  back = record { back = c.back.ensures.back; others = λ other not. (c.back.ensures.others other not).0; faults = c.back.ensures.faults };
}

pub returns : goal.returns
returns g c = record {
  keeper = c.reflect_on-net.result.1;
  serves = rw c.in-Posts.is (record {
    answer = c.reflect_on-net.result.2;
    served = _;
    serves = (rw (c.new-stop.ensures.signs, c.new-stop.ensures.name) at c.reflect_on-net.ensures, refl);
    behind = ran_beside _ _ _ _ c.reflect_on-net.result.0 (OfKeptOn (log_name c.args.keeping.log) (is_shut c.reflect_on-net.result.1) c.reflect_on-net.result.2) c.args.files.now c.tell_kept_on-status.new.files c.args.out.now c.tell_kept_on-status.new.out c.tell_kept_on-status.result (rw c.is_shut-unkept-in-Posts.ensures at c.tell_kept_on-status.ensures);
  });
  back = record { back = c.back-in-Posts.ensures.back; others = λ other not. (c.back-in-Posts.ensures.others other not).0; faults = c.back-in-Posts.ensures.faults };
}
