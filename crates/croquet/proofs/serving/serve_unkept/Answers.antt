use Rattle.std.proofs.Common.{refl}
use Rattle.command_reflect.specs.ReflectedSteps.{log_name}
use Rattle.croquet.specs.Run.{OfReflected, OfReflectedOn}
use Rattle.croquet.proofs.VisitRuns.{ran_beside}
use Rattle.croquet.proofs.serving.serve_unkept.Goals as goal

pub returns-in-Connections : goal.returns-in-Connections
returns-in-Connections g c =
    rw c.in-Connections.is (record {
      answer = c.reflect-net.result.1;
      served = _;
      serves = (c.reflect-net.ensures, refl);
      behind = ran_beside _ _ _ _ c.reflect-net.result.0 (OfReflected (log_name c.args.reflection.log) c.reflect-net.result.1) c.args.files.now c.tell_reflected-status.new.files c.args.out.now c.tell_reflected-status.new.out c.tell_reflected-status.result c.tell_reflected-status.ensures;
    })

pub returns : goal.returns
returns g c =
    rw c.in-Posts.is (record {
      answer = c.reflect_unkept_on-net.result.1;
      served = _;
      serves = (rw (c.new-stop.ensures.signs, c.new-stop.ensures.name) at c.reflect_unkept_on-net.ensures, refl);
      behind = ran_beside _ _ _ _ c.reflect_unkept_on-net.result.0 (OfReflectedOn (log_name c.args.reflection.log) c.reflect_unkept_on-net.result.1) c.args.files.now c.tell_reflected_on-status.new.files c.args.out.now c.tell_reflected_on-status.new.out c.tell_reflected_on-status.result c.tell_reflected_on-status.ensures;
    })
