use Rattle.std.proofs.Common.{◌++◌, ◌∷◌, [], List, sym, subst}
use Rattle.std.specs.List.{AllZip}
use Rattle.replica.specs.View.{ReplicaView}
use Rattle.drill.specs.Drilling.{ComesToEnd}
use Rattle.drill.proofs.Taken.{zip_push}
use Rattle.drill.proofs.drilling.catch_up_all.Goals as goal

pub loop-one-preserved : goal.loop-one-preserved
loop-one-preserved c =
    let R = ComesToEnd c.args.session.now.plain in
    let one = c.in-Some.one in
    subst (λ (rs : List ReplicaView). AllZip R (c.loop-one.yielded ++ one ∷ []) rs) (sym c.in_ok-push.ensures.ok)
    (zip_push R c.loop-one.yielded c.loop-one.replicas one c.in_ok-catch_up.field-0 c.loop-one.invariant c.in_ok-catch_up.ensures)
