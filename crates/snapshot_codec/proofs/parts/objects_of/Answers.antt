use Rattle.std.proofs.Common.{◌≡◌, map, ◌++◌, ◌∷◌, []}
use Rattle.std.proofs.lemmas.Result.{err_from_is_err_and}
use Rattle.std.proofs.lemmas.List.{map_push}
use Rattle.byte_fields.proofs.Loops.{goes_on, ends, is_done}
use Rattle.world_plain.specs.World.{object_record}
use Rattle.snapshot_codec.specs.Reading.{object_record_at}
use Rattle.snapshot_codec.proofs.parts.objects_of.Goals as goal

pub returns-in_err-object : goal.returns-in_err-object
returns-in_err-object c =
    let p = err_from_is_err_and c.from_residual.result c.from_residual.ensures.1 in
    rw (p.1, p.2) (λ bad. ends (λ _. object_record_at c.args.counts.now) (map object_record c.loop.objects) c.args.count c.loop.counter c.loop.rest.now _ c.loop-test.true (c.in_err-object.ensures bad) c.loop.invariant)

pub loop-preserved : goal.loop-preserved
loop-preserved c =
    let e : map object_record c.push.new.self ≡ map object_record c.loop.objects ++ object_record c.in_ok-object.object ∷ [] = rw c.in_ok-push.ensures.ok (map_push _ c.loop.objects c.in_ok-object.object) in
    rw e (goes_on (λ _. object_record_at c.args.counts.now) (map object_record c.loop.objects) c.args.count c.loop.counter c.loop.rest.now (object_record c.in_ok-object.object) c.in_ok-object.after.now _ c.loop-test.true c.in_ok-object.ensures c.loop.invariant)

pub returns : goal.returns
returns c = is_done (λ _. object_record_at c.args.counts.now) (map object_record c.loop.objects) c.args.count c.loop.counter c.loop.rest.now _ c.loop-test.false c.loop.invariant
