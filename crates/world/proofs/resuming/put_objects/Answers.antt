use Rattle.std.proofs.Common.{◌+◌, ◌∙◌, map, drop, ap}
use Rattle.model_value.specs.View.{plain_values}
use Rattle.world_plain.specs.World.{world_record, object_record}
use Rattle.object_store.specs.Store.{StoreRecord}
use Rattle.world.proofs.PutBack.{next-object, put-next}
use Rattle.world.proofs.resuming.put_objects.Goals as goal

pub put_back-requires-clause-above : goal.put_back-requires-clause-above
put_back-requires-clause-above c =
    (next-object (world_record c.args.plain.now) c.loop-object.store.objects c.as_slice-object-items.result.now c.loop-object.object-index c.object-item.result (plain_values c.in_ok-fields.fields) c.requires c.loop-object-test.true c.object-item.is c.in_ok-fields.ensures c.loop-object.invariant.objects).above

pub put_back-requires-clause-below : goal.put_back-requires-clause-below
put_back-requires-clause-below c =
    rw (c.loop-object.invariant.next) (next-object (world_record c.args.plain.now) c.loop-object.store.objects c.as_slice-object-items.result.now c.loop-object.object-index c.object-item.result (plain_values c.in_ok-fields.fields) c.requires c.loop-object-test.true c.object-item.is c.in_ok-fields.ensures c.loop-object.invariant.objects).below

pub put_back-requires-clause-few : goal.put_back-requires-clause-few
put_back-requires-clause-few c =
    (next-object (world_record c.args.plain.now) c.loop-object.store.objects c.as_slice-object-items.result.now c.loop-object.object-index c.object-item.result (plain_values c.in_ok-fields.fields) c.requires c.loop-object-test.true c.object-item.is c.in_ok-fields.ensures c.loop-object.invariant.objects).few

pub put_back-requires-clause-fields : goal.put_back-requires-clause-fields
put_back-requires-clause-fields c =
    (next-object (world_record c.args.plain.now) c.loop-object.store.objects c.as_slice-object-items.result.now c.loop-object.object-index c.object-item.result (plain_values c.in_ok-fields.fields) c.requires c.loop-object-test.true c.object-item.is c.in_ok-fields.ensures c.loop-object.invariant.objects).fields

pub loop-object-preserved : goal.loop-object-preserved
loop-object-preserved c =
    let one = next-object (world_record c.args.plain.now) c.loop-object.store.objects c.as_slice-object-items.result.now c.loop-object.object-index c.object-item.result (plain_values c.in_ok-fields.fields) c.requires c.loop-object-test.true c.object-item.is c.in_ok-fields.ensures c.loop-object.invariant.objects in
    record {
      objects = put-next c.loop-object.store.objects c.put_back.new.self.objects (map object_record (drop (c.loop-object.object-index + 1) c.as_slice-object-items.result.now)) (world_record c.args.plain.now).objects _ one.whole (ap (λ (s : StoreRecord). s.objects) c.in_ok-put_back.ensures.ok);
      next = ap (λ (s : StoreRecord). s.next) c.in_ok-put_back.ensures.ok ∙ c.loop-object.invariant.next;
    }
