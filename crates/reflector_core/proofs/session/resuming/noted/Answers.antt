use Rattle.std.proofs.Common.{arith, []}
use Rattle.reflector_core.proofs.StoredLaws.{noted_more}
use Rattle.reflector_core.proofs.session.resuming.noted.Goals as goal

pub loop-place-init : goal.loop-place-init
loop-place-init c = record { noted = c.reserve.ensures.same [] c.new-table.ensures.noted; room = omega (arith, c.in_ok-reserve.ensures.entries) }

pub loop-place-preserved : goal.loop-place-preserved
loop-place-preserved c = record {
  noted = noted_more c.args.log.now.entries c.loop-place.place c.view_of-view.result c.kind_of.result c.noted_kind-kind.result c.loop-place.table c.note.new.self
      c.len-len.ensures.legal (omega (arith, c.len-len.ensures.len, c.len-len.ensures.bound)) (omega (arith, c.len-len.ensures.len))
      c.view_of-view.ensures c.kind_of.ensures c.noted_kind-kind.ensures c.note.ensures.noted c.loop-place.invariant.noted;
  room = omega (arith, c.note.ensures.spare, c.loop-place.invariant.room);
}
