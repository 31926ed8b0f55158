use Rattle.std.proofs.Common.{arith, ◌<◌, ◌-◌, refl, length}
use Rattle.session_log.proofs.HeadLaws.{IsKindWithin-read, slice_get-read}
use Rattle.session_log.proofs.log.Log.get.Goals as goal

pub copy_what-requires : goal.copy_what-requires
copy_what-requires c =
    let fields = c.self.inside in
    let below : c.args.seq - 1 < length fields.heads.items = omega arith in
    IsKindWithin-read _ fields.heads.items (c.args.seq - 1) c.index-head.result.now below c.self.invariant.kept.within c.index-head.ensures

pub returns-in-Ok-clause-ok : goal.returns-in-Ok-clause-ok
returns-in-Ok-clause-ok c =
    let fields = c.self.inside in
    let below : c.args.seq - 1 < length fields.heads.items = omega arith in
    let read = slice_get-read fields.payloads.bytes fields.heads.items (c.args.seq - 1) c.index-head.result.now below c.index-head.ensures in
    let what = c.in-Ok.ensures in
    rw (← c.self.view_is, read, what) refl
