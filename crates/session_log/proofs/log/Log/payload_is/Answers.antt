use Rattle.std.proofs.Common.{arith, ◌<◌, ◌-◌, length}
use Rattle.session_log.proofs.HeadLaws.{IsKindWithin-read, slice_get-read}
use Rattle.session_log.proofs.log.Log.payload_is.Goals as goal

pub is_stored-requires : goal.is_stored-requires
is_stored-requires c =
    let fields = c.self.inside in
    let below : c.args.seq - 1 < length fields.heads.items = omega (arith, c.len.ensures) in
    IsKindWithin-read _ fields.heads.items (c.args.seq - 1) c.index.result.now below c.self.invariant.kept.within c.index.ensures

pub returns : goal.returns
returns c =
    let fields = c.self.inside in
    let below : c.args.seq - 1 < length fields.heads.items = omega (arith, c.len.ensures) in
    let read = slice_get-read fields.payloads.bytes fields.heads.items (c.args.seq - 1) c.index.result.now below c.index.ensures in
    let test = c.is_stored.ensures in
    rw (← c.self.view_is, read) (λ h. (c.if-seq-eq0.false, test.0 h), λ h. test.1 h.1)
