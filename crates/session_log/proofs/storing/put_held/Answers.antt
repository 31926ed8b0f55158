use Rattle.std.proofs.Common.{◌++◌, ◌∷◌, [], length}
use Rattle.std.specs.Int.{to_be_bytes, w32, w64}
use Rattle.session_log.specs.Stored.{kept_spelling}
use Rattle.session_log.proofs.Fillings.{fills_on}
use Rattle.session_log.proofs.storing.put_held.Goals as goal

pub returns : goal.returns
unfolding kept_spelling
returns c =
    let time = to_be_bytes w64 c.args.kept.time in
    let bytes = c.args.kept.bytes.now in
    let len = to_be_bytes w32 (length bytes) in
    let blob = fills_on _ _ _ len bytes c.put_u32.ensures c.put_bytes.ensures in
    fills_on _ _ _ (1 ∷ []) (time ++ (len ++ bytes)) c.put_u8.ensures (fills_on _ _ _ time (len ++ bytes) c.put_u64.ensures blob)
