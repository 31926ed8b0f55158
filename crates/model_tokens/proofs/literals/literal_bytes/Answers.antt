use Rattle.std.proofs.Common.{sym}
use Rattle.model_tokens.proofs.LiteralLaws.{one_byte}
use Rattle.model_tokens.proofs.literals.literal_bytes.Goals as goal

pub loop-byte-preserved : goal.loop-byte-preserved
loop-byte-preserved c =
    let more = one_byte c.loop-byte.bytes.items c.loop-byte.rest.now c.args.text.now c.in-Some.byte c.in-Some.more c.loop-byte.invariant (sym c.in-Some.ensures.byte) in
    rw (c.in_ok-push.ensures.ok, c.split_at.ensures.back) more
