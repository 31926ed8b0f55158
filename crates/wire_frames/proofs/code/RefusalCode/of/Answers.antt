use Rattle.std.proofs.Common.{◌<◌, ◌-◌, ◌∙◌, arith}
use Rattle.std.proofs.lemmas.Option.{slice_get-get_or}
use Rattle.wire_frames.specs.declared.code.RefusalCode.TheVariants.{Stale}
use Rattle.wire_frames.specs.declared.code.TheConstants.{ALL}
use Rattle.wire_frames.specs.Codes.{code_number}
use Rattle.wire_frames.proofs.Codes.{code_at, none_up_to}
use Rattle.wire_frames.proofs.code.RefusalCode.of.Goals as goal

pub loop-code-preserved : goal.loop-code-preserved
loop-code-preserved c = none_up_to c.args.number c.loop-code.code-index _ c.loop-code.invariant (slice_get-get_or ALL c.loop-code.code-index Stale c.loop-code-test.true) (λ is. c.if-number.false (c.number.ensures ∙ is))

pub returns : goal.returns
returns c = λ code.
    let below : code_number code - 1 < c.loop-code.code-index = omega (arith, (code_at code).0, c.loop-code-test.false) in
    (λ none. absurd cc, λ is. absurd (c.loop-code.invariant (code_number code - 1) code below (code_at code).1 is))
