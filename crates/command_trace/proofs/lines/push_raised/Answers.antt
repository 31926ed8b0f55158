use Rattle.std.proofs.Common.{get_or, string_bytes, rules}
use Rattle.command_trace.specs.TraceText.{fault_words}
use Rattle.command_trace.proofs.StepLaws.{raised_on}
use Rattle.command_trace.proofs.lines.push_raised.Goals as goal

pub loop-place-preserved : goal.loop-place-preserved
loop-place-preserved c =
    let befores = c.args.before.now in
    let afters = c.args.after.now in
    let i = c.loop-place.place in
    raised_on fault_words befores afters i c.fault_word.result.now (get_or befores i 0) (get_or afters i 0) (string_bytes c.loop-place.text) (string_bytes c.push_fault.new.text) _
    (search rules) (search rules) (search rules) c.fault_word.ensures (search rules) (search rules) c.in_ok-push_fault.ensures c.loop-place.invariant
