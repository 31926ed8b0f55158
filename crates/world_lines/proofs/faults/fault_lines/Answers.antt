use Rattle.std.proofs.Common.{◌++◌, ◌∙◌, ap, get_or, string_bytes, rules}
use Rattle.world_lines.specs.WorldLines.{fault_words}
use Rattle.world_lines.proofs.LineTexts.{fault_on}
use Rattle.world_lines.proofs.faults.fault_lines.Goals as goal

pub loop-place-preserved : goal.loop-place-preserved
loop-place-preserved c =
    fault_on fault_words c.args.counts.now c.loop-place.place c.fault_word.result.now (get_or c.args.counts.now c.loop-place.place 0) (string_bytes c.loop-place.text) (string_bytes c.push_str.new.self) _
    (search rules) (search rules) c.fault_word.ensures (search rules)
    (c.in_ok-push_str.ensures.bytes ∙ ap (λ l. string_bytes c.loop-place.text ++ l) (c.as_str.ensures.value ∙ c.in_ok-fault_part.ensures)) c.loop-place.invariant
