use Rattle.std.proofs.Common.{◌≡◌, ◌++◌, ◌∙◌, ap, sym, append_assoc, string_bytes}
use Rattle.model_value.specs.Plain.{item}
use Rattle.model_value.specs.View.{plain, plains}
use Rattle.value_text.specs.ValueText.{value_text, items_text}
use Rattle.value_text.proofs.Printed.{comma_texts, items_text-commas}
use Rattle.world_lines.proofs.words.push_items.Goals as goal

pub loop-item-init : goal.loop-item-init
loop-item-init c =
    let first = plain c.in-Some.first.now in
    let others = plains c.in-Some.others.now in
    let whole : plains c.args.items.now ≡ item first others = ap plains c.in-Some.ensures.cases.0 in
    ap (λ bs. bs ++ comma_texts others) c.in_ok-push_value.ensures.text ∙ append_assoc (string_bytes c.args.line.now) (value_text first) (comma_texts others)
    ∙ ap (λ bs. string_bytes c.args.line.now ++ bs) (sym (items_text-commas first others)) ∙ ap (λ vs. string_bytes c.args.line.now ++ items_text vs) (sym whole)
