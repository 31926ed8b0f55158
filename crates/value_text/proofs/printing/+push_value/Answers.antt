use Rattle.std.proofs.Common.{◌≡◌, ◌++◌, ◌∙◌, ap, sym, subst, append_assoc, string_bytes}
use Rattle.model_value.specs.Plain.{item}
use Rattle.model_value.specs.Spelling.{AreValues}
use Rattle.model_value.specs.View.{plain, plains}
use Rattle.value_text.specs.ValueText.{value_text, items_text}
use Rattle.value_text.proofs.Printed.{comma_texts, items_text-commas}
use Rattle.value_text.proofs.printing.+push_value.Goals as goal

pub push_items-loop-item-init : goal.push_items-loop-item-init
push_items-loop-item-init t c =
    let first = plain c.in-Some.first.now in
    let others = plains c.in-Some.others.now in
    let whole : plains c.args.items.now ≡ item first others = ap plains c.in-Some.ensures.cases.0 in
    record {
      held = λ are. subst AreValues (sym whole) (c.in_ok-push_value.ensures.value, are);
      printed =
          ap (λ bs. bs ++ comma_texts others) c.in_ok-push_value.ensures.text ∙ append_assoc (string_bytes c.args.out.now) (value_text first) (comma_texts others)
          ∙ ap (λ bs. string_bytes c.args.out.now ++ bs) (sym (items_text-commas first others)) ∙ ap (λ vs. string_bytes c.args.out.now ++ items_text vs) (sym whole);
    }
