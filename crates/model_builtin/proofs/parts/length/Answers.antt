use Rattle.std.proofs.Common.{◌≡◌, ℕ, List, length, pos, rules, sym, ap, subst, ◌∙◌}
use Rattle.std.proofs.lemmas.List.{length-map}
use Rattle.model_value.specs.Plain.{PlainValue, int, list}
use Rattle.model_value.specs.View.{plain, plains, plain_values}
use Rattle.model_value.proofs.Items.{items_of-plains_of}
use Rattle.model_value.proofs.Plains.{plain-List}
use Rattle.model_builtin.specs.Answer.{Applies}
use Rattle.model_builtin.specs.Builtins.{value, length_of}
use Rattle.model_builtin.proofs.parts.length.Goals as goal

pub returns-in-List : goal.returns-in-List
returns-in-List c =
    let items = c.in-List.items in
    let is : plain c.args.x.now ≡ list (plains items.items) = ap plain c.in-List.is ∙ plain-List items in
    let long : c.len.result ≡ length items.items = search rules in
    let whole = ap length_of is ∙ ap (λ (xs : List PlainValue). value (int (pos (length xs)))) (items_of-plains_of (plain_values items.items)) ∙ ap (λ (n : ℕ). value (int (pos n))) (length-map items.items plain) ∙ ap (λ (n : ℕ). value (int (pos n))) (sym long) in
    subst (Applies c.number-in-List.result) (sym whole) c.number-in-List.ensures
