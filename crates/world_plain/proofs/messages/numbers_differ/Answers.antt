use Rattle.std.proofs.Common.{◌≡◌, ℕ, false, map, length, Option, Some, ap, subst, ◌∙◌, List, rules, arith}
use Rattle.std.specs.Prelude.{slice_get}
use Rattle.std.specs.Option.{option_map, option_cmp}
use Rattle.std.specs.Cmp.{nat_cmp_total}
use Rattle.std.specs.Cmp.Lexicographic.{options_total}
use Rattle.std.specs.List.{range_with_len}
use Rattle.std.specs.List.Sorted.{IsPermutation}
use Rattle.std.specs.Ordering.{is_eq, is_lt, nat_cmp}
use Rattle.std.proofs.lemmas.Bool.Decides.{nat_tests}
use Rattle.std.proofs.lemmas.Fn.{always_returns_same}
use Rattle.std.proofs.lemmas.List.{length-map}
use Rattle.world_plain.specs.Messages.{PlainMessage, plain_message}
use Rattle.world_plain.proofs.Distinct.{differ_where_sorted, all_places}
use Rattle.world_plain.proofs.messages.numbers_differ.Goals as goal

number_tells : (a b : ℕ) → (¬ (a ≡ b) → is_eq (nat_cmp a b) ≡ false) × (is_eq (nat_cmp a b) ≡ false → ¬ (a ≡ b))
number_tells a b = (λ h. grind (arith, nat_tests), λ h e. grind (arith, nat_tests))

pub returns : goal.returns
returns c =
    let ms = map plain_message c.args.messages.now in
    let key : ℕ → Option ℕ = λ (k : ℕ). option_map (λ (m : PlainMessage). m.number) (slice_get ms k) in
    let start : c.number_places.new.places ≡ range_with_len 0 (length ms) = c.number_places.ensures ∙ ap (λ (n : ℕ). range_with_len 0 n) (search (rules, length-map c.args.messages.now plain_message)) in
    let moved : IsPermutation (range_with_len 0 (length ms)) c.sort_unstable_by_key.new.self = subst (λ (ps : List ℕ). IsPermutation ps c.sort_unstable_by_key.new.self) start c.sort_unstable_by_key.ensures.permutation in
    let sorted = c.sort_unstable_by_key.ensures.sorted key (always_returns_same _ _ _ (λ a r g called. (search rules, search rules))) in
    let answer = c.is_sorted_by.ensures.cases (λ (a b : ℕ). is_lt (option_cmp nat_cmp (key a) (key b))) (always_returns_same _ _ _ (λ a r g called. (search rules, search rules))) in
    differ_where_sorted (options_total nat_cmp_total) (λ (m n : PlainMessage). ¬ (m.number ≡ n.number)) (λ (m : PlainMessage). Some m.number) (λ m n. number_tells m.number n.number) ms key (length ms) c.sort_unstable_by_key.new.self (all_places (λ (m : PlainMessage). m.number) ms) moved sorted c.is_sorted_by.result answer
