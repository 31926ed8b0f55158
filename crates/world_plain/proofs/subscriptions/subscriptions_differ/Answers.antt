use Rattle.std.proofs.Common.{◌≡◌, ℕ, Bool, true, false, List, [], ◌∷◌, length, Option, Some, refl, sym, ap, ap₂, subst, ◌∙◌, rules, arith}
use Rattle.std.specs.Prelude.{slice_get}
use Rattle.std.specs.Option.{option_cmp}
use Rattle.std.specs.Cmp.{IsTotalOrder, nat_cmp_total}
use Rattle.std.specs.Cmp.Lexicographic.{slice_cmp, options_total}
use Rattle.std.specs.List.{range_with_len}
use Rattle.std.specs.List.Sorted.{IsPermutation}
use Rattle.std.specs.Ordering.{is_eq, is_lt, nat_cmp, ordering_then}
use Rattle.std.specs.declared.cmp.Ordering.{Ordering}
use Rattle.std.specs.declared.cmp.Ordering.TheVariants.{Less, Equal, Greater}
use Rattle.std.proofs.lemmas.Bool.{false≢true}
use Rattle.std.proofs.lemmas.Bool.Decides.{nat_tests}
use Rattle.std.proofs.lemmas.Cmp.{nat_list_cmp_total, on_total, then_total, tied_itself}
use Rattle.std.proofs.lemmas.Fn.{always_returns_same}
use Rattle.std.proofs.lemmas.List.Sorted.{ranks_by}
use Rattle.world_plain.specs.Order.{subscription_order}
use Rattle.world_plain.specs.declared.message.Subscription.{Subscription}
use Rattle.world_plain.proofs.Distinct.{differ_where_sorted, all_items}
use Rattle.world_plain.proofs.ValidTests.{same_parts}
use Rattle.world_plain.proofs.subscriptions.subscriptions_differ.Goals as goal

-- ---- the order of subscriptions is total, and ties no two of them

order-total : IsTotalOrder subscription_order
order-total =
    then_total (then_total (then_total (on_total (λ (s : Subscription). s.object) nat_cmp_total) (on_total (λ (s : Subscription). s.scope) nat_list_cmp_total)) (on_total (λ (s : Subscription). s.event) nat_list_cmp_total)) (on_total (λ (s : Subscription). s.method) nat_list_cmp_total)

both_tied : (r s : Ordering) → is_eq (ordering_then r s) ≡ true → (is_eq r ≡ true) × (is_eq s ≡ true)
both_tied Less s e = absurd (false≢true e)
both_tied Equal s e = (refl, e)
both_tied Greater s e = absurd (false≢true e)

same_number : (a b : ℕ) → is_eq (nat_cmp a b) ≡ true → a ≡ b
same_number a b e = grind (arith, nat_tests)

same_list : (xs ys : List ℕ) → is_eq (slice_cmp nat_cmp xs ys) ≡ true → xs ≡ ys
same_list [] [] e = refl
same_list [] (y ∷ ys) e = absurd (false≢true e)
same_list (x ∷ xs) [] e = absurd (false≢true e)
same_list (x ∷ xs) (y ∷ ys) e =
    let tied = both_tied (nat_cmp x y) (slice_cmp nat_cmp xs ys) e in
    ap₂ (λ (z : ℕ) (zs : List ℕ). z ∷ zs) (same_number x y tied.0) (same_list xs ys tied.1)

same_tied : (s t : Subscription) → is_eq (subscription_order s t) ≡ true → s ≡ t
same_tied s t e =
    let object_scope = ordering_then (nat_cmp s.object t.object) (slice_cmp nat_cmp s.scope t.scope) in
    let but_method = ordering_then object_scope (slice_cmp nat_cmp s.event t.event) in
    let method = both_tied but_method (slice_cmp nat_cmp s.method t.method) e in
    let event = both_tied object_scope (slice_cmp nat_cmp s.event t.event) method.0 in
    let scope = both_tied (nat_cmp s.object t.object) (slice_cmp nat_cmp s.scope t.scope) event.0 in
    same_parts s t (same_list s.scope t.scope scope.1) (same_list s.event t.event event.1) (same_number s.object t.object scope.0) (same_list s.method t.method method.1)

not_true : (b : Bool) → (b ≡ true → ⊥) → b ≡ false
not_true true h = absurd (h refl)
not_true false h = refl

order_tells : (s t : Subscription) → (¬ (s ≡ t) → is_eq (subscription_order s t) ≡ false) × (is_eq (subscription_order s t) ≡ false → ¬ (s ≡ t))
order_tells s t = (
  λ apart. not_true (is_eq (subscription_order s t)) (λ e. apart (same_tied s t e)),
  λ e same. false≢true (sym e ∙ ap (λ (u : Subscription). is_eq (subscription_order s u)) (sym same) ∙ ap is_eq (tied_itself order-total s)),
)

pub returns : goal.returns
returns c =
    let all = c.args.subscriptions.now in
    let key : ℕ → Option Subscription = slice_get all in
    let start : c.number_places.new.places ≡ range_with_len 0 (length all) = c.number_places.ensures ∙ ap (λ (n : ℕ). range_with_len 0 n) (search rules) in
    let moved : IsPermutation (range_with_len 0 (length all)) c.sort_unstable_by.new.self = subst (λ (ps : List ℕ). IsPermutation ps c.sort_unstable_by.new.self) start c.sort_unstable_by.ensures.permutation in
    let less : ℕ → ℕ → Bool = λ (a b : ℕ). is_lt (option_cmp subscription_order (key a) (key b)) in
    let sorted = c.sort_unstable_by.ensures.sorted less (ranks_by (options_total order-total) key) (always_returns_same _ _ _ (λ a r g called. (search rules, search rules))) in
    let answer = c.is_sorted_by.ensures.cases less (always_returns_same _ _ _ (λ a r g called. (search rules, search rules))) in
    differ_where_sorted (options_total order-total) (λ (s t : Subscription). ¬ (s ≡ t)) (λ (s : Subscription). Some s) order_tells all key (length all) c.sort_unstable_by.new.self (all_items all) moved sorted c.is_sorted_by.result answer
