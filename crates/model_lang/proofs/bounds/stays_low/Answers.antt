use Rattle.std.proofs.Common.{◌≡◌, ℕ, suc, ◌<◌, ◌≤◌, ◌∷◌, List, length, get_or, drop, drop-cons, sym, ap, ◌∙◌, subst, arith}
use Rattle.model_tokens.specs.declared.token.Token.{Token}
use Rattle.model_tokens.specs.declared.token.Symbol.{Symbol}
use Rattle.model_tree.specs.Bounds.{greatest, count_after, most_nested}
use Rattle.model_lang.specs.Counts.{count_symbol}
use Rattle.model_lang.proofs.Counts.{greatest-le}
use Rattle.model_lang.proofs.bounds.stays_low.Goals as goal

too_many : (after : ℕ → Symbol → ℕ) (ts : List Token) (i count next : ℕ) (t : Token) → i < length ts → t ≡ get_or ts i t → next ≡ count_after after count t → most_nested < next → greatest after count (drop i ts) ≤ most_nested → ⊥
too_many after ts i count next t h is n over low =
    let split : drop i ts ≡ t ∷ drop (suc i) ts = drop-cons ts i t h ∙ ap (λ u. u ∷ drop (suc i) ts) (sym is) in
    let cut : greatest after count (t ∷ drop (suc i) ts) ≤ most_nested = subst (λ us. greatest after count us ≤ most_nested) split low in
    let more : greatest after (count_after after count t) (drop (suc i) ts) ≤ most_nested = omega (arith, cut) in
    omega (arith, more, greatest-le after (count_after after count t) (drop (suc i) ts))

pub returns-then-count-gt-MOST_NESTED : goal.returns-then-count-gt-MOST_NESTED
returns-then-count-gt-MOST_NESTED c = (
  λ h. cc,
  λ h. absurd (too_many (count_symbol c.args.what) c.args.tokens.now c.loop-token.token-index c.loop-token.count _ _ c.loop-token-test.true c.token-item.is c.after_token-count.ensures c.if-count-gt-MOST_NESTED.true (c.loop-token.invariant.1.1 h)),
)
