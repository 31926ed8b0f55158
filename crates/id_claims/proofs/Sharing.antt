-- A pass is split, and two are merged: each step keeps the rule.
use Rattle.std.proofs.Common.{◌≡◌, inl, inr, ℕ, ◌<◌, ◌≤◌, false, List, [], ◌∷◌, ◌++◌, set, sym, refl, ap, ◌∙◌, subst, arith}
use Rattle.std.specs.Prelude.{sum_by}
use Rattle.std.proofs.lemmas.List.Elements.{All-weaker, Contains-append_left, Contains-append_right}
use mathlib.Core.Option.{some}
use lib.ListN.{get_elem?}
use Rattle.atomic_table.specs.Table.{Joins, Splits}
use Rattle.atomic_table.proofs.Lists.{set_else}
use Rattle.tea_base.specs.declared.entry.SessionId.{SessionId}
use Rattle.id_claims.specs.declared.knowledge.Knowledge.{Knowledge}
use Rattle.id_claims.specs.Rules.{Every, HasMade, HasSeen, HoldsList, Keeps, KnowsAll, SomeView, SpentMadeNone, is_holding, one_if, parts}
use Rattle.id_claims.specs.Steps.{cut_left, cut_right, gone, joined}
use Rattle.id_claims.proofs.Places.{saw_whole}
use Rattle.id_claims.proofs.Views.{every_set, every_snoc, some_join, some_set, some_snoc, total_cut, total_join}

pub splits_pass : (listed : List SessionId) (id : ℕ) (v : Knowledge) → 1 < v.parts → Splits (Keeps listed) id v (cut_left v) (cut_right v)
splits_pass listed id v enough s (ids, k) at =
    let l : Knowledge = cut_left v in
    let r : Knowledge = cut_right v in
    let views : List Knowledge = set s.views id l ++ r ∷ [] in
    let holding : sum_by is_holding views ≡ sum_by is_holding s.views = total_cut is_holding s.views id v l r at (omega arith) in
    let every : (P : Knowledge → Type 0) → Every P s.views → P l → P r → Every P views = λ P h p q. every_snoc P (set s.views id l) r (every_set P s.views id l h p) q in
    let some_one : (P : Knowledge → Type 0) → (P v → P l) → SomeView P s.views → SomeView P views = λ P go h. some_snoc P (set s.views id l) r (some_set P s.views id v l at go h) in (
      ids,
      record {
        later = k.later;
        grows = k.grows;
        new = k.new;
        asked = All-weaker (λ x. SomeView (HasMade x) s.views) (λ x. SomeView (HasMade x) views) (λ x p. some_one (HasMade x) (λ q. q) p) k.later k.asked;
        word = k.word ∙ ap (λ (n : ℕ). n ∷ []) (sym holding);
        one = subst (λ (n : ℕ). n ≤ 1) (sym holding) k.one;
        hand = every (HoldsList ids) k.hand (λ h. (omega (arith, enough), (k.hand id v at h).1)) (λ h. absurd (cc (h)));
        home = λ nobody. k.home (sym holding ∙ nobody);
        seen = every (HasSeen ids) k.seen (k.seen id v at) ((k.seen id v at).0, (ids, refl));
        told = some_one (KnowsAll ids) (λ p. (omega (arith, enough), p.1)) k.told;
        whole = total_cut parts s.views id v l r at (omega (arith, enough)) ∙ k.whole;
        spent = every SpentMadeNone k.spent (λ none_of. absurd (omega (arith, enough, none_of))) (λ _. refl);
      },
    )

pub joins_pass : (listed : List SessionId) (id other : ℕ) (v w : Knowledge) → 0 < v.parts → v.also ≡ [] → w.also ≡ [] → w.holding ≡ false → Joins (Keeps listed) id v other w (joined v w) gone
joins_pass listed id other v w part settled settled' free s (ids, k) at ne also =
    let m : Knowledge = joined v w in
    let views : List Knowledge = set (set s.views id m) other gone in
    let atw : get_elem? s.views other ≡ some w = sym (set_else s.views id other m ne) ∙ also in
    let holding : sum_by is_holding views ≡ sum_by is_holding s.views = total_join is_holding s.views id other v w m gone at also (let a : is_holding w ≡ 0 = ap one_if free in omega (arith, a)) in
    let every : (P : Knowledge → Type 0) → Every P s.views → P m → P gone → Every P views = λ P h p q. every_set P (set s.views id m) other gone (every_set P s.views id m h p) q in
    let some_one : (P : Knowledge → Type 0) → (P v → P m) → (P w → P m) → SomeView P s.views → SomeView P views = λ P one two h. some_join P s.views id other v w m gone at atw ne one two h in (
      ids,
      record {
        later = k.later;
        grows = k.grows;
        new = k.new;
        asked = All-weaker (λ x. SomeView (HasMade x) s.views) (λ x. SomeView (HasMade x) views) (λ x p. some_one (HasMade x) (λ q. Contains-append_left v.made w.made x q) (λ q. Contains-append_right v.made w.made x q) p) k.later k.asked;
        word = k.word ∙ ap (λ (n : ℕ). n ∷ []) (sym holding);
        one = subst (λ (n : ℕ). n ≤ 1) (sym holding) k.one;
        hand = every (HoldsList ids) k.hand (λ h. (omega (arith, part), (k.hand id v at h).1)) (λ h. absurd (cc (h)));
        home = λ nobody. k.home (sym holding ∙ nobody);
        seen = every (HasSeen ids) k.seen ((k.seen id v at).0, (k.seen other w atw).0) ((ids, refl), (ids, refl));
        told = some_one (KnowsAll ids)
            (λ p. (omega (arith, part), inl (saw_whole ids v.seen v.also (k.seen id v at).0 settled p.1)))
            (λ p. (omega (arith, part), inr (saw_whole ids w.seen w.also (k.seen other w atw).0 settled' p.1))) k.told;
        whole = total_join parts s.views id other v w m gone at also (omega arith) ∙ k.whole;
        spent = every SpentMadeNone k.spent (λ none_of. absurd (omega (arith, part, none_of))) (λ _. refl);
      },
    )
