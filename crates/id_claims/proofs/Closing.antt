-- The claims begin, and are closed by the pass of all parts.
use Rattle.std.proofs.Common.{◌≡◌, ◌⊎◌, inl, ℕ, ◌≤◌, ◌≢◌, Bool, true, false, List, [], ◌∷◌, length, sym, refl, ap, ◌∙◌, subst, arith}
use Rattle.std.specs.Prelude.{All, Contains}
use Rattle.std.proofs.lemmas.List.{append-nil}
use Rattle.std.proofs.lemmas.List.Elements.{All-nil, All-weaker}
use mathlib.Core.Logic.{dite}
use mathlib.Core.Option.{Option, some, some-injective}
use native.Mathlib.Decide.{ℕ_discrete}
use lib.ListN.{get_elem?}
use Rattle.atomic_table.specs.Seated.{TableId}
use Rattle.atomic_table.specs.Table.{Final, Seen, State, opening}
use Rattle.tea_base.specs.declared.entry.SessionId.{SessionId}
use Rattle.id_claims.specs.declared.knowledge.Knowledge.{Knowledge}
use Rattle.id_claims.specs.Ids.{most_ids}
use Rattle.id_claims.specs.Passes.{Closes, PassState, pass_state}
use Rattle.id_claims.specs.Rules.{HasMade, HasSeen, HoldsList, IsInOrder, Keeps, SomeView, SpentMadeNone, all_parts, first_knowledge, is_holding, one_if, parts}
use Rattle.id_claims.specs.Steps.{IsIdle, M}
use Rattle.id_claims.proofs.Places.{begins_all, saw_whole}
use Rattle.id_claims.proofs.Views.{every_one, one_at, total_none, total_two}

pub opens : (slots : List (List SessionId)) (listed : List SessionId) → slots ≡ listed ∷ [] → Keeps listed (opening (0 ∷ []) slots (first_knowledge listed))
opens slots listed e = subst (λ (l : List (List SessionId)). Keeps listed (opening (0 ∷ []) l (first_knowledge listed))) (sym e) (
  listed,
  record {
    later = [];
    grows = append-nil listed;
    new = tt;
    asked = All-nil (λ x. SomeView (HasMade x) (first_knowledge listed ∷ []));
    word = refl;
    one = omega arith;
    hand = every_one (HoldsList listed) (first_knowledge listed) (λ h. absurd (cc (h)));
    home = λ nobody. refl;
    seen = every_one (HasSeen listed) (first_knowledge listed) (begins_all listed, (listed, refl));
    told = (0, first_knowledge listed, refl, (omega arith, inl refl));
    whole = refl;
    spent = every_one SpentMadeNone (first_knowledge listed) (λ _. refl);
  },
)

-- nothing is in an empty list
none_in : (made : List SessionId) (x : SessionId) → made ≡ [] → Contains made x → ⊥
none_in made x e (k, within, is) = let long : length made ≡ 0 = ap length e in absurd (omega (arith, within, long))

-- who holds nothing counts for nothing
not_holding : (b : Bool) → (b ≡ true → ⊥) → one_if b ≡ 0
not_holding true not = absurd (not refl)
not_holding false not = refl

module _ (listed ids : List SessionId) (s : State (List SessionId) Knowledge) (k : IsInOrder listed ids s) (id : ℕ) (v : Knowledge) (at : get_elem? s.views id ≡ some v) (whole : v.parts ≡ all_parts) (free : v.holding ≡ false) (settled : v.also ≡ []) where
  others_none : (j : ℕ) (u : Knowledge) → get_elem? s.views j ≡ some u → j ≢ id → u.parts ≡ 0
  others_none j u atj ne = let both = total_two parts s.views j id u v atj at ne in let all = k.whole in omega (arith, both, all, whole)

  -- a view with a part is that of the pass
  pub all_seen : v.seen ≡ ids
  all_seen = let t = k.told in dite (ℕ_discrete t.0 id)
      (λ is. saw_whole ids v.seen v.also (k.seen id v at).0 settled (subst (λ (u : Knowledge). (u.seen ≡ ids) ⊎ (u.also ≡ ids)) (one_at s.views id t.0 t.1 v t.2 at is) t.3.1))
      (λ ne. let none_held = others_none t.0 t.1 t.2 ne in let some_held = t.3.0 in absurd (omega (arith, none_held, some_held)))

  pub at_home : s.homes ≡ some ids ∷ []
  at_home = k.home (total_none is_holding s.views (λ j u e. dite (ℕ_discrete j id)
      (λ is. ap (λ (z : Knowledge). one_if z.holding) (one_at s.views id j u v e at is) ∙ ap one_if free)
      (λ ne. not_holding u.holding (λ holds. let none_held = others_none j u e ne in let some_held = (k.hand j u e holds).0 in absurd (omega (arith, none_held, some_held))))))

  pub own_made : All (Contains v.made) k.later
  own_made = All-weaker (λ x. SomeView (HasMade x) s.views) (Contains v.made) (λ x (p : SomeView (HasMade x) s.views). dite (ℕ_discrete p.0 id)
      (λ is. subst (HasMade x) (one_at s.views id p.0 p.1 v p.2 at is) p.3)
      (λ ne. absurd (none_in p.1.made x (k.spent p.0 p.1 p.2 (others_none p.0 p.1 p.2 ne)) p.3))) k.later k.asked

pub closed : (listed : List SessionId) (id : ℕ) (me : M) (words : List ℕ) (slots : List (List SessionId)) (table : TableId) (pass : PassState) (ids : List SessionId) → Final (Seen (Keeps listed) id me.0) words slots → IsIdle me → pass_state table me.0 ≡ pass → pass.parts ≡ all_parts → get_elem? slots 0 ≡ some ids → length ids ≤ most_ids
    → Closes listed pass ids
closed listed id me words slots table pass ids f idle view whole there few =
    let s = f.0 in
    let list : List SessionId = f.1.0.0 in
    let k : IsInOrder listed list s = f.1.0.1 in
    let v : Knowledge = me.0 in
    let at : get_elem? s.views id ≡ some v = f.1.1 in
    let all : v.parts ≡ all_parts = ap (λ (p : PassState). p.parts) view ∙ whole in
    let seen : v.seen ≡ list = all_seen listed list s k id v at all idle.free idle.settled in
    let made : All (Contains v.made) k.later = own_made listed list s k id v at all idle.free idle.settled in
    let lies : get_elem? slots 0 ≡ some list = f.4 0 list (ap (λ (l : List (Option (List SessionId))). get_elem? l 0) (at_home listed list s k id v at all idle.free idle.settled)) in
    let same : list ≡ ids = some-injective list ids (sym lies ∙ there) in
    subst (λ (p : PassState). Closes listed p ids) view (record { later = k.later; grows = k.grows ∙ same; seen = seen ∙ same; new = k.new; asked = made; few = few })
