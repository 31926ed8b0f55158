-- What the calls tell, from what the steps tell.
use Rattle.std.proofs.Common.{◌≡◌, ◌⊎◌, inl, inr, ⊎_elim, ℕ, List, [], ◌∷◌, ◌++◌, drop, length, Option, sym, refl, ap, ◌∙◌, subst, arith}
use Rattle.std.proofs.lemmas.List.{append-nil}
use Rattle.atomic_table.specs.Seated.{TableId}
use Rattle.atomic_table.specs.Table.{rest}
use Rattle.tea_base.specs.declared.entry.SessionId.{SessionId}
use Rattle.id_claims.specs.declared.knowledge.Knowledge.{Knowledge}
use Rattle.id_claims.specs.Ids.{HasPlace, TakesNew}
use Rattle.id_claims.specs.Passes.{Claimed, Merged, PassState, pass_state}
use Rattle.id_claims.specs.Steps.{HasLooked, HasTaken, HasWorked, IsIdle, M, MayGiveBack, joined, with_list, with_rest}
use Rattle.id_claims.proofs.Places.{begins_more, taken_behind, takes_more}
use Rattle.id_claims.proofs.Taking.{hand_of}

-- a list is in hand
pub in_hand : (m m' : M) → HasTaken m m' → (ids : List SessionId) × (m'.1 ≡ (0, ids) ∷ [])
in_hand m m' taken = (taken.ids, ap (λ (x : M). x.1) taken.is)

-- the list in hand was as it was taken, and may be given back
pub may_give : (m m' m'' : M) (id : SessionId) (place : Option ℕ) → HasTaken m m' → HasWorked m' id place m'' → MayGiveBack m''
may_give m m' m'' id place taken worked =
    let had : worked.before ≡ taken.ids = ap hand_of (sym worked.had ∙ ap (λ (x : M). x.1) taken.is) in
    let seen : m''.0.seen ≡ taken.ids = ap (λ (x : M). x.0.seen) worked.has ∙ ap (λ (x : M). x.0.seen) taken.is in
    record {
      holding = ap (λ (x : M). x.0.holding) worked.has ∙ ap (λ (x : M). x.0.holding) taken.is;
      ids = worked.after;
      id = id;
      hand = ap (λ (x : M). x.1) worked.has;
      takes = subst (λ (l : List SessionId). TakesNew l id worked.after) (had ∙ sym seen) worked.takes;
    }

-- how a claim leaves the pass
module _ (m m' m'' m''' : M) (id : SessionId) (place : Option ℕ) (taken : HasTaken m m') (worked : HasWorked m' id place m'') (given : (ids : List SessionId) → m''.1 ≡ (0, ids) ∷ [] → m''' ≡ (with_rest m''.0 ids, [])) where
  in_the_end : m''' ≡ (with_rest (with_list m.0 taken.ids) worked.after, [])
  in_the_end =
      let knows : m''.0 ≡ with_list m.0 taken.ids = ap (λ (x : M). x.0) worked.has ∙ ap (λ (x : M). x.0) taken.is in
      given worked.after (ap (λ (x : M). x.1) worked.has) ∙ ap (λ (v : Knowledge). (with_rest v worked.after, [])) knows

  takes_it : TakesNew taken.ids id worked.after
  takes_it = subst (λ (l : List SessionId). TakesNew l id worked.after) (ap hand_of (sym worked.had ∙ ap (λ (x : M). x.1) taken.is)) worked.takes

  pub idle_again : IsIdle m → IsIdle m'''
  idle_again idle = subst IsIdle (sym in_the_end) (record { empty = refl; free = refl; settled = idle.settled; part = idle.part })

  made_so : (m.0.made ++ drop (length taken.ids) worked.after ≡ m.0.made) ⊎ (m.0.made ++ drop (length taken.ids) worked.after ≡ m.0.made ++ id ∷ [])
  made_so = ⊎_elim (λ (e : drop (length taken.ids) worked.after ≡ []). inl (ap (λ (l : List SessionId). m.0.made ++ l) e ∙ append-nil m.0.made))
      (λ (e : drop (length taken.ids) worked.after ≡ id ∷ []). inr (ap (λ (l : List SessionId). m.0.made ++ l) e)) (taken_behind taken.ids worked.after id takes_it)

  pub claimed : (z z' : TableId) (p : PassState) → pass_state z m.0 ≡ p → z' ≡ z → Claimed p (pass_state z' m'''.0) id place
  claimed z z' p view table =
      let more = takes_more taken.ids worked.after id takes_it in
      let told : Claimed (pass_state z m.0) (pass_state z (with_rest (with_list m.0 taken.ids) worked.after)) id place =
      record { same = refl; grows = begins_more m.0.seen taken.ids more.0 worked.after taken.grows more.1; has = worked.place_is; made = made_so }
      in
      subst (λ (t : PassState × (TableId × M)). Claimed t.0 (pass_state t.1.0 t.1.1.0) id place) (λ i. (view i, (sym table i, sym in_the_end i))) told

-- two were put together and looked at
looked : (m₀ m₁ m₂ : M) (w : Knowledge) → m₁ ≡ (joined m₀.0 w, m₀.1) → HasLooked m₁ m₂ → HasLooked (joined m₀.0 w, m₀.1) m₂
looked m₀ m₁ m₂ w e h = subst (λ (m : M). HasLooked m m₂) e h

pub idle_merged : (m₀ m₁ m₂ : M) (w : Knowledge) → IsIdle m₀ → m₁ ≡ (joined m₀.0 w, m₀.1) → HasLooked m₁ m₂ → IsIdle m₂
idle_merged m₀ m₁ m₂ w idle e h =
    let l = looked m₀ m₁ m₂ w e h in
    subst IsIdle (sym l.is) (record { empty = idle.empty; free = idle.free; settled = refl; part = (let p = idle.part in omega (arith, p)) })

pub merged : (z z₁ z₂ : TableId) (m₀ m₁ m₂ : M) (w : Knowledge) (p q : PassState) → pass_state z m₀.0 ≡ p → pass_state z₁ w ≡ q → z₂ ≡ z → m₁ ≡ (joined m₀.0 w, m₀.1) → HasLooked m₁ m₂ → Merged p q (pass_state z₂ m₂.0)
merged z z₁ z₂ m₀ m₁ m₂ w p q view view' table e h =
    let l = looked m₀ m₁ m₂ w e h in
    let told : Merged (pass_state z m₀.0) (pass_state z₁ w) (pass_state z (record (joined m₀.0 w) { seen = l.ids; also = [] })) =
    record { same = refl; grows = l.grows; grows_other = l.grows_other }
    in
    subst (λ (x : (PassState × PassState) × (TableId × M)). Merged x.0.0 x.0.1 (pass_state x.1.0 x.1.1.0)) (λ i. ((view i, view' i), (sym table i, sym l.is i))) told

-- an id was claimed in the list in hand
pub has_worked : (m : M) (id : SessionId) (place : Option ℕ) (before after : List SessionId) (hand : (ids : List SessionId) × (m.1 ≡ (0, ids) ∷ [])) → m.1 ≡ (0, before) ∷ rest m.1 → TakesNew before id after → HasPlace after id place → HasWorked m id place (m.0, (0, after) ∷ rest m.1)
has_worked m id place before after hand value takes has =
    let nothing : rest m.1 ≡ [] = ap rest hand.1 in
    record {
      before = before;
      after = after;
      had = value ∙ ap (λ (l : List (ℕ × List SessionId)). (0, before) ∷ l) nothing;
      has = ap (λ (l : List (ℕ × List SessionId)). (m.0, (0, after) ∷ l)) nothing;
      takes = takes;
      place_is = has;
    }
