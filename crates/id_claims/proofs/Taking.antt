-- The list is taken, given back and looked at: each step keeps the rule.
use Rattle.std.proofs.Common.{◌≡◌, ◌⊎◌, inl, inr, ℕ, ◌≤◌, Bool, eqb, List, [], ◌∷◌, ◌++◌, drop, length, get_or, set, sym, refl, ap, ◌∙◌, subst, arith, eq-eqb, ne_eqb, append_assoc}
use Rattle.std.specs.Prelude.{All, Contains, sum_by}
use Rattle.std.proofs.lemmas.List.Elements.{All-append, All-cons, All-nil, All-weaker, Contains-append_left, Contains-append_right, Contains-push}
use Rattle.std.proofs.lemmas.List.Prefix.{front_rest}
use mathlib.Core.Logic.{dite}
use mathlib.Core.Option.{Option, some, none}
use native.Mathlib.Decide.{ℕ_discrete}
use lib.ListN.{get_elem?}
use prog.Atomic.{either}
use Rattle.atomic_table.specs.Table.{Allows, State, gives, keeps, put_back, rest, step, stepped, takes}
use Rattle.atomic_table.proofs.Lists.{set_again, set_here}
use Rattle.tea_base.specs.declared.entry.SessionId.{SessionId}
use Rattle.id_claims.specs.declared.knowledge.Knowledge.{Knowledge}
use Rattle.id_claims.specs.Ids.{AreNew, TakesNew, place_of}
use Rattle.id_claims.specs.Rules.{HasMade, HasSeen, HoldsList, Keeps, KnowsAll, SomeView, SpentMadeNone, is_holding, one_if, parts}
use Rattle.id_claims.specs.Steps.{GivesBack, IsIdle, Looks, M, MayGiveBack, Takes, with_list, with_rest}
use Rattle.id_claims.proofs.Views.{at_within, every_set, every_set_else, some_set, total_same, total_set, total_two}
use Rattle.id_claims.proofs.Places.{begins_all, begins_more, new_more, takes_more}

abbrev St : Type 0
St = State (List SessionId) Knowledge

-- nothing changed
unmoved : (listed : List SessionId) (s : St) (i n id : ℕ) (c : List (ℕ × List SessionId)) (v : Knowledge) → get_elem? s.views id ≡ some v → set s.words i n ≡ s.words → Keeps listed s → Keeps listed (stepped s i n id c v keeps)
unmoved listed s i n id c v at words k =
    subst (λ (z : List ℕ × List Knowledge). Keeps listed (record { words = z.0; homes = s.homes; views = z.1 })) (λ j. (sym words j, sym (set_again s.views id v at) j)) k

-- ids that were put into the list stay those of some pass, where a view only gains
asked_still : (views : List Knowledge) (i : ℕ) (v w : Knowledge) (later : List SessionId) → get_elem? views i ≡ some v → ((x : SessionId) → HasMade x v → HasMade x w) → All (λ x. SomeView (HasMade x) views) later → All (λ x. SomeView (HasMade x) (set views i w)) later
asked_still views i v w later at go asked =
    All-weaker (λ x. SomeView (HasMade x) views) (λ x. SomeView (HasMade x) (set views i w)) (λ x p. some_set (HasMade x) views i v w at (go x) p) later asked

pub takes_list : (listed : List SessionId) (slots id : ℕ) (me : M) → IsIdle me → Allows (Keeps listed) slots id me 0 (λ n. either (eqb n 0) 1 n) (Takes (step slots 0 0 1 none) me)
takes_list listed slots id me idle s (ids, k) wide at small =
    let x : ℕ = get_or s.words 0 0 in
    let is : x ≡ sum_by is_holding s.views = ap (λ (l : List ℕ). get_or l 0 0) k.word in
    dite (ℕ_discrete x 0)
    (λ hit.
    let v : Knowledge = me.0 in
    let w : Knowledge = with_list v ids in
    let nobody : sum_by is_holding s.views ≡ 0 = sym is ∙ hit in
    let sum = total_set is_holding s.views id v w at in
    let free : is_holding v ≡ 0 = ap one_if idle.free in
    let one : sum_by is_holding (set s.views id w) ≡ 1 = omega (arith, nobody, sum, free) in
    let word : either (eqb x 0) 1 x ≡ sum_by is_holding (set s.views id w) = subst (λ (b : Bool). either b 1 x ≡ sum_by is_holding (set s.views id w)) (sym (eq-eqb x 0 hit)) (sym one) in (
      w,
      takes 0 ids,
      ap (λ (l : List (Option (List SessionId))). get_elem? l 0) (k.home nobody),
      (
        ids,
        record {
          later = k.later;
          grows = k.grows;
          new = k.new;
          asked = asked_still s.views id v w k.later at (λ y p. p) k.asked;
          word = ap (λ (l : List ℕ). set l 0 (either (eqb x 0) 1 x)) k.word ∙ ap (λ (n : ℕ). n ∷ []) word;
          one = omega (arith, one);
          hand = every_set (HoldsList ids) s.views id w k.hand (λ _. (idle.part, refl));
          home = λ none_now. absurd (omega (arith, one, none_now));
          seen = every_set (HasSeen ids) s.views id w k.seen (begins_all ids, (k.seen id v at).1);
          told = some_set (KnowsAll ids) s.views id v w at (λ p. (p.0, inl refl)) k.told;
          whole = total_same parts s.views id v w at refl ∙ k.whole;
          spent = every_set SpentMadeNone s.views id w k.spent (k.spent id v at);
        },
      ),
      ((λ _. record { ids = ids; grows = (k.seen id v at).0; is = ap (λ (l : List (ℕ × List SessionId)). (w, (0, ids) ∷ l)) idle.empty }), λ not. absurd (not hit)),
    ))
    (λ miss. (
      me.0,
      keeps,
      tt,
      unmoved listed s 0 (either (eqb x 0) 1 x) id me.1 me.0 at
          (subst (λ (b : Bool). set s.words 0 (either b 1 x) ≡ s.words) (sym (ne_eqb x 0 miss)) (subst (λ (l : List ℕ). set l 0 (get_or l 0 0) ≡ l) (sym k.word) refl)) (ids, k),
      ((λ hit. absurd (miss hit)), λ _. refl),
    ))

-- the list comes back to the empty slot
put_in : (homes : List (Option (List SessionId))) (ids : List SessionId) → length homes ≡ 1 → set homes 0 (some ids) ≡ some ids ∷ []
put_in [] ids e = absurd (omega (arith, e))
put_in (x ∷ []) ids e = refl
put_in (x ∷ y ∷ ys) ids e = absurd (omega (arith, e))

-- the later ids, with what was taken
later_now : (listed later before after : List SessionId) (id : SessionId) → listed ++ later ≡ before → AreNew listed later → TakesNew before id after → (now : List SessionId) × (listed ++ now ≡ after) × AreNew listed now × ((now ≡ later) ⊎ ((now ≡ later ++ id ∷ []) × (after ≡ before ++ id ∷ [])))
later_now listed later before after id grows new (inl same) = (later, grows ∙ sym same, new, inl refl)
later_now listed later before after id grows new (inr (more, none_yet)) = (
  later ++ id ∷ [],
  sym (append_assoc listed later (id ∷ [])) ∙ (ap (λ (l : List SessionId). l ++ id ∷ []) grows ∙ sym more),
  new_more listed later id new (ap (λ (l : List SessionId). place_of l id) grows ∙ none_yet),
  inr (refl, more),
)

-- a view has made what is behind all that it had seen
made_it : (made seen after : List SessionId) (id : SessionId) → after ≡ seen ++ id ∷ [] → Contains (made ++ drop (length seen) after) id
made_it made seen after id more =
    Contains-append_right made (drop (length seen) after) id (subst (λ (l : List SessionId). Contains l id) (sym (front_rest after seen (id ∷ []) more)) (Contains-push [] id))

asked_now : (P : SessionId → Type 0) (later now before after : List SessionId) (id : SessionId) → (now ≡ later) ⊎ ((now ≡ later ++ id ∷ []) × (after ≡ before ++ id ∷ [])) → All P later → (after ≡ before ++ id ∷ [] → P id) → All P now
asked_now P later now before after id (inl same) still new = subst (λ (l : List SessionId). All P l) (sym same) still
asked_now P later now before after id (inr (is, more)) still new = subst (λ (l : List SessionId). All P l) (sym is) (All-append P later (id ∷ []) still (All-cons P id [] (new more) (All-nil P)))

-- the list that is in hand
abbrev pub hand_of : List (ℕ × List SessionId) → List SessionId
hand_of [] = []
hand_of (x ∷ xs) = x.1

pub gives_list : (listed : List SessionId) (slots id : ℕ) (me : M) → slots ≡ 1 → MayGiveBack me → Allows (Keeps listed) slots id me 0 (λ _. 0) (λ _. GivesBack (step slots 0 0 0 none) me 0)
gives_list listed slots id me one_slot may s (ids, k) wide at small =
    let v : Knowledge = me.0 in
    let after : List SessionId = may.ids in
    let w : Knowledge = with_rest v after in
    let was = k.hand id v at may.holding in
    let takes_new : TakesNew ids may.id after = subst (λ (l : List SessionId). TakesNew l may.id after) was.1 may.takes in
    let more = takes_more ids after may.id takes_new in
    let now = later_now listed k.later ids after may.id k.grows k.new takes_new in
    let holds : is_holding v ≡ 1 = ap one_if may.holding in
    let sum = total_set is_holding s.views id v w at in
    let most = k.one in
    let nobody : sum_by is_holding (set s.views id w) ≡ 0 = omega (arith, sum, holds, most) in
    let made : (x : SessionId) → HasMade x v → HasMade x w = λ x p. Contains-append_left v.made (drop (length v.seen) after) x p in
    let still = asked_still s.views id v w k.later at made k.asked in
    let here = set_here s.views id w (at_within s.views id v at) in (
      w,
      gives,
      tt,
      (
        after,
        record {
          later = now.0;
          grows = now.1;
          new = now.2;
          asked = asked_now (λ x. SomeView (HasMade x) (set s.views id w)) k.later now.0 ids after may.id now.3 still
              (λ more. (id, w, here, subst (λ (l : List SessionId). Contains (v.made ++ drop (length l) after) may.id) (sym was.1) (made_it v.made ids after may.id more)));
          word = ap (λ (l : List ℕ). set l 0 0) k.word ∙ ap (λ (n : ℕ). n ∷ []) (sym nobody);
          one = omega (arith, nobody);
          hand = every_set_else (HoldsList ids) (HoldsList after) s.views id w
              (λ j u ne atj held holding. absurd (let both = total_two is_holding s.views j id u v atj at ne in let his : is_holding u ≡ 1 = ap one_if holding in omega (arith, both, his, holds, most))) k.hand
              (λ h. absurd (cc (h)));
          home = λ _. ap (λ (l : List (ℕ × List SessionId)). put_back s.homes l) may.hand ∙ put_in s.homes after (wide ∙ one_slot);
          seen = every_set_else (HasSeen ids) (HasSeen after) s.views id w
              (λ j u ne atj p. (begins_more u.seen ids more.0 after p.0 more.1, begins_more u.also ids more.0 after p.1 more.1)) k.seen
              (begins_all after, begins_more v.also ids more.0 after (k.seen id v at).1 more.1);
          told = (id, w, here, (was.0, inl refl));
          whole = total_same parts s.views id v w at refl ∙ k.whole;
          spent = every_set SpentMadeNone s.views id w k.spent (λ none_of. absurd (let some_part = was.0 in omega (arith, some_part, none_of)));
        },
      ),
      (λ l hand.
          let same : after ≡ l = ap hand_of (sym may.hand ∙ hand) in
          let nothing : rest me.1 ≡ [] = ap rest may.hand in
          λ i. (with_rest v (same i), nothing i)),
    )

pub looks_at : (listed : List SessionId) (slots id : ℕ) (me : M) → Allows (Keeps listed) slots id me 0 (λ n. n) (Looks (step slots 0 0 0 none) me)
looks_at listed slots id me s (ids, k) wide at small =
    let v : Knowledge = me.0 in
    let w : Knowledge = record v { seen = ids; also = [] } in
    let same = total_same is_holding s.views id v w at refl in (
      w,
      keeps,
      tt,
      (
        ids,
        record {
          later = k.later;
          grows = k.grows;
          new = k.new;
          asked = asked_still s.views id v w k.later at (λ y p. p) k.asked;
          word = ap (λ (l : List ℕ). set l 0 (get_or l 0 0)) k.word ∙ ap (λ (n : ℕ). n ∷ []) (sym same);
          one = subst (λ (n : ℕ). n ≤ 1) (sym same) k.one;
          hand = every_set (HoldsList ids) s.views id w k.hand (λ h. ((k.hand id v at h).0, refl));
          home = λ nobody. k.home (sym same ∙ nobody);
          seen = every_set (HasSeen ids) s.views id w k.seen (begins_all ids, (ids, refl));
          told = some_set (KnowsAll ids) s.views id v w at (λ p. (p.0, inl refl)) k.told;
          whole = total_same parts s.views id v w at refl ∙ k.whole;
          spent = every_set SpentMadeNone s.views id w k.spent (k.spent id v at);
        },
      ),
      record { ids = ids; grows = (k.seen id v at).0; grows_other = (k.seen id v at).1; is = refl },
    )
