-- A view that is here in the end is one of a caller that made a call without an answer.
use Rattle.std.proofs.Common.{◌≡◌, ℕ, ◌<◌, ◌≤◌, Bool, true, false, not, ◌&&◌, ◌||◌, eqb, if◌then◌else◌, List, [], ◌∷◌, ◌++◌, Some, refl, sym, ap, ◌∙◌, subst, inl, inr, arith}
use Rattle.std.specs.List.{AllByRecursion}
use Rattle.std.specs.Cmp.Derive.{both_true}
use Rattle.std.proofs.lemmas.Bool.{cases_lt, eqb-true, eq-eqb}
use Rattle.std.proofs.lemmas.Bool.Decides.{nat_tests}
use Rattle.tea_base.specs.declared.entry.Entry.{Entry}
use Rattle.tea_base.specs.declared.entry.SessionId.{SessionId}
use Rattle.tea_base.specs.Legal.{IsLegal}
use Rattle.tea_base.specs.Readings.{current, is_here}
use Rattle.tea_base.proofs.LogLaws.{is_here-zero}
use Rattle.run_steps.specs.Outside.{LinksTell}
use Rattle.reflector_core.specs.PlainSession.{PlainSession}
use Rattle.reflector_core.specs.Answer.{answer}
use Rattle.reflector_core.specs.Stored.{IsNextHere}
use Rattle.reflector_core.specs.declared.request.Request.TheVariants.{Join, Send, Tick, Leave, Offer, Pull}
use Rattle.reflector_core.specs.declared.keeper.CallFault.TheVariants as fault
use Rattle.session_lock.specs.declared.knowledge.Item.{Item}
use Rattle.session_lock.specs.declared.knowledge.Item.TheVariants.{Did, Void, Unkept}
use Rattle.session_lock.specs.History.{calls_of, has, play_from}
use Rattle.connection.specs.Exchanges.{Exchange, Answered, Unanswered, exchanges_from, exchanges_in}
use Rattle.connection.proofs.Callers.{exchanges_none, exchanges_same}
use Rattle.reflect_server.specs.Opening.{AreHereAbove, AreLeavesOf, BeginsWithLeaves}
use Rattle.reflect_server.specs.Connections.{ServedConnection, HasTalk, callers_of}
use Rattle.reflect_server.specs.Views.{StaysByMiss, closes_view, has_miss, holds, holds_in, holds_on, opens_view, opens_with}
use Rattle.reflect_server.proofs.HeldTalks.{talk_holds}
use Rattle.reflect_server.proofs.HeldViews.{held_by_someone}
use Rattle.reflect_server.proofs.PassLaws.{or_first}

-- ---- the opener

-- a view that is here and is not the next one comes after it
is_further : (log : List Entry) (above : ℕ) (one : ℕ × ℕ) (v : ℕ) → IsNextHere log above (Some one) → above < v → is_here log v ≡ true → eqb one.0 v ≡ false → one.0 < v
is_further log above one v next lt was other =
    elim (cases_lt v one.0) [
      | inl before ↦ absurd (cc (next.3 v lt before, was))
      | inr after ↦ grind (arith, nat_tests)
    ]

module _ (gives : ℕ → Type 0) (opener v j : ℕ) where
  -- an exchange that opens nothing, if it is one's own
  out_step : (own : Bool) (exchange : Exchange) (rest : List Exchange) → opens_view v j exchange ≡ false → holds_on v j false rest ≡ false
      → holds_on v j false ((if own then exchange ∷ [] else []) ++ rest) ≡ false
  out_step true exchange rest other out = ap (λ (b : Bool). holds_on v j (b || (false && not (closes_view v j exchange))) rest) other ∙ out
  out_step false exchange rest other out = out

  -- and one's own exchange, which gives the view up or does not
  in_step : (own : Bool) (exchange : Exchange) (rest : List Exchange) (closes : Bool) → own ≡ true → closes_view v j exchange ≡ closes → opens_view v j exchange ≡ false
      → holds_on v j (not closes) rest ≡ false → holds_on v j true ((if own then exchange ∷ [] else []) ++ rest) ≡ false
  in_step true exchange rest closes mine is other out =
      ap (λ (b : Bool). holds_on v j (b || (true && not (closes_view v j exchange))) rest) other
      ∙ (ap (λ (b : Bool). holds_on v j (not b) rest) is ∙ out)
  in_step false exchange rest closes mine is other out = absurd (cc (mine))

  -- by Leaves no view comes to be held
  stays_out : (s : PlainSession) (views : List (ℕ × ℕ)) (items : List Item) → AreLeavesOf gives opener views items → holds_on v j false (exchanges_from s opener items) ≡ false
  stays_out s [] [] made = refl
  stays_out s [] (item ∷ items) made = absurd made
  stays_out s (one ∷ views) [] made = absurd made
  stays_out s (one ∷ views) (Void who ∷ items) made = out_step (eqb who opener) (Unanswered fault.WantOfMemory) (exchanges_from s opener items) refl (stays_out s views items made.1)
  stays_out s (one ∷ views) (Unkept who ∷ items) made = absurd made.0
  stays_out s (one ∷ views) (Did who (Leave view joined now) ∷ items) made =
      out_step (eqb who opener) (Answered (Leave view joined now) (answer s (Leave view joined now)).reply)
      (exchanges_from (answer s (Leave view joined now)).session opener items) refl (stays_out (answer s (Leave view joined now)).session views items made.1)
  stays_out s (one ∷ views) (Did who (Join view now want) ∷ items) made = absurd made.0
  stays_out s (one ∷ views) (Did who (Send view joined number payload now) ∷ items) made = absurd made.0
  stays_out s (one ∷ views) (Did who (Tick now) ∷ items) made = absurd made.0
  stays_out s (one ∷ views) (Did who (Offer view joined time bytes) ∷ items) made = absurd made.0
  stays_out s (one ∷ views) (Did who (Pull after limit) ∷ items) made = absurd made.0

  -- each view that was here is given up, unless a Leave found no memory
  given_up : (log : List Entry) (above : ℕ) (s : PlainSession) (views : List (ℕ × ℕ)) (items : List Item) → AreHereAbove log above views → AreLeavesOf gives opener views items
      → has_miss opener items ≡ false → above < v → is_here log v ≡ true → j ≡ current log v → holds_on v j true (exchanges_from s opener items) ≡ false
  given_up log above s [] [] here made none lt was is = absurd (cc (here v lt, was))
  given_up log above s [] (item ∷ items) here made none lt was is = absurd made
  given_up log above s (one ∷ views) [] here made none lt was is = absurd made
  given_up log above s (one ∷ views) (Void who ∷ items) here made none lt was is =
      absurd (cc (or_first (eqb who opener) (has_miss opener items) none, eq-eqb who opener made.0))
  given_up log above s (one ∷ views) (Unkept who ∷ items) here made none lt was is = absurd made.0
  given_up log above s (one ∷ views) (Did who (Leave view joined now) ∷ items) here made none lt was is =
      by (λ further. given_up log one.0 (answer s (Leave view joined now)).session views items here.1 made.1 none further was is) (eqb one.0 v) refl
    where
      by : (one.0 < v → holds_on v j true (exchanges_from (answer s (Leave view joined now)).session opener items) ≡ false) → (b : Bool) → eqb one.0 v ≡ b → holds_on v j true (exchanges_from s opener (Did who (Leave view joined now) ∷ items)) ≡ false
      by later true same =
          let its : one.0 ≡ v = eqb-true one.0 v same in
          let by_view : eqb view v ≡ true = eq-eqb view v (made.0.1 ∙ its) in
          let by_join : eqb joined j ≡ true = eq-eqb joined j (made.0.2 ∙ (here.0.2 ∙ (ap (current log) its ∙ sym is))) in
          in_step (eqb who opener) (Answered (Leave view joined now) (answer s (Leave view joined now)).reply) (exchanges_from (answer s (Leave view joined now)).session opener items)
          true (eq-eqb who opener made.0.0) (both_true by_view by_join) refl
          (stays_out (answer s (Leave view joined now)).session views items made.1)
      by later false other =
          let further : one.0 < v = is_further log above one v here.0 lt was other in
          let by_view : eqb view v ≡ false = ap (λ (n : ℕ). eqb n v) made.0.1 ∙ other in
          in_step (eqb who opener) (Answered (Leave view joined now) (answer s (Leave view joined now)).reply) (exchanges_from (answer s (Leave view joined now)).session opener items)
          false (eq-eqb who opener made.0.0) (ap (λ (b : Bool). b && eqb joined j) by_view) refl
          (later further)
  given_up log above s (one ∷ views) (Did who (Join view now want) ∷ items) here made none lt was is = absurd made.0
  given_up log above s (one ∷ views) (Did who (Send view joined number payload now) ∷ items) here made none lt was is = absurd made.0
  given_up log above s (one ∷ views) (Did who (Tick now) ∷ items) here made none lt was is = absurd made.0
  given_up log above s (one ∷ views) (Did who (Offer view joined time bytes) ∷ items) here made none lt was is = absurd made.0
  given_up log above s (one ∷ views) (Did who (Pull after limit) ∷ items) here made none lt was is = absurd made.0

-- ---- the opener in a history

one_first : (c : ℕ) (xs ys : List Item) → (has_miss c xs ≡ true → has_miss c (xs ++ ys) ≡ true) → (b : Bool) → (b || has_miss c xs) ≡ true → (b || has_miss c (xs ++ ys)) ≡ true
one_first c xs ys later true some_of = refl
one_first c xs ys later false some_of = later some_of

miss_first : (c : ℕ) (xs ys : List Item) → has_miss c xs ≡ true → has_miss c (xs ++ ys) ≡ true
miss_first c [] ys some = absurd (cc (some))
miss_first c (Did who request ∷ xs) ys some = miss_first c xs ys some
miss_first c (Void who ∷ xs) ys some = one_first c xs ys (miss_first c xs ys) (eqb who c) some
miss_first c (Unkept who ∷ xs) ys some = one_first c xs ys (miss_first c xs ys) (eqb who c) some

and_both : (a b : Bool) → (a && b) ≡ true → (a ≡ true) × (b ≡ true)
and_both true b is = (refl, is)
and_both false b is = absurd (cc (is))

not_zero : (log : List Entry) (v : ℕ) → IsLegal log → is_here log v ≡ true → 0 < v
not_zero log v legal was =
    elim (cases_lt 0 v) [
      | inl lt ↦ lt
      | inr le ↦
          let none : is_here log v ≡ false = ap (is_here log) (zero_of v le) ∙ is_here-zero log legal in
          absurd (cc (none, was))
    ]
  where
    zero_of : (n : ℕ) → n ≤ 0 → n ≡ 0
    zero_of n le = omega arith

module _ (gives : ℕ → Type 0) (opening : PlainSession) (opener : ℕ) (history : List Item) (leaves : BeginsWithLeaves gives opening opener history) (legal : IsLegal opening.log) where
  opener_asked : exchanges_in opening history opener ≡ exchanges_from opening opener leaves.leaves
  opener_asked =
      ap (λ (h : List Item). exchanges_in opening h opener) (sym leaves.first) ∙ exchanges_same opening leaves.leaves leaves.rest opener leaves.others

  -- who held a view at first, or did not, holds it no more after its Leaves
  left_by : (v j : ℕ) (first : Bool) → opens_with opening opener opener v j ≡ first → has_miss opener leaves.leaves ≡ false
      → holds_on v j first (exchanges_from opening opener leaves.leaves) ≡ false
  left_by v j false is none = stays_out gives opener v j opening leaves.views leaves.leaves leaves.made
  left_by v j true is none =
      let held = and_both (eqb opener opener) (is_here opening.log v && eqb j (current opening.log v)) is in
      let its = and_both (is_here opening.log v) (eqb j (current opening.log v)) held.1 in
      given_up gives opener v j opening.log 0 opening leaves.views leaves.leaves leaves.here leaves.made none (not_zero opening.log v legal its.0) its.0 (eqb-true j (current opening.log v) its.1)

  -- where the opener still holds a view, one of its Leaves found no memory
  opener_miss : (v j : ℕ) → holds_in opening opener history opener v j ≡ true → has_miss opener history ≡ true
  opener_miss v j held = by (has_miss opener leaves.leaves) refl
    where
      by : (b : Bool) → has_miss opener leaves.leaves ≡ b → has_miss opener history ≡ true
      by true some = subst (λ (h : List Item). has_miss opener h ≡ true) leaves.first (miss_first opener leaves.leaves leaves.rest some)
      by false none =
          let gone : holds_on v j (opens_with opening opener opener v j) (exchanges_from opening opener leaves.leaves) ≡ false = left_by v j (opens_with opening opener opener v j) refl none in
          let still : holds_on v j (opens_with opening opener opener v j) (exchanges_from opening opener leaves.leaves) ≡ true =
          sym (ap (holds_on v j (opens_with opening opener opener v j)) opener_asked) ∙ held in
          absurd (cc (gone, still))

-- ---- all callers

module _ (gives : ℕ → Type 0) (id : SessionId) (opening : PlainSession) {L : Type 0} (links : LinksTell L) (history : List Item) where
  -- one of these callers that still holds a view has made a call without an answer
  miss_of : (v j : ℕ) (connections : List (ServedConnection L)) (c : ℕ) → AllByRecursion (HasTalk gives id opening links history) connections → has c (callers_of connections) ≡ true
      → holds v j (exchanges_in opening history c) ≡ true → has_miss c history ≡ true
  miss_of v j [] c talks own held = absurd (cc (own))
  miss_of v j (one ∷ rest) c talks own held = by (miss_of v j rest c talks.1) (eqb c one.caller) refl own
    where
      by : (has c (callers_of rest) ≡ true → holds v j (exchanges_in opening history c) ≡ true → has_miss c history ≡ true) → (b : Bool) → eqb c one.caller ≡ b
          → (b || has c (callers_of rest)) ≡ true → has_miss c history ≡ true
      by further true is mine =
          let same : c ≡ one.caller = eqb-true c one.caller is in
          subst (λ (n : ℕ). has_miss n history ≡ true) (sym same)
          (talk_holds gives id opening history one.caller one.heard one.sent one.ended v j talks.0.talk (subst (λ (n : ℕ). holds v j (exchanges_in opening history n) ≡ true) same held))
      by further false is mine = further mine held

  -- who holds a view held it at first, or has made a call
  among : (opener : ℕ) (callers : List ℕ) (v j c : ℕ) → ((n : ℕ) → has n (opener ∷ callers) ≡ false → calls_of (n ∷ []) history ≡ []) → holds_in opening opener history c v j ≡ true
      → (b : Bool) → has c (opener ∷ callers) ≡ b → has c (opener ∷ callers) ≡ true
  among opener callers v j c others held true is = is
  among opener callers v j c others held false is =
      let other : opens_with opening opener c v j ≡ false = ap (λ (b : Bool). b && (is_here opening.log v && eqb j (current opening.log v))) (or_first (eqb c opener) (has c callers) is) in
      let nothing : holds_in opening opener history c v j ≡ false =
      ap (λ (b : Bool). holds_on v j b (exchanges_in opening history c)) other ∙ ap (holds_on v j false) (exchanges_none opening c history (others c is)) in
      absurd (cc (nothing, held))

  pub stays_by_miss : (opener : ℕ) (connections : List (ServedConnection L)) → IsLegal opening.log → BeginsWithLeaves gives opening opener history
      → AllByRecursion (HasTalk gives id opening links history) connections
      → ((n : ℕ) → has n (opener ∷ callers_of connections) ≡ false → calls_of (n ∷ []) history ≡ []) → StaysByMiss opening opener (callers_of connections) history (play_from opening history).log
  stays_by_miss opener connections legal leaves talks others view here =
      let someone = held_by_someone opening opener history view here in
      let own = among opener (callers_of connections) view (current (play_from opening history).log view) someone.0 others someone.1 (has someone.0 (opener ∷ callers_of connections)) refl in
      (someone.0, own, someone.1, by someone.0 own someone.1 (eqb someone.0 opener) refl)
    where
      by : (c : ℕ) → has c (opener ∷ callers_of connections) ≡ true → holds_in opening opener history c view (current (play_from opening history).log view) ≡ true
          → (b : Bool) → eqb c opener ≡ b → has_miss c history ≡ true
      by c own held true is =
          let same : c ≡ opener = eqb-true c opener is in
          subst (λ (n : ℕ). has_miss n history ≡ true) (sym same)
          (opener_miss gives opening opener history leaves legal view (current (play_from opening history).log view)
          (subst (λ (n : ℕ). holds_in opening opener history n view (current (play_from opening history).log view) ≡ true) same held))
      by c own held false is =
          let mine : has c (callers_of connections) ≡ true = sym (ap (λ (b : Bool). b || has c (callers_of connections)) is) ∙ own in
          let from_none : opens_with opening opener c view (current (play_from opening history).log view) ≡ false =
          ap (λ (b : Bool). b && (is_here opening.log view && eqb (current (play_from opening history).log view) (current opening.log view))) is in
          miss_of view (current (play_from opening history).log view) connections c talks mine
          (sym (ap (λ (b : Bool). holds_on view (current (play_from opening history).log view) b (exchanges_in opening history c)) from_none) ∙ held)
