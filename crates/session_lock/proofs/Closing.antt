-- A pass that holds all numbers, where the lock is closed.
use Rattle.std.proofs.Common.{◌≡◌, ℕ, zero, suc, ◌+◌, ◌<◌, ◌≢◌, Bool, true, false, ◌||◌, eqb, List, [], ◌∷◌, length, if◌then◌else◌, None, sym, refl, ap, ◌∙◌, subst, arith}
use Rattle.std.proofs.lemmas.Bool.Decides.{nat_tests}
use mathlib.Core.Logic.{dite}
use mathlib.Core.Option.{some, some-injective}
use native.Mathlib.Decide.{ℕ_discrete}
use lib.ListN.{get_elem?}
use Rattle.atomic_table.specs.Table.{State, Seen, Final, opening}
use Rattle.reflector_core.specs.PlainSession.{PlainSession, IsSoundSession}
use Rattle.reflector_core.proofs.PlayLaws.{TellsItsEvents-all}
use Rattle.reflector_core.specs.Play.{replies_from, TellsItsEvents}
use Rattle.reflector_core.specs.declared.request.Request.{Request}
use Rattle.session_lock.specs.declared.knowledge.Item.{Item}
use Rattle.session_lock.specs.declared.knowledge.Knowledge.{Knowledge}
use Rattle.session_lock.specs.declared.held.KeptSession.{KeptSession}
use Rattle.atomic_table.specs.Seated.{TableId}
use Rattle.reflector_core.specs.Keeping.{IsCovered}
use Rattle.session_lock.specs.Keeping.{IsFirstKept, KeepsHoped, KeepsPlay}
use Rattle.session_lock.specs.Passes.{PassState, pass_state}
use Rattle.session_lock.proofs.KeepingLaws.{hoped_first, keeps_play}
use Rattle.std.proofs.lemmas.List.{append-nil}
use Rattle.session_lock.specs.History.{has, caller_of, calls_of, Saw, play_from, history_requests, IsSoundThrough}
use Rattle.session_lock.specs.Numbers.{times, one_between}
use Rattle.session_lock.specs.Rules.{all_numbers, views_total, has_ticket, one_if, one_if_some, is_holding, is_hoping, calls_as, holds_number, number_count, Every, PartsFit, KnowsOpening, HoldsInTurn, MayHope, SpentHoldsNothing, PlaysWell, IsHome, IsInOrder, Locks, first_knowledge, no_part}
use Rattle.session_lock.proofs.Totals.{total_two, total_none, total_only}
use Rattle.session_lock.proofs.Ranges.{none_in}
use Rattle.session_lock.proofs.Histories.{has_own, none_behind, sound_end, play_requests}
use Rattle.session_lock.proofs.StepLaws.{not_holding, part_none, has_callers}

no_calls : (l : List ℕ) → length l ≡ 0 → (n : ℕ) → times n l ≡ 0
no_calls [] e n = refl
no_calls (x ∷ xs) e n = absurd (omega arith)

times_has : (n : ℕ) (cs : List ℕ) → has n cs ≡ false → times n cs ≡ 0
times_has n [] e = refl
times_has n (m ∷ ms) e = times_step (eqb n m) (has n ms) (times n ms) e (times_has n ms)
  where
    times_step : (b h : Bool) (t : ℕ) → (b || h) ≡ false → (h ≡ false → t ≡ 0) → (if b then 1 else 0) + t ≡ 0
    times_step true h t e go = absurd (cc (e))
    times_step false h t e go = let r = go e in omega (arith, r)

no_numbers : (n : ℕ) (u : Knowledge) → number_count u ≡ 0 → holds_number n u ≡ 0
no_numbers n u e = let a = no_calls u.callers (omega (arith, e)) n in let b = none_in n u.spare (omega (arith, e)) in omega (arith, a, b)

-- where who made no call has none in the history, the calls are the whole history
all_calls : (cs : List ℕ) (history : List Item) → ((n : ℕ) → times n cs ≡ 0 → calls_of (n ∷ []) history ≡ []) → calls_of cs history ≡ history
all_calls cs [] h = refl
all_calls cs (x ∷ xs) h =
    let rec : calls_of cs xs ≡ xs = all_calls cs xs (λ n none_of. none_behind (has (caller_of x) (n ∷ [])) x (calls_of (n ∷ []) xs) (h n none_of)) in
    all_step (has (caller_of x) cs) refl rec
  where
    all_step : (b : Bool) → has (caller_of x) cs ≡ b → calls_of cs xs ≡ xs → (if b then x ∷ calls_of cs xs else calls_of cs xs) ≡ x ∷ xs
    all_step true is rec = ap (λ (l : List Item). x ∷ l) rec
    all_step false is rec =
        let own : has (caller_of x) (caller_of x ∷ []) ≡ true = has_own (caller_of x) [] in
        let e : (if true then x ∷ calls_of (caller_of x ∷ []) xs else calls_of (caller_of x ∷ []) xs) ≡ [] = ap (λ (b : Bool). if b then x ∷ calls_of (caller_of x ∷ []) xs else calls_of (caller_of x ∷ []) xs) (sym own) ∙ h (caller_of x) (times_has (caller_of x) cs is) in
        absurd (cc (e))

none_there : (l : List ℕ) → length l ≡ 0 → l ≡ []
none_there [] e = refl
none_there (x ∷ xs) e = absurd (omega arith)

none_there_items : (l : List Item) → length l ≡ 0 → l ≡ []
none_there_items [] e = refl
none_there_items (x ∷ xs) e = absurd (omega arith)

module _ {K : Type 0} (Trusted : PlainSession → Type 0) (Keeps : PlainSession → List Item → List Item → Bool → KeptSession K → Type 0) (history pending : List Item) (lost : Bool) (s : State (KeptSession K) Knowledge) (k : IsInOrder Trusted Keeps history pending lost s) (id : ℕ) (v : Knowledge) (at : get_elem? s.views id ≡ some v) (whole : number_count v ≡ all_numbers) (free : v.holding ≡ false) (no_hope : v.hopes ≡ None) where
  others_none : (j : ℕ) (u : Knowledge) → get_elem? s.views j ≡ some u → j ≢ id → number_count u ≡ 0
  others_none j u atj ne = let both = total_two number_count s.views j id u v atj at ne in let all = k.whole in omega (arith, both, all, whole)

  same_view : (j : ℕ) (u : Knowledge) → get_elem? s.views j ≡ some u → j ≡ id → u ≡ v
  same_view j u atj is = some-injective u v (sym atj ∙ (ap (λ (n : ℕ). get_elem? s.views n) is ∙ at))

  pub all_seen : v.seen ≡ history
  all_seen = let t = k.told in dite (ℕ_discrete t.0 id)
      (λ is. ap (λ (u : Knowledge). u.seen) (sym (same_view t.0 t.1 t.2 is)) ∙ t.3)
      (λ ne. let none_held = others_none t.0 t.1 t.2 ne in let some_held = t.4 in absurd (omega (arith, none_held, some_held)))

  pub its_opening : k.opening ≡ v.opening
  its_opening = let t = k.told in sym (k.opened id v at (dite (ℕ_discrete t.0 id)
      (λ is. subst (λ (u : Knowledge). 0 < length u.callers) (same_view t.0 t.1 t.2 is) t.4)
      (λ ne. let none_held = others_none t.0 t.1 t.2 ne in let some_held = t.4 in absurd (omega (arith, none_held, some_held)))))

  pub at_home : IsHome Keeps k.opening history pending lost s.homes
  at_home = k.home (total_none is_holding s.views (λ j u e. dite (ℕ_discrete j id)
      (λ is. ap (λ (z : Knowledge). one_if z.holding) (same_view j u e is) ∙ ap one_if free)
      (λ ne. not_holding Trusted Keeps u.holding (λ holds. let none_held = others_none j u e ne in let some_held = (k.turn j u e holds).caller in absurd (omega (arith, none_held, some_held))))))

  -- nothing is pending, since nobody waits
  pub none_pending : pending ≡ []
  none_pending =
      let nobody : views_total is_hoping s.views ≡ 0 = total_none is_hoping s.views (λ j u e. dite (ℕ_discrete j id)
      (λ is. ap (λ (z : Knowledge). one_if_some z.hopes) (same_view j u e is) ∙ ap one_if_some no_hope)
      (λ ne. ap one_if_some (k.spent j u e (none_there u.callers (let none_held = others_none j u e ne in omega (arith, none_held)))).3)) in
      none_there_items pending (let most = k.waits in omega (arith, most, nobody))

  pub all_own : calls_of v.callers history ≡ history
  all_own = all_calls v.callers history (λ n none_of. k.called n (total_none (calls_as n) s.views (λ j u e. dite (ℕ_discrete j id)
      (λ is. ap (calls_as n) (same_view j u e is) ∙ none_of)
      (λ ne. let none_held = others_none j u e ne in no_calls u.callers (omega (arith, none_held)) n))))

  -- it holds each number
  pub holds_each : (n : ℕ) → holds_number n v ≡ one_between 0 all_numbers n
  holds_each n = sym (total_only (holds_number n) s.views id v at (λ j u atj ne. no_numbers n u (others_none j u atj ne))) ∙ k.numbers n

-- the session in the end was asked all that was seen, and nothing is pending; the rest is as the rule has it
pub record IsClosed {K : Type 0} (Trusted : PlainSession → Type 0) (Keeps : PlainSession → List Item → List Item → Bool → KeptSession K → Type 0) (v : Knowledge) (x : KeptSession K) : Type 0 where
  pub lost : Bool
  pub keeps : Keeps v.opening v.seen [] lost x
  pub own : calls_of v.callers v.seen ≡ v.seen
  pub well : PlaysWell Trusted v.opening v.seen
  pub holds : (n : ℕ) → holds_number n v ≡ one_between 0 all_numbers n

pub closed : {K : Type 0} (Trusted : PlainSession → Type 0) (Keeps : PlainSession → List Item → List Item → Bool → KeptSession K → Type 0) (id : ℕ) (v : Knowledge) (words : List ℕ) (slots : List (KeptSession K)) (x : KeptSession K) → Final (Seen (Locks Trusted Keeps) id v) words slots → number_count v ≡ all_numbers → v.holding ≡ false → v.hopes ≡ None → get_elem? slots 0 ≡ some x
    → IsClosed Trusted Keeps v x
closed {K} Trusted Keeps id v words slots x f whole free no_hope is =
    let s = f.0 in
    let history : List Item = f.1.0.0 in
    let pending : List Item = f.1.0.1 in
    let lost : Bool = f.1.0.2 in
    let k : IsInOrder Trusted Keeps history pending lost s = f.1.0.3 in
    let at : get_elem? s.views id ≡ some v = f.1.1 in
    let seen : v.seen ≡ history = all_seen Trusted Keeps history pending lost s k id v at whole free no_hope in
    let same : k.opening ≡ v.opening = its_opening Trusted Keeps history pending lost s k id v at whole free no_hope in
    let none : pending ≡ [] = none_pending Trusted Keeps history pending lost s k id v at whole free no_hope in
    let home : IsHome Keeps k.opening history pending lost s.homes = at_home Trusted Keeps history pending lost s k id v at whole free no_hope in
    let there : get_elem? slots 0 ≡ some home.there = f.4 0 home.there (ap (λ (l : List (mathlib.Core.Option.Option (KeptSession K))). get_elem? l 0) home.at) in
    let is_there : home.there ≡ x = some-injective home.there x (sym there ∙ is) in
    record {
      lost = lost;
      keeps = subst (λ (z : (PlainSession × List Item) × (List Item × KeptSession K)). Keeps z.0.0 z.0.1 z.1.0 lost z.1.1) (λ i. ((same i, sym seen i), (none i, is_there i))) home.keeps;
      own = ap (calls_of v.callers) seen ∙ (all_own Trusted Keeps history pending lost s k id v at whole free no_hope ∙ sym seen);
      well = subst (λ (z : PlainSession × List Item). PlaysWell Trusted z.0 z.1) (λ i. (same i, sym seen i)) (k.trusted, k.sound);
      holds = holds_each Trusted Keeps history pending lost s k id v at whole free no_hope;
    }

-- what a contract sees of this
pub keeps_closed : {K : Type 0} (holds writes : K → PlainSession → Type 0) (shut : K → Type 0) (faults : K → ℕ) (first first' : ℕ) (z : TableId) (v : Knowledge) (p : PassState) (lost : Bool) (kept : KeptSession K) (k' : K) → first ≡ first' → pass_state z v ≡ p → k' ≡ kept.keeper
    → KeepsHoped holds writes shut faults first v.opening v.seen [] lost kept → KeepsPlay holds shut faults first' p.opening p.seen k'
keeps_closed {K} holds writes shut faults first first' z v p lost kept k' first_is view is keeps =
    subst (λ (t : (ℕ × K) × PassState). KeepsPlay holds shut faults t.0.0 t.1.opening t.1.seen t.0.1) (λ i. ((first_is i, sym is i), view i)) (keeps_play holds writes shut faults first v.opening v.seen lost kept keeps)

-- the session in the end is the play of what was seen
pub plays_closed : {K : Type 0} (holds writes : K → PlainSession → Type 0) (shut : K → Type 0) (faults : K → ℕ) (first : ℕ) (v : Knowledge) (lost : Bool) (kept : KeptSession K) → KeepsHoped holds writes shut faults first v.opening v.seen [] lost kept → kept.session ≡ play_from v.opening v.seen
plays_closed holds writes shut faults first v lost kept keeps = keeps.plays ∙ ap (play_from v.opening) (append-nil v.seen)

-- what the log of a session that is a play has of its events
pub plays_events : (s opening : PlainSession) (history : List Item) → s ≡ play_from opening history → IsSoundThrough opening history → TellsItsEvents opening.log (history_requests history) (replies_from opening (history_requests history)) s.log
plays_events s opening history is sound =
    let requests : List Request = history_requests history in
    TellsItsEvents-all opening s requests (replies_from opening requests) (subst IsSoundSession (sym is) (sound_end opening history sound)) refl (is ∙ play_requests opening history)

every_one : (P : Knowledge → Type 0) (v : Knowledge) → P v → Every P (v ∷ [])
every_one P v p zero u e = subst P (some-injective v u e) p
every_one P v p (suc j) u e = absurd (mathlib.Core.Option.some-ne-none u (sym e))

module _ (o : PlainSession) where
  first_numbers : (n : ℕ) → views_total (holds_number n) (first_knowledge o ∷ []) ≡ one_between 0 all_numbers n
  first_numbers n = grind (arith, nat_tests)

  no_tickets : (t : ℕ) → views_total (has_ticket t) (first_knowledge o ∷ []) ≡ one_between 0 0 t
  no_tickets t = grind (arith, nat_tests)

  pub opens : {K : Type 0} (Trusted : PlainSession → Type 0) (Keeps : PlainSession → List Item → List Item → Bool → KeptSession K → Type 0) (slots : List (KeptSession K)) (there : KeptSession K) → slots ≡ there ∷ [] → Keeps o [] [] false there → Trusted o → IsSoundSession o
      → Locks Trusted Keeps (opening (0 ∷ 0 ∷ 0 ∷ []) slots (first_knowledge o))
  opens {K} Trusted Keeps slots there e keeps at_first o_sound = subst (λ (l : List (KeptSession K)). Locks Trusted Keeps (opening (0 ∷ 0 ∷ 0 ∷ []) l (first_knowledge o))) (sym e) (
    [],
    [],
    false,
    record {
      opening = o;
      opened = every_one (KnowsOpening o) (first_knowledge o) (λ _. refl);
      next = 0;
      serving = 0;
      words = refl;
      room = omega arith;
      order = omega arith;
      count = omega arith;
      tickets = no_tickets;
      numbers = first_numbers;
      whole = omega arith;
      seen = every_one (λ u. Saw u.callers u.seen []) (first_knowledge o) ([], refl, refl);
      parts = every_one (PartsFit []) (first_knowledge o) (part_none [] (first_knowledge o) no_part refl, part_none [] (first_knowledge o) no_part refl);
      told = (0, first_knowledge o, refl, refl, omega arith);
      called = λ n none_of. refl;
      turn = every_one (HoldsInTurn 0 [] [] false) (first_knowledge o) (λ h. absurd (cc (h)));
      spent = every_one SpentHoldsNothing (first_knowledge o) (has_callers (first_knowledge o) (omega arith));
      hopes = every_one (λ u. MayHope [] [] false u.hopes) (first_knowledge o) tt;
      waits = omega arith;
      trusted = at_first;
      sound = o_sound;
      well = (o_sound, at_first);
      home = λ nobody. record { there = there; at = refl; keeps = keeps };
      away = λ one. absurd (omega (arith, one));
    },
  )

-- the lock is made: its key knows what it began with
pub opens_kept : {K : Type 0} (holds writes : K → PlainSession → Type 0) (shut : K → Type 0) (faults : K → ℕ) (Trusted : PlainSession → Type 0) (slots : List (KeptSession K)) (kept marked : KeptSession K) (s : PlainSession) (keeper : K) → marked ≡ kept → IsFirstKept kept s keeper → slots ≡ kept ∷ []
    → IsCovered (holds keeper) s.kept s → IsCovered (writes keeper) s.kept s → (shut keeper → ⊥) → Trusted s → IsSoundSession kept.session → Locks Trusted (KeepsHoped holds writes shut faults (faults marked.keeper)) (opening (0 ∷ 0 ∷ 0 ∷ []) slots (first_knowledge marked.session))
opens_kept {K} holds writes shut faults Trusted slots kept marked s keeper e is there covered written unshut at_first sound =
    let sound_now : IsSoundSession s = subst IsSoundSession is.session sound in
    let keeps : KeepsHoped holds writes shut faults (faults kept.keeper) s [] [] false kept =
    hoped_first holds writes shut faults (faults kept.keeper) s keeper kept is covered written unshut sound_now (ap faults is.keeper_is) in
    subst (λ (t : KeptSession K × PlainSession). Locks Trusted (KeepsHoped holds writes shut faults (faults t.0.keeper)) (opening (0 ∷ 0 ∷ 0 ∷ []) slots (first_knowledge t.1))) (λ i. (sym e i, (sym is.session ∙ ap (λ (k : KeptSession K). k.session) (sym e)) i))
    (opens s Trusted (KeepsHoped holds writes shut faults (faults kept.keeper)) slots kept there keeps at_first sound_now)
