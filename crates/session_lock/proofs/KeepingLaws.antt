-- The keeper keeps pace with a history.
use Rattle.std.proofs.Common.{◌≡◌, ◌⊎◌, inl, inr, ℕ, ◌+◌, ◌-◌, ◌^◌, ◌≤◌, ◌<◌, Bool, true, false, ◌||◌, List, [], ◌∷◌, ◌++◌, length, take, Some, None, Result, Ok, Err, IfOk, OnErr, sym, refl, ap, ◌∙◌, subst, arith, append_assoc, length-append}
use Rattle.std.proofs.lemmas.List.{append-nil, take_at}
use Rattle.tea_io.specs.Told.{Rose}
use Rattle.tea_base.specs.declared.entry.Entry.{Entry}
use Rattle.reflector_core.specs.PlainSession.{PlainSession, IsSoundSession}
use Rattle.reflector_core.specs.Answer.{SessionOutcome, answer, with_reply}
use Rattle.reflector_core.specs.Growth.{GrowsTo}
use Rattle.reflector_core.specs.Keeping.{Covers, HasCause, HoldsStill, IsCovered, KeepsPace, ShutsByFault, back_to, mark_of}
use Rattle.reflector_core.specs.declared.keeper.CallFault.{CallFault}
use Rattle.reflector_core.specs.declared.keeper.CallFault.TheVariants as fault
use Rattle.reflector_core.specs.declared.request.Reply.{Reply}
use Rattle.reflector_core.specs.declared.request.Request.{Request}
use Rattle.reflector_core.specs.declared.session.going_back.Mark.{Mark}
use Rattle.reflector_core.proofs.GrowthLaws.{GrowsTo-answer, GrowsTo-same}
use Rattle.session_lock.specs.declared.held.KeptSession.{KeptSession}
use Rattle.session_lock.specs.declared.knowledge.Item.{Item}
use Rattle.session_lock.specs.declared.knowledge.Item.TheVariants.{Did, Void, Unkept}
use Rattle.session_lock.specs.History.{after_item, play_from, is_unkept, has_unkept, item_of, Stays, StopsAtUnkept}
use Rattle.session_lock.specs.declared.held.Waiting.TheVariants.{Ended}
use Rattle.session_lock.specs.Keeping.{CanGoBack, GoesBack, HasCounts, HasSettled, HasTried, HoldsPlay, IsFirstKept, KeepsHoped, KeepsPlay, WasAsked}
use Rattle.session_lock.proofs.Histories.{play_snoc}

-- ---- one item more of a history that stops

stays_play : (s : PlainSession) (xs : List Item) → Stays s xs → play_from s xs ≡ s
stays_play s [] stays = refl
stays_play s (x ∷ xs) stays = ap (λ (t : PlainSession). play_from t xs) stays.0 ∙ stays_play s xs stays.1

stays_more : (s : PlainSession) (xs : List Item) (x : Item) → Stays s xs → after_item s x ≡ s → Stays s (xs ++ x ∷ [])
stays_more s [] x stays same = (same, tt)
stays_more s (y ∷ ys) x stays same = (stays.0, stays_more s ys x stays.1 same)

stops_first : (s : PlainSession) (x : Item) → StopsAtUnkept s (x ∷ [])
stops_first s (Did caller request) = tt
stops_first s (Void caller) = tt
stops_first s (Unkept caller) = tt

pub stops_more : (s : PlainSession) (xs : List Item) (x : Item) → StopsAtUnkept s xs → (has_unkept xs ≡ true → after_item (play_from s xs) x ≡ play_from s xs) → StopsAtUnkept s (xs ++ x ∷ [])
stops_more s [] x stops same = stops_first s x
stops_more s (Did caller request ∷ xs) x stops same = stops_more (answer s request).session xs x stops same
stops_more s (Void caller ∷ xs) x stops same = stops_more s xs x stops same
stops_more s (Unkept caller ∷ xs) x stops same =
    let at : play_from s xs ≡ s = stays_play s xs stops in
    stays_more s xs x stops (ap (λ (t : PlainSession). after_item t x) (sym at) ∙ (same refl ∙ at))

unkept_more : (xs : List Item) (x : Item) → has_unkept (xs ++ x ∷ []) ≡ true → (has_unkept xs ≡ true) ⊎ (is_unkept x ≡ true)
unkept_more [] x is = by (is_unkept x) is
  where
    by : (b : Bool) → (b || false) ≡ true → (false ≡ true) ⊎ (b ≡ true)
    by true is = inr refl
    by false is = inl is
unkept_more (y ∷ ys) x is = later (is_unkept y) (has_unkept ys) (has_unkept (ys ++ x ∷ [])) is (unkept_more ys x)
  where
    later : (b c d : Bool) → (b || d) ≡ true → (d ≡ true → (c ≡ true) ⊎ (is_unkept x ≡ true)) → ((b || c) ≡ true) ⊎ (is_unkept x ≡ true)
    later true c d is rest = inl refl
    later false c d is rest = rest is

-- ---- a beginning of a history that stops

stays_first : (s : PlainSession) (xs ys : List Item) → Stays s (xs ++ ys) → Stays s xs
stays_first s [] ys stays = tt
stays_first s (x ∷ xs) ys stays = (stays.0, stays_first s xs ys stays.1)

stops_start : (s : PlainSession) (xs ys : List Item) → StopsAtUnkept s (xs ++ ys) → StopsAtUnkept s xs
stops_start s [] ys stops = tt
stops_start s (Did caller request ∷ xs) ys stops = stops_start (answer s request).session xs ys stops
stops_start s (Void caller ∷ xs) ys stops = stops_start s xs ys stops
stops_start s (Unkept caller ∷ xs) ys stops = stays_first s xs ys stops

-- ---- lists

none_long : (xs : List Item) → length xs ≡ 0 → xs ≡ []
none_long [] e = refl
none_long (x ∷ xs) e = absurd (omega arith)

none_first : (xs ys : List Item) → xs ++ ys ≡ [] → xs ≡ []
none_first [] ys e = refl
none_first (x ∷ xs) ys e = absurd (cc (e))

-- behind a history of so many, the first of what is pending
first_of : (sure unsure : List Item) (item : Item) (rest : List Item) → item ∷ rest ≡ sure ++ unsure → 0 < length sure → (more : List Item) × (sure ≡ item ∷ more) × (rest ≡ more ++ unsure)
first_of [] unsure item rest e some = absurd (omega arith)
first_of (x ∷ more) unsure item rest e some = let same : item ≡ x = cc (e) in let others : rest ≡ more ++ unsure = cc (e) in (more, ap (λ (y : Item). y ∷ more) (sym same), others)

-- ---- one item more of a history that a keeper keeps

-- what holds the play of a history holds that of another one that goes on from it to the same
same_play : (holds : PlainSession → Type 0) (o : PlainSession) (history history' more : List Item) → history ++ more ≡ history' → play_from o history ≡ play_from o history' → HoldsPlay holds o history → HoldsPlay holds o history'
same_play holds o history history' more longer same plays = record {
  held = plays.held;
  is_held = plays.is_held;
  covers = subst (λ (t : PlainSession). Covers t plays.held) same plays.covers;
  beginning = plays.beginning;
  rest = plays.rest ++ more;
  whole = sym (append_assoc plays.beginning plays.rest more) ∙ ap (λ (l : List Item). l ++ more) plays.whole ∙ longer;
  kept = plays.kept;
}

still_play : (old new : PlainSession → Type 0) (o : PlainSession) (history : List Item) → HoldsStill old new → HoldsPlay old o history → HoldsPlay new o history
still_play old new o history still plays = record {
  held = plays.held;
  is_held = still plays.held plays.is_held;
  covers = plays.covers;
  beginning = plays.beginning;
  rest = plays.rest;
  whole = plays.whole;
  kept = plays.kept;
}

first_play : (holds : PlainSession → Type 0) (o : PlainSession) → IsCovered holds o.kept o → HoldsPlay holds o []
first_play holds o covered = record {
  held = covered.held;
  is_held = covered.is_held;
  covers = covered.covers;
  beginning = [];
  rest = [];
  whole = refl;
  kept = elim covered.kept [ inl e ↦ e | inr e ↦ e ];
}

-- what is covered after one item more
holds_more : (old new : PlainSession → Type 0) (o : PlainSession) (history : List Item) (x : Item) → (plays : HoldsPlay old o history) → IsCovered new plays.held.kept (after_item (play_from o history) x) → HoldsPlay new o (history ++ x ∷ [])
holds_more old new o history x plays c =
    let covers : Covers (play_from o (history ++ x ∷ [])) c.held = subst (λ (t : PlainSession). Covers t c.held) (sym (play_snoc o history x)) c.covers in
    elim c.kept [
      | inl e ↦
          record {
            held = c.held;
            is_held = c.is_held;
            covers = covers;
            beginning = plays.beginning;
            rest = plays.rest ++ x ∷ [];
            whole = sym (append_assoc plays.beginning plays.rest (x ∷ [])) ∙ ap (λ (l : List Item). l ++ x ∷ []) plays.whole;
            kept = e ∙ plays.kept;
          }
      | inr e ↦
          record {
            held = c.held;
            is_held = c.is_held;
            covers = covers;
            beginning = history ++ x ∷ [];
            rest = [];
            whole = append-nil (history ++ x ∷ []);
            kept = e ∙ ap (λ (t : PlainSession). t.kept) (sym (play_snoc o history x));
          }
    ]

-- ---- a session that goes back

goes_back_here : (s : PlainSession) → GoesBack (mark_of s) s s
goes_back_here s = record { rest = []; log = sym (append-nil s.log); len = refl; horizon = refl; kept = refl }

goes_back_more : (mark : Mark) (s t earlier : PlainSession) → GrowsTo s t → t.kept ≡ s.kept → GoesBack mark s earlier → GoesBack mark t earlier
goes_back_more mark s t earlier grows kept back = record {
  rest = back.rest ++ grows.rest;
  log = grows.log ∙ ap (λ (l : List Entry). l ++ grows.rest) back.log ∙ append_assoc earlier.log back.rest grows.rest;
  len = back.len;
  horizon = back.horizon;
  kept = kept ∙ back.kept;
}

-- it is what it was
back_is : (mark : Mark) (s earlier : PlainSession) → GoesBack mark s earlier → back_to mark s ≡ earlier
back_is mark s earlier back =
    let front : take mark.len s.log ≡ earlier.log = ap (take mark.len) back.log ∙ take_at earlier.log back.rest mark.len (sym back.len) in
    λ i. record { log = front i; horizon = back.horizon i; kept = back.kept i }

-- ---- what a call adds

item_after : (s t : PlainSession) (caller : ℕ) (request : Request) (result : Result Reply CallFault) → IfOk result (λ reply. with_reply t reply ≡ answer s request) → OnErr result (t ≡ s) → t ≡ after_item s (item_of caller request result)
item_after s t caller request (Ok reply) ok err = ap (λ (o : SessionOutcome). o.session) ok
item_after s t caller request (Err fault.WantOfMemory) ok err = err
item_after s t caller request (Err fault.Unkept) ok err = err

item_grows : (s : PlainSession) (x : Item) → GrowsTo s (after_item s x)
item_grows s (Did caller request) = GrowsTo-answer s request
item_grows s (Void caller) = GrowsTo-same s
item_grows s (Unkept caller) = GrowsTo-same s

item_unkept : (caller : ℕ) (due : Reply) (shut : Type 0) (request : Request) (result : Result Reply CallFault) → HasCause due shut result → is_unkept (item_of caller request result) ≡ true → shut
item_unkept caller due shut request (Ok reply) cause is = absurd (cc (is))
item_unkept caller due shut request (Err fault.WantOfMemory) cause is = absurd (cc (is))
item_unkept caller due shut request (Err fault.Unkept) cause is = cause.1

not_true : (b : Bool) → (b ≡ true → ⊥) → b ≡ false
not_true true never = absurd (never refl)
not_true false never = refl

rose_later : (first old new : ℕ) → Rose first old → old ≤ new → Rose first new
rose_later first old new rose le = omega (arith, rose, le)

rose_from : (first old new : ℕ) → first ≤ old → Rose old new → Rose first new
rose_from first old new le rose = omega (arith, rose, le)

-- what is held where all is settled
all_held : {K : Type 0} (holds writes : K → PlainSession → Type 0) (keeper : K) (o : PlainSession) (history : List Item) → HoldsStill (writes keeper) (holds keeper) → HoldsPlay (writes keeper) o history → HoldsPlay (holds keeper) o history
all_held holds writes keeper o history all plays = still_play (writes keeper) (holds keeper) o history all plays

-- what is told of a keeper that nobody has asked
pub keeps_first : {K : Type 0} (holds : K → PlainSession → Type 0) (shut : K → Type 0) (faults : K → ℕ) (first : ℕ) (opening : PlainSession) (keeper : K) → IsCovered (holds keeper) opening.kept opening → (shut keeper → ⊥) → first ≡ faults keeper → KeepsPlay holds shut faults first opening [] keeper
keeps_first holds shut faults first opening keeper covered unshut is = record {
  plays = first_play (holds keeper) opening covered;
  later = omega (arith, is);
  shuts = λ shuts. absurd (unshut shuts);
  unkept = λ e. absurd (cc (e));
  stops = tt;
}

module _ {K : Type 0} (holds writes : K → PlainSession → Type 0) (shut : K → Type 0) (faults : K → ℕ) (first : ℕ) where
  pub hoped_first : (opening : PlainSession) (keeper : K) (kept : KeptSession K) → IsFirstKept kept opening keeper → IsCovered (holds keeper) opening.kept opening → IsCovered (writes keeper) opening.kept opening → (shut keeper → ⊥) → IsSoundSession opening → first ≡ faults keeper
      → KeepsHoped holds writes shut faults first opening [] [] false kept
  hoped_first opening keeper kept is covered written unshut sound count = record {
    plays = is.session;
    done = is.counts.0;
    asked = is.counts.2;
    is_lost = is.whole;
    sure = [];
    unsure = [];
    all = refl;
    safe = is.counts.1;
    sound = sound;
    held = subst (λ (k : K). HoldsPlay (holds k) opening []) (sym is.keeper_is) (first_play (holds keeper) opening covered);
    written = λ _ _. subst (λ (k : K). HoldsPlay (writes k) opening []) (sym is.keeper_is) (first_play (writes keeper) opening written);
    back = subst (λ (t : Mark × PlainSession). GoesBack t.0 t.1 opening) (λ i. (sym is.mark i, sym is.session i)) (goes_back_here opening);
    gone = λ e. absurd (cc (e));
    later = let e = ap faults is.keeper_is in omega (arith, count, e);
    shuts = λ shuts. absurd (unshut (subst shut is.keeper_is shuts));
    unkept = λ e. absurd (cc (e));
    stops = tt;
  }

  -- ---- a session that is settled for who waits

  pub can_go_back : (opening : PlainSession) (history pending : List Item) (lost : Bool) (kept : KeptSession K) → KeepsHoped holds writes shut faults first opening history pending lost kept → CanGoBack kept
  can_go_back opening history pending lost kept keeps =
      let back = keeps.back in
      let long : length kept.session.log ≡ length (play_from opening (history ++ keeps.sure)).log + length back.rest = ap length back.log ∙ length-append (play_from opening (history ++ keeps.sure)).log back.rest in
      record {
        within = omega (arith, back.len, long);
        sound = subst IsSoundSession (sym (back_is kept.mark kept.session (play_from opening (history ++ keeps.sure)) back)) keeps.sound;
      }

  pub has_counts : (opening : PlainSession) (history pending : List Item) (lost : Bool) (kept : KeptSession K) (most : ℕ) → KeepsHoped holds writes shut faults first opening history pending lost kept → length history + length pending ≤ most → most < 2 ^ 64 - 1 → HasCounts kept
  has_counts opening history pending lost kept most keeps few small =
      let long : length pending ≡ length keeps.sure + length keeps.unsure = ap length keeps.all ∙ length-append keeps.sure keeps.unsure in
      record { done = omega (arith, keeps.done, keeps.asked); safe = omega (arith, keeps.safe, keeps.asked, long); room = omega (arith, keeps.asked, few, small) }

  module _ (opening : PlainSession) (history pending : List Item) (lost : Bool) (old : KeptSession K) (keeps : KeepsHoped holds writes shut faults first opening history pending lost old) where
    -- the first of what is safe comes
    pub comes : (new : KeptSession K) → old.lost ≡ false → old.done < old.safe → new ≡ record old { done = old.done + 1 } → (item : Item) (rest : List Item) → pending ≡ item ∷ rest → KeepsHoped holds writes shut faults first opening (history ++ item ∷ []) rest lost new
    comes new was some same item rest is =
        let kept_all : lost ≡ false = sym keeps.is_lost ∙ was in
        let f = first_of keeps.sure keeps.unsure item rest (sym is ∙ keeps.all) (omega (arith, keeps.done, keeps.safe, some)) in
        let next : List Item = history ++ item ∷ [] in
        let long : length next ≡ length history + 1 = length-append history (item ∷ []) in
        let sure_long : length keeps.sure ≡ length f.0 + 1 = (let e = ap length f.1 in omega (arith, e)) in
        let pending_long : length pending ≡ length rest + 1 = (let e = ap length is in omega (arith, e)) in
        let whole : history ++ pending ≡ next ++ rest = ap (λ (l : List Item). history ++ l) is ∙ sym (append_assoc history (item ∷ []) rest) in
        let front : history ++ keeps.sure ≡ next ++ f.0 = ap (λ (l : List Item). history ++ l) f.1 ∙ sym (append_assoc history (item ∷ []) f.0) in
        subst (KeepsHoped holds writes shut faults first opening next rest lost) (sym same) (record {
          plays = keeps.plays ∙ ap (play_from opening) whole;
          done = omega (arith, keeps.done, long);
          asked = omega (arith, keeps.asked, long, pending_long);
          is_lost = keeps.is_lost;
          sure = f.0;
          unsure = keeps.unsure;
          all = f.2;
          safe = omega (arith, keeps.safe, long, sure_long);
          sound = subst IsSoundSession (ap (play_from opening) front) keeps.sound;
          held = subst (HoldsPlay (holds old.keeper) opening) front keeps.held;
          written = λ kept free. subst (HoldsPlay (writes old.keeper) opening) whole (keeps.written kept free);
          back = subst (GoesBack old.mark old.session) (ap (play_from opening) front) keeps.back;
          gone = λ e. absurd (let g : true ≡ false = sym e ∙ kept_all in cc (g));
          later = keeps.later;
          shuts = keeps.shuts;
          unkept = λ e. keeps.unkept (ap has_unkept whole ∙ e);
          stops = subst (StopsAtUnkept opening) whole keeps.stops;
        })

    -- all that is pending is safe
    pub all_safe : (new : KeptSession K) → old.lost ≡ false → new ≡ record old { keeper = new.keeper; safe = old.asked; mark = mark_of old.session } → IsSoundSession old.session → HoldsStill (writes old.keeper) (writes new.keeper) → HoldsStill (writes new.keeper) (holds new.keeper) → (shut old.keeper → ⊥) → ShutsByFault (shut old.keeper) (shut new.keeper) (faults old.keeper) (faults new.keeper)
        → KeepsHoped holds writes shut faults first opening history pending lost new
    all_safe new was same sound still settles free shuts =
        let kept_all : lost ≡ false = sym keeps.is_lost ∙ was in
        let w : HoldsPlay (writes new.keeper) opening (history ++ pending) = still_play (writes old.keeper) (writes new.keeper) opening (history ++ pending) still (keeps.written kept_all free) in
        subst (KeepsHoped holds writes shut faults first opening history pending lost) (sym same) (record {
          plays = keeps.plays;
          done = keeps.done;
          asked = keeps.asked;
          is_lost = keeps.is_lost;
          sure = pending;
          unsure = [];
          all = sym (append-nil pending);
          safe = keeps.asked;
          sound = subst IsSoundSession keeps.plays sound;
          held = all_held holds writes new.keeper opening (history ++ pending) settles w;
          written = λ _ _. w;
          back = subst (GoesBack (mark_of old.session) old.session) keeps.plays (goes_back_here old.session);
          gone = λ e. absurd (let g : true ≡ false = sym e ∙ kept_all in cc (g));
          later = omega (arith, keeps.later, shuts.later);
          shuts = λ is. elim (shuts.shuts is) [ inl before ↦ absurd (free before) | inr rose ↦ rose_from first (faults old.keeper) (faults new.keeper) keeps.later rose ];
          unkept = λ e. shuts.stays (keeps.unkept e);
          stops = keeps.stops;
        })

    -- who waits is the next, and is safe
    pub ended_safe : (new : KeptSession K) (place : ℕ) → old.lost ≡ false → old.done ≡ place → place < old.safe → new ≡ record old { done = old.done + 1 } → HasSettled (KeepsHoped holds writes shut faults first) opening history pending lost place Ended old new
    ended_safe new place was at some same = (sym keeps.is_lost ∙ was, sym keeps.done ∙ at, comes new was (omega (arith, at, some)) same)

    -- what is pending is gone
    pub loses : (new : KeptSession K) (keeper : K) → old.safe ≤ old.done → new ≡ record old { keeper = keeper; session = back_to old.mark old.session; safe = old.done; asked = old.done; lost = true } → HoldsStill (holds old.keeper) (holds keeper) → shut keeper → ShutsByFault (shut old.keeper) (shut keeper) (faults old.keeper) (faults keeper)
        → KeepsHoped holds writes shut faults first opening history [] true new
    loses new keeper none_safe same still is_shut shuts =
        let none : keeps.sure ≡ [] = none_long keeps.sure (omega (arith, keeps.done, keeps.safe, none_safe)) in
        let here : history ++ keeps.sure ≡ history ++ [] = ap (λ (l : List Item). history ++ l) none in
        let back : back_to old.mark old.session ≡ play_from opening (history ++ []) = back_is old.mark old.session (play_from opening (history ++ keeps.sure)) keeps.back ∙ ap (play_from opening) here in
        let marked : GoesBack old.mark (back_to old.mark old.session) (play_from opening (history ++ [])) =
        subst (λ (s : PlainSession). GoesBack old.mark s (play_from opening (history ++ []))) (sym back)
        (subst (λ (s : PlainSession). GoesBack old.mark s s) (ap (play_from opening) here) (record { rest = []; log = sym (append-nil (play_from opening (history ++ keeps.sure)).log); len = keeps.back.len; horizon = keeps.back.horizon; kept = refl })) in
        subst (KeepsHoped holds writes shut faults first opening history [] true) (sym same) (record {
          plays = back;
          done = keeps.done;
          asked = let d = keeps.done in omega (arith, d);
          is_lost = refl;
          sure = [];
          unsure = [];
          all = refl;
          safe = let d = keeps.done in omega (arith, d);
          sound = subst IsSoundSession (ap (play_from opening) here) keeps.sound;
          held = subst (HoldsPlay (holds keeper) opening) here (still_play (holds old.keeper) (holds keeper) opening (history ++ keeps.sure) still keeps.held);
          written = λ e _. absurd (cc (e));
          back = marked;
          gone = λ _. (refl, is_shut);
          later = omega (arith, keeps.later, shuts.later);
          shuts = λ is. elim (shuts.shuts is) [ inl before ↦ rose_later first (faults old.keeper) (faults keeper) (keeps.shuts before) shuts.later | inr rose ↦ rose_from first (faults old.keeper) (faults keeper) keeps.later rose ];
          unkept = λ _. is_shut;
          stops = subst (StopsAtUnkept opening) (sym (append-nil history)) (stops_start opening history pending keeps.stops);
        })

    -- it was lost before
    pub was_lost : old.lost ≡ true → KeepsHoped holds writes shut faults first opening history [] true old
    was_lost was =
        let gone : lost ≡ true = sym keeps.is_lost ∙ was in
        subst (λ (t : List Item × Bool). KeepsHoped holds writes shut faults first opening history t.0 t.1 old) (λ i. ((keeps.gone gone).0 i, gone i)) keeps

  -- once all is safe
  pub ended_now : (opening : PlainSession) (history pending : List Item) (lost : Bool) (old : KeptSession K) → (keeps : KeepsHoped holds writes shut faults first opening history pending lost old) → (new : KeptSession K) (place : ℕ) → old.lost ≡ false → old.done ≡ place
      → new ≡ record old { keeper = new.keeper; safe = old.asked; mark = mark_of old.session; done = old.done + 1 } → IsSoundSession old.session → HoldsStill (writes old.keeper) (writes new.keeper) → HoldsStill (writes new.keeper) (holds new.keeper) → (shut old.keeper → ⊥) → ShutsByFault (shut old.keeper) (shut new.keeper) (faults old.keeper) (faults new.keeper)
      → HasSettled (KeepsHoped holds writes shut faults first) opening history pending lost place Ended old new
  ended_now opening history pending lost old keeps new place was at same sound still settles open_now shuts =
      let mid : KeptSession K = record old { keeper = new.keeper; safe = old.asked; mark = mark_of old.session } in
      let safe : KeepsHoped holds writes shut faults first opening history pending lost mid = all_safe opening history pending lost old keeps mid was refl sound still settles open_now shuts in (
        sym keeps.is_lost ∙ was,
        sym keeps.done ∙ at,
        λ item rest is.
            let more : length pending ≡ length rest + 1 = (let e = ap length is in omega (arith, e)) in
            comes opening history pending lost mid safe new was (omega (arith, keeps.done, keeps.asked, more)) same item rest is,
      )

  -- what is told where the lock is closed
  pub keeps_play : (opening : PlainSession) (history : List Item) (lost : Bool) (kept : KeptSession K) → KeepsHoped holds writes shut faults first opening history [] lost kept → KeepsPlay holds shut faults first opening history kept.keeper
  keeps_play opening history lost kept keeps =
      let none : keeps.sure ≡ [] = none_first keeps.sure keeps.unsure (sym keeps.all) in
      let end : history ++ [] ≡ history = append-nil history in
      record {
        plays = subst (HoldsPlay (holds kept.keeper) opening) (ap (λ (l : List Item). history ++ l) none ∙ end) keeps.held;
        later = keeps.later;
        shuts = keeps.shuts;
        unkept = λ e. keeps.unkept (ap has_unkept end ∙ e);
        stops = subst (StopsAtUnkept opening) end keeps.stops;
      }

module _ {K : Type 0} (holds writes : K → PlainSession → Type 0) (settled : K → Bool) (shut : K → Type 0) (faults : K → ℕ) (first : ℕ) where
  -- ---- a session that is asked

  pub was_asked : (opening : PlainSession) (history pending : List Item) (lost : Bool) (old new : KeptSession K) (request : Request) (result : Result Reply CallFault) (caller : ℕ) → KeepsHoped holds writes shut faults first opening history pending lost old
      → new ≡ record old { session = new.session; keeper = new.keeper } → IfOk result (λ reply. with_reply new.session reply ≡ answer old.session request) → OnErr result (new.session ≡ old.session) → IsSoundSession new.session
      → HasCause (answer old.session request).reply (shut new.keeper) result → KeepsPace holds writes settled shut faults old.keeper new.keeper old.session new.session
      → WasAsked holds writes settled shut faults first opening history pending lost (item_of caller request result) new
  was_asked opening history pending lost old new request result caller keeps same ok err sound cause pace =
      let x : Item = item_of caller request result in
      let h : List Item = history ++ pending in
      let s : PlainSession = play_from opening h in
      let longer : h ++ x ∷ [] ≡ history ++ (pending ++ x ∷ []) = append_assoc history pending (x ∷ []) in
      let after : new.session ≡ after_item s x = item_after old.session new.session caller request result ok err ∙ ap (λ (t : PlainSession). after_item t x) keeps.plays in
      let plays : new.session ≡ play_from opening (history ++ (pending ++ x ∷ [])) = after ∙ sym (play_snoc opening h x) ∙ ap (play_from opening) longer in
      let still_shut : shut old.keeper → shut new.keeper = pace.shuts.stays in
      let whole : (shut old.keeper → ⊥) → lost ≡ false = λ free. not_true lost (λ e. free (keeps.gone e).1) in
      let same_if : shut old.keeper → after_item s x ≡ s = λ is. sym after ∙ pace.still is ∙ keeps.plays in
      record {
        plays = plays;
        now_sound = sound;
        done = ap (λ (k : KeptSession K). k.done) same ∙ keeps.done;
        asked = ap (λ (k : KeptSession K). k.asked) same ∙ keeps.asked;
        is_lost = ap (λ (k : KeptSession K). k.lost) same ∙ keeps.is_lost;
        sure = keeps.sure;
        unsure = keeps.unsure;
        all = keeps.all;
        safe = ap (λ (k : KeptSession K). k.safe) same ∙ keeps.safe;
        sound = keeps.sound;
        held = elim pace.held [
          | inl still ↦ inl (still_play (holds old.keeper) (holds new.keeper) opening (history ++ keeps.sure) still keeps.held)
          | inr all ↦ inr (all.0, whole all.1)
        ];
        written = λ kept_all free.
            let plays_old : HoldsPlay (writes old.keeper) opening h = keeps.written kept_all (λ is. free (still_shut is)) in
            let covered : IsCovered (writes new.keeper) plays_old.held.kept new.session = pace.written plays_old.held plays_old.is_held (subst (λ (t : PlainSession). Covers t plays_old.held) (sym keeps.plays) plays_old.covers) free in
            subst (HoldsPlay (writes new.keeper) opening) longer (holds_more (writes old.keeper) (writes new.keeper) opening h x plays_old (subst (IsCovered (writes new.keeper) plays_old.held.kept) after covered));
        back = elim pace.kept [
          | inl kept ↦
              inl (subst (λ (m : Mark). GoesBack m new.session (play_from opening (history ++ keeps.sure))) (sym (ap (λ (k : KeptSession K). k.mark) same))
              (goes_back_more old.mark old.session new.session (play_from opening (history ++ keeps.sure))
              (subst (GrowsTo old.session) (sym (item_after old.session new.session caller request result ok err)) (item_grows old.session x)) kept keeps.back))
          | inr all ↦ inr (all.0, whole all.1)
        ];
        gone = λ e.
            let gone = keeps.gone e in
            (gone.0, (still_shut gone.1, pace.still gone.1 ∙ keeps.plays ∙ ap (λ (l : List Item). play_from opening (history ++ l)) gone.0 ∙ ap (play_from opening) (append-nil history)));
        later = omega (arith, keeps.later, pace.shuts.later);
        shuts = λ is.
            elim (pace.shuts.shuts is) [
              | inl was ↦ rose_later first (faults old.keeper) (faults new.keeper) (keeps.shuts was) pace.shuts.later
              | inr rose ↦ rose_from first (faults old.keeper) (faults new.keeper) keeps.later rose
            ];
        unkept = λ some.
            elim (unkept_more h x (ap has_unkept longer ∙ some)) [
              | inl before ↦ still_shut (keeps.unkept before)
              | inr now ↦ item_unkept caller (answer old.session request).reply (shut new.keeper) request result cause now
            ];
        stops = subst (StopsAtUnkept opening) longer (stops_more opening h x keeps.stops (λ some. same_if (keeps.unkept some)));
      }

  -- ---- where an item goes that was asked

  module _ (opening : PlainSession) (history pending : List Item) (lost : Bool) (item : Item) (old new : KeptSession K) (asked : WasAsked holds writes settled shut faults first opening history pending lost item old) where
    abbrev next : List Item
    next = history ++ item ∷ []

    abbrev all : List Item
    all = pending ++ item ∷ []

    -- where nothing is pending it comes next
    none_now : pending ≡ [] → history ++ all ≡ next
    none_now none = ap (λ (l : List Item). history ++ (l ++ item ∷ [])) none

    pub goes_lost : old.lost ≡ true → new ≡ record old { asked = old.asked + 1; done = old.done + 1; safe = old.safe + 1 } → HasTried (KeepsHoped holds writes shut faults first) opening history pending lost item None new
    goes_lost was same =
        let gone : lost ≡ true = sym asked.is_lost ∙ was in
        let g = asked.gone gone in
        let none : pending ≡ [] = g.0 in
        let sure : asked.sure ≡ [] = none_first asked.sure asked.unsure (sym asked.all ∙ none) in
        let here : history ++ asked.sure ≡ history = ap (λ (l : List Item). history ++ l) sure ∙ append-nil history in
        let plays : old.session ≡ play_from opening next = asked.plays ∙ ap (play_from opening) (none_now none) in
        let stays : play_from opening history ≡ play_from opening next = sym g.1.1 ∙ plays in
        let end : next ++ [] ≡ next = append-nil next in
        let held : HoldsPlay (holds old.keeper) opening (history ++ asked.sure) = elim asked.held [ inl h ↦ h | inr both ↦ absurd (let e : true ≡ false = sym gone ∙ both.1 in cc (e)) ] in
        let back : GoesBack old.mark old.session (play_from opening (history ++ asked.sure)) = elim asked.back [ inl b ↦ b | inr both ↦ absurd (let e : true ≡ false = sym gone ∙ both.1 in cc (e)) ] in
        let long : length next ≡ length history + 1 = length-append history (item ∷ []) in
        let none_long_is : length pending ≡ 0 = ap length none in
        let sure_long : length asked.sure ≡ 0 = ap length sure in (
          none,
          subst (KeepsHoped holds writes shut faults first opening next [] lost) (sym same) (record {
            plays = plays ∙ ap (play_from opening) (sym end);
            done = omega (arith, asked.done, long);
            asked = omega (arith, asked.asked, long, none_long_is);
            is_lost = asked.is_lost;
            sure = [];
            unsure = [];
            all = refl;
            safe = omega (arith, asked.safe, long, sure_long);
            sound = subst IsSoundSession (plays ∙ ap (play_from opening) (sym end)) asked.now_sound;
            held = same_play (holds old.keeper) opening (history ++ asked.sure) (next ++ []) (item ∷ []) (ap (λ (l : List Item). l ++ item ∷ []) here ∙ sym end) (ap (play_from opening) here ∙ stays ∙ ap (play_from opening) (sym end)) held;
            written = λ kept_all _. absurd (let e : true ≡ false = sym gone ∙ kept_all in cc (e));
            back = subst (GoesBack old.mark old.session) (ap (play_from opening) here ∙ stays ∙ ap (play_from opening) (sym end)) back;
            gone = λ _. (refl, g.1.0);
            later = asked.later;
            shuts = asked.shuts;
            unkept = λ some. g.1.0;
            stops = subst (StopsAtUnkept opening) (none_now none ∙ sym end) asked.stops;
          }),
        )

    -- all that was asked is safe
    safe_now : HoldsStill (writes old.keeper) (holds old.keeper) → (shut old.keeper → ⊥) → lost ≡ false → HoldsPlay (holds old.keeper) opening (history ++ all)
    safe_now settles free kept_all = all_held holds writes old.keeper opening (history ++ all) settles (asked.written kept_all free)

    pub goes_now : old.lost ≡ false → HoldsStill (writes old.keeper) (holds old.keeper) → (shut old.keeper → ⊥) → old.done ≡ old.asked → new ≡ record old { asked = old.asked + 1; safe = old.asked + 1; mark = mark_of old.session; done = old.done + 1 }
        → HasTried (KeepsHoped holds writes shut faults first) opening history pending lost item None new
    goes_now was settles free none_waits same =
        let kept_all : lost ≡ false = sym asked.is_lost ∙ was in
        let none : pending ≡ [] = none_long pending (omega (arith, asked.done, asked.asked, none_waits)) in
        let end : next ++ [] ≡ next = append-nil next in
        let is : history ++ all ≡ next ++ [] = none_now none ∙ sym end in
        let plays : old.session ≡ play_from opening (next ++ []) = asked.plays ∙ ap (play_from opening) is in
        let long : length next ≡ length history + 1 = length-append history (item ∷ []) in
        let none_long_is : length pending ≡ 0 = ap length none in (
          none,
          subst (KeepsHoped holds writes shut faults first opening next [] lost) (sym same) (record {
            plays = plays;
            done = omega (arith, asked.done, long);
            asked = omega (arith, asked.asked, long, none_long_is);
            is_lost = asked.is_lost;
            sure = [];
            unsure = [];
            all = refl;
            safe = omega (arith, asked.asked, long, none_long_is);
            sound = subst IsSoundSession plays asked.now_sound;
            held = subst (HoldsPlay (holds old.keeper) opening) is (safe_now settles free kept_all);
            written = λ kept free. subst (HoldsPlay (writes old.keeper) opening) is (asked.written kept free);
            back = subst (GoesBack (mark_of old.session) old.session) plays (goes_back_here old.session);
            gone = λ e. absurd (let f : true ≡ false = sym e ∙ kept_all in cc (f));
            later = asked.later;
            shuts = asked.shuts;
            unkept = λ some. asked.unkept (ap has_unkept is ∙ some);
            stops = subst (StopsAtUnkept opening) is asked.stops;
          }),
        )

    pub goes_safe : old.lost ≡ false → HoldsStill (writes old.keeper) (holds old.keeper) → (shut old.keeper → ⊥) → new ≡ record old { asked = old.asked + 1; safe = old.asked + 1; mark = mark_of old.session }
        → HasTried (KeepsHoped holds writes shut faults first) opening history pending lost item (Some old.asked) new
    goes_safe was settles free same =
        let kept_all : lost ≡ false = sym asked.is_lost ∙ was in
        let long : length all ≡ length pending + 1 = length-append pending (item ∷ []) in (
          kept_all,
          asked.asked,
          subst (KeepsHoped holds writes shut faults first opening history all lost) (sym same) (record {
            plays = asked.plays;
            done = asked.done;
            asked = omega (arith, asked.asked, long);
            is_lost = asked.is_lost;
            sure = all;
            unsure = [];
            all = sym (append-nil all);
            safe = omega (arith, asked.asked, long);
            sound = subst IsSoundSession asked.plays asked.now_sound;
            held = safe_now settles free kept_all;
            written = asked.written;
            back = subst (GoesBack (mark_of old.session) old.session) asked.plays (goes_back_here old.session);
            gone = λ e. absurd (let f : true ≡ false = sym e ∙ kept_all in cc (f));
            later = asked.later;
            shuts = asked.shuts;
            unkept = asked.unkept;
            stops = asked.stops;
          }),
        )

    pub goes_unsafe : old.lost ≡ false → settled old.keeper ≡ false → new ≡ record old { asked = old.asked + 1 } → HasTried (KeepsHoped holds writes shut faults first) opening history pending lost item (Some old.asked) new
    goes_unsafe was unsettled same =
        let kept_all : lost ≡ false = sym asked.is_lost ∙ was in
        let long : length all ≡ length pending + 1 = length-append pending (item ∷ []) in (
          kept_all,
          asked.asked,
          subst (KeepsHoped holds writes shut faults first opening history all lost) (sym same) (record {
            plays = asked.plays;
            done = asked.done;
            asked = omega (arith, asked.asked, long);
            is_lost = asked.is_lost;
            sure = asked.sure;
            unsure = asked.unsure ++ item ∷ [];
            all = ap (λ (l : List Item). l ++ item ∷ []) asked.all ∙ append_assoc asked.sure asked.unsure (item ∷ []);
            safe = asked.safe;
            sound = asked.sound;
            held = elim asked.held [ inl h ↦ h | inr both ↦ absurd (let e : true ≡ false = sym both.0 ∙ unsettled in cc (e)) ];
            written = asked.written;
            back = elim asked.back [ inl b ↦ b | inr both ↦ absurd (let e : true ≡ false = sym both.0 ∙ unsettled in cc (e)) ];
            gone = λ e. absurd (let f : true ≡ false = sym e ∙ kept_all in cc (f));
            later = asked.later;
            shuts = asked.shuts;
            unkept = asked.unkept;
            stops = asked.stops;
          }),
        )
