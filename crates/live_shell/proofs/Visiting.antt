-- Links of a live run, one after the other.
use Rattle.std.proofs.Common.{◌≡◌, ℕ, List, [], Option, Some, None, Bool, true, false, Result, Ok, Err, refl, sym, ap, subst, ◌∙◌, inl, inr, append-nil}
use Rattle.std.specs.Prelude.{⊤, nat_lt, IfErr, OnErr, OnOk}
use Rattle.run_steps.specs.Calls.{came_of, made_of}
use Rattle.run_steps.specs.declared.calls.CallFault.{CallFault}
use Rattle.run_steps.specs.Outside.{Well, Failed, WantedMemory, MakesLink, NetTells, LinksTell, TakesBack}
use Rattle.view_shell.specs.declared.ending.ViewEnd.{ViewEnd}
use Rattle.view_shell.specs.declared.ending.ViewEnd.TheVariants as ending
use Rattle.view_shell.specs.Phases.{Phase, Connecting, Sending, Receiving, Printing, Leaving, PrintingLast, Returning, Over}
use Rattle.live_view.specs.declared.input.LiveInput.TheVariants as input
use Rattle.live_view.specs.declared.outcome.LiveWant.{LiveWant}
use Rattle.live_view.specs.declared.outcome.LiveWant.TheVariants as want
use Rattle.live_view.specs.Live.{LiveState, has_arrived, is_held, live_step, unlinked_by, wanted}
use Rattle.live_view.specs.declared.machine.LiveView.{LiveView}
use Rattle.live_view.specs.View.{live_state}
use Rattle.live_view.proofs.Machines.{linked_not}
use Rattle.live_shell.specs.declared.ending.LiveEnd.{LiveEnd}
use Rattle.live_shell.specs.declared.ending.LiveEnd.TheVariants as live_end
use Rattle.live_shell.specs.LiveSteps.{LiveTells, LiveOutside, LiveActs, Links, GoesBack, live_outside}
use Rattle.live_shell.specs.LiveRun.{AreAny, AreCounted, Attends, LiveRan, PausesBy, StepsTo, Stopped, WantsLink, Turned, Turns, TurnsAndBack, asked, here_text, lines_after, prints, steps_of}
use Rattle.live_shell.specs.Calls.{AnswersAll}
use Rattle.live_shell.proofs.Turning.{stopped_then, turned_then, turns_then}
use Rattle.live_shell.proofs.Turns.{link_no_input, pauses_act, tell_turns, told_turn, told_wants}

-- what is so of turns on a link, named as a caller names it
pub attends_on : {K W N L A : Type 0} (tells : LiveTells K W N L) (lines : ℕ) (Behind : A → ℕ → Type 0) (first last : List ℕ → LiveState) (result : Result A LiveEnd) (feed feed' : K) (w w' : W) (l l' : L)
    → Attends tells lines Behind first last result feed feed' w w' l l' → Attends tells lines Behind first last result feed feed' w w' l l'
attends_on tells lines Behind first last result feed feed' w w' l l' turned = turned

pub wants_on : {A : Type 0} (done : Result A LiveEnd) (s : LiveState) → OnOk done (wanted s.phase ≡ want.Input → ⊥) → OnOk done (wanted s.phase ≡ want.Input → ⊥)
wants_on done s wants = wants

pub link_wanted : (address : List ℕ) (view : LiveView) (wants : LiveWant) → wants ≡ wanted (live_state address view).phase → wants ≡ want.Link → WantsLink (live_state address view)
link_wanted address view wants is link = record { is = sym is ∙ link }

pub first_wants : (s first : LiveState) → s ≡ first → wanted first.phase ≡ want.Link → wanted s.phase ≡ want.Input → ⊥
first_wants s first is link inp = link_no_input s.phase want.Link (sym link ∙ ap (λ (t : LiveState). wanted t.phase) (sym is)) refl inp

-- ---- a link is made, or none

module _ {N L : Type 0} (net : NetTells N L) (links : LinksTell L) (address : List ℕ) (n n' : N) (made : Result L CallFault) (makes : MakesLink net links (came_of made) address n n' (made_of made)) where
  pub made_well : (l : L) → made ≡ Ok l → MakesLink net links Well address n n' (Some l)
  made_well l is = subst (λ (m : Result L CallFault). MakesLink net links (came_of m) address n n' (made_of m)) is makes

  pub made_not : (why one : CallFault) → made ≡ Err why → why ≡ one → MakesLink net links (came_of {T = L} (Err one)) address n n' None
  made_not why one is which =
      subst (λ (f : CallFault). MakesLink net links (came_of {T = L} (Err f)) address n n' None) which
      (subst (λ (m : Result L CallFault). MakesLink net links (came_of m) address n n' (made_of m)) is makes)

-- no link was made
missed_here : (held : Bool) (phase : Phase) (joined : Option ℕ) → wanted phase ≡ want.Link → has_arrived (unlinked_by held phase) joined ≡ false
missed_here true (Connecting v how) joined link = refl
missed_here false (Connecting v how) joined link = refl
missed_here held (Sending v frame frames task) joined link = absurd cc
missed_here held (Receiving v aim) joined link = absurd cc
missed_here held (Printing v text) joined link = absurd cc
missed_here held (Leaving v text) joined link = absurd cc
missed_here held (PrintingLast text) joined link = absurd cc
missed_here held (Returning v how) joined link = absurd cc
missed_here held (Over end) joined link = absurd cc

over_is : (phase : Phase) (end : ViewEnd) → want.Over end ≡ wanted phase → phase ≡ Over end
over_is (Over one) end is = cc
over_is (Connecting v how) end is = absurd cc
over_is (Sending v frame frames task) end is = absurd cc
over_is (Receiving v aim) end is = absurd cc
over_is (Printing v text) end is = absurd cc
over_is (Leaving v text) end is = absurd cc
over_is (PrintingLast text) end is = absurd cc
over_is (Returning v how) end is = absurd cc

module _ {K W N L : Type 0} (tells : LiveTells K W N L) (address : List ℕ) where
  -- one link goes back, and another one is made
  pub made_acts : (from : LiveOutside K W N L) (feed : K) (w : W) (n n' : N) (l : L) → GoesBack tells from (live_outside feed w n None) → MakesLink tells.net tells.links Well address n n' (Some l)
      → LiveActs tells (asked address input.Linked) None from (live_outside feed w n' (Some l))
  made_acts from feed w n n' l back makes = inl (live_outside feed w n None, (refl, back.0, back.1), inl (live_outside feed w n' (Some l), (refl, makes, refl), refl))

  missed_acts : (from : LiveOutside K W N L) (feed : K) (w : W) (n n' : N) → GoesBack tells from (live_outside feed w n None) → MakesLink tells.net tells.links Failed address n n' None
      → LiveActs tells (asked address input.LinkFailed) None from (live_outside feed w n' None)
  missed_acts from feed w n n' back makes = inl (live_outside feed w n None, (refl, back.0, back.1), inl (live_outside feed w n' None, (refl, makes, refl), refl))

  -- there was no memory for one
  pub made_wants : {A : Type 0} (lines : ℕ) (s last : LiveState) (from : LiveOutside K W N L) (feed : K) (w : W) (n n' : N) → WantsLink s → GoesBack tells from (live_outside feed w n None) → MakesLink tells.net tells.links WantedMemory address n n' None
      → TurnsAndBack {A = A} tells address lines s last (Err (live_end.View ending.WantOfMemory)) from (live_outside feed w n' None)
  made_wants lines s last from feed w n n' is back makes = record {
    mid = live_outside feed w n' None;
    turns = record {
      turns = [];
      last = Some input.Linked;
      cut = Some (record { step = Links address true; came = WantedMemory });
      acts = inl (live_outside feed w n None, (refl, back.0, back.1), inr (inr ((refl, makes, refl), refl)));
      ends = refl;
      fair = (tt, tt);
      wants = (is, tt);
      fit = λ none. tt;
    };
    back = (refl, refl);
  }

  -- none was made, and the view was told so
  missed_turned : (lines : ℕ) (s s' : LiveState) (from : LiveOutside K W N L) (feed feed' : K) (w : W) (n n' : N) → GoesBack tells from (live_outside feed w n None) → MakesLink tells.net tells.links Failed address n n' None → WantsLink s
      → StepsTo s input.LinkFailed s' → PausesBy tells.feed (is_held s.holds s.phase input.LinkFailed) feed feed' → Turned tells address lines (AreAny {A = ⊤} tt) s s' from (live_outside feed' w n' None)
  missed_turned lines s s' from feed feed' w n n' back makes wants steps rests =
      let at = live_outside feed w n' None in
      told_turn tells address lines (AreAny {A = ⊤} tt) s s' input.LinkFailed from at at (live_outside feed' w n' None) tt wants tt (missed_acts from feed w n n' back makes)
      (subst (λ (b : Bool). LiveActs tells (prints (here_text b)) None at at) (sym (missed_here (nat_lt 0 s.holds) s.phase s.joined wants.is)) refl)
      (pauses_act tells address (is_held s.holds s.phase input.LinkFailed) feed feed' w n' None rests) steps

  pub missed : (lines : ℕ) (s s' : LiveState) (result : Result ⊤ LiveEnd) (from : LiveOutside K W N L) (feed feed' : K) (w : W) (n n' : N) → GoesBack tells from (live_outside feed w n None) → MakesLink tells.net tells.links Failed address n n' None → WantsLink s
      → OnOk result (StepsTo s input.LinkFailed s') → OnOk result (PausesBy tells.feed (is_held s.holds s.phase input.LinkFailed) feed feed') → OnErr result (feed' ≡ feed) → IfErr result (λ end. end ≡ live_end.View ending.WantOfMemory)
      → TurnsAndBack tells address lines s s' result from (live_outside feed' w n' None)
  missed lines s s' (Ok it) from feed feed' w n n' back makes wants steps rests kept ends =
      record { mid = live_outside feed' w n' None; turns = missed_turned lines s s' from feed feed' w n n' back makes wants steps rests; back = (refl, refl) }
  missed lines s s' (Err end) from feed feed' w n n' back makes wants steps rests kept ends =
      let stopped = told_wants tells address lines s input.LinkFailed from (live_outside feed w n' None) tt wants (missed_acts from feed w n n' back makes) in
      record {
        mid = live_outside feed' w n' None;
        turns = subst (λ (e : LiveEnd). Stopped tells address lines s e from (live_outside feed' w n' None)) (sym ends)
            (subst (λ (f : K). Stopped tells address lines s (live_end.View ending.WantOfMemory) from (live_outside f w n' None)) (sym kept) stopped);
        back = (refl, refl);
      }

  -- ---- on a link

  -- the view is told that it is there
  pub entered : (lines : ℕ) (s s1 s2 : LiveState) (result : Result ⊤ LiveEnd) (from : LiveOutside K W N L) (feed feed' : K) (net : N) (w w1 w2 : W) (l l1 l2 : L) → WantsLink s → LiveActs tells (asked address input.Linked) None from (live_outside feed w net (Some l))
      → AnswersAll tells.out tells.links (live_step s input.Linked) w w1 l l1 → StepsTo s input.Linked s1 → Turns tells address 0 AreAny s1 s2 result (live_outside feed w1 net (Some l1)) (live_outside feed' w2 net (Some l2))
      → Turns tells address lines AreAny s s2 result from (live_outside feed' w2 net (Some l2))
  entered lines s s1 s2 result from feed feed' net w w1 w2 l l1 l2 wants made all steps turns =
      turns_then tells address lines 0 AreAny s s1 s2 result from (live_outside feed w1 net (Some l1)) (live_outside feed' w2 net (Some l2))
      (tell_turns tells address lines (AreCounted 0) s s1 input.Linked feed feed net w w1 l l1 from tt wants refl made all (subst (λ (b : Bool). PausesBy tells.feed b feed feed) (sym (linked_not s.holds s.phase)) refl) steps) turns

  pub visited : (lines : ℕ) (s s' : LiveState) (result : Result ⊤ LiveEnd) (from : LiveOutside K W N L) (feed feed' : K) (w w' : W) (n' n'' : N) (l' : L) → Turns tells address lines AreAny s s' result from (live_outside feed' w' n' (Some l')) → TakesBack tells.net tells.links l' n' n''
      → TurnsAndBack tells address lines s s' result from (live_outside feed' w' n'' None)
  visited lines s s' result from feed feed' w w' n' n'' l' turns takes = record { mid = live_outside feed' w' n' (Some l'); turns = turns; back = (takes, refl) }

  -- ---- from link to link

  -- the view has ended
  pub ran_over : (first s : LiveState) (end : ViewEnd) (old now : LiveOutside K W N L) → TurnsAndBack {A = ⊤} tells address 0 first s (Ok tt) old now → want.Over end ≡ wanted s.phase → LiveRan tells address first (live_end.View end) old now
  ran_over first s end old now so_far is =
      let turned = so_far.turns in
      record {
        mid = so_far.mid;
        stopped = record {
          turns = turned.turns;
          last = None;
          cut = None;
          acts = subst (λ ss. LiveActs tells ss None old so_far.mid) (sym (append-nil (steps_of address first turned.turns))) turned.acts;
          ends = inl (end, ap (λ (t : LiveState). t.phase) turned.state ∙ over_is s.phase end is, refl);
          fair = turned.fair;
          wants = turned.wants;
          fit = λ none. turned.fit;
        };
        back = so_far.back;
      }

  -- so many lines came in a row on the links so far
  abbrev pub lines_so_far : (first s : LiveState) (old now : LiveOutside K W N L) → TurnsAndBack {A = ⊤} tells address 0 first s (Ok tt) old now → ℕ
  lines_so_far first s old now so_far = let turned = so_far.turns in lines_after 0 turned.turns

  pub ran_stops : {A : Type 0} (first s last : LiveState) (end : LiveEnd) (old now new : LiveOutside K W N L) → (so_far : TurnsAndBack {A = ⊤} tells address 0 first s (Ok tt) old now)
      → TurnsAndBack {A = A} tells address (lines_so_far first s old now so_far) s last (Err end) so_far.mid new → LiveRan tells address first end old new
  ran_stops first s last end old now new so_far stops =
      record { mid = stops.mid; stopped = stopped_then tells address 0 (AreAny {A = ⊤} tt) first s end old so_far.mid stops.mid so_far.turns stops.turns; back = stops.back }

  pub ran_on : {A : Type 0} (first s last : LiveState) (it : A) (old now new : LiveOutside K W N L) → (so_far : TurnsAndBack {A = ⊤} tells address 0 first s (Ok tt) old now)
      → TurnsAndBack {A = A} tells address (lines_so_far first s old now so_far) s last (Ok it) so_far.mid new → TurnsAndBack {A = ⊤} tells address 0 first last (Ok tt) old new
  ran_on first s last it old now new so_far more =
      record { mid = more.mid; turns = turned_then tells address 0 (AreAny {A = ⊤} tt) (AreAny {A = ⊤} tt) first s last old so_far.mid more.mid so_far.turns more.turns; back = more.back }

  -- nothing was done
  pub none_yet : (s : LiveState) (feed : K) (w : W) (net : N) → TurnsAndBack {A = ⊤} tells address 0 s s (Ok tt) (live_outside feed w net None) (live_outside feed w net None)
  none_yet s feed w net = record { mid = live_outside feed w net None; turns = record { turns = []; acts = refl; state = refl; fair = tt; wants = tt; fit = tt; behind = tt }; back = (refl, refl) }

  -- the view that a run begins with, as its caller names it
  pub ran_from : (s first : LiveState) (end : LiveEnd) (old new : LiveOutside K W N L) → s ≡ first → LiveRan tells address s end old new → LiveRan tells address first end old new
  ran_from s first end old new is ran = subst (λ (t : LiveState). LiveRan tells address t end old new) is ran

  -- there was no memory for a view
  pub ran_without : (s : LiveState) (feed : K) (w : W) (net : N) → LiveRan tells address s (live_end.View ending.WantOfMemory) (live_outside feed w net None) (live_outside feed w net None)
  ran_without s feed w net = record {
    mid = live_outside feed w net None;
    stopped = record { turns = []; last = None; cut = None; acts = refl; ends = inr refl; fair = tt; wants = tt; fit = λ none. tt };
    back = (refl, refl);
  }
