-- What a turn of a live run does.
use Rattle.std.proofs.Common.{◌≡◌, ℕ, ◌<◌, ◌≤◌, List, [], ◌∷◌, ◌++◌, Option, Some, None, Bool, true, false, Result, Ok, Err, refl, sym, ap, subst, ◌∙◌, inl, inr, append-nil, arith}
use Rattle.std.specs.Prelude.{⊤, nat_lt, ◌&&◌}
use Rattle.std.proofs.lemmas.Bool.Decides.{nat_tests}
use Rattle.tea_io.specs.declared.link.Heard.{Heard}
use Rattle.tea_io.specs.declared.link.Heard.TheVariants as heard
use Rattle.run_steps.specs.Calls.{came_of}
use Rattle.run_steps.specs.declared.calls.CallFault.{CallFault}
use Rattle.run_steps.specs.declared.calls.CallFault.TheVariants as fault
use Rattle.run_steps.specs.Outside.{Well, Failed, WantedMemory}
use Rattle.view_shell.specs.declared.ending.ViewEnd.{ViewEnd}
use Rattle.view_shell.specs.declared.ending.ViewEnd.TheVariants as ending
use Rattle.view_shell.specs.Phases.{Phase, Connecting, Receiving, Sending, Printing, Leaving, PrintingLast, Returning, Over}
use Rattle.live_view.specs.declared.input.LiveInput.{LiveInput}
use Rattle.live_view.specs.declared.input.LiveInput.TheVariants as input
use Rattle.live_view.specs.declared.outcome.LiveWant.{LiveWant}
use Rattle.live_view.specs.declared.outcome.LiveWant.TheVariants as want
use Rattle.live_view.specs.Live.{LiveState, LiveTold, is_held, link_ends, live_step, one_fewer, unlinked_by, wanted}
use Rattle.live_shell.specs.declared.ending.LiveEnd.{LiveEnd}
use Rattle.live_shell.specs.declared.ending.LiveEnd.TheVariants as live_end
use Rattle.live_shell.specs.declared.feed.Fed.TheVariants as fed
use Rattle.live_shell.specs.LiveSteps.{Asks, Hears, LiveTells, LiveOutside, LiveCut, LiveActs, AsksFeed, HearsAny, live_outside}
use Rattle.live_shell.specs.LiveRun.{AreCounted, IsDue, IsLiveCutEnd, IsWanted, PausesBy, StepsTo, Stopped, Turned, WantsInput, answers, asked, lines_behind, most_lines, pauses, told_steps}
use Rattle.live_shell.specs.Calls.{AnswersAll, AnswersOrNot, IsFed, fed_of}
use Rattle.live_shell.proofs.Turning.{acts_cut, acts_then, answers_act, answers_cut}

module _ {K W N L : Type 0} (tells : LiveTells K W N L) (address : List ℕ) where
  -- ---- the feed alone

  -- no line had come
  pub idle_turn : (lines counted : ℕ) (s : LiveState) (feed feed' : K) (w : W) (net : N) (link : Option L) → WantsInput s → lines < most_lines → most_lines ≡ counted → AsksFeed tells.feed Well fed.Nothing feed feed'
      → Turned tells address lines (AreCounted counted) s s (live_outside feed w net link) (live_outside feed' w net link)
  idle_turn lines counted s feed feed' w net link wants few most asks =
      record { turns = None ∷ []; acts = inl (live_outside feed' w net link, (asks, refl), refl); state = refl; fair = (few, tt); wants = (wants, tt); fit = tt; behind = most }

  -- the feed told nothing
  pub feed_stops : (lines : ℕ) (s : LiveState) (feed feed' : K) (w : W) (net : N) (link : Option L) (why : CallFault) (end : LiveEnd) → WantsInput s → lines < most_lines → AsksFeed tells.feed (came_of {T = Option LiveInput} (Err why)) fed.Nothing feed feed'
      → (why ≡ fault.Failed → end ≡ live_end.ReadFault) → (why ≡ fault.WantOfMemory → end ≡ live_end.View ending.WantOfMemory)
      → Stopped tells address lines s end (live_outside feed w net link) (live_outside feed' w net link)
  feed_stops lines s feed feed' w net link fault.Failed end wants few asks failed wanted =
      record { turns = None ∷ []; last = None; cut = Some (record { step = Asks fed.Nothing; came = Failed }); acts = inr (inl ((asks, refl), refl)); ends = failed refl; fair = (few, tt); wants = (wants, tt); fit = λ none. tt }
  feed_stops lines s feed feed' w net link fault.WantOfMemory end wants few asks failed wanted =
      record { turns = None ∷ []; last = None; cut = Some (record { step = Asks fed.Nothing; came = WantedMemory }); acts = inr (inr ((asks, refl), refl)); ends = wanted refl; fair = (few, tt); wants = (wants, tt); fit = λ none. tt }

  -- time goes by, or none
  pub pauses_act : (held : Bool) (feed feed' : K) (w : W) (net : N) (link : Option L) → PausesBy tells.feed held feed feed' → LiveActs tells (pauses held) None (live_outside feed w net link) (live_outside feed' w net link)
  pauses_act true feed feed' w net link rests = inl (live_outside feed' w net link, (refl, rests, refl), refl)
  pauses_act false feed feed' w net link is = ap (λ (x : K). live_outside x w net link) is

  -- ---- a view that is told something

  -- it answers, and all of that is done
  pub told_turn : (lines : ℕ) (Behind : ℕ → Type 0) (s s' : LiveState) (told : LiveInput) (o0 o1 o2 o3 : LiveOutside K W N L) → IsDue lines (Some told) → IsWanted s (Some told) → Behind (lines_behind lines (Some told)) → LiveActs tells (asked address told) None o0 o1 → LiveActs tells (answers (live_step s told)) None o1 o2
      → LiveActs tells (pauses (is_held s.holds s.phase told)) None o2 o3 → StepsTo s told s' → Turned tells address lines Behind s s' o0 o3
  told_turn lines Behind s s' told o0 o1 o2 o3 due wants behind asks acts rests is = record {
    turns = Some told ∷ [];
    acts = subst (λ ss. LiveActs tells ss None o0 o3) (sym (append-nil (told_steps address s told)))
        (acts_then tells (asked address told) (answers (live_step s told) ++ pauses (is_held s.holds s.phase told)) None o0 o1 o3 asks (acts_then tells (answers (live_step s told)) (pauses (is_held s.holds s.phase told)) None o1 o2 o3 acts rests));
    state = sym is.is;
    fair = (due, tt);
    wants = (wants, tt);
    fit = (is.fit, tt);
    behind = behind;
  }

  -- it answers, and something of that is not done
  pub answer_stops : (lines : ℕ) (s : LiveState) (told : LiveInput) (end : ViewEnd) (o0 o1 o2 : LiveOutside K W N L) (cut : LiveCut) → IsDue lines (Some told) → IsWanted s (Some told) → LiveActs tells (asked address told) None o0 o1 → LiveActs tells (answers (live_step s told)) (Some cut) o1 o2
      → IsLiveCutEnd cut.came cut.step (live_end.View end) → Stopped tells address lines s (live_end.View end) o0 o2
  answer_stops lines s told end o0 o1 o2 cut due wants asks acts ends =
      let own = acts_then tells (asked address told) (answers (live_step s told) ++ pauses (is_held s.holds s.phase told)) (Some cut) o0 o1 o2 asks (acts_cut tells (answers (live_step s told)) (pauses (is_held s.holds s.phase told)) cut o1 o2 acts) in
      record {
        turns = Some told ∷ [];
        last = None;
        cut = Some cut;
        acts = acts_cut tells (told_steps address s told ++ []) [] cut o0 o2 (acts_cut tells (told_steps address s told) [] cut o0 o2 own);
        ends = ends;
        fair = (due, tt);
        wants = (wants, tt);
        fit = λ none. absurd cc;
      }

  -- it has no memory for an answer
  pub told_wants : (lines : ℕ) (s : LiveState) (told : LiveInput) (o0 o1 : LiveOutside K W N L) → IsDue lines (Some told) → IsWanted s (Some told) → LiveActs tells (asked address told) None o0 o1 → Stopped tells address lines s (live_end.View ending.WantOfMemory) o0 o1
  told_wants lines s told o0 o1 due wants asks = record { turns = []; last = Some told; cut = None; acts = asks; ends = refl; fair = (due, tt); wants = (wants, tt); fit = λ none. tt }

  -- all that may come of it, but for the time that goes by
  pub tell_stops : (lines : ℕ) (s : LiveState) (told : LiveInput) (end : ViewEnd) (feed : K) (net : N) (w w' : W) (l l' : L) (o0 : LiveOutside K W N L) → IsDue lines (Some told) → IsWanted s (Some told) → LiveActs tells (asked address told) None o0 (live_outside feed w net (Some l))
      → AnswersOrNot tells.out tells.links (live_step s told) (Err end) w w' l l' → Stopped tells address lines s (live_end.View end) o0 (live_outside feed w' net (Some l'))
  tell_stops lines s told end feed net w w' l l' o0 due wants asks (inl not) =
      let c = answers_cut tells feed net (live_step s told) end w w' l l' not in
      answer_stops lines s told end o0 (live_outside feed w net (Some l)) (live_outside feed w' net (Some l')) c.cut due wants asks c.acts c.ends
  tell_stops lines s told end feed net w w' l l' o0 due wants asks (inr (is, out, link)) =
      let same : end ≡ ending.WantOfMemory = cc in
      let last : live_outside feed w net (Some l) ≡ live_outside feed w' net (Some l') = sym (ap (λ (x : W). live_outside feed x net (Some l')) out ∙ ap (λ (x : L). live_outside feed w net (Some x)) link) in
      subst (λ (e : ViewEnd). Stopped tells address lines s (live_end.View e) o0 (live_outside feed w' net (Some l'))) (sym same)
      (subst (λ o. Stopped tells address lines s (live_end.View ending.WantOfMemory) o0 o) last (told_wants lines s told o0 (live_outside feed w net (Some l)) due wants asks))

  pub all_done : (done : Result ⊤ ViewEnd) (well : ⊤) → done ≡ Ok well → (t : LiveTold) (w w' : W) (l l' : L) → AnswersOrNot tells.out tells.links t done w w' l l' → AnswersAll tells.out tells.links t w w' l l'
  all_done (Ok it) well is t w w' l l' (inl all) = all
  all_done (Ok it) well is t w w' l l' (inr (not, out, link)) = absurd cc
  all_done (Err end) well is t w w' l l' told = absurd cc

  pub tell_turns : (lines : ℕ) (Behind : ℕ → Type 0) (s s' : LiveState) (told : LiveInput) (feed feed' : K) (net : N) (w w' : W) (l l' : L) (o0 : LiveOutside K W N L) → IsDue lines (Some told) → IsWanted s (Some told) → Behind (lines_behind lines (Some told)) → LiveActs tells (asked address told) None o0 (live_outside feed w net (Some l))
      → AnswersAll tells.out tells.links (live_step s told) w w' l l' → PausesBy tells.feed (is_held s.holds s.phase told) feed feed' → StepsTo s told s'
      → Turned tells address lines Behind s s' o0 (live_outside feed' w' net (Some l'))
  tell_turns lines Behind s s' told feed feed' net w w' l l' o0 due wants behind asks all rests is =
      told_turn lines Behind s s' told o0 (live_outside feed w net (Some l)) (live_outside feed w' net (Some l')) (live_outside feed' w' net (Some l')) due wants behind asks (answers_act tells feed net (live_step s told) w w' l l' all)
      (pauses_act (is_held s.holds s.phase told) feed feed' w' net (Some l') rests) is

-- ---- whether another link is wanted in place of one that is gone

-- a line holds on to nothing
pub not_held : (holds : ℕ) (phase : Phase) (told : LiveInput) → IsFed (Some told) → is_held holds phase told ≡ false
not_held holds (Receiving v aim) (input.Line bytes) is = refl
not_held holds (Receiving v aim) input.Closed is = refl
not_held holds (Connecting v how) (input.Line bytes) is = refl
not_held holds (Connecting v how) input.Closed is = refl
not_held holds (Sending v frame frames task) told is = refl
not_held holds (Printing v text) told is = refl
not_held holds (Leaving v text) told is = refl
not_held holds (PrintingLast text) told is = refl
not_held holds (Returning v how) told is = refl
not_held holds (Over end) told is = refl
not_held holds (Receiving v aim) input.Linked is = absurd is
not_held holds (Receiving v aim) input.LinkFailed is = absurd is
not_held holds (Receiving v aim) (input.Says what) is = absurd is
not_held holds (Connecting v how) input.Linked is = absurd is
not_held holds (Connecting v how) input.LinkFailed is = absurd is
not_held holds (Connecting v how) (input.Says what) is = absurd is

first_true : (a b : Bool) → (a && b) ≡ true → a ≡ true
first_true true b is = refl
first_true false b is = absurd cc

above_zero : (n : ℕ) → nat_lt 0 n ≡ true → 0 < n
above_zero n is = grind (arith, nat_tests, is)

-- some link more is made
pub held_some : (holds : ℕ) (phase : Phase) (told : LiveInput) → is_held holds phase told ≡ true → 0 < holds
held_some holds (Receiving v aim) (input.Says what) is = above_zero holds (first_true (nat_lt 0 holds) (link_ends v what) is)
held_some holds (Receiving v aim) input.Linked is = absurd cc
held_some holds (Receiving v aim) input.LinkFailed is = absurd cc
held_some holds (Receiving v aim) (input.Line bytes) is = absurd cc
held_some holds (Receiving v aim) input.Closed is = absurd cc
held_some holds (Connecting v how) input.LinkFailed is = above_zero holds is
held_some holds (Connecting v how) input.Linked is = absurd cc
held_some holds (Connecting v how) (input.Says what) is = absurd cc
held_some holds (Connecting v how) (input.Line bytes) is = absurd cc
held_some holds (Connecting v how) input.Closed is = absurd cc
held_some holds (Sending v frame frames task) told is = absurd cc
held_some holds (Printing v text) told is = absurd cc
held_some holds (Leaving v text) told is = absurd cc
held_some holds (PrintingLast text) told is = absurd cc
held_some holds (Returning v how) told is = absurd cc
held_some holds (Over end) told is = absurd cc

-- it is seen by how many are left
pub fewer_is : (held : Bool) (before now : ℕ) → (held ≡ true → 0 < before) → now ≡ one_fewer held before → now < before → held ≡ true
fewer_is true before now some is fewer = refl
fewer_is false before now some is fewer = absurd (omega (arith, is, fewer))

pub same_is : (held : Bool) (before now : ℕ) → (held ≡ true → 0 < before) → now ≡ one_fewer held before → (now < before → ⊥) → held ≡ false
same_is true before now some is not = absurd (not (let some_now = some refl in omega (arith, is, some_now)))
same_is false before now some is not = refl

-- ---- a feed's turn, a link's turn

-- the feed has its turn
pub fed_due : (lines : ℕ) (told : LiveInput) → IsFed (Some told) → lines < most_lines → IsDue lines (Some told)
fed_due lines (input.Line bytes) is few = few
fed_due lines input.Closed is few = few
fed_due lines input.Linked is few = absurd is
fed_due lines input.LinkFailed is few = absurd is
fed_due lines (input.Says what) is few = absurd is

pub fed_wanted : (s : LiveState) (told : LiveInput) → IsFed (Some told) → WantsInput s → IsWanted s (Some told)
fed_wanted s (input.Line bytes) is wants = wants
fed_wanted s input.Closed is wants = wants
fed_wanted s input.Linked is wants = absurd is
fed_wanted s input.LinkFailed is wants = absurd is
fed_wanted s (input.Says what) is wants = absurd is

module _ {K W N L : Type 0} (tells : LiveTells K W N L) (address : List ℕ) where
  -- the feed told something
  feed_asks : (told : LiveInput) → IsFed (Some told) → (feed feed' : K) (w : W) (net : N) (l : L) → AsksFeed tells.feed Well (fed_of (Some told)) feed feed'
      → LiveActs tells (asked address told) None (live_outside feed w net (Some l)) (live_outside feed' w net (Some l))
  feed_asks (input.Line bytes) is feed feed' w net l asks = inl (live_outside feed' w net (Some l), (asks, refl), refl)
  feed_asks input.Closed is feed feed' w net l asks = inl (live_outside feed' w net (Some l), (asks, refl), refl)
  feed_asks input.Linked is feed feed' w net l asks = absurd is
  feed_asks input.LinkFailed is feed feed' w net l asks = absurd is
  feed_asks (input.Says what) is feed feed' w net l asks = absurd is

  pub feed_turn : (lines counted : ℕ) (s s' : LiveState) (told : LiveInput) (feed feed' : K) (net : N) (w w' : W) (l l' : L) (done : Result ⊤ ViewEnd) (well : ⊤) → done ≡ Ok well → WantsInput s → lines < most_lines → lines_behind lines (Some told) ≡ counted → IsFed (Some told) → AsksFeed tells.feed Well (fed_of (Some told)) feed feed'
      → AnswersOrNot tells.out tells.links (live_step s told) done w w' l l' → StepsTo s told s' → Turned tells address lines (AreCounted counted) s s' (live_outside feed w net (Some l)) (live_outside feed' w' net (Some l'))
  feed_turn lines counted s s' told feed feed' net w w' l l' done well did wants few behind fed asks answers is =
      tell_turns tells address lines (AreCounted counted) s s' told feed' feed' net w w' l l' (live_outside feed w net (Some l)) (fed_due lines told fed few) (fed_wanted s told fed wants) behind (feed_asks told fed feed feed' w net l asks) (all_done tells address done well did (live_step s told) w w' l l' answers)
      (subst (λ (b : Bool). PausesBy tells.feed b feed' feed') (sym (not_held s.holds s.phase told fed)) refl) is

  pub feed_turn_stops : (lines : ℕ) (s : LiveState) (told : LiveInput) (feed feed' : K) (net : N) (w w' : W) (l l' : L) (end : ViewEnd) → WantsInput s → lines < most_lines → IsFed (Some told) → AsksFeed tells.feed Well (fed_of (Some told)) feed feed'
      → AnswersOrNot tells.out tells.links (live_step s told) (Err end) w w' l l' → Stopped tells address lines s (live_end.View end) (live_outside feed w net (Some l)) (live_outside feed' w' net (Some l'))
  feed_turn_stops lines s told feed feed' net w w' l l' end wants few fed asks answers =
      tell_stops tells address lines s told end feed' net w w' l l' (live_outside feed w net (Some l)) (fed_due lines told fed few) (fed_wanted s told fed wants) (feed_asks told fed feed feed' w net l asks) answers

  -- the link said something
  link_asks : (what : Heard) (feed : K) (w : W) (net : N) (l l' : L) → HearsAny tells.links Well what l l' → LiveActs tells (asked address (input.Says what)) None (live_outside feed w net (Some l)) (live_outside feed w net (Some l'))
  link_asks what feed w net l l' hears = inl (live_outside feed w net (Some l'), (hears, refl), refl)

  pub link_turn : (lines counted : ℕ) (s s' : LiveState) (what : Heard) (feed feed' : K) (net : N) (w w' : W) (l m l' : L) → WantsInput s → most_lines ≤ lines → 0 ≡ counted → HearsAny tells.links Well what l m → AnswersAll tells.out tells.links (live_step s (input.Says what)) w w' m l'
      → PausesBy tells.feed (is_held s.holds s.phase (input.Says what)) feed feed' → StepsTo s (input.Says what) s' → Turned tells address lines (AreCounted counted) s s' (live_outside feed w net (Some l)) (live_outside feed' w' net (Some l'))
  link_turn lines counted s s' what feed feed' net w w' l m l' wants many none hears all rests is =
      tell_turns tells address lines (AreCounted counted) s s' (input.Says what) feed feed' net w w' m l' (live_outside feed w net (Some l)) many wants none (link_asks what feed w net l m hears) all rests is

  pub link_turn_stops : (lines : ℕ) (s : LiveState) (what : Heard) (feed : K) (net : N) (w w' : W) (l m l' : L) (end : ViewEnd) → WantsInput s → most_lines ≤ lines → HearsAny tells.links Well what l m → AnswersOrNot tells.out tells.links (live_step s (input.Says what)) (Err end) w w' m l'
      → Stopped tells address lines s (live_end.View end) (live_outside feed w net (Some l)) (live_outside feed w' net (Some l'))
  link_turn_stops lines s what feed net w w' l m l' end wants many hears answers =
      tell_stops tells address lines s (input.Says what) end feed net w w' m l' (live_outside feed w net (Some l)) many wants (link_asks what feed w net l m hears) answers

  -- there was no memory for what it said
  pub link_wants : (lines : ℕ) (s : LiveState) (feed : K) (net : N) (w : W) (l l' : L) → WantsInput s → most_lines ≤ lines → HearsAny tells.links WantedMemory heard.Quiet l l' → Stopped tells address lines s (live_end.View ending.WantOfMemory) (live_outside feed w net (Some l)) (live_outside feed w net (Some l'))
  link_wants lines s feed net w l l' is many wants = record {
    turns = Some (input.Says heard.Quiet) ∷ [];
    last = None;
    cut = Some (record { step = Hears heard.Quiet; came = WantedMemory });
    acts = inr (inr ((wants, refl), refl));
    ends = refl;
    fair = (many, tt);
    wants = (is, tt);
    fit = λ none. absurd cc;
  }

-- ---- how many links are left

pub left_heard : (s s' : LiveState) (what : Heard) (before left : ℕ) → before ≡ s.holds → left ≡ s'.holds → StepsTo s (input.Says what) s' → left ≡ one_fewer (is_held s.holds s.phase (input.Says what)) before
left_heard s s' what before left is now steps =
    now ∙ ap (λ (t : LiveState). t.holds) steps.is ∙ ap (λ (n : ℕ). one_fewer (is_held s.holds s.phase (input.Says what)) n) (sym is)

pub left_missed : (s s' : LiveState) (before left : ℕ) → before ≡ s.holds → left ≡ s'.holds → StepsTo s input.LinkFailed s' → left ≡ one_fewer (is_held s.holds s.phase input.LinkFailed) before
left_missed s s' before left is now steps =
    now ∙ ap (λ (t : LiveState). t.holds) steps.is ∙ ap (λ (n : ℕ). one_fewer (is_held s.holds s.phase input.LinkFailed) n) (sym is)

pub held_before : (s : LiveState) (told : LiveInput) (before : ℕ) → before ≡ s.holds → is_held s.holds s.phase told ≡ true → 0 < before
held_before s told before is held = subst (λ (n : ℕ). 0 < n) (sym is) (held_some s.holds s.phase told held)

-- ---- what a view wants

want_differ : want.Link ≡ want.Input → ⊥
want_differ is = cc

over_differs : (end : ViewEnd) → want.Over end ≡ want.Input → ⊥
over_differs end is = cc

pub link_no_input : (phase : Phase) (wants : LiveWant) → wants ≡ wanted phase → wants ≡ want.Link → wanted phase ≡ want.Input → ⊥
link_no_input phase wants is link inp = want_differ (sym link ∙ is ∙ inp)

pub over_no_input : (phase : Phase) (wants : LiveWant) (end : ViewEnd) → wants ≡ wanted phase → wants ≡ want.Over end → wanted phase ≡ want.Input → ⊥
over_no_input phase wants end is over inp = over_differs end (sym over ∙ is ∙ inp)

-- no link was made
unlinked_wants : (held : Bool) (phase : Phase) → wanted phase ≡ want.Link → wanted (unlinked_by held phase) ≡ want.Input → ⊥
unlinked_wants true (Connecting v how) link inp = absurd cc
unlinked_wants false (Connecting v how) link inp = absurd cc
unlinked_wants held (Sending v frame frames task) link inp = absurd cc
unlinked_wants held (Receiving v aim) link inp = absurd cc
unlinked_wants held (Printing v text) link inp = absurd cc
unlinked_wants held (Leaving v text) link inp = absurd cc
unlinked_wants held (PrintingLast text) link inp = absurd cc
unlinked_wants held (Returning v how) link inp = absurd cc
unlinked_wants held (Over end) link inp = absurd cc

pub missed_wants : (s s' : LiveState) → StepsTo s input.LinkFailed s' → wanted s.phase ≡ want.Link → wanted s'.phase ≡ want.Input → ⊥
missed_wants s s' steps link inp = unlinked_wants (nat_lt 0 s.holds) s.phase link (sym (ap (λ (t : LiveState). wanted t.phase) steps.is) ∙ inp)
