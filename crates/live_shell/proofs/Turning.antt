-- Turns of a live run, one after the other.
use Rattle.std.proofs.Common.{◌≡◌, ℕ, List, [], ◌∷◌, ◌++◌, map, Option, Some, None, Result, Ok, Err, refl, sym, ap, subst, ◌∙◌, inl, inr, append_assoc}
use Rattle.std.specs.Prelude.{◌⊎◌}
use Rattle.view_shell.specs.declared.ending.ViewEnd.{ViewEnd}
use Rattle.view_shell.specs.declared.ending.ViewEnd.TheVariants as ending
use Rattle.run_steps.specs.Outside.{Came, Well, Failed, WantedMemory}
use Rattle.live_view.specs.declared.input.LiveInput.{LiveInput}
use Rattle.live_view.specs.Live.{LiveState, LiveTold, live_step}
use Rattle.live_shell.specs.declared.ending.LiveEnd.{LiveEnd}
use Rattle.live_shell.specs.declared.ending.LiveEnd.TheVariants as live_end
use Rattle.live_shell.specs.declared.feed.Fed.TheVariants as fed
use Rattle.live_shell.specs.LiveSteps.{LiveStep, Asks, Sends, Prints as LivePrints, LiveTells, LiveOutside, LiveCut, LiveActs, live_outside}
use Rattle.live_shell.specs.LiveRun.{AreCounted, AreFit, AreWanted, EndsLive, IsFair, IsLiveCutEnd, Stopped, Turn, Turned, Turns, and_last, answers, asks_last, here_text, lines_after, lines_behind, prints, state_after, steps_of, told_steps}
use Rattle.live_shell.specs.Calls.{AnswersAll, IsEndOf, PrintsSome, SendsAll, SendsButNot, SendsNot}

-- ---- steps in a row

pub acts_then : {K W N L : Type 0} (tells : LiveTells K W N L) (first more : List LiveStep) (cut : Option LiveCut) (old mid new : LiveOutside K W N L)
    → LiveActs tells first None old mid → LiveActs tells more cut mid new → LiveActs tells (first ++ more) cut old new
acts_then tells [] more cut old mid new before behind = subst (λ o. LiveActs tells more cut o new) before behind
acts_then tells (step ∷ first) more cut old mid new (inl (next, acts, rest)) behind = inl (next, acts, acts_then tells first more cut next mid new rest behind)
acts_then tells (step ∷ first) more cut old mid new (inr (inl (acts, is))) behind = absurd cc
acts_then tells (step ∷ first) more cut old mid new (inr (inr (acts, is))) behind = absurd cc

-- steps that are cut: those behind them are not done
pub acts_cut : {K W N L : Type 0} (tells : LiveTells K W N L) (first more : List LiveStep) (cut : LiveCut) (old new : LiveOutside K W N L)
    → LiveActs tells first (Some cut) old new → LiveActs tells (first ++ more) (Some cut) old new
acts_cut tells [] more cut old new acts = absurd acts
acts_cut tells (step ∷ first) more cut old new (inl (next, acts, rest)) = inl (next, acts, acts_cut tells first more cut next new rest)
acts_cut tells (step ∷ first) more cut old new (inr (inl stops)) = inr (inl stops)
acts_cut tells (step ∷ first) more cut old new (inr (inr stops)) = inr (inr stops)

-- ---- turns in a row

pub state_both : (s : LiveState) (first more : List Turn) → state_after s (first ++ more) ≡ state_after (state_after s first) more
state_both s [] more = refl
state_both s (None ∷ first) more = state_both s first more
state_both s (Some told ∷ first) more = state_both (live_step s told).state first more

pub steps_both : (address : List ℕ) (s : LiveState) (first more : List Turn) → steps_of address s (first ++ more) ≡ steps_of address s first ++ steps_of address (state_after s first) more
steps_both address s [] more = refl
steps_both address s (None ∷ first) more = ap (λ (steps : List LiveStep). Asks fed.Nothing ∷ steps) (steps_both address s first more)
steps_both address s (Some told ∷ first) more =
    ap (λ steps. told_steps address s told ++ steps) (steps_both address (live_step s told).state first more)
    ∙ sym (append_assoc (told_steps address s told) (steps_of address (live_step s told).state first) (steps_of address (state_after (live_step s told).state first) more))

-- ---- turns that are due

fair_both : (lines : ℕ) (first more : List Turn) → IsFair lines first → IsFair (lines_after lines first) more → IsFair lines (first ++ more)
fair_both lines [] more fair on = on
fair_both lines (turn ∷ first) more (due, fair) on = (due, fair_both (lines_behind lines turn) first more fair on)

after_both : (lines : ℕ) (first more : List Turn) → lines_after lines (first ++ more) ≡ lines_after (lines_after lines first) more
after_both lines [] more = refl
after_both lines (turn ∷ first) more = after_both (lines_behind lines turn) first more

last_both : (first more : List Turn) (last : Option LiveInput) → and_last (first ++ more) last ≡ first ++ and_last more last
last_both first more None = refl
last_both first more (Some told) = append_assoc first more (Some told ∷ [])

-- turns that are wanted
wants_both : (s : LiveState) (first more : List Turn) → AreWanted s first → AreWanted (state_after s first) more → AreWanted s (first ++ more)
wants_both s [] more wants on = on
wants_both s (None ∷ first) more (is, wants) on = (is, wants_both s first more wants on)
wants_both s (Some told ∷ first) more (is, wants) on = (is, wants_both (live_step s told).state first more wants on)

-- turns in which each frame that is sent fits the wire
fit_both : (s : LiveState) (first more : List Turn) → AreFit s first → AreFit (state_after s first) more → AreFit s (first ++ more)
fit_both s [] more fit on = on
fit_both s (None ∷ first) more fit on = fit_both s first more fit on
fit_both s (Some told ∷ first) more (is, fit) on = (is, fit_both (live_step s told).state first more fit on)

-- ---- turns, and then others

pub turned_then : {K W N L : Type 0} (tells : LiveTells K W N L) (address : List ℕ) (lines : ℕ) (Mid Behind : ℕ → Type 0) (s0 s1 s2 : LiveState) (old mid new : LiveOutside K W N L)
    → (before : Turned tells address lines Mid s0 s1 old mid) → Turned tells address (lines_after lines before.turns) Behind s1 s2 mid new → Turned tells address lines Behind s0 s2 old new
turned_then tells address lines Mid Behind s0 s1 s2 old mid new before behind =
    let steps = steps_both address s0 before.turns behind.turns ∙ ap (λ s. steps_of address s0 before.turns ++ steps_of address s behind.turns) before.state in
    record {
      turns = before.turns ++ behind.turns;
      acts = subst (λ ss. LiveActs tells ss None old new) (sym steps) (acts_then tells (steps_of address s0 before.turns) (steps_of address s1 behind.turns) None old mid new before.acts behind.acts);
      state = state_both s0 before.turns behind.turns ∙ ap (λ s. state_after s behind.turns) before.state ∙ behind.state;
      fair = fair_both lines before.turns behind.turns before.fair behind.fair;
      wants = wants_both s0 before.turns behind.turns before.wants (subst (λ (s : LiveState). AreWanted s behind.turns) (sym before.state) behind.wants);
      fit = fit_both s0 before.turns behind.turns before.fit (subst (λ (s : LiveState). AreFit s behind.turns) (sym before.state) behind.fit);
      behind = subst Behind (sym (after_both lines before.turns behind.turns)) behind.behind;
    }

pub stopped_then : {K W N L : Type 0} (tells : LiveTells K W N L) (address : List ℕ) (lines : ℕ) (Mid : ℕ → Type 0) (s0 s1 : LiveState) (end : LiveEnd) (old mid new : LiveOutside K W N L)
    → (before : Turned tells address lines Mid s0 s1 old mid) → Stopped tells address (lines_after lines before.turns) s1 end mid new → Stopped tells address lines s0 end old new
stopped_then tells address lines Mid s0 s1 end old mid new before behind =
    let steps = steps_both address s0 before.turns behind.turns ∙ ap (λ s. steps_of address s0 before.turns ++ steps_of address s behind.turns) before.state in
    let all : steps_of address s0 (before.turns ++ behind.turns) ++ asks_last address behind.last ≡ steps_of address s0 before.turns ++ (steps_of address s1 behind.turns ++ asks_last address behind.last) =
    ap (λ ss. ss ++ asks_last address behind.last) steps ∙ append_assoc (steps_of address s0 before.turns) (steps_of address s1 behind.turns) (asks_last address behind.last) in
    let state : state_after s0 (before.turns ++ behind.turns) ≡ state_after s1 behind.turns = state_both s0 before.turns behind.turns ∙ ap (λ s. state_after s behind.turns) before.state in
    record {
      turns = before.turns ++ behind.turns;
      last = behind.last;
      cut = behind.cut;
      acts = subst (λ ss. LiveActs tells ss behind.cut old new) (sym all) (acts_then tells (steps_of address s0 before.turns) (steps_of address s1 behind.turns ++ asks_last address behind.last) behind.cut old mid new before.acts behind.acts);
      ends = subst (λ (s : LiveState). EndsLive s.phase behind.last behind.cut end) (sym state) behind.ends;
      fair = subst (IsFair lines) (sym (last_both before.turns behind.turns behind.last)) (fair_both lines before.turns (and_last behind.turns behind.last) before.fair behind.fair);
      wants = subst (AreWanted s0) (sym (last_both before.turns behind.turns behind.last))
          (wants_both s0 before.turns (and_last behind.turns behind.last) before.wants (subst (λ (s : LiveState). AreWanted s (and_last behind.turns behind.last)) (sym before.state) behind.wants));
      fit = λ none. fit_both s0 before.turns behind.turns before.fit (subst (λ (s : LiveState). AreFit s behind.turns) (sym before.state) (behind.fit none));
    }

-- where so many lines came in a row between
pub turned_counted : {K W N L : Type 0} (tells : LiveTells K W N L) (address : List ℕ) (lines count : ℕ) (Behind : ℕ → Type 0) (s0 s1 s2 : LiveState) (old mid new : LiveOutside K W N L)
    → Turned tells address lines (AreCounted count) s0 s1 old mid → Turned tells address count Behind s1 s2 mid new → Turned tells address lines Behind s0 s2 old new
turned_counted tells address lines count Behind s0 s1 s2 old mid new before behind =
    turned_then tells address lines (AreCounted count) Behind s0 s1 s2 old mid new before (subst (λ (n : ℕ). Turned tells address n Behind s1 s2 mid new) (sym before.behind) behind)

pub stopped_counted : {K W N L : Type 0} (tells : LiveTells K W N L) (address : List ℕ) (lines count : ℕ) (s0 s1 : LiveState) (end : LiveEnd) (old mid new : LiveOutside K W N L)
    → Turned tells address lines (AreCounted count) s0 s1 old mid → Stopped tells address count s1 end mid new → Stopped tells address lines s0 end old new
stopped_counted tells address lines count s0 s1 end old mid new before behind =
    stopped_then tells address lines (AreCounted count) s0 s1 end old mid new before (subst (λ (n : ℕ). Stopped tells address n s1 end mid new) (sym before.behind) behind)

-- what more turns come to, after some
pub turns_then : {K W N L A : Type 0} (tells : LiveTells K W N L) (address : List ℕ) (lines count : ℕ) (Behind : A → ℕ → Type 0) (s0 s1 s2 : LiveState) (result : Result A LiveEnd) (old mid new : LiveOutside K W N L)
    → Turned tells address lines (AreCounted count) s0 s1 old mid → Turns tells address count Behind s1 s2 result mid new → Turns tells address lines Behind s0 s2 result old new
turns_then tells address lines count Behind s0 s1 s2 (Ok it) old mid new before behind = turned_counted tells address lines count (Behind it) s0 s1 s2 old mid new before behind
turns_then tells address lines count Behind s0 s1 s2 (Err end) old mid new before behind = stopped_counted tells address lines count s0 s1 end old mid new before behind

-- no turn was made
pub turned_none : {K W N L : Type 0} (tells : LiveTells K W N L) (address : List ℕ) (lines : ℕ) (Behind : ℕ → Type 0) (s : LiveState) (o : LiveOutside K W N L) → Behind lines → Turned tells address lines Behind s s o o
turned_none tells address lines Behind s o is = record { turns = []; acts = refl; state = refl; fair = tt; wants = tt; fit = tt; behind = is }

-- how many lines came in a row is not asked any more
pub turned_any : {K W N L : Type 0} (tells : LiveTells K W N L) (address : List ℕ) (lines : ℕ) (Mid Behind : ℕ → Type 0) (s0 s1 : LiveState) (old new : LiveOutside K W N L) → ((n : ℕ) → Behind n)
    → Turned tells address lines Mid s0 s1 old new → Turned tells address lines Behind s0 s1 old new
turned_any tells address lines Mid Behind s0 s1 old new any turned = record { turns = turned.turns; acts = turned.acts; state = turned.state; fair = turned.fair; wants = turned.wants; fit = turned.fit; behind = any (lines_after lines turned.turns) }

-- ---- what a view answers

module _ {K W N L : Type 0} (tells : LiveTells K W N L) (feed : K) (net : N) where
  pub sends_act : (frames : List (List ℕ)) (w : W) (l l' : L) → SendsAll tells.links frames Well l l' → LiveActs tells (map Sends frames) None (live_outside feed w net (Some l)) (live_outside feed w net (Some l'))
  sends_act [] w l l' is = ap (λ (x : L). live_outside feed w net (Some x)) is
  sends_act (frame ∷ frames) w l l' (mid, sent, rest) = inl (live_outside feed w net (Some mid), (sent, refl), sends_act frames w mid l' rest)

  pub prints_act : (text : List ℕ) (w w' : W) (l : L) → PrintsSome tells.out text Well w w' → LiveActs tells (prints text) None (live_outside feed w net (Some l)) (live_outside feed w' net (Some l))
  prints_act [] w w' l is = ap (λ (x : W). live_outside feed x net (Some l)) is
  prints_act (byte ∷ text) w w' l printed = inl (live_outside feed w' net (Some l), (printed, refl), refl)

  pub answers_act : (t : LiveTold) (w w' : W) (l l' : L) → AnswersAll tells.out tells.links t w w' l l' → LiveActs tells (answers t) None (live_outside feed w net (Some l)) (live_outside feed w' net (Some l'))
  answers_act t w w' l l' all =
      acts_then tells (map Sends t.frames) (prints t.text ++ prints (here_text t.here)) None _ (live_outside feed w net (Some l')) _ (sends_act t.frames w l l' all.sent)
      (acts_then tells (prints t.text) (prints (here_text t.here)) None _ (live_outside feed all.printed.mid net (Some l')) _ (prints_act t.text w all.printed.mid l' all.printed.text_printed)
      (prints_act (here_text t.here) all.printed.mid w' l' all.printed.here_printed))

  -- an answer that is cut
  pub record IsCut (steps : List LiveStep) (end : ViewEnd) (old new : LiveOutside K W N L) : Type 0 where
    pub cut : LiveCut
    pub acts : LiveActs tells steps (Some cut) old new
    pub ends : IsLiveCutEnd cut.came cut.step (live_end.View end)

  cut_on : (first more : List LiveStep) (end : ViewEnd) (old mid new : LiveOutside K W N L) → LiveActs tells first None old mid → IsCut more end mid new → IsCut (first ++ more) end old new
  cut_on first more end old mid new acts c = record { cut = c.cut; acts = acts_then tells first more (Some c.cut) old mid new acts c.acts; ends = c.ends }

  cut_front : (first more : List LiveStep) (end : ViewEnd) (old new : LiveOutside K W N L) → IsCut first end old new → IsCut (first ++ more) end old new
  cut_front first more end old new c = record { cut = c.cut; acts = acts_cut tells first more c.cut old new c.acts; ends = c.ends }

  sends_cut : (frames : List (List ℕ)) (came : Came) (end : ViewEnd) (w : W) (l l' : L) → SendsAll tells.links frames came l l' → IsEndOf came ending.NetFault end
      → IsCut (map Sends frames) end (live_outside feed w net (Some l)) (live_outside feed w net (Some l'))
  sends_cut frames Well end w l l' sent ends = absurd ends
  sends_cut [] Failed end w l l' sent ends = absurd sent
  sends_cut [] WantedMemory end w l l' sent ends = absurd sent
  sends_cut (frame ∷ frames) Failed end w l l' (inl (mid, sent, rest)) ends =
      cut_on (Sends frame ∷ []) (map Sends frames) end _ (live_outside feed w net (Some mid)) _ (inl (live_outside feed w net (Some mid), (sent, refl), refl)) (sends_cut frames Failed end w mid l' rest ends)
  sends_cut (frame ∷ frames) Failed end w l l' (inr fails) ends = record { cut = record { step = Sends frame; came = Failed }; acts = inr (inl ((fails, refl), refl)); ends = ap live_end.View ends }
  sends_cut (frame ∷ frames) WantedMemory end w l l' (inl (mid, sent, rest)) ends =
      cut_on (Sends frame ∷ []) (map Sends frames) end _ (live_outside feed w net (Some mid)) _ (inl (live_outside feed w net (Some mid), (sent, refl), refl)) (sends_cut frames WantedMemory end w mid l' rest ends)
  sends_cut (frame ∷ frames) WantedMemory end w l l' (inr wants) ends = record { cut = record { step = Sends frame; came = WantedMemory }; acts = inr (inr ((wants, refl), refl)); ends = ap live_end.View ends }

  prints_cut : (text : List ℕ) (came : Came) (end : ViewEnd) (w w' : W) (l : L) → PrintsSome tells.out text came w w' → IsEndOf came ending.WriteFault end
      → IsCut (prints text) end (live_outside feed w net (Some l)) (live_outside feed w' net (Some l))
  prints_cut text Well end w w' l printed ends = absurd ends
  prints_cut [] Failed end w w' l printed ends = absurd printed
  prints_cut [] WantedMemory end w w' l printed ends = absurd printed
  prints_cut (byte ∷ text) Failed end w w' l printed ends = record { cut = record { step = LivePrints (byte ∷ text); came = Failed }; acts = inr (inl ((printed, refl), refl)); ends = ap live_end.View ends }
  prints_cut (byte ∷ text) WantedMemory end w w' l printed ends = record { cut = record { step = LivePrints (byte ∷ text); came = WantedMemory }; acts = inr (inr ((printed, refl), refl)); ends = ap live_end.View ends }

  both_cut : (text here : List ℕ) (end : ViewEnd) (w w' mid : W) (came : Came) (l : L) → (PrintsSome tells.out text came w w') ⊎ (PrintsSome tells.out text Well w mid × PrintsSome tells.out here came mid w') → IsEndOf came ending.WriteFault end
      → IsCut (prints text ++ prints here) end (live_outside feed w net (Some l)) (live_outside feed w' net (Some l))
  both_cut text here end w w' mid came l (inl printed) ends = cut_front (prints text) (prints here) end _ _ (prints_cut text came end w w' l printed ends)
  both_cut text here end w w' mid came l (inr (first, printed)) ends =
      cut_on (prints text) (prints here) end _ (live_outside feed mid net (Some l)) _ (prints_act text w mid l first) (prints_cut here came end mid w' l printed ends)

  pub answers_cut : (t : LiveTold) (end : ViewEnd) (w w' : W) (l l' : L) → SendsNot tells.links t.frames end w w' l l' ⊎ SendsButNot tells.out tells.links t end w w' l l'
      → IsCut (answers t) end (live_outside feed w net (Some l)) (live_outside feed w' net (Some l'))
  answers_cut t end w w' l l' (inl not) =
      cut_front (map Sends t.frames) (prints t.text ++ prints (here_text t.here)) end _ _
      (subst (λ (x : W). IsCut (map Sends t.frames) end (live_outside feed w net (Some l)) (live_outside feed x net (Some l'))) (sym not.kept) (sends_cut t.frames not.came end w l l' not.sent not.ends))
  answers_cut t end w w' l l' (inr not) =
      cut_on (map Sends t.frames) (prints t.text ++ prints (here_text t.here)) end _ (live_outside feed w net (Some l')) _ (sends_act t.frames w l l' not.sent)
      (both_cut t.text (here_text t.here) end w w' not.printed.mid not.printed.came l' not.printed.cut not.printed.ends)
