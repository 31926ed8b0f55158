-- A live view's run ends with its links, refused, by its peer, or by a fault of the net only where its links caused it.
use Rattle.std.proofs.Common.{◌≡◌, inl, inr, ℕ, Bool, true, List, [], ◌∷◌, ◌++◌, append-nil, Option, Some, None, refl, sym, ap, subst, ◌∙◌, codes}
use Rattle.std.specs.Prelude.{◌&&◌}
use Rattle.run_steps.specs.Outside.{Came, Failed, FilesTell, LinksTell, NetTells, Outside, OutputTells, WantedMemory, Well, outside_tells}
use Rattle.view_shell.specs.declared.ending.ViewEnd.{ViewEnd}
use Rattle.view_shell.specs.declared.ending.ViewEnd.TheVariants as view_end
use Rattle.view_shell.specs.Phases.{Over, Phase}
use Rattle.live_view.specs.declared.input.LiveInput.{LiveInput}
use Rattle.live_view.specs.Live.{LiveState, live_run, live_step}
use Rattle.live_shell.specs.declared.ending.LiveEnd.{LiveEnd}
use Rattle.live_shell.specs.declared.ending.LiveEnd.TheVariants as live_end
use Rattle.live_shell.specs.LiveRun.{AreFit, EndsLive, IsLiveCutEnd, LiveRan, Turn, asks_last, inputs_in, state_after, steps_of}
use Rattle.live_shell.specs.LiveSteps.{Asks, FeedTells, Hears, Links, LiveActs, LiveCut, LiveOutside, LiveStep, LiveTells, Pauses, Prints, Returns, Sends, live_tells}
use Rattle.view_follows.specs.LiveAnswers.{AnsweredLiveViewsHaveNoFault, AnsweredLiveViewsReplay}
use Rattle.view_follows.specs.LiveEnds.{LiveViewsEndByFaults, LiveViewsEndByPeers, LiveViewsEndByRefusals, LiveViewsEndWithLinks}
use Rattle.commands.specs.Verdict.{Coming, PlainLive}
use Rattle.croquet.specs.declared.status.Status.{Status}
use Rattle.croquet.specs.declared.status.Status.TheVariants as status
use Rattle.croquet.specs.LiveEnds.{NetFaultRose, OnlyByLiveLinks, first_of}
use Rattle.croquet.proofs.LiveCounts.{HasFault, acts_later, all_fine, cut_fault, fault_back, same_later, work_of}
use Rattle.croquet.specs.Run.{RanAsLive, Tells, TellsEnding, TellsMemory, live_ending, refused_line}

-- the end of a live view that such a status tells
abbrev TellsLive : Status → LiveEnd → Type 0
TellsLive status.Ok end = end ≡ live_end.View view_end.Done
TellsLive status.Ended end = end ≡ live_end.View view_end.Ended
TellsLive status.Refused end = (code kept : ℕ) × (end ≡ live_end.View (view_end.Refused code kept))
TellsLive status.Peer end = end ≡ live_end.View view_end.Peer
TellsLive status.NetFault end = end ≡ live_end.View view_end.NetFault
TellsLive result end = Unit {0}

memory_live : {W : Type 0} (out : OutputTells W) (end : LiveEnd) (w w' : W) (result : Status) → TellsMemory out w w' result → TellsLive result end
memory_live out end w w' result (inl (prints, is)) = subst (λ (s : Status). TellsLive s end) (sym is) tt
memory_live out end w w' result (inr (inl (prints, is))) = subst (λ (s : Status). TellsLive s end) (sym is) tt
memory_live out end w w' result (inr (inr (prints, is))) = subst (λ (s : Status). TellsLive s end) (sym is) tt

line_live : {W : Type 0} (out : OutputTells W) (end : LiveEnd) (line : List ℕ) (given : Status) (w w' : W) (result : Status) → TellsLive given end → Tells out line given w w' result → TellsLive result end
line_live out end line given w w' result live (inl (prints, is)) = subst (λ (s : Status). TellsLive s end) (sym is) live
line_live out end line given w w' result live (inr (inl (prints, is))) = subst (λ (s : Status). TellsLive s end) (sym is) tt
line_live out end line given w w' result live (inr (inr (mid, prints, told))) = memory_live out end mid w' result told

end_live : {W : Type 0} (out : OutputTells W) (end : LiveEnd) (w w' : W) (result : Status) → TellsEnding out (live_ending end) w w' result → TellsLive result end
end_live out (live_end.View view_end.Done) w w' result told = subst (λ (s : Status). TellsLive s (live_end.View view_end.Done)) (sym told.1) refl
end_live out (live_end.View (view_end.Refused code kept)) w w' result told = line_live out (live_end.View (view_end.Refused code kept)) (refused_line code kept) status.Refused w w' result (code, kept, refl) told
end_live out (live_end.View view_end.NetFault) w w' result told = line_live out (live_end.View view_end.NetFault) (codes "net-fault\n") status.NetFault w w' result refl told
end_live out (live_end.View view_end.Ended) w w' result told = line_live out (live_end.View view_end.Ended) (codes "ended\n") status.Ended w w' result refl told
end_live out (live_end.View view_end.Peer) w w' result told = line_live out (live_end.View view_end.Peer) (codes "peer\n") status.Peer w w' result refl told
end_live out (live_end.View view_end.WriteFault) w w' result told = subst (λ (s : Status). TellsLive s (live_end.View view_end.WriteFault)) (sym told.1) tt
end_live out (live_end.View view_end.WantOfMemory) w w' result told = memory_live out (live_end.View view_end.WantOfMemory) w w' result told
end_live out live_end.ReadFault w w' result told = line_live out live_end.ReadFault (codes "read-fault\n") status.ReadFault w w' result tt told

-- ---- the phase that an end came by

net_no_want : live_end.View view_end.NetFault ≡ live_end.View view_end.WantOfMemory → ⊥
net_no_want is = cc

same_view : (one other : ViewEnd) → live_end.View one ≡ live_end.View other → one ≡ other
same_view one other is = cc

uncut_over : (other : ViewEnd) → (other ≡ view_end.WantOfMemory → ⊥) → (last : Phase) (told : Option LiveInput) (end : LiveEnd) → end ≡ live_end.View other → EndsLive last told None end → last ≡ Over other
uncut_over other not last None end is (inl (how, over, ends)) = over ∙ ap Over (same_view how other (sym ends ∙ is))
uncut_over other not last None end is (inr want) = absurd (not (same_view other view_end.WantOfMemory (sym is ∙ want)))
uncut_over other not last (Some told) end is want = absurd (not (same_view other view_end.WantOfMemory (sym is ∙ want)))

-- no cut ends a view so
abbrev IsNoCut : ViewEnd → Type 0
IsNoCut view_end.NetFault = ⊥
IsNoCut view_end.WriteFault = ⊥
IsNoCut view_end.WantOfMemory = ⊥
IsNoCut end = Unit {0}

never_cut : (other : ViewEnd) → IsNoCut other → (came : Came) (step : LiveStep) (end : LiveEnd) → end ≡ live_end.View other → IsLiveCutEnd came step end → ⊥
never_cut other none Well step end is cut = cut
never_cut other none WantedMemory step end is cut = subst IsNoCut (same_view other view_end.WantOfMemory (sym is ∙ cut)) none
never_cut other none Failed (Asks what) end is cut = absurd (cc (is, cut))
never_cut other none Failed (Sends frame) end is cut = subst IsNoCut (same_view other view_end.NetFault (sym is ∙ cut)) none
never_cut other none Failed (Prints text) end is cut = subst IsNoCut (same_view other view_end.WriteFault (sym is ∙ cut)) none
never_cut other none Failed (Links address made) end is cut = cut
never_cut other none Failed (Hears what) end is cut = cut
never_cut other none Failed Returns end is cut = cut
never_cut other none Failed Pauses end is cut = cut

cut_over : (other : ViewEnd) → IsNoCut other → (other ≡ view_end.WantOfMemory → ⊥) → (last : Phase) (told : Option LiveInput) (cut : Option LiveCut) (end : LiveEnd) → end ≡ live_end.View other → EndsLive last told cut end → last ≡ Over other
cut_over other none not last told None end is ends = uncut_over other not last told end is ends
cut_over other none not last None (Some cut) end is ends = absurd (never_cut other none cut.came cut.step end is ends)
cut_over other none not last (Some told) (Some cut) end is ends = absurd (never_cut other none cut.came cut.step end is ends)

-- no call cut a run that ends so
no_cut : (other : ViewEnd) → IsNoCut other → (last : Phase) (told : Option LiveInput) (cut : Option LiveCut) (end : LiveEnd) → end ≡ live_end.View other → EndsLive last told cut end → cut ≡ None
no_cut other none last told None end is ends = refl
no_cut other none last None (Some cut) end is ends = absurd (never_cut other none cut.came cut.step end is ends)
no_cut other none last (Some told) (Some cut) end is ends = absurd (never_cut other none cut.came cut.step end is ends)

-- the frames that were sent in turns are those of what was told in them
fit_told : (s : LiveState) (turns : List Turn) → AreFit s turns → (live_run s (inputs_in turns)).fit ≡ true
fit_told s [] fit = refl
fit_told s (None ∷ turns) fit = fit_told s turns fit
fit_told s (Some told ∷ turns) (is, fit) = ap (λ (b : Bool). b && (live_run (live_step s told).state (inputs_in turns)).fit) is ∙ fit_told (live_step s told).state turns fit

-- the phase after turns is that after what was told in them
turns_told : (s : LiveState) (turns : List Turn) → (live_run s (inputs_in turns)).phase ≡ (state_after s turns).phase
turns_told s [] = refl
turns_told s (None ∷ turns) = turns_told s turns
turns_told s (Some told ∷ turns) = turns_told (live_step s told).state turns

-- ---- the law

module _ (ended : LiveViewsEndWithLinks) (refused : LiveViewsEndByRefusals) (failed : LiveViewsEndByFaults) (peer : LiveViewsEndByPeers) (answered : AnsweredLiveViewsHaveNoFault) (replays : AnsweredLiveViewsReplay) where
  -- a run that was not cut ends with a fault of the net only where a step told of one
  module _ {K W N L : Type 0} (tells : LiveTells K W N L) (live : PlainLive) where
    uncut_fault : (turns : List Turn) (old mid : LiveOutside K W N L) → LiveActs tells (steps_of live.address (first_of live) turns) None old mid → (state_after (first_of live) turns).phase ≡ Over view_end.NetFault → HasFault tells old.net mid
    uncut_fault turns old mid acts over =
        elim (all_fine tells old.net (steps_of live.address (first_of live) turns) old mid (same_later tells old.net old.net refl) acts) [
          | inl fine ↦ absurd (failed live.founding live.id live.view live.address (inputs_in turns) (work_of live.address (first_of live) turns fine) (turns_told (first_of live) turns ∙ over))
          | inr fault ↦ fault
        ]

    stopped_fault : (turns : List Turn) (last : Option LiveInput) (cut : Option LiveCut) (end : LiveEnd) (old mid : LiveOutside K W N L) → LiveActs tells (steps_of live.address (first_of live) turns ++ asks_last live.address last) cut old mid
        → EndsLive (state_after (first_of live) turns).phase last cut end → end ≡ live_end.View view_end.NetFault → HasFault tells old.net mid
    stopped_fault turns None None end old mid acts ends is =
        uncut_fault turns old mid (subst (λ (steps : List LiveStep). LiveActs tells steps None old mid) (append-nil (steps_of live.address (first_of live) turns)) acts) (uncut_over view_end.NetFault (λ same. cc) _ None end is ends)
    stopped_fault turns (Some told) None end old mid acts ends is = absurd (net_no_want (sym is ∙ ends))
    stopped_fault turns None (Some cut) end old mid acts ends is =
        cut_fault tells old.net _ cut old mid (same_later tells old.net old.net refl) acts (subst (λ (e : LiveEnd). IsLiveCutEnd cut.came cut.step e) is ends)
    stopped_fault turns (Some told) (Some cut) end old mid acts ends is =
        cut_fault tells old.net _ cut old mid (same_later tells old.net old.net refl) acts (subst (λ (e : LiveEnd). IsLiveCutEnd cut.came cut.step e) is ends)

    ran_fault : (end : LiveEnd) (old new : LiveOutside K W N L) → LiveRan tells live.address (first_of live) end old new → end ≡ live_end.View view_end.NetFault → NetFaultRose tells.net old.net new.net
    ran_fault end old new ran is =
        let stopped = ran.stopped in
        fault_back tells old.net ran.mid new (acts_later tells _ stopped.cut old ran.mid stopped.acts) (stopped_fault stopped.turns stopped.last stopped.cut end old ran.mid stopped.acts stopped.ends is) ran.back

    by_links : (end : LiveEnd) (old new : LiveOutside K W N L) (result : Status) (ran : LiveRan tells live.address (first_of live) end old new) → TellsLive result end
        → OnlyByLiveLinks tells.net live (inputs_in ran.stopped.turns) old.net new.net result
    by_links end old new result ran told =
        let stopped = ran.stopped in
        let phase = turns_told (first_of live) stopped.turns in
        record {
          ended = λ goes is.
              ended live.founding live.id live.view live.address (inputs_in stopped.turns) goes
              (phase ∙ cut_over view_end.Ended tt (λ same. cc) _ stopped.last stopped.cut end (subst (λ (s : Status). TellsLive s end) is told) stopped.ends);
          refused = λ none is.
              let by = subst (λ (s : Status). TellsLive s end) is told in
              refused live.founding live.id live.view live.address (inputs_in stopped.turns) by.0 by.1 none
              (phase ∙ cut_over (view_end.Refused by.0 by.1) tt (λ same. cc) _ stopped.last stopped.cut end by.2 stopped.ends);
          peer = λ well is.
              peer live.founding live.id live.view live.address (inputs_in stopped.turns) well
              (phase ∙ cut_over view_end.Peer tt (λ same. cc) _ stopped.last stopped.cut end (subst (λ (s : Status). TellsLive s end) is told) stopped.ends);
          answered = λ log live_is is.
              answered live.founding live.id live.view live.address log (inputs_in stopped.turns) live_is
              (fit_told (first_of live) stopped.turns (stopped.fit (no_cut view_end.Peer tt _ stopped.last stopped.cut end (subst (λ (s : Status). TellsLive s end) is told) stopped.ends)))
              (phase ∙ cut_over view_end.Peer tt (λ same. cc) _ stopped.last stopped.cut end (subst (λ (s : Status). TellsLive s end) is told) stopped.ends);
          replays = λ log live_is is.
              replays live.founding live.id live.view live.address log (inputs_in stopped.turns) live_is
              (fit_told (first_of live) stopped.turns (stopped.fit (no_cut view_end.Done tt _ stopped.last stopped.cut end (subst (λ (s : Status). TellsLive s end) is told) stopped.ends)))
              (phase ∙ cut_over view_end.Done tt (λ same. cc) _ stopped.last stopped.cut end (subst (λ (s : Status). TellsLive s end) is told) stopped.ends);
          failed = λ is. ran_fault end old new ran (subst (λ (s : Status). TellsLive s end) is told);
        }

  pub live_caused : {K F W N L : Type 0} (files : FilesTell F) (feed : FeedTells K) (out : OutputTells W) (net : NetTells N L) (links : LinksTell L) (coming : Coming) (old new : Outside F W N L) (k k' : K) (result : Status)
      → (ran : RanAsLive (outside_tells files out net links) feed coming old new k k' result) → OnlyByLiveLinks net ran.live (inputs_in ran.lives.0.stopped.turns) ran.ready.net ran.lived.net result
  live_caused files feed out net links coming old new k k' result ran =
      by_links (live_tells feed out net links) ran.live ran.end _ _ result ran.lives.0 (end_live out ran.end ran.lived.out new.out result ran.told.0)
