-- The run of a live view, and a command that goes on as one.
use Rattle.std.proofs.Common.{inl, inr, ℕ, List, [], Option, Some, None, refl}
use Rattle.run_steps.specs.Outside.{Came, Well, Failed, WantedMemory, FilesTell, OutputTells, NetTells, LinksTell, files_side, files_side_tells, outside, outside_tells}
use Rattle.run_steps.proofs.Beside.{all_beside_net}
use Rattle.view_shell.specs.declared.ending.ViewEnd.TheVariants as view_end
use Rattle.view_shell.specs.Phases.{Phase}
use Rattle.live_view.specs.declared.input.LiveInput.{LiveInput}
use Rattle.live_view.specs.Live.{LiveState}
use Rattle.live_view.specs.Script.{first_state}
use Rattle.live_shell.specs.declared.ending.LiveEnd.{LiveEnd}
use Rattle.live_shell.specs.declared.ending.LiveEnd.TheVariants as live_end
use Rattle.live_shell.specs.LiveRun.{EndsLive, IsLiveCutEnd, LiveRan}
use Rattle.live_shell.specs.LiveSteps.{LiveStep, Asks, Links, Hears, Sends, Prints, Returns, Pauses, FeedTells, LiveCut, LiveOutside, LiveTells, live_outside, live_tells}
use Rattle.commands.specs.Verdict.{ByLive, Coming, PlainLive}
use Rattle.croquet.specs.declared.status.Status.{Status}
use Rattle.croquet.specs.Calls.{LiveViewRan, TellsLiveEnd}
use Rattle.croquet.specs.Run.{RanAsLive, Reaches, TellsMemory}

-- ---- where memory runs out for the line of a refusal, the run ends for want of memory

abbrev refused : ℕ → ℕ → LiveEnd
refused code kept = live_end.View (view_end.Refused code kept)

abbrev wanting : LiveEnd
wanting = live_end.View view_end.WantOfMemory

cut_not_refused : (came : Came) (step : LiveStep) (code kept : ℕ) → IsLiveCutEnd came step (refused code kept) → IsLiveCutEnd came step wanting
cut_not_refused Well step code kept never = absurd never
cut_not_refused WantedMemory step code kept is = refl
cut_not_refused Failed (Asks what) code kept is = absurd cc
cut_not_refused Failed (Sends frame) code kept is = absurd cc
cut_not_refused Failed (Prints text) code kept is = absurd cc
cut_not_refused Failed (Links address made) code kept never = absurd never
cut_not_refused Failed (Hears what) code kept never = absurd never
cut_not_refused Failed Returns code kept never = absurd never
cut_not_refused Failed Pauses code kept never = absurd never

ends_wanting : (last : Phase) (told : Option LiveInput) (cut : Option LiveCut) (code kept : ℕ) → EndsLive last told cut (refused code kept) → EndsLive last told cut wanting
ends_wanting last None None code kept ends = inr refl
ends_wanting last (Some told) None code kept ends = refl
ends_wanting last None (Some cut) code kept ends = cut_not_refused cut.came cut.step code kept ends
ends_wanting last (Some told) (Some cut) code kept ends = cut_not_refused cut.came cut.step code kept ends

module _ {K W N L : Type 0} (tells : LiveTells K W N L) (address : List ℕ) (first : LiveState) (old new : LiveOutside K W N L) where
  ran_wanting : (code kept : ℕ) → LiveRan tells address first (refused code kept) old new → LiveRan tells address first wanting old new
  ran_wanting code kept ran =
      let stopped = ran.stopped in
      record {
        mid = ran.mid;
        stopped = record {
          turns = stopped.turns;
          last = stopped.last;
          cut = stopped.cut;
          acts = stopped.acts;
          ends = ends_wanting _ stopped.last stopped.cut code kept stopped.ends;
          fair = stopped.fair;
          wants = stopped.wants;
          fit = stopped.fit;
        };
        back = ran.back;
      }

-- ---- the run

module _ {K W N L : Type 0} (feed : FeedTells K) (out : OutputTells W) (net : NetTells N L) (links : LinksTell L) (live : PlainLive) where
  abbrev first : LiveState
  first = first_state live.founding live.id live.view live.address

  -- a live view's run was done, and its end told
  pub live_view_ran
      : (k k' : K) (w said w' : W) (n n' : N) (end : LiveEnd) (result : Status)
      → LiveRan (live_tells feed out net links) live.address first end (live_outside k w n None) (live_outside k' said n' None) → TellsLiveEnd out end said w' result
      → LiveViewRan (live_tells feed out net links) live k k' w w' n n' result
  live_view_ran k k' w said w' n n' (live_end.View (view_end.Refused code kept)) result ran (inl told) =
      record { end = refused code kept; said = said; ran = ran; told = told }
  live_view_ran k k' w said w' n n' (live_end.View (view_end.Refused code kept)) result ran (inr told) =
      record { end = wanting; said = said; ran = ran_wanting (live_tells feed out net links) live.address first (live_outside k w n None) (live_outside k' said n' None) code kept ran; told = told }
  live_view_ran k k' w said w' n n' (live_end.View view_end.Done) result ran told = record { end = live_end.View view_end.Done; said = said; ran = ran; told = told }
  live_view_ran k k' w said w' n n' (live_end.View view_end.NetFault) result ran told = record { end = live_end.View view_end.NetFault; said = said; ran = ran; told = told }
  live_view_ran k k' w said w' n n' (live_end.View view_end.Ended) result ran told = record { end = live_end.View view_end.Ended; said = said; ran = ran; told = told }
  live_view_ran k k' w said w' n n' (live_end.View view_end.Peer) result ran told = record { end = live_end.View view_end.Peer; said = said; ran = ran; told = told }
  live_view_ran k k' w said w' n n' (live_end.View view_end.WriteFault) result ran told = record { end = live_end.View view_end.WriteFault; said = said; ran = ran; told = told }
  live_view_ran k k' w said w' n n' (live_end.View view_end.WantOfMemory) result ran told = record { end = wanting; said = said; ran = ran; told = told }
  live_view_ran k k' w said w' n n' live_end.ReadFault result ran told = record { end = live_end.ReadFault; said = said; ran = ran; told = told }

  -- memory was wanted before it began
  pub live_view_wanting : (k : K) (w w' : W) (n : N) (result : Status) → TellsMemory out w w' result → LiveViewRan (live_tells feed out net links) live k k w w' n n result
  live_view_wanting k w w' n result told = record {
    end = wanting;
    said = w;
    ran = record {
      mid = live_outside k w n None;
      stopped = record { turns = []; last = None; cut = None; acts = refl; ends = inr refl; fair = tt; wants = tt; fit = λ none. tt };
      back = (refl, refl);
    };
    told = told;
  }

-- a command that goes on as a live view's run
pub ran_living
    : {K F W N L : Type 0} (files : FilesTell F) (feed : FeedTells K) (out : OutputTells W) (net : NetTells N L) (links : LinksTell L) (coming : Coming) (live : PlainLive)
    (k k' : K) (f f' : F) (w next w' : W) (n n' : N) (result : Status)
    → Reaches (files_side_tells files out) coming (ByLive live) (files_side f w) (files_side f' next) → LiveViewRan (live_tells feed out net links) live k k' next w' n n' result
    → RanAsLive (outside_tells files out net links) feed coming (outside f w n None) (outside f' w' n' None) k k' result
ran_living files feed out net links coming live k k' f f' w next w' n n' result reached ran = record {
  live = live;
  ready = outside f' next n None;
  reaches = record {
    steps = reached.steps;
    comes = reached.comes;
    acts = all_beside_net net links (files_side_tells files out) n refl refl reached.steps None (files_side f w) (files_side f' next) reached.acts;
  };
  end = ran.end;
  lived = outside f' ran.said n' None;
  lives = (ran.ran, refl);
  told = (ran.told, refl);
}
