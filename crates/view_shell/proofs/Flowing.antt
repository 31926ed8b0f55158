-- What comes of a line that was done.
use Rattle.std.proofs.Common.{◌≡◌, ℕ, List, Ok, Err, sym, subst}
use Rattle.std.specs.Prelude.{⊤, Result, OnOk, IfErr, MatchResult}
use Rattle.replica_plain.specs.Calls.{takes_out}
use Rattle.run_steps.specs.Outside.{OutputTells, LinksTell, Well, Acts, PrintsText, link_side, link_side_tells}
use Rattle.view_script.specs.PlainLine.{PlainLine}
use Rattle.view_shell.specs.declared.ending.ViewEnd.{ViewEnd}
use Rattle.view_shell.specs.declared.ending.ViewEnd.TheVariants as ending
use Rattle.view_shell.specs.declared.lines.LineOutcome.{LineOutcome}
use Rattle.view_shell.specs.Phases.{Viewer, Phase, Over, PrintingLast, after_rest, after_telling, finish, run, show_world, shown_text, world_text}
use Rattle.view_shell.specs.Flows.{flow_of, flow_phase}
use Rattle.view_shell.specs.ViewRun.{Doing, Goes, GoesOrStops, LinkActs, Stops, StopsPrinting}
use Rattle.view_shell.proofs.Going.{Follows, goes_and_stops, goes_on}
use Rattle.view_shell.proofs.Printings.{finish_stops, finished_goes, last_goes, last_stops, line_goes, line_stops, show_stops, showed_goes}

-- a line leads from this phase to the next line, or stops
abbrev pub Done : {S : Type 0} → Doing S → Phase → Viewer → List PlainLine → S → S → Result ⊤ ViewEnd → Type 0
Done does from v lines old new done = MatchResult done (λ it. Goes does from (run v lines) old new) (λ end. Stops does from end old new)

-- the same, as it is told of its flow
abbrev pub Flows : {S : Type 0} → Doing S → Phase → Viewer → List PlainLine → S → S → Result LineOutcome ViewEnd → Type 0
Flows does from v lines old new flow = MatchResult flow (λ one. Goes does from (flow_phase v lines one) old new) (λ end. Stops does from end old new)

flow_by : {S : Type 0} (does : Doing S) (from : Phase) (v : Viewer) (lines : List PlainLine) (old new : S) (done : Result ⊤ ViewEnd) → Done does from v lines old new done → Flows does from v lines old new (flow_of done)
flow_by does from v lines old new (Ok it) talk = talk
flow_by does from v lines old new (Err end) talk = talk

pub flow_from : {S : Type 0} (does : Doing S) (from start : Phase) (v : Viewer) (lines : List PlainLine) (old new : S) (done : Result ⊤ ViewEnd) (flow : Result LineOutcome ViewEnd) → flow ≡ flow_of done → from ≡ start
    → Done does start v lines old new done → Flows does from v lines old new flow
flow_from does from start v lines old new done flow is same talk =
    subst (λ (f : Result LineOutcome ViewEnd). Flows does from v lines old new f) (sym is)
    (subst (λ (p : Phase). Flows does p v lines old new (flow_of done)) (sym same) (flow_by does start v lines old new done talk))

pub done_from : {S : Type 0} (does : Doing S) (from start : Phase) (v : Viewer) (lines : List PlainLine) (old new : S) (done : Result ⊤ ViewEnd) → from ≡ start → Done does start v lines old new done → Done does from v lines old new done
done_from does from start v lines old new done same talk = subst (λ (p : Phase). Done does p v lines old new done) (sym same) talk

-- behind what was done before
pub done_behind : {S : Type 0} (does : Doing S) (follows : Follows does) (from mid : Phase) (v : Viewer) (lines : List PlainLine) (old now new : S) (done : Result ⊤ ViewEnd) → Goes does from mid old now → Done does mid v lines now new done → Done does from v lines old new done
done_behind does follows from mid v lines old now new (Ok it) first goes = goes_on does follows from mid (run v lines) old now new first goes
done_behind does follows from mid v lines old now new (Err end) first stops = goes_and_stops does follows from mid end old now new first stops

-- a text was told, or not
pub done_printing : {W L : Type 0} (out : OutputTells W) (links : LinksTell L) (l : L) (w w' : W) (v v' : Viewer) (text : List ℕ) (done : Result ⊤ ViewEnd)
    → OnOk done (v' ≡ record v { replica = takes_out v.replica }) → OnOk done (PrintsText out Well (shown_text v text) w w') → IfErr done (λ end. StopsPrinting out end (shown_text v text) w w')
    → Done (Acts (link_side_tells out links)) (finish v text) v' v'.lines (link_side w l) (link_side w' l) done
done_printing out links l w w' v v' text (Ok it) is prints never = finished_goes out links l w w' v v' text is prints
done_printing out links l w w' v v' text (Err end) is prints stops = finish_stops out links l w w' v text end stops

-- a world was shown, or not
pub done_showing : {W L : Type 0} (out : OutputTells W) (links : LinksTell L) (l : L) (w w' : W) (v v' : Viewer) (done : Result ⊤ ViewEnd)
    → OnOk done (v' ≡ after_telling (after_rest v)) → OnOk done (PrintsText out Well (shown_text (after_rest v) (world_text (after_rest v))) w w')
    → IfErr done (λ end. StopsPrinting out end (shown_text (after_rest v) (world_text (after_rest v))) w w')
    → Done (Acts (link_side_tells out links)) (show_world v) v' v'.lines (link_side w l) (link_side w' l) done
done_showing out links l w w' v v' (Ok it) is prints never = showed_goes out links l w w' v v' is prints
done_showing out links l w w' v v' (Err end) is prints stops = show_stops out links l w w' v end stops

-- what a link does, and then a text that was told, or not
pub line_done : {W L : Type 0} (out : OutputTells W) (links : LinksTell L) (from : Phase) (w w' : W) (l l' : L) (v v' : Viewer) (text : List ℕ) (done : Result ⊤ ViewEnd)
    → OnOk done (v' ≡ record v { replica = takes_out v.replica }) → Goes (LinkActs links) from (finish v text) l l' → OnOk done (PrintsText out Well (shown_text v text) w w') → IfErr done (λ end. StopsPrinting out end (shown_text v text) w w')
    → Done (Acts (link_side_tells out links)) from v' v'.lines (link_side w l) (link_side w' l') done
line_done out links from w w' l l' v v' text (Ok it) is goes prints never = line_goes out links from w w' l l' v v' text is goes prints
line_done out links from w w' l l' v v' text (Err end) is goes prints stops = line_stops out links from w w' l l' v text end goes stops

-- and then the last text, or not
pub last_done : {W L : Type 0} (out : OutputTells W) (links : LinksTell L) (from : Phase) (w w' : W) (l l' : L) (text : List ℕ) (done : Result ⊤ ViewEnd)
    → Goes (LinkActs links) from (PrintingLast text) l l' → OnOk done (PrintsText out Well text w w') → IfErr done (λ end. StopsPrinting out end text w w')
    → GoesOrStops (Acts (link_side_tells out links)) from (λ it. Over ending.Done) done (link_side w l) (link_side w' l')
last_done out links from w w' l l' text (Ok it) goes prints never = last_goes out links from w w' l l' text goes prints
last_done out links from w w' l l' text (Err end) goes prints stops = last_stops out links from w w' l l' text end goes stops
