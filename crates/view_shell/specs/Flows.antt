-- The phases behind a line and behind a link.
use Rattle.std.specs.Prelude.{drop, List, ⊤, Result, Ok, Err}
use Rattle.replica_plain.specs.declared.how.How.{How}
use Rattle.replica_plain.specs.declared.how.How.TheVariants.{Fresh, Whole, Resume}
use Rattle.view_script.specs.PlainLine.{PlainLine}
use Rattle.view_shell.specs.declared.ending.ViewEnd.{ViewEnd}
use Rattle.view_shell.specs.declared.ending.ViewEnd.TheVariants as ending
use Rattle.view_shell.specs.declared.lines.LineOutcome.{LineOutcome}
use Rattle.view_shell.specs.declared.lines.LineOutcome.TheVariants as flow
use Rattle.view_shell.specs.declared.lines.Departure.{Departure}
use Rattle.view_shell.specs.declared.lines.Departure.TheVariants as departure
use Rattle.view_shell.specs.Phases.{Viewer, Phase, Returning, Over, run, with_lines}

-- a line of the script is done, and the script goes on; or the link is cut; or all is done
abbrev pub flow_phase : Viewer → List PlainLine → LineOutcome → Phase
flow_phase v lines flow.GoesOn = run v lines
flow_phase v lines flow.Cuts = Returning (with_lines v lines) Resume
flow_phase v lines flow.Leaves = Over ending.Done

-- a link is done with: another one is made, on which the view joins so, and goes on behind so many lines; or all is done
abbrev pub departure_phase : (List PlainLine → Viewer) → List PlainLine → Departure → Phase
departure_phase v lines (departure.Again how count) = Returning (v (drop count lines)) how
departure_phase v lines departure.Done = Over ending.Done

-- what comes of a base that is none: a view that joined for the first time asks for the whole log on another link
abbrev pub bad_base_answer : How → Result Departure ViewEnd
bad_base_answer Fresh = Ok (departure.Again Whole 0)
bad_base_answer Whole = Err ending.Peer
bad_base_answer Resume = Err ending.Peer

-- what comes of a line that was done so
abbrev pub flow_of : Result ⊤ ViewEnd → Result LineOutcome ViewEnd
flow_of (Ok done) = Ok flow.GoesOn
flow_of (Err end) = Err end
