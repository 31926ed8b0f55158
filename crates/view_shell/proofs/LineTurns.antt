-- A script's lines in their turns: what was done before a line, and the line.
use Rattle.std.proofs.Common.{◌≡◌, ℕ, ◌+◌, ◌<◌, ◌≤◌, List, [], ◌∷◌, length, drop, get_or, sym, ap, arith}
use Rattle.std.specs.Prelude.{⊤}
use Rattle.std.proofs.lemmas.List.{drop_all}
use Rattle.replica_plain.specs.declared.how.How.TheVariants.{Resume}
use Rattle.run_steps.specs.Outside.{Acts, LinksTell, Outside, OutputTells, link_side_tells}
use Rattle.view_script.specs.PlainLine.{PlainLine, plain_line, plain_lines}
use Rattle.view_script.specs.declared.line.ViewLine.{ViewLine}
use Rattle.view_shell.specs.declared.ending.ViewEnd.{ViewEnd}
use Rattle.view_shell.specs.declared.lines.LineOutcome.{LineOutcome}
use Rattle.view_shell.specs.declared.lines.LineOutcome.TheVariants as flow
use Rattle.view_shell.specs.declared.watcher.Watcher.{Watcher}
use Rattle.view_shell.specs.Phases.{Phase, Returning, leave_session, run}
use Rattle.view_shell.specs.Flows.{flow_phase}
use Rattle.view_shell.specs.Viewers.{viewer}
use Rattle.view_shell.specs.ViewRun.{Goes, Stops}
use Rattle.view_shell.proofs.Going.{all_acts_behind, goes_and_stops, goes_on, goes_to}
use Rattle.view_shell.proofs.Scripts.{drop_plain, here}

-- lines were done up to one of them
module _ {W L : Type 0} (out : OutputTells W) (links : LinksTell L) (address : List ℕ) (w : Watcher) (lines : List ViewLine) (i : ℕ) where
  abbrev pub phase_at : List PlainLine → Phase
  phase_at left = run (viewer address w left) left

  module _ (first : Phase) (old now new : Outside ⊤ W ⊤ L) (so_far : Goes (Acts (link_side_tells out links)) first (phase_at (plain_lines (drop i lines))) old now) where
    -- that line is done
    module _ (line : ViewLine) (within : i < length lines) (is : line ≡ get_or lines i line) where
      abbrev pub more : List PlainLine
      more = plain_lines (drop (i + 1) lines)

      at_line : Goes (Acts (link_side_tells out links)) first (phase_at (plain_line line ∷ more)) old now
      at_line = goes_to (Acts (link_side_tells out links)) first (phase_at (plain_lines (drop i lines))) (phase_at (plain_line line ∷ more)) old now (ap phase_at (here lines i line within is)) so_far

      pub line_stops : (end : ViewEnd) → Stops (Acts (link_side_tells out links)) (phase_at (plain_line line ∷ more)) end now new → Stops (Acts (link_side_tells out links)) first end old new
      line_stops end stops = goes_and_stops (Acts (link_side_tells out links)) (all_acts_behind (link_side_tells out links)) first (phase_at (plain_line line ∷ more)) end old now new at_line stops

      -- and this comes of it
      module _ (w' : Watcher) (done : LineOutcome) (goes : Goes (Acts (link_side_tells out links)) (phase_at (plain_line line ∷ more)) (flow_phase (viewer address w' more) more done) now new) where
        pub line_flows : (one : LineOutcome) → done ≡ one → Goes (Acts (link_side_tells out links)) first (flow_phase (viewer address w' more) more one) old new
        line_flows one which =
            goes_to (Acts (link_side_tells out links)) first (flow_phase (viewer address w' more) more done) (flow_phase (viewer address w' more) more one) old new (ap (flow_phase (viewer address w' more) more) which)
            (goes_on (Acts (link_side_tells out links)) (all_acts_behind (link_side_tells out links)) first (phase_at (plain_line line ∷ more)) (flow_phase (viewer address w' more) more done) old now new at_line goes)

        pub line_cuts : done ≡ flow.Cuts → Goes (Acts (link_side_tells out links)) first (Returning (viewer address w' (drop (i + 1) (plain_lines lines))) Resume) old new
        line_cuts which =
            goes_to (Acts (link_side_tells out links)) first (Returning (viewer address w' more) Resume) (Returning (viewer address w' (drop (i + 1) (plain_lines lines))) Resume) old new
            (ap (λ (ls : List PlainLine). Returning (viewer address w' ls) Resume) (sym (drop_plain lines (i + 1) (omega (arith, within)))))
            (line_flows flow.Cuts which)

    -- no line is left
    module _ (over : length lines ≤ i) where
      at_end : Goes (Acts (link_side_tells out links)) first (leave_session (viewer address w [])) old now
      at_end = goes_to (Acts (link_side_tells out links)) first (phase_at (plain_lines (drop i lines))) (leave_session (viewer address w [])) old now (ap (λ (ls : List ViewLine). phase_at (plain_lines ls)) (drop_all _ _ over)) so_far

      pub leave_goes : (to : Phase) → Goes (Acts (link_side_tells out links)) (leave_session (viewer address w [])) to now new → Goes (Acts (link_side_tells out links)) first to old new
      leave_goes to goes = goes_on (Acts (link_side_tells out links)) (all_acts_behind (link_side_tells out links)) first (leave_session (viewer address w [])) to old now new at_end goes

      pub leave_stops : (end : ViewEnd) → Stops (Acts (link_side_tells out links)) (leave_session (viewer address w [])) end now new → Stops (Acts (link_side_tells out links)) first end old new
      leave_stops end stops = goes_and_stops (Acts (link_side_tells out links)) (all_acts_behind (link_side_tells out links)) first (leave_session (viewer address w [])) end old now new at_end stops
