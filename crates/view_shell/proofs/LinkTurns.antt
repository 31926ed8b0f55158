-- A view's links in their turns: what was done before a link, and what is done on it.
use Rattle.std.proofs.Common.{◌≡◌, ℕ, ◌+◌, ◌-◌, List, None, Some, Ok, Err, drop, length, take, refl, ap}
use Rattle.std.specs.Prelude.{Result}
use Rattle.replica_plain.specs.declared.how.How.{How}
use Rattle.replica_plain.specs.declared.how.How.TheVariants.{Fresh}
use Rattle.run_steps.specs.Calls.{came_of, made_of}
use Rattle.run_steps.specs.Outside.{Acts, LinksTell, MakesLink, NetTells, OutputTells, TakesBack, Well, net_side, link_side, link_side_tells}
use Rattle.run_steps.specs.declared.calls.CallFault.{CallFault}
use Rattle.view_script.specs.PlainLine.{PlainLine, plain_lines}
use Rattle.view_script.specs.declared.line.ViewLine.{ViewLine}
use Rattle.view_shell.specs.declared.ending.ViewEnd.{ViewEnd}
use Rattle.view_shell.specs.declared.ending.ViewEnd.TheVariants as ending
use Rattle.view_shell.specs.declared.lines.Departure.{Departure}
use Rattle.view_shell.specs.declared.lines.Departure.TheVariants as departure
use Rattle.view_shell.specs.declared.watcher.Watcher.{Watcher}
use Rattle.view_shell.specs.Phases.{Connecting, Phase, Returning, enter_session}
use Rattle.view_shell.specs.Viewers.{viewer}
use Rattle.view_shell.specs.ViewRun.{Goes, ViewRan}
use Rattle.view_shell.proofs.Going.{all_acts_behind, goes_and_stops, goes_to}
use Rattle.view_shell.proofs.Visits.{Attends, In, connect_stops, departs, left_behind, lines_left, made_fails, made_well, over_without_link, stops_there, turn_done, turn_goes, turn_stops, unmade}

-- so many lines were done on the links before, and the view joins the next one so
module _ {W N L : Type 0} (out : OutputTells W) (net : NetTells N L) (links : LinksTell L) (address : List ℕ) (script : List ViewLine) (w0 w : Watcher) (lines : List ViewLine) (i : ℕ) (how : How) where
  abbrev pub begins_at : Phase
  begins_at = Connecting (viewer address w0 (plain_lines script)) Fresh

  abbrev pub left : List PlainLine
  left = plain_lines (drop i lines)

  abbrev pub joins_with : List PlainLine → Phase
  joins_with ls = enter_session (viewer address w ls) how

  module _ (o0 o : W) (n0 n n' : N) (so_far : Goes (Acts (In out net links)) begins_at (Connecting (viewer address w left) how) (net_side o0 n0 None) (net_side o n None))
      (made : Result L CallFault) (makes : MakesLink net links (came_of made) address n n' (made_of made)) where
    -- there is none
    pub no_link : (why one : CallFault) → made ≡ Err why → why ≡ one → ViewRan (In out net links) begins_at (unmade one) (net_side o0 n0 None) (net_side o n' None)
    no_link why one is which =
        over_without_link out net links begins_at (unmade one) (net_side o0 n0 None) o n'
        (goes_and_stops (Acts (In out net links)) (all_acts_behind (In out net links)) begins_at (Connecting (viewer address w left) how) (unmade one) (net_side o0 n0 None) (net_side o n None) (net_side o n' None) so_far
        (connect_stops out net links (viewer address w left) how address o n n' one refl (made_fails out net links made why one address n n' is which makes)))

    -- the view attended it, and it goes back
    module _ (l l' : L) (is : made ≡ Ok l) (w' : Watcher) (o' : W) (n'' : N) (takes : TakesBack net links l' n' n'') (attended : Result Departure ViewEnd)
        (talk : Attends (Acts (link_side_tells out links)) joins_with (viewer address w') (link_side o l) (link_side o' l') attended (plain_lines (take (length lines - i) (drop i lines)))) where
      made_link : MakesLink net links Well address n n' (Some l)
      made_link = made_well out net links made l address n n' is makes

      same : plain_lines (take (length lines - i) (drop i lines)) ≡ left
      same = ap plain_lines (lines_left lines i)

      pub attended_again : (one : Departure) (again : How) (count : ℕ) → attended ≡ Ok one → one ≡ departure.Again again count
          → Goes (Acts (In out net links)) begins_at (Connecting (viewer address w' (plain_lines (drop (i + count) lines))) again) (net_side o0 n0 None) (net_side o' n'' None)
      attended_again one again count leaves which =
          turn_goes out net links begins_at (viewer address w left) how (net_side o0 n0 None) o o' n n' n'' l l' so_far made_link (viewer address w' (plain_lines (drop (i + count) lines))) again
          (goes_to (Acts (link_side_tells out links)) (joins_with left) (Returning (viewer address w' (drop count left)) again) (Returning (viewer address w' (plain_lines (drop (i + count) lines))) again) (link_side o l) (link_side o' l')
          (ap (λ (ls : List PlainLine). Returning (viewer address w' ls) again) (left_behind lines i count))
          (departs (Acts (link_side_tells out links)) joins_with (viewer address w') (link_side o l) (link_side o' l') _ left same attended one (departure.Again again count) leaves which talk)) takes

      pub attended_done : (one : Departure) → attended ≡ Ok one → one ≡ departure.Done → ViewRan (In out net links) begins_at ending.Done (net_side o0 n0 None) (net_side o' n'' None)
      attended_done one leaves which =
          turn_done out net links begins_at (viewer address w left) how (net_side o0 n0 None) o o' n n' n'' l l' so_far made_link
          (departs (Acts (link_side_tells out links)) joins_with (viewer address w') (link_side o l) (link_side o' l') _ left same attended one departure.Done leaves which talk) takes

      pub attended_stops : (end : ViewEnd) → attended ≡ Err end → ViewRan (In out net links) begins_at end (net_side o0 n0 None) (net_side o' n'' None)
      attended_stops end stops =
          turn_stops out net links begins_at (viewer address w left) how (net_side o0 n0 None) o o' n n' n'' l l' so_far made_link end
          (stops_there (Acts (link_side_tells out links)) joins_with (viewer address w') (link_side o l) (link_side o' l') _ left same attended end stops talk) takes
