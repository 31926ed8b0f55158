-- Texts that a view prints, on an output beside a link.
use Rattle.std.proofs.Common.{◌≡◌, inl, inr, ℕ, ◌≤◌, List, [], ◌∷◌, Option, Some, None, refl, sym, ap, subst, arith, append-nil}
use Rattle.tea_io.specs.Told.{with_more}
use Rattle.run_steps.specs.Steps.{Prints}
use Rattle.run_steps.specs.Outside.{OutputTells, LinksTell, Well, Failed, WantedMemory, Acts, PrintsText, link_side, link_side_tells}
use Rattle.replica_plain.specs.Calls.{takes_out}
use Rattle.view_shell.specs.declared.ending.ViewEnd.{ViewEnd}
use Rattle.view_shell.specs.declared.ending.ViewEnd.TheVariants as ending
use Rattle.wire_frames.specs.declared.frame.ClientFrame.TheVariants as client
use Rattle.view_shell.specs.Phases.{Viewer, Phase, Sending, Printing, PrintingLast, Over, Leaves, Moves, after_rest, after_telling, finish, leave_session, run, show_world, shown_text, world_text}
use Rattle.view_shell.specs.ViewRun.{Goes, LinkActs, Stops, StopsPrinting}
use Rattle.view_shell.proofs.Going.{all_acts_behind, goes_and_stops, goes_in_link_side, goes_on, wants}

with_more_nothing : (told : Option (List ℕ)) → told ≡ with_more told []
with_more_nothing None = refl
with_more_nothing (Some text) = ap (λ (t : List ℕ). Some t) (sym (append-nil text))

stays : (n : ℕ) → n ≤ n
stays n = omega arith

-- nothing is printed of an empty text
pub prints_nothing : {W : Type 0} (out : OutputTells W) (w : W) → PrintsText out Well [] w w
prints_nothing out w = record { written = with_more_nothing (out.written w); counted = stays (out.faults w); wanted = stays (out.wants w) }

module _ {W L : Type 0} (out : OutputTells W) (links : LinksTell L) (l : L) (w w' : W) where
  -- a text is due in this phase
  text_goes : (from next : Phase) (text : List ℕ) → Moves from (Prints text) next → PrintsText out Well text w w' → Goes (Acts (link_side_tells out links)) from next (link_side w l) (link_side w' l)
  text_goes from next text moves prints = record { steps = Prints text ∷ []; walks = (next, moves, refl); acts = inl (link_side w' l, (prints, refl), refl) }

  text_stops : (from next : Phase) (text : List ℕ) (end : ViewEnd) → Moves from (Prints text) next → StopsPrinting out end text w w' → Stops (Acts (link_side_tells out links)) from end (link_side w l) (link_side w' l)
  text_stops from next text ending.WriteFault moves prints = record {
    steps = Prints text ∷ [];
    last = next;
    cut = Some (record { step = Prints text; came = Failed });
    walks = (next, moves, refl);
    acts = inr (inl ((prints, refl), refl));
    ends = refl;
  }
  text_stops from next text ending.WantOfMemory moves (inl prints) = record {
    steps = Prints text ∷ [];
    last = next;
    cut = Some (record { step = Prints text; came = WantedMemory });
    walks = (next, moves, refl);
    acts = inr (inr ((prints, refl), refl));
    ends = refl;
  }
  text_stops from next text ending.WantOfMemory moves (inr kept) = record {
    steps = [];
    last = from;
    cut = None;
    walks = refl;
    acts = ap (λ (o : W). link_side o l) kept;
    ends = inr refl;
  }
  text_stops from next text ending.Done moves never = absurd never
  text_stops from next text (ending.Refused code kept) moves never = absurd never
  text_stops from next text ending.NetFault moves never = absurd never
  text_stops from next text ending.Ended moves never = absurd never
  text_stops from next text ending.Peer moves never = absurd never

  pub printed_goes : (v : Viewer) (text : List ℕ) → PrintsText out Well text w w' → Goes (Acts (link_side_tells out links)) (Printing v text) (run v v.lines) (link_side w l) (link_side w' l)
  printed_goes v text prints = text_goes (Printing v text) (run v v.lines) text (refl, refl) prints

  pub printed_last : (text : List ℕ) → PrintsText out Well text w w' → Goes (Acts (link_side_tells out links)) (PrintingLast text) (Over ending.Done) (link_side w l) (link_side w' l)
  printed_last text prints = text_goes (PrintingLast text) (Over ending.Done) text (refl, refl) prints

  pub print_stops : (v : Viewer) (text : List ℕ) (end : ViewEnd) → StopsPrinting out end text w w' → Stops (Acts (link_side_tells out links)) (Printing v text) end (link_side w l) (link_side w' l)
  print_stops v text end stops = text_stops (Printing v text) (run v v.lines) text end (refl, refl) stops

  pub print_last_stops : (text : List ℕ) (end : ViewEnd) → StopsPrinting out end text w w' → Stops (Acts (link_side_tells out links)) (PrintingLast text) end (link_side w l) (link_side w' l)
  print_last_stops text end stops = text_stops (PrintingLast text) (Over ending.Done) text end (refl, refl) stops

  -- the script is done: the view rests, tells what came of that, and leaves
  pub rested_goes : (v v' : Viewer) → v' ≡ after_telling (after_rest v) → PrintsText out Well (shown_text (after_rest v) []) w w' → Goes (Acts (link_side_tells out links)) (leave_session v) (Sending v' client.Leave [] Leaves) (link_side w l) (link_side w' l)
  unfolding leave_session
  rested_goes v v' is prints =
      subst (λ (u : Viewer). Goes (Acts (link_side_tells out links)) (leave_session v) (Sending u client.Leave [] Leaves) (link_side w l) (link_side w' l)) (sym is)
      (text_goes (leave_session v) (Sending (after_telling (after_rest v)) client.Leave [] Leaves) (shown_text (after_rest v) []) (refl, refl) prints)

  pub rest_stops : (v : Viewer) (end : ViewEnd) → StopsPrinting out end (shown_text (after_rest v) []) w w' → Stops (Acts (link_side_tells out links)) (leave_session v) end (link_side w l) (link_side w' l)
  unfolding leave_session
  rest_stops v end stops = text_stops (leave_session v) (Sending (after_telling (after_rest v)) client.Leave [] Leaves) (shown_text (after_rest v) []) end (refl, refl) stops

  -- a line of the script is done, and told
  pub finished_goes : (v v' : Viewer) (text : List ℕ) → v' ≡ record v { replica = takes_out v.replica } → PrintsText out Well (shown_text v text) w w' → Goes (Acts (link_side_tells out links)) (finish v text) (run v' v'.lines) (link_side w l) (link_side w' l)
  finished_goes v v' text is prints =
      subst (λ (u : Viewer). Goes (Acts (link_side_tells out links)) (finish v text) (run u u.lines) (link_side w l) (link_side w' l)) (sym is)
      (printed_goes (record v { replica = takes_out v.replica }) (shown_text v text) prints)

  pub finish_stops : (v : Viewer) (text : List ℕ) (end : ViewEnd) → StopsPrinting out end (shown_text v text) w w' → Stops (Acts (link_side_tells out links)) (finish v text) end (link_side w l) (link_side w' l)
  finish_stops v text end stops = print_stops (record v { replica = takes_out v.replica }) (shown_text v text) end stops

  -- the view rests, and tells what came of that and its world
  pub showed_goes : (v v' : Viewer) → v' ≡ after_telling (after_rest v) → PrintsText out Well (shown_text (after_rest v) (world_text (after_rest v))) w w'
      → Goes (Acts (link_side_tells out links)) (show_world v) (run v' v'.lines) (link_side w l) (link_side w' l)
  unfolding show_world
  showed_goes v v' is prints = finished_goes (after_rest v) v' (world_text (after_rest v)) is prints

  pub show_stops : (v : Viewer) (end : ViewEnd) → StopsPrinting out end (shown_text (after_rest v) (world_text (after_rest v))) w w' → Stops (Acts (link_side_tells out links)) (show_world v) end (link_side w l) (link_side w' l)
  unfolding show_world
  show_stops v end stops = finish_stops (after_rest v) (world_text (after_rest v)) end stops

-- ---- what a link does, and then a text

module _ {W L : Type 0} (out : OutputTells W) (links : LinksTell L) (from : Phase) (w w' : W) (l l' : L) where
  pub line_goes : (v v' : Viewer) (text : List ℕ) → v' ≡ record v { replica = takes_out v.replica } → Goes (LinkActs links) from (finish v text) l l' → PrintsText out Well (shown_text v text) w w'
      → Goes (Acts (link_side_tells out links)) from (run v' v'.lines) (link_side w l) (link_side w' l')
  line_goes v v' text is goes prints =
      goes_on (Acts (link_side_tells out links)) (all_acts_behind (link_side_tells out links)) from (finish v text) (run v' v'.lines) (link_side w l) (link_side w l') (link_side w' l')
      (goes_in_link_side out links w from (finish v text) l l' goes) (finished_goes out links l' w w' v v' text is prints)

  pub line_stops : (v : Viewer) (text : List ℕ) (end : ViewEnd) → Goes (LinkActs links) from (finish v text) l l' → StopsPrinting out end (shown_text v text) w w'
      → Stops (Acts (link_side_tells out links)) from end (link_side w l) (link_side w' l')
  line_stops v text end goes stops =
      goes_and_stops (Acts (link_side_tells out links)) (all_acts_behind (link_side_tells out links)) from (finish v text) end (link_side w l) (link_side w l') (link_side w' l')
      (goes_in_link_side out links w from (finish v text) l l' goes) (finish_stops out links l' w w' v text end stops)

  pub last_goes : (text : List ℕ) → Goes (LinkActs links) from (PrintingLast text) l l' → PrintsText out Well text w w'
      → Goes (Acts (link_side_tells out links)) from (Over ending.Done) (link_side w l) (link_side w' l')
  last_goes text goes prints =
      goes_on (Acts (link_side_tells out links)) (all_acts_behind (link_side_tells out links)) from (PrintingLast text) (Over ending.Done) (link_side w l) (link_side w l') (link_side w' l')
      (goes_in_link_side out links w from (PrintingLast text) l l' goes) (printed_last out links l' w w' text prints)

  pub last_stops : (text : List ℕ) (end : ViewEnd) → Goes (LinkActs links) from (PrintingLast text) l l' → StopsPrinting out end text w w'
      → Stops (Acts (link_side_tells out links)) from end (link_side w l) (link_side w' l')
  last_stops text end goes stops =
      goes_and_stops (Acts (link_side_tells out links)) (all_acts_behind (link_side_tells out links)) from (PrintingLast text) end (link_side w l) (link_side w l') (link_side w' l')
      (goes_in_link_side out links w from (PrintingLast text) l l' goes) (print_last_stops out links l' w w' text end stops)

  -- memory is wanted behind what a link did
  pub wants_behind : (to : Phase) (end : ViewEnd) → w' ≡ w → Goes (LinkActs links) from to l l' → end ≡ ending.WantOfMemory → Stops (Acts (link_side_tells out links)) from end (link_side w l) (link_side w' l')
  wants_behind to end kept goes want =
      subst (λ (o : W). Stops (Acts (link_side_tells out links)) from end (link_side w l) (link_side o l')) (sym kept)
      (goes_and_stops (Acts (link_side_tells out links)) (all_acts_behind (link_side_tells out links)) from to end (link_side w l) (link_side w l') (link_side w l')
      (goes_in_link_side out links w from to l l' goes) (wants (link_side_tells out links) to end (link_side w l') want))
