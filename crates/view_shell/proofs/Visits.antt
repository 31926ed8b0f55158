-- From link to link.
use Rattle.std.proofs.Common.{◌≡◌, inl, inr, ℕ, List, [], ◌∷◌, Some, None, refl, ap, subst}
use Rattle.std.specs.Prelude.{⊤}
use Rattle.replica_plain.specs.declared.how.How.{How}
use Rattle.run_steps.specs.Steps.{Connects, Returns}
use Rattle.run_steps.specs.Outside.{Outside, OutsideTells, OutputTells, LinksTell, NetTells, Well, Failed, WantedMemory, Acts, MakesLink, TakesBack, net_side, net_side_tells, link_side, link_side_tells}
use Rattle.run_steps.proofs.Beside.{all_with_net}
use Rattle.view_shell.specs.declared.ending.ViewEnd.{ViewEnd}
use Rattle.view_shell.specs.declared.ending.ViewEnd.TheVariants as ending
use Rattle.view_shell.specs.Phases.{Viewer, Phase, Connecting, Returning, Over, enter_session}
use Rattle.view_shell.specs.declared.watcher.Watcher.{Watcher}
use Rattle.view_shell.specs.Viewers.{HasRoomBehind, HasRoomFor, KnowsItself}
use Rattle.view_shell.specs.ViewRun.{Doing, Goes, Stops, ViewRan}
use Rattle.std.proofs.Common.{zero, suc, ◌+◌, ◌-◌, ◌≤◌, length, take, Ok, Err, ◌∙◌, arith}
use Rattle.std.specs.Prelude.{Result, MatchResult, IfOk, OnOk, drop}
use Rattle.std.specs.List.{AllByRecursion}
use Rattle.std.proofs.lemmas.List.{drop-drop, drop-map, length-drop, length-map, take_all}
use Rattle.run_steps.specs.Calls.{came_of, made_of}
use Rattle.run_steps.specs.declared.calls.CallFault.{CallFault}
use Rattle.run_steps.specs.declared.calls.CallFault.TheVariants as fault
use Rattle.view_script.specs.PlainLine.{LineFits, PlainLine, most_publishes, plain_line, plain_lines, publish_count}
use Rattle.view_script.specs.declared.line.ViewLine.{ViewLine}
use Rattle.view_shell.specs.declared.lines.Departure.{Departure}
use Rattle.view_shell.specs.Flows.{departure_phase}
use Rattle.view_shell.proofs.Going.{all_acts_behind, goes_and_stops, goes_on, reaches_end}

-- how a run ends where no link was made
abbrev pub unmade : CallFault → ViewEnd
unmade fault.Failed = ending.NetFault
unmade fault.WantOfMemory = ending.WantOfMemory

module _ {W N L : Type 0} (out : OutputTells W) (net : NetTells N L) (links : LinksTell L) where
  abbrev pub In : OutsideTells ⊤ W N L
  In = net_side_tells out net links

  -- on one link
  pub goes_in_net_side : (p q : Phase) (n : N) (w w' : W) (l l' : L) → Goes (Acts (link_side_tells out links)) p q (link_side w l) (link_side w' l') → Goes (Acts In) p q (net_side w n (Some l)) (net_side w' n (Some l'))
  goes_in_net_side p q n w w' l l' goes = record {
    steps = goes.steps;
    walks = goes.walks;
    acts = all_with_net net (link_side_tells out links) n refl goes.steps None (link_side w l) (link_side w' l') goes.acts;
  }

  pub stops_in_net_side : (p : Phase) (end : ViewEnd) (n : N) (w w' : W) (l l' : L) → Stops (Acts (link_side_tells out links)) p end (link_side w l) (link_side w' l') → Stops (Acts In) p end (net_side w n (Some l)) (net_side w' n (Some l'))
  stops_in_net_side p end n w w' l l' stops = record {
    steps = stops.steps;
    last = stops.last;
    cut = stops.cut;
    walks = stops.walks;
    ends = stops.ends;
    acts = all_with_net net (link_side_tells out links) n refl stops.steps stops.cut (link_side w l) (link_side w' l') stops.acts;
  }

  -- a link is made, or not
  pub connects_goes : (v : Viewer) (how : How) (address : List ℕ) (w : W) (n n' : N) (l : L) → address ≡ v.address → MakesLink net links Well address n n' (Some l) → Goes (Acts In) (Connecting v how) (enter_session v how) (net_side w n None) (net_side w n' (Some l))
  connects_goes v how address w n n' l is makes = record {
    steps = Connects address ∷ [];
    walks = (enter_session v how, (is, refl), refl);
    acts = inl (net_side w n' (Some l), (refl, makes, refl), refl);
  }

  pub connect_stops : (v : Viewer) (how : How) (address : List ℕ) (w : W) (n n' : N) (why : CallFault) → address ≡ v.address → MakesLink net links (came_of {T = L} (Err why)) address n n' None
      → Stops (Acts In) (Connecting v how) (unmade why) (net_side w n None) (net_side w n' None)
  connect_stops v how address w n n' fault.Failed is makes = record {
    steps = Connects address ∷ [];
    last = enter_session v how;
    cut = Some (record { step = Connects address; came = Failed });
    walks = (enter_session v how, (is, refl), refl);
    acts = inr (inl ((refl, makes, refl), refl));
    ends = refl;
  }
  connect_stops v how address w n n' fault.WantOfMemory is makes = record {
    steps = Connects address ∷ [];
    last = enter_session v how;
    cut = Some (record { step = Connects address; came = WantedMemory });
    walks = (enter_session v how, (is, refl), refl);
    acts = inr (inr ((refl, makes, refl), refl));
    ends = refl;
  }

  -- it is given back, and another one is made
  pub returns_goes : (v : Viewer) (how : How) (w : W) (n n' : N) (l : L) → TakesBack net links l n n' → Goes (Acts In) (Returning v how) (Connecting v how) (net_side w n (Some l)) (net_side w n' None)
  returns_goes v how w n n' l takes = record {
    steps = Returns ∷ [];
    walks = (Connecting v how, refl, refl);
    acts = inl (net_side w n' None, (refl, takes, refl), refl);
  }

  -- the run is over, and the link goes back
  pub over_with_link : (p : Phase) (end : ViewEnd) (o : Outside ⊤ W N L) (w : W) (n n' : N) (l : L) → Stops (Acts In) p end o (net_side w n (Some l)) → TakesBack net links l n n' → ViewRan In p end o (net_side w n' None)
  over_with_link p end o w n n' l stops takes = record { mid = net_side w n (Some l); stops = stops; back = (refl, takes, refl) }

  pub over_without_link : (p : Phase) (end : ViewEnd) (o : Outside ⊤ W N L) (w : W) (n : N) → Stops (Acts In) p end o (net_side w n None) → ViewRan In p end o (net_side w n None)
  over_without_link p end o w n stops = record { mid = net_side w n None; stops = stops; back = refl }

  -- what came of a call that failed
  pub made_fails : (result : Result L CallFault) (why one : CallFault) (address : List ℕ) (n n' : N) → result ≡ Err why → why ≡ one → MakesLink net links (came_of result) address n n' (made_of result)
      → MakesLink net links (came_of {T = L} (Err one)) address n n' None
  made_fails result why one address n n' is same makes = subst (λ (r : Result L CallFault). MakesLink net links (came_of r) address n n' (made_of r)) (is ∙ ap (λ (f : CallFault). Err f) same) makes

  pub made_well : (result : Result L CallFault) (l : L) (address : List ℕ) (n n' : N) → result ≡ Ok l → MakesLink net links (came_of result) address n n' (made_of result) → MakesLink net links Well address n n' (Some l)
  made_well result l address n n' is makes = subst (λ (r : Result L CallFault). MakesLink net links (came_of r) address n n' (made_of r)) is makes

  -- a turn from link to link: one is made, and then
  module _ (start : Phase) (v : Viewer) (how : How) (o : Outside ⊤ W N L) (w w' : W) (n n' n'' : N) (l l' : L) (so_far : Goes (Acts In) start (Connecting v how) o (net_side w n None)) (makes : MakesLink net links Well v.address n n' (Some l)) where
    connected : Goes (Acts In) start (enter_session v how) o (net_side w n' (Some l))
    connected = goes_on (Acts In) (all_acts_behind In) start (Connecting v how) (enter_session v how) o (net_side w n None) (net_side w n' (Some l)) so_far (connects_goes v how v.address w n n' l refl makes)

    -- the view goes to another one
    pub turn_goes : (u : Viewer) (again : How) → Goes (Acts (link_side_tells out links)) (enter_session v how) (Returning u again) (link_side w l) (link_side w' l') → TakesBack net links l' n' n'' → Goes (Acts In) start (Connecting u again) o (net_side w' n'' None)
    turn_goes u again goes takes =
        goes_on (Acts In) (all_acts_behind In) start (Returning u again) (Connecting u again) o (net_side w' n' (Some l')) (net_side w' n'' None)
        (goes_on (Acts In) (all_acts_behind In) start (enter_session v how) (Returning u again) o (net_side w n' (Some l)) (net_side w' n' (Some l')) connected (goes_in_net_side (enter_session v how) (Returning u again) n' w w' l l' goes))
        (returns_goes u again w' n' n'' l' takes)

    -- the run stops
    pub turn_stops : (end : ViewEnd) → Stops (Acts (link_side_tells out links)) (enter_session v how) end (link_side w l) (link_side w' l') → TakesBack net links l' n' n'' → ViewRan In start end o (net_side w' n'' None)
    turn_stops end stops takes =
        over_with_link start end o w' n' n'' l'
        (goes_and_stops (Acts In) (all_acts_behind In) start (enter_session v how) end o (net_side w n' (Some l)) (net_side w' n' (Some l')) connected (stops_in_net_side (enter_session v how) end n' w w' l l' stops)) takes

    pub turn_done : Goes (Acts (link_side_tells out links)) (enter_session v how) (Over ending.Done) (link_side w l) (link_side w' l') → TakesBack net links l' n' n'' → ViewRan In start ending.Done o (net_side w' n'' None)
    turn_done goes takes = turn_stops ending.Done (reaches_end (Acts (link_side_tells out links)) (enter_session v how) (Over ending.Done) ending.Done (link_side w l) (link_side w' l') goes refl) takes

-- ---- the lines that are left

pub lines_left : (lines : List ViewLine) (i : ℕ) → take (length lines - i) (drop i lines) ≡ drop i lines
lines_left lines i = take_all (length lines - i) (drop i lines) (let size : length (drop i lines) ≡ length lines - i = length-drop i lines in omega (arith, size))

-- lines that are left behind some of those that were left
pub left_behind : (lines : List ViewLine) (i n : ℕ) → drop n (plain_lines (drop i lines)) ≡ plain_lines (drop (i + n) lines)
left_behind lines i n = drop-map plain_line n (drop i lines) ∙ ap plain_lines (drop-drop n i lines)

pub fits_left : (lines : List ViewLine) (n : ℕ) → AllByRecursion LineFits (plain_lines lines) → AllByRecursion LineFits (plain_lines (drop n lines))
fits_left lines zero fit = fit
fits_left [] (suc n) fit = fit
fits_left (line ∷ lines) (suc n) fit = fits_left lines n fit.1

pub fits_behind : (lines : List ViewLine) (i n : ℕ) → AllByRecursion LineFits (plain_lines (drop i lines)) → AllByRecursion LineFits (plain_lines (drop (i + n) lines))
fits_behind lines i n fit = subst (λ (ls : List ViewLine). AllByRecursion LineFits (plain_lines ls)) (drop-drop n i lines) (fits_left (drop i lines) n fit)

pub few_behind : (lines : List ViewLine) (i n : ℕ) → i ≤ length lines → n ≤ length (plain_lines (drop i lines)) → i + n ≤ length lines
few_behind lines i n within few =
    let plain : length (plain_lines (drop i lines)) ≡ length (drop i lines) = length-map (drop i lines) plain_line in
    let size : length (drop i lines) ≡ length lines - i = length-drop i lines in
    omega (arith, within, few, plain, size)

-- a view that published nothing has room for a script
pub room_at_first : (w : Watcher) (ls : List PlainLine) → w.published ≡ 0 → publish_count ls ≤ most_publishes → HasRoomFor w ls
room_at_first w ls is few = omega (arith, is, few)

-- ---- what came of a link

-- the view attends a link with these lines
abbrev pub Attends : {S : Type 0} → Doing S → (List PlainLine → Phase) → (List PlainLine → Viewer) → S → S → Result Departure ViewEnd → List PlainLine → Type 0
Attends does from u old new result lines = MatchResult result (λ departure. Goes does (from lines) (departure_phase u lines departure) old new) (λ end. Stops does (from lines) end old new)

module _ {S : Type 0} (does : Doing S) (from : List PlainLine → Phase) (u : List PlainLine → Viewer) (old new : S) (ls ls' : List PlainLine) (same : ls ≡ ls') (result : Result Departure ViewEnd) where
  -- the view leaves it so
  pub departs : (one which : Departure) → result ≡ Ok one → one ≡ which → Attends does from u old new result ls → Goes does (from ls') (departure_phase u ls' which) old new
  departs one which is whose talk = subst (λ (r : Result Departure ViewEnd). Attends does from u old new r ls') (is ∙ ap (λ (d : Departure). Ok d) whose) (subst (Attends does from u old new result) same talk)

  pub stops_there : (end : ViewEnd) → result ≡ Err end → Attends does from u old new result ls → Stops does (from ls') end old new
  stops_there end is talk = subst (λ (r : Result Departure ViewEnd). Attends does from u old new r ls') is (subst (Attends does from u old new result) same talk)

-- what holds of a view that leaves a link so
pub leaves_room : (w : Watcher) (ls ls' : List PlainLine) → ls ≡ ls' → (result : Result Departure ViewEnd) (one which : Departure) → result ≡ Ok one → one ≡ which
    → IfOk result (λ departure. HasRoomBehind departure w ls) → HasRoomBehind which w ls'
leaves_room w ls ls' same result one which is whose room =
    subst (λ (r : Result Departure ViewEnd). IfOk r (λ departure. HasRoomBehind departure w ls')) (is ∙ ap (λ (d : Departure). Ok d) whose)
    (subst (λ (lines : List PlainLine). IfOk result (λ departure. HasRoomBehind departure w lines)) same room)

pub leaves_knowing : (w : Watcher) (result : Result Departure ViewEnd) (one : Departure) → result ≡ Ok one → OnOk result (KnowsItself w) → KnowsItself w
leaves_knowing w result one is knows = subst (λ (r : Result Departure ViewEnd). OnOk r (KnowsItself w)) is knows
