-- What a step of a live view does to it.
use Rattle.std.proofs.Common.{arith, ◌≡◌, ◌<◌, ℕ, Bool, true, false, List, [], ◌++◌, drop, Option, Some, None, string_bytes, refl, sym, ap, subst, ◌∙◌, append-nil}
use Rattle.std.proofs.lemmas.Bool.Decides.{nat_tests}
use Rattle.std.specs.Arc.{arc_value}
use Rattle.std.specs.Prelude.{◌+◌, nat_le, nat_lt, ◌&&◌, Result, Ok, Err, OnOk}
use Rattle.tea_io.specs.declared.link.Heard.{Heard}
use Rattle.tea_io.specs.declared.link.Heard.TheVariants as heard
use Rattle.replica_plain.specs.declared.how.How.{How}
use Rattle.tea_base.specs.declared.want.WantOfMemory.{WantOfMemory}
use Rattle.replica_plain.specs.declared.how.How.TheVariants.{Fresh}
use Rattle.replica_plain.specs.PlainReplica.{published_count}
use Rattle.view_script.specs.PlainLine.{PlainLine, most_publishes, plain_lines, publish_count}
use Rattle.view_script.specs.declared.line.ViewLine.{ViewLine}
use Rattle.view_shell.specs.declared.ending.ViewEnd.{ViewEnd}
use Rattle.view_shell.specs.declared.watcher.Watcher.{Watcher}
use Rattle.model_solved.specs.Founding.{CheckedView, checked_tree}
use Rattle.replica.specs.View.{ReplicaView, founded_replica, worlds_of}
use Rattle.view_bridge.specs.declared.topic.Topic.{Topic}
use Rattle.view_shell.specs.Phases.{Viewer, Phase, Aim, Connecting, Sending, Receiving, Printing, Leaving, PrintingLast, Returning, Over}
use Rattle.view_shell.specs.Viewers.{IsReady, KnowsItself, viewer}
use Rattle.live_view.specs.declared.input.LiveInput.TheVariants as input
use Rattle.live_view.specs.declared.input.Goal.{Goal}
use Rattle.live_view.specs.declared.input.Goal.TheVariants as aim
use Rattle.live_view.specs.declared.input.Place.{Place}
use Rattle.live_view.specs.declared.input.Place.TheVariants as at
use Rattle.live_view.specs.declared.machine.LiveView.{LiveView}
use Rattle.live_view.specs.declared.outcome.LiveOutcome.{LiveOutcome}
use Rattle.live_view.specs.declared.queue.Queue.{Queue}
use Rattle.live_view.specs.Doing.{IsReadyAt, Tells, after, aim_of, phase_at, votes_at, votes_for}
use Rattle.live_view.specs.Live.{LiveState, LiveTold, Told, arrives, awaited, goes_on, has_arrived, has_room, held_on, holds_on, is_held, is_over, join_behind, joined_as, line_again, lines_from, more_lines, rests, viewer_of, votes_in, waits, wakes, wakes_by}
use Rattle.live_view.specs.View.{IsLive, queue_left}

-- a view that may hear its link is ready at each place
pub ready_at : (place : Place) (w : Watcher) → IsReady w → IsReadyAt (Some place) w
ready_at (at.Unlinked how) w ready = ready.knows
ready_at (at.Hears goal) w ready = ready
ready_at (at.Gone end) w ready = tt

-- ---- what is not lost

true_false : (b : Bool) → b ≡ true → b ≡ false → ⊥
true_false b is_so is_not = cc

stands_if : (b : Bool) → (b ≡ true → ⊥) → b ≡ false
stands_if true never = absurd (never refl)
stands_if false never = refl

hears_not : (goal : Goal) → at.Hears goal ≡ at.Unlinked Fresh → ⊥
hears_not goal is = cc

-- a view that hears its link, or has ended, has lost nothing
pub heard_stands : (lost : Bool) (place : Place) (goal : Goal) → place ≡ at.Hears goal → (lost ≡ true → place ≡ at.Unlinked Fresh) → lost ≡ false
heard_stands lost place goal is lives = stands_if lost (λ is_so. hears_not goal (sym is ∙ lives is_so))

gone_not : (end : ViewEnd) → at.Gone end ≡ at.Unlinked Fresh → ⊥
gone_not end is = cc

pub ended_stands : (lost : Bool) (place : Place) (end : ViewEnd) → place ≡ at.Gone end → (lost ≡ true → place ≡ at.Unlinked Fresh) → lost ≡ false
ended_stands lost place end is lives = stands_if lost (λ is_so. gone_not end (sym is ∙ lives is_so))

-- a call of a view that has lost something does not do well
pub never_well : {A : Type 0} (done : Result A WantOfMemory) (lost : Bool) → lost ≡ true → OnOk done (lost ≡ false) → OnOk done ⊥
never_well (Ok done) lost is_so is_not = true_false lost is_so is_not
never_well (Err want) lost is_so is_not = tt

-- what is so of a view that lost something is nothing to one that did not
pub never_lost : {A : Type 0} (lost : Bool) → lost ≡ false → lost ≡ true → A
never_lost lost is_not is_so = absurd (true_false lost is_so is_not)

-- ---- a view that rests, and one that does not

pub rested_ready : (place : Place) (w : Watcher) (v : Viewer) → rests (phase_at place v) ≡ true → IsReadyAt (Some place) w → IsReady w
rested_ready (at.Unlinked how) w v is ready = absurd cc
rested_ready (at.Hears goal) w v is ready = ready
rested_ready (at.Gone end) w v is ready = absurd cc

pub rested_wakes : (place : Place) (v : Viewer) (closed : Bool) → rests (phase_at place v) ≡ true → wakes closed (phase_at place v) ≡ goes_on closed v
rested_wakes (at.Unlinked how) v closed is = absurd cc
rested_wakes (at.Hears goal) v closed is = ap (λ (b : Bool). wakes_by b closed (phase_at (at.Hears goal) v)) is
rested_wakes (at.Gone end) v closed is = absurd cc

pub not_wakes : (phase : Phase) (closed : Bool) → rests phase ≡ false → wakes closed phase ≡ waits phase
not_wakes phase closed is = ap (λ (b : Bool). wakes_by b closed phase) is

-- ---- lines that are left

-- the lines that are left were done, up to where one waits
pub lines_told : (out new : LiveOutcome) (closed : Bool) (address : List ℕ) (w w' : Watcher) (slice base : List ViewLine) (queue : Queue) (place : Place) (count : ℕ) → slice ≡ base → queue_left queue ≡ plain_lines (drop count slice)
    → after out (lines_from closed (plain_lines slice) (viewer address w (plain_lines slice))) ≡ after new (waits (phase_at place (viewer address w' (plain_lines (drop count slice)))))
    → after out (lines_from closed (plain_lines base) (viewer address w (plain_lines base))) ≡ after new (waits (phase_at place (viewer address w' (queue_left queue))))
lines_told out new closed address w w' slice base queue place count same left told =
    ap (λ (ls : List ViewLine). after out (lines_from closed (plain_lines ls) (viewer address w (plain_lines ls)))) (sym same)
    ∙ told ∙ ap (λ (ls : List PlainLine). after new (waits (phase_at place (viewer address w' ls)))) (sym left)

-- more lines are left
pub more_at : (place : Place) (address : List ℕ) (w : Watcher) (lines more all : List PlainLine) → all ≡ lines ++ more → more_lines (phase_at place (viewer address w lines)) more ≡ phase_at place (viewer address w all)
more_at (at.Unlinked how) address w lines more all is = ap (λ (ls : List PlainLine). phase_at (at.Unlinked how) (viewer address w ls)) (sym is)
more_at (at.Hears goal) address w lines more all is = ap (λ (ls : List PlainLine). phase_at (at.Hears goal) (viewer address w ls)) (sym is)
more_at (at.Gone end) address w lines more all is = refl

-- a view that has not ended has a phase with it
pub viewer_in : (place : Place) (v : Viewer) → is_over (phase_at place v) ≡ false → viewer_of (phase_at place v) ≡ Some v
viewer_in (at.Unlinked how) v is = refl
viewer_in (at.Hears goal) v is = refl
viewer_in (at.Gone end) v is = absurd cc

pub over_none : (place : Place) (v : Viewer) → is_over (phase_at place v) ≡ true → viewer_of (phase_at place v) ≡ None
over_none (at.Unlinked how) v is = absurd cc
over_none (at.Hears goal) v is = absurd cc
over_none (at.Gone end) v is = refl

-- the view in a phase
pub viewer_at : (place : Place) (v u : Viewer) → viewer_of (phase_at place v) ≡ Some u → v ≡ u
viewer_at (at.Unlinked how) v u is = cc
viewer_at (at.Hears goal) v u is = cc
viewer_at (at.Gone end) v u is = absurd cc

-- the votes that are at work
goal_votes : (goal : Goal) (v : Viewer) → votes_in (Receiving v (aim_of goal)) ≡ votes_for goal
goal_votes (aim.Join how) v = refl
goal_votes (aim.Reach time) v = refl
goal_votes aim.Settle v = refl
goal_votes aim.Snap v = refl
goal_votes aim.CatchUp v = refl
goal_votes (aim.See entry) v = refl

pub votes_are : (place : Place) (v : Viewer) → votes_in (phase_at place v) ≡ votes_at (Some place)
votes_are (at.Unlinked how) v = refl
votes_are (at.Hears goal) v = goal_votes goal v
votes_are (at.Gone end) v = refl

-- whether there is room for lines that came
pub has_room_is : (test : Bool) (place : Place) (address : List ℕ) (w : Watcher) (lines more : List PlainLine) (v : Viewer) → viewer_of (phase_at place (viewer address w lines)) ≡ Some v → w.published ≡ published_count w.replica.plain
    → nat_le (w.published + votes_at (Some place) + publish_count lines + publish_count more) most_publishes ≡ test → has_room (votes_in (phase_at place (viewer address w lines))) v more ≡ test
has_room_is test place address w lines more v is knows fits =
    let votes = votes_in (phase_at place (viewer address w lines)) in
    ap (λ (u : Viewer). has_room votes u more) (sym (viewer_at place (viewer address w lines) v is))
    ∙ ap (λ (n : ℕ). has_room n (viewer address w lines) more) (votes_are place (viewer address w lines))
    ∙ ap (λ (n : ℕ). nat_le (n + votes_at (Some place) + publish_count lines + publish_count more) most_publishes) (sym knows) ∙ fits

-- ---- a link that is gone

never_both : (b : Bool) → (b && false) ≡ true → ⊥
never_both true is = cc
never_both false is = cc

-- it says no entry by which the view joined
pub none_joined : (aim : Aim) (holds : ℕ) (v : Viewer) (what : Heard) → holds_on holds v what ≡ true → joined_as aim what ≡ None
none_joined aim holds v (heard.Frame bytes) is = absurd (never_both (nat_lt 0 holds) is)
none_joined aim holds v heard.Quiet is = refl
none_joined aim holds v heard.End is = refl
none_joined aim holds v heard.Failed is = refl
none_joined aim holds v heard.WantOfMemory is = refl

-- it wants another link, and the line that was at work is left before the others
pub held_tells : (out : LiveOutcome) (address : List ℕ) (w w' : Watcher) (lines all : List PlainLine) (goal : Goal) (how : How) → w' ≡ w → how ≡ join_behind (aim_of goal) → all ≡ line_again (aim_of goal) ++ lines
    → Tells out out (waits (held_on (viewer address w lines) (aim_of goal))) (phase_at (at.Unlinked how) (viewer address w' all))
held_tells out address w w' lines all goal how kept joins left =
    let is = ap (λ (x : Watcher). Connecting (viewer address x all) how) kept ∙ ap (λ (h : How). Connecting (viewer address w all) h) joins
    ∙ ap (λ (ls : List PlainLine). Connecting (viewer address w ls) (join_behind (aim_of goal))) left in
    record { tells = ap (λ (p : Phase). after out (waits p)) (sym is) }

-- ---- a whole step

-- the view behind a step, with another entry that it awaits
pub live_on : (old new : LiveView) (joined : Option ℕ) → new ≡ record old { joined = joined } → IsLive old → IsLive new
live_on old new joined is live = subst IsLive (sym is) (record { knows = live.knows; ready = live.ready; lines = live.lines; lost = live.lost; empty = live.empty })

pub told_all : (old new : LiveOutcome) (t : Told) (phase : Phase) → old.frames ≡ [] → string_bytes old.text ≡ [] → after old t ≡ after new (waits phase) → t ≡ record { frames = new.frames; text = string_bytes new.text; fit = true; phase = phase }
told_all old new t phase frames text is =
    ap (λ (fs : List (List ℕ)). record { frames = fs ++ t.frames; text = t.text; fit = t.fit; phase = t.phase }) (sym frames)
    ∙ ap (λ (s : List ℕ). record { frames = old.frames ++ t.frames; text = s ++ t.text; fit = t.fit; phase = t.phase }) (sym text)
    ∙ is
    ∙ ap (λ (fs : List (List ℕ)). record { frames = fs; text = string_bytes new.text ++ []; fit = true; phase = phase }) (append-nil new.frames)
    ∙ ap (λ (s : List ℕ). record { frames = new.frames; text = s; fit = true; phase = phase }) (append-nil (string_bytes new.text))

pub stepped : (t : Told) (frames : List (List ℕ)) (text : List ℕ) (phase : Phase) (closed closed' : Bool) (count count' holds holds' : ℕ) (joined joined' : Option ℕ) (lost arrived : Bool)
    → t ≡ record { frames = frames; text = text; fit = true; phase = phase } → closed ≡ closed' → count ≡ count' → holds ≡ holds' → joined ≡ joined' → lost ≡ false → arrived ≡ has_arrived phase joined
    → ◌≡◌ {A = LiveTold} (record { frames = frames; text = text; fit = true; here = arrived; state = record { phase = phase; closed = closed; count = count; holds = holds; joined = awaited arrived phase joined; lost = lost } })
    (arrives t (record { phase = t.phase; closed = closed'; count = count'; holds = holds'; joined = joined'; lost = false }))
stepped t frames text phase closed closed' count count' holds holds' joined joined' lost arrived is shut counted held entry whole here =
    let one : Told = record { frames = frames; text = text; fit = true; phase = phase } in
    ap (λ (b : Bool). record { frames = frames; text = text; fit = true; here = b; state = record { phase = phase; closed = closed; count = count; holds = holds; joined = awaited b phase joined; lost = lost } }) here
    ∙ ap (λ (b : Bool). arrives one (record { phase = phase; closed = b; count = count; holds = holds; joined = joined; lost = lost })) shut
    ∙ ap (λ (n : ℕ). arrives one (record { phase = phase; closed = closed'; count = n; holds = holds; joined = joined; lost = lost })) counted
    ∙ ap (λ (n : ℕ). arrives one (record { phase = phase; closed = closed'; count = count'; holds = n; joined = joined; lost = lost })) held
    ∙ ap (λ (j : Option ℕ). arrives one (record { phase = phase; closed = closed'; count = count'; holds = holds'; joined = j; lost = lost })) entry
    ∙ ap (λ (b : Bool). arrives one (record { phase = phase; closed = closed'; count = count'; holds = holds'; joined = joined'; lost = b })) whole
    ∙ ap (λ (u : Told). arrives u (record { phase = u.phase; closed = closed'; count = count'; holds = holds'; joined = joined'; lost = false })) (sym is)

-- ---- a view that was told nothing yet

pub found_knows : (w : Watcher) (program : CheckedView) (id : List ℕ) → w.replica ≡ founded_replica program id w.view → w.published ≡ 0 → arc_value w.program ≡ program → w.id.0 ≡ id → KnowsItself w
found_knows w program id is none of_program of_session = record {
  view = sym (ap (λ (r : ReplicaView). r.plain.view) is);
  published = none ∙ sym (ap (λ (r : ReplicaView). published_count r.plain) is);
  program = of_program ∙ sym (ap (λ (r : ReplicaView). r.program) is);
  session = of_session ∙ sym (ap (λ (r : ReplicaView). r.id) is);
}

abbrev first_at : List ℕ → ReplicaView → List Topic → List PlainLine → LiveState
first_at address r topics lines =
    record {
      phase = Connecting (record { worlds = worlds_of r; tree = checked_tree r.program; address = address; replica = r.plain; topics = topics; lines = lines; receives = 0; quiets = 0 }) Fresh;
      closed = false;
      count = 0;
      holds = 0;
      joined = None;
      lost = false;
    }

pub found_first : (address : List ℕ) (r founded : ReplicaView) (topics : List Topic) (lines : List PlainLine) → r ≡ founded → topics ≡ [] → lines ≡ [] → first_at address r topics lines ≡ first_at address founded [] []
found_first address r founded topics lines is none nothing =
    ap (λ (x : ReplicaView). first_at address x topics lines) is ∙ ap (λ (t : List Topic). first_at address founded t lines) none ∙ ap (λ (ls : List PlainLine). first_at address founded [] ls) nothing

-- ---- what changes no link

pub linked_not : (holds : ℕ) (phase : Phase) → is_held holds phase input.Linked ≡ false
linked_not holds (Connecting v how) = refl
linked_not holds (Sending v frame frames task) = refl
linked_not holds (Receiving v aim) = refl
linked_not holds (Printing v text) = refl
linked_not holds (Leaving v text) = refl
linked_not holds (PrintingLast text) = refl
linked_not holds (Returning v how) = refl
linked_not holds (Over end) = refl

pub closed_not : (holds : ℕ) (phase : Phase) → is_held holds phase input.Closed ≡ false
closed_not holds (Connecting v how) = refl
closed_not holds (Sending v frame frames task) = refl
closed_not holds (Receiving v aim) = refl
closed_not holds (Printing v text) = refl
closed_not holds (Leaving v text) = refl
closed_not holds (PrintingLast text) = refl
closed_not holds (Returning v how) = refl
closed_not holds (Over end) = refl

-- a view holds on where links are left, and one is gone
pub holds_is : (holds : ℕ) (ends test : Bool) → 0 < holds → test ≡ ends → test ≡ (nat_lt 0 holds && ends)
holds_is holds ends test some is =
    let more : nat_lt 0 holds ≡ true = grind (arith, nat_tests, some) in
    is ∙ ap (λ (b : Bool). b && ends) (sym more)
