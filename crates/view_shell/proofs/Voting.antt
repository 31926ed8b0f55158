-- A view that hears its link for an entry, and votes on it.
use Rattle.std.proofs.Common.{◌≡◌, ℕ, ◌+◌, ◌≤◌, ◌<◌, Bool, true, false, List, Option, Some, None, Ok, Err, refl, sym, ap, subst, arith}
use Rattle.std.specs.Prelude.{nat_le, ⊤, Result, OnOk}
use Rattle.std.proofs.lemmas.Bool.Decides.{nat_tests}
use Rattle.wire_frames.specs.declared.frame.ServerFrame.{ServerFrame}
use Rattle.replica.specs.View.{with_plain}
use Rattle.replica_plain.specs.Calls.{publishes}
use Rattle.view_script.specs.PlainLine.{PlainLine}
use Rattle.view_shell.specs.declared.ending.ViewEnd.{ViewEnd}
use Rattle.view_shell.specs.declared.lines.LineOutcome.{LineOutcome}
use Rattle.view_shell.specs.declared.watcher.Watcher.{Watcher}
use Rattle.view_shell.specs.Flows.{flow_of}
use Rattle.view_shell.specs.Phases.{Viewer, ToSee, Receiving, after_entry, finish, give_vote, vote_by, vote_on, vote_spelling}
use Rattle.view_shell.specs.ViewText.{vote_missed_line}
use Rattle.view_shell.specs.Viewers.{viewer}
use Rattle.view_shell.specs.Hearing.{HeardPhase, brings_entry, voted_phase}
use Rattle.view_shell.proofs.Readiness.{viewer_published}

-- the payload of a view's vote on an entry
abbrev pub vote_bytes : Watcher → ℕ → List ℕ
vote_bytes w at = vote_spelling at w.replica.plain.world

-- an entry that the view has
pub missed : (v : Viewer) (at : ℕ) → at ≤ v.replica.seen → vote_on v at ≡ finish v (vote_missed_line v.replica.seen)
missed v at late = let has : nat_le at v.replica.seen ≡ true = grind (arith, nat_tests, late) in ap (λ (b : Bool). vote_by b v at) has

-- one that it has not
pub not_missed : (v : Viewer) (at : ℕ) → v.replica.seen < at → vote_on v at ≡ Receiving v (ToSee at)
not_missed v at early = let has : nat_le at v.replica.seen ≡ false = grind (arith, nat_tests, early) in ap (λ (b : Bool). vote_by b v at) has

-- what was heard, by whether it brought the entry
pub heard_for_entry : (v : Viewer) (at : ℕ) (frame : Option ServerFrame) → HeardPhase v (ToSee at) frame ≡ after_entry (brings_entry frame at v.replica.seen) v at
heard_for_entry v at None = refl
heard_for_entry v at (Some frame) = refl

-- the vote was published, or the entry is awaited still
pub voted : (address : List ℕ) (lines : List PlainLine) (w w' : Watcher) (at : ℕ) (comes : Bool) (done : Result ⊤ ViewEnd) → comes ≡ true
    → w' ≡ record w { replica = w'.replica; published = w'.published } → OnOk done (w'.replica ≡ with_plain w.replica (publishes w.replica.plain (vote_bytes w at)))
    → OnOk done (after_entry comes (viewer address w lines) at ≡ voted_phase (viewer address w' lines) at comes)
voted address lines w w' at comes (Ok it) is kept publishes =
    let same = viewer_published address lines w w' (vote_bytes w at) kept publishes in
    subst (λ (b : Bool). after_entry b (viewer address w lines) at ≡ voted_phase (viewer address w' lines) at b) (sym is) (ap (λ (v : Viewer). give_vote v at) same)
voted address lines w w' at comes (Err end) is kept publishes = tt

pub not_voted : (v : Viewer) (at : ℕ) (comes : Bool) → comes ≡ false → after_entry comes v at ≡ voted_phase v at comes
not_voted v at comes is = subst (λ (b : Bool). after_entry b v at ≡ voted_phase v at b) (sym is) refl

-- ---- how many events are published

pub if_well : {X : Type 0} (done : Result ⊤ ViewEnd) → X → OnOk done X
if_well (Ok it) x = x
if_well (Err end) x = tt

pub count_most : (done : Result ⊤ ViewEnd) (now before : ℕ) → OnOk done (now ≡ before + 1) → OnOk done (now ≤ before + 1)
count_most (Ok it) now before one = omega (arith, one)
count_most (Err end) now before one = tt

flow_by : (X : Type 0) (done : Result ⊤ ViewEnd) → OnOk done X → OnOk (flow_of done) X
flow_by X (Ok it) x = x
flow_by X (Err end) x = tt

pub flow_well : (X : Type 0) (done : Result ⊤ ViewEnd) (flow : Result LineOutcome ViewEnd) → flow ≡ flow_of done → OnOk done X → OnOk flow X
flow_well X done flow is x = subst (λ (f : Result LineOutcome ViewEnd). OnOk f X) (sym is) (flow_by X done x)
