-- A view that may hear its link.
use Rattle.std.proofs.Common.{◌≡◌, ℕ, List, Ok, Err, sym, ap, ◌∙◌, subst, arith}
use Rattle.view_shell.specs.declared.watcher.Watcher.{Watcher}
use Rattle.replica.specs.View.{KeepsSession, ReplicaView, with_plain, worlds_of}
use Rattle.replica_plain.specs.Calls.{joining, publishes, takes_out}
use Rattle.replica_plain.specs.declared.how.How.{How}
use Rattle.std.specs.Prelude.{⊤, Result, OnOk}
use Rattle.view_bridge.specs.declared.topic.Topic.{Topic}
use Rattle.view_shell.specs.declared.ending.ViewEnd.{ViewEnd}
use Rattle.view_shell.specs.Phases.{after_join, after_publish, after_rest, after_telling, rested}
use Rattle.view_script.specs.PlainLine.{PlainLine}
use Rattle.view_shell.specs.Viewers.{HasHeard, IsReady, KnowsItself, viewer}
use Rattle.view_shell.proofs.Keeping.{Keeps}

-- it has sent a frame
pub ready_again : (w w' : Watcher) → w' ≡ record w { receives = w'.receives } → w'.receives ≡ 0 → IsReady w → IsReady w'
ready_again w w' kept zero ready =
    let is : w' ≡ record w { receives = 0 } = kept ∙ ap (λ (n : ℕ). record w { receives = n }) zero in
    subst IsReady (sym is) (record { knows = record { view = ready.knows.view; published = ready.knows.published; program = ready.knows.program; session = ready.knows.session }; receives = omega arith; quiets = ready.quiets })

-- its replica took a frame
pub knows_on : (w : Watcher) (replica : ReplicaView) → Keeps w.replica.plain replica.plain → KeepsSession w.replica replica → KnowsItself w → KnowsItself (record w { replica = replica })
knows_on w replica keeps session knows = record {
  view = knows.view ∙ sym keeps.view;
  published = knows.published ∙ sym keeps.published;
  program = knows.program ∙ sym (ap (λ (r : ReplicaView). r.program) session);
  session = knows.session ∙ sym (ap (λ (r : ReplicaView). r.id) session);
}

-- a view that sent frames, and nothing else of it moved
pub viewer_sent : (address : List ℕ) (lines : List PlainLine) (w w' : Watcher) → w' ≡ record w { receives = w'.receives } → record (viewer address w lines) { receives = w'.receives } ≡ viewer address w' lines
viewer_sent address lines w w' kept = ap (λ (one : Watcher). viewer address one lines) (sym kept)

-- a view that handled the events and told them
pub viewer_told : (address : List ℕ) (lines : List PlainLine) (w w' : Watcher) → w' ≡ record w { replica = w'.replica } → w'.replica ≡ with_plain w.replica (takes_out w.replica.plain)
    → viewer address w' lines ≡ record (viewer address w lines) { replica = takes_out w.replica.plain }
viewer_told address lines w w' kept is =
    ap (λ (one : Watcher). viewer address one lines) kept ∙ ap (λ (r : ReplicaView). viewer address (record w { replica = r }) lines) is

-- a view that told a line, or had no memory for it
pub viewer_finished : (address : List ℕ) (lines : List PlainLine) (w w' : Watcher) (done : Result ⊤ ViewEnd) → w' ≡ record w { replica = w'.replica } → OnOk done (w'.replica ≡ with_plain w.replica (takes_out w.replica.plain))
    → OnOk done (viewer address w' lines ≡ record (viewer address w lines) { replica = takes_out w.replica.plain })
viewer_finished address lines w w' (Ok it) kept is = viewer_told address lines w w' kept is
viewer_finished address lines w w' (Err end) kept is = tt

-- a view that rested
pub viewer_at_rest : (address : List ℕ) (lines : List PlainLine) (w w' : Watcher) → w' ≡ record w { replica = w'.replica } → w'.replica ≡ with_plain w.replica (rested (worlds_of w.replica) w.replica.plain)
    → viewer address w' lines ≡ after_rest (viewer address w lines)
viewer_at_rest address lines w w' kept is =
    ap (λ (one : Watcher). viewer address one lines) kept ∙ ap (λ (r : ReplicaView). viewer address (record w { replica = r }) lines) is

-- a view that rested and told what came of it
pub viewer_rested : (address : List ℕ) (lines : List PlainLine) (w w' : Watcher) → w' ≡ record w { replica = w'.replica } → w'.replica ≡ with_plain w.replica (takes_out (rested (worlds_of w.replica) w.replica.plain))
    → viewer address w' lines ≡ after_telling (after_rest (viewer address w lines))
viewer_rested address lines w w' kept is =
    ap (λ (one : Watcher). viewer address one lines) kept ∙ ap (λ (r : ReplicaView). viewer address (record w { replica = r }) lines) is

-- a view that rested and told what came of that, or had no memory for it
pub viewer_shown : (address : List ℕ) (lines : List PlainLine) (w w' : Watcher) (done : Result ⊤ ViewEnd) → w' ≡ record w { replica = w'.replica } → OnOk done (w'.replica ≡ with_plain w.replica (takes_out (rested (worlds_of w.replica) w.replica.plain)))
    → OnOk done (viewer address w' lines ≡ after_telling (after_rest (viewer address w lines)))
viewer_shown address lines w w' (Ok it) kept is = viewer_rested address lines w w' kept is
viewer_shown address lines w w' (Err end) kept is = tt

-- a view that sent one frame
pub viewer_after_send : (address : List ℕ) (lines : List PlainLine) (w w' : Watcher) → w' ≡ record w { receives = w'.receives } → w'.receives ≡ 0 → record (viewer address w lines) { receives = 0 } ≡ viewer address w' lines
viewer_after_send address lines w w' kept zero = ap (λ (n : ℕ). record (viewer address w lines) { receives = n }) (sym zero) ∙ viewer_sent address lines w w' kept

-- a view that published an event
pub viewer_published : (address : List ℕ) (lines : List PlainLine) (w w' : Watcher) (payload : List ℕ) → w' ≡ record w { replica = w'.replica; published = w'.published } → w'.replica ≡ with_plain w.replica (publishes w.replica.plain payload)
    → after_publish (viewer address w lines) payload ≡ viewer address w' lines
viewer_published address lines w w' payload kept is =
    sym (ap (λ (one : Watcher). viewer address one lines) kept ∙ ap (λ (r : ReplicaView). viewer address (record w { replica = r; published = w'.published }) lines) is)

pub ready_published : (w w' : Watcher) → w' ≡ record w { replica = w'.replica; published = w'.published } → KnowsItself w' → IsReady w → IsReady w'
ready_published w w' kept knows ready = record {
  knows = knows;
  receives = let same : w'.receives ≡ w.receives = ap (λ (one : Watcher). one.receives) kept in let few = ready.receives in omega (arith, same, few);
  quiets = let same : w'.quiets ≡ w.quiets = ap (λ (one : Watcher). one.quiets) kept in let few = ready.quiets in omega (arith, same, few);
}

pub heard_published : (w w' : Watcher) → w' ≡ record w { replica = w'.replica; published = w'.published } → KnowsItself w' → HasHeard w → HasHeard w'
heard_published w w' kept knows heard = record {
  knows = knows;
  receives = let same : w'.receives ≡ w.receives = ap (λ (one : Watcher). one.receives) kept in let few = heard.receives in omega (arith, same, few);
  quiets = let same : w'.quiets ≡ w.quiets = ap (λ (one : Watcher). one.quiets) kept in let few = heard.quiets in omega (arith, same, few);
}

-- a view that watches a topic, and told the events
pub viewer_watched : (address : List ℕ) (lines : List PlainLine) (w w' : Watcher) (topics : List Topic) (done : Result ⊤ ViewEnd) → w' ≡ record w { replica = w'.replica; topics = w'.topics } → OnOk done (w'.topics ≡ topics)
    → OnOk done (w'.replica ≡ with_plain w.replica (takes_out w.replica.plain)) → OnOk done (viewer address w' lines ≡ record (viewer address w lines) { topics = topics; replica = takes_out w.replica.plain })
viewer_watched address lines w w' topics (Ok it) kept watched is =
    ap (λ (one : Watcher). viewer address one lines) kept ∙ ap (λ (t : List Topic). viewer address (record w { replica = w'.replica; topics = t }) lines) watched
    ∙ ap (λ (r : ReplicaView). viewer address (record w { replica = r; topics = topics }) lines) is
viewer_watched address lines w w' topics (Err end) kept watched is = tt

-- a view that joins, and sent its frame
pub viewer_joined : (address : List ℕ) (lines : List PlainLine) (w w' : Watcher) (replica : ReplicaView) (how : How) → w' ≡ record w { replica = replica; receives = w'.receives; quiets = 0 } → w'.receives ≡ 0
    → replica ≡ with_plain w.replica (joining w.replica.plain how) → after_join (viewer address w lines) how ≡ viewer address w' lines
viewer_joined address lines w w' replica how kept zero is =
    sym (ap (λ (one : Watcher). viewer address one lines) kept
    ∙ ap (λ (n : ℕ). viewer address (record w { replica = replica; receives = n; quiets = 0 }) lines) zero
    ∙ ap (λ (r : ReplicaView). viewer address (record w { replica = r; receives = 0; quiets = 0 }) lines) is)
