use Rattle.std.proofs.Common.{inr, ◌∙◌, sym, subst}
use Rattle.replica.specs.View.{worlds_of}
use Rattle.replica_plain.specs.Taking.{MayWant, taken}
use Rattle.wire_frames.specs.declared.frame.ServerFrame.TheVariants.{Tick}
use Rattle.view_shell.proofs.Keeping.{own_tick}
use Rattle.view_shell.proofs.lines.rest.Goals as goal

pub unreachable-requires : goal.unreachable-requires
unreachable-requires c =
    let r = c.args.watcher.now.replica in
    own_tick (worlds_of r) r.plain c.time-time.result _ c.time-time.ensures.time (sym c.broken.ensures.broken ∙ c.if-broken.false) (rw c.in-Err-OutOfOrder.field-0-is at c.in-Err-OutOfOrder.ensures.taken).0

pub unreachable-requires-in-Err-Back : goal.unreachable-requires-in-Err-Back
unreachable-requires-in-Err-Back c =
    let r = c.args.watcher.now.replica in
    own_tick (worlds_of r) r.plain c.time-time.result _ c.time-time.ensures.time (sym c.broken.ensures.broken ∙ c.if-broken.false) (rw c.in-Err-Back.field-0-is at c.in-Err-Back.ensures.taken).0

pub unreachable-requires-in-Err-BadBase : goal.unreachable-requires-in-Err-BadBase
unreachable-requires-in-Err-BadBase c =
    let r = c.args.watcher.now.replica in
    own_tick (worlds_of r) r.plain c.time-time.result _ c.time-time.ensures.time (sym c.broken.ensures.broken ∙ c.if-broken.false) (rw c.in-Err-BadBase.field-0-is at c.in-Err-BadBase.ensures.taken).0

pub unreachable-requires-in-Err-Broken : goal.unreachable-requires-in-Err-Broken
unreachable-requires-in-Err-Broken c =
    let r = c.args.watcher.now.replica in
    own_tick (worlds_of r) r.plain c.time-time.result _ c.time-time.ensures.time (sym c.broken.ensures.broken ∙ c.if-broken.false) (rw c.in-Err-Broken.field-0-is at c.in-Err-Broken.ensures.taken).0

pub unreachable-requires-in-Err-Refused : goal.unreachable-requires-in-Err-Refused
unreachable-requires-in-Err-Refused c =
    let r = c.args.watcher.now.replica in
    own_tick (worlds_of r) r.plain c.time-time.result _ c.time-time.ensures.time (sym c.broken.ensures.broken ∙ c.if-broken.false) (rw c.in-Err-Refused.field-0-is at c.in-Err-Refused.ensures.taken).0

pub returns-in-Err-WantOfMemory-clause-cause : goal.returns-in-Err-WantOfMemory-clause-cause
returns-in-Err-WantOfMemory-clause-cause c =
    let r = c.args.watcher.now.replica in
    inr (subst (λ t. MayWant (taken (worlds_of r) r.plain (Tick t)).fault) c.time-time.ensures.time (rw c.in-Err-WantOfMemory.field-0-is at c.in-Err-WantOfMemory.ensures.taken).0)
