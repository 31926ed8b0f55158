use Rattle.std.proofs.Common.{arith, ◌≡◌, ◌+◌, length, refl}
use Rattle.std.proofs.lemmas.List.{length-map}
use Rattle.tea_base.specs.declared.entry.What.TheVariants as what
use Rattle.tea_base.specs.Legal.{MayFollow}
use Rattle.tea_base.proofs.LogLaws.{payload_bytes-legal}
use Rattle.session_log.specs.Heads.{entry_of}
use Rattle.session_log.specs.Kept.{log_entries}
use Rattle.session_log.specs.LogState.{next_entry}
use Rattle.session_log.proofs.HeadLaws.{AreSound-push, counted-push, entries-push, short-push}
use Rattle.session_log.proofs.log.Log.push_event.Goals as goal

pub store_event-kind-requires-clause-room : goal.store_event-kind-requires-clause-room
store_event-kind-requires-clause-room c = rw (← c.self.view_is) at c.requires.room_for_bytes

pub store_event-kind-requires-clause-short : goal.store_event-kind-requires-clause-short
store_event-kind-requires-clause-short c = c.requires.legal.allowed.2

pub overflow_add-self : goal.overflow_add-self
overflow_add-self c = omega (arith, payload_bytes-legal _ c.self.invariant.kept.legal, c.self.invariant.counted, c.requires.legal.allowed.2)

pub invariant_of-self : goal.invariant_of-self
invariant_of-self c =
    let fields = c.self.inside in
    let stored = c.store_event-kind.ensures in
    let event = what.Event c.args.number c.args.payload.now in
    let may : MayFollow (log_entries fields) (next_entry (log_entries fields) c.args.time c.args.view event) = rw (← c.self.view_is) at c.requires.legal in
    record {
      kept = AreSound-push _ _ fields.heads.items _ _ event c.self.invariant.kept stored.appended c.push_head-seq.ensures.items stored.kept stored.within (omega (arith, c.push_head-seq.ensures.seq)) may;
      counted = counted-push (log_entries fields) _ _ fields.bytes (length c.args.payload.now) (entries-push _ _ _ fields.heads.items _ _ event c.self.invariant.kept.within stored.appended c.push_head-seq.ensures.items stored.kept) c.self.invariant.counted refl;
      short = omega (arith, short-push fields.payloads.bytes fields.heads.items c.args.time c.args.view event may, c.push_head-seq.ensures.len);
      room_for_entries = omega (arith, c.push_head-seq.ensures.len, c.push_head-seq.ensures.room);
    }

pub returns-clause-entries : goal.returns-clause-entries
returns-clause-entries c =
    let fields = c.self.inside in
    let stored = c.store_event-kind.ensures in
    let seq_is : length (log_entries fields) + 1 ≡ c.push_head-seq.result = omega (arith, length-map fields.heads.items (entry_of fields.payloads.bytes), c.push_head-seq.ensures.seq) in
    let pushed = entries-push _ _ _ fields.heads.items _ _ (what.Event c.args.number c.args.payload.now) c.self.invariant.kept.within stored.appended c.push_head-seq.ensures.items stored.kept in
    rw (← c.self.view_is, seq_is) pushed
