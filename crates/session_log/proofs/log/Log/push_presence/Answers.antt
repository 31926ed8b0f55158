use Rattle.std.proofs.Common.{arith, ◌≡◌, ◌++◌, [], length, sym, ap}
use Rattle.std.proofs.lemmas.List.{append-nil}
use Rattle.tea_base.specs.Legal.{MayFollow}
use Rattle.tea_base.specs.Readings.{event_payload}
use Rattle.session_log.specs.Heads.{what_of}
use Rattle.session_log.specs.Kept.{log_entries}
use Rattle.session_log.specs.LogState.{next_entry}
use Rattle.session_log.proofs.HeadLaws.{AreSound-push, counted-push, entries-push, short-push, what_of-presence, payload_of-presence, IsKindWithin-presence}
use Rattle.session_log.proofs.log.Log.push_presence.Goals as goal

pub invariant_of-self : goal.invariant_of-self
invariant_of-self c =
    let fields = c.self.inside in
    let is = c.requires.presence in
    let recorded = what_of [] c.args.kind in
    let may : MayFollow (log_entries fields) (next_entry (log_entries fields) c.args.time c.args.view recorded) = rw (← c.self.view_is) at c.requires.legal in
    let same : fields.payloads.bytes ≡ fields.payloads.bytes ++ event_payload recorded = rw (payload_of-presence c.args.kind is) (sym (append-nil fields.payloads.bytes)) in
    record {
      kept = AreSound-push _ _ fields.heads.items _ _ recorded c.self.invariant.kept same c.push_head-seq.ensures.items (what_of-presence _ _ is) (IsKindWithin-presence _ _ is) (omega (arith, c.push_head-seq.ensures.seq)) may;
      counted =
          let none = sym (ap length (payload_of-presence c.args.kind is)) in
          let pushed = entries-push _ _ _ fields.heads.items _ _ recorded c.self.invariant.kept.within same c.push_head-seq.ensures.items (what_of-presence _ _ is) in
          omega (arith, counted-push (log_entries fields) _ _ fields.bytes 0 pushed c.self.invariant.counted none);
      short = omega (arith, short-push fields.payloads.bytes fields.heads.items c.args.time c.args.view recorded may, c.push_head-seq.ensures.len);
      room_for_entries = omega (arith, c.push_head-seq.ensures.len, c.push_head-seq.ensures.room);
    }
