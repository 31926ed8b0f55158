use Rattle.std.proofs.Common.{arith, sym, refl}
use Rattle.std.proofs.lemmas.List.{length-map}
use Rattle.session_log.specs.Heads.{entry_of}
use Rattle.session_log.proofs.HeadLaws.{popped}
use Rattle.session_log.proofs.log.Log.pop.Goals as goal

pub unreachable-requires : goal.unreachable-requires
unreachable-requires c =
    let fields = c.self.inside in
    let some = rw (← c.self.view_is) at c.requires in
    omega (arith, some, length-map fields.heads.items (entry_of fields.payloads.bytes), fields.heads.ok.0, c.in-None.ensures.cases.0)

pub overflow_sub-self : goal.overflow_sub-self
overflow_sub-self c =
    let fields = c.self.inside in
    let less = popped fields.payloads.bytes fields.heads.items c.pop.new.self.items c.in-Some.head c.self.invariant.kept c.in-Some.ensures.items in
    omega (arith, less.bytes, c.self.invariant.counted, c.payload_len.ensures fields.payloads.bytes less.within)

pub invariant_of-self : goal.invariant_of-self
invariant_of-self c =
    let fields = c.self.inside in
    let less = popped fields.payloads.bytes fields.heads.items c.pop.new.self.items c.in-Some.head c.self.invariant.kept c.in-Some.ensures.items in
    record {
      kept = less.sound;
      counted = omega (arith, less.bytes, c.self.invariant.counted, c.payload_len.ensures fields.payloads.bytes less.within);
      short = omega (arith, c.self.invariant.short, c.in-Some.ensures.cases);
      room_for_entries = omega (arith, c.self.invariant.room_for_entries, c.in-Some.ensures.cases, c.in-Some.ensures.capacity);
    }

pub returns-clause-popped : goal.returns-clause-popped
returns-clause-popped c =
    let fields = c.self.inside in
    let less = popped fields.payloads.bytes fields.heads.items c.pop.new.self.items c.in-Some.head c.self.invariant.kept c.in-Some.ensures.items in
    let kind_is = c.kind_of_head.ensures fields.payloads.bytes in
    rw (← c.self.view_is) (record { last = entry_of fields.payloads.bytes c.in-Some.head; whole = less.whole; of_view = refl; of_kind = sym kind_is })
