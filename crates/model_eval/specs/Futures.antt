-- Messages to come.
use Rattle.std.specs.Prelude.{ℕ, ◌+◌, ◌*◌, ℤ, pos, negsuc, Bool, nat_eq, nat_lt, nat_le, if◌then◌else◌, ◌&&◌, List, length, Option, Some, None}
use Rattle.model_value.specs.Plain.{PlainValue, nil, int, ref}
use Rattle.world_plain.specs.Messages.{PlainMessage}
use Rattle.world_plain.specs.World.{ObjectRecord, WorldRecord, message_weight, world_weight, most_world_weight}
use Rattle.world_plain.specs.Valid.{object_at, most_turns, most_messages}
use Rattle.tea_base.specs.Limits.{time_limit}
use Rattle.message_queue.specs.Queue.{insert_in_order, last_message_number}
use Rattle.model_tree.specs.Tree.{Name}
use Rattle.world_state.specs.declared.fault.Fault.TheVariants.{BadKind, NoObject, Instant, Time, Full}
use Rattle.world_state.specs.Running.{Running, with_world, Outcome, Gives, Faults}

-- the time that lies so many milliseconds ahead, if it is to come and below the limit
abbrev pub ahead : ℕ → ℤ → Option ℕ
ahead time (pos n) = if nat_lt (time + 1000 * n) time_limit then Some (time + 1000 * n) else None
ahead time (negsuc n) = None

abbrev pub has_room : WorldRecord → PlainMessage → Bool
has_room w m = nat_lt (length w.pending) most_messages && nat_lt w.next_number last_message_number
    && nat_le (world_weight w + message_weight m) most_world_weight

abbrev pub with_message : Running → PlainMessage → Running
with_message r m = with_world r (record (r.world) {
  pending = insert_in_order m r.world.pending;
  next_number = r.world.next_number + 1;
})

-- the message has the world's next number
abbrev pub send_message_at : ℕ → Name → List PlainValue → Option ℕ → Running → Outcome PlainValue
send_message_at object x args None r = Faults Time r
send_message_at object x args (Some time) r =
    let m : PlainMessage = record {
      time = time;
      number = r.world.next_number;
      object = object;
      method = x;
      args = args;
    } in
    if nat_eq time r.world.time && nat_eq r.world.turns most_turns then Faults Instant r else
    if has_room r.world m then Gives nil (with_message r m) else Faults Full r

abbrev pub send_to : Option ObjectRecord → ℕ → ℤ → Name → List PlainValue → Running → Outcome PlainValue
send_to None object delay x args r = Faults NoObject r
send_to (Some o) object delay x args r = send_message_at object x args (ahead r.world.time delay) r

abbrev pub send : PlainValue → PlainValue → Name → List PlainValue → Running → Outcome PlainValue
send (ref object) (int delay) x args r = send_to (object_at r.world.objects object) object delay x args r
send _ _ x args r = Faults BadKind r
