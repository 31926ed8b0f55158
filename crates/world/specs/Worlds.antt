-- Worlds: the first one of a session, what a message does, how a world advances, what an entry of the log does to it, and how
-- one that was put away goes on.
use Rattle.std.specs.Prelude.{ℕ, zero, suc, ◌+◌, ◌-◌, ◌*◌, ◌^◌, min, Bool, true, false, nat_eq, nat_lt, nat_le, if◌then◌else◌, ◌||◌, List, [], ◌∷◌, length, replicate, take, Option, Some, None, is_some, slice_index_or, slice_set, bytes_eq, codes, pos}
use Rattle.std.specs.Int.{from_le_bytes, w64}
use Rattle.std.specs.List.{filter}
use Rattle.hex.specs.Hex.{encode_lower}
use Rattle.tea_base.specs.declared.entry.Entry.{Entry}
use Rattle.tea_base.specs.declared.entry.What.{What}
use Rattle.tea_base.specs.declared.entry.What.TheVariants.{Join, Exit, Event}
use Rattle.model_value.specs.Plain.{PlainValue, nil, int}
use Rattle.model_value.specs.Payload.{PlainPayload, whole_payload}
use Rattle.world_plain.specs.Messages.{PlainMessage, PlainOutgoing}
use Rattle.world_plain.specs.World.{WorldRecord}
use Rattle.tea_base.specs.Limits.{most_here}
use Rattle.world_plain.specs.Valid.{most_turns, most_messages}
use Rattle.model_tree.specs.Tree.{Name, ClassTree, ProgramTree, root_name}
use Rattle.world_state.specs.declared.fault.Fault.{Fault}
use Rattle.world_state.specs.declared.fault.Fault.TheVariants as fault
pub use Rattle.model_solved.specs.Methods.{field_counts}
pub use Rattle.model_solved.specs.Founding.{Founding, IsFounding}
use Rattle.model_eval.specs.Kept.{now_due}
use Rattle.world_state.specs.Running.{Running, Outcome, Gives, Faults, most_open, most_fuel}
pub use Rattle.model_eval.specs.Meaning.{init}
use Rattle.model_eval.specs.Meaning.{starts}
use Rattle.model_eval.specs.Publishing.{Notice, tell_handlers, view_notice}
use Rattle.model_eval.specs.Arguments.{takes_two, one_or_both}
use Rattle.model_solved.specs.Methods.{method_named}

-- a world, and what its models published
pub record Scene : Type 0 where
  pub world : WorldRecord
  pub published : List PlainOutgoing

abbrev pub scene_with_world : Scene → WorldRecord → Scene
scene_with_world s w = record { world = w; published = s.published }

-- ---- messages

-- the faults that are counted, by number
abbrev pub fault_number : Fault → ℕ
fault_number fault.Overflow = 0
fault_number fault.ZeroDivisor = 1
fault_number fault.BadKind = 2
fault_number fault.BadIndex = 3
fault_number fault.NoObject = 4
fault_number fault.NoMethod = 5
fault_number fault.Arity = 6
fault_number fault.Fuel = 7
fault_number fault.Depth = 8
fault_number fault.Size = 9
fault_number fault.Instant = 10
fault_number fault.Time = 11
fault_number fault.Full = 12

-- an event that cannot be read, behind them
abbrev pub bad_event : ℕ
bad_event = 13

-- a count stops at the last number of 64 bits
abbrev pub with_count : ℕ → WorldRecord → WorldRecord
with_count k w = record w { faults = slice_set w.faults k (min (slice_index_or w.faults k 0 + 1) (2 ^ 64 - 1)) }

abbrev pub with_fault : Fault → WorldRecord → WorldRecord
with_fault f = with_count (fault_number f)

-- a message begins: one more turn
abbrev pub with_next_turn : WorldRecord → WorldRecord
with_next_turn w = record w { turns = min (w.turns + 1) most_turns }

-- with the steps of a message
abbrev pub with_full_budget : Scene → Running
with_full_budget s = record { fuel = most_fuel; world = s.world; published = s.published }

-- a fault is counted; what was done until then stays
abbrev pub scene_of_outcome : {A : Type 0} → Outcome A → Scene
scene_of_outcome (Gives a r) = record { world = r.world; published = r.published }
scene_of_outcome (Faults f r) = record { world = with_fault f r.world; published = r.published }

-- a message of its own: the method starts with all steps and nothing open
abbrev pub after_method : ProgramTree → ℕ → Name → List PlainValue → Scene → Scene
after_method program object x args s = scene_of_outcome (starts program most_open object x args (with_full_budget s))

-- ---- the first world

-- before its first message; the persisted value is the saved one
abbrev pub empty_world : PlainValue → List ℕ → WorldRecord
empty_world persisted id = record {
  id = id;
  time = 0;
  next_object = 1;
  next_number = 0;
  -- the number that the first eight bytes spell, the first one the least
  random = from_le_bytes w64 (take 8 id);
  turns = 0;
  faults = replicate 14 0;
  views = [];
  objects = [];
  known = [];
  subscriptions = [];
  pending = [];
  saved = persisted;
}

abbrev pub model_root : Name
model_root = codes "modelRoot"

-- with one object, of a class of this number, known as `modelRoot`
abbrev pub with_root : ℕ → ClassTree → WorldRecord → WorldRecord
with_root number class w = record w {
  next_object = 2;
  objects = record { id = 1; class = number; fields = replicate (length class.fields) nil } ∷ [];
  known = record { name = model_root; object = 1 } ∷ [];
}

-- the class named Root and its number, where the classes are numbered from this one
abbrev pub root_from : ℕ → ProgramTree → Option (ℕ × ClassTree)
root_from n [] = None
root_from n (c ∷ cs) = if bytes_eq c.name root_name then Some (n, c) else root_from (n + 1) cs

-- `init` starts with nil, and where it has two parameters with the persisted value too
abbrev pub init_arguments : PlainValue → ClassTree → List PlainValue
init_arguments persisted class = one_or_both (takes_two (method_named init class.methods)) nil persisted

-- a class without `init` starts nothing
abbrev pub with_root_init : Founding → ClassTree → Scene → Scene
with_root_init founding class s =
    if is_some (method_named init class.methods) then after_method founding.tree 1 init
    (init_arguments founding.persisted class) s else s

abbrev pub first_with : Founding → Option (ℕ × ClassTree) → WorldRecord → Scene
first_with founding None w = record { world = w; published = [] }
first_with founding (Some root) w =
    with_root_init founding root.1 (record { world = with_root root.0 root.1 w; published = [] })

-- one message makes the object of class Root and starts its `init`
abbrev pub first_scene : Founding → List ℕ → Scene
first_scene founding id = first_with founding (root_from 0 founding.tree)
    (with_next_turn (empty_world founding.persisted id))

-- ---- advance

-- the time becomes a later one, at which no message ran yet
abbrev pub at_later_time : ℕ → WorldRecord → WorldRecord
at_later_time t w = if nat_lt w.time t then record w { time = t; turns = 0 } else w

abbrev pub first_where : Bool → PlainMessage → List PlainMessage → Option (PlainMessage × List PlainMessage)
first_where true m ms = Some (m, ms)
first_where false m ms = None

-- the least pending message if its time is at most this one, and the others
abbrev pub due : ℕ → List PlainMessage → Option (PlainMessage × List PlainMessage)
due t [] = None
due t (m ∷ ms) = first_where (nat_le m.time t) m ms

abbrev pub after_message : ProgramTree → PlainMessage → List PlainMessage → Scene → Scene
after_message program m rest s =
    after_method program m.object m.method m.args
    (scene_with_world s (with_next_turn (at_later_time m.time (record (s.world) { pending = rest }))))

-- No more messages than this are due up to t: at one time at most 1,024 of them can add others to it, and the time rises.
abbrev pub enough : ℕ → WorldRecord → ℕ
enough t w =
    let most = most_messages + 1 in
    (t - w.time) * (most_turns * most + most) + (most_turns - w.turns) * most + now_due w

-- the messages that are due, one after the other, and at most so many; then the time becomes this one
abbrev pub on_due : ProgramTree → ℕ → (Scene → Scene) → Option (PlainMessage × List PlainMessage) → Scene → Scene
on_due program t more None s = scene_with_world s (at_later_time t s.world)
on_due program t more (Some d) s = more (after_message program d.0 d.1 s)

abbrev pub advance_within : ProgramTree → ℕ → ℕ → Scene → Scene
advance_within program zero t s = scene_with_world s (at_later_time t s.world)
advance_within program (suc n) t s = on_due program t (advance_within program n t) (due t s.world.pending) s

abbrev pub advance : ProgramTree → ℕ → Scene → Scene
advance program t s = advance_within program (enough t s.world) t s

-- ---- entries

abbrev pub is_view_here : ℕ → List ℕ → Bool
is_view_here view [] = false
is_view_here view (v ∷ vs) = nat_eq view v || is_view_here view vs

abbrev pub with_view : ℕ → List ℕ → List ℕ
with_view view [] = view ∷ []
with_view view (v ∷ vs) = if nat_lt view v then view ∷ v ∷ vs else v ∷ with_view view vs

-- a view that is not there leaves all
abbrev pub without_view : ℕ → List ℕ → List ℕ
without_view view [] = []
without_view view (v ∷ vs) = if nat_eq view v then vs else v ∷ without_view view vs

-- models alone are told of an event, as a message of its own: with all steps and nothing open
abbrev pub after_telling : ProgramTree → Name → Name → Notice → Scene → Scene
after_telling program scope event notice s =
    scene_of_outcome (tell_handlers program (starts program most_open) scope event notice (with_full_budget s))

-- the scope of what the session tells of its views: its id in hexadecimal digits
abbrev pub session_scope : WorldRecord → Name
session_scope w = encode_lower w.id

abbrev pub view_join : Name
view_join = codes "view-join"

abbrev pub view_exit : Name
view_exit = codes "view-exit"

-- models are told of a view, by its number; it is the sender too
abbrev pub after_telling_of : ProgramTree → Name → ℕ → Scene → Scene
after_telling_of program event view s =
    after_telling program (session_scope s.world) event (view_notice view (int (pos view))) s

abbrev pub after_join : ProgramTree → ℕ → Scene → Scene
after_join program view s =
    let w = s.world in
    if nat_eq view 0 || is_view_here view w.views then s
    else (if nat_lt (length w.views) most_here then after_telling_of program view_join view
    (scene_with_world s (record w { views = with_view view w.views }))
    else scene_with_world s (with_fault fault.Full w))

abbrev pub after_exit : ProgramTree → ℕ → Scene → Scene
after_exit program view s =
    let w = s.world in
    if is_view_here view w.views then after_telling_of program view_exit view
    (scene_with_world s (record w { views = without_view view w.views })) else s

-- an event of a view, by the payload that its bytes spell
abbrev pub after_event : ProgramTree → ℕ → Option PlainPayload → Scene → Scene
after_event program view None s = scene_with_world s (with_count bad_event s.world)
after_event program view (Some p) s = after_telling program p.scope p.event (view_notice view p.value) s

abbrev pub after_entry : ProgramTree → What → ℕ → Scene → Scene
after_entry program Join view s = after_join program view s
after_entry program Exit view s = after_exit program view s
after_entry program (Event number payload) view s = after_event program view (whole_payload payload) s

-- an entry of the log is one message, at its time
abbrev pub external : ProgramTree → Entry → Scene → Scene
external program e s =
    let a = advance program e.time s in
    after_entry program e.what e.view (scene_with_world a (with_next_turn a.world))

-- the entries with a time of at most t, and then the world advances to t
abbrev pub replay_from : ProgramTree → ℕ → List Entry → Scene → Scene
replay_from program t [] s = advance program t s
replay_from program t (e ∷ es) s = replay_from program t es (if nat_le e.time t then external program e s else s)

abbrev pub replay : Founding → List ℕ → List Entry → ℕ → Scene
replay founding id entries t = replay_from founding.tree t entries (first_scene founding id)

-- ---- going on from a world

-- a world on which nothing was published yet
abbrev pub take_up : WorldRecord → Scene
take_up w = record { world = w; published = [] }

-- the entries behind a time
abbrev pub entries_behind : ℕ → List Entry → List Entry
entries_behind t = filter (λ e. nat_lt t e.time)

-- a world that is taken up: the entries behind its time with a time of at most t, and then it advances to t
abbrev pub replay_on : ProgramTree → WorldRecord → List Entry → ℕ → Scene
replay_on program w entries t = replay_from program t (entries_behind w.time entries) (take_up w)
