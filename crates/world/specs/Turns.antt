-- What runs in a world, step by step: the message that is due, and an entry with the event that models hear of it.
use Rattle.std.specs.Prelude.{◌≡◌, ℕ, zero, suc, Bool, nat_eq, nat_lt, if◌then◌else◌, ◌||◌, List, [], length, Option, Some, None, is_some}
use Rattle.std.specs.Option.{option_map}
use Rattle.tea_base.specs.Limits.{most_here}
use Rattle.tea_base.specs.declared.entry.What.{What}
use Rattle.tea_base.specs.declared.entry.What.TheVariants.{Join, Exit, Event}
use Rattle.model_value.specs.Plain.{PlainValue}
use Rattle.model_value.specs.Payload.{PlainPayload, whole_payload}
use Rattle.model_tree.specs.Tree.{Name, ClassTree, ProgramTree}
use Rattle.model_solved.specs.Methods.{method_named}
use Rattle.world_plain.specs.Messages.{PlainMessage, PlainOutgoing}
use Rattle.world_plain.specs.World.{WorldRecord}
use Rattle.world_plain.specs.Valid.{object_at}
use Rattle.object_store.specs.Store.{class_of}
use Rattle.pubsub.specs.Topics.{handlers_of}
use Rattle.model_eval.specs.Publishing.{view_notice}
use Rattle.world.specs.declared.told.HeardEvent.{HeardEvent}
use Rattle.world.specs.Worlds.{Scene, scene_with_world, Founding, init, init_arguments, root_from, empty_world, with_next_turn, with_root, after_method, after_message, due, is_view_here, session_scope, view_join, view_exit, after_telling, after_entry}

-- ---- messages

-- a message that runs: its time, its object and the number of the class of that, its method, and its arguments
pub record PlainRan : Type 0 where
  pub time : ℕ
  pub object : ℕ
  pub class : Option ℕ
  pub method : Name
  pub args : List PlainValue

-- a message as it begins in a world; in a valid world its object is there
abbrev pub ran_in : WorldRecord → PlainMessage → PlainRan
ran_in w m = record {
  time = m.time;
  object = m.object;
  class = class_of (object_at w.objects m.object);
  method = m.method;
  args = m.args;
}

-- what runs next up to t, if anything does
abbrev pub next_ran : ℕ → WorldRecord → Option PlainRan
next_ran t w = option_map (λ d. ran_in w d.0) (due t w.pending)

-- one turn: the message that is due runs; where none is due all stays
abbrev pub after_due : ProgramTree → Option (PlainMessage × List PlainMessage) → Scene → Scene
after_due program None s = s
after_due program (Some d) s = after_message program d.0 d.1 s

abbrev pub after_turn : ProgramTree → ℕ → Scene → Scene
after_turn program t s = after_due program (due t s.world.pending) s

-- so many turns, one after the other
abbrev pub after_turns : ProgramTree → ℕ → ℕ → Scene → Scene
after_turns program t zero s = s
after_turns program t (suc n) s = after_turns program t n (after_turn program t s)

-- ---- the first message

-- the world before it: one object of the class Root, or none where no class is named so
abbrev pub begun_with : Option (ℕ × ClassTree) → WorldRecord → WorldRecord
begun_with None w = w
begun_with (Some root) w = with_root root.0 root.1 w

abbrev pub begun : Founding → List ℕ → Scene
begun founding id = record {
  world = begun_with (root_from 0 founding.tree)
      (with_next_turn (empty_world founding.persisted id));
  published = [];
}

-- the `init` of that object
abbrev pub init_ran : PlainValue → ℕ × ClassTree → PlainRan
init_ran persisted root = record {
  time = 0;
  object = 1;
  class = Some root.0;
  method = init;
  args = init_arguments persisted root.1;
}

-- it runs if the class has one
abbrev pub first_ran_of : PlainValue → Option (ℕ × ClassTree) → Option PlainRan
first_ran_of persisted None = None
first_ran_of persisted (Some root) =
    if is_some (method_named init root.1.methods) then Some (init_ran persisted root) else None

abbrev pub first_ran : Founding → Option PlainRan
first_ran founding = first_ran_of founding.persisted (root_from 0 founding.tree)

-- what a first message leaves, if there is one
abbrev pub after_first : ProgramTree → Option PlainRan → Scene → Scene
after_first program None s = s
after_first program (Some ran) s = after_method program ran.object ran.method ran.args s

-- ---- entries

-- an event, and how many handlers it has in a world
abbrev pub heard_in : WorldRecord → Name → Name → HeardEvent
heard_in w scope event = record {
  scope = scope;
  event = event;
  handlers = length (handlers_of scope event w.subscriptions);
}

-- that a view joins which was not here, where there is room for it
abbrev pub join_heard : WorldRecord → ℕ → Option HeardEvent
join_heard w view =
    if nat_eq view 0 || is_view_here view w.views then None
    else (if nat_lt (length w.views) most_here then Some (heard_in w (session_scope w) view_join)
    else None)

-- that a view exits which was here
abbrev pub exit_heard : WorldRecord → ℕ → Option HeardEvent
exit_heard w view = if is_view_here view w.views then Some (heard_in w (session_scope w) view_exit) else None

-- what a view sent, where it can be read
abbrev pub event_heard : WorldRecord → Option PlainPayload → Option HeardEvent
event_heard w None = None
event_heard w (Some p) = Some (heard_in w p.scope p.event)

-- the event that models hear of an entry, if they hear of any
abbrev pub heard_of : WorldRecord → ℕ → What → Option HeardEvent
heard_of w view Join = join_heard w view
heard_of w view Exit = exit_heard w view
heard_of w view (Event number payload) = event_heard w (whole_payload payload)

-- Where models hear an event of an entry, the entry tells just that event to its handlers; else it changes nothing but counts of faults.
abbrev pub TellsHeard : ProgramTree → What → ℕ → Scene → Option HeardEvent → Type 0
TellsHeard program what view s None =
    (counts : List ℕ) × (after_entry program what view s ≡ scene_with_world s (record (s.world) { faults = counts }))
TellsHeard program what view s (Some heard) =
    (views : List ℕ) × (value : PlainValue)
    × (after_entry program what view s
    ≡ after_telling program heard.scope heard.event (view_notice view value)
    (scene_with_world s (record (s.world) { views = views })))
