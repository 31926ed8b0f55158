-- What contracts see of worlds.
use Rattle.std.specs.Prelude.{◌≡◌, ◌<◌, ℕ, Bool, true, false, nat_lt, List, [], map, Option, Some, None, Result, Ok, Err, ⊤, length, remove, refl}
use Rattle.std.specs.List.{list_all}
use Rattle.std.specs.Coded.{Coded, code_by, coded×, coded_bool, coded_list}
use Rattle.world_plain.specs.Messages.{PlainMessage, PlainOutgoing, plain_message, plain_outgoing, coded_outgoing}
use Rattle.world_plain.specs.World.{WorldRecord, world_record}
use Rattle.world_plain.specs.WorldCode.{coded_world}
use Rattle.world_plain.specs.declared.message.Message.{Message}
use Rattle.world_plain.specs.declared.world.PlainWorld.{PlainWorld}
use Rattle.world_state.specs.declared.state.State.{State}
use Rattle.world_state.specs.Answer.{world_of}
use Rattle.world_plain.specs.Valid.{Valid}
use Rattle.model_solved.specs.Founding.{CheckedView, checked_tree, founding_of, IsFounding}
use Rattle.model_value.specs.View.{plain_values}
use Rattle.world.specs.declared.told.RanMessage.{RanMessage}
use Rattle.world.specs.Turns.{PlainRan}
use Rattle.world.specs.declared.fault.WorldFault.{WorldFault}
use Rattle.world.specs.declared.fault.WorldFault.TheVariants as fault
use Rattle.world.specs.Worlds.{Scene, scene_with_world, due, without_view, field_counts}

abbrev pub scene : State → Scene
scene state = record { world = world_of state; published = map plain_outgoing state.published }

-- the message that is due, and the world without it
abbrev pub TakesDue : Option Message → ℕ → Scene → Scene → Type 0
TakesDue None t before after = (due t before.world.pending ≡ None) × (after ≡ before)
TakesDue (Some m) t before after =
    (rest : List PlainMessage) × (due t before.world.pending ≡ Some (plain_message m, rest))
    × (after ≡ scene_with_world before (record (before.world) { pending = rest }))

-- a message that ran, with plain values in it
abbrev pub plain_ran : RanMessage → PlainRan
plain_ran ran = record {
  time = ran.time;
  object = ran.object;
  class = Some ran.class;
  method = ran.method;
  args = plain_values ran.args;
}

-- each message is of a later time
abbrev pub are_behind : ℕ → List PlainMessage → Bool
are_behind t messages = list_all (λ m. nat_lt t m.time) messages

-- no pending message has the world's own time or less
abbrev pub is_at_rest : WorldRecord → Bool
is_at_rest w = are_behind w.time w.pending

-- where a view is taken away
abbrev pub IsPlaceOfView : Option ℕ → ℕ → List ℕ → Type 0
IsPlaceOfView None view views = without_view view views ≡ views
IsPlaceOfView (Some place) view views = (place < length views) × (without_view view views ≡ remove views place)

-- what contracts see of a World
pub record WorldView : Type 0 where
  pub program : CheckedView
  pub scene : Scene
  pub broken : Bool

abbrev pub coded_view : Coded CheckedView → Coded WorldView
coded_view checked =
    code_by
    (CheckedView × (WorldRecord × (List PlainOutgoing × Bool)))
    (coded× checked (coded× coded_world (coded× (coded_list coded_outgoing) coded_bool)))
    (λ w. (w.program, (w.scene.world, (w.scene.published, w.broken))))
    (λ p. record { program = p.0; scene = record { world = p.1.0; published = p.1.1.0 }; broken = p.1.1.1 })
    (λ _. refl)

-- what is so of every World: a session can be founded from its program, its world is valid where it is not broken, and where it is
-- nothing is published
pub record IsSoundWorld (w : WorldView) : Type 0 where
  pub program : IsFounding (founding_of w.program)
  pub valid : w.broken ≡ false → Valid (field_counts (checked_tree w.program)) w.scene.world
  pub quiet : w.broken ≡ true → w.scene.published ≡ []

-- a call that moves a world on, where it would go back or not
abbrev pub MovesOn : Result ⊤ WorldFault → WorldView → WorldView → Bool → Scene → Type 0
MovesOn (Ok done) old new back meant = (old.broken ≡ false) × (back ≡ false) × (new ≡ record old { scene = meant })
MovesOn (Err fault.Broken) old new back meant = (old.broken ≡ true) × (new ≡ old)
MovesOn (Err (fault.Back time)) old new back meant =
    (old.broken ≡ false) × (back ≡ true) × (time ≡ old.scene.world.time) × (new ≡ old)
MovesOn (Err fault.WantOfMemory) old new back meant = (old.broken ≡ false) × (back ≡ false) × (new.broken ≡ true)
    × (new.scene.published ≡ []) × (new.program ≡ old.program)

-- the same call, whatever it tells
abbrev pub done : {A : Type 0} → Result A WorldFault → Result ⊤ WorldFault
done (Ok told) = Ok tt
done (Err fault) = Err fault

-- a copy of the world as plain data
abbrev pub Copies : Result PlainWorld WorldFault → WorldView → Type 0
Copies (Ok plain) w = (w.broken ≡ false) × (world_record plain ≡ w.scene.world)
Copies (Err fault.Broken) w = w.broken ≡ true
Copies (Err (fault.Back time)) w = ⊥
Copies (Err fault.WantOfMemory) w = w.broken ≡ false
