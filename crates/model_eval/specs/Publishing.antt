-- Events: what is published, who handles it, and subscriptions.
use Rattle.std.specs.Prelude.{ℕ, ◌+◌, ◌-◌, pos, Bool, not, nat_lt, nat_le, if◌then◌else◌, ◌&&◌, List, [], ◌∷◌, ◌++◌, length, map, Option, Some, None, ⊤}
use Rattle.std.specs.List.{filter}
use Rattle.model_value.specs.Plain.{PlainValue, nil, int, list}
use Rattle.model_value.specs.View.{plains_of}
use Rattle.world_plain.specs.Messages.{PlainMessage}
use Rattle.world_plain.specs.World.{ObjectRecord, WorldRecord, subscription_weight, world_weight, most_world_weight}
use Rattle.world_plain.specs.Valid.{object_at, most_subscriptions}
use Rattle.world_plain.specs.declared.message.Subscription.{Subscription}
use Rattle.pubsub.specs.declared.handler.Handler.{Handler}
use Rattle.pubsub.specs.Topics.{is_subscribed, without_subscription, handlers_of}
use Rattle.message_queue.specs.Queue.{calls}
use Rattle.model_tree.specs.Tree.{Name, MethodTree, ProgramTree}
use Rattle.model_solved.specs.Methods.{method_of}
use Rattle.world_state.specs.declared.fault.Fault.TheVariants.{NoObject, Full}
use Rattle.world_state.specs.Running.{Running, with_world, Outcome, Gives, Faults, and_then, spend_step, give_by_weight, Start}
use Rattle.world_state.specs.Objects.{is_held}
use Rattle.model_eval.specs.Arguments.{takes_two, one_or_both}

-- ---- publishing

-- what the handlers of an event get: its value, and the view that sent it, or none where a model published it
pub record Notice : Type 0 where
  pub value : PlainValue
  pub sender : Option ℕ

-- a view as its number
abbrev pub sender_value : Option ℕ → PlainValue
sender_value None = nil
sender_value (Some view) = int (pos view)

-- the method of that name of an object, if there is one
abbrev pub method_on : ProgramTree → Option ObjectRecord → Name → Option MethodTree
method_on program None x = None
method_on program (Some o) x = method_of program o.class x

-- a handler's method starts with the value, and where it has two parameters with the sender too
abbrev pub handler_arguments : ProgramTree → Notice → Handler → WorldRecord → List PlainValue
handler_arguments program notice h w =
    one_or_both (takes_two (method_on program (object_at w.objects h.object) h.method)) notice.value
    (sender_value notice.sender)

-- a handler takes a step, and its method starts, unless its object is gone
abbrev pub handle : ProgramTree → Start → Notice → Handler → Running → Outcome ⊤
handle program start notice h r =
    if is_held h.object r.world then spend_step r (λ s.
    and_then (start h.object h.method (handler_arguments program notice h s.world) s) (λ _. Gives tt))
    else Gives tt r

abbrev pub run_handlers : ProgramTree → Start → Notice → List Handler → Running → Outcome ⊤
run_handlers program start notice [] r = Gives tt r
run_handlers program start notice (h ∷ hs) r =
    and_then (handle program start notice h r) (λ _. run_handlers program start notice hs)

-- models are told of an event: its handlers are those that are subscribed now, each in turn
abbrev pub tell_handlers : ProgramTree → Start → Name → Name → Notice → Running → Outcome ⊤
tell_handlers program start scope event notice r =
    run_handlers program start notice (handlers_of scope event r.world.subscriptions) r

-- what a view sent has its number
abbrev pub view_notice : ℕ → PlainValue → Notice
view_notice view v = record { value = v; sender = Some view }

-- what a model publishes has no sender
abbrev pub model_notice : PlainValue → Notice
model_notice v = record { value = v; sender = None }

-- the event stands last in what was published
abbrev pub with_outgoing : Name → Name → PlainValue → Running → Running
with_outgoing scope event v r =
    record r { published = r.published ++ record { time = r.world.time; scope = scope; event = event; value = v } ∷ [] }

abbrev pub publish : ProgramTree → Start → Name → Name → PlainValue → Running → Outcome PlainValue
publish program start scope event v r =
    and_then (tell_handlers program start scope event (model_notice v) (with_outgoing scope event v r)) (λ _. Gives nil)

-- ---- subscriptions

abbrev pub has_room_to : WorldRecord → Subscription → Bool
has_room_to w s = nat_lt (length w.subscriptions) most_subscriptions
    && nat_le (world_weight w + subscription_weight s) most_world_weight

abbrev pub with_subscription : Subscription → WorldRecord → WorldRecord
with_subscription s w = record w { subscriptions = w.subscriptions ++ s ∷ [] }

-- nothing is done where an equal one is held
abbrev pub add_subscription : Subscription → Running → Outcome PlainValue
add_subscription s r =
    if is_subscribed s r.world.subscriptions then Gives nil r
    else (if has_room_to r.world s then Gives nil (with_world r (with_subscription s r.world)) else Faults Full r)

-- an object's method handles an event in a scope
abbrev pub subscription : ℕ → Name → Name → Name → Subscription
subscription object scope event x = record { scope = scope; event = event; object = object; method = x }

abbrev pub subscribe : ℕ → Name → Name → Name → Running → Outcome PlainValue
subscribe object scope event x r =
    if is_held object r.world then add_subscription (subscription object scope event x) r else Faults NoObject r

abbrev pub unsubscribe : ℕ → Name → Name → Name → Running → Outcome PlainValue
unsubscribe object scope event x r =
    let w = r.world in
    if is_held object w then Gives nil
    (with_world r (record w {
      subscriptions = without_subscription
          (subscription object scope event x) w.subscriptions;
    }))
    else Faults NoObject r

-- ---- messages and views

-- the messages but the calls of this method of this object
abbrev pub messages_without_calls : ℕ → Name → List PlainMessage → List PlainMessage
messages_without_calls object x = filter (λ m. not (calls object x m))

-- how many were taken away is told
abbrev pub cancel : ℕ → Name → Running → Outcome PlainValue
cancel object x r =
    let w = r.world in
    let left = messages_without_calls object x w.pending in
    if is_held object w then Gives (int (pos (length w.pending - length left)))
    (with_world r (record w { pending = left }))
    else Faults NoObject r

abbrev pub count_views : Running → Outcome PlainValue
count_views r = Gives (int (pos (length r.world.views))) r

abbrev pub tell_views : Running → Outcome PlainValue
tell_views r = give_by_weight (list (plains_of (map (λ view. int (pos view)) r.world.views))) r
