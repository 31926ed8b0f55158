-- What was published before changes nothing of what a program does.
use Rattle.std.proofs.Common.{◌≡◌, ℕ, zero, suc, ◌-◌, Bool, true, false, ◌&&◌, ℤ, pos, negsuc, List, [], ◌∷◌, ◌++◌, length, map, Option, Some, None, nat_eq, nat_le, refl, sym, ap, ◌∙◌, if◌then◌else◌, slice_get}
use Rattle.std.specs.Prelude.{⊤, is_some}
use Rattle.hex.specs.Hex.{encode_lower}
use Rattle.model_value.specs.Plain.{PlainValue, nil, bool, int, text, ref, list, weight, is_in_bounds}
use Rattle.model_value.specs.View.{plains_of}
use Rattle.world_plain.specs.Messages.{PlainMessage}
use Rattle.world_plain.specs.World.{ObjectRecord, WorldRecord, world_weight, most_world_weight}
use Rattle.world_plain.specs.Valid.{object_at, most_turns}
use Rattle.world_plain.specs.ValidTest.{can_be_saved}
use Rattle.world_plain.specs.declared.message.Subscription.{Subscription}
use Rattle.model_builtin.specs.declared.builtin.Pure.{Pure}
use Rattle.model_builtin.specs.Builtins.{apply}
use Rattle.model_builtin.specs.Builtins as without_world
use Rattle.model_tree.specs.Tree.{Name, Expression, this, local, field, unary, binary, builtin, call, future, create, Expressions, no_expressions, expression, Statement, declare, assign, set_field, when, while, give, do_, Statements, no_statements, statement, Otherwise, no_else, else_block, MethodTree, ClassTree, ProgramTree}
use Rattle.model_tree.specs.Tree as tree
use Rattle.model_tree.specs.declared.tree.BinaryOp.{BinaryOp}
use Rattle.model_tree.specs.declared.tree.BinaryOp.TheVariants as op
use Rattle.model_solved.specs.declared.builtin.Builtin.{Builtin}
use Rattle.model_solved.specs.declared.builtin.Builtin.TheVariants as builtin_name
use Rattle.model_solved.specs.Builtins.{builtin_named}
use Rattle.model_solved.specs.Methods.{method_named}
use Rattle.pubsub.specs.declared.handler.Handler.{Handler}
use Rattle.pubsub.specs.Topics.{is_subscribed, without_subscription, handlers_of}
use Rattle.world_state.specs.declared.fault.Fault.{Fault}
use Rattle.world_state.specs.declared.fault.Fault.TheVariants.{BadKind, BadIndex, NoObject, Arity, Fuel, Depth, Size, Instant, Full}
use Rattle.world_state.specs.Running.{Running, with_world, Outcome, Gives, Faults, and_then, spend_step, spend, give_in_bounds, give_by_weight, PureOutcome, value, fails, give_pure, truth, decide, Start}
use Rattle.model_eval.specs.Operators.{apply_binary, truly, binary_outcome, apply_unary}
use Rattle.world_state.specs.Objects.{get_named, with_fields, if_light, put_fields, new_object, has_room_for, with_object, make_object, without_object, is_held, destroy, with_named, make_known, persist}
use Rattle.known_names.specs.Names.{with_known}
use Rattle.model_eval.specs.Futures.{ahead, has_room, with_message, send_message_at, send_to, send}
use Rattle.model_eval.specs.Builtins.{draw, pure_of, takes_steps, builtin_outcome, pure_outcome, on_none, on_any, on_int, on_text, on_texts, on_event, on_ref, tell_time, tell_id, tell_known, tell_held, run_builtin_alone, run_builtin, run_if_builtin}
use Rattle.model_eval.specs.Publishing.{Notice, handler_arguments, handle, run_handlers, tell_handlers, with_outgoing, model_notice, publish, has_room_to, with_subscription, add_subscription, subscription, subscribe, unsubscribe, messages_without_calls, cancel, count_views, tell_views}
use Rattle.model_eval.specs.Meaning.{Here, Local, locals_of, with_local, Flow, next, return_with, follow, leave_block, method_result, put_field, Evaluate, Execute, evaluate_all, in_turn, block, otherwise, loop_turns, call_on, init, run_init, create_object, create_if_class, number_of_class, expression_row, statement_row, perform, starts_in, starts_on, start_by, evaluate, execute, starts}

-- what runs, as if nothing was published yet
abbrev pub bare : Running → Running
bare r = record r { published = [] }

abbrev pub bare_end : {A : Type 0} → Outcome A → Outcome A
bare_end (Gives a r) = Gives a (bare r)
bare_end (Faults f r) = Faults f (bare r)

-- it ends as it does where nothing was published yet, but for what was published
abbrev pub IsSilent : {A : Type 0} → (Running → Outcome A) → Running → Type 0
IsSilent f r = bare_end (f r) ≡ bare_end (f (bare r))

-- ---- outcomes

then-bare : {A B : Type 0} (o : Outcome A) (go : A → Running → Outcome B) → ((a : A) (r : Running) → IsSilent (go a) r) → bare_end (and_then o go) ≡ bare_end (and_then (bare_end o) go)
then-bare (Gives a r) go silent = silent a r
then-bare (Faults f r) go silent = refl

then-silent : {A B : Type 0} (f : Running → Outcome A) (go : A → Running → Outcome B) (r : Running)
    → IsSilent f r → ((a : A) (s : Running) → IsSilent (go a) s) → IsSilent (λ s. and_then (f s) go) r
then-silent f go r h later =
    then-bare (f r) go later ∙ ap (λ o. bare_end (and_then o go)) h ∙ sym (then-bare (f (bare r)) go later)

either-silent : {A : Type 0} (b : Bool) (f g : Running → Outcome A) (r : Running) → IsSilent f r → IsSilent g r → IsSilent (λ s. if b then f s else g s) r
either-silent true f g r h k = h
either-silent false f g r h k = k

entering-silent : {A : Type 0} (go : Running → Outcome A) (r : Running) → IsSilent go (record r { fuel = r.fuel - 1 }) → IsSilent (λ s. spend_step s go) r
entering-silent go r h = either-silent (nat_eq r.fuel 0) (Faults Fuel) (λ s. go (record s { fuel = r.fuel - 1 })) r refl h

spending-silent : (steps : ℕ) (v : PlainValue) (r : Running) → IsSilent (λ s. spend steps s (Gives v)) r
spending-silent steps v r = either-silent (nat_le steps r.fuel) (λ s. Gives v (record s { fuel = r.fuel - steps })) (Faults Fuel) r refl refl

bounded-silent : (v : PlainValue) (r : Running) → IsSilent (give_in_bounds v) r
bounded-silent v r = either-silent (is_in_bounds v) (Gives v) (Faults Size) r refl refl

weighed-silent : (v : PlainValue) (r : Running) → IsSilent (give_by_weight v) r
weighed-silent v r = either-silent (is_in_bounds v) (λ s. spend (weight v) s (Gives v)) (Faults Size) r (spending-silent (weight v) v r) refl

replying-silent : (reply : PureOutcome) (r : Running) → IsSilent (give_pure reply) r
replying-silent (value v) r = refl
replying-silent (fails f) r = refl

deciding-silent : {A : Type 0} (o : Option Bool) (go : Bool → Running → Outcome A) (r : Running) → ((b : Bool) → IsSilent (go b) r) → IsSilent (decide o go) r
deciding-silent (Some b) go r h = h b
deciding-silent None go r h = refl

-- a world that is changed if a test allows it, and else a fault
changed-silent : {A : Type 0} (b : Bool) (a : A) (w : WorldRecord) (g : Running → Outcome A) (r : Running) → IsSilent g r → IsSilent (λ s. if b then Gives a (with_world s w) else g s) r
changed-silent b a w g r h = either-silent b (λ s. Gives a (with_world s w)) g r refl h

-- a fault if a test asks for it, and else a world that is changed
fault_or-silent : {A : Type 0} (b : Bool) (f : Fault) (a : A) (w : WorldRecord) (r : Running) → IsSilent (λ s. if b then Faults f s else Gives a (with_world s w)) r
fault_or-silent true f a w r = refl
fault_or-silent false f a w r = refl

light-silent : {A : Type 0} (a : A) (w : WorldRecord) (r : Running) → IsSilent (λ s. if_light a s (with_world s w)) r
light-silent a w r = changed-silent (nat_le (world_weight w) most_world_weight) a w (Faults Full) r refl

-- ---- fields

got-silent : (o : Option ObjectRecord) (x : Name) (names : List Name) (r : Running) → IsSilent (get_named o x names) r
got-silent None x names r = refl
got-silent (Some o) x names r = refl

put-silent : (o : Option ObjectRecord) (id : ℕ) (change : List PlainValue → List PlainValue) (r : Running) → IsSilent (put_fields o id change) r
put-silent None id change r = refl
put-silent (Some o) id change r = light-silent tt (record (r.world) { objects = with_fields id change r.world.objects }) r

-- ---- futures

sent-silent : (object : ℕ) (x : Name) (args : List PlainValue) (ahead : Option ℕ) (r : Running) → IsSilent (send_message_at object x args ahead) r
sent-silent object x args None r = refl
sent-silent object x args (Some time) r =
    let w : WorldRecord = r.world in
    let m : PlainMessage = record { time = time; number = w.next_number; object = object; method = x; args = args } in
    either-silent (nat_eq time w.time && nat_eq w.turns most_turns) (Faults Instant) (λ s. if has_room w m then Gives nil (with_message s m) else Faults Full s) r refl
    (either-silent (has_room w m) (λ s. Gives nil (with_message s m)) (Faults Full) r refl refl)

sent_to-silent : (o : Option ObjectRecord) (object : ℕ) (delay : ℤ) (x : Name) (args : List PlainValue) (r : Running) → IsSilent (send_to o object delay x args) r
sent_to-silent None object delay x args r = refl
sent_to-silent (Some o) object delay x args r = sent-silent object x args (ahead r.world.time delay) r

send-silent : (o d : PlainValue) (x : Name) (args : List PlainValue) (r : Running) → IsSilent (send o d x args) r
send-silent (ref object) (int delay) x args r = sent_to-silent (object_at r.world.objects object) object delay x args r
send-silent _ _ x args r = refl

-- ---- objects and known names

made-silent : (class fields : ℕ) (r : Running) → IsSilent (make_object class fields) r
made-silent class fields r =
    let w : WorldRecord = r.world in
    let o : ObjectRecord = new_object class fields w in
    changed-silent (has_room_for w o) o.id (with_object w o) (Faults Full) r refl

destroyed-silent : (id : ℕ) (r : Running) → IsSilent (destroy id) r
destroyed-silent id r = changed-silent (is_held id r.world) nil (without_object id r.world) (Faults NoObject) r refl

made_known-silent : (object : ℕ) (x : Name) (r : Running) → IsSilent (make_known object x) r
made_known-silent object x r =
    let named : WorldRecord = record (r.world) { known = with_known x object r.world.known } in
    either-silent (is_held object r.world) (λ s. if_light nil s (with_world s named)) (Faults NoObject) r (light-silent nil named r) refl

persisted-silent : (v : PlainValue) (r : Running) → IsSilent (persist v) r
persisted-silent v r =
    let saved : WorldRecord = record (r.world) { saved = v } in
    either-silent (can_be_saved v) (λ s. if_light nil s (with_world s saved)) (Faults BadKind) r (light-silent nil saved r) refl

-- ---- subscriptions and messages

added-silent : (s : Subscription) (r : Running) → IsSilent (add_subscription s) r
added-silent s r =
    let w : WorldRecord = r.world in
    either-silent (is_subscribed s w.subscriptions) (Gives nil) (λ t. if has_room_to w s then Gives nil (with_world t (with_subscription s w)) else Faults Full t) r refl
    (changed-silent (has_room_to w s) nil (with_subscription s w) (Faults Full) r refl)

subscribed-silent : (object : ℕ) (scope event x : Name) (r : Running) → IsSilent (subscribe object scope event x) r
subscribed-silent object scope event x r =
    let s : Subscription = subscription object scope event x in
    either-silent (is_held object r.world) (add_subscription s) (Faults NoObject) r (added-silent s r) refl

unsubscribed-silent : (object : ℕ) (scope event x : Name) (r : Running) → IsSilent (unsubscribe object scope event x) r
unsubscribed-silent object scope event x r =
    let w : WorldRecord = r.world in
    let left : List Subscription = without_subscription (subscription object scope event x) w.subscriptions in
    changed-silent (is_held object w) nil (record w { subscriptions = left }) (Faults NoObject) r refl

cancelled-silent : (object : ℕ) (x : Name) (r : Running) → IsSilent (cancel object x) r
cancelled-silent object x r =
    let w : WorldRecord = r.world in
    let left : List PlainMessage = messages_without_calls object x w.pending in
    changed-silent (is_held object w) (int (pos (length w.pending - length left))) (record w { pending = left }) (Faults NoObject) r refl

-- ---- builtins

drawn-silent : (n : ℤ) (r : Running) → IsSilent (draw n) r
drawn-silent (pos n) r = fault_or-silent (nat_eq n 0) BadIndex _ _ r
drawn-silent (negsuc n) r = refl

given-silent : (costs : Bool) (reply : without_world.BuiltinReply) (r : Running) → IsSilent (builtin_outcome costs reply) r
given-silent true (without_world.value v) r = spending-silent (weight v) v r
given-silent false (without_world.value v) r = refl
given-silent costs without_world.bad_kind r = refl
given-silent costs without_world.bad_index r = refl
given-silent costs without_world.too_large r = refl

pure_answered-silent : (f : Option Pure) (args : List PlainValue) (r : Running) → IsSilent (pure_outcome f args) r
pure_answered-silent None args r = refl
pure_answered-silent (Some f) args r = given-silent (takes_steps f) (apply f args) r

on_none-silent : (f : Running → Outcome PlainValue) (args : List PlainValue) (r : Running) → IsSilent f r → IsSilent (on_none f args) r
on_none-silent f [] r h = h
on_none-silent f (a ∷ args) r h = refl

on_int-silent : (f : ℤ → Running → Outcome PlainValue) (args : List PlainValue) (r : Running) → ((n : ℤ) → IsSilent (f n) r) → IsSilent (on_int f args) r
on_int-silent f (int n ∷ []) r h = h n
on_int-silent f _ r h = refl

on_text-silent : (f : List ℕ → Running → Outcome PlainValue) (args : List PlainValue) (r : Running) → ((x : List ℕ) → IsSilent (f x) r) → IsSilent (on_text f args) r
on_text-silent f (text x ∷ []) r h = h x
on_text-silent f _ r h = refl

on_texts-silent : (f : List ℕ → List ℕ → List ℕ → Running → Outcome PlainValue) (args : List PlainValue) (r : Running) → ((x y z : List ℕ) → IsSilent (f x y z) r) → IsSilent (on_texts f args) r
on_texts-silent f (text x ∷ text y ∷ text z ∷ []) r h = h x y z
on_texts-silent f _ r h = refl

on_event-silent : (f : List ℕ → List ℕ → PlainValue → Running → Outcome PlainValue) (args : List PlainValue) (r : Running) → ((x y : List ℕ) (v : PlainValue) → IsSilent (f x y v) r) → IsSilent (on_event f args) r
on_event-silent f (text x ∷ text y ∷ v ∷ []) r h = h x y v
on_event-silent f _ r h = refl

on_any-silent : (f : PlainValue → Running → Outcome PlainValue) (args : List PlainValue) (r : Running) → ((v : PlainValue) → IsSilent (f v) r) → IsSilent (on_any f args) r
on_any-silent f (v ∷ []) r h = h v
on_any-silent f _ r h = refl

on_ref-silent : (f : ℕ → Running → Outcome PlainValue) (args : List PlainValue) (r : Running) → ((id : ℕ) → IsSilent (f id) r) → IsSilent (on_ref f args) r
on_ref-silent f (ref id ∷ []) r h = h id
on_ref-silent f _ r h = refl

id_told-silent : (r : Running) → IsSilent tell_id r
id_told-silent r = bounded-silent (text (encode_lower r.world.id)) r

views_told-silent : (r : Running) → IsSilent tell_views r
views_told-silent r = weighed-silent (list (plains_of (map (λ view. int (pos view)) r.world.views))) r

answered_alone-silent : (f : Builtin) (object : ℕ) (args : List PlainValue) (r : Running) → IsSilent (run_builtin_alone f object args) r
answered_alone-silent builtin_name.Now object args r = on_none-silent tell_time args r refl
answered_alone-silent builtin_name.Random object args r = on_int-silent draw args r (λ n. drawn-silent n r)
answered_alone-silent builtin_name.ViewCount object args r = on_none-silent count_views args r refl
answered_alone-silent builtin_name.Views object args r = on_none-silent tell_views args r (views_told-silent r)
answered_alone-silent builtin_name.SessionId object args r = on_none-silent tell_id args r (id_told-silent r)
answered_alone-silent builtin_name.Known object args r = on_text-silent tell_known args r (λ x. refl)
answered_alone-silent builtin_name.BeKnown object args r = on_text-silent (make_known object) args r (λ x. made_known-silent object x r)
answered_alone-silent builtin_name.Exists object args r = on_ref-silent tell_held args r (λ id. refl)
answered_alone-silent builtin_name.Destroy object args r = on_ref-silent destroy args r (λ id. destroyed-silent id r)
answered_alone-silent builtin_name.Subscribe object args r = on_texts-silent (subscribe object) args r (λ scope event x. subscribed-silent object scope event x r)
answered_alone-silent builtin_name.Unsubscribe object args r = on_texts-silent (unsubscribe object) args r (λ scope event x. unsubscribed-silent object scope event x r)
answered_alone-silent builtin_name.Cancel object args r = on_text-silent (cancel object) args r (λ x. cancelled-silent object x r)
answered_alone-silent builtin_name.Persist object args r = on_any-silent persist args r (λ v. persisted-silent v r)
answered_alone-silent f object args r = pure_answered-silent (pure_of f) args r

-- ---- the table

-- what the parts mean is silent
abbrev pub EvaluatesSilently : Evaluate → Type 0
EvaluatesSilently ev = (here : Here) (e : Expression) (locals : List Local) (r : Running) → IsSilent (ev here e locals) r

abbrev pub ExecutesSilently : Execute → Type 0
ExecutesSilently ex = (here : Here) (s : Statement) (locals : List Local) (r : Running) → IsSilent (ex here s locals) r

abbrev pub StartsSilently : Start → Type 0
StartsSilently start = (object : ℕ) (x : Name) (args : List PlainValue) (r : Running) → IsSilent (start object x args) r

-- ---- what starts methods

module _ (program : ProgramTree) (start : Start) (begins : StartsSilently start) where
  called_on-silent : (o : PlainValue) (x : Name) (args : List PlainValue) (r : Running) → IsSilent (call_on start o x args) r
  called_on-silent (ref object) x args r = begins object x args r
  called_on-silent _ x args r = refl

  initialised-silent : (c : ClassTree) (v : PlainValue) (id : ℕ) (r : Running) → IsSilent (run_init start c v id) r
  initialised-silent c v id r =
      either-silent (is_some (method_named init c.methods)) (λ s. and_then (start id init (v ∷ []) s) (λ _. Gives (ref id))) (Gives (ref id)) r
      (then-silent (start id init (v ∷ [])) (λ _. Gives (ref id)) r (begins id init (v ∷ []) r) (λ _ s. refl)) refl

  created-silent : (n : ℕ) (c : Option ClassTree) (v : PlainValue) (r : Running) → IsSilent (create_object start n c v) r
  created-silent n None v r = refl
  created-silent n (Some c) v r = then-silent (make_object n (length c.fields)) (run_init start c v) r (made-silent n (length c.fields) r) (λ id s. initialised-silent c v id s)

  created_by-silent : (n : Option ℕ) (v : PlainValue) (r : Running) → IsSilent (create_if_class program start n v) r
  created_by-silent None v r = refl
  created_by-silent (Some n) v r = created-silent n (slice_get program n) v r

  -- handlers, each of which starts with the value, and with the sender where it wants it
  handled_by-silent : (t : Notice) (h : Handler) (r : Running) → IsSilent (handle program start t h) r
  handled_by-silent t h r =
      let args : List PlainValue = handler_arguments program t h r.world in
      let begin : Running → Outcome ⊤ = λ s. and_then (start h.object h.method args s) (λ _. Gives tt) in
      let go : Running → Outcome ⊤ = λ s. and_then (start h.object h.method (handler_arguments program t h s.world) s) (λ _. Gives tt) in
      let r1 : Running = record r { fuel = r.fuel - 1 } in
      let begun : IsSilent begin r1 = then-silent (start h.object h.method args) (λ _. Gives tt) r1 (begins h.object h.method args r1) (λ _ s. refl) in
      either-silent (is_held h.object r.world) (λ s. spend_step s go) (Gives tt) r (entering-silent go r begun) refl

  handled-silent : (t : Notice) (hs : List Handler) (r : Running) → IsSilent (run_handlers program start t hs) r
  handled-silent t [] r = refl
  handled-silent t (h ∷ hs) r = then-silent (handle program start t h) (λ _. run_handlers program start t hs) r (handled_by-silent t h r) (λ _ s. handled-silent t hs s)

  pub told-silent : (scope event : Name) (t : Notice) (r : Running) → IsSilent (tell_handlers program start scope event t) r
  told-silent scope event t r = handled-silent t (handlers_of scope event r.world.subscriptions) r

  -- the event that is published stands where no program reads it
  outgoing-silent : (scope event : Name) (v : PlainValue) (r : Running) → IsSilent (λ s. tell_handlers program start scope event (model_notice v) (with_outgoing scope event v s)) r
  outgoing-silent scope event v r =
      told-silent scope event (model_notice v) (with_outgoing scope event v r) ∙ sym (told-silent scope event (model_notice v) (with_outgoing scope event v (bare r)))

  published-silent : (scope event : Name) (v : PlainValue) (r : Running) → IsSilent (publish program start scope event v) r
  published-silent scope event v r =
      then-silent (λ s. tell_handlers program start scope event (model_notice v) (with_outgoing scope event v s)) (λ _. Gives nil) r (outgoing-silent scope event v r) (λ _ s. refl)

  answered-silent : (f : Builtin) (object : ℕ) (args : List PlainValue) (r : Running) → IsSilent (run_builtin program start f object args) r
  answered-silent builtin_name.Publish object args r = on_event-silent (publish program start) args r (λ scope event v. published-silent scope event v r)
  answered-silent f object args r = answered_alone-silent f object args r

  answered_by-silent : (f : Option Builtin) (object : ℕ) (args : List PlainValue) (r : Running) → IsSilent (run_if_builtin program start f object args) r
  answered_by-silent None object args r = refl
  answered_by-silent (Some f) object args r = answered-silent f object args r

-- ---- expressions

module _ (ev : Evaluate) (evaluates : EvaluatesSilently ev) where
  evaluated-silent : (here : Here) (es : Expressions) (locals : List Local) (values : List PlainValue) (r : Running) → IsSilent (evaluate_all ev here es locals values) r
  evaluated-silent here no_expressions locals values r = refl
  evaluated-silent here (expression e es) locals values r =
      then-silent (ev here e locals) (λ v. evaluate_all ev here es locals (values ++ v ∷ [])) r (evaluates here e locals r)
      (λ v s. evaluated-silent here es locals (values ++ v ∷ []) s)

  -- a part, and what is done with its value
  part-silent : {A : Type 0} (here : Here) (e : Expression) (locals : List Local) (r : Running) (go : PlainValue → Running → Outcome A)
      → ((v : PlainValue) (s : Running) → IsSilent (go v) s) → IsSilent (λ s. and_then (ev here e locals s) go) r
  part-silent here e locals r go later = then-silent (ev here e locals) go r (evaluates here e locals r) later

  -- arguments, and what is done with them
  arguments-silent : (here : Here) (args : Expressions) (locals : List Local) (r : Running) (go : List PlainValue → Running → Outcome PlainValue)
      → ((vs : List PlainValue) (s : Running) → IsSilent (go vs) s) → IsSilent (λ s. and_then (evaluate_all ev here args locals [] s) go) r
  arguments-silent here args locals r go later = then-silent (evaluate_all ev here args locals []) go r (evaluated-silent here args locals [] r) later

truly-silent : (right : Running → Outcome PlainValue) (r : Running) → IsSilent right r → IsSilent (truly right) r
truly-silent right r h = then-silent right (λ w. decide (truth w) (λ b. Gives (bool b))) r h (λ w s. deciding-silent (truth w) (λ b. Gives (bool b)) s (λ b. refl))

operating-silent : (o : BinaryOp) (v : PlainValue) (right : Running → Outcome PlainValue) (r : Running) → IsSilent right r → IsSilent (binary_outcome o v right) r
operating-silent op.Or v right r h =
    deciding-silent (truth v) (λ b s. if b then Gives (bool true) s else truly right s) r
    (λ b. either-silent b (Gives (bool true)) (truly right) r refl (truly-silent right r h))
operating-silent op.And v right r h =
    deciding-silent (truth v) (λ b s. if b then truly right s else Gives (bool false) s) r
    (λ b. either-silent b (truly right) (Gives (bool false)) r (truly-silent right r h) refl)
operating-silent o v right r h = then-silent right (λ w. give_pure (apply_binary o v w)) r h (λ w s. replying-silent (apply_binary o v w) s)

module _ (program : ProgramTree) (ev : Evaluate) (start : Start) (evaluates : EvaluatesSilently ev) (begins : StartsSilently start) where
  expression-silent : (here : Here) (e : Expression) (locals : List Local) (r : Running) → IsSilent (expression_row program ev start here e locals) r
  expression-silent here tree.nil locals r = refl
  expression-silent here (tree.bool b) locals r = refl
  expression-silent here (tree.int n) locals r = refl
  expression-silent here (tree.text s) locals r = bounded-silent (text s) r
  expression-silent here this locals r = refl
  expression-silent here (local x) locals r = refl
  expression-silent here (field x) locals r = got-silent (object_at r.world.objects here.object) x here.class.fields r
  expression-silent here (tree.list items) locals r =
      arguments-silent ev evaluates here items locals r (λ vs. give_by_weight (list (plains_of vs))) (λ vs s. weighed-silent (list (plains_of vs)) s)
  expression-silent here (unary o e) locals r =
      part-silent ev evaluates here e locals r (λ v. give_pure (apply_unary o v)) (λ v s. replying-silent (apply_unary o v) s)
  expression-silent here (binary o a b) locals r =
      part-silent ev evaluates here a locals r (λ v. binary_outcome o v (ev here b locals)) (λ v s. operating-silent o v (ev here b locals) s (evaluates here b locals s))
  expression-silent here (builtin x args) locals r =
      arguments-silent ev evaluates here args locals r (run_if_builtin program start (builtin_named x) here.object)
      (λ vs s. answered_by-silent program start begins (builtin_named x) here.object vs s)
  expression-silent here (call object x args) locals r =
      part-silent ev evaluates here object locals r (λ o s. and_then (evaluate_all ev here args locals [] s) (call_on start o x))
      (λ o s. arguments-silent ev evaluates here args locals s (call_on start o x) (λ vs t. called_on-silent program start begins o x vs t))
  expression-silent here (future object delay x args) locals r =
      part-silent ev evaluates here object locals r (λ o s. and_then (ev here delay locals s) (λ d t. and_then (evaluate_all ev here args locals [] t) (send o d x)))
      (λ o s. part-silent ev evaluates here delay locals s (λ d t. and_then (evaluate_all ev here args locals [] t) (send o d x))
      (λ d t. arguments-silent ev evaluates here args locals t (send o d x) (λ vs u. send-silent o d x vs u)))
  expression-silent here (create x options) locals r =
      part-silent ev evaluates here options locals r (create_if_class program start (number_of_class x program)) (λ v s. created_by-silent program start begins (number_of_class x program) v s)

-- ---- statements

follow-silent : (go : List Local → Running → Outcome (Flow (List Local))) (flow : Flow (List Local)) (r : Running)
    → ((locals : List Local) → IsSilent (go locals) r) → IsSilent (follow go flow) r
follow-silent go (next locals) r h = h locals
follow-silent go (return_with v) r h = refl

module _ (ex : Execute) (executes : ExecutesSilently ex) where
  in_turn-silent : (here : Here) (ss : Statements) (locals : List Local) (r : Running) → IsSilent (in_turn ex here ss locals) r
  in_turn-silent here no_statements locals r = refl
  in_turn-silent here (statement s ss) locals r =
      then-silent (ex here s locals) (follow (in_turn ex here ss)) r (executes here s locals r)
      (λ flow t. follow-silent (in_turn ex here ss) flow t (λ ls. in_turn-silent here ss ls t))

  block-silent : (here : Here) (ss : Statements) (locals : List Local) (r : Running) → IsSilent (block ex here ss locals) r
  block-silent here ss locals r = then-silent (in_turn ex here ss locals) (λ f. Gives (leave_block (length locals) f)) r (in_turn-silent here ss locals r) (λ f s. refl)

  otherwise-silent : (here : Here) (o : Otherwise) (locals : List Local) (r : Running) → IsSilent (otherwise ex here o locals) r
  otherwise-silent here no_else locals r = refl
  otherwise-silent here (else_block ss) locals r = block-silent here ss locals r

module _ (ev : Evaluate) (ex : Execute) (evaluates : EvaluatesSilently ev) (executes : ExecutesSilently ex) where
  looped-silent : (turns : ℕ) (here : Here) (test : Expression) (body : Statements) (locals : List Local) (r : Running) → IsSilent (loop_turns turns ev ex here test body locals) r
  looped-silent zero here test body locals r = refl
  looped-silent (suc turns) here test body locals r =
      let round : List Local → Running → Outcome (Flow (List Local)) = loop_turns turns ev ex here test body in
      let go : Bool → Running → Outcome (Flow (List Local)) = λ b s. if b then and_then (block ex here body locals s) (follow round) else Gives (next locals) s in
      part-silent ev evaluates here test locals r (λ v. decide (truth v) go)
      (λ v s. deciding-silent (truth v) go s (λ b. either-silent b (λ t. and_then (block ex here body locals t) (follow round)) (Gives (next locals)) s
      (then-silent (block ex here body locals) (follow round) s (block-silent ex executes here body locals s)
      (λ flow t. follow-silent round flow t (λ ls. looped-silent turns here test body ls t))) refl))

  when-silent : (here : Here) (test : Expression) (body : Statements) (other : Otherwise) (locals : List Local) (r : Running) → IsSilent (statement_row ev ex here (when test body other) locals) r
  when-silent here test body other locals r =
      let go : Bool → Running → Outcome (Flow (List Local)) = λ b s. if b then block ex here body locals s else otherwise ex here other locals s in
      part-silent ev evaluates here test locals r (λ v. decide (truth v) go)
      (λ v s. deciding-silent (truth v) go s (λ b. either-silent b (block ex here body locals) (otherwise ex here other locals) s
      (block-silent ex executes here body locals s) (otherwise-silent ex executes here other locals s)))

  set_field-silent : (here : Here) (x : Name) (e : Expression) (locals : List Local) (r : Running) → IsSilent (statement_row ev ex here (set_field x e) locals) r
  set_field-silent here x e locals r =
      part-silent ev evaluates here e locals r (λ v s. and_then (put_field here x v s) (λ _. Gives (next locals)))
      (λ v s. then-silent (put_field here x v) (λ _. Gives (next locals)) s
      (put-silent (object_at s.world.objects here.object) here.object (with_named x v here.class.fields) s) (λ _ t. refl))

  statement-silent : (here : Here) (s : Statement) (locals : List Local) (r : Running) → IsSilent (statement_row ev ex here s locals) r
  statement-silent here (declare x e) locals r = part-silent ev evaluates here e locals r (λ v. Gives (next (locals ++ record { name = x; value = v } ∷ []))) (λ v s. refl)
  statement-silent here (assign x e) locals r = part-silent ev evaluates here e locals r (λ v. Gives (next (with_local x v locals))) (λ v s. refl)
  statement-silent here (set_field x e) locals r = set_field-silent here x e locals r
  statement-silent here (when test body other) locals r = when-silent here test body other locals r
  statement-silent here (while test body) locals r = looped-silent r.fuel here test body locals r
  statement-silent here (give e) locals r = part-silent ev evaluates here e locals r (λ v. Gives (return_with v)) (λ v s. refl)
  statement-silent here (do_ e) locals r = part-silent ev evaluates here e locals r (λ _. Gives (next locals)) (λ v s. refl)

-- ---- methods

module _ (ex : Execute) (executes : ExecutesSilently ex) where
  performed-silent : (here : Here) (m : Option MethodTree) (args : List PlainValue) (r : Running) → IsSilent (perform ex here m args) r
  performed-silent here None args r = refl
  performed-silent here (Some m) args r =
      let locals : List Local = locals_of m.params args in
      either-silent (nat_eq (length args) (length m.params)) (λ s. and_then (in_turn ex here m.body locals s) (λ f. Gives (method_result f))) (Faults Arity) r
      (then-silent (in_turn ex here m.body locals) (λ f. Gives (method_result f)) r (in_turn-silent ex executes here m.body locals r) (λ f s. refl)) refl

  starts_in-silent : (c : Option ClassTree) (object : ℕ) (x : Name) (args : List PlainValue) (r : Running) → IsSilent (starts_in ex c object x args) r
  starts_in-silent None object x args r = refl
  starts_in-silent (Some c) object x args r = performed-silent (record { class = c; object = object }) (method_named x c.methods) args r

  starts_on-silent : (program : ProgramTree) (o : Option ObjectRecord) (object : ℕ) (x : Name) (args : List PlainValue) (r : Running) → IsSilent (starts_on program ex o object x args) r
  starts_on-silent program None object x args r = refl
  starts_on-silent program (Some o) object x args r = starts_in-silent (slice_get program o.class) object x args r

  starting-silent : (program : ProgramTree) → StartsSilently (start_by program ex)
  starting-silent program object x args r = starts_on-silent program (object_at r.world.objects object) object x args r

-- ---- at every room

row-silent : (program : ProgramTree) (room : ℕ) → EvaluatesSilently (evaluate program room) × ExecutesSilently (execute program room)
row-silent program zero = (
  λ here e locals r. entering-silent (Faults Depth) r refl,
  λ here s locals r. entering-silent (Faults Depth) r refl,
)
row-silent program (suc room) =
    let ev : Evaluate = evaluate program room in
    let ex : Execute = execute program room in
    let below : EvaluatesSilently ev × ExecutesSilently ex = row-silent program room in (
      λ here e locals r.
          entering-silent (expression_row program ev (start_by program ex) here e locals) r
          (expression-silent program ev (start_by program ex) below.0 (starting-silent ex below.1 program) here e locals (record r { fuel = r.fuel - 1 })),
      λ here s locals r.
          entering-silent (statement_row ev ex here s locals) r (statement-silent ev ex below.0 below.1 here s locals (record r { fuel = r.fuel - 1 })),
    )

-- a method that starts is silent
pub starts-silent : (program : ProgramTree) (room : ℕ) → StartsSilently (starts program room)
starts-silent program room = starting-silent (execute program room) (row-silent program room).1 program
