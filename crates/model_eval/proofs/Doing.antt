-- What fields, futures, objects, names and builtins keep of a world.
use Rattle.std.proofs.Common.{◌≡◌, ℕ, ◌+◌, ◌-◌, ◌/◌, ◌≤◌, ◌<◌, Bool, true, false, ◌&&◌, not, ℤ, pos, negsuc, List, [], ◌∷◌, length, map, Option, Some, None, nat_eq, nat_le, refl, arith, ⊎_elim, if◌then◌else◌, slice_get}
use Rattle.std.specs.Prelude.{⊤, is_some}
use Rattle.std.proofs.lemmas.Bool.{leb-true, eqb-false, and_cases}
use Rattle.hex.specs.Hex.{encode_lower}
use Rattle.seeded_random.specs.Draw.{word_of, state_after, number_below}
use Rattle.model_value.specs.Plain.{PlainValue, nil, bool, int, text, ref, list, InBounds, weight, AllInBounds, TextFits}
use Rattle.model_value.specs.View.{plains_of}
use Rattle.world_plain.specs.Messages.{PlainMessage}
use Rattle.world_plain.specs.World.{ObjectRecord, WorldRecord, world_weight, most_world_weight}
use Rattle.world_plain.specs.Valid.{Valid, object_at, IsHeld, SubscriptionFits, most_turns, most_arguments}
use Rattle.tea_base.specs.Limits.{time_limit}
use Rattle.world_plain.specs.declared.message.Subscription.{Subscription}
use Rattle.model_tree.specs.Tree.{Name}
use Rattle.model_tree.specs.Names.{IsShortName}
use Rattle.model_solved.specs.declared.builtin.Builtin.{Builtin}
use Rattle.model_solved.specs.declared.builtin.Builtin.TheVariants as builtin
use Rattle.model_builtin.specs.declared.builtin.Pure.{Pure}
use Rattle.model_builtin.specs.Builtins.{apply}
use Rattle.model_builtin.specs.Builtins as without_world
use Rattle.world_state.specs.declared.fault.Fault.TheVariants.{BadKind, BadIndex, NoObject, Instant, Full}
use Rattle.world_state.specs.Running.{Running, with_world, Outcome, Gives, Faults, give_in_bounds}
use Rattle.world_state.specs.Objects.{get_named, with_fields, with_objects, if_light, put_fields, new_object, has_room_for, with_object, make_object, without_object, is_held, destroy, known_by, make_known, persist}
use Rattle.known_names.specs.Names.{with_known}
use Rattle.model_eval.specs.Futures.{ahead, has_room, with_message, send_message_at, send_to, send}
use Rattle.model_eval.specs.Builtins.{draw, pure_of, takes_steps, builtin_outcome, pure_outcome, on_none, on_any, on_int, on_text, on_texts, on_ref, run_builtin_alone}
use Rattle.model_eval.specs.Publishing.{has_room_to, with_subscription, add_subscription, subscription, subscribe, unsubscribe, messages_without_calls, cancel, count_views, tell_views}
use Rattle.pubsub.specs.Topics.{is_subscribed, without_subscription}
use Rattle.world_plain.specs.ValidTest.{can_be_saved, same_subscription}
use Rattle.world_plain.proofs.ValidTests.{saved-Decides}
use Rattle.message_queue.specs.Queue.{insert_in_order, calls}
use Rattle.model_eval.specs.Kept.{Kept, CarriesIf}
use Rattle.model_eval.proofs.FieldBounds.{nil-in_bounds, value_named-in_bounds, object_at-fits}
use Rattle.model_eval.proofs.Pending.{short-fits, ahead-is, due-later}
use Rattle.model_eval.proofs.Destroyed.{due-filtered}
use Rattle.model_eval.proofs.ValidLaws.{valid-fields, valid-message, valid-object, valid-others, valid-known, valid-saved, valid-random, valid-subscription, valid-unsubscribed, valid-cancelled}
use Rattle.model_eval.proofs.ValueBounds.{PureReplies, bool-in_bounds, int-in_bounds, known_by-in_bounds, applied-in_bounds}
use Rattle.model_eval.proofs.Carrying.{kept-changed, kept-saved, kept-refl, carries-test, carries-spending, carries-bounded, carries-weighed}

-- what is not refused at an instant at which too many ran is to come
to_come : (time now turns : ℕ) → (nat_eq time now && nat_eq turns most_turns) ≡ false → now ≤ time → turns ≡ most_turns → now < time
to_come time now turns e h most =
    ⊎_elim (λ apart. let differ : ¬ (time ≡ now) = eqb-false time now apart in omega (arith, differ)) (λ apart. absurd (eqb-false turns most_turns apart most)) (and_cases (nat_eq time now) (nat_eq turns most_turns) e)

found-held : (o : Option ObjectRecord) → is_some o ≡ true → (q : ObjectRecord) × (o ≡ Some q)
found-held None e = absurd cc
found-held (Some q) e = (q, refl)

module _ (counts : List ℕ) (H : Type 0) where
  -- ---- fields

  pub got-carries : (o : Option ObjectRecord) (id : ℕ) (x : Name) (names : List Name) (r : Running)
      → (H → Valid counts r.world) → object_at r.world.objects id ≡ o → CarriesIf H counts InBounds r (get_named o x names r)
  got-carries None id x names r v e = (kept-refl r, v)
  got-carries (Some o) id x names r v e =
      (kept-refl r, λ h. (v h, value_named-in_bounds x names o.fields (object_at-fits counts r.world.next_object r.world.objects id o (v h).objects.fit e).2))

  -- a change that is made where the world stays light
  light-carries : {A : Type 0} (P : A → Type 0) (a : A) (r changed : Running) → (H → Valid counts r.world) → Kept r changed
      → (world_weight changed.world ≤ most_world_weight → H → Valid counts changed.world × P a) → CarriesIf H counts P r (if_light a r changed)
  light-carries P a r changed v kept more =
      carries-test counts H P r (nat_le (world_weight changed.world) most_world_weight) (Gives a changed) (Faults Full r)
      (λ light. (kept, more (leb-true (world_weight changed.world) most_world_weight light))) (λ _. (kept-refl r, v))

  pub put-carries : (o : Option ObjectRecord) (id : ℕ) (change : List PlainValue → List PlainValue) (r : Running)
      → (H → Valid counts r.world) → ((vs : List PlainValue) → length (change vs) ≡ length vs) → (H → (vs : List PlainValue) → AllInBounds vs → AllInBounds (change vs))
      → CarriesIf H counts (λ _. ⊤) r (put_fields o id change r)
  put-carries None id change r v long bound = (kept-refl r, v)
  put-carries (Some o) id change r v long bound =
      let w : WorldRecord = r.world in
      light-carries (λ _. ⊤) tt r (with_objects r (with_fields id change w.objects)) v
      (kept-changed r r.fuel w.next_object w.next_number w.random (with_fields id change w.objects) w.known w.subscriptions w.pending (omega arith) (omega arith) (omega arith) (λ _. omega arith))
      (λ light h. (valid-fields counts id change r long (bound h) light (v h), tt))

  -- ---- futures

  sent-carries : (object : ℕ) (x : Name) (args : List PlainValue) (ahead : Option ℕ) (r : Running)
      → (H → Valid counts r.world) → (H → AllInBounds args × (length args ≤ most_arguments)) → IsShortName x → IsHeld r.world.objects object
      → ((time : ℕ) → ahead ≡ Some time → (r.world.time ≤ time) × (time < time_limit)) → CarriesIf H counts InBounds r (send_message_at object x args ahead r)
  sent-carries object x args None r v fit short held within = (kept-refl r, v)
  sent-carries object x args (Some time) r v fit short held within =
      let w : WorldRecord = r.world in
      let m : PlainMessage = record { time = time; number = w.next_number; object = object; method = x; args = args } in
      let bounds : (w.time ≤ time) × (time < time_limit) = within time refl in
      carries-test counts H InBounds r (nat_eq time w.time && nat_eq w.turns most_turns) (Faults Instant r) (if has_room w m then Gives nil (with_message r m) else Faults Full r)
      (λ _. (kept-refl r, v))
      (λ apart. carries-test counts H InBounds r (has_room w m) (Gives nil (with_message r m)) (Faults Full r)
      (λ room. (
        kept-changed r r.fuel w.next_object (w.next_number + 1) w.random w.objects w.known w.subscriptions (insert_in_order m w.pending) (omega arith) (omega arith) (omega arith)
            (λ most. omega (arith, due-later w.time m w.pending (to_come time w.time w.turns apart bounds.0 most))),
        λ h. (valid-message counts m r refl (bounds.0, bounds.1, omega arith, held, short-fits x short, (fit h).1, (fit h).0) room (v h), nil-in_bounds),
      ))
      (λ _. (kept-refl r, v)))

  sent_to-carries : (o : Option ObjectRecord) (object : ℕ) (delay : ℤ) (x : Name) (args : List PlainValue) (r : Running)
      → (H → Valid counts r.world) → (H → AllInBounds args × (length args ≤ most_arguments)) → IsShortName x → object_at r.world.objects object ≡ o
      → CarriesIf H counts InBounds r (send_to o object delay x args r)
  sent_to-carries None object delay x args r v fit short e = (kept-refl r, v)
  sent_to-carries (Some o) object delay x args r v fit short e = sent-carries object x args (ahead r.world.time delay) r v fit short (o, e) (ahead-is r.world.time delay)

  pub send-carries : (o d : PlainValue) (x : Name) (args : List PlainValue) (r : Running)
      → (H → Valid counts r.world) → (H → AllInBounds args × (length args ≤ most_arguments)) → IsShortName x → CarriesIf H counts InBounds r (send o d x args r)
  send-carries (ref object) (int delay) x args r v fit short = sent_to-carries (object_at r.world.objects object) object delay x args r v fit short refl
  send-carries _ _ x args r v fit short = (kept-refl r, v)

  -- ---- objects

  pub made-carries : (class fields : ℕ) (r : Running) → (H → Valid counts r.world) → slice_get counts class ≡ Some fields → CarriesIf H counts (λ _. ⊤) r (make_object class fields r)
  made-carries class fields r v known =
      let w : WorldRecord = r.world in
      let o : ObjectRecord = new_object class fields w in
      carries-test counts H (λ _. ⊤) r (has_room_for w o) (Gives o.id (with_world r (with_object w o))) (Faults Full r)
      (λ room. (
        kept-changed r r.fuel (w.next_object + 1) w.next_number w.random ((with_object w o).objects) w.known w.subscriptions w.pending (omega arith) (omega arith) (omega arith) (λ _. omega arith),
        λ h. (valid-object counts class fields w known room (v h), tt),
      ))
      (λ _. (kept-refl r, v))

  destroyed-carries : (id : ℕ) (r : Running) → (H → Valid counts r.world) → CarriesIf H counts InBounds r (destroy id r)
  destroyed-carries id r v =
      let w : WorldRecord = r.world in
      let left : WorldRecord = without_object id w in
      carries-test counts H InBounds r (is_held id w) (Gives nil (with_world r left)) (Faults NoObject r)
      (λ _. (
        kept-changed r r.fuel w.next_object w.next_number w.random left.objects left.known left.subscriptions left.pending (omega arith) (omega arith) (omega arith)
            (λ _. due-filtered w.time (λ m. not (nat_eq m.object id)) w.pending),
        λ h. (valid-others counts id w (v h), nil-in_bounds),
      ))
      (λ _. (kept-refl r, v))

  made_known-carries : (x : Name) (object : ℕ) (r : Running) → (H → Valid counts r.world) → (H → InBounds (text x)) → CarriesIf H counts InBounds r (make_known object x r)
  made_known-carries x object r v fit =
      let w : WorldRecord = r.world in
      let changed : Running = with_world r (record w { known = with_known x object w.known }) in
      carries-test counts H InBounds r (is_held object w) (if_light nil r changed) (Faults NoObject r)
      (λ held. light-carries InBounds nil r changed v
      (kept-changed r r.fuel w.next_object w.next_number w.random w.objects (with_known x object w.known) w.subscriptions w.pending (omega arith) (omega arith) (omega arith) (λ _. omega arith))
      (λ light h. (valid-known counts x object w (fit h).0 (found-held (object_at w.objects object) held) light (v h), nil-in_bounds)))
      (λ _. (kept-refl r, v))

  persisted-carries : (v : PlainValue) (r : Running) → (H → Valid counts r.world) → CarriesIf H counts InBounds r (persist v r)
  persisted-carries v r valid =
      let changed : Running = with_world r (record (r.world) { saved = v }) in
      carries-test counts H InBounds r (can_be_saved v) (if_light nil r changed) (Faults BadKind r)
      (λ fits. light-carries InBounds nil r changed valid (kept-saved r v)
      (λ light h. (valid-saved counts v r.world ((saved-Decides v).0 fits) light (valid h), nil-in_bounds)))
      (λ _. (kept-refl r, valid))

  -- ---- builtins

  drawn-carries : (n : ℤ) (r : Running) → (H → Valid counts r.world) → CarriesIf H counts InBounds r (draw n r)
  drawn-carries (pos n) r v =
      let w : WorldRecord = r.world in
      let random : ℕ = state_after w.random in
      let k : ℤ = pos (number_below n (word_of w.random)) in
      carries-test counts H InBounds r (nat_eq n 0) (Faults BadIndex r) (Gives (int k) (with_world r (record w { random = random })))
      (λ _. (kept-refl r, v))
      (λ _. (
        kept-changed r r.fuel w.next_object w.next_number random w.objects w.known w.subscriptions w.pending (omega arith) (omega arith) (omega arith) (λ _. omega arith),
        λ h. (valid-random counts random w (v h), int-in_bounds k),
      ))
  drawn-carries (negsuc n) r v = (kept-refl r, v)

  given-carries : (costs : Bool) (reply : without_world.BuiltinReply) (r : Running) → (H → Valid counts r.world) → PureReplies InBounds reply → CarriesIf H counts InBounds r (builtin_outcome costs reply r)
  given-carries true (without_world.value a) r v h = carries-spending counts H InBounds r (weight a) a v (λ _. h)
  given-carries false (without_world.value a) r v h = (kept-refl r, λ x. (v x, h))
  given-carries costs without_world.bad_kind r v h = (kept-refl r, v)
  given-carries costs without_world.bad_index r v h = (kept-refl r, v)
  given-carries costs without_world.too_large r v h = (kept-refl r, v)

  pure_answered-carries : (f : Option Pure) (args : List PlainValue) (r : Running) → (H → Valid counts r.world) → CarriesIf H counts InBounds r (pure_outcome f args r)
  pure_answered-carries None args r v = (kept-refl r, v)
  pure_answered-carries (Some f) args r v = given-carries (takes_steps f) (apply f args) r v (applied-in_bounds f args)

  on_none-carries : (f : Running → Outcome PlainValue) (args : List PlainValue) (r : Running)
      → (H → Valid counts r.world) → CarriesIf H counts InBounds r (f r) → CarriesIf H counts InBounds r (on_none f args r)
  on_none-carries f [] r v h = h
  on_none-carries f (a ∷ args) r v h = (kept-refl r, v)

  on_any-carries : (f : PlainValue → Running → Outcome PlainValue) (args : List PlainValue) (r : Running)
      → (H → Valid counts r.world) → ((v : PlainValue) → CarriesIf H counts InBounds r (f v r)) → CarriesIf H counts InBounds r (on_any f args r)
  on_any-carries f (v ∷ []) r valid h = h v
  on_any-carries f _ r valid h = (kept-refl r, valid)

  on_int-carries : (f : ℤ → Running → Outcome PlainValue) (args : List PlainValue) (r : Running)
      → (H → Valid counts r.world) → ((n : ℤ) → CarriesIf H counts InBounds r (f n r)) → CarriesIf H counts InBounds r (on_int f args r)
  on_int-carries f (int n ∷ []) r v h = h n
  on_int-carries f _ r v h = (kept-refl r, v)

  on_text-carries : (f : List ℕ → Running → Outcome PlainValue) (args : List PlainValue) (r : Running)
      → (H → Valid counts r.world) → (H → AllInBounds args) → ((x : List ℕ) → (H → InBounds (text x)) → CarriesIf H counts InBounds r (f x r)) → CarriesIf H counts InBounds r (on_text f args r)
  on_text-carries f (text x ∷ []) r v fit h = h x (λ y. (fit y).0)
  on_text-carries f _ r v fit h = (kept-refl r, v)

  on_ref-carries : (f : ℕ → Running → Outcome PlainValue) (args : List PlainValue) (r : Running)
      → (H → Valid counts r.world) → ((id : ℕ) → CarriesIf H counts InBounds r (f id r)) → CarriesIf H counts InBounds r (on_ref f args r)
  on_ref-carries f (ref id ∷ []) r v h = h id
  on_ref-carries f _ r v h = (kept-refl r, v)

  on_texts-carries : (f : List ℕ → List ℕ → List ℕ → Running → Outcome PlainValue) (args : List PlainValue) (r : Running)
      → (H → Valid counts r.world) → (H → AllInBounds args)
      → ((x y z : List ℕ) → (H → TextFits x × TextFits y × TextFits z) → CarriesIf H counts InBounds r (f x y z r)) → CarriesIf H counts InBounds r (on_texts f args r)
  on_texts-carries f (text x ∷ text y ∷ text z ∷ []) r v fit h = h x y z (λ g. ((fit g).0.0, (fit g).1.0.0, (fit g).1.1.0.0))
  on_texts-carries f _ r v fit h = (kept-refl r, v)

  added-carries : (s : Subscription) (r : Running) → (H → Valid counts r.world) → (H → SubscriptionFits r.world.objects s) → CarriesIf H counts InBounds r (add_subscription s r)
  added-carries s r v fits =
      let w : WorldRecord = r.world in
      carries-test counts H InBounds r (is_subscribed s w.subscriptions) (Gives nil r) (if has_room_to w s then Gives nil (with_world r (with_subscription s w)) else Faults Full r)
      (λ _. (kept-refl r, λ h. (v h, nil-in_bounds)))
      (λ new. carries-test counts H InBounds r (has_room_to w s) (Gives nil (with_world r (with_subscription s w))) (Faults Full r)
      (λ room. (
        kept-changed r r.fuel w.next_object w.next_number w.random w.objects w.known ((with_subscription s w).subscriptions) w.pending (omega arith) (omega arith) (omega arith) (λ _. omega arith),
        λ h. (valid-subscription counts s w new (fits h) room (v h), nil-in_bounds),
      ))
      (λ _. (kept-refl r, v)))

  subscribed-carries : (object : ℕ) (scope event x : Name) (r : Running) → (H → Valid counts r.world) → (H → TextFits scope × TextFits event × TextFits x)
      → CarriesIf H counts InBounds r (subscribe object scope event x r)
  subscribed-carries object scope event x r v fit =
      let w : WorldRecord = r.world in
      carries-test counts H InBounds r (is_held object w) (add_subscription (subscription object scope event x) r) (Faults NoObject r)
      (λ held. added-carries (subscription object scope event x) r v (λ h. ((fit h).0, (fit h).1, (fit h).2, found-held (object_at w.objects object) held)))
      (λ _. (kept-refl r, v))

  unsubscribed-carries : (object : ℕ) (scope event x : Name) (r : Running) → (H → Valid counts r.world) → CarriesIf H counts InBounds r (unsubscribe object scope event x r)
  unsubscribed-carries object scope event x r v =
      let w : WorldRecord = r.world in
      let s : Subscription = subscription object scope event x in
      let left : List Subscription = without_subscription s w.subscriptions in
      carries-test counts H InBounds r (is_held object w) (Gives nil (with_world r (record w { subscriptions = left }))) (Faults NoObject r)
      (λ _. (
        kept-changed r r.fuel w.next_object w.next_number w.random w.objects w.known left w.pending (omega arith) (omega arith) (omega arith) (λ _. omega arith),
        λ h. (valid-unsubscribed counts (λ t. not (same_subscription t s)) w (v h), nil-in_bounds),
      ))
      (λ _. (kept-refl r, v))

  cancelled-carries : (object : ℕ) (x : Name) (r : Running) → (H → Valid counts r.world) → CarriesIf H counts InBounds r (cancel object x r)
  cancelled-carries object x r v =
      let w : WorldRecord = r.world in
      let left : List PlainMessage = messages_without_calls object x w.pending in
      let n : ℤ = pos (length w.pending - length left) in
      carries-test counts H InBounds r (is_held object w) (Gives (int n) (with_world r (record w { pending = left }))) (Faults NoObject r)
      (λ _. (
        kept-changed r r.fuel w.next_object w.next_number w.random w.objects w.known w.subscriptions left (omega arith) (omega arith) (omega arith)
            (λ _. due-filtered w.time (λ m. not (calls object x m)) w.pending),
        λ h. (valid-cancelled counts (λ m. not (calls object x m)) w (v h), int-in_bounds n),
      ))
      (λ _. (kept-refl r, v))

  pub answered_alone-carries : (f : Builtin) (object : ℕ) (args : List PlainValue) (r : Running) → (H → Valid counts r.world) → (H → AllInBounds args) → CarriesIf H counts InBounds r (run_builtin_alone f object args r)
  answered_alone-carries builtin.Now object args r valid fit =
      on_none-carries (λ r. Gives (int (pos (r.world.time / 1000))) r) args r valid (kept-refl r, λ h. (valid h, int-in_bounds (pos (r.world.time / 1000))))
  answered_alone-carries builtin.Random object args r valid fit = on_int-carries draw args r valid (λ n. drawn-carries n r valid)
  answered_alone-carries builtin.SessionId object args r valid fit =
      on_none-carries (λ r. give_in_bounds (text (encode_lower r.world.id)) r) args r valid (carries-bounded counts H r (text (encode_lower r.world.id)) valid)
  answered_alone-carries builtin.Known object args r valid fit =
      on_text-carries (λ x r. Gives (known_by x r.world.known) r) args r valid fit (λ x _. (kept-refl r, λ h. (valid h, known_by-in_bounds x r.world.known)))
  answered_alone-carries builtin.BeKnown object args r valid fit =
      on_text-carries (make_known object) args r valid fit (λ x bound. made_known-carries x object r valid bound)
  answered_alone-carries builtin.Exists object args r valid fit =
      on_ref-carries (λ id r. Gives (bool (is_held id r.world)) r) args r valid (λ id. (kept-refl r, λ h. (valid h, bool-in_bounds (is_held id r.world))))
  answered_alone-carries builtin.Destroy object args r valid fit = on_ref-carries destroy args r valid (λ id. destroyed-carries id r valid)
  answered_alone-carries builtin.ViewCount object args r valid fit =
      on_none-carries count_views args r valid (kept-refl r, λ h. (valid h, int-in_bounds (pos (length r.world.views))))
  answered_alone-carries builtin.Views object args r valid fit =
      on_none-carries tell_views args r valid (carries-weighed counts H r (list (plains_of (map (λ view. int (pos view)) r.world.views))) valid)
  answered_alone-carries builtin.Subscribe object args r valid fit =
      on_texts-carries (subscribe object) args r valid fit (λ scope event x fits. subscribed-carries object scope event x r valid fits)
  answered_alone-carries builtin.Unsubscribe object args r valid fit =
      on_texts-carries (unsubscribe object) args r valid fit (λ scope event x _. unsubscribed-carries object scope event x r valid)
  answered_alone-carries builtin.Cancel object args r valid fit =
      on_text-carries (cancel object) args r valid fit (λ x _. cancelled-carries object x r valid)
  answered_alone-carries builtin.Persist object args r valid fit = on_any-carries persist args r valid (λ v. persisted-carries v r valid)
  answered_alone-carries f object args r valid fit = pure_answered-carries (pure_of f) args r valid
