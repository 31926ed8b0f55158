-- What a part of a method keeps, what follows on it keeps too.
use Rattle.std.proofs.Common.{◌≡◌, ℕ, ◌-◌, ◌≤◌, Bool, true, false, List, [], ◌++◌, Option, Some, None, nat_eq, nat_le, refl, sym, ap, ◌∙◌, append_assoc, arith, if◌then◌else◌}
use Rattle.std.proofs.lemmas.List.{append-nil}
use Rattle.model_value.specs.Plain.{PlainValue, InBounds, weight, is_in_bounds}
use Rattle.world_plain.specs.Messages.{PlainMessage, PlainOutgoing}
use Rattle.world_plain.specs.World.{ObjectRecord}
use Rattle.world_plain.specs.Valid.{Valid, most_turns}
use Rattle.world_plain.specs.declared.message.Subscription.{Subscription}
use Rattle.world_plain.specs.declared.world.Known.{Known}
use Rattle.world_state.specs.declared.fault.Fault.TheVariants.{Fuel, Size}
use Rattle.world_state.specs.Running.{Running, with_world, Outcome, Gives, Faults, and_then, spend_step, spend, give_in_bounds, give_by_weight, PureOutcome, value, fails, give_pure, decide}
use Rattle.model_eval.specs.Kept.{count_due, now_due, Kept, CarriesIf}
use Rattle.model_eval.proofs.Pending.{if_either}
use Rattle.model_eval.proofs.ValueBounds.{Replies, fits-true}

-- ---- keeping

pub kept-trans : (r s t : Running) → Kept r s → Kept s t → Kept r t
kept-trans r s t h g = record {
  id = g.id ∙ h.id;
  time = g.time ∙ h.time;
  turns = g.turns ∙ h.turns;
  faults = g.faults ∙ h.faults;
  views = g.views ∙ h.views;
  published = (h.published.0 ++ g.published.0, g.published.1 ∙ ap (λ (before : List PlainOutgoing). before ++ g.published.0) h.published.1 ∙ append_assoc r.published h.published.0 g.published.0);
  fuel = omega (arith, h.fuel, g.fuel);
  next_object = omega (arith, h.next_object, g.next_object);
  next_number = omega (arith, h.next_number, g.next_number);
  calm = λ most. let first : now_due s.world ≤ now_due r.world = h.calm most in let second : now_due t.world ≤ now_due s.world = g.calm (h.turns ∙ most) in omega arith;
}

-- with other lists, other ids and numbers to come, another state of its random numbers, and no more fuel
pub kept-changed : (r : Running) (fuel next_object next_number random : ℕ) (os : List ObjectRecord) (ks : List Known) (ss : List Subscription) (ms : List PlainMessage)
    → fuel ≤ r.fuel → r.world.next_object ≤ next_object → r.world.next_number ≤ next_number → (r.world.turns ≡ most_turns → count_due r.world.time ms ≤ now_due r.world)
    → Kept r (record {
      fuel = fuel;
      world = record (r.world) { next_object = next_object; next_number = next_number; random = random; objects = os; known = ks; subscriptions = ss; pending = ms };
      published = r.published;
    })
kept-changed r fuel next_object next_number random os ks ss ms less later further calm = record {
  id = refl;
  time = refl;
  turns = refl;
  faults = refl;
  views = refl;
  published = ([], sym (append-nil r.published));
  fuel = less;
  next_object = later;
  next_number = further;
  calm = calm;
}

pub kept-fuel : (r : Running) (fuel : ℕ) → fuel ≤ r.fuel → Kept r (record r { fuel = fuel })
kept-fuel r fuel h =
    kept-changed r fuel r.world.next_object r.world.next_number r.world.random r.world.objects r.world.known r.world.subscriptions r.world.pending
    h (omega arith) (omega arith) (λ _. omega arith)

pub kept-refl : (r : Running) → Kept r r
kept-refl r = kept-fuel r r.fuel (omega arith)

-- with another saved value
pub kept-saved : (r : Running) (saved : PlainValue) → Kept r (with_world r (record (r.world) { saved = saved }))
kept-saved r saved = record {
  id = refl;
  time = refl;
  turns = refl;
  faults = refl;
  views = refl;
  published = ([], sym (append-nil r.published));
  fuel = omega arith;
  next_object = omega arith;
  next_number = omega arith;
  calm = λ _. omega arith;
}

-- with more behind what was published
pub kept-published : (r : Running) (more : List PlainOutgoing) → Kept r (record r { published = r.published ++ more })
kept-published r more = record {
  id = refl;
  time = refl;
  turns = refl;
  faults = refl;
  views = refl;
  published = (more, refl);
  fuel = omega arith;
  next_object = omega arith;
  next_number = omega arith;
  calm = λ _. omega arith;
}

-- ---- outcomes

module _ (counts : List ℕ) where
  -- after what keeps, under what it needs
  pub carries-after : {A : Type 0} (H G : Type 0) (P : A → Type 0) (r s : Running) (o : Outcome A) → Kept r s → (H → G) → CarriesIf G counts P s o → CarriesIf H counts P r o
  carries-after H G P r s (Gives a t) k f h = (kept-trans r s t k h.0, λ x. h.1 (f x))
  carries-after H G P r s (Faults e t) k f h = (kept-trans r s t k h.0, λ x. h.1 (f x))

  pub carries-if : {A : Type 0} (H G : Type 0) (P : A → Type 0) (r : Running) (o : Outcome A) → (H → G) → CarriesIf G counts P r o → CarriesIf H counts P r o
  carries-if H G P r o f h = carries-after H G P r r o (kept-refl r) f h

  -- what is given is as Q says too
  pub carries-more : {A : Type 0} (H : Type 0) (P Q : A → Type 0) (r : Running) (o : Outcome A) → ((a : A) → P a → Q a) → CarriesIf H counts P r o → CarriesIf H counts Q r o
  carries-more H P Q r (Gives a t) f h = (h.0, λ x. ((h.1 x).0, f a ((h.1 x).1)))
  carries-more H P Q r (Faults e t) f h = h

  pub carries-then : {A B : Type 0} (H : Type 0) (P : A → Type 0) (Q : B → Type 0) (r : Running) (o : Outcome A) (next : A → Running → Outcome B)
      → CarriesIf H counts P r o → ((a : A) (s : Running) → CarriesIf (H × Valid counts s.world × P a) counts Q s (next a s)) → CarriesIf H counts Q r (and_then o next)
  carries-then H P Q r (Gives a s) next h later = carries-after H (H × Valid counts s.world × P a) Q r s (next a s) h.0 (λ x. (x, (h.1 x).0, (h.1 x).1)) (later a s)
  carries-then H P Q r (Faults e s) next h later = h

  -- the same behind a part that asks for something else
  pub carries-next : {A B : Type 0} (H G : Type 0) (P : A → Type 0) (Q : B → Type 0) (r : Running) (o : Outcome A) (next : A → Running → Outcome B)
      → (H → G) → CarriesIf G counts P r o → ((a : A) (s : Running) → CarriesIf (H × Valid counts s.world × P a) counts Q s (next a s)) → CarriesIf H counts Q r (and_then o next)
  carries-next H G P Q r o next f h later = carries-then H P Q r o next (carries-if H G P r o f h) later

  pub carries-test : {A : Type 0} (H : Type 0) (P : A → Type 0) (r : Running) (b : Bool) (x y : Outcome A)
      → (b ≡ true → CarriesIf H counts P r x) → (b ≡ false → CarriesIf H counts P r y) → CarriesIf H counts P r (if b then x else y)
  carries-test H P r b x y h g = if_either (CarriesIf H counts P r) b x y h g

  pub carries-entering : {A : Type 0} (H : Type 0) (P : A → Type 0) (r : Running) (next : Running → Outcome A)
      → (H → Valid counts r.world) → CarriesIf H counts P (record r { fuel = r.fuel - 1 }) (next (record r { fuel = r.fuel - 1 })) → CarriesIf H counts P r (spend_step r next)
  carries-entering H P r next v h =
      carries-test H P r (nat_eq r.fuel 0) (Faults Fuel r) (next (record r { fuel = r.fuel - 1 })) (λ _. (kept-refl r, v))
      (λ _. carries-after H H P r (record r { fuel = r.fuel - 1 }) (next (record r { fuel = r.fuel - 1 })) (kept-fuel r (r.fuel - 1) (omega arith)) (λ x. x) h)

  pub carries-deciding : {A : Type 0} (H : Type 0) (P : A → Type 0) (r : Running) (o : Option Bool) (next : Bool → Running → Outcome A)
      → (H → Valid counts r.world) → ((b : Bool) → CarriesIf H counts P r (next b r)) → CarriesIf H counts P r (decide o next r)
  carries-deciding H P r (Some b) next v h = h b
  carries-deciding H P r None next v h = (kept-refl r, v)

  pub carries-replying : (H : Type 0) (P : PlainValue → Type 0) (r : Running) (reply : PureOutcome)
      → (H → Valid counts r.world) → Replies P reply → CarriesIf H counts P r (give_pure reply r)
  carries-replying H P r (value a) v h = (kept-refl r, λ x. (v x, h))
  carries-replying H P r (fails f) v h = (kept-refl r, v)

  -- a value that takes steps
  pub carries-spending : (H : Type 0) (P : PlainValue → Type 0) (r : Running) (steps : ℕ) (a : PlainValue) → (H → Valid counts r.world) → (H → P a) → CarriesIf H counts P r (spend steps r (Gives a))
  carries-spending H P r steps a v h =
      carries-test H P r (nat_le steps r.fuel) (Gives a (record r { fuel = r.fuel - steps })) (Faults Fuel r)
      (λ _. (kept-fuel r (r.fuel - steps) (omega arith), λ x. (v x, h x))) (λ _. (kept-refl r, v))

  pub carries-bounded : (H : Type 0) (r : Running) (a : PlainValue) → (H → Valid counts r.world) → CarriesIf H counts InBounds r (give_in_bounds a r)
  carries-bounded H r a v = carries-test H InBounds r (is_in_bounds a) (Gives a r) (Faults Size r) (λ e. (kept-refl r, λ x. (v x, fits-true a e))) (λ _. (kept-refl r, v))

  pub carries-weighed : (H : Type 0) (r : Running) (a : PlainValue) → (H → Valid counts r.world) → CarriesIf H counts InBounds r (give_by_weight a r)
  carries-weighed H r a v =
      carries-test H InBounds r (is_in_bounds a) (spend (weight a) r (Gives a)) (Faults Size r)
      (λ e. carries-spending H InBounds r (weight a) a v (λ _. fits-true a e)) (λ _. (kept-refl r, v))

-- ---- what an outcome that carries tells
