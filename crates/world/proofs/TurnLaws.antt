-- Turns one after the other are an advance; the first message opens a session; and what models hear of an entry is what it tells.
use Rattle.std.proofs.Common.{◌≡◌, ℕ, zero, suc, ◌<◌, ◌≤◌, Bool, true, false, if◌then◌else◌, ◌||◌, nat_eq, nat_lt, pos, List, [], ◌∷◌, length, Option, Some, None, refl, sym, ap, ◌∙◌, subst, arith}
use Rattle.std.specs.Prelude.{is_some}
use Rattle.std.specs.Option.{option_map}
use Rattle.std.proofs.lemmas.Option.{none-some}
use Rattle.tea_base.specs.Limits.{time_limit, most_here}
use Rattle.tea_base.specs.declared.entry.Entry.{Entry}
use Rattle.tea_base.specs.declared.entry.What.{What}
use Rattle.tea_base.specs.declared.entry.What.TheVariants.{Join, Exit, Event}
use Rattle.model_value.specs.Plain.{PlainValue, int}
use Rattle.model_value.specs.Payload.{PlainPayload, whole_payload}
use Rattle.world_plain.specs.Messages.{PlainMessage}
use Rattle.world_plain.specs.World.{WorldRecord}
use Rattle.world_plain.specs.Valid.{Valid, IsHeld}
use Rattle.model_tree.specs.Tree.{ClassTree, ProgramTree}
use Rattle.model_tree.specs.Program.{IsProgram}
use Rattle.model_solved.specs.Methods.{field_counts, method_named}
use Rattle.world_state.specs.declared.fault.Fault.TheVariants.{Full}
use Rattle.world.specs.Worlds.{Scene, scene_with_world, Founding, init, init_arguments, root_from, first_with, first_scene, empty_world, with_next_turn, with_root, after_method, after_message, due, on_due, at_later_time, advance, enough, is_view_here, with_view, without_view, session_scope, view_join, view_exit, with_fault, with_count, bad_event, after_join, after_exit, after_event, after_entry, external}
use Rattle.world.specs.Turns.{PlainRan, ran_in, next_ran, after_due, after_turn, after_turns, begun, begun_with, first_ran, first_ran_of, init_ran, after_first, heard_in, join_heard, exit_heard, event_heard, heard_of, TellsHeard}
use Rattle.world.proofs.Running.{Fits}
use Rattle.world.proofs.Moving.{due-some, first-fits}
use Rattle.world.proofs.Advancing.{handled-valid, handled-time, enough-falls, advance-step, advance-twice}
use Rattle.world.proofs.ByWorld.{arrived}
use Rattle.world.proofs.Turn.{program-fits}

-- ---- turns

-- where nothing runs next, nothing is due
none_next : (d : Option (PlainMessage × List PlainMessage)) (w : WorldRecord) → option_map (λ e. ran_in w e.0) d ≡ None → d ≡ None
none_next None w h = refl
none_next (Some d) w h = absurd (none-some (ran_in w d.0) (sym h))

pub next-none : (t : ℕ) (w : WorldRecord) → next_ran t w ≡ None → due t w.pending ≡ None
next-none t w h = none_next (due t w.pending) w h

pub turn-stays : (program : ProgramTree) (t : ℕ) (s : Scene) → next_ran t s.world ≡ None → after_turn program t s ≡ s
turn-stays program t s h = ap (λ d. after_due program d s) (next-none t s.world h)

-- the message that was taken: its object is there
pub taken-held : (counts : List ℕ) (t : ℕ) (m : PlainMessage) (rest : List PlainMessage) (s taken : Scene) → Valid counts s.world → due t s.world.pending ≡ Some (m, rest) → taken ≡ scene_with_world s (record (s.world) { pending = rest }) → IsHeld taken.world.objects m.object
taken-held counts t m rest s taken v d e =
    subst (λ (u : Scene). IsHeld u.world.objects m.object) (sym e) (first-fits counts s.world m rest (due-some t s.world.pending m rest d).first v).3

-- what it leaves, and what is told of it
pub turned-is : (program : ProgramTree) (t : ℕ) (m : PlainMessage) (rest : List PlainMessage) (s after : Scene) → due t s.world.pending ≡ Some (m, rest) → after ≡ after_message program m rest s → after ≡ after_turn program t s
turned-is program t m rest s after d e = e ∙ ap (λ f. after_due program f s) (sym d)

pub told-is : (t : ℕ) (m : PlainMessage) (rest : List PlainMessage) (s taken : Scene) (ran : PlainRan) → due t s.world.pending ≡ Some (m, rest) → taken ≡ scene_with_world s (record (s.world) { pending = rest }) → ran ≡ ran_in taken.world m → Some ran ≡ next_ran t s.world
told-is t m rest s taken ran d e h =
    ap Some (h ∙ ap (λ (u : Scene). ran_in u.world m) e) ∙ ap (option_map (λ f. ran_in s.world f.0)) (sym d)

-- where none is due
pub unturned-is : (program : ProgramTree) (t : ℕ) (s after : Scene) → due t s.world.pending ≡ None → after ≡ s → after ≡ after_turn program t s
unturned-is program t s after d e = e ∙ ap (λ f. after_due program f s) (sym d)

pub untold-is : (t : ℕ) (w : WorldRecord) → due t w.pending ≡ None → None ≡ next_ran t w
untold-is t w d = ap (option_map (λ f. ran_in w f.0)) (sym d)

module _ (counts : List ℕ) (program : ProgramTree) (t : ℕ) (fits : Fits counts program) where
  valid_by : (a : Scene) (d : Option (PlainMessage × List PlainMessage)) → due t a.world.pending ≡ d → Valid counts a.world → Valid counts (after_due program d a).world
  valid_by a None e v = v
  valid_by a (Some d) e v = handled-valid counts program d.0 d.1 a fits (due-some t a.world.pending d.0 d.1 e).first v

  pub turn-keeps : (a : Scene) → Valid counts a.world → Valid counts (after_turn program t a).world
  turn-keeps a v = valid_by a (due t a.world.pending) refl v

  early_by : (a : Scene) (d : Option (PlainMessage × List PlainMessage)) → due t a.world.pending ≡ d → a.world.time ≤ t → (after_due program d a).world.time ≤ t
  early_by a None e le = le
  early_by a (Some d) e le = handled-time counts program t d.0 d.1 a fits le (due-some t a.world.pending d.0 d.1 e).time

  pub turn-early : (a : Scene) → a.world.time ≤ t → (after_turn program t a).world.time ≤ t
  turn-early a le = early_by a (due t a.world.pending) refl le

  goes_by : (a : Scene) (d : Option (PlainMessage × List PlainMessage)) → advance program t a ≡ on_due program t (advance program t) d a → advance program t (after_due program d a) ≡ advance program t a
  goes_by a None step = refl
  goes_by a (Some d) step = sym step

  -- a turn leaves what an advance comes to
  pub turn-goes_on : (a : Scene) → Valid counts a.world → advance program t (after_turn program t a) ≡ advance program t a
  turn-goes_on a v = goes_by a (due t a.world.pending) (advance-step counts program t a fits v)

  -- where nothing runs next, an advance only arrives
  pub turn-rests : (a : Scene) → Valid counts a.world → next_ran t a.world ≡ None → advance program t a ≡ scene_with_world a (at_later_time t a.world)
  turn-rests a v none = advance-step counts program t a fits v ∙ ap (λ d. on_due program t (advance program t) d a) (next-none t a.world none)

  nearer_by : (a : Scene) (d : Option (PlainMessage × List PlainMessage)) (ran : PlainRan) → due t a.world.pending ≡ d → option_map (λ e. ran_in a.world e.0) d ≡ Some ran → Valid counts a.world → enough t (after_due program d a).world < enough t a.world
  nearer_by a None ran e h v = absurd (none-some ran h)
  nearer_by a (Some d) ran e h v = let is = due-some t a.world.pending d.0 d.1 e in enough-falls counts program t d.0 d.1 a fits v is.first is.time

  -- where a message runs, fewer are left
  pub turn-nearer : (a : Scene) (ran : PlainRan) → next_ran t a.world ≡ Some ran → Valid counts a.world → enough t (after_turn program t a).world < enough t a.world
  turn-nearer a ran h v = nearer_by a (due t a.world.pending) ran refl h v

  -- after so many turns
  abbrev Arrives : Scene → Type 0
  Arrives a =
      (n : ℕ) × (next_ran t (after_turns program t n a).world ≡ None)
      × (advance program t a ≡ scene_with_world (after_turns program t n a) (at_later_time t (after_turns program t n a).world))

  one_more : (a : Scene) → advance program t (after_turn program t a) ≡ advance program t a → Arrives (after_turn program t a) → Arrives a
  one_more a on h = (suc h.0, h.1, sym on ∙ h.2)

  ends_by : (a : Scene) (d : Option (PlainMessage × List PlainMessage)) → due t a.world.pending ≡ d → Valid counts a.world
      → ((u : Scene) → Valid counts u.world → enough t u.world < enough t a.world → Arrives u) → Arrives a
  ends_by a None e v later =
      let none : next_ran t a.world ≡ None = ap (option_map (λ f. ran_in a.world f.0)) e in
      (0, none, turn-rests a v none)
  ends_by a (Some d) e v later =
      let is = due-some t a.world.pending d.0 d.1 e in
      let turned : after_turn program t a ≡ after_message program d.0 d.1 a = ap (λ f. after_due program f a) e in
      one_more a (turn-goes_on a v)
      (subst Arrives (sym turned) (later (after_message program d.0 d.1 a) (handled-valid counts program d.0 d.1 a fits is.first v) (enough-falls counts program t d.0 d.1 a fits v is.first is.time)))

  ends : (n : ℕ) (a : Scene) → Valid counts a.world → enough t a.world ≤ n → Arrives a
  ends zero a v le = ends_by a (due t a.world.pending) refl v (λ u valid less. absurd (omega (arith, less, le)))
  ends (suc n) a v le = ends_by a (due t a.world.pending) refl v (λ u valid less. ends n u valid (omega (arith, less, le)))

  pub turns-arrive : (a : Scene) → Valid counts a.world → Arrives a
  turns-arrive a v = ends (enough t a.world) a v (omega arith)

-- ---- the first message

opens_if : (has : Bool) (founding : Founding) (root : ℕ × ClassTree) (s : Scene)
    → (if has then after_method founding.tree 1 init (init_arguments founding.persisted root.1) s else s)
    ≡ after_first founding.tree (if has then Some (init_ran founding.persisted root) else None) s
opens_if true founding root s = refl
opens_if false founding root s = refl

opens_by : (founding : Founding) (root : Option (ℕ × ClassTree)) (w : WorldRecord) → first_with founding root w ≡ after_first founding.tree (first_ran_of founding.persisted root) (record { world = begun_with root w; published = [] })
opens_by founding None w = refl
opens_by founding (Some root) w = opens_if (is_some (method_named init root.1.methods)) founding root (record { world = with_root root.0 root.1 w; published = [] })

pub first-opens : (founding : Founding) (id : List ℕ) → first_scene founding id ≡ after_first founding.tree (first_ran founding) (begun founding id)
first-opens founding id = opens_by founding (root_from 0 founding.tree) (with_next_turn (empty_world founding.persisted id))

-- ---- entries

-- an entry after an advance to its time
pub entered-is : (program : ProgramTree) (e : Entry) (a b after : Scene) → IsProgram program → Valid (field_counts program) a.world → e.time < time_limit → b ≡ advance program e.time a → after ≡ external program e b → after ≡ external program e a
entered-is program e a b after p v below is goes =
    goes ∙ ap (external program e) is ∙ ap (arrived program e) (advance-twice (field_counts program) program e.time e.time (program-fits program p) (omega arith) below a v)

module _ (program : ProgramTree) (view : ℕ) (s : Scene) where
  abbrev joined : List ℕ → Scene
  joined views = scene_with_world s (record (s.world) { views = views })

  join_tells : (none few : Bool) → nat_eq view 0 || is_view_here view s.world.views ≡ none → nat_lt (length s.world.views) most_here ≡ few
      → TellsHeard program Join view s (if none then None else (if few then Some (heard_in s.world (session_scope s.world) view_join) else None))
  join_tells true few n f = (s.world.faults, rw n refl)
  join_tells false true n f = (with_view view s.world.views, int (pos view), rw (n, f) refl)
  join_tells false false n f = ((with_fault Full s.world).faults, rw (n, f) refl)

  exit_tells : (here : Bool) → is_view_here view s.world.views ≡ here → TellsHeard program Exit view s (if here then Some (heard_in s.world (session_scope s.world) view_exit) else None)
  exit_tells true h = (without_view view s.world.views, int (pos view), rw h refl)
  exit_tells false h = (s.world.faults, rw h refl)

  event_tells : (number : ℕ) (payload : List ℕ) (read : Option PlainPayload) → whole_payload payload ≡ read → TellsHeard program (Event number payload) view s (event_heard s.world read)
  event_tells number payload None r = ((with_count bad_event s.world).faults, rw r refl)
  event_tells number payload (Some p) r = (s.world.views, p.value, rw r refl)

  pub entry-tells : (what : What) → TellsHeard program what view s (heard_of s.world view what)
  entry-tells Join = join_tells (nat_eq view 0 || is_view_here view s.world.views) (nat_lt (length s.world.views) most_here) refl refl
  entry-tells Exit = exit_tells (is_view_here view s.world.views) refl
  entry-tells (Event number payload) = event_tells number payload (whole_payload payload) refl
