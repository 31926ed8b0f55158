-- The world that is left follows from the world alone, and not from what was published before.
use Rattle.std.proofs.Common.{◌≡◌, ℕ, zero, suc, Bool, true, false, ◌||◌, if◌then◌else◌, nat_eq, nat_lt, nat_le, pos, List, [], ◌∷◌, length, Option, Some, None, refl, sym, ap, ◌∙◌}
use Rattle.tea_base.specs.declared.entry.Entry.{Entry}
use Rattle.tea_base.specs.declared.entry.What.{What}
use Rattle.tea_base.specs.declared.entry.What.TheVariants.{Join, Exit, Event}
use Rattle.model_value.specs.Plain.{PlainValue, int}
use Rattle.model_value.specs.Payload.{PlainPayload, whole_payload}
use Rattle.world_plain.specs.Messages.{PlainMessage}
use Rattle.world_plain.specs.World.{WorldRecord}
use Rattle.tea_base.specs.Limits.{most_here}
use Rattle.model_tree.specs.Tree.{Name, ProgramTree}
use Rattle.world_state.specs.declared.fault.Fault.TheVariants.{Full}
use Rattle.world_state.specs.Running.{Outcome, Gives, Faults, most_open}
use Rattle.model_eval.specs.Meaning.{starts}
use Rattle.model_eval.specs.Publishing.{Notice, tell_handlers, view_notice}
use Rattle.world.specs.Worlds.{Scene, scene_with_world, with_fault, with_next_turn, with_full_budget, scene_of_outcome, after_method, due, after_message, on_due, enough, advance_within, advance, after_telling, session_scope, view_join, view_exit, after_telling_of, is_view_here, with_view, without_view, after_join, after_exit, after_event, after_entry, external, replay_from, take_up}
use Rattle.world.proofs.Advancing.{opened}
use Rattle.world.proofs.Silent.{bare_end, starts-silent, told-silent}

-- the world that is left is that which is left where nothing was published yet
abbrev pub IsByWorld : (Scene → Scene) → Type 0
IsByWorld f = (s : Scene) → (f s).world ≡ (f (take_up s.world)).world

-- two scenes with one world are left with one world
pub same-world : (f : Scene → Scene) → IsByWorld f → (a b : Scene) → a.world ≡ b.world → (f a).world ≡ (f b).world
same-world f by a b e = by a ∙ ap (λ w. (f (take_up w)).world) e ∙ sym (by b)

then-by_world : (f g : Scene → Scene) → IsByWorld f → IsByWorld g → IsByWorld (λ s. g (f s))
then-by_world f g first later s = same-world g later (f s) (f (take_up s.world)) (first s)

either-by_world : (b : Bool) (f g : Scene → Scene) (s : Scene) → (f s).world ≡ (f (take_up s.world)).world → (g s).world ≡ (g (take_up s.world)).world
    → (if b then f s else g s).world ≡ (if b then f (take_up s.world) else g (take_up s.world)).world
either-by_world true f g s h k = h
either-by_world false f g s h k = k

-- ---- messages

ended-bare : {A : Type 0} (o : Outcome A) → (scene_of_outcome o).world ≡ (scene_of_outcome (bare_end o)).world
ended-bare (Gives a r) = refl
ended-bare (Faults f r) = refl

ended-alike : {A : Type 0} (x y : Outcome A) → bare_end x ≡ bare_end y → (scene_of_outcome x).world ≡ (scene_of_outcome y).world
ended-alike x y e = ended-bare x ∙ ap (λ o. (scene_of_outcome o).world) e ∙ sym (ended-bare y)

ran-by_world : (program : ProgramTree) (object : ℕ) (x : Name) (args : List PlainValue) → IsByWorld (after_method program object x args)
ran-by_world program object x args s =
    ended-alike (starts program most_open object x args (with_full_budget s)) (starts program most_open object x args (with_full_budget (take_up s.world)))
    (starts-silent program most_open object x args (with_full_budget s))

handled-by_world : (program : ProgramTree) (m : PlainMessage) (rest : List PlainMessage) → IsByWorld (after_message program m rest)
handled-by_world program m rest =
    then-by_world (λ s. scene_with_world s (opened m rest s.world)) (after_method program m.object m.method m.args) (λ s. refl) (ran-by_world program m.object m.method m.args)

-- ---- advance

on_due-by_world : (program : ProgramTree) (t : ℕ) (more : Scene → Scene) (d : Option (PlainMessage × List PlainMessage)) → IsByWorld more → IsByWorld (on_due program t more d)
on_due-by_world program t more None by s = refl
on_due-by_world program t more (Some d) by s = then-by_world (after_message program d.0 d.1) more (handled-by_world program d.0 d.1) by s

advance_within-by_world : (program : ProgramTree) (n t : ℕ) → IsByWorld (advance_within program n t)
advance_within-by_world program zero t s = refl
advance_within-by_world program (suc n) t s =
    on_due-by_world program t (advance_within program n t) (due t s.world.pending) (advance_within-by_world program n t) s

pub advance-by_world : (program : ProgramTree) (t : ℕ) → IsByWorld (advance program t)
advance-by_world program t s = advance_within-by_world program (enough t s.world) t s

-- ---- entries

informed-by_world : (program : ProgramTree) (scope event : Name) (t : Notice) → IsByWorld (after_telling program scope event t)
informed-by_world program scope event t s =
    ended-alike (tell_handlers program (starts program most_open) scope event t (with_full_budget s)) (tell_handlers program (starts program most_open) scope event t (with_full_budget (take_up s.world)))
    (told-silent program (starts program most_open) (starts-silent program most_open) scope event t (with_full_budget s))

told_of-by_world : (program : ProgramTree) (event : Name) (view : ℕ) → IsByWorld (after_telling_of program event view)
told_of-by_world program event view s = informed-by_world program (session_scope s.world) event (view_notice view (int (pos view))) s

came-by_world : (program : ProgramTree) (view : ℕ) → IsByWorld (after_join program view)
came-by_world program view s =
    let w : WorldRecord = s.world in
    let here : WorldRecord = record w { views = with_view view w.views } in
    let few : Bool = nat_lt (length w.views) most_here in
    either-by_world (nat_eq view 0 || is_view_here view w.views) (λ u. u) (λ u. if few then after_telling_of program view_join view (scene_with_world u here) else scene_with_world u (with_fault Full w)) s refl
    (either-by_world few (λ u. after_telling_of program view_join view (scene_with_world u here)) (λ u. scene_with_world u (with_fault Full w)) s
    (told_of-by_world program view_join view (scene_with_world s here)) refl)

went-by_world : (program : ProgramTree) (view : ℕ) → IsByWorld (after_exit program view)
went-by_world program view s =
    let w : WorldRecord = s.world in
    let left : WorldRecord = record w { views = without_view view w.views } in
    either-by_world (is_view_here view w.views) (λ u. after_telling_of program view_exit view (scene_with_world u left)) (λ u. u) s
    (told_of-by_world program view_exit view (scene_with_world s left)) refl

heard-by_world : (program : ProgramTree) (view : ℕ) (read : Option PlainPayload) → IsByWorld (after_event program view read)
heard-by_world program view None s = refl
heard-by_world program view (Some p) s = informed-by_world program p.scope p.event (view_notice view p.value) s

entered-by_world : (program : ProgramTree) (what : What) (view : ℕ) → IsByWorld (after_entry program what view)
entered-by_world program Join view s = came-by_world program view s
entered-by_world program Exit view s = went-by_world program view s
entered-by_world program (Event number payload) view s = heard-by_world program view (whole_payload payload) s

-- what an entry does once the world has advanced to its time
abbrev pub arrived : ProgramTree → Entry → Scene → Scene
arrived program e a = after_entry program e.what e.view (scene_with_world a (with_next_turn a.world))

pub arrived-by_world : (program : ProgramTree) (e : Entry) → IsByWorld (arrived program e)
arrived-by_world program e = then-by_world (λ a. scene_with_world a (with_next_turn a.world)) (after_entry program e.what e.view) (λ a. refl) (entered-by_world program e.what e.view)

pub external-by_world : (program : ProgramTree) (e : Entry) → IsByWorld (external program e)
external-by_world program e = then-by_world (advance program e.time) (arrived program e) (advance-by_world program e.time) (arrived-by_world program e)

pub replayed-by_world : (program : ProgramTree) (t : ℕ) (es : List Entry) → IsByWorld (replay_from program t es)
replayed-by_world program t [] s = advance-by_world program t s
replayed-by_world program t (e ∷ es) s =
    then-by_world (λ u. if nat_le e.time t then external program e u else u) (replay_from program t es)
    (λ u. either-by_world (nat_le e.time t) (external program e) (λ v. v) u (external-by_world program e u) refl) (replayed-by_world program t es) s
