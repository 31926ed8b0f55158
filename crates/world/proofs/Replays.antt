-- The replay of a log to a time is a valid world of its session at that time, and follows the log.
use Rattle.std.proofs.Common.{◌≡◌, ℕ, zero, suc, ◌<◌, ◌≤◌, Bool, true, false, if◌then◌else◌, ◌||◌, nat_eq, nat_le, nat_lt, List, [], ◌∷◌, length, Option, Some, None, refl, sym, ap, subst, ◌∙◌, arith}
use Rattle.std.specs.Prelude.{pos, is_some}
use Rattle.std.proofs.lemmas.Bool.{leb-true, ltb-true}
use Rattle.tea_base.specs.Legal.{IsLegal, TimesRiseAfter}
use Rattle.tea_base.specs.declared.entry.Entry.{Entry}
use Rattle.tea_base.specs.declared.entry.What.{What}
use Rattle.tea_base.specs.declared.entry.What.TheVariants.{Join, Exit, Event}
use Rattle.tea_base.proofs.LogLaws.{TimesRise-legal}
use Rattle.model_value.specs.Plain.{PlainValue, int}
use Rattle.world_plain.specs.Messages.{PlainMessage}
use Rattle.model_value.specs.Payload.{PlainPayload, whole_payload}
use Rattle.world_plain.specs.Valid.{Valid}
use Rattle.tea_base.specs.Limits.{time_limit, most_here}
use Rattle.world_plain.specs.World.{WorldRecord}
use Rattle.model_value.proofs.PayloadCodec.{payload_of-in_bounds}
use Rattle.model_solved.specs.Methods.{method_named}
use Rattle.model_tree.specs.Tree.{Name, ClassTree, ProgramTree}
use Rattle.world_state.specs.declared.fault.Fault.TheVariants.{Full}
use Rattle.model_eval.proofs.ValueBounds.{int-in_bounds}
use Rattle.model_eval.specs.Publishing.{view_notice}
use Rattle.world.specs.Worlds.{Scene, Founding, init_arguments, scene_with_world, with_fault, field_counts, with_next_turn, after_method, init, empty_world, with_root, root_from, first_with, first_scene, at_later_time, due, after_message, on_due, advance_within, advance, enough, is_view_here, with_view, without_view, after_telling_of, session_scope, view_join, view_exit, after_join, after_exit, after_event, after_entry, external, replay_from, replay, take_up, entries_behind, replay_on}
use Rattle.world.proofs.Running.{Fits, ran-keeps, informed-keeps}
use Rattle.world.proofs.Advancing.{advance-valid, advance-arrives, advance-twice}
use Rattle.world.proofs.Entries.{external-valid}
use Rattle.world.proofs.ByWorld.{advance-by_world}
use Rattle.world.proofs.Following.{all-behind, rise-from}

-- ---- the session and the time of a world

-- both stay
record Stays (v w : WorldRecord) : Type 0 where
  id : w.id ≡ v.id
  time : w.time ≡ v.time

stays-on : (u v w : WorldRecord) → Stays u v → Stays v w → Stays u w
stays-on u v w first_scene second = record { id = second.id ∙ first_scene.id; time = second.time ∙ first_scene.time }

here : (w : WorldRecord) → Stays w w
here w = record { id = refl; time = refl }

either : (b : Bool) (v : WorldRecord) (x y : Scene) → Stays v x.world → Stays v y.world → Stays v (if b then x else y).world
either true v x y first_scene second = first_scene
either false v x y first_scene second = second

module _ (program : ProgramTree) (fits : Fits (field_counts program) program) where
  ran-stays : (object : ℕ) (x : Name) (args : List PlainValue) (s : Scene) → Stays s.world (after_method program object x args s).world
  ran-stays object x args s = let k = ran-keeps (field_counts program) program object x args s fits in record { id = k.id; time = k.time }

  told_of-stays : (event : Name) (view : ℕ) (s : Scene) → Stays s.world (after_telling_of program event view s).world
  told_of-stays event view s = let k = informed-keeps program (session_scope s.world) event (view_notice view (int (pos view))) s fits (int-in_bounds (pos view)) in record { id = k.id; time = k.time }

  came-stays : (view : ℕ) (s : Scene) → Stays s.world (after_join program view s).world
  came-stays view s =
      let w : WorldRecord = s.world in
      let with : Scene = scene_with_world s (record w { views = with_view view w.views }) in
      let full : Scene = scene_with_world s (with_fault Full w) in
      either (nat_eq view 0 || is_view_here view w.views) w s (if nat_lt (length w.views) most_here then after_telling_of program view_join view with else full) (here w)
      (either (nat_lt (length w.views) most_here) w (after_telling_of program view_join view with) full
      (stays-on w with.world (after_telling_of program view_join view with).world (record { id = refl; time = refl }) (told_of-stays view_join view with)) (record { id = refl; time = refl }))

  went-stays : (view : ℕ) (s : Scene) → Stays s.world (after_exit program view s).world
  went-stays view s =
      let w : WorldRecord = s.world in
      let left : Scene = scene_with_world s (record w { views = without_view view w.views }) in
      either (is_view_here view w.views) w (after_telling_of program view_exit view left) s
      (stays-on w left.world (after_telling_of program view_exit view left).world (record { id = refl; time = refl }) (told_of-stays view_exit view left)) (here w)

  heard-stays : (view : ℕ) (bytes : List ℕ) (read : Option PlainPayload) (s : Scene) → whole_payload bytes ≡ read → Stays s.world (after_event program view read s).world
  heard-stays view bytes None s e = record { id = refl; time = refl }
  heard-stays view bytes (Some p) s e = let k = informed-keeps program p.scope p.event (view_notice view p.value) s fits (payload_of-in_bounds bytes p e) in record { id = k.id; time = k.time }

  entered-stays : (what : What) (view : ℕ) (s : Scene) → Stays s.world (after_entry program what view s).world
  entered-stays Join view s = came-stays view s
  entered-stays Exit view s = went-stays view s
  entered-stays (Event number payload) view s = heard-stays view payload (whole_payload payload) s refl

  -- ---- advancing

  moved-id : (later : Bool) (t : ℕ) (w : WorldRecord) → (if later then record w { time = t; turns = 0 } else w).id ≡ w.id
  moved-id true t w = refl
  moved-id false t w = refl

  on_due-id : (n t : ℕ) (d : Option (PlainMessage × List PlainMessage)) (s : Scene) → ((u : Scene) → (advance_within program n t u).world.id ≡ u.world.id) → (on_due program t (advance_within program n t) d s).world.id ≡ s.world.id
  on_due-id n t None s more = moved-id (nat_lt s.world.time t) t s.world
  on_due-id n t (Some d) s more =
      let w : WorldRecord = record (s.world) { pending = d.1 } in
      let u : Scene = scene_with_world s (with_next_turn (at_later_time d.0.time w)) in
      more (after_message program d.0 d.1 s) ∙ (ran-stays d.0.object d.0.method d.0.args u).id ∙ moved-id (nat_lt w.time d.0.time) d.0.time w

  within-id : (n t : ℕ) (s : Scene) → (advance_within program n t s).world.id ≡ s.world.id
  within-id zero t s = moved-id (nat_lt s.world.time t) t s.world
  within-id (suc n) t s = on_due-id n t (due t s.world.pending) s (λ u. within-id n t u)

  pub advance-id : (t : ℕ) (s : Scene) → (advance program t s).world.id ≡ s.world.id
  advance-id t s = within-id (enough t s.world) t s

  -- ---- entries and replays

  -- an entry leaves the session, and the world is at its time
  pub external-id : (e : Entry) (s : Scene) → (external program e s).world.id ≡ s.world.id
  external-id e s =
      let a : Scene = advance program e.time s in
      (entered-stays e.what e.view (scene_with_world a (with_next_turn a.world))).id ∙ advance-id e.time s

  pub external-time : (e : Entry) (s : Scene) → Valid (field_counts program) s.world → s.world.time ≤ e.time → (external program e s).world.time ≡ e.time
  external-time e s v le =
      let a : Scene = advance program e.time s in
      (entered-stays e.what e.view (scene_with_world a (with_next_turn a.world))).time ∙ advance-arrives (field_counts program) program e.time fits s v le

  -- a valid world of this session at this time, which has come to it
  pub record Stands (id : List ℕ) (t : ℕ) (s : Scene) : Type 0 where
    pub valid : Valid (field_counts program) s.world
    pub session : s.world.id ≡ id
    pub time : s.world.time ≡ t
    pub rests : advance program t s ≡ s

  step : (b : Bool) (t : ℕ) (id : List ℕ) (e : Entry) (es : List Entry) (s : Scene) → nat_le e.time t ≡ b → t < time_limit → TimesRiseAfter e.time es → Valid (field_counts program) s.world → s.world.id ≡ id → s.world.time ≤ t → s.world.time ≤ e.time
      → ((u : Scene) → Valid (field_counts program) u.world → u.world.id ≡ id → u.world.time ≤ t → u.world.time ≤ e.time → Stands id t (replay_from program t es u)) → Stands id t (replay_from program t es (if b then external program e s else s))
  step true t id e es s is below rise v same le early more =
      let reached : e.time ≤ t = leb-true e.time t is in
      let time = external-time e s v early in
      more (external program e s) (external-valid (field_counts program) program e s fits (omega (arith, reached, below)) v) (external-id e s ∙ same) (omega (arith, time, reached)) (omega (arith, time))
  step false t id e es s is below rise v same le early more = more s v same le early

  stands : (t low : ℕ) (id : List ℕ) (es : List Entry) (s : Scene) → t < time_limit → TimesRiseAfter low es → Valid (field_counts program) s.world → s.world.id ≡ id → s.world.time ≤ t → s.world.time ≤ low → Stands id t (replay_from program t es s)
  stands t low id [] s below rise v same le early = record {
    valid = advance-valid (field_counts program) program t s fits below v;
    session = advance-id t s ∙ same;
    time = advance-arrives (field_counts program) program t fits s v le;
    rests = advance-twice (field_counts program) program t t fits (omega arith) below s v;
  }
  stands t low id (e ∷ es) s below rise v same le early =
      step (nat_le e.time t) t id e es s refl below rise.1 v same le (omega (arith, early, rise.0)) (λ u valid own less before. stands t e.time id es u below rise.1 valid own less before)

  -- ---- a world that is taken up

  rise_behind : (t : ℕ) (e : Entry) (es : List Entry) (b : Bool) → nat_lt t e.time ≡ b → TimesRiseAfter e.time es → TimesRiseAfter t (entries_behind t es) → TimesRiseAfter t (if b then e ∷ entries_behind t es else entries_behind t es)
  rise_behind t e es true is rise rest =
      let later : t < e.time = ltb-true t e.time is in
      (later, subst (TimesRiseAfter e.time) (sym (all-behind t es (rise-from t e.time es (omega (arith, later)) rise))) rise)
  rise_behind t e es false is rise rest = rest

  behind-rises : (t low : ℕ) (es : List Entry) → TimesRiseAfter low es → TimesRiseAfter t (entries_behind t es)
  behind-rises t low [] rise = tt
  behind-rises t low (e ∷ es) rise = rise_behind t e es (nat_lt t e.time) refl rise.1 (behind-rises t e.time es rise.1)

  pub resumed-stands : (w : WorldRecord) (entries : List Entry) (t : ℕ) → Valid (field_counts program) w → IsLegal entries → w.time ≤ t → t < time_limit → Stands w.id t (replay_on program w entries t)
  resumed-stands w entries t v legal le below = stands t w.time w.id (entries_behind w.time entries) (take_up w) below (behind-rises w.time 0 entries (TimesRise-legal entries legal)) v refl le (omega arith)

-- ---- the first world

module _ (founding : Founding) (fits : Fits (field_counts founding.tree) founding.tree) where
  first-stays : (has : Bool) (args : List PlainValue) (w : WorldRecord) (s : Scene) → Stays w s.world → Stays w (if has then after_method founding.tree 1 init args s else s).world
  first-stays true args w s stays = stays-on w s.world (after_method founding.tree 1 init args s).world stays (ran-stays founding.tree fits 1 init args s)
  first-stays false args w s stays = stays

  first_with-stays : (id : List ℕ) (root : Option (ℕ × ClassTree)) → Stays (empty_world founding.persisted id) (first_with founding root (with_next_turn (empty_world founding.persisted id))).world
  first_with-stays id None = record { id = refl; time = refl }
  first_with-stays id (Some r) =
      let w = empty_world founding.persisted id in
      first-stays (is_some (method_named init r.1.methods)) (init_arguments founding.persisted r.1) w (record { world = with_root r.0 r.1 (with_next_turn w); published = [] }) (record { id = refl; time = refl })

  pub first-begins : (id : List ℕ) → (first_scene founding id).world.time ≡ 0
  first-begins id = (first_with-stays id (root_from 0 founding.tree)).time

  pub first-id : (id : List ℕ) → (first_scene founding id).world.id ≡ id
  first-id id = (first_with-stays id (root_from 0 founding.tree)).id

  pub replay-stands : (id : List ℕ) (entries : List Entry) (t : ℕ) → Valid (field_counts founding.tree) (first_scene founding id).world → IsLegal entries → t < time_limit → Stands founding.tree fits id t (replay founding id entries t)
  replay-stands id entries t begins legal below =
      let stays = first_with-stays id (root_from 0 founding.tree) in
      let zero_is = stays.time in
      stands founding.tree fits t 0 id entries (first_scene founding id) below (TimesRise-legal entries legal) begins stays.id (omega (arith, zero_is)) (omega (arith, zero_is))

  pub replay-stays : (id : List ℕ) (entries : List Entry) (t : ℕ) → Valid (field_counts founding.tree) (first_scene founding id).world → IsLegal entries → t < time_limit
      → (advance founding.tree t (take_up (replay founding id entries t).world)).world ≡ (replay founding id entries t).world
  replay-stays id entries t begins legal below =
      sym (advance-by_world founding.tree t (replay founding id entries t)) ∙ ap (λ (x : Scene). x.world) (replay-stands id entries t begins legal below).rests
