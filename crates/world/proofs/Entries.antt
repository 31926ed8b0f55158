-- What an entry of the log leaves valid.
use Rattle.std.proofs.Common.{◌≡◌, ℕ, suc, ◌<◌, ◌≤◌, Bool, true, false, if◌then◌else◌, ◌||◌, nat_eq, nat_lt, pos, List, [], ◌∷◌, length, Option, Some, None, refl, sym, arith}
use Rattle.std.proofs.lemmas.Bool.{eqb-false, ltb-true, ltb-false}
use Rattle.tea_base.specs.declared.entry.Entry.{Entry}
use Rattle.tea_base.specs.declared.entry.What.{What}
use Rattle.tea_base.specs.declared.entry.What.TheVariants.{Join, Exit, Event}
use Rattle.world_plain.specs.World.{WorldRecord}
use Rattle.world_plain.specs.Valid.{Valid, RiseFrom}
use Rattle.tea_base.specs.Limits.{time_limit, most_here}
use Rattle.model_value.specs.Plain.{int}
use Rattle.model_value.specs.Payload.{PlainPayload, whole_payload}
use Rattle.model_value.proofs.PayloadCodec.{payload_of-in_bounds}
use Rattle.model_tree.specs.Tree.{Name, ProgramTree}
use Rattle.model_eval.specs.Publishing.{view_notice}
use Rattle.model_eval.proofs.ValidLaws.{valid-beside}
use Rattle.model_eval.proofs.ValueBounds.{int-in_bounds}
use Rattle.world_state.specs.declared.fault.Fault.TheVariants.{Full}
use Rattle.world.specs.Worlds.{Scene, scene_with_world, with_next_turn, with_fault, bad_event, advance, session_scope, view_join, view_exit, after_telling_of, is_view_here, with_view, without_view, after_join, after_exit, after_event, after_entry, external}
use Rattle.world.proofs.Running.{Fits, with_count-valid, counted-valid, begun-valid, informed-valid}
use Rattle.world.proofs.Advancing.{advance-valid}

views-valid : (counts : List ℕ) (views : List ℕ) (w : WorldRecord) → RiseFrom 0 views → length views ≤ most_here → Valid counts w → Valid counts (record w { views = views })
views-valid counts views w rise few v = valid-beside counts (record w { views = views }) w v.clock (record { rise = rise; few = few }) v.messages.fit v

-- ---- a view that comes

rise_if : (before : Bool) (low view x : ℕ) (xs more : List ℕ) → before ≡ nat_lt view x → low < view → ¬ (view ≡ x) → (low < x) × RiseFrom x xs → (x < view → RiseFrom x more) → RiseFrom low (if before then view ∷ x ∷ xs else x ∷ more)
rise_if true low view x xs more b above differ h behind = (above, (ltb-true view x (sym b), h.1))
rise_if false low view x xs more b above differ h behind = (h.0, behind (let back : x ≤ view = ltb-false view x (sym b) in omega (arith, back, differ)))

not_first : (same among : Bool) (view x : ℕ) → same ≡ nat_eq view x → (same || among) ≡ false → (¬ (view ≡ x)) × (among ≡ false)
not_first true among view x e h = cc
not_first false among view x e h = (eqb-false view x (sym e), h)

rise-with : (low view : ℕ) (xs : List ℕ) → low < view → is_view_here view xs ≡ false → RiseFrom low xs → RiseFrom low (with_view view xs)
rise-with low view [] above new h = (above, tt)
rise-with low view (x ∷ xs) above new h =
    let n = not_first (nat_eq view x) (is_view_here view xs) view x refl new in
    rise_if (nat_lt view x) low view x xs (with_view view xs) refl above n.0 h (λ less. rise-with x view xs less n.1 h.1)

length_if : (before : Bool) (view x : ℕ) (xs more : List ℕ) → length more ≡ suc (length xs) → length (if before then view ∷ x ∷ xs else x ∷ more) ≡ suc (suc (length xs))
length_if true view x xs more h = refl
length_if false view x xs more h = omega (arith, h)

length-with : (view : ℕ) (xs : List ℕ) → length (with_view view xs) ≡ suc (length xs)
length-with view [] = refl
length-with view (x ∷ xs) = length_if (nat_lt view x) view x xs (with_view view xs) (length-with view xs)

told_of-valid : (counts : List ℕ) (program : ProgramTree) (event : Name) (view : ℕ) (s : Scene) → Fits counts program → Valid counts s.world → Valid counts (after_telling_of program event view s).world
told_of-valid counts program event view s fits v = informed-valid counts program (session_scope s.world) event (view_notice view (int (pos view))) s fits (int-in_bounds (pos view)) v

came_if : (counts : List ℕ) (program : ProgramTree) (none here few : Bool) (view : ℕ) (s : Scene) → Fits counts program → none ≡ nat_eq view 0 → here ≡ is_view_here view s.world.views → few ≡ nat_lt (length s.world.views) most_here → Valid counts s.world
    → Valid counts (if none || here then s else (if few then after_telling_of program view_join view (scene_with_world s (record (s.world) { views = with_view view s.world.views })) else scene_with_world s (with_fault Full s.world))).world
came_if counts program true here few view s fits n h f v = v
came_if counts program false true few view s fits n h f v = v
came_if counts program false false true view s fits n h f v =
    let w = s.world in
    let above : ¬ (view ≡ 0) = eqb-false view 0 (sym n) in
    let room : length w.views < most_here = ltb-true (length w.views) most_here (sym f) in
    told_of-valid counts program view_join view (scene_with_world s (record w { views = with_view view w.views })) fits
    (views-valid counts (with_view view w.views) w (rise-with 0 view w.views (omega (arith, above)) (sym h) v.views.rise) (omega (arith, length-with view w.views, room)) v)
came_if counts program false false false view s fits n h f v = counted-valid counts Full s.world v

pub came-valid : (counts : List ℕ) (program : ProgramTree) (view : ℕ) (s : Scene) → Fits counts program → Valid counts s.world → Valid counts (after_join program view s).world
came-valid counts program view s fits v =
    came_if counts program (nat_eq view 0) (is_view_here view s.world.views) (nat_lt (length s.world.views) most_here) view s fits refl refl refl v

-- ---- a view that goes

rise-lower : (low x : ℕ) (xs : List ℕ) → low < x → RiseFrom x xs → RiseFrom low xs
rise-lower low x [] less h = tt
rise-lower low x (y ∷ ys) less h = (omega (arith, less, h.0), h.1)

without_if : (same : Bool) (low x : ℕ) (xs more : List ℕ) → (low < x) × RiseFrom x xs → RiseFrom x more → RiseFrom low (if same then xs else x ∷ more)
without_if true low x xs more h behind = rise-lower low x xs h.0 h.1
without_if false low x xs more h behind = (h.0, behind)

rise-without : (low view : ℕ) (xs : List ℕ) → RiseFrom low xs → RiseFrom low (without_view view xs)
rise-without low view [] h = tt
rise-without low view (x ∷ xs) h = without_if (nat_eq view x) low x xs (without_view view xs) h (rise-without x view xs h.1)

shorter_if : (same : Bool) (x : ℕ) (xs more : List ℕ) → length more ≤ length xs → length (if same then xs else x ∷ more) ≤ suc (length xs)
shorter_if true x xs more h = omega arith
shorter_if false x xs more h = omega (arith, h)

shorter : (view : ℕ) (xs : List ℕ) → length (without_view view xs) ≤ length xs
shorter view [] = omega arith
shorter view (x ∷ xs) = shorter_if (nat_eq view x) x xs (without_view view xs) (shorter view xs)

went_if : (counts : List ℕ) (program : ProgramTree) (here : Bool) (view : ℕ) (s : Scene) → Fits counts program → Valid counts s.world
    → Valid counts (if here then after_telling_of program view_exit view (scene_with_world s (record (s.world) { views = without_view view s.world.views })) else s).world
went_if counts program true view s fits v =
    let w = s.world in
    told_of-valid counts program view_exit view (scene_with_world s (record w { views = without_view view w.views })) fits
    (views-valid counts (without_view view w.views) w (rise-without 0 view w.views v.views.rise) (omega (arith, shorter view w.views, v.views.few)) v)
went_if counts program false view s fits v = v

pub went-valid : (counts : List ℕ) (program : ProgramTree) (view : ℕ) (s : Scene) → Fits counts program → Valid counts s.world → Valid counts (after_exit program view s).world
went-valid counts program view s fits v = went_if counts program (is_view_here view s.world.views) view s fits v

-- ---- an event

heard_by : (counts : List ℕ) (program : ProgramTree) (view : ℕ) (bytes : List ℕ) (read : Option PlainPayload) (s : Scene) → Fits counts program → whole_payload bytes ≡ read → Valid counts s.world → Valid counts (after_event program view read s).world
heard_by counts program view bytes None s fits e v = with_count-valid counts bad_event s.world v
heard_by counts program view bytes (Some p) s fits e v = informed-valid counts program p.scope p.event (view_notice view p.value) s fits (payload_of-in_bounds bytes p e) v

pub entered-valid : (counts : List ℕ) (program : ProgramTree) (what : What) (view : ℕ) (s : Scene) → Fits counts program → Valid counts s.world → Valid counts (after_entry program what view s).world
entered-valid counts program Join view s fits v = came-valid counts program view s fits v
entered-valid counts program Exit view s fits v = went-valid counts program view s fits v
entered-valid counts program (Event number payload) view s fits v = heard_by counts program view payload (whole_payload payload) s fits refl v

pub external-valid : (counts : List ℕ) (program : ProgramTree) (e : Entry) (s : Scene) → Fits counts program → e.time < time_limit → Valid counts s.world → Valid counts (external program e s).world
external-valid counts program e s fits below v =
    let a : Scene = advance program e.time s in
    entered-valid counts program e.what e.view (scene_with_world a (with_next_turn a.world)) fits (begun-valid counts a.world (advance-valid counts program e.time s fits below v))
