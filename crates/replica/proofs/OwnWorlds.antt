-- What is seen of a replica's world, call by call.
use Rattle.std.proofs.Common.{◌≡◌, ◌≤◌, ◌<◌, ℕ, Bool, true, false, nat_le, nat_lt, List, length, Some, Result, Ok, Err, refl, sym, ap, subst, ◌∙◌}
use Rattle.std.specs.Prelude.{⊤}
use Rattle.tea_base.specs.declared.entry.Entry.{Entry}
use Rattle.tea_base.specs.Limits.{most_snapshot, time_limit}
use Rattle.model_solved.specs.Founding.{CheckedView, checked_tree, founding_of, IsFounding}
use Rattle.world_plain.specs.Messages.{PlainOutgoing}
use Rattle.world_plain.specs.Valid.{Valid}
use Rattle.world_plain.specs.World.{WorldRecord}
use Rattle.world_plain.specs.declared.world.PlainWorld.{PlainWorld}
use Rattle.world.specs.declared.fault.WorldFault.{WorldFault}
use Rattle.world.specs.declared.fault.WorldFault.TheVariants as fault
use Rattle.world.specs.View.{WorldView, Copies, IsSoundWorld, MovesOn}
use Rattle.world.specs.Worlds.{Scene, field_counts, first_scene, external, advance, take_up}
use Rattle.world.proofs.ByWorld.{advance-by_world, external-by_world}
use Rattle.world.proofs.Replays.{first-id, first-begins, external-id, advance-id}
use Rattle.world.proofs.Turn.{program-fits}
use Rattle.snapshot_codec.specs.Answer.{IsSnapshot, IsWorld, snapshot_world}
use Rattle.snapshot_codec.specs.Spelling.{world_spelling}
use Rattle.snapshot_codec.proofs.Snapshots.{snapshot-is}
use Rattle.replica.specs.RealWorlds.{worlds}
use Rattle.replica.specs.SessionWorlds.{unless_broken, session_view, IsOfSession, IsSoundSessionWorld, CopiesWorld, GoesOn, Snaps}
use Rattle.replica.proofs.WorldTests.{own-passes}

whole-is : (first w : WorldRecord) (broken : Bool) → broken ≡ false → unless_broken first broken w ≡ w
whole-is first w true e = absurd cc
whole-is first w false e = refl

pub whole-seen : (id : List ℕ) (w : WorldView) → w.broken ≡ false → (session_view id w).world ≡ w.scene.world
whole-seen id w e = whole-is (worlds (founding_of w.program) id).first w.scene.world w.broken e

-- ---- the program and the session

pub first-of-session : (program : CheckedView) (id : List ℕ) (w : WorldView) → program ≡ w.program → w.scene ≡ first_scene (founding_of program) id → IsSoundWorld w → IsOfSession program id w
first-of-session program id w same is sound =
    let founded : IsFounding (founding_of program) = subst (λ p. IsFounding (founding_of p)) (sym same) sound.program in
    record {
      same = same;
      founded = sound.program;
      session = λ _. ap (λ (s : Scene). s.world.id) is ∙ first-id (founding_of program) (program-fits (checked_tree program) founded.program) id;
    }

moves-keeps : (result : Result ⊤ WorldFault) (program : CheckedView) (id : List ℕ) (v w : WorldView) (back : Bool) (meant : Scene) → meant.world.id ≡ v.scene.world.id → MovesOn result v w back meant → IsOfSession program id v → IsOfSession program id w
moves-keeps (Ok done) program id v w back meant stays moves is =
    subst (IsOfSession program id) (sym moves.2) (record { same = is.same; founded = is.founded; session = λ e. stays ∙ is.session e })
moves-keeps (Err fault.Broken) program id v w back meant stays moves is = subst (IsOfSession program id) (sym moves.1) is
moves-keeps (Err (fault.Back time)) program id v w back meant stays moves is = subst (IsOfSession program id) (sym moves.3) is
moves-keeps (Err fault.WantOfMemory) program id v w back meant stays moves is =
    record { same = is.same ∙ sym moves.4; founded = subst (λ p. IsFounding (founding_of p)) (sym moves.4) is.founded; session = λ e. absurd cc }

pub external-keeps : (result : Result ⊤ WorldFault) (program : CheckedView) (id : List ℕ) (v w : WorldView) (entry : Entry) → MovesOn result v w (nat_le entry.time v.scene.world.time) (external (checked_tree v.program) entry v.scene)
    → IsOfSession program id v → IsOfSession program id w
external-keeps result program id v w entry moves is =
    let tree = checked_tree v.program in
    moves-keeps result program id v w (nat_le entry.time v.scene.world.time) (external tree entry v.scene) (external-id tree (program-fits tree is.founded.program) entry v.scene) moves is

pub advance-keeps : (result : Result ⊤ WorldFault) (program : CheckedView) (id : List ℕ) (v w : WorldView) (t : ℕ) → MovesOn result v w (nat_lt t v.scene.world.time) (advance (checked_tree v.program) t v.scene)
    → IsOfSession program id v → IsOfSession program id w
advance-keeps result program id v w t moves is =
    let tree = checked_tree v.program in
    moves-keeps result program id v w (nat_lt t v.scene.world.time) (advance tree t v.scene) (advance-id tree (program-fits tree is.founded.program) t v.scene) moves is

-- ---- moving on

moves-goes : (result : Result ⊤ WorldFault) (id : List ℕ) (v w : WorldView) (back behind : Bool) (meant : Scene) (world : WorldRecord) (out : List PlainOutgoing)
    → (v.broken ≡ false → back ≡ behind) → (v.broken ≡ false → meant.world ≡ world) → (v.broken ≡ false → meant.published ≡ out)
    → MovesOn result v w back meant → GoesOn result (session_view id v) (session_view id w) behind world out
moves-goes (Ok done) id v w back behind meant world out same is tells moves =
    let e : unless_broken (worlds (founding_of v.program) id).first v.broken meant.world ≡ world = whole-is (worlds (founding_of v.program) id).first meant.world v.broken moves.0 ∙ is moves.0 in
    let f = ap (λ (x : WorldRecord). record { program = v.program; id = id; world = x; out = meant.published; broken = v.broken }) e in
    let g = ap (λ (x : List PlainOutgoing). record { program = v.program; id = id; world = world; out = x; broken = v.broken }) (tells moves.0) in (
      moves.0,
      sym (same moves.0) ∙ moves.1,
      ap (session_view id) moves.2 ∙ f ∙ g,
    )
moves-goes (Err fault.Broken) id v w back behind meant world out same is tells moves = (moves.0, ap (session_view id) moves.1)
moves-goes (Err (fault.Back time)) id v w back behind meant world out same is tells moves =
    (moves.0, sym (same moves.0) ∙ moves.1, moves.2 ∙ sym (ap (λ (x : WorldRecord). x.time) (whole-seen id v moves.0)), ap (session_view id) moves.3)
moves-goes (Err fault.WantOfMemory) id v w back behind meant world out same is tells moves =
    (moves.0, sym (same moves.0) ∙ moves.1, rw (moves.2, moves.3, moves.4) refl)

pub external-goes : (result : Result ⊤ WorldFault) (id : List ℕ) (v w : WorldView) (entry : Entry) → MovesOn result v w (nat_le entry.time v.scene.world.time) (external (checked_tree v.program) entry v.scene)
    → GoesOn result (session_view id v) (session_view id w) (nat_le entry.time (session_view id v).world.time) ((worlds (founding_of v.program) id).external (session_view id v).world entry)
    ((worlds (founding_of v.program) id).external_out (session_view id v).world entry v.scene.published)
external-goes result id v w entry moves =
    let tree = checked_tree v.program in
    let m = worlds (founding_of v.program) id in
    moves-goes result id v w (nat_le entry.time v.scene.world.time) (nat_le entry.time (session_view id v).world.time) (external tree entry v.scene) (m.external (session_view id v).world entry) (m.external_out (session_view id v).world entry v.scene.published)
    (λ e. sym (ap (λ (x : WorldRecord). nat_le entry.time x.time) (whole-seen id v e)))
    (λ e. external-by_world tree entry v.scene ∙ sym (ap (λ (x : WorldRecord). (external tree entry (take_up x)).world) (whole-seen id v e)))
    (λ e. sym (ap (λ (x : WorldRecord). m.external_out x entry v.scene.published) (whole-seen id v e)))
    moves

pub advance-goes : (result : Result ⊤ WorldFault) (id : List ℕ) (v w : WorldView) (t : ℕ) → MovesOn result v w (nat_lt t v.scene.world.time) (advance (checked_tree v.program) t v.scene)
    → GoesOn result (session_view id v) (session_view id w) (nat_lt t (session_view id v).world.time) ((worlds (founding_of v.program) id).advance (session_view id v).world t)
    ((worlds (founding_of v.program) id).advance_out (session_view id v).world t v.scene.published)
advance-goes result id v w t moves =
    let tree = checked_tree v.program in
    let m = worlds (founding_of v.program) id in
    moves-goes result id v w (nat_lt t v.scene.world.time) (nat_lt t (session_view id v).world.time) (advance tree t v.scene) (m.advance (session_view id v).world t) (m.advance_out (session_view id v).world t v.scene.published)
    (λ e. sym (ap (λ (x : WorldRecord). nat_lt t x.time) (whole-seen id v e)))
    (λ e. advance-by_world tree t v.scene ∙ sym (ap (λ (x : WorldRecord). (advance tree t (take_up x)).world) (whole-seen id v e)))
    (λ e. sym (ap (λ (x : WorldRecord). m.advance_out x t v.scene.published) (whole-seen id v e)))
    moves

-- ---- what is so of every one

pub sound-seen : (program : CheckedView) (id : List ℕ) (w : WorldView) → IsOfSession program id w → IsSoundWorld w → IsSoundSessionWorld (session_view id w)
sound-seen program id w is sound =
    let founding = founding_of w.program in
    record {
      program = sound.program;
      valid = λ e. subst (λ (x : WorldRecord). (worlds founding id).valid x ≡ true) (sym (whole-seen id w e)) (own-passes founding id w.scene.world (sound.valid e) (is.session e));
      quiet = sound.quiet;
    }

-- it has a time of TeaTime
pub own-timely : (w : WorldView) → IsSoundWorld w → w.broken ≡ false → w.scene.world.time < time_limit
own-timely w sound e = (sound.valid e).clock.time_fits

-- the first world is at time 0
pub broken-time : (program : CheckedView) (id : List ℕ) (w : WorldView) → IsOfSession program id w → w.broken ≡ true → 0 ≡ (session_view id w).world.time
broken-time program id w is e =
    let founding = founding_of w.program in
    rw e (sym (first-begins founding (program-fits founding.tree is.founded.program) id))

-- ---- snapshots

pub copies-seen : (result : Result PlainWorld WorldFault) (id : List ℕ) (w : WorldView) → Copies result w → CopiesWorld result (session_view id w)
copies-seen (Ok plain) id w copies = (copies.0, copies.1 ∙ sym (whole-seen id w copies.0))
copies-seen (Err fault.Broken) id w broken = broken
copies-seen (Err (fault.Back time)) id w never = never
copies-seen (Err fault.WantOfMemory) id w whole = whole

pub snaps-seen : (program : CheckedView) (id bytes : List ℕ) (w : WorldView) (world : WorldRecord) → IsOfSession program id w → w.broken ≡ false → world ≡ w.scene.world → Valid (field_counts (checked_tree w.program)) world → IsWorld world → bytes ≡ world_spelling world
    → length bytes ≤ most_snapshot → Snaps (Ok bytes) (session_view id w)
snaps-seen program id bytes w world is whole same valid fits spelled short =
    let counts = field_counts (checked_tree w.program) in
    let seen : world ≡ (session_view id w).world = same ∙ sym (whole-seen id w whole) in
    let snapshot : IsSnapshot counts id bytes world = record { world = fits; valid = valid; session = ap (λ (x : WorldRecord). x.id) same ∙ is.session whole; spelled = spelled } in (
      whole,
      subst (λ (x : WorldRecord). bytes ≡ world_spelling x) seen spelled,
      subst (λ (x : WorldRecord). IsSnapshot counts id bytes x) seen snapshot,
      subst (λ (x : WorldRecord). snapshot_world counts id bytes ≡ Some x) seen (snapshot-is counts id bytes world snapshot),
      short,
    )
