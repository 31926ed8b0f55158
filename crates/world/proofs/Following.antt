-- A world that has come to the replay of a log at its time, taken up there, goes on as the replay of the whole log.
use Rattle.std.proofs.Common.{◌≡◌, ℕ, ◌<◌, ◌≤◌, Bool, true, false, if◌then◌else◌, cond, nat_le, List, [], ◌∷◌, refl, sym, ap, ◌∙◌, arith}
use Rattle.std.proofs.lemmas.Bool.{leb-true, leb-false, le-leb, lt-leb, le-ltb, lt-ltb}
use Rattle.tea_base.specs.Legal.{IsLegal, TimesRiseAfter}
use Rattle.tea_base.proofs.LogLaws.{TimesRise-legal}
use Rattle.tea_base.specs.declared.entry.Entry.{Entry}
use Rattle.world_plain.specs.World.{WorldRecord}
use Rattle.world_plain.specs.Valid.{Valid}
use Rattle.tea_base.specs.Limits.{time_limit}
use Rattle.model_tree.specs.Tree.{ProgramTree}
use Rattle.world.specs.Worlds.{Scene, Founding, advance, first_scene, external, replay_from, replay, take_up, entries_behind, replay_on}
use Rattle.world.proofs.Running.{Fits}
use Rattle.world.proofs.Advancing.{advance-twice}
use Rattle.world.proofs.Entries.{external-valid}
use Rattle.world.proofs.ByWorld.{same-world, advance-by_world, arrived, arrived-by_world, replayed-by_world}

-- ---- entries behind a time

pub rise-from : (low high : ℕ) (es : List Entry) → low ≤ high → TimesRiseAfter high es → TimesRiseAfter low es
rise-from low high [] le rise = tt
rise-from low high (e ∷ es) le rise = (omega (arith, le, rise.0), rise.1)

-- where all lie behind s, none is left out
pub all-behind : (s : ℕ) (es : List Entry) → TimesRiseAfter s es → entries_behind s es ≡ es
all-behind s [] rise = refl
all-behind s (e ∷ es) rise =
    ap (λ b. cond b (e ∷ entries_behind s es) (entries_behind s es)) (lt-ltb s e.time rise.0)
    ∙ ap (λ xs. e ∷ xs) (all-behind s es (rise-from s e.time es (omega (arith, rise.0)) rise.1))

-- and up to s none is handled
none-handled : (program : ProgramTree) (s : ℕ) (es : List Entry) (r : Scene) → TimesRiseAfter s es → replay_from program s es r ≡ advance program s r
none-handled program s [] r rise = refl
none-handled program s (e ∷ es) r rise =
    ap (λ b. replay_from program s es (if b then external program e r else r)) (lt-leb e.time s rise.0)
    ∙ none-handled program s es r (rise-from s e.time es (omega (arith, rise.0)) rise.1)

module _ (counts : List ℕ) (program : ProgramTree) (s t : ℕ) (fits : Fits counts program) (le : s ≤ t) (below : t < time_limit) where
  -- two scenes whose worlds are the same once they have advanced to s
  abbrev Meet : Scene → Scene → Type 0
  Meet a b = (advance program s a).world ≡ (advance program s b).world

  advance-alike : (u : ℕ) (a b : Scene) → s ≤ u → Valid counts a.world → Valid counts b.world → Meet a b → (advance program u a).world ≡ (advance program u b).world
  advance-alike u a b later va vb meet =
      ap (λ (x : Scene). x.world) (sym (advance-twice counts program s u fits later (omega (arith, le, below)) a va))
      ∙ same-world (advance program u) (advance-by_world program u) (advance program s a) (advance program s b) meet
      ∙ ap (λ (x : Scene). x.world) (advance-twice counts program s u fits later (omega (arith, le, below)) b vb)

  external-alike : (e : Entry) (a b : Scene) → s ≤ e.time → Valid counts a.world → Valid counts b.world → Meet a b → (external program e a).world ≡ (external program e b).world
  external-alike e a b later va vb meet =
      same-world (arrived program e) (arrived-by_world program e) (advance program e.time a) (advance program e.time b) (advance-alike e.time a b later va vb meet)

  either_alike : (b : Bool) (es : List Entry) (v w x y : Scene) → (replay_from program t es v).world ≡ (replay_from program t es w).world → (replay_from program t es x).world ≡ (replay_from program t es y).world
      → (replay_from program t es (if b then v else x)).world ≡ (replay_from program t es (if b then w else y)).world
  either_alike true es v w x y h k = h
  either_alike false es v w x y h k = k

  -- where all entries lie behind s
  replayed-alike : (es : List Entry) (a b : Scene) → TimesRiseAfter s es → Valid counts a.world → Valid counts b.world → Meet a b → (replay_from program t es a).world ≡ (replay_from program t es b).world
  replayed-alike [] a b rise va vb meet = advance-alike t a b le va vb meet
  replayed-alike (e ∷ es) a b rise va vb meet =
      let later : s ≤ e.time = omega (arith, rise.0) in
      either_alike (nat_le e.time t) es (external program e a) (external program e b) a b
      (same-world (replay_from program t es) (replayed-by_world program t es) (external program e a) (external program e b) (external-alike e a b later va vb meet))
      (replayed-alike es a b (rise-from s e.time es later rise.1) va vb meet)

  -- an entry up to s is left out on the one side, and handled on the other
  step : (early : Bool) (e : Entry) (es : List Entry) (a r : Scene) → early ≡ nat_le e.time s → TimesRiseAfter e.time es → Valid counts a.world → Valid counts r.world
      → (advance program s a).world ≡ (replay_from program s es (if early then external program e r else r)).world
      → ((u : Scene) → Valid counts u.world → (advance program s a).world ≡ (replay_from program s es u).world → (replay_from program t (entries_behind s es) a).world ≡ (replay_from program t es u).world)
      → (replay_from program t (entries_behind s (e ∷ es)) a).world ≡ (replay_from program t (e ∷ es) r).world
  step true e es a r at rise va vr meet more =
      let here : e.time ≤ s = leb-true e.time s (sym at) in
      ap (λ b. (replay_from program t (cond b (e ∷ entries_behind s es) (entries_behind s es)) a).world) (le-ltb s e.time here)
      ∙ more (external program e r) (external-valid counts program e r fits (omega (arith, here, le, below)) vr) meet
      ∙ ap (λ b. (replay_from program t es (if b then external program e r else r)).world) (sym (le-leb e.time t (omega (arith, here, le))))
  step false e es a r at rise va vr meet more =
      let past : s < e.time = leb-false e.time s (sym at) in
      let all : TimesRiseAfter s (e ∷ es) = (past, rise) in
      ap (λ xs. (replay_from program t xs a).world) (all-behind s (e ∷ es) all)
      ∙ replayed-alike (e ∷ es) a r all va vr (meet ∙ ap (λ (x : Scene). x.world) (none-handled program s es r (rise-from s e.time es (omega (arith, past)) rise)))

  followed : (low : ℕ) (es : List Entry) (a r : Scene) → TimesRiseAfter low es → Valid counts a.world → Valid counts r.world
      → (advance program s a).world ≡ (replay_from program s es r).world → (replay_from program t (entries_behind s es) a).world ≡ (replay_from program t es r).world
  followed low [] a r rise va vr meet = advance-alike t a r le va vr meet
  followed low (e ∷ es) a r rise va vr meet =
      step (nat_le e.time s) e es a r refl rise.1 va vr meet (λ u valid same. followed e.time es a u rise.1 va valid same)

pub follows-on : (counts : List ℕ) (founding : Founding) (w : WorldRecord) (entries : List Entry) (t : ℕ) → Fits counts founding.tree → Valid counts w → Valid counts (first_scene founding w.id).world → IsLegal entries
    → w.time ≤ t → t < time_limit → (advance founding.tree w.time (take_up w)).world ≡ (replay founding w.id entries w.time).world → (replay_on founding.tree w entries t).world ≡ (replay founding w.id entries t).world
follows-on counts founding w entries t fits v begins legal le below follows =
    followed counts founding.tree w.time t fits le below 0 entries (take_up w) (first_scene founding w.id) (TimesRise-legal entries legal) v begins follows
