-- A replay folds the entries until its time, and then advances.
use Rattle.std.proofs.Common.{◌≡◌, ℕ, Bool, true, false, if◌then◌else◌, cond, nat_le, List, [], ◌∷◌, refl, ap, ◌∙◌}
use Rattle.std.specs.List.{fold, filter}
use Rattle.tea_base.specs.declared.entry.Entry.{Entry}
use Rattle.world_plain.specs.World.{WorldRecord}
use Rattle.model_tree.specs.Tree.{ProgramTree}
use Rattle.world.specs.Worlds.{Scene, advance, external, replay_from, take_up}
use Rattle.world.proofs.ByWorld.{advance-by_world, external-by_world}

module _ (program : ProgramTree) (t : ℕ) where
  abbrev until : List Entry → List Entry
  until es = filter (λ (e : Entry). nat_le e.time t) es

  -- ---- with what was published

  abbrev Folds : List Entry → Scene → Scene → Type 0
  Folds es s end = end ≡ advance program t (fold (λ (a : Scene) (e : Entry). external program e a) s (until es))

  folds_if : (early : Bool) (e : Entry) (es : List Entry) (s : Scene) → ((u : Scene) → Folds es u (replay_from program t es u))
      → replay_from program t es (if early then external program e s else s) ≡ advance program t (fold (λ (a : Scene) (f : Entry). external program f a) s (cond early (e ∷ until es) (until es)))
  folds_if true e es s more = more (external program e s)
  folds_if false e es s more = more s

  pub replayed-folds : (es : List Entry) (s : Scene) → Folds es s (replay_from program t es s)
  replayed-folds [] s = refl
  replayed-folds (e ∷ es) s = folds_if (nat_le e.time t) e es s (λ u. replayed-folds es u)

  -- ---- worlds alone

  -- the world behind these entries, taken up anew before each
  abbrev after_all : WorldRecord → List Entry → WorldRecord
  after_all w es = fold (λ (v : WorldRecord) (e : Entry). (external program e (take_up v)).world) w es

  abbrev FoldsWorld : List Entry → Scene → Scene → Type 0
  FoldsWorld es s end = end.world ≡ (advance program t (take_up (after_all s.world (until es)))).world

  folds_world_if : (early : Bool) (e : Entry) (es : List Entry) (s : Scene) → ((u : Scene) → FoldsWorld es u (replay_from program t es u))
      → (replay_from program t es (if early then external program e s else s)).world ≡ (advance program t (take_up (after_all s.world (cond early (e ∷ until es) (until es))))).world
  folds_world_if true e es s more = more (external program e s) ∙ ap (λ w. (advance program t (take_up (after_all w (until es)))).world) (external-by_world program e s)
  folds_world_if false e es s more = more s

  pub replayed-folds_world : (es : List Entry) (s : Scene) → FoldsWorld es s (replay_from program t es s)
  replayed-folds_world [] s = advance-by_world program t s
  replayed-folds_world (e ∷ es) s = folds_world_if (nat_le e.time t) e es s (λ u. replayed-folds_world es u)
