-- What makes the first object.
use Rattle.std.proofs.Common.{◌≡◌, ℕ, List, [], ◌∷◌, length, replicate, sym, ap, ◌∙◌}
use Rattle.model_value.specs.Plain.{PlainValue, nil}
use Rattle.world_plain.specs.World.{ObjectRecord, WorldRecord}
use Rattle.model_tree.specs.Tree.{ClassTree}
use Rattle.world.specs.Worlds.{model_root, with_root}

abbrev first_object : ℕ → List PlainValue → ObjectRecord
first_object class fields = record { id = 1; class = class; fields = fields }

pub made : (w : WorldRecord) (class fields : ℕ) (root : ClassTree) (values : List PlainValue) → length root.fields ≡ fields → values ≡ replicate fields nil
    → record w { next_object = 2; objects = first_object class values ∷ []; known = record { name = model_root; object = 1 } ∷ [] } ≡ with_root class root w
made w class fields root values e v =
    ap (λ (vs : List PlainValue). record w { next_object = 2; objects = first_object class vs ∷ []; known = record { name = model_root; object = 1 } ∷ [] }) (v ∙ ap (λ (k : ℕ). replicate k nil) (sym e))
