use Rattle.std.proofs.Common.{◌≡◌, ◌≤◌, ℕ, List, [], ap, sym, subst, ◌∙◌, arith}
use Rattle.world_plain.specs.World.{known_weight, total_weight, most_world_weight}
use Rattle.world_plain.specs.declared.world.Known.{Known}
use Rattle.known_names.specs.Names.{with_known}
use Rattle.world.specs.Worlds.{model_root}
use Rattle.world.proofs.Texts.{root-chars}
use Rattle.world.proofs.FirstWorld.{name-bytes}
use Rattle.world.proofs.opening.root_name.Goals as goal

light : (x : List ℕ) (ks : List Known) → x ≡ model_root → ks ≡ [] → total_weight known_weight (with_known x 1 ks) ≤ most_world_weight
light x ks is none =
    let one : total_weight known_weight (with_known model_root 1 []) ≤ most_world_weight = omega (arith, name-bytes) in
    subst (λ (y : List ℕ). total_weight known_weight (with_known y 1 ks) ≤ most_world_weight) (sym is)
    (subst (λ (l : List Known). total_weight known_weight (with_known model_root 1 l) ≤ most_world_weight) (sym none) one)

pub set-requires : goal.set-requires
set-requires c = light c.in_ok-copy.field-0 c.new-names.result (c.in_ok-copy.ensures.characters ∙ root-chars) c.new-names.ensures

pub returns : goal.returns
returns c =
    c.in_ok-set.ensures.ok ∙ ap (with_known c.in_ok-copy.field-0 1) c.new-names.ensures
    ∙ ap (λ (x : List ℕ). with_known x 1 []) (c.in_ok-copy.ensures.characters ∙ root-chars)
