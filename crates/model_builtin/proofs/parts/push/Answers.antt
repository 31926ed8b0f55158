use Rattle.std.proofs.Common.{◌≡◌, ◌++◌, ◌∷◌, [], map, arith}
use Rattle.std.proofs.lemmas.List.{map-append}
use Rattle.model_value.specs.View.{plain}
use Rattle.model_builtin.proofs.Lists.{push_list}
use Rattle.model_builtin.proofs.parts.push.Goals as goal

pub returns-in_ok-push-in-List : goal.returns-in_ok-push-in-List
returns-in_ok-push-in-List c =
    let pushed : map plain c.push.new.items.items ≡ map plain c.in-List.items.items ++ plain c.args.item.now ∷ [] = grind (arith, map-append, c.in_ok-push-in-List.ensures.ok, c.in_ok-copy-in-List.ensures, c.in_ok-new-in-List.ensures, c.deref.ensures.value) in
    push_list c.args.x.now (plain c.args.item.now) c.in-List.items c.push.new.items c.in-List.is pushed
