use Rattle.std.proofs.Common.{rules, ◌≡◌, true, Some, sym, subst}
use Rattle.std.specs.Prelude.{slice_get, bytes_eq}
use Rattle.std.proofs.lemmas.Option.{slice_get_read}
use Rattle.model_tree.specs.declared.tree.Method.{Method}
use Rattle.model_solved.proofs.Resolving.{method_at}
use Rattle.model_solved.proofs.checked.method_place.Goals as goal

pub returns-then-is_name : goal.returns-then-is_name
returns-then-is_name c =
    let ms = c.args.methods.now in
    let here : slice_get ms c.loop-i.i ≡ Some c.index-methods-i.result = search (rules, slice_get_read) in
    let same = subst (λ (m : Method). bytes_eq c.args.name.now m.name ≡ true) (sym c.index-methods-i.is) (sym c.if-is_name.ensures) in
    method_at ms c.args.name.now c.loop-i.i c.index-methods-i.result here same c.loop-i.invariant
