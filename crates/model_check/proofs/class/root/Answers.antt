use Rattle.std.proofs.Common.{◌≡◌, ℕ, Some, refl, subst, sym}
use Rattle.std.specs.Prelude.{slice_get}
use Rattle.std.proofs.lemmas.Option.{slice_get_read}
use Rattle.model_check.proofs.Programs.{root_here}
use Rattle.model_check.proofs.class.root.Goals as goal

pub returns-then-is_root : goal.returns-then-is_root
returns-then-is_root c =
    let cs = c.args.classes.now in
    let here : slice_get cs c.loop-class.class-index ≡ Some c.class-item.result = slice_get_read cs _ c.loop-class.class-index c.class-item.result refl c.loop-class-test.true c.class-item.is in
    let at : slice_get cs c.loop-class.number ≡ Some c.class-item.result = subst (λ (n : ℕ). slice_get cs n ≡ Some c.class-item.result) (sym c.loop-class.invariant.here) here in
    root_here cs c.loop-class.number c.class-item.result at (c.is_root.ensures.0 c.if-is_root.true)
