use Rattle.std.proofs.Common.{rules, ◌≡◌}
use Rattle.std.specs.Prelude.{Err}
use Rattle.model_check.proofs.First.{refused_is}
use Rattle.model_check.proofs.Programs.{solvable-program, few-classes, checked-program, classes_refused, root_refused}
use Rattle.model_check.proofs.checking.check.Goals as goal

pub solve-requires : goal.solve-requires
solve-requires c = record {
  few_classes = rw c.classes.ensures.classes (few-classes c.args.program c.classes.ensures.fits);
  solvable = rw c.classes.ensures.classes (solvable-program _ c.classes.ensures.fits);
}

pub returns-in_err-classes : goal.returns-in_err-classes
returns-in_err-classes c =
    let refused : c.from_residual.result ≡ Err c.in_err-classes.field-0.0 = search rules in
    refused_is c.from_residual.result c.in_err-classes.field-0.0 _ _ refused (classes_refused c.args.program c.in_err-classes.field-0.0 (rw c.classes.ensures.classes at c.in_err-classes.ensures))

pub returns-in_err-root : goal.returns-in_err-root
returns-in_err-root c =
    let refused : c.from_residual-in_err-root.result ≡ Err c.in_err-root.field-0.0 = search rules in
    let found = rw c.classes.ensures.classes at c.in_ok-classes.ensures in
    refused_is c.from_residual-in_err-root.result c.in_err-root.field-0.0 _ _ refused (root_refused c.args.program c.in_err-root.field-0.0 found.0 (rw c.classes-2.ensures.classes at c.in_err-root.ensures))

pub of_parts-requires : goal.of_parts-requires
of_parts-requires c =
    let found = rw c.classes.ensures.classes at c.in_ok-classes.ensures in
    let rooted = rw c.classes-2.ensures.classes at c.in_ok-root.ensures in
    checked-program c.args.program c.in_ok-root.root _ found.0 found.1 rooted.0 rooted.1

pub returns : goal.returns
returns c =
    let found = rw c.classes.ensures.classes at c.in_ok-classes.ensures in
    let rooted = rw c.classes-2.ensures.classes at c.in_ok-root.ensures in
    let whole = checked-program c.args.program c.in_ok-root.root _ found.0 found.1 rooted.0 rooted.1 in
    (whole.faultless, c.of_parts.ensures)
