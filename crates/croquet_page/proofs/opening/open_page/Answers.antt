use Rattle.std.proofs.Common.{arith, rules, ◌≡◌, ◌≤◌, ◌<◌, ◌∙◌, ℕ, List, length, [], sym, subst}
use Rattle.std.specs.Prelude.{Err, encode_utf8_all}
use Rattle.std.specs.Arc.{arc_value}
use Rattle.model_solved.specs.Founding.{checked_tree}
use Rattle.croquet_page.proofs.Openings.{first_founded, not_zero, opens_not}
use Rattle.croquet_page.proofs.opening.open_page.Goals as goal

pub returns-in_err-title : goal.returns-in_err-title
returns-in_err-title c =
    let is : c.from_residual.result ≡ Err c.in_err-title.field-0.0 = search rules in
    opens_not c.args.program.now c.args.name.now c.args.view c.from_residual.result c.in_err-title.field-0.0 is (c.in_err-title.ensures c.args.program.now c.args.view)

pub returns-in_err-shared : goal.returns-in_err-shared
returns-in_err-shared c =
    let is : c.from_residual-in_err-shared.result ≡ Err c.in_err-shared.field-0.0 = search rules in
    opens_not c.args.program.now c.args.name.now c.args.view c.from_residual-in_err-shared.result c.in_err-shared.field-0.0 is (c.in_err-shared.ensures.err c.args.name.now c.args.view)

pub id_of-id-requires : goal.id_of-id-requires
id_of-id-requires c =
    let reads = c.in_ok-title.ensures [] 0 in
    let same : encode_utf8_all c.in_ok-title.title ≡ c.args.name.now = reads.1 in
    let short : length c.args.name.now ≤ 255 = reads.0.1 in
    subst (λ (bytes : List ℕ). length bytes < 4294967296) (sym same) (omega (arith, short))

pub returns : goal.returns
returns c = record {
  tree = checked_tree (arc_value c.in_ok-shared.shared);
  reads = c.in_ok-shared.ensures.ok.reads;
  named = (c.in_ok-title.ensures c.args.program.now c.args.view).0;
  numbered = not_zero c.args.view c.if-view-eq0.false;
  first = λ address.
      c.in_ok-living.ensures address
      ∙ first_founded c.args.program.now c.args.name.now c.in_ok-title.title c.id_of-id.result.0 c.args.view (arc_value c.in_ok-shared.shared) address
      c.in_ok-shared.ensures.ok.without ((c.in_ok-title.ensures c.args.program.now c.args.view).2) c.id_of-id.ensures;
  silent = c.nothing.ensures;
}
