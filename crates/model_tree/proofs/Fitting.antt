-- A program that passes no bound keeps each of them.
use Rattle.std.proofs.Common.{◌≡◌, ℕ, ◌≤◌, nat_le, Bool, true, false, if◌then◌else◌, List, [], ◌∷◌, length, Option, Some, None, refl, arith}
use Rattle.std.proofs.lemmas.Bool.Decides.{nat_tests}
use Rattle.model_tree.specs.declared.bound.Bound.{Bound}
use Rattle.model_tree.specs.declared.bound.Bound.TheVariants as bound
use Rattle.model_tree.specs.Tree.{Expression, nil, bool, int, text, this, local, field, list, unary, binary, builtin, call, future, create, Expressions, no_expressions, expression, Statement, declare, assign, set_field, when, while, give, do_, Statements, no_statements, statement, Otherwise, no_else, else_block, MethodTree, ClassTree, ProgramTree}
use Rattle.model_tree.specs.Bounds.{most_members, most_arguments, how_many, FewArguments, AllFewArguments, HasFewArguments, AllHaveFewArguments, ElseHasFewArguments, MethodsFit, ClassesFit, ProgramFits, above, first_found, many_arguments, all_many_arguments, many_in_statement, many_in_block, many_in_else, many_in_methods, many_parameters, many_fields, many_methods, or_else, first_excess}

-- ---- counts

low_by : (most n : ℕ) (b : Bool) → nat_le n most ≡ b → ◌≡◌ {A = Option ℕ} (if b then None else Some n) None → n ≤ most
low_by most n true is h = grind (arith, nat_tests)
low_by most n false is h = cc

low : (most n : ℕ) → above most n ≡ None → n ≤ most
low most n h = low_by most n (nat_le n most) refl h

neither : (one other : Option ℕ) → first_found one other ≡ None → (one ≡ None) × (other ≡ None)
neither None other h = (refl, h)
neither (Some n) other h = cc

neither_bound : (what : Bound) (count : Option ℕ) (behind : Option (Bound × ℕ)) → or_else what count behind ≡ None → (count ≡ None) × (behind ≡ None)
neither_bound what None behind h = (refl, h)
neither_bound what (Some n) behind h = cc

-- ---- arguments

mutual
  few_arguments : (e : Expression) → many_arguments e ≡ None → FewArguments e
  few_arguments nil h = tt
  few_arguments (bool b) h = tt
  few_arguments (int n) h = tt
  few_arguments (text s) h = tt
  few_arguments this h = tt
  few_arguments (local x) h = tt
  few_arguments (field x) h = tt
  few_arguments (list items) h = all_few items h
  few_arguments (unary o e) h = few_arguments e h
  few_arguments (binary o a b) h =
      let each = neither (many_arguments a) (many_arguments b) h in
      (few_arguments a each.0, few_arguments b each.1)
  few_arguments (builtin x args) h = all_few args h
  few_arguments (call object x args) h =
      let each = neither (many_arguments object) (first_found (above most_arguments (how_many args)) (all_many_arguments args)) h in
      let own = neither (above most_arguments (how_many args)) (all_many_arguments args) each.1 in
      (few_arguments object each.0, (low most_arguments (how_many args) own.0, all_few args own.1))
  few_arguments (future object delay x args) h =
      let more = first_found (above most_arguments (how_many args)) (all_many_arguments args) in
      let each = neither (many_arguments object) (first_found (many_arguments delay) more) h in
      let behind = neither (many_arguments delay) more each.1 in
      let own = neither (above most_arguments (how_many args)) (all_many_arguments args) behind.1 in
      (few_arguments object each.0, few_arguments delay behind.0, (low most_arguments (how_many args) own.0, all_few args own.1))
  few_arguments (create x options) h = few_arguments options h

  all_few : (es : Expressions) → all_many_arguments es ≡ None → AllFewArguments es
  all_few no_expressions h = tt
  all_few (expression e es) h =
      let each = neither (many_arguments e) (all_many_arguments es) h in
      (few_arguments e each.0, all_few es each.1)

mutual
  statement_few : (t : Statement) → many_in_statement t ≡ None → HasFewArguments t
  statement_few (declare x e) h = few_arguments e h
  statement_few (assign x e) h = few_arguments e h
  statement_few (set_field x e) h = few_arguments e h
  statement_few (when test block other) h =
      let each = neither (many_arguments test) (first_found (many_in_block block) (many_in_else other)) h in
      let behind = neither (many_in_block block) (many_in_else other) each.1 in
      (few_arguments test each.0, statements_few block behind.0, else_few other behind.1)
  statement_few (while test block) h =
      let each = neither (many_arguments test) (many_in_block block) h in
      (few_arguments test each.0, statements_few block each.1)
  statement_few (give e) h = few_arguments e h
  statement_few (do_ e) h = few_arguments e h

  statements_few : (ts : Statements) → many_in_block ts ≡ None → AllHaveFewArguments ts
  statements_few no_statements h = tt
  statements_few (statement t ts) h =
      let each = neither (many_in_statement t) (many_in_block ts) h in
      (statement_few t each.0, statements_few ts each.1)

  else_few : (other : Otherwise) → many_in_else other ≡ None → ElseHasFewArguments other
  else_few no_else h = tt
  else_few (else_block block) h = statements_few block h

-- ---- classes

methods_fit : (ms : List MethodTree) → many_in_methods ms ≡ None → MethodsFit ms
methods_fit [] h = tt
methods_fit (m ∷ ms) h =
    let each = neither (first_found (above most_arguments (length m.params)) (many_in_block m.body)) (many_in_methods ms) h in
    let own = neither (above most_arguments (length m.params)) (many_in_block m.body) each.0 in
    ((low most_arguments (length m.params) own.0, statements_few m.body own.1), methods_fit ms each.1)

classes_fit : (cs : List ClassTree) → many_fields cs ≡ None → many_methods cs ≡ None → many_parameters cs ≡ None → ClassesFit cs
classes_fit [] fields methods args = tt
classes_fit (c ∷ cs) fields methods args =
    let f = neither (above most_members (length c.fields)) (many_fields cs) fields in
    let m = neither (above most_members (length c.methods)) (many_methods cs) methods in
    let a = neither (many_in_methods c.methods) (many_parameters cs) args in
    ((low most_members (length c.fields) f.0, low most_members (length c.methods) m.0, methods_fit c.methods a.0), classes_fit cs f.1 m.1 a.1)

pub program-fits : (tree : ProgramTree) → first_excess tree ≡ None → ProgramFits tree
program-fits tree h =
    let arguments = or_else bound.Parameters (many_parameters tree) None in
    let methods = or_else bound.Methods (many_methods tree) arguments in
    let fields = or_else bound.Fields (many_fields tree) methods in
    let a = neither_bound bound.Classes (above most_members (length tree)) fields h in
    let b = neither_bound bound.Fields (many_fields tree) methods a.1 in
    let c = neither_bound bound.Methods (many_methods tree) arguments b.1 in
    let d = neither_bound bound.Parameters (many_parameters tree) None c.1 in
    (low most_members (length tree) a.0, classes_fit tree b.0 c.0 d.0)
