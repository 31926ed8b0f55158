-- What is made of a tree without faults stands for it.
use Rattle.std.proofs.Common.{◌≡◌, List, [], ◌∷◌, ◌++◌, map, None, refl}
use Rattle.model_tree.specs.Tree.{Name, Expression, nil, bool, int, text, this, local, field, list, unary, binary, builtin, call, future, create, Expressions, no_expressions, expression, Statement, declare, assign, set_field, when, while, give, do_, Statements, no_statements, statement, Otherwise, no_else, else_block, MethodTree, ProgramTree}
use Rattle.model_tree.specs.Bounds.{how_many}
use Rattle.model_solved.specs.declared.fault.CheckFault.TheVariants.{NoName, NoClass, NoField}
use Rattle.model_solved.specs.Scopes.{scope_behind}
use Rattle.model_solved.specs.Faults.{first_of, faults_of_name, faults_of_names, faults_of_field, faults_of_local, faults_of_creation, faults_of_builtin, faults_of_expression, faults_of_expressions, faults_of_statement, faults_of_statements, faults_of_else, faults_of_method, faults_of_methods, faults_of_class, faults_of_classes}
use Rattle.model_check.specs.Solving.{solve_expression, solve_expressions, solve_statement, solve_statements, solve_else, solve_method, solve_methods}
use Rattle.model_solved.specs.Resolution.{Resolves, ResolvesAll, ResolvesStatement, ResolvesBlock, ResolvesElse, ResolvesMethod, ResolvesMethods, ResolvesClasses}
use Rattle.model_solved.proofs.NoFaults.{none-left, none-right}
use Rattle.model_check.proofs.Places.{placed, builtin_placed}

mutual
  solved-expression : (classes fields scope : List Name) (e : Expression) → first_of (faults_of_expression classes fields scope e) ≡ None → Resolves classes fields scope e (solve_expression classes fields scope e)
  solved-expression classes fields scope nil h = tt
  solved-expression classes fields scope (bool b) h = refl
  solved-expression classes fields scope (int n) h = refl
  solved-expression classes fields scope (text s) h = refl
  solved-expression classes fields scope this h = tt
  solved-expression classes fields scope (local x) h = placed scope x (NoName x) h
  solved-expression classes fields scope (field x) h = placed fields x (NoField x) h
  solved-expression classes fields scope (list items) h = solved-expressions classes fields scope items h
  solved-expression classes fields scope (unary op e) h = (refl, solved-expression classes fields scope e h)
  solved-expression classes fields scope (binary op a b) h =
      let left = faults_of_expression classes fields scope a in
      let right = faults_of_expression classes fields scope b in
      (refl, solved-expression classes fields scope a (none-left left right h), solved-expression classes fields scope b (none-right left right h))
  solved-expression classes fields scope (builtin x args) h =
      let name = faults_of_builtin x (how_many args) in
      let rest = faults_of_expressions classes fields scope args in
      (builtin_placed x (how_many args) (none-left name rest h), solved-expressions classes fields scope args (none-right name rest h))
  solved-expression classes fields scope (call object x args) h =
      let first = faults_of_expression classes fields scope object in
      let rest = faults_of_expressions classes fields scope args in
      (solved-expression classes fields scope object (none-left first rest h), refl, solved-expressions classes fields scope args (none-right first rest h))
  solved-expression classes fields scope (future object delay x args) h =
      let first = faults_of_expression classes fields scope object in
      let second = faults_of_expression classes fields scope delay in
      let third = faults_of_expressions classes fields scope args in
      let front = none-left (first ++ second) third h in (
        solved-expression classes fields scope object (none-left first second front),
        solved-expression classes fields scope delay (none-right first second front),
        refl,
        solved-expressions classes fields scope args (none-right (first ++ second) third h),
      )
  solved-expression classes fields scope (create x options) h =
      let name = faults_of_creation classes x in
      let rest = faults_of_expression classes fields scope options in
      (placed classes x (NoClass x) (none-left name rest h), solved-expression classes fields scope options (none-right name rest h))

  solved-expressions : (classes fields scope : List Name) (es : Expressions) → first_of (faults_of_expressions classes fields scope es) ≡ None → ResolvesAll classes fields scope es (solve_expressions classes fields scope es)
  solved-expressions classes fields scope no_expressions h = tt
  solved-expressions classes fields scope (expression e es) h =
      let first = faults_of_expression classes fields scope e in
      let rest = faults_of_expressions classes fields scope es in
      (solved-expression classes fields scope e (none-left first rest h), solved-expressions classes fields scope es (none-right first rest h))

mutual
  solved-statement : (classes fields scope : List Name) (s : Statement) → first_of (faults_of_statement classes fields scope s) ≡ None → ResolvesStatement classes fields scope s (solve_statement classes fields scope s)
  solved-statement classes fields scope (declare x e) h = (refl, solved-expression classes fields scope e (none-right (faults_of_name scope x) (faults_of_expression classes fields scope e) h))
  solved-statement classes fields scope (assign x e) h =
      let name = faults_of_local scope x in
      let value = faults_of_expression classes fields scope e in
      (placed scope x (NoName x) (none-left name value h), solved-expression classes fields scope e (none-right name value h))
  solved-statement classes fields scope (set_field x e) h =
      let name = faults_of_field fields x in
      let value = faults_of_expression classes fields scope e in
      (placed fields x (NoField x) (none-left name value h), solved-expression classes fields scope e (none-right name value h))
  solved-statement classes fields scope (when test block other) h =
      let first = faults_of_expression classes fields scope test in
      let second = faults_of_statements classes fields scope block in
      let third = faults_of_else classes fields scope other in
      let front = none-left (first ++ second) third h in (
        solved-expression classes fields scope test (none-left first second front),
        solved-block classes fields scope block (none-right first second front),
        solved-else classes fields scope other (none-right (first ++ second) third h),
      )
  solved-statement classes fields scope (while test block) h =
      let first = faults_of_expression classes fields scope test in
      let second = faults_of_statements classes fields scope block in
      (solved-expression classes fields scope test (none-left first second h), solved-block classes fields scope block (none-right first second h))
  solved-statement classes fields scope (give e) h = solved-expression classes fields scope e h
  solved-statement classes fields scope (do_ e) h = solved-expression classes fields scope e h

  solved-block : (classes fields scope : List Name) (ss : Statements) → first_of (faults_of_statements classes fields scope ss) ≡ None → ResolvesBlock classes fields scope ss (solve_statements classes fields scope ss)
  solved-block classes fields scope no_statements h = tt
  solved-block classes fields scope (statement s ss) h =
      let first = faults_of_statement classes fields scope s in
      let rest = faults_of_statements classes fields (scope_behind scope s) ss in
      (solved-statement classes fields scope s (none-left first rest h), solved-block classes fields (scope_behind scope s) ss (none-right first rest h))

  solved-else : (classes fields scope : List Name) (other : Otherwise) → first_of (faults_of_else classes fields scope other) ≡ None → ResolvesElse classes fields scope other (solve_else classes fields scope other)
  solved-else classes fields scope no_else h = tt
  solved-else classes fields scope (else_block block) h = solved-block classes fields scope block h

solved-method : (classes fields : List Name) (m : MethodTree) → first_of (faults_of_method classes fields m) ≡ None → ResolvesMethod classes fields m (solve_method classes fields m)
solved-method classes fields m h = (refl, refl, solved-block classes fields m.params m.body (none-right (faults_of_names [] m.params) (faults_of_statements classes fields m.params m.body) h))

solved-methods : (classes fields seen : List Name) (ms : List MethodTree) → first_of (faults_of_methods classes fields seen ms) ≡ None → ResolvesMethods classes fields ms (map (solve_method classes fields) ms)
solved-methods classes fields seen [] h = tt
solved-methods classes fields seen (m ∷ ms) h =
    let first = faults_of_name seen m.name in
    let second = faults_of_method classes fields m in
    let third = faults_of_methods classes fields (seen ++ m.name ∷ []) ms in (
      solved-method classes fields m (none-right first second (none-left (first ++ second) third h)),
      solved-methods classes fields (seen ++ m.name ∷ []) ms (none-right (first ++ second) third h),
    )

pub solved-classes : (classes seen : List Name) (cs : ProgramTree) → first_of (faults_of_classes classes seen cs) ≡ None → ResolvesClasses classes cs (map (solve_methods classes) cs)
solved-classes classes seen [] h = tt
solved-classes classes seen (c ∷ cs) h =
    let first = faults_of_name seen c.name in
    let second = faults_of_class classes c in
    let third = faults_of_classes classes (seen ++ c.name ∷ []) cs in
    let own = none-right first second (none-left (first ++ second) third h) in (
      solved-methods classes c.fields [] c.methods (none-right (faults_of_names [] c.fields) (faults_of_methods classes c.fields [] c.methods) own),
      solved-classes classes (seen ++ c.name ∷ []) cs (none-right (first ++ second) third h),
    )
