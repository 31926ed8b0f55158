-- A block up to a statement: what stands behind it has the faults, the form and the slots that the whole has.
use Rattle.std.proofs.Common.{◌≡◌, ◌≤◌, ◌<◌, ℕ, ◌+◌, List, [], ◌∷◌, ◌++◌, length, map, take, drop, get_or, None, refl, sym, ap, ◌∙◌, arith, subst}
use Rattle.std.specs.Prelude.{max}
use Rattle.std.proofs.lemmas.List.{drop_more, at_drop_all, map-append}
use Rattle.model_tree.specs.Tree.{Name, Statement, Statements, no_statements, statement, MethodTree}
use Rattle.model_tree.specs.TreeView.{statement_tree, statement_trees}
use Rattle.model_tree.specs.declared.tree.Stmt.{Stmt}
use Rattle.model_solved.specs.declared.fault.CheckFault.{CheckFault}
use Rattle.model_solved.specs.declared.solved.SolvedStmt.{SolvedStmt}
use Rattle.model_solved.specs.SolvedView.{solved_statement, solved_statements}
use Rattle.model_check.specs.Answer.{IsFirstFault}
use Rattle.model_solved.specs.Faults.{first_of, faults_of_names, faults_of_statement, faults_of_statements, faults_of_method}
use Rattle.model_solved.specs.Scopes.{scope_behind, slots_of_statement, slots_of_statements}
use Rattle.model_solved.specs.SolvedTree.{SolvedStatement, SolvedStatements, SolvedMethod, solved_statements_of}
use Rattle.model_check.specs.Solving.{solve_statement, solve_statements, solve_method}
use Rattle.model_check.proofs.First.{first_behind, first_before}
use Rattle.model_check.proofs.Scopes.{scope_grows, scope_kept, slots_hold}
use Rattle.model_check.proofs.Trees.{solved_ahead, solved_ahead-append, solved_ahead-all}

-- of a block in which these names were in scope before, and so many slots were taken
pub record IsUpTo (classes fields before : List Name) (all : Statements) (taken : ℕ) (scope : List Name) (most : ℕ) (done : List SolvedStatement) (rest : Statements) : Type 0 where
  pub faults : first_of (faults_of_statements classes fields scope rest) ≡ first_of (faults_of_statements classes fields before all)
  pub solved : solved_ahead done (solve_statements classes fields scope rest) ≡ solve_statements classes fields before all
  pub slots : max most (slots_of_statements scope rest) ≡ max taken (slots_of_statements before all)
  pub grown : length before ≤ length scope
  pub kept : take (length before) scope ≡ before

goes : (classes fields before : List Name) (all : Statements) (taken : ℕ) (scope : List Name) (most : ℕ) (done : List SolvedStatement) (s : Statement) (rest : Statements) → IsUpTo classes fields before all taken scope most done (statement s rest) → first_of (faults_of_statement classes fields scope s) ≡ None → IsUpTo classes fields before all taken (scope_behind scope s) (max most (slots_of_statement scope s)) (done ++ solve_statement classes fields scope s ∷ []) rest
goes classes fields before all taken scope most done s rest h none =
    let behind = scope_behind scope s in record {
      faults = sym (first_behind (faults_of_statement classes fields scope s) (faults_of_statements classes fields behind rest) none) ∙ h.faults;
      solved = solved_ahead-append done (solve_statement classes fields scope s) (solve_statements classes fields behind rest) ∙ h.solved;
      slots = omega (arith, h.slots);
      grown = omega (arith, h.grown, scope_grows scope s);
      kept = scope_kept (length before) scope s h.grown ∙ h.kept;
    }

pub block_goes : (classes fields before : List Name) (all : Statements) (taken : ℕ) (scope next : List Name) (most next_most : ℕ) (done : List SolvedStatement) (s : Statement) (t : SolvedStatement) (rest : Statements) → IsUpTo classes fields before all taken scope most done (statement s rest) → (first_of (faults_of_statement classes fields scope s) ≡ None) × (t ≡ solve_statement classes fields scope s) → next ≡ scope_behind scope s → next_most ≡ max most (slots_of_statement scope s) → IsUpTo classes fields before all taken next next_most (done ++ t ∷ []) rest
block_goes classes fields before all taken scope next most next_most done s t rest h found is_next is_most =
    let is_t = found.1 in
    rw (is_next, is_most, is_t) (goes classes fields before all taken scope most done s rest h found.0)

pub block_ends : (classes fields before : List Name) (all : Statements) (taken : ℕ) (scope : List Name) (most : ℕ) (done : List SolvedStatement) → IsUpTo classes fields before all taken scope most done no_statements → length scope ≤ most → (first_of (faults_of_statements classes fields before all) ≡ None) × (solved_statements_of done ≡ solve_statements classes fields before all) × (most ≡ max taken (slots_of_statements before all))
block_ends classes fields before all taken scope most done h within = (sym h.faults, sym (solved_ahead-all done) ∙ h.solved, omega (arith, h.slots))

pub block_refused : (classes fields before : List Name) (all : Statements) (taken : ℕ) (scope : List Name) (most : ℕ) (done : List SolvedStatement) (s : Statement) (rest : Statements) (f : CheckFault) → IsUpTo classes fields before all taken scope most done (statement s rest) → IsFirstFault f (faults_of_statement classes fields scope s) → IsFirstFault f (faults_of_statements classes fields before all)
block_refused classes fields before all taken scope most done s rest f h refused =
    λ other. sym h.faults ∙ first_before f (faults_of_statement classes fields scope s) (faults_of_statements classes fields (scope_behind scope s) rest) (refused other)

-- ---- over the statements of a list

next_of : (ss : List Stmt) (i : ℕ) (s : Stmt) → i < length ss → s ≡ get_or ss i s → statement_trees (drop i ss) ≡ statement (statement_tree s) (statement_trees (drop (i + 1) ss))
next_of ss i s here is = ap statement_trees (drop_more ss i s here ∙ ap (λ (t : Stmt). t ∷ drop (i + 1) ss) (sym is))

pub list_goes : (classes fields before : List Name) (ss : List Stmt) (taken : ℕ) (scope next : List Name) (most next_most : ℕ) (held pushed : List SolvedStmt) (i : ℕ) (s : Stmt) (t : SolvedStmt) → i < length ss → s ≡ get_or ss i s → IsUpTo classes fields before (statement_trees ss) taken scope most (map solved_statement held) (statement_trees (drop i ss)) → (first_of (faults_of_statement classes fields scope (statement_tree s)) ≡ None) × (solved_statement t ≡ solve_statement classes fields scope (statement_tree s)) → next ≡ scope_behind scope (statement_tree s) → next_most ≡ max most (slots_of_statement scope (statement_tree s)) → pushed ≡ held ++ t ∷ [] → IsUpTo classes fields before (statement_trees ss) taken next next_most (map solved_statement pushed) (statement_trees (drop (i + 1) ss))
list_goes classes fields before ss taken scope next most next_most held pushed i s t here is h found is_next is_most is_pushed =
    let rest = statement_trees (drop (i + 1) ss) in
    let at = subst (λ (rest : Statements). IsUpTo classes fields before (statement_trees ss) taken scope most (map solved_statement held) rest) (next_of ss i s here is) h in
    let on = block_goes classes fields before (statement_trees ss) taken scope next most next_most (map solved_statement held) (statement_tree s) (solved_statement t) rest at found is_next is_most in
    let made : map solved_statement pushed ≡ map solved_statement held ++ solved_statement t ∷ [] = ap (map solved_statement) is_pushed ∙ map-append solved_statement held (t ∷ []) in
    subst (λ (done : List SolvedStatement). IsUpTo classes fields before (statement_trees ss) taken next next_most done rest) (sym made) on

pub list_ends : (classes fields before : List Name) (ss : List Stmt) (taken : ℕ) (scope : List Name) (most : ℕ) (held : List SolvedStmt) (i : ℕ) → length ss ≤ i → IsUpTo classes fields before (statement_trees ss) taken scope most (map solved_statement held) (statement_trees (drop i ss)) → length scope ≤ most → (first_of (faults_of_statements classes fields before (statement_trees ss)) ≡ None) × (solved_statements held ≡ solve_statements classes fields before (statement_trees ss)) × (most ≡ max taken (slots_of_statements before (statement_trees ss)))
list_ends classes fields before ss taken scope most held i past h within =
    let none : statement_trees (drop i ss) ≡ no_statements = at_drop_all statement_trees ss i past in
    block_ends classes fields before (statement_trees ss) taken scope most (map solved_statement held) (subst (λ (rest : Statements). IsUpTo classes fields before (statement_trees ss) taken scope most (map solved_statement held) rest) none h) within

pub list_refused : (classes fields before : List Name) (ss : List Stmt) (taken : ℕ) (scope : List Name) (most : ℕ) (held : List SolvedStmt) (i : ℕ) (s : Stmt) (f : CheckFault) → i < length ss → s ≡ get_or ss i s → IsUpTo classes fields before (statement_trees ss) taken scope most (map solved_statement held) (statement_trees (drop i ss)) → IsFirstFault f (faults_of_statement classes fields scope (statement_tree s)) → IsFirstFault f (faults_of_statements classes fields before (statement_trees ss))
list_refused classes fields before ss taken scope most held i s f here is h refused =
    let rest = statement_trees (drop (i + 1) ss) in
    let at = subst (λ (rest : Statements). IsUpTo classes fields before (statement_trees ss) taken scope most (map solved_statement held) rest) (next_of ss i s here is) h in
    block_refused classes fields before (statement_trees ss) taken scope most (map solved_statement held) (statement_tree s) rest f at refused

-- ---- a method

made : (p q k l : ℕ) (b d : SolvedStatements) → p ≡ q → k ≡ l → b ≡ d → ◌≡◌ {A = SolvedMethod} (record { params = p; slots = k; body = b }) (record { params = q; slots = l; body = d })
made p q k l b d is_params is_slots is_body = rw (is_params, is_slots, is_body) refl

pub method_solved : (classes fields : List Name) (m : MethodTree) (scope : List Name) (count taken slots : ℕ) (body : SolvedStatements) → first_of (faults_of_names [] m.params) ≡ None → scope ≡ m.params → count ≡ length m.params → taken ≡ length m.params → (first_of (faults_of_statements classes fields scope m.body) ≡ None) × (body ≡ solve_statements classes fields scope m.body) → slots ≡ max taken (slots_of_statements scope m.body) → (first_of (faults_of_method classes fields m) ≡ None) × ◌≡◌ {A = SolvedMethod} (record { params = count; slots = slots; body = body }) (solve_method classes fields m)
method_solved classes fields m scope count taken slots body once is is_count is_taken found is_slots =
    let none = subst (λ (ns : List Name). first_of (faults_of_statements classes fields ns m.body) ≡ None) is found.0 in
    let is_body = subst (λ (ns : List Name). body ≡ solve_statements classes fields ns m.body) is found.1 in
    let most : slots ≡ max taken (slots_of_statements m.params m.body) = subst (λ (ns : List Name). slots ≡ max taken (slots_of_statements ns m.body)) is is_slots in
    let exact : slots ≡ slots_of_statements m.params m.body = omega (arith, most, is_taken, slots_hold m.params m.body) in (
      first_behind (faults_of_names [] m.params) (faults_of_statements classes fields m.params m.body) once ∙ none,
      made count (length m.params) slots (slots_of_statements m.params m.body) body (solve_statements classes fields m.params m.body) is_count exact is_body,
    )
