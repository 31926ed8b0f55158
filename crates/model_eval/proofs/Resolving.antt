-- What a resolved tree means is what each tree with names means that it stands for.
use Rattle.std.proofs.Common.{◌≡◌, ℕ, zero, suc, ◌+◌, ◌-◌, Bool, true, false, cond, if◌then◌else◌, List, [], ◌∷◌, ◌++◌, length, map, take, set, get_or, Option, Some, None, refl, sym, ap, ap₂, subst, ◌∙◌, append_assoc, append-nil, arith}
use Rattle.std.proofs.Math.Path.{fun_ext}
use Rattle.std.specs.Borrow.{Bor}
use Rattle.std.specs.Prelude.{ℤ, bytes_eq, nat_eq, slice_get, option_and_then}
use Rattle.std.specs.List.{position_from}
use Rattle.std.proofs.lemmas.Option.{none-some}
use Rattle.std.proofs.lemmas.List.{map-append, length-map, take-map}
use Rattle.std.proofs.lemmas.Bool.Decides.{nat_tests}
use Rattle.std.proofs.Math.Seq.{take-length, take-append_seam}
use Rattle.model_value.specs.Plain.{PlainValue}
use Rattle.model_value.specs.Plain as plain
use Rattle.world_plain.specs.World.{ObjectRecord}
use Rattle.world_plain.specs.Valid.{object_at}
use Rattle.model_tree.specs.Tree.{Name, Expression, nil, bool, int, text, this, local, field, list, unary, binary, builtin, call, future, create, Expressions, no_expressions, expression, Statement, declare, assign, set_field, when, while, give, do_, Statements, no_statements, statement, Otherwise, no_else, else_block, MethodTree, ClassTree, ProgramTree}
use Rattle.model_tree.specs.declared.tree.UnaryOp.{UnaryOp}
use Rattle.model_tree.specs.declared.tree.BinaryOp.{BinaryOp}
use Rattle.model_solved.specs.declared.builtin.Builtin.{Builtin}
use Rattle.model_solved.specs.declared.solved.Solved.{Solved}
use Rattle.model_solved.specs.Faults.{class_names}
use Rattle.model_solved.specs.Scopes.{scope_behind}
use Rattle.model_solved.specs.SolvedTree.{SolvedExpression, SolvedExpressions, SolvedStatement, SolvedStatements, SolvedOtherwise, SolvedMethod}
use Rattle.model_solved.specs.SolvedTree as solved
use Rattle.model_solved.specs.SolvedView.{solved_method}
use Rattle.model_solved.specs.Methods.{method_named, FindsMethod}
use Rattle.model_solved.specs.Resolution.{IsPlace, Resolves, ResolvesAll, ResolvesStatement, ResolvesBlock, ResolvesElse, ResolvesMethod}
use Rattle.world_state.specs.declared.fault.Fault.{Fault}
use Rattle.world_state.specs.declared.fault.Fault.TheVariants.{Depth}
use Rattle.world_state.specs.Running.{Running, Outcome, Gives, Faults, and_then, spend_step, give_in_bounds, truth, decide, give_pure, Start}
use Rattle.model_eval.specs.Operators.{binary_outcome, apply_unary}
use Rattle.world_state.specs.Objects.{value_named, with_named, get_named, put_fields}
use Rattle.model_eval.specs.Futures.{send}
use Rattle.model_eval.specs.Builtins.{run_if_builtin}
use Rattle.model_eval.specs.Meaning.{Here, Local, local_value, with_local, locals_of, Flow, next, return_with, follow, leave_block, method_result, put_field, call_on, create_if_class, Evaluate, Execute, evaluate_all, in_turn, block, otherwise, loop_turns, expression_row, statement_row, evaluate, execute, perform, starts}
use Rattle.model_eval.specs.Slots as slots
use Rattle.world_state.specs.Objects as objects

-- ---- fields

-- what is read and written at a name, at a place
record IsRead (x : Name) (ys : List Name) (place : ℕ) : Type 0 where
  value : (vs : List PlainValue) → value_named x ys vs ≡ get_or vs place plain.nil
  written : (new : PlainValue) (vs : List PlainValue) → with_named x new ys vs ≡ set vs place new

record IsFound (x : Name) (first place : ℕ) (ys : List Name) : Type 0 where
  before : ℕ
  is : place ≡ first + before
  read : IsRead x ys before

value_first : (x y : Name) (ys : List Name) (vs : List PlainValue) → bytes_eq x y ≡ true → value_named x (y ∷ ys) vs ≡ get_or vs 0 plain.nil
value_first x y ys [] test = refl
value_first x y ys (v ∷ vs) test = rw test refl

value_later : (x y : Name) (ys : List Name) (place : ℕ) (vs : List PlainValue) → bytes_eq x y ≡ false → IsRead x ys place → value_named x (y ∷ ys) vs ≡ get_or vs (suc place) plain.nil
value_later x y ys place [] test read = refl
value_later x y ys place (v ∷ vs) test read = rw test (read.value vs)

written_first : (x y : Name) (ys : List Name) (new : PlainValue) (vs : List PlainValue) → bytes_eq x y ≡ true → with_named x new (y ∷ ys) vs ≡ set vs 0 new
written_first x y ys new [] test = refl
written_first x y ys new (v ∷ vs) test = rw test refl

written_later : (x y : Name) (ys : List Name) (place : ℕ) (new : PlainValue) (vs : List PlainValue) → bytes_eq x y ≡ false → IsRead x ys place → with_named x new (y ∷ ys) vs ≡ set vs (suc place) new
written_later x y ys place new [] test read = refl
written_later x y ys place new (v ∷ vs) test read = rw test (ap (λ (rest : List PlainValue). v ∷ rest) (read.written new vs))

found_here : (x y : Name) (ys : List Name) (first place : ℕ) (same : Bool) → bytes_eq x y ≡ same → (position_from (bytes_eq x) (first + 1) ys ≡ Some place → IsFound x (first + 1) place ys) → cond same (Some first) (position_from (bytes_eq x) (first + 1) ys) ≡ Some place → IsFound x first place (y ∷ ys)
found_here x y ys first place true test later e =
    let here : first ≡ place = cc in
    record { before = 0; is = omega arith; read = record { value = λ vs. value_first x y ys vs test; written = λ new vs. written_first x y ys new vs test } }
found_here x y ys first place false test later e =
    let rest = later e in
    record {
      before = suc rest.before;
      is = omega arith;
      read = record { value = λ vs. value_later x y ys rest.before vs test rest.read; written = λ new vs. written_later x y ys rest.before new vs test rest.read };
    }

found : (x : Name) (ys : List Name) (first place : ℕ) → position_from (bytes_eq x) first ys ≡ Some place → IsFound x first place ys
found x [] first place e = absurd (none-some place e)
found x (y ∷ ys) first place e = found_here x y ys first place (bytes_eq x y) refl (found x ys (first + 1) place) e

slot_read : (names : List Name) (x : Name) (slot : ℕ) → IsPlace names x slot → IsRead x names slot
slot_read names x slot e =
    let f = found x names 0 slot e in
    let same : slot ≡ f.before = omega arith in
    subst (IsRead x names) (sym same) f.read

-- the value of a field is read, and written, as at its name
got-stands : (fields : List Name) (x : Name) (slot : ℕ) (o : Option ObjectRecord) (r : Running) → IsPlace fields x slot → give_pure (objects.slot_value o slot) r ≡ get_named o x fields r
got-stands fields x slot None r h = refl
got-stands fields x slot (Some o) r h = ap (λ (v : PlainValue). Gives v r) (sym ((slot_read fields x slot h).value o.fields))

set-stands : (here : Here) (x : Name) (slot : ℕ) (v : PlainValue) (r : Running) → IsPlace here.class.fields x slot → objects.set_slot here.object slot v r ≡ put_field here x v r
set-stands here x slot v r h =
    let e : (λ (vs : List PlainValue). set vs slot v) ≡ with_named x v here.class.fields = fun_ext (λ vs. sym ((slot_read here.class.fields x slot h).written v vs)) in
    ap (λ (change : List PlainValue → List PlainValue). put_fields (object_at r.world.objects here.object) here.object change r) e

-- ---- branches

if_same : {A : Type 0} (b : Bool) (x y z w : A) → x ≡ y → z ≡ w → (if b then x else z) ≡ (if b then y else w)
if_same true x y z w h k = h
if_same false x y z w h k = k

either_is : {A : Type 0} (b : Bool) (x y z : A) → x ≡ z → y ≡ z → (if b then x else y) ≡ z
either_is true x y z h k = h
either_is false x y z h k = k

map_if : {A B : Type 0} (f : A → B) (b : Bool) (xs ys : List A) → map f (if b then xs else ys) ≡ (if b then map f xs else map f ys)
map_if f true xs ys = refl
map_if f false xs ys = refl

-- ---- locals

abbrev names_of : List Local → List Name
names_of ls = map (λ l. l.name) ls

abbrev values_of : List Local → List PlainValue
values_of ls = map (λ l. l.value) ls

local_value-is : (x : Name) (ls : List Local) → local_value x ls ≡ value_named x (names_of ls) (values_of ls)
local_value-is x [] = refl
local_value-is x (l ∷ ls) = ap (λ (v : PlainValue). if bytes_eq x l.name then l.value else v) (local_value-is x ls)

with_local-values : (x : Name) (v : PlainValue) (ls : List Local) → values_of (with_local x v ls) ≡ with_named x v (names_of ls) (values_of ls)
with_local-values x v [] = refl
with_local-values x v (l ∷ ls) =
    map_if (λ (k : Local). k.value) (bytes_eq x l.name) (record l { value = v } ∷ ls) (l ∷ with_local x v ls)
    ∙ if_same (bytes_eq x l.name) _ _ _ _ refl (ap (λ (vs : List PlainValue). l.value ∷ vs) (with_local-values x v ls))

with_local-names : (x : Name) (v : PlainValue) (ls : List Local) → names_of (with_local x v ls) ≡ names_of ls
with_local-names x v [] = refl
with_local-names x v (l ∷ ls) =
    map_if (λ (k : Local). k.name) (bytes_eq x l.name) (record l { value = v } ∷ ls) (l ∷ with_local x v ls)
    ∙ either_is (bytes_eq x l.name) _ _ _ refl (ap (λ (xs : List Name). l.name ∷ xs) (with_local-names x v ls))

locals-names : (xs : List Name) (vs : List PlainValue) → length vs ≡ length xs → names_of (locals_of xs vs) ≡ xs
locals-names [] [] e = refl
locals-names [] (v ∷ vs) e = refl
locals-names (x ∷ xs) [] e = absurd (omega (arith, e))
locals-names (x ∷ xs) (v ∷ vs) e = let rest : length vs ≡ length xs = omega (arith, e) in ap (λ (ys : List Name). x ∷ ys) (locals-names xs vs rest)

locals-values : (xs : List Name) (vs : List PlainValue) → length vs ≡ length xs → values_of (locals_of xs vs) ≡ vs
locals-values [] [] e = refl
locals-values [] (v ∷ vs) e = absurd (omega (arith, e))
locals-values (x ∷ xs) [] e = refl
locals-values (x ∷ xs) (v ∷ vs) e = let rest : length vs ≡ length xs = omega (arith, e) in ap (λ (ws : List PlainValue). v ∷ ws) (locals-values xs vs rest)

declared : (slot : ℕ) (x : Name) (v : PlainValue) (ls : List Local) → slot ≡ length (names_of ls) → take slot (values_of ls) ++ v ∷ [] ≡ values_of (ls ++ record { name = x; value = v } ∷ [])
declared slot x v ls e =
    let long : slot ≡ length (values_of ls) = e ∙ length-map ls (λ (l : Local). l.name) ∙ sym (length-map ls (λ (l : Local). l.value)) in
    ap (λ (vs : List PlainValue). vs ++ v ∷ []) (ap (λ (n : ℕ). take n (values_of ls)) long ∙ take-length (values_of ls)) ∙ sym (map-append (λ (l : Local). l.value) ls (record { name = x; value = v } ∷ []))

-- the names in scope behind statements, where those of a block are still in scope
abbrev scope_behind_all : List Name → Statements → List Name
scope_behind_all scope no_statements = scope
scope_behind_all scope (statement s ss) = scope_behind_all (scope_behind scope s) ss

record Extends (scope longer : List Name) : Type 0 where
  more : List Name
  is : longer ≡ scope ++ more

extended : (scope longer longest : List Name) → Extends scope longer → Extends longer longest → Extends scope longest
extended scope longer longest a b =
    record { more = a.more ++ b.more; is = b.is ∙ ap (λ (xs : List Name). xs ++ b.more) a.is ∙ append_assoc scope a.more b.more }

extends_itself : (scope : List Name) → Extends scope scope
extends_itself scope = record { more = []; is = sym (append-nil scope) }

scope_behind-extends : (scope : List Name) (s : Statement) → Extends scope (scope_behind scope s)
scope_behind-extends scope (declare x e) = record { more = x ∷ []; is = refl }
scope_behind-extends scope _ = extends_itself scope

behind_all-extends : (scope : List Name) (ss : Statements) → Extends scope (scope_behind_all scope ss)
behind_all-extends scope no_statements = extends_itself scope
behind_all-extends scope (statement s ss) =
    extended scope (scope_behind scope s) (scope_behind_all (scope_behind scope s) ss) (scope_behind-extends scope s) (behind_all-extends (scope_behind scope s) ss)

take-extended : (n : ℕ) (scope longer : List Name) → n ≡ length scope → Extends scope longer → take n longer ≡ scope
take-extended n scope longer e h = ap₂ (λ (k : ℕ) (xs : List Name). take k xs) e h.is ∙ take-append_seam scope h.more

-- ---- what statements do, by slots and by names

-- the same, where these names are in scope behind it
abbrev Matches : List Name → Outcome (Flow (List PlainValue)) → Outcome (Flow (List Local)) → Type 0
Matches scope (Gives (next vs) r) (Gives (next ls) s) = (vs ≡ values_of ls) × (names_of ls ≡ scope) × (r ≡ s)
Matches scope (Gives (return_with v) r) (Gives (return_with w) s) = (v ≡ w) × (r ≡ s)
Matches scope (Faults f r) (Faults g s) = (f ≡ g) × (r ≡ s)
Matches scope _ _ = ⊥

then_same : {A B : Type 0} (o p : Outcome A) (f g : A → Running → Outcome B) → o ≡ p → ((a : A) (r : Running) → f a r ≡ g a r) → and_then o f ≡ and_then p g
then_same o (Gives a r) f g e same = rw e (same a r)
then_same o (Faults t r) f g e same = rw e refl

then_matches : {A : Type 0} (scope : List Name) (o p : Outcome A) (f : A → Running → Outcome (Flow (List PlainValue))) (g : A → Running → Outcome (Flow (List Local))) → o ≡ p → ((a : A) (r : Running) → Matches scope (f a r) (g a r)) → Matches scope (and_then o f) (and_then p g)
then_matches scope o (Gives a r) f g e same = rw e (same a r)
then_matches scope o (Faults t r) f g e same = rw e (refl, refl)

follow_matches : (mid scope : List Name) (o : Outcome (Flow (List PlainValue))) (p : Outcome (Flow (List Local))) (f : List PlainValue → Running → Outcome (Flow (List PlainValue))) (g : List Local → Running → Outcome (Flow (List Local)))
    → Matches mid o p → ((ls : List Local) (r : Running) → names_of ls ≡ mid → Matches scope (f (values_of ls) r) (g ls r)) → Matches scope (and_then o (follow f)) (and_then p (follow g))
follow_matches mid scope (Gives (next vs) r) (Gives (next ls) s) f g h same =
    subst (λ (t : List PlainValue). Matches scope (f t r) (g ls s)) (sym h.0) (subst (λ (t : Running). Matches scope (f (values_of ls) t) (g ls s)) (sym h.2) (same ls s h.1))
follow_matches mid scope (Gives (return_with v) r) (Gives (return_with w) s) f g h same = h
follow_matches mid scope (Faults t r) (Faults u s) f g h same = h
follow_matches mid scope _ _ f g h same = absurd h

behind_matches : (n : ℕ) (mid scope : List Name) (o : Outcome (Flow (List PlainValue))) (p : Outcome (Flow (List Local))) → take n mid ≡ scope → Matches mid o p → Matches scope (and_then o (λ f. Gives (leave_block n f))) (and_then p (λ f. Gives (leave_block n f)))
behind_matches n mid scope (Gives (next vs) r) (Gives (next ls) s) e h =
    (ap (λ (ws : List PlainValue). take n ws) h.0 ∙ take-map (λ (l : Local). l.value) n ls, sym (take-map (λ (l : Local). l.name) n ls) ∙ ap (λ (xs : List Name). take n xs) h.1 ∙ e, h.2)
behind_matches n mid scope (Gives (return_with v) r) (Gives (return_with w) s) e h = h
behind_matches n mid scope (Faults t r) (Faults u s) e h = h
behind_matches n mid scope _ _ e h = absurd h

deciding_matches : (scope : List Name) (o : Option Bool) (f : Bool → Running → Outcome (Flow (List PlainValue))) (g : Bool → Running → Outcome (Flow (List Local))) (r : Running) → ((b : Bool) → Matches scope (f b r) (g b r)) → Matches scope (decide o f r) (decide o g r)
deciding_matches scope (Some b) f g r same = same b
deciding_matches scope None f g r same = (refl, refl)

if_matches : (scope : List Name) (b : Bool) (x z : Outcome (Flow (List PlainValue))) (y w : Outcome (Flow (List Local))) → Matches scope x y → Matches scope z w → Matches scope (if b then x else z) (if b then y else w)
if_matches scope true x z y w h k = h
if_matches scope false x z y w h k = k

ended_same : (scope : List Name) (o : Outcome (Flow (List PlainValue))) (p : Outcome (Flow (List Local))) → Matches scope o p → and_then o (λ f. Gives (method_result f)) ≡ and_then p (λ f. Gives (method_result f))
ended_same scope (Gives (next vs) r) (Gives (next ls) s) h = ap (λ (t : Running). Gives plain.nil t) h.2
ended_same scope (Gives (return_with v) r) (Gives (return_with w) s) h = ap₂ (λ (x : PlainValue) (t : Running). Gives x t) h.0 h.1
ended_same scope (Faults t r) (Faults u s) h = ap₂ (λ (x : Fault) (q : Running). Faults x q) h.0 h.1
ended_same scope _ _ h = absurd h

-- ---- one level

module _ (program : ProgramTree) (here : Here) (ev : Evaluate) (by_slots : slots.Evaluate)
    (same : (e : Expression) (s : SolvedExpression) (ls : List Local) (r : Running) → Resolves (class_names program) here.class.fields (names_of ls) e s → by_slots here.object s (values_of ls) r ≡ ev here e ls r) where
  evaluated-stand : (es : Expressions) (ss : SolvedExpressions) (ls : List Local) (values : List PlainValue) (r : Running) → ResolvesAll (class_names program) here.class.fields (names_of ls) es ss → slots.evaluate_all by_slots here.object ss (values_of ls) values r ≡ evaluate_all ev here es ls values r
  evaluated-stand no_expressions solved.no_expressions ls values r h = refl
  evaluated-stand (expression e es) (solved.expression s ss) ls values r h =
      then_same _ _ _ _ (same e s ls r h.0) (λ v r1. evaluated-stand es ss ls (values ++ v ∷ []) r1 h.1)
  evaluated-stand _ _ ls values r h = absurd h

  expression_row-stands : (start : Start) (e : Expression) (s : SolvedExpression) (ls : List Local) (r : Running) → Resolves (class_names program) here.class.fields (names_of ls) e s → slots.expression_row program by_slots start here.object s (values_of ls) r ≡ expression_row program ev start here e ls r
  expression_row-stands start nil solved.nil ls r h = refl
  expression_row-stands start (bool b) (solved.bool c) ls r h = ap (λ (d : Bool). Gives (plain.bool d) r) (sym h)
  expression_row-stands start (int n) (solved.int k) ls r h = ap (λ (m : ℤ). Gives (plain.int m) r) (sym h)
  expression_row-stands start (text s) (solved.text t) ls r h = ap (λ (u : List ℕ). give_in_bounds (plain.text u) r) (sym h)
  expression_row-stands start this solved.this ls r h = refl
  expression_row-stands start (local x) (solved.local slot) ls r h =
      ap (λ (v : PlainValue). Gives v r) (sym (local_value-is x ls ∙ (slot_read (names_of ls) x slot h).value (values_of ls)))
  expression_row-stands start (field x) (solved.field slot) ls r h = got-stands here.class.fields x slot (object_at r.world.objects here.object) r h
  expression_row-stands start (list items) (solved.list ss) ls r h = then_same _ _ _ _ (evaluated-stand items ss ls [] r h) (λ vs r1. refl)
  expression_row-stands start (unary op e) (solved.unary o s) ls r h = then_same _ _ _ _ (same e s ls r h.1) (λ v r1. ap (λ (k : UnaryOp). give_pure (apply_unary k v) r1) (sym h.0))
  expression_row-stands start (binary op a b) (solved.binary o p q) ls r h =
      then_same _ _ _ _ (same a p ls r h.1) (λ v r1.
      ap (λ (k : BinaryOp). binary_outcome k v (by_slots here.object q (values_of ls)) r1) (sym h.0)
      ∙ ap (λ (right : Running → Outcome PlainValue). binary_outcome op v right r1) (fun_ext (λ r2. same b q ls r2 h.2)))
  expression_row-stands start (builtin x args) (solved.builtin f ss) ls r h =
      then_same _ _ _ _ (evaluated-stand args ss ls [] r h.1) (λ vs r1. sym (ap (λ (k : Option Builtin). run_if_builtin program start k here.object vs r1) h.0))
  expression_row-stands start (call object x args) (solved.call o y ss) ls r h =
      then_same _ _ _ _ (same object o ls r h.0) (λ v r1.
      then_same _ _ _ _ (evaluated-stand args ss ls [] r1 h.2) (λ vs r2. ap (λ (z : Name). call_on start v z vs r2) (sym h.1)))
  expression_row-stands start (future object delay x args) (solved.future o d y ss) ls r h =
      then_same _ _ _ _ (same object o ls r h.0) (λ v r1.
      then_same _ _ _ _ (same delay d ls r1 h.1) (λ w r2.
      then_same _ _ _ _ (evaluated-stand args ss ls [] r2 h.3) (λ vs r3. ap (λ (z : Name). send v w z vs r3) (sym h.2))))
  expression_row-stands start (create x options) (solved.create n s) ls r h =
      then_same _ _ _ _ (same options s ls r h.1) (λ v r1. sym (ap (λ (k : Option ℕ). create_if_class program start k v r1) h.0))
  expression_row-stands start _ _ ls r h = absurd h

  module _ (ex : Execute) (blocks_by_slots : slots.Execute)
      (same_done : (s : Statement) (t : SolvedStatement) (ls : List Local) (r : Running) → ResolvesStatement (class_names program) here.class.fields (names_of ls) s t → Matches (scope_behind (names_of ls) s) (blocks_by_slots here.object t (values_of ls) r) (ex here s ls r)) where
    in_turn-matches : (ss : Statements) (ts : SolvedStatements) (ls : List Local) (r : Running) → ResolvesBlock (class_names program) here.class.fields (names_of ls) ss ts → Matches (scope_behind_all (names_of ls) ss) (slots.in_turn blocks_by_slots here.object ts (values_of ls) r) (in_turn ex here ss ls r)
    in_turn-matches no_statements solved.no_statements ls r h = (refl, refl, refl)
    in_turn-matches (statement s ss) (solved.statement t ts) ls r h =
        follow_matches (scope_behind (names_of ls) s) (scope_behind_all (scope_behind (names_of ls) s) ss) _ _ _ _ (same_done s t ls r h.0) (λ ls1 r1 names.
        subst (λ (scope : List Name). Matches (scope_behind_all scope ss) (slots.in_turn blocks_by_slots here.object ts (values_of ls1) r1) (in_turn ex here ss ls1 r1)) names
        (in_turn-matches ss ts ls1 r1 (subst (λ (scope : List Name). ResolvesBlock (class_names program) here.class.fields scope ss ts) (sym names) h.1)))
    in_turn-matches _ _ ls r h = absurd h

    block-matches : (ss : Statements) (ts : SolvedStatements) (ls : List Local) (r : Running) → ResolvesBlock (class_names program) here.class.fields (names_of ls) ss ts → Matches (names_of ls) (slots.block blocks_by_slots here.object ts (values_of ls) r) (block ex here ss ls r)
    block-matches ss ts ls r h =
        let long : length (values_of ls) ≡ length ls = length-map ls (λ (l : Local). l.value) in
        let named : length ls ≡ length (names_of ls) = sym (length-map ls (λ (l : Local). l.name)) in
        subst (λ (n : ℕ). Matches (names_of ls) (and_then (slots.in_turn blocks_by_slots here.object ts (values_of ls) r) (λ f. Gives (leave_block n f))) (block ex here ss ls r)) (sym long)
        (behind_matches (length ls) (scope_behind_all (names_of ls) ss) (names_of ls) _ _ (take-extended (length ls) (names_of ls) _ named (behind_all-extends (names_of ls) ss)) (in_turn-matches ss ts ls r h))

    otherwise-matches : (other : Otherwise) (o : SolvedOtherwise) (ls : List Local) (r : Running) → ResolvesElse (class_names program) here.class.fields (names_of ls) other o → Matches (names_of ls) (slots.otherwise blocks_by_slots here.object o (values_of ls) r) (otherwise ex here other ls r)
    otherwise-matches no_else solved.no_else ls r h = (refl, refl, refl)
    otherwise-matches (else_block ss) (solved.else_block ts) ls r h = block-matches ss ts ls r h
    otherwise-matches _ _ ls r h = absurd h

    looped-matches : (turns : ℕ) (scope : List Name) (test : Expression) (t : SolvedExpression) (body : Statements) (b : SolvedStatements) (ls : List Local) (r : Running)
        → names_of ls ≡ scope → Resolves (class_names program) here.class.fields scope test t → ResolvesBlock (class_names program) here.class.fields scope body b
        → Matches scope (slots.loop_turns turns by_slots blocks_by_slots here.object t b (values_of ls) r) (loop_turns turns ev ex here test body ls r)
    looped-matches zero scope test t body b ls r names h k = (refl, refl)
    looped-matches (suc turns) scope test t body b ls r names h k =
        then_matches scope _ _ _ _ (same test t ls r (subst (λ (xs : List Name). Resolves (class_names program) here.class.fields xs test t) (sym names) h)) (λ v r1.
        deciding_matches scope (truth v) _ _ r1 (λ yes.
        if_matches scope yes _ _ _ _
        (follow_matches scope scope _ _ _ _
        (subst (λ (xs : List Name). Matches xs (slots.block blocks_by_slots here.object b (values_of ls) r1) (block ex here body ls r1)) names
        (block-matches body b ls r1 (subst (λ (xs : List Name). ResolvesBlock (class_names program) here.class.fields xs body b) (sym names) k)))
        (λ ls1 r2 names1. looped-matches turns scope test t body b ls1 r2 names1 h k))
        (refl, names, refl)))

    statement_row-matches : (s : Statement) (t : SolvedStatement) (ls : List Local) (r : Running) → ResolvesStatement (class_names program) here.class.fields (names_of ls) s t → Matches (scope_behind (names_of ls) s) (slots.statement_row by_slots blocks_by_slots here.object t (values_of ls) r) (statement_row ev ex here s ls r)
    statement_row-matches (declare x e) (solved.declare slot s) ls r h =
        then_matches _ _ _ _ _ (same e s ls r h.1) (λ v r1. (declared slot x v ls h.0, map-append (λ (l : Local). l.name) ls (record { name = x; value = v } ∷ []), refl))
    statement_row-matches (assign x e) (solved.assign slot s) ls r h =
        then_matches _ _ _ _ _ (same e s ls r h.1) (λ v r1. (sym (with_local-values x v ls ∙ (slot_read (names_of ls) x slot h.0).written v (values_of ls)), with_local-names x v ls, refl))
    statement_row-matches (set_field x e) (solved.set_field slot s) ls r h =
        then_matches _ _ _ _ _ (same e s ls r h.1) (λ v r1. then_matches _ _ _ _ _ (set-stands here x slot v r1 h.0) (λ _ r2. (refl, refl, refl)))
    statement_row-matches (when test body other) (solved.when t b o) ls r h =
        then_matches _ _ _ _ _ (same test t ls r h.0) (λ v r1. deciding_matches _ (truth v) _ _ r1 (λ yes. if_matches _ yes _ _ _ _ (block-matches body b ls r1 h.1) (otherwise-matches other o ls r1 h.2)))
    statement_row-matches (while test body) (solved.while t b) ls r h = looped-matches r.fuel (names_of ls) test t body b ls r refl h.0 h.1
    statement_row-matches (give e) (solved.give s) ls r h = then_matches _ _ _ _ _ (same e s ls r h) (λ v r1. (refl, refl))
    statement_row-matches (do_ e) (solved.do_ s) ls r h = then_matches _ _ _ _ _ (same e s ls r h) (λ _ r1. (refl, refl, refl))
    statement_row-matches _ _ ls r h = absurd h

-- ---- all levels

entering_same : {A : Type 0} (r : Running) (f g : Running → Outcome A) → ((r1 : Running) → f r1 ≡ g r1) → spend_step r f ≡ spend_step r g
entering_same r f g same = if_same (nat_eq r.fuel 0) _ _ _ _ refl (same (record r { fuel = r.fuel - 1 }))

entering_matches : (scope : List Name) (r : Running) (f : Running → Outcome (Flow (List PlainValue))) (g : Running → Outcome (Flow (List Local))) → ((r1 : Running) → Matches scope (f r1) (g r1)) → Matches scope (spend_step r f) (spend_step r g)
entering_matches scope r f g same = if_matches scope (nat_eq r.fuel 0) _ _ _ _ (refl, refl) (same (record r { fuel = r.fuel - 1 }))

pub evaluate-stands : (program : ProgramTree) (room : ℕ) (here : Here) (e : Expression) (s : SolvedExpression) (ls : List Local) (r : Running) → Resolves (class_names program) here.class.fields (names_of ls) e s → slots.evaluate program room here.object s (values_of ls) r ≡ evaluate program room here e ls r
evaluate-stands program zero here e s ls r h = refl
evaluate-stands program (suc room) here e s ls r h =
    entering_same r _ _ (λ r1. expression_row-stands program here (evaluate program room) (slots.evaluate program room) (evaluate-stands program room here) (starts program room) e s ls r1 h)

pub execute-matches : (program : ProgramTree) (room : ℕ) (here : Here) (s : Statement) (t : SolvedStatement) (ls : List Local) (r : Running) → ResolvesStatement (class_names program) here.class.fields (names_of ls) s t → Matches (scope_behind (names_of ls) s) (slots.execute program room here.object t (values_of ls) r) (execute program room here s ls r)
execute-matches program zero here s t ls r h = entering_matches (scope_behind (names_of ls) s) r (Faults Depth) (Faults Depth) (λ r1. (refl, refl))
execute-matches program (suc room) here s t ls r h =
    entering_matches _ r _ _ (λ r1. statement_row-matches program here (evaluate program room) (slots.evaluate program room) (evaluate-stands program room here) (execute program room) (slots.execute program room) (execute-matches program room here) s t ls r1 h)

-- ---- methods

body-stands : (program : ProgramTree) (room : ℕ) (here : Here) (m : MethodTree) (s : SolvedMethod) (args : List PlainValue) (r : Running) → length args ≡ length m.params → ResolvesMethod (class_names program) here.class.fields m s
    → and_then (slots.in_turn (slots.execute program room) here.object s.body args r) (λ f. Gives (method_result f)) ≡ and_then (in_turn (execute program room) here m.body (locals_of m.params args) r) (λ f. Gives (method_result f))
body-stands program room here m s args r long h =
    let ls = locals_of m.params args in
    let stand = subst (λ (scope : List Name). ResolvesBlock (class_names program) here.class.fields scope m.body s.body) (sym (locals-names m.params args long)) h.2 in
    ap (λ (vs : List PlainValue). and_then (slots.in_turn (slots.execute program room) here.object s.body vs r) (λ f. Gives (method_result f))) (sym (locals-values m.params args long))
    ∙ ended_same _ _ _ (in_turn-matches program here (evaluate program room) (slots.evaluate program room) (evaluate-stands program room here) (execute program room) (slots.execute program room) (execute-matches program room here) m.body s.body ls r stand)

if_where : {A : Type 0} (b : Bool) (x y z : A) → (b ≡ true → x ≡ y) → (if b then x else z) ≡ (if b then y else z)
if_where true x y z same = same refl
if_where false x y z same = refl

pub performed-stands : (program : ProgramTree) (room : ℕ) (here : Here) (m : MethodTree) (s : SolvedMethod) (args : List PlainValue) (r : Running) → ResolvesMethod (class_names program) here.class.fields m s → slots.perform program room here.object s args r ≡ perform (execute program room) here (Some m) args r
performed-stands program room here m s args r h =
    rw h.0 (if_where (nat_eq (length args) (length m.params)) _ _ _ (λ (e : nat_eq (length args) (length m.params) ≡ true).
    let long : length args ≡ length m.params = grind (arith, nat_tests) in
    body-stands program room here m s args r long h))

pub started : (tree : ProgramTree) (room object : ℕ) (x : Name) (args : List PlainValue) (r : Running) (o : ObjectRecord) (s : Bor Solved) → object_at r.world.objects object ≡ Some o → FindsMethod (Some s) tree o.class x → slots.perform tree room object (solved_method s.now) args r ≡ starts tree room object x args r
started tree room object x args r o s at finds =
    let c = finds.0 in
    let m = finds.1 in
    let in_class : slice_get tree o.class ≡ Some c = finds.2 in
    let named : method_named x c.methods ≡ Some m = ap (λ (d : Option ClassTree). option_and_then (λ (d : ClassTree). method_named x d.methods) d) (sym in_class) ∙ finds.3 in
    rw (at, in_class, named) (performed-stands tree room (record { class = c; object = object }) m (solved_method s.now) args r finds.4)
