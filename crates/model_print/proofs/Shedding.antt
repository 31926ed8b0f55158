-- The canonical tokens are any tokens of the same tree, with round brackets shed. What each step keeps, the canonical tokens
-- keep.
use Rattle.std.proofs.Common.{◌≡◌, ℕ, ◌-◌, ◌≤◌, Bool, true, false, List, [], ◌∷◌, ◌++◌, map, refl, sym, subst}
use Rattle.std.specs.Prelude.{nat_le}
use Rattle.model_tokens.specs.declared.token.Token.{Token}
use Rattle.model_tokens.specs.declared.token.Token.TheVariants as token
use Rattle.model_tokens.specs.declared.token.Token.TheVariants.{Name as name, ClassName as class_name, Word as word, Symbol as symbol}
use Rattle.model_tokens.specs.declared.token.Word.TheVariants as w
use Rattle.model_tokens.specs.declared.token.Symbol.TheVariants as s
use Rattle.model_tree.specs.declared.tree.UnaryOp.{UnaryOp}
use Rattle.model_tree.specs.declared.tree.UnaryOp.TheVariants as sign
use Rattle.model_tree.specs.declared.tree.BinaryOp.{BinaryOp}
use Rattle.model_tree.specs.declared.tree.BinaryOp.TheVariants as op
use Rattle.model_tree.specs.Tree.{Name}
use Rattle.model_tree.specs.Grammar.{Phrase, a_number, a_text, a_nil, a_bool, a_this, a_field, a_local, a_builtin, a_create, a_list, brackets, a_call, a_future, a_unary, a_binary, Phrases, no_phrases, phrase, operator_line, line, left_of, IsWellFormed, AreWellFormed, in_round, in_square, in_braces, sign_symbol, op_symbol, truth_word, phrase_spelling, args_spelling, more_spelling, tree_of, trees_of, Action, a_let, an_assignment, a_set_field, choice, choice_else, a_while, a_return, a_do, Block, closed, action_then, IsWellFormedAction, IsWellFormedBlock, end_spelling, action_spelling, block_spelling, tree_of_action, trees_of_block, MethodForm, ClassForm, AreWellFormedMethods, AreWellFormedClasses, further_spelling, params_spelling, method_spelling, methods_spelling, fields_spelling, class_spelling, classes_spelling, tree_of_method, tree_of_class}
use Rattle.model_print.specs.Canonical.{at_line, phrase_of, phrases_of, action_of, block_of, method_form, class_form}
use Rattle.model_print.proofs.Written.{either, stays, loosest, right_of}

abbrev pub is_bracket : Token → Bool
is_bracket (symbol s.OpenBrace) = true
is_bracket (symbol s.CloseBrace) = true
is_bracket (symbol s.OpenRound) = true
is_bracket (symbol s.CloseRound) = true
is_bracket (symbol s.OpenSquare) = true
is_bracket (symbol s.CloseSquare) = true
is_bracket t = false

-- what holds between some tokens and those that have the same without some pairs of round brackets
pub record Sheds (M : List Token → List Token → Type 0) : Type 0 where
  pub nothing : M [] []
  pub same : (t : Token) → is_bracket t ≡ false → M (t ∷ []) (t ∷ [])
  pub beside : (a b c d : List Token) → M a b → M c d → M (a ++ c) (b ++ d)
  pub round : (a b : List Token) → M a b → M (in_round a) (in_round b)
  pub square : (a b : List Token) → M a b → M (in_square a) (in_square b)
  pub braces : (a b : List Token) → M a b → M (in_braces a) (in_braces b)
  pub shed : (a b : List Token) → M a b → M a (in_round b)

beside : {M : List Token → List Token → Type 0} (m : Sheds M) {a b c d : List Token} → M a b → M c d → M (a ++ c) (b ++ d)
beside m {a = a} {b = b} {c = c} {d = d} h k = m.beside a b c d h k

round : {M : List Token → List Token → Type 0} (m : Sheds M) {a b : List Token} → M a b → M (in_round a) (in_round b)
round m {a = a} {b = b} h = m.round a b h

square : {M : List Token → List Token → Type 0} (m : Sheds M) {a b : List Token} → M a b → M (in_square a) (in_square b)
square m {a = a} {b = b} h = m.square a b h

braces : {M : List Token → List Token → Type 0} (m : Sheds M) {a b : List Token} → M a b → M (in_braces a) (in_braces b)
braces m {a = a} {b = b} h = m.braces a b h

sign_no_bracket : (o : UnaryOp) → is_bracket (symbol (sign_symbol o)) ≡ false
sign_no_bracket sign.Minus = refl
sign_no_bracket sign.Not = refl

op_no_bracket : (o : BinaryOp) → is_bracket (symbol (op_symbol o)) ≡ false
op_no_bracket op.Or = refl
op_no_bracket op.And = refl
op_no_bracket op.Same = refl
op_no_bracket op.Differs = refl
op_no_bracket op.Less = refl
op_no_bracket op.AtMost = refl
op_no_bracket op.Greater = refl
op_no_bracket op.AtLeast = refl
op_no_bracket op.Plus = refl
op_no_bracket op.Minus = refl
op_no_bracket op.Times = refl
op_no_bracket op.Divide = refl
op_no_bracket op.Rest = refl

word_no_bracket : (b : Bool) → is_bracket (truth_word b) ≡ false
word_no_bracket true = refl
word_no_bracket false = refl

-- the same token before both
before : {M : List Token → List Token → Type 0} (m : Sheds M) (t : Token) (a b : List Token) → is_bracket t ≡ false → M a b → M (t ∷ a) (t ∷ b)
before m t a b h rest = m.beside (t ∷ []) (t ∷ []) a b (m.same t h) rest

-- ---- expressions

kept : {M : List Token → List Token → Type 0} (m : Sheds M) (p : Phrase) (wanted : ℕ) (b : List Token) → line p ≤ wanted → M (phrase_spelling p) b → M (phrase_spelling (at_line wanted p)) b
kept {M = M} m p wanted b h x = subst (λ q. M (phrase_spelling q) b) (sym (stays wanted p h)) x

-- where any line may stand
whole : {M : List Token → List Token → Type 0} (m : Sheds M) (p : Phrase) → M (phrase_spelling (at_line 6 (phrase_of (tree_of p)))) (phrase_spelling p) → M (phrase_spelling (phrase_of (tree_of p))) (phrase_spelling p)
whole {M = M} m p x = subst (λ q. M (phrase_spelling q) (phrase_spelling p)) (stays 6 (phrase_of (tree_of p)) (loosest (phrase_of (tree_of p)))) x

-- brackets round a part stay where the canonical form has them too
bracketed : {M : List Token → List Token → Type 0} (m : Sheds M) (p : Phrase) (wanted : ℕ) (b : List Token) → M (phrase_spelling p) b → M (phrase_spelling (at_line wanted p)) (in_round b)
bracketed {M = M} m p wanted b x = either (λ q. M (phrase_spelling q) (in_round b)) (nat_le (line p) wanted) p (brackets p) (m.shed (phrase_spelling p) b x) (m.round (phrase_spelling p) b x)

mutual
  phrase_sheds : {M : List Token → List Token → Type 0} (m : Sheds M) (p : Phrase) (wanted : ℕ) → IsWellFormed p → line p ≤ wanted → M (phrase_spelling (at_line wanted (phrase_of (tree_of p)))) (phrase_spelling p)
  phrase_sheds m (a_number n) wanted st h = kept m (a_number n) wanted _ h (m.same (token.Number n) refl)
  phrase_sheds m (a_text t) wanted st h = kept m (a_text t) wanted _ h (m.same (token.Text t) refl)
  phrase_sheds m a_nil wanted st h = kept m a_nil wanted _ h (m.same (word w.Nil) refl)
  phrase_sheds m (a_bool b) wanted st h = kept m (a_bool b) wanted _ h (m.same (truth_word b) (word_no_bracket b))
  phrase_sheds m a_this wanted st h = kept m a_this wanted _ h (m.same (word w.This) refl)
  phrase_sheds m (a_field x) wanted st h =
      kept m (a_field x) wanted _ h (before m (word w.This) _ _ refl (before m (symbol s.Dot) _ _ refl (m.same (name x) refl)))
  phrase_sheds m (a_local x) wanted st h = kept m (a_local x) wanted _ h (m.same (name x) refl)
  phrase_sheds m (a_builtin x args) wanted st h =
      kept m (phrase_of (tree_of (a_builtin x args))) wanted _ h (before m (name x) _ _ refl (round m (args_shed m args st)))
  phrase_sheds m (a_create x options) wanted st h =
      kept m (phrase_of (tree_of (a_create x options))) wanted _ h
      (before m (word w.Create) _ _ refl
      (round m (before m (class_name x) _ _ refl (before m (symbol s.Comma) _ _ refl (whole m options (phrase_sheds m options 6 st (loosest options)))))))
  phrase_sheds m (a_list items) wanted st h =
      kept m (phrase_of (tree_of (a_list items))) wanted _ h (square m (args_shed m items st))
  phrase_sheds m (brackets a) wanted st h = bracketed m (phrase_of (tree_of a)) wanted _ (whole m a (phrase_sheds m a 6 st (loosest a)))
  phrase_sheds m (a_call object x args) wanted st h =
      kept m (phrase_of (tree_of (a_call object x args))) wanted _ h
      (beside m (phrase_sheds m object 0 st.0 st.1)
      (before m (symbol s.Dot) _ _ refl (before m (name x) _ _ refl (round m (args_shed m args st.2)))))
  phrase_sheds m (a_future object delay x args) wanted st h =
      kept m (phrase_of (tree_of (a_future object delay x args))) wanted _ h
      (beside m (phrase_sheds m object 0 st.0 st.1)
      (before m (symbol s.Dot) _ _ refl (before m (word w.Future) _ _ refl
      (beside m (round m (whole m delay (phrase_sheds m delay 6 st.2 (loosest delay))))
      (before m (symbol s.Dot) _ _ refl (before m (name x) _ _ refl (round m (args_shed m args st.3))))))))
  phrase_sheds m (a_unary o a) wanted st h =
      kept m (phrase_of (tree_of (a_unary o a))) wanted _ h (before m (symbol (sign_symbol o)) _ _ (sign_no_bracket o) (phrase_sheds m a 1 st.0 st.1))
  phrase_sheds m (a_binary o a b) wanted st h =
      kept m (phrase_of (tree_of (a_binary o a b))) wanted _ h
      (beside m (phrase_sheds m a (left_of o) st.0 st.1)
      (before m (symbol (op_symbol o)) _ _ (op_no_bracket o) (phrase_sheds m b (operator_line o - 1) st.2 (right_of o (line b) st.3))))

  args_shed : {M : List Token → List Token → Type 0} (m : Sheds M) (args : Phrases) → AreWellFormed args → M (args_spelling (phrases_of (trees_of args))) (args_spelling args)
  args_shed m no_phrases st = m.nothing
  args_shed m (phrase a more) st = beside m (whole m a (phrase_sheds m a 6 st.0 (loosest a))) (more_shed m more st.1)

  more_shed : {M : List Token → List Token → Type 0} (m : Sheds M) (args : Phrases) → AreWellFormed args → M (more_spelling (phrases_of (trees_of args))) (more_spelling args)
  more_shed m no_phrases st = m.nothing
  more_shed m (phrase a more) st =
      before m (symbol s.Comma) _ _ refl (beside m (whole m a (phrase_sheds m a 6 st.0 (loosest a))) (more_shed m more st.1))

expression_sheds : {M : List Token → List Token → Type 0} (m : Sheds M) (p : Phrase) → IsWellFormed p → M (phrase_spelling (phrase_of (tree_of p))) (phrase_spelling p)
expression_sheds m p st = whole m p (phrase_sheds m p 6 st (loosest p))

-- ---- statements

end_sheds : {M : List Token → List Token → Type 0} (m : Sheds M) (p : Phrase) → IsWellFormed p → M (end_spelling (phrase_of (tree_of p))) (end_spelling p)
end_sheds m p st = beside m (expression_sheds m p st) (m.same (symbol s.Semicolon) refl)

mutual
  action_sheds : {M : List Token → List Token → Type 0} (m : Sheds M) (a : Action) → IsWellFormedAction a → M (action_spelling (action_of (tree_of_action a))) (action_spelling a)
  action_sheds m (a_let x a) st =
      before m (word w.Let) _ _ refl (before m (name x) _ _ refl (before m (symbol s.Assign) _ _ refl (end_sheds m a st)))
  action_sheds m (an_assignment x a) st = before m (name x) _ _ refl (before m (symbol s.Assign) _ _ refl (end_sheds m a st))
  action_sheds m (a_set_field x a) st =
      before m (word w.This) _ _ refl (before m (symbol s.Dot) _ _ refl
      (before m (name x) _ _ refl (before m (symbol s.Assign) _ _ refl (end_sheds m a st))))
  action_sheds m (choice a block) st =
      before m (word w.If) _ _ refl (beside m (round m (expression_sheds m a st.0)) (braces m (block_sheds m block st.1)))
  action_sheds m (choice_else a block other) st =
      before m (word w.If) _ _ refl (beside m (round m (expression_sheds m a st.0))
      (beside m (braces m (block_sheds m block st.1)) (before m (word w.Else) _ _ refl (braces m (block_sheds m other st.2)))))
  action_sheds m (a_while a block) st =
      before m (word w.While) _ _ refl (beside m (round m (expression_sheds m a st.0)) (braces m (block_sheds m block st.1)))
  action_sheds m (a_return a) st = before m (word w.Return) _ _ refl (end_sheds m a st)
  action_sheds m (a_do a) st = end_sheds m a st

  block_sheds : {M : List Token → List Token → Type 0} (m : Sheds M) (block : Block) → IsWellFormedBlock block → M (block_spelling (block_of (trees_of_block block))) (block_spelling block)
  block_sheds m closed st = m.nothing
  block_sheds m (action_then a block) st = beside m (action_sheds m a st.0) (block_sheds m block st.1)

-- ---- classes

further_same : {M : List Token → List Token → Type 0} (m : Sheds M) (xs : List Name) → M (further_spelling xs) (further_spelling xs)
further_same m [] = m.nothing
further_same m (x ∷ xs) = before m (symbol s.Comma) _ _ refl (before m (name x) _ _ refl (further_same m xs))

params_same : {M : List Token → List Token → Type 0} (m : Sheds M) (xs : List Name) → M (params_spelling xs) (params_spelling xs)
params_same m [] = m.nothing
params_same m (x ∷ xs) = before m (name x) _ _ refl (further_same m xs)

fields_same : {M : List Token → List Token → Type 0} (m : Sheds M) (xs : List Name) → M (fields_spelling xs) (fields_spelling xs)
fields_same m [] = m.nothing
fields_same m (x ∷ xs) =
    before m (word w.Field) _ _ refl (before m (name x) _ _ refl (before m (symbol s.Semicolon) _ _ refl (fields_same m xs)))

method_sheds : {M : List Token → List Token → Type 0} (m : Sheds M) (f : MethodForm) → IsWellFormedBlock f.body → M (method_spelling (method_form (tree_of_method f))) (method_spelling f)
method_sheds m f st =
    before m (name f.name) _ _ refl (beside m (round m (params_same m f.params)) (braces m (block_sheds m f.body st)))

methods_shed : {M : List Token → List Token → Type 0} (m : Sheds M) (fs : List MethodForm) → AreWellFormedMethods fs → M (methods_spelling (map method_form (map tree_of_method fs))) (methods_spelling fs)
methods_shed m [] st = m.nothing
methods_shed m (f ∷ fs) st = beside m (method_sheds m f st.0) (methods_shed m fs st.1)

class_sheds : {M : List Token → List Token → Type 0} (m : Sheds M) (c : ClassForm) → AreWellFormedMethods c.methods → M (class_spelling (class_form (tree_of_class c))) (class_spelling c)
class_sheds m c st =
    before m (word w.Class) _ _ refl (before m (class_name c.name) _ _ refl
    (braces m (beside m (fields_same m c.fields) (methods_shed m c.methods st))))

pub classes_shed : {M : List Token → List Token → Type 0} (m : Sheds M) (cs : List ClassForm) → AreWellFormedClasses cs → M (classes_spelling (map class_form (map tree_of_class cs))) (classes_spelling cs)
classes_shed m [] st = m.nothing
classes_shed m (c ∷ cs) st = beside m (class_sheds m c st.0) (classes_shed m cs st.1)
