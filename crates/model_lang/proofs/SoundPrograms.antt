-- Whatever the reader reads is spelled by the grammar: methods, classes and whole programs.
use Rattle.std.proofs.Common.{◌≡◌, ⊎_elim, ℕ, zero, suc, List, [], ◌∷◌, ◌++◌, length, map, Option, Some, refl, sym, ap, ◌∙◌, subst, arith, append_assoc, append-nil}
use Rattle.model_tokens.specs.declared.token.Token.{Token}
use Rattle.model_tokens.specs.declared.token.Token.TheVariants.{Name as name, ClassName as class_name, Word as word, Symbol as symbol}
use Rattle.model_tokens.specs.declared.token.Word.TheVariants as w
use Rattle.model_tokens.specs.declared.token.Symbol.TheVariants as s
use Rattle.model_tree.specs.Tree.{Name, Statement, Statements, statements_of, MethodTree, ClassTree}
use Rattle.model_tree.specs.Grammar.{IsWellFormedBlock, MethodForm, ClassForm, AreWellFormedMethods, AreWellFormedClasses, block_spelling, further_spelling, params_spelling, method_spelling, methods_spelling, fields_spelling, class_spelling, classes_spelling, tree_of_method, tree_of_class, Derives}
use Rattle.model_lang.specs.Reader.{ParseResult, on_read, on_rest, after_symbol, name_at, class_name_at, read_block, read_further, read_params, read_body, read_method, read_fields, read_methods, read_members, read_class, read_classes, read_program}
use Rattle.model_lang.proofs.Fronts.{parts, apart, class_name_front, word_then, symbol_then, name_then, word_or, symbol_or, both_spelled}
use Rattle.model_lang.proofs.CompleteStatements.{list_of_block, block-list}
use Rattle.model_lang.proofs.CompletePrograms.{params_then, members_then}
use Rattle.model_lang.proofs.SoundStatements.{block_at}

-- ---- methods

abbrev FurtherFound : List Name → List Token → List Name → List Token → Type 0
FurtherFound found ts ys rest = (xs : List Name) × (further_spelling xs ++ symbol s.CloseRound ∷ rest ≡ ts) × (found ++ xs ≡ ys)

one_further : (found : List Name) (x : Name) (ts more behind : List Token) (ys : List Name) (rest : List Token) → symbol s.Comma ∷ more ≡ ts → name x ∷ behind ≡ more → FurtherFound (found ++ x ∷ []) behind ys rest → FurtherFound found ts ys rest
one_further found x ts more behind ys rest p q l = (x ∷ l.0, cc (l.1, q, p), sym (append_assoc found (x ∷ []) l.0) ∙ l.2)

no_further : (found : List Name) (ts after : List Token) (ys : List Name) (rest : List Token) → symbol s.CloseRound ∷ after ≡ ts → (found ≡ ys) × (after ≡ rest) → FurtherFound found ts ys rest
no_further found ts after ys rest p each = ([], ap (λ r. symbol s.CloseRound ∷ r) (sym each.1) ∙ p, append-nil found ∙ each.0)

further_sound : (turns : ℕ) (found : List Name) (ts : List Token) (ys : List Name) (rest : List Token) → read_further turns found ts ≡ Some (ys, rest) → FurtherFound found ts ys rest
further_sound zero found ts ys rest h = cc
further_sound (suc turns) found ts ys rest h =
    let next : List Token → ParseResult (List Name) = λ ts. on_read (name_at ts) (λ x. read_further turns (found ++ x ∷ [])) in
    ⊎_elim
    (λ c.
    let x = name_then c.0 (λ x. read_further turns (found ++ x ∷ [])) (ys, rest) c.2 in
    one_further found x.0 ts c.0 x.1 ys rest c.1 x.2 (further_sound turns (found ++ x.0 ∷ []) x.1 ys rest x.3))
    (λ k.
    let c = symbol_then s.CloseRound ts (λ rest. Some (found, rest)) (ys, rest) k in
    no_further found ts c.0 ys rest c.1 (apart found ys c.0 rest c.2))
    (symbol_or s.Comma ts next (on_rest (after_symbol s.CloseRound ts) (λ rest. Some (found, rest))) (Some (ys, rest)) h)

abbrev ParamsFound : List Token → List Name → List Token → Type 0
ParamsFound ts ys rest = params_spelling ys ++ symbol s.CloseRound ∷ rest ≡ ts

params_sound : (ts : List Token) (ys : List Name) (rest : List Token) → read_params ts ≡ Some (ys, rest) → ParamsFound ts ys rest
params_sound ts ys rest h =
    let next : Name → List Token → ParseResult (List Name) = λ x rest. read_further (length ts) (x ∷ []) rest in
    ⊎_elim
    (λ c.
    let each = apart [] ys c.0 rest c.2 in
    subst (λ ys. ParamsFound ts ys rest) each.0 (cc (c.1, each.1)))
    (λ k.
    let x = name_then ts next (ys, rest) k in
    let l = further_sound (length ts) (x.0 ∷ []) x.1 ys rest x.3 in
    subst (λ ys. ParamsFound ts ys rest) l.2 (cc (l.1, x.2)))
    (symbol_or s.CloseRound ts (λ rest. Some ([], rest)) (on_read (name_at ts) next) (Some (ys, rest)) h)

abbrev MethodFound : List Token → MethodTree → List Token → Type 0
MethodFound ts m rest = (f : MethodForm) × IsWellFormedBlock f.body × (method_spelling f ++ rest ≡ ts) × (tree_of_method f ≡ m)

body_sound : (x : Name) (params : List Name) (ts : List Token) (m : MethodTree) (rest all : List Token) → read_body x params ts ≡ Some (m, rest) → name x ∷ symbol s.OpenRound ∷ (params_spelling params ++ symbol s.CloseRound ∷ ts) ≡ all → MethodFound all m rest
body_sound x params ts m rest all h p =
    let made : Statements → MethodTree = λ ss. record { name = x; params = params; body = ss } in
    let next : List Statement → List Token → ParseResult MethodTree = λ found ts. Some (made (statements_of found), ts) in
    let b = symbol_then s.OpenBrace ts (λ ts. on_read (read_block (length ts) ts) next) (m, rest) h in
    let f = block_at (length b.0) b.0 next (m, rest) b.2 in
    let each = apart (made (statements_of (list_of_block f.0))) m f.2 rest f.4 in
    let at : name x ∷ symbol s.OpenRound ∷ (params_spelling params ++ symbol s.CloseRound ∷ symbol s.OpenBrace ∷ (block_spelling f.0 ++ symbol s.CloseBrace ∷ rest)) ≡ all = cc (p, b.1, f.3, each.1) in (
      record { name = x; params = params; body = f.0 },
      f.1,
      ap (λ r. name x ∷ symbol s.OpenRound ∷ r) (params_then (params_spelling params) (block_spelling f.0) rest) ∙ at,
      ap made (sym (block-list f.0)) ∙ each.0,
    )

method_sound : (ts : List Token) (m : MethodTree) (rest : List Token) → read_method ts ≡ Some (m, rest) → MethodFound ts m rest
method_sound ts m rest h =
    let x = name_then ts (λ x ts. on_rest (after_symbol s.OpenRound ts) (λ ts. on_read (read_params ts) (read_body x))) (m, rest) h in
    let b = symbol_then s.OpenRound x.1 (λ ts. on_read (read_params ts) (read_body x.0)) (m, rest) x.3 in
    let q = parts (read_params b.0) (read_body x.0) (m, rest) b.2 in
    let l = params_sound b.0 q.0.0 q.0.1 q.1 in
    body_sound x.0 q.0.0 q.0.1 m rest ts q.2 (cc (x.2, b.1, l))

abbrev MethodsFound : List MethodTree → List Token → List MethodTree → List Token → Type 0
MethodsFound found ts trees rest = (ms : List MethodForm) × AreWellFormedMethods ms × (methods_spelling ms ++ symbol s.CloseBrace ∷ rest ≡ ts) × (found ++ map tree_of_method ms ≡ trees)

one_method : (found : List MethodTree) (t : MethodTree) (ts behind : List Token) (trees : List MethodTree) (rest : List Token) → MethodFound ts t behind → MethodsFound (found ++ t ∷ []) behind trees rest → MethodsFound found ts trees rest
one_method found t ts behind trees rest m l = (
  m.0 ∷ l.0,
  (m.1, l.1),
  both_spelled (method_spelling m.0) (methods_spelling l.0) (symbol s.CloseBrace ∷ rest) behind ts m.2 l.2,
  ap (λ t. found ++ t ∷ map tree_of_method l.0) m.3 ∙ sym (append_assoc found (t ∷ []) (map tree_of_method l.0)) ∙ l.3,
)

no_method : (found : List MethodTree) (ts after : List Token) (trees : List MethodTree) (rest : List Token) → symbol s.CloseBrace ∷ after ≡ ts → (found ≡ trees) × (after ≡ rest) → MethodsFound found ts trees rest
no_method found ts after trees rest p each = ([], tt, ap (λ r. symbol s.CloseBrace ∷ r) (sym each.1) ∙ p, append-nil found ∙ each.0)

methods_sound : (turns : ℕ) (found : List MethodTree) (ts : List Token) (trees : List MethodTree) (rest : List Token) → read_methods turns found ts ≡ Some (trees, rest) → MethodsFound found ts trees rest
methods_sound zero found ts trees rest h = cc
methods_sound (suc turns) found ts trees rest h =
    let next : MethodTree → List Token → ParseResult (List MethodTree) = λ m. read_methods turns (found ++ m ∷ []) in
    ⊎_elim
    (λ c. no_method found ts c.0 trees rest c.1 (apart found trees c.0 rest c.2))
    (λ k.
    let q = parts (read_method ts) next (trees, rest) k in
    one_method found q.0.0 ts q.0.1 trees rest (method_sound ts q.0.0 q.0.1 q.1) (methods_sound turns (found ++ q.0.0 ∷ []) q.0.1 trees rest q.2))
    (symbol_or s.CloseBrace ts (λ rest. Some (found, rest)) (on_read (read_method ts) next) (Some (trees, rest)) h)

-- ---- classes

abbrev FieldsFound : List Name → List Token → List Name → List Token → Type 0
FieldsFound found ts ys rest = (xs : List Name) × (fields_spelling xs ++ rest ≡ ts) × (found ++ xs ≡ ys)

no_field : (found : List Name) (ts : List Token) (ys : List Name) (rest : List Token) → ◌≡◌ {A = ParseResult (List Name)} (Some (found, ts)) (Some (ys, rest)) → FieldsFound found ts ys rest
no_field found ts ys rest h =
    let each = apart found ys ts rest h in
    ([], sym each.1, append-nil found ∙ each.0)

one_field : (found : List Name) (x : Name) (ts more end behind : List Token) (ys : List Name) (rest : List Token) → word w.Field ∷ more ≡ ts → name x ∷ end ≡ more → symbol s.Semicolon ∷ behind ≡ end → FieldsFound (found ++ x ∷ []) behind ys rest → FieldsFound found ts ys rest
one_field found x ts more end behind ys rest p q r l = (x ∷ l.0, cc (l.1, r, q, p), sym (append_assoc found (x ∷ []) l.0) ∙ l.2)

fields_sound : (turns : ℕ) (found : List Name) (ts : List Token) (ys : List Name) (rest : List Token) → read_fields turns found ts ≡ Some (ys, rest) → FieldsFound found ts ys rest
fields_sound zero found ts ys rest h = no_field found ts ys rest h
fields_sound (suc turns) found ts ys rest h =
    let next : List Token → ParseResult (List Name) = λ ts. on_read (name_at ts) (λ x ts. on_rest (after_symbol s.Semicolon ts) (read_fields turns (found ++ x ∷ []))) in
    ⊎_elim
    (λ c.
    let x = name_then c.0 (λ x ts. on_rest (after_symbol s.Semicolon ts) (read_fields turns (found ++ x ∷ []))) (ys, rest) c.2 in
    let d = symbol_then s.Semicolon x.1 (read_fields turns (found ++ x.0 ∷ [])) (ys, rest) x.3 in
    one_field found x.0 ts c.0 x.1 d.0 ys rest c.1 x.2 d.1 (fields_sound turns (found ++ x.0 ∷ []) d.0 ys rest d.2))
    (no_field found ts ys rest)
    (word_or w.Field ts next (Some (found, ts)) (Some (ys, rest)) h)

abbrev ClassFound : List Token → ClassTree → List Token → Type 0
ClassFound ts c rest = (f : ClassForm) × AreWellFormedMethods f.methods × (class_spelling f ++ rest ≡ ts) × (tree_of_class f ≡ c)

members_sound : (x : Name) (ts : List Token) (c : ClassTree) (rest all : List Token) → read_members x ts ≡ Some (c, rest) → word w.Class ∷ class_name x ∷ symbol s.OpenBrace ∷ ts ≡ all → ClassFound all c rest
members_sound x ts c rest all h p =
    let made : List Name → List MethodTree → ClassTree = λ fields methods. record { name = x; fields = fields; methods = methods } in
    let q = parts (read_fields (length ts) [] ts) (λ fields ts. on_read (read_methods (length ts) [] ts) (λ methods ts. Some (made fields methods, ts))) (c, rest) h in
    let f = fields_sound (length ts) [] ts q.0.0 q.0.1 q.1 in
    let r = parts (read_methods (length q.0.1) [] q.0.1) (λ methods ts. Some (made q.0.0 methods, ts)) (c, rest) q.2 in
    let m = methods_sound (length q.0.1) [] q.0.1 r.0.0 r.0.1 r.1 in
    let each = apart (made q.0.0 r.0.0) c r.0.1 rest r.2 in
    let at : word w.Class ∷ class_name x ∷ symbol s.OpenBrace ∷ (fields_spelling f.0 ++ (methods_spelling m.0 ++ symbol s.CloseBrace ∷ rest)) ≡ all = cc (p, f.1, m.2, each.1) in (
      record { name = x; fields = f.0; methods = m.0 },
      m.1,
      ap (λ r. word w.Class ∷ class_name x ∷ symbol s.OpenBrace ∷ r) (members_then (fields_spelling f.0) (methods_spelling m.0) rest) ∙ at,
      ap (λ fields. made fields (map tree_of_method m.0)) f.2 ∙ ap (made q.0.0) m.3 ∙ each.0,
    )

class_sound : (ts : List Token) (c : ClassTree) (rest : List Token) → read_class ts ≡ Some (c, rest) → ClassFound ts c rest
class_sound ts c rest h =
    let a = word_then w.Class ts (λ ts. on_read (class_name_at ts) (λ x ts. on_rest (after_symbol s.OpenBrace ts) (read_members x))) (c, rest) h in
    let q = parts (class_name_at a.0) (λ x ts. on_rest (after_symbol s.OpenBrace ts) (read_members x)) (c, rest) a.2 in
    let b = symbol_then s.OpenBrace q.0.1 (read_members q.0.0) (c, rest) q.2 in
    members_sound q.0.0 b.0 c rest ts b.2 (cc (a.1, class_name_front a.0 q.0 q.1, b.1))

-- ---- programs

abbrev ClassesFound : List ClassTree → List Token → List ClassTree → Type 0
ClassesFound found ts trees = (cs : List ClassForm) × AreWellFormedClasses cs × (classes_spelling cs ≡ ts) × (found ++ map tree_of_class cs ≡ trees)

no_class : (found trees : List ClassTree) → ◌≡◌ {A = Option (List ClassTree)} (Some found) (Some trees) → ClassesFound found [] trees
no_class found trees h =
    let same : found ≡ trees = cc in
    ([], tt, refl, append-nil found ∙ same)

one_class : (found : List ClassTree) (t : ClassTree) (ts behind : List Token) (trees : List ClassTree) → ClassFound ts t behind → ClassesFound (found ++ t ∷ []) behind trees → ClassesFound found ts trees
one_class found t ts behind trees c l = (
  c.0 ∷ l.0,
  (c.1, l.1),
  ap (λ r. class_spelling c.0 ++ r) l.2 ∙ c.2,
  ap (λ t. found ++ t ∷ map tree_of_class l.0) c.3 ∙ sym (append_assoc found (t ∷ []) (map tree_of_class l.0)) ∙ l.3,
)

classes_sound : (turns : ℕ) (found : List ClassTree) (ts : List Token) (trees : List ClassTree) → read_classes turns found ts ≡ Some trees → ClassesFound found ts trees
classes_sound zero found [] trees h = no_class found trees h
classes_sound (suc turns) found [] trees h = no_class found trees h
classes_sound zero found (t ∷ ts) trees h = cc
classes_sound (suc turns) found (t ∷ ts) trees h =
    let q = parts (read_class (t ∷ ts)) (λ c. read_classes turns (found ++ c ∷ [])) trees h in
    one_class found q.0.0 (t ∷ ts) q.0.1 trees (class_sound (t ∷ ts) q.0.0 q.0.1 q.1) (classes_sound turns (found ++ q.0.0 ∷ []) q.0.1 trees q.2)

-- the classes that are read are those that are spelled
pub program_sound : (ts : List Token) (found : List ClassTree) → read_program ts ≡ Some found → Derives ts found
program_sound ts found h =
    let q = parts (read_class ts) (λ c. read_classes (length ts) (c ∷ [])) found h in
    let c = class_sound ts q.0.0 q.0.1 q.1 in
    let l = classes_sound (length ts) (q.0.0 ∷ []) q.0.1 found q.2 in
    (c.0 ∷ l.0, omega arith, (c.1, l.1), ap (λ r. class_spelling c.0 ++ r) l.2 ∙ c.2, ap (λ t. t ∷ map tree_of_class l.0) c.3 ∙ l.3)
