-- The reader reads whatever the grammar spells: methods, classes and whole programs.
use Rattle.std.proofs.Common.{◌≡◌, ℕ, zero, suc, ◌<◌, ◌≤◌, List, [], ◌∷◌, ◌++◌, length, map, Some, None, refl, sym, ap, ◌∙◌, arith, append_assoc, append-nil, length-append}
use Rattle.model_tokens.specs.declared.token.Token.{Token}
use Rattle.model_tokens.specs.declared.token.Token.TheVariants.{Name as name, Symbol as symbol}
use Rattle.model_tokens.specs.declared.token.Word.TheVariants as w
use Rattle.model_tokens.specs.declared.token.Symbol.TheVariants as s
use Rattle.model_tree.specs.Tree.{Name, Statement, statements_of, MethodTree, ClassTree}
use Rattle.model_tree.specs.Grammar.{Block, IsWellFormedBlock, MethodForm, ClassForm, AreWellFormedMethods, AreWellFormedClasses, in_braces, block_spelling, further_spelling, params_spelling, method_spelling, methods_spelling, fields_spelling, class_spelling, classes_spelling, trees_of_block, tree_of_method, tree_of_class}
use Rattle.model_lang.specs.Reader.{ParseResult, on_read, on_rest, either_way, after_word, after_symbol, name_at, read_further, read_params, read_body, read_method, read_fields, read_methods, read_members, read_class, read_classes, read_program}
use Rattle.model_lang.proofs.CompleteStatements.{braces_then, block-list, block_read}

-- ---- methods

further_read : (xs : List Name) (turns : ℕ) (found : List Name) (rest : List Token) → length (further_spelling xs) < turns → read_further turns found (further_spelling xs ++ symbol s.CloseRound ∷ rest) ≡ Some (found ++ xs, rest)
further_read xs zero found rest many = absurd (omega arith)
further_read [] (suc turns) found rest many = ap (λ xs. Some (xs, rest)) (sym (append-nil found))
further_read (x ∷ xs) (suc turns) found rest many =
    further_read xs turns (found ++ x ∷ []) rest (omega arith) ∙ ap (λ xs. Some (xs, rest)) (append_assoc found (x ∷ []) xs)

params_read : (xs : List Name) (rest : List Token) → read_params (params_spelling xs ++ symbol s.CloseRound ∷ rest) ≡ Some (xs, rest)
params_read [] rest = refl
params_read (x ∷ xs) rest =
    further_read xs (length (name x ∷ (further_spelling xs ++ symbol s.CloseRound ∷ rest))) (x ∷ []) rest (omega (arith, length-append (further_spelling xs) (symbol s.CloseRound ∷ rest)))

body_read : (x : Name) (params : List Name) (block : Block) → IsWellFormedBlock block → (rest : List Token) → read_body x params (symbol s.OpenBrace ∷ (block_spelling block ++ symbol s.CloseBrace ∷ rest)) ≡ Some (record { name = x; params = params; body = trees_of_block block }, rest)
body_read x params block stands rest =
    let ts = block_spelling block ++ symbol s.CloseBrace ∷ rest in
    let next : List Statement → List Token → ParseResult MethodTree = λ found ts. Some (record { name = x; params = params; body = statements_of found }, ts) in
    ap (λ o. on_read o next) (block_read block stands (length ts) rest (omega (arith, length-append (block_spelling block) (symbol s.CloseBrace ∷ rest))))
    ∙ ap (λ b. Some (record { name = x; params = params; body = b }, rest)) (block-list block)

-- tokens behind a list in round brackets and a block
pub params_then : (params body rest : List Token) → ((params ++ symbol s.CloseRound ∷ []) ++ in_braces body) ++ rest ≡ params ++ symbol s.CloseRound ∷ symbol s.OpenBrace ∷ (body ++ symbol s.CloseBrace ∷ rest)
params_then params body rest =
    let listed = params ++ symbol s.CloseRound ∷ [] in
    append_assoc listed (in_braces body) rest
    ∙ ap (λ r. listed ++ r) (braces_then body rest)
    ∙ append_assoc params (symbol s.CloseRound ∷ []) (symbol s.OpenBrace ∷ (body ++ symbol s.CloseBrace ∷ rest))

method_read : (m : MethodForm) → IsWellFormedBlock m.body → (rest : List Token) → read_method (method_spelling m ++ rest) ≡ Some (tree_of_method m, rest)
method_read m stands rest =
    ap (λ ts. on_read (read_params ts) (read_body m.name)) (params_then (params_spelling m.params) (block_spelling m.body) rest)
    ∙ ap (λ o. on_read o (read_body m.name)) (params_read m.params (symbol s.OpenBrace ∷ (block_spelling m.body ++ symbol s.CloseBrace ∷ rest)))
    ∙ body_read m.name m.params m.body stands rest

methods_read : (ms : List MethodForm) → AreWellFormedMethods ms → (turns : ℕ) (found : List MethodTree) (rest : List Token) → length (methods_spelling ms) < turns → read_methods turns found (methods_spelling ms ++ symbol s.CloseBrace ∷ rest) ≡ Some (found ++ map tree_of_method ms, rest)
methods_read ms stand zero found rest many = absurd (omega arith)
methods_read [] stand (suc turns) found rest many = ap (λ ms. Some (ms, rest)) (sym (append-nil found))
methods_read (m ∷ ms) stand (suc turns) found rest many =
    let behind = methods_spelling ms ++ symbol s.CloseBrace ∷ rest in
    ap (read_methods (suc turns) found) (append_assoc (method_spelling m) (methods_spelling ms) (symbol s.CloseBrace ∷ rest))
    ∙ ap (λ o. on_read o (λ m. read_methods turns (found ++ m ∷ []))) (method_read m stand.0 behind)
    ∙ methods_read ms stand.1 turns (found ++ tree_of_method m ∷ []) rest (omega (arith, length-append (method_spelling m) (methods_spelling ms)))
    ∙ ap (λ ms. Some (ms, rest)) (append_assoc found (tree_of_method m ∷ []) (map tree_of_method ms))

-- ---- classes

-- no word `field` begins a method or ends a class
no_field : (ms : List MethodForm) (rest : List Token) → after_word w.Field (methods_spelling ms ++ symbol s.CloseBrace ∷ rest) ≡ None
no_field [] rest = refl
no_field (m ∷ ms) rest = refl

fields_read : (xs : List Name) (turns : ℕ) (found : List Name) (rest : List Token) → length (fields_spelling xs) ≤ turns → after_word w.Field rest ≡ None → read_fields turns found (fields_spelling xs ++ rest) ≡ Some (found ++ xs, rest)
fields_read [] zero found rest many h = ap (λ xs. Some (xs, rest)) (sym (append-nil found))
fields_read [] (suc turns) found rest many h =
    ap (λ o. either_way o (λ ts. on_read (name_at ts) (λ x ts. on_rest (after_symbol s.Semicolon ts) (read_fields turns (found ++ x ∷ [])))) (Some (found, rest))) h
    ∙ ap (λ xs. Some (xs, rest)) (sym (append-nil found))
fields_read (x ∷ xs) zero found rest many h = absurd (omega arith)
fields_read (x ∷ xs) (suc turns) found rest many h =
    fields_read xs turns (found ++ x ∷ []) rest (omega arith) h ∙ ap (λ xs. Some (xs, rest)) (append_assoc found (x ∷ []) xs)

members_read : (x : Name) (fields : List Name) (methods : List MethodForm) → AreWellFormedMethods methods → (rest : List Token) → read_members x (fields_spelling fields ++ (methods_spelling methods ++ symbol s.CloseBrace ∷ rest)) ≡ Some (record { name = x; fields = fields; methods = map tree_of_method methods }, rest)
members_read x fields methods stand rest =
    let behind = methods_spelling methods ++ symbol s.CloseBrace ∷ rest in
    let all = fields_spelling fields ++ behind in
    let next : List Name → List MethodTree → List Token → ParseResult ClassTree = λ fields methods ts. Some (record { name = x; fields = fields; methods = methods }, ts) in
    ap (λ o. on_read o (λ fields ts. on_read (read_methods (length ts) [] ts) (next fields))) (fields_read fields (length all) [] behind (omega (arith, length-append (fields_spelling fields) behind)) (no_field methods rest))
    ∙ ap (λ o. on_read o (next fields)) (methods_read methods stand (length behind) [] rest (omega (arith, length-append (methods_spelling methods) (symbol s.CloseBrace ∷ rest))))

-- tokens behind the members of a class
pub members_then : (fields methods rest : List Token) → ((fields ++ methods) ++ symbol s.CloseBrace ∷ []) ++ rest ≡ fields ++ (methods ++ symbol s.CloseBrace ∷ rest)
members_then fields methods rest =
    append_assoc (fields ++ methods) (symbol s.CloseBrace ∷ []) rest ∙ append_assoc fields methods (symbol s.CloseBrace ∷ rest)

class_read : (c : ClassForm) → AreWellFormedMethods c.methods → (rest : List Token) → read_class (class_spelling c ++ rest) ≡ Some (tree_of_class c, rest)
class_read c stand rest =
    ap (read_members c.name) (members_then (fields_spelling c.fields) (methods_spelling c.methods) rest) ∙ members_read c.name c.fields c.methods stand rest

-- ---- programs

classes_read : (cs : List ClassForm) → AreWellFormedClasses cs → (turns : ℕ) (found : List ClassTree) → length (classes_spelling cs) ≤ turns → read_classes turns found (classes_spelling cs) ≡ Some (found ++ map tree_of_class cs)
classes_read [] stand zero found many = ap Some (sym (append-nil found))
classes_read [] stand (suc turns) found many = ap Some (sym (append-nil found))
classes_read (c ∷ cs) stand zero found many = absurd (omega (arith, length-append (class_spelling c) (classes_spelling cs)))
classes_read (c ∷ cs) stand (suc turns) found many =
    ap (λ o. on_read o (λ c. read_classes turns (found ++ c ∷ []))) (class_read c stand.0 (classes_spelling cs))
    ∙ classes_read cs stand.1 turns (found ++ tree_of_class c ∷ []) (omega (arith, length-append (class_spelling c) (classes_spelling cs)))
    ∙ ap Some (append_assoc found (tree_of_class c ∷ []) (map tree_of_class cs))

-- the classes that are spelled are those that are read
pub program_read : (cs : List ClassForm) → 0 < length cs → AreWellFormedClasses cs → read_program (classes_spelling cs) ≡ Some (map tree_of_class cs)
program_read [] some stand = absurd (omega arith)
program_read (c ∷ cs) some stand =
    let all = length (classes_spelling (c ∷ cs)) in
    ap (λ o. on_read o (λ c. read_classes all (c ∷ []))) (class_read c stand.0 (classes_spelling cs))
    ∙ classes_read cs stand.1 all (tree_of_class c ∷ []) (omega (arith, length-append (class_spelling c) (classes_spelling cs)))
