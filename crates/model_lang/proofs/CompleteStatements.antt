-- The reader reads whatever the grammar spells: statements and blocks.
use Rattle.std.proofs.Common.{◌≡◌, ℕ, zero, suc, ◌+◌, ◌<◌, ◌≤◌, List, [], ◌∷◌, ◌++◌, length, Some, None, refl, sym, ap, ◌∙◌, arith, append_assoc, append-nil, length-append}
use Rattle.model_tokens.specs.declared.token.Token.{Token}
use Rattle.model_tokens.specs.declared.token.Token.TheVariants.{Word as word, Symbol as symbol}
use Rattle.model_tokens.specs.declared.token.Word.{Word}
use Rattle.model_tokens.specs.declared.token.Word.TheVariants as w
use Rattle.model_tokens.specs.declared.token.Symbol.TheVariants as s
use Rattle.model_tree.specs.Tree.{Expression, Statement, declare, assign, set_field, when, while, give, do_, statements_of, statement, no_else, else_block}
use Rattle.model_tree.specs.Grammar.{Phrase, IsWellFormed, phrase_spelling, tree_of, Action, a_let, an_assignment, a_set_field, choice, choice_else, a_while, a_return, a_do, Block, closed, action_then, IsWellFormedAction, IsWellFormedBlock, in_round, in_braces, end_spelling, action_spelling, block_spelling, tree_of_action, trees_of_block}
use Rattle.model_lang.specs.Reader.{ParseResult, on_read, on_rest, either_way, word_number, after_word, after_symbol, assign_head, set_at, read_end, read_test, read_else, read_if, read_while, read_action, read_actions, read_block}
use Rattle.model_lang.proofs.Phrases.{phrase_no_word, phrase_no_brace, phrase_not_assigned, phrase_not_set}
use Rattle.model_lang.proofs.CompleteExpressions.{expression_then}

-- ---- parts of statements

end_read : (a : Phrase) → IsWellFormed a → (make : Expression → Statement) (rest : List Token) → read_end make (end_spelling a ++ rest) ≡ Some (make (tree_of a), rest)
end_read a stands make rest =
    let next : Expression → List Token → ParseResult Expression = λ e ts. on_rest (after_symbol s.Semicolon ts) (λ ts. Some (e, ts)) in
    ap (λ o. on_read o (λ e ts. Some (make e, ts))) (expression_then a stands (symbol s.Semicolon) [] rest next (omega arith))

test_read : (a : Phrase) → IsWellFormed a → (rest : List Token) → read_test (in_round (phrase_spelling a) ++ symbol s.OpenBrace ∷ rest) ≡ Some (tree_of a, rest)
test_read a stands rest =
    expression_then a stands (symbol s.CloseRound) [] (symbol s.OpenBrace ∷ rest) (λ e ts. on_rest (after_symbol s.CloseRound ts) (λ ts. on_rest (after_symbol s.OpenBrace ts) (λ ts. Some (e, ts)))) (omega arith)

-- tokens behind a block
pub braces_then : (ts rest : List Token) → in_braces ts ++ rest ≡ symbol s.OpenBrace ∷ (ts ++ symbol s.CloseBrace ∷ rest)
braces_then ts rest = ap (λ r. symbol s.OpenBrace ∷ r) (append_assoc ts (symbol s.CloseBrace ∷ []) rest)

-- a test, a block and tokens behind it
abbrev pub guarded : List Token → List Token → List Token → List Token
guarded test body rest = in_round test ++ symbol s.OpenBrace ∷ (body ++ symbol s.CloseBrace ∷ rest)

pub block_then : (test body rest : List Token) → (in_round test ++ in_braces body) ++ rest ≡ guarded test body rest
block_then test body rest = append_assoc (in_round test) (in_braces body) rest ∙ ap (λ r. in_round test ++ r) (braces_then body rest)

pub else_then : (test body other rest : List Token) → (in_round test ++ (in_braces body ++ word w.Else ∷ in_braces other)) ++ rest ≡ guarded test body (word w.Else ∷ symbol s.OpenBrace ∷ (other ++ symbol s.CloseBrace ∷ rest))
else_then test body other rest =
    let more = word w.Else ∷ in_braces other in
    append_assoc (in_round test) (in_braces body ++ more) rest
    ∙ ap (λ r. in_round test ++ r) (append_assoc (in_braces body) more rest)
    ∙ ap (λ r. in_round test ++ (in_braces body ++ word w.Else ∷ r)) (braces_then other rest)
    ∙ ap (λ r. in_round test ++ r) (braces_then body (word w.Else ∷ symbol s.OpenBrace ∷ (other ++ symbol s.CloseBrace ∷ rest)))

-- ---- each form, beside what its blocks are read as

abbrev pub list_of_block : Block → List Statement
list_of_block closed = []
list_of_block (action_then a block) = tree_of_action a ∷ list_of_block block

pub block-list : (block : Block) → statements_of (list_of_block block) ≡ trees_of_block block
block-list closed = refl
block-list (action_then a block) = ap (statement (tree_of_action a)) (block-list block)

abbrev pub BlockReader : Type 0
BlockReader = List Token → ParseResult (List Statement)

-- a reader of blocks reads this one
abbrev ReadsBlock : BlockReader → Block → List Token → Type 0
ReadsBlock reader block rest = reader (block_spelling block ++ symbol s.CloseBrace ∷ rest) ≡ Some (list_of_block block, rest)

if_read : (reader : BlockReader) (a : Phrase) → IsWellFormed a → (ts : List Token) (found : List Statement) (rest : List Token) → reader ts ≡ Some (found, rest) → read_if reader (in_round (phrase_spelling a) ++ symbol s.OpenBrace ∷ ts) ≡ either_way (after_word w.Else rest) (read_else reader (tree_of a) found) (Some (when (tree_of a) (statements_of found) no_else, rest))
if_read reader a stands ts found rest is =
    let next : Expression → List Statement → List Token → ParseResult Statement = λ test found ts. either_way (after_word w.Else ts) (read_else reader test found) (Some (when test (statements_of found) no_else, ts)) in
    ap (λ o. on_read o (λ test ts. on_read (reader ts) (next test))) (test_read a stands ts)
    ∙ ap (λ o. on_read o (next (tree_of a))) is

choice_read : (reader : BlockReader) (a : Phrase) → IsWellFormed a → (block : Block) (rest : List Token) → ReadsBlock reader block rest → after_word w.Else rest ≡ None → read_action reader (action_spelling (choice a block) ++ rest) ≡ Some (tree_of_action (choice a block), rest)
choice_read reader a stands block rest is last =
    let test = tree_of a in
    let found = list_of_block block in
    ap (read_if reader) (block_then (phrase_spelling a) (block_spelling block) rest)
    ∙ if_read reader a stands (block_spelling block ++ symbol s.CloseBrace ∷ rest) found rest is
    ∙ ap (λ o. either_way o (read_else reader test found) (Some (when test (statements_of found) no_else, rest))) last
    ∙ ap (λ ss. Some (when test ss no_else, rest)) (block-list block)

choice_else_read : (reader : BlockReader) (a : Phrase) → IsWellFormed a → (block other : Block) (rest : List Token) → ReadsBlock reader block (word w.Else ∷ symbol s.OpenBrace ∷ (block_spelling other ++ symbol s.CloseBrace ∷ rest)) → ReadsBlock reader other rest → read_action reader (action_spelling (choice_else a block other) ++ rest) ≡ Some (tree_of_action (choice_else a block other), rest)
choice_else_read reader a stands block other rest is also =
    let test = tree_of a in
    let found = list_of_block block in
    let more = word w.Else ∷ symbol s.OpenBrace ∷ (block_spelling other ++ symbol s.CloseBrace ∷ rest) in
    let next : List Statement → List Token → ParseResult Statement = λ other ts. Some (when test (statements_of found) (else_block (statements_of other)), ts) in
    ap (read_if reader) (else_then (phrase_spelling a) (block_spelling block) (block_spelling other) rest)
    ∙ if_read reader a stands (block_spelling block ++ symbol s.CloseBrace ∷ more) found more is
    ∙ ap (λ o. on_read o next) also
    ∙ ap (λ ss. Some (when test ss (else_block (statements_of (list_of_block other))), rest)) (block-list block)
    ∙ ap (λ ss. Some (when test (trees_of_block block) (else_block ss), rest)) (block-list other)

looping_read : (reader : BlockReader) (a : Phrase) → IsWellFormed a → (block : Block) (rest : List Token) → ReadsBlock reader block rest → read_action reader (action_spelling (a_while a block) ++ rest) ≡ Some (tree_of_action (a_while a block), rest)
looping_read reader a stands block rest is =
    let next : Expression → List Statement → List Token → ParseResult Statement = λ test body ts. Some (while test (statements_of body), ts) in
    ap (read_while reader) (block_then (phrase_spelling a) (block_spelling block) rest)
    ∙ ap (λ o. on_read o (λ test ts. on_read (reader ts) (next test))) (test_read a stands (block_spelling block ++ symbol s.CloseBrace ∷ rest))
    ∙ ap (λ o. on_read o (next (tree_of a))) is
    ∙ ap (λ ss. Some (while (tree_of a) ss, rest)) (block-list block)

simple : (reader : BlockReader) (ts : List Token) → after_word w.If ts ≡ None → after_word w.While ts ≡ None → after_word w.Let ts ≡ None → after_word w.Return ts ≡ None → assign_head ts ≡ None → set_at ts ≡ None → read_action reader ts ≡ read_end do_ ts
simple reader ts a b c d e f = rw (a, b, c, d, e, f) refl

-- an expression, and the `;` behind it
end_then : (a : Phrase) (rest : List Token) → end_spelling a ++ rest ≡ phrase_spelling a ++ symbol s.Semicolon ∷ rest
end_then a rest = append_assoc (phrase_spelling a) (symbol s.Semicolon ∷ []) rest

doing_read : (reader : BlockReader) (a : Phrase) → IsWellFormed a → (rest : List Token) → read_action reader (end_spelling a ++ rest) ≡ Some (do_ (tree_of a), rest)
doing_read reader a stands rest =
    let ts = phrase_spelling a ++ symbol s.Semicolon ∷ rest in
    let none : (x : Word) → word_number x < 7 → after_word x ts ≡ None = λ x low. phrase_no_word x low a (symbol s.Semicolon ∷ rest) in
    ap (read_action reader) (end_then a rest)
    ∙ simple reader ts (none w.If (omega arith)) (none w.While (omega arith)) (none w.Let (omega arith)) (none w.Return (omega arith)) (phrase_not_assigned a rest) (phrase_not_set a rest)
    ∙ ap (read_end do_) (sym (end_then a rest))
    ∙ end_read a stands do_ rest

-- ---- what no statement begins with

no_end : (a : Action) (rest : List Token) → after_symbol s.CloseBrace (action_spelling a ++ rest) ≡ None
no_end (a_do a) rest = ap (after_symbol s.CloseBrace) (end_then a rest) ∙ phrase_no_brace a (symbol s.Semicolon ∷ rest)
no_end (a_let x a) rest = refl
no_end (an_assignment x a) rest = refl
no_end (a_set_field x a) rest = refl
no_end (choice a block) rest = refl
no_end (choice_else a block other) rest = refl
no_end (a_while a block) rest = refl
no_end (a_return a) rest = refl

no_else_word : (a : Action) (rest : List Token) → after_word w.Else (action_spelling a ++ rest) ≡ None
no_else_word (a_do a) rest = ap (after_word w.Else) (end_then a rest) ∙ phrase_no_word w.Else (omega arith) a (symbol s.Semicolon ∷ rest)
no_else_word (a_let x a) rest = refl
no_else_word (an_assignment x a) rest = refl
no_else_word (a_set_field x a) rest = refl
no_else_word (choice a block) rest = refl
no_else_word (choice_else a block other) rest = refl
no_else_word (a_while a block) rest = refl
no_else_word (a_return a) rest = refl

no_else_behind : (block : Block) (rest : List Token) → after_word w.Else (block_spelling block ++ symbol s.CloseBrace ∷ rest) ≡ None
no_else_behind closed rest = refl
no_else_behind (action_then a block) rest =
    ap (after_word w.Else) (append_assoc (action_spelling a) (block_spelling block) (symbol s.CloseBrace ∷ rest)) ∙ no_else_word a (block_spelling block ++ symbol s.CloseBrace ∷ rest)

-- ---- lengths

end_long : (a : Phrase) → 1 ≤ length (end_spelling a)
end_long a = omega (arith, length-append (phrase_spelling a) (symbol s.Semicolon ∷ []))

action_long : (a : Action) → 1 ≤ length (action_spelling a)
action_long (a_do a) = end_long a
action_long (a_let x a) = omega arith
action_long (an_assignment x a) = omega arith
action_long (a_set_field x a) = omega arith
action_long (choice a block) = omega arith
action_long (choice_else a block other) = omega arith
action_long (a_while a block) = omega arith
action_long (a_return a) = omega arith

braces_long : (ts : List Token) → length (in_braces ts) ≡ length ts + 2
braces_long ts = omega (arith, length-append ts (symbol s.CloseBrace ∷ []))

-- a block is shorter than its statement
block_long : (test body : List Token) → length body < length (in_round test ++ in_braces body)
block_long test body = omega (arith, length-append (in_round test) (in_braces body), braces_long body)

else_long : (test body other : List Token) → length body + length other < length (in_round test ++ (in_braces body ++ word w.Else ∷ in_braces other))
else_long test body other = omega (arith, length-append (in_round test) (in_braces body ++ word w.Else ∷ in_braces other), length-append (in_braces body) (word w.Else ∷ in_braces other), braces_long body, braces_long other)

-- ---- statements and blocks

-- with room for as many blocks one in another as there are tokens
mutual
  action_read : (a : Action) → IsWellFormedAction a → (room : ℕ) (rest : List Token) → length (action_spelling a) ≤ room → after_word w.Else rest ≡ None → read_action (read_block room) (action_spelling a ++ rest) ≡ Some (tree_of_action a, rest)
  action_read (a_let x a) stands room rest fits last = end_read a stands (declare x) rest
  action_read (an_assignment x a) stands room rest fits last = end_read a stands (assign x) rest
  action_read (a_set_field x a) stands room rest fits last = end_read a stands (set_field x) rest
  action_read (a_return a) stands room rest fits last = end_read a stands give rest
  action_read (a_do a) stands room rest fits last = doing_read (read_block room) a stands rest
  action_read (choice a block) stands zero rest fits last = absurd (omega arith)
  action_read (choice a block) stands (suc room) rest fits last =
      let low = block_long (phrase_spelling a) (block_spelling block) in
      choice_read (read_block (suc room)) a stands.0 block rest (actions_read block stands.1 room (length (block_spelling block ++ symbol s.CloseBrace ∷ rest)) [] rest (omega (arith, low)) (omega (arith, length-append (block_spelling block) (symbol s.CloseBrace ∷ rest)))) last
  action_read (choice_else a block other) stands zero rest fits last = absurd (omega arith)
  action_read (choice_else a block other) stands (suc room) rest fits last =
      let low = else_long (phrase_spelling a) (block_spelling block) (block_spelling other) in
      let more = word w.Else ∷ symbol s.OpenBrace ∷ (block_spelling other ++ symbol s.CloseBrace ∷ rest) in
      choice_else_read (read_block (suc room)) a stands.0 block other rest
      (actions_read block stands.1 room (length (block_spelling block ++ symbol s.CloseBrace ∷ more)) [] more (omega (arith, low)) (omega (arith, length-append (block_spelling block) (symbol s.CloseBrace ∷ more))))
      (actions_read other stands.2 room (length (block_spelling other ++ symbol s.CloseBrace ∷ rest)) [] rest (omega (arith, low)) (omega (arith, length-append (block_spelling other) (symbol s.CloseBrace ∷ rest))))
  action_read (a_while a block) stands zero rest fits last = absurd (omega arith)
  action_read (a_while a block) stands (suc room) rest fits last =
      let low = block_long (phrase_spelling a) (block_spelling block) in
      looping_read (read_block (suc room)) a stands.0 block rest (actions_read block stands.1 room (length (block_spelling block ++ symbol s.CloseBrace ∷ rest)) [] rest (omega (arith, low)) (omega (arith, length-append (block_spelling block) (symbol s.CloseBrace ∷ rest))))

  actions_read : (block : Block) → IsWellFormedBlock block → (room turns : ℕ) (found : List Statement) (rest : List Token) → length (block_spelling block) ≤ room → length (block_spelling block) < turns → read_actions (read_block room) turns found (block_spelling block ++ symbol s.CloseBrace ∷ rest) ≡ Some (found ++ list_of_block block, rest)
  actions_read block stands room zero found rest fits many = absurd (omega arith)
  actions_read closed stands room (suc turns) found rest fits many = ap (λ ss. Some (ss, rest)) (sym (append-nil found))
  actions_read (action_then a block) stands room (suc turns) found rest fits many =
      let long = length-append (action_spelling a) (block_spelling block) in
      let one = action_long a in
      let ts = block_spelling block ++ symbol s.CloseBrace ∷ rest in
      ap (read_actions (read_block room) (suc turns) found) (append_assoc (action_spelling a) (block_spelling block) (symbol s.CloseBrace ∷ rest))
      ∙ ap (λ o. either_way o (λ rest. Some (found, rest)) (on_read (read_action (read_block room) (action_spelling a ++ ts)) (λ a. read_actions (read_block room) turns (found ++ a ∷ [])))) (no_end a ts)
      ∙ ap (λ o. on_read o (λ a. read_actions (read_block room) turns (found ++ a ∷ []))) (action_read a stands.0 room ts (omega (arith, long)) (no_else_behind block rest))
      ∙ actions_read block stands.1 room turns (found ++ tree_of_action a ∷ []) rest (omega (arith, long)) (omega (arith, long, one))
      ∙ ap (λ ss. Some (ss, rest)) (append_assoc found (tree_of_action a ∷ []) (list_of_block block))

-- a block, behind its opening brace
pub block_read : (block : Block) → IsWellFormedBlock block → (room : ℕ) (rest : List Token) → length (block_spelling block) < room → read_block room (block_spelling block ++ symbol s.CloseBrace ∷ rest) ≡ Some (list_of_block block, rest)
block_read block stands zero rest fits = absurd (omega arith)
block_read block stands (suc room) rest fits =
    let long = length-append (block_spelling block) (symbol s.CloseBrace ∷ rest) in
    actions_read block stands room (length (block_spelling block ++ symbol s.CloseBrace ∷ rest)) [] rest (omega arith) (omega (arith, long))
