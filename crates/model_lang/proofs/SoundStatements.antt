-- Whatever the reader reads is spelled by the grammar: statements and blocks.
use Rattle.std.proofs.Common.{◌≡◌, ⊎_elim, ℕ, zero, suc, List, [], ◌∷◌, ◌++◌, length, Option, Some, sym, ap, ◌∙◌, append_assoc, append-nil}
use Rattle.model_tokens.specs.declared.token.Token.{Token}
use Rattle.model_tokens.specs.declared.token.Token.TheVariants.{Name as name, Word as word, Symbol as symbol}
use Rattle.model_tokens.specs.declared.token.Word.TheVariants as w
use Rattle.model_tokens.specs.declared.token.Symbol.TheVariants as s
use Rattle.model_tree.specs.Tree.{Name, Expression, Statement, declare, assign, set_field, when, while, give, do_, statements_of, no_else, else_block}
use Rattle.model_tree.specs.Grammar.{Phrase, IsWellFormed, phrase_spelling, tree_of, Action, a_let, an_assignment, a_set_field, choice, choice_else, a_while, a_return, a_do, Block, closed, action_then, IsWellFormedAction, IsWellFormedBlock, in_round, end_spelling, action_spelling, block_spelling, tree_of_action, trees_of_block}
use Rattle.model_lang.specs.Reader.{ParseResult, on_read, on_rest, either_way, on_found, after_word, after_symbol, assign_head, set_at, read_expression, read_ended, read_end, read_let, read_simple, read_test, read_else, read_if, read_while, read_action, read_actions, read_block}
use Rattle.model_lang.proofs.Fronts.{parts, apart, word_then, symbol_then, name_then, word_or, symbol_or, both_spelled, found_or}
use Rattle.model_lang.proofs.SoundExpressions.{expression_at_front}
use Rattle.model_lang.proofs.CompleteStatements.{BlockReader, guarded, block_then, else_then, list_of_block, block-list}

-- ---- what was at the front

abbrev EndFound : (Expression → Statement) → List Token → Statement → List Token → Type 0
EndFound make ts t rest = (a : Phrase) × IsWellFormed a × (end_spelling a ++ rest ≡ ts) × (make (tree_of a) ≡ t)

end_sound : (make : Expression → Statement) (ts : List Token) (t : Statement) (rest : List Token) → read_end make ts ≡ Some (t, rest) → EndFound make ts t rest
end_sound make ts t rest h =
    let next : Expression → List Token → ParseResult Expression = λ e ts. on_rest (after_symbol s.Semicolon ts) (λ ts. Some (e, ts)) in
    let q = parts (read_ended ts) (λ e ts. Some (make e, ts)) (t, rest) h in
    let f = expression_at_front ts next q.0 q.1 in
    let c = symbol_then s.Semicolon f.2 (λ ts. Some (tree_of f.0, ts)) q.0 f.4 in
    let each = apart (tree_of f.0) q.0.0 c.0 q.0.1 c.2 in
    let made = apart (make q.0.0) t q.0.1 rest q.2 in
    let at : phrase_spelling f.0 ++ symbol s.Semicolon ∷ rest ≡ ts = cc (f.3, c.1, each.1, made.1) in
    (f.0, f.1, append_assoc (phrase_spelling f.0) (symbol s.Semicolon ∷ []) rest ∙ at, ap make each.0 ∙ made.0)

test_front : {B : Type 0} (ts : List Token) (next : Expression → List Token → Option B) (y : B) → on_read (read_test ts) next ≡ Some y → (a : Phrase) × IsWellFormed a × (rest : List Token) × (in_round (phrase_spelling a) ++ symbol s.OpenBrace ∷ rest ≡ ts) × (next (tree_of a) rest ≡ Some y)
test_front ts next y h =
    let closed : Expression → List Token → ParseResult Expression = λ e ts. on_rest (after_symbol s.CloseRound ts) (λ ts. on_rest (after_symbol s.OpenBrace ts) (λ ts. Some (e, ts))) in
    let q = parts (read_test ts) next y h in
    let b = symbol_then s.OpenRound ts (λ ts. on_read (read_expression ts) closed) q.0 q.1 in
    let f = expression_at_front b.0 closed q.0 b.2 in
    let c = symbol_then s.CloseRound f.2 (λ ts. on_rest (after_symbol s.OpenBrace ts) (λ ts. Some (tree_of f.0, ts))) q.0 f.4 in
    let d = symbol_then s.OpenBrace c.0 (λ ts. Some (tree_of f.0, ts)) q.0 c.2 in
    let each = apart (tree_of f.0) q.0.0 d.0 q.0.1 d.2 in
    let at : symbol s.OpenRound ∷ (phrase_spelling f.0 ++ symbol s.CloseRound ∷ symbol s.OpenBrace ∷ q.0.1) ≡ ts = cc (b.1, f.3, c.1, d.1, each.1) in
    (f.0, f.1, q.0.1, ap (λ r. symbol s.OpenRound ∷ r) (append_assoc (phrase_spelling f.0) (symbol s.CloseRound ∷ []) (symbol s.OpenBrace ∷ q.0.1)) ∙ at, ap (λ t. next t q.0.1) each.0 ∙ q.2)

assigned_front : (ts : List Token) (p : Name × List Token) → assign_head ts ≡ Some p → name p.0 ∷ symbol s.Assign ∷ p.1 ≡ ts
assigned_front ts p h =
    let x = name_then ts (λ x ts. on_rest (after_symbol s.Assign ts) (λ ts. Some (x, ts))) p h in
    let b = symbol_then s.Assign x.1 (λ ts. Some (x.0, ts)) p x.3 in
    let each = apart x.0 p.0 b.0 p.1 b.2 in
    cc (x.2, b.1, each.0, each.1)

set_front : (ts : List Token) (p : Name × List Token) → set_at ts ≡ Some p → word w.This ∷ symbol s.Dot ∷ name p.0 ∷ symbol s.Assign ∷ p.1 ≡ ts
set_front ts p h =
    let a = word_then w.This ts (λ ts. on_rest (after_symbol s.Dot ts) assign_head) p h in
    let b = symbol_then s.Dot a.0 assign_head p a.2 in
    cc (a.1, b.1, assigned_front b.0 p b.2)

-- a reader of blocks that reads what the grammar spells
record IsBlockReader (reader : BlockReader) : Type 0 where
  by : (ts : List Token) (found : List Statement) (rest : List Token) → reader ts ≡ Some (found, rest) → (block : Block) × IsWellFormedBlock block × (block_spelling block ++ symbol s.CloseBrace ∷ rest ≡ ts) × (list_of_block block ≡ found)

block_front : {B : Type 0} (reader : BlockReader) → IsBlockReader reader → (ts : List Token) (next : List Statement → List Token → Option B) (y : B) → on_read (reader ts) next ≡ Some y → (block : Block) × IsWellFormedBlock block × (rest : List Token) × (block_spelling block ++ symbol s.CloseBrace ∷ rest ≡ ts) × (next (list_of_block block) rest ≡ Some y)
block_front reader sound ts next y h =
    let q = parts (reader ts) next y h in
    let f = sound.by ts q.0.0 q.0.1 q.1 in
    (f.0, f.1, q.0.1, f.2, ap (λ found. next found q.0.1) f.3 ∙ q.2)

-- ---- the forms

abbrev ActionFound : List Token → Statement → List Token → Type 0
ActionFound ts t rest = (a : Action) × IsWellFormedAction a × (action_spelling a ++ rest ≡ ts) × (tree_of_action a ≡ t)

let_sound : (ts : List Token) (t : Statement) (rest all : List Token) → read_let ts ≡ Some (t, rest) → word w.Let ∷ ts ≡ all → ActionFound all t rest
let_sound ts t rest all h p =
    let x = name_then ts (λ x ts. on_rest (after_symbol s.Assign ts) (read_end (declare x))) (t, rest) h in
    let b = symbol_then s.Assign x.1 (read_end (declare x.0)) (t, rest) x.3 in
    let f = end_sound (declare x.0) b.0 t rest b.2 in
    (a_let x.0 f.0, f.1, cc (p, x.2, b.1, f.2), f.3)

give_sound : (ts : List Token) (t : Statement) (rest all : List Token) → read_end give ts ≡ Some (t, rest) → word w.Return ∷ ts ≡ all → ActionFound all t rest
give_sound ts t rest all h p =
    let f = end_sound give ts t rest h in
    (a_return f.0, f.1, cc (p, f.2), f.3)

do_sound : (ts : List Token) (t : Statement) (rest : List Token) → read_end do_ ts ≡ Some (t, rest) → ActionFound ts t rest
do_sound ts t rest h =
    let f = end_sound do_ ts t rest h in
    (a_do f.0, f.1, f.2, f.3)

set_sound : (ts : List Token) (t : Statement) (rest : List Token) → on_found (set_at ts) (λ x. read_end (set_field x)) (read_end do_ ts) ≡ Some (t, rest) → ActionFound ts t rest
set_sound ts t rest h =
    ⊎_elim
    (λ q.
    let f = end_sound (set_field q.0.0) q.0.1 t rest q.2 in
    (a_set_field q.0.0 f.0, f.1, cc (set_front ts q.0 q.1, f.2), f.3))
    (λ k. do_sound ts t rest k.1)
    (found_or (set_at ts) (λ x. read_end (set_field x)) (read_end do_ ts) (Some (t, rest)) h)

simple_sound : (ts : List Token) (t : Statement) (rest : List Token) → read_simple ts ≡ Some (t, rest) → ActionFound ts t rest
simple_sound ts t rest h =
    ⊎_elim
    (λ q.
    let f = end_sound (assign q.0.0) q.0.1 t rest q.2 in
    (an_assignment q.0.0 f.0, f.1, cc (assigned_front ts q.0 q.1, f.2), f.3))
    (λ k. set_sound ts t rest k.1)
    (found_or (assign_head ts) (λ x. read_end (assign x)) (on_found (set_at ts) (λ x. read_end (set_field x)) (read_end do_ ts)) (Some (t, rest)) h)

-- a test and a block were at the front
guarded_front : {B : Type 0} (reader : BlockReader) → IsBlockReader reader → (ts : List Token) (next : Expression → List Statement → List Token → Option B) (y : B) → on_read (read_test ts) (λ test ts. on_read (reader ts) (next test)) ≡ Some y → (a : Phrase) × IsWellFormed a × (block : Block) × IsWellFormedBlock block × (rest : List Token) × (guarded (phrase_spelling a) (block_spelling block) rest ≡ ts) × (next (tree_of a) (list_of_block block) rest ≡ Some y)
guarded_front reader sound ts next y h =
    let f = test_front ts (λ test ts. on_read (reader ts) (next test)) y h in
    let b = block_front reader sound f.2 (next (tree_of f.0)) y f.4 in
    let at : guarded (phrase_spelling f.0) (block_spelling b.0) b.2 ≡ ts = cc (f.3, b.3) in
    (f.0, f.1, b.0, b.1, b.2, at, b.4)

choice_sound : (a : Phrase) (block : Block) (t : Statement) (after rest all : List Token) → IsWellFormed a → IsWellFormedBlock block → ◌≡◌ {A = ParseResult Statement} (Some (when (tree_of a) (statements_of (list_of_block block)) no_else, after)) (Some (t, rest)) → word w.If ∷ guarded (phrase_spelling a) (block_spelling block) after ≡ all → ActionFound all t rest
choice_sound a block t after rest all stands also h p =
    let each = apart (when (tree_of a) (statements_of (list_of_block block)) no_else) t after rest h in (
      choice a block,
      (stands, also),
      ap (λ r. word w.If ∷ r) (block_then (phrase_spelling a) (block_spelling block) rest) ∙ ap (λ r. word w.If ∷ guarded (phrase_spelling a) (block_spelling block) r) (sym each.1) ∙ p,
      ap (λ ss. when (tree_of a) ss no_else) (sym (block-list block)) ∙ each.0,
    )

else_found : (a : Phrase) (block other : Block) (t : Statement) (ts after rest all : List Token) → IsWellFormed a → IsWellFormedBlock block → IsWellFormedBlock other → symbol s.OpenBrace ∷ (block_spelling other ++ symbol s.CloseBrace ∷ after) ≡ ts → ◌≡◌ {A = ParseResult Statement} (Some (when (tree_of a) (statements_of (list_of_block block)) (else_block (statements_of (list_of_block other))), after)) (Some (t, rest)) → word w.If ∷ guarded (phrase_spelling a) (block_spelling block) (word w.Else ∷ ts) ≡ all → ActionFound all t rest
else_found a block other t ts after rest all stands also last q h p =
    let found : List Statement → Statement = λ ss. when (tree_of a) (statements_of (list_of_block block)) (else_block (statements_of ss)) in
    let each = apart (found (list_of_block other)) t after rest h in
    let more : symbol s.OpenBrace ∷ (block_spelling other ++ symbol s.CloseBrace ∷ rest) ≡ ts = cc (q, each.1) in (
      choice_else a block other,
      (stands, also, last),
      ap (λ r. word w.If ∷ r) (else_then (phrase_spelling a) (block_spelling block) (block_spelling other) rest) ∙ ap (λ r. word w.If ∷ guarded (phrase_spelling a) (block_spelling block) (word w.Else ∷ r)) more ∙ p,
      ap (λ ss. when (tree_of a) ss (else_block (trees_of_block other))) (sym (block-list block)) ∙ ap (λ ss. when (tree_of a) (statements_of (list_of_block block)) (else_block ss)) (sym (block-list other)) ∙ each.0,
    )

else_sound : (reader : BlockReader) → IsBlockReader reader → (a : Phrase) (block : Block) (t : Statement) (ts rest all : List Token) → IsWellFormed a → IsWellFormedBlock block → read_else reader (tree_of a) (list_of_block block) ts ≡ Some (t, rest) → word w.If ∷ guarded (phrase_spelling a) (block_spelling block) (word w.Else ∷ ts) ≡ all → ActionFound all t rest
else_sound reader sound a block t ts rest all stands also h p =
    let next : List Statement → List Token → ParseResult Statement = λ found ts. Some (when (tree_of a) (statements_of (list_of_block block)) (else_block (statements_of found)), ts) in
    let b = symbol_then s.OpenBrace ts (λ ts. on_read (reader ts) next) (t, rest) h in
    let o = block_front reader sound b.0 next (t, rest) b.2 in
    else_found a block o.0 t ts o.2 rest all stands also o.1 (cc (b.1, o.3)) o.4 p

if_found : (reader : BlockReader) → IsBlockReader reader → (a : Phrase) (block : Block) (t : Statement) (after rest all : List Token) → IsWellFormed a → IsWellFormedBlock block → either_way (after_word w.Else after) (read_else reader (tree_of a) (list_of_block block)) (Some (when (tree_of a) (statements_of (list_of_block block)) no_else, after)) ≡ Some (t, rest) → word w.If ∷ guarded (phrase_spelling a) (block_spelling block) after ≡ all → ActionFound all t rest
if_found reader sound a block t after rest all stands also h p =
    ⊎_elim
    (λ e. else_sound reader sound a block t e.0 rest all stands also e.2 (ap (λ r. word w.If ∷ guarded (phrase_spelling a) (block_spelling block) r) e.1 ∙ p))
    (λ k. choice_sound a block t after rest all stands also k p)
    (word_or w.Else after (read_else reader (tree_of a) (list_of_block block)) (Some (when (tree_of a) (statements_of (list_of_block block)) no_else, after)) (Some (t, rest)) h)

if_sound : (reader : BlockReader) → IsBlockReader reader → (ts : List Token) (t : Statement) (rest all : List Token) → read_if reader ts ≡ Some (t, rest) → word w.If ∷ ts ≡ all → ActionFound all t rest
if_sound reader sound ts t rest all h p =
    let next : Expression → List Statement → List Token → ParseResult Statement = λ test found ts. either_way (after_word w.Else ts) (read_else reader test found) (Some (when test (statements_of found) no_else, ts)) in
    let g = guarded_front reader sound ts next (t, rest) h in
    if_found reader sound g.0 g.2 t g.4 rest all g.1 g.3 g.6 (cc (g.5, p))

while_found : (a : Phrase) (block : Block) (t : Statement) (after rest all : List Token) → IsWellFormed a → IsWellFormedBlock block → ◌≡◌ {A = ParseResult Statement} (Some (while (tree_of a) (statements_of (list_of_block block)), after)) (Some (t, rest)) → word w.While ∷ guarded (phrase_spelling a) (block_spelling block) after ≡ all → ActionFound all t rest
while_found a block t after rest all stands also h p =
    let each = apart (while (tree_of a) (statements_of (list_of_block block))) t after rest h in (
      a_while a block,
      (stands, also),
      ap (λ r. word w.While ∷ r) (block_then (phrase_spelling a) (block_spelling block) rest) ∙ ap (λ r. word w.While ∷ guarded (phrase_spelling a) (block_spelling block) r) (sym each.1) ∙ p,
      ap (λ ss. while (tree_of a) ss) (sym (block-list block)) ∙ each.0,
    )

while_sound : (reader : BlockReader) → IsBlockReader reader → (ts : List Token) (t : Statement) (rest all : List Token) → read_while reader ts ≡ Some (t, rest) → word w.While ∷ ts ≡ all → ActionFound all t rest
while_sound reader sound ts t rest all h p =
    let g = guarded_front reader sound ts (λ test body ts. Some (while test (statements_of body), ts)) (t, rest) h in
    while_found g.0 g.2 t g.4 rest all g.1 g.3 g.6 (cc (g.5, p))

action_sound : (reader : BlockReader) → IsBlockReader reader → (ts : List Token) (t : Statement) (rest : List Token) → read_action reader ts ≡ Some (t, rest) → ActionFound ts t rest
action_sound reader sound ts t rest h =
    let other = either_way (after_word w.Return ts) (read_end give) (read_simple ts) in
    let more = either_way (after_word w.Let ts) read_let other in
    ⊎_elim
    (λ f. if_sound reader sound f.0 t rest ts f.2 f.1)
    (λ k. ⊎_elim
    (λ f. while_sound reader sound f.0 t rest ts f.2 f.1)
    (λ k. ⊎_elim
    (λ f. let_sound f.0 t rest ts f.2 f.1)
    (λ k. ⊎_elim
    (λ f. give_sound f.0 t rest ts f.2 f.1)
    (simple_sound ts t rest)
    (word_or w.Return ts (read_end give) (read_simple ts) (Some (t, rest)) k))
    (word_or w.Let ts read_let other (Some (t, rest)) k))
    (word_or w.While ts (read_while reader) more (Some (t, rest)) k))
    (word_or w.If ts (read_if reader) (either_way (after_word w.While ts) (read_while reader) more) (Some (t, rest)) h)

-- ---- blocks

abbrev ActionsFound : List Statement → List Token → List Statement → List Token → Type 0
ActionsFound found ts trees rest = (block : Block) × IsWellFormedBlock block × (block_spelling block ++ symbol s.CloseBrace ∷ rest ≡ ts) × (found ++ list_of_block block ≡ trees)

one_action : (found : List Statement) (t : Statement) (ts behind : List Token) (trees : List Statement) (rest : List Token) → ActionFound ts t behind → ActionsFound (found ++ t ∷ []) behind trees rest → ActionsFound found ts trees rest
one_action found t ts behind trees rest f l = (
  action_then f.0 l.0,
  (f.1, l.1),
  both_spelled (action_spelling f.0) (block_spelling l.0) (symbol s.CloseBrace ∷ rest) behind ts f.2 l.2,
  ap (λ t. found ++ t ∷ list_of_block l.0) f.3 ∙ sym (append_assoc found (t ∷ []) (list_of_block l.0)) ∙ l.3,
)

no_action : (found : List Statement) (ts after : List Token) (trees : List Statement) (rest : List Token) → symbol s.CloseBrace ∷ after ≡ ts → (found ≡ trees) × (after ≡ rest) → ActionsFound found ts trees rest
no_action found ts after trees rest p each = (closed, tt, ap (λ r. symbol s.CloseBrace ∷ r) (sym each.1) ∙ p, append-nil found ∙ each.0)

actions_sound : (reader : BlockReader) → IsBlockReader reader → (turns : ℕ) (found : List Statement) (ts : List Token) (trees : List Statement) (rest : List Token) → read_actions reader turns found ts ≡ Some (trees, rest) → ActionsFound found ts trees rest
actions_sound reader sound zero found ts trees rest h = cc
actions_sound reader sound (suc turns) found ts trees rest h =
    let next : Statement → List Token → ParseResult (List Statement) = λ a. read_actions reader turns (found ++ a ∷ []) in
    ⊎_elim
    (λ c. no_action found ts c.0 trees rest c.1 (apart found trees c.0 rest c.2))
    (λ k.
    let q = parts (read_action reader ts) next (trees, rest) k in
    one_action found q.0.0 ts q.0.1 trees rest (action_sound reader sound ts q.0.0 q.0.1 q.1) (actions_sound reader sound turns (found ++ q.0.0 ∷ []) q.0.1 trees rest q.2))
    (symbol_or s.CloseBrace ts (λ rest. Some (found, rest)) (on_read (read_action reader ts) next) (Some (trees, rest)) h)

block_reader : (room : ℕ) → IsBlockReader (read_block room)
block_reader zero = record { by = λ ts found rest h. cc }
block_reader (suc room) = record { by = λ ts found rest h. actions_sound (read_block room) (block_reader room) (length ts) [] ts found rest h }

-- a block that is read, behind its opening brace
pub block_at : {B : Type 0} (room : ℕ) (ts : List Token) (next : List Statement → List Token → Option B) (y : B) → on_read (read_block room ts) next ≡ Some y → (block : Block) × IsWellFormedBlock block × (rest : List Token) × (block_spelling block ++ symbol s.CloseBrace ∷ rest ≡ ts) × (next (list_of_block block) rest ≡ Some y)
block_at room = block_front (read_block room) (block_reader room)
