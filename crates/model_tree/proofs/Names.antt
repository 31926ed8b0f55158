-- The names of a program that a text is read as are short, since each is a token.
use Rattle.std.proofs.Common.{ℕ, Bool, List, [], ◌∷◌, ◌++◌, map, sym, subst, arith}
use Rattle.model_tokens.specs.declared.token.Token.{Token}
use Rattle.model_tokens.specs.declared.token.Token.TheVariants.{Name as name, ClassName as class_name, Word as word, Symbol as symbol}
use Rattle.model_tokens.specs.declared.token.Symbol.TheVariants as s
use Rattle.model_tokens.specs.declared.token.Word.TheVariants as w
use Rattle.model_tokens.specs.Spelling.{IsNamed, IsToken}
use Rattle.model_tokens.specs.Division.{Piece, blank, comment, a_token, ArePieces, tokens_of, Divides}
use Rattle.model_tree.specs.Tree.{Name, ProgramTree}
use Rattle.model_tree.specs.Names.{IsShortName, AreShort, HasShortNames, AllHaveShortNames, NamesAreShort, AllNamesAreShort, MethodNamesAreShort, ClassNamesAreShort}
use Rattle.model_tree.specs.Grammar.{Phrase, a_number, a_text, a_nil, a_bool, a_this, a_field, a_local, a_builtin, a_create, a_list, brackets, a_call, a_future, a_unary, a_binary, Phrases, no_phrases, phrase, in_round, in_braces, op_symbol, phrase_spelling, args_spelling, more_spelling, end_spelling, tree_of, trees_of, Action, a_let, an_assignment, a_set_field, choice, choice_else, a_while, a_return, a_do, Block, closed, action_then, action_spelling, block_spelling, tree_of_action, trees_of_block, MethodForm, ClassForm, further_spelling, params_spelling, method_spelling, methods_spelling, fields_spelling, class_spelling, classes_spelling, tree_of_method, tree_of_class}
use Rattle.model_tree.specs.Program.{IsRead, IsProgram}

abbrev AreTokens : List Token → Type 0
AreTokens [] = Unit {0}
AreTokens (t ∷ ts) = IsToken t × AreTokens ts

pieces-tokens : (ps : List Piece) → ArePieces ps → AreTokens (tokens_of ps)
pieces-tokens [] h = tt
pieces-tokens (blank b ∷ ps) h = pieces-tokens ps h.2
pieces-tokens (comment bs ∷ ps) h = pieces-tokens ps h.2
pieces-tokens (a_token t ∷ ps) h = (h.0, pieces-tokens ps h.2)

pub divided-tokens : (ts : List Token) (text : List ℕ) → Divides ts text → AreTokens ts
divided-tokens ts text d = subst AreTokens d.3 (pieces-tokens d.0 d.1)

front : (ts us : List Token) → AreTokens (ts ++ us) → AreTokens ts
front [] us h = tt
front (t ∷ ts) us h = (h.0, front ts us h.1)

back : (ts us : List Token) → AreTokens (ts ++ us) → AreTokens us
back [] us h = h
back (t ∷ ts) us h = back ts us h.1

short_named : (begins : ℕ → Bool) (x : Name) → IsNamed begins x → IsShortName x
short_named begins [] h = absurd h
short_named begins (b ∷ bs) h = omega (arith, h.2)

short : (x : Name) → IsToken (name x) → IsShortName x
short x h = short_named _ x h.0

short_class : (x : Name) → IsToken (class_name x) → IsShortName x
short_class x h = short_named _ x h

-- between round brackets
between : (ts : List Token) → AreTokens (in_round ts) → AreTokens ts
between ts h = front ts (symbol s.CloseRound ∷ []) h.1

mutual
  short_phrase : (p : Phrase) → AreTokens (phrase_spelling p) → HasShortNames (tree_of p)
  short_phrase (a_number n) h = tt
  short_phrase (a_text t) h = tt
  short_phrase a_nil h = tt
  short_phrase (a_bool b) h = tt
  short_phrase a_this h = tt
  short_phrase (a_field x) h = short x h.1.1.0
  short_phrase (a_local x) h = short x h.0
  short_phrase (a_builtin x args) h = (short x h.0, short_args args (between (args_spelling args) h.1))
  short_phrase (a_create x options) h =
      let class_part = between (class_name x ∷ symbol s.Comma ∷ phrase_spelling options) h.1 in
      (short_class x class_part.0, short_phrase options class_part.1.1)
  short_phrase (a_list items) h = short_args items (front (args_spelling items) (symbol s.CloseSquare ∷ []) h.1)
  short_phrase (brackets a) h = short_phrase a (between (phrase_spelling a) h)
  short_phrase (a_call object x args) h =
      let message : List Token = symbol s.Dot ∷ name x ∷ in_round (args_spelling args) in
      let behind = back (phrase_spelling object) message h in
      (short_phrase object (front (phrase_spelling object) message h), short x behind.1.0, short_args args (between (args_spelling args) behind.1.1))
  short_phrase (a_future object delay x args) h =
      let message : List Token = symbol s.Dot ∷ name x ∷ in_round (args_spelling args) in
      let later : List Token = symbol s.Dot ∷ word w.Future ∷ (in_round (phrase_spelling delay) ++ message) in
      let behind = back (phrase_spelling object) later h in
      let last = back (in_round (phrase_spelling delay)) message behind.1.1 in (
        short_phrase object (front (phrase_spelling object) later h),
        short_phrase delay (between (phrase_spelling delay) (front (in_round (phrase_spelling delay)) message behind.1.1)),
        short x last.1.0,
        short_args args (between (args_spelling args) last.1.1),
      )
  short_phrase (a_unary o a) h = short_phrase a h.1
  short_phrase (a_binary o a b) h =
      let right : List Token = symbol (op_symbol o) ∷ phrase_spelling b in
      (short_phrase a (front (phrase_spelling a) right h), short_phrase b (back (phrase_spelling a) right h).1)

  short_args : (args : Phrases) → AreTokens (args_spelling args) → AllHaveShortNames (trees_of args)
  short_args no_phrases h = tt
  short_args (phrase a more) h = (short_phrase a (front (phrase_spelling a) (more_spelling more) h), short_more more (back (phrase_spelling a) (more_spelling more) h))

  short_more : (args : Phrases) → AreTokens (more_spelling args) → AllHaveShortNames (trees_of args)
  short_more no_phrases h = tt
  short_more (phrase a more) h = (short_phrase a (front (phrase_spelling a) (more_spelling more) h.1), short_more more (back (phrase_spelling a) (more_spelling more) h.1))

short_end : (a : Phrase) → AreTokens (end_spelling a) → HasShortNames (tree_of a)
short_end a h = short_phrase a (front (phrase_spelling a) (symbol s.Semicolon ∷ []) h)

mutual
  short_action : (a : Action) → AreTokens (action_spelling a) → NamesAreShort (tree_of_action a)
  short_action (a_let x a) h = (short x h.1.0, short_end a h.1.1.1)
  short_action (an_assignment x a) h = (short x h.0, short_end a h.1.1)
  short_action (a_set_field x a) h = (short x h.1.1.0, short_end a h.1.1.1.1)
  short_action (choice a block) h =
      let body : List Token = in_braces (block_spelling block) in
      (short_phrase a (between (phrase_spelling a) (front (in_round (phrase_spelling a)) body h.1)), short_block block (front (block_spelling block) (symbol s.CloseBrace ∷ []) (back (in_round (phrase_spelling a)) body h.1).1), tt)
  short_action (choice_else a block other) h =
      let last : List Token = word w.Else ∷ in_braces (block_spelling other) in
      let body : List Token = in_braces (block_spelling block) ++ last in
      let behind = back (in_round (phrase_spelling a)) body h.1 in (
        short_phrase a (between (phrase_spelling a) (front (in_round (phrase_spelling a)) body h.1)),
        short_block block (front (block_spelling block) (symbol s.CloseBrace ∷ []) (front (in_braces (block_spelling block)) last behind).1),
        short_block other (front (block_spelling other) (symbol s.CloseBrace ∷ []) (back (in_braces (block_spelling block)) last behind).1.1),
      )
  short_action (a_while a block) h =
      let body : List Token = in_braces (block_spelling block) in
      (short_phrase a (between (phrase_spelling a) (front (in_round (phrase_spelling a)) body h.1)), short_block block (front (block_spelling block) (symbol s.CloseBrace ∷ []) (back (in_round (phrase_spelling a)) body h.1).1))
  short_action (a_return a) h = short_end a h.1
  short_action (a_do a) h = short_end a h

  short_block : (block : Block) → AreTokens (block_spelling block) → AllNamesAreShort (trees_of_block block)
  short_block closed h = tt
  short_block (action_then a block) h =
      (short_action a (front (action_spelling a) (block_spelling block) h), short_block block (back (action_spelling a) (block_spelling block) h))

short_further : (xs : List Name) → AreTokens (further_spelling xs) → AreShort xs
short_further [] h = tt
short_further (x ∷ xs) h = (short x h.1.0, short_further xs h.1.1)

short_params : (xs : List Name) → AreTokens (params_spelling xs) → AreShort xs
short_params [] h = tt
short_params (x ∷ xs) h = (short x h.0, short_further xs h.1)

short_methods : (ms : List MethodForm) → AreTokens (methods_spelling ms) → MethodNamesAreShort (map tree_of_method ms)
short_methods [] h = tt
short_methods (m ∷ ms) h =
    let body : List Token = in_braces (block_spelling m.body) in
    let own : AreTokens (method_spelling m) = front (method_spelling m) (methods_spelling ms) h in (
      (
        short m.name own.0,
        short_params m.params (between (params_spelling m.params) (front (in_round (params_spelling m.params)) body own.1)),
        short_block m.body (front (block_spelling m.body) (symbol s.CloseBrace ∷ []) (back (in_round (params_spelling m.params)) body own.1).1),
      ),
      short_methods ms (back (method_spelling m) (methods_spelling ms) h),
    )

short_fields : (xs : List Name) → AreTokens (fields_spelling xs) → AreShort xs
short_fields [] h = tt
short_fields (x ∷ xs) h = (short x h.1.0, short_fields xs h.1.1.1)

short_classes : (cs : List ClassForm) → AreTokens (classes_spelling cs) → ClassNamesAreShort (map tree_of_class cs)
short_classes [] h = tt
short_classes (c ∷ cs) h =
    let members : List Token = fields_spelling c.fields ++ methods_spelling c.methods in
    let own : AreTokens (class_spelling c) = front (class_spelling c) (classes_spelling cs) h in
    let held : AreTokens members = front members (symbol s.CloseBrace ∷ []) own.1.1.1 in (
      (
        short_class c.name own.1.0,
        short_fields c.fields (front (fields_spelling c.fields) (methods_spelling c.methods) held),
        short_methods c.methods (back (fields_spelling c.fields) (methods_spelling c.methods) held),
      ),
      short_classes cs (back (class_spelling c) (classes_spelling cs) h),
    )

read_short : (text : List ℕ) (tree : ProgramTree) → IsRead text tree → ClassNamesAreShort tree
read_short text tree read =
    let d = read.spelled.derives in
    let tokens : AreTokens (classes_spelling d.0) = subst AreTokens (sym d.3) (divided-tokens read.tokens text read.divides) in
    subst ClassNamesAreShort d.4 (short_classes d.0 tokens)

pub program-names : (tree : ProgramTree) → IsProgram tree → ClassNamesAreShort tree
program-names tree p = read_short p.0 tree p.1
