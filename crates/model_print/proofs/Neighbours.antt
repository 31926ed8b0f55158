-- What stands next to what in a program's tokens: behind a number no name, word or number, and behind a symbol that `=` or `/`
-- would make longer the front of an expression.
use Rattle.std.proofs.Common.{◌≡◌, Bool, true, false, List, [], ◌∷◌, ◌++◌, refl, sym, subst, append_assoc}
use Rattle.std.specs.Prelude.{not}
use Rattle.model_tokens.specs.declared.token.Token.{Token}
use Rattle.model_tokens.specs.declared.token.Token.TheVariants.{Name as name, ClassName as class_name, Number as number, Text as literal, Word as word, Symbol as symbol}
use Rattle.model_tokens.specs.declared.token.Word.TheVariants as w
use Rattle.model_tokens.specs.declared.token.Symbol.{Symbol}
use Rattle.model_tokens.specs.declared.token.Symbol.TheVariants as s
use Rattle.model_tree.specs.declared.tree.UnaryOp.{UnaryOp}
use Rattle.model_tree.specs.declared.tree.UnaryOp.TheVariants as sign
use Rattle.model_tree.specs.declared.tree.BinaryOp.{BinaryOp}
use Rattle.model_tree.specs.declared.tree.BinaryOp.TheVariants as op
use Rattle.model_tree.specs.Tree.{Name}
use Rattle.model_tree.specs.Grammar.{Phrase, a_number, a_text, a_nil, a_bool, a_this, a_field, a_local, a_builtin, a_create, a_list, brackets, a_call, a_future, a_unary, a_binary, Phrases, no_phrases, phrase, in_round, in_braces, sign_symbol, op_symbol, truth_word, phrase_spelling, args_spelling, more_spelling, Action, a_let, an_assignment, a_set_field, choice, choice_else, a_while, a_return, a_do, Block, closed, action_then, end_spelling, action_spelling, block_spelling, MethodForm, ClassForm, further_spelling, params_spelling, method_spelling, methods_spelling, fields_spelling, class_spelling, classes_spelling}
use Rattle.model_print.specs.Canonical.{is_worded}

-- the tokens that an expression may begin with
abbrev pub begins : Token → Bool
begins (name x) = true
begins (number n) = true
begins (literal t) = true
begins (word w) = true
begins (symbol s.OpenRound) = true
begins (symbol s.OpenSquare) = true
begins (symbol s.Minus) = true
begins (symbol s.Not) = true
begins t = false

-- whether a token may stand behind another
abbrev pub may_follow : Token → Token → Bool
may_follow (number n) u = not (is_worded u)
may_follow (symbol s.Assign) u = begins u
may_follow (symbol s.Not) u = begins u
may_follow (symbol s.Less) u = begins u
may_follow (symbol s.Greater) u = begins u
may_follow (symbol s.Divide) u = begins u
may_follow t u = true

-- each may stand behind the one before it, and the first behind this
abbrev pub Chain : Token → List Token → Type 0
Chain t [] = Unit {0}
Chain t (u ∷ ts) = (may_follow t u ≡ true) × Chain u ts

-- any token may stand behind this, or any with which an expression may begin
abbrev pub Free : Token → Type 0
Free t = (u : Token) → may_follow t u ≡ true

abbrev Opens : Token → Type 0
Opens t = (u : Token) → begins u ≡ true → may_follow t u ≡ true

free_opens : (t : Token) → Free t → Opens t
free_opens t free u h = free u

-- the tokens that an expression may end with
abbrev ends : Token → Bool
ends (name x) = true
ends (number n) = true
ends (literal t) = true
ends (word w) = true
ends (symbol s.CloseRound) = true
ends (symbol s.CloseSquare) = true
ends t = false

-- they may stand behind an expression
abbrev Ended : List Token → Type 0
Ended ts = (t : Token) → ends t ≡ true → Chain t ts

-- they may stand behind a statement or a class
abbrev After : List Token → Type 0
After ts = (t : Token) → Free t → Chain t ts

symbol_follows : (t : Token) (o : Symbol) → ends t ≡ true → may_follow t (symbol o) ≡ true
symbol_follows (name x) o h = refl
symbol_follows (class_name x) o h = refl
symbol_follows (number n) o h = refl
symbol_follows (literal t) o h = refl
symbol_follows (word w) o h = refl
symbol_follows (symbol s.CloseRound) o h = refl
symbol_follows (symbol s.CloseSquare) o h = refl
symbol_follows (symbol s.Assign) o h = cc
symbol_follows (symbol s.Not) o h = cc
symbol_follows (symbol s.Less) o h = cc
symbol_follows (symbol s.Greater) o h = cc
symbol_follows (symbol s.Divide) o h = cc
symbol_follows (symbol p) o h = refl

ended_symbol : (o : Symbol) (ts : List Token) → Chain (symbol o) ts → Ended (symbol o ∷ ts)
ended_symbol o ts h t e = (symbol_follows t o e, h)

sign_begins : (o : UnaryOp) → begins (symbol (sign_symbol o)) ≡ true
sign_begins sign.Minus = refl
sign_begins sign.Not = refl

sign_opens : (o : UnaryOp) → Opens (symbol (sign_symbol o))
sign_opens sign.Minus u h = refl
sign_opens sign.Not u h = h

op_opens : (o : BinaryOp) → Opens (symbol (op_symbol o))
op_opens op.Or u h = refl
op_opens op.And u h = refl
op_opens op.Same u h = refl
op_opens op.Differs u h = refl
op_opens op.Less u h = h
op_opens op.AtMost u h = refl
op_opens op.Greater u h = h
op_opens op.AtLeast u h = refl
op_opens op.Plus u h = refl
op_opens op.Minus u h = refl
op_opens op.Times u h = refl
op_opens op.Divide u h = h
op_opens op.Rest u h = refl

bool_chain : (b : Bool) (t : Token) (rest : List Token) → Opens t → Ended rest → Chain t (truth_word b ∷ rest)
bool_chain true t rest o e = (o (word w.True) refl, e (word w.True) refl)
bool_chain false t rest o e = (o (word w.False) refl, e (word w.False) refl)

-- behind an opening symbol, tokens that a closing one ends
inside : (t : Token) (a : List Token) (o : Symbol) (rest : List Token) → Chain t (a ++ symbol o ∷ rest) → Chain t ((a ++ symbol o ∷ []) ++ rest)
inside t a o rest h = subst (Chain t) (sym (append_assoc a (symbol o ∷ []) rest)) h

regroup : (t : Token) (a b rest : List Token) → Chain t (a ++ (b ++ rest)) → Chain t ((a ++ b) ++ rest)
regroup t a b rest h = subst (Chain t) (sym (append_assoc a b rest)) h

-- ---- expressions

mutual
  phrase_chain : (p : Phrase) (t : Token) (rest : List Token) → Opens t → Ended rest → Chain t (phrase_spelling p ++ rest)
  phrase_chain (a_number n) t rest o e = (o (number n) refl, e (number n) refl)
  phrase_chain (a_text x) t rest o e = (o (literal x) refl, e (literal x) refl)
  phrase_chain a_nil t rest o e = (o (word w.Nil) refl, e (word w.Nil) refl)
  phrase_chain (a_bool b) t rest o e = bool_chain b t rest o e
  phrase_chain a_this t rest o e = (o (word w.This) refl, e (word w.This) refl)
  phrase_chain (a_field x) t rest o e = (o (word w.This) refl, (refl, (refl, e (name x) refl)))
  phrase_chain (a_local x) t rest o e = (o (name x) refl, e (name x) refl)
  phrase_chain (a_builtin x args) t rest o e = (o (name x) refl, (refl, args_chain args (symbol s.OpenRound) s.CloseRound rest (λ u h. refl) refl (e (symbol s.CloseRound) refl)))
  phrase_chain (a_create x options) t rest o e = (
    o (word w.Create) refl,
    (
      refl,
      (
        refl,
        (
          refl,
          inside (symbol s.Comma) (phrase_spelling options) s.CloseRound rest
              (phrase_chain options (symbol s.Comma) (symbol s.CloseRound ∷ rest) (λ u h. refl) (ended_symbol s.CloseRound rest (e (symbol s.CloseRound) refl))),
        ),
      ),
    ),
  )
  phrase_chain (a_list items) t rest o e = (
    o (symbol s.OpenSquare) refl,
    args_chain items (symbol s.OpenSquare) s.CloseSquare rest (λ u h. refl) refl (e (symbol s.CloseSquare) refl),
  )
  phrase_chain (brackets a) t rest o e = (
    o (symbol s.OpenRound) refl,
    inside (symbol s.OpenRound) (phrase_spelling a) s.CloseRound rest
        (phrase_chain a (symbol s.OpenRound) (symbol s.CloseRound ∷ rest) (λ u h. refl) (ended_symbol s.CloseRound rest (e (symbol s.CloseRound) refl))),
  )
  phrase_chain (a_call object x args) t rest o e =
      regroup t (phrase_spelling object) (symbol s.Dot ∷ name x ∷ in_round (args_spelling args)) rest
      (phrase_chain object t (symbol s.Dot ∷ name x ∷ (in_round (args_spelling args) ++ rest)) o
      (ended_symbol s.Dot (name x ∷ (in_round (args_spelling args) ++ rest)) (refl, (refl, args_chain args (symbol s.OpenRound) s.CloseRound rest (λ u h. refl) refl (e (symbol s.CloseRound) refl)))))
  phrase_chain (a_future object delay x args) t rest o e =
      let called = symbol s.Dot ∷ name x ∷ in_round (args_spelling args) in
      regroup t (phrase_spelling object) (symbol s.Dot ∷ word w.Future ∷ (in_round (phrase_spelling delay) ++ called)) rest
      (phrase_chain object t (symbol s.Dot ∷ word w.Future ∷ ((in_round (phrase_spelling delay) ++ called) ++ rest)) o
      (ended_symbol s.Dot (word w.Future ∷ ((in_round (phrase_spelling delay) ++ called) ++ rest)) (
        refl,
        regroup (word w.Future) (in_round (phrase_spelling delay)) called rest (
          refl,
          inside (symbol s.OpenRound) (phrase_spelling delay) s.CloseRound (called ++ rest)
              (phrase_chain delay (symbol s.OpenRound) (symbol s.CloseRound ∷ (called ++ rest)) (λ u h. refl)
              (ended_symbol s.CloseRound (called ++ rest) (refl, (refl, (refl, args_chain args (symbol s.OpenRound) s.CloseRound rest (λ u h. refl) refl (e (symbol s.CloseRound) refl)))))),
        ),
      )))
  phrase_chain (a_unary o a) t rest op e = (op (symbol (sign_symbol o)) (sign_begins o), phrase_chain a (symbol (sign_symbol o)) rest (sign_opens o) e)
  phrase_chain (a_binary o a b) t rest op e =
      regroup t (phrase_spelling a) (symbol (op_symbol o) ∷ phrase_spelling b) rest
      (phrase_chain a t (symbol (op_symbol o) ∷ (phrase_spelling b ++ rest)) op
      (ended_symbol (op_symbol o) (phrase_spelling b ++ rest) (phrase_chain b (symbol (op_symbol o)) rest (op_opens o) e)))

  -- arguments or items, and the bracket that closes them
  args_chain : (args : Phrases) (t : Token) (o : Symbol) (rest : List Token) → Opens t → may_follow t (symbol o) ≡ true → Chain (symbol o) rest → Chain t ((args_spelling args ++ symbol o ∷ []) ++ rest)
  args_chain no_phrases t o rest opens f h = (f, h)
  args_chain (phrase a more) t o rest opens f h =
      inside t (phrase_spelling a ++ more_spelling more) o rest
      (regroup t (phrase_spelling a) (more_spelling more) (symbol o ∷ rest)
      (phrase_chain a t (more_spelling more ++ symbol o ∷ rest) opens (more_ended more (symbol o ∷ rest) (ended_symbol o rest h))))

  more_ended : (args : Phrases) (rest : List Token) → Ended rest → Ended (more_spelling args ++ rest)
  more_ended no_phrases rest e = e
  more_ended (phrase a more) rest e =
      ended_symbol s.Comma ((phrase_spelling a ++ more_spelling more) ++ rest)
      (regroup (symbol s.Comma) (phrase_spelling a) (more_spelling more) rest
      (phrase_chain a (symbol s.Comma) (more_spelling more ++ rest) (λ u h. refl) (more_ended more rest e)))

-- ---- statements

end_chain : (p : Phrase) (t : Token) (rest : List Token) → Opens t → After rest → Chain t (end_spelling p ++ rest)
end_chain p t rest o h =
    inside t (phrase_spelling p) s.Semicolon rest
    (phrase_chain p t (symbol s.Semicolon ∷ rest) o (ended_symbol s.Semicolon rest (h (symbol s.Semicolon) (λ u. refl))))

assign_opens : Opens (symbol s.Assign)
assign_opens u h = h

-- braces round what may stand in them, behind a closing bracket, a brace or a word
braces_chain : (a rest : List Token) → After (a ++ symbol s.CloseBrace ∷ rest) → Chain (symbol s.OpenBrace) ((a ++ symbol s.CloseBrace ∷ []) ++ rest)
braces_chain a rest h = inside (symbol s.OpenBrace) a s.CloseBrace rest (h (symbol s.OpenBrace) (λ u. refl))

tested_chain : (t : Token) (p : Phrase) (body rest : List Token) → Free t → Chain (symbol s.CloseRound) (body ++ rest) → Chain t ((in_round (phrase_spelling p) ++ body) ++ rest)
tested_chain t p body rest free h =
    regroup t (in_round (phrase_spelling p)) body rest (
      free (symbol s.OpenRound),
      inside (symbol s.OpenRound) (phrase_spelling p) s.CloseRound (body ++ rest)
          (phrase_chain p (symbol s.OpenRound) (symbol s.CloseRound ∷ (body ++ rest)) (λ u h. refl) (ended_symbol s.CloseRound (body ++ rest) h)),
    )

closing_after : (rest : List Token) → After rest → After (symbol s.CloseBrace ∷ rest)
closing_after rest h t free = (free (symbol s.CloseBrace), h (symbol s.CloseBrace) (λ u. refl))

mutual
  action_after : (a : Action) (rest : List Token) → After rest → After (action_spelling a ++ rest)
  action_after (a_let x a) rest h t free = (free (word w.Let), (refl, (refl, end_chain a (symbol s.Assign) rest assign_opens h)))
  action_after (an_assignment x a) rest h t free = (free (name x), (refl, end_chain a (symbol s.Assign) rest assign_opens h))
  action_after (a_set_field x a) rest h t free = (free (word w.This), (refl, (refl, (refl, end_chain a (symbol s.Assign) rest assign_opens h))))
  action_after (choice a block) rest h t free =
      (free (word w.If), tested_chain (word w.If) a (in_braces (block_spelling block)) rest (λ u. refl) (refl, braces_chain (block_spelling block) rest (block_after block (symbol s.CloseBrace ∷ rest) (closing_after rest h))))
  action_after (choice_else a block other) rest h t free =
      let ending = in_braces (block_spelling other) in (
        free (word w.If),
        tested_chain (word w.If) a (in_braces (block_spelling block) ++ word w.Else ∷ ending) rest (λ u. refl)
            (regroup (symbol s.CloseRound) (in_braces (block_spelling block)) (word w.Else ∷ ending) rest
            (refl, braces_chain (block_spelling block) (word w.Else ∷ (ending ++ rest)) (block_after block (symbol s.CloseBrace ∷ word w.Else ∷ (ending ++ rest)) (closing_after (word w.Else ∷ (ending ++ rest)) (λ u f. (f (word w.Else), (refl, braces_chain (block_spelling other) rest (block_after other (symbol s.CloseBrace ∷ rest) (closing_after rest h))))))))),
      )
  action_after (a_while a block) rest h t free =
      (free (word w.While), tested_chain (word w.While) a (in_braces (block_spelling block)) rest (λ u. refl) (refl, braces_chain (block_spelling block) rest (block_after block (symbol s.CloseBrace ∷ rest) (closing_after rest h))))
  action_after (a_return a) rest h t free = (free (word w.Return), end_chain a (word w.Return) rest (λ u k. refl) h)
  action_after (a_do a) rest h t free = end_chain a t rest (free_opens t free) h

  block_after : (block : Block) (rest : List Token) → After rest → After (block_spelling block ++ rest)
  block_after closed rest h t free = h t free
  block_after (action_then a block) rest h t free =
      regroup t (action_spelling a) (block_spelling block) rest (action_after a (block_spelling block ++ rest) (block_after block rest h) t free)

-- ---- classes

further_chain : (x : Name) (xs : List Name) (rest : List Token) → Chain (symbol s.CloseRound) rest → Chain (name x) (further_spelling xs ++ symbol s.CloseRound ∷ rest)
further_chain x [] rest h = (refl, h)
further_chain x (y ∷ xs) rest h = (refl, (refl, further_chain y xs rest h))

params_chain : (xs : List Name) (rest : List Token) → Chain (symbol s.CloseRound) rest → Chain (symbol s.OpenRound) (params_spelling xs ++ symbol s.CloseRound ∷ rest)
params_chain [] rest h = (refl, h)
params_chain (x ∷ xs) rest h = (refl, further_chain x xs rest h)

method_after : (m : MethodForm) (rest : List Token) → After rest → After (method_spelling m ++ rest)
method_after m rest h t free =
    let body = in_braces (block_spelling m.body) in (
      free (name m.name),
      regroup (name m.name) (in_round (params_spelling m.params)) body rest (
        refl,
        inside (symbol s.OpenRound) (params_spelling m.params) s.CloseRound (body ++ rest)
            (params_chain m.params (body ++ rest) (refl, braces_chain (block_spelling m.body) rest (block_after m.body (symbol s.CloseBrace ∷ rest) (closing_after rest h)))),
      ),
    )

methods_after : (ms : List MethodForm) (rest : List Token) → After rest → After (methods_spelling ms ++ rest)
methods_after [] rest h t free = h t free
methods_after (m ∷ ms) rest h t free =
    regroup t (method_spelling m) (methods_spelling ms) rest (method_after m (methods_spelling ms ++ rest) (methods_after ms rest h) t free)

fields_after : (xs : List Name) (rest : List Token) → After rest → After (fields_spelling xs ++ rest)
fields_after [] rest h t free = h t free
fields_after (x ∷ xs) rest h t free = (free (word w.Field), (refl, (refl, fields_after xs rest h (symbol s.Semicolon) (λ u. refl))))

class_after : (c : ClassForm) (rest : List Token) → After rest → After (class_spelling c ++ rest)
class_after c rest h t free =
    let members = fields_spelling c.fields ++ methods_spelling c.methods in
    let closing = symbol s.CloseBrace ∷ rest in
    let after : After (members ++ closing) = λ u f. (
    regroup u (fields_spelling c.fields) (methods_spelling c.methods) closing
    (fields_after c.fields (methods_spelling c.methods ++ closing) (methods_after c.methods closing (closing_after rest h)) u f)) in
    (free (word w.Class), (refl, (refl, braces_chain members rest after)))

classes_after : (cs : List ClassForm) → After (classes_spelling cs)
classes_after [] t free = tt
classes_after (c ∷ cs) t free = class_after c (classes_spelling cs) (classes_after cs) t free

-- a program's tokens, behind one that may stand anywhere
pub classes_chain : (cs : List ClassForm) → Chain (symbol s.Semicolon) (classes_spelling cs)
classes_chain cs = classes_after cs (symbol s.Semicolon) (λ u. refl)
