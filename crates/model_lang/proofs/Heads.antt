-- Heads that are read by themselves, and what is read behind them.
use Rattle.std.proofs.Common.{◌≡◌, List, Option, Some, None, refl}
use Rattle.model_tokens.specs.declared.token.Token.{Token}
use Rattle.model_tokens.specs.declared.token.Symbol.{Symbol}
use Rattle.model_tokens.specs.declared.token.Symbol.TheVariants as s
use Rattle.model_tree.specs.Tree.{Name, Expression, call, future, create, expressions_of}
use Rattle.model_lang.specs.Reader.{ParseResult, ExpressionReader, on_read, on_rest, after_symbol, name_at, class_name_at, read_args, call_head, message_head, create_head, read_call, read_message, read_create}

behind_then : {A B : Type 0} (o : Option (List Token)) (x : A) (next : A → List Token → Option B) → on_rest o (next x) ≡ on_read (on_rest o (λ ts. Some (x, ts))) next
behind_then None x next = refl
behind_then (Some ts) x next = refl

named_then : {B : Type 0} (sign : Symbol) (read : ParseResult Name) (next : Name → List Token → Option B) → on_read read (λ x ts. on_rest (after_symbol sign ts) (next x)) ≡ on_read (on_read read (λ x ts. on_rest (after_symbol sign ts) (λ ts. Some (x, ts)))) next
named_then sign None next = refl
named_then sign (Some p) next = behind_then (after_symbol sign p.1) p.0 next

opened_then : {A C : Type 0} (o : Option (List Token)) (read : List Token → Option C) (first : List Token → ParseResult A) (next : A → List Token → Option C) → ((ts : List Token) → read ts ≡ on_read (first ts) next) → on_rest o read ≡ on_read (on_rest o first) next
opened_then None read first next each = refl
opened_then (Some ts) read first next each = each ts

pub read_call-head : (inner : ExpressionReader) (object : Expression) (ts : List Token) → read_call inner object ts ≡ on_read (call_head ts) (λ x ts. on_read (read_args s.CloseRound inner ts) (λ args ts. Some (call object x (expressions_of args), ts)))
read_call-head inner object ts = named_then s.OpenRound (name_at ts) (λ x ts. on_read (read_args s.CloseRound inner ts) (λ args ts. Some (call object x (expressions_of args), ts)))

pub read_message-head : (inner : ExpressionReader) (object delay : Expression) (ts : List Token) → on_rest (after_symbol s.CloseRound ts) (read_message inner object delay) ≡ on_read (message_head ts) (λ x ts. on_read (read_args s.CloseRound inner ts) (λ args ts. Some (future object delay x (expressions_of args), ts)))
read_message-head inner object delay ts =
    let next : Name → List Token → ParseResult Expression = λ x ts. on_read (read_args s.CloseRound inner ts) (λ args ts. Some (future object delay x (expressions_of args), ts)) in
    opened_then (after_symbol s.CloseRound ts) (read_message inner object delay) (λ ts. on_rest (after_symbol s.Dot ts) call_head) next
    (λ ts. opened_then (after_symbol s.Dot ts) (λ ts. on_read (name_at ts) (λ x ts. on_rest (after_symbol s.OpenRound ts) (next x))) call_head next (λ ts. named_then s.OpenRound (name_at ts) next))

pub read_create-head : (inner : ExpressionReader) (ts : List Token) → read_create inner ts ≡ on_read (create_head ts) (λ x ts. on_read (inner ts) (λ e ts. on_rest (after_symbol s.CloseRound ts) (λ ts. Some (create x e, ts))))
read_create-head inner ts =
    let next : Name → List Token → ParseResult Expression = λ x ts. on_read (inner ts) (λ e ts. on_rest (after_symbol s.CloseRound ts) (λ ts. Some (create x e, ts))) in
    opened_then (after_symbol s.OpenRound ts) (λ ts. on_read (class_name_at ts) (λ x ts. on_rest (after_symbol s.Comma ts) (next x))) (λ ts. on_read (class_name_at ts) (λ x ts. on_rest (after_symbol s.Comma ts) (λ ts. Some (x, ts)))) next (λ ts. named_then s.Comma (class_name_at ts) next)

pub ruleset by_head = (read_call-head, read_message-head, read_create-head)
