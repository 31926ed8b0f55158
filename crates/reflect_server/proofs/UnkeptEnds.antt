-- A connection ends as Unkept only where its history has a call that was Unkept.
use Rattle.std.proofs.Common.{◌≡◌, ℕ, eqb, Bool, true, false, if◌then◌else◌, List, [], ◌∷◌, ◌++◌, refl, sym, ap, ◌∙◌, subst}
use Rattle.std.specs.List.{AllByRecursion}
use Rattle.tea_base.specs.declared.entry.SessionId.{SessionId}
use Rattle.run_steps.specs.Outside.{LinksTell}
use Rattle.reflector_core.specs.PlainSession.{PlainSession}
use Rattle.reflector_core.specs.Answer.{answer}
use Rattle.reflector_core.specs.declared.keeper.CallFault.TheVariants as fault
use Rattle.session_lock.specs.declared.knowledge.Item.{Item}
use Rattle.session_lock.specs.declared.knowledge.Item.TheVariants.{Did, Void, Unkept}
use Rattle.session_lock.specs.History.{after_item, has_unkept}
use Rattle.connection.specs.declared.ending.Ended.{Ended}
use Rattle.connection.specs.declared.ending.Ended.TheVariants as ended
use Rattle.connection.specs.Causes.{EndsExactly, EndsUnkept}
use Rattle.connection.specs.Exchanges.{Exchange, Answered, Unanswered, exchanges_from, exchanges_in}
use Rattle.reflect_server.specs.Connections.{ServedConnection, HasTalk}
use Rattle.reflect_server.specs.Reflects.{EndUnkeptIf}

-- some call was not kept
abbrev some_unkept : List Exchange → Bool
some_unkept [] = false
some_unkept (Answered request given ∷ rest) = some_unkept rest
some_unkept (Unanswered fault.WantOfMemory ∷ rest) = some_unkept rest
some_unkept (Unanswered fault.Unkept ∷ rest) = true

unkept_behind : (front rest : List Exchange) → some_unkept ((front ++ Unanswered fault.Unkept ∷ []) ++ rest) ≡ true
unkept_behind [] rest = refl
unkept_behind (Answered request given ∷ front) rest = unkept_behind front rest
unkept_behind (Unanswered fault.WantOfMemory ∷ front) rest = unkept_behind front rest
unkept_behind (Unanswered fault.Unkept ∷ front) rest = refl

did_skip : (own : Bool) (exchange : Exchange) (rest : List Exchange) → some_unkept (exchange ∷ rest) ≡ some_unkept rest → some_unkept ((if own then exchange ∷ [] else []) ++ rest) ≡ true → some_unkept rest ≡ true
did_skip true exchange rest same is = sym same ∙ is
did_skip false exchange rest same is = is

unkept_from : (s : PlainSession) (c : ℕ) (items : List Item) → some_unkept (exchanges_from s c items) ≡ true → has_unkept items ≡ true
unkept_from s c [] is = is
unkept_from s c (Did who request ∷ items) is =
    unkept_from (after_item s (Did who request)) c items
    (did_skip (eqb who c) (Answered request (answer s request).reply) (exchanges_from (after_item s (Did who request)) c items) refl is)
unkept_from s c (Void who ∷ items) is = unkept_from s c items (did_skip (eqb who c) (Unanswered fault.WantOfMemory) (exchanges_from s c items) refl is)
unkept_from s c (Unkept who ∷ items) is = refl

-- the caller of a connection that ends so has made such a call
pub ended_unkept : (opening : PlainSession) (history : List Item) (c : ℕ) (how : Ended) → EndsExactly how (exchanges_in opening history c) → how ≡ ended.Unkept → has_unkept history ≡ true
ended_unkept opening history c how ends is =
    let unkept : EndsUnkept (exchanges_in opening history c) = subst (λ (h : Ended). EndsExactly h (exchanges_in opening history c)) is ends in
    unkept_from opening c history (ap some_unkept unkept.asked_is ∙ unkept_behind unkept.front unkept.rest)

pub all_unkept : (gives : ℕ → Type 0) (id : SessionId) (opening : PlainSession) {L : Type 0} (links : LinksTell L) (history : List Item) (failed : Type 0) (connections : List (ServedConnection L)) → (has_unkept history ≡ true → failed)
    → AllByRecursion (HasTalk gives id opening links history) connections → EndUnkeptIf failed connections
all_unkept gives id opening links history failed [] fails talks = tt
all_unkept gives id opening links history failed (one ∷ rest) fails talks =
    ((λ is. fails (ended_unkept opening history one.caller one.ended talks.0.exactly is)), all_unkept gives id opening links history failed rest fails talks.1)
