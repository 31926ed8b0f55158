-- What the session in hand makes of a call.
use Rattle.std.proofs.Common.{◌≡◌, ℕ, Bool, List, [], ◌∷◌, get_or, Option, Result, Ok, Err, IfOk, OnErr, MatchResult, sym, ap, subst, ◌∙◌}
use Rattle.atomic_table.specs.Table.{rest}
use Rattle.reflector_core.specs.PlainSession.{PlainSession, IsSoundSession}
use Rattle.reflector_core.specs.Answer.{answer, with_reply}
use Rattle.reflector_core.specs.Keeping.{HasCause}
use Rattle.reflector_core.specs.declared.keeper.CallFault.{CallFault}
use Rattle.reflector_core.specs.declared.request.Request.{Request}
use Rattle.reflector_core.specs.declared.request.Reply.{Reply}
use Rattle.session_lock.specs.declared.held.KeptSession.{KeptSession}
use Rattle.session_lock.specs.declared.held.Waiting.{Waiting}
use Rattle.session_lock.specs.declared.knowledge.Item.{Item}
use Rattle.session_lock.specs.History.{item_of}
use Rattle.session_lock.specs.Keeping.{HasSettled, HasTried}
use Rattle.session_lock.specs.Steps.{M, GoesOnSo, Works}

-- what is so of the session in hand is so of the one in the slot
pub in_hand : {K : Type 0} (P : KeptSession K → Type 0) (m : List (ℕ × KeptSession K)) (kept before : KeptSession K) → m ≡ (0, kept) ∷ [] → m ≡ (0, before) ∷ rest m → P kept → P before
in_hand {K} P m kept before hand value has =
    let same : ◌≡◌ {A = List (ℕ × KeptSession K)} ((0, kept) ∷ []) ((0, before) ∷ rest m) = sym hand ∙ value in
    subst P (ap (λ (l : List (ℕ × KeptSession K)). (get_or l 0 (0, kept)).1) same) has

either : {T E : Type 0} (result : Result T E) (P : T → Type 0) (Q : Type 0) → IfOk result P → OnErr result Q → MatchResult result P (λ _. Q)
either (Ok value) P Q ok err = ok
either (Err fault) P Q ok err = err

pub has_worked : {K : Type 0} (Keeps : PlainSession → List Item → List Item → Bool → KeptSession K → Type 0) (shut : K → Type 0) (m : M K) (request : Request) (result : Result Reply CallFault) (place : Option ℕ) (before after kept : KeptSession K) → m.1 ≡ (0, kept) ∷ [] → m.1 ≡ (0, before) ∷ rest m.1
    → IfOk result (λ reply. with_reply after.session reply ≡ answer before.session request) → OnErr result (after.session ≡ before.session) → IsSoundSession after.session → HasCause (answer before.session request).reply (shut after.keeper) result
    → ((opening : PlainSession) (history pending : List Item) (lost : Bool) (caller : ℕ) → Keeps opening history pending lost before → HasTried Keeps opening history pending lost (item_of caller request result) place after)
    → Works Keeps shut m request result place (m.0, (0, after) ∷ rest m.1)
has_worked {K} Keeps shut m request result place before after kept hand value ok err sound cause tried =
    let nothing : rest m.1 ≡ [] = ap rest hand in
    record {
      before = before;
      after = after;
      had = value ∙ ap (λ (l : List (ℕ × KeptSession K)). (0, before) ∷ l) nothing;
      has = ap (λ (l : List (ℕ × KeptSession K)). (m.0, (0, after) ∷ l)) nothing;
      answers = either result (λ reply. with_reply after.session reply ≡ answer before.session request) (after.session ≡ before.session) ok err;
      sound = sound;
      cause = cause;
      tried = tried;
    }

pub has_gone_on : {K : Type 0} (Keeps : PlainSession → List Item → List Item → Bool → KeptSession K → Type 0) (m : M K) (place : ℕ) (how : Waiting) (before after kept : KeptSession K) → m.1 ≡ (0, kept) ∷ [] → m.1 ≡ (0, before) ∷ rest m.1
    → ((opening : PlainSession) (history pending : List Item) (lost : Bool) → Keeps opening history pending lost before → HasSettled Keeps opening history pending lost place how before after)
    → GoesOnSo Keeps m place how (m.0, (0, after) ∷ rest m.1)
has_gone_on {K} Keeps m place how before after kept hand value settled =
    let nothing : rest m.1 ≡ [] = ap rest hand in
    record {
      before = before;
      after = after;
      had = value ∙ ap (λ (l : List (ℕ × KeptSession K)). (0, before) ∷ l) nothing;
      has = ap (λ (l : List (ℕ × KeptSession K)). (m.0, (0, after) ∷ l)) nothing;
      settled = settled;
    }
