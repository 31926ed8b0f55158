-- A session that goes on, or a first one; with a journal, or without one.
use Rattle.std.proofs.Common.{◌≡◌, inr, ℕ, Bool, true, false, List, Option, Some, None, subst, sym}
use Rattle.command_outcome.specs.declared.outcome.CommandRefusal.TheVariants as refusal
use Rattle.command_outcome.specs.declared.outcome.Input.{Input}
use Rattle.command_outcome.specs.declared.outcome.Input.TheVariants as input
use Rattle.reflector_core.specs.PlainSession.{PlainSession}
use Rattle.reflector_core.specs.Play.{first_session}
use Rattle.reflector_core.specs.Stored.{session_of}
use Rattle.session_log.specs.Stored.{PlainStored}
use Rattle.session_journal.specs.State.{founded}
use Rattle.command_words.specs.declared.words.ReflectRequest.{ReflectRequest}
use Rattle.commands.specs.Keeping.{OfFounding, OfFoundingLog, founded_with}
use Rattle.commands.specs.Verdict.{ByKeeping, ByRefusal, Coming, Free, OfFile, OfJournal, OfLog, OfOpening, OfReady, OfReflected, OfRight, OfUnkept, Only, PlainKeeping, PlainSource, Verdict, ask_file, at_once, most_log, reflection_of}

-- a log is named
pub opened_by_file : (from : Option (List ℕ)) (file : List ℕ) (next : PlainSource → Coming) (verdict : Verdict) → from ≡ Some file
    → OfFile input.Log (ask_file file most_log) (OfLog next) verdict → OfOpening from next verdict
opened_by_file from file next verdict is comes = subst (λ (f : Option (List ℕ)). OfOpening f next verdict) (sym is) comes

-- none is
pub opened_freely : (from : Option (List ℕ)) (session : PlainSession) (next : PlainSession → Coming) (verdict : Verdict) → from ≡ None → session ≡ first_session
    → Free (next session) verdict → Free (OfOpening from (λ source. next (session_of source.stored))) verdict
opened_freely from session next verdict is first comes =
    subst (λ (f : Option (List ℕ)). Free (OfOpening f (λ source. next (session_of source.stored))) verdict) (sym is) (subst (λ (s : PlainSession). Free (next s) verdict) first comes)

-- none is, and the session is reflected
pub reflected_first : (request : ReflectRequest) (id : List ℕ) (session : PlainSession) (verdict : Verdict) → request.from ≡ None → session ≡ first_session
    → Free (OfReady (reflection_of request id session)) verdict → Free (OfUnkept request id) verdict
reflected_first request id session verdict is first comes =
    subst (λ (f : Option (List ℕ)). Free (OfOpening f (OfReflected request id)) verdict) (sym is)
    (subst (λ (s : PlainSession). Free (OfReady (reflection_of request id s)) verdict) first comes)

-- ---- a journal

pub with_journal : (journal : Option (List ℕ)) (name : List ℕ) (without : Coming) (with_one : List ℕ → Coming) (verdict : Verdict) → journal ≡ Some name → Free (with_one name) verdict
    → Free (OfJournal journal without with_one) verdict
with_journal journal name without with_one verdict is comes = subst (λ (j : Option (List ℕ)). Free (OfJournal j without with_one) verdict) (sym is) comes

pub without_journal : (journal : Option (List ℕ)) (without : Coming) (with_one : List ℕ → Coming) (verdict : Verdict) → journal ≡ None → Free without verdict
    → Free (OfJournal journal without with_one) verdict
without_journal journal without with_one verdict is comes = subst (λ (j : Option (List ℕ)). Free (OfJournal j without with_one) verdict) (sym is) comes

-- it is founded with a log
pub founded_by_file : (from : Option (List ℕ)) (file : List ℕ) (keeping : PlainKeeping) (verdict : Verdict) → from ≡ Some file
    → OfFile input.Log (ask_file file most_log) (OfLog (OfFoundingLog keeping)) verdict → OfFounding from keeping verdict
founded_by_file from file keeping verdict is comes = subst (λ (f : Option (List ℕ)). OfFounding f keeping verdict) (sym is) comes

-- it is founded with a first session
pub founded_first : (from : Option (List ℕ)) (stored : PlainStored) (keeping : PlainKeeping) (verdict : Verdict) → from ≡ None → stored ≡ founded
    → Only (at_once (ByKeeping (founded_with keeping stored))) verdict → OfFounding from keeping verdict
founded_first from stored keeping verdict is first comes =
    subst (λ (f : Option (List ℕ)). OfFounding f keeping verdict) (sym is) (subst (λ (s : PlainStored). Only (at_once (ByKeeping (founded_with keeping s))) verdict) first comes)

-- ---- the address

-- where the address is right, what comes of it comes of the reflector
pub right_address : (at : Input) (is : Bool) (next : Coming) (verdict : Verdict) → is ≡ true → Free next verdict → Free (OfRight at is next) verdict
right_address at is next verdict so comes = subst (λ (b : Bool). Free (OfRight at b next) verdict) (sym so) comes

-- where it is not, it is refused
pub wrong_address : (at : Input) (is : Bool) (next : Coming) (verdict : Verdict) → is ≡ false → Only (at_once (ByRefusal (refusal.Input at))) verdict → Free (OfRight at is next) verdict
wrong_address at is next verdict so comes = inr (subst (λ (b : Bool). OfRight at b next verdict) (sym so) comes)
