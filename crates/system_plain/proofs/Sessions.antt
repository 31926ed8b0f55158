-- How a sound session goes on by a request.
use Rattle.std.proofs.Common.{ℕ, ◌≡◌, ◌⊎◌, ◌≤◌, ◌<◌, List, [], ◌∷◌, ◌++◌, Option, Some, None, sym, refl, arith, zero, suc, slice_get}
use Rattle.std.proofs.lemmas.List.{append-nil}
use Rattle.tea_base.specs.declared.entry.Entry.{Entry}
use Rattle.tea_base.specs.declared.entry.What.{What}
use Rattle.tea_base.specs.Legal.{IsLegal, TimesRiseAfter}
use Rattle.tea_base.proofs.LogLaws.{TimesRise-legal}
use Rattle.session_log.specs.LogState.{next_entry}
use Rattle.wire_frames.specs.declared.start.Base.{Base}
use Rattle.reflector_core.specs.declared.request.Request.{Request}
use Rattle.reflector_core.specs.declared.request.Request.TheVariants as request
use Rattle.reflector_core.specs.Answer.{answer, append_entry}
use Rattle.reflector_core.specs.Growth.{AreLater, GrowsTo}
use Rattle.reflector_core.specs.PlainSession.{IsKeptBy, IsSoundSession, PlainSession}
use Rattle.reflector_core.proofs.GrowthLaws.{GrowsTo-answer, kept-offer, kept-others}
use Rattle.reflector_core.proofs.SoundLaws.{IsBounded, IsSoundSession-answer}

-- the log goes on with entries that are later than the horizon and rise, and the horizon does not fall
pub record Grows (s new : PlainSession) : Type 0 where
  pub rest : List Entry
  pub log : new.log ≡ s.log ++ rest
  pub later : TimesRiseAfter s.horizon rest
  pub horizon : s.horizon ≤ new.horizon

pub Grows-same : (s : PlainSession) → Grows s s
Grows-same s = record { rest = []; log = sym (append-nil s.log); later = tt; horizon = omega arith }

-- by one entry
pub Grows-entry : (s : PlainSession) (time view : ℕ) (what : What) → s.horizon < time → Grows s (append_entry s time view what)
Grows-entry s time view what later = record { rest = next_entry s.log time view what ∷ []; log = refl; later = (later, tt); horizon = omega arith }

-- times that rise, and are later than a bound besides
rises_later : (low bound : ℕ) (log rest : List Entry) → TimesRiseAfter low (log ++ rest) → AreLater bound rest → TimesRiseAfter bound rest
rises_later low bound [] [] rise later = tt
rises_later low bound [] (entry ∷ rest) rise later = (later.0, rise.1)
rises_later low bound (first ∷ log) rest rise later = rises_later first.time bound log rest rise.1 later

-- a sound session grows so
pub Grows-legal : (s new : PlainSession) → GrowsTo s new → IsLegal new.log → Grows s new
Grows-legal s new grows legal = record {
  rest = grows.rest;
  log = grows.log;
  later = rises_later 0 s.horizon s.log grows.rest (rw grows.log at (TimesRise-legal new.log legal)) grows.later;
  horizon = grows.horizon;
}

-- what may be kept after a request
abbrev pub KeepsFor : PlainSession → Request → Option Base → Type 0
KeepsFor s (request.Offer view joined time bytes) kept = (kept ≡ s.kept) ⊎ (kept ≡ Some (record { time = time; bytes = bytes }))
KeepsFor s (request.Join view now want) kept = kept ≡ s.kept
KeepsFor s (request.Send view joined number payload now) kept = kept ≡ s.kept
KeepsFor s (request.Tick now) kept = kept ≡ s.kept
KeepsFor s (request.Leave view joined now) kept = kept ≡ s.kept
KeepsFor s (request.Pull after limit) kept = kept ≡ s.kept

keeps_for : (s : PlainSession) (asked : Request) → KeepsFor s asked (answer s asked).session.kept
keeps_for s (request.Offer view joined time bytes) = kept-offer s view joined time bytes
keeps_for s (request.Join view now want) = kept-others s (request.Join view now want) refl
keeps_for s (request.Send view joined number payload now) = kept-others s (request.Send view joined number payload now) refl
keeps_for s (request.Tick now) = kept-others s (request.Tick now) refl
keeps_for s (request.Leave view joined now) = kept-others s (request.Leave view joined now) refl
keeps_for s (request.Pull after limit) = kept-others s (request.Pull after limit) refl

pub record SessionGoesOn (s : PlainSession) (request : Request) (new : PlainSession) : Type 0 where
  pub grows : Grows s new
  pub sound : IsSoundSession new
  pub kept : KeepsFor s request new.kept

pub session_goes_on : (s : PlainSession) (request : Request) → IsSoundSession s → IsBounded request → SessionGoesOn s request (answer s request).session
session_goes_on s request sound bound =
    let new = IsSoundSession-answer s request sound bound in
    record { grows = Grows-legal s (answer s request).session (GrowsTo-answer s request) new.legal; sound = new; kept = keeps_for s request }

-- a session that is sound after a request has grown
pub Grows-answer : (s : PlainSession) (request : Request) → IsSoundSession (answer s request).session → Grows s (answer s request).session
Grows-answer s request sound = Grows-legal s (answer s request).session (GrowsTo-answer s request) sound.legal

-- an entry that stands in the log stays
pub slice_get-grown : {A : Type 0} (xs more : List A) (k : ℕ) (x : A) → slice_get xs k ≡ Some x → slice_get (xs ++ more) k ≡ Some x
slice_get-grown [] more k x at = absurd cc
slice_get-grown (first ∷ xs) more zero x at = at
slice_get-grown (first ∷ xs) more (suc k) x at = slice_get-grown xs more k x at

-- a base has a time of at most this
abbrev pub IsBasedBy : ℕ → Option Base → Type 0
IsBasedBy horizon None = Unit {0}
IsBasedBy horizon (Some base) = base.time ≤ horizon

pub kept_is_based : (horizon : ℕ) (kept : Option Base) → IsKeptBy horizon kept → IsBasedBy horizon kept
kept_is_based horizon None is = tt
kept_is_based horizon (Some base) is = is.0
