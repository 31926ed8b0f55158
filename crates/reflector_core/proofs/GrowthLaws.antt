-- A log that grows, and what is kept, by each answer.
use Rattle.std.proofs.Common.{ℕ, ◌≡◌, ◌⊎◌, inl, inr, ◌≤◌, Bool, true, false, not, ◌&&◌, ◌==◌, if◌then◌else◌, List, [], ◌∷◌, ◌++◌, Some, length, ap, sym, ◌∙◌, nat_le, nat_lt, refl, arith, append_assoc}
use Rattle.std.proofs.lemmas.List.{append-nil}
use Rattle.tea_base.specs.declared.entry.Entry.{Entry}
use Rattle.tea_base.specs.declared.entry.What.{What}
use Rattle.tea_base.specs.declared.entry.What.TheVariants as what
use Rattle.tea_base.specs.Readings.{is_here, here_count}
use Rattle.tea_base.specs.Limits.{most_here, end_of_time}
use Rattle.session_log.specs.LogState.{next_entry}
use Rattle.wire_frames.specs.declared.start.Want.{Want}
use Rattle.reflector_core.specs.declared.request.Request.{Request}
use Rattle.reflector_core.specs.declared.request.Request.TheVariants.{Join, Send, Tick, Leave, Offer, Pull}
use Rattle.reflector_core.specs.PlainSession.{PlainSession}
use Rattle.reflector_core.specs.Answer.{SessionOutcome, answer, join, leave, offer, pull, stamp, append_entry, is_stale, is_closed, is_ahead}
use Rattle.reflector_core.specs.Play.{after_all}
use Rattle.reflector_core.specs.Growth.{AreLater, GrowsTo, is_offer}
use Rattle.reflector_core.proofs.SoundLaws.{send_along, offer_along}

-- either of two outcomes
either : (P : SessionOutcome → Type 0) (test : Bool) {a b : SessionOutcome} → P a → P b → P (if test then a else b)
either P true first second = first
either P false first second = second

pub GrowsTo-same : (s : PlainSession) → GrowsTo s s
GrowsTo-same s = record { rest = []; log = sym (append-nil s.log); later = tt; horizon = omega arith }

-- entries above a time, and then entries above a later one
AreLater-append : (low high : ℕ) (xs ys : List Entry) → low ≤ high → AreLater low xs → AreLater high ys → AreLater low (xs ++ ys)
AreLater-append low high [] [] le first second = tt
AreLater-append low high [] (entry ∷ ys) le first second = (omega (arith, second.0), AreLater-append low high [] ys le tt second.1)
AreLater-append low high (entry ∷ xs) ys le first second = (first.0, AreLater-append low high xs ys le first.1 second)

pub GrowsTo-then : (a b c : PlainSession) → GrowsTo a b → GrowsTo b c → GrowsTo a c
GrowsTo-then a b c first second = record {
  rest = first.rest ++ second.rest;
  log = second.log ∙ ap (λ (l : List Entry). l ++ second.rest) first.log ∙ append_assoc a.log first.rest second.rest;
  later = AreLater-append a.horizon b.horizon first.rest second.rest first.horizon first.later second.later;
  horizon = omega (arith, first.horizon, second.horizon);
}

-- one more entry
stamps_one : (s : PlainSession) (now view : ℕ) (what : What) → GrowsTo s (append_entry s (stamp s.horizon now) view what)
stamps_one s now view what = record { rest = next_entry s.log (stamp s.horizon now) view what ∷ []; log = refl; later = (omega arith, tt); horizon = omega arith }

-- what is so of the session as it was, and of the one with one more entry, is so after a Join, a Leave and a Pull
module _ (P : PlainSession → Type 0) (s : PlainSession) (same : P s) where
  join_along : (view now : ℕ) (want : Want) → P (append_entry s (stamp s.horizon now) view what.Join) → P (join s view now want).session
  join_along view now want more =
      either (λ o. P o.session) (view == 0) same
      (either (λ o. P o.session) (is_ahead s.horizon want) same
      (either (λ o. P o.session) (not (is_here s.log view) && nat_le most_here (here_count s.log)) same
      (either (λ o. P o.session) (is_closed s.log) same
      (either (λ o. P o.session) (nat_le end_of_time s.horizon) same more))))

  leave_along : (view joined now : ℕ) → P (append_entry s (stamp s.horizon now) view what.Exit) → P (leave s view joined now).session
  leave_along view joined now more = either (λ o. P o.session) (is_stale s.log view joined) same more

  pull_along : (after limit : ℕ) → P (pull s after limit).session
  pull_along after limit = either (λ o. P o.session) (nat_lt (length s.log) after) same same

pub GrowsTo-answer : (s : PlainSession) (request : Request) → GrowsTo s (answer s request).session
GrowsTo-answer s (Join view now want) = join_along (GrowsTo s) s (GrowsTo-same s) view now want (stamps_one s now view what.Join)
GrowsTo-answer s (Send view joined number payload now) =
    send_along (GrowsTo s) s view joined number payload now (GrowsTo-same s) (λ _ _ _ _ _ _. stamps_one s now view (what.Event number payload))
GrowsTo-answer s (Tick now) = record { rest = []; log = sym (append-nil s.log); later = tt; horizon = omega arith }
GrowsTo-answer s (Leave view joined now) = leave_along (GrowsTo s) s (GrowsTo-same s) view joined now (stamps_one s now view what.Exit)
GrowsTo-answer s (Offer view joined time bytes) =
    offer_along (GrowsTo s) s view joined time bytes (GrowsTo-same s) (λ _ _. record { rest = []; log = sym (append-nil s.log); later = tt; horizon = omega arith })
GrowsTo-answer s (Pull after limit) = pull_along (GrowsTo s) s (GrowsTo-same s) after limit

pub GrowsTo-after_all : (s : PlainSession) (requests : List Request) → GrowsTo s (after_all s requests)
GrowsTo-after_all s [] = GrowsTo-same s
GrowsTo-after_all s (request ∷ rest) =
    GrowsTo-then s (answer s request).session (after_all s (request ∷ rest)) (GrowsTo-answer s request) (GrowsTo-after_all (answer s request).session rest)

pub kept-others : (s : PlainSession) (request : Request) → is_offer request ≡ false → (answer s request).session.kept ≡ s.kept
kept-others s (Join view now want) other = join_along (λ new. new.kept ≡ s.kept) s refl view now want refl
kept-others s (Send view joined number payload now) other = send_along (λ new. new.kept ≡ s.kept) s view joined number payload now refl (λ _ _ _ _ _ _. refl)
kept-others s (Tick now) other = refl
kept-others s (Leave view joined now) other = leave_along (λ new. new.kept ≡ s.kept) s refl view joined now refl
kept-others s (Offer view joined time bytes) other = absurd cc
kept-others s (Pull after limit) other = pull_along (λ new. new.kept ≡ s.kept) s refl after limit

pub kept-offer : (s : PlainSession) (view joined time : ℕ) (bytes : List ℕ) → ((offer s view joined time bytes).session.kept ≡ s.kept) ⊎ ((offer s view joined time bytes).session.kept ≡ Some (record { time = time; bytes = bytes }))
kept-offer s view joined time bytes =
    offer_along (λ new. (new.kept ≡ s.kept) ⊎ (new.kept ≡ Some (record { time = time; bytes = bytes }))) s view joined time bytes (inl refl) (λ _ _. inr refl)
