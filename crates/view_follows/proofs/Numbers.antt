-- The numbers of the events that were sent on a link, and of those that are answered.
use Rattle.std.proofs.Common.{◌≡◌, inl, inr, ℕ, zero, suc, ◌+◌, ◌<◌, List, [], ◌∷◌, ◌++◌, length, map, Option, Some, None, refl, sym, ap, subst, arith, ◌∙◌, append_assoc}
use Rattle.std.specs.List.{AllByRecursion}
use Rattle.byte_fields.specs.Fields.{whole}
use Rattle.tea_base.specs.declared.entry.Entry.{Entry}
use Rattle.wire_frames.specs.Reading.{client_at}
use Rattle.wire_frames.specs.Spelling.{client_spelling}
use Rattle.wire_frames.specs.Served.{AnswersInOrder, answers_of}
use Rattle.wire_frames.specs.declared.frame.ClientFrame.{ClientFrame}
use Rattle.wire_frames.specs.declared.frame.ClientFrame.TheVariants as client
use Rattle.wire_frames.specs.declared.frame.ServerFrame.{ServerFrame}
use Rattle.wire_frames.specs.declared.frame.ServerFrame.TheVariants.{Sync, Recv, Tick, Done, Snapped, Refused, Alive}
use Rattle.wire_frames.specs.declared.tags.TheConstants.{SNAP_TAG}
use Rattle.replica_plain.specs.Calls.{sends_after}
use Rattle.view_follows.specs.Sessions.{ComesFrom}

-- ---- the numbers of what was sent

abbrev pub number_in : Option ClientFrame → List ℕ
number_in (Some (client.Send number payload)) = number ∷ []
number_in frame = []

abbrev pub numbers_in : List (Option ClientFrame) → List ℕ
numbers_in [] = []
numbers_in (frame ∷ frames) = number_in frame ++ numbers_in frames

pub numbers-append : (frames more : List (Option ClientFrame)) → numbers_in (frames ++ more) ≡ numbers_in frames ++ numbers_in more
numbers-append [] more = refl
numbers-append (frame ∷ frames) more = ap (λ (ns : List ℕ). number_in frame ++ ns) (numbers-append frames more) ∙ sym (append_assoc (number_in frame) (numbers_in frames) (numbers_in more))

-- this one stands at that place
abbrev pub IsAt : List ℕ → ℕ → ℕ → Type 0
IsAt [] place number = ⊥
IsAt (first ∷ rest) zero number = number ≡ first
IsAt (first ∷ rest) (suc place) number = IsAt rest place number

-- the numbers behind this one, one after the other
abbrev pub CountUp : ℕ → List ℕ → Type 0
CountUp before [] = Unit {0}
CountUp before (number ∷ rest) = (number ≡ before + 1) × CountUp (before + 1) rest

pub record IsCounted (before : ℕ) (numbers : List ℕ) (place number : ℕ) : Type 0 where
  pub is : number ≡ before + place + 1
  pub within : place < length numbers

pub counted_at : (before : ℕ) (numbers : List ℕ) (place number : ℕ) → CountUp before numbers → IsAt numbers place number → IsCounted before numbers place number
counted_at before [] place number up at = absurd at
counted_at before (first ∷ rest) zero number up at = let is = up.0 in record { is = omega (arith, at, is); within = omega arith }
counted_at before (first ∷ rest) (suc place) number up at =
    let more = counted_at (before + 1) rest place number up.1 at in
    record { is = omega (arith, more.is); within = omega (arith, more.within) }

pub count_up-append : (before : ℕ) (numbers more : List ℕ) → CountUp before numbers → CountUp (before + length numbers) more → CountUp before (numbers ++ more)
count_up-append before [] more up rest = let same : before + 0 ≡ before = omega arith in subst (λ (n : ℕ). CountUp n more) same rest
count_up-append before (number ∷ numbers) more up rest =
    let same : before + length (number ∷ numbers) ≡ before + 1 + length numbers = omega arith in
    (up.0, count_up-append (before + 1) numbers more up.1 (subst (λ (n : ℕ). CountUp n more) same rest))

-- the SENDs of payloads
pub sends_count_up : (before : ℕ) (payloads : List (List ℕ)) → CountUp before (numbers_in (map Some (sends_after before payloads)))
sends_count_up before [] = tt
sends_count_up before (payload ∷ rest) = (refl, sends_count_up (before + 1) rest)

pub sends_length : (before : ℕ) (payloads : List (List ℕ)) → length (numbers_in (map Some (sends_after before payloads))) ≡ length payloads
sends_length before [] = refl
sends_length before (payload ∷ rest) = ap suc (sends_length (before + 1) rest)

-- ---- what was heard of what was sent

-- a first frame is heard, or both have one
same_then : (frame : Option ClientFrame) (one other : List (Option ClientFrame)) (number : ℕ) → ((place : ℕ) → IsAt (numbers_in one) place number → IsAt (numbers_in other) place number)
    → (place : ℕ) → IsAt (numbers_in (frame ∷ one)) place number → IsAt (numbers_in (frame ∷ other)) place number
same_then (Some (client.Send first payload)) one other number rest zero at = at
same_then (Some (client.Send first payload)) one other number rest (suc place) at = rest place at
same_then (Some (client.Join session view want)) one other number rest place at = rest place at
same_then (Some (client.Snap time bytes)) one other number rest place at = rest place at
same_then (Some client.Leave) one other number rest place at = rest place at
same_then (Some client.Alive) one other number rest place at = rest place at
same_then None one other number rest place at = rest place at

pub alive_is_read : whole client_at (client_spelling client.Alive) ≡ Some client.Alive
unfolding client_at
alive_is_read = refl

alive_counts_none : (bytes : List ℕ) (more : List (Option ClientFrame)) (place number : ℕ) → bytes ≡ client_spelling client.Alive → IsAt (numbers_in (whole client_at bytes ∷ more)) place number → IsAt (numbers_in more) place number
alive_counts_none bytes more place number is at =
    subst (λ (x : Option ClientFrame). IsAt (numbers_in (x ∷ more)) place number) alive_is_read (subst (λ (b : List ℕ). IsAt (numbers_in (whole client_at b ∷ more)) place number) is at)

-- a number stands at its place in what was sent too
pub sent_at : (number : ℕ) (given sent : List (List ℕ)) → ComesFrom given sent → (place : ℕ) → IsAt (numbers_in (map (whole client_at) given)) place number → IsAt (numbers_in (map (whole client_at) sent)) place number
sent_at number [] sent comes place at = absurd at
sent_at number (bytes ∷ given) [] comes place at = sent_at number given [] comes.1 place (alive_counts_none bytes (map (whole client_at) given) place number comes.0 at)
sent_at number (bytes ∷ given) (first ∷ sent) (inl alive) place at = sent_at number given (first ∷ sent) alive.1 place (alive_counts_none bytes (map (whole client_at) given) place number alive.0 at)
sent_at number (bytes ∷ given) (first ∷ sent) (inr same) place at =
    same_then (whole client_at first) (map (whole client_at) given) (map (whole client_at) sent) number (sent_at number given sent same.1) place
    (subst (λ (b : List ℕ). IsAt (numbers_in (whole client_at b ∷ map (whole client_at) given)) place number) same.0 at)

-- ---- the answers

-- no answer refuses anything but a snapshot
abbrev pub IsNoRefusal : ServerFrame → Type 0
IsNoRefusal (Refused about code kept more) = about ≡ SNAP_TAG
IsNoRefusal frame = Unit {0}

-- how many events were answered
abbrev pub dones : List ServerFrame → ℕ
dones [] = zero
dones (Done number seq time ∷ frames) = suc (dones frames)
dones (frame ∷ frames) = dones frames

pub dones_so : (frames : List ServerFrame) → dones (answers_of frames) ≡ dones frames
dones_so [] = refl
dones_so (Done number seq time ∷ frames) = ap suc (dones_so frames)
dones_so (Sync joined last from base ∷ frames) = dones_so frames
dones_so (Recv entry ∷ frames) = dones_so frames
dones_so (Tick time ∷ frames) = dones_so frames
dones_so (Snapped time ∷ frames) = dones_so frames
dones_so (Refused about code kept more ∷ frames) = dones_so frames
dones_so (Alive ∷ frames) = dones_so frames

pub none_refused : (frames : List ServerFrame) → AllByRecursion IsNoRefusal frames → AllByRecursion IsNoRefusal (answers_of frames)
none_refused [] none = tt
none_refused (Recv entry ∷ frames) none = none_refused frames none.1
none_refused (Tick time ∷ frames) none = none_refused frames none.1
none_refused (Sync joined last from base ∷ frames) none = (none.0, none_refused frames none.1)
none_refused (Done number seq time ∷ frames) none = (none.0, none_refused frames none.1)
none_refused (Snapped time ∷ frames) none = (none.0, none_refused frames none.1)
none_refused (Refused about code kept more ∷ frames) none = (none.0, none_refused frames none.1)
none_refused (Alive ∷ frames) none = (none.0, none_refused frames none.1)

pub answers-append : (frames more : List ServerFrame) → answers_of (frames ++ more) ≡ answers_of frames ++ answers_of more
answers-append [] more = refl
answers-append (Recv entry ∷ frames) more = answers-append frames more
answers-append (Tick time ∷ frames) more = answers-append frames more
answers-append (Sync joined last from base ∷ frames) more = ap (λ (fs : List ServerFrame). Sync joined last from base ∷ fs) (answers-append frames more)
answers-append (Done number seq time ∷ frames) more = ap (λ (fs : List ServerFrame). Done number seq time ∷ fs) (answers-append frames more)
answers-append (Snapped time ∷ frames) more = ap (λ (fs : List ServerFrame). Snapped time ∷ fs) (answers-append frames more)
answers-append (Refused about code kept rest ∷ frames) more = ap (λ (fs : List ServerFrame). Refused about code kept rest ∷ fs) (answers-append frames more)
answers-append (Alive ∷ frames) more = ap (λ (fs : List ServerFrame). Alive ∷ fs) (answers-append frames more)

module _ (log : List Entry) (view number seq time : ℕ) where
  abbrev more_answers : List ServerFrame → List ServerFrame
  more_answers answers = answers ++ Done number seq time ∷ []

  -- the event that is answered next is the next one that was given
  pub answered_at : (given : List (Option ClientFrame)) (answers : List ServerFrame) → AllByRecursion IsNoRefusal answers → AnswersInOrder log view given (more_answers answers) → IsAt (numbers_in given) (dones answers) number
  answered_at [] [] none order = absurd order
  answered_at [] (answer ∷ answers) none order = absurd order
  answered_at (Some (client.Send n payload) ∷ given) [] none (inl is) = is.0.0
  answered_at (frame ∷ given) [] none (inl is) = absurd is.0
  answered_at (Some client.Leave ∷ given) [] none (inr skips) = answered_at given [] none skips.1
  answered_at (frame ∷ given) [] none (inr skips) = absurd skips.0
  answered_at (Some client.Leave ∷ given) (answer ∷ answers) none (inr skips) = answered_at given (answer ∷ answers) none skips.1
  answered_at (frame ∷ given) (answer ∷ answers) none (inr skips) = absurd skips.0
  answered_at (Some (client.Send n payload) ∷ given) (Done done s t ∷ answers) none (inl is) = answered_at given answers none.1 is.1
  answered_at (Some (client.Send n payload) ∷ given) (Refused about code kept more ∷ answers) none (inl is) = let refused = is.0 in let other = none.0 in absurd (omega (arith, refused, other))
  answered_at (Some (client.Send n payload) ∷ given) (answer ∷ answers) none (inl is) = absurd is.0
  answered_at (Some (client.Snap t bytes) ∷ given) (Snapped snapped ∷ answers) none (inl is) = answered_at given answers none.1 is.1
  answered_at (Some (client.Snap t bytes) ∷ given) (Refused about code kept more ∷ answers) none (inl is) = answered_at given answers none.1 is.1
  answered_at (Some (client.Join session other want) ∷ given) (Refused about code kept more ∷ answers) none (inl is) = answered_at given answers none.1 is.1
  answered_at (Some client.Leave ∷ given) (Refused about code kept more ∷ answers) none (inl is) = answered_at given answers none.1 is.1
  answered_at (Some client.Alive ∷ given) (Alive ∷ answers) none (inl is) = answered_at given answers none.1 is.1
  answered_at (None ∷ given) (Refused about code kept more ∷ answers) none (inl is) = answered_at given answers none.1 is.1
  answered_at (frame ∷ given) (answer ∷ answers) none (inl is) = absurd is.0
