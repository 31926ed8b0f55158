-- Where a connection stands that has just joined, and stays.
use Rattle.std.proofs.Common.{ℕ, ◌≡◌, ◌≤◌, List, Option, Some, None, length, length-append, nat_le, refl, subst, arith}
use Rattle.std.proofs.lemmas.List.Sums.{count_by-le-length}
use Rattle.tea_base.specs.declared.entry.Entry.{Entry}
use Rattle.reflector_core.specs.PlainSession.{PlainSession}
use Rattle.reflector_core.specs.Answer.{from_for, join, joins}
use Rattle.reflector_core.specs.Growth.{GrowsTo}
use Rattle.reflector_core.proofs.GrowthLaws.{GrowsTo-answer}
use Rattle.reflector_core.specs.declared.request.Request.TheVariants.{Join}
use Rattle.reflector_core.specs.declared.request.Reply.{Reply}
use Rattle.reflector_core.specs.declared.request.Reply.TheVariants.{Joined}
use Rattle.wire_frames.specs.declared.start.Base.{Base}
use Rattle.wire_frames.specs.declared.start.Want.{Want}
use Rattle.wire_frames.specs.declared.start.Want.TheVariants.{Fresh, Whole, After}
use Rattle.wire_frames.specs.Served.{Place}
use Rattle.join_sync.specs.declared.cursor.Cursor.{Cursor}
use Rattle.join_sync.specs.Answers.{first_cursor}
use Rattle.join_sync.specs.Standing.{StandsAt}

pub stands_on : (s new : PlainSession) (place : Place) (cursor : Cursor) → GrowsTo s new → StandsAt s place cursor → StandsAt new place cursor
stands_on s new place cursor grows stands =
    let log = grows.log in
    let long = length-append s.log grows.rest in
    let horizon = grows.horizon in
    let within = stands.within in
    record {
      within = rw log (omega arith);
      seen = stands.seen;
      least = λ time over later. stands.least time (omega arith) later;
    }

from_within : (log : List Entry) (want : Want) (kept : Option Base) → from_for log want kept ≤ length log
from_within log Fresh None = omega arith
from_within log Fresh (Some base) = count_by-le-length (λ (entry : Entry). nat_le entry.time base.time) log
from_within log Whole kept = omega arith
from_within log (After time) kept = count_by-le-length (λ (entry : Entry). nat_le entry.time time) log

-- what a reply to a Join says of the session before it and behind it
abbrev SaysOfJoin : PlainSession → PlainSession → Reply → Type 0
SaysOfJoin s new (Joined seq time last from base) = (from ≤ length s.log) × (time ≤ new.horizon)
SaysOfJoin s new other = Unit {0}

join_tells : (s : PlainSession) (view now : ℕ) (want : Want) → SaysOfJoin s (join s view now want).session (join s view now want).reply
join_tells s view now want =
    let told : SaysOfJoin s (joins s view now want).session (joins s view now want).reply = (from_within s.log want s.kept, omega arith) in
    grind arith

pub joined_stands : (s : PlainSession) (view now : ℕ) (want : Want) (seq time last from : ℕ) (base : Option Base) (cursor : Cursor)
    → (join s view now want).reply ≡ Joined seq time last from base → first_cursor view (Joined seq time last from base) ≡ Some cursor
    → StandsAt (join s view now want).session (record { seen = from; least = time }) cursor
joined_stands s view now want seq time last from base cursor replied made =
    let told = subst (SaysOfJoin s (join s view now want).session) replied (join_tells s view now want) in
    let grows = GrowsTo-answer s (Join view now want) in
    let log = grows.log in
    let long = length-append s.log grows.rest in
    let first : Cursor = record { view = view; joined = seq; after = from; last_tick = 0 } in
    let same : first ≡ cursor = cc in
    let stands : StandsAt (join s view now want).session (record { seen = from; least = time }) first =
    record { within = rw log (omega (arith, told.0)); seen = refl; least = λ t over later. omega (arith, told.1) } in
    subst (StandsAt (join s view now want).session (record { seen = from; least = time })) same stands
