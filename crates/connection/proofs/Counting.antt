-- The counts of a link along events, and what they tell of an end.
use Rattle.std.proofs.Common.{◌≡◌, ℕ, ◌+◌, ◌==◌, Bool, true, false, if◌then◌else◌, List, [], ◌∷◌, ◌++◌, Option, Some, None, refl, sym, subst, arith}
use Rattle.std.proofs.lemmas.Bool.Decides.{nat_tests}
use Rattle.byte_fields.specs.Fields.{whole}
use Rattle.tea_base.specs.declared.entry.SessionId.{SessionId}
use Rattle.tea_io.specs.Told.{Rose}
use Rattle.tea_io.specs.Links.{Counts, NoneFalls, most_quiets}
use Rattle.tea_io.specs.declared.link.Heard.TheVariants as heard
use Rattle.wire_frames.specs.Reading.{client_at}
use Rattle.wire_frames.specs.declared.frame.ClientFrame.{ClientFrame}
use Rattle.wire_frames.specs.declared.frame.ServerFrame.{ServerFrame}
use Rattle.reflector_core.specs.declared.keeper.CallFault.{CallFault}
use Rattle.reflector_core.specs.declared.keeper.CallFault.TheVariants as fault
use Rattle.reflector_core.specs.declared.request.Reply.{Reply}
use Rattle.reflector_core.specs.declared.request.Reply.TheVariants as reply
use Rattle.reflector_core.specs.declared.request.Refusal.TheVariants as refusal
use Rattle.reflector_core.specs.declared.request.Request.{Request}
use Rattle.join_sync.specs.declared.act.Act.{Act}
use Rattle.join_sync.specs.declared.act.Act.TheVariants.{Call, Answer}
use Rattle.join_sync.specs.declared.cursor.Cursor.{Cursor}
use Rattle.join_sync.specs.Answers.{answer_frame, first_cursor, join_answer}
use Rattle.join_sync.specs.Batches.{next_cursor, next_frames}
use Rattle.system_plain.specs.Turn.{answer_frames, first_act, joined_view, later_act}
use Rattle.connection.specs.declared.ending.Ended.{Ended}
use Rattle.connection.specs.declared.ending.Ended.TheVariants as ended
use Rattle.connection.specs.Causes.{IsCauseCounted, RoseBy}
use Rattle.connection.specs.Exchanges.{Exchange}
use Rattle.connection.specs.Phases.{TalkPhase, Opening, Beginning, Joining, Ticking, Pulling, Hearing, Taking, Asking, Sending, Leaving, Over, Wrong, TalkEvent, Hears, Reads, MakesRequest, MakesAt, Misses, Sends, Loses, FailsToSend, Wants, acted_phase, ended_by, ending_phase, entered_phase, greeted_phase, opened_phase, read_phase, refused_phase, reply_phase, sending_phase, talk_step, talk_walk, telling_phase}
use Rattle.connection.specs.Talk.{Account, EventCounts, EventsCount, TalksOn}

pub none_falls : (a : Counts) → NoneFalls a a
none_falls a = record { faults = omega arith; quiets = omega arith; ends = omega arith }

pub falls_on : (a b c : Counts) → NoneFalls a b → NoneFalls b c → NoneFalls a c
falls_on a b c f g = record { faults = omega (arith, f.faults, g.faults); quiets = omega (arith, f.quiets, g.quiets); ends = omega (arith, f.ends, g.ends) }

pub count_on : (xs ys : List TalkEvent) (a b c : Counts) → EventsCount xs a b → EventsCount ys b c → EventsCount (xs ++ ys) a c
count_on [] ys a b c is more = subst (λ (x : Counts). EventsCount ys x c) is more
count_on (x ∷ xs) ys a b c first more = (first.0, first.1, count_on xs ys first.0 b c first.2 more)

pub count_one : (event : TalkEvent) (a b : Counts) → EventCounts event a b → EventsCount (event ∷ []) a b
count_one event a b counts = (b, counts, refl)

-- ---- the cause of an end

rose_still : (start a b : Counts) (times : ℕ) → NoneFalls a b → RoseBy times start.quiets a.quiets → RoseBy times start.quiets b.quiets
rose_still start a b times f h = let le = f.quiets in omega (arith, le, h)

-- it still is where counts have risen
because_on : (start a b : Counts) (how : Ended) → NoneFalls a b → IsCauseCounted start a how → IsCauseCounted start b how
because_on start a b ended.LinkEnd f h = let le = f.ends in omega (arith, le, h)
because_on start a b ended.LinkFault f h = let le = f.faults in omega (arith, le, h)
because_on start a b (ended.Idle quiets) f h = (h.0, rose_still start a b quiets f h.1)
because_on start a b ended.Left f h = tt
because_on start a b (ended.Stale current) f h = tt
because_on start a b (ended.Refused code) f h = tt
because_on start a b ended.WantOfMemory f h = tt
because_on start a b ended.Unkept f h = tt

-- no count tells of a call without an answer
uncounted : (start now : Counts) (why : CallFault) → IsCauseCounted start now (ended_by why)
uncounted start now fault.WantOfMemory = tt
uncounted start now fault.Unkept = tt

-- what the counts tell where a connection stands in a phase
abbrev CountsTo : Counts → Counts → TalkPhase → Type 0
CountsTo start now (Opening quiets) = RoseBy quiets start.quiets now.quiets
CountsTo start now (Ticking cursor quiets) = RoseBy quiets start.quiets now.quiets
CountsTo start now (Pulling cursor quiets) = RoseBy quiets start.quiets now.quiets
CountsTo start now (Hearing cursor quiets) = RoseBy quiets start.quiets now.quiets
CountsTo start now (Sending frame frames next fails wants) =
    CountsTo start now next × ((later : Counts) → Rose start.faults later.faults → CountsTo start later fails) × CountsTo start now wants
CountsTo start now (Leaving cursor how) = IsCauseCounted start now how
CountsTo start now (Over how) = IsCauseCounted start now how
CountsTo start now other = Unit {0}

counts_on : (start a b : Counts) (p : TalkPhase) → NoneFalls a b → CountsTo start a p → CountsTo start b p
counts_on start a b (Opening quiets) f h = let le = f.quiets in omega (arith, le, h)
counts_on start a b (Beginning bytes) f h = tt
counts_on start a b (Joining asked) f h = tt
counts_on start a b (Ticking cursor quiets) f h = let le = f.quiets in omega (arith, le, h)
counts_on start a b (Pulling cursor quiets) f h = let le = f.quiets in omega (arith, le, h)
counts_on start a b (Hearing cursor quiets) f h = let le = f.quiets in omega (arith, le, h)
counts_on start a b (Taking cursor bytes) f h = tt
counts_on start a b (Asking cursor asked) f h = tt
counts_on start a b (Sending frame frames next fails wants) f h = (counts_on start a b next f h.0, h.1, counts_on start a b wants f h.2)
counts_on start a b (Leaving cursor how) f h = because_on start a b how f h
counts_on start a b (Over how) f h = because_on start a b how f h
counts_on start a b Wrong f h = tt

sending_counts : (start now : Counts) (frames : List ServerFrame) (next fails wants : TalkPhase) → CountsTo start now next → ((later : Counts) → Rose start.faults later.faults → CountsTo start later fails) → CountsTo start now wants
    → CountsTo start now (sending_phase frames next fails wants)
sending_counts start now [] next fails wants h failing wanting = h
sending_counts start now (frame ∷ frames) next fails wants h failing wanting = (h, failing, wanting)

telling_counts : (start now : Counts) (cursor : Cursor) (frames : List ServerFrame) (next : TalkPhase) → CountsTo start now next → CountsTo start now (telling_phase cursor frames next)
telling_counts start now cursor frames next h = sending_counts start now frames next (Leaving cursor ended.LinkFault) (Leaving cursor ended.WantOfMemory) h (λ later rose. rose) tt

refused_counts : (start now : Counts) (frame : ServerFrame) → CountsTo start now (refused_phase frame)
refused_counts start now frame = (tt, (λ later rose. tt), tt)

none_yet : (start now : Counts) → NoneFalls start now → RoseBy 0 start.quiets now.quiets
none_yet start now f = let le = f.quiets in omega (arith, le)

entered_counts : (start now : Counts) (a : Act) → CountsTo start now (entered_phase a)
entered_counts start now (Call asked) = tt
entered_counts start now (Answer frame) = refused_counts start now frame

opened_counts : (start now : Counts) (id : SessionId) (frame : Option ClientFrame) (at : ℕ) → CountsTo start now (opened_phase id frame at)
opened_counts start now id frame at = entered_counts start now (first_act id frame at)

greeted_counts : (start now : Counts) (cursor : Option Cursor) (frame : Option ServerFrame) → NoneFalls start now → CountsTo start now (greeted_phase cursor frame)
greeted_counts start now (Some cursor) (Some frame) f = telling_counts start now cursor (frame ∷ []) (Ticking cursor 0) (none_yet start now f)
greeted_counts start now None (Some frame) f = refused_counts start now frame
greeted_counts start now (Some cursor) None f = tt
greeted_counts start now None None f = tt

acted_counts : (start now : Counts) (cursor : Cursor) (a : Act) → NoneFalls start now → CountsTo start now (acted_phase cursor a)
acted_counts start now cursor (Call asked) f = tt
acted_counts start now cursor (Answer frame) f = telling_counts start now cursor (frame ∷ []) (Ticking cursor 0) (none_yet start now f)

read_counts : (start now : Counts) (cursor : Cursor) (frame : Option ClientFrame) (at : ℕ) → NoneFalls start now → CountsTo start now (read_phase cursor frame at)
read_counts start now cursor frame at f = acted_counts start now cursor (later_act cursor frame at) f

-- a reply ends a connection only as Left or Stale
ending_counts : (start now : Counts) (cursor : Cursor) (frames : List ServerFrame) (how : Ended) → ((later : Counts) → IsCauseCounted start later how) → CountsTo start now (ending_phase frames how (Leaving cursor ended.WantOfMemory))
ending_counts start now cursor frames how any = sending_counts start now frames (Over how) (Over how) (Leaving cursor ended.WantOfMemory) (any now) (λ later rose. any later) tt

answered_counts : (start now : Counts) (cursor : Cursor) (asked : Request) (r : Reply) → NoneFalls start now → CountsTo start now (reply_phase cursor asked r)
answered_counts start now cursor asked (reply.Left seq time) f = ending_counts start now cursor (answer_frames (answer_frame asked (reply.Left seq time))) ended.Left (λ later. tt)
answered_counts start now cursor asked (reply.Refused (refusal.Stale current)) f = ending_counts start now cursor (answer_frames (answer_frame asked (reply.Refused (refusal.Stale current)))) (ended.Stale current) (λ later. tt)
answered_counts start now cursor asked r f = telling_counts start now cursor (answer_frames (answer_frame asked r)) (Ticking cursor 0) (none_yet start now f)

rose_once : (start a b : Counts) (quiets : ℕ) → RoseBy quiets start.quiets a.quiets → NoneFalls a b → Rose a.quiets b.quiets → RoseBy (quiets + 1) start.quiets b.quiets
rose_once start a b quiets h f r = omega (arith, h, r)

opening_quiet : (start now : Counts) (last : Bool) (quiets : ℕ) → (last ≡ true → quiets ≡ most_quiets) → RoseBy quiets start.quiets now.quiets → CountsTo start now (if last then Over (ended.Idle most_quiets) else Opening quiets)
opening_quiet start now true quiets is h = (refl, subst (λ (n : ℕ). RoseBy n start.quiets now.quiets) (is refl) h)
opening_quiet start now false quiets is h = h

hearing_quiet : (start now : Counts) (cursor : Cursor) (last : Bool) (quiets : ℕ) → (last ≡ true → quiets ≡ most_quiets) → RoseBy quiets start.quiets now.quiets
    → CountsTo start now (if last then Leaving cursor (ended.Idle most_quiets) else Ticking cursor quiets)
hearing_quiet start now cursor true quiets is h = (refl, subst (λ (n : ℕ). RoseBy n start.quiets now.quiets) (is refl) h)
hearing_quiet start now cursor false quiets is h = h

rose_from : (start a b : Counts) → NoneFalls start a → Rose a.faults b.faults → Rose start.faults b.faults
rose_from start a b f r = let le = f.faults in omega (arith, le, r)

ends_from : (start a b : Counts) → NoneFalls start a → Rose a.ends b.ends → Rose start.ends b.ends
ends_from start a b f r = let le = f.ends in omega (arith, le, r)

row_at : (quiets : ℕ) → (quiets == most_quiets) ≡ true → quiets ≡ most_quiets
row_at quiets is = grind (arith, nat_tests)

-- one event
step_counts : (id : SessionId) (p : TalkPhase) (event : TalkEvent) (start a b : Counts) → NoneFalls start a → CountsTo start a p → EventCounts event a b → CountsTo start b (talk_step id p event).phase
step_counts id (Opening quiets) (Hears (heard.Frame bytes)) start a b f h e = tt
step_counts id (Opening quiets) (Hears heard.Quiet) start a b f h e = opening_quiet start b (quiets + 1 == most_quiets) (quiets + 1) (row_at (quiets + 1)) (rose_once start a b quiets h e.0 e.1)
step_counts id (Opening quiets) (Hears heard.End) start a b f h e = ends_from start a b f e.1
step_counts id (Opening quiets) (Hears heard.Failed) start a b f h e = rose_from start a b f e.1
step_counts id (Opening quiets) (Hears heard.WantOfMemory) start a b f h e = tt
step_counts id (Beginning bytes) (Reads now) start a b f h e = opened_counts start b id (whole client_at bytes) now
step_counts id (Beginning bytes) Wants start a b f h e = tt
step_counts id (Joining asked) (MakesRequest given) start a b f h e = greeted_counts start b (first_cursor (joined_view asked) given) (join_answer given) (falls_on start a b f e)
step_counts id (Joining asked) (Misses why) start a b f h e = uncounted start b why
step_counts id (Ticking cursor quiets) (MakesAt now given) start a b f h e = counts_on start a b (Pulling cursor quiets) e h
step_counts id (Ticking cursor quiets) (Misses why) start a b f h e = uncounted start b why
step_counts id (Pulling cursor quiets) (MakesRequest given) start a b f h e =
    telling_counts start b cursor (next_frames cursor given) (Hearing (next_cursor cursor given) quiets) (counts_on start a b (Hearing (next_cursor cursor given) quiets) e h)
step_counts id (Pulling cursor quiets) (Misses why) start a b f h e = uncounted start b why
step_counts id (Hearing cursor quiets) (Hears (heard.Frame bytes)) start a b f h e = tt
step_counts id (Hearing cursor quiets) (Hears heard.Quiet) start a b f h e = hearing_quiet start b cursor (quiets + 1 == most_quiets) (quiets + 1) (row_at (quiets + 1)) (rose_once start a b quiets h e.0 e.1)
step_counts id (Hearing cursor quiets) (Hears heard.End) start a b f h e = ends_from start a b f e.1
step_counts id (Hearing cursor quiets) (Hears heard.Failed) start a b f h e = rose_from start a b f e.1
step_counts id (Hearing cursor quiets) (Hears heard.WantOfMemory) start a b f h e = tt
step_counts id (Taking cursor bytes) (Reads now) start a b f h e = read_counts start b cursor (whole client_at bytes) now (falls_on start a b f e)
step_counts id (Taking cursor bytes) Wants start a b f h e = tt
step_counts id (Asking cursor asked) (MakesRequest given) start a b f h e = answered_counts start b cursor asked given (falls_on start a b f e)
step_counts id (Asking cursor asked) (Misses why) start a b f h e = uncounted start b why
step_counts id (Sending frame frames next fails wants) Sends start a b f h e =
    counts_on start a b (sending_phase frames next fails wants) e (sending_counts start a frames next fails wants h.0 h.1 h.2)
step_counts id (Sending frame frames next fails wants) Loses start a b f h e = h.1 b (rose_from start a b f e.1)
step_counts id (Sending frame frames next fails wants) FailsToSend start a b f h e = h.1 b (rose_from start a b f e.1)
step_counts id (Sending frame frames next fails wants) Wants start a b f h e = counts_on start a b wants e h.2
step_counts id (Leaving cursor how) (MakesAt now given) start a b f h e = because_on start a b how e h
step_counts id (Leaving cursor how) (Misses why) start a b f h e = because_on start a b how e h
step_counts id p event start a b f h e = tt

event_falls : (event : TalkEvent) (a b : Counts) → EventCounts event a b → NoneFalls a b
event_falls (Hears what) a b e = e.0
event_falls (Reads now) a b e = e
event_falls (MakesRequest given) a b e = e
event_falls (MakesAt now given) a b e = e
event_falls (Misses why) a b e = e
event_falls Sends a b e = e
event_falls Loses a b e = e.0
event_falls FailsToSend a b e = e.0
event_falls Wants a b e = e

walk_counts : (id : SessionId) (events : List TalkEvent) (p : TalkPhase) (start a b : Counts) → NoneFalls start a → CountsTo start a p → EventsCount events a b → CountsTo start b (talk_walk id p events).phase
walk_counts id [] p start a b f h e = subst (λ (x : Counts). CountsTo start x p) (sym e) h
walk_counts id (event ∷ events) p start a b f h e =
    walk_counts id events (talk_step id p event).phase start e.0 b (falls_on start a e.0 f (event_falls event a e.0 e.1)) (step_counts id p event start a e.0 f h e.1) e.2

-- the counts of a whole talk tell why it ended
pub talk_counted : (made : Exchange → Type 0) (id : SessionId) (how : Ended) (before now : Account) → TalksOn made id (Opening 0) (Over how) before now → IsCauseCounted before.link.counts now.link.counts how
talk_counted made id how before now talk =
    let start = before.link.counts in
    subst (CountsTo start now.link.counts) talk.ends (walk_counts id talk.events (Opening 0) start start now.link.counts (none_falls start) (none_yet start start (none_falls start)) talk.counts)
