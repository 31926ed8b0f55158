-- What a link in memory tells, what its calls answer, and what they leave.
use Rattle.std.specs.Prelude.{ℕ, Bool, true, List, [], ◌∷◌, ◌++◌, Result, Ok, Err, if◌then◌else◌}
use Rattle.tea_io.specs.declared.link.Heard.{Heard}
use Rattle.tea_io.specs.declared.link.Heard.TheVariants.{Frame, Quiet, End, Failed, WantOfMemory}
use Rattle.tea_io.specs.declared.link.LinkFault.{LinkFault}
use Rattle.tea_io.specs.declared.link.LinkFault.TheVariants as fault
use Rattle.tea_io.specs.Told.{count_up}
use Rattle.tea_io.specs.Links.{Counts, note_of}
use Rattle.tea_io.specs.Calls.{fails_at}

-- a link in memory: the frames to come, what was heard, the frames that were sent, which calls fail
-- and which receives are quiet by their numbers, the number of the next call, its counts, and whether
-- it was closed
pub record MemLinkState : Type 0 where
  pub coming : List (List ℕ)
  pub heard : List Heard
  pub sent : List (List ℕ)
  pub failing : List ℕ
  pub quiet : List ℕ
  pub next_call : ℕ
  pub counts : Counts
  pub closed : Bool

-- the first of the frames to come, or the end
abbrev pub next_of : List (List ℕ) → Heard
next_of [] = End
next_of (frame ∷ frames) = Frame frame

-- what a receive answers
abbrev pub link_recv_answer : MemLinkState → Heard
link_recv_answer link =
    if fails_at link.failing link.next_call then Failed
    else if fails_at link.quiet link.next_call then Quiet
    else next_of link.coming

-- the frames without the first
abbrev pub frames_behind_first : List (List ℕ) → List (List ℕ)
frames_behind_first [] = []
frames_behind_first (frame ∷ frames) = frames

-- a receive more was made, and noted
abbrev pub link_with_note : MemLinkState → Heard → MemLinkState
link_with_note link heard =
    record link { heard = link.heard ++ note_of heard; next_call = count_up link.next_call }

-- what a receive leaves
abbrev pub after_recv : Heard → MemLinkState → MemLinkState
after_recv (Frame bytes) link =
    record (link_with_note link (Frame bytes)) { coming = frames_behind_first link.coming }
after_recv Quiet link =
    record (link_with_note link Quiet) {
      counts = record (link.counts) { quiets = count_up link.counts.quiets };
    }
after_recv End link =
    record (link_with_note link End) {
      counts = record (link.counts) { ends = count_up link.counts.ends };
    }
after_recv Failed link =
    record (link_with_note link Failed) {
      counts = record (link.counts) { faults = count_up link.counts.faults };
    }
after_recv WantOfMemory link = link

-- what a send answers
abbrev pub link_send_answer : MemLinkState → Result (Unit {0}) LinkFault
link_send_answer link =
    if fails_at link.failing link.next_call then Err fault.Failed else Ok tt

-- what a send leaves: one that fails sends nothing
abbrev pub after_send : Result (Unit {0}) LinkFault → MemLinkState → List ℕ → MemLinkState
after_send (Ok done) link frame =
    record link { sent = link.sent ++ frame ∷ []; next_call = count_up link.next_call }
after_send (Err fault.Failed) link frame =
    record link {
      next_call = count_up link.next_call;
      counts = record (link.counts) { faults = count_up link.counts.faults };
    }
after_send (Err fault.WantOfMemory) link frame = link

-- what a close leaves
abbrev pub after_close : MemLinkState → MemLinkState
after_close link = record link { closed = true }
