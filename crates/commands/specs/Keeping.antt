-- What comes of a journal: of one that is not there, and of the bytes of one.
use Rattle.std.specs.Prelude.{ℕ, List, Option, Some, None}
use Rattle.session_log.specs.Stored.{PlainStored}
use Rattle.session_journal.specs.Frames.{Place}
use Rattle.session_journal.specs.State.{founded}
use Rattle.session_journal.specs.Journal.{Found, NoJournal, OtherSession, Goes, read_journal}
use Rattle.command_outcome.specs.declared.outcome.Input.TheVariants as input
use Rattle.command_outcome.specs.declared.outcome.CommandRefusal.TheVariants as refusal
use Rattle.command_reflect.specs.KeptSteps.{going_on_steps}
use Rattle.commands.specs.Verdict.{ByGoingOn, ByKeeping, ByReadFault, ByRefusal, Closing, Coming, Free, OfFile, OfLog, OfOwn, Only, PlainKeeping, PlainSource, Verdict, ask_file, at_once, most_log}

-- the journal is to be founded with this
abbrev pub founded_with : PlainKeeping → PlainStored → PlainKeeping
founded_with keeping stored = record keeping { from = None; opening = Some stored }

-- it is founded with what a log holds, if that is of the session
abbrev pub OfFoundingLog : PlainKeeping → PlainSource → Coming
OfFoundingLog keeping source =
    OfOwn source.named keeping.id (Only (at_once (ByKeeping (founded_with keeping source.stored))))

-- it is founded with what the log of a name holds, or with a first session
abbrev pub OfFounding : Option (List ℕ) → PlainKeeping → Coming
OfFounding None keeping = Only (at_once (ByKeeping (founded_with keeping founded)))
OfFounding (Some from) keeping = OfFile input.Log (ask_file from most_log) (OfLog (OfFoundingLog keeping))

-- What comes of a journal that is not there: it is founded, unless it was founded just now.
abbrev pub OfAbsent : Option PlainStored → PlainKeeping → Coming
OfAbsent None keeping = OfFounding keeping.from keeping
OfAbsent (Some stored) keeping = Only (at_once ByReadFault)

-- what is no journal of this session is refused
abbrev pub no_journal : Closing
no_journal = ByRefusal (refusal.Input input.Journal)

-- what is put and printed of a journal that was read, before it goes on
abbrev pub going_on_verdict : PlainKeeping → Place PlainStored → Verdict
going_on_verdict keeping place =
    record {
      steps = going_on_steps keeping.journal keeping.log place.state place.rest;
      closing = ByGoingOn keeping place;
    }

-- what comes of bytes that were read so
abbrev pub OfFound : PlainKeeping → Found → Coming
OfFound keeping NoJournal = Only (at_once no_journal)
OfFound keeping OtherSession = Only (at_once no_journal)
OfFound keeping (Goes place) = Only (going_on_verdict keeping place)

-- what comes of the bytes of a journal
abbrev pub OfBytes : PlainKeeping → List ℕ → Coming
OfBytes keeping bytes = Free (OfFound keeping (read_journal keeping.id bytes))
