-- The time line of a recorded session, and what comes of it.
use Rattle.std.proofs.Common.{◌≡◌, ◌<◌, ℕ, Bool, false, List, Result, Ok, Err, sym, subst}
use Rattle.std.proofs.lemmas.Bool.{le-leb, lt-leb}
use Rattle.tea_base.specs.declared.entry.Entry.{Entry}
use Rattle.model_solved.specs.Founding.{Founding, founding_of}
use Rattle.command_outcome.specs.declared.outcome.Input.TheVariants as input
use Rattle.command_outcome.specs.declared.outcome.CommandRefusal.TheVariants as refusal
use Rattle.command_inspect.specs.Queries.{queries_of}
use Rattle.command_replay.specs.declared.recording.Recording.{Recording}
use Rattle.time_line.specs.Answer.{Makes}
use Rattle.time_line.specs.Keyframes.{LineView, most_frames}
use Rattle.time_line.specs.declared.fault.LineFault.{LineFault}
use Rattle.time_line.specs.declared.fault.LineFault.TheVariants.{TooMany, WantOfMemory}
use Rattle.commands.specs.Verdict.{ByRefusal, Coming, OfFile, OfKeyframes, OfQueries, OfRight, Only, Verdict, ask_file, at_once, keeps_few, most_queries}
use Rattle.commands.specs.Work.{IsTimeLineOf, MakesTimeLine}

-- what comes of the queries of a time line
abbrev pub OfLine : List ℕ → LineView → Coming
OfLine queries line = OfFile input.Queries (ask_file queries most_queries) (λ bytes. OfQueries (founding_of line.program) line.id line.entries (queries_of bytes))

-- where the worlds are few, the queries of its time line are read
pub kept : (recording : Recording) (every : ℕ) (queries : List ℕ) (line : LineView) (verdict : Verdict) → IsTimeLineOf recording every line → OfLine queries line verdict
    → OfKeyframes every queries (founding_of recording.program) recording.id.0 recording.log.entries verdict
kept recording every queries line verdict is comes =
    let meant : LineView = record { program = recording.program; id = recording.id.0; entries = recording.log.entries; every = every } in
    subst (λ (few : Bool). OfRight input.Every few (OfLine queries meant) verdict) (sym is.few) (subst (λ (l : LineView). OfLine queries l verdict) is.is comes)

-- where they are too many, none is kept
pub kept_too_many : (every : ℕ) (queries : List ℕ) (founding : Founding) (id : List ℕ) (log : List Entry) (verdict : Verdict) → keeps_few every log ≡ false
    → Only (at_once (ByRefusal (refusal.Input input.Every))) verdict → OfKeyframes every queries founding id log verdict
kept_too_many every queries founding id log verdict many comes =
    let next : Coming = OfFile input.Queries (ask_file queries most_queries) (λ bytes. OfQueries founding id log (queries_of bytes)) in
    subst (λ (few : Bool). OfRight input.Every few next verdict) (sym many) comes

-- what the call that makes the time line answers
pub line_made : (recording : Recording) (every : ℕ) (result : Result LineView LineFault)
    → Makes result (record { program = recording.program; id = recording.id.0; entries = recording.log.entries; every = every }) → MakesTimeLine result recording every
line_made recording every (Ok line) makes = record { is = makes.0; few = le-leb _ _ makes.1 }
line_made recording every (Err (TooMany frames)) makes =
    lt-leb _ _ (subst (λ (n : ℕ). most_frames < n) makes.0 makes.1)
line_made recording every (Err WantOfMemory) makes = tt
