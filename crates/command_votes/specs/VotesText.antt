-- The lines of what votes come to.
use Rattle.std.specs.Prelude.{ℕ, List, ◌++◌, length, flat_map, Option, Some, None, codes}
use Rattle.std.specs.Fmt.{decimal}
use Rattle.tea_base.specs.declared.entry.Entry.{Entry}
use Rattle.vote_book.specs.declared.vote.Verdict.{Verdict}
use Rattle.vote_book.specs.VoteBook.{Ballot, counted, verdicts_of}
use Rattle.command_votes.specs.VoteRead.{votes_of}

-- `agreed`, or `diverged A B`
abbrev pub split_part : Option (ℕ × ℕ) → List ℕ
split_part None = codes " agreed"
split_part (Some split) = codes " diverged " ++ decimal split.0 ++ codes " " ++ decimal split.1

-- `at N votes K`, and that
abbrev pub verdict_line : Verdict → List ℕ
verdict_line verdict =
    codes "at " ++ decimal verdict.at ++ codes " votes " ++ decimal verdict.votes
    ++ split_part verdict.split ++ codes "\n"

-- a line for each verdict, and `votes COUNT`
abbrev pub counted_text : List Ballot → List ℕ
counted_text votes = flat_map verdict_line (verdicts_of votes) ++ codes "votes " ++ decimal (length votes) ++ codes "\n"

-- of the votes of a log
abbrev pub votes_text : List Entry → List ℕ
votes_text entries = counted_text (counted (votes_of entries))
