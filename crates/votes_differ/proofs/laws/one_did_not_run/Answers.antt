use Rattle.std.proofs.Common.{subst}
use Rattle.std.specs.List.{filter}
use Rattle.vote_book.specs.Laws.{SplitShows}
use Rattle.vote_book.specs.VoteBook.{counted, is_on}
use Rattle.command_votes.specs.VoteRead.{votes_of}
use Rattle.votes_differ.proofs.Runs.{diverged_shows, split_shows}
use Rattle.votes_differ.proofs.laws.one_did_not_run.Goals as goal

pub returns-clause-diverged : goal.returns-clause-diverged
returns-clause-diverged c = diverged_shows c.votes_agree.ensures.digests

pub returns-clause-splits : goal.returns-clause-splits
returns-clause-splits c founding id log at first second is legal split =
    split_shows c.votes_agree.ensures.digests founding id is log legal at first second
    (subst (SplitShows (filter (is_on at) (counted (votes_of log)))) split (c.splits_show_votes_that_differ.ensures (counted (votes_of log)) at))
