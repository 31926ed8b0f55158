use Rattle.std.specs.List.{filter}
use Rattle.vote_book.specs.VoteBook.{is_on}
use Rattle.vote_book.proofs.Shown.{shown}
use Rattle.vote_book.proofs.laws.splits_show_votes_that_differ.Goals as goal

pub returns : goal.returns
returns c = λ votes at. shown (filter (is_on at) votes)
