use Rattle.vote_book.proofs.Shown.{count_once}
use Rattle.vote_book.proofs.laws.a_view_counts_once.Goals as goal

pub returns : goal.returns
returns c = count_once
