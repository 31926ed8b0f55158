use Rattle.std.proofs.Common.{subst}
use Rattle.vote_book.specs.Counted.{HasCounted}
use Rattle.command_votes.proofs.Counting.{counted_more}
use Rattle.command_votes.proofs.text.book_of.Goals as goal

pub loop-place-preserved : goal.loop-place-preserved
loop-place-preserved c =
    subst (HasCounted c.count.new.book) (counted_more c.args.log.now.entries c.loop-place.place _ c.in_ok-entry_of.ensures) (c.in_ok-count.ensures _ c.loop-place.invariant)
