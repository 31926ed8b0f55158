use Rattle.std.proofs.Common.{take}
use Rattle.vote_book.specs.VoteBook.{counted}
use Rattle.vote_book.specs.Counted.{HasCounted}
use Rattle.command_votes.specs.VoteRead.{votes_of}
use Rattle.command_votes.proofs.text.book_of.Given as goal

-- the votes so far
abbrev pub invariant-loop-place : goal.invariant-loop-place
invariant-loop-place l = HasCounted l.book (counted (votes_of (take l.place l.log.entries)))
