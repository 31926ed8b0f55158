use Rattle.std.proofs.Common.{◌≡◌, None, rules, arith}
use Rattle.indexmap.specs.IndexMap.{get}
use Rattle.vote_book.specs.VoteBook.{ballot}
use Rattle.vote_book.specs.Counted.{same_pair}
use Rattle.vote_book.proofs.Counting.{answered, few_on, counts}
use Rattle.vote_book.proofs.book.Book.vote.Goals as goal

pub returns-in_ok-answer-in-Vacant-clause-answer : goal.returns-in_ok-answer-in-Vacant-clause-answer
returns-in_ok-answer-in-Vacant-clause-answer c = λ votes told.
    let old = c.args.self.now in
    let none : get same_pair old.voted (c.args.at, c.args.view) ≡ None = search rules in
    answered old votes (ballot c.args.entry c.args.view c.args.at c.args.digest) told none _ c.in_ok-answer-in-Vacant.ensures.answer

pub returns-in_ok-answer-in-Vacant-clause-counted : goal.returns-in_ok-answer-in-Vacant-clause-counted
returns-in_ok-answer-in-Vacant-clause-counted c = λ votes told.
    let old = c.args.self.now in
    let vote = ballot c.args.entry c.args.view c.args.at c.args.digest in
    let none : get same_pair old.voted (c.args.at, c.args.view) ≡ None = search rules in
    let few = few_on old votes vote told none in
    counts old votes vote told none _ (search rules) (search rules)
    ((c.in_ok-answer-in-Vacant.ensures.tallies (omega (arith, few, c.if-len.false, c.len.ensures.len))).0)
