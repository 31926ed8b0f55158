use Rattle.std.proofs.Common.{◌∙◌, rules}
use Rattle.std.proofs.lemmas.List.Sorted.{IsNonDecreasingBy-from_sort_by_key}
use Rattle.vote_book.proofs.Verdicts.{at_of, told_in_order}
use Rattle.vote_book.proofs.book.Book.verdicts.Goals as goal

pub returns : goal.returns
returns c = λ votes told.
    c.from_vec.ensures
    ∙ told_in_order c.args.self.now votes told c.in_ok-verdicts.ensures.unique _
    (rw (← c.in_ok-verdicts.ensures.verdicts) c.sort_unstable_by_key.ensures.permutation)
    (IsNonDecreasingBy-from_sort_by_key at_of _ c.sort_unstable_by_key.ensures.sorted (λ a r q k. search rules))
