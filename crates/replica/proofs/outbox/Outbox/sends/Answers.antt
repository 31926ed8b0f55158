use Rattle.std.proofs.Common.{◌≤◌, ◌-◌, All, drop, length, subst, sym, take}
use Rattle.std.proofs.lemmas.List.Elements.{All-drop, All-take}
use Rattle.tea_base.specs.Limits.{most_payload}
use Rattle.replica.proofs.Outboxes.{sent_fit}
use Rattle.replica.proofs.outbox.Outbox.sends.Goals as goal

pub returns-clause-fit : goal.returns-clause-fit
returns-clause-fit c =
    let all = c.make_contiguous.result.now in
    let left = length all - c.args.skipped in
    let short : All (λ p. length p ≤ most_payload) all = subst (All (λ p. length p ≤ most_payload)) (sym c.make_contiguous.ensures.value) c.self.invariant.short in
    sent_fit c.sends.result c.args.number (take left (drop c.args.skipped all))
    (All-take (λ p. length p ≤ most_payload) left (drop c.args.skipped all) (All-drop (λ p. length p ≤ most_payload) c.args.skipped all short)) c.sends.ensures
