use Rattle.std.proofs.Common.{vec_len, Some, ◌∙◌, refl, rules}
use Rattle.std.proofs.lemmas.List.Elements.{All-pop}
use Rattle.reflect_server.specs.Passes.{IsFresh}
use Rattle.reflect_server.proofs.RoundLaws.{round_none, round_stopped, round_more}
use Rattle.reflect_server.proofs.TalkLaws.{served_at}
use Rattle.reflect_server.proofs.accepting.+accept_all+fn-accept_all-join+arg3.Goals as goal

pub returns-then-is_empty-clause-round : goal.returns-then-is_empty-clause-round
returns-then-is_empty-clause-round g t c =
    round_none _ _ _ _ c.args.round (vec_len c.args.passes) c.requires.lead c.requires.begins.0 c.requires.begins.1 (search rules)

pub returns-in-Err-clause-round : goal.returns-in-Err-clause-round
returns-in-Err-clause-round g t c =
    let told = c.in-Err.ensures in
    let stopped = c.stop.ensures in
    round_stopped _ _ _ _ c.args.round c.stop.result c.accept.new.self (vec_len c.args.passes) c.in-Err.fault
    c.requires.begins.0 (search rules)
    (record { coming = told.kept; over = told.over; lent = told.none_lent; counts = told.counts; asked = told.asked; cause = told.cause })
    stopped.lead stopped.numbers stopped.rest.0 stopped.rest.1 stopped.rest.2

pub join-pass-requires-after_bounds : goal.join-pass-requires-after_bounds
join-pass-requires-after_bounds g t c κs within =
    let popped = All-pop (IsFresh c.args.round.lead) c.args.passes.items c.pop.new.self.items (Some c.in-Some.pass) c.in-Some.ensures.items c.requires.passes in
    let one = popped.1 in
    let at = popped.1.session ∙ c.requires.session in
    let none = popped.1.calls in
    let rest = popped.0 in
    search rules

pub with_one-requires-clause-pass : goal.with_one-requires-clause-pass
with_one-requires-clause-pass g t c =
    let popped = All-pop (IsFresh c.args.round.lead) c.args.passes.items c.pop.new.self.items (Some c.in-Some.pass) c.in-Some.ensures.items c.requires.passes in
    served_at _ _ _ c.args.service.now.shared.now.session c.in-Some.pass c.join-pass.result.0.0 c.in-Ok.link c.join-pass.result.0.1 (popped.1.session ∙ c.requires.session) c.join-pass.ensures.first

pub returns-clause-round : goal.returns-clause-round
returns-clause-round g t c =
    let popped = All-pop (IsFresh c.args.round.lead) c.args.passes.items c.pop.new.self.items (Some c.in-Some.pass) c.in-Some.ensures.items c.requires.passes in
    let told = c.in-Ok.ensures in
    let last = c.with_one.ensures in
    round_more _ _ _ _ c.args.round _ c.join-pass.result.1 c.with_one.result c.in-Some.pass c.join-pass.result.0.0 (vec_len c.pop.new.self)
    (vec_len c.args.passes) c.in-Ok.link c.join-pass.result.0.1 popped.1 refl (search rules)
    (record { coming = told.given; new = told.fresh; over = told.over; lent = told.lent; counts = told.counts; asked = told.asked; cause = told.cause })
    c.join-pass.ensures.first c.join-pass.ensures.second.1 last.merged last.numbers last.served last.rest.0 last.rest.1
