use Rattle.std.proofs.Common.{Some, ◌∙◌, arith}
use Rattle.std.proofs.lemmas.List.Elements.{All-pop}
use Rattle.reflect_server.specs.Passes.{IsFresh}
use Rattle.reflect_server.proofs.PassLaws.{idle_merged}
use Rattle.reflect_server.proofs.passes.merge_all.Goals as goal

pub merge-requires-clause-keep_session : goal.merge-requires-clause-keep_session
merge-requires-clause-keep_session g c = c.loop-pass.invariant.lead.session ∙ c.requires.session

pub merge-requires-clause-other_session : goal.merge-requires-clause-other_session
merge-requires-clause-other_session g c =
    let popped = All-pop (IsFresh c.args.lead) c.loop-pass.passes.items c.pop.new.self.items (Some c.in-Some.pass) c.in-Some.ensures.items c.loop-pass.invariant.passes in
    popped.1.session ∙ c.requires.session

pub loop-pass-preserved : goal.loop-pass-preserved
loop-pass-preserved g c =
    let popped = All-pop (IsFresh c.args.lead) c.loop-pass.passes.items c.pop.new.self.items (Some c.in-Some.pass) c.in-Some.ensures.items c.loop-pass.invariant.passes in record {
      lead = idle_merged c.args.lead c.loop-pass.lead c.in-Some.pass c.merge.new.keep c.loop-pass.invariant.lead popped.1 c.merge.ensures.merged;
      passes = popped.0;
      numbers = omega (arith, c.loop-pass.invariant.numbers, c.merge.ensures.numbers, popped.1.numbers, c.in-Some.ensures.len);
    }
