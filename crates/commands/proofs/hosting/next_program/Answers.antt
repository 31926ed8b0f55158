use Rattle.std.proofs.Common.{List, ◌∙◌, subst}
use Rattle.commands.specs.declared.hosting.ReadProgram.{ReadProgram}
use Rattle.commands.specs.Verdict.{Free, OfHostIds, host_ids}
use Rattle.commands.proofs.HostLaws.{fewer_left, no_more, none_left, one_left}
use Rattle.commands.proofs.hosting.next_program.Goals as goal

pub returns-in-Some-clause-leads : goal.returns-in-Some-clause-leads
returns-in-Some-clause-leads c verdict comes =
    one_left c.args.request c.args.config c.args.read c.args.names.items c.pop_front.new.self.items c.in-Some.program verdict c.in-Some.ensures.items comes

pub returns-in-Some-clause-fewer : goal.returns-in-Some-clause-fewer
returns-in-Some-clause-fewer c = fewer_left c.args.names.items c.pop_front.new.self.items c.in-Some.program c.in-Some.ensures.items

pub returns-in-None-clause-leads : goal.returns-in-None-clause-leads
returns-in-None-clause-leads c verdict comes =
    none_left c.args.request c.args.config c.args.read c.args.names.items verdict
    (no_more c.args.names.items (c.in-None.ensures.items ∙ c.pop_front.ensures.rest))
    (subst (λ (read : List ReadProgram). Free (OfHostIds c.args.request c.args.config.on_demand (host_ids read c.args.config.sessions)) verdict) c.as_slice.ensures
    (c.known.ensures.leads verdict comes))
