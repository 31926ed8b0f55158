use Rattle.std.proofs.Common.{◌∙◌}
use Rattle.host_config.specs.Programs.{programs_of}
use Rattle.commands.proofs.HostLaws.{all_left, few_left}
use Rattle.commands.proofs.hosting.begin.Goals as goal

pub returns-in-Ok-clause-leads : goal.returns-in-Ok-clause-leads
returns-in-Ok-clause-leads c verdict comes =
    all_left c.args.request c.args.config c.new.result c.from-names.result.items (programs_of c.args.config.sessions) verdict c.new.ensures
    (c.from-names.ensures.0 ∙ (c.into_vec.ensures ∙ rw c.as_slice.ensures at c.in-Ok.ensures.names)) (c.next_program.ensures.leads verdict comes)

pub returns-in-Ok-clause-fewer : goal.returns-in-Ok-clause-fewer
returns-in-Ok-clause-fewer c =
    few_left c.args.config.sessions _ c.from-names.result.items _ (c.from-names.ensures.0 ∙ c.into_vec.ensures) (rw c.as_slice.ensures at c.in-Ok.ensures.few) c.requires.few c.next_program.ensures.fewer
