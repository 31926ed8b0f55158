use Rattle.std.proofs.Common.{Option, subst}
use Rattle.command_words.specs.declared.words.Command.{Command}
use Rattle.command_words.specs.CommandWords.{command_of}
use Rattle.commands.specs.Verdict.{OfWords}
use Rattle.commands.specs.Work.{ComesNext}
use Rattle.croquet.proofs.Overs.{over_by}
use Rattle.croquet.proofs.Runs.{ran_wanting, turns_freely}
use Rattle.croquet.proofs.top.begin.Goals as goal

pub returns-in-Ok-clause-turns : goal.returns-in-Ok-clause-turns
returns-in-Ok-clause-turns g c =
    turns_freely _ _ (ComesNext c.of_command.result) (OfWords (command_of c.args.words.now)) c.go_on.result c.args.files.now c.go_on.new.files c.args.out.now c.go_on.new.out
    (λ verdict comes. subst (λ (k : Option Command). OfWords k verdict) c.in-Ok.ensures.read (c.of_command.ensures.leads verdict comes))
    c.go_on.ensures.turns

pub returns-in-Err-clause-turns : goal.returns-in-Err-clause-turns
returns-in-Err-clause-turns g c =
    ran_wanting _ _ (OfWords (command_of c.args.words.now)) c.args.files.now c.args.out.now c.tell_want_of_memory.new.out c.tell_want_of_memory.result c.tell_want_of_memory.ensures

pub returns-in-Ok-clause-over : goal.returns-in-Ok-clause-over
returns-in-Ok-clause-over g c other = over_by _ (command_of c.args.words.now) _ _ c.go_on.result other (returns-in-Ok-clause-turns g c)
