use Rattle.model_tree.specs.TreeView.{program_tree}
use Rattle.command_outcome.proofs.ProgramLaws.{refused_unread, refused_unsound}
use Rattle.command_outcome.proofs.program.read_program.Goals as goal

pub returns-in-Err : goal.returns-in-Err
returns-in-Err c =
    refused_unread c.args.text.now c.in-Err.fault c.in_ok-reading_fault-in-Err.field-0 c.in-Err.ensures.reading c.in-Err.ensures.place c.in_ok-reading_fault-in-Err.ensures

pub returns-in_ok-soundness_fault-in-Err-check : goal.returns-in_ok-soundness_fault-in-Err-check
returns-in_ok-soundness_fault-in-Err-check c =
    refused_unsound c.args.text.now (program_tree c.in-Ok.program) c.in-Err-check.fault c.in_ok-soundness_fault-in-Err-check.field-0
    c.in-Ok.ensures.reading c.in-Err-check.ensures c.in_ok-soundness_fault-in-Err-check.ensures
