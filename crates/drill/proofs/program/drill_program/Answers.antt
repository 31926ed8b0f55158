use Rattle.model_tree.specs.TreeView.{program_tree}
use Rattle.drill.proofs.ProgramReads.{drill_reads, drill_tree, has_no_fault}
use Rattle.drill.specs.Program.{drill_text}
use Rattle.model_tree.specs.Program.{a_program, no_program, too_large}
use Rattle.drill.proofs.program.drill_program.Goals as goal

pub unreachable-requires : goal.unreachable-requires
unreachable-requires c =
    let same = c.one_reading.ensures.one drill_text (a_program drill_tree) (too_large c.in-Err-TooLarge.field-0-0 c.in-Err-TooLarge.field-0-1) drill_reads (rw c.in-Err-TooLarge.field-0-is at c.in-Err-TooLarge.ensures.reading) in
    cc

pub unreachable-requires-in-Err-Syntax : goal.unreachable-requires-in-Err-Syntax
unreachable-requires-in-Err-Syntax c =
    let same = c.one_reading.ensures.one drill_text (a_program drill_tree) no_program drill_reads (rw c.in-Err-Syntax.field-0-is at c.in-Err-Syntax.ensures.reading) in
    cc

pub unreachable-requires-in-Err-Twice : goal.unreachable-requires-in-Err-Twice
unreachable-requires-in-Err-Twice c =
    has_no_fault (program_tree c.in-Ok.program) c.in-Err-Twice.field-0 (c.one_tree.ensures drill_text drill_tree (program_tree c.in-Ok.program) drill_reads c.in-Ok.ensures.reading) (rw c.in-Err-Twice.field-0-is (λ is. cc)) c.in-Err-Twice.ensures

pub unreachable-requires-in-Err-NoName : goal.unreachable-requires-in-Err-NoName
unreachable-requires-in-Err-NoName c =
    has_no_fault (program_tree c.in-Ok.program) c.in-Err-NoName.field-0 (c.one_tree.ensures drill_text drill_tree (program_tree c.in-Ok.program) drill_reads c.in-Ok.ensures.reading) (rw c.in-Err-NoName.field-0-is (λ is. cc)) c.in-Err-NoName.ensures

pub unreachable-requires-in-Err-NoClass : goal.unreachable-requires-in-Err-NoClass
unreachable-requires-in-Err-NoClass c =
    has_no_fault (program_tree c.in-Ok.program) c.in-Err-NoClass.field-0 (c.one_tree.ensures drill_text drill_tree (program_tree c.in-Ok.program) drill_reads c.in-Ok.ensures.reading) (rw c.in-Err-NoClass.field-0-is (λ is. cc)) c.in-Err-NoClass.ensures

pub unreachable-requires-in-Err-NoField : goal.unreachable-requires-in-Err-NoField
unreachable-requires-in-Err-NoField c =
    has_no_fault (program_tree c.in-Ok.program) c.in-Err-NoField.field-0 (c.one_tree.ensures drill_text drill_tree (program_tree c.in-Ok.program) drill_reads c.in-Ok.ensures.reading) (rw c.in-Err-NoField.field-0-is (λ is. cc)) c.in-Err-NoField.ensures

pub unreachable-requires-in-Err-Count : goal.unreachable-requires-in-Err-Count
unreachable-requires-in-Err-Count c =
    has_no_fault (program_tree c.in-Ok.program) c.in-Err-Count.field-0 (c.one_tree.ensures drill_text drill_tree (program_tree c.in-Ok.program) drill_reads c.in-Ok.ensures.reading) (rw c.in-Err-Count.field-0-is (λ is. cc)) c.in-Err-Count.ensures

pub unreachable-requires-in-Err-NoRoot : goal.unreachable-requires-in-Err-NoRoot
unreachable-requires-in-Err-NoRoot c =
    has_no_fault (program_tree c.in-Ok.program) c.in-Err-NoRoot.field-0 (c.one_tree.ensures drill_text drill_tree (program_tree c.in-Ok.program) drill_reads c.in-Ok.ensures.reading) (rw c.in-Err-NoRoot.field-0-is (λ is. cc)) c.in-Err-NoRoot.ensures
