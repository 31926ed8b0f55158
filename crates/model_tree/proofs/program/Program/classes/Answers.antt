use Rattle.std.proofs.Common.{rules}
use Rattle.model_tree.specs.TreeView.{program_tree}
use Rattle.model_tree.specs.Program.{IsProgram}
use Rattle.model_tree.proofs.Fitting.{program-fits}
use Rattle.model_tree.proofs.program.Program.classes.Goals as goal

pub returns-clause-fits : goal.returns-clause-fits
returns-clause-fits c =
    let program : IsProgram (program_tree c.args.self.now) = search rules in
    program-fits (program_tree c.args.self.now) program.1.spelled.fits
