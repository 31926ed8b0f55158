-- What comes of a program that is not refused.
use Rattle.std.proofs.Common.{inl, inr, ℕ, List}
use Rattle.model_tree.specs.Tree.{ProgramTree}
use Rattle.command_outcome.specs.ProgramEnd.{IsFaultless}
use Rattle.commands.specs.Verdict.{Coming, Free, OfProgram, Verdict}

-- what comes of a program without faults comes of its text
pub of_program : (next : ProgramTree → Coming) (bytes : List ℕ) (tree : ProgramTree) (verdict : Verdict) → IsFaultless bytes tree → Free (next tree) verdict → Free (OfProgram next bytes) verdict
of_program next bytes tree verdict sound (inl want) = inl want
of_program next bytes tree verdict sound (inr comes) = inr (inl (tree, sound, comes))
