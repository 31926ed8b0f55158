use Rattle.std.proofs.Common.{ℕ, List, ap, ◌∙◌}
use Rattle.tea_base.specs.declared.entry.Entry.{Entry}
use Rattle.model_solved.specs.Founding.{CheckedView}
use Rattle.time_line.specs.Keyframes.{moment}
use Rattle.time_line.proofs.laws.one_moment.Goals as goal

pub returns : goal.returns
returns c = λ line other t program id entries.
    ap (λ (p : CheckedView). moment (record { program = p; id = other.id; entries = other.entries; every = other.every }) t) program
    ∙ ap (λ (i : List ℕ). moment (record { program = line.program; id = i; entries = other.entries; every = other.every }) t) id
    ∙ ap (λ (es : List Entry). moment (record { program = line.program; id = line.id; entries = es; every = other.every }) t) entries
