use Rattle.std.proofs.Common.{◌++◌, List, ℕ, ap, ◌∙◌, codes}
use Rattle.command_reflect.proofs.KeptLaws.{torn_named}
use Rattle.command_reflect.proofs.keeping.torn_name.Goals as goal

pub returns : goal.returns
returns c =
    torn_named c.args.journal.now c.copy.result c.as_str-2.result.now c.copy.ensures.ok
    (c.as_str-2.ensures.value ∙ c.in_ok-push_str.ensures.bytes ∙ ap (λ (front : List ℕ). front ++ codes ".torn") (c.in_ok-name.ensures.ok ∙ c.as_str.ensures))
