use Rattle.std.proofs.Common.{sym, ◌∙◌}
use Rattle.commands.specs.Work.{ComesNext, plain_keeping}
use Rattle.croquet.proofs.KeptRuns.{bounded_keeping, founded_gone, founding_turns, founds_by}
use Rattle.croquet.proofs.keeping.found.Goals as goal

pub returns-then-is_some-clause-founds : goal.returns-then-is_some-clause-founds
returns-then-is_some-clause-founds g c =
    founded_gone _ _ c.args.keeping c.args.files.now c.args.out.now c.tell.new.out c.tell.result (sym c.is_some.ensures ∙ c.if-is_some.true) c.tell.ensures

pub kept_turn-requires : goal.kept_turn-requires
kept_turn-requires g c =
    founding_turns _ _ (ComesNext c.found_journal.result) (plain_keeping c.args.keeping) c.go_on.result c.args.files.now c.go_on.new.files c.args.out.now c.go_on.new.out c.found_journal.ensures.leads c.go_on.ensures.turns

pub returns-clause-founds : goal.returns-clause-founds
returns-clause-founds g c =
    founds_by _ _ c.args.keeping (ComesNext c.found_journal.result) c.kept_turn.result c.go_on.result c.args.files.now c.go_on.new.files c.args.out.now c.go_on.new.out
    c.kept_turn.ensures (sym c.is_some.ensures ∙ c.if-is_some.false) c.found_journal.ensures.leads c.go_on.ensures.turns

pub returns-clause-bounded : goal.returns-clause-bounded
returns-clause-bounded g c = bounded_keeping c.kept_turn.result c.go_on.result c.kept_turn.ensures c.go_on.ensures.bounded
