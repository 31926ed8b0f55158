use Rattle.std.proofs.Common.{◌<◌, ◌+◌, length, arith, ◌∙◌, sym, drop}
use Rattle.std.proofs.lemmas.List.{at_drop_more}
use Rattle.command_words.specs.Parts.{all_parts}
use Rattle.command_words.specs.PartsRead.{read_on}
use Rattle.command_words.proofs.PartsLaws.{behind_nothing}
use Rattle.command_words.proofs.parts.read_parts.Goals as goal

pub loop-word-init : goal.loop-word-init
loop-word-init c = rw c.new.ensures (behind_nothing (all_parts c.args.words.now))

pub returns-then-not-follows : goal.returns-then-not-follows
returns-then-not-follows c =
    let within : c.loop-word.word-index < length c.args.words.now = omega arith in
    let here = at_drop_more (read_on c.loop-word.reader.parts c.loop-word.reader.awaiting) c.args.words.now c.loop-word.word-index c.word-item.result within in
    let at_word = rw (← c.word-item.is) at here in
    let broken = rw c.if-not-follows.true at c.in_ok-follows.ensures in
    sym (sym c.loop-word.invariant ∙ at_word ∙ broken (drop (c.loop-word.word-index + 1) c.args.words.now))
