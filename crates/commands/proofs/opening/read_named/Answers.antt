use Rattle.std.proofs.Common.{arith, inl, inr, refl}
use Rattle.session_journal.specs.Journal.{NoJournal, OtherSession}
use Rattle.session_journal.specs.Reading.{read_place}
use Rattle.commands.proofs.LogLaws.{is_journal, is_read}
use Rattle.commands.proofs.opening.read_named.Goals as goal

pub returns-in-Ok-clause-read : goal.returns-in-Ok-clause-read
returns-in-Ok-clause-read c = is_journal c.args.id.now.0 c.args.bytes.now (read_place c.in-Ok.read) c.requires c.in-Ok.ensures.read

pub returns-in-Ok-clause-sound : goal.returns-in-Ok-clause-sound
returns-in-Ok-clause-sound c =
    c.what_is_read_may_be_opened.ensures c.args.id.now.0 c.args.bytes.now (λ i. omega (arith, c.type_inv.bytes i)) (read_place c.in-Ok.read) c.in-Ok.ensures.read

pub returns-in-Err-NoJournal-clause-bad : goal.returns-in-Err-NoJournal-clause-bad
returns-in-Err-NoJournal-clause-bad c bad source is =
    is_read c.args.id.now.0 c.args.bytes.now NoJournal c.requires (c.in-Err-NoJournal.ensures.none (rw c.in-Err-NoJournal.field-0-is refl)) (inl refl)

pub returns-in-Err-OtherSession-clause-bad : goal.returns-in-Err-OtherSession-clause-bad
returns-in-Err-OtherSession-clause-bad c bad source is =
    is_read c.args.id.now.0 c.args.bytes.now OtherSession c.requires (c.in-Err-OtherSession.ensures.other (rw c.in-Err-OtherSession.field-0-is refl)) (inr refl)
