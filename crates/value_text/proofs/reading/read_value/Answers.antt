use Rattle.value_text.proofs.ReadAnswers.{answers_read, answers_bad, answers_only, answers_reads}
use Rattle.value_text.proofs.reading.read_value.Goals as goal

pub returns-clause-read : goal.returns-clause-read
returns-clause-read c = answers_read c.read_whole.result c.args.text.now c.read_whole.ensures

pub returns-clause-bad : goal.returns-clause-bad
returns-clause-bad c = answers_bad c.read_whole.result c.args.text.now c.read_whole.ensures

pub returns-clause-only : goal.returns-clause-only
returns-clause-only c = answers_only c.read_whole.result c.args.text.now c.read_whole.ensures

pub returns-clause-reads : goal.returns-clause-reads
returns-clause-reads c = answers_reads c.read_whole.result c.args.text.now c.read_whole.ensures
