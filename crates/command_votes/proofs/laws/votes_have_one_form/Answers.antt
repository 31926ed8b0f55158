use Rattle.command_votes.proofs.Form.{read_vote, read_only}
use Rattle.command_votes.proofs.laws.votes_have_one_form.Goals as goal

pub returns-clause-read : goal.returns-clause-read
returns-clause-read c = read_vote

pub returns-clause-only : goal.returns-clause-only
returns-clause-only c = read_only
