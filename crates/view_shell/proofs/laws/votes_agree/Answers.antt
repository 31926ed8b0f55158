use Rattle.std.proofs.Common.{subst, sym}
use Rattle.replica_plain.specs.Worlds.{AreWorlds}
use Rattle.replica.specs.RealWorlds.{worlds}
use Rattle.view_shell.proofs.Agreeing.{digests_agree, votes_with_log, world_of_log}
use Rattle.view_shell.proofs.laws.votes_agree.Goals as goal

pub returns-clause-world : goal.returns-clause-world
returns-clause-world c founding id log r entry is legal takes = world_of_log (worlds founding id) (c.worlds_stand.ensures founding id is) log r entry legal takes

pub returns-clause-digests : goal.returns-clause-digests
returns-clause-digests c founding id log r other entry is legal takes also =
    digests_agree (worlds founding id) (c.worlds_stand.ensures founding id is) log r other entry legal takes also

pub returns-clause-vote : goal.returns-clause-vote
returns-clause-vote c founding id log v entry at is legal same takes below =
    votes_with_log log v (subst AreWorlds (sym same) (c.worlds_stand.ensures founding id is)) entry at legal takes below
