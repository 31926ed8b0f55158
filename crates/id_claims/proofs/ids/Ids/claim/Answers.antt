use Rattle.std.proofs.Common.{rules}
use Rattle.id_claims.proofs.Places.{last_place}
use Rattle.id_claims.proofs.ids.Ids.claim.Goals as goal

pub returns-clause-has : goal.returns-clause-has
returns-clause-has c = last_place c.self.inside.ids.items c.push_reserved.new.self.items c.args.id.now c.len-2.result (search rules) (search rules) (search rules) (search rules) (search rules)
