use Rattle.std.proofs.Common.{ap, sym, subst, ◌∙◌, arith}
use Rattle.world_plain.specs.Valid.{KnownRise}
use Rattle.world_plain.specs.World.{known_weight, total_weight}
use Rattle.world.proofs.resuming.put_names.Goals as goal

pub take_up-requires-clause-rise : goal.take_up-requires-clause-rise
take_up-requires-clause-rise c = subst KnownRise (sym (c.in_ok-names.ensures ∙ c.as_slice.ensures)) c.requires.1.names.rise

pub take_up-requires-clause-light : goal.take_up-requires-clause-light
take_up-requires-clause-light c = omega (arith, ap (total_weight known_weight) (c.in_ok-names.ensures ∙ c.as_slice.ensures), c.requires.1.weight)
