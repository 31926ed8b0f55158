use Rattle.std.proofs.Common.{rules}
use Rattle.std.specs.Cmp.Lexicographic.{slice_cmp}
use Rattle.std.specs.Ordering.{nat_cmp}
use Rattle.std.proofs.lemmas.Fn.{always_returns_same}
use Rattle.world_plain.specs.declared.world.Known.{Known}
use Rattle.known_names.proofs.KnownPlaces.{searched}
use Rattle.known_names.proofs.known.place_of.Goals as goal

pub returns : goal.returns
returns c =
    let facts = c.binary_search_by.ensures in
    let by_name = facts.position (λ (k : Known). slice_cmp nat_cmp k.name c.args.name.now) (always_returns_same _ _ _ (λ a r f' called. search rules)) in
    searched c.args.name.now c.args.names.now c.requires c.binary_search_by.result facts.bound by_name
