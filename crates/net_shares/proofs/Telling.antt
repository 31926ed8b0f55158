-- What a net tells once its shares were given back.
use Rattle.std.proofs.Common.{◌≡◌, List, ◌++◌, Option, Some, None, refl, ap}
use Rattle.std.proofs.lemmas.List.{append_assoc}
use Rattle.tea_io.specs.Told.{with_more}
use Rattle.net_shares.specs.Shares.{none_of, with_all}

-- two lists behind what is told are one
pub with_more_twice
    : {L : Type 0} (told : Option (List L)) (first then : List L)
    → with_more (with_more told first) then ≡ with_more told (first ++ then)
with_more_twice None first then = refl
with_more_twice (Some told) first then = ap (λ xs. Some xs) (append_assoc told first then)

-- a share that began when this was told brings its links behind those that came back before
pub with_all_more
    : {L : Type 0} (told : Option (List L)) (first then : List L)
    → with_all (with_more told first) (with_more (none_of told) then) ≡ with_more told (first ++ then)
with_all_more None first then = refl
with_all_more (Some told) first then = ap (λ xs. Some xs) (append_assoc told first then)

-- the same where none came back before
pub with_all_first
    : {L : Type 0} (told : Option (List L)) (links : List L)
    → with_all told (with_more (none_of told) links) ≡ with_more told links
with_all_first None links = refl
with_all_first (Some told) links = refl
