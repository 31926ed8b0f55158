-- The links that were given back to a net in memory.
use Rattle.std.proofs.Common.{◌≡◌, List, [], ◌∷◌, ◌++◌, refl, ap, sym, ◌∙◌}
use Rattle.std.proofs.lemmas.List.{append_assoc, append-nil}
use Rattle.tea_io.specs.MemLink.{MemLinkState}
use Rattle.net_shares.specs.MemShares.{MemShareState}
use Rattle.net_shares.specs.MemSharedNets.{over_of}
use Rattle.net_shares.specs.declared.returned.Returned.{Returned}
use Rattle.net_shares.specs.declared.returned.Returned.TheVariants.{Link, Share}

-- one link more
pub over_with_more
    : (returned : List Returned) (link : MemLinkState)
    → over_of (returned ++ Link link ∷ []) ≡ over_of returned ++ link ∷ []
over_with_more [] link = refl
over_with_more (Link first ∷ rest) link = ap (λ xs. first ∷ xs) (over_with_more rest link)
over_with_more (Share share ∷ rest) link =
    ap (λ xs. share.over ++ xs) (over_with_more rest link)
    ∙ sym (append_assoc share.over (over_of rest) (link ∷ []))

-- one share more
pub over_with_part
    : (returned : List Returned) (part : MemShareState)
    → over_of (returned ++ Share part ∷ []) ≡ over_of returned ++ part.over
over_with_part [] part = append-nil part.over
over_with_part (Link first ∷ rest) part = ap (λ xs. first ∷ xs) (over_with_part rest part)
over_with_part (Share share ∷ rest) part =
    ap (λ xs. share.over ++ xs) (over_with_part rest part)
    ∙ sym (append_assoc share.over (over_of rest) part.over)
