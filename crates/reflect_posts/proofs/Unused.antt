-- Shares that have given no link.
use Rattle.std.proofs.Common.{◌≡◌, All, List, [], ◌∷◌, ◌++◌, Some, sym, subst, arith}
use Rattle.std.specs.Option.{option_to_list}
use Rattle.std.proofs.lemmas.List.Elements.{All-pop, All-push}
use Rattle.run_steps.specs.Outside.{NetTells}
use Rattle.host_posts.specs.Shares.{IsUnused}
use Rattle.host_posts.proofs.ShareLaws.{unused_still}

module _ {N S L : Type 0} (tells : NetTells N L) (shares : NetTells S L) where
  pub none_unused : (net : N) (all : List S) → all ≡ [] → All (IsUnused tells shares net) all
  none_unused net all none = subst (All (IsUnused tells shares net)) (sym none) (λ place d within. absurd (omega (arith, within)))

  pub one_more_unused : (net : N) (all now : List S) (share : S) → now ≡ all ++ share ∷ [] → All (IsUnused tells shares net) all → IsUnused tells shares net share → All (IsUnused tells shares net) now
  one_more_unused net all now share is unused one = subst (All (IsUnused tells shares net)) (sym is) (All-push (IsUnused tells shares net) all share unused one)

  pub last_unused : (net : N) (all rest : List S) (share : S) → all ≡ rest ++ option_to_list (Some share) → All (IsUnused tells shares net) all → All (IsUnused tells shares net) rest × IsUnused tells shares net share
  last_unused net all rest share is unused = All-pop (IsUnused tells shares net) all rest (Some share) is unused

  -- they are so of what the net has come to, which tells of the same links
  pub all_still : (before now : N) (all : List S) → tells.over now ≡ tells.over before → All (IsUnused tells shares before) all → All (IsUnused tells shares now) all
  all_still before now all same unused place d within = unused_still tells shares before now _ same (unused place d within)
