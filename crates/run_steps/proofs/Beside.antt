-- Steps over some parts of the outside are steps over all.
use Rattle.std.proofs.Common.{◌≡◌, inl, inr, List, [], ◌∷◌, Option, Some, None, ap}
use Rattle.std.specs.Prelude.{⊤}
use Rattle.run_steps.specs.Steps.{Step, Loads, Puts, Looks, Prints, Connects, Returns, Hears, Sends}
use Rattle.run_steps.specs.Outside.{Outside, outside, OutsideTells, FilesTell, NetTells, LinksTell, Came, Well, Failed, WantedMemory, Cut, ActsOn, Acts}

-- ---- with files that stay

module _ {F W N L : Type 0} (files : FilesTell F) (tells : OutsideTells ⊤ W N L) (held : F) (without : tells.files ≡ None) where
  abbrev pub with_files : Outside ⊤ W N L → Outside F W N L
  with_files o = outside held o.out o.net o.link

  abbrev pub files_too : OutsideTells F W N L
  files_too = record { files = Some files; out = tells.out; net = tells.net; links = tells.links }

  pub acts_with_files : (came : Came) (step : Step) (old new : Outside ⊤ W N L) → ActsOn tells came step old new → ActsOn files_too came step (with_files old) (with_files new)
  acts_with_files came (Loads ask given) old new (loads, kept) = absurd (rw without at loads)
  acts_with_files came (Puts name bytes) old new (puts, kept) = absurd (rw without at puts)
  acts_with_files came (Looks name) old new (looks, kept) = absurd (rw without at looks)
  acts_with_files came (Prints text) old new (prints, kept) = (prints, ap with_files kept)
  acts_with_files came (Connects address) old new (free, connects, kept) = (free, connects, ap with_files kept)
  acts_with_files came Returns old new (well, returns, kept) = (well, returns, ap with_files kept)
  acts_with_files came (Hears what) old new (hears, kept) = (hears, ap with_files kept)
  acts_with_files came (Sends frame) old new (sends, kept) = (sends, ap with_files kept)

  pub all_with_files : (steps : List Step) (cut : Option Cut) (old new : Outside ⊤ W N L) → Acts tells steps cut old new → Acts files_too steps cut (with_files old) (with_files new)
  all_with_files [] None old new kept = ap with_files kept
  all_with_files [] (Some cut) old new never = absurd never
  all_with_files (step ∷ steps) cut old new (inl (mid, acts, rest)) = inl (with_files mid, acts_with_files Well step old mid acts, all_with_files steps cut mid new rest)
  all_with_files (step ∷ steps) cut old new (inr (inl (acts, is))) = inr (inl (acts_with_files Failed step old new acts, is))
  all_with_files (step ∷ steps) cut old new (inr (inr (acts, is))) = inr (inr (acts_with_files WantedMemory step old new acts, is))

-- ---- with a net that stays

module _ {F W N L : Type 0} (net : NetTells N L) (tells : OutsideTells F W ⊤ L) (held : N) (without : tells.net ≡ None) where
  abbrev pub with_net : Outside F W ⊤ L → Outside F W N L
  with_net o = outside o.files o.out held o.link

  abbrev pub net_too : OutsideTells F W N L
  net_too = record { files = tells.files; out = tells.out; net = Some net; links = tells.links }

  pub acts_with_net : (came : Came) (step : Step) (old new : Outside F W ⊤ L) → ActsOn tells came step old new → ActsOn net_too came step (with_net old) (with_net new)
  acts_with_net came (Loads ask given) old new (loads, kept) = (loads, ap with_net kept)
  acts_with_net came (Puts name bytes) old new (puts, kept) = (puts, ap with_net kept)
  acts_with_net came (Looks name) old new (looks, kept) = (looks, ap with_net kept)
  acts_with_net came (Prints text) old new (prints, kept) = (prints, ap with_net kept)
  acts_with_net came (Connects address) old new (free, connects, kept) = absurd (rw without at connects)
  acts_with_net came Returns old new (well, returns, kept) = absurd (rw without at returns)
  acts_with_net came (Hears what) old new (hears, kept) = (hears, ap with_net kept)
  acts_with_net came (Sends frame) old new (sends, kept) = (sends, ap with_net kept)

  pub all_with_net : (steps : List Step) (cut : Option Cut) (old new : Outside F W ⊤ L) → Acts tells steps cut old new → Acts net_too steps cut (with_net old) (with_net new)
  all_with_net [] None old new kept = ap with_net kept
  all_with_net [] (Some cut) old new never = absurd never
  all_with_net (step ∷ steps) cut old new (inl (mid, acts, rest)) = inl (with_net mid, acts_with_net Well step old mid acts, all_with_net steps cut mid new rest)
  all_with_net (step ∷ steps) cut old new (inr (inl (acts, is))) = inr (inl (acts_with_net Failed step old new acts, is))
  all_with_net (step ∷ steps) cut old new (inr (inr (acts, is))) = inr (inr (acts_with_net WantedMemory step old new acts, is))

-- ---- a run without a net is one beside any net, which stays

module _ {F W N L : Type 0} (net : NetTells N L) (links : LinksTell L) (tells : OutsideTells F W ⊤ ⊤) (held : N) (without_net : tells.net ≡ None) (without_links : tells.links ≡ None) where
  abbrev pub beside_net : Outside F W ⊤ ⊤ → Outside F W N L
  beside_net o = outside o.files o.out held None

  abbrev pub all_tell : OutsideTells F W N L
  all_tell = record { files = tells.files; out = tells.out; net = Some net; links = Some links }

  pub acts_beside_net : (came : Came) (step : Step) (old new : Outside F W ⊤ ⊤) → ActsOn tells came step old new → ActsOn all_tell came step (beside_net old) (beside_net new)
  acts_beside_net came (Loads ask given) old new (loads, kept) = (loads, ap beside_net kept)
  acts_beside_net came (Puts name bytes) old new (puts, kept) = (puts, ap beside_net kept)
  acts_beside_net came (Looks name) old new (looks, kept) = (looks, ap beside_net kept)
  acts_beside_net came (Prints text) old new (prints, kept) = (prints, ap beside_net kept)
  acts_beside_net came (Connects address) old new (free, connects, kept) = absurd (rw without_net at connects)
  acts_beside_net came Returns old new (well, returns, kept) = absurd (rw without_net at returns)
  acts_beside_net came (Hears what) old new (hears, kept) = absurd (rw without_links at hears)
  acts_beside_net came (Sends frame) old new (sends, kept) = absurd (rw without_links at sends)

  pub all_beside_net : (steps : List Step) (cut : Option Cut) (old new : Outside F W ⊤ ⊤) → Acts tells steps cut old new → Acts all_tell steps cut (beside_net old) (beside_net new)
  all_beside_net [] None old new kept = ap beside_net kept
  all_beside_net [] (Some cut) old new never = absurd never
  all_beside_net (step ∷ steps) cut old new (inl (mid, acts, rest)) = inl (beside_net mid, acts_beside_net Well step old mid acts, all_beside_net steps cut mid new rest)
  all_beside_net (step ∷ steps) cut old new (inr (inl (acts, is))) = inr (inl (acts_beside_net Failed step old new acts, is))
  all_beside_net (step ∷ steps) cut old new (inr (inr (acts, is))) = inr (inr (acts_beside_net WantedMemory step old new acts, is))
