-- How a session goes on.
use Rattle.std.specs.Prelude.{ℕ, ◌≡◌, ◌≤◌, ◌<◌, Bool, true, false, List, [], ◌∷◌, ◌++◌}
use Rattle.tea_base.specs.declared.entry.Entry.{Entry}
use Rattle.reflector_core.specs.PlainSession.{PlainSession}
use Rattle.reflector_core.specs.declared.request.Request.{Request}
use Rattle.reflector_core.specs.declared.request.Request.TheVariants.{Join, Send, Tick, Leave, Offer, Pull}

-- each of the entries has a time above this
abbrev pub AreLater : ℕ → List Entry → Type 0
AreLater time [] = Unit {0}
AreLater time (entry ∷ rest) = (time < entry.time) × AreLater time rest

-- the log goes on with entries that are later than the horizon was, and the horizon does not fall
pub record GrowsTo (old new : PlainSession) : Type 0 where
  pub rest : List Entry
  pub log : new.log ≡ old.log ++ rest
  pub later : AreLater old.horizon rest
  pub horizon : old.horizon ≤ new.horizon

abbrev pub is_offer : Request → Bool
is_offer (Join view now want) = false
is_offer (Send view joined number payload now) = false
is_offer (Tick now) = false
is_offer (Leave view joined now) = false
is_offer (Offer view joined time snapshot) = true
is_offer (Pull after limit) = false
