-- The replay of a log, as the worlds of a program and a session have it, and worlds at rest.
use Rattle.std.proofs.Common.{◌≡◌, ℕ, true, List, [], ◌∷◌, refl, ap, ◌∙◌}
use Rattle.std.specs.List.{fold}
use Rattle.tea_base.specs.declared.entry.Entry.{Entry}
use Rattle.model_solved.specs.Founding.{Founding}
use Rattle.world_plain.specs.World.{WorldRecord}
use Rattle.world.specs.View.{are_behind, is_at_rest}
use Rattle.world.specs.Worlds.{external, take_up}
use Rattle.replica_plain.specs.Worlds.{externals}
use Rattle.replica.specs.RealWorlds.{worlds}

pub fold-externals : (founding : Founding) (id : List ℕ) (w : WorldRecord) (entries : List Entry)
    → fold (λ (v : WorldRecord) (e : Entry). (external founding.tree e (take_up v)).world) w entries ≡ externals (worlds founding id) w entries
fold-externals founding id w [] = refl
fold-externals founding id w (e ∷ es) = fold-externals founding id ((external founding.tree e (take_up w)).world) es

-- a world of this time, whose messages are all of later times, is at rest
pub rests-at : (t : ℕ) (w : WorldRecord) → w.time ≡ t → are_behind t w.pending ≡ true → is_at_rest w ≡ true
rests-at t w timed are = ap (λ u. are_behind u w.pending) timed ∙ are
