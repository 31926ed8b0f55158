-- Worlds that count their entries: the laws of worlds can be met.
use Rattle.std.proofs.Common.{ℕ, ◌+◌, ◌≡◌, Bool, if◌then◌else◌, nat_lt, subst, arith, true, false, List, [], ◌∷◌, ◌++◌, Option, Some, None, refl}
use Rattle.std.proofs.lemmas.Bool.Decides.{nat_tests}
use Rattle.tea_base.specs.Limits.{time_limit}
use Rattle.replica_plain.specs.Worlds.{Worlds, AreWorlds}

-- a time and a count
pub record Counter : Type 0 where
  pub at : ℕ
  pub entries : ℕ

abbrev pub unsnap_counter : List ℕ → Option Counter
unsnap_counter (at ∷ entries ∷ []) = if nat_lt at time_limit then Some (record { at = at; entries = entries }) else None
unsnap_counter other = None

-- each entry makes it publish how many there are; what the first world publishes is given
abbrev pub counters_from : List ℕ → Worlds Counter ℕ
counters_from first_out =
    record {
      session = [];
      first = record { at = 0; entries = 0 };
      first_out = first_out;
      external = λ w entry. record { at = entry.time; entries = w.entries + 1 };
      external_out = λ w entry out. out ++ (w.entries + 1) ∷ [];
      advance = λ w t. record { at = t; entries = w.entries };
      advance_out = λ w t out. out;
      time = λ w. w.at;
      valid = λ w. nat_lt w.at time_limit;
      at_rest = λ w. true;
      snapshot = λ w. w.at ∷ w.entries ∷ [];
      unsnap = unsnap_counter;
    }

unsnap_counter-valid_if : (b : Bool) (at entries : ℕ) (w : Counter) → nat_lt at time_limit ≡ b → (if b then Some (record { at = at; entries = entries }) else None) ≡ Some w → nat_lt w.at time_limit ≡ true
unsnap_counter-valid_if true at entries w is same = let held : record { at = at; entries = entries } ≡ w = cc in subst (λ (t : Counter). nat_lt t.at time_limit ≡ true) held is
unsnap_counter-valid_if false at entries w is same = absurd cc

unsnap_counter-valid : (bytes : List ℕ) (w : Counter) → unsnap_counter bytes ≡ Some w → nat_lt w.at time_limit ≡ true
unsnap_counter-valid [] w is = absurd cc
unsnap_counter-valid (at ∷ []) w is = absurd cc
unsnap_counter-valid (at ∷ entries ∷ []) w is = unsnap_counter-valid_if (nat_lt at time_limit) at entries w refl is
unsnap_counter-valid (at ∷ entries ∷ more ∷ rest) w is = absurd cc

pub counters_are_worlds : (first_out : List ℕ) → AreWorlds (counters_from first_out)
counters_are_worlds first_out =
    record {
      first_time = refl;
      first_valid = refl;
      valid_time = λ w valid. grind (arith, nat_tests);
      external_time = λ w entry valid le. refl;
      external_valid = λ w entry valid later below. grind (arith, nat_tests);
      external_after = λ w s entry valid le le_too below. refl;
      advance_time = λ w t valid le. refl;
      advance_valid = λ w t valid le below. grind (arith, nat_tests);
      advance_again = λ w s t valid le le_too below. refl;
      advance_rests = λ w t valid le below. refl;
      at_rest_stays = λ w valid rests. refl;
      unsnap_valid = unsnap_counter-valid;
    }
