-- What is written piece by piece.
use Rattle.std.proofs.Common.{◌≡◌, ◌≤◌, ◌<◌, ◌+◌, ℕ, List, [], ◌∷◌, ◌++◌, length, length-append, append_assoc, append-nil, take, map, get_or, ap, ◌∙◌, arith}
use Rattle.std.specs.List.{flat_map}
use Rattle.std.proofs.lemmas.List.{get_or-map, length-map, take_more}
use Rattle.std.proofs.lemmas.List.Concat.{flat_map-append}
use Rattle.std.proofs.lemmas.List.Folds.{length-flat_map-take}
use Rattle.session_log.specs.Room.{FillingState, Fills}

-- two pieces are written as one
pub fills_on : (a b c : FillingState) (x y : List ℕ) → Fills a b x → Fills b c y → Fills a c (x ++ y)
fills_on a b c x y first next = record {
  written = rw (next.written, first.written) (append_assoc a.bytes x y);
  room = omega (arith, length-append x y, first.room, next.room);
}

module _ {X Y : Type 0} (spell : Y → List ℕ) (of : X → Y) (xs : List X) (i : ℕ) (x : X) (a b : FillingState) (below : i < length xs) (so_far : Fills a b (flat_map spell (take i (map of xs)))) where
  within : i < length (map of xs)
  within = omega (arith, length-map xs of)

  read : get_or (map of xs) i (of x) ≡ of (get_or xs i x)
  read = get_or-map of xs i x (of x) below

  -- the next piece has room where all have
  pub piece_fits : length (flat_map spell (map of xs)) ≤ a.spare → length (spell (of (get_or xs i x))) ≤ b.spare
  piece_fits fits = omega (arith, rw read at (length-flat_map-take spell (map of xs) i (of x) within), so_far.room)

  grown : flat_map spell (take (i + 1) (map of xs)) ≡ flat_map spell (take i (map of xs)) ++ spell (of (get_or xs i x))
  grown =
      ap (flat_map spell) (take_more (map of xs) i (of x) within)
      ∙ flat_map-append spell (take i (map of xs)) (get_or (map of xs) i (of x) ∷ [])
      ∙ ap (λ (more : List ℕ). flat_map spell (take i (map of xs)) ++ more) (append-nil (spell (get_or (map of xs) i (of x))) ∙ ap spell read)

  -- one piece more is written
  pub piece_more : (c : FillingState) → Fills b c (spell (of (get_or xs i x))) → Fills a c (flat_map spell (take (i + 1) (map of xs)))
  piece_more c next = rw grown (fills_on a b c _ _ so_far next)
