-- Texts that are appended piece by piece.
use Rattle.std.proofs.Common.{◌≡◌, ℕ, List, ◌++◌, ap, ◌∙◌, append_assoc}

-- a piece, and then what stands behind it
pub piece_before : (old mid new piece rest : List ℕ) → mid ≡ old ++ piece → new ≡ mid ++ rest → new ≡ old ++ (piece ++ rest)
piece_before old mid new piece rest first later = later ∙ ap (λ (text : List ℕ). text ++ rest) first ∙ append_assoc old piece rest
