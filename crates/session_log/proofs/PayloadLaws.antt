-- Payloads in two pieces.
use Rattle.std.proofs.Common.{ℕ, ◌≡◌, List, ◌++◌, length, take, drop, sym, ap, ◌∙◌, refl}
use Rattle.std.proofs.lemmas.List.{take-append-drop, take_at, drop_at}

pub joined_at : (first second bytes : List ℕ) → take (length first) bytes ≡ first → drop (length first) bytes ≡ second → first ++ second ≡ bytes
joined_at first second bytes front back =
    ap (λ (xs : List ℕ). xs ++ second) (sym front) ∙ ap (λ (ys : List ℕ). take (length first) bytes ++ ys) (sym back) ∙ take-append-drop (length first) bytes

pub split_front : (first second bytes : List ℕ) → first ++ second ≡ bytes → take (length first) bytes ≡ first
split_front first second bytes is = ap (take (length first)) (sym is) ∙ take_at first second (length first) refl

pub split_back : (first second bytes : List ℕ) → first ++ second ≡ bytes → drop (length first) bytes ≡ second
split_back first second bytes is = ap (drop (length first)) (sym is) ∙ drop_at first second (length first) refl
