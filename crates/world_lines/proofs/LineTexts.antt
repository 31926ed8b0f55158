-- Lines one after the other, as loops write them.
use Rattle.std.proofs.Common.{◌≡◌, ℕ, zero, suc, ◌+◌, ◌<◌, min, List, [], ◌∷◌, ◌++◌, length, get_or, drop, refl, sym, ap, ◌∙◌, append_assoc, append-nil, arith}
use Rattle.std.proofs.lemmas.List.{drop_more}
use Rattle.model_tree.specs.Tree.{Name}
use Rattle.model_value.specs.View.{plain_values}
use Rattle.model_value.specs.declared.value.Value.{Value}
use Rattle.text_lines.specs.Lines.{LineWord}
use Rattle.world_lines.specs.WorldLines.{fields_part, fault_part, fault_parts}

none_left : (names : List Name) (values : List Value) (i : ℕ) → i ≡ min (length names) (length values) → fields_part (drop i names) (plain_values (drop i values)) ≡ []
none_left [] values zero at = refl
none_left [] values (suc i) at = refl
none_left (name ∷ names) [] zero at = refl
none_left (name ∷ names) [] (suc i) at = absurd (omega (arith, at))
none_left (name ∷ names) (value ∷ values) zero at = absurd (omega (arith, at))
none_left (name ∷ names) (value ∷ values) (suc i) at = none_left names values i (omega (arith, at))

-- where one of the lists ends, no field is left
pub fields_end : (names : List Name) (values : List Value) (i : ℕ) (before whole : List ℕ) → i ≡ min (length names) (length values) → before ++ fields_part (drop i names) (plain_values (drop i values)) ≡ whole → before ≡ whole
fields_end names values i before whole at led =
    sym (append-nil before) ∙ ap (λ (p : List ℕ). before ++ p) (sym (none_left names values i at)) ∙ led

-- one kind of fault more
pub fault_on : (kinds : List LineWord) (counts : List ℕ) (i : ℕ) (kind : LineWord) (count : ℕ) (before after whole : List ℕ) → i < length kinds → i < length counts → kind ≡ get_or kinds i [] → count ≡ get_or counts i 0 → after ≡ before ++ fault_part kind count
    → before ++ fault_parts (drop i kinds) (drop i counts) ≡ whole → after ++ fault_parts (drop (i + 1) kinds) (drop (i + 1) counts) ≡ whole
fault_on kinds counts i kind count before after whole lt within is seen grew led =
    let rest : List ℕ = fault_parts (drop (i + 1) kinds) (drop (i + 1) counts) in
    let ks : drop i kinds ≡ kind ∷ drop (i + 1) kinds = drop_more kinds i [] lt ∙ ap (λ (k : LineWord). k ∷ drop (i + 1) kinds) (sym is) in
    let cs : drop i counts ≡ count ∷ drop (i + 1) counts = drop_more counts i 0 within ∙ ap (λ (c : ℕ). c ∷ drop (i + 1) counts) (sym seen) in
    ap (λ (t : List ℕ). t ++ rest) grew
    ∙ append_assoc before (fault_part kind count) rest
    ∙ ap (λ (p : List ℕ). before ++ p) (sym (ap (λ (xs : List LineWord). fault_parts xs (drop i counts)) ks ∙ ap (λ (xs : List ℕ). fault_parts (kind ∷ drop (i + 1) kinds) xs) cs))
    ∙ led
