-- Reading items one after the other, as a loop does.
use Rattle.std.proofs.Common.{◌≡◌, ℕ, suc, ◌-◌, ◌+◌, ◌≤◌, ◌<◌, List, [], ◌∷◌, ◌++◌, Option, Some, None, sym, ◌∙◌, refl, arith}
use Rattle.byte_fields.specs.Fields.{Decoder, items_at}

-- one more item was read
pub goes_on : {A : Type 0} (r : List A → Decoder A) (before : List A) (count i : ℕ) (bytes : List ℕ) (x : A) (rest : List ℕ) (total : Option (List A × List ℕ)) → i < count → r before bytes ≡ Some (x, rest)
    → items_at r before (count - i) bytes ≡ total → items_at r (before ++ x ∷ []) (count - (i + 1)) rest ≡ total
unfolding items_at
goes_on r before count i bytes x rest total lt read so_far =
    let k : count - i ≡ suc (count - (i + 1)) = omega arith in
    let one : items_at r before (count - i) bytes ≡ items_at r (before ++ x ∷ []) (count - (i + 1)) rest = rw (k, read) refl in
    sym one ∙ so_far

-- no more item was read
pub ends : {A : Type 0} (r : List A → Decoder A) (before : List A) (count i : ℕ) (bytes : List ℕ) (total : Option (List A × List ℕ)) → i < count → r before bytes ≡ None
    → items_at r before (count - i) bytes ≡ total → total ≡ None
unfolding items_at
ends r before count i bytes total lt read so_far =
    let k : count - i ≡ suc (count - (i + 1)) = omega arith in
    let one : items_at r before (count - i) bytes ≡ None = rw (k, read) refl in
    sym so_far ∙ one

-- all were read
pub is_done : {A : Type 0} (r : List A → Decoder A) (before : List A) (count i : ℕ) (bytes : List ℕ) (total : Option (List A × List ℕ)) → count ≤ i
    → items_at r before (count - i) bytes ≡ total → total ≡ Some (before, bytes)
unfolding items_at
is_done r before count i bytes total le so_far =
    let k : count - i ≡ 0 = omega arith in
    let one : items_at r before (count - i) bytes ≡ Some (before, bytes) = rw k refl in
    sym so_far ∙ one
