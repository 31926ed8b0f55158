-- Reading items one after the other, as a loop does.
use Rattle.std.proofs.Common.{◌≡◌, ◌≢◌, ℕ, suc, ◌+◌, ◌-◌, ◌<◌, ◌≤◌, List, [], ◌∷◌, ◌++◌, length, Option, Some, None, refl, sym, ◌∙◌, arith}
use Rattle.std.specs.Prelude.{false, ◌==◌}
use Rattle.std.proofs.lemmas.Bool.Decides.{nat_tests}
use Rattle.byte_fields.specs.Fields.{Decoder}
use Rattle.model_value.specs.Plain.{PlainValue}
use Rattle.value_text.specs.Reading.{behind_item, text_items_at}

-- an item was read
pub one_more : (read : Decoder PlainValue) (before : List PlainValue) (count i : ℕ) (bytes behind : List ℕ) (value : PlainValue) (total : Option (List PlainValue × List ℕ)) → i < count → read bytes ≡ Some (value, behind)
    → text_items_at read before (count - i) bytes ≡ total → behind_item (before ++ value ∷ []) (text_items_at read (before ++ value ∷ []) (count - (i + 1))) behind ≡ total
unfolding text_items_at
one_more read before count i bytes behind value total lt found so_far =
    let k : count - i ≡ suc (count - (i + 1)) = omega arith in
    let one : text_items_at read before (count - i) bytes ≡ behind_item (before ++ value ∷ []) (text_items_at read (before ++ value ∷ []) (count - (i + 1))) behind = rw (k, found) refl in
    sym one ∙ so_far

-- none was read
pub no_more : (read : Decoder PlainValue) (before : List PlainValue) (count i : ℕ) (bytes : List ℕ) (total : Option (List PlainValue × List ℕ)) → i < count → read bytes ≡ None → text_items_at read before (count - i) bytes ≡ total → total ≡ None
unfolding text_items_at
no_more read before count i bytes total lt none so_far =
    let k : count - i ≡ suc (count - (i + 1)) = omega arith in
    let one : text_items_at read before (count - i) bytes ≡ None = rw (k, none) refl in
    sym so_far ∙ one

-- there may be no more
pub at_end : (read : Decoder PlainValue) (before : List PlainValue) (count i : ℕ) (bytes : List ℕ) (total : Option (List PlainValue × List ℕ)) → count ≤ i → text_items_at read before (count - i) bytes ≡ total → total ≡ None
unfolding text_items_at
at_end read before count i bytes total le so_far =
    let k : count - i ≡ 0 = omega arith in
    let one : text_items_at read before (count - i) bytes ≡ None = rw k refl in
    sym so_far ∙ one

-- ---- what stands behind an item

pub behind_nothing : (items : List PlainValue) (more : Decoder (List PlainValue)) (bytes : List ℕ) (total : Option (List PlainValue × List ℕ)) → length bytes ≡ 0 → behind_item items more bytes ≡ total → total ≡ None
behind_nothing items more [] total none e = sym e
behind_nothing items more (byte ∷ bytes) total none e = absurd (omega arith)

pub behind_end : (items : List PlainValue) (more : Decoder (List PlainValue)) (bytes : List ℕ) (first : ℕ) (after : List ℕ) (total : Option (List PlainValue × List ℕ)) → bytes ≡ first ∷ after → first ≡ 93 → behind_item items more bytes ≡ total → total ≡ Some (items, after)
behind_end items more bytes first after total whole is e =
    let end : behind_item items more bytes ≡ Some (items, after) = rw (whole, is) refl in
    sym e ∙ end

pub behind_comma : (items : List PlainValue) (more : Decoder (List PlainValue)) (bytes : List ℕ) (first : ℕ) (after : List ℕ) (total : Option (List PlainValue × List ℕ)) → bytes ≡ first ∷ after → first ≡ 44 → behind_item items more bytes ≡ total → more after ≡ total
behind_comma items more bytes first after total whole is e =
    let goes : behind_item items more bytes ≡ more after = rw (whole, is) refl in
    sym goes ∙ e

pub behind_other : (items : List PlainValue) (more : Decoder (List PlainValue)) (bytes : List ℕ) (first : ℕ) (after : List ℕ) (total : Option (List PlainValue × List ℕ)) → bytes ≡ first ∷ after → first ≢ 93 → first ≢ 44 → behind_item items more bytes ≡ total → total ≡ None
behind_other items more bytes first after total whole end comma e =
    let n : (first == 93) ≡ false = grind (arith, nat_tests) in
    let m : (first == 44) ≡ false = grind (arith, nat_tests) in
    let none : behind_item items more bytes ≡ None = rw (whole, n, m) refl in
    sym e ∙ none
