-- What is given of lists of values, and of their plain trees.
use Rattle.std.proofs.Common.{◌≡◌, ℕ, zero, suc, ◌+◌, ◌-◌, ◌<◌, ◌≤◌, Bool, true, false, cond, ◌&&◌, leb, ltb, List, [], ◌∷◌, ◌++◌, map, length, take, drop, set, Some, None, Vec, Global, refl, sym, ap, ◌∙◌, arith}
use Rattle.std.specs.Prelude.{ℤ, pos, negsuc, slice_get, slice_range}
use Rattle.std.proofs.lemmas.Bool.{le-leb, lt-ltb}
use Rattle.std.proofs.lemmas.List.{take-map, drop-map, map-set, length-map}
use Rattle.std.proofs.lemmas.Option.{slice_get_past}
use Rattle.model_value.specs.Plain.{PlainValue, int, text, list, items_of}
use Rattle.model_value.specs.View.{plain, plains, plain_values}
use Rattle.model_value.specs.declared.value.Value.{Value}
use Rattle.model_value.specs.declared.value.Value.TheVariants.{Int, Text, List as Items}
use Rattle.model_value.proofs.Items.{items_of-plains_of}
use Rattle.model_value.proofs.Plains.{plain-Int, plain-Text, plain-List}
use Rattle.model_builtin.specs.Builtins.{BuiltinReply, value, bad_index, part_reply, item_at, with_item, part_between, list_value, at, put, push, slice, concat}

-- ---- values of a kind

pub is_list : (v : Value) (items : Vec Value Global) → v ≡ Items items → list (plains items.items) ≡ plain v
is_list v items e = sym (ap plain e ∙ plain-List items)

pub is_int : (v : Value) (n : ℤ) → v ≡ Int n → int n ≡ plain v
is_int v n e = sym (ap plain e ∙ plain-Int n)

of_two : (f : PlainValue → PlainValue → BuiltinReply) (a b c d : PlainValue) → a ≡ c → b ≡ d → f a b ≡ f c d
of_two f a b c d e g = cc

-- ---- rows of lists

pub at_list : (x place : Value) (items : Vec Value Global) (xs : List Value) (i n : ℤ) → x ≡ Items items → place ≡ Int i → xs ≡ items.items → n ≡ i
    → part_reply {A = PlainValue} (λ v. v) (item_at (plain_values xs) n) ≡ at (plain x) (plain place)
at_list x place items xs i n e f g h =
    ap (λ (m : ℤ). part_reply {A = PlainValue} (λ v. v) (item_at (plain_values xs) m)) h
    ∙ ap (λ (ys : List Value). part_reply {A = PlainValue} (λ v. v) (item_at (plain_values ys) i)) g
    ∙ ap (λ (ys : List PlainValue). part_reply {A = PlainValue} (λ v. v) (item_at ys i)) (sym (items_of-plains_of (plain_values items.items)))
    ∙ of_two at (list (plains items.items)) (int i) (plain x) (plain place) (is_list x items e) (is_int place i f)

pub put_list : (x place : Value) (v : PlainValue) (items : Vec Value Global) (xs : List Value) (i n : ℤ) → x ≡ Items items → place ≡ Int i → xs ≡ items.items → n ≡ i
    → part_reply list_value (with_item (plain_values xs) n v) ≡ put (plain x) (plain place) v
put_list x place v items xs i n e f g h =
    ap (λ (m : ℤ). part_reply list_value (with_item (plain_values xs) m v)) h
    ∙ ap (λ (ys : List Value). part_reply list_value (with_item (plain_values ys) i v)) g
    ∙ ap (λ (ys : List PlainValue). part_reply list_value (with_item ys i v)) (sym (items_of-plains_of (plain_values items.items)))
    ∙ of_two (λ a b. put a b v) (list (plains items.items)) (int i) (plain x) (plain place) (is_list x items e) (is_int place i f)

pub slice_list : (x from to : Value) (items : Vec Value Global) (xs : List Value) (i j m n : ℤ) → x ≡ Items items → from ≡ Int i → to ≡ Int j → xs ≡ items.items → m ≡ i → n ≡ j
    → part_reply list_value (part_between (plain_values xs) m n) ≡ slice (plain x) (plain from) (plain to)
slice_list x from to items xs i j m n e f g h k l =
    ap (λ (a : ℤ). part_reply list_value (part_between (plain_values xs) a n)) k
    ∙ ap (λ (b : ℤ). part_reply list_value (part_between (plain_values xs) i b)) l
    ∙ ap (λ (ys : List Value). part_reply list_value (part_between (plain_values ys) i j)) h
    ∙ ap (λ (ys : List PlainValue). part_reply list_value (part_between ys i j)) (sym (items_of-plains_of (plain_values items.items)))
    ∙ of_two (λ a b. slice a b (int j)) (list (plains items.items)) (int i) (plain x) (plain from) (is_list x items e) (is_int from i f)
    ∙ ap (λ (b : PlainValue). slice (plain x) (plain from) b) (is_int to j g)

pub concat_list : (x y : Value) (a b : Vec Value Global) (xs ys : List Value) → x ≡ Items a → y ≡ Items b → xs ≡ a.items → ys ≡ b.items
    → value (list_value (plain_values xs ++ plain_values ys)) ≡ concat (plain x) (plain y)
concat_list x y a b xs ys e f g h =
    ap (λ (zs : List Value). value (list_value (plain_values zs ++ plain_values ys))) g
    ∙ ap (λ (zs : List Value). value (list_value (plain_values a.items ++ plain_values zs))) h
    ∙ ap (λ (zs : List PlainValue). value (list_value (zs ++ plain_values b.items))) (sym (items_of-plains_of (plain_values a.items)))
    ∙ ap (λ (zs : List PlainValue). value (list_value (items_of (plains a.items) ++ zs))) (sym (items_of-plains_of (plain_values b.items)))
    ∙ of_two concat (list (plains a.items)) (list (plains b.items)) (plain x) (plain y) (is_list x a e) (is_list y b f)

pub push_list : (x : Value) (v : PlainValue) (items new : Vec Value Global) → x ≡ Items items → plain_values new.items ≡ plain_values items.items ++ v ∷ [] → push (plain x) v ≡ value (plain (Items new))
push_list x v items new e f =
    ap (λ (a : PlainValue). push a v) (sym (is_list x items e))
    ∙ ap (λ (ys : List PlainValue). value (list_value (ys ++ v ∷ []))) (items_of-plains_of (plain_values items.items))
    ∙ ap (λ (ys : List PlainValue). value (list_value ys)) (sym f)
    ∙ ap value (sym (plain-List new))

-- ---- parts of lists

passed : {A : Type 0} (f : A → PlainValue) (b : Bool) (x : A) → b ≡ true → part_reply f (cond b (Some x) None) ≡ value (f x)
passed f true x e = refl
passed f false x e = absurd cc

both_hold : (a b : Bool) → a ≡ true → b ≡ true → (a && b) ≡ true
both_hold true b e f = f
both_hold false b e f = absurd cc

pub part_given : (items : List Value) (from to : ℤ) (i j : ℕ) (new : Vec Value Global) → from ≡ pos i → to ≡ pos j → i ≤ j → j ≤ length items → plain_values new.items ≡ plain_values (slice_range items i j)
    → part_reply list_value (part_between (plain_values items) from to) ≡ value (plain (Items new))
part_given items from to i j new e f le ge same =
    let xs = plain_values items in
    let inside : j ≤ length (map plain items) = omega (arith, length-map items plain) in
    let holds = both_hold (leb i j) (leb j (length (map plain items))) (le-leb i j le) (le-leb j (length (map plain items)) inside) in
    let cut : slice_range (map plain items) i j ≡ map plain (slice_range items i j) = ap (take (j - i)) (drop-map plain i items) ∙ take-map plain (j - i) (drop i items) in
    ap (λ (n : ℤ). part_reply list_value (part_between (map plain items) n to)) e
    ∙ ap (λ (n : ℤ). part_reply list_value (part_between (map plain items) (pos i) n)) f
    ∙ passed list_value (leb i j && leb j (length (map plain items))) (slice_range (map plain items) i j) holds
    ∙ ap (λ (ys : List PlainValue). value (list_value ys)) (cut ∙ sym same)
    ∙ ap value (sym (plain-List new))

pub put_given : (items : List Value) (place : ℤ) (i : ℕ) (x : Value) (v : PlainValue) (new changed : Vec Value Global) → place ≡ pos i → i < length items → plain_values new.items ≡ plain_values items → plain x ≡ v → changed.items ≡ set new.items i x
    → part_reply list_value (with_item (plain_values items) place v) ≡ value (plain (Items changed))
put_given items place i x v new changed e lt same f is =
    let inside : ltb i (length (map plain items)) ≡ true = lt-ltb i (length (map plain items)) (omega (arith, length-map items plain)) in
    let put_there : set (map plain items) i v ≡ map plain changed.items =
    ap (λ (ys : List PlainValue). set ys i v) (sym same) ∙ ap (set (map plain new.items) i) (sym f) ∙ sym (map-set plain new.items i x) ∙ ap (map plain) (sym is) in
    ap (λ (n : ℤ). part_reply list_value (with_item (map plain items) n v)) e
    ∙ passed list_value (ltb i (length (map plain items))) (set (map plain items) i v) inside
    ∙ ap (λ (ys : List PlainValue). value (list_value ys)) put_there
    ∙ ap value (sym (plain-List changed))

-- ---- characters of texts

one_character : (cs : List ℕ) (i : ℕ) → i < length cs → part_reply {A = ℕ} (λ c. text (c ∷ [])) (slice_get cs i) ≡ value (text (take 1 (drop i cs)))
one_character [] i lt = absurd (omega arith)
one_character (c ∷ cs) zero lt = refl
one_character (c ∷ cs) (suc i) lt = one_character cs i (omega arith)

pub character_given : (cs new : List ℕ) (place : ℤ) (i : ℕ) → place ≡ pos i → i < length cs → new ≡ slice_range cs i (i + 1) → part_reply {A = ℕ} (λ c. text (c ∷ [])) (item_at cs place) ≡ value (plain (Text new))
character_given cs new place i e lt is =
    let one : i + 1 - i ≡ 1 = omega arith in
    ap (λ (n : ℤ). part_reply {A = ℕ} (λ c. text (c ∷ [])) (item_at cs n)) e
    ∙ one_character cs i lt
    ∙ ap (λ (n : ℕ). value (text (take n (drop i cs)))) (sym one)
    ∙ ap (λ (xs : List ℕ). value (text xs)) (sym is)
    ∙ ap value (sym (plain-Text new))

pub no_character_past : (cs : List ℕ) (place : ℤ) (i : ℕ) → place ≡ pos i → length cs ≤ i → part_reply {A = ℕ} (λ c. text (c ∷ [])) (item_at cs place) ≡ bad_index
no_character_past cs place i e le = ap (λ (n : ℤ). part_reply {A = ℕ} (λ c. text (c ∷ [])) (item_at cs n)) e ∙ ap (part_reply {A = ℕ} (λ c. text (c ∷ []))) (slice_get_past cs i le)

pub no_character_before : (cs : List ℕ) (place : ℤ) → (n : ℕ) × (place ≡ negsuc n) → part_reply {A = ℕ} (λ c. text (c ∷ [])) (item_at cs place) ≡ bad_index
no_character_before cs place e = ap (λ (n : ℤ). part_reply {A = ℕ} (λ c. text (c ∷ [])) (item_at cs n)) e.1
