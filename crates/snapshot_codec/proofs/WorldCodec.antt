-- A world is read exactly where one has its spelling.
use Rattle.std.proofs.Common.{◌≡◌, ℕ, ◌+◌, ◌^◌, ◌<◌, Bool, true, false, not, if◌then◌else◌, List, [], ◌∷◌, ◌++◌, length, drop, get_or, Option, Some, None, refl, sym, ap, subst, ◌∙◌, append_assoc, slice_get, arith}
use Rattle.std.specs.Prelude.{◌==◌}
use Rattle.std.proofs.lemmas.Bool.Decides.{nat_tests}
use Rattle.std.proofs.lemmas.List.{drop_at, get_or-drop}
use Rattle.std.specs.Int.{w16, w32, w64, to_be_bytes}
use Rattle.std.specs.List.{flat_map, AllByRecursion}
use Rattle.std.proofs.lemmas.Option.{none-some, same_Some}
use Rattle.byte_fields.specs.Fields.{text_field, Decoder, ◌>>=◌, byte_at, headed_at, made_at, items_at, list_at, list_of, whole}
use Rattle.byte_fields.proofs.Codecs.{IsBytes, Codec, whole_takes, whole_again, tested_codec, EachFits, FitsText, wide16, wide32, wide64, byte_codec, bytes_codec, number_codec, text_codec, paired_codec, headed_codec, made_codec, said_codec, never_codec, items_codec, list_codec}
use Rattle.world_plain.specs.Messages.{PlainMessage}
use Rattle.model_value.specs.Plain.{PlainValue, nil, bool, int, text, ref, list}
use Rattle.model_value.specs.Reading.{bounded_at}
use Rattle.model_value.specs.Spelling.{item_count, items_spelling, value_spelling}
use Rattle.world_plain.specs.World.{ObjectRecord, WorldRecord}
use Rattle.world_plain.specs.declared.message.Subscription.{Subscription}
use Rattle.world_plain.specs.declared.world.Known.{Known}
use Rattle.model_value.proofs.ValueCodec.{FitsBounds, bounded_codec, is_bounded}
use Rattle.snapshot_codec.specs.Reading.{values_at, fields_at, classed_at, object_record_at, known_at, subscription_at, message_at, WorldLists, Front, singles_at, rows_at, front_at, something_at, saved_in, world_of_front, world_in}
use Rattle.snapshot_codec.specs.Spelling.{is_nil, saved_spelling, object_spelling, known_spelling, subscription_spelling, message_spelling, world_spelling}

-- ---- items that are read each as the others

each-all : {A : Type 0} (F : A → Type 0) (before xs : List A) → EachFits (λ _. F) before xs → AllByRecursion F xs
each-all F before [] fits = tt
each-all F before (x ∷ xs) fits = (fits.0, each-all F (before ++ x ∷ []) xs fits.1)

all-each : {A : Type 0} (F : A → Type 0) (before xs : List A) → AllByRecursion F xs → EachFits (λ _. F) before xs
all-each F before [] fits = tt
all-each F before (x ∷ xs) fits = (fits.0, all-each F (before ++ x ∷ []) xs fits.1)

-- so many items
abbrev FitsCount : {A : Type 0} → (A → Type 0) → ℕ → List A → Type 0
FitsCount F count xs = (length xs ≡ count) × AllByRecursion F xs

-- a list field
abbrev pub FitsList : {A : Type 0} → (A → Type 0) → List A → Type 0
FitsList F xs = (length xs < 2 ^ 32) × AllByRecursion F xs

count_codec : {A : Type 0} (s : A → List ℕ) (F : A → Type 0) (r : Decoder A) → Codec A s F r → (count : ℕ) → Codec (List A) (flat_map s) (FitsCount F count) (items_at (λ _. r) [] count)
count_codec s F r codec count =
    said_codec (flat_map s) (FitsCount F count) (λ xs _. refl) (λ xs fits. (fits.0, each-all F [] xs fits.1)) (λ xs fits. (fits.0, all-each F [] xs fits.1))
    (items_codec s (λ _. F) (λ _. r) (λ _. codec) count)

all_codec : {A : Type 0} (s : A → List ℕ) (F : A → Type 0) (r : Decoder A) → Codec A s F r → Codec (List A) (list_of s) (FitsList F) (list_at (λ _. r))
all_codec s F r codec =
    said_codec (list_of s) (FitsList F) (λ xs _. refl) (λ xs fits. (fits.0, each-all F [] xs fits.1)) (λ xs fits. (fits.0, all-each F [] xs fits.1))
    (list_codec s (λ _. F) (λ _. r) (λ _. codec))

-- ---- objects

fields_codec : (found : Option ℕ) → Codec (List PlainValue) (flat_map value_spelling) (λ vs. (found ≡ Some (length vs)) × AllByRecursion FitsBounds vs) (fields_at found)
fields_codec None =
    never_codec (flat_map value_spelling) (λ vs. (None ≡ Some (length vs)) × AllByRecursion FitsBounds vs) (λ vs fits. none-some (length vs) fits.0)
fields_codec (Some count) =
    said_codec (flat_map value_spelling) (λ vs. (Some count ≡ Some (length vs)) × AllByRecursion FitsBounds vs)
    (λ vs _. refl) (λ vs fits. (ap Some (sym fits.0), fits.1)) (λ vs fits. (sym (same_Some count (length vs) fits.0), fits.1))
    (count_codec value_spelling FitsBounds bounded_at bounded_codec count)

-- as many fields as the class has, each of which has a spelling
abbrev FitsClass : List ℕ → ℕ × List PlainValue → Type 0
FitsClass counts p = (slice_get counts p.0 ≡ Some (length p.1)) × AllByRecursion FitsBounds p.1

of_class : (counts : List ℕ) (class : ℕ) → Codec (ℕ × List PlainValue) (λ p. flat_map value_spelling p.1) (λ p. (p.0 ≡ class) × FitsClass counts p) (made_at (λ fields. (class, fields)) (fields_at (slice_get counts class)))
of_class counts class =
    made_codec (λ fields. (class, fields)) (λ p. flat_map value_spelling p.1) (λ p. (p.0 ≡ class) × FitsClass counts p) (fields_codec (slice_get counts class))
    (λ p fits. (p.1, ap (λ c. (c, p.1)) fits.0, subst (λ c. FitsClass counts (c, p.1)) fits.0 fits.1))
    (λ fields fits. (refl, fits))
    (λ fields _. refl)

classed_codec : (counts : List ℕ) → Codec (ℕ × List PlainValue) (λ p. to_be_bytes w16 p.0 ++ flat_map value_spelling p.1) (λ p. (p.0 < 2 ^ 16) × FitsClass counts p) (classed_at counts)
classed_codec counts =
    headed_codec (λ p. p.0) (λ p. flat_map value_spelling p.1) (FitsClass counts) (λ class. made_at (λ fields. (class, fields)) (fields_at (slice_get counts class)))
    (number_codec w16 (2 ^ 16) wide16) (λ class _. of_class counts class)

abbrev pub FitsObject : List ℕ → ObjectRecord → Type 0
FitsObject counts o = (o.id < 2 ^ 32) × ((o.class < 2 ^ 16) × FitsClass counts (o.class, o.fields))

object_codec : (counts : List ℕ) → Codec ObjectRecord object_spelling (FitsObject counts) (object_record_at counts)
unfolding object_record_at object_spelling
object_codec counts =
    made_codec (λ p. record { id = p.0; class = p.1.0; fields = p.1.1 }) object_spelling (FitsObject counts)
    (paired_codec (number_codec w32 (2 ^ 32) wide32) (classed_codec counts))
    (λ o fits. ((o.id, (o.class, o.fields)), refl, fits))
    (λ p fits. fits)
    (λ p _. simp append_assoc refl)

-- ---- known names, subscriptions and messages

abbrev pub FitsKnown : Known → Type 0
FitsKnown k = FitsText k.name × (k.object < 2 ^ 32)

known_codec : Codec Known known_spelling FitsKnown known_at
unfolding known_at known_spelling
known_codec =
    made_codec (λ p. record { name = p.0; object = p.1 }) known_spelling FitsKnown
    (paired_codec text_codec (number_codec w32 (2 ^ 32) wide32))
    (λ k fits. ((k.name, k.object), refl, fits))
    (λ p fits. fits)
    (λ p _. refl)

abbrev pub FitsSubscription : Subscription → Type 0
FitsSubscription s = FitsText s.scope × (FitsText s.event × ((s.object < 2 ^ 32) × FitsText s.method))

subscription_codec : Codec Subscription subscription_spelling FitsSubscription subscription_at
unfolding subscription_at subscription_spelling
subscription_codec =
    made_codec (λ p. record { scope = p.0; event = p.1.0; object = p.1.1.0; method = p.1.1.1 }) subscription_spelling FitsSubscription
    (paired_codec text_codec (paired_codec text_codec (paired_codec (number_codec w32 (2 ^ 32) wide32) text_codec)))
    (λ s fits. ((s.scope, (s.event, (s.object, s.method))), refl, fits))
    (λ p fits. fits)
    (λ p _. simp append_assoc refl)

-- at most so many as one byte can count
abbrev FitsArguments : List PlainValue → Type 0
FitsArguments args = (length args < 256) × AllByRecursion FitsBounds args

arguments_codec : Codec (List PlainValue) (λ args. length args ∷ flat_map value_spelling args) FitsArguments (headed_at byte_at values_at)
arguments_codec =
    headed_codec length (flat_map value_spelling) (AllByRecursion FitsBounds) values_at byte_codec (λ count _. count_codec value_spelling FitsBounds bounded_at bounded_codec count)

abbrev pub FitsMessage : PlainMessage → Type 0
FitsMessage m = (m.time < 2 ^ 64) × ((m.number < 2 ^ 64) × ((m.object < 2 ^ 32) × (FitsText m.method × FitsArguments m.args)))

message_codec : Codec PlainMessage message_spelling FitsMessage message_at
unfolding message_at message_spelling
message_codec =
    made_codec (λ p. record { time = p.0; number = p.1.0; object = p.1.1.0; method = p.1.1.1.0; args = p.1.1.1.1 }) message_spelling FitsMessage
    (paired_codec (number_codec w64 (2 ^ 64) wide64) (paired_codec (number_codec w64 (2 ^ 64) wide64) (paired_codec (number_codec w32 (2 ^ 32) wide32) (paired_codec text_codec arguments_codec))))
    (λ m fits. ((m.time, (m.number, (m.object, (m.method, m.args)))), refl, fits))
    (λ p fits. fits)
    (λ p _. simp append_assoc refl)

-- ---- worlds

abbrev FitsSingles : ℕ × (ℕ × (ℕ × (ℕ × ℕ))) → Type 0
FitsSingles p = (p.0 < 2 ^ 64) × ((p.1.0 < 2 ^ 32) × ((p.1.1.0 < 2 ^ 64) × ((p.1.1.1.0 < 2 ^ 64) × (p.1.1.1.1 < 2 ^ 32))))

abbrev singles_spelling : ℕ × (ℕ × (ℕ × (ℕ × ℕ))) → List ℕ
singles_spelling p = to_be_bytes w64 p.0 ++ (to_be_bytes w32 p.1.0 ++ (to_be_bytes w64 p.1.1.0 ++ (to_be_bytes w64 p.1.1.1.0 ++ to_be_bytes w32 p.1.1.1.1)))

singles_codec : Codec (ℕ × (ℕ × (ℕ × (ℕ × ℕ)))) singles_spelling FitsSingles singles_at
unfolding singles_at
singles_codec =
    paired_codec (number_codec w64 (2 ^ 64) wide64) (paired_codec (number_codec w32 (2 ^ 32) wide32) (paired_codec (number_codec w64 (2 ^ 64) wide64) (paired_codec (number_codec w64 (2 ^ 64) wide64) (number_codec w32 (2 ^ 32) wide32))))

abbrev FitsRows : List ℕ → WorldLists → Type 0
FitsRows counts p =
    FitsList (λ n. n < 2 ^ 32) p.0
    × (FitsList (FitsObject counts) p.1.0
    × (FitsList FitsKnown p.1.1.0
    × (FitsList FitsSubscription p.1.1.1.0
    × FitsList FitsMessage p.1.1.1.1)))

abbrev rows_spelling : WorldLists → List ℕ
rows_spelling p =
    list_of (to_be_bytes w32) p.0
    ++ (list_of object_spelling p.1.0
    ++ (list_of known_spelling p.1.1.0
    ++ (list_of subscription_spelling p.1.1.1.0
    ++ list_of message_spelling p.1.1.1.1)))

rows_codec : (counts : List ℕ) → Codec WorldLists rows_spelling (FitsRows counts) (rows_at counts)
unfolding rows_at
rows_codec counts =
    paired_codec (all_codec (to_be_bytes w32) (λ n. n < 2 ^ 32) _ (number_codec w32 (2 ^ 32) wide32))
    (paired_codec (all_codec object_spelling (FitsObject counts) (object_record_at counts) (object_codec counts))
    (paired_codec (all_codec known_spelling FitsKnown known_at known_codec)
    (paired_codec (all_codec subscription_spelling FitsSubscription subscription_at subscription_codec)
    (all_codec message_spelling FitsMessage message_at message_codec))))

abbrev front_of : WorldRecord → Front
front_of w = (w.id, ((w.time, (w.next_object, (w.next_number, (w.random, w.turns)))), (w.faults, (w.views, (w.objects, (w.known, (w.subscriptions, w.pending)))))))

abbrev FitsFront : List ℕ → Front → Type 0
FitsFront counts p = (length p.0 ≡ 32) × (FitsSingles p.1.0 × (FitsCount (λ n. n < 2 ^ 64) 14 p.1.1.0 × FitsRows counts p.1.1.1))

abbrev front_spelling : Front → List ℕ
front_spelling p = p.0 ++ (singles_spelling p.1.0 ++ (flat_map (to_be_bytes w64) p.1.1.0 ++ rows_spelling p.1.1.1))

front_codec : (counts : List ℕ) → Codec Front front_spelling (FitsFront counts) (front_at counts)
unfolding front_at
front_codec counts =
    paired_codec (bytes_codec 32) (paired_codec singles_codec (paired_codec (count_codec (to_be_bytes w64) (λ n. n < 2 ^ 64) _ (number_codec w64 (2 ^ 64) wide64) 14) (rows_codec counts)))

-- ---- the saved value behind the front

nil-fits : FitsBounds nil
nil-fits = is_bounded nil tt (omega arith, omega arith)

something_codec : Codec PlainValue value_spelling (λ v. FitsBounds v × (not (is_nil v) ≡ true)) something_at
something_codec = tested_codec (λ v. not (is_nil v)) bounded_codec

is_number : (a b : ℕ) → (a == b) ≡ true → a ≡ b
is_number a b h = grind (arith, nat_tests)

nothing_left : (bytes : List ℕ) → (length bytes == 0) ≡ true → bytes ≡ []
nothing_left [] e = refl
nothing_left (x ∷ xs) e =
    let none : length (x ∷ xs) ≡ 0 = is_number (length (x ∷ xs)) 0 e in
    absurd (omega arith)

something_left : (x : ℕ) (xs : List ℕ) → (length (x ∷ xs) == 0) ≡ false
something_left x xs = grind (arith, nat_tests)

spelled_something : (v : PlainValue) → not (is_nil v) ≡ true → saved_spelling v ≡ value_spelling v
spelled_something nil e = absurd cc
spelled_something (bool flag) e = refl
spelled_something (int number) e = refl
spelled_something (text characters) e = refl
spelled_something (ref object) e = refl
spelled_something (list items) e = refl

saved_takes_if : (none : Bool) (bytes : List ℕ) (v : PlainValue) → (length bytes == 0) ≡ none → IsBytes bytes → (if none then Some nil else whole something_at bytes) ≡ Some v → (bytes ≡ saved_spelling v) × FitsBounds v
saved_takes_if true bytes v none fits e =
    let same : nil ≡ v = same_Some nil v e in
    subst (λ (u : PlainValue). (bytes ≡ saved_spelling u) × FitsBounds u) same (nothing_left bytes none, nil-fits)
saved_takes_if false bytes v none fits e =
    let taken = whole_takes something_codec bytes v fits e in
    (taken.0 ∙ sym (spelled_something v taken.1.1), taken.1.0)

saved-takes : (bytes : List ℕ) (v : PlainValue) → IsBytes bytes → saved_in bytes ≡ Some v → (bytes ≡ saved_spelling v) × FitsBounds v
unfolding saved_in
saved-takes bytes v fits e = saved_takes_if (length bytes == 0) bytes v refl fits e

saved-again : (v : PlainValue) → FitsBounds v → saved_in (saved_spelling v) ≡ Some v
unfolding saved_in
saved-again nil fits = refl
saved-again (bool false) fits = whole_again something_codec (bool false) (fits, refl)
saved-again (bool true) fits = whole_again something_codec (bool true) (fits, refl)
saved-again (int number) fits = whole_again something_codec (int number) (fits, refl)
saved-again (text characters) fits =
    ap (λ (none : Bool). if none then Some nil else whole something_at (value_spelling (text characters))) (something_left 4 (text_field characters))
    ∙ whole_again something_codec (text characters) (fits, refl)
saved-again (ref object) fits = whole_again something_codec (ref object) (fits, refl)
saved-again (list items) fits =
    ap (λ (none : Bool). if none then Some nil else whole something_at (value_spelling (list items))) (something_left 6 (to_be_bytes w32 (item_count items) ++ items_spelling items))
    ∙ whole_again something_codec (list items) (fits, refl)

-- ---- a whole world

-- the world has a spelling that is read, by the number of fields of each class
abbrev pub FitsWorld : List ℕ → WorldRecord → Type 0
FitsWorld counts w = FitsFront counts (front_of w) × FitsBounds w.saved

bound_some : {A B : Type 0} (found : Option A) (next : A → Option B) (y : B) → (found >>= next) ≡ Some y → (x : A) × (found ≡ Some x) × (next x ≡ Some y)
bound_some None next y e = absurd cc
bound_some (Some x) next y e = (x, refl, e)

-- what stands behind a part is bytes too
rest-bytes : (bytes front rest : List ℕ) → bytes ≡ front ++ rest → IsBytes bytes → IsBytes rest
rest-bytes bytes front rest e fits i =
    let dropped : drop (length front) bytes ≡ rest = ap (drop (length front)) e ∙ drop_at front rest (length front) refl in
    subst (λ (xs : List ℕ). get_or xs i 0 < 256) dropped (rw get_or-drop (fits (length front + i)))

-- a world's spelling but for its saved value
abbrev front_part : WorldRecord → List ℕ
front_part w =
    w.id
    ++ to_be_bytes w64 w.time
    ++ to_be_bytes w32 w.next_object
    ++ to_be_bytes w64 w.next_number
    ++ to_be_bytes w64 w.random
    ++ to_be_bytes w32 w.turns
    ++ flat_map (to_be_bytes w64) w.faults
    ++ list_of (to_be_bytes w32) w.views
    ++ list_of object_spelling w.objects
    ++ list_of known_spelling w.known
    ++ list_of subscription_spelling w.subscriptions
    ++ list_of message_spelling w.pending

front-is : (w : WorldRecord) → front_spelling (front_of w) ≡ front_part w
front-is w = simp append_assoc refl

front-before : (p : Front) (more : List ℕ)
    → front_spelling p ++ more ≡ p.0 ++ (singles_spelling p.1.0 ++ (flat_map (to_be_bytes w64) p.1.1.0 ++ (rows_spelling p.1.1.1 ++ more)))
front-before p more =
    append_assoc p.0 (singles_spelling p.1.0 ++ (flat_map (to_be_bytes w64) p.1.1.0 ++ rows_spelling p.1.1.1)) more
    ∙ ap (λ (xs : List ℕ). p.0 ++ xs)
    (append_assoc (singles_spelling p.1.0) (flat_map (to_be_bytes w64) p.1.1.0 ++ rows_spelling p.1.1.1) more
    ∙ ap (λ (xs : List ℕ). singles_spelling p.1.0 ++ xs) (append_assoc (flat_map (to_be_bytes w64) p.1.1.0) (rows_spelling p.1.1.1) more))

world_spelling-is : (w : WorldRecord) → front_spelling (front_of w) ++ saved_spelling w.saved ≡ world_spelling w
unfolding world_spelling
world_spelling-is w = ap (λ (xs : List ℕ). xs ++ saved_spelling w.saved) (front-is w)

-- what was read is spelled so
pub world-takes : (counts bytes : List ℕ) (w : WorldRecord) → IsBytes bytes → world_in counts bytes ≡ Some w → (bytes ≡ world_spelling w) × FitsWorld counts w
unfolding world_in
world-takes counts bytes w fits e =
    let read = bound_some (front_at counts bytes) (λ x. saved_in x.1 >>= λ saved. Some (world_of_front x.0 saved)) w e in
    let front = (front_codec counts).takes bytes read.0.0 read.0.1 fits read.1 in
    let left = bound_some (saved_in read.0.1) (λ saved. Some (world_of_front read.0.0 saved)) w read.2 in
    let saved = saved-takes read.0.1 left.0 (rest-bytes bytes (front_spelling read.0.0) read.0.1 front.0 fits) left.1 in
    let same : world_of_front read.0.0 left.0 ≡ w = same_Some (world_of_front read.0.0 left.0) w left.2 in
    let spelled : bytes ≡ world_spelling (world_of_front read.0.0 left.0) =
    front.0 ∙ ap (λ (xs : List ℕ). front_spelling read.0.0 ++ xs) saved.0 ∙ world_spelling-is (world_of_front read.0.0 left.0) in
    subst (λ (u : WorldRecord). (bytes ≡ world_spelling u) × FitsWorld counts u) same (spelled, (front.1, saved.1))

-- and what is spelled so is read
pub world-again : (counts : List ℕ) (w : WorldRecord) → FitsWorld counts w → world_in counts (world_spelling w) ≡ Some w
unfolding world_in
world-again counts w fits =
    ap (λ (bytes : List ℕ). front_at counts bytes >>= λ x. saved_in x.1 >>= λ saved. Some (world_of_front x.0 saved)) (sym (world_spelling-is w))
    ∙ ap (λ (found : Option (Front × List ℕ)). found >>= λ x. saved_in x.1 >>= λ saved. Some (world_of_front x.0 saved)) ((front_codec counts).again (front_of w) (saved_spelling w.saved) fits.0)
    ∙ ap (λ (found : Option PlainValue). found >>= λ saved. Some (world_of_front (front_of w) saved)) (saved-again w.saved fits.1)

-- its spelling begins with the id of its session
pub begins_with_id : (w : WorldRecord) → (rest : List ℕ) × (world_spelling w ≡ w.id ++ rest)
begins_with_id w = (
  singles_spelling (w.time, (w.next_object, (w.next_number, (w.random, w.turns))))
      ++ (flat_map (to_be_bytes w64) w.faults ++ (rows_spelling (w.views, (w.objects, (w.known, (w.subscriptions, w.pending)))) ++ saved_spelling w.saved)),
  sym (world_spelling-is w) ∙ front-before (front_of w) (saved_spelling w.saved),
)
