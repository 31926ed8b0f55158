-- Text literals: what is read of them.
use Rattle.std.proofs.Common.{◌≡◌, ℕ, zero, suc, ◌+◌, ◌-◌, ◌*◌, ◌/◌, ◌%◌, ◌<◌, ◌≤◌, Bool, true, false, ◌&&◌, ◌||◌, not, cond, List, [], ◌∷◌, ◌++◌, length, drop, get_or, Option, Some, None, refl, sym, ap, ◌∙◌, subst, arith, append_assoc, append-nil, add-one}
use Rattle.std.specs.Prelude.{nat_le, nat_lt, ◌==◌, flat_map, encode_utf8, encode_utf8_all, if◌then◌else◌}
use Rattle.std.specs.Str.{IsUtf8, is_utf8, chars, all_scalars}
use Rattle.std.proofs.lemmas.Bool.Decides.{nat_tests}
use Rattle.std.proofs.lemmas.List.Concat.{flat_map-append}
use Rattle.std.proofs.lemmas.Str.{encode_ascii, inside_one, is_utf8-from_IsUtf8, IsUtf8-from_is_utf8, chars-encodes, encodes-chars, scalars-chars}
use Rattle.model_tokens.specs.Bytes.{is_digit, is_control}
use Rattle.model_tokens.specs.Spelling.{hex_digit, spelled_character, spelled_text}
use Rattle.model_tokens.specs.Division.{a_token}
use Rattle.model_tokens.specs.Reader.{hex_value, control_of, control_at, escape_at, literal_byte_at, with_front, literal_step, literal_at, as_characters, literal_text_at, as_text, next_piece}
use Rattle.model_tokens.specs.declared.token.Token.TheVariants as token
use Rattle.model_tokens.proofs.Lists.{both}

-- bytes before what is read
abbrev pub with_bytes : List ℕ → Option (List ℕ × List ℕ) → Option (List ℕ × List ℕ)
with_bytes bytes None = None
with_bytes bytes (Some found) = Some (bytes ++ found.0, found.1)

-- how a text literal spells a byte of its UTF-8
abbrev pub spelled_byte : ℕ → List ℕ
spelled_byte byte =
    if byte == 34 then 92 ∷ 34 ∷ []
    else (if byte == 92 then 92 ∷ 92 ∷ []
    else (if byte == 10 then 92 ∷ 110 ∷ []
    else (if is_control byte then 92 ∷ 120 ∷ hex_digit (byte / 16) ∷ hex_digit (byte % 16) ∷ []
    else byte ∷ [])))

is_not : (b : Bool) → not b ≡ true → b ≡ false
is_not true h = cc
is_not false h = refl

is_number : (a b : ℕ) → (a == b) ≡ true → a ≡ b
is_number a b h = grind (arith, nat_tests)

-- ---- what is spelled is read

hex_read_if : (d : ℕ) (b : Bool) → nat_lt d 10 ≡ b → d < 16 → hex_value (cond b (48 + d) (87 + d)) ≡ Some d
hex_read_if d true h small =
    let test : is_digit (48 + d) ≡ true = grind (arith, nat_tests) in
    let value : 48 + d - 48 ≡ d = omega arith in
    rw test (ap (λ n. Some n) value)
hex_read_if d false h small =
    let ten : 10 ≤ d = grind (arith, nat_tests) in
    let test : is_digit (87 + d) ≡ false = grind (arith, nat_tests) in
    let letter : (nat_le 97 (87 + d) && nat_le (87 + d) 102) ≡ true = grind (arith, nat_tests) in
    let value : 87 + d - 87 ≡ d = omega arith in
    rw (test, letter) (ap (λ n. Some n) value)

hex_read : (d : ℕ) → d < 16 → hex_value (hex_digit d) ≡ Some d
hex_read d small = hex_read_if d (nat_lt d 10) refl small

-- the first byte of a spelling, the others, and that they are read as the byte
abbrev SpellsByte : ℕ → List ℕ → Type 0
SpellsByte byte spelled = (first : ℕ) × (more : List ℕ) × (spelled ≡ first ∷ more) × ((rest : List ℕ) → literal_byte_at (first ∷ (more ++ rest)) ≡ Some (byte, length more))

control_read : (byte high low : ℕ) → is_control byte ≡ true → (byte == 10) ≡ false → high * 16 + low ≡ byte → control_of (Some high) (Some low) ≡ Some (byte, 3)
control_read byte high low control other e =
    let test : (is_control (high * 16 + low) && not (high * 16 + low == 10)) ≡ true = rw (e, control, other) refl in
    rw test (ap (λ n. Some (n, 3)) e)

spelled_if : (byte : ℕ) (q s n c : Bool) → (byte == 34) ≡ q → (byte == 92) ≡ s → (byte == 10) ≡ n → is_control byte ≡ c
    → SpellsByte byte (cond q (92 ∷ 34 ∷ []) (cond s (92 ∷ 92 ∷ []) (cond n (92 ∷ 110 ∷ []) (cond c (92 ∷ 120 ∷ hex_digit (byte / 16) ∷ hex_digit (byte % 16) ∷ []) (byte ∷ [])))))
spelled_if byte true s n c hq hs hn hc = (92, 34 ∷ [], refl, λ rest. ap (λ x. Some (x, 1)) (sym (is_number byte 34 hq)))
spelled_if byte false true n c hq hs hn hc = (92, 92 ∷ [], refl, λ rest. ap (λ x. Some (x, 1)) (sym (is_number byte 92 hs)))
spelled_if byte false false true c hq hs hn hc = (92, 110 ∷ [], refl, λ rest. ap (λ x. Some (x, 1)) (sym (is_number byte 10 hn)))
spelled_if byte false false false true hq hs hn hc =
    let high : hex_value (hex_digit (byte / 16)) ≡ Some (byte / 16) = hex_read (byte / 16) (grind (arith, nat_tests)) in
    let low : hex_value (hex_digit (byte % 16)) ≡ Some (byte % 16) = hex_read (byte % 16) (omega arith) in
    let sum : byte / 16 * 16 + byte % 16 ≡ byte = omega arith in
    (92, 120 ∷ hex_digit (byte / 16) ∷ hex_digit (byte % 16) ∷ [], refl, λ rest. ap (λ h. control_of h (hex_value (hex_digit (byte % 16)))) high ∙ ap (λ l. control_of (Some (byte / 16)) l) low ∙ control_read byte (byte / 16) (byte % 16) hc hn sum)
spelled_if byte false false false false hq hs hn hc = (byte, [], refl, λ rest. rw (hs, hq, hc) refl)

spelled_is : (byte : ℕ) → SpellsByte byte (spelled_byte byte)
spelled_is byte = spelled_if byte (byte == 34) (byte == 92) (byte == 10) (is_control byte) refl refl refl refl

passed_spelling : (more tail : List ℕ) → literal_at (length more) (more ++ tail) ≡ literal_at 0 tail
passed_spelling [] tail = refl
passed_spelling (b ∷ more) tail = passed_spelling more tail

literal_more : (byte first : ℕ) (more tail : List ℕ) (found : Option (List ℕ × List ℕ)) → literal_byte_at (first ∷ (more ++ tail)) ≡ Some (byte, length more) → literal_at 0 tail ≡ found → literal_at 0 (first ∷ (more ++ tail)) ≡ with_front byte found
literal_more byte first more tail found here later =
    ap (λ o. literal_step first (more ++ tail) o (λ k. literal_at k (more ++ tail))) here ∙ ap (with_front byte) (passed_spelling more tail ∙ later)

literal_whole : (bytes rest : List ℕ) → literal_at 0 (flat_map spelled_byte bytes ++ 34 ∷ rest) ≡ Some (bytes, rest)
literal_whole [] rest = refl
literal_whole (byte ∷ bytes) rest =
    let s = spelled_is byte in
    let tail : List ℕ = flat_map spelled_byte bytes ++ 34 ∷ rest in
    let e : flat_map spelled_byte (byte ∷ bytes) ++ 34 ∷ rest ≡ s.0 ∷ (s.1 ++ tail) =
    append_assoc (spelled_byte byte) (flat_map spelled_byte bytes) (34 ∷ rest) ∙ ap (λ xs. xs ++ tail) s.2 in
    ap (literal_at 0) e ∙ literal_more byte s.0 s.1 tail (Some (bytes, rest)) (s.3 tail) (literal_whole bytes rest)

-- ---- what is read is spelled

hex_sound_if : (byte n : ℕ) (a b : Bool) → is_digit byte ≡ a → (nat_le 97 byte && nat_le byte 102) ≡ b → cond a (Some (byte - 48)) (cond b (Some (byte - 87)) None) ≡ Some n → (n < 16) × (hex_digit n ≡ byte)
hex_sound_if byte n true b ha hb h =
    let e : byte - 48 ≡ n = cc in
    let small : (48 ≤ byte) × (byte ≤ 57) = grind (arith, nat_tests) in
    let test : nat_lt n 10 ≡ true = grind (arith, nat_tests) in
    (omega arith, rw test (omega arith))
hex_sound_if byte n false true ha hb h =
    let e : byte - 87 ≡ n = cc in
    let small : (97 ≤ byte) × (byte ≤ 102) = grind (arith, nat_tests) in
    let test : nat_lt n 10 ≡ false = grind (arith, nat_tests) in
    (omega arith, rw test (omega arith))
hex_sound_if byte n false false ha hb h = cc

hex_sound : (byte n : ℕ) → hex_value byte ≡ Some n → (n < 16) × (hex_digit n ≡ byte)
hex_sound byte n h = hex_sound_if byte n (is_digit byte) (nat_le 97 byte && nat_le byte 102) refl refl h

spelled_control : (byte : ℕ) → is_control byte ≡ true → (byte == 10) ≡ false → spelled_byte byte ≡ 92 ∷ 120 ∷ hex_digit (byte / 16) ∷ hex_digit (byte % 16) ∷ []
spelled_control byte control other =
    let q : (byte == 34) ≡ false = grind (arith, nat_tests) in
    let s : (byte == 92) ≡ false = grind (arith, nat_tests) in
    rw (q, s, other, control) refl

spelled_plain : (byte : ℕ) → (byte == 92) ≡ false → (byte == 34 || is_control byte) ≡ false → spelled_byte byte ≡ byte ∷ []
spelled_plain byte s other =
    let q : (byte == 34) ≡ false = grind (arith, nat_tests) in
    let n : (byte == 10) ≡ false = grind (arith, nat_tests) in
    let c : is_control byte ≡ false = grind (arith, nat_tests) in
    rw (q, s, n, c) refl

-- what was found is these two numbers
pair_is : (a b c d : ℕ) → ◌≡◌ {A = Option (ℕ × ℕ)} (Some (a, b)) (Some (c, d)) → (a ≡ c) × (b ≡ d)
pair_is a b c d h =
    let p : ◌≡◌ {A = ℕ × ℕ} (a, b) (c, d) = cc in
    (ap (λ q. q.0) p, ap (λ q. q.1) p)

control_of_sound : (high low byte k : ℕ) (b : Bool) → (is_control (high * 16 + low) && not (high * 16 + low == 10)) ≡ b → cond {A = Option (ℕ × ℕ)} b (Some (high * 16 + low, 3)) None ≡ Some (byte, k) → high < 16 → low < 16 → (spelled_byte byte ≡ 92 ∷ 120 ∷ hex_digit high ∷ hex_digit low ∷ []) × (k ≡ 3)
control_of_sound high low byte k true hb h small less =
    let p = pair_is (high * 16 + low) 3 byte k h in
    let e : high * 16 + low ≡ byte = p.0 in
    let each = both (is_control (high * 16 + low)) (not (high * 16 + low == 10)) hb in
    let control : is_control byte ≡ true = subst (λ n. is_control n ≡ true) e each.0 in
    let other : (byte == 10) ≡ false = is_not (byte == 10) (subst (λ n. not (n == 10) ≡ true) e each.1) in
    let first : byte / 16 ≡ high = omega arith in
    let second : byte % 16 ≡ low = omega arith in
    (spelled_control byte control other ∙ ap (λ d. 92 ∷ 120 ∷ hex_digit d ∷ hex_digit (byte % 16) ∷ []) first ∙ ap (λ d. 92 ∷ 120 ∷ hex_digit high ∷ hex_digit d ∷ []) second, sym p.1)
control_of_sound high low byte k false hb h small less = cc

control_digits_sound : (high low : ℕ) (bytes : List ℕ) (byte k : ℕ) (a b : Option ℕ) → hex_value high ≡ a → hex_value low ≡ b → control_of a b ≡ Some (byte, k) → 92 ∷ 120 ∷ high ∷ low ∷ bytes ≡ spelled_byte byte ++ drop k (120 ∷ high ∷ low ∷ bytes)
control_digits_sound high low bytes byte k None b ha hb h = cc
control_digits_sound high low bytes byte k (Some x) None ha hb h = cc
control_digits_sound high low bytes byte k (Some x) (Some y) ha hb h =
    let first = hex_sound high x ha in
    let second = hex_sound low y hb in
    let found = control_of_sound x y byte k (is_control (x * 16 + y) && not (x * 16 + y == 10)) refl h first.0 second.0 in
    let spelled : spelled_byte byte ≡ 92 ∷ 120 ∷ high ∷ low ∷ [] = found.0 ∙ ap (λ d. 92 ∷ 120 ∷ d ∷ hex_digit y ∷ []) first.1 ∙ ap (λ d. 92 ∷ 120 ∷ high ∷ d ∷ []) second.1 in
    sym (ap (λ xs. xs ++ drop k (120 ∷ high ∷ low ∷ bytes)) spelled ∙ ap (λ n. 92 ∷ 120 ∷ high ∷ low ∷ drop n (120 ∷ high ∷ low ∷ bytes)) found.1)

control_sound : (bytes : List ℕ) (byte k : ℕ) → control_at bytes ≡ Some (byte, k) → 92 ∷ 120 ∷ bytes ≡ spelled_byte byte ++ drop k (120 ∷ bytes)
control_sound [] byte k h = cc
control_sound (high ∷ []) byte k h = cc
control_sound (high ∷ low ∷ bytes) byte k h = control_digits_sound high low bytes byte k (hex_value high) (hex_value low) refl refl h

escape_if : (x : ℕ) (bytes : List ℕ) (byte k : ℕ) (q s n c : Bool) → (x == 34) ≡ q → (x == 92) ≡ s → (x == 110) ≡ n → (x == 120) ≡ c
    → cond q (Some (34, 1)) (cond s (Some (92, 1)) (cond n (Some (10, 1)) (cond c (control_at bytes) None))) ≡ Some (byte, k) → 92 ∷ x ∷ bytes ≡ spelled_byte byte ++ drop k (x ∷ bytes)
escape_if x bytes byte k true s n c hq hs hn hc h =
    let p = pair_is 34 1 byte k h in
    rw (is_number x 34 hq, sym p.0, sym p.1) refl
escape_if x bytes byte k false true n c hq hs hn hc h =
    let p = pair_is 92 1 byte k h in
    rw (is_number x 92 hs, sym p.0, sym p.1) refl
escape_if x bytes byte k false false true c hq hs hn hc h =
    let p = pair_is 10 1 byte k h in
    rw (is_number x 110 hn, sym p.0, sym p.1) refl
escape_if x bytes byte k false false false true hq hs hn hc h =
    rw (is_number x 120 hc) (control_sound bytes byte k h)
escape_if x bytes byte k false false false false hq hs hn hc h = cc

escape_sound : (bytes : List ℕ) (byte k : ℕ) → escape_at bytes ≡ Some (byte, k) → 92 ∷ bytes ≡ spelled_byte byte ++ drop k bytes
escape_sound [] byte k h = cc
escape_sound (x ∷ bytes) byte k h = escape_if x bytes byte k (x == 34) (x == 92) (x == 110) (x == 120) refl refl refl refl h

byte_if : (x : ℕ) (bytes : List ℕ) (byte k : ℕ) (s o : Bool) → (x == 92) ≡ s → (x == 34 || is_control x) ≡ o → cond s (escape_at bytes) (cond o None (Some (x, 0))) ≡ Some (byte, k) → x ∷ bytes ≡ spelled_byte byte ++ drop k bytes
byte_if x bytes byte k true o hs ho h = rw (is_number x 92 hs) (escape_sound bytes byte k h)
byte_if x bytes byte k false true hs ho h = cc
byte_if x bytes byte k false false hs ho h =
    let p = pair_is x 0 byte k h in
    sym (ap (λ b. spelled_byte b ++ drop k bytes) (sym p.0) ∙ ap (λ xs. xs ++ drop k bytes) (spelled_plain x hs ho) ∙ ap (λ n. x ∷ drop n bytes) (sym p.1))

byte_sound : (x : ℕ) (bytes : List ℕ) (byte k : ℕ) → literal_byte_at (x ∷ bytes) ≡ Some (byte, k) → x ∷ bytes ≡ spelled_byte byte ++ drop k bytes
byte_sound x bytes byte k h = byte_if x bytes byte k (x == 92) (x == 34 || is_control x) refl refl h

lists_are : (a b c d : List ℕ) → ◌≡◌ {A = Option (List ℕ × List ℕ)} (Some (a, b)) (Some (c, d)) → (a ≡ c) × (b ≡ d)
lists_are a b c d h =
    let p : ◌≡◌ {A = List ℕ × List ℕ} (a, b) (c, d) = cc in
    (ap (λ q. q.0) p, ap (λ q. q.1) p)

-- the bytes spelled, and the closing quote
abbrev ClosedBy : List ℕ → List ℕ → List ℕ → Type 0
ClosedBy text bytes rest = text ≡ flat_map spelled_byte bytes ++ 34 ∷ rest

quote_if : (x : ℕ) (xs bytes rest : List ℕ) (b : Bool) → (x == 34) ≡ b → cond {A = Option (List ℕ × List ℕ)} b (Some ([], xs)) None ≡ Some (bytes, rest) → ClosedBy (x ∷ xs) bytes rest
quote_if x xs bytes rest true hb h =
    let p = lists_are [] xs bytes rest h in
    sym (ap (λ bs. flat_map spelled_byte bs ++ 34 ∷ rest) (sym p.0) ∙ ap (λ n. n ∷ rest) (sym (is_number x 34 hb)) ∙ ap (λ ys. x ∷ ys) (sym p.1))
quote_if x xs bytes rest false hb h = cc

front_if : (x : ℕ) (xs : List ℕ) (byte k : ℕ) (bytes rest : List ℕ) (found : Option (List ℕ × List ℕ)) → literal_byte_at (x ∷ xs) ≡ Some (byte, k) → literal_at k xs ≡ found → with_front byte found ≡ Some (bytes, rest)
    → ((bs r : List ℕ) → literal_at k xs ≡ Some (bs, r) → ClosedBy (drop k xs) bs r) → ClosedBy (x ∷ xs) bytes rest
front_if x xs byte k bytes rest None here l h later = cc
front_if x xs byte k bytes rest (Some found) here l h later =
    let p = lists_are (byte ∷ found.0) found.1 bytes rest h in
    let tail : drop k xs ≡ flat_map spelled_byte found.0 ++ 34 ∷ found.1 = later found.0 found.1 l in
    byte_sound x xs byte k here ∙ ap (λ ys. spelled_byte byte ++ ys) tail
    ∙ sym (append_assoc (spelled_byte byte) (flat_map spelled_byte found.0) (34 ∷ found.1))
    ∙ ap (λ bs. flat_map spelled_byte bs ++ 34 ∷ found.1) p.0 ∙ ap (λ r. flat_map spelled_byte bytes ++ 34 ∷ r) p.1

step_sound : (x : ℕ) (xs bytes rest : List ℕ) (found : Option (ℕ × ℕ)) → literal_byte_at (x ∷ xs) ≡ found → literal_step x xs found (λ k. literal_at k xs) ≡ Some (bytes, rest)
    → ((k : ℕ) (bs r : List ℕ) → literal_at k xs ≡ Some (bs, r) → ClosedBy (drop k xs) bs r) → ClosedBy (x ∷ xs) bytes rest
step_sound x xs bytes rest None here h later = quote_if x xs bytes rest (x == 34) refl h
step_sound x xs bytes rest (Some found) here h later = front_if x xs found.0 found.1 bytes rest (literal_at found.1 xs) here refl h (later found.1)

literal_sound : (k : ℕ) (xs bytes rest : List ℕ) → literal_at k xs ≡ Some (bytes, rest) → ClosedBy (drop k xs) bytes rest
literal_sound zero [] bytes rest h = cc
literal_sound (suc k) [] bytes rest h = cc
literal_sound (suc k) (x ∷ xs) bytes rest h = literal_sound k xs bytes rest h
literal_sound zero (x ∷ xs) bytes rest h = step_sound x xs bytes rest (literal_byte_at (x ∷ xs)) refl h (λ k bs r. literal_sound k xs bs r)

-- ---- characters and their bytes

high_bytes : (bytes : List ℕ) → ((k : ℕ) → k < length bytes → 128 ≤ get_or bytes k 0) → flat_map spelled_byte bytes ≡ bytes
high_bytes [] h = refl
high_bytes (b ∷ bytes) h =
    let large : 128 ≤ b = h 0 (omega arith) in
    let plain : spelled_byte b ≡ b ∷ [] = spelled_plain b (grind (arith, nat_tests)) (grind (arith, nat_tests)) in
    ap (λ xs. xs ++ flat_map spelled_byte bytes) plain ∙ ap (λ xs. b ∷ xs) (high_bytes bytes (λ k l. h (suc k) (omega arith)))

high_byte_if : (c k : ℕ) → 128 ≤ c → k < length (encode_utf8 c) → (b : Bool) → nat_lt (get_or (encode_utf8 c) k 0) 128 ≡ b → 128 ≤ get_or (encode_utf8 c) k 0
high_byte_if c k large l true h =
    let low : get_or (encode_utf8 c) k 0 < 128 = grind (arith, nat_tests) in
    let same : c ≡ get_or (encode_utf8 c) k 0 = inside_one c [] (encode_utf8 c) k (sym (append-nil (encode_utf8 c))) l low in
    absurd (omega arith)
high_byte_if c k large l false h = grind (arith, nat_tests)

high_character : (c : ℕ) → 128 ≤ c → flat_map spelled_byte (encode_utf8 c) ≡ encode_utf8 c
high_character c large = high_bytes (encode_utf8 c) (λ k l. high_byte_if c k large l (nat_lt (get_or (encode_utf8 c) k 0) 128) refl)

character_if : (c : ℕ) (small : Bool) → nat_lt c 128 ≡ small → spelled_character c ≡ flat_map spelled_byte (encode_utf8 c)
character_if c true h =
    let e : encode_utf8 c ≡ c ∷ [] = encode_ascii c (grind (arith, nat_tests)) in
    rw e (sym (append-nil (spelled_byte c)))
character_if c false h =
    let large : 128 ≤ c = grind (arith, nat_tests) in
    let q : (c == 34) ≡ false = grind (arith, nat_tests) in
    let s : (c == 92) ≡ false = grind (arith, nat_tests) in
    let n : (c == 10) ≡ false = grind (arith, nat_tests) in
    let o : is_control c ≡ false = grind (arith, nat_tests) in
    rw (q, s, n, o) (sym (high_character c large))

spelled_characters : (cs : List ℕ) → flat_map spelled_character cs ≡ flat_map spelled_byte (encode_utf8_all cs)
spelled_characters [] = refl
spelled_characters (c ∷ cs) =
    ap (λ xs. xs ++ flat_map spelled_character cs) (character_if c (nat_lt c 128) refl) ∙ ap (λ xs. flat_map spelled_byte (encode_utf8 c) ++ xs) (spelled_characters cs)
    ∙ sym (flat_map-append spelled_byte (encode_utf8 c) (encode_utf8_all cs))

spelled_literal : (cs rest : List ℕ) → spelled_text cs ++ rest ≡ 34 ∷ (flat_map spelled_byte (encode_utf8_all cs) ++ 34 ∷ rest)
spelled_literal cs rest =
    ap (λ xs. 34 ∷ xs) (append_assoc (flat_map spelled_character cs) (34 ∷ []) rest ∙ ap (λ xs. xs ++ 34 ∷ rest) (spelled_characters cs))

-- ---- the whole literal

text_if : (bytes rest cs : List ℕ) → is_utf8 bytes ≡ true → chars bytes ≡ cs → as_characters (Some (bytes, rest)) ≡ Some (cs, rest)
text_if bytes rest cs is e = rw (is, e) refl

-- a text is read from its literal
pub literal_again : (cs rest : List ℕ) → all_scalars cs ≡ true → literal_text_at (flat_map spelled_character cs ++ 34 ∷ rest) ≡ Some (cs, rest)
literal_again cs rest all =
    let bytes : List ℕ = encode_utf8_all cs in
    ap (λ xs. literal_text_at (xs ++ 34 ∷ rest)) (spelled_characters cs) ∙ ap as_characters (literal_whole bytes rest)
    ∙ text_if bytes rest cs (is_utf8-from_IsUtf8 bytes (cs, (all, refl))) (chars-encodes cs all)

pub text_next : (cs rest : List ℕ) → all_scalars cs ≡ true → next_piece (spelled_text cs ++ rest) ≡ Some (a_token (token.Text cs), rest)
text_next cs rest all =
    ap (λ xs. next_piece (34 ∷ xs)) (append_assoc (flat_map spelled_character cs) (34 ∷ []) rest) ∙ ap as_text (literal_again cs rest all)

-- what a reading of a text literal behind its first quote says
pub record TextRead (text cs rest : List ℕ) : Type 0 where
  pub scalars : all_scalars cs ≡ true
  pub whole : spelled_text cs ++ rest ≡ 34 ∷ text

text_read : (text bytes rest : List ℕ) → literal_at 0 text ≡ Some (bytes, rest) → is_utf8 bytes ≡ true → TextRead text (chars bytes) rest
text_read text bytes rest h is =
    let utf8 = IsUtf8-from_is_utf8 bytes is in
    let back : encode_utf8_all (chars bytes) ≡ bytes = encodes-chars bytes utf8 in
    record {
      scalars = scalars-chars bytes utf8;
      whole = spelled_literal (chars bytes) rest ∙ ap (λ bs. 34 ∷ (flat_map spelled_byte bs ++ 34 ∷ rest)) back ∙ ap (λ xs. 34 ∷ xs) (sym (literal_sound 0 text bytes rest h));
    }

-- ---- for the loop over the bytes

pub passed_over : (k : ℕ) (xs : List ℕ) → literal_at k xs ≡ literal_at 0 (drop k xs)
passed_over zero xs = refl
passed_over (suc k) [] = refl
passed_over (suc k) (x ∷ xs) = passed_over k xs

-- ---- for the text that is made of bytes

not_utf8_if : (bytes : List ℕ) → ¬ IsUtf8 bytes → (b : Bool) → is_utf8 bytes ≡ b → b ≡ false
not_utf8_if bytes not true h = absurd (not (IsUtf8-from_is_utf8 bytes h))
not_utf8_if bytes not false h = refl

pub not_utf8 : (bytes : List ℕ) → ¬ IsUtf8 bytes → is_utf8 bytes ≡ false
not_utf8 bytes not = not_utf8_if bytes not (is_utf8 bytes) refl

pub of_utf8 : (bytes : List ℕ) → IsUtf8 bytes → is_utf8 bytes ≡ true
of_utf8 = is_utf8-from_IsUtf8

with_one : (bytes : List ℕ) (byte : ℕ) (found : Option (List ℕ × List ℕ)) → with_bytes (bytes ++ byte ∷ []) found ≡ with_bytes bytes (with_front byte found)
with_one bytes byte None = refl
with_one bytes byte (Some found) =
    let wrap : List ℕ → Option (List ℕ × List ℕ) = λ bs. Some (bs, found.1) in
    ap wrap (append_assoc bytes (byte ∷ []) found.0)

-- the bytes so far, and one more
pub one_byte : (bytes rest text : List ℕ) (byte more : ℕ) → with_bytes bytes (literal_at 0 rest) ≡ literal_at 0 text → literal_byte_at rest ≡ Some (byte, more) → with_bytes (bytes ++ byte ∷ []) (literal_at 0 (drop (more + 1) rest)) ≡ literal_at 0 text
one_byte bytes [] text byte more e here = cc
one_byte bytes (x ∷ rest) text byte more e here =
    let passed : literal_at more rest ≡ literal_at 0 (drop (more + 1) (x ∷ rest)) = rw add-one (passed_over more rest) in
    let step : literal_at 0 (x ∷ rest) ≡ with_front byte (literal_at more rest) = ap (λ o. literal_step x rest o (λ k. literal_at k rest)) here in
    with_one bytes byte (literal_at 0 (drop (more + 1) (x ∷ rest))) ∙ ap (with_bytes bytes) (sym (step ∙ ap (with_front byte) passed)) ∙ e

characters_if : (text bytes behind cs rest : List ℕ) (b : Bool) → is_utf8 bytes ≡ b → literal_at 0 text ≡ Some (bytes, behind) → cond {A = Option (List ℕ × List ℕ)} b (Some (chars bytes, behind)) None ≡ Some (cs, rest) → TextRead text cs rest
characters_if text bytes behind cs rest true hb e h =
    let p = lists_are (chars bytes) behind cs rest h in
    subst (λ r. TextRead text cs r) p.1 (subst (λ c. TextRead text c behind) p.0 (text_read text bytes behind e hb))
characters_if text bytes behind cs rest false hb e h = cc

characters_found : (text cs rest : List ℕ) (o : Option (List ℕ × List ℕ)) → literal_at 0 text ≡ o → as_characters o ≡ Some (cs, rest) → TextRead text cs rest
characters_found text cs rest None e h = cc
characters_found text cs rest (Some found) e h = characters_if text found.0 found.1 cs rest (is_utf8 found.0) refl e h

-- and from nothing else
pub literal_only : (text cs rest : List ℕ) → literal_text_at text ≡ Some (cs, rest) → TextRead text cs rest
literal_only text cs rest h = characters_found text cs rest (literal_at 0 text) refl h
