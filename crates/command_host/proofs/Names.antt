-- Names that end in the numbers of sessions, or in their ids.
use Rattle.std.proofs.Common.{◌≡◌, ℕ, zero, suc, ◌+◌, ◌<◌, Bool, true, false, ◌&&◌, ltb, List, [], ◌∷◌, ◌++◌, take, length, get_or, encode_utf8_all, Result, Ok, Err, IfOk, refl, sym, ap, ◌∙◌, arith}
use Rattle.std.specs.List.{list_all}
use Rattle.std.specs.Str.{IsAscii}
use Rattle.std.proofs.lemmas.Bool.{ltb-true}
use Rattle.std.proofs.lemmas.Str.{encodes-append, encodes-IsAscii, encodes_same}
use Rattle.hex.specs.Hex.{encode_lower, lower_digits}
use Rattle.hex.proofs.HexLemmas.{IsAscii-encode_with}
use Rattle.std.proofs.lemmas.List.{length-take, map-append, take_more}
use Rattle.tea_base.specs.declared.entry.SessionId.{SessionId}
use Rattle.command_outcome.specs.Outcome.{numbered_name}
use Rattle.command_reflect.specs.declared.reflection.LogPlace.{LogPlace}
use Rattle.command_host.specs.Hosting.{log_names, numbered_names, on_demand_name, on_demand_names}

names_more : (prefix : List ℕ) (number : ℕ) (ids : List SessionId) (id : SessionId)
    → numbered_names prefix number (ids ++ id ∷ []) ≡ numbered_names prefix number ids ++ numbered_name prefix (number + length ids) ∷ []
names_more prefix number [] id =
    let none : number + 0 ≡ number = omega arith in
    rw none refl
names_more prefix number (first ∷ rest) id =
    let next : number + 1 + length rest ≡ number + length (first ∷ rest) = omega arith in
    ap (λ (names : List (List ℕ)). numbered_name prefix number ∷ names) (names_more prefix (number + 1) rest id ∙ rw next refl)

-- an id of those, if there is one
some_id : (ids : List SessionId) (place : ℕ) → place < length ids → SessionId
some_id [] place within = absurd (omega (arith, within))
some_id (id ∷ ids) place within = id

-- one place more
pub one_place : (ids : List SessionId) (place number : ℕ) (prefix : List ℕ) (one : LogPlace) (old new : List LogPlace) → place < length ids → number ≡ place + 1
    → one.name ≡ numbered_name prefix number → log_names old ≡ numbered_names prefix 1 (take place ids) → new ≡ old ++ one ∷ []
    → log_names new ≡ numbered_names prefix 1 (take (place + 1) ids)
one_place ids place number prefix one old new within here named before after =
    let d = some_id ids place within in
    let short = length-take place ids in
    let next : number ≡ 1 + length (take place ids) = omega (arith, short, within, here) in
    ap log_names after ∙ map-append (λ (p : LogPlace). p.name) old (one ∷ [])
    ∙ ap (λ (names : List (List ℕ)). names ++ one.name ∷ []) before
    ∙ ap (λ (name : List ℕ). numbered_names prefix 1 (take place ids) ++ name ∷ []) (named ∙ ap (numbered_name prefix) next)
    ∙ sym (names_more prefix 1 (take place ids) (get_or ids place d))
    ∙ sym (ap (numbered_names prefix 1) (take_more ids place d within))

-- ---- names of sessions that were made on demand

first_of_both : (a b : Bool) → (a && b) ≡ true → a ≡ true
first_of_both true b is = refl
first_of_both false b is = cc

second_of_both : (a b : Bool) → (a && b) ≡ true → b ≡ true
second_of_both true b is = is
second_of_both false b is = cc

ascii_first : (b : ℕ) (bytes : List ℕ) → b < 128 → IsAscii bytes → IsAscii (b ∷ bytes)
ascii_first b bytes lt rest zero = lt
ascii_first b bytes lt rest (suc i) = rest i

ascii_by_test : (bytes : List ℕ) → list_all (λ (b : ℕ). ltb b 128) bytes ≡ true → IsAscii bytes
ascii_by_test [] h = λ i. omega arith
ascii_by_test (b ∷ bytes) h = ascii_first b bytes (ltb-true b 128 (first_of_both (ltb b 128) _ h)) (ascii_by_test bytes (second_of_both (ltb b 128) _ h))

digits_ascii : (id : List ℕ) → IsAscii (encode_lower id)
digits_ascii id = IsAscii-encode_with lower_digits id (ascii_by_test lower_digits refl)

-- a name is a prefix and the digits of an id where its UTF-8 is
pub named_by_id
    : {E : Type 0} (prefix : List ℕ) (copied : Result (List ℕ) E) (text : List ℕ) (id : SessionId) → IfOk copied (λ name. encode_utf8_all name ≡ text)
    → text ≡ encode_utf8_all prefix ++ encode_lower id.0 → IfOk copied (λ name. name ≡ on_demand_name prefix id)
named_by_id prefix (Ok name) text id is spelled =
    let digits = encode_lower id.0 in
    encodes_same name (prefix ++ digits)
    (is ∙ spelled ∙ ap (λ (end : List ℕ). encode_utf8_all prefix ++ end) (sym (encodes-IsAscii digits (digits_ascii id.0))) ∙ sym (encodes-append prefix digits))
named_by_id prefix (Err wanting) text id is spelled = tt

-- one place more of those made on demand
pub one_made : (ids : List SessionId) (place : ℕ) (prefix : List ℕ) (id : SessionId) (one : LogPlace) (old new : List LogPlace) → place < length ids → id ≡ get_or ids place id
    → one.name ≡ on_demand_name prefix id → log_names old ≡ on_demand_names prefix (take place ids) → new ≡ old ++ one ∷ []
    → log_names new ≡ on_demand_names prefix (take (place + 1) ids)
one_made ids place prefix id one old new within here named before after =
    ap log_names after ∙ map-append (λ (p : LogPlace). p.name) old (one ∷ [])
    ∙ ap (λ (names : List (List ℕ)). names ++ one.name ∷ []) before
    ∙ ap (λ (name : List ℕ). on_demand_names prefix (take place ids) ++ name ∷ []) (named ∙ ap (on_demand_name prefix) here)
    ∙ sym (map-append (on_demand_name prefix) (take place ids) (get_or ids place id ∷ []))
    ∙ sym (ap (on_demand_names prefix) (take_more ids place id within))
