-- Files whose names end in numbers.
use Rattle.std.proofs.Common.{◌≡◌, ℕ, suc, ◌+◌, ◌<◌, ◌^◌, List, [], ◌∷◌, ◌++◌, length, encode_utf8_all, decimal, Result, Ok, Err, IfOk, refl, sym, ap, ◌∙◌, append_assoc, length-append, arith}
use Rattle.std.proofs.lemmas.Fmt.{IsAscii-decimal}
use Rattle.std.proofs.lemmas.Str.{encodes-append, encodes-IsAscii, encodes_same}
use Rattle.command_outcome.specs.declared.outcome.Put.{Put}
use Rattle.command_outcome.specs.Outcome.{numbered_put, numbered_puts}

-- a name is a prefix and a number where its UTF-8 is
pub named
    : {E : Type 0} (prefix : List ℕ) (copied : Result (List ℕ) E) (text : List ℕ) (number : ℕ) → number < 2 ^ 64 → IfOk copied (λ name. encode_utf8_all name ≡ text)
    → text ≡ encode_utf8_all prefix ++ decimal number → IfOk copied (λ name. name ≡ prefix ++ decimal number)
named prefix (Ok name) text number fits is spelled =
    encodes_same name (prefix ++ decimal number)
    (is ∙ spelled ∙ ap (λ (digits : List ℕ). encode_utf8_all prefix ++ digits) (sym (encodes-IsAscii (decimal number) (IsAscii-decimal number fits))) ∙ sym (encodes-append prefix (decimal number)))
named prefix (Err wanting) text number fits is spelled = tt

-- one more
pub puts_more
    : (prefix : List ℕ) (number : ℕ) (files : List (List ℕ)) (bytes : List ℕ)
    → numbered_puts prefix number (files ++ bytes ∷ []) ≡ numbered_puts prefix number files ++ numbered_put prefix (number + length files) bytes ∷ []
puts_more prefix number [] bytes =
    let none : number + 0 ≡ number = omega arith in
    rw none refl
puts_more prefix number (first ∷ rest) bytes =
    let next : number + 1 + length rest ≡ number + length (first ∷ rest) = omega arith in
    ap (λ (puts : List Put). numbered_put prefix number first ∷ puts) (puts_more prefix (number + 1) rest bytes ∙ rw next refl)

-- so many are put
length-puts : (prefix : List ℕ) (number : ℕ) (files : List (List ℕ)) → length (numbered_puts prefix number files) ≡ length files
length-puts prefix number [] = refl
length-puts prefix number (first ∷ rest) = ap suc (length-puts prefix (number + 1) rest)

-- after other files, where the number is that of the next place
pub puts_on
    : (prefix bytes : List ℕ) (first files more : List Put) (those : List (List ℕ)) (place : ℕ)
    → files ≡ first ++ numbered_puts prefix (length first) those → place ≡ length files → more ≡ files ++ numbered_put prefix place bytes ∷ []
    → more ≡ first ++ numbered_puts prefix (length first) (those ++ bytes ∷ [])
puts_on prefix bytes first files more those place before at is =
    let here : place ≡ length first + length those =
    at ∙ ap length before ∙ length-append first (numbered_puts prefix (length first) those) ∙ ap (λ (n : ℕ). length first + n) (length-puts prefix (length first) those) in
    is ∙ ap (λ (front : List Put). front ++ numbered_put prefix place bytes ∷ []) before
    ∙ append_assoc first (numbered_puts prefix (length first) those) (numbered_put prefix place bytes ∷ [])
    ∙ ap (λ (puts : List Put). first ++ puts)
    (ap (λ (n : ℕ). numbered_puts prefix (length first) those ++ numbered_put prefix n bytes ∷ []) here
    ∙ sym (puts_more prefix (length first) those bytes))
