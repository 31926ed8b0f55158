-- Names of torn ends.
use Rattle.std.proofs.Common.{◌≡◌, List, ℕ, ◌++◌, Result, Ok, Err, IfOk, encode_utf8_all, codes, refl, sym, ap, ◌∙◌}
use Rattle.std.proofs.lemmas.Str.{encodes-append, encodes_same}
use Rattle.command_reflect.specs.KeptSteps.{torn_name}

ascii : encode_utf8_all (codes ".torn") ≡ codes ".torn"
unfolding lib.Utf8.encode
ascii = refl

-- a name is that of a torn end where its UTF-8 is
pub torn_named : {E : Type 0} (journal : List ℕ) (copied : Result (List ℕ) E) (text : List ℕ) → IfOk copied (λ name. encode_utf8_all name ≡ text) → text ≡ encode_utf8_all journal ++ codes ".torn"
    → IfOk copied (λ name. name ≡ torn_name journal)
torn_named journal (Ok name) text is spelled =
    encodes_same name (journal ++ codes ".torn") (is ∙ spelled ∙ ap (λ (end : List ℕ). encode_utf8_all journal ++ end) (sym ascii) ∙ sym (encodes-append journal (codes ".torn")))
torn_named journal (Err wanting) text is spelled = tt
