-- What a function answers that reads all of the bytes.
use Rattle.std.proofs.Common.{◌≡◌, ℕ, List, Option, Some, Result, Ok, Err, sym, ap, ◌∙◌}
use Rattle.std.specs.Prelude.{IfOk}
use Rattle.byte_fields.specs.Fields.{Decoder, Decodes, whole}
use Rattle.byte_fields.proofs.Codecs.{IsBytes, Codec, some_is, whole_takes, whole_again, whole_none}

-- what is read is spelled so
pub answers_spelled : {A E X : Type 0} {s : A → List ℕ} {F : A → Type 0} {r : Decoder A} (bad : E) (view : X → A) (result : Result X E) (bytes : List ℕ) → Codec A s F r → IsBytes bytes → Decodes bad view result (whole r bytes)
    → IfOk result (λ x. bytes ≡ s (view x))
answers_spelled bad view (Ok x) bytes codec fits given = (whole_takes codec bytes (view x) fits given).0
answers_spelled bad view (Err fault) bytes codec fits given = tt

-- what holds of each value that has a spelling holds of what is read
pub answers_fit : {A E X : Type 0} {s : A → List ℕ} {F : A → Type 0} {r : Decoder A} (bad : E) (view : X → A) (result : Result X E) (bytes : List ℕ) → Codec A s F r → IsBytes bytes → Decodes bad view result (whole r bytes)
    → (G : A → Type 0) → ((x : A) → F x → G x) → IfOk result (λ x. G (view x))
answers_fit bad view (Ok x) bytes codec fits given G holds = holds (view x) (whole_takes codec bytes (view x) fits given).1
answers_fit bad view (Err fault) bytes codec fits given G holds = tt

-- where it is refused, no value has this spelling
pub answers_bad : {A E X : Type 0} {s : A → List ℕ} {F : A → Type 0} {r : Decoder A} (bad : E) (view : X → A) (result : Result X E) (bytes : List ℕ) → Codec A s F r → Decodes bad view result (whole r bytes)
    → result ≡ Err bad → (x : A) → F x → bytes ≡ s x → ⊥
answers_bad bad view (Ok found) bytes codec given is x fits e = absurd cc
answers_bad bad view (Err fault) bytes codec given is x fits e = whole_none codec bytes (given cc) x fits e

-- what is spelled so is read, unless memory runs out
pub answers_only : {A E X : Type 0} {s : A → List ℕ} {F : A → Type 0} {r : Decoder A} (bad : E) (view : X → A) (result : Result X E) (bytes : List ℕ) → Codec A s F r → Decodes bad view result (whole r bytes)
    → (x : A) → F x → bytes ≡ s x → IfOk result (λ found. view found ≡ x)
answers_only {A = A} {r = r} bad view (Ok found) bytes codec given x fits e =
    let same : ◌≡◌ {A = Option A} (Some (view found)) (Some x) = sym given ∙ ap (whole r) e ∙ whole_again codec x fits in
    some_is (view found) x same
answers_only bad view (Err fault) bytes codec given x fits e = tt
