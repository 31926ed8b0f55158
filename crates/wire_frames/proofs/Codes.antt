-- Each code has its place among all of them.
use Rattle.std.proofs.Common.{◌≡◌, ◌≢◌, ℕ, ◌+◌, ◌-◌, ◌<◌, Some, Option, ap, sym, ◌∙◌, slice_get, refl, arith}
use Rattle.wire_frames.specs.declared.code.RefusalCode.{RefusalCode}
use Rattle.wire_frames.specs.declared.code.RefusalCode.TheVariants.{Stale, TooLong, Differs, Gap, LogFull, TimeEnd, ViewsFull, BadView, Ahead, Older, NoSuchSeq, OtherSession, BadFrame, NotJoined, AlreadyJoined}
use Rattle.wire_frames.specs.declared.code.TheConstants.{ALL}
use Rattle.wire_frames.specs.Codes.{code_number}

pub code_at : (code : RefusalCode) → (code_number code - 1 < 15) × (slice_get ALL (code_number code - 1) ≡ Some code)
code_at Stale = (omega arith, refl)
code_at TooLong = (omega arith, refl)
code_at Differs = (omega arith, refl)
code_at Gap = (omega arith, refl)
code_at LogFull = (omega arith, refl)
code_at TimeEnd = (omega arith, refl)
code_at ViewsFull = (omega arith, refl)
code_at BadView = (omega arith, refl)
code_at Ahead = (omega arith, refl)
code_at Older = (omega arith, refl)
code_at NoSuchSeq = (omega arith, refl)
code_at OtherSession = (omega arith, refl)
code_at BadFrame = (omega arith, refl)
code_at NotJoined = (omega arith, refl)
code_at AlreadyJoined = (omega arith, refl)

-- no code up to this place has the number, where none before it has, and the one at it has not
pub none_up_to : (number index : ℕ) (here : RefusalCode) → ((k : ℕ) (code : RefusalCode) → k < index → slice_get ALL k ≡ Some code → code_number code ≢ number) → slice_get ALL index ≡ Some here → code_number here ≢ number
    → (k : ℕ) (code : RefusalCode) → k < index + 1 → slice_get ALL k ≡ Some code → code_number code ≢ number
none_up_to number index here before at differs k code below is same =
    let not_before : k < index → ⊥ = λ earlier. before k code earlier is same in
    let last : k ≡ index = grind (arith, not_before) in
    let one : ◌≡◌ {A = Option RefusalCode} (Some here) (Some code) = sym at ∙ ap (λ n. slice_get ALL n) (sym last) ∙ is in
    let found : here ≡ code = cc in
    differs (ap code_number found ∙ same)
