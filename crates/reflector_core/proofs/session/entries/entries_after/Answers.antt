use Rattle.std.proofs.Common.{arith, ℕ, ◌+◌, ◌-◌, ◌<◌, ◌≡◌, List, [], ◌∷◌, ◌++◌, Some, unwrap_or, length, length-drop, get_or, slice_get, take, drop, sym, ap, ◌∙◌, refl}
use Rattle.std.proofs.lemmas.List.{take_more, get_or-drop}
use Rattle.std.proofs.lemmas.Option.{slice_get_within, unwrap_or-slice_get}
use Rattle.reflector_core.proofs.session.entries.entries_after.Goals as goal

-- one more element of a part
take-drop_more : {X : Type 0} (xs : List X) (start i : ℕ) (x : X) → slice_get xs (start + i + 1 - 1) ≡ Some x → take (i + 1) (drop start xs) ≡ take i (drop start xs) ++ x ∷ []
take-drop_more xs start i x found =
    let place : start + i + 1 - 1 ≡ start + i = omega arith in
    let at = rw place at found in
    let within = slice_get_within xs (start + i) x at in
    let read : get_or (drop start xs) i x ≡ x = get_or-drop start xs i x ∙ sym (unwrap_or-slice_get xs (start + i) x) ∙ ap (λ o. unwrap_or o x) at in
    let below : i < length (drop start xs) = omega (arith, length-drop start xs) in
    take_more (drop start xs) i x below ∙ ap (λ y. take i (drop start xs) ++ y ∷ []) read

pub loop-i-preserved : goal.loop-i-preserved
loop-i-preserved c =
    let more = take-drop_more c.args.log.now.entries c.args.after c.loop-i.i _ c.in-Ok.ensures.ok in
    let pushed = c.in_ok-push-in-Ok.ensures.ok in
    rw (pushed, c.loop-i.invariant, more) refl
