-- The files of a hub's sessions, one after the other.
use Rattle.std.proofs.Common.{◌≡◌, ℕ, zero, suc, ◌+◌, ◌<◌, List, [], ◌∷◌, ◌++◌, map, take, length, slice_get, Option, Some, None, refl, sym, ap, subst, ◌∙◌, arith}
use Rattle.std.specs.Option.{option_map}
use Rattle.std.proofs.lemmas.List.{length-map, length-take, map-append, take_more}
use Rattle.std.proofs.lemmas.Option.{get_or_from_slice_get, slice_get_within}
use Rattle.session_log.specs.Stored.{stored_spelling}
use Rattle.reflector_core.specs.PlainSession.{PlainSession}
use Rattle.reflector_core.specs.Stored.{stored_of}
use Rattle.command_outcome.specs.declared.outcome.Put.{Put}
use Rattle.command_outcome.specs.Outcome.{numbered_put, numbered_puts}
use Rattle.command_outcome.proofs.Numbered.{puts_more}
use Rattle.session_hub.specs.PlainHub.{HeldSession, PlainHub}
use Rattle.command_hub.specs.HubRun.{stored_bytes}

-- the session that was made so
record MadeAt (hub : PlainHub) (place : ℕ) (s : PlainSession) : Type 0 where
  held : HeldSession
  at : slice_get hub place ≡ Some held
  is : held.session ≡ s

made_at_if : (hub : PlainHub) (place : ℕ) (s : PlainSession) (found : Option HeldSession) → slice_get hub place ≡ found → Some s ≡ option_map (λ (held : HeldSession). held.session) found → MadeAt hub place s
made_at_if hub place s None at made = absurd cc
made_at_if hub place s (Some held) at made = record { held = held; at = at; is = cc }

made_at : (hub : PlainHub) (place : ℕ) (s : PlainSession) → Some s ≡ option_map (λ (held : HeldSession). held.session) (slice_get hub place) → MadeAt hub place s
made_at hub place s made = made_at_if hub place s (slice_get hub place) refl made

-- one session more
pub one_file : (hub : PlainHub) (place number : ℕ) (prefix bytes : List ℕ) (s : PlainSession) (old new : List Put) → place < length hub → number ≡ place + 1
    → Some s ≡ option_map (λ (held : HeldSession). held.session) (slice_get hub place) → bytes ≡ stored_spelling (stored_of s)
    → old ≡ numbered_puts prefix 1 (map stored_bytes (take place hub)) → new ≡ old ++ numbered_put prefix number bytes ∷ []
    → new ≡ numbered_puts prefix 1 (map stored_bytes (take (place + 1) hub))
one_file hub place number prefix bytes s old new within here made stored before after =
    let at = made_at hub place s made in
    let taken : take (place + 1) hub ≡ take place hub ++ at.held ∷ [] =
    take_more hub place at.held within ∙ ap (λ (h : HeldSession). take place hub ++ h ∷ []) (get_or_from_slice_get hub place at.held at.held at.at) in
    let mapped : map stored_bytes (take (place + 1) hub) ≡ map stored_bytes (take place hub) ++ bytes ∷ [] =
    ap (map stored_bytes) taken ∙ map-append stored_bytes (take place hub) (at.held ∷ [])
    ∙ ap (λ (b : List ℕ). map stored_bytes (take place hub) ++ b ∷ []) (ap (λ (p : PlainSession). stored_spelling (stored_of p)) at.is ∙ sym stored) in
    let long = length-map (take place hub) stored_bytes in
    let short = length-take place hub in
    let next : number ≡ 1 + length (map stored_bytes (take place hub)) = omega (arith, long, short) in
    after ∙ ap (λ (puts : List Put). puts ++ numbered_put prefix number bytes ∷ []) before
    ∙ ap (λ (n : ℕ). numbered_puts prefix 1 (map stored_bytes (take place hub)) ++ numbered_put prefix n bytes ∷ []) next
    ∙ sym (puts_more prefix 1 (map stored_bytes (take place hub)) bytes)
    ∙ ap (numbered_puts prefix 1) (sym mapped)
