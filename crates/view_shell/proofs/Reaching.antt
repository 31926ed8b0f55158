-- When a view has what it hears its link for.
use Rattle.std.proofs.Common.{◌≡◌, ℕ, ◌≤◌, ◌<◌, Bool, true, false, if◌then◌else◌, List, [], ◌∷◌, length, refl, ap, ◌∙◌, arith}
use Rattle.std.specs.Prelude.{nat_le}
use Rattle.std.proofs.lemmas.Bool.Decides.{nat_tests}
use Rattle.replica_plain.specs.PlainReplica.{published_count}
use Rattle.view_shell.specs.declared.watcher.Watcher.{Watcher}
use Rattle.view_shell.specs.ViewText.{reached_time_line, settled_line}
use Rattle.view_shell.specs.Phases.{Viewer, Phase, ToReach, ToSettle, ToCatchUp, Receiving, finish, has_caught_up, receive, settle_on}

reach_if : (one other : Phase) (test : Bool) → test ≡ true → (if test then one else other) ≡ one
reach_if one other true is = refl
reach_if one other false is = absurd cc

reach_not : (one other : Phase) (test : Bool) → test ≡ false → (if test then one else other) ≡ other
reach_not one other true is = absurd cc
reach_not one other false is = refl

pub reached : (v : Viewer) (time : ℕ) → time ≤ v.replica.world.time → receive v (ToReach time) ≡ finish v (reached_time_line v.replica.world.time)
reached v time late = reach_if _ _ (nat_le time v.replica.world.time) (grind (arith, nat_tests, late))

pub not_reached : (v : Viewer) (time : ℕ) → v.replica.world.time < time → receive v (ToReach time) ≡ Receiving v (ToReach time)
not_reached v time early = reach_not _ _ (nat_le time v.replica.world.time) (grind (arith, nat_tests, early))

settled_by : (v : Viewer) (outbox : List (List ℕ)) → outbox ≡ [] → settle_on v outbox ≡ finish v (settled_line v.replica.acknowledged)
settled_by v [] is = refl
settled_by v (payload ∷ rest) is = absurd cc

pub settled : (v : Viewer) (count : ℕ) → v.replica.outbox ≡ [] → count ≡ published_count v.replica → receive v ToSettle ≡ finish v (settled_line count)
settled v count none is =
    let held : length v.replica.outbox ≡ 0 = ap length none in
    let same : v.replica.acknowledged ≡ count = omega (arith, held, is) in
    settled_by v v.replica.outbox none ∙ ap (λ (n : ℕ). finish v (settled_line n)) same

unsettled_by : (v : Viewer) (outbox : List (List ℕ)) → (outbox ≡ [] → ⊥) → settle_on v outbox ≡ Receiving v ToSettle
unsettled_by v [] not = absurd (not refl)
unsettled_by v (payload ∷ rest) not = refl

pub unsettled : (v : Viewer) → (v.replica.outbox ≡ [] → ⊥) → receive v ToSettle ≡ Receiving v ToSettle
unsettled v not = unsettled_by v v.replica.outbox not

pub caught_up : (v : Viewer) → has_caught_up v.replica ≡ true → receive v ToCatchUp ≡ finish v []
caught_up v few = reach_if _ _ (has_caught_up v.replica) few

pub not_caught_up : (v : Viewer) → has_caught_up v.replica ≡ false → receive v ToCatchUp ≡ Receiving v ToCatchUp
not_caught_up v many = reach_not _ _ (has_caught_up v.replica) many

-- what was kept of a view that heard its link goes on being kept
pub kept_on : (w0 w1 w2 : Watcher) → w1 ≡ record w0 { replica = w1.replica; receives = w1.receives; quiets = w1.quiets } → w2 ≡ record w1 { replica = w2.replica; receives = w2.receives; quiets = w2.quiets }
    → w2 ≡ record w0 { replica = w2.replica; receives = w2.receives; quiets = w2.quiets }
kept_on w0 w1 w2 first second = second ∙ ap (λ (w : Watcher). record w { replica = w2.replica; receives = w2.receives; quiets = w2.quiets }) first
