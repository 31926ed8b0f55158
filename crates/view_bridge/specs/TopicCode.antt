-- A code of topics, so that a type may be seen as holding them.
use Rattle.std.specs.Prelude.{ℕ, Bool, true, false, List, refl, ◌≡◌}
use Rattle.std.specs.Coded.{Coded, code_by, coded×, coded_ℕ, coded_bool, coded_list}
use Rattle.view_bridge.specs.declared.topic.Topic.{Topic}
use Rattle.view_bridge.specs.declared.topic.Handling.{Handling}
use Rattle.view_bridge.specs.declared.topic.Handling.TheVariants.{Queued, OncePerFrame}

abbrev pub is_queued : Handling → Bool
is_queued Queued = true
is_queued OncePerFrame = false

abbrev pub handling_for : Bool → Handling
handling_for true = Queued
handling_for false = OncePerFrame

pub handling-is_queued : (handling : Handling) → handling_for (is_queued handling) ≡ handling
handling-is_queued Queued = refl
handling-is_queued OncePerFrame = refl

abbrev pub coded_handling : Coded Handling
coded_handling = code_by Bool coded_bool is_queued handling_for handling-is_queued

abbrev pub coded_topic : Coded Topic
coded_topic =
    code_by
    (List ℕ × (List ℕ × Handling))
    (coded× (coded_list coded_ℕ) (coded× (coded_list coded_ℕ) coded_handling))
    (λ t. (t.scope, (t.event, t.handling)))
    (λ p. record { scope = p.0; event = p.1.0; handling = p.1.1 })
    (λ _. refl)
