-- The order by which subscriptions are sorted.
use Rattle.std.specs.Cmp.Lexicographic.{slice_cmp}
use Rattle.std.specs.Ordering.{nat_cmp, ordering_then}
use Rattle.std.specs.declared.cmp.Ordering.{Ordering}
use Rattle.world_plain.specs.declared.message.Subscription.{Subscription}

-- by the object, then by the scope, the event and the method
abbrev pub subscription_order : Subscription → Subscription → Ordering
subscription_order s t =
    ordering_then
    (ordering_then
    (ordering_then (nat_cmp s.object t.object) (slice_cmp nat_cmp s.scope t.scope))
    (slice_cmp nat_cmp s.event t.event))
    (slice_cmp nat_cmp s.method t.method)
