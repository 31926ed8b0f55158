-- The laws by which a set holds subscriptions: equal ones are alike to all others, and are hashed alike.
use Rattle.std.specs.Prelude.{◌≡◌, ℕ, ◌&&◌, ◌++◌, List, nat_eq, bytes_eq, IsTrue, encode_utf8_all}
use Rattle.std.specs.Cmp.{IsEquivalence, and_equiv, on_equiv, nat_eq_equiv, unsigned_Decides, first_so, second_so}
use Rattle.std.specs.Cmp.Lexicographic.{nat_list_eq_equiv, bytes_decides}
use Rattle.std.specs.Hash.{HashWrites, str, u32}
use Rattle.world_plain.specs.ValidTest.{same_subscription}
use Rattle.world_plain.specs.declared.message.Subscription.{Subscription}

-- what is written of a text, and of a subscription
abbrev pub text_writes : List ℕ → HashWrites
text_writes characters = str (encode_utf8_all characters)

abbrev pub subscription_writes : Subscription → HashWrites
subscription_writes s = text_writes s.scope ++ text_writes s.event ++ u32 s.object ++ text_writes s.method

pub same_equiv : IsEquivalence same_subscription
same_equiv =
    and_equiv (and_equiv (on_equiv (λ (s : Subscription). s.scope) nat_list_eq_equiv)
    (on_equiv (λ (s : Subscription). s.event) nat_list_eq_equiv))
    (and_equiv (on_equiv (λ (s : Subscription). s.object) nat_eq_equiv)
    (on_equiv (λ (s : Subscription). s.method) nat_list_eq_equiv))

pub same_writes : (s t : Subscription) → IsTrue (same_subscription s t) → subscription_writes s ≡ subscription_writes t
same_writes s t same =
    let topic = first_so (bytes_eq s.scope t.scope && bytes_eq s.event t.event) (nat_eq s.object t.object
    && bytes_eq s.method t.method) same in
    let who = second_so (bytes_eq s.scope t.scope && bytes_eq s.event t.event) (nat_eq s.object t.object
    && bytes_eq s.method t.method) same in
    let scope : s.scope ≡ t.scope =
    (bytes_decides s.scope t.scope).0 (first_so (bytes_eq s.scope t.scope) (bytes_eq s.event t.event) topic) in
    let event : s.event ≡ t.event =
    (bytes_decides s.event t.event).0 (second_so (bytes_eq s.scope t.scope) (bytes_eq s.event t.event) topic) in
    let object : s.object ≡ t.object =
    (unsigned_Decides s.object t.object).0 (first_so (nat_eq s.object t.object) (bytes_eq s.method t.method) who) in
    let method : s.method ≡ t.method =
    (bytes_decides s.method t.method).0 (second_so (nat_eq s.object t.object) (bytes_eq s.method t.method) who) in
    λ i. text_writes (scope i) ++ text_writes (event i) ++ u32 (object i) ++ text_writes (method i)
