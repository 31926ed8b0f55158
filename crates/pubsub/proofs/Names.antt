-- The names of a topic: by their UTF-8, as the index compares them, and by their characters.
use Rattle.std.proofs.Common.{◌≡◌, ℕ, Bool, true, false, cond, List, refl, sym, ap, ◌∙◌}
use Rattle.std.specs.Prelude.{bytes_eq, encode_utf8_all, chars}
use Rattle.std.specs.Str.{all_scalars}
use Rattle.std.proofs.lemmas.Bool.{false≢true}
use Rattle.std.proofs.lemmas.Slice.Eq.{bytes_eq-Decides}
use Rattle.std.proofs.lemmas.Str.{chars-encodes}
use Rattle.world_plain.specs.declared.message.Subscription.{Subscription}
use Rattle.pubsub.specs.declared.handler.Handler.{Handler}
use Rattle.pubsub.specs.Topics.{is_to}
use Rattle.pubsub.proofs.Lookups.{nested}

-- texts of the same UTF-8 are the same
same_text : (a b : List ℕ) → all_scalars a ≡ true → all_scalars b ≡ true → encode_utf8_all a ≡ encode_utf8_all b → a ≡ b
same_text a b of_a of_b e = sym (chars-encodes a of_a) ∙ ap chars e ∙ chars-encodes b of_b

same_test : (a b : List ℕ) (x y : Bool) → all_scalars a ≡ true → all_scalars b ≡ true → bytes_eq (encode_utf8_all a) (encode_utf8_all b) ≡ x → bytes_eq a b ≡ y → x ≡ y
same_test a b true true of_a of_b e f = refl
same_test a b false false of_a of_b e f = refl
same_test a b true false of_a of_b e f =
    let is : a ≡ b = same_text a b of_a of_b ((bytes_eq-Decides (encode_utf8_all a) (encode_utf8_all b)).0 e) in
    absurd (false≢true (sym f ∙ (bytes_eq-Decides a b).1 is))
same_test a b false true of_a of_b e f =
    let is : a ≡ b = (bytes_eq-Decides a b).0 f in
    absurd (false≢true (sym e ∙ (bytes_eq-Decides (encode_utf8_all a) (encode_utf8_all b)).1 (ap encode_utf8_all is)))

same_bytes : (a b : List ℕ) → all_scalars a ≡ true → all_scalars b ≡ true → bytes_eq (encode_utf8_all a) (encode_utf8_all b) ≡ bytes_eq a b
same_bytes a b of_a of_b = same_test a b (bytes_eq (encode_utf8_all a) (encode_utf8_all b)) (bytes_eq a b) of_a of_b refl refl

-- what is changed at the two names of a subscription's topic is changed in its topic
pub in_topic : (s : Subscription) (scope_name event_name : List ℕ)
    → scope_name ≡ encode_utf8_all s.scope → event_name ≡ encode_utf8_all s.event
    → all_scalars s.scope ≡ true → all_scalars s.event ≡ true
    → (scope event : List ℕ) → all_scalars scope ≡ true → all_scalars event ≡ true
    → (more others : List Handler)
    → cond (bytes_eq scope_name (encode_utf8_all scope)) (cond (bytes_eq event_name (encode_utf8_all event)) more others) others
    ≡ cond (is_to scope event s) more others
in_topic s scope_name event_name by_scope by_event of_scope of_event scope event scalars_scope scalars_event more others =
    let scopes : bytes_eq scope_name (encode_utf8_all scope) ≡ bytes_eq s.scope scope =
    ap (λ (n : List ℕ). bytes_eq n (encode_utf8_all scope)) by_scope ∙ same_bytes s.scope scope of_scope scalars_scope in
    let events : bytes_eq event_name (encode_utf8_all event) ≡ bytes_eq s.event event =
    ap (λ (n : List ℕ). bytes_eq n (encode_utf8_all event)) by_event ∙ same_bytes s.event event of_event scalars_event in
    (λ i. cond (scopes i) (cond (events i) more others) others) ∙ nested (bytes_eq s.scope scope) (bytes_eq s.event event) more others
