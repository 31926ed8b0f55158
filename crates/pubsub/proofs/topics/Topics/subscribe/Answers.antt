use Rattle.std.proofs.Common.{◌≡◌, Bool, true, false, sym, ◌∙◌}
use Rattle.std.specs.Prelude.{Result, Ok, Err, OnOk, OnErr, MatchBool}
use Rattle.std.specs.Result.{is_err}
use Rattle.std.proofs.lemmas.Bool.{false≢true}
use Rattle.pubsub.proofs.topics.Topics.subscribe.Goals as goal

at_err : {T E : Type 0} (r : Result T E) (P : Type 0) → OnErr r P → is_err r ≡ true → P
at_err (Ok _) P p e = absurd (false≢true e)
at_err (Err _) P p e = p

at_ok : {T E : Type 0} (r : Result T E) (P : Type 0) → OnOk r P → is_err r ≡ false → P
at_ok (Ok _) P p e = p
at_ok (Err _) P p e = absurd (false≢true (sym e))

room : (full : Bool) (P Q : Type 0) → MatchBool full P Q → full ≡ false → Q
room true P Q m e = absurd (false≢true (sym e))
room false P Q m e = m

pub hold-requires-clause-few : goal.hold-requires-clause-few
hold-requires-clause-few c = room c.is_full.result _ _ c.is_full.ensures c.if-is_full.false

pub returns-then-is_err : goal.returns-then-is_err
returns-then-is_err c =
    let few = room c.is_full.result _ _ c.is_full.ensures c.if-is_full.false in
    (sym c.holds.ensures ∙ c.if-holds.false, few, at_err c.hold.result _ c.hold.ensures.err (sym c.is_err.ensures.value ∙ c.if-is_err.true))

pub returns : goal.returns
returns c =
    let few = room c.is_full.result _ _ c.is_full.ensures c.if-is_full.false in
    (sym c.holds.ensures ∙ c.if-holds.false, few, at_ok c.hold.result _ c.hold.ensures.ok (sym c.is_err.ensures.value ∙ c.if-is_err.false))
