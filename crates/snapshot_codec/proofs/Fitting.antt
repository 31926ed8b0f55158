-- Which worlds have a spelling that is read: those of an actual world's numbers and texts that are valid.
use Rattle.std.proofs.Common.{ℕ, ◌≤◌, List, [], ◌∷◌, length, arith}
use Rattle.std.specs.List.{AllByRecursion}
use Rattle.byte_fields.proofs.Codecs.{FitsText}
use Rattle.world_plain.specs.Messages.{PlainMessage}
use Rattle.model_value.specs.Plain.{PlainValue, nil, bool, int, text, ref, list, PlainValues, no_items, item}
use Rattle.model_value.specs.Spelling.{IsValue, AreValues}
use Rattle.world_plain.specs.Valid.{Valid, ObjectsFit, KnownFit, SubscriptionsFit, MessagesFit, most_arguments}
use Rattle.model_value.specs.Plain.{AllInBounds, TextFits}
use Rattle.world_plain.specs.World.{ObjectRecord, WorldRecord}
use Rattle.world_plain.specs.declared.message.Subscription.{Subscription}
use Rattle.world_plain.specs.declared.world.Known.{Known}
use Rattle.model_value.proofs.Spellings.{encode_utf8_all-le_weight}
use Rattle.model_value.proofs.ValueCodec.{HasSpelling, HaveSpellings, FitsBounds, is_bounded}
use Rattle.snapshot_codec.specs.Answer.{IsScalarText, IsObject, IsKnown, IsSubscription, IsMessage, IsWorld}
use Rattle.snapshot_codec.proofs.Sizes.{length-known}
use Rattle.snapshot_codec.proofs.WorldCodec.{FitsObject, FitsKnown, FitsSubscription, FitsMessage, FitsWorld}

all-map : {A : Type 0} (F G : A → Type 0) (xs : List A) → ((x : A) → F x → G x) → AllByRecursion F xs → AllByRecursion G xs
all-map F G [] each all = tt
all-map F G (x ∷ xs) each all = (each x all.0, all-map F G xs each all.1)

-- ---- what was read is a world

mutual
  is_value : (v : PlainValue) → HasSpelling v → IsValue v
  is_value nil has = tt
  is_value (bool flag) has = tt
  is_value (int n) has = has
  is_value (text s) has = has.0
  is_value (ref n) has = has
  is_value (list items) has = are_values items has.1

  are_values : (items : PlainValues) → HaveSpellings items → AreValues items
  are_values no_items has = tt
  are_values (item v rest) has = (is_value v has.0, are_values rest has.1)

all_values : (vs : List PlainValue) → AllByRecursion FitsBounds vs → AllByRecursion IsValue vs
all_values vs fits = all-map FitsBounds IsValue vs (λ v f. is_value v f.0.1) fits

pub is_world : (counts : List ℕ) (w : WorldRecord) → FitsWorld counts w → IsWorld w
is_world counts w fits =
    let singles = fits.0.1.0 in
    let rows = fits.0.1.1.1 in
    record {
      id = fits.0.0;
      time = singles.0;
      next_object = singles.1.0;
      next_number = singles.1.1.0;
      random = singles.1.1.1.0;
      turns = singles.1.1.1.1;
      kinds = fits.0.1.1.0.0;
      faults = fits.0.1.1.0.1;
      views = rows.0.1;
      objects = all-map (FitsObject counts) IsObject w.objects (λ o f. (f.0, f.1.0, all_values o.fields f.1.1.1)) rows.1.0.1;
      known = all-map FitsKnown IsKnown w.known (λ k f. (f.0.0, f.1)) rows.1.1.0.1;
      subscriptions = all-map FitsSubscription IsSubscription w.subscriptions (λ s f. (f.0.0, f.1.0.0, f.1.1.0, f.1.1.1.0)) rows.1.1.1.0.1;
      pending = all-map FitsMessage IsMessage w.pending (λ m f. (f.0, f.1.0, f.1.1.0, f.1.1.1.0.0, all_values m.args f.1.1.1.1.1)) rows.1.1.1.1.1;
      saved = is_value w.saved fits.1.0.1;
    }

-- ---- a valid world is read

text-fits : (s : List ℕ) → IsScalarText s → TextFits s → FitsText s
text-fits s is fits = (is, omega (arith, encode_utf8_all-le_weight s))

values-fit : (vs : List PlainValue) → AllByRecursion IsValue vs → AllInBounds vs → AllByRecursion FitsBounds vs
values-fit [] is fits = tt
values-fit (v ∷ vs) is fits = (is_bounded v is.0 fits.0, values-fit vs is.1 fits.1)

objects-fit : (counts : List ℕ) (next : ℕ) (os : List ObjectRecord) → AllByRecursion IsObject os → ObjectsFit counts next os → AllByRecursion (FitsObject counts) os
objects-fit counts next [] is fit = tt
objects-fit counts next (o ∷ os) is fit =
    ((is.0.0, (is.0.1, (fit.0.1, values-fit o.fields is.0.2 fit.0.2))), objects-fit counts next os is.1 fit.1)

known-fit : (os : List ObjectRecord) (ks : List Known) → AllByRecursion IsKnown ks → KnownFit os ks → AllByRecursion FitsKnown ks
known-fit os [] is fit = tt
known-fit os (k ∷ ks) is fit = ((text-fits k.name is.0.0 fit.0.0, is.0.1), known-fit os ks is.1 fit.1)

subscriptions-fit : (os : List ObjectRecord) (ss : List Subscription) → AllByRecursion IsSubscription ss → SubscriptionsFit os ss → AllByRecursion FitsSubscription ss
subscriptions-fit os [] is fit = tt
subscriptions-fit os (s ∷ ss) is fit =
    ((text-fits s.scope is.0.0 fit.0.0, (text-fits s.event is.0.1 fit.0.1, (is.0.2, text-fits s.method is.0.3 fit.0.2))), subscriptions-fit os ss is.1 fit.1)

messages-fit : (time next : ℕ) (os : List ObjectRecord) (ms : List PlainMessage) → AllByRecursion IsMessage ms → MessagesFit time next os ms → AllByRecursion FitsMessage ms
messages-fit time next os [] is fit = tt
messages-fit time next os (m ∷ ms) is fit =
    let few : length m.args ≤ most_arguments = fit.0.5 in
    ((is.0.0, (is.0.1, (is.0.2, (text-fits m.method is.0.3 fit.0.4, (omega arith, values-fit m.args is.0.4 fit.0.6))))), messages-fit time next os ms is.1 fit.1)

pub world-fits : (counts : List ℕ) (w : WorldRecord) → IsWorld w → Valid counts w → FitsWorld counts w
world-fits counts w is valid = (
  (
    is.id,
    (
      (is.time, (is.next_object, (is.next_number, (is.random, is.turns)))),
      (
        (is.kinds, is.faults),
        (
          (omega (arith, valid.views.few), is.views),
          (
            (omega (arith, valid.objects.few), objects-fit counts w.next_object w.objects is.objects valid.objects.fit),
            (
              (omega (arith, valid.weight, length-known w.known), known-fit w.objects w.known is.known valid.names.fit),
              (
                (omega (arith, valid.subscriptions.few), subscriptions-fit w.objects w.subscriptions is.subscriptions valid.subscriptions.fit),
                (omega (arith, valid.messages.few), messages-fit w.time w.next_number w.objects w.pending is.pending valid.messages.fit),
              ),
            ),
          ),
        ),
      ),
    ),
  ),
  is_bounded w.saved is.saved valid.saved.0,
)
