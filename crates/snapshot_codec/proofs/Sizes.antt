-- How many bytes a snapshot has at most, by the weight of its world.
use Rattle.std.proofs.Common.{◌≡◌, ℕ, ◌+◌, ◌*◌, ◌≤◌, List, [], ◌∷◌, length, length-append, arith}
use Rattle.std.proofs.lemmas.List.{length-map}
use Rattle.std.specs.Prelude.{map}
use Rattle.std.specs.Int.{to_be_bytes, w32, w64}
use Rattle.std.specs.List.{flat_map, AllByRecursion}
use Rattle.world_plain.specs.Messages.{PlainMessage, plain_message}
use Rattle.model_value.specs.Plain.{PlainValue, nil, bool, int, text, ref, list, text_weight, values_weight}
use Rattle.saved_value.specs.Saving.{saved_weight}
use Rattle.byte_fields.specs.Fields.{text_field, list_of}
use Rattle.model_value.specs.Spelling.{value_spelling}
use Rattle.world_plain.specs.Valid.{MessagesFit}
use Rattle.world_plain.specs.World.{ObjectRecord, WorldRecord, object_record, object_weight, message_weight, subscription_weight, known_weight, total_weight}
use Rattle.model_value.specs.Plain.{text_weight, values_weight}
use Rattle.world_plain.specs.declared.message.Message.{Message}
use Rattle.world_plain.specs.declared.message.Subscription.{Subscription}
use Rattle.world_plain.specs.declared.world.Known.{Known}
use Rattle.world_plain.specs.declared.world.PlainObject.{PlainObject}
use Rattle.model_value.proofs.Spellings.{encode_utf8_all-le_weight, value_spelling-le_weight}
use Rattle.snapshot_codec.specs.Conditions.{IsValid, IsSmall, MessageHasFewArguments}
use Rattle.tea_base.specs.Limits.{most_snapshot}
use Rattle.snapshot_codec.specs.Spelling.{object_spelling, known_spelling, subscription_spelling, message_spelling, saved_spelling, world_spelling}

-- ---- a weight bounds how many items there are

count-le_total : {A : Type 0} (weighs : A → ℕ) (xs : List A) → ((x : A) → 1 ≤ weighs x) → length xs ≤ total_weight weighs xs
count-le_total weighs [] each = omega arith
count-le_total weighs (x ∷ xs) each = omega (arith, each x, count-le_total weighs xs each)

pub length-objects : (os : List PlainObject) → length os ≤ total_weight object_weight (map object_record os)
length-objects os = omega (arith, length-map os object_record, count-le_total object_weight (map object_record os) (λ _. omega arith))

pub length-known : (ks : List Known) → length ks ≤ total_weight known_weight ks
length-known ks = count-le_total known_weight ks (λ _. omega arith)

pub length-subscriptions : (ss : List Subscription) → length ss ≤ total_weight subscription_weight ss
length-subscriptions ss = count-le_total subscription_weight ss (λ _. omega arith)

pub length-messages : (ms : List Message) → length ms ≤ total_weight message_weight (map plain_message ms)
length-messages ms = omega (arith, length-map ms plain_message, count-le_total message_weight (map plain_message ms) (λ _. omega arith))

pub ruleset by_count = (length-objects, length-known, length-subscriptions, length-messages, length-map)

-- ---- what keeps each count within its field

few-MessagesFit : (time next : ℕ) (os : List ObjectRecord) (ms : List PlainMessage) → MessagesFit time next os ms → AllByRecursion MessageHasFewArguments ms
few-MessagesFit time next os [] fit = tt
few-MessagesFit time next os (m ∷ ms) fit = (fit.0.5, few-MessagesFit time next os ms fit.1)

pub IsSmall-valid : (w : WorldRecord) → IsValid w → IsSmall w
IsSmall-valid w valid = record {
  views = valid.1.views.few;
  arguments = few-MessagesFit w.time w.next_number w.objects w.pending valid.1.messages.fit;
  weight = valid.1.weight;
}

-- ---- spellings of one thing

text_field-le : (characters : List ℕ) → length (text_field characters) + 12 ≤ 16 * text_weight characters
text_field-le characters = omega (arith, encode_utf8_all-le_weight characters)

values-le : (vs : List PlainValue) → length (flat_map value_spelling vs) ≤ 16 * values_weight vs
values-le [] = omega arith
values-le (v ∷ vs) = omega (arith, length-append (value_spelling v) (flat_map value_spelling vs), value_spelling-le_weight v, values-le vs)

object_spelling-le : (o : ObjectRecord) → length (object_spelling o) ≤ 16 * object_weight o
unfolding object_spelling
object_spelling-le o = omega (arith, values-le o.fields)

known_spelling-le : (k : Known) → length (known_spelling k) ≤ 16 * known_weight k
unfolding known_spelling
known_spelling-le k = omega (arith, length-append (text_field k.name) (to_be_bytes w32 k.object), text_field-le k.name)

subscription_spelling-le : (s : Subscription) → length (subscription_spelling s) ≤ 16 * subscription_weight s
unfolding subscription_spelling
subscription_spelling-le s = simp length-append (omega (arith, text_field-le s.scope, text_field-le s.event, text_field-le s.method))

message_spelling-le : (m : PlainMessage) → length (message_spelling m) ≤ 16 * message_weight m
unfolding message_spelling
message_spelling-le m = simp length-append (omega (arith, text_field-le m.method, values-le m.args))

-- ---- spellings of lists

list_field-le :
    {A : Type 0} (spelling : A → List ℕ) (weighs : A → ℕ) (xs : List A)
    → ((x : A) → length (spelling x) ≤ 16 * weighs x)
    → length (list_of spelling xs) ≤ 4 + 16 * total_weight weighs xs
list_field-le spelling weighs [] each = omega arith
list_field-le spelling weighs (x ∷ xs) each =
    omega (arith, length-append (spelling x) (flat_map spelling xs), each x, list_field-le spelling weighs xs each)

faults-length : (counts : List ℕ) → length (flat_map (to_be_bytes w64) counts) ≡ 8 * length counts
faults-length [] = omega arith
faults-length (n ∷ ns) = omega (arith, faults-length ns)

views-length : (views : List ℕ) → length (list_of (to_be_bytes w32) views) ≡ 4 + 4 * length views
views-length [] = omega arith
views-length (v ∷ vs) = omega (arith, views-length vs)

saved_spelling-le : (v : PlainValue) → length (saved_spelling v) ≤ 16 * saved_weight v
saved_spelling-le nil = omega arith
saved_spelling-le (bool flag) = value_spelling-le_weight (bool flag)
saved_spelling-le (int number) = value_spelling-le_weight (int number)
saved_spelling-le (text characters) = value_spelling-le_weight (text characters)
saved_spelling-le (ref object) = value_spelling-le_weight (ref object)
saved_spelling-le (list items) = value_spelling-le_weight (list items)

pub world_spelling-le :
    (w : WorldRecord) → length w.id ≡ 32 → length w.faults ≡ 14 → IsSmall w → length (world_spelling w) ≤ most_snapshot
unfolding world_spelling
world_spelling-le w id faults small =
    let views = small.views in
    let light = small.weight in
    let objects = list_field-le object_spelling object_weight w.objects object_spelling-le in
    let known = list_field-le known_spelling known_weight w.known known_spelling-le in
    let subscriptions = list_field-le subscription_spelling subscription_weight w.subscriptions subscription_spelling-le in
    let pending = list_field-le message_spelling message_weight w.pending message_spelling-le in
    let saved = saved_spelling-le w.saved in
    simp length-append (omega (arith, faults-length w.faults, views-length w.views))

pub ruleset by_size = (world_spelling-le)
