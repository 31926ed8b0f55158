-- Readings of the entries of heads, and what one more head does to them.
use Rattle.std.proofs.Common.{ℕ, ◌+◌, ◌≡◌, ◌≤◌, ◌<◌, Bool, true, false, cond, List, [], ◌∷◌, ◌++◌, Some, zero, suc, subst, slice_get, length-append, length-take, length-drop, length, get_or, map, sym, ap, ◌∙◌, refl, arith}
use Rattle.std.proofs.lemmas.List.{map-append, get_or-map, length-map}
use Rattle.std.proofs.lemmas.Option.{slice_get-get_or}
use Rattle.tea_base.specs.declared.entry.Entry.{Entry}
use Rattle.tea_base.specs.Readings.{is_event_of, view_events, last_number, event_payload, payload_bytes, payload_len}
use Rattle.tea_base.specs.Legal.{IsLegal, IsLegalAfter, MayFollow}
use Rattle.tea_base.specs.Limits.{most_entries}
use Rattle.tea_base.proofs.LogLaws.{sent-push, IsLegal-push, payload_bytes-push, MayFollow-short}
use Rattle.event_region.specs.declared.region.Place.{Place}
use Rattle.event_region.specs.RegionState.{place_bytes}
use Rattle.event_region.proofs.ChunkLaws.{place_kept}
use Rattle.tea_base.specs.declared.entry.What.{What}
use Rattle.tea_base.specs.declared.entry.What.TheVariants as what
use Rattle.session_log.specs.declared.heads.Head.{Head}
use Rattle.session_log.specs.declared.heads.HeadKind.{HeadKind}
use Rattle.session_log.specs.declared.heads.HeadKind.TheVariants.{Join, Exit, Event}
use Rattle.session_log.specs.Heads.{entry_of, what_of, AreWithin, IsKindWithin, IsPresence}
use Rattle.session_log.specs.LogState.{next_entry}
use Rattle.session_log.specs.Kept.{AreSound}

length-push_if : (b : Bool) (log : List Entry) (entry : Entry) → length (log ++ cond b (entry ∷ []) []) ≡ length log + cond b 1 0
length-push_if true log entry = omega (arith, length-append log (entry ∷ []))
length-push_if false log entry = omega (arith, length-append log [])

-- one Event more of its view
pub last_number-push : (log : List Entry) (entry : Entry) (view : ℕ) → last_number (log ++ entry ∷ []) view ≡ last_number log view + cond (is_event_of view entry) 1 0
last_number-push log entry view = ap length (sent-push log entry view) ∙ length-push_if (is_event_of view entry) (view_events log view) entry

-- more payload bytes leave what is recorded as it was
what_of-append : (payloads more : List ℕ) (kind : HeadKind) → IsKindWithin (length payloads) kind → what_of (payloads ++ more) kind ≡ what_of payloads kind
what_of-append payloads more Join within = refl
what_of-append payloads more Exit within = refl
what_of-append payloads more (Event number place) within = ap (what.Event number) (place_kept payloads more place.start place.len within.0)

entries-append : (payloads more : List ℕ) (heads : List Head) → AreWithin (length payloads) heads → map (entry_of (payloads ++ more)) heads ≡ map (entry_of payloads) heads
entries-append payloads more [] within = refl
entries-append payloads more (head ∷ rest) within = rw (what_of-append payloads more head.kind within.0, entries-append payloads more rest within.1) refl

-- the entries after one more head, and its payload
pub entries-push : (payloads more grown : List ℕ) (heads pushed : List Head) (head : Head) (what : What) → AreWithin (length payloads) heads → grown ≡ payloads ++ more → pushed ≡ heads ++ head ∷ [] → what_of grown head.kind ≡ what → map (entry_of grown) pushed ≡ map (entry_of payloads) heads ++ record { seq = head.seq; time = head.time; view = head.view; what = what } ∷ []
entries-push payloads more grown heads pushed head what within grows push kept =
    let kept_more : what_of (payloads ++ more) head.kind ≡ what = rw (← grows) kept in
    rw (push, grows, map-append (entry_of (payloads ++ more)) heads (head ∷ []), entries-append payloads more heads within, kept_more) refl

IsKindWithin-grows : (a b : ℕ) (kind : HeadKind) → a ≤ b → IsKindWithin a kind → IsKindWithin b kind
IsKindWithin-grows a b Join le within = tt
IsKindWithin-grows a b Exit le within = tt
IsKindWithin-grows a b (Event number place) le within = (omega arith, within.1)

AreWithin-append : (a b : ℕ) (heads : List Head) (head : Head) → a ≤ b → AreWithin a heads → IsKindWithin b head.kind → AreWithin b (heads ++ head ∷ [])
AreWithin-append a b [] head le within last = (last, tt)
AreWithin-append a b (first ∷ rest) head le within last = (IsKindWithin-grows a b first.kind le within.0, AreWithin-append a b rest head le within.1 last)

pub AreWithin-push : (a b : ℕ) (heads pushed : List Head) (head : Head) → a ≤ b → AreWithin a heads → pushed ≡ heads ++ head ∷ [] → IsKindWithin b head.kind → AreWithin b pushed
AreWithin-push a b heads pushed head le within push last = rw push (AreWithin-append a b heads head le within last)

-- the vectors after one more head, and its payload
pub AreSound-push : (payloads grown : List ℕ) (heads pushed : List Head) (head : Head) (what : What) → AreSound payloads heads → grown ≡ payloads ++ event_payload what → pushed ≡ heads ++ head ∷ [] → what_of grown head.kind ≡ what → IsKindWithin (length grown) head.kind → head.seq ≡ length heads + 1 → MayFollow (map (entry_of payloads) heads) (next_entry (map (entry_of payloads) heads) head.time head.view what) → AreSound grown pushed
AreSound-push payloads grown heads pushed head what sound grows push kept last seq may =
    let entries = map (entry_of payloads) heads in
    let entry = next_entry entries head.time head.view what in
    let long : length entries + 1 ≡ head.seq = omega (arith, length-map heads (entry_of payloads)) in
    let pushes = entries-push payloads (event_payload what) grown heads pushed head what sound.within grows push kept in
    let more : length grown ≡ length payloads + payload_len what = omega (arith, ap length grows, length-append payloads (event_payload what)) in
    record {
      legal = rw (pushes, ← long) (IsLegal-push entries entry sound.legal may);
      within = AreWithin-push (length payloads) (length grown) heads pushed head (omega arith) sound.within push last;
    }

-- one head more is not too many
pub short-push : (payloads : List ℕ) (heads : List Head) (time view : ℕ) (what : What) → MayFollow (map (entry_of payloads) heads) (next_entry (map (entry_of payloads) heads) time view what) → length heads + 1 ≤ most_entries
short-push payloads heads time view what may = omega (arith, MayFollow-short _ _ may, length-map heads (entry_of payloads))

-- a Join or an Exit needs no payload bytes
pub what_of-presence : (payloads : List ℕ) (kind : HeadKind) → IsPresence kind → what_of payloads kind ≡ what_of [] kind
what_of-presence payloads Join is = refl
what_of-presence payloads Exit is = refl
what_of-presence payloads (Event number place) is = absurd is

pub payload_of-presence : (kind : HeadKind) → IsPresence kind → event_payload (what_of [] kind) ≡ []
payload_of-presence Join is = refl
payload_of-presence Exit is = refl
payload_of-presence (Event number place) is = absurd is

pub IsKindWithin-presence : (bound : ℕ) (kind : HeadKind) → IsPresence kind → IsKindWithin bound kind
IsKindWithin-presence bound Join is = tt
IsKindWithin-presence bound Exit is = tt
IsKindWithin-presence bound (Event number place) is = absurd is

-- a read at a place: the head that is there is within, and its entry stands there
pub AreWithin-get_or : (bound : ℕ) (heads : List Head) (i : ℕ) (none : Head) → i < length heads → AreWithin bound heads → IsKindWithin bound (get_or heads i none).kind
AreWithin-get_or bound [] i none below within = absurd (omega arith)
AreWithin-get_or bound (head ∷ rest) zero none below within = within.0
AreWithin-get_or bound (head ∷ rest) (suc i) none below within = AreWithin-get_or bound rest i none (omega arith) within.1

pub IsKindWithin-read : (bound : ℕ) (heads : List Head) (i : ℕ) (head : Head) → i < length heads → AreWithin bound heads → head ≡ get_or heads i head → IsKindWithin bound head.kind
IsKindWithin-read bound heads i head below within read = let P : Head → Type 0 = λ h. IsKindWithin bound h.kind in subst P (sym read) (AreWithin-get_or bound heads i head below within)

pub slice_get-read : (payloads : List ℕ) (heads : List Head) (i : ℕ) (head : Head) → i < length heads → head ≡ get_or heads i head → slice_get (map (entry_of payloads) heads) i ≡ Some (entry_of payloads head)
slice_get-read payloads heads i head below read =
    let within : i < length (map (entry_of payloads) heads) = omega (arith, length-map heads (entry_of payloads)) in
    let at = get_or-map (entry_of payloads) heads i head (entry_of payloads head) below in
    slice_get-get_or (map (entry_of payloads) heads) i (entry_of payloads head) within ∙ ap Some (at ∙ ap (entry_of payloads) (sym read))

-- ---- an entry more, and an entry less

-- so many payload bytes, after one more entry
pub counted-push : (log all : List Entry) (entry : Entry) (bytes more : ℕ) → all ≡ log ++ entry ∷ [] → bytes ≡ payload_bytes log → more ≡ payload_len entry.what → bytes + more ≡ payload_bytes all
counted-push log all entry bytes more whole counted len = omega (arith, ap payload_bytes whole, payload_bytes-push log entry, counted, len)

IsLegalAfter-front : (before log rest : List Entry) → IsLegalAfter before (log ++ rest) → IsLegalAfter before log
IsLegalAfter-front before [] rest legal = tt
IsLegalAfter-front before (entry ∷ log) rest legal = (legal.0, IsLegalAfter-front (before ++ entry ∷ []) log rest legal.1)

pub IsLegal-front : (log rest : List Entry) → IsLegal (log ++ rest) → IsLegal log
IsLegal-front log rest legal = IsLegalAfter-front [] log rest legal

AreWithin-front : (bound : ℕ) (heads rest : List Head) → AreWithin bound (heads ++ rest) → AreWithin bound heads
AreWithin-front bound [] rest within = tt
AreWithin-front bound (head ∷ heads) rest within = (within.0, AreWithin-front bound heads rest within.1)

AreWithin-last : (bound : ℕ) (heads : List Head) (head : Head) → AreWithin bound (heads ++ head ∷ []) → IsKindWithin bound head.kind
AreWithin-last bound [] head within = within.0
AreWithin-last bound (first ∷ heads) head within = AreWithin-last bound heads head within.1

-- what the vectors say where one head less is in them
pub record IsPopped (payloads : List ℕ) (all heads : List Head) (head : Head) : Type 0 where
  pub sound : AreSound payloads heads
  pub within : IsKindWithin (length payloads) head.kind
  pub whole : map (entry_of payloads) all ≡ map (entry_of payloads) heads ++ entry_of payloads head ∷ []
  pub bytes : payload_bytes (map (entry_of payloads) all) ≡ payload_bytes (map (entry_of payloads) heads) + payload_len (what_of payloads head.kind)

pub popped : (payloads : List ℕ) (all heads : List Head) (head : Head) → AreSound payloads all → all ≡ heads ++ head ∷ [] → IsPopped payloads all heads head
popped payloads all heads head sound is =
    let whole : map (entry_of payloads) all ≡ map (entry_of payloads) heads ++ entry_of payloads head ∷ [] = ap (map (entry_of payloads)) is ∙ map-append (entry_of payloads) heads (head ∷ []) in
    let within : AreWithin (length payloads) (heads ++ head ∷ []) = subst (AreWithin (length payloads)) is sound.within in
    record {
      sound = record { legal = IsLegal-front (map (entry_of payloads) heads) (entry_of payloads head ∷ []) (subst IsLegal whole sound.legal); within = AreWithin-front (length payloads) heads (head ∷ []) within };
      within = AreWithin-last (length payloads) heads head within;
      whole = whole;
      bytes = ap payload_bytes whole ∙ payload_bytes-push (map (entry_of payloads) heads) (entry_of payloads head);
    }

-- a place has so many bytes
pub event_len : (payloads : List ℕ) (kind : HeadKind) (number : ℕ) (place : Place) → kind ≡ Event number place → IsKindWithin (length payloads) kind → place.len ≡ payload_len (what_of payloads kind)
event_len payloads kind number place is within =
    let here : IsKindWithin (length payloads) (Event number place) = subst (IsKindWithin (length payloads)) is within in
    let long : length (place_bytes payloads place) ≡ place.len = simp (length-take, length-drop) (let fits = here.0 in omega (arith, fits)) in
    sym long ∙ ap (λ (k : HeadKind). payload_len (what_of payloads k)) (sym is)
