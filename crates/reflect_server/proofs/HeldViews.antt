-- A view that is here is held by the caller that joined it last.
use Rattle.std.proofs.Common.{◌≡◌, ◌⊎◌, inl, inr, ℕ, ◌+◌, ◌==◌, eqb, Bool, true, false, not, cond, ◌&&◌, ◌||◌, if◌then◌else◌, List, [], ◌∷◌, ◌++◌, length, Option, Some, None, refl, sym, ap, ◌∙◌, subst, append_assoc, append-nil}
use Rattle.std.proofs.lemmas.Bool.{eqb-true, eq-eqb}
use Rattle.std.specs.Cmp.Derive.{both_true}
use Rattle.tea_base.specs.declared.entry.Entry.{Entry}
use Rattle.tea_base.specs.declared.entry.What.TheVariants as what
use Rattle.tea_base.specs.Readings.{current, is_here, is_presence_of, last_entry, presence, seq_or_zero, is_some_join, last_number, view_event, payload_bytes, here_count}
use Rattle.tea_base.specs.Limits.{end_of_time, most_payload, most_bytes, most_here, most_snapshot}
use Rattle.tea_base.proofs.LogLaws.{last_presence-push}
use Rattle.session_log.specs.LogState.{next_entry}
use Rattle.std.specs.Prelude.{nat_le, nat_lt, take, drop}
use Rattle.std.specs.Str.{bytes_eq}
use Rattle.reflector_core.specs.PlainSession.{PlainSession}
use Rattle.reflector_core.specs.Answer.{SessionOutcome, answer, stamp, is_ahead, is_closed, is_older, is_stale, repeats, append_entry, joins, stamps, reply_length, log_full, base_time_or_zero}
use Rattle.tea_base.specs.Readings.{event_payload}
use Rattle.reflector_core.specs.declared.request.Request.{Request}
use Rattle.reflector_core.specs.declared.request.Request.TheVariants.{Join, Send, Tick, Leave, Offer, Pull}
use Rattle.reflector_core.specs.declared.request.Reply.{Reply}
use Rattle.reflector_core.specs.declared.request.Reply.TheVariants.{Again, Batch, Kept, Left, Refused}
use Rattle.reflector_core.specs.declared.request.Refusal.TheVariants.{Stale, TooLong, Differs, Gap, TimeEnd, ViewsFull, BadView, Ahead, Older, NoSuchSeq}
use Rattle.wire_frames.specs.declared.start.Want.{Want}
use Rattle.reflector_core.specs.declared.keeper.CallFault.TheVariants as fault
use Rattle.session_lock.specs.declared.knowledge.Item.{Item}
use Rattle.session_lock.specs.declared.knowledge.Item.TheVariants.{Did, Void, Unkept}
use Rattle.session_lock.specs.History.{after_item, play_from}
use Rattle.system_plain.specs.Turn.{ends_connection}
use Rattle.connection.specs.Exchanges.{Exchange, Answered, Unanswered, exchange_in, exchanges_from}
use Rattle.reflect_server.specs.Views.{opens_view, closes_view, holds_in, holds_on, opens_with}

-- ---- tests

if_is : (P : SessionOutcome → Type 0) (test : Bool) {a b : SessionOutcome} → (test ≡ true → P a) → (test ≡ false → P b) → P (if test then a else b)
if_is P true first second = first refl
if_is P false first second = second refl

and_never : (b : Bool) → (b && false) ≡ false
and_never true = refl
and_never false = refl

bool_cases : (b : Bool) → (b ≡ true) ⊎ (b ≡ false)
bool_cases true = inl refl
bool_cases false = inr refl

-- ---- what one request does to a view

-- the view was here, and is so by the same Join, which the exchange does not give up; or the exchange is its Join
abbrev Stands : PlainSession → Request → ℕ → SessionOutcome → Type 0
Stands s request v o =
    is_here o.session.log v ≡ true
    → ((is_here s.log v ≡ true) × (current o.session.log v ≡ current s.log v) × (closes_view v (current s.log v) (Answered request o.reply) ≡ false))
    ⊎ (opens_view v (current o.session.log v) (Answered request o.reply) ≡ true)

module _ (log : List Entry) (entry : Entry) (v : ℕ) where
  pushed_other : is_presence_of v entry ≡ false → last_entry (presence (log ++ entry ∷ []) v) ≡ last_entry (presence log v)
  pushed_other is = last_presence-push log entry v ∙ ap (λ (b : Bool). cond b (Some entry) (last_entry (presence log v))) is

  pushed_own : is_presence_of v entry ≡ true → last_entry (presence (log ++ entry ∷ []) v) ≡ Some entry
  pushed_own is = last_presence-push log entry v ∙ ap (λ (b : Bool). cond b (Some entry) (last_entry (presence log v))) is

-- who is stale does not hold the view
holder_is_not_stale : (log : List Entry) (v : ℕ) → is_here log v ≡ true → is_stale log v (current log v) ≡ false
holder_is_not_stale log v here =
    ap (λ (b : Bool). not b || not (is_here log v)) (eq-eqb (current log v) (current log v) refl) ∙ ap not here

first_of_both : (a b : Bool) → (a && b) ≡ true → a ≡ true
first_of_both true b is = refl
first_of_both false b is = is

second_of_both : (a b : Bool) → (a && b) ≡ true → b ≡ true
second_of_both true b is = is
second_of_both false b is = absurd (cc (is))

not_true : (b : Bool) → (b ≡ true → ⊥) → b ≡ false
not_true true never = absurd (never refl)
not_true false never = refl

stale_other : (log : List Entry) (view joined v : ℕ) → is_here log v ≡ true → is_stale log view joined ≡ true → ((view == v) && (joined == current log v)) ≡ false
stale_other log view joined v here stale =
    not_true ((view == v) && (joined == current log v)) (λ both.
    let views : view ≡ v = eqb-true view v (first_of_both (view == v) (joined == current log v) both) in
    let seqs : joined ≡ current log v = eqb-true joined (current log v) (second_of_both (view == v) (joined == current log v) both) in
    let holder : is_stale log view joined ≡ false =
    ap (λ (n : ℕ). is_stale log n joined) views ∙ (ap (is_stale log v) seqs ∙ holder_is_not_stale log v here) in
    cc (stale, holder))

-- ---- the requests

module _ (s : PlainSession) (v : ℕ) where
  -- the log is the same, and the exchange gives up nothing
  same_kept : (request : Request) (reply : Reply) → (is_here s.log v ≡ true → closes_view v (current s.log v) (Answered request reply) ≡ false)
      → Stands s request v (record { session = s; reply = reply })
  same_kept request reply stays here = inl (here, refl, stays here)

  other_kept : (request : Request) (o : SessionOutcome) → last_entry (presence o.session.log v) ≡ last_entry (presence s.log v)
      → (is_here s.log v ≡ true → closes_view v (current s.log v) (Answered request o.reply) ≡ false) → Stands s request v o
  other_kept request o same stays here =
      let was : is_here s.log v ≡ true = ap is_some_join (sym same) ∙ here in
      inl (was, ap seq_or_zero same, stays was)

  join_stands : (view now : ℕ) (want : Want) → Stands s (Join view now want) v (answer s (Join view now want))
  join_stands view now want =
      if_is (Stands s (Join view now want) v) (view == 0) (λ _. same_kept (Join view now want) (Refused BadView) (λ _. refl)) (λ _.
      if_is (Stands s (Join view now want) v) (is_ahead s.horizon want) (λ _. same_kept (Join view now want) (Refused (Ahead s.horizon)) (λ _. refl)) (λ _.
      if_is (Stands s (Join view now want) v) (not (is_here s.log view) && nat_le most_here (here_count s.log)) (λ _. same_kept (Join view now want) (Refused (ViewsFull (here_count s.log))) (λ _. refl)) (λ _.
      if_is (Stands s (Join view now want) v) (is_closed s.log) (λ _. same_kept (Join view now want) (Refused (log_full s.log)) (λ _. refl)) (λ _.
      if_is (Stands s (Join view now want) v) (nat_le end_of_time s.horizon) (λ _. same_kept (Join view now want) (Refused (TimeEnd s.horizon)) (λ _. refl)) (λ _.
      joins_stands (bool_cases (view == v)))))))
    where
      joins_stands : ((view == v) ≡ true) ⊎ ((view == v) ≡ false) → Stands s (Join view now want) v (joins s view now want)
      joins_stands (inl own) here =
          let last : last_entry (presence (s.log ++ next_entry s.log (stamp s.horizon now) view what.Join ∷ []) v) ≡ Some (next_entry s.log (stamp s.horizon now) view what.Join) =
          pushed_own s.log (next_entry s.log (stamp s.horizon now) view what.Join) v (ap (λ (b : Bool). b && true) own) in
          inr (both_true own (eq-eqb (length s.log + 1) _ (sym (ap seq_or_zero last))))
      joins_stands (inr other) here =
          other_kept (Join view now want) (joins s view now want)
          (pushed_other s.log (next_entry s.log (stamp s.horizon now) view what.Join) v (ap (λ (b : Bool). b && true) other)) (λ _. refl) here

  leave_stands : (view joined now : ℕ) → Stands s (Leave view joined now) v (answer s (Leave view joined now))
  leave_stands view joined now =
      if_is (Stands s (Leave view joined now) v) (is_stale s.log view joined)
      (λ stale. same_kept (Leave view joined now) (Refused (Stale (current s.log view))) (λ here. stale_other s.log view joined v here stale)) (λ _. leaves_stands (bool_cases (view == v)))
    where
      leaves_stands : ((view == v) ≡ true) ⊎ ((view == v) ≡ false)
          → Stands s (Leave view joined now) v (record { session = append_entry s (stamp s.horizon now) view what.Exit; reply = Left (length s.log + 1) (stamp s.horizon now) })
      leaves_stands (inl own) here =
          let last : last_entry (presence (s.log ++ next_entry s.log (stamp s.horizon now) view what.Exit ∷ []) v) ≡ Some (next_entry s.log (stamp s.horizon now) view what.Exit) =
          pushed_own s.log (next_entry s.log (stamp s.horizon now) view what.Exit) v (ap (λ (b : Bool). b && true) own) in
          absurd (cc (sym here ∙ ap is_some_join last))
      leaves_stands (inr other) here =
          other_kept (Leave view joined now) (record { session = append_entry s (stamp s.horizon now) view what.Exit; reply = Left (length s.log + 1) (stamp s.horizon now) }) (pushed_other s.log (next_entry s.log (stamp s.horizon now) view what.Exit) v (ap (λ (b : Bool). b && true) other))
          (λ _. ap (λ (b : Bool). b && (joined == current s.log v)) other) here

  repeats_end : (payload : List ℕ) (at : Option Entry) (next : ℕ) → ends_connection (repeats s payload at (Refused (Gap next))) ≡ false
  repeats_end payload None next = refl
  repeats_end payload (Some entry) next = by (bytes_eq (event_payload entry.what) payload)
    where
      by : (b : Bool) → ends_connection (if b then Again entry.seq entry.time else Refused (Differs entry.seq)) ≡ false
      by true = refl
      by false = refl

  -- a Send that is not stale gives up nothing
  sent_kept : (view joined number now : ℕ) (payload : List ℕ) (reply : Reply) → ends_connection reply ≡ false
      → Stands s (Send view joined number payload now) v (record { session = s; reply = reply })
  sent_kept view joined number now payload reply stays =
      same_kept (Send view joined number payload now) reply
      (λ _. ap (λ (b : Bool). ((view == v) && (joined == current s.log v)) && b) stays ∙ and_never ((view == v) && (joined == current s.log v)))

  offered_kept : (view joined time : ℕ) (bytes : List ℕ) (reply : Reply) → ends_connection reply ≡ false
      → Stands s (Offer view joined time bytes) v (record { session = s; reply = reply })
  offered_kept view joined time bytes reply stays =
      same_kept (Offer view joined time bytes) reply
      (λ _. ap (λ (b : Bool). ((view == v) && (joined == current s.log v)) && b) stays ∙ and_never ((view == v) && (joined == current s.log v)))

  send_stands : (view joined number : ℕ) (payload : List ℕ) (now : ℕ) → Stands s (Send view joined number payload now) v (answer s (Send view joined number payload now))
  send_stands view joined number payload now =
      let next = last_number s.log view + 1 in
      let P : SessionOutcome → Type 0 = Stands s (Send view joined number payload now) v in
      if_is P (is_stale s.log view joined)
      (λ stale. same_kept (Send view joined number payload now) (Refused (Stale (current s.log view))) (λ here. ap (λ (b : Bool). b && true) (stale_other s.log view joined v here stale))) (λ _.
      if_is P (nat_lt most_payload (length payload)) (λ _. sent_kept view joined number now payload (Refused (TooLong (reply_length (length payload)))) refl) (λ _.
      if_is P (number == 0) (λ _. sent_kept view joined number now payload (Refused (Gap next)) refl) (λ _.
      if_is P (nat_lt number next) (λ _. sent_kept view joined number now payload (repeats s payload (view_event s.log view number) (Refused (Gap next))) (repeats_end payload (view_event s.log view number) next)) (λ _.
      if_is P (nat_lt next number) (λ _. sent_kept view joined number now payload (Refused (Gap next)) refl) (λ _.
      if_is P (is_closed s.log || nat_lt most_bytes (payload_bytes s.log + length payload)) (λ _. sent_kept view joined number now payload (Refused (log_full s.log)) refl) (λ _.
      if_is P (nat_le end_of_time s.horizon) (λ _. sent_kept view joined number now payload (Refused (TimeEnd s.horizon)) refl) (λ _.
      other_kept (Send view joined number payload now) (stamps s view number payload now)
      (pushed_other s.log (next_entry s.log (stamp s.horizon now) view (what.Event number payload)) v (and_never (view == v)))
      (λ _. and_never ((view == v) && (joined == current s.log v))))))))))

  offer_stands : (view joined time : ℕ) (bytes : List ℕ) → Stands s (Offer view joined time bytes) v (answer s (Offer view joined time bytes))
  offer_stands view joined time bytes =
      let P : SessionOutcome → Type 0 = Stands s (Offer view joined time bytes) v in
      if_is P (is_stale s.log view joined)
      (λ stale. same_kept (Offer view joined time bytes) (Refused (Stale (current s.log view))) (λ here. ap (λ (b : Bool). b && true) (stale_other s.log view joined v here stale))) (λ _.
      if_is P (nat_lt most_snapshot (length bytes)) (λ _. offered_kept view joined time bytes (Refused (TooLong (reply_length (length bytes)))) refl) (λ _.
      if_is P (nat_lt s.horizon time) (λ _. offered_kept view joined time bytes (Refused (Ahead s.horizon)) refl) (λ _.
      if_is P (is_older time s.kept) (λ _. offered_kept view joined time bytes (Refused (Older (base_time_or_zero s.kept))) refl) (λ _.
      other_kept (Offer view joined time bytes) (record { session = record { log = s.log; horizon = s.horizon; kept = Some (record { time = time; bytes = bytes }) }; reply = Kept }) refl (λ _. and_never ((view == v) && (joined == current s.log v)))))))

  request_stands : (request : Request) → Stands s request v (answer s request)
  request_stands (Join view now want) = join_stands view now want
  request_stands (Send view joined number payload now) = send_stands view joined number payload now
  request_stands (Tick now) = λ here. inl (here, refl, refl)
  request_stands (Leave view joined now) = leave_stands view joined now
  request_stands (Offer view joined time bytes) = offer_stands view joined time bytes
  request_stands (Pull after limit) =
      if_is (Stands s (Pull after limit) v) (nat_lt (length s.log) after) (λ _. same_kept (Pull after limit) (Refused (NoSuchSeq (length s.log))) (λ _. refl))
      (λ _. same_kept (Pull after limit) (Batch (take limit (drop after s.log)) (if nat_le (length s.log) (after + limit) then Some s.horizon else None)) (λ _. refl))

-- ---- histories

pub holds_behind : (view joined : ℕ) (held : Bool) (xs ys : List Exchange) → holds_on view joined held (xs ++ ys) ≡ holds_on view joined (holds_on view joined held xs) ys
holds_behind view joined held [] ys = refl
holds_behind view joined held (x ∷ xs) ys = holds_behind view joined (opens_view view joined x || (held && not (closes_view view joined x))) xs ys

or_true : (b : Bool) → (b || true) ≡ true
or_true true = refl
or_true false = refl

-- an exchange that does not give the view up
holds_still : (view joined : ℕ) (first : Bool) (asked : List Exchange) (own : Bool) (exchange : Exchange) → holds_on view joined first asked ≡ true → closes_view view joined exchange ≡ false
    → holds_on view joined first (asked ++ (if own then exchange ∷ [] else [])) ≡ true
holds_still view joined first asked true exchange held stays =
    holds_behind view joined first asked (exchange ∷ [])
    ∙ (ap (λ (b : Bool). opens_view view joined exchange || (b && not (closes_view view joined exchange))) held
    ∙ (ap (λ (b : Bool). opens_view view joined exchange || not b) stays ∙ or_true (opens_view view joined exchange)))
holds_still view joined first asked false exchange held stays = ap (holds_on view joined first) (append-nil asked) ∙ held

-- an exchange that joins it
holds_now : (view joined : ℕ) (first : Bool) (asked : List Exchange) (exchange : Exchange) → opens_view view joined exchange ≡ true → holds_on view joined first (asked ++ exchange ∷ []) ≡ true
holds_now view joined first asked exchange joins =
    holds_behind view joined first asked (exchange ∷ [])
    ∙ ap (λ (b : Bool). b || (holds_on view joined first asked && not (closes_view view joined exchange))) joins

-- who holds a view by a Join before any exchange
abbrev Holding : Type 0
Holding = ℕ → ℕ → ℕ → Bool

-- each view that is here is held by someone, who held it at first or by an exchange
abbrev AreHeld : Holding → PlainSession → (ℕ → List Exchange) → Type 0
AreHeld first s asked = (v : ℕ) → is_here s.log v ≡ true → (c : ℕ) × (holds_on v (current s.log v) (first c v (current s.log v)) (asked c) ≡ true)

item_held : (first : Holding) (s : PlainSession) (asked : ℕ → List Exchange) (x : Item) → AreHeld first s asked → AreHeld first (after_item s x) (λ c. asked c ++ exchange_in s c x)
item_held first s asked (Void who) held v here =
    let before = held v here in (before.0, holds_still v (current s.log v) (first before.0 v (current s.log v)) (asked before.0) (eqb who before.0) (Unanswered fault.WantOfMemory) before.1 refl)
item_held first s asked (Unkept who) held v here =
    let before = held v here in (before.0, holds_still v (current s.log v) (first before.0 v (current s.log v)) (asked before.0) (eqb who before.0) (Unanswered fault.Unkept) before.1 refl)
item_held first s asked (Did who request) held v here = by (request_stands s v request here)
  where
    by : ((is_here s.log v ≡ true) × (current (answer s request).session.log v ≡ current s.log v) × (closes_view v (current s.log v) (Answered request (answer s request).reply) ≡ false))
        ⊎ (opens_view v (current (answer s request).session.log v) (Answered request (answer s request).reply) ≡ true)
        → (c : ℕ) × (holds_on v (current (answer s request).session.log v) (first c v (current (answer s request).session.log v)) (asked c ++ exchange_in s c (Did who request)) ≡ true)
    by (inl kept) =
        let before = held v kept.0 in (
          before.0,
          subst (λ (n : ℕ). holds_on v n (first before.0 v n) (asked before.0 ++ exchange_in s before.0 (Did who request)) ≡ true) (sym kept.1)
              (holds_still v (current s.log v) (first before.0 v (current s.log v)) (asked before.0) (eqb who before.0) (Answered request (answer s request).reply) before.1 kept.2),
        )
    by (inr joins) = (
      who,
      ap (λ (b : Bool). holds_on v (current (answer s request).session.log v) (first who v (current (answer s request).session.log v)) (asked who ++ (if b then Answered request (answer s request).reply ∷ [] else []))) (eq-eqb who who refl)
          ∙ holds_now v (current (answer s request).session.log v) (first who v (current (answer s request).session.log v)) (asked who) (Answered request (answer s request).reply) joins,
    )

items_held : (first : Holding) (s : PlainSession) (asked : ℕ → List Exchange) (items : List Item) → AreHeld first s asked → AreHeld first (play_from s items) (λ c. asked c ++ exchanges_from s c items)
items_held first s asked [] held v here =
    let before = held v here in (before.0, ap (holds_on v (current s.log v) (first before.0 v (current s.log v))) (append-nil (asked before.0)) ∙ before.1)
items_held first s asked (x ∷ xs) held v here =
    let last = items_held first (after_item s x) (λ c. asked c ++ exchange_in s c x) xs (item_held first s asked x held) v here in (
      last.0,
      ap (holds_on v (current (play_from (after_item s x) xs).log v) (first last.0 v (current (play_from (after_item s x) xs).log v))) (sym (append_assoc (asked last.0) (exchange_in s last.0 x) (exchanges_from (after_item s x) last.0 xs))) ∙ last.1,
    )

-- those of the opening session are the opener's at first
pub held_by_someone : (opening : PlainSession) (opener : ℕ) (history : List Item) (v : ℕ) → is_here (play_from opening history).log v ≡ true
    → (c : ℕ) × (holds_in opening opener history c v (current (play_from opening history).log v) ≡ true)
held_by_someone opening opener history v here =
    items_held (opens_with opening opener) opening (λ c. []) history
    (λ w was. (opener, both_true (eq-eqb opener opener refl) (both_true was (eq-eqb (current opening.log w) (current opening.log w) refl)))) v here
