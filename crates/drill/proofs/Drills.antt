-- What is left of a drill.
use Rattle.std.proofs.Common.{◌≡◌, ◌⊎◌, inl, inr, ⊎_elim, ℕ, ◌+◌, ◌<◌, ◌≤◌, min, List, [], ◌∷◌, ◌++◌, length, length-append, All, refl, sym, subst, arith}
use Rattle.std.specs.List.{AllByRecursion}
use Rattle.std.proofs.lemmas.Bool.{cases_lt}
use Rattle.std.proofs.lemmas.List.Elements.{All-nil, All-push}
use Rattle.tea_base.specs.declared.entry.Entry.{Entry}
use Rattle.tea_base.specs.declared.entry.What.{What}
use Rattle.tea_base.specs.declared.entry.What.TheVariants as what
use Rattle.tea_base.specs.Limits.{end_of_time}
use Rattle.session_log.specs.LogState.{next_entry}
use Rattle.reflector_core.specs.PlainSession.{IsSoundSession, PlainSession}
use Rattle.reflector_core.specs.Answer.{answer, append_entry, join, leave, pull, stamp}
use Rattle.reflector_core.specs.Play.{first_session}
use Rattle.reflector_core.specs.declared.request.Request.{Request}
use Rattle.reflector_core.specs.declared.request.Request.TheVariants.{Join, Send, Tick, Leave, Offer, Pull}
use Rattle.reflector_core.proofs.SoundLaws.{send_along, offer_along}
use Rattle.wire_frames.specs.declared.start.Want.{Want}
use Rattle.session_lock.specs.declared.knowledge.Item.{Item}
use Rattle.session_lock.specs.declared.knowledge.Item.TheVariants.{Did, Void, Unkept}
use Rattle.session_lock.specs.History.{after_item, play_from}
use Rattle.session_lock.proofs.Histories.{sound_end}
use Rattle.drill.specs.declared.size.Size.{Size}
use Rattle.drill.specs.Drilled.{Drilled, IsCutShort, IsOfDrill, done_by, own}
use Rattle.drill.specs.Asking.{IsAskedBy, IsAskedInDrill}
use Rattle.drill.specs.Doing.{HasFinished}
use Rattle.drill.specs.Drill.{HasDrillEntries, PlaysDrill}

-- what is so of the session as it was, and of the one with one more entry, is so after a Join, a Leave and a Pull
join_along : (P : PlainSession → Type 0) (s : PlainSession) (view now : ℕ) (want : Want) → P s → P (append_entry s (stamp s.horizon now) view what.Join) → P (join s view now want).session
join_along P s view now want same more = grind arith

leave_along : (P : PlainSession → Type 0) (s : PlainSession) (view joined now : ℕ) → P s → P (append_entry s (stamp s.horizon now) view what.Exit) → P (leave s view joined now).session
leave_along P s view joined now same more = grind arith

pull_along : (P : PlainSession → Type 0) (s : PlainSession) (after limit : ℕ) → P s → P (pull s after limit).session
pull_along P s after limit same = grind arith

first_within : (gives : ℕ → Type 0) (views : ℕ) → HasDrillEntries gives views first_session
first_within gives views = record { named = All-nil (λ (entry : Entry). IsOfDrill views entry.view); given = 0; is_given = inl refl; bounded = omega arith }

module _ (gives : ℕ → Type 0) (views : ℕ) (s : PlainSession) (within : HasDrillEntries gives views s) where
  -- one more entry of a view of the drill
  appended : (view now : ℕ) (done : What) → IsOfDrill views view → gives now → HasDrillEntries gives views (append_entry s (stamp s.horizon now) view done)
  appended view now done of given_now =
      let entry : Entry = next_entry s.log (stamp s.horizon now) view done in
      let longer : length (s.log ++ entry ∷ []) ≡ length s.log + 1 = omega (arith, length-append s.log (entry ∷ [])) in
      let named : All (λ (e : Entry). IsOfDrill views e.view) (s.log ++ entry ∷ []) = All-push (λ (e : Entry). IsOfDrill views e.view) s.log entry within.named of in
      ⊎_elim
      (λ early. record { named = named; given = within.given; is_given = within.is_given; bounded = omega (arith, longer, within.bounded, early) })
      (λ late. record { named = named; given = now; is_given = inr given_now; bounded = omega (arith, longer, late) })
      (cases_lt (min now end_of_time) (s.horizon + 1))

  ticked : (now : ℕ) → gives now → HasDrillEntries gives views (answer s (Tick now)).session
  ticked now given_now =
      ⊎_elim
      (λ early. record { named = within.named; given = within.given; is_given = within.is_given; bounded = omega (arith, within.bounded, early) })
      (λ late. record { named = within.named; given = now; is_given = inr given_now; bounded = omega (arith, late) })
      (cases_lt (min now end_of_time) s.horizon)

  answered : (view : ℕ) (request : Request) → IsOfDrill views view → IsAskedBy gives view request → HasDrillEntries gives views (answer s request).session
  answered view (Join asker now want) of asked =
      join_along (HasDrillEntries gives views) s asker now want within (appended asker now what.Join (subst (IsOfDrill views) (sym asked.0) of) asked.1)
  answered view (Send asker joined number payload now) of asked =
      send_along (HasDrillEntries gives views) s asker joined number payload now within (λ _ _ _ _ _ _. appended asker now (what.Event number payload) (subst (IsOfDrill views) (sym asked.0) of) asked.1)
  answered view (Tick now) of asked = ticked now asked
  answered view (Leave asker joined now) of asked =
      leave_along (HasDrillEntries gives views) s asker joined now within (appended asker now what.Exit (subst (IsOfDrill views) (sym asked.0) of) asked.1)
  answered view (Offer asker joined time bytes) of asked =
      offer_along (HasDrillEntries gives views) s asker joined time bytes within (λ _ _. record { named = within.named; given = within.given; is_given = within.is_given; bounded = within.bounded })
  answered view (Pull after limit) of asked = pull_along (HasDrillEntries gives views) s after limit within

  item_within : (x : Item) → IsAskedInDrill gives views x → HasDrillEntries gives views (after_item s x)
  item_within (Did caller request) asked = answered caller request (asked.0, asked.1) asked.2
  item_within (Void caller) asked = within
  item_within (Unkept caller) asked = within

play_within : (gives : ℕ → Type 0) (views : ℕ) (s : PlainSession) (history : List Item) → HasDrillEntries gives views s → AllByRecursion (IsAskedInDrill gives views) history → HasDrillEntries gives views (play_from s history)
play_within gives views s [] within asked = within
play_within gives views s (x ∷ xs) within asked = play_within gives views (after_item s x) xs (item_within gives views s within x asked.0) asked.1

-- ---- a session that plays a drill

pub drill_entries : (gives : ℕ → Type 0) (size : Size) (s : PlainSession) → PlaysDrill gives size s → HasDrillEntries gives size.views s
drill_entries gives size s plays =
    subst (HasDrillEntries gives size.views) (sym plays.play) (play_within gives size.views first_session plays.history (first_within gives size.views) plays.asked)

pub drill_is_sound : (gives : ℕ → Type 0) (size : Size) (s : PlainSession) → PlaysDrill gives size s → IsSoundSession s
drill_is_sound gives size s plays = subst IsSoundSession (sym plays.play) (sound_end first_session plays.history plays.sound)

-- ---- what its views have done

-- below the end of time nobody is cut short
done_whole : (s : PlainSession) (view : ℕ) (whole : List What) → s.horizon < end_of_time → HasFinished s view whole → done_by view s.log ≡ whole
done_whole s view whole below (inl done) = done
done_whole s view whole below (inr cut) = absurd (omega (arith, below, cut.0))

done_or_cut : (s : PlainSession) (view : ℕ) (whole : List What) → HasFinished s view whole → (done_by view s.log ≡ whole) ⊎ IsCutShort whole (done_by view s.log)
done_or_cut s view whole (inl done) = inl done
done_or_cut s view whole (inr cut) = inr cut.1

-- where each view has finished, this is left
pub drilled : (seed views events : ℕ) (s : PlainSession) → ((view : ℕ) → IsOfDrill views view → HasFinished s view (own seed view events)) → Drilled seed views events s.log s.horizon
drilled seed views events s finished = record {
  whole = λ below view of. done_whole s view (own seed view events) below (finished view of);
  cut = λ late view of. done_or_cut s view (own seed view events) (finished view of);
}
