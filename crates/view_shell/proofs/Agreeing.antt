-- Replicas that follow one log have one world directly after an entry.
use Rattle.std.proofs.Common.{ℕ, ◌+◌, ◌≡◌, ◌≤◌, ◌<◌, ◌==◌, Bool, true, false, if◌then◌else◌, List, [], ◌∷◌, ◌++◌, Option, Some, None, zero, suc, slice_get, take, ap, sym, ◌∙◌, nat_le, refl, arith, cond}
use Rattle.std.proofs.lemmas.Bool.Decides.{nat_tests}
use Rattle.sha2.specs.Sha256.{sha256}
use Rattle.tea_base.specs.declared.entry.Entry.{Entry}
use Rattle.tea_base.specs.Legal.{IsLegal, IsLegalAfter, TimesRiseAfter}
use Rattle.tea_base.specs.Limits.{time_limit}
use Rattle.tea_base.specs.Readings.{count_until}
use Rattle.tea_base.proofs.LogLaws.{TimesRise-legal}
use Rattle.wire_frames.proofs.Times.{none_until, count_until-cons, later_than_counted}
use Rattle.wire_frames.specs.declared.frame.ServerFrame.TheVariants.{Recv}
use Rattle.world_plain.specs.Messages.{PlainOutgoing}
use Rattle.world_plain.specs.World.{WorldRecord}
use Rattle.snapshot_codec.specs.Spelling.{world_spelling}
use Rattle.replica_plain.specs.declared.fault.ReplicaFault.{ReplicaFault}
use Rattle.replica_plain.specs.Worlds.{Worlds, AreWorlds, entries_until, externals}
use Rattle.replica_plain.specs.PlainReplica.{PlainReplica}
use Rattle.replica_plain.specs.Taking.{Taken, faults, take_entry, taken}
use Rattle.view_shell.specs.Phases.{Viewer, ToSee, after_entry, phase_behind_frame, reads, with_taken}
use Rattle.view_shell.specs.Agreeing.{TakesNext, listens_on, votes_with, world_after, world_behind}

-- ---- the entries until a time

front_if : (early : Bool) (t : ℕ) (first : Entry) (rest : List Entry) → nat_le first.time t ≡ early → TimesRiseAfter first.time rest → entries_until t rest ≡ take (count_until rest t) rest
    → cond early (first ∷ entries_until t rest) (entries_until t rest) ≡ take (cond early 1 0 + count_until rest t) (first ∷ rest)
front_if true t first rest early rise front =
    let next : 1 + count_until rest t ≡ suc (count_until rest t) = omega arith in
    rw next (ap (λ entries. first ∷ entries) front)
front_if false t first rest early rise front =
    let none = none_until first.time t rest rise (grind (arith, nat_tests)) in
    rw (front, none) refl

-- they are the first of the log
front : (low t : ℕ) (log : List Entry) → TimesRiseAfter low log → entries_until t log ≡ take (count_until log t) log
front low t [] rise = refl
front low t (first ∷ rest) rise = rw (count_until-cons first rest t) (front_if (nat_le first.time t) t first rest refl rise.1 (front first.time t rest rise.1))

one_more : {A : Type 0} (xs : List A) (k : ℕ) (x : A) → slice_get xs k ≡ Some x → take (k + 1) xs ≡ take k xs ++ x ∷ []
one_more [] k x at = absurd cc
one_more (y ∷ ys) zero x at = cc
one_more (y ∷ ys) (suc k) x at =
    let next : suc k + 1 ≡ suc (k + 1) = omega arith in
    rw next (ap (λ zs. y ∷ zs) (one_more ys k x at))

module _ (m : Worlds WorldRecord PlainOutgoing) (laws : AreWorlds m) where
  -- ---- the world after the entries until a time

  externals-more : (w : WorldRecord) (entries : List Entry) (entry : Entry) → externals m w (entries ++ entry ∷ []) ≡ m.external (externals m w entries) entry
  externals-more w [] entry = refl
  externals-more w (first ∷ rest) entry = externals-more (m.external w first) rest entry

  record IsBy (t : ℕ) (w : WorldRecord) : Type 0 where
    valid : m.valid w ≡ true
    within : m.time w ≤ t

  past_if : (early : Bool) (w : WorldRecord) (t : ℕ) (first : Entry) (rest : List Entry) → nat_le first.time t ≡ early → TimesRiseAfter first.time rest → IsBy t w → m.time w < first.time → first.time < time_limit
      → (m.time (m.external w first) ≡ first.time → IsBy t (m.external w first) → IsBy t (externals m (m.external w first) (entries_until t rest)))
      → IsBy t (externals m w (cond early (first ∷ entries_until t rest) (entries_until t rest)))
  past_if true w t first rest early rise is later bound more =
      let timed = laws.external_time w first is.valid (omega arith) in
      more timed (record { valid = laws.external_valid w first is.valid later bound; within = grind (arith, nat_tests, timed) })
  past_if false w t first rest early rise is later bound more = rw (front first.time t rest rise, none_until first.time t rest rise (grind (arith, nat_tests))) is

  past : (w : WorldRecord) (low t : ℕ) (before log : List Entry) → IsLegalAfter before log → TimesRiseAfter low log → m.time w ≤ low → IsBy t w → IsBy t (externals m w (entries_until t log))
  past w low t before [] legal rise at is = is
  past w low t before (first ∷ rest) legal rise at is =
      past_if (nat_le first.time t) w t first rest refl rise.1 is (omega (arith, rise.0)) legal.0.time_bound
      (λ now came. past (m.external w first) first.time t (before ++ first ∷ []) rest legal.1 rise.1 (omega (arith, now)) came)

  -- ---- the next entry is taken

  never : (r : PlainReplica WorldRecord PlainOutgoing) (fault : ReplicaFault) (to : WorldRecord) → (faults {W = WorldRecord} {O = PlainOutgoing} r fault).fault ≡ None → (faults {W = WorldRecord} {O = PlainOutgoing} r fault).replica.world ≡ to
  never r fault to is = absurd cc

  either : (b : Bool) (p q : Taken WorldRecord PlainOutgoing) (to : WorldRecord) → (p.fault ≡ None → p.replica.world ≡ to) → (q.fault ≡ None → q.replica.world ≡ to)
      → (if b then p else q).fault ≡ None → (if b then p else q).replica.world ≡ to
  either true p q to first second = first
  either false p q to first second = second

  taken_world : (r : PlainReplica WorldRecord PlainOutgoing) (entry : Entry) → (taken m r (Recv entry)).fault ≡ None → world_behind m r entry ≡ m.external r.world entry
  taken_world r entry =
      let to = m.external r.world entry in
      either r.synced (take_entry m r entry) _ to
      (either r.broken _ _ to (never r _ to) (either (entry.seq == r.seen + 1) _ _ to (either (nat_le entry.time (m.time r.world)) _ _ to (never r _ to) (λ is. refl)) (never r _ to)))
      (never r _ to)

  pub world_of_log : (log : List Entry) (r : PlainReplica WorldRecord PlainOutgoing) (entry : Entry) → IsLegal log → TakesNext m log r entry → world_behind m r entry ≡ world_after m log (r.seen + 1)
  world_of_log log r entry legal takes =
      let rise = TimesRise-legal log legal in
      let t = m.time r.world in
      let follows = takes.follows in
      let entries : entries_until t log ≡ take r.seen log = front 0 t log rise ∙ ap (λ (k : ℕ). take k log) (sym follows.counted) in
      let old = externals m m.first (entries_until t log) in
      let is : IsBy t old = past m.first 0 t [] log legal rise (omega (arith, laws.first_time)) (record { valid = laws.first_valid; within = omega (arith, laws.first_time) }) in
      let bound = laws.valid_time r.world follows.valid in
      let counted = follows.counted in
      let later : t < entry.time = later_than_counted 0 t log r.seen entry rise takes.next (omega (arith, counted)) in
      let own = laws.external_after r.world t entry follows.valid (omega arith) (omega (arith, later)) bound in
      let along = ap (λ (v : WorldRecord). m.external v entry) follows.follows in
      let other = laws.external_after old t entry is.valid is.within (omega (arith, later)) bound in
      taken_world r entry takes.taken ∙ sym own ∙ along ∙ other ∙ ap (λ (es : List Entry). m.external (externals m m.first es) entry) entries
      ∙ sym (externals-more m.first (take r.seen log) entry) ∙ ap (λ (es : List Entry). externals m m.first es) (sym (one_more log r.seen entry takes.next))

  -- ---- two replicas

  seen_either : (b : Bool) (p q : Taken WorldRecord PlainOutgoing) (to : ℕ) → (p.fault ≡ None → p.replica.seen ≡ to) → (q.fault ≡ None → q.replica.seen ≡ to)
      → (if b then p else q).fault ≡ None → (if b then p else q).replica.seen ≡ to
  seen_either true p q to first second = first
  seen_either false p q to first second = second

  numbered : (b : Bool) (p q : Taken WorldRecord PlainOutgoing) (is : Type 0) → (p.fault ≡ None → is) → (q.fault ≡ None → is) → (if b then p else q).fault ≡ None → is
  numbered true p q is first second = first
  numbered false p q is first second = second

  seq_if : (r : PlainReplica WorldRecord PlainOutgoing) (entry : Entry) (b : Bool) (p : Taken WorldRecord PlainOutgoing) (fault : ReplicaFault) → (entry.seq == r.seen + 1) ≡ b
      → (if b then p else faults {W = WorldRecord} {O = PlainOutgoing} r fault).fault ≡ None → entry.seq ≡ r.seen + 1
  seq_if r entry true p fault test is = grind (arith, nat_tests, test)
  seq_if r entry false p fault test is = absurd cc

  seq_taken : (r : PlainReplica WorldRecord PlainOutgoing) (entry : Entry) → (taken m r (Recv entry)).fault ≡ None → entry.seq ≡ r.seen + 1
  seq_taken r entry =
      numbered r.synced (take_entry m r entry) _ (entry.seq ≡ r.seen + 1)
      (numbered r.broken _ _ (entry.seq ≡ r.seen + 1) (λ is. absurd cc) (seq_if r entry (entry.seq == r.seen + 1) _ _ refl)) (λ is. absurd cc)

  pub digests_agree : (log : List Entry) (r other : PlainReplica WorldRecord PlainOutgoing) (entry : Entry) → IsLegal log → TakesNext m log r entry → TakesNext m log other entry
      → sha256 (world_spelling (world_behind m r entry)) ≡ sha256 (world_spelling (world_behind m other entry))
  digests_agree log r other entry legal takes also =
      let one = seq_taken r entry takes.taken in
      let two = seq_taken other entry also.taken in
      let same : r.seen + 1 ≡ other.seen + 1 = omega (arith, one, two) in
      ap (λ (w : WorldRecord). sha256 (world_spelling w)) (world_of_log log r entry legal takes ∙ ap (world_after m log) same ∙ sym (world_of_log log other entry legal also))

  -- ---- the vote of a view

  seen_taken : (r : PlainReplica WorldRecord PlainOutgoing) (entry : Entry) → (taken m r (Recv entry)).fault ≡ None → (taken m r (Recv entry)).replica.seen ≡ r.seen + 1
  seen_taken r entry =
      let to = r.seen + 1 in
      seen_either r.synced (take_entry m r entry) _ to
      (seen_either r.broken _ _ to (λ is. absurd cc) (seen_either (entry.seq == r.seen + 1) _ _ to (seen_either (nat_le entry.time (m.time r.world)) _ _ to (λ is. absurd cc) (λ is. refl)) (λ is. absurd cc)))
      (λ is. absurd cc)

  vote_if : (b : Bool) (v : Viewer) (at : ℕ) (w : WorldRecord) → (b ≡ true → v.replica.world ≡ w) → after_entry b v at ≡ (if b then votes_with v at w else listens_on v at)
  vote_if true v at w is = ap (λ (world : WorldRecord). votes_with v at world) (is refl)
  vote_if false v at w is = refl

  pub votes_next : (log : List Entry) (v next : Viewer) (entry : Entry) (at : ℕ) → IsLegal log → TakesNext m log v.replica entry → v.replica.seen < at
      → next.replica ≡ (taken m v.replica (Recv entry)).replica
      → after_entry (nat_le at next.replica.seen) next at ≡ (if nat_le at (v.replica.seen + 1) then votes_with next at (world_after m log at) else listens_on next at)
  votes_next log v next entry at legal takes below same =
      let seen : next.replica.seen ≡ v.replica.seen + 1 = ap (λ (r : PlainReplica WorldRecord PlainOutgoing). r.seen) same ∙ seen_taken v.replica entry takes.taken in
      let world : next.replica.world ≡ world_behind m v.replica entry = ap (λ (r : PlainReplica WorldRecord PlainOutgoing). r.world) same in
      ap (λ (count : ℕ). after_entry (nat_le at count) next at) seen
      ∙ vote_if (nat_le at (v.replica.seen + 1)) next at (world_after m log at)
      (λ early. let last : v.replica.seen + 1 ≡ at = grind (arith, nat_tests, early, below) in world ∙ world_of_log log v.replica entry legal takes ∙ ap (world_after m log) last)

-- a frame that was taken without a fault
taken_well : (next : Viewer) (at : ℕ) (entry : Entry) (fault : Option ReplicaFault) → fault ≡ None
    → phase_behind_frame next (ToSee at) (Recv entry) fault ≡ after_entry (nat_le at next.replica.seen) next at
taken_well next at entry None is = refl
taken_well next at entry (Some fault) is = absurd cc

pub votes_with_log : (log : List Entry) (v : Viewer) → AreWorlds v.worlds → (entry : Entry) (at : ℕ) → IsLegal log → TakesNext v.worlds log v.replica entry → v.replica.seen < at
    → reads v (ToSee at) (Some (Recv entry))
    ≡ (let next = with_taken v (taken v.worlds v.replica (Recv entry)) in if nat_le at (v.replica.seen + 1) then votes_with next at (world_after v.worlds log at) else listens_on next at)
votes_with_log log v laws entry at legal takes below =
    let t = taken v.worlds v.replica (Recv entry) in
    let next = with_taken v t in
    taken_well next at entry t.fault takes.taken ∙ votes_next v.worlds laws log v next entry at legal takes below refl
