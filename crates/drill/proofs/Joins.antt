-- A worker joins, and its replica takes the Sync.
use Rattle.std.proofs.Common.{◌≡◌, ◌≤◌, ◌<◌, ◌⊎◌, inl, inr, IfSome, ℕ, Bool, true, false, cond, eqb, not, nat_le, nat_lt, ◌&&◌, List, [], ◌∷◌, length, length-append, Option, Some, None, refl, sym, ap, ◌∙◌, subst, arith}
use Rattle.std.proofs.lemmas.Bool.Decides.{nat_tests}
use Rattle.std.specs.Arc.{arc_value}
use Rattle.tea_base.specs.declared.entry.Entry.{Entry}
use Rattle.tea_base.specs.declared.entry.What.TheVariants as what
use Rattle.tea_base.specs.Limits.{end_of_time, most_here}
use Rattle.tea_base.proofs.LogLaws.{TimesRise-legal}
use Rattle.wire_frames.proofs.Times.{all_until}
use Rattle.session_log.specs.LogState.{next_entry}
use Rattle.tea_base.specs.Readings.{count_until, here_count, is_here}
use Rattle.wire_frames.specs.declared.start.Base.{Base}
use Rattle.wire_frames.specs.declared.start.Want.{Want}
use Rattle.wire_frames.specs.declared.start.Want.TheVariants as want
use Rattle.wire_frames.specs.declared.frame.ServerFrame.TheVariants.{Sync}
use Rattle.wire_frames.specs.Served.{BeginsFor}
use Rattle.reflector_core.specs.declared.request.Request.TheVariants as request
use Rattle.reflector_core.specs.declared.request.Reply.{Reply}
use Rattle.reflector_core.specs.declared.request.Reply.TheVariants as reply
use Rattle.reflector_core.specs.Answer.{SessionOutcome, answer, from_for, is_ahead, is_closed, join, stamp}
use Rattle.reflector_core.specs.PlainSession.{IsSoundSession, PlainSession}
use Rattle.join_sync.specs.declared.cursor.Cursor.{Cursor}
use Rattle.join_sync.specs.Answers.{first_cursor}
use Rattle.join_sync.specs.Standing as at
use Rattle.join_sync.proofs.Openings.{joined_stands}
use Rattle.model_solved.specs.Founding.{founding_of, IsFounding}
use Rattle.world.specs.Worlds.{replay}
use Rattle.session_lock.specs.Passes.{SharedState}
use Rattle.replica_plain.specs.declared.how.How.{How}
use Rattle.replica_plain.specs.declared.how.How.TheVariants.{Fresh, Whole, Resume}
use Rattle.replica_plain.specs.Worlds.{Worlds, AreWorlds, IsHonest, replay_world}
use Rattle.replica_plain.specs.PlainReplica.{PlainReplica, published_count}
use Rattle.replica_plain.specs.Calls.{join_want, joining}
use Rattle.replica_plain.specs.Taking.{Taken, begins_with, out_of_order, taken}
use Rattle.replica_plain.specs.Following.{IsHonestBase, MayJoin}
use Rattle.replica_plain.proofs.SyncSteps.{SyncBegins, sync_begins}
use Rattle.replica.specs.View.{ReplicaView, with_plain, worlds_of}
use Rattle.system_plain.proofs.FactsGrow.{base_grows, follows_log_grows}
use Rattle.system_plain.proofs.Openings.{based_on, begins_for, begins_later}
use Rattle.system_plain.proofs.Sessions.{Grows, Grows-answer, IsBasedBy, kept_is_based}
use Rattle.drill.specs.declared.trust.TrustReplay.{TrustReplay}
use Rattle.drill.specs.Taking.{IsFine, Miscounts, after_frame}
use Rattle.drill.specs.Trust.{AllowsReplay}
use Rattle.drill.specs.Turns.{MayJoinBy}
use Rattle.drill.specs.Workers.{IsTrustedReplay}
use Rattle.drill.specs.Working.{ReplicaWorks}
use Rattle.drill.proofs.Catching.{count_until-few}

-- ---- what the session replies

-- what a Join that is replied Joined says
pub record JoinsWith (s : PlainSession) (want : Want) (o : SessionOutcome) (seq time last from : ℕ) (base : Option Base) : Type 0 where
  pub begins : BeginsFor s.log want time from base
  pub horizon : o.session.horizon ≡ time
  pub later : s.horizon < time
  pub here : is_ahead s.horizon want ≡ false
  pub based : (base ≡ s.kept) ⊎ (base ≡ None)
  pub few : from < length o.session.log

from_few : (log : List Entry) (want : Want) (kept : Option Base) → from_for log want kept ≤ length log
from_few log want.Fresh None = omega arith
from_few log want.Fresh (Some base) = count_until-few log base.time
from_few log want.Whole kept = omega arith
from_few log (want.After time) kept = count_until-few log time

-- what is so of each reply to a Join
abbrev SaysOfJoin : PlainSession → Want → SessionOutcome → Reply → Type 0
SaysOfJoin s want o (reply.Joined seq time last from base) = JoinsWith s want o seq time last from base
SaysOfJoin s want o other = Unit {0}

says_if : (s : PlainSession) (want : Want) (test : Bool) (a b : SessionOutcome) → SaysOfJoin s want a a.reply → (test ≡ false → SaysOfJoin s want b b.reply) → SaysOfJoin s want (cond test a b) (cond test a b).reply
says_if s want true a b held fell = held
says_if s want false a b held fell = fell refl

says_of_join : (s : PlainSession) (view now : ℕ) (want : Want) → IsSoundSession s → SaysOfJoin s want (join s view now want) (join s view now want).reply
says_of_join s view now want sound =
    says_if s want (eqb view 0) _ _ tt λ named.
    says_if s want (is_ahead s.horizon want) _ _ tt λ here.
    says_if s want (not (is_here s.log view) && nat_le most_here (here_count s.log)) _ _ tt λ room.
    says_if s want (is_closed s.log) _ _ tt λ still_open.
    says_if s want (nat_le end_of_time s.horizon) _ _ tt λ before_end.
    record {
      begins = begins_for s.log s.horizon (stamp s.horizon now) want s.kept (kept_is_based s.horizon s.kept sound.kept) (omega arith) here;
      horizon = refl;
      later = omega arith;
      here = here;
      based = based_on want s.kept;
      few = let long = length-append s.log (next_entry s.log (stamp s.horizon now) view what.Join ∷ []) in let few = from_few s.log want s.kept in omega arith;
    }

pub joins_with : (s : PlainSession) (view now : ℕ) (want : Want) (seq time last from : ℕ) (base : Option Base) → IsSoundSession s → (answer s (request.Join view now want)).reply ≡ reply.Joined seq time last from base
    → JoinsWith s want (answer s (request.Join view now want)) seq time last from base
joins_with s view now want seq time last from base sound is = subst (SaysOfJoin s want (join s view now want)) is (says_of_join s view now want sound)

-- ---- what is kept is honest

module _ (shared : SharedState TrustReplay) (r : ReplicaView) (laws : AreWorlds (worlds_of r)) (program : r.program ≡ arc_value shared.trust.program) (id : r.id ≡ shared.id.0) where
  allows_here : (s : PlainSession) (time : ℕ) (bytes : List ℕ) → AllowsReplay (founding_of (arc_value shared.trust.program)) shared.id.0 s.log s.horizon time bytes → AllowsReplay (founding_of r.program) r.id s.log s.horizon time bytes
  allows_here s time bytes allows = rw (program, id) allows

-- the bytes of a replay are an honest base
honest_replay
    : (r : ReplicaView) (s : PlainSession) (base : Base) → AreWorlds (worlds_of r) → (replay (founding_of r.program) r.id s.log base.time).world ≡ replay_world (worlds_of r) s.log base.time
    → AllowsReplay (founding_of r.program) r.id s.log s.horizon base.time base.bytes → IsHonest (worlds_of r) s.log base.time base.bytes
honest_replay r s base laws same allows =
    let w = (replay (founding_of r.program) r.id s.log base.time).world in
    let stays : (worlds_of r).advance w w.time ≡ w = laws.at_rest_stays w (laws.unsnap_valid base.bytes w allows.replays) allows.rests in
    record {
      world = w;
      spelled = allows.replays;
      timed = allows.timed;
      follows = stays ∙ same ∙ ap (λ (t : ℕ). replay_world (worlds_of r) s.log t) (sym allows.timed);
    }

honest_if
    : (shared : SharedState TrustReplay) (r : ReplicaView) (s : PlainSession) (base : Option Base) → r.program ≡ arc_value shared.trust.program → r.id ≡ shared.id.0 → AreWorlds (worlds_of r)
    → ((t : ℕ) → (replay (founding_of r.program) r.id s.log t).world ≡ replay_world (worlds_of r) s.log t)
    → IfSome base (λ base. AllowsReplay (founding_of (arc_value shared.trust.program)) shared.id.0 s.log s.horizon base.time base.bytes) → IsHonestBase (worlds_of r) s.log base
honest_if shared r s None program id laws same trusted = tt
honest_if shared r s (Some base) program id laws same trusted = honest_replay r s base laws (same base.time) (allows_here shared r laws program id s base.time base.bytes trusted)

-- what a Join is given is honest
pub honest_base
    : (shared : SharedState TrustReplay) (r : ReplicaView) (s : PlainSession) (base : Option Base) → r.program ≡ arc_value shared.trust.program → r.id ≡ shared.id.0 → AreWorlds (worlds_of r)
    → ((t : ℕ) → (replay (founding_of r.program) r.id s.log t).world ≡ replay_world (worlds_of r) s.log t)
    → IsTrustedReplay shared s → (base ≡ s.kept) ⊎ (base ≡ None) → IsHonestBase (worlds_of r) s.log base
honest_base shared r s base program id laws same trusted (inl kept) = subst (IsHonestBase (worlds_of r) s.log) (sym kept) (honest_if shared r s s.kept program id laws same trusted)
honest_base shared r s base program id laws same trusted (inr none) = subst (IsHonestBase (worlds_of r) s.log) (sym none) tt

-- ---- the Sync is taken

-- a Sync without a fault knows of the view's events as the replica does
counted_if
    : {W O : Type 0} (m : Worlds W O) (r : PlainReplica W O) (last : ℕ) (above below : Bool) (taken : Taken W O) → nat_lt (published_count r) last ≡ above → nat_lt last r.acknowledged ≡ below
    → (cond above (out_of_order r (published_count r) last) (cond below (out_of_order r r.acknowledged last) taken)).fault ≡ None → (r.acknowledged ≤ last) × (last ≤ published_count r)
counted_if m r last true below taken more less none = absurd cc
counted_if m r last false true taken more less none = absurd cc
counted_if m r last false false taken more less none = (grind (arith, nat_tests), grind (arith, nat_tests))

pub sync_counted
    : {W O : Type 0} (m : Worlds W O) (r : PlainReplica W O) (how : How) (joined last from : ℕ) (base : Option Base) → (taken m (joining r how) (Sync joined last from base)).fault ≡ None
    → (r.acknowledged ≤ last) × (last ≤ published_count r)
sync_counted m r how joined last from base none =
    counted_if m (joining r how) last (nat_lt (published_count (joining r how)) last) (nat_lt last r.acknowledged) (begins_with m (joining r how) how from base) refl refl none

-- ---- where the replica stands

want_same : {W O : Type 0} (m : Worlds W O) (r : PlainReplica W O) (how : How) → join_want m (joining r how) how ≡ join_want m r how
want_same m r Fresh = refl
want_same m r Whole = refl
want_same m r Resume = refl

may_join : (s new : PlainSession) (r : ReplicaView) (how : How) → Grows s new → MayJoinBy s r how → MayJoin (worlds_of r) new.log (joining r.plain how) how
may_join s new r Fresh grows may = tt
may_join s new r Whole grows may = tt
may_join s new r Resume grows may =
    let follows = follows_log_grows (worlds_of r) s new r.plain grows may.1 may.0 in
    record { whole = follows.whole; valid = follows.valid; follows = follows.follows; counted = follows.counted }

based_within : (s : PlainSession) (base : Option Base) → IsSoundSession s → (base ≡ s.kept) ⊎ (base ≡ None) → IsBasedBy s.horizon base
based_within s base sound (inl kept) = subst (IsBasedBy s.horizon) (sym kept) (kept_is_based s.horizon s.kept sound.kept)
based_within s base sound (inr none) = subst (IsBasedBy s.horizon) (sym none) tt

-- it is not later than the horizon, since it has not seen the Join
not_past : (new : PlainSession) (from time : ℕ) → IsSoundSession new → from ≡ count_until new.log time → from < length new.log → (past : Bool) → nat_lt new.horizon time ≡ past → time ≤ new.horizon
not_past new from time sound seen few false is = grind (arith, nat_tests)
not_past new from time sound seen few true is =
    let past : new.horizon < time = grind (arith, nat_tests) in
    let all = all_until 0 time new.log (TimesRise-legal new.log sound.legal) (omega (arith, sound.latest)) in
    absurd (omega (arith, seen, all, few))

module _ (s : PlainSession) (r : ReplicaView) (how : How) (view now seq time last from : ℕ) (base : Option Base) (cursor : Cursor)
    (laws : AreWorlds (worlds_of r)) (sound : IsSoundSession s)
    (sound_after : IsSoundSession (answer s (request.Join view now (join_want (worlds_of r) r.plain how))).session)
    (honest : IsHonestBase (worlds_of r) s.log base) (may : MayJoinBy s r how)
    (is : (answer s (request.Join view now (join_want (worlds_of r) r.plain how))).reply ≡ reply.Joined seq time last from base)
    (first : first_cursor view (reply.Joined seq time last from base) ≡ Some cursor)
    (counted : (r.plain.acknowledged ≤ last) × (last ≤ published_count r.plain)) where
  abbrev pub after_join : PlainSession
  after_join = (answer s (request.Join view now (join_want (worlds_of r) r.plain how))).session

  said : JoinsWith s (join_want (worlds_of r) r.plain how) (answer s (request.Join view now (join_want (worlds_of r) r.plain how))) seq time last from base
  said = joins_with s view now (join_want (worlds_of r) r.plain how) seq time last from base sound is

  grows : Grows s after_join
  grows = Grows-answer s (request.Join view now (join_want (worlds_of r) r.plain how)) sound_after

  began : SyncBegins (worlds_of r) after_join.log from time (taken (worlds_of r) (joining r.plain how) (Sync seq last from base))
  began =
      let within = based_within s base sound said.based in
      sync_begins (worlds_of r) laws after_join.log (joining r.plain how) how seq last from time base sound_after.legal refl
      (subst (λ (want : Want). BeginsFor after_join.log want time from base) (sym (want_same (worlds_of r) r.plain how))
      (begins_later s after_join (join_want (worlds_of r) r.plain how) time from base grows within said.here said.begins))
      counted.0 counted.1 (base_grows (worlds_of r) s after_join base grows within honest) (may_join s after_join r how grows may)

  pub joined_fine : IsFine (with_plain r (joining r.plain how)) (Sync seq last from base)
  joined_fine = record { none = began.fine }

  pub joined_works : IsFounding (founding_of r.program) → ReplicaWorks after_join (after_frame (with_plain r (joining r.plain how)) (Sync seq last from base)) cursor
  joined_works program =
      let stands = began.stands in
      let same : cursor ≡ record { view = view; joined = seq; after = from; last_tick = 0 } = cc first in
      let none : cursor.last_tick ≡ 0 = ap (λ (c : Cursor). c.last_tick) same in
      let plain = (taken (worlds_of r) (joining r.plain how) (Sync seq last from base)).replica in
      record {
        program = program;
        follows = stands.follows;
        synced = stands.synced;
        within = not_past after_join from plain.world.time sound_after (stands.placed ∙ stands.follows.counted) said.few (nat_lt after_join.horizon plain.world.time) refl;
        place = record { seen = from; least = time };
        placed = stands.placed;
        ahead = stands.ahead;
        sent = joined_stands s view now (join_want (worlds_of r) r.plain how) seq time last from base cursor is first;
        ticked = omega (arith, none);
        next = inl (omega (arith, none, said.horizon, said.later));
      }

tested_above : (a b : ℕ) → nat_lt a b ≡ true → a < b
tested_above a b is = grind (arith, nat_tests)

tested_within : (a b : ℕ) → nat_lt a b ≡ false → b ≤ a
tested_within a b is = grind (arith, nat_tests)

-- the Sync has no fault, unless it miscounts
pub fine_unless
    : (s : PlainSession) (r : ReplicaView) (how : How) (view now seq time last from : ℕ) (base : Option Base) (cursor : Cursor) → AreWorlds (worlds_of r) → IsSoundSession s
    → IsSoundSession (answer s (request.Join view now (join_want (worlds_of r) r.plain how))).session → IsHonestBase (worlds_of r) s.log base → MayJoinBy s r how
    → (answer s (request.Join view now (join_want (worlds_of r) r.plain how))).reply ≡ reply.Joined seq time last from base → first_cursor view (reply.Joined seq time last from base) ≡ Some cursor
    → (above below : Bool) → nat_lt (published_count r.plain) last ≡ above → nat_lt last r.plain.acknowledged ≡ below
    → IsFine (with_plain r (joining r.plain how)) (Sync seq last from base) ⊎ Miscounts (with_plain r (joining r.plain how)) (Sync seq last from base)
fine_unless s r how view now seq time last from base cursor laws sound sound_after honest may is first true below more less =
    inr (inl (tested_above (published_count r.plain) last more))
fine_unless s r how view now seq time last from base cursor laws sound sound_after honest may is first false true more less =
    inr (inr (tested_above last r.plain.acknowledged less))
fine_unless s r how view now seq time last from base cursor laws sound sound_after honest may is first false false more less =
    inl
    (joined_fine s r how view now seq time last from base cursor laws sound sound_after honest may is first
    (tested_within last r.plain.acknowledged less, tested_within (published_count r.plain) last more))
