-- Entries of a log, one after the other.
use Rattle.std.proofs.Common.{◌≡◌, ℕ, suc, ◌+◌, ◌-◌, ◌<◌, ◌≤◌, Bool, true, false, cond, List, [], ◌∷◌, drop, slice_get, Option, Some, None, option_map, refl, sym, ap, subst, ◌∙◌, arith}
use Rattle.std.proofs.lemmas.Bool.{leb-true, leb-false, ltb-true, le-leb, lt-leb, lt-ltb, le-ltb}
use Rattle.std.proofs.lemmas.List.Sums.{sum_by-cons}
use Rattle.std.proofs.lemmas.Option.{slice_get_within, get_or_from_slice_get}
use Rattle.std.proofs.lemmas.List.{drop_more}
use Rattle.std.specs.Prelude.{nat_le, nat_lt, if◌then◌else◌}
use Rattle.tea_base.specs.Legal.{IsLegal, TimesRiseAfter}
use Rattle.tea_base.specs.Readings.{count_until}
use Rattle.tea_base.proofs.LogLaws.{TimesRise-legal}
use Rattle.tea_base.specs.declared.entry.Entry.{Entry}
use Rattle.model_solved.specs.Founding.{CheckedView, checked_tree, founding_of}
use Rattle.world_plain.specs.World.{WorldRecord}
use Rattle.world.specs.View.{WorldView}
use Rattle.world.specs.Worlds.{Scene, entries_behind, external, first_scene, replay_from}
use Rattle.command_replay.specs.declared.recording.Recording.{Recording}
use Rattle.command_replay.specs.Replays.{Opens, start_scene, start_time, world_at}

here : (entries : List Entry) (i : ℕ) (entry : Entry) → slice_get entries i ≡ Some entry → drop i entries ≡ entry ∷ drop (i + 1) entries
here entries i entry got =
    drop_more entries i entry (slice_get_within entries i entry got) ∙ ap (λ (e : Entry). e ∷ drop (i + 1) entries) (get_or_from_slice_get entries i entry entry got)

at_place : (entries : List Entry) (i : ℕ) (entry : Entry) → slice_get entries (i + 1 - 1) ≡ Some entry → slice_get entries i ≡ Some entry
at_place entries i entry got = subst (λ (k : ℕ). slice_get entries k ≡ Some entry) (omega arith) got

-- the entries from this one on
pub drop_entry : (entries : List Entry) (i : ℕ) (entry : Entry) → slice_get entries (i + 1 - 1) ≡ Some entry → drop i entries ≡ entry ∷ drop (i + 1) entries
drop_entry entries i entry got = here entries i entry (at_place entries i entry got)

-- an entry of this time stands there
timed : (entries : List Entry) (i t : ℕ) (found : Option Entry) → slice_get entries i ≡ found → option_map (λ (e : Entry). e.time) found ≡ Some t → (e : Entry) × (slice_get entries i ≡ Some e) × (e.time ≡ t)
timed entries i t (Some e) is at = (e, is, cc)
timed entries i t None is at = absurd cc

pub timed_at : (entries : List Entry) (i t : ℕ) → option_map (λ (e : Entry). e.time) (slice_get entries i) ≡ Some t → (e : Entry) × (slice_get entries i ≡ Some e) × (e.time ≡ t)
timed_at entries i t at = timed entries i t (slice_get entries i) refl at

same_time : (t : ℕ) (entry : Entry) → Some entry.time ≡ Some t → entry.time ≡ t
same_time t entry is = cc

pub time_there : (entries : List Entry) (i t : ℕ) (entry : Entry) → slice_get entries i ≡ Some entry → option_map (λ (e : Entry). e.time) (slice_get entries i) ≡ Some t → entry.time ≡ t
time_there entries i t entry got at = same_time t entry (ap (option_map (λ (e : Entry). e.time)) (sym got) ∙ at)

-- where a world goes on over the entries from a place: the next is behind its time, and they lead to this scene
pub record GoesOn (classes : CheckedView) (time : ℕ) (entries : List Entry) (i : ℕ) (last : Scene) (w : WorldView) : Type 0 where
  pub program : w.program ≡ classes
  pub whole : w.broken ≡ false
  pub early : w.scene.world.time ≤ time
  pub rises : TimesRiseAfter w.scene.world.time (drop i entries)
  pub led : replay_from (checked_tree classes) time (drop i entries) w.scene ≡ last

from_higher : (low high : ℕ) (es : List Entry) → low ≤ high → TimesRiseAfter high es → TimesRiseAfter low es
from_higher low high [] le rise = tt
from_higher low high (e ∷ es) le rise = (omega (arith, le, rise.0), rise.1)

-- the entry there and those behind it
module _ (classes : CheckedView) (time : ℕ) (entries : List Entry) (i : ℕ) (last : Scene) (w : WorldView) (entry : Entry) (got : slice_get entries (i + 1 - 1) ≡ Some entry) (on : GoesOn classes time entries i last w) where
  nearer : TimesRiseAfter w.scene.world.time (entry ∷ drop (i + 1) entries)
  nearer = subst (TimesRiseAfter w.scene.world.time) (drop_entry entries i entry got) on.rises

  pub next_later : w.scene.world.time < entry.time
  next_later = nearer.0

  led_with : (b : Bool) → nat_le entry.time time ≡ b → replay_from (checked_tree classes) time (drop (i + 1) entries) (if b then external (checked_tree classes) entry w.scene else w.scene) ≡ last
  led_with b is =
      subst (λ (c : Bool). replay_from (checked_tree classes) time (drop (i + 1) entries) (if c then external (checked_tree classes) entry w.scene else w.scene) ≡ last) is
      (ap (λ (rest : List Entry). replay_from (checked_tree classes) time rest w.scene) (sym (drop_entry entries i entry got)) ∙ on.led)

  -- it lies above the time
  pub passes : time < entry.time → GoesOn classes time entries (i + 1) last w
  passes later = record {
    program = on.program;
    whole = on.whole;
    early = on.early;
    rises = from_higher w.scene.world.time entry.time (drop (i + 1) entries) (omega (arith, nearer.0)) nearer.1;
    led = led_with false (lt-leb entry.time time later);
  }

  -- it is handled
  pub handles : (after : WorldView) → entry.time ≤ time → after ≡ record w { scene = external (checked_tree w.program) entry w.scene } → after.scene.world.time ≡ entry.time → GoesOn classes time entries (i + 1) last after
  handles after le is at = record {
    program = ap (λ (v : WorldView). v.program) is ∙ on.program;
    whole = ap (λ (v : WorldView). v.broken) is ∙ on.whole;
    early = omega (arith, at, le);
    rises = subst (λ (t : ℕ). TimesRiseAfter t (drop (i + 1) entries)) (sym at) nearer.1;
    led =
        ap (replay_from (checked_tree classes) time (drop (i + 1) entries)) (ap (λ (v : WorldView). v.scene) is ∙ ap (λ (p : CheckedView). external (checked_tree p) entry w.scene) on.program)
        ∙ led_with true (le-leb entry.time time le);
  }

-- ---- entries behind a time

-- where all are later, none is up to it
all_later : (t low : ℕ) (es : List Entry) → t ≤ low → TimesRiseAfter low es → (count_until es t ≡ 0) × (entries_behind t es ≡ es)
all_later t low [] le rise = (refl, refl)
all_later t low (e ∷ es) le rise =
    let later : t < e.time = omega (arith, le, rise.0) in
    let rest = all_later t e.time es (omega (arith, later)) rise.1 in
    (sum_by-cons (λ (x : Entry). cond (nat_le x.time t) 1 0) e es ∙ rw (lt-leb e.time t later, rest.0) refl, rw (lt-ltb t e.time later, rest.1) refl)

skipped-by : (t : ℕ) (e : Entry) (es : List Entry) (b : Bool) → nat_le e.time t ≡ b → TimesRiseAfter e.time es → drop (count_until es t) es ≡ entries_behind t es → drop (count_until (e ∷ es) t) (e ∷ es) ≡ entries_behind t (e ∷ es)
skipped-by t e es true is rise rest =
    let early : e.time ≤ t = leb-true e.time t is in
    let next : 1 + count_until es t ≡ suc (count_until es t) = omega arith in
    let one : count_until (e ∷ es) t ≡ suc (count_until es t) = sum_by-cons (λ (x : Entry). cond (nat_le x.time t) 1 0) e es ∙ rw is next in
    rw (one, le-ltb t e.time early) rest
skipped-by t e es false is rise rest =
    let later : t < e.time = leb-false e.time t is in
    let all = all_later t t (e ∷ es) (omega arith) (later, rise) in
    rw (all.0, all.1) refl

rises-by : (t : ℕ) (e : Entry) (es : List Entry) (b : Bool) → nat_lt t e.time ≡ b → TimesRiseAfter e.time es → TimesRiseAfter t (entries_behind t es) → TimesRiseAfter t (if b then e ∷ entries_behind t es else entries_behind t es)
rises-by t e es true is rise rest =
    let later : t < e.time = ltb-true t e.time is in
    (later, subst (TimesRiseAfter e.time) (sym (all_later t e.time es (omega (arith, later)) rise).1) rise)
rises-by t e es false is rise rest = rest

rises : (t low : ℕ) (es : List Entry) → TimesRiseAfter low es → TimesRiseAfter t (entries_behind t es)
rises t low [] rise = tt
rises t low (e ∷ es) rise = rises-by t e es (nat_lt t e.time) refl rise.1 (rises t e.time es rise.1)

-- those that stand behind the ones up to it
skipped-is : (t low : ℕ) (es : List Entry) → TimesRiseAfter low es → drop (count_until es t) es ≡ entries_behind t es
skipped-is t low [] rise = refl
skipped-is t low (e ∷ es) rise = skipped-by t e es (nat_le e.time t) refl rise.1 (skipped-is t e.time es rise.1)

-- a world goes on over the entries behind its time
pub starts_on : (time : ℕ) (entries : List Entry) (n : ℕ) (w : WorldView) → n ≡ count_until entries w.scene.world.time → IsLegal entries → w.broken ≡ false → w.scene.world.time ≤ time
    → GoesOn w.program time entries n (replay_from (checked_tree w.program) time (entries_behind w.scene.world.time entries) w.scene) w
starts_on time entries n w is legal whole early =
    let rise = TimesRise-legal entries legal in
    let from : drop n entries ≡ entries_behind w.scene.world.time entries = ap (λ (k : ℕ). drop k entries) is ∙ skipped-is w.scene.world.time 0 entries rise in
    record {
      program = refl;
      whole = whole;
      early = early;
      rises = subst (TimesRiseAfter w.scene.world.time) (sym from) (rises w.scene.world.time 0 entries rise);
      led = ap (λ (rest : List Entry). replay_from (checked_tree w.program) time rest w.scene) from;
    }

-- a world that was opened and went on is that of the replay
begun_at : (recording : Recording) (start : Option WorldRecord) (time : ℕ) → IsLegal recording.log.entries
    → (replay_from (checked_tree recording.program) time (entries_behind (start_time start) recording.log.entries) (start_scene (founding_of recording.program) recording.id.0 start)).world ≡ world_at recording time start
begun_at recording None time legal =
    let tree = checked_tree recording.program in
    ap (λ (es : List Entry). (replay_from tree time es (first_scene (founding_of recording.program) recording.id.0)).world) (all_later 0 0 recording.log.entries (omega arith) (TimesRise-legal recording.log.entries legal)).1
begun_at recording (Some w) time legal = refl

pub gone_on : (world after : WorldView) (recording : Recording) (start : Option WorldRecord) (time : ℕ) → Opens world recording.program recording.id.0 start → IsLegal recording.log.entries → after ≡ record world { scene = replay_from (checked_tree world.program) time (entries_behind world.scene.world.time recording.log.entries) world.scene }
    → after.scene.world ≡ world_at recording time start
gone_on world after recording start time opens legal is =
    let log = recording.log.entries in
    ap (λ (w : WorldView). w.scene.world) is
    ∙ ap (λ (t : ℕ). (replay_from (checked_tree world.program) time (entries_behind t log) world.scene).world) opens.time
    ∙ ap (λ (w : WorldView). (replay_from (checked_tree w.program) time (entries_behind (start_time start) log) w.scene).world) opens.opened
    ∙ begun_at recording start time legal
