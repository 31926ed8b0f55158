-- Worlds after the first entries of a log, and going on from them.
use Rattle.std.proofs.Common.{◌≡◌, ℕ, zero, suc, ◌+◌, ◌-◌, ◌*◌, ◌/◌, ◌<◌, ◌≤◌, Bool, true, false, cond, nat_le, List, [], ◌∷◌, ◌++◌, length, map, take, drop, filter, slice_get, get_or, Option, Some, None, refl, sym, ap, subst, ◌∙◌, arith, length-append}
use Rattle.std.specs.List.{fold, AllByRecursion}
use Rattle.std.proofs.lemmas.Bool.{leb-true, leb-false, le-leb, lt-leb}
use Rattle.std.proofs.lemmas.List.{map-append, length-map, drop_more, take-append-drop, drop-take, take-take}
use Rattle.std.proofs.lemmas.List.Sums.{count_by-le-length, sum_by-cons, fold-append}
use Rattle.std.proofs.lemmas.Nat.{le-div}
use Rattle.std.proofs.lemmas.Option.{slice_get_within, get_or_from_slice_get}
use Rattle.tea_base.specs.Legal.{IsLegal, IsLegalAfter, TimesRiseAfter}
use Rattle.tea_base.specs.Limits.{time_limit}
use Rattle.tea_base.proofs.LogLaws.{TimesRise-legal}
use Rattle.tea_base.specs.Readings.{count_until}
use Rattle.tea_base.specs.declared.entry.Entry.{Entry}
use Rattle.model_tree.specs.Tree.{ProgramTree}
use Rattle.model_solved.specs.Founding.{CheckedView, checked_tree, founding_of}
use Rattle.model_solved.specs.Methods.{field_counts}
use Rattle.world_plain.specs.Valid.{Valid}
use Rattle.world_plain.specs.World.{WorldRecord, world_record}
use Rattle.world_plain.specs.declared.world.PlainWorld.{PlainWorld}
use Rattle.world.specs.View.{WorldView}
use Rattle.world.specs.Worlds.{Scene, external, advance, first_scene, replay, take_up}
use Rattle.time_line.specs.Keyframes.{LineView, IsSoundLine, KeepsKeyframes, after_entries, frames_of, world_after, keyframe, moment, AreFrom}

-- ---- entries

-- each is of a time below the limit
abbrev pub AreBelow : List Entry → Type 0
AreBelow = AllByRecursion (λ (e : Entry). e.time < time_limit)

below-from : (before es : List Entry) → IsLegalAfter before es → AreBelow es
below-from before [] legal = tt
below-from before (e ∷ es) legal = (legal.0.time_bound, below-from (before ++ e ∷ []) es legal.1)

pub below-legal : (es : List Entry) → IsLegal es → AreBelow es
below-legal es legal = below-from [] es legal

pub below-drop : (n : ℕ) (es : List Entry) → AreBelow es → AreBelow (drop n es)
below-drop zero es below = below
below-drop (suc n) [] below = tt
below-drop (suc n) (e ∷ es) below = below-drop n es below.1

here : (entries : List Entry) (i : ℕ) (entry : Entry) → slice_get entries i ≡ Some entry → drop i entries ≡ entry ∷ drop (i + 1) entries
here entries i entry got =
    drop_more entries i entry (slice_get_within entries i entry got) ∙ ap (λ (e : Entry). e ∷ drop (i + 1) entries) (get_or_from_slice_get entries i entry entry got)

at_place : (entries : List Entry) (i : ℕ) (entry : Entry) → slice_get entries (i + 1 - 1) ≡ Some entry → slice_get entries i ≡ Some entry
at_place entries i entry got = subst (λ (k : ℕ). slice_get entries k ≡ Some entry) (omega arith) got

-- the entries from this one on
drop_entry : (entries : List Entry) (i : ℕ) (entry : Entry) → slice_get entries (i + 1 - 1) ≡ Some entry → drop i entries ≡ entry ∷ drop (i + 1) entries
drop_entry entries i entry got = here entries i entry (at_place entries i entry got)

-- ---- entries up to a time

-- where all are later, none is up to it
none_until : (t low : ℕ) (es : List Entry) → t ≤ low → TimesRiseAfter low es → (count_until es t ≡ 0) × (filter (λ (e : Entry). nat_le e.time t) es ≡ [])
none_until t low [] le rise = (refl, refl)
none_until t low (e ∷ es) le rise =
    let later : t < e.time = omega (arith, le, rise.0) in
    let rest = none_until t e.time es (omega (arith, later)) rise.1 in
    (sum_by-cons (λ (x : Entry). cond (nat_le x.time t) 1 0) e es ∙ rw (lt-leb e.time t later, rest.0) refl, rw (lt-leb e.time t later, rest.1) refl)

-- one more, where the first is up to it
one_until : (t : ℕ) (e : Entry) (es : List Entry) → e.time ≤ t → count_until (e ∷ es) t ≡ suc (count_until es t)
one_until t e es early =
    let next : 1 + count_until es t ≡ suc (count_until es t) = omega arith in
    sum_by-cons (λ (x : Entry). cond (nat_le x.time t) 1 0) e es ∙ rw (le-leb e.time t early) next

-- those up to a time are the first so many
first_until-by : (t low : ℕ) (e : Entry) (es : List Entry) (b : Bool) → nat_le e.time t ≡ b → TimesRiseAfter e.time es → filter (λ (x : Entry). nat_le x.time t) es ≡ take (count_until es t) es
    → filter (λ (x : Entry). nat_le x.time t) (e ∷ es) ≡ take (count_until (e ∷ es) t) (e ∷ es)
first_until-by t low e es true is rise rest = rw (one_until t e es (leb-true e.time t is), is) (ap (λ (xs : List Entry). e ∷ xs) rest)
first_until-by t low e es false is rise rest =
    let later : t < e.time = leb-false e.time t is in
    let none = none_until t t (e ∷ es) (omega arith) (later, rise) in
    rw (none.0, none.1) refl

pub first_until : (t low : ℕ) (es : List Entry) → TimesRiseAfter low es → filter (λ (e : Entry). nat_le e.time t) es ≡ take (count_until es t) es
first_until t low [] rise = refl
first_until t low (e ∷ es) rise = first_until-by t low e es (nat_le e.time t) refl rise.1 (first_until t e.time es rise.1)

-- ---- worlds before entries

-- a world before entries: it is valid, and they are later
pub record Stands (program : ProgramTree) (w : WorldRecord) (es : List Entry) : Type 0 where
  pub valid : Valid (field_counts program) w
  pub rises : TimesRiseAfter w.time es
  pub below : AreBelow es

-- the first world, before the whole log
pub first-stands : (line : LineView) → IsSoundLine line → Valid (field_counts (checked_tree line.program)) (first_scene (founding_of line.program) line.id).world → (first_scene (founding_of line.program) line.id).world.time ≡ 0
    → Stands (checked_tree line.program) (first_scene (founding_of line.program) line.id).world line.entries
first-stands line s valid at = record {
  valid = valid;
  rises = subst (λ (t : ℕ). TimesRiseAfter t line.entries) (sym at) (TimesRise-legal line.entries s.legal);
  below = below-legal line.entries s.legal;
}

-- what an entry keeps
module _ (program : ProgramTree) (keeps : (e : Entry) (a : Scene) → Valid (field_counts program) a.world → e.time < time_limit → Valid (field_counts program) (external program e a).world) (arrives : (e : Entry) (a : Scene) → Valid (field_counts program) a.world → a.world.time ≤ e.time → (external program e a).world.time ≡ e.time) where
  entered : WorldRecord → Entry → WorldRecord
  entered w e = (external program e (take_up w)).world

  time-entered : (w : WorldRecord) (e : Entry) (es : List Entry) → Stands program w (e ∷ es) → (external program e (take_up w)).world.time ≡ e.time
  time-entered w e es s = arrives e (take_up w) s.valid (omega (arith, s.rises.0))

  stands-on : (w : WorldRecord) (e : Entry) (es : List Entry) → Stands program w (e ∷ es) → Stands program (external program e (take_up w)).world es
  stands-on w e es s = record {
    valid = keeps e (take_up w) s.valid s.below.0;
    rises = subst (λ (t : ℕ). TimesRiseAfter t es) (sym (time-entered w e es s)) s.rises.1;
    below = s.below.1;
  }

  pub stands-after : (n : ℕ) (w : WorldRecord) (es : List Entry) → Stands program w es → Stands program (after_entries program w (take n es)) (drop n es)
  stands-after zero w es s = s
  stands-after (suc n) w [] s = s
  stands-after (suc n) w (e ∷ es) s = stands-after n (external program e (take_up w)).world es (stands-on w e es s)

  early-by : (t n : ℕ) (w : WorldRecord) (e : Entry) (es : List Entry) (b : Bool) → nat_le e.time t ≡ b → Stands program w (e ∷ es) → suc n ≤ count_until (e ∷ es) t
      → ((v : WorldRecord) → Stands program v es → v.time ≤ t → n ≤ count_until es t → (after_entries program v (take n es)).time ≤ t)
      → (after_entries program w (take (suc n) (e ∷ es))).time ≤ t
  early-by t n w e es true is s few more =
      let le : e.time ≤ t = leb-true e.time t is in
      more (external program e (take_up w)).world (stands-on w e es s) (omega (arith, time-entered w e es s, le)) (omega (arith, few, one_until t e es le))
  early-by t n w e es false is s few more =
      let later : t < e.time = leb-false e.time t is in
      absurd (omega (arith, few, (none_until t t (e ∷ es) (omega arith) (later, s.rises.1)).0))

  -- its time is not above one that all of these entries have reached
  pub early-after : (t n : ℕ) (w : WorldRecord) (es : List Entry) → Stands program w es → w.time ≤ t → n ≤ count_until es t → (after_entries program w (take n es)).time ≤ t
  early-after t zero w es s early few = early
  early-after t (suc n) w [] s early few = absurd (omega (arith, few))
  early-after t (suc n) w (e ∷ es) s early few = early-by t n w e es (nat_le e.time t) refl s few (λ v. early-after t n v es)

-- ---- worlds after more entries

-- the first of a list, and those after them
more_of : (n m : ℕ) (es : List Entry) → n ≤ m → take n es ++ take (m - n) (drop n es) ≡ take m es
more_of n m es le =
    let whole : n + (m - n) ≡ m = omega arith in
    let front : take n (take m es) ≡ take n es = take-take n m es le in
    let back : drop n (take m es) ≡ take (m - n) (drop n es) = subst (λ (k : ℕ). drop n (take k es) ≡ take (m - n) (drop n es)) whole (drop-take n (m - n) es) in
    sym (ap (λ (xs : List Entry). xs ++ take (m - n) (drop n es)) front) ∙ sym (ap (λ (xs : List Entry). take n (take m es) ++ xs) back) ∙ take-append-drop n (take m es)

pub after-more : (program : ProgramTree) (w : WorldRecord) (es : List Entry) (n m : ℕ) → n ≤ m → after_entries program (after_entries program w (take n es)) (take (m - n) (drop n es)) ≡ after_entries program w (take m es)
after-more program w es n m le =
    sym (fold-append (λ (v : WorldRecord) (e : Entry). (external program e (take_up v)).world) w (take n es) (take (m - n) (drop n es)))
    ∙ ap (after_entries program w) (more_of n m es le)

-- ---- going on, entry by entry

quiet-is : (s : Scene) → s.published ≡ [] → s ≡ take_up s.world
quiet-is s e = ap (λ p. record { world = s.world; published = p }) e

-- a world that goes on over the entries from a place to another: those that are left lead to this one
pub record GoesOn (checked : CheckedView) (entries : List Entry) (to i : ℕ) (last : WorldRecord) (w : WorldView) : Type 0 where
  pub program : w.program ≡ checked
  pub whole : w.broken ≡ false
  pub quiet : w.scene.published ≡ []
  pub rises : TimesRiseAfter w.scene.world.time (drop i entries)
  pub below : AreBelow (drop i entries)
  pub led : after_entries (checked_tree checked) w.scene.world (take (to - i) (drop i entries)) ≡ last

module _ (program : CheckedView) (entries : List Entry) (to i : ℕ) (last : WorldRecord) (w : WorldView) (entry : Entry) (got : slice_get entries (i + 1 - 1) ≡ Some entry) (on : GoesOn program entries to i last w) where
  nearer : TimesRiseAfter w.scene.world.time (entry ∷ drop (i + 1) entries)
  nearer = subst (TimesRiseAfter w.scene.world.time) (drop_entry entries i entry got) on.rises

  bounded : AreBelow (entry ∷ drop (i + 1) entries)
  bounded = subst AreBelow (drop_entry entries i entry got) on.below

  pub next_later : w.scene.world.time < entry.time
  next_later = nearer.0

  pub next_below : entry.time < time_limit
  next_below = bounded.0

  scene-is : w.scene ≡ take_up w.scene.world
  scene-is = quiet-is w.scene on.quiet

  -- the entry is handled
  pub enters : (after : WorldView) → i < to → after ≡ record w { scene = take_up (external (checked_tree w.program) entry w.scene).world } → after.scene.world.time ≡ entry.time → GoesOn program entries to (i + 1) last after
  enters after lt is at =
      let left : to - i ≡ suc (to - (i + 1)) = omega arith in
      let tree = checked_tree program in
      let now : after.scene.world ≡ (external tree entry (take_up w.scene.world)).world =
      ap (λ (v : WorldView). v.scene.world) is
      ∙ ap (λ (p : CheckedView). (external (checked_tree p) entry w.scene).world) on.program
      ∙ ap (λ (s : Scene). (external tree entry s).world) scene-is in
      let all : after_entries tree w.scene.world (take (suc (to - (i + 1))) (entry ∷ drop (i + 1) entries)) ≡ last =
      subst (λ (es : List Entry). after_entries tree w.scene.world (take (suc (to - (i + 1))) es) ≡ last) (drop_entry entries i entry got)
      (subst (λ (k : ℕ). after_entries tree w.scene.world (take k (drop i entries)) ≡ last) left on.led) in
      record {
        program = ap (λ (v : WorldView). v.program) is ∙ on.program;
        whole = ap (λ (v : WorldView). v.broken) is ∙ on.whole;
        quiet = ap (λ (v : WorldView). v.scene.published) is;
        rises = subst (λ (t : ℕ). TimesRiseAfter t (drop (i + 1) entries)) (sym at) nearer.1;
        below = bounded.1;
        led = ap (λ (v : WorldRecord). after_entries tree v (take (to - (i + 1)) (drop (i + 1) entries))) now ∙ all;
      }

-- at the last place it is there
pub arrived : (entries : List Entry) (to i : ℕ) (last : WorldRecord) (old w : WorldView) → i ≡ to → old.broken ≡ false → GoesOn old.program entries to i last w → w ≡ record old { scene = take_up last }
arrived entries to i last old w end whole on =
    let none : to - i ≡ 0 = omega arith in
    let led : w.scene.world ≡ last = subst (λ (k : ℕ). after_entries (checked_tree old.program) w.scene.world (take k (drop i entries)) ≡ last) none on.led in
    ap (λ (s : Scene). record w { scene = s }) (quiet-is w.scene on.quiet ∙ ap take_up led)
    ∙ ap (λ (p : CheckedView). record { program = p; scene = take_up last; broken = w.broken }) on.program
    ∙ ap (λ (b : Bool). record { program = old.program; scene = take_up last; broken = b }) (on.whole ∙ sym whole)

-- ---- keyframes

-- one keyframe more
from-push : (of : ℕ → WorldRecord) (k n : ℕ) (ws : List WorldRecord) (w : WorldRecord) → n ≡ k + length ws → w ≡ of n → AreFrom of k ws → AreFrom of k (ws ++ w ∷ [])
from-push of k n [] w at is each = (is ∙ ap of (omega (arith, at)), tt)
from-push of k n (v ∷ ws) w at is each = (each.0, from-push of (k + 1) n ws w (omega (arith, at)) is each.1)

-- the keyframe at a place, as plain data
frame-from : (of : ℕ → WorldRecord) (k n j : ℕ) (held : List PlainWorld) (frame none : PlainWorld) → n ≡ k + j → j < length held → frame ≡ get_or held j none → AreFrom of k (map world_record held) → world_record frame ≡ of n
frame-from of k n j [] frame none at lt got each = absurd (omega (arith, lt))
frame-from of k n zero (v ∷ held) frame none at lt got each = ap world_record got ∙ each.0 ∙ ap of (omega (arith, at))
frame-from of k n (suc j) (v ∷ held) frame none at lt got each = frame-from of (k + 1) n j held frame none (omega (arith, at)) (omega (arith, lt)) got each.1

-- a world that goes on from frame to frame, and the frames so far
pub record KeepsOn (old : WorldView) (entries : List Entry) (every k : ℕ) (frames : List WorldRecord) (w : WorldView) : Type 0 where
  pub program : w.program ≡ old.program
  pub whole : w.broken ≡ false
  pub quiet : w.scene.published ≡ []
  pub at : w.scene.world ≡ after_entries (checked_tree old.program) old.scene.world (take (k * every) entries)
  pub rises : TimesRiseAfter w.scene.world.time (drop (k * every) entries)
  pub all : length frames ≡ k + 1
  pub each : AreFrom (λ (j : ℕ). after_entries (checked_tree old.program) old.scene.world (take (j * every) entries)) 0 frames

-- the first frame is the world itself
keeps-first : (old : WorldView) (entries : List Entry) (every : ℕ) (frame : WorldRecord) → old.broken ≡ false → old.scene.published ≡ [] → TimesRiseAfter old.scene.world.time entries → frame ≡ old.scene.world → KeepsOn old entries every 0 (frame ∷ []) old
keeps-first old entries every frame whole quiet rises is =
    let none : 0 * every ≡ 0 = omega arith in
    let at : old.scene.world ≡ after_entries (checked_tree old.program) old.scene.world (take (0 * every) entries) = rw none refl in
    record {
      program = refl;
      whole = whole;
      quiet = quiet;
      at = at;
      rises = rw none rises;
      all = refl;
      each = (is ∙ at, tt);
    }

-- one frame more
keeps-on : (old w after : WorldView) (entries : List Entry) (every k : ℕ) (frames : List WorldRecord) (frame : WorldRecord) → KeepsOn old entries every k frames w
    → after ≡ record w { scene = take_up (after_entries (checked_tree w.program) w.scene.world (take ((k + 1) * every - k * every) (drop (k * every) entries))) }
    → TimesRiseAfter after.scene.world.time (drop ((k + 1) * every) entries) → frame ≡ after.scene.world → KeepsOn old entries every (k + 1) (frames ++ frame ∷ []) after
keeps-on old w after entries every k frames frame on is rises told =
    let tree = checked_tree old.program in
    let more : List Entry = take ((k + 1) * every - k * every) (drop (k * every) entries) in
    let at : after.scene.world ≡ after_entries tree old.scene.world (take ((k + 1) * every) entries) =
    ap (λ (v : WorldView). v.scene.world) is
    ∙ ap (λ (p : CheckedView). after_entries (checked_tree p) w.scene.world more) on.program
    ∙ ap (λ (v : WorldRecord). after_entries tree v more) on.at
    ∙ after-more tree old.scene.world entries (k * every) ((k + 1) * every) (omega arith) in
    record {
      program = ap (λ (v : WorldView). v.program) is ∙ on.program;
      whole = ap (λ (v : WorldView). v.broken) is ∙ on.whole;
      quiet = ap (λ (v : WorldView). v.scene.published) is;
      at = at;
      rises = rises;
      all = omega (arith, length-append frames (frame ∷ []), on.all);
      each = from-push (λ (j : ℕ). after_entries tree old.scene.world (take (j * every) entries)) 0 (k + 1) frames frame (omega (arith, on.all)) (told ∙ at) on.each;
    }

-- the same, with worlds as plain data
pub keeps-plain : (old w after : WorldView) (entries : List Entry) (every k : ℕ) (held new : List PlainWorld) (frame : PlainWorld) → KeepsOn old entries every k (map world_record held) w
    → after ≡ record w { scene = take_up (after_entries (checked_tree w.program) w.scene.world (take ((k + 1) * every - k * every) (drop (k * every) entries))) }
    → TimesRiseAfter after.scene.world.time (drop ((k + 1) * every) entries) → world_record frame ≡ after.scene.world → new ≡ held ++ frame ∷ [] → KeepsOn old entries every (k + 1) (map world_record new) after
keeps-plain old w after entries every k held new frame on is rises told grew =
    subst (λ (fs : List WorldRecord). KeepsOn old entries every (k + 1) fs after) (sym (ap (map world_record) grew ∙ map-append world_record held (frame ∷ [])))
    (keeps-on old w after entries every k (map world_record held) (world_record frame) on is rises told)

-- the frame at a place
frame-at : (of : ℕ → WorldRecord) (k : ℕ) (held : List PlainWorld) (frame : PlainWorld) → k < length held → frame ≡ get_or held k frame → AreFrom of 0 (map world_record held) → world_record frame ≡ of k
frame-at of k held frame lt got each = frame-from of 0 k k held frame frame (omega arith) lt got each

-- ---- the moment of a time

-- a world that is not broken, on which nothing was published yet
abbrev pub calm : CheckedView → WorldRecord → WorldView
calm program w = record { program = program; scene = take_up w; broken = false }

-- from a keyframe over the entries up to a place
pub entered-is : (line : LineView) (k n : ℕ) (frame : WorldRecord) (begun after : WorldView) → k * line.every ≤ n → begun ≡ calm line.program frame → frame ≡ keyframe line k
    → after ≡ record begun { scene = take_up (after_entries (checked_tree begun.program) begun.scene.world (take (n - k * line.every) (drop (k * line.every) line.entries))) } → after ≡ calm line.program (world_after line n)
entered-is line k n frame begun after le begins is goes =
    let tree = checked_tree line.program in
    let more : List Entry = take (n - k * line.every) (drop (k * line.every) line.entries) in
    goes
    ∙ ap (λ (w : WorldView). record w { scene = take_up (after_entries (checked_tree w.program) w.scene.world more) }) begins
    ∙ ap (λ (w : WorldRecord). calm line.program (after_entries tree w more)) is
    ∙ ap (calm line.program) (after-more tree (first_scene (founding_of line.program) line.id).world line.entries (k * line.every) n le)

-- and then to the time
pub moment-is : (line : LineView) (n t : ℕ) (entered after : WorldView) → entered ≡ calm line.program (world_after line n) → n ≡ count_until line.entries t
    → (replay (founding_of line.program) line.id line.entries t).world ≡ (advance (checked_tree line.program) t (take_up (world_after line (count_until line.entries t)))).world
    → after ≡ record entered { scene = take_up (advance (checked_tree entered.program) t entered.scene).world } → after ≡ moment line t
moment-is line n t entered after is count replays goes =
    goes
    ∙ ap (λ (w : WorldView). record w { scene = take_up (advance (checked_tree w.program) t w.scene).world }) is
    ∙ ap (λ (m : ℕ). calm line.program (advance (checked_tree line.program) t (take_up (world_after line m))).world) count
    ∙ ap (calm line.program) (sym replays)

-- the greatest keyframe of at most so many entries is kept
frame-held : (n count every : ℕ) → 1 ≤ every → count ≤ n → count / every < n / every + 1
frame-held n count every positive le =
    let whole : count / every * every ≤ n = omega arith in
    let held : count / every ≤ n / every = le-div (count / every) n every (omega arith) whole in
    omega arith

-- it is the keyframe of its place
pub frame-is : (line : LineView) (count t : ℕ) (held : List PlainWorld) (frame : PlainWorld) → KeepsKeyframes line (map world_record held) → count ≡ count_until line.entries t → frame ≡ get_or held (count / line.every) frame
    → world_record frame ≡ keyframe line (count / line.every)
frame-is line count t held frame keeps is got =
    let le : count ≤ length line.entries = omega (arith, is, count_by-le-length (λ (e : Entry). nat_le e.time t) line.entries) in
    let within : count / line.every < frames_of line + 1 = frame-held (length line.entries) count line.every keeps.sound.positive le in
    frame-at (keyframe line) (count / line.every) held frame (omega (arith, within, length-map held world_record, keeps.all)) got keeps.each

pub keeps-plain-first : (old : WorldView) (entries : List Entry) (every : ℕ) (held : List PlainWorld) (frame : PlainWorld) → old.broken ≡ false → old.scene.published ≡ [] → TimesRiseAfter old.scene.world.time entries → world_record frame ≡ old.scene.world → held ≡ frame ∷ []
    → KeepsOn old entries every 0 (map world_record held) old
keeps-plain-first old entries every held frame whole quiet rises is one =
    subst (λ (fs : List PlainWorld). KeepsOn old entries every 0 (map world_record fs) old) (sym one) (keeps-first old entries every (world_record frame) whole quiet rises is)
