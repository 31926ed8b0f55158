-- The entries of a log one after the other, and the first message of a session.
use Rattle.std.proofs.Common.{◌≡◌, ℕ, ◌+◌, ◌-◌, ◌<◌, ◌≤◌, Bool, true, false, if◌then◌else◌, nat_le, List, [], ◌∷◌, ◌++◌, length, replicate, drop, slice_get, Result, Ok, Err, OnOk, Option, Some, None, refl, sym, ap, ◌∙◌, subst, append_assoc, append-nil, arith}
use Rattle.std.proofs.lemmas.Bool.{le-leb, lt-leb}
use Rattle.std.proofs.lemmas.List.{drop_more, drop_all}
use Rattle.std.proofs.lemmas.Option.{slice_get_within, get_or_from_slice_get}
use Rattle.tea_base.specs.Legal.{IsLegal, TimesRiseAfter}
use Rattle.tea_base.specs.declared.entry.Entry.{Entry}
use Rattle.tea_base.proofs.LogLaws.{TimesRise-legal}
use Rattle.model_tree.specs.Tree.{ClassTree, ProgramTree}
use Rattle.model_solved.specs.Founding.{CheckedView, checked_tree}
use Rattle.world_plain.specs.World.{WorldRecord}
use Rattle.world.specs.View.{WorldView}
use Rattle.world.specs.Worlds.{Scene, Founding, first_scene, external, root_from, empty_world, with_next_turn}
use Rattle.world.specs.Turns.{PlainRan, begun, begun_with, first_ran}
use Rattle.command_trace.specs.Steps.{OfMessage, Step, turns_until, entry_steps, steps_on, first_step, first_steps}
use Rattle.command_trace.specs.TraceText.{message_line, raised_lines, fault_words, steps_text, trace_text}
use Rattle.command_trace.proofs.StepLaws.{text-append, told_step, passed_step}

-- ---- entries

at_place : (entries : List Entry) (i : ℕ) (entry : Entry) → slice_get entries (i + 1 - 1) ≡ Some entry → slice_get entries i ≡ Some entry
at_place entries i entry got = subst (λ (k : ℕ). slice_get entries k ≡ Some entry) (omega arith) got

-- the entries from this one on
drop_entry : (entries : List Entry) (i : ℕ) (entry : Entry) → slice_get entries (i + 1 - 1) ≡ Some entry → drop i entries ≡ entry ∷ drop (i + 1) entries
drop_entry entries i entry got =
    let there = at_place entries i entry got in
    drop_more entries i entry (slice_get_within entries i entry there) ∙ ap (λ (e : Entry). e ∷ drop (i + 1) entries) (get_or_from_slice_get entries i entry entry there)

from_higher : (low high : ℕ) (es : List Entry) → low ≤ high → TimesRiseAfter high es → TimesRiseAfter low es
from_higher low high [] le rise = tt
from_higher low high (e ∷ es) le rise = (omega (arith, le, rise.0), rise.1)

-- what is so after the first entries: the others lead to the same text
pub record Entered (classes : ProgramTree) (from to i : ℕ) (entries : List Entry) (old : WorldView) (start : List ℕ) (w : WorldView) (text : List ℕ) : Type 0 where
  pub program : w.program ≡ old.program
  pub whole : w.broken ≡ false
  pub rises : TimesRiseAfter w.scene.world.time (drop i entries)
  pub told : text ++ steps_text classes from (steps_on (checked_tree old.program) to (drop i entries) w.scene) ≡ start ++ steps_text classes from (steps_on (checked_tree old.program) to entries old.scene)

pub none_entered : (classes : ProgramTree) (from to : ℕ) (entries : List Entry) (old : WorldView) (start : List ℕ) → IsLegal entries → old.broken ≡ false → old.scene.world.time ≡ 0 → Entered classes from to 0 entries old start old start
none_entered classes from to entries old start legal whole begins =
    record { program = refl; whole = whole; rises = subst (λ (t : ℕ). TimesRiseAfter t entries) (sym begins) (TimesRise-legal entries legal); told = refl }

module _ (classes : ProgramTree) (from to i : ℕ) (entries : List Entry) (old : WorldView) (start : List ℕ) (w : WorldView) (text : List ℕ) (entry : Entry) (got : slice_get entries (i + 1 - 1) ≡ Some entry) (on : Entered classes from to i entries old start w text) where
  nearer : TimesRiseAfter w.scene.world.time (entry ∷ drop (i + 1) entries)
  nearer = subst (TimesRiseAfter w.scene.world.time) (drop_entry entries i entry got) on.rises

  pub next_later : w.scene.world.time ≤ entry.time
  next_later = omega (arith, nearer.0)

  told_with : (b : Bool) → nat_le entry.time to ≡ b
      → text ++ steps_text classes from (if b then entry_steps (checked_tree old.program) entry w.scene ++ steps_on (checked_tree old.program) to (drop (i + 1) entries) (external (checked_tree old.program) entry w.scene)
      else steps_on (checked_tree old.program) to (drop (i + 1) entries) w.scene)
      ≡ start ++ steps_text classes from (steps_on (checked_tree old.program) to entries old.scene)
  told_with b is =
      let p = checked_tree old.program in
      subst
      (λ (c : Bool). text ++ steps_text classes from (if c then entry_steps p entry w.scene ++ steps_on p to (drop (i + 1) entries) (external p entry w.scene) else steps_on p to (drop (i + 1) entries) w.scene) ≡ start ++ steps_text classes from (steps_on p to entries old.scene)) is
      (ap (λ (rest : List Entry). text ++ steps_text classes from (steps_on p to rest w.scene)) (sym (drop_entry entries i entry got)) ∙ on.told)

  -- it is later than the stretch
  pub entry_later : to < entry.time → Entered classes from to (i + 1) entries old start w text
  entry_later later = record {
    program = on.program;
    whole = on.whole;
    rises = from_higher w.scene.world.time entry.time (drop (i + 1) entries) (omega (arith, nearer.0)) nearer.1;
    told = told_with false (lt-leb entry.time to later);
  }

  -- it is handled
  pub entry_on : (after : WorldView) (told : List ℕ) → entry.time ≤ to → after ≡ record w { scene = external (checked_tree w.program) entry w.scene } → after.scene.world.time ≡ entry.time
      → told ≡ text ++ steps_text classes from (entry_steps (checked_tree w.program) entry w.scene) → Entered classes from to (i + 1) entries old start after told
  entry_on after told le is at grew =
      let p = checked_tree old.program in
      let same : checked_tree w.program ≡ p = ap checked_tree on.program in
      let own : List Step = entry_steps p entry w.scene in
      let rest : Scene → List Step = λ s. steps_on p to (drop (i + 1) entries) s in
      let now : after.scene ≡ external p entry w.scene = ap (λ (v : WorldView). v.scene) is ∙ ap (λ (q : ProgramTree). external q entry w.scene) same in
      record {
        program = ap (λ (v : WorldView). v.program) is ∙ on.program;
        whole = ap (λ (v : WorldView). v.broken) is ∙ on.whole;
        rises = subst (λ (t : ℕ). TimesRiseAfter t (drop (i + 1) entries)) (sym at) nearer.1;
        told =
            ap (λ (t : List ℕ). t ++ steps_text classes from (rest after.scene)) grew
            ∙ ap (λ (s : Scene). text ++ steps_text classes from (entry_steps (checked_tree w.program) entry w.scene) ++ steps_text classes from (rest s)) now
            ∙ ap (λ (q : ProgramTree). text ++ steps_text classes from (entry_steps q entry w.scene) ++ steps_text classes from (rest (external p entry w.scene))) same
            ∙ append_assoc text (steps_text classes from own) (steps_text classes from (rest (external p entry w.scene)))
            ∙ ap (λ (t : List ℕ). text ++ t) (sym (text-append classes from own (rest (external p entry w.scene))))
            ∙ told_with true (le-leb entry.time to le);
      }

-- after the last entry the messages that are due are left
pub log_told : (classes : ProgramTree) (from to i : ℕ) (entries : List Entry) (old : WorldView) (start : List ℕ) (w : WorldView) (text told : List ℕ) → length entries ≤ i → Entered classes from to i entries old start w text
    → told ≡ text ++ steps_text classes from (turns_until (checked_tree w.program) to w.scene) → told ≡ start ++ steps_text classes from (steps_on (checked_tree old.program) to entries old.scene)
log_told classes from to i entries old start w text told all on grew =
    grew
    ∙ ap (λ (p : CheckedView). text ++ steps_text classes from (turns_until (checked_tree p) to w.scene)) on.program
    ∙ ap (λ (rest : List Entry). text ++ steps_text classes from (steps_on (checked_tree old.program) to rest w.scene)) (sym (drop_all i entries all))
    ∙ on.told

pub log_told_ok : {X E : Type 0} (r : Result X E) (classes : ProgramTree) (from to i : ℕ) (entries : List Entry) (old : WorldView) (start : List ℕ) (w : WorldView) (text told : List ℕ) → length entries ≤ i → Entered classes from to i entries old start w text
    → OnOk r (told ≡ text ++ steps_text classes from (turns_until (checked_tree w.program) to w.scene)) → OnOk r (told ≡ start ++ steps_text classes from (steps_on (checked_tree old.program) to entries old.scene))
log_told_ok (Ok x) classes from to i entries old start w text told all on grew = log_told classes from to i entries old start w text told all on grew
log_told_ok (Err e) classes from to i entries old start w text told all on grew = tt

-- ---- the first message

no_faults : (root : Option (ℕ × ClassTree)) (w : WorldRecord) → (begun_with root w).faults ≡ w.faults
no_faults None w = refl
no_faults (Some root) w = refl

module _ (founding : Founding) (id : List ℕ) (from : ℕ) (text : List ℕ) where
  begun-faults : replicate 14 0 ≡ (begun founding id).world.faults
  begun-faults = sym (no_faults (root_from 0 founding.tree) (with_next_turn (empty_world founding.persisted id)))

  abbrev TellsFirst : Option PlainRan → List ℕ → Type 0
  TellsFirst ran told = told ≡ text ++ steps_text founding.tree from (first_step founding id ran)

  abbrev opening : PlainRan → Step
  opening ran = record { ran = OfMessage ran; before = (begun founding id).world; after = (first_scene founding id).world }

  pub no_first : None ≡ first_ran founding → TellsFirst (first_ran founding) text
  no_first is = subst (λ (ran : Option PlainRan). TellsFirst ran text) is (sym (append-nil text))

  pub first_told : (ran : PlainRan) (s : Scene) (lined told last : List ℕ) → Some ran ≡ first_ran founding → from ≤ ran.time → s ≡ first_scene founding id → last ≡ s.world.faults
      → lined ≡ text ++ message_line founding.tree ran → told ≡ lined ++ raised_lines fault_words (replicate 14 0) last → TellsFirst (first_ran founding) told
  first_told ran s lined told last is le begins ends line raised =
      subst (λ (r : Option PlainRan). TellsFirst r told) is
      (told_step founding.tree from (opening ran) text lined told le line
      (raised ∙ ap (λ (b : List ℕ). lined ++ raised_lines fault_words b last) begun-faults
      ∙ ap (λ (a : List ℕ). lined ++ raised_lines fault_words (begun founding id).world.faults a) (ends ∙ ap (λ (u : Scene). u.world.faults) begins)))

  pub first_passed : (ran : PlainRan) → Some ran ≡ first_ran founding → ran.time < from → TellsFirst (first_ran founding) text
  first_passed ran is lt = subst (λ (r : Option PlainRan). TellsFirst r text) is (passed_step founding.tree from (opening ran) text lt)

-- the first message, and then the log
pub trace_told : (founding : Founding) (id : List ℕ) (entries : List Entry) (from to : ℕ) (empty first told : List ℕ) → empty ≡ [] → first ≡ empty ++ steps_text founding.tree from (first_steps founding id)
    → told ≡ first ++ steps_text founding.tree from (steps_on founding.tree to entries (first_scene founding id)) → told ≡ trace_text founding id entries from to
trace_told founding id entries from to empty first told none begins goes =
    goes
    ∙ ap (λ (t : List ℕ). t ++ steps_text founding.tree from (steps_on founding.tree to entries (first_scene founding id))) (begins ∙ ap (λ (e : List ℕ). e ++ steps_text founding.tree from (first_steps founding id)) none)
    ∙ sym (text-append founding.tree from (first_steps founding id) (steps_on founding.tree to entries (first_scene founding id)))
