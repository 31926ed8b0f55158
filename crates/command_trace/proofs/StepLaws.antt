-- Turns and entries one after the other, and the text of what ran.
use Rattle.std.proofs.Common.{◌≡◌, ℕ, zero, suc, ◌<◌, ◌≤◌, Bool, true, false, cond, if◌then◌else◌, nat_le, nat_lt, List, [], ◌∷◌, ◌++◌, length, get_or, drop, ◌+◌, Option, Some, None, refl, sym, ap, ◌∙◌, subst, append_assoc, append-nil, arith}
use Rattle.std.specs.Prelude.{flat_map, is_some}
use Rattle.std.specs.List.{filter}
use Rattle.std.proofs.lemmas.Bool.{le-leb, lt-leb}
use Rattle.std.proofs.lemmas.Grind.{flat_map-append}
use Rattle.std.proofs.lemmas.List.{drop_more}
use Rattle.text_lines.specs.Lines.{LineWord}
use Rattle.std.proofs.lemmas.List.Elements.{filter-append}
use Rattle.tea_base.specs.declared.entry.Entry.{Entry}
use Rattle.model_tree.specs.Tree.{ProgramTree}
use Rattle.model_solved.specs.Founding.{CheckedView, checked_tree}
use Rattle.model_solved.specs.Methods.{field_counts}
use Rattle.world_plain.specs.World.{WorldRecord}
use Rattle.world_plain.specs.Valid.{Valid}
use Rattle.world.specs.declared.told.HeardEvent.{HeardEvent}
use Rattle.world.specs.View.{WorldView, IsSoundWorld}
use Rattle.world.specs.Worlds.{Scene, enough, advance, external}
use Rattle.world.specs.Turns.{PlainRan, next_ran, after_turn, heard_of}
use Rattle.world.proofs.Running.{Fits}
use Rattle.world.proofs.Turn.{program-fits}
use Rattle.world.proofs.TurnLaws.{turn-keeps, turn-nearer, turn-goes_on, turn-early, turn-rests, turn-stays}
use Rattle.world.proofs.ByWorld.{arrived}
use Rattle.command_trace.specs.Steps.{OfMessage, OfEntry, Step, time_of, turn_steps, then_turns, turns_within, turns_until, entry_steps}
use Rattle.command_trace.specs.TraceText.{message_line, entry_line, raised_line, raised_lines, fault_words, ran_line, step_text, steps_text}

-- ---- turns

module _ (counts : List ℕ) (program : ProgramTree) (t : ℕ) (fits : Fits counts program) where
  same_by : (n k : ℕ) (s : Scene) (r : Option PlainRan) → next_ran t s.world ≡ r → Valid counts s.world
      → ((u : Scene) → Valid counts u.world → enough t u.world < enough t s.world → turns_within program n t u ≡ turns_within program k t u)
      → then_turns program t (turns_within program n t) r s ≡ then_turns program t (turns_within program k t) r s
  same_by n k s None e v same = refl
  same_by n k s (Some ran) e v same =
      ap (λ (rest : List Step). turn_steps program t (Some ran) s ++ rest) (same (after_turn program t s) (turn-keeps counts program t fits s v) (turn-nearer counts program t fits s ran e v))

  nothing_runs : (s : Scene) (r : Option PlainRan) → next_ran t s.world ≡ r → Valid counts s.world → enough t s.world ≤ 0 → (more : Scene → List Step) → then_turns program t more r s ≡ []
  nothing_runs s None e v none more = refl
  nothing_runs s (Some ran) e v none more = absurd (omega (arith, none, turn-nearer counts program t fits s ran e v))

  within-enough : (n k : ℕ) (s : Scene) → Valid counts s.world → enough t s.world ≤ n → enough t s.world ≤ k → turns_within program n t s ≡ turns_within program k t s
  within-enough zero zero s v a b = refl
  within-enough zero (suc k) s v a b = sym (nothing_runs s (next_ran t s.world) refl v a (turns_within program k t))
  within-enough (suc n) zero s v a b = nothing_runs s (next_ran t s.world) refl v b (turns_within program n t)
  within-enough (suc n) (suc k) s v a b =
      same_by n k s (next_ran t s.world) refl v (λ u valid less. within-enough n k u valid (omega (arith, a, less)) (omega (arith, b, less)))

  step : (s : Scene) (r : Option PlainRan) → next_ran t s.world ≡ r → Valid counts s.world → then_turns program t (turns_within program (enough t s.world) t) r s ≡ then_turns program t (turns_until program t) r s
  step s None e v = refl
  step s (Some ran) e v =
      let u : Scene = after_turn program t s in
      ap (λ (rest : List Step). turn_steps program t (Some ran) s ++ rest)
      (within-enough (enough t s.world) (enough t u.world) u (turn-keeps counts program t fits s v) (omega (arith, turn-nearer counts program t fits s ran e v)) (omega arith))

  -- one turn, and then those that are left
  pub turns-step : (s : Scene) → Valid counts s.world → turns_until program t s ≡ then_turns program t (turns_until program t) (next_ran t s.world) s
  turns-step s v =
      within-enough (enough t s.world) (suc (enough t s.world)) s v (omega arith) (omega arith) ∙ step s (next_ran t s.world) refl v

-- ---- texts

pub text-append : (program : ProgramTree) (from : ℕ) (xs ys : List Step) → steps_text program from (xs ++ ys) ≡ steps_text program from xs ++ steps_text program from ys
text-append program from xs ys =
    ap (flat_map (step_text program)) (filter-append (λ (s : Step). nat_le from (time_of s.ran)) xs ys)
    ∙ flat_map-append (step_text program) (filter (λ (s : Step). nat_le from (time_of s.ran)) xs) (filter (λ (s : Step). nat_le from (time_of s.ran)) ys)

one_by : (program : ProgramTree) (step : Step) (b : Bool) → flat_map (step_text program) (cond b (step ∷ []) []) ≡ cond b (step_text program step) []
one_by program step true = append-nil (step_text program step)
one_by program step false = refl

-- a step that is not before the time, and one that is
pub text-of : (program : ProgramTree) (from : ℕ) (step : Step) → from ≤ time_of step.ran → steps_text program from (step ∷ []) ≡ step_text program step
text-of program from step le = one_by program step (nat_le from (time_of step.ran)) ∙ ap (λ b. cond b (step_text program step) []) (le-leb from (time_of step.ran) le)

pub text-before : (program : ProgramTree) (from : ℕ) (step : Step) → time_of step.ran < from → steps_text program from (step ∷ []) ≡ []
text-before program from step lt = one_by program step (nat_le from (time_of step.ran)) ∙ ap (λ b. cond b (step_text program step) []) (lt-leb from (time_of step.ran) lt)

-- one kind of fault more
pub raised_on : (kinds : List LineWord) (befores afters : List ℕ) (i : ℕ) (kind : LineWord) (b a : ℕ) (before after whole : List ℕ) → i < length kinds → i < length befores → i < length afters → kind ≡ get_or kinds i [] → b ≡ get_or befores i 0 → a ≡ get_or afters i 0
    → after ≡ before ++ raised_line kind b a → before ++ raised_lines (drop i kinds) (drop i befores) (drop i afters) ≡ whole
    → after ++ raised_lines (drop (i + 1) kinds) (drop (i + 1) befores) (drop (i + 1) afters) ≡ whole
raised_on kinds befores afters i kind b a before after whole lt within inside is first last grew led =
    let ks : List LineWord = drop (i + 1) kinds in
    let bs : List ℕ = drop (i + 1) befores in
    let as_ : List ℕ = drop (i + 1) afters in
    let kinds_are : drop i kinds ≡ kind ∷ ks = drop_more kinds i [] lt ∙ ap (λ (k : LineWord). k ∷ ks) (sym is) in
    let befores_are : drop i befores ≡ b ∷ bs = drop_more befores i 0 within ∙ ap (λ (n : ℕ). n ∷ bs) (sym first) in
    let afters_are : drop i afters ≡ a ∷ as_ = drop_more afters i 0 inside ∙ ap (λ (n : ℕ). n ∷ as_) (sym last) in
    ap (λ (t : List ℕ). t ++ raised_lines ks bs as_) grew
    ∙ append_assoc before (raised_line kind b a) (raised_lines ks bs as_)
    ∙ ap (λ (t : List ℕ). before ++ t)
    (sym
    (ap (λ (xs : List LineWord). raised_lines xs (drop i befores) (drop i afters)) kinds_are
    ∙ ap (λ (xs : List ℕ). raised_lines (kind ∷ ks) xs (drop i afters)) befores_are
    ∙ ap (λ (xs : List ℕ). raised_lines (kind ∷ ks) (b ∷ bs) xs) afters_are))
    ∙ led

-- ---- one step more

pub told_step : (program : ProgramTree) (from : ℕ) (step : Step) (text lined told : List ℕ) → from ≤ time_of step.ran → lined ≡ text ++ ran_line program step.ran → told ≡ lined ++ raised_lines fault_words step.before.faults step.after.faults
    → told ≡ text ++ steps_text program from (step ∷ [])
told_step program from step text lined told le line raised =
    let faults : List ℕ = raised_lines fault_words step.before.faults step.after.faults in
    raised
    ∙ ap (λ (t : List ℕ). t ++ faults) line
    ∙ append_assoc text (ran_line program step.ran) faults
    ∙ ap (λ (t : List ℕ). text ++ t) (sym (text-of program from step le))

pub passed_step : (program : ProgramTree) (from : ℕ) (step : Step) (text : List ℕ) → time_of step.ran < from → text ≡ text ++ steps_text program from (step ∷ [])
passed_step program from step text lt = sym (ap (λ (t : List ℕ). text ++ t) (text-before program from step lt) ∙ append-nil text)

-- ---- one turn

abbrev pub turn_of : ProgramTree → ℕ → PlainRan → Scene → Step
turn_of program t ran s = record { ran = OfMessage ran; before = s.world; after = (after_turn program t s).world }

module _ (classes program : ProgramTree) (from t : ℕ) (s : Scene) (text : List ℕ) where
  abbrev Tells : Option PlainRan → List ℕ → Type 0
  Tells r told = told ≡ text ++ steps_text classes from (turn_steps program t r s)

  pub no_turn : None ≡ next_ran t s.world → Tells (next_ran t s.world) text
  no_turn is = subst (λ (r : Option PlainRan). Tells r text) is (sym (append-nil text))

  pub turn_told : (ran : PlainRan) (lined told before after : List ℕ) → Some ran ≡ next_ran t s.world → from ≤ ran.time → before ≡ s.world.faults → after ≡ (after_turn program t s).world.faults
      → lined ≡ text ++ message_line classes ran → told ≡ lined ++ raised_lines fault_words before after → Tells (next_ran t s.world) told
  turn_told ran lined told before after is le first last line raised =
      subst (λ (r : Option PlainRan). Tells r told) is
      (told_step classes from (turn_of program t ran s) text lined told le line
      (raised ∙ ap (λ (b : List ℕ). lined ++ raised_lines fault_words b after) first ∙ ap (λ (a : List ℕ). lined ++ raised_lines fault_words s.world.faults a) last))

  pub turn_passed : (ran : PlainRan) → Some ran ≡ next_ran t s.world → ran.time < from → Tells (next_ran t s.world) text
  turn_passed ran is lt = subst (λ (r : Option PlainRan). Tells r text) is (passed_step classes from (turn_of program t ran s) text lt)

-- ---- turns one after the other

-- what is so after some turns
pub record Turns (classes : ProgramTree) (from until : ℕ) (old : WorldView) (start : List ℕ) (w : WorldView) (text : List ℕ) : Type 0 where
  pub program : w.program ≡ old.program
  pub whole : w.broken ≡ false
  pub goes_on : advance (checked_tree old.program) until w.scene ≡ advance (checked_tree old.program) until old.scene
  pub early : old.scene.world.time ≤ until → w.scene.world.time ≤ until
  pub told : text ++ steps_text classes from (turns_until (checked_tree old.program) until w.scene) ≡ start ++ steps_text classes from (turns_until (checked_tree old.program) until old.scene)

none_is : (r : Option PlainRan) → false ≡ is_some r → r ≡ None
none_is None h = refl
none_is (Some ran) h = cc

pub no_turns : (classes : ProgramTree) (from until : ℕ) (old : WorldView) (start : List ℕ) → old.broken ≡ false → Turns classes from until old start old start
no_turns classes from until old start whole = record { program = refl; whole = whole; goes_on = refl; early = λ le. le; told = refl }

module _ (classes : ProgramTree) (from until : ℕ) (old w : WorldView) (start text : List ℕ) (on : Turns classes from until old start w text) (sound : IsSoundWorld w) where
  same : checked_tree w.program ≡ checked_tree old.program
  same = ap checked_tree on.program

  fits : Fits (field_counts (checked_tree w.program)) (checked_tree w.program)
  fits = program-fits (checked_tree w.program) sound.program.program

  valid : Valid (field_counts (checked_tree w.program)) w.scene.world
  valid = sound.valid on.whole

  -- the text of a turn and of those after it
  more : (r : Option PlainRan) → next_ran until w.scene.world ≡ r → true ≡ is_some r
      → steps_text classes from (turn_steps (checked_tree w.program) until r w.scene) ++ steps_text classes from (turns_until (checked_tree w.program) until (after_turn (checked_tree w.program) until w.scene))
      ≡ steps_text classes from (turns_until (checked_tree w.program) until w.scene)
  more None e h = cc
  more (Some ran) e h =
      let p = checked_tree w.program in
      sym (text-append classes from (turn_steps p until (Some ran) w.scene) (turns_until p until (after_turn p until w.scene)))
      ∙ ap (steps_text classes from) (sym (turns-step (field_counts p) p until fits w.scene valid ∙ ap (λ (r : Option PlainRan). then_turns p until (turns_until p until) r w.scene) e))

  last : (r : Option PlainRan) → next_ran until w.scene.world ≡ r → false ≡ is_some r
      → steps_text classes from (turn_steps (checked_tree w.program) until r w.scene) ≡ steps_text classes from (turns_until (checked_tree w.program) until w.scene)
  last None e h =
      let p = checked_tree w.program in
      ap (steps_text classes from) (sym (turns-step (field_counts p) p until fits w.scene valid ∙ ap (λ (r : Option PlainRan). then_turns p until (turns_until p until) r w.scene) e))
  last (Some ran) e h = cc

  nearer : (r : Option PlainRan) → next_ran until w.scene.world ≡ r → true ≡ is_some r → enough until (after_turn (checked_tree w.program) until w.scene).world < enough until w.scene.world
  nearer None e h = cc
  nearer (Some ran) e h = turn-nearer (field_counts (checked_tree w.program)) (checked_tree w.program) until fits w.scene ran e valid

  module _ (after : WorldView) (told : List ℕ) (ran : Bool) (moved : after ≡ record w { scene = after_turn (checked_tree w.program) until w.scene }) (is : ran ≡ is_some (next_ran until w.scene.world))
      (grew : told ≡ text ++ steps_text classes from (turn_steps (checked_tree w.program) until (next_ran until w.scene.world) w.scene)) where
    scene-is : after.scene ≡ after_turn (checked_tree w.program) until w.scene
    scene-is = ap (λ (v : WorldView). v.scene) moved

    went_on : advance (checked_tree old.program) until after.scene ≡ advance (checked_tree old.program) until old.scene
    went_on =
        ap (advance (checked_tree old.program) until) scene-is
        ∙ subst (λ (p : ProgramTree). advance p until (after_turn (checked_tree w.program) until w.scene) ≡ advance p until w.scene) same
        (turn-goes_on (field_counts (checked_tree w.program)) (checked_tree w.program) until fits w.scene valid)
        ∙ on.goes_on

    earlier : old.scene.world.time ≤ until → after.scene.world.time ≤ until
    earlier le =
        subst (λ (s : Scene). s.world.time ≤ until) (sym scene-is) (turn-early (field_counts (checked_tree w.program)) (checked_tree w.program) until fits w.scene (on.early le))

    -- one turn more
    pub one_more : ran ≡ true → Turns classes from until old start after told
    one_more due = record {
      program = ap (λ (v : WorldView). v.program) moved ∙ on.program;
      whole = ap (λ (v : WorldView). v.broken) moved ∙ on.whole;
      goes_on = went_on;
      early = earlier;
      told =
          let p = checked_tree w.program in
          let step : List ℕ = steps_text classes from (turn_steps p until (next_ran until w.scene.world) w.scene) in
          ap (λ (t : List ℕ). t ++ steps_text classes from (turns_until (checked_tree old.program) until after.scene)) grew
          ∙ ap (λ (s : Scene). text ++ step ++ steps_text classes from (turns_until (checked_tree old.program) until s)) scene-is
          ∙ ap (λ (q : ProgramTree). text ++ step ++ steps_text classes from (turns_until q until (after_turn p until w.scene))) (sym same)
          ∙ append_assoc text step (steps_text classes from (turns_until p until (after_turn p until w.scene)))
          ∙ ap (λ (t : List ℕ). text ++ t) (more (next_ran until w.scene.world) refl (sym due ∙ is))
          ∙ ap (λ (q : ProgramTree). text ++ steps_text classes from (turns_until q until w.scene)) same
          ∙ on.told;
    }

    pub fewer : ran ≡ true → enough until after.scene.world < enough until w.scene.world
    fewer due = subst (λ (s : Scene). enough until s.world < enough until w.scene.world) (sym scene-is) (nearer (next_ran until w.scene.world) refl (sym due ∙ is))

    -- no more is due
    stays : ran ≡ false → after.scene ≡ w.scene
    stays over = scene-is ∙ turn-stays (checked_tree w.program) until w.scene (none_is (next_ran until w.scene.world) (sym over ∙ is))

    pub at_rest : ran ≡ false → next_ran until after.scene.world ≡ None
    at_rest over = ap (λ (s : Scene). next_ran until s.world) (stays over) ∙ none_is (next_ran until w.scene.world) (sym over ∙ is)

    pub all_told : ran ≡ false → told ≡ start ++ steps_text classes from (turns_until (checked_tree old.program) until old.scene)
    all_told over =
        grew
        ∙ ap (λ (t : List ℕ). text ++ t) (last (next_ran until w.scene.world) refl (sym over ∙ is))
        ∙ ap (λ (q : ProgramTree). text ++ steps_text classes from (turns_until q until w.scene)) same
        ∙ on.told

    pub goes_the_same : advance (checked_tree old.program) until after.scene ≡ advance (checked_tree old.program) until old.scene
    goes_the_same = went_on

    pub comes_early : old.scene.world.time ≤ until → after.scene.world.time ≤ until
    comes_early = earlier

    pub is_kept : (after.program ≡ old.program) × (after.broken ≡ false)
    is_kept = (ap (λ (v : WorldView). v.program) moved ∙ on.program, ap (λ (v : WorldView). v.broken) moved ∙ on.whole)

-- ---- an entry

faults_if : (later : Bool) (t : ℕ) (w : WorldRecord) → (if later then record w { time = t; turns = 0 } else w).faults ≡ w.faults
faults_if true t w = refl
faults_if false t w = refl

-- a world at rest, before an entry: it is that to which the one before it advances, but for its time
module _ (classes : ProgramTree) (from : ℕ) (entry : Entry) (old w : WorldView) (kept : (w.program ≡ old.program) × (w.broken ≡ false)) (whole : old.broken ≡ false)
    (goes_on : advance (checked_tree old.program) entry.time w.scene ≡ advance (checked_tree old.program) entry.time old.scene) where
  same_tree : checked_tree w.program ≡ checked_tree old.program
  same_tree = ap checked_tree kept.0

  entered-is : external (checked_tree w.program) entry w.scene ≡ external (checked_tree old.program) entry old.scene
  entered-is = ap (λ (p : ProgramTree). external p entry w.scene) same_tree ∙ ap (arrived (checked_tree old.program) entry) goes_on

  pub entered_on : (after : WorldView) → after ≡ record w { scene = external (checked_tree w.program) entry w.scene } → after ≡ record old { scene = external (checked_tree old.program) entry old.scene }
  entered_on after is =
      is
      ∙ ap (λ (s : Scene). record w { scene = s }) entered-is
      ∙ ap (λ (p : CheckedView). record { program = p; scene = external (checked_tree old.program) entry old.scene; broken = w.broken }) kept.0
      ∙ ap (λ (b : Bool). record { program = old.program; scene = external (checked_tree old.program) entry old.scene; broken = b }) (kept.1 ∙ sym whole)

  heard-is : (heard : Option HeardEvent) → heard ≡ heard_of (advance (checked_tree w.program) entry.time w.scene).world entry.view entry.what → heard ≡ heard_of (advance (checked_tree old.program) entry.time old.scene).world entry.view entry.what
  heard-is heard is =
      is
      ∙ ap (λ (p : ProgramTree). heard_of (advance p entry.time w.scene).world entry.view entry.what) same_tree
      ∙ ap (λ (s : Scene). heard_of s.world entry.view entry.what) goes_on

  before-is : IsSoundWorld w → next_ran entry.time w.scene.world ≡ None → w.scene.world.faults ≡ (advance (checked_tree old.program) entry.time old.scene).world.faults
  before-is sound rests =
      let p = checked_tree w.program in
      sym (ap (λ (s : Scene). s.world.faults) (turn-rests (field_counts p) p entry.time (program-fits p sound.program.program) w.scene (sound.valid kept.1) rests) ∙ faults_if (nat_lt w.scene.world.time entry.time) entry.time w.scene.world)
      ∙ ap (λ (q : ProgramTree). (advance q entry.time w.scene).world.faults) same_tree
      ∙ ap (λ (s : Scene). s.world.faults) goes_on

  abbrev entry_of : Step
  entry_of =
      let before = (advance (checked_tree old.program) entry.time old.scene).world in
      record { ran = OfEntry entry (heard_of before entry.view entry.what); before = before; after = (external (checked_tree old.program) entry old.scene).world }

  module _ (start turned : List ℕ) (turns : turned ≡ start ++ steps_text classes from (turns_until (checked_tree old.program) entry.time old.scene)) where
    joined : (told : List ℕ) → told ≡ turned ++ steps_text classes from (entry_of ∷ []) → told ≡ start ++ steps_text classes from (entry_steps (checked_tree old.program) entry old.scene)
    joined told is =
        let all : List Step = turns_until (checked_tree old.program) entry.time old.scene in
        is
        ∙ ap (λ (t : List ℕ). t ++ steps_text classes from (entry_of ∷ [])) turns
        ∙ append_assoc start (steps_text classes from all) (steps_text classes from (entry_of ∷ []))
        ∙ ap (λ (t : List ℕ). start ++ t) (sym (text-append classes from all (entry_of ∷ [])))

    pub entry_told : (after : WorldView) (heard : Option HeardEvent) (lined told first last : List ℕ) → IsSoundWorld w → next_ran entry.time w.scene.world ≡ None → from ≤ entry.time
        → after ≡ record w { scene = external (checked_tree w.program) entry w.scene } → heard ≡ heard_of (advance (checked_tree w.program) entry.time w.scene).world entry.view entry.what
        → first ≡ w.scene.world.faults → last ≡ after.scene.world.faults → lined ≡ turned ++ entry_line entry heard → told ≡ lined ++ raised_lines fault_words first last
        → told ≡ start ++ steps_text classes from (entry_steps (checked_tree old.program) entry old.scene)
    entry_told after heard lined told first last sound rests le moved is begins ends line raised =
        joined told
        (told_step classes from entry_of turned lined told le (line ∙ ap (λ (h : Option HeardEvent). turned ++ entry_line entry h) (heard-is heard is))
        (raised
        ∙ ap (λ (b : List ℕ). lined ++ raised_lines fault_words b last) (begins ∙ before-is sound rests)
        ∙ ap (λ (a : List ℕ). lined ++ raised_lines fault_words (advance (checked_tree old.program) entry.time old.scene).world.faults a) (ends ∙ ap (λ (v : WorldView). v.scene.world.faults) (entered_on after moved))))

    pub entry_passed : entry.time < from → turned ≡ start ++ steps_text classes from (entry_steps (checked_tree old.program) entry old.scene)
    entry_passed lt = joined turned (passed_step classes from entry_of turned lt)
