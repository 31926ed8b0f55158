-- The steps of a recorded session are those of its replay.
use Rattle.std.proofs.Common.{◌≡◌, ℕ, zero, suc, ◌<◌, ◌≤◌, Bool, true, false, if◌then◌else◌, nat_le, List, [], ◌∷◌, ◌++◌, Option, Some, None, refl, sym, ap, ◌∙◌, subst, arith}
use Rattle.std.specs.List.{filter}
use Rattle.tea_base.specs.Legal.{IsLegal, IsLegalAfter}
use Rattle.tea_base.specs.declared.entry.Entry.{Entry}
use Rattle.model_tree.specs.Tree.{ProgramTree}
use Rattle.model_tree.specs.Program.{IsProgram}
use Rattle.model_solved.specs.Methods.{field_counts}
use Rattle.world_plain.specs.World.{WorldRecord}
use Rattle.world_plain.specs.Valid.{Valid}
use Rattle.world.specs.Worlds.{Scene, Founding, IsFounding, first_scene, at_later_time, enough, advance, external, replay, replay_from}
use Rattle.world.specs.Turns.{PlainRan, next_ran, after_turn, begun, first_ran, after_first, heard_of}
use Rattle.world.proofs.Running.{Fits}
use Rattle.world.proofs.Turn.{program-fits}
use Rattle.world.proofs.TurnLaws.{turn-keeps, turn-nearer, turn-goes_on, turn-rests, first-opens}
use Rattle.world.proofs.Entries.{external-valid}
use Rattle.world.proofs.FirstWorld.{first-valid}
use Rattle.command_trace.specs.Steps.{Ran, OfMessage, OfEntry, Step, then_turns, turns_within, turns_until, entry_steps, steps_on, first_step, first_steps, steps, left_by, world_before, AreChained, with_entry, entries_in}

-- ---- some steps, and then more

left-append : (w : WorldRecord) (xs ys : List Step) → left_by w (xs ++ ys) ≡ left_by (left_by w xs) ys
left-append w [] ys = refl
left-append w (x ∷ xs) ys = left-append x.after xs ys

chain-append : (w : WorldRecord) (xs ys : List Step) → AreChained w xs → AreChained (left_by w xs) ys → AreChained w (xs ++ ys)
chain-append w [] ys front back = back
chain-append w (x ∷ xs) ys front back = (front.0, chain-append x.after xs ys front.1 back)

entry-append : (ran : Ran) (es fs : List Entry) → with_entry ran (es ++ fs) ≡ with_entry ran es ++ fs
entry-append (OfMessage ran) es fs = refl
entry-append (OfEntry entry heard) es fs = refl

entries-append : (xs ys : List Step) → entries_in (xs ++ ys) ≡ entries_in xs ++ entries_in ys
entries-append [] ys = refl
entries-append (x ∷ xs) ys = ap (with_entry x.ran) (entries-append xs ys) ∙ entry-append x.ran (entries_in xs) (entries_in ys)

-- ---- turns

module _ (program : ProgramTree) (t : ℕ) where
  chained_by : (n : ℕ) (s : Scene) (r : Option PlainRan) → AreChained (after_turn program t s).world (turns_within program n t (after_turn program t s)) → AreChained s.world (then_turns program t (turns_within program n t) r s)
  chained_by n s None more = tt
  chained_by n s (Some ran) more = (refl, more)

  turns-chained : (n : ℕ) (s : Scene) → AreChained s.world (turns_within program n t s)
  turns-chained zero s = tt
  turns-chained (suc n) s = chained_by n s (next_ran t s.world) (turns-chained n (after_turn program t s))

  no_entries_by : (n : ℕ) (s : Scene) (r : Option PlainRan) → entries_in (turns_within program n t (after_turn program t s)) ≡ [] → entries_in (then_turns program t (turns_within program n t) r s) ≡ []
  no_entries_by n s None more = refl
  no_entries_by n s (Some ran) more = more

  -- no entry is among messages
  no-entries : (n : ℕ) (s : Scene) → entries_in (turns_within program n t s) ≡ []
  no-entries zero s = refl
  no-entries (suc n) s = no_entries_by n s (next_ran t s.world) (no-entries n (after_turn program t s))

module _ (counts : List ℕ) (program : ProgramTree) (t : ℕ) (fits : Fits counts program) where
  -- what these turns leave is what the advance comes to, but for its time
  abbrev Leaves : ℕ → Scene → Type 0
  Leaves n s = at_later_time t (left_by s.world (turns_within program n t s)) ≡ (advance program t s).world

  none_left : (s : Scene) (r : Option PlainRan) → next_ran t s.world ≡ r → Valid counts s.world → enough t s.world ≤ 0 → Leaves 0 s
  none_left s None e v none = sym (ap (λ (u : Scene). u.world) (turn-rests counts program t fits s v e))
  none_left s (Some ran) e v none = absurd (omega (arith, none, turn-nearer counts program t fits s ran e v))

  left_by_turn : (n : ℕ) (s : Scene) (r : Option PlainRan) → next_ran t s.world ≡ r → Valid counts s.world → ((u : Scene) → Valid counts u.world → enough t u.world < enough t s.world → Leaves n u)
      → at_later_time t (left_by s.world (then_turns program t (turns_within program n t) r s)) ≡ (advance program t s).world
  left_by_turn n s None e v later = sym (ap (λ (u : Scene). u.world) (turn-rests counts program t fits s v e))
  left_by_turn n s (Some ran) e v later =
      later (after_turn program t s) (turn-keeps counts program t fits s v) (turn-nearer counts program t fits s ran e v) ∙ ap (λ (u : Scene). u.world) (turn-goes_on counts program t fits s v)

  turns-left : (n : ℕ) (s : Scene) → Valid counts s.world → enough t s.world ≤ n → Leaves n s
  turns-left zero s v few = none_left s (next_ran t s.world) refl v few
  turns-left (suc n) s v few = left_by_turn n s (next_ran t s.world) refl v (λ u valid less. turns-left n u valid (omega (arith, few, less)))

  until-left : (s : Scene) → Valid counts s.world → at_later_time t (left_by s.world (turns_until program t s)) ≡ (advance program t s).world
  until-left s v = turns-left (enough t s.world) s v (omega arith)

-- ---- entries

module _ (program : ProgramTree) (e : Entry) (s : Scene) where
  abbrev entered : Step
  entered =
      let before = (advance program e.time s).world in
      record { ran = OfEntry e (heard_of before e.view e.what); before = before; after = (external program e s).world }

  entry-left : left_by s.world (entry_steps program e s) ≡ (external program e s).world
  entry-left = left-append s.world (turns_until program e.time s) (entered ∷ [])

  entry-chained : (counts : List ℕ) → Fits counts program → Valid counts s.world → AreChained s.world (entry_steps program e s)
  entry-chained counts fits v =
      chain-append s.world (turns_until program e.time s) (entered ∷ []) (turns-chained program e.time (enough e.time s.world) s) (sym (until-left counts program e.time fits s v), tt)

  entry-in : entries_in (entry_steps program e s) ≡ e ∷ []
  entry-in = entries-append (turns_until program e.time s) (entered ∷ []) ∙ ap (λ (es : List Entry). es ++ e ∷ []) (no-entries program e.time (enough e.time s.world) s)

module _ (program : ProgramTree) (is : IsProgram program) (t : ℕ) where
  abbrev counts : List ℕ
  counts = field_counts program

  fits : Fits counts program
  fits = program-fits program is

  left_if : (b : Bool) (e : Entry) (es : List Entry) (s : Scene)
      → at_later_time t (left_by (external program e s).world (steps_on program t es (external program e s))) ≡ (replay_from program t es (external program e s)).world
      → at_later_time t (left_by s.world (steps_on program t es s)) ≡ (replay_from program t es s).world
      → at_later_time t (left_by s.world (if b then entry_steps program e s ++ steps_on program t es (external program e s) else steps_on program t es s))
      ≡ (replay_from program t es (if b then external program e s else s)).world
  left_if true e es s handled passed =
      let more : List Step = steps_on program t es (external program e s) in
      ap (at_later_time t) (left-append s.world (entry_steps program e s) more ∙ ap (λ (w : WorldRecord). left_by w more) (entry-left program e s)) ∙ handled
  left_if false e es s handled passed = passed

  steps-left : (before es : List Entry) (s : Scene) → IsLegalAfter before es → Valid counts s.world → at_later_time t (left_by s.world (steps_on program t es s)) ≡ (replay_from program t es s).world
  steps-left before [] s legal v = until-left counts program t fits s v
  steps-left before (e ∷ es) s legal v =
      left_if (nat_le e.time t) e es s (steps-left (before ++ e ∷ []) es (external program e s) legal.1 (external-valid counts program e s fits legal.0.time_bound v)) (steps-left (before ++ e ∷ []) es s legal.1 v)

  chained_if : (b : Bool) (e : Entry) (es : List Entry) (s : Scene) → Valid counts s.world → AreChained (external program e s).world (steps_on program t es (external program e s)) → AreChained s.world (steps_on program t es s)
      → AreChained s.world (if b then entry_steps program e s ++ steps_on program t es (external program e s) else steps_on program t es s)
  chained_if true e es s v handled passed =
      let more : List Step = steps_on program t es (external program e s) in
      chain-append s.world (entry_steps program e s) more (entry-chained program e s counts fits v) (subst (λ (w : WorldRecord). AreChained w more) (sym (entry-left program e s)) handled)
  chained_if false e es s v handled passed = passed

  steps-chained : (before es : List Entry) (s : Scene) → IsLegalAfter before es → Valid counts s.world → AreChained s.world (steps_on program t es s)
  steps-chained before [] s legal v = turns-chained program t (enough t s.world) s
  steps-chained before (e ∷ es) s legal v =
      chained_if (nat_le e.time t) e es s v (steps-chained (before ++ e ∷ []) es (external program e s) legal.1 (external-valid counts program e s fits legal.0.time_bound v)) (steps-chained (before ++ e ∷ []) es s legal.1 v)

module _ (program : ProgramTree) (t : ℕ) where
  abbrev up_to : List Entry → List Entry
  up_to = filter (λ (e : Entry). nat_le e.time t)

  in_by : (e : Entry) (es : List Entry) (s : Scene) (b : Bool) → nat_le e.time t ≡ b → entries_in (steps_on program t es (external program e s)) ≡ up_to es → entries_in (steps_on program t es s) ≡ up_to es
      → entries_in (steps_on program t (e ∷ es) s) ≡ up_to (e ∷ es)
  in_by e es s true at handled passed =
      let more : List Step = steps_on program t es (external program e s) in
      rw at (entries-append (entry_steps program e s) more ∙ ap (λ (fs : List Entry). fs ++ entries_in more) (entry-in program e s) ∙ ap (λ (fs : List Entry). e ∷ fs) handled)
  in_by e es s false at handled passed = rw at passed

  steps-in : (es : List Entry) (s : Scene) → entries_in (steps_on program t es s) ≡ up_to es
  steps-in [] s = no-entries program t (enough t s.world) s
  steps-in (e ∷ es) s = in_by e es s (nat_le e.time t) refl (steps-in es (external program e s)) (steps-in es s)

-- ---- a session

module _ (founding : Founding) (id : List ℕ) where
  first_left : (r : Option PlainRan) → first_ran founding ≡ r → left_by (begun founding id).world (first_step founding id r) ≡ (first_scene founding id).world
  first_left None is = sym (ap (λ (s : Scene). s.world) (first-opens founding id ∙ ap (λ (r : Option PlainRan). after_first founding.tree r (begun founding id)) is))
  first_left (Some ran) is = refl

  first-left : left_by (begun founding id).world (first_steps founding id) ≡ (first_scene founding id).world
  first-left = first_left (first_ran founding) refl

  first_chained : (r : Option PlainRan) → AreChained (begun founding id).world (first_step founding id r)
  first_chained None = tt
  first_chained (Some ran) = (refl, tt)

  first_in : (r : Option PlainRan) → entries_in (first_step founding id r) ≡ []
  first_in None = refl
  first_in (Some ran) = refl

  pub all-in : (entries : List Entry) (t : ℕ) → entries_in (steps founding id entries t) ≡ filter (λ (e : Entry). nat_le e.time t) entries
  all-in entries t =
      let more : List Step = steps_on founding.tree t entries (first_scene founding id) in
      entries-append (first_steps founding id) more ∙ ap (λ (es : List Entry). es ++ entries_in more) (first_in (first_ran founding)) ∙ steps-in founding.tree t entries (first_scene founding id)

  module _ (founded : IsFounding founding) (entries : List Entry) (legal : IsLegal entries) (t : ℕ) where
    abbrev more : List Step
    more = steps_on founding.tree t entries (first_scene founding id)

    valid : Valid (field_counts founding.tree) (first_scene founding id).world
    valid = first-valid founding id founded.persisted (program-fits founding.tree founded.program)

    pub all-left : at_later_time t (left_by (begun founding id).world (steps founding id entries t)) ≡ (replay founding id entries t).world
    all-left =
        ap (at_later_time t) (left-append (begun founding id).world (first_steps founding id) more ∙ ap (λ (w : WorldRecord). left_by w more) first-left)
        ∙ steps-left founding.tree founded.program t [] entries (first_scene founding id) legal valid

    pub all-chained : AreChained (begun founding id).world (steps founding id entries t)
    all-chained =
        chain-append (begun founding id).world (first_steps founding id) more (first_chained (first_ran founding))
        (subst (λ (w : WorldRecord). AreChained w more) (sym first-left) (steps-chained founding.tree founded.program t [] entries (first_scene founding id) legal valid))
