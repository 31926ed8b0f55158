-- The bound on the turns of a loop is never met: each test takes a step of fuel.
use Rattle.std.proofs.Common.{◌≡◌, ℕ, zero, suc, ◌-◌, ◌≤◌, Bool, true, false, List, Option, Some, None, nat_eq, refl, sym, ap, ◌∙◌, arith, if◌then◌else◌}
use Rattle.model_value.specs.Plain.{InBounds}
use Rattle.model_tree.specs.Tree.{Expression, Statements, while, ProgramTree}
use Rattle.model_tree.specs.Bounds.{FewArguments, HasFewArguments, ClassesFit}
use Rattle.model_tree.specs.Names.{HasShortNames, NamesAreShort, ClassNamesAreShort}
use Rattle.world_state.specs.declared.fault.Fault.TheVariants.{Fuel, Depth}
use Rattle.world_state.specs.Running.{Running, Outcome, Gives, Faults, and_then, truth, decide}
use Rattle.model_eval.specs.Meaning.{Here, Local, Flow, next, return_with, follow, block, loop_turns, expression_row, start_by, evaluate, execute, goes_round}
use Rattle.model_solved.specs.Methods.{field_counts}
use Rattle.model_eval.specs.Kept.{CarriesIf}
use Rattle.model_eval.proofs.ValueBounds.{FlowFits}
use Rattle.model_eval.proofs.KeptLaws.{Ready, expression-carries, starting-begins, row-kept, block-carries}

-- where it gives something, at most so much fuel is left
abbrev Within : {A : Type 0} → ℕ → Outcome A → Type 0
Within k (Gives a s) = s.fuel ≤ k
Within k (Faults f s) = Unit {0}

carried-within : {A : Type 0} (H : Type 0) (counts : List ℕ) (P : A → Type 0) (k : ℕ) (r : Running) (o : Outcome A) → CarriesIf H counts P r o → r.fuel ≤ k → Within k o
carried-within H counts P k r (Gives a s) h le = omega (arith, h.0.fuel, le)
carried-within H counts P k r (Faults f s) h le = tt

if_within : {A : Type 0} (k : ℕ) (b : Bool) (r : Running) (o : Outcome A) → Within k o → Within k (if b then Faults Fuel r else o)
if_within k true r o h = tt
if_within k false r o h = h

then_same : {A B : Type 0} (k : ℕ) (o : Outcome A) (f g : A → Running → Outcome B) → Within k o → ((a : A) (r : Running) → r.fuel ≤ k → f a r ≡ g a r) → and_then o f ≡ and_then o g
then_same k (Gives a r) f g h same = same a r h
then_same k (Faults t r) f g h same = refl

follow_same : (k : ℕ) (f g : List Local → Running → Outcome (Flow (List Local))) (flow : Flow (List Local)) (r : Running) → r.fuel ≤ k → ((locals : List Local) (s : Running) → s.fuel ≤ k → f locals s ≡ g locals s) → follow f flow r ≡ follow g flow r
follow_same k f g (next locals) r h same = same locals r h
follow_same k f g (return_with v) r h same = refl

deciding_same : {A : Type 0} (o : Option Bool) (f g : Bool → Running → Outcome A) (r : Running) → ((b : Bool) → f b r ≡ g b r) → decide o f r ≡ decide o g r
deciding_same (Some b) f g r same = same b
deciding_same None f g r same = refl

if_same : {A : Type 0} (b : Bool) (x y z : A) → x ≡ y → (if b then x else z) ≡ (if b then y else z)
if_same true x y z h = h
if_same false x y z h = refl

evaluate-empty : (program : ProgramTree) (room : ℕ) (here : Here) (e : Expression) (locals : List Local) (r : Running) → r.fuel ≡ 0 → evaluate program room here e locals r ≡ Faults Fuel r
evaluate-empty program zero here e locals r h = ap (λ (n : ℕ). if nat_eq n 0 then Faults Fuel r else Faults Depth (record r { fuel = n - 1 })) h
evaluate-empty program (suc room) here e locals r h =
    ap (λ (n : ℕ). if nat_eq n 0 then Faults Fuel r else expression_row program (evaluate program room) (start_by program (execute program room)) here e locals (record r { fuel = n - 1 })) h

evaluate-takes : (program : ProgramTree) (room k : ℕ) (here : Here) (e : Expression) (locals : List Local) (r : Running) → ClassesFit program → ClassNamesAreShort program → FewArguments e → HasShortNames e → r.fuel ≤ suc k → Within k (evaluate program room here e locals r)
evaluate-takes program zero k here e locals r fit short few brief le = if_within k (nat_eq r.fuel 0) r (Faults Depth (record r { fuel = r.fuel - 1 })) tt
evaluate-takes program (suc room) k here e locals r fit short few brief le =
    let below = row-kept program room fit short in
    let begins = starting-begins (field_counts program) (execute program room) below.1 program fit short in
    let r1 : Running = record r { fuel = r.fuel - 1 } in
    if_within k (nat_eq r.fuel 0) r (expression_row program (evaluate program room) (start_by program (execute program room)) here e locals r1)
    (carried-within (Ready (field_counts program) locals r1) (field_counts program) InBounds k r1 _ (expression-carries program (evaluate program room) (start_by program (execute program room)) below.0 begins here e locals r1 few brief) (omega (arith, le)))

module _ (program : ProgramTree) (room : ℕ) (here : Here) (test : Expression) (body : Statements) (fit : ClassesFit program) (short : ClassNamesAreShort program) (few : HasFewArguments (while test body)) (brief : NamesAreShort (while test body)) where
  block-within : (k : ℕ) (locals : List Local) (r : Running) → r.fuel ≤ k → Within k (block (execute program room) here body locals r)
  block-within k locals r le =
      carried-within (Ready (field_counts program) locals r) (field_counts program) FlowFits k r _ (block-carries (field_counts program) (execute program room) (row-kept program room fit short).1 here body locals r few.1 brief.1) le

  turn_same : (k : ℕ) (locals : List Local) (r : Running) (f g : List Local → Running → Outcome (Flow (List Local))) → r.fuel ≤ suc k → ((ls : List Local) (s : Running) → s.fuel ≤ k → f ls s ≡ g ls s)
      → and_then (evaluate program room here test locals r) (λ v. decide (truth v) (λ b r1. if b then and_then (block (execute program room) here body locals r1) (follow f) else Gives (next locals) r1))
      ≡ and_then (evaluate program room here test locals r) (λ v. decide (truth v) (λ b r1. if b then and_then (block (execute program room) here body locals r1) (follow g) else Gives (next locals) r1))
  turn_same k locals r f g h same =
      then_same k (evaluate program room here test locals r) _ _ (evaluate-takes program room k here test locals r fit short few.0 brief.0 h) (λ v r1 h1.
      deciding_same (truth v) _ _ r1 (λ b. if_same b _ _ _
      (then_same k (block (execute program room) here body locals r1) _ _ (block-within k locals r1 h1) (λ flow r2 h2. follow_same k f g flow r2 h2 same))))

  enough : (turns more : ℕ) (locals : List Local) (r : Running) → r.fuel ≤ turns → turns ≤ more → loop_turns turns (evaluate program room) (execute program room) here test body locals r ≡ loop_turns more (evaluate program room) (execute program room) here test body locals r
  enough zero zero locals r h m = refl
  enough zero (suc more) locals r h m =
      sym (ap (λ o. and_then o (λ v. decide (truth v) (λ b r1. if b then and_then (block (execute program room) here body locals r1) (follow (loop_turns more (evaluate program room) (execute program room) here test body)) else Gives (next locals) r1)))
      (evaluate-empty program room here test locals r (omega (arith, h))))
  enough (suc turns) zero locals r h m = absurd (omega (arith, m))
  enough (suc turns) (suc more) locals r h m =
      turn_same turns locals r _ _ h (λ ls s h1. enough turns more ls s h1 (omega (arith, m)))

  -- behind its block a loop goes back to its test, with the fuel that is left
  pub loop-goes_round : (locals : List Local) (r : Running) → loop_turns r.fuel (evaluate program room) (execute program room) here test body locals r ≡ goes_round (evaluate program room) (execute program room) here test body locals r
  loop-goes_round locals r =
      enough r.fuel (suc r.fuel) locals r (omega arith) (omega arith)
      ∙ turn_same r.fuel locals r _ _ (omega arith) (λ ls s h. sym (enough s.fuel r.fuel ls s (omega arith) h))
