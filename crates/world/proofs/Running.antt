-- What a message leaves of a world: it stays valid, its time and its turns stay, and at too many turns no more is due.
use Rattle.std.proofs.Common.{◌≡◌, ℕ, ◌≤◌, List, sym, subst, arith}
use Rattle.model_value.specs.Plain.{PlainValue, InBounds, AllInBounds}
use Rattle.world_plain.specs.World.{WorldRecord}
use Rattle.world_plain.specs.Valid.{Valid, most_turns}
use Rattle.model_tree.specs.Tree.{Name, ProgramTree}
use Rattle.model_tree.specs.Bounds.{ClassesFit}
use Rattle.model_tree.specs.Names.{ClassNamesAreShort}
use Rattle.world_state.specs.declared.fault.Fault.{Fault}
use Rattle.world_state.specs.Running.{Outcome, Gives, Faults, most_open}
use Rattle.model_eval.specs.Meaning.{starts}
use Rattle.model_eval.specs.Publishing.{Notice, tell_handlers}
use Rattle.model_solved.specs.Methods.{field_counts}
use Rattle.model_eval.specs.Kept.{now_due, Anything, CarriesIf}
use Rattle.model_eval.proofs.ValidLaws.{valid-beside}
use Rattle.model_eval.proofs.KeptLaws.{starts-carries, told-kept}
use Rattle.world.specs.Worlds.{Scene, fault_number, with_count, with_fault, with_next_turn, with_full_budget, scene_of_outcome, after_method, after_telling}

pub with_count-valid : (counts : List ℕ) (k : ℕ) (w : WorldRecord) → Valid counts w → Valid counts (with_count k w)
with_count-valid counts k w v = valid-beside counts (with_count k w) w v.clock v.views v.messages.fit v

pub counted-valid : (counts : List ℕ) (f : Fault) (w : WorldRecord) → Valid counts w → Valid counts (with_fault f w)
counted-valid counts f w v = with_count-valid counts (fault_number f) w v

pub begun-valid : (counts : List ℕ) (w : WorldRecord) → Valid counts w → Valid counts (with_next_turn w)
begun-valid counts w v = valid-beside counts (with_next_turn w) w (record { time_fits = v.clock.time_fits; turns_fit = omega arith }) v.views v.messages.fit v

-- what a message keeps, from one scene to the next; and if H, then the world is valid behind it
pub record Keeps (H : Type 0) (counts : List ℕ) (s t : Scene) : Type 0 where
  pub id : t.world.id ≡ s.world.id
  pub time : t.world.time ≡ s.world.time
  pub turns : t.world.turns ≡ s.world.turns
  pub calm : s.world.turns ≡ most_turns → now_due t.world ≤ now_due s.world
  pub valid : H → Valid counts t.world

ended-keeps : {A : Type 0} (P : A → Type 0) (H : Type 0) (counts : List ℕ) (s : Scene) (o : Outcome A) → CarriesIf H counts P (with_full_budget s) o → Keeps H counts s (scene_of_outcome o)
ended-keeps P H counts s (Gives v r) h = record { id = h.0.id; time = h.0.time; turns = h.0.turns; calm = h.0.calm; valid = λ valid. (h.1 valid).0 }
ended-keeps P H counts s (Faults f r) h = record { id = h.0.id; time = h.0.time; turns = h.0.turns; calm = h.0.calm; valid = λ valid. counted-valid counts f r.world (h.1 valid) }

-- a program within the bounds, whose classes have so many fields
pub record Fits (counts : List ℕ) (program : ProgramTree) : Type 0 where
  pub counted : counts ≡ field_counts program
  pub classes : ClassesFit program
  pub names : ClassNamesAreShort program

pub ran-keeps : (counts : List ℕ) (program : ProgramTree) (object : ℕ) (x : Name) (args : List PlainValue) (s : Scene) → Fits counts program → Keeps (Valid counts s.world × AllInBounds args) counts s (after_method program object x args s)
ran-keeps counts program object x args s fits =
    subst (λ (cs : List ℕ). Keeps (Valid cs s.world × AllInBounds args) cs s (after_method program object x args s)) (sym fits.counted)
    (ended-keeps InBounds (Valid (field_counts program) s.world × AllInBounds args) (field_counts program) s (starts program most_open object x args (with_full_budget s)) (starts-carries program most_open object x args (with_full_budget s) fits.classes fits.names))

-- models that are told of an event
pub informed-keeps : (program : ProgramTree) (scope event : Name) (t : Notice) (s : Scene) → Fits (field_counts program) program → InBounds t.value → Keeps (Valid (field_counts program) s.world) (field_counts program) s (after_telling program scope event t s)
informed-keeps program scope event t s fits bound =
    ended-keeps Anything (Valid (field_counts program) s.world) (field_counts program) s (tell_handlers program (starts program most_open) scope event t (with_full_budget s)) (told-kept program most_open scope event t (with_full_budget s) fits.classes fits.names bound)

-- they leave a valid world valid
pub informed-valid : (counts : List ℕ) (program : ProgramTree) (scope event : Name) (t : Notice) (s : Scene) → Fits counts program → InBounds t.value → Valid counts s.world → Valid counts (after_telling program scope event t s).world
informed-valid counts program scope event t s fits bound valid =
    let counted = fits.counted in
    let here : Valid (field_counts program) s.world = subst (λ (cs : List ℕ). Valid cs s.world) counted valid in
    let own : Fits (field_counts program) program = subst (λ (cs : List ℕ). Fits cs program) counted fits in
    subst (λ (cs : List ℕ). Valid cs (after_telling program scope event t s).world) (sym counted) ((informed-keeps program scope event t s own bound).valid here)
