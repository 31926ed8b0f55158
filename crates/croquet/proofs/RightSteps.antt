-- A run whose reads give what they are to give, and no call of which fails, comes to the end that is due, or runs out of memory.
use Rattle.std.proofs.Common.{◌≡◌, inl, inr, ℕ, ◌≤◌, List, [], ◌∷◌, ◌++◌, length, Option, Some, None, refl, sym, ap, subst, ◌∙◌, arith}
use Rattle.tea_io.specs.Files.{Content, MayBe, Present}
use Rattle.run_steps.specs.Steps.{Ask, Step, Loads, Puts, Looks, Prints, Connects, Returns, Hears, Sends}
use Rattle.run_steps.specs.Outside.{Acts, ActsOn, AreKept, Cut, Failed, FilesTell, IsLonger, LinksTell, MayGive, NetTells, Outside, OutputTells, WantedMemory, Well, outside_tells}
use Rattle.commands.specs.Laws.{AreAlike, AreClosedAlike, AreDoneAlike, TellsPlace}
use Rattle.commands.specs.Verdict.{ByWant, Closing}
use Rattle.croquet.specs.Complete.{NoneFailed}
use Rattle.croquet.specs.Run.{Concludes, Ending, OutOfMemory}
use Rattle.croquet.proofs.Counts.{counts_stay, none_within, step_keeps}

-- ---- right steps

-- a read gives the bytes that are held, within its limit
pub record GivesHeld (held : List ℕ → Content) (ask : Ask) (given : Option (List ℕ)) : Type 0 where
  pub bytes : List ℕ
  pub is : given ≡ Some bytes
  pub present : held ask.name ≡ Present bytes
  pub within : length bytes ≤ ask.limit

-- steps that look, put and print alone
abbrev pub IsGiving : List Step → Type 0
IsGiving [] = Unit {0}
IsGiving (Puts name bytes ∷ steps) = IsGiving steps
IsGiving (Looks name ∷ steps) = IsGiving steps
IsGiving (Prints text ∷ steps) = IsGiving steps
IsGiving (step ∷ steps) = ⊥

-- steps that read what is held, and then look, put and print
abbrev pub AreRight : (List ℕ → Content) → List Step → Type 0
AreRight held [] = Unit {0}
AreRight held (Loads ask given ∷ steps) = GivesHeld held ask given × AreRight held steps
AreRight held (Puts name bytes ∷ steps) = IsGiving steps
AreRight held (Looks name ∷ steps) = IsGiving steps
AreRight held (Prints text ∷ steps) = IsGiving steps
AreRight held (step ∷ steps) = ⊥

pub giving_are_right : (held : List ℕ → Content) (steps : List Step) → IsGiving steps → AreRight held steps
giving_are_right held [] giving = tt
giving_are_right held (Puts name bytes ∷ steps) giving = giving
giving_are_right held (Looks name ∷ steps) giving = giving
giving_are_right held (Prints text ∷ steps) giving = giving
giving_are_right held (step ∷ steps) never = absurd never

kept_right : (held later : List ℕ → Content) (steps : List Step) → AreKept held later → AreRight held steps → AreRight later steps
kept_right held later [] kept right = tt
kept_right held later (Loads ask given ∷ steps) kept (gives, right) =
    (record { bytes = gives.bytes; is = gives.is; present = kept ask.name ∙ gives.present; within = gives.within }, kept_right held later steps kept right)
kept_right held later (Puts name bytes ∷ steps) kept giving = giving
kept_right held later (Looks name ∷ steps) kept giving = giving
kept_right held later (Prints text ∷ steps) kept giving = giving
kept_right held later (step ∷ steps) kept never = absurd never

-- a read that went well gave just that
gave_bytes : (content : Content) (bytes : List ℕ) (limit : ℕ) (told : Option (List ℕ)) → content ≡ Present bytes → length bytes ≤ limit → MayGive Well content limit told → told ≡ Some bytes
gave_bytes content bytes limit None is within gave =
    let longer : IsLonger (Present bytes) limit = subst (λ (c : Content). IsLonger c limit) is gave in absurd (omega (arith, within, longer))
gave_bytes content bytes limit (Some read) is within gave = ap Some (subst (λ (c : Content). MayBe c read) is gave.0)

gave_held : (held : List ℕ → Content) (ask : Ask) (given told : Option (List ℕ)) → GivesHeld held ask given → MayGive Well (held ask.name) ask.limit told → given ≡ told
gave_held held ask given told gives gave = gives.is ∙ sym (gave_bytes (held ask.name) gives.bytes ask.limit told gives.present gives.within gave)

-- a step that is like a read is a read
loads_alike : (ask : Ask) (given : Option (List ℕ)) (other : Step) (alike : Type 0) → AreDoneAlike (Loads ask given) other alike → (told : Option (List ℕ)) × (other ≡ Loads ask told) × (given ≡ told → alike)
loads_alike ask given (Loads asked told) alike (same, on) = (told, ap (λ (a : Ask). Loads a told) (sym same), on)
loads_alike ask given (Puts name bytes) alike (never, on) = absurd cc
loads_alike ask given (Looks name) alike (never, on) = absurd cc
loads_alike ask given (Prints text) alike (never, on) = absurd cc
loads_alike ask given (Connects address) alike (never, on) = absurd cc
loads_alike ask given Returns alike (never, on) = absurd cc
loads_alike ask given (Hears what) alike (never, on) = absurd cc
loads_alike ask given (Sends frame) alike (never, on) = absurd cc

-- ---- the run

-- a step over files and the output
abbrev pub IsOnDesk : Step → Type 0
IsOnDesk (Loads ask given) = Unit {0}
IsOnDesk (Puts name bytes) = Unit {0}
IsOnDesk (Looks name) = Unit {0}
IsOnDesk (Prints text) = Unit {0}
IsOnDesk step = ⊥

module _ {F W N L : Type 0} (files : FilesTell F) (out : OutputTells W) (net : NetTells N L) (links : LinksTell L) where
  not_failed : (step : Step) (old new : Outside F W N L) → IsOnDesk step → ActsOn (outside_tells files out net links) Failed step old new → NoneFailed files out net old new → ⊥
  not_failed (Loads ask given) old new on acts none = none.of_files acts.0.counted.1
  not_failed (Puts name bytes) old new on acts none = none.of_files acts.0.counted.1
  not_failed (Looks name) old new on acts none = none.of_files acts.0.counted.1
  not_failed (Prints text) old new on acts none = none.of_output acts.0.counted.1
  not_failed (Connects address) old new on acts none = on
  not_failed Returns old new on acts none = on
  not_failed (Hears what) old new on acts none = on
  not_failed (Sends frame) old new on acts none = on

  none_is_cut : (cut : Option Cut) (old new : Outside F W N L) → Acts (outside_tells files out net links) [] cut old new → cut ≡ None
  none_is_cut None old new acts = refl
  none_is_cut (Some cut) old new never = absurd never

  -- What is shown of a run: where its last steps are done, where memory ran out at a step, and where the command was closed by want of memory.
  module _
      (due : Closing) (not_want : due ≡ ByWant → ⊥) (not_place : TellsPlace due → ⊥) (more : List Step) (ending : Ending) (cut : Option Cut) (new : Outside F W N L) (Shown : Type 0)
      (closes : (mid : Outside F W N L) → Concludes due more ending → Acts (outside_tells files out net links) more cut mid new → NoneFailed files out net mid new → Shown)
      (wants : cut ≡ None → ending ≡ OutOfMemory → Shown)
      (runs_out : (step : Step) → cut ≡ Some (record { step = step; came = WantedMemory }) → Shown)
    where
      one_step
          : (step : Step) (steps : List Step) (old : Outside F W N L) → IsOnDesk step → Acts (outside_tells files out net links) (step ∷ steps) cut old new → NoneFailed files out net old new
          → ((mid : Outside F W N L) → ActsOn (outside_tells files out net links) Well step old mid → Acts (outside_tells files out net links) steps cut mid new → NoneFailed files out net mid new → Shown) → Shown
      one_step step steps old on (inl (mid, acts, rest)) none goes_on =
          goes_on mid acts rest (none_within files out net links old mid new new (step_keeps files out net links Well step old mid acts) (counts_stay files out net links new new refl) none)
      one_step step steps old on (inr (inl (acts, is))) none goes_on = absurd (not_failed step old new on acts none)
      one_step step steps old on (inr (inr (acts, is))) none goes_on = runs_out step is

      at_want : (closing : Closing) (old : Outside F W N L) → closing ≡ ByWant → Concludes closing more ending → Acts (outside_tells files out net links) more cut old new → Shown
      at_want closing old is concludes acts =
          let ends : Concludes ByWant more ending = subst (λ (c : Closing). Concludes c more ending) is concludes in
          wants (none_is_cut cut old new (subst (λ (s : List Step). Acts (outside_tells files out net links) s cut old new) ends.0 acts)) ends.1

      at_end : (closing : Closing) (old : Outside F W N L) → AreClosedAlike due closing → Concludes closing more ending → Acts (outside_tells files out net links) more cut old new → NoneFailed files out net old new → Shown
      at_end closing old (inl same) concludes acts none = closes old (subst (λ (c : Closing). Concludes c more ending) (sym same) concludes) acts none
      at_end closing old (inr (inl want)) concludes acts none = absurd (not_want want)
      at_end closing old (inr (inr (inl want))) concludes acts none = at_want closing old want concludes acts
      at_end closing old (inr (inr (inr (place, other)))) concludes acts none = absurd (not_place place)

      -- the run goes along the steps that are due
      pub goes_along
          : (right steps : List Step) (closing : Closing) (old : Outside F W N L) → AreRight (files.held old.files) right → AreAlike right due steps closing → Concludes closing more ending
          → Acts (outside_tells files out net links) (steps ++ more) cut old new → NoneFailed files out net old new → Shown
      goes_along [] [] closing old are alike concludes acts none = at_end closing old alike concludes acts none
      goes_along [] (step ∷ steps) closing old are alike concludes acts none = absurd (not_want alike)
      goes_along (step ∷ right) [] closing old are alike concludes acts none = at_want closing old alike concludes acts
      goes_along (Loads ask given ∷ right) (step ∷ steps) closing old (gives, are) alike concludes acts none =
          let read = loads_alike ask given step (AreAlike right due steps closing) alike in
          one_step (Loads ask read.0) (steps ++ more) old tt (subst (λ (s : Step). Acts (outside_tells files out net links) (s ∷ (steps ++ more)) cut old new) read.1 acts) none
          (λ mid reads rest left.
          goes_along right steps closing mid (kept_right (files.held old.files) (files.held mid.files) right reads.0.kept are)
          (read.2 (gave_held (files.held old.files) ask given read.0 gives reads.0.gave)) concludes rest left)
      goes_along (Puts name bytes ∷ right) (step ∷ steps) closing old are alike concludes acts none =
          one_step (Puts name bytes) (steps ++ more) old tt (subst (λ (s : Step). Acts (outside_tells files out net links) (s ∷ (steps ++ more)) cut old new) (sym alike.0) acts) none
          (λ mid puts rest left. goes_along right steps closing mid (giving_are_right (files.held mid.files) right are) alike.1 concludes rest left)
      goes_along (Looks name ∷ right) (step ∷ steps) closing old are alike concludes acts none =
          one_step (Looks name) (steps ++ more) old tt (subst (λ (s : Step). Acts (outside_tells files out net links) (s ∷ (steps ++ more)) cut old new) (sym alike.0) acts) none
          (λ mid looks rest left. goes_along right steps closing mid (giving_are_right (files.held mid.files) right are) alike.1 concludes rest left)
      goes_along (Prints text ∷ right) (step ∷ steps) closing old are alike concludes acts none =
          one_step (Prints text) (steps ++ more) old tt (subst (λ (s : Step). Acts (outside_tells files out net links) (s ∷ (steps ++ more)) cut old new) (sym alike.0) acts) none
          (λ mid prints rest left. goes_along right steps closing mid (giving_are_right (files.held mid.files) right are) alike.1 concludes rest left)
      goes_along (Connects address ∷ right) (step ∷ steps) closing old never alike concludes acts none = absurd never
      goes_along (Returns ∷ right) (step ∷ steps) closing old never alike concludes acts none = absurd never
      goes_along (Hears what ∷ right) (step ∷ steps) closing old never alike concludes acts none = absurd never
      goes_along (Sends frame ∷ right) (step ∷ steps) closing old never alike concludes acts none = absurd never
