-- The count of faults of a run's links: it rises with each link that fails, once the link is given back.
use Rattle.std.proofs.Common.{◌≡◌, inl, inr, ℕ, ◌-◌, ◌^◌, ◌≤◌, min, List, [], ◌∷◌, Option, Some, None, refl, sym, ap, subst, arith}
use Rattle.tea_io.specs.Told.{Rose}
use Rattle.tea_io.specs.Links.{Counts}
use Rattle.tea_io.specs.Nets.{sum_of}
use Rattle.tea_io.specs.declared.link.Heard.{Heard}
use Rattle.run_steps.specs.Steps.{Step, Loads, Puts, Looks, Prints, Connects, Returns, Hears, Sends}
use Rattle.run_steps.specs.Outside.{Acts, ActsOn, Came, Cut, Failed, FilesTell, GivesBack, GoesBackFrom, HearsLink, LinksTell, NetTells, OnLink, Outside, OutputTells, SendsFrame, TakesBack, WantedMemory, Well, outside_tells}
use Rattle.croquet.specs.Complete.{NoneFailed}
use Rattle.croquet.proofs.Counts.{counts_stay, none_within, step_keeps}

-- a count is no lower, up to the last value of its type
abbrev pub IsNoLower : ℕ → ℕ → Type 0
IsNoLower before now = min before (2 ^ 64 - 1) ≤ now

pub lower_on : (a b c : ℕ) → IsNoLower a b → IsNoLower b c → IsNoLower a c
lower_on a b c first last = omega (arith, first, last)

pub same_count : (a b : ℕ) → b ≡ a → IsNoLower a b
same_count a b is = omega (arith, is)

pub rose_by : (a b c fault : ℕ) → IsNoLower a b → 1 ≤ fault → c ≡ sum_of b fault → Rose a c
rose_by a b c fault later failed is = omega (arith, later, failed, is)

some_fault : (before now : ℕ) → Rose before now → 1 ≤ now
some_fault before now rose = omega (arith, rose)

-- the link that is in use has failed
abbrev pub HasFailed : {L : Type 0} → LinksTell L → Option L → Type 0
HasFailed links None = ⊥
HasFailed links (Some link) = 1 ≤ (links.counts link).faults

pub heard_fails : {L : Type 0} (links : LinksTell L) (what : Heard) (old new : Option L) → OnLink (HearsLink links Failed what) old new → HasFailed links new
heard_fails links what None new never = absurd never
heard_fails links what (Some old) None never = absurd never
heard_fails links what (Some old) (Some new) hears = some_fault _ _ hears.cause

pub sent_fails : {L : Type 0} (links : LinksTell L) (frame : List ℕ) (old new : Option L) → OnLink (SendsFrame links Failed frame) old new → HasFailed links new
sent_fails links frame None new never = absurd never
sent_fails links frame (Some old) None never = absurd never
sent_fails links frame (Some old) (Some new) sends = some_fault _ _ (sends.cause refl)

module _ {F W N L : Type 0} (files : FilesTell F) (out : OutputTells W) (net : NetTells N L) (links : LinksTell L) where
  abbrev pub faults : Outside F W N L → ℕ
  faults o = (net.link_counts o.net).faults

  net_kept : (old new : Outside F W N L) (n : N) (same : n ≡ old.net) → new.net ≡ n → IsNoLower (faults old) (faults new)
  net_kept old new n same is = same_count _ _ (ap (λ (m : N). (net.link_counts m).faults) (subst (λ (m : N). new.net ≡ m) same is))

  given_back : (link : Option L) (n n' : N) → GivesBack net links link n n' → IsNoLower (net.link_counts n).faults (net.link_counts n').faults
  given_back None n n' same = same_count _ _ (ap (λ (m : N). (net.link_counts m).faults) same)
  given_back (Some link) n n' back = let is : (net.link_counts n').faults ≡ sum_of (net.link_counts n).faults (links.counts link).faults = ap (λ (c : Counts). c.faults) back.counts in omega (arith, is)

  step_lowers_none : (came : Came) (step : Step) (old new : Outside F W N L) → ActsOn (outside_tells files out net links) came step old new → IsNoLower (faults old) (faults new)
  step_lowers_none came (Loads ask given) old new (reads, is) = net_kept old new old.net refl (ap (λ (o : Outside F W N L). o.net) is)
  step_lowers_none came (Puts name bytes) old new (puts, is) = net_kept old new old.net refl (ap (λ (o : Outside F W N L). o.net) is)
  step_lowers_none came (Looks name) old new (looks, is) = net_kept old new old.net refl (ap (λ (o : Outside F W N L). o.net) is)
  step_lowers_none came (Prints text) old new (prints, is) = net_kept old new old.net refl (ap (λ (o : Outside F W N L). o.net) is)
  step_lowers_none came (Connects address) old new (free, makes, is) = same_count _ _ (ap (λ (c : Counts). c.faults) makes.counts)
  step_lowers_none came Returns old new (well, back, is) = given_back old.link old.net new.net back
  step_lowers_none came (Hears what) old new (hears, is) = net_kept old new old.net refl (ap (λ (o : Outside F W N L). o.net) is)
  step_lowers_none came (Sends frame) old new (sends, is) = net_kept old new old.net refl (ap (λ (o : Outside F W N L). o.net) is)

  pub steps_lower_none : (steps : List Step) (cut : Option Cut) (old new : Outside F W N L) → Acts (outside_tells files out net links) steps cut old new → IsNoLower (faults old) (faults new)
  steps_lower_none [] None old new same = net_kept old new old.net refl (ap (λ (o : Outside F W N L). o.net) same)
  steps_lower_none [] (Some cut) old new never = absurd never
  steps_lower_none (step ∷ steps) cut old new (inl (mid, acts, rest)) = lower_on _ (faults mid) _ (step_lowers_none Well step old mid acts) (steps_lower_none steps cut mid new rest)
  steps_lower_none (step ∷ steps) cut old new (inr (inl (acts, is))) = step_lowers_none Failed step old new acts
  steps_lower_none (step ∷ steps) cut old new (inr (inr (acts, is))) = step_lowers_none WantedMemory step old new acts

  -- a link that has failed goes back, and is counted
  pub rises : (link : Option L) (old done left : Outside F W N L) → IsNoLower (faults old) (faults done) → HasFailed links link → done.link ≡ link → GoesBackFrom link (outside_tells files out net links) done left → Rose (faults old) (faults left)
  rises None old done left later never is back = absurd never
  rises (Some link) old done left later failed is (well, gives, moved) =
      let back : TakesBack net links link done.net left.net = subst (λ (l : Option L). GivesBack net links l done.net left.net) is gives in
      rose_by _ _ _ _ later failed (ap (λ (c : Counts). c.faults) back.counts)

  -- where no call and no link has failed, no step has
  step_failed : (step : Step) (old new : Outside F W N L) → ActsOn (outside_tells files out net links) Failed step old new → NoneFailed files out net old new → HasFailed links new.link
  step_failed (Loads ask given) old new acts none = absurd (none.of_files acts.0.counted.1)
  step_failed (Puts name bytes) old new acts none = absurd (none.of_files acts.0.counted.1)
  step_failed (Looks name) old new acts none = absurd (none.of_files acts.0.counted.1)
  step_failed (Prints text) old new acts none = absurd (none.of_output acts.0.counted.1)
  step_failed (Connects address) old new acts none = absurd (none.of_net (acts.1.cause.failed refl))
  step_failed Returns old new (never, back, is) none = absurd cc
  step_failed (Hears what) old new acts none = heard_fails links what old.link new.link acts.0
  step_failed (Sends frame) old new acts none = sent_fails links frame old.link new.link acts.0

  -- the steps were all done, or cut by want of memory
  abbrev pub IsCutByWant : Option Cut → Type 0
  IsCutByWant None = Unit {0}
  IsCutByWant (Some cut) = cut.came ≡ WantedMemory

  pub cut_by_want : (steps : List Step) (cut : Option Cut) (old new : Outside F W N L) → ¬ HasFailed links new.link → Acts (outside_tells files out net links) steps cut old new → NoneFailed files out net old new → IsCutByWant cut
  cut_by_want [] None old new fine acts none = tt
  cut_by_want [] (Some cut) old new fine never none = absurd never
  cut_by_want (step ∷ steps) cut old new fine (inl (mid, acts, rest)) none =
      cut_by_want steps cut mid new fine rest (none_within files out net links old mid new new (step_keeps files out net links Well step old mid acts) (counts_stay files out net links new new refl) none)
  cut_by_want (step ∷ steps) cut old new fine (inr (inl (acts, is))) none = absurd (fine (step_failed step old new acts none))
  cut_by_want (step ∷ steps) cut old new fine (inr (inr (acts, is))) none = subst (λ (c : Option Cut). IsCutByWant c) (sym is) refl
