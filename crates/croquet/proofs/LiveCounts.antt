-- The counts of the net and of its links in a live view's run: one rises with each link that is not made or that fails.
use Rattle.std.proofs.Common.{◌≡◌, inl, inr, ℕ, ◌≤◌, Bool, true, false, List, [], ◌∷◌, ◌++◌, Option, Some, None, refl, sym, ap, subst, arith}
use Rattle.std.specs.Prelude.{◌⊎◌}
use Rattle.tea_io.specs.Told.{Rose}
use Rattle.tea_io.specs.Nets.{sum_of}
use Rattle.tea_io.specs.Links.{Counts}
use Rattle.tea_io.specs.declared.link.Heard.{Heard}
use Rattle.tea_io.specs.declared.link.Heard.TheVariants as heard
use Rattle.run_steps.specs.Outside.{Came, Failed, GivesBack, MakesLink, OnLink, SendsFrame, WantedMemory, Well}
use Rattle.view_shell.specs.declared.ending.ViewEnd.TheVariants as view_end
use Rattle.live_view.specs.declared.input.LiveInput.TheVariants as input
use Rattle.live_view.specs.Live.{LiveState, live_step}
use Rattle.live_shell.specs.declared.ending.LiveEnd.TheVariants as live_end
use Rattle.live_shell.specs.LiveRun.{IsLiveCutEnd, Turn, inputs_in, steps_of, told_steps}
use Rattle.live_shell.specs.LiveSteps.{ActsLive, Asks, GoesBack, Hears, HearsAny, Links, LinksOrNot, LiveActs, LiveCut, LiveOutside, LiveStep, LiveTells, Pauses, Prints, Returns, Sends}
use Rattle.view_follows.specs.LiveEnds.{WorkWell}
use Rattle.croquet.specs.LiveEnds.{NetFaultRose}
use Rattle.croquet.proofs.LinkCounts.{HasFailed, IsNoLower, heard_fails, lower_on, rose_by, same_count, sent_fails}

more_rose : (a b c : ℕ) → Rose a b → b ≤ c → Rose a c
more_rose a b c rose later = omega (arith, rose, later)

lower_rose : (a b c : ℕ) → Rose a b → IsNoLower b c → Rose a c
lower_rose a b c rose later = omega (arith, rose, later)

later_rose : (a b c : ℕ) → a ≤ b → Rose b c → Rose a c
later_rose a b c later rose = omega (arith, later, rose)

still_failed : (a b : ℕ) → 1 ≤ a → a ≤ b → 1 ≤ b
still_failed a b some later = omega (arith, some, later)

same_cut : (cut one : LiveCut) → Some cut ≡ Some one → cut ≡ one
same_cut cut one is = cc

no_want : live_end.View view_end.NetFault ≡ live_end.View view_end.WantOfMemory → ⊥
no_want is = cc

-- a step that tells of no fault of a link
abbrev pub IsFine : LiveStep → Type 0
IsFine (Links address false) = ⊥
IsFine (Hears heard.Failed) = ⊥
IsFine step = Unit {0}

abbrev pub AreFine : List LiveStep → Type 0
AreFine [] = Unit {0}
AreFine (step ∷ steps) = IsFine step × AreFine steps

module _ {K W N L : Type 0} (tells : LiveTells K W N L) where
  abbrev pub link_faults : N → ℕ
  link_faults n = (tells.net.link_counts n).faults

  -- no count of faults has fallen
  pub record Later (n n' : N) : Type 0 where
    pub of_net : tells.net.faults n ≤ tells.net.faults n'
    pub of_links : IsNoLower (link_faults n) (link_faults n')

  pub same_later : (n n' : N) → n' ≡ n → Later n n'
  same_later n n' is = subst (λ (m : N). Later n m) (sym is) (record { of_net = omega arith; of_links = same_count _ _ refl })

  later_on : (a b c : N) → Later a b → Later b c → Later a c
  later_on a b c first last = record {
    of_net = let x = first.of_net in let y = last.of_net in omega (arith, x, y);
    of_links = lower_on _ (link_faults b) _ first.of_links last.of_links;
  }

  made_later : (came : Came) (address : List ℕ) (n n' : N) (link : Option L) → MakesLink tells.net tells.links came address n n' link → Later n n'
  made_later came address n n' link makes = record { of_net = makes.cause.later; of_links = same_count _ _ (ap (λ (c : Counts). c.faults) makes.counts) }

  linked_later : (came : Came) (address : List ℕ) (made : Bool) (n n' : N) (link : Option L) → LinksOrNot tells.net tells.links came address made n n' link → Later n n'
  linked_later Well address true n n' link makes = made_later Well address n n' link makes
  linked_later Well address false n n' link makes = made_later Failed address n n' link makes
  linked_later WantedMemory address made n n' link makes = made_later WantedMemory address n n' link makes
  linked_later Failed address made n n' link never = absurd never

  back_later : (link : Option L) (n n' : N) → GivesBack tells.net tells.links link n n' → Later n n'
  back_later None n n' same = same_later n n' same
  back_later (Some link) n n' back =
      let net_is = back.faults in
      let is : link_faults n' ≡ sum_of (link_faults n) (tells.links.counts link).faults = ap (λ (c : Counts). c.faults) back.counts in
      record { of_net = omega (arith, net_is); of_links = omega (arith, is) }

  step_later : (came : Came) (step : LiveStep) (old new : LiveOutside K W N L) → ActsLive tells came step old new → Later old.net new.net
  step_later came (Asks what) old new (asks, is) = same_later _ _ (ap (λ (o : LiveOutside K W N L). o.net) is)
  step_later came (Links address made) old new (free, makes, is) = linked_later came address made old.net new.net new.link makes
  step_later came (Hears what) old new (hears, is) = same_later _ _ (ap (λ (o : LiveOutside K W N L). o.net) is)
  step_later came (Sends frame) old new (sends, is) = same_later _ _ (ap (λ (o : LiveOutside K W N L). o.net) is)
  step_later came (Prints text) old new (prints, is) = same_later _ _ (ap (λ (o : LiveOutside K W N L). o.net) is)
  step_later came Returns old new (well, back, is) = back_later old.link old.net new.net back
  step_later came Pauses old new (well, rests, is) = same_later _ _ (ap (λ (o : LiveOutside K W N L). o.net) is)

  -- ---- a fault since a state of the net

  -- a count rose, or the link in use has failed
  abbrev pub HasFault : N → LiveOutside K W N L → Type 0
  HasFault first now = NetFaultRose tells.net first now.net ⊎ HasFailed tells.links now.link

  rose_on : (first n n' : N) → Later n n' → NetFaultRose tells.net first n → NetFaultRose tells.net first n'
  rose_on first n n' later (inl rose) = inl (more_rose _ _ _ rose later.of_net)
  rose_on first n n' later (inr rose) = inr (lower_rose _ _ _ rose later.of_links)

  -- a link that has failed is still one, or went back and is counted
  failed_back : (first : N) (link : Option L) (n n' : N) → Later first n → HasFailed tells.links link → GivesBack tells.net tells.links link n n' → NetFaultRose tells.net first n'
  failed_back first None n n' later never back = absurd never
  failed_back first (Some link) n n' later failed back = inr (rose_by _ _ _ _ later.of_links failed (ap (λ (c : Counts). c.faults) back.counts))

  none_failed : (link : Option L) → link ≡ None → HasFailed tells.links link → ⊥
  none_failed link is failed = subst (λ (l : Option L). HasFailed tells.links l) is failed

  heard_on : (came : Came) (what : Heard) (old new : Option L) → OnLink (HearsAny tells.links came what) old new → HasFailed tells.links old → HasFailed tells.links new
  heard_on came what None new never failed = absurd never
  heard_on came what (Some old) None never failed = absurd never
  heard_on Well what (Some old) (Some new) hears failed = still_failed _ _ failed hears.later.faults
  heard_on WantedMemory what (Some old) (Some new) hears failed = still_failed _ _ failed hears.later.faults
  heard_on Failed what (Some old) (Some new) never failed = absurd never

  sent_on : (came : Came) (frame : List ℕ) (old new : Option L) → OnLink (SendsFrame tells.links came frame) old new → HasFailed tells.links old → HasFailed tells.links new
  sent_on came frame None new never failed = absurd never
  sent_on came frame (Some old) None never failed = absurd never
  sent_on came frame (Some old) (Some new) sends failed = still_failed _ _ failed sends.later.faults

  same_link : (old new : LiveOutside K W N L) → new.link ≡ old.link → HasFailed tells.links old.link → HasFailed tells.links new.link
  same_link old new is failed = subst (λ (l : Option L). HasFailed tells.links l) (sym is) failed

  failed_on : (first : N) (came : Came) (step : LiveStep) (old new : LiveOutside K W N L) → Later first old.net → ActsLive tells came step old new → HasFailed tells.links old.link → HasFault first new
  failed_on first came (Asks what) old new later (asks, is) failed = inr (same_link old new (ap (λ (o : LiveOutside K W N L). o.link) is) failed)
  failed_on first came (Links address made) old new later (free, makes, is) failed = absurd (none_failed old.link free failed)
  failed_on first came (Hears what) old new later (hears, is) failed = inr (heard_on came what old.link new.link hears failed)
  failed_on first came (Sends frame) old new later (sends, is) failed = inr (sent_on came frame old.link new.link sends failed)
  failed_on first came (Prints text) old new later (prints, is) failed = inr (same_link old new (ap (λ (o : LiveOutside K W N L). o.link) is) failed)
  failed_on first came Returns old new later (well, back, is) failed = inl (failed_back first old.link old.net new.net later failed back)
  failed_on first came Pauses old new later (well, rests, is) failed = inr (same_link old new (ap (λ (o : LiveOutside K W N L). o.link) is) failed)

  fault_on : (first : N) (came : Came) (step : LiveStep) (old new : LiveOutside K W N L) → Later first old.net → ActsLive tells came step old new → HasFault first old → HasFault first new
  fault_on first came step old new later acts (inl rose) = inl (rose_on first old.net new.net (step_later came step old new acts) rose)
  fault_on first came step old new later acts (inr failed) = failed_on first came step old new later acts failed

  acts_on : (first : N) (steps : List LiveStep) (cut : Option LiveCut) (old new : LiveOutside K W N L) → Later first old.net → LiveActs tells steps cut old new → HasFault first old → HasFault first new
  acts_on first [] None old new later same fault = subst (HasFault first) (sym same) fault
  acts_on first [] (Some cut) old new later never fault = absurd never
  acts_on first (step ∷ steps) cut old new later (inl (mid, acts, rest)) fault =
      acts_on first steps cut mid new (later_on first old.net mid.net later (step_later Well step old mid acts)) rest (fault_on first Well step old mid later acts fault)
  acts_on first (step ∷ steps) cut old new later (inr (inl (acts, is))) fault = fault_on first Failed step old new later acts fault
  acts_on first (step ∷ steps) cut old new later (inr (inr (acts, is))) fault = fault_on first WantedMemory step old new later acts fault

  -- ---- steps that tell of a fault

  fine_or_fault : (first : N) (step : LiveStep) (old new : LiveOutside K W N L) → Later first old.net → ActsLive tells Well step old new → IsFine step ⊎ HasFault first new
  fine_or_fault first (Links address false) old new later (free, makes, is) = inr (inl (inl (later_rose _ _ _ later.of_net (makes.cause.failed refl))))
  fine_or_fault first (Hears heard.Failed) old new later (hears, is) = inr (inr (heard_fails tells.links heard.Failed old.link new.link hears))
  fine_or_fault first step old new later acts = inl tt

  pub all_fine : (first : N) (steps : List LiveStep) (old new : LiveOutside K W N L) → Later first old.net → LiveActs tells steps None old new → AreFine steps ⊎ HasFault first new
  all_fine first [] old new later same = inl tt
  all_fine first (step ∷ steps) old new later (inl (mid, acts, rest)) =
      let on = later_on first old.net mid.net later (step_later Well step old mid acts) in
      elim (fine_or_fault first step old mid later acts) [
        | inl fine ↦ elim (all_fine first steps mid new on rest) [
          | inl others ↦ inl (fine, others)
          | inr fault ↦ inr fault
        ]
        | inr fault ↦ inr (acts_on first steps None mid new on rest fault)
      ]
  all_fine first (step ∷ steps) old new later (inr (inl (acts, is))) = absurd cc
  all_fine first (step ∷ steps) old new later (inr (inr (acts, is))) = absurd cc

  -- a frame was not sent
  sends_fault : (first : N) (step : LiveStep) (old new : LiveOutside K W N L) → ActsLive tells Failed step old new → IsLiveCutEnd Failed step (live_end.View view_end.NetFault) → HasFault first new
  sends_fault first (Sends frame) old new (sends, is) ends = inr (sent_fails tells.links frame old.link new.link sends)
  sends_fault first (Asks what) old new acts ends = absurd cc
  sends_fault first (Prints text) old new acts ends = absurd cc
  sends_fault first (Links address made) old new acts never = absurd never
  sends_fault first (Hears what) old new acts never = absurd never
  sends_fault first Returns old new acts never = absurd never
  sends_fault first Pauses old new acts never = absurd never

  -- steps that are cut so that the run ends with a fault of the net
  pub cut_fault : (first : N) (steps : List LiveStep) (cut : LiveCut) (old new : LiveOutside K W N L) → Later first old.net → LiveActs tells steps (Some cut) old new → IsLiveCutEnd cut.came cut.step (live_end.View view_end.NetFault) → HasFault first new
  cut_fault first [] cut old new later never ends = absurd never
  cut_fault first (step ∷ steps) cut old new later (inl (mid, acts, rest)) ends = cut_fault first steps cut mid new (later_on first old.net mid.net later (step_later Well step old mid acts)) rest ends
  cut_fault first (step ∷ steps) cut old new later (inr (inl (acts, is))) ends = sends_fault first step old new acts (subst (λ (c : LiveCut). IsLiveCutEnd c.came c.step (live_end.View view_end.NetFault)) (same_cut cut _ is) ends)
  cut_fault first (step ∷ steps) cut old new later (inr (inr (acts, is))) ends =
      absurd (no_want (subst (λ (c : LiveCut). IsLiveCutEnd c.came c.step (live_end.View view_end.NetFault)) (same_cut cut _ is) ends))

  pub acts_later : (steps : List LiveStep) (cut : Option LiveCut) (old new : LiveOutside K W N L) → LiveActs tells steps cut old new → Later old.net new.net
  acts_later [] None old new same = same_later _ _ (ap (λ (o : LiveOutside K W N L). o.net) same)
  acts_later [] (Some cut) old new never = absurd never
  acts_later (step ∷ steps) cut old new (inl (mid, acts, rest)) = later_on old.net mid.net new.net (step_later Well step old mid acts) (acts_later steps cut mid new rest)
  acts_later (step ∷ steps) cut old new (inr (inl (acts, is))) = step_later Failed step old new acts
  acts_later (step ∷ steps) cut old new (inr (inr (acts, is))) = step_later WantedMemory step old new acts

  -- the link in use goes back
  pub fault_back : (first : N) (mid new : LiveOutside K W N L) → Later first mid.net → HasFault first mid → GoesBack tells mid new → NetFaultRose tells.net first new.net
  fault_back first mid new later (inl rose) back = rose_on first mid.net new.net (back_later mid.link mid.net new.net back.0) rose
  fault_back first mid new later (inr failed) back = failed_back first mid.link mid.net new.net later failed back.0

-- ---- what a view was told

fine_after : (first more : List LiveStep) → AreFine (first ++ more) → AreFine more
fine_after [] more fine = fine
fine_after (step ∷ first) more fine = fine_after first more fine.1

-- each link was made, and none failed
pub work_of : (address : List ℕ) (s : LiveState) (turns : List Turn) → AreFine (steps_of address s turns) → WorkWell (inputs_in turns)
work_of address s [] fine = tt
work_of address s (None ∷ turns) fine = work_of address s turns fine.1
work_of address s (Some input.LinkFailed ∷ turns) fine = absurd fine.1.0
work_of address s (Some (input.Says heard.Failed) ∷ turns) fine = absurd fine.0
work_of address s (Some input.Linked ∷ turns) fine = work_of address (live_step s input.Linked).state turns (fine_after (told_steps address s input.Linked) _ fine)
work_of address s (Some input.Closed ∷ turns) fine = work_of address (live_step s input.Closed).state turns (fine_after (told_steps address s input.Closed) _ fine)
work_of address s (Some (input.Line bytes) ∷ turns) fine = work_of address (live_step s (input.Line bytes)).state turns (fine_after (told_steps address s (input.Line bytes)) _ fine)
work_of address s (Some (input.Says (heard.Frame bytes)) ∷ turns) fine =
    work_of address (live_step s (input.Says (heard.Frame bytes))).state turns (fine_after (told_steps address s (input.Says (heard.Frame bytes))) _ fine)
work_of address s (Some (input.Says heard.Quiet) ∷ turns) fine = work_of address (live_step s (input.Says heard.Quiet)).state turns (fine_after (told_steps address s (input.Says heard.Quiet)) _ fine)
work_of address s (Some (input.Says heard.End) ∷ turns) fine = work_of address (live_step s (input.Says heard.End)).state turns (fine_after (told_steps address s (input.Says heard.End)) _ fine)
work_of address s (Some (input.Says heard.WantOfMemory) ∷ turns) fine =
    work_of address (live_step s (input.Says heard.WantOfMemory)).state turns (fine_after (told_steps address s (input.Says heard.WantOfMemory)) _ fine)
