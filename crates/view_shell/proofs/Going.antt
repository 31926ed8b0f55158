-- Runs that follow one another, and the steps of a link among those of an output and a link.
use Rattle.std.proofs.Common.{◌≡◌, inl, inr, ℕ, zero, suc, ◌+◌, ◌-◌, ◌<◌, ◌==◌, Bool, true, false, if◌then◌else◌, List, [], ◌∷◌, ◌++◌, length, drop, get_or, Option, Some, None, Ok, Err, refl, sym, ap, ◌∙◌, subst, arith}
use Rattle.std.specs.List.{AllByRecursion}
use Rattle.std.specs.Prelude.{⊤, ◌⊎◌, Result, IsErrAnd, OnOk}
use Rattle.std.proofs.lemmas.Option.{none-some}
use Rattle.std.proofs.lemmas.Result.{err_from_is_err_and}
use Rattle.std.proofs.lemmas.List.{at_drop_more}
use Rattle.wire_frames.specs.declared.frame.ClientFrame.{ClientFrame}
use Rattle.wire_frames.specs.declared.frame.ClientFrame.TheVariants as client
use Rattle.wire_frames.specs.Frames.{FitsClient, IsClientFrame}
use Rattle.wire_frames.specs.Spelling.{client_spelling}
use Rattle.world_plain.specs.Messages.{PlainOutgoing}
use Rattle.world_plain.specs.World.{WorldRecord}
use Rattle.replica_plain.specs.PlainReplica.{PlainReplica}
use Rattle.replica_plain.specs.Calls.{sends_after, unsent}
use Rattle.run_steps.specs.Steps.{Step, Loads, Puts, Looks, Prints, Connects, Returns, Hears, Sends}
use Rattle.run_steps.specs.Outside.{Outside, OutsideTells, OutputTells, LinksTell, Came, Well, Failed, WantedMemory, Cut, Acts, ActsOn, SendsFrame, link_side, link_side_tells}
use Rattle.run_steps.proofs.Joined.{acts_behind}
use Rattle.view_shell.specs.declared.ending.ViewEnd.{ViewEnd}
use Rattle.view_shell.specs.declared.ending.ViewEnd.TheVariants as ending
use Rattle.view_shell.specs.Phases.{IsReadAsWorld, Phase, Viewer, Task, Sending, Over, Walks, go_on, most_receives, send_all}
use Rattle.view_shell.specs.ViewRun.{Doing, Goes, GoesOrStops, Stops, IsCutEnd, ActsOnLink, LinkActs}

-- ---- one after the other

pub walks_behind : (p q r : Phase) (front back : List Step) → Walks p front q → Walks q back r → Walks p (front ++ back) r
walks_behind p q r [] back is walks = subst (λ (from : Phase). Walks from back r) (sym is) walks
walks_behind p q r (step ∷ front) back (next, moves, walks) more = (next, moves, walks_behind next q r front back walks more)

-- steps of a part may stand behind steps of it
abbrev pub Follows : {S : Type 0} → Doing S → Type 0
Follows {S = S} does = (front back : List Step) (cut : Option Cut) (old mid new : S) → does front None old mid → does back cut mid new → does (front ++ back) cut old new

pub link_acts_behind : {L : Type 0} (links : LinksTell L) → Follows (LinkActs links)
link_acts_behind links [] back cut old mid new kept rest = subst (λ o. LinkActs links back cut o new) kept rest
link_acts_behind links (step ∷ front) back cut old mid new (inl (next, acts, more)) rest = inl (next, acts, link_acts_behind links front back cut next mid new more rest)
link_acts_behind links (step ∷ front) back cut old mid new (inr (inl (acts, is))) rest = absurd (none-some _ is)
link_acts_behind links (step ∷ front) back cut old mid new (inr (inr (acts, is))) rest = absurd (none-some _ is)

pub all_acts_behind : {F W N L : Type 0} (tells : OutsideTells F W N L) → Follows (Acts tells)
all_acts_behind tells front back cut old mid new done rest = acts_behind tells front back cut old mid new done rest

pub goes_on : {S : Type 0} (does : Doing S) (follows : Follows does) (p q r : Phase) (old mid new : S) → Goes does p q old mid → Goes does q r mid new → Goes does p r old new
goes_on does follows p q r old mid new first next = record {
  steps = first.steps ++ next.steps;
  walks = walks_behind p q r first.steps next.steps first.walks next.walks;
  acts = follows first.steps next.steps None old mid new first.acts next.acts;
}

pub goes_and_stops : {S : Type 0} (does : Doing S) (follows : Follows does) (p q : Phase) (end : ViewEnd) (old mid new : S) → Goes does p q old mid → Stops does q end mid new → Stops does p end old new
goes_and_stops does follows p q end old mid new first next = record {
  steps = first.steps ++ next.steps;
  last = next.last;
  cut = next.cut;
  walks = walks_behind p q next.last first.steps next.steps first.walks next.walks;
  acts = follows first.steps next.steps next.cut old mid new first.acts next.acts;
  ends = next.ends;
}

-- nothing is done
pub goes_nowhere : {L : Type 0} (links : LinksTell L) (p : Phase) (l : L) → Goes (LinkActs links) p p l l
goes_nowhere links p l = record { steps = []; walks = refl; acts = refl }

-- a phase that is the same
pub goes_from : {S : Type 0} (does : Doing S) (p p' q : Phase) (old new : S) → p ≡ p' → Goes does p' q old new → Goes does p q old new
goes_from does p p' q old new is goes = subst (λ (from : Phase). Goes does from q old new) (sym is) goes

pub goes_to : {S : Type 0} (does : Doing S) (p q q' : Phase) (old new : S) → q ≡ q' → Goes does p q old new → Goes does p q' old new
goes_to does p q q' old new is goes = subst (λ (to : Phase). Goes does p to old new) is goes

pub stops_from : {S : Type 0} (does : Doing S) (p p' : Phase) (end : ViewEnd) (old new : S) → p ≡ p' → Stops does p' end old new → Stops does p end old new
stops_from does p p' end old new is stops = subst (λ (from : Phase). Stops does from end old new) (sym is) stops

-- memory is wanted before anything is done, or the end is reached
pub link_wants : {L : Type 0} (links : LinksTell L) (p : Phase) (end : ViewEnd) (l : L) → end ≡ ending.WantOfMemory → Stops (LinkActs links) p end l l
link_wants links p end l is = record { steps = []; last = p; cut = None; walks = refl; acts = refl; ends = inr is }

pub wants : {F W N L : Type 0} (tells : OutsideTells F W N L) (p : Phase) (end : ViewEnd) (o : Outside F W N L) → end ≡ ending.WantOfMemory → Stops (Acts tells) p end o o
wants tells p end o is = record { steps = []; last = p; cut = None; walks = refl; acts = refl; ends = inr is }

pub reaches_end : {S : Type 0} (does : Doing S) (p q : Phase) (end : ViewEnd) (old new : S) → Goes does p q old new → q ≡ Over end → Stops does p end old new
reaches_end does p q end old new goes is = record { steps = goes.steps; last = q; cut = None; walks = goes.walks; acts = goes.acts; ends = inl is }

-- ---- one step

module _ {L : Type 0} (links : LinksTell L) (v : Viewer) (frame : ClientFrame) (frames : List ClientFrame) (task : Task) (old new : L) where
  abbrev pub after_send : Phase
  after_send = send_all (record v { receives = 0 }) frames task

  pub sent_goes : IsClientFrame frame → IsReadAsWorld v frame → SendsFrame links Well (client_spelling frame) old new → Goes (LinkActs links) (Sending v frame frames task) after_send old new
  sent_goes fits reads sends = record { steps = Sends (client_spelling frame) ∷ []; walks = (after_send, (refl, fits, reads, refl), refl); acts = inl (new, sends, refl) }

  pub sent_stops : (came : Came) (end : ViewEnd) → IsCutEnd came (Sends (client_spelling frame)) end → (came ≡ Failed) ⊎ (came ≡ WantedMemory) → IsClientFrame frame → IsReadAsWorld v frame
      → SendsFrame links came (client_spelling frame) old new → Stops (LinkActs links) (Sending v frame frames task) end old new
  sent_stops Failed end is which fits reads sends = record {
    steps = Sends (client_spelling frame) ∷ [];
    last = after_send;
    cut = Some (record { step = Sends (client_spelling frame); came = Failed });
    walks = (after_send, (refl, fits, reads, refl), refl);
    acts = inr (inl (sends, refl));
    ends = is;
  }
  sent_stops WantedMemory end is which fits reads sends = record {
    steps = Sends (client_spelling frame) ∷ [];
    last = after_send;
    cut = Some (record { step = Sends (client_spelling frame); came = WantedMemory });
    walks = (after_send, (refl, fits, reads, refl), refl);
    acts = inr (inr (sends, refl));
    ends = is;
  }
  sent_stops Well end is (inl never) fits reads sends = absurd cc
  sent_stops Well end is (inr never) fits reads sends = absurd cc

-- ---- a link's steps among those of an output and a link

module _ {W L : Type 0} (out : OutputTells W) (links : LinksTell L) (w : W) where
  acts_on_link_side : (came : Came) (step : Step) (old new : L) → ActsOnLink links came step old new → ActsOn (link_side_tells out links) came step (link_side w old) (link_side w new)
  acts_on_link_side came (Hears what) old new hears = (hears, refl)
  acts_on_link_side came (Sends frame) old new sends = (sends, refl)
  acts_on_link_side came (Loads ask given) old new never = absurd never
  acts_on_link_side came (Puts name bytes) old new never = absurd never
  acts_on_link_side came (Looks name) old new never = absurd never
  acts_on_link_side came (Prints text) old new never = absurd never
  acts_on_link_side came (Connects address) old new never = absurd never
  acts_on_link_side came Returns old new never = absurd never

  pub acts_in_link_side : (steps : List Step) (cut : Option Cut) (old new : L) → LinkActs links steps cut old new → Acts (link_side_tells out links) steps cut (link_side w old) (link_side w new)
  acts_in_link_side [] None old new kept = ap (link_side w) kept
  acts_in_link_side [] (Some cut) old new never = absurd never
  acts_in_link_side (step ∷ steps) cut old new (inl (mid, acts, rest)) = inl (link_side w mid, acts_on_link_side Well step old mid acts, acts_in_link_side steps cut mid new rest)
  acts_in_link_side (step ∷ steps) cut old new (inr (inl (acts, is))) = inr (inl (acts_on_link_side Failed step old new acts, is))
  acts_in_link_side (step ∷ steps) cut old new (inr (inr (acts, is))) = inr (inr (acts_on_link_side WantedMemory step old new acts, is))

  pub goes_in_link_side : (p q : Phase) (old new : L) → Goes (LinkActs links) p q old new → Goes (Acts (link_side_tells out links)) p q (link_side w old) (link_side w new)
  goes_in_link_side p q old new goes = record { steps = goes.steps; walks = goes.walks; acts = acts_in_link_side goes.steps None old new goes.acts }

  pub stops_in_link_side : (p : Phase) (end : ViewEnd) (old new : L) → Stops (LinkActs links) p end old new → Stops (Acts (link_side_tells out links)) p end (link_side w old) (link_side w new)
  stops_in_link_side p end old new stops = record { steps = stops.steps; last = stops.last; cut = stops.cut; walks = stops.walks; acts = acts_in_link_side stops.steps stops.cut old new stops.acts; ends = stops.ends }

-- ---- frames in a row

-- the next of the frames that are left
pub frame_at : (v : Viewer) (frames : List ClientFrame) (i : ℕ) (frame : ClientFrame) (task : Task) → i < length frames → frame ≡ get_or frames i frame → send_all v (drop i frames) task ≡ Sending v frame (drop (i + 1) frames) task
frame_at v frames i frame task within is =
    at_drop_more (λ (left : List ClientFrame). send_all v left task) frames i frame within ∙ ap (λ (one : ClientFrame). send_all v (one ∷ drop (i + 1) frames) task) (sym is)

-- each of the frames is read as the view's world, where it is a snapshot
pub read_at : (v : Viewer) (frames : List ClientFrame) (i : ℕ) (frame : ClientFrame) → AllByRecursion (IsReadAsWorld v) frames → i < length frames → frame ≡ get_or frames i frame → IsReadAsWorld v frame
read_at v [] i frame reads within is = absurd (omega (arith, within))
read_at v (first ∷ frames) zero frame reads within is = subst (IsReadAsWorld v) (sym is) reads.0
read_at v (first ∷ frames) (suc i) frame reads within is = read_at v frames i frame reads.1 (omega (arith, within)) is

-- and fits its fields, where each does
pub fits_at : (frames : List ClientFrame) (i : ℕ) (frame : ClientFrame) → AllByRecursion FitsClient frames → i < length frames → frame ≡ get_or frames i frame → FitsClient frame
fits_at [] i frame fit within is = absurd (omega (arith, within))
fits_at (first ∷ frames) zero frame fit within is = subst FitsClient (sym is) fit.0
fits_at (first ∷ frames) (suc i) frame fit within is = fits_at frames i frame fit.1 (omega (arith, within)) is

sends_read : (v : Viewer) (number : ℕ) (payloads : List (List ℕ)) → AllByRecursion (IsReadAsWorld v) (sends_after number payloads)
sends_read v number [] = tt
sends_read v number (payload ∷ rest) = (tt, sends_read v (number + 1) rest)

read_if : (v : Viewer) (test : Bool) (frames : List ClientFrame) → AllByRecursion (IsReadAsWorld v) frames → AllByRecursion (IsReadAsWorld v) (if test then frames else [])
read_if v true frames reads = reads
read_if v false frames reads = tt

-- none of the events that a view sends is one
pub unsent_read : (v : Viewer) (r : PlainReplica WorldRecord PlainOutgoing) → AllByRecursion (IsReadAsWorld v) (unsent r)
unsent_read v r = read_if v r.synced _ (sends_read v r.given (drop (r.given - r.acknowledged) r.outbox))

-- a view that is due to say that it is alive
pub alive_now : (v : Viewer) (frames : List ClientFrame) (task : Task) → v.receives ≡ most_receives → go_on v frames task ≡ Sending v client.Alive frames task
alive_now v frames task is = ap (λ (n : ℕ). send_all v ((if n == most_receives then client.Alive ∷ [] else []) ++ frames) task) is

-- ---- answers that are handed on

-- what a `?` hands on
pub handed_on : {A E : Type 0} (r : Result A E) (end : E) → IsErrAnd r (λ e. e ≡ end) → r ≡ Err end
handed_on {E = E} r end handed = let given = err_from_is_err_and r handed in given.1 ∙ ap (λ (e : E). Err e) given.2

-- the last call's answer, behind what was done before
pub goes_or_stops_on : {S A : Type 0} (does : Doing S) (follows : Follows does) (p q : Phase) (to : A → Phase) (r : Result A ViewEnd) (old mid new : S) → Goes does p q old mid → GoesOrStops does q to r mid new → GoesOrStops does p to r old new
goes_or_stops_on does follows p q to (Ok answer) old mid new first goes = goes_on does follows p q (to answer) old mid new first goes
goes_or_stops_on does follows p q to (Err end) old mid new first stops = goes_and_stops does follows p q end old mid new first stops

-- and from a phase that is the same
pub goes_or_stops_from : {S A : Type 0} (does : Doing S) (p p' : Phase) (to : A → Phase) (r : Result A ViewEnd) (old new : S) → p ≡ p' → GoesOrStops does p' to r old new → GoesOrStops does p to r old new
goes_or_stops_from does p p' to r old new is there = subst (λ (from : Phase). GoesOrStops does from to r old new) (sym is) there

-- a count that is none behind an answer that is well
pub goes_or_stops_sent : {S : Type 0} (does : Doing S) (p : Phase) (v : Viewer) (n : ℕ) (frames : List ClientFrame) (task : Task) (r : Result ⊤ ViewEnd) (old new : S) → OnOk r (n ≡ 0)
    → GoesOrStops does p (λ it. send_all (record v { receives = 0 }) frames task) r old new → GoesOrStops does p (λ it. send_all (record v { receives = n }) frames task) r old new
goes_or_stops_sent does p v n frames task (Ok it) old new is goes = goes_to does p _ _ old new (ap (λ (k : ℕ). send_all (record v { receives = k }) frames task) (sym is)) goes
goes_or_stops_sent does p v n frames task (Err end) old new is stops = stops
