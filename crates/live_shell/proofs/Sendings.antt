-- Frames that are sent and texts that are printed.
use Rattle.std.proofs.Common.{◌≡◌, ℕ, ◌+◌, ◌<◌, ◌≤◌, ◌==◌, List, [], ◌∷◌, length, drop, get_or, Bool, true, false, Result, Ok, Err, refl, sym, ap, subst, ◌∙◌, inl, inr, arith}
use Rattle.std.specs.Prelude.{⊤, OnOk}
use Rattle.std.proofs.lemmas.Bool.Decides.{nat_tests}
use Rattle.std.proofs.lemmas.List.{at_drop_more, drop_all}
use Rattle.run_steps.specs.Calls.{came_of}
use Rattle.run_steps.specs.declared.calls.CallFault.{CallFault}
use Rattle.run_steps.specs.declared.calls.CallFault.TheVariants as fault
use Rattle.run_steps.specs.Outside.{OutputTells, LinksTell, Came, Well, Failed, WantedMemory, PrintsText, SendsFrame}
use Rattle.view_shell.specs.declared.ending.ViewEnd.{ViewEnd}
use Rattle.view_shell.specs.declared.ending.ViewEnd.TheVariants as ending
use Rattle.live_view.specs.declared.input.LiveInput.{LiveInput}
use Rattle.live_view.specs.declared.machine.LiveView.{LiveView}
use Rattle.live_view.specs.declared.outcome.LiveOutcome.{LiveOutcome}
use Rattle.live_view.specs.Live.{LiveTold, live_step}
use Rattle.live_view.specs.View.{live_state, told_by}
use Rattle.live_shell.specs.LiveRun.{StepsTo, here_text}
use Rattle.live_shell.specs.Calls.{Answers, IsEndOf, Prints, PrintsBoth, PrintsNot, PrintsSome, SendsAll}

-- ---- frames

-- those before some were sent
pub record SentSoFar {L : Type 0} (links : LinksTell L) (frames rest : List (List ℕ)) (old now : L) : Type 0 where
  pub on : (came : Came) (new : L) → SendsAll links rest came now new → SendsAll links frames came old new

sends_more : {L : Type 0} (links : LinksTell L) (frame : List ℕ) (frames : List (List ℕ)) (came : Came) (old mid new : L) → SendsFrame links Well frame old mid → SendsAll links frames came mid new → SendsAll links (frame ∷ frames) came old new
sends_more links frame frames Well old mid new sent rest = (mid, sent, rest)
sends_more links frame frames Failed old mid new sent rest = inl (mid, sent, rest)
sends_more links frame frames WantedMemory old mid new sent rest = inl (mid, sent, rest)

sends_fails : {L : Type 0} (links : LinksTell L) (frame : List ℕ) (frames : List (List ℕ)) (why : CallFault) (old new : L) → SendsFrame links (came_of {T = ⊤} (Err why)) frame old new → SendsAll links (frame ∷ frames) (came_of {T = ⊤} (Err why)) old new
sends_fails links frame frames fault.Failed old new fails = inr fails
sends_fails links frame frames fault.WantOfMemory old new fails = inr fails

-- the frame at a place, and those behind it
frames_here : (frames : List (List ℕ)) (i : ℕ) (frame : List ℕ) → i < length frames → frame ≡ get_or frames i frame → drop i frames ≡ frame ∷ drop (i + 1) frames
frames_here frames i frame within is = at_drop_more (λ fs. fs) frames i frame within ∙ ap (λ (f : List ℕ). f ∷ drop (i + 1) frames) (sym is)

pub sent_more : {L : Type 0} (links : LinksTell L) (frames : List (List ℕ)) (i : ℕ) (frame : List ℕ) (old now new : L) → i < length frames → frame ≡ get_or frames i frame → SentSoFar links frames (drop i frames) old now
    → SendsFrame links Well frame now new → SentSoFar links frames (drop (i + 1) frames) old new
sent_more links frames i frame old now new within is so_far sent =
    record { on = λ came last rest. so_far.on came last (subst (λ fs. SendsAll links fs came now last) (sym (frames_here frames i frame within is)) (sends_more links frame (drop (i + 1) frames) came now new last sent rest)) }

pub sent_not : {L : Type 0} (links : LinksTell L) (frames : List (List ℕ)) (i : ℕ) (frame : List ℕ) (why : CallFault) (old now new : L) → i < length frames → frame ≡ get_or frames i frame → SentSoFar links frames (drop i frames) old now
    → SendsFrame links (came_of {T = ⊤} (Err why)) frame now new → SendsAll links frames (came_of {T = ⊤} (Err why)) old new
sent_not links frames i frame why old now new within is so_far fails =
    so_far.on (came_of {T = ⊤} (Err why)) new (subst (λ fs. SendsAll links fs (came_of {T = ⊤} (Err why)) now new) (sym (frames_here frames i frame within is)) (sends_fails links frame (drop (i + 1) frames) why now new fails))

pub sent_all : {L : Type 0} (links : LinksTell L) (frames : List (List ℕ)) (i : ℕ) (old now : L) → length frames ≤ i → SentSoFar links frames (drop i frames) old now → SendsAll links frames Well old now
sent_all links frames i old now over so_far = so_far.on Well now (subst (λ fs. SendsAll links fs Well now now) (sym (drop_all i frames over)) refl)

-- ---- texts

no_bytes : (text : List ℕ) → (length text == 0) ≡ true → text ≡ []
no_bytes [] is = refl
no_bytes (byte ∷ text) is = absurd (grind (arith, nat_tests, is))

pub prints_none : {W : Type 0} (out : OutputTells W) (text : List ℕ) (w : W) → (length text == 0) ≡ true → PrintsSome out text Well w w
prints_none out text w is = subst (λ t. PrintsSome out t Well w w) (sym (no_bytes text is)) refl

pub prints_some : {W : Type 0} (out : OutputTells W) (text : List ℕ) (came : Came) (w w' : W) → (length text == 0) ≡ false → PrintsText out came text w w' → PrintsSome out text came w w'
prints_some out [] came w w' is printed = absurd cc
prints_some out (byte ∷ text) came w w' is printed = printed

-- ---- ends

pub ends_by : (why : CallFault) (end known : ViewEnd) → (why ≡ fault.Failed → end ≡ known) → (why ≡ fault.WantOfMemory → end ≡ ending.WantOfMemory) → IsEndOf (came_of {T = ⊤} (Err why)) known end
ends_by fault.Failed end known failed wanted = failed refl
ends_by fault.WantOfMemory end known failed wanted = wanted refl

-- ---- what a view answers

pub answered : {W L : Type 0} (out : OutputTells W) (links : LinksTell L) (t : LiveTold) (frames : List (List ℕ)) (text : List ℕ) (here : Bool) (result : Result ⊤ ViewEnd) (w w' : W) (l l' : L)
    → frames ≡ t.frames → text ≡ t.text → here ≡ t.here → SendsAll links frames Well l l' → Prints out text (here_text here) result w w' → Answers out links t result w w' l l'
answered out links t frames text here (Ok done) w w' l l' fs ts hs sent printed = record {
  sent = subst (λ f. SendsAll links f Well l l') fs sent;
  printed = subst (λ h. PrintsBoth out t.text (here_text h) w w') hs (subst (λ x. PrintsBoth out x (here_text here) w w') ts printed);
}
answered out links t frames text here (Err end) w w' l l' fs ts hs sent printed = inr (record {
  sent = subst (λ f. SendsAll links f Well l l') fs sent;
  printed = subst (λ h. PrintsNot out t.text (here_text h) end w w') hs (subst (λ x. PrintsNot out x (here_text here) end w w') ts printed);
})

pub not_sent : {W L : Type 0} (out : OutputTells W) (links : LinksTell L) (t : LiveTold) (frames : List (List ℕ)) (why : CallFault) (end : ViewEnd) (w : W) (l l' : L)
    → frames ≡ t.frames → SendsAll links frames (came_of {T = ⊤} (Err why)) l l' → IsEndOf (came_of {T = ⊤} (Err why)) ending.NetFault end → Answers out links t (Err end) w w l l'
not_sent out links t frames why end w l l' fs sent ends = inl (record { came = came_of {T = ⊤} (Err why); sent = subst (λ f. SendsAll links f (came_of {T = ⊤} (Err why)) l l') fs sent; ends = ends; kept = refl })

-- what is so is so where a call did well
pub well : {A X E : Type 0} (done : Result A E) → X → OnOk done X
well (Ok it) x = x
well (Err fault) x = tt

-- the view behind what it was told
pub stepped : {A E : Type 0} (done : Result A E) (address : List ℕ) (out : LiveOutcome) (old new : LiveView) (told : LiveInput) → told_by address out new ≡ live_step (live_state address old) told
    → OnOk done (StepsTo (live_state address old) told (live_state address new))
stepped (Ok it) address out old new told is = record { is = ap (λ (t : LiveTold). t.state) is; fit = sym (ap (λ (t : LiveTold). t.fit) is) }
stepped (Err fault) address out old new told is = tt

pub steps_by : (address : List ℕ) (out : LiveOutcome) (old new : LiveView) (told : LiveInput) → told_by address out new ≡ live_step (live_state address old) told → StepsTo (live_state address old) told (live_state address new)
steps_by address out old new told is = record { is = ap (λ (t : LiveTold). t.state) is; fit = sym (ap (λ (t : LiveTold). t.fit) is) }
