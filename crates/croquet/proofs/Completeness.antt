-- A command whose inputs are right, and no call of which has failed, is done, or runs out of memory.
use Rattle.std.proofs.Common.{◌≡◌, ◌⊎◌, inl, inr, ℕ, ℤ, ◌≤◌, false, List, [], ◌∷◌, ◌++◌, length, replicate, Option, Some, None, Result, Ok, Err, refl, sym, subst}
use Rattle.tea_base.specs.declared.entry.SessionId.{SessionId}
use Rattle.tea_base.specs.declared.want.WantOfMemory.{WantOfMemory}
use Rattle.tea_io.specs.Told.{Rose}
use Rattle.run_steps.specs.Steps.{Step, Puts, Prints, Looks}
use Rattle.run_steps.specs.Outside.{Acts, Cut, FilesTell, LinksTell, NetTells, Outside, OutputTells, WantedMemory, outside_tells}
use Rattle.command_words.specs.declared.words.Command.{Command}
use Rattle.command_words.specs.declared.words.Command.TheVariants.{Stamp, Check, Replay, Inspect, Trace, Votes, Hub, Join, Live, Reflect, Host, Drill}
use Rattle.command_words.specs.declared.words.DrillRequest.{DrillRequest}
use Rattle.command_words.specs.declared.words.ServingSpan.{ServingSpan}
use Rattle.command_words.specs.declared.words.ServingSpan.TheVariants as serving_span
use Rattle.session_log.specs.Stored.{stored_spelling}
use Rattle.snapshot_codec.specs.Spelling.{world_spelling}
use Rattle.world.specs.Worlds.{replay}
use Rattle.reflector_core.specs.PlainSession.{PlainSession}
use Rattle.reflector_core.specs.SessionState.{SessionState}
use Rattle.reflector_core.specs.Stored.{stored_of}
use Rattle.tea_io.specs.declared.net.NetFault.{NetFault}
use Rattle.tea_io.specs.declared.net.NetFault.TheVariants as net_fault
use Rattle.reflect_server.specs.Rounds.{CountsStop}
use Rattle.reflect_server.specs.declared.reflection.Reflected.{Reflected}
use Rattle.host_server.specs.declared.hosting.Hosted.{Hosted}
use Rattle.command_host.specs.Hosting.{session_puts}
use Rattle.reflect_posts.specs.declared.service.ReflectedOn.{ReflectedOn}
use Rattle.host_posts.specs.Hosts.{idle_post}
use Rattle.host_posts.specs.Shares.{SharesTell}
use Rattle.host_posts.specs.declared.posting.HostedOn.{HostedOn}
use Rattle.command_host.specs.HostedSteps.{hosted_text, posts_text}
use Rattle.command_posts.specs.PostsEnded.{posts_fault}
use Rattle.command_outcome.specs.declared.outcome.Put.{Put}
use Rattle.reflect_server.specs.declared.reflection.ServeFault.{ServeFault}
use Rattle.reflect_server.specs.declared.reflection.ServeFault.TheVariants as serve_fault
use Rattle.command_outcome.specs.Outcome.{numbered_puts, optional_put, steps_of}
use Rattle.command_reflect.specs.ReflectedSteps.{reflected_bytes, reflected_on_text, reflected_text}
use Rattle.command_drill.specs.DrilledSteps.{drilled_line, drilled_steps}
use Rattle.drill.specs.Drill.{drill_id}
use Rattle.drill.specs.Ending.{root_total}
use Rattle.drill.specs.declared.report.DrillReport.{DrillReport}
use Rattle.commands.specs.Laws.{AreAlike, IsFunction, TellsPlace}
use Rattle.commands.specs.Verdict.{ByDrill, ByHosting, ByReflecting, ByVisit, ByWant, Closing, Coming, Comes, Fine, Free, OfHostPuts, OfPut, OfWords, Only, PlainHosting, PlainReflection, PlainVisit, ThenAll, Verdict, fine, made_puts, put_steps}
use Rattle.commands.specs.Work.{AsksNoLive, NamesNoJournal}
use Rattle.commands.proofs.NetLaws.{never_keeps, never_lives}
use Rattle.journal_store.specs.Stores.{StoresTell}
use Rattle.live_shell.specs.LiveSteps.{FeedTells}
use Rattle.croquet.specs.declared.status.Status.{Status}
use Rattle.croquet.specs.Complete.{HasRightInput, IsByPeer, IsComplete, IsDone, IsDueOf, NoLinkFailed, NoneFailed}
use Rattle.croquet.specs.Drills.{OfDrilled}
use Rattle.croquet.specs.Run.{Concludes, Ending, OutOfMemory, OfHosted, OfHostedOn, OfReflected, OfReflectedOn, Ran, RanAlone, RanAsDrill, RanAsHost, RanAsReflector, RanAsService, RanBySteps, ReflectsFor, ServesHost, ServesNet, ServesPosts, ServesShares, Visits}
use Rattle.view_follows.specs.Answered.{AnsweredVisitsHaveNoFault, VisitsEndByRefusals, VisitsEndWithLinks}
use Rattle.croquet.proofs.Causes.{is_caused}
use Rattle.croquet.proofs.Counts.{CountsStay, EndsDone, EndsSaid, counts_on, counts_stay, done_by, net_moves, none_in_steps, none_within, rose_within, run_keeps, said_by, steps_keep}
use Rattle.croquet.proofs.LinkCounts.{HasFailed, IsCutByWant, cut_by_want, faults, rises, steps_lower_none}
use Rattle.croquet.proofs.PostCounts.{counts_posts, sunk_or_rose}
use Rattle.croquet.proofs.ReflectorRuns.{closed_with}
use Rattle.croquet.proofs.RightSteps.{AreRight, IsGiving, giving_are_right, goes_along}
use Rattle.croquet.proofs.RightVerdicts.{ClosesByVisit, ClosesWell, ComesRight, giving, words_right}
use Rattle.croquet.proofs.VisitEnds.{visit_said}

-- ---- what is like a verdict that puts and prints alone

want_alike : (steps : List Step) → AreAlike steps Fine [] ByWant
want_alike [] = inr (inr (inl refl))
want_alike (step ∷ steps) = refl

same_alike : (steps : List Step) → IsGiving steps → AreAlike steps Fine steps Fine
same_alike [] gives = inl refl
same_alike (Puts name bytes ∷ steps) gives = (refl, same_alike steps gives)
same_alike (Looks name ∷ steps) gives = (refl, same_alike steps gives)
same_alike (Prints text ∷ steps) gives = (refl, same_alike steps gives)
same_alike (step ∷ steps) never = absurd never

-- memory may be wanted behind all of them
short_alike : (steps : List Step) → IsGiving steps → AreAlike steps Fine steps ByWant
short_alike [] gives = inr (inr (inl refl))
short_alike (Puts name bytes ∷ steps) gives = (refl, short_alike steps gives)
short_alike (Looks name ∷ steps) gives = (refl, short_alike steps gives)
short_alike (Prints text ∷ steps) gives = (refl, short_alike steps gives)
short_alike (step ∷ steps) never = absurd never

free_alike : (steps : List Step) (verdict : Verdict) → IsGiving steps → Free (Only (fine steps)) verdict → AreAlike steps Fine verdict.steps verdict.closing
free_alike steps verdict gives (inl want) = subst (λ (v : Verdict). AreAlike steps Fine v.steps v.closing) (sym want) (want_alike steps)
free_alike steps verdict gives (inr is) = subst (λ (v : Verdict). AreAlike steps Fine v.steps v.closing) (sym is) (same_alike steps gives)

-- what is put of a session that was reflected, and then printed
abbrev reflected_steps : Option (List ℕ) → PlainSession → List ℕ → List Step
reflected_steps log session text = steps_of (optional_put log (reflected_bytes session)) text

reflected_gives : (log : Option (List ℕ)) (session : PlainSession) (text : List ℕ) → IsGiving (reflected_steps log session text)
reflected_gives log session text = giving (optional_put log (reflected_bytes session)) text

-- the text was printed, and nothing failed
text_alike : (text : List ℕ) (stopped : Option NetFault) (verdict : Verdict) → (stopped ≡ Some net_fault.Failed → ⊥) → Free (Only (closed_with text false stopped)) verdict
    → AreAlike (Prints text ∷ []) Fine verdict.steps verdict.closing
text_alike text None verdict fine comes = free_alike (Prints text ∷ []) verdict tt comes
text_alike text (Some net_fault.Failed) verdict fine comes = absurd (fine refl)
text_alike text (Some net_fault.WantOfMemory) verdict fine (inl want) =
    subst (λ (v : Verdict). AreAlike (Prints text ∷ []) Fine v.steps v.closing) (sym want) (want_alike (Prints text ∷ []))
text_alike text (Some net_fault.WantOfMemory) verdict fine (inr is) =
    subst (λ (v : Verdict). AreAlike (Prints text ∷ []) Fine v.steps v.closing) (sym is) (short_alike (Prints text ∷ []) tt)

reflected_alike
    : (log : Option (List ℕ)) (session : PlainSession) (text : List ℕ) (stopped : Option NetFault) (verdict : Verdict) → (stopped ≡ Some net_fault.Failed → ⊥) → OfPut log session (Free (Only (closed_with text false stopped))) verdict
    → AreAlike (reflected_steps log session text) Fine verdict.steps verdict.closing
reflected_alike None session text stopped verdict fine comes = text_alike text stopped verdict fine comes
reflected_alike (Some name) session text stopped verdict fine (rest, is, comes) =
    subst (λ (v : Verdict). AreAlike (reflected_steps (Some name) session text) Fine v.steps v.closing) (sym is) (refl, text_alike text stopped rest fine comes)

-- what is put of sessions that were hosted, and then printed
abbrev hosted_steps : List (List ℕ) → List ℕ → List SessionId → List SessionState → List ℕ → List Step
hosted_steps logs prefix ids sessions text = put_steps (session_puts logs sessions) ++ (put_steps (made_puts (length logs) prefix ids sessions) ++ Prints text ∷ [])

puts_give : (puts : List Put) (steps : List Step) → IsGiving steps → IsGiving (put_steps puts ++ steps)
puts_give [] steps gives = gives
puts_give (put ∷ puts) steps gives = puts_give puts steps gives

hosted_gives : (logs : List (List ℕ)) (prefix : List ℕ) (ids : List SessionId) (sessions : List SessionState) (text : List ℕ) → IsGiving (hosted_steps logs prefix ids sessions text)
hosted_gives logs prefix ids sessions text =
    let made = made_puts (length logs) prefix ids sessions in
    let printed : List Step = Prints text ∷ [] in
    puts_give (session_puts logs sessions) (put_steps made ++ printed) (puts_give made printed tt)

puts_alike : (puts : List Put) (steps more : List Step) (closing : Closing) → AreAlike steps Fine more closing → AreAlike (put_steps puts ++ steps) Fine (put_steps puts ++ more) closing
puts_alike [] steps more closing alike = alike
puts_alike (put ∷ puts) steps more closing alike = (refl, puts_alike puts steps more closing alike)

-- those that were made on demand were put, and the text was printed
made_alike
    : (puts : List Put) (text : List ℕ) (stopped : Option NetFault) (verdict : Verdict) → (stopped ≡ Some net_fault.Failed → ⊥) → Free (ThenAll (put_steps puts) (Free (Only (closed_with text false stopped)))) verdict
    → AreAlike (put_steps puts ++ Prints text ∷ []) Fine verdict.steps verdict.closing
made_alike puts text stopped verdict fine (inl want) =
    subst (λ (v : Verdict). AreAlike (put_steps puts ++ Prints text ∷ []) Fine v.steps v.closing) (sym want) (want_alike (put_steps puts ++ Prints text ∷ []))
made_alike puts text stopped verdict fine (inr (rest, is, comes)) =
    subst (λ (v : Verdict). AreAlike (put_steps puts ++ Prints text ∷ []) Fine v.steps v.closing) (sym is)
    (puts_alike puts (Prints text ∷ []) rest.steps rest.closing (text_alike text stopped rest fine comes))

hosted_alike
    : (logs : List (List ℕ)) (prefix : List ℕ) (ids : List SessionId) (sessions : List SessionState) (text : List ℕ) (stopped : Option NetFault) (verdict : Verdict) → (stopped ≡ Some net_fault.Failed → ⊥)
    → OfHostPuts logs prefix ids sessions (closed_with text false stopped) verdict → AreAlike (hosted_steps logs prefix ids sessions text) Fine verdict.steps verdict.closing
hosted_alike logs prefix ids sessions text stopped verdict fine (rest, is, comes) =
    let made = made_puts (length logs) prefix ids sessions in
    subst (λ (v : Verdict). AreAlike (hosted_steps logs prefix ids sessions text) Fine v.steps v.closing) (sym is)
    (puts_alike (session_puts logs sessions) (put_steps made ++ Prints text ∷ []) rest.steps rest.closing (made_alike made text stopped rest fine comes))

-- and of a drill

drilled_gives : (request : DrillRequest) (session : PlainSession) (snapshots : List (List ℕ)) (total : ℤ) (agree : ℕ) → IsGiving (drilled_steps request session snapshots total agree)
drilled_gives request session snapshots total agree =
    giving (record { name = request.log; bytes = stored_spelling (stored_of session) } ∷ numbered_puts request.snapshots 1 snapshots) (drilled_line request (length session.log) total agree)

module _ {F W N L : Type 0} (files : FilesTell F) (out : OutputTells W) (net : NetTells N L) (links : LinksTell L) where
  -- ---- by steps

  ends_fine : (cut : Option Cut) (ending : Ending) (mid new : Outside F W N L) → Acts (outside_tells files out net links) [] cut mid new → Concludes Fine [] ending → EndsDone cut ending
  ends_fine None ending mid new acts ends = inl ends.1
  ends_fine (Some cut) ending mid new never ends = absurd never

  ends_well
      : (closing : Closing) (more : List Step) (ending : Ending) (cut : Option Cut) (mid new : Outside F W N L) → ClosesWell closing → Concludes closing more ending → Acts (outside_tells files out net links) more cut mid new
      → EndsDone cut ending
  ends_well Fine more ending cut mid new right ends acts =
      ends_fine cut ending mid new (subst (λ (s : List Step). Acts (outside_tells files out net links) s cut mid new) ends.0 acts) (refl, ends.1)
  ends_well (ByReflecting reflection) more ending cut mid new right never acts = absurd never
  ends_well (ByHosting hosting) more ending cut mid new right never acts = absurd never
  ends_well (ByDrill request) more ending cut mid new right never acts = absurd never
  ends_well closing more ending cut mid new never ends acts = absurd never

  -- the verdict that came is like this one, whose reads give what is held
  module _ (right : Verdict) (coming : Coming) (old new : Outside F W N L) (result : Status) (ran : RanBySteps (outside_tells files out net links) coming old new result) where
    abbrev pub IsLikeRight : Type 0
    IsLikeRight = AreRight (files.held old.files) right.steps × AreAlike right.steps right.closing ran.course.verdict.steps ran.course.verdict.closing

    along
        : (Ends : Option Cut → Ending → Type 0) → (right.closing ≡ ByWant → ⊥) → (TellsPlace right.closing → ⊥)
        → ((mid : Outside F W N L) → Concludes right.closing ran.course.more ran.ending → Acts (outside_tells files out net links) ran.course.more ran.does.cut mid ran.does.done → NoneFailed files out net mid ran.does.done → Ends ran.does.cut ran.ending)
        → (ran.ending ≡ OutOfMemory → Ends None ran.ending) → ((step : Step) → Ends (Some (record { step = step; came = WantedMemory })) ran.ending)
        → IsLikeRight → NoneFailed files out net old new → Ends ran.does.cut ran.ending
    along Ends not_want not_place closes wants runs_out (reads, alike) none =
        goes_along files out net links right.closing not_want not_place ran.course.more ran.ending ran.does.cut ran.does.done (Ends ran.does.cut ran.ending)
        closes
        (λ uncut is. subst (λ (c : Option Cut). Ends c ran.ending) (sym uncut) (wants is))
        (λ step is. subst (λ (c : Option Cut). Ends c ran.ending) (sym is) (runs_out step))
        right.steps ran.course.verdict.steps ran.course.verdict.closing old reads alike ran.course.concludes
        (subst (λ (s : List Step). Acts (outside_tells files out net links) s ran.does.cut old ran.does.done) ran.course.all ran.does.acts)
        (none_in_steps files out net links ran.steps ran.ending old new result ran.does none)

    done_along : ClosesWell right.closing → IsLikeRight → NoneFailed files out net old new → IsDone result
    done_along closing like none =
        done_by files out net links ran.steps ran.ending old new result ran.does none
        (along EndsDone (λ want. subst (λ (c : Closing). ClosesWell c) want closing) (λ place. subst (λ (c : Closing). ClosesWell c) place.1 closing)
        (λ mid ends acts left. ends_well right.closing ran.course.more ran.ending ran.does.cut mid ran.does.done closing ends acts)
        (λ is. inr is) (λ step. refl) like none)

    -- ---- a visit

    -- no link that was in use has failed
    no_link_failed : ¬ Rose (faults files out net links old) (faults files out net links new) → ¬ HasFailed links ran.does.done.link
    no_link_failed calm failed =
        calm
        (subst (λ (o : Outside F W N L). Rose (faults files out net links old) (faults files out net links o)) (sym ran.does.told.1)
        (rises files out net links ran.does.done.link old ran.does.done ran.does.left (steps_lower_none files out net links ran.steps ran.does.cut old ran.does.done ran.does.acts) failed refl ran.does.goes_back))

    ends_visit : (visit : PlainVisit) (cut : Option Cut) → Visits visit ran.course.more ran.ending → IsCutByWant files out net links cut → EndsSaid cut ran.ending
    ends_visit visit None visits uncut = inr (visits.end, visits.is, visit_said visit ran.course.more ran.ending visits)
    ends_visit visit (Some cut) visits wanted = wanted

    closes_visit
        : (closing : Closing) → ClosesByVisit closing → ¬ HasFailed links ran.does.done.link → (mid : Outside F W N L) → Concludes closing ran.course.more ran.ending
        → Acts (outside_tells files out net links) ran.course.more ran.does.cut mid ran.does.done → NoneFailed files out net mid ran.does.done → EndsSaid ran.does.cut ran.ending
    closes_visit (ByVisit visit) closing fine mid visits acts none =
        ends_visit visit ran.does.cut visits (cut_by_want files out net links ran.course.more ran.does.cut mid ran.does.done fine acts none)
    closes_visit closing never fine mid visits acts none = absurd never

    visit_along : ClosesByVisit right.closing → IsLikeRight → NoneFailed files out net old new → ¬ Rose (faults files out net links old) (faults files out net links new) → IsDone result ⊎ IsByPeer result
    visit_along closing like none calm =
        said_by files out net links ran.steps ran.ending old new result ran.does none
        (along EndsSaid (λ want. subst (λ (c : Closing). ClosesByVisit c) want closing) (λ place. subst (λ (c : Closing). ClosesByVisit c) place.1 closing)
        (closes_visit right.closing closing (no_link_failed calm)) (λ is. inl is) (λ step. refl) like none)

  -- steps that put and print alone are done, or memory runs out among them
  done_alike
      : (steps : List Step) (coming : Coming) (old new : Outside F W N L) (result : Status) (ran : RanBySteps (outside_tells files out net links) coming old new result) → IsGiving steps
      → AreAlike steps Fine ran.course.verdict.steps ran.course.verdict.closing → NoneFailed files out net old new → IsDone result
  done_alike steps coming old new result ran gives alike none =
      done_along (fine steps) coming old new result ran tt (giving_are_right (files.held old.files) steps gives, alike) none

  done_giving
      : (steps : List Step) (coming : Coming) (old new : Outside F W N L) (result : Status) (ran : RanBySteps (outside_tells files out net links) coming old new result) → IsGiving steps → Free (Only (fine steps)) ran.course.verdict
      → NoneFailed files out net old new → IsDone result
  done_giving steps coming old new result ran gives comes none =
      done_alike steps coming old new result ran gives (free_alike steps ran.course.verdict gives comes) none

  -- ---- as the words ask
  module _ (function : IsFunction) (command : Option Command) (old new : Outside F W N L) (result : Status) (ran : RanBySteps (outside_tells files out net links) (Comes command) old new result) (none : NoneFailed files out net old new) where
    like_right : (verdict : Verdict) → OfWords command verdict → AreRight (files.held old.files) verdict.steps → IsLikeRight verdict (Comes command) old new result ran
    like_right verdict comes reads = (reads, function command verdict ran.course.verdict (inr comes) ran.course.comes)

    own_steps : ComesRight (files.held old.files) ClosesWell (OfWords command) → IsDone result
    own_steps due = done_along due.verdict (Comes command) old new result ran due.closing (like_right due.verdict due.comes due.reads) none

    visit_steps : ComesRight (files.held old.files) ClosesByVisit (OfWords command) → ¬ Rose (faults files out net links old) (faults files out net links new) → IsDone result ⊎ IsByPeer result
    visit_steps due calm = visit_along due.verdict (Comes command) old new result ran due.closing (like_right due.verdict due.comes due.reads) none calm

  by_steps
      : IsFunction → (command : Option Command) (old new : Outside F W N L) (result : Status) → RanBySteps (outside_tells files out net links) (Comes command) old new result
      → HasRightInput files old.files command → NoneFailed files out net old new → NoLinkFailed net command old.net new.net → IsDueOf command result
  by_steps function (Some (Join request)) old new result ran right none calm =
      visit_steps function (Some (Join request)) old new result ran none (words_right files old.files (Some (Join request)) right) calm
  by_steps function command old new result ran right none fine = own_steps function command old new result ran none (words_right files old.files command right)

  -- ---- as a reflector

  module _ (gives : ℕ → Type 0) (old ready served new : Outside F W N L) (result : Status) (first : CountsStay files out net old ready) (none : NoneFailed files out net old new) where
    -- the net has not failed
    net_is_fine : CountsStay files out net served new → Rose (net.faults ready.net) (net.faults served.net) → ⊥
    net_is_fine last rose = none.of_net (rose_within _ _ _ _ first.of_net last.of_net rose)

    none_behind : net.faults ready.net ≤ net.faults served.net → served ≡ record ready { net = served.net } → NoneFailed files out net served new
    none_behind later is =
        none_within files out net links old served new new
        (counts_on files out net links old ready served first (net_moves files out net links ready served served.net ready.link later is)) (counts_stay files out net links new new refl) none

    rose_at : (stopped : Option NetFault) → stopped ≡ Some net_fault.Failed → CountsStop (net.faults ready.net) (net.faults served.net) stopped → Rose (net.faults ready.net) (net.faults served.net)
    rose_at stopped failed counts = (subst (CountsStop (net.faults ready.net) (net.faults served.net)) failed counts).1

    later_at : (stopped : Option NetFault) → CountsStop (net.faults ready.net) (net.faults served.net) stopped → net.faults ready.net ≤ net.faults served.net
    later_at None counts = counts
    later_at (Some net_fault.Failed) counts = counts.0
    later_at (Some net_fault.WantOfMemory) counts = counts

    told
        : (steps : List Step) (stopped : Option NetFault) (coming : Coming) → IsGiving steps → ((v : Verdict) → (stopped ≡ Some net_fault.Failed → ⊥) → coming v → AreAlike steps Fine v.steps v.closing)
        → CountsStop (net.faults ready.net) (net.faults served.net) stopped → served ≡ record ready { net = served.net }
        → (ran : RanBySteps (outside_tells files out net links) coming served new result) → CountsStay files out net served new → IsDone result
    told steps stopped coming gives alike counts is ran last =
        done_alike steps coming served new result ran gives
        (alike ran.course.verdict (λ failed. net_is_fine last (rose_at stopped failed counts)) ran.course.comes) (none_behind (later_at stopped counts) is)

    answered
        : (reflection : PlainReflection) (connections : ℕ) (answer : Result Reflected ServeFault) → ServesNet gives (outside_tells files out net links) reflection connections answer ready served
        → (ran : RanBySteps (outside_tells files out net links) (OfReflected reflection.log answer) served new result) → CountsStay files out net served new → IsDone result
    answered reflection connections (Ok reflected) serves ran last =
        let log = reflection.log in
        let session = reflected.session.plain in
        let text = reflected_text reflected.ends session in
        told (reflected_steps log session text) reflected.stopped (OfReflected log (Ok reflected)) (reflected_gives log session text)
        (λ v fine comes. reflected_alike log session text reflected.stopped v fine comes) serves.0.faults serves.1 ran last
    answered reflection connections (Err serve_fault.ListenFault) serves ran last = absurd (net_is_fine last serves.0.faults)
    answered reflection connections (Err serve_fault.WantOfMemory) serves ran last =
        done_giving [] (OfReflected reflection.log (Err serve_fault.WantOfMemory)) served new result ran tt (inl ran.course.comes) (none_behind serves.0.faults serves.1)

    -- by posts, which have reflected a session
    shown
        : (log : Option (List ℕ)) (posts : ReflectedOn) → served ≡ record ready { net = served.net } → (ran : RanBySteps (outside_tells files out net links) (OfReflectedOn log (Ok posts)) served new result) → CountsStay files out net served new
        → CountsStop (net.faults ready.net) (net.faults served.net) (posts_fault posts.posts) ⊎ Rose (net.faults ready.net) (net.faults served.net) → IsDone result
    shown log posts is ran last (inl counts) =
        let session = posts.session.plain in
        let text = reflected_on_text posts.posts session in
        told (reflected_steps log session text) (posts_fault posts.posts) (OfReflectedOn log (Ok posts)) (reflected_gives log session text)
        (λ v fine comes. reflected_alike log session text (posts_fault posts.posts) v fine comes) counts is ran last
    shown log posts is ran last (inr rose) = absurd (net_is_fine last rose)

    -- or have not, for want of memory
    unshown
        : (log : Option (List ℕ)) → served ≡ record ready { net = served.net } → (ran : RanBySteps (outside_tells files out net links) (OfReflectedOn log (Err serve_fault.WantOfMemory)) served new result) → CountsStay files out net served new
        → (net.faults ready.net ≤ net.faults served.net) ⊎ Rose (net.faults ready.net) (net.faults served.net) → IsDone result
    unshown log is ran last (inl later) = done_giving [] (OfReflectedOn log (Err serve_fault.WantOfMemory)) served new result ran tt (inl ran.course.comes) (none_behind later is)
    unshown log is ran last (inr rose) = absurd (net_is_fine last rose)

    reflected
        : {P : Type 0} (parts : SharesTell N P L) (reflection : PlainReflection) (may : Type 0) (count : ℕ) (answer : Result ReflectedOn ServeFault) → ServesShares gives may (outside_tells files out net links) parts reflection count answer ready served
        → (ran : RanBySteps (outside_tells files out net links) (OfReflectedOn reflection.log answer) served new result) → CountsStay files out net served new → IsDone result
    reflected parts reflection may count (Ok posts) serves ran last =
        shown reflection.log posts serves.1 ran last (counts_posts net links ready.net served.net serves.0.posts serves.0.net may posts.posts serves.0.outcomes)
    reflected parts reflection may count (Err serve_fault.ListenFault) serves ran last = absurd (net_is_fine last serves.0.net.faults)
    reflected parts reflection may count (Err serve_fault.WantOfMemory) serves ran last =
        unshown reflection.log serves.1 ran last (sunk_or_rose net links ready.net served.net (replicate serves.0.net.idle.shares idle_post) serves.0.net.idle.net)

    hosted
        : (hosting : PlainHosting) (connections : ℕ) (answer : Result Hosted ServeFault) → ServesHost gives (outside_tells files out net links) hosting connections answer ready served
        → (ran : RanBySteps (outside_tells files out net links) (OfHosted hosting.logs hosting.prefix answer) served new result) → CountsStay files out net served new → IsDone result
    hosted hosting connections (Ok host) serves ran last =
        let text = hosted_text (length hosting.logs) host.ids host.ends host.sessions in
        told (hosted_steps hosting.logs hosting.prefix host.ids host.sessions text) host.stopped (OfHosted hosting.logs hosting.prefix (Ok host)) (hosted_gives hosting.logs hosting.prefix host.ids host.sessions text)
        (λ v fine comes. hosted_alike hosting.logs hosting.prefix host.ids host.sessions text host.stopped v fine comes) serves.0.faults serves.1 ran last
    hosted hosting connections (Err serve_fault.ListenFault) serves ran last = absurd (net_is_fine last serves.0.faults)
    hosted hosting connections (Err serve_fault.WantOfMemory) serves ran last =
        done_giving [] (OfHosted hosting.logs hosting.prefix (Err serve_fault.WantOfMemory)) served new result ran tt (inl ran.course.comes) (none_behind serves.0.faults serves.1)

    posted
        : (hosting : PlainHosting) (posts : HostedOn) → served ≡ record ready { net = served.net } → (ran : RanBySteps (outside_tells files out net links) (OfHostedOn hosting.logs hosting.prefix (Ok posts)) served new result) → CountsStay files out net served new
        → CountsStop (net.faults ready.net) (net.faults served.net) (posts_fault posts.posts) ⊎ Rose (net.faults ready.net) (net.faults served.net) → IsDone result
    posted hosting posts is ran last (inl counts) =
        let text = posts_text (length hosting.logs) posts.ids posts.posts posts.sessions in
        told (hosted_steps hosting.logs hosting.prefix posts.ids posts.sessions text) (posts_fault posts.posts) (OfHostedOn hosting.logs hosting.prefix (Ok posts)) (hosted_gives hosting.logs hosting.prefix posts.ids posts.sessions text)
        (λ v fine comes. hosted_alike hosting.logs hosting.prefix posts.ids posts.sessions text (posts_fault posts.posts) v fine comes) counts is ran last
    posted hosting posts is ran last (inr rose) = absurd (net_is_fine last rose)

    wanting
        : (hosting : PlainHosting) → served ≡ record ready { net = served.net } → (ran : RanBySteps (outside_tells files out net links) (OfHostedOn hosting.logs hosting.prefix (Err serve_fault.WantOfMemory)) served new result) → CountsStay files out net served new
        → (net.faults ready.net ≤ net.faults served.net) ⊎ Rose (net.faults ready.net) (net.faults served.net) → IsDone result
    wanting hosting is ran last (inl later) = done_giving [] (OfHostedOn hosting.logs hosting.prefix (Err serve_fault.WantOfMemory)) served new result ran tt (inl ran.course.comes) (none_behind later is)
    wanting hosting is ran last (inr rose) = absurd (net_is_fine last rose)

    serviced
        : {P : Type 0} (parts : SharesTell N P L) (hosting : PlainHosting) (may : Type 0) (count : ℕ) (answer : Result HostedOn ServeFault) → ServesPosts gives may (outside_tells files out net links) parts hosting count answer ready served
        → (ran : RanBySteps (outside_tells files out net links) (OfHostedOn hosting.logs hosting.prefix answer) served new result) → CountsStay files out net served new → IsDone result
    serviced parts hosting may count (Ok hosted) serves ran last =
        posted hosting hosted serves.1 ran last (counts_posts net links ready.net served.net serves.0.posts serves.0.net may hosted.posts serves.0.outcomes)
    serviced parts hosting may count (Err serve_fault.ListenFault) serves ran last = absurd (net_is_fine last serves.0.faults)
    serviced parts hosting may count (Err serve_fault.WantOfMemory) serves ran last =
        wanting hosting serves.1 ran last (sunk_or_rose net links ready.net served.net (replicate serves.0.idle.shares idle_post) serves.0.idle.net)

  reflected_for
      : {P : Type 0} (parts : SharesTell N P L) (gives : ℕ → Type 0) (may : Option (List ℕ) → Type 0) (reflection : PlainReflection) (span : ServingSpan) (old ready new : Outside F W N L) (result : Status) → CountsStay files out net old ready → NoneFailed files out net old new
      → ReflectsFor span gives may (outside_tells files out net links) parts reflection ready new result → IsDone result
  reflected_for parts gives may reflection (serving_span.Connections connections) old ready new result first none ran =
      answered gives old ready ran.served new result first none reflection connections ran.answer ran.serves ran.behind (run_keeps files out net links ran.behind.steps ran.behind.ending ran.served new result ran.behind.does)
  reflected_for parts gives may reflection (serving_span.Posts count until) old ready new result first none ran =
      reflected gives old ready ran.served new result first none parts reflection (may until) count ran.answer ran.serves ran.behind (run_keeps files out net links ran.behind.steps ran.behind.ending ran.served new result ran.behind.does)

  as_reflector
      : {P : Type 0} (parts : SharesTell N P L) (gives : ℕ → Type 0) (may : Option (List ℕ) → Type 0) (coming : Coming) (old new : Outside F W N L) (result : Status) → RanAsReflector gives may (outside_tells files out net links) parts coming old new result → NoneFailed files out net old new → IsDone result
  as_reflector parts gives may coming old new result ran none =
      reflected_for parts gives may ran.reflection ran.reflection.span old ran.ready new result (steps_keep files out net links ran.reaches.steps None old ran.ready ran.reaches.acts) none ran.serves

  as_host
      : (gives : ℕ → Type 0) (coming : Coming) (old new : Outside F W N L) (result : Status) → RanAsHost gives (outside_tells files out net links) coming old new result → NoneFailed files out net old new → IsDone result
  as_host gives coming old new result ran none =
      hosted gives old ran.ready ran.served new result (steps_keep files out net links ran.reaches.steps None old ran.ready ran.reaches.acts) none
      ran.hosting ran.connections ran.answer ran.serves ran.behind
      (run_keeps files out net links ran.behind.steps ran.behind.ending ran.served new result ran.behind.does)

  as_service
      : {P : Type 0} (parts : SharesTell N P L) (gives : ℕ → Type 0) (may : Option (List ℕ) → Type 0) (coming : Coming) (old new : Outside F W N L) (result : Status) → RanAsService gives may (outside_tells files out net links) parts coming old new result → NoneFailed files out net old new → IsDone result
  as_service parts gives may coming old new result ran none =
      serviced gives old ran.ready ran.served new result (steps_keep files out net links ran.reaches.steps None old ran.ready ran.reaches.acts) none
      parts ran.hosting (may ran.until) ran.links ran.answer ran.serves ran.behind
      (run_keeps files out net links ran.behind.steps ran.behind.ending ran.served new result ran.behind.does)

  -- ---- as a drill

  drilled
      : (gives : ℕ → Type 0) (request : DrillRequest) (answer : Result DrillReport WantOfMemory) (old new : Outside F W N L) (result : Status) (ran : RanBySteps (outside_tells files out net links) (OfDrilled gives request answer) old new result)
      → OfDrilled gives request answer ran.course.verdict → NoneFailed files out net old new → IsDone result
  drilled gives request (Ok report) old new result ran (inl want) none = done_giving [] (OfDrilled gives request (Ok report)) old new result ran tt (inl want) none
  drilled gives request (Ok report) old new result ran (inr is) none =
      let session = report.session.plain in
      let w = (replay is.has.founding drill_id session.log session.horizon).world in
      let snapshots = replicate request.views (world_spelling w) in
      done_giving (drilled_steps request session snapshots (root_total w) request.views) (OfDrilled gives request (Ok report)) old new result ran
      (drilled_gives request session snapshots (root_total w) request.views) (inr is.is) none
  drilled gives request (Err wanting) old new result ran is none = done_giving [] (OfDrilled gives request (Err wanting)) old new result ran tt (inl is) none

  as_drill
      : (gives : ℕ → Type 0) (coming : Coming) (old new : Outside F W N L) (result : Status) → RanAsDrill gives (outside_tells files out net links) coming old new result → NoneFailed files out net old new → IsDone result
  as_drill gives coming old new result ran none =
      drilled gives ran.request ran.answer ran.ready new result ran.behind ran.behind.course.comes
      (none_within files out net links old ran.ready new new (steps_keep files out net links ran.reaches.steps None old ran.ready ran.reaches.acts) (counts_stay files out net links new new refl) none)

  -- ---- every run

  due_by : (command : Option Command) (result : Status) → IsDone result → IsDueOf command result
  due_by (Some (Join request)) result done = inl done
  due_by command result done = done

  comes_due
      : {P : Type 0} (parts : SharesTell N P L) → IsFunction → (gives : ℕ → Type 0) (may : Option (List ℕ) → Type 0) (command : Option Command) (old new : Outside F W N L) (result : Status) → RanAlone gives may (outside_tells files out net links) parts (Comes command) old new result
      → HasRightInput files old.files command → NoneFailed files out net old new → NoLinkFailed net command old.net new.net → IsDueOf command result
  comes_due parts function gives may command old new result (inl ran) right none fine = by_steps function command old new result ran right none fine
  comes_due parts function gives may command old new result (inr (inl ran)) right none fine = due_by command result (as_reflector parts gives may (Comes command) old new result ran none)
  comes_due parts function gives may command old new result (inr (inr (inl ran))) right none fine = due_by command result (as_host gives (Comes command) old new result ran none)
  comes_due parts function gives may command old new result (inr (inr (inr (inl ran)))) right none fine = due_by command result (as_service parts gives may (Comes command) old new result ran none)
  comes_due parts function gives may command old new result (inr (inr (inr (inr ran)))) right none fine = due_by command result (as_drill gives (Comes command) old new result ran none)

  -- where its inputs are right, the command names no journal
  names_none : (command : Option Command) (old : F) → HasRightInput files old command → NamesNoJournal command
  names_none None old right = absurd right
  names_none (Some (Stamp script from log)) old right = tt
  names_none (Some (Check program)) old right = tt
  names_none (Some (Replay request)) old right = tt
  names_none (Some (Inspect request)) old right = tt
  names_none (Some (Trace request)) old right = tt
  names_none (Some (Votes log)) old right = tt
  names_none (Some (Hub script logs)) old right = tt
  names_none (Some (Join request)) old right = tt
  names_none (Some (Live request)) old right = tt
  names_none (Some (Reflect request)) old right = right.0
  names_none (Some (Host request)) old right = tt
  names_none (Some (Drill request)) old right = tt

  -- and asks for no view whose lines come to its run
  lives_none : (command : Option Command) (old : F) → HasRightInput files old command → AsksNoLive command
  lives_none None old right = absurd right
  lives_none (Some (Stamp script from log)) old right = tt
  lives_none (Some (Check program)) old right = tt
  lives_none (Some (Replay request)) old right = tt
  lives_none (Some (Inspect request)) old right = tt
  lives_none (Some (Trace request)) old right = tt
  lives_none (Some (Votes log)) old right = tt
  lives_none (Some (Hub script logs)) old right = tt
  lives_none (Some (Join request)) old right = tt
  lives_none (Some (Live request)) old right = absurd right
  lives_none (Some (Reflect request)) old right = tt
  lives_none (Some (Host request)) old right = tt
  lives_none (Some (Drill request)) old right = tt

  due_of_all
      : {P T S K : Type 0} (parts : SharesTell N P L) (stores : StoresTell T S) (feed : FeedTells K) → IsFunction → (gives : ℕ → Type 0) (may : Option (List ℕ) → Type 0) (command : Option Command) (old new : Outside F W N L) (s t : T) (k k' : K) (result : Status)
      → Ran gives may (outside_tells files out net links) parts stores feed (Comes command) old new s t k k' result
      → HasRightInput files old.files command → NoneFailed files out net old new → NoLinkFailed net command old.net new.net → IsDueOf command result
  due_of_all parts stores feed function gives may command old new s t k k' result (inl ran) right none fine = comes_due parts function gives may command old new result ran.0 right none fine
  due_of_all parts stores feed function gives may command old new s t k k' result (inr (inl ran)) right none fine =
      absurd (never_keeps command (names_none command old.files right) _ ran.0.reaches.comes tt)
  due_of_all parts stores feed function gives may command old new s t k k' result (inr (inr ran)) right none fine =
      absurd (never_lives command (lives_none command old.files right) _ ran.0.reaches.comes tt)

  pub is_complete
      : {P T S K : Type 0} (parts : SharesTell N P L) (stores : StoresTell T S) (feed : FeedTells K) → IsFunction → AnsweredVisitsHaveNoFault → VisitsEndWithLinks → VisitsEndByRefusals → (gives : ℕ → Type 0) (may : Option (List ℕ) → Type 0) (command : Option Command) (old new : Outside F W N L) (s t : T) (k k' : K) (result : Status)
      → Ran gives may (outside_tells files out net links) parts stores feed (Comes command) old new s t k k' result → IsComplete files out net links command old new result
  is_complete parts stores feed function peer ended refused gives may command old new s t k k' result ran =
      record { due = due_of_all parts stores feed function gives may command old new s t k k' result ran; caused = is_caused peer ended refused files out net links (Comes command) old new result }
