-- What a part of a step does to what was told.
use Rattle.std.proofs.Common.{arith, inl, inr, ◌≡◌, ◌==◌, Bool, true, false, if◌then◌else◌, ℕ, ◌<◌, ◌≤◌, ◌+◌, List, [], ◌∷◌, ◌++◌, length, drop, get_or, Option, Some, None, string_bytes, refl, sym, ap, subst, ◌∙◌, append_assoc, append-nil}
use Rattle.std.specs.Prelude.{◌&&◌, ◌⊎◌, ⊤, codes, Result, Ok, Err, IfOk, OnOk}
use Rattle.tea_base.specs.declared.want.WantOfMemory.{WantOfMemory}
use Rattle.wire_frames.specs.declared.frame.ClientFrame.{ClientFrame}
use Rattle.wire_frames.specs.declared.frame.ClientFrame.TheVariants as client
use Rattle.wire_frames.specs.Frames.{IsClientFrame}
use Rattle.wire_frames.specs.Spelling.{client_spelling}
use Rattle.view_shell.specs.declared.ending.ViewEnd.TheVariants as ending
use Rattle.view_shell.specs.Phases.{Viewer, Phase, Task, Receiving, ToCatchUp, ToReach, ToSettle, Sending, Printing, Over, Leaves, Begins, Receives, TellsText, Aim, go_on, has_caught_up, after_frame, after_sync, quiet, finish, after_telling, after_rest, leave_session, receive, run, send_all, show_world, shown_text, world_text}
use Rattle.view_shell.specs.ViewText.{numbers_line, settled_line, reached_time_line}
use Rattle.std.proofs.lemmas.Bool.Decides.{nat_tests}
use Rattle.tea_io.specs.Links.{most_quiets}
use Rattle.wire_frames.specs.declared.start.Base.{Base}
use Rattle.wire_frames.specs.declared.frame.ServerFrame.{ServerFrame}
use Rattle.wire_frames.specs.declared.frame.ServerFrame.TheVariants as server
use Rattle.replica_plain.specs.declared.how.How.{How}
use Rattle.view_shell.specs.declared.hearing.Stop.{Stop}
use Rattle.view_shell.specs.Hearing.{StopsAt}
use Rattle.view_script.specs.PlainLine.{PlainLine, plain_line, plain_lines}
use Rattle.view_script.specs.declared.line.ViewLine.{ViewLine}
use Rattle.view_shell.specs.Viewers.{viewer}
use Rattle.view_shell.proofs.Scripts.{here}
use Rattle.std.proofs.lemmas.List.{drop_all}
use Rattle.live_view.specs.declared.outcome.LiveOutcome.{LiveOutcome}
use Rattle.live_view.specs.declared.input.Place.{Place}
use Rattle.live_view.specs.declared.input.Place.TheVariants as at
use Rattle.view_shell.specs.declared.watcher.Watcher.{Watcher}
use Rattle.view_shell.specs.declared.ending.ViewEnd.{ViewEnd}
use Rattle.live_view.proofs.Fitting.{frame_fits}
use Rattle.live_view.specs.Live.{Told, bad_line, done_lines, drive, lines_from, then_prints, then_sends, waits}
use Rattle.replica_plain.specs.PlainReplica.{published_count}
use Rattle.view_shell.proofs.Reaching.{caught_up, not_caught_up, not_reached, reached, settled, unsettled}
use Rattle.live_view.specs.declared.input.Goal.{Goal}
use Rattle.live_view.specs.declared.input.Goal.TheVariants as aim
use Rattle.live_view.specs.Doing.{Comes, IsReadyAt, Leads, Tells, after, aim_of, came, phase_at, votes_at}

-- a frame was sent
pub after_send : (old new : LiveOutcome) (frame : ClientFrame) (t : Told) → IsClientFrame frame → new.frames ≡ old.frames ++ client_spelling frame ∷ [] → string_bytes new.text ≡ string_bytes old.text
    → after old (then_sends frame t) ≡ after new t
after_send old new frame t fits frames text =
    let sent : old.frames ++ client_spelling frame ∷ t.frames ≡ new.frames ++ t.frames = sym (append_assoc old.frames (client_spelling frame ∷ []) t.frames) ∙ ap (λ (l : List (List ℕ)). l ++ t.frames) (sym frames) in
    ap (λ (b : Bool). record { frames = old.frames ++ client_spelling frame ∷ t.frames; text = string_bytes old.text ++ t.text; fit = b && t.fit; phase = t.phase }) (frame_fits frame fits)
    ∙ ap (λ (l : List (List ℕ)). record { frames = l; text = string_bytes old.text ++ t.text; fit = t.fit; phase = t.phase }) sent
    ∙ ap (λ (l : List ℕ). record { frames = new.frames ++ t.frames; text = l ++ t.text; fit = t.fit; phase = t.phase }) (sym text)

-- a text was printed
pub after_text : (old new : LiveOutcome) (text : List ℕ) (t : Told) → new.frames ≡ old.frames → string_bytes new.text ≡ string_bytes old.text ++ text
    → after old (then_prints text t) ≡ after new t
after_text old new text t frames is =
    let printed : string_bytes old.text ++ (text ++ t.text) ≡ string_bytes new.text ++ t.text = sym (append_assoc (string_bytes old.text) text t.text) ∙ ap (λ (l : List ℕ). l ++ t.text) (sym is) in
    ap (λ (l : List ℕ). record { frames = old.frames ++ t.frames; text = l; fit = t.fit; phase = t.phase }) printed
    ∙ ap (λ (l : List (List ℕ)). record { frames = l ++ t.frames; text = string_bytes new.text ++ t.text; fit = t.fit; phase = t.phase }) (sym frames)

pub finish_comes : (old new : LiveOutcome) (v w : Viewer) (text : List ℕ) → new.frames ≡ old.frames → string_bytes new.text ≡ string_bytes old.text ++ shown_text v text → w ≡ after_telling v
    → Comes old new (finish v text) w None
finish_comes old new v w text frames is told =
    record { comes = λ next. after_text old new (shown_text v text) (next (after_telling v)) frames is ∙ ap (λ (u : Viewer). after new (next u)) (sym told) }

-- ---- in a row

pub leads_on : (old mid new : LiveOutcome) (a b c : Phase) → Leads old mid a b → Leads mid new b c → Leads old new a c
leads_on old mid new a b c first second = record { leads = λ next. first.leads next ∙ second.leads next }

pub leads_then : (old mid new : LiveOutcome) (a b : Phase) (v : Viewer) (place : Option Place) → Leads old mid a b → Comes mid new b v place → Comes old new a v place
leads_then old mid new a b v place first second = record { comes = λ next. first.leads next ∙ second.comes next }

pub comes_from : (old new : LiveOutcome) (a b : Phase) (v : Viewer) (place : Option Place) → a ≡ b → Comes old new b v place → Comes old new a v place
comes_from old new a b v place is comes = subst (λ (p : Phase). Comes old new p v place) (sym is) comes

-- the view leaves: the text of the last events, and then it sends that it leaves
pub leave_begins : (out : LiveOutcome) (v : Viewer) (next : Viewer → Told)
    → after out (drive next (leave_session v)) ≡ after out (drive (λ w. drive next (Sending w client.Leave [] Leaves)) (finish (after_rest v) []))
unfolding leave_session
leave_begins out v next = refl

-- the view rests, and tells what came of that and its world
pub show_comes : (done : Result ⊤ WantOfMemory) (old new : LiveOutcome) (v rested w : Viewer) (text : List ℕ) → rested ≡ after_rest v → text ≡ world_text rested → OnOk done (Comes old new (finish rested text) w None)
    → OnOk done (Comes old new (show_world v) w None)
unfolding show_world
show_comes done old new v rested w text is told comes =
    subst (λ (u : Viewer). OnOk done (Comes old new (finish u (world_text u)) w None)) is (subst (λ (t : List ℕ). OnOk done (Comes old new (finish rested t) w None)) told comes)

pub unsent_leads : (done : Result ⊤ WantOfMemory) (old new : LiveOutcome) (v w w' : Viewer) (frames sent : List ClientFrame) (task : Task) → frames ≡ sent → w ≡ w'
    → OnOk done (Leads old new (send_all v sent task) (send_all w [] task)) → OnOk done (Leads old new (send_all v frames task) (send_all w' [] task))
unsent_leads done old new v w w' frames sent task is same leads =
    subst (λ (u : Viewer). OnOk done (Leads old new (send_all v frames task) (send_all u [] task))) same
    (subst (λ (fs : List ClientFrame). OnOk done (Leads old new (send_all v fs task) (send_all w [] task))) (sym is) leads)

pub told_text : (done : Result ⊤ WantOfMemory) (old new : LiveOutcome) (v w : Viewer) (text other : List ℕ) → text ≡ other → OnOk done (Comes old new (finish v text) w None) → OnOk done (Comes old new (finish v other) w None)
told_text done old new v w text other is told = subst (λ (t : List ℕ). OnOk done (Comes old new (finish v t) w None)) is told

-- what is heard for is so already, or it is not
pub reach_comes : (old new : LiveOutcome) (v w : Viewer) (time now : ℕ) → now ≡ v.replica.world.time → time ≤ now → Comes old new (finish v (reached_time_line now)) w None → Comes old new (receive v (ToReach time)) w None
reach_comes old new v w time now at late told =
    comes_from old new (receive v (ToReach time)) (finish v (reached_time_line now)) w None (reached v time (omega (arith, at, late)) ∙ ap (λ (t : ℕ). finish v (reached_time_line t)) (sym at)) told

pub reach_told : (old new : LiveOutcome) (v w : Viewer) (time now : ℕ) (text : List ℕ) → now ≡ v.replica.world.time → time ≤ now → text ≡ reached_time_line now → Comes old new (finish v text) w None → Comes old new (receive v (ToReach time)) w None
reach_told old new v w time now text at late is told = reach_comes old new v w time now at late (subst (λ (t : List ℕ). Comes old new (finish v t) w None) is told)

pub early_waits : (out : LiveOutcome) (v : Viewer) (time now : ℕ) → now ≡ v.replica.world.time → now < time → Comes out out (receive v (ToReach time)) v (Some (at.Hears (aim.Reach time)))
early_waits out v time now at early = record { comes = λ next. ap (λ (p : Phase). after out (drive next p)) (not_reached v time (omega (arith, at, early))) }

pub settle_comes : (old new : LiveOutcome) (v w : Viewer) (count : ℕ) → v.replica.outbox ≡ [] → count ≡ published_count v.replica → Comes old new (finish v (settled_line count)) w None → Comes old new (receive v ToSettle) w None
settle_comes old new v w count none counted told = comes_from old new (receive v ToSettle) (finish v (settled_line count)) w None (settled v count none counted) told

pub settle_told : (old new : LiveOutcome) (v w : Viewer) (count : ℕ) (text : List ℕ) → v.replica.outbox ≡ [] → count ≡ published_count v.replica → text ≡ settled_line count → Comes old new (finish v text) w None → Comes old new (receive v ToSettle) w None
settle_told old new v w count text none counted is told = settle_comes old new v w count none counted (subst (λ (t : List ℕ). Comes old new (finish v t) w None) is told)

pub unsettled_waits : (out : LiveOutcome) (v : Viewer) → (v.replica.outbox ≡ [] → ⊥) → Comes out out (receive v ToSettle) v (Some (at.Hears aim.Settle))
unsettled_waits out v some = record { comes = λ next. ap (λ (p : Phase). after out (drive next p)) (unsettled v some) }

pub caught_comes : (old new : LiveOutcome) (v w : Viewer) → has_caught_up v.replica ≡ true → Comes old new (finish v []) w None → Comes old new (receive v ToCatchUp) w None
caught_comes old new v w few told = comes_from old new (receive v ToCatchUp) (finish v []) w None (caught_up v few) told

pub many_wait : (out : LiveOutcome) (v : Viewer) → has_caught_up v.replica ≡ false → Comes out out (receive v ToCatchUp) v (Some (at.Hears aim.CatchUp))
many_wait out v many = record { comes = λ next. ap (λ (p : Phase). after out (drive next p)) (not_caught_up v many) }

-- nothing is done, and the view waits
pub waits_there : (out : LiveOutcome) (phase : Phase) (v : Viewer) (place : Place) → ((next : Viewer → Told) → drive next phase ≡ waits (phase_at place v)) → Comes out out phase v (Some place)
waits_there out phase v place is = record { comes = λ next. ap (after out) (is next) }

pub join_waits : (out : LiveOutcome) (v : Viewer) (goal : Goal) (how : How) → goal ≡ aim.Join how → Comes out out (receive v (aim_of goal)) v (Some (at.Hears goal))
join_waits out v goal how is = subst (λ (g : Goal). Comes out out (receive v (aim_of g)) v (Some (at.Hears g))) (sym is) (waits_there out (receive v (aim_of (aim.Join how))) v (at.Hears (aim.Join how)) (λ next. refl))

pub snap_waits : (out : LiveOutcome) (v : Viewer) (goal : Goal) → goal ≡ aim.Snap → Comes out out (receive v (aim_of goal)) v (Some (at.Hears goal))
snap_waits out v goal is = subst (λ (g : Goal). Comes out out (receive v (aim_of g)) v (Some (at.Hears g))) (sym is) (waits_there out (receive v (aim_of aim.Snap)) v (at.Hears aim.Snap) (λ next. refl))

pub see_waits : (out : LiveOutcome) (v : Viewer) (goal : Goal) (entry : ℕ) → goal ≡ aim.See entry → Comes out out (receive v (aim_of goal)) v (Some (at.Hears goal))
see_waits out v goal entry is = subst (λ (g : Goal). Comes out out (receive v (aim_of g)) v (Some (at.Hears g))) (sym is) (waits_there out (receive v (aim_of (aim.See entry))) v (at.Hears (aim.See entry)) (λ next. refl))

-- ---- votes that are to be published

pub none_waits : (done : Result (Option Place) WantOfMemory) (votes : ℕ) → IfOk done (λ place. votes_at place ≡ 0) → IfOk done (λ place. votes_at place ≤ votes)
none_waits (Ok place) votes none = omega (arith, none)
none_waits (Err want) votes none = tt

pub none_awaited : (done : Result (Option Place) WantOfMemory) → IfOk done (λ place. votes_at place ≤ 0) → IfOk done (λ place. votes_at place ≡ 0)
none_awaited (Ok place) few = omega (arith, few)
none_awaited (Err want) few = tt

pub count_waits : (done : Result (Option Place) WantOfMemory) (now before votes : ℕ) → now ≡ before → IfOk done (λ place. votes_at place ≤ votes) → IfOk done (λ place. now + votes_at place ≤ before + votes)
count_waits (Ok place) now before votes same few = omega (arith, same, few)
count_waits (Err want) now before votes same few = tt

pub count_on_from : (done : Result (Option Place) WantOfMemory) (now mid before votes : ℕ) → mid ≡ before → IfOk done (λ place. now + votes_at place ≤ mid + votes) → IfOk done (λ place. now + votes_at place ≤ before + votes)
count_on_from (Ok place) now mid before votes same few = omega (arith, same, few)
count_on_from (Err want) now mid before votes same few = tt

pub count_after_vote : (done : Result (Option Place) WantOfMemory) (now mid before : ℕ) → mid ≡ before + 1 → IfOk done (λ place. now + votes_at place ≤ mid + 0) → IfOk done (λ place. now + votes_at place ≤ before + 1)
count_after_vote (Ok place) now mid before one few = omega (arith, one, few)
count_after_vote (Err want) now mid before one few = tt

-- at a line that publishes so many events, and leaves no vote to be
pub count_line : (done : Result (Option Place) WantOfMemory) (now before publishes : ℕ) → OnOk done (now ≡ before + publishes) → IfOk done (λ place. votes_at place ≡ 0) → IfOk done (λ place. now + votes_at place ≤ before + publishes)
count_line (Ok place) now before publishes same none = omega (arith, same, none)
count_line (Err want) now before publishes same none = tt

pub count_none : (done : Result (Option Place) WantOfMemory) (now before publishes : ℕ) → OnOk done (now ≡ before) → IfOk done (λ place. votes_at place ≡ 0) → IfOk done (λ place. now + votes_at place ≤ before + publishes)
count_none (Ok place) now before publishes same none = omega (arith, same, none)
count_none (Err want) now before publishes same none = tt

-- of the others
pub goal_comes : (done : Result (Option Place) WantOfMemory) (old new : LiveOutcome) (v w : Viewer) (goal g : Goal) → goal ≡ g → IfOk done (λ place. Comes old new (receive v (aim_of g)) w place) → IfOk done (λ place. Comes old new (receive v (aim_of goal)) w place)
goal_comes done old new v w goal g is told = subst (λ (x : Goal). IfOk done (λ place. Comes old new (receive v (aim_of x)) w place)) (sym is) told

pub told_viewer : (done : Result ⊤ WantOfMemory) (old new : LiveOutcome) (v other w : Viewer) (text : List ℕ) → v ≡ other → OnOk done (Comes old new (finish v text) w None) → OnOk done (Comes old new (finish other text) w None)
told_viewer done old new v other w text is told = subst (λ (u : Viewer). OnOk done (Comes old new (finish u text) w None)) is told

pub leads_comes : (done : Result (Option Place) WantOfMemory) (old mid new : LiveOutcome) (a b : Phase) (w : Viewer) → Leads old mid a b → IfOk done (λ place. Comes mid new b w place) → IfOk done (λ place. Comes old new a w place)
leads_comes (Ok place) old mid new a b w leads told = leads_then old mid new a b w place leads told
leads_comes (Err want) old mid new a b w leads told = tt

pub comes_at : (done : Result (Option Place) WantOfMemory) (old new : LiveOutcome) (a b : Phase) (w : Viewer) → a ≡ b → IfOk done (λ place. Comes old new b w place) → IfOk done (λ place. Comes old new a w place)
comes_at done old new a b w is told = subst (λ (p : Phase). IfOk done (λ place. Comes old new p w place)) (sym is) told

-- a text is told, once the view has said that it is alive
pub text_comes : (old mid new : LiveOutcome) (from : Phase) (m w : Viewer) (text other : List ℕ) → Leads old mid from (finish m other) → text ≡ other → Comes mid new (finish m text) w None → Comes old new from w None
text_comes old mid new from m w text other leads is told = leads_then old mid new from (finish m other) w None leads (subst (λ (t : List ℕ). Comes mid new (finish m t) w None) is told)

-- the script begins
pub begins_comes : (old new : LiveOutcome) (a : Phase) (v u w : Viewer) → a ≡ go_on v [] Begins → Leads old new (go_on v [] Begins) (Printing u []) → u ≡ w → Comes old new a w None
begins_comes old new a v u w is leads same = record { comes = λ next. ap (λ (p : Phase). after old (drive next p)) is ∙ leads.leads next ∙ ap (λ (one : Viewer). after new (next one)) same }

-- ---- behind a frame

pub frame_at : (v : Viewer) (goal g : Goal) (frame f : ServerFrame) (to : Phase) → goal ≡ g → frame ≡ f → after_frame v (aim_of g) f ≡ to → after_frame v (aim_of goal) frame ≡ to
frame_at v goal g frame f to same is at = ap (λ (x : Goal). after_frame v (aim_of x) frame) same ∙ ap (λ (x : ServerFrame). after_frame v (aim_of g) x) is ∙ at

pub heard_at : (done : Result (Option Place) WantOfMemory) (old new : LiveOutcome) (v w : Viewer) (goal g : Goal) (frame f : ServerFrame) → goal ≡ g → frame ≡ f → after_frame v (aim_of g) f ≡ go_on v [] (Receives (aim_of g))
    → IfOk done (λ place. Comes old new (go_on v [] (Receives (aim_of g))) w place) → IfOk done (λ place. Comes old new (after_frame v (aim_of goal) frame) w place)
heard_at done old new v w goal g frame f same is at told =
    comes_at done old new (after_frame v (aim_of goal) frame) (go_on v [] (Receives (aim_of g))) w (frame_at v goal g frame f _ same is at) told

pub heard_on : (done : Result (Option Place) WantOfMemory) (old new : LiveOutcome) (v w : Viewer) (goal g : Goal) (frame f : ServerFrame) → goal ≡ g → frame ≡ f → after_frame v (aim_of g) f ≡ go_on v [] (Receives (aim_of g))
    → IfOk done (λ place. Comes old new (go_on v [] (Receives (aim_of goal))) w place) → IfOk done (λ place. Comes old new (after_frame v (aim_of goal) frame) w place)
heard_on done old new v w goal g frame f same is at told =
    comes_at done old new (after_frame v (aim_of goal) frame) (go_on v [] (Receives (aim_of goal))) w
    (frame_at v goal g frame f _ same is at ∙ ap (λ (x : Goal). go_on v [] (Receives (aim_of x))) (sym same)) told

pub heard_told : (done : Result (Option Place) WantOfMemory) (old new : LiveOutcome) (v w : Viewer) (goal g : Goal) (frame f : ServerFrame) (text : List ℕ) → goal ≡ g → frame ≡ f → after_frame v (aim_of g) f ≡ go_on v [] (TellsText text)
    → IfOk done (λ place. Comes old new (go_on v [] (TellsText text)) w place) → IfOk done (λ place. Comes old new (after_frame v (aim_of goal) frame) w place)
heard_told done old new v w goal g frame f text same is at told =
    comes_at done old new (after_frame v (aim_of goal) frame) (go_on v [] (TellsText text)) w (frame_at v goal g frame f _ same is at) told

pub heard_sync : (done : Result (Option Place) WantOfMemory) (old new : LiveOutcome) (v w : Viewer) (goal : Goal) (how : How) (frame : ServerFrame) (joined last from : ℕ) (base : Option Base)
    → goal ≡ aim.Join how → frame ≡ server.Sync joined last from base
    → IfOk done (λ place. Comes old new (after_sync v how joined from) w place) → IfOk done (λ place. Comes old new (after_frame v (aim_of goal) frame) w place)
heard_sync done old new v w goal how frame joined last from base same is told =
    comes_at done old new (after_frame v (aim_of goal) frame) (after_sync v how joined from) w (frame_at v goal (aim.Join how) frame (server.Sync joined last from base) _ same is refl) told

-- ---- quiet

if_quiet : (n : Bool) (a b : Phase) → n ≡ false → (if n then a else b) ≡ b
if_quiet true a b is = absurd cc
if_quiet false a b is = refl

pub quiet_on : (done : Result (Option Place) WantOfMemory) (old new : LiveOutcome) (v w : Viewer) (aim : Aim) → (v.quiets ≡ most_quiets → ⊥)
    → IfOk done (λ place. Comes old new (go_on v [] (Receives aim)) w place) → IfOk done (λ place. Comes old new (quiet v aim) w place)
quiet_on done old new v w aim few told =
    comes_at done old new (quiet v aim) (go_on v [] (Receives aim)) w (if_quiet (v.quiets == most_quiets) _ _ (grind (arith, nat_tests, few))) told

-- ---- a frame that is not taken

pub gone_ready : (done : Result (Option Place) WantOfMemory) (end : ViewEnd) (w : Watcher) → IfOk done (λ place. place ≡ Some (at.Gone end)) → IfOk done (λ place. IsReadyAt place w)
gone_ready (Ok place) end w is = subst (λ (p : Option Place). IsReadyAt p w) (sym is) tt
gone_ready (Err want) end w is = tt

gone_by : (out : LiveOutcome) (phase : Phase) (end : ViewEnd) (v : Viewer) (place : Option Place) → place ≡ Some (at.Gone end) → (end ≡ ending.WantOfMemory → ⊥) → (phase ≡ Over end) ⊎ (end ≡ ending.WantOfMemory) → Comes out out phase v place
gone_by out phase end v place is not (inl over) = record { comes = λ next. ap (λ (p : Phase). after out (drive next p)) over ∙ ap (λ (p : Option Place). after out (came next v p)) (sym is) }
gone_by out phase end v place is not (inr want) = absurd (not want)

pub gone_comes : (done : Result (Option Place) WantOfMemory) (out : LiveOutcome) (phase : Phase) (end : ViewEnd) (v : Viewer) → IfOk done (λ place. place ≡ Some (at.Gone end)) → IfOk done (λ place. end ≡ ending.WantOfMemory → ⊥)
    → (phase ≡ Over end) ⊎ (end ≡ ending.WantOfMemory) → IfOk done (λ place. Comes out out phase v place)
gone_comes (Ok place) out phase end v is not why = gone_by out phase end v place is not why
gone_comes (Err want) out phase end v is not why = tt

pub stopped_as : (why cause : Stop) (phase : Phase) (v : Viewer) (aim : Aim) → why ≡ cause → StopsAt why phase v aim → StopsAt cause phase v aim
stopped_as why cause phase v aim is stops = subst (λ (s : Stop). StopsAt s phase v aim) is stops

-- ---- the lines that are left

module _ (closed : Bool) (address : List ℕ) (old now new : LiveOutcome) (first : Told) (w w' : Watcher) (lines : List ViewLine) (i : ℕ) (line : ViewLine) (within : i < length lines) (is : line ≡ get_or lines i line)
    (so_far : after old first ≡ after now (lines_from closed (plain_lines (drop i lines)) (viewer address w (plain_lines (drop i lines))))) where
  abbrev more : List PlainLine
  more = plain_lines (drop (i + 1) lines)

  -- the line is at work now
  at_line : after old first ≡ after now (drive (λ u. lines_from closed more u) (run (viewer address w (plain_line line ∷ more)) (plain_line line ∷ more)))
  at_line = so_far ∙ ap (λ (ls : List PlainLine). after now (lines_from closed ls (viewer address w ls))) (here lines i line within is)

  pub line_comes : (place : Option Place) → Comes now new (run (viewer address w (plain_line line ∷ more)) (plain_line line ∷ more)) (viewer address w' more) place
      → after old first ≡ after new (came (λ u. lines_from closed more u) (viewer address w' more) place)
  line_comes place comes = at_line ∙ comes.comes (λ u. lines_from closed more u)

-- no line is left
module _ (closed : Bool) (address : List ℕ) (old now : LiveOutcome) (first : Told) (w : Watcher) (lines : List ViewLine) (i : ℕ) (over : length lines ≤ i)
    (so_far : after old first ≡ after now (lines_from closed (plain_lines (drop i lines)) (viewer address w (plain_lines (drop i lines))))) where
  pub at_end : after old first ≡ after now (done_lines closed (viewer address w []))
  at_end = so_far ∙ ap (λ (ls : List ViewLine). after now (lines_from closed (plain_lines ls) (viewer address w (plain_lines ls)))) (drop_all _ _ over)

  pub end_leaves : (new : LiveOutcome) (v : Viewer) → closed ≡ true → Comes now new (leave_session (viewer address w [])) v (Some (at.Gone ending.Done)) → after old first ≡ after new (waits (Over ending.Done))
  end_leaves new v is comes = at_end ∙ ap (λ (b : Bool). after now (done_lines b (viewer address w []))) is ∙ comes.comes (λ u. waits (Over ending.Done))

  pub end_rests : closed ≡ false → after old first ≡ after now (waits (Receiving (viewer address w (plain_lines (drop (length lines) lines))) ToCatchUp))
  end_rests is =
      let all : length lines ≤ length lines = omega arith in
      at_end ∙ ap (λ (b : Bool). after now (done_lines b (viewer address w []))) is
      ∙ ap (λ (ls : List ViewLine). after now (waits (Receiving (viewer address w (plain_lines ls)) ToCatchUp))) (sym (drop_all _ _ all))

-- ---- rows

-- a line that is none was told
pub bad_told : (old new : LiveOutcome) (number : ℕ) (phase : Phase) → new.frames ≡ old.frames → string_bytes new.text ≡ string_bytes old.text ++ numbers_line (codes "bad-line") (number ∷ []) → after old (bad_line number phase) ≡ after new (waits phase)
bad_told old new number phase frames text =
    let line = numbers_line (codes "bad-line") (number ∷ []) in
    ap (λ (fs : List (List ℕ)). record { frames = fs ++ []; text = string_bytes old.text ++ line; fit = true; phase = phase }) (sym frames)
    ∙ ap (λ (t : List ℕ). record { frames = new.frames ++ []; text = t; fit = true; phase = phase }) (sym text)
    ∙ ap (λ (t : List ℕ). record { frames = new.frames ++ []; text = t; fit = true; phase = phase }) (sym (append-nil (string_bytes new.text)))

-- the end is reached
pub over_comes : (out : LiveOutcome) (phase : Phase) (end : ViewEnd) (v : Viewer) → phase ≡ Over end → Comes out out phase v (Some (at.Gone end))
over_comes out phase end v is = record { comes = λ next. ap (λ (p : Phase). after out (drive next p)) is }

pub tells_as : {A : Type 0} (done : Result A WantOfMemory) (old new : LiveOutcome) (a b : Told) (phase : Phase) → a ≡ b → OnOk done (Tells old new b phase) → OnOk done (Tells old new a phase)
tells_as done old new a b phase is told = subst (λ (t : Told). OnOk done (Tells old new t phase)) (sym is) told

pub tells_then : {A : Type 0} (done : Result A WantOfMemory) (old mid new : LiveOutcome) (a b : Told) (phase : Phase) → after old a ≡ after mid b → OnOk done (Tells mid new b phase) → OnOk done (Tells old new a phase)
tells_then (Ok it) old mid new a b phase is told = record { tells = is ∙ told.tells }
tells_then (Err want) old mid new a b phase is told = tt

pub joined_well : {A : Type 0} (done : Result A WantOfMemory) (joined a b : Option ℕ) → a ≡ b → OnOk done (joined ≡ a) → OnOk done (joined ≡ b)
joined_well done joined a b is well = subst (λ (j : Option ℕ). OnOk done (joined ≡ j)) is well

pub joined_if : (done : Result (Option ℕ) WantOfMemory) (a b : Option ℕ) → a ≡ b → IfOk done (λ joined. joined ≡ a) → IfOk done (λ joined. joined ≡ b)
joined_if done a b is well = subst (λ (j : Option ℕ). IfOk done (λ joined. joined ≡ j)) is well

pub held_as : {A : Type 0} (done : Result A WantOfMemory) (holds a b : ℕ) → a ≡ b → OnOk done (holds ≡ a) → OnOk done (holds ≡ b)
held_as done holds a b is well = subst (λ (n : ℕ). OnOk done (holds ≡ n)) is well

-- nothing is done, and the view waits there
pub held_told : {A : Type 0} (done : Result A WantOfMemory) (out : LiveOutcome) (at to : Phase) → OnOk done (at ≡ to) → OnOk done (Tells out out (waits to) at)
held_told (Ok it) out at to is = record { tells = ap (λ (p : Phase). after out (waits p)) (sym is) }
held_told (Err want) out at to is = tt
