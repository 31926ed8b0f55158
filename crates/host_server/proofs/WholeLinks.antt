-- Links of which the first frame was taken and given once more: their talk from the time when they were accepted.
use Rattle.std.proofs.Common.{◌≡◌, ◌≢◌, ℕ, ◌+◌, ◌-◌, ◌<◌, List, [], ◌∷◌, ◌++◌, length, map, replicate, Option, Some, None, refl, sym, ap, ◌∙◌, subst, append-nil, arith}
use Rattle.std.specs.List.{AllByRecursion}
use Rattle.std.proofs.lemmas.List.{append_cancel_left, length_push, take_at}
use Rattle.tea_base.specs.declared.entry.SessionId.{SessionId}
use Rattle.tea_io.specs.Told.{with_more}
use Rattle.tea_io.specs.Links.{most_quiets, note_of}
use Rattle.tea_io.specs.declared.link.Heard.{Heard}
use Rattle.tea_io.specs.declared.link.Heard.TheVariants.{Frame, Quiet, End, Failed, WantOfMemory}
use Rattle.wire_frames.specs.Frames.{IsServerFrame}
use Rattle.wire_frames.specs.Spelling.{server_spelling}
use Rattle.reflector_core.specs.PlainSession.{PlainSession}
use Rattle.session_lock.specs.declared.knowledge.Item.{Item}
use Rattle.session_lock.specs.Passes.{PassState, caller}
use Rattle.connection.specs.declared.ending.Ended.{Ended}
use Rattle.connection.specs.declared.ending.Ended.TheVariants as ended
use Rattle.connection.specs.Phases.{Hears, Reads, MakesRequest, MakesAt, Misses, Sends, Loses, FailsToSend, Wants, Move, Opening, Over, Wrong, TalkEvent, goes, heard_in, talk_walk}
use Rattle.connection.specs.Talk.{LinkAccount, Talk}
use Rattle.connection.proofs.Talking.{with_more_twice}
use Rattle.host_server.specs.Hearing.{GivesFirst}
use Rattle.host_server.specs.Peeking.{IsPeeked, TalksAgain, but_last, heard_so_far}
use Rattle.host_server.specs.Routing.{first_frame}
use Rattle.host_server.proofs.Quiets.{first_after_quiets, heard_quiets, quiet_events, walk_quiets}

-- ---- walks

-- a talk whose first frame comes at once goes as well after some Quiets
walk_later : (id : SessionId) (q : ℕ) (events : List TalkEvent) (first : List ℕ) (more : List Heard) → heard_in events ≡ Frame first ∷ more → talk_walk id (Opening q) events ≡ talk_walk id (Opening 0) events
walk_later id q [] first more is = absurd (cc (is))
walk_later id q (Hears (Frame bytes) ∷ events) first more is = refl
walk_later id q (Hears Quiet ∷ events) first more is = absurd (cc (is))
walk_later id q (Hears End ∷ events) first more is = refl
walk_later id q (Hears Failed ∷ events) first more is = refl
walk_later id q (Hears WantOfMemory ∷ events) first more is = refl
walk_later id q (Reads now ∷ events) first more is = refl
walk_later id q (MakesRequest given ∷ events) first more is = refl
walk_later id q (MakesAt now given ∷ events) first more is = refl
walk_later id q (Misses why ∷ events) first more is = refl
walk_later id q (Sends ∷ events) first more is = refl
walk_later id q (Loses ∷ events) first more is = refl
walk_later id q (FailsToSend ∷ events) first more is = refl
walk_later id q (Wants ∷ events) first more is = refl

pub walk_after : (id : SessionId) (q : ℕ) (events : List TalkEvent) (first : List ℕ) (more : List Heard) → q < most_quiets → heard_in events ≡ Frame first ∷ more
    → talk_walk id (Opening 0) (quiet_events q ++ events) ≡ talk_walk id (Opening 0) events
walk_after id q events first more few is =
    let same : 0 + q ≡ q = omega arith in
    let below : 0 + q < most_quiets = omega (arith, few) in
    walk_quiets id 0 q events below ∙ (ap (λ (n : ℕ). talk_walk id (Opening n) events) same ∙ walk_later id q events first more is)

wrong_stays : (id : SessionId) (events : List TalkEvent) → (talk_walk id Wrong events).phase ≡ Wrong
wrong_stays id [] = refl
wrong_stays id (event ∷ events) = wrong_stays id events

no_end : {P : Type 0} (id : SessionId) (events : List TalkEvent) (how : Ended) → (talk_walk id Wrong events).phase ≡ Over how → P
no_end id events how is = let wrong : Wrong ≡ Over how = sym (wrong_stays id events) ∙ is in absurd (cc (wrong))

-- nothing was asked and nothing was sent
record IsWant (id : SessionId) (events : List TalkEvent) (how : Ended) : Type 0 where
  pub how_is : how ≡ ended.WantOfMemory
  pub none_asked : (talk_walk id (Opening 0) events).asked ≡ []
  pub none_sent : (talk_walk id (Opening 0) events).sent ≡ []

wants_at_once : (id : SessionId) (events : List TalkEvent) (how : Ended) → (talk_walk id (Over ended.WantOfMemory) events).phase ≡ Over how → IsWant id (Hears WantOfMemory ∷ events) how
wants_at_once id [] how ends = record { how_is = cc (ends); none_asked = refl; none_sent = refl }
wants_at_once id (event ∷ events) how ends = no_end id events how ends

-- a talk that heard nothing has found no memory for its first frame
heard_nothing : (id : SessionId) (events : List TalkEvent) (how : Ended) → (talk_walk id (Opening 0) events).phase ≡ Over how → heard_in events ≡ [] → IsWant id events how
heard_nothing id [] how ends none = absurd (cc (ends))
heard_nothing id (Hears (Frame bytes) ∷ events) how ends none = absurd (cc (none))
heard_nothing id (Hears Quiet ∷ events) how ends none = absurd (cc (none))
heard_nothing id (Hears End ∷ events) how ends none = absurd (cc (none))
heard_nothing id (Hears Failed ∷ events) how ends none = absurd (cc (none))
heard_nothing id (Hears WantOfMemory ∷ events) how ends none = wants_at_once id events how ends
heard_nothing id (Reads now ∷ events) how ends none = no_end id events how ends
heard_nothing id (MakesRequest given ∷ events) how ends none = no_end id events how ends
heard_nothing id (MakesAt now given ∷ events) how ends none = no_end id events how ends
heard_nothing id (Misses why ∷ events) how ends none = no_end id events how ends
heard_nothing id (Sends ∷ events) how ends none = no_end id events how ends
heard_nothing id (Loses ∷ events) how ends none = no_end id events how ends
heard_nothing id (FailsToSend ∷ events) how ends none = no_end id events how ends
heard_nothing id (Wants ∷ events) how ends none = no_end id events how ends

-- ---- talks

module _ (gives : ℕ → Type 0) (id : SessionId) (opening : PlainSession) (history : List Item) (c : ℕ) (sent : List (List ℕ)) (how : Ended) (q : ℕ) (few : q < most_quiets) where
  later_talk : (first : List ℕ) (heard more : List Heard) → heard ≡ Frame first ∷ more → Talk gives id opening history c heard sent how → Talk gives id opening history c (replicate q Quiet ++ heard) sent how
  later_talk first heard more is talk =
      let walk = walk_after id q talk.events first more few (sym talk.said ∙ is) in
      record {
        events = quiet_events q ++ talk.events;
        ends = ap (λ (m : Move). m.phase) walk ∙ talk.ends;
        asked = talk.asked ∙ sym (ap (λ (m : Move). m.asked) walk);
        said = ap (λ (l : List Heard). replicate q Quiet ++ l) talk.said ∙ sym (heard_quiets q talk.events);
        told = talk.told ∙ sym (ap (λ (m : Move). map server_spelling m.sent) walk);
        spelled = subst (λ (m : Move). AllByRecursion IsServerFrame m.sent) (sym walk) talk.spelled;
        timely = talk.timely;
      }

  want_talk : (first : List ℕ) (heard : List Heard) → heard ≡ [] → Talk gives id opening history c heard sent how → Talk gives id opening history c (replicate q Quiet ++ Frame first ∷ []) sent how
  want_talk first heard none talk =
      let want = heard_nothing id talk.events how talk.ends (sym talk.said ∙ none) in
      let walk : talk_walk id (Opening 0) (quiet_events q ++ Hears (Frame first) ∷ Wants ∷ []) ≡ goes (Over ended.WantOfMemory) = walk_after id q (Hears (Frame first) ∷ Wants ∷ []) first [] few refl in
      record {
        events = quiet_events q ++ Hears (Frame first) ∷ Wants ∷ [];
        ends = ap (λ (m : Move). m.phase) walk ∙ ap Over (sym want.how_is);
        asked = talk.asked ∙ (want.none_asked ∙ sym (ap (λ (m : Move). m.asked) walk));
        said = sym (heard_quiets q (Hears (Frame first) ∷ Wants ∷ []));
        told = talk.told ∙ (ap (map server_spelling) want.none_sent ∙ sym (ap (λ (m : Move). map server_spelling m.sent) walk));
        spelled = subst (λ (m : Move). AllByRecursion IsServerFrame m.sent) (sym walk) tt;
        timely = talk.timely;
      }

-- ---- what a link tells

some_same : {A : Type 0} (x y : A) → Some x ≡ Some y → x ≡ y
some_same x y is = cc (is)

-- what was told before the frame
pub before_frame : (told : Option (List Heard)) (first : List ℕ) → but_last (with_more told (Frame first ∷ [])) ≡ told
before_frame None first = refl
before_frame (Some told) first =
    let as_long : length told ≡ length (told ++ Frame first ∷ []) - 1 = let more = length_push told (Frame first) in omega (arith, more) in
    ap Some (take_at told (Frame first ∷ []) (length (told ++ Frame first ∷ []) - 1) as_long)

same_more : (told xs ys : List Heard) → with_more (Some told) xs ≡ with_more (Some told) ys → xs ≡ ys
same_more told xs ys is = append_cancel_left told xs ys (some_same (told ++ xs) (told ++ ys) is)

-- the talk of a link from the time when it was accepted, and the frame that it gave first where it tells it
pub record TalksWhole (gives : ℕ → Type 0) (id : SessionId) (pass : PassState) (first : List ℕ) (old new : LinkAccount) (how : Ended) : Type 0 where
  pub heard : List Heard
  pub sent : List (List ℕ)
  pub talk : Talk gives id pass.opening pass.seen (caller pass) heard sent how
  pub tells_heard : new.heard ≡ with_more old.heard heard
  pub tells_sent : new.sent ≡ with_more old.sent sent
  pub begins : old.heard ≢ None → first_frame heard ≡ Some first

module _ (gives : ℕ → Type 0) (id : SessionId) (pass : PassState) (before : Option (List Heard)) (first : List ℕ) (old mid new : LinkAccount) (how : Ended)
    (gave : GivesFirst old mid first) (again : TalksAgain gives id pass before first mid new how) (before_is : before ≡ with_more old.heard (replicate gave.quiets Quiet)) where
  told_sent : new.sent ≡ with_more old.sent again.talk.sent
  told_sent = again.talk.tells_sent ∙ ap (λ (o : Option (List (List ℕ))). with_more o again.talk.sent) gave.sent

  told_after : (heard : List Heard) → new.heard ≡ with_more before heard → new.heard ≡ with_more old.heard (replicate gave.quiets Quiet ++ heard)
  told_after heard is =
      is ∙ (ap (λ (o : Option (List Heard)). with_more o heard) before_is ∙ with_more_twice old.heard (replicate gave.quiets Quiet) heard)

  -- the link does not tell what it says
  untold : (left : Option (List ℕ)) → IsPeeked before first left new.heard → before ≡ None → new.heard ≡ None
  untold None peeked none = peeked.1 ∙ ap (λ (o : Option (List Heard)). with_more o (Frame first ∷ peeked.0)) none
  untold (Some bytes) peeked none = peeked.1 ∙ ap (λ (o : Option (List Heard)). with_more o (Frame first ∷ [])) none

  whole_untold : old.heard ≡ None → TalksWhole gives id pass first old new how
  whole_untold none =
      let none_before : before ≡ None = before_is ∙ ap (λ (o : Option (List Heard)). with_more o (replicate gave.quiets Quiet)) none in
      record {
        heard = again.talk.heard;
        sent = again.talk.sent;
        talk = again.talk.talk;
        tells_heard = untold again.left again.peeked none_before ∙ sym (ap (λ (o : Option (List Heard)). with_more o again.talk.heard) none);
        tells_sent = told_sent;
        begins = λ some. absurd (some none);
      }

  -- the frame was given again
  whole_given : (told more : List Heard) → before ≡ Some told → new.heard ≡ with_more before (Frame first ∷ more) → new.heard ≡ with_more before again.talk.heard → TalksWhole gives id pass first old new how
  whole_given told more some peeked tells =
      let heard : again.talk.heard ≡ Frame first ∷ more = same_more told again.talk.heard (Frame first ∷ more)
      (sym (ap (λ (o : Option (List Heard)). with_more o again.talk.heard) some) ∙ (sym tells ∙ (peeked ∙ ap (λ (o : Option (List Heard)). with_more o (Frame first ∷ more)) some))) in
      record {
        heard = replicate gave.quiets Quiet ++ again.talk.heard;
        sent = again.talk.sent;
        talk = later_talk gives id pass.opening pass.seen (caller pass) again.talk.sent how gave.quiets gave.few first again.talk.heard more heard again.talk.talk;
        tells_heard = told_after again.talk.heard tells;
        tells_sent = told_sent;
        begins = λ known. first_after_quiets gave.quiets again.talk.heard ∙ ap first_frame heard;
      }

  -- it was not
  whole_kept : (told : List Heard) → before ≡ Some told → new.heard ≡ with_more before (Frame first ∷ []) → before ≡ with_more before again.talk.heard → TalksWhole gives id pass first old new how
  whole_kept told some peeked tells =
      let none : again.talk.heard ≡ [] = same_more told again.talk.heard []
      (sym (ap (λ (o : Option (List Heard)). with_more o again.talk.heard) some) ∙ (sym tells ∙ (some ∙ ap Some (sym (append-nil told))))) in
      record {
        heard = replicate gave.quiets Quiet ++ Frame first ∷ [];
        sent = again.talk.sent;
        talk = want_talk gives id pass.opening pass.seen (caller pass) again.talk.sent how gave.quiets gave.few first again.talk.heard none again.talk.talk;
        tells_heard = told_after (Frame first ∷ []) peeked;
        tells_sent = told_sent;
        begins = λ known. first_after_quiets gave.quiets (Frame first ∷ []);
      }

  whole_told : (told : List Heard) → before ≡ Some told → (left : Option (List ℕ)) → IsPeeked before first left new.heard → heard_so_far before left new.heard ≡ with_more before again.talk.heard
      → TalksWhole gives id pass first old new how
  whole_told told some None peeked tells = whole_given told peeked.0 some peeked.1 tells
  whole_told told some (Some bytes) peeked tells = whole_kept told some peeked.1 tells

  pub whole_link : (told : Option (List Heard)) → old.heard ≡ told → TalksWhole gives id pass first old new how
  whole_link None is = whole_untold is
  whole_link (Some told) is =
      whole_told (told ++ replicate gave.quiets Quiet) (before_is ∙ ap (λ (o : Option (List Heard)). with_more o (replicate gave.quiets Quiet)) is) again.left again.peeked again.talk.tells_heard

-- ---- a link that goes on

-- what is told once the frame was given
pub peeked_more : (before : Option (List Heard)) (first : List ℕ) (left now_left : Option (List ℕ)) (old new : Option (List Heard)) (what : Heard) → left ≡ None → now_left ≡ None
    → IsPeeked before first left old → new ≡ with_more old (note_of what) → IsPeeked before first now_left new
peeked_more before first left now_left old new what none now_none peeked more =
    let given = subst (λ (o : Option (List ℕ)). IsPeeked before first o old) none peeked in
    subst (λ (o : Option (List ℕ)). IsPeeked before first o new) (sym now_none) (
      given.0 ++ note_of what,
      more ∙ (ap (λ (o : Option (List Heard)). with_more o (note_of what)) given.1 ∙ with_more_twice before (Frame first ∷ given.0) (note_of what)),
    )
