-- Links that are quiet, and then give a frame or end.
use Rattle.std.proofs.Common.{◌≡◌, ℕ, ◌+◌, ◌-◌, ◌≤◌, ◌<◌, zero, suc, List, [], ◌∷◌, ◌++◌, map, replicate, Option, None, refl, sym, ap, ◌∙◌, subst, append-nil, arith}
use Rattle.std.specs.List.{AllByRecursion}
use Rattle.std.proofs.lemmas.List.{replicate_more}
use Rattle.tea_base.specs.declared.entry.SessionId.{SessionId}
use Rattle.tea_io.specs.Told.{Rose, with_more}
use Rattle.tea_io.specs.Links.{Counts, CountRises, NoneFalls, most_quiets, note_of}
use Rattle.tea_io.specs.declared.link.Heard.{Heard}
use Rattle.tea_io.specs.declared.link.Heard.TheVariants.{Frame, Quiet}
use Rattle.wire_frames.specs.Frames.{IsServerFrame}
use Rattle.wire_frames.specs.Spelling.{server_spelling}
use Rattle.reflector_core.specs.Play.{first_session}
use Rattle.connection.specs.declared.ending.Ended.{Ended}
use Rattle.connection.specs.declared.ending.Ended.TheVariants as ended
use Rattle.connection.specs.Causes.{IsCauseCounted, RoseBy}
use Rattle.connection.specs.Phases.{Hears, Move, Opening, Over, TalkEvent, TalkPhase, goes, heard_in, opening_row, talk_walk}
use Rattle.connection.specs.Talk.{LinkAccount, Talk}
use Rattle.connection.proofs.Counting.{falls_on, none_falls}
use Rattle.connection.proofs.Talking.{HeardOnce, opening_row_is, with_more_none, with_more_twice}
use Rattle.host_server.specs.Hearing.{GivesFirst, GivesNone, IsQuiet, untimed}
use Rattle.host_server.specs.Routing.{first_frame}

-- ---- talks

-- so many Quiets
abbrev pub quiet_events : ℕ → List TalkEvent
quiet_events quiets = replicate quiets (Hears Quiet)

pub walk_quiets : (id : SessionId) (p q : ℕ) (rest : List TalkEvent) → p + q < most_quiets → talk_walk id (Opening p) (quiet_events q ++ rest) ≡ talk_walk id (Opening (p + q)) rest
walk_quiets id p zero rest few =
    let none : p ≡ p + 0 = omega arith in ap (λ (n : ℕ). talk_walk id (Opening n) rest) none
walk_quiets id p (suc q) rest few =
    let once : p + 1 < most_quiets = omega arith in
    let more : p + 1 + q < most_quiets = omega arith in
    let same : p + 1 + q ≡ p + suc q = omega arith in
    ap (λ (phase : TalkPhase). talk_walk id phase (quiet_events q ++ rest)) (opening_row_is (p + 1) once)
    ∙ (walk_quiets id (p + 1) q rest more
    ∙ ap (λ (n : ℕ). talk_walk id (Opening n) rest) same)

pub heard_quiets : (q : ℕ) (rest : List TalkEvent) → heard_in (quiet_events q ++ rest) ≡ replicate q Quiet ++ heard_in rest
heard_quiets zero rest = refl
heard_quiets (suc q) rest = ap (λ (l : List Heard). Quiet ∷ l) (heard_quiets q rest)

pub first_after_quiets : (q : ℕ) (rest : List Heard) → first_frame (replicate q Quiet ++ rest) ≡ first_frame rest
first_after_quiets zero rest = refl
first_after_quiets (suc q) rest = first_after_quiets q rest

-- a talk that is only heard
silent_talk : (id : SessionId) (events : List TalkEvent) (how : Ended) → talk_walk id (Opening 0) events ≡ goes (Over how) → Talk untimed id first_session [] 0 (heard_in events) [] how
silent_talk id events how walk = record {
  events = events;
  ends = ap (λ (m : Move). m.phase) walk;
  asked = sym (ap (λ (m : Move). m.asked) walk);
  said = refl;
  told = sym (ap (λ (m : Move). map server_spelling m.sent) walk);
  spelled = subst (λ (m : Move). AllByRecursion IsServerFrame m.sent) (sym walk) tt;
  timely = tt;
}

-- ---- what a link tells

pub quiet_none : (a : LinkAccount) → IsQuiet 0 a a
quiet_none a = record {
  heard = sym (with_more_none a.heard);
  sent = refl;
  later = none_falls a.counts;
  counted = omega arith;
}

pub quiet_more : (q : ℕ) (old mid new : LinkAccount) → IsQuiet q old mid → HeardOnce mid new Quiet → IsQuiet (q + 1) old new
quiet_more q old mid new quiet once = record {
  heard =
      once.heard
      ∙ (ap (λ (o : Option (List Heard)). with_more o (Quiet ∷ [])) quiet.heard
      ∙ (with_more_twice old.heard (replicate q Quiet) (Quiet ∷ [])
      ∙ ap (with_more old.heard) (replicate_more q Quiet)));
  sent = once.sent ∙ quiet.sent;
  later = falls_on old.counts mid.counts new.counts quiet.later once.later;
  counted = let rose = once.cause in let counted = quiet.counted in omega (arith, rose, counted);
}

pub gives_first : (q : ℕ) (first : List ℕ) (old mid new : LinkAccount) → q < most_quiets → IsQuiet q old mid → HeardOnce mid new (Frame first) → GivesFirst old new first
gives_first q first old mid new few quiet once = record {
  quiets = q;
  few = few;
  heard = once.heard ∙ ap (λ (o : Option (List Heard)). with_more o (Frame first ∷ [])) quiet.heard;
  sent = once.sent ∙ quiet.sent;
  later = falls_on old.counts mid.counts new.counts quiet.later once.later;
}

-- what rose for a count that was higher has risen for one that was not
pub rose_before : (a b c : ℕ) → a ≤ b → Rose b c → Rose a c
rose_before a b c le rose = omega (arith, le, rose)

pub caused_before : (a b c : Counts) (how : Ended) → NoneFalls a b → IsCauseCounted b c how → IsCauseCounted a c how
caused_before a b c ended.Left falls cause = tt
caused_before a b c ended.LinkEnd falls cause = rose_before a.ends b.ends c.ends falls.ends cause
caused_before a b c ended.LinkFault falls cause = rose_before a.faults b.faults c.faults falls.faults cause
caused_before a b c (ended.Idle quiets) falls cause = (cause.0, let le = falls.quiets in let rose = cause.1 in omega (arith, le, rose))
caused_before a b c (ended.Stale current) falls cause = tt
caused_before a b c (ended.Refused code) falls cause = tt
caused_before a b c ended.WantOfMemory falls cause = tt
caused_before a b c ended.Unkept falls cause = tt

-- it said something else than a frame or a Quiet, which ends it
pub gives_none : (q : ℕ) (what : Heard) (how : Ended) (old mid new : LinkAccount) → q < most_quiets → ((id : SessionId) → talk_walk id (Opening q) (Hears what ∷ []) ≡ goes (Over how))
    → first_frame (note_of what) ≡ None → (CountRises mid.counts new.counts what → IsCauseCounted mid.counts new.counts how) → IsQuiet q old mid → HeardOnce mid new what → GivesNone old new how
gives_none q what how old mid new few ends frameless causes quiet once = record {
  heard = replicate q Quiet ++ note_of what;
  tells_heard =
      once.heard
      ∙ (ap (λ (o : Option (List Heard)). with_more o (note_of what)) quiet.heard
      ∙ with_more_twice old.heard (replicate q Quiet) (note_of what));
  sent = once.sent ∙ quiet.sent;
  frameless = first_after_quiets q (note_of what) ∙ frameless;
  talk = λ id. subst (λ (l : List Heard). Talk untimed id first_session [] 0 l [] how)
      (heard_quiets q (Hears what ∷ []) ∙ ap (λ (l : List Heard). replicate q Quiet ++ l) (append-nil (note_of what)))
      (silent_talk id (quiet_events q ++ Hears what ∷ []) how (walk_quiets id 0 q (Hears what ∷ []) few' ∙ (ap (λ (n : ℕ). talk_walk id (Opening n) (Hears what ∷ [])) none ∙ ends id)));
  cause = caused_before old.counts mid.counts new.counts how quiet.later (causes once.cause);
}
  where
    none : 0 + q ≡ q
    none = omega arith

    few' : 0 + q < most_quiets
    few' = omega (arith, few)

-- it was quiet at each receive
pub idle : (q : ℕ) (old new : LinkAccount) → q ≡ most_quiets → IsQuiet q old new → GivesNone old new (ended.Idle most_quiets)
idle q old new all quiet = record {
  heard = replicate q Quiet;
  tells_heard = quiet.heard;
  sent = quiet.sent;
  frameless = ap first_frame (sym (append-nil (replicate q Quiet))) ∙ first_after_quiets q [];
  talk = λ id. subst (λ (l : List Heard). Talk untimed id first_session [] 0 l [] (ended.Idle most_quiets))
      (heard_quiets (q - 1) (Hears Quiet ∷ []) ∙ (replicate_more (q - 1) Quiet ∙ ap (λ (n : ℕ). replicate n Quiet) back))
      (silent_talk id (quiet_events (q - 1) ++ Hears Quiet ∷ []) (ended.Idle most_quiets)
      (walk_quiets id 0 (q - 1) (Hears Quiet ∷ []) few ∙ last id));
  cause = (refl, subst (λ (n : ℕ). RoseBy n old.counts.quiets new.counts.quiets) all quiet.counted);
}
  where
    some : 1 ≤ q
    some = omega (arith, all)

    back : q - 1 + 1 ≡ q
    back = omega (arith, some)

    few : 0 + (q - 1) < most_quiets
    few = omega (arith, all)

    at : 0 + (q - 1) + 1 ≡ most_quiets
    at = omega (arith, all)

    last : (id : SessionId) → talk_walk id (Opening (0 + (q - 1))) (Hears Quiet ∷ []) ≡ goes (Over (ended.Idle most_quiets))
    last id = ap (λ (n : ℕ). goes (opening_row n)) at

-- the link was closed then, which tells and counts nothing
pub none_closed : (old mid new : LinkAccount) (how : Ended) → new.heard ≡ mid.heard → new.sent ≡ mid.sent → new.counts ≡ mid.counts → GivesNone old mid how → GivesNone old new how
none_closed old mid new how heard sent counts none = record {
  heard = none.heard;
  tells_heard = heard ∙ none.tells_heard;
  sent = sent ∙ none.sent;
  frameless = none.frameless;
  talk = none.talk;
  cause = subst (λ (c : Counts). IsCauseCounted old.counts c how) (sym counts) none.cause;
}
