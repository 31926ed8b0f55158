-- What a log served, each log serves that goes on from it behind the horizon.
use Rattle.std.proofs.Common.{◌≡◌, inl, inr, ℕ, zero, suc, ◌+◌, ◌-◌, ◌<◌, ◌≤◌, List, [], ◌∷◌, ◌++◌, length, map, take, Option, Some, None, slice_get, refl, sym, ap, subst, ◌∙◌, arith}
use Rattle.std.proofs.lemmas.List.{take-append-le}
use Rattle.std.proofs.lemmas.Option.{none-some}
use Rattle.std.specs.List.{AllByRecursion}
use Rattle.byte_fields.specs.Fields.{whole}
use Rattle.byte_fields.proofs.Codecs.{whole_again}
use Rattle.tea_base.specs.declared.entry.Entry.{Entry}
use Rattle.tea_base.specs.declared.entry.What.TheVariants as what
use Rattle.tea_base.specs.Readings.{last_number, last_time}
use Rattle.tea_base.proofs.LogLaws.{TimesRise-legal}
use Rattle.tea_io.specs.declared.link.Heard.{Heard}
use Rattle.wire_frames.specs.Frames.{IsServerFrame}
use Rattle.wire_frames.specs.Reading.{server_at}
use Rattle.wire_frames.specs.Served.{AnswersFrame, AnswersInOrder, AnswersJoin, Place, Served, ServedFrom, Streams, answers_of, place_after}
use Rattle.wire_frames.specs.Spelling.{server_spelling}
use Rattle.wire_frames.specs.declared.frame.ClientFrame.{ClientFrame}
use Rattle.wire_frames.specs.declared.frame.ClientFrame.TheVariants as client
use Rattle.wire_frames.specs.declared.frame.ServerFrame.{ServerFrame}
use Rattle.wire_frames.specs.declared.frame.ServerFrame.TheVariants.{Sync, Recv, Tick, Done, Snapped, Refused, Alive}
use Rattle.wire_frames.specs.declared.start.Base.{Base}
use Rattle.wire_frames.specs.declared.start.Want.{Want}
use Rattle.wire_frames.proofs.ServerCodec.{server_codec}
use Rattle.wire_frames.proofs.Times.{early_as_last, seq_at}
use Rattle.reflector_core.specs.PlainSession.{IsSoundSession, PlainSession}
use Rattle.system_plain.proofs.FactsGrow.{begins_grow, count_stays}
use Rattle.system_plain.proofs.Sessions.{Grows, slice_get-grown}
use Rattle.connection.specs.TalkServed.{IsTalkServed, IsToldWithin, TicksWithin, frames_of}
use Rattle.connection.proofs.Ticks.{ticks_later}
use Rattle.view_follows.proofs.Lists.{same_first, same_others}

-- ---- frames that are spelled alike

some_frame : (frame other : ServerFrame) → Some frame ≡ Some other → frame ≡ other
some_frame frame other is = cc

pub spelled_alike : (frames others : List ServerFrame) → AllByRecursion IsServerFrame frames → AllByRecursion IsServerFrame others → map server_spelling frames ≡ map server_spelling others → frames ≡ others
spelled_alike [] [] fit suit is = refl
spelled_alike [] (other ∷ others) fit suit is = absurd cc
spelled_alike (frame ∷ frames) [] fit suit is = absurd cc
spelled_alike (frame ∷ frames) (other ∷ others) fit suit is =
    let first = same_first (server_spelling frame) (server_spelling other) (map server_spelling frames) (map server_spelling others) is in
    let heads = some_frame frame other (sym (whole_again server_codec frame fit.0) ∙ ap (whole server_at) first ∙ whole_again server_codec other suit.0) in
    let rest = spelled_alike frames others fit.1 suit.1 (same_others (server_spelling frame) (server_spelling other) (map server_spelling frames) (map server_spelling others) is) in
    ap (λ (f : ServerFrame). f ∷ frames) heads ∙ ap (λ (fs : List ServerFrame). other ∷ fs) rest

-- ---- answers

answers_on : (log rest : List Entry) (view : ℕ) (frame : Option ClientFrame) (answer : ServerFrame) → AnswersFrame log view frame answer → AnswersFrame (log ++ rest) view frame answer
answers_on log rest view (Some (client.Send number payload)) (Done done seq time) are = (are.0, slice_get-grown log rest (seq - 1) _ are.1)
answers_on log rest view frame answer are = are

in_order_on : (log rest : List Entry) (view : ℕ) (given : List (Option ClientFrame)) (answers : List ServerFrame) → AnswersInOrder log view given answers → AnswersInOrder (log ++ rest) view given answers
in_order_on log rest view given [] are = tt
in_order_on log rest view [] (answer ∷ answers) are = absurd are
in_order_on log rest view (frame ∷ given) (answer ∷ answers) are = elim are [
  | inl answered ↦ inl (answers_on log rest view frame answer answered.0, in_order_on log rest view given answers answered.1)
  | inr skipped ↦ inr (skipped.0, in_order_on log rest view given (answer ∷ answers) skipped.1)
]

-- ---- the entry of a Join

at_within : {A : Type 0} (xs : List A) (k : ℕ) (x : A) → slice_get xs k ≡ Some x → k < length xs
at_within [] k x at = absurd (none-some x at)
at_within (first ∷ xs) zero x at = omega arith
at_within (first ∷ xs) (suc k) x at = omega (arith, at_within xs k x at)

-- ---- a session that has grown

module _ (s new : PlainSession) (sound : IsSoundSession s) (grows : Grows s new) where
  streams_on : (place : Place) (frames : List ServerFrame) → Streams s.log place frames → TicksWithin s.horizon frames → Streams new.log place frames
  streams_on place [] streams ticks = tt
  streams_on place (Recv entry ∷ rest) streams ticks = (rw grows.log (slice_get-grown s.log grows.rest place.seen entry streams.0), streams_on (place_after place (Recv entry)) rest streams.1 ticks)
  streams_on place (Tick t ∷ rest) streams ticks = ((streams.0.0, streams.0.1, count_stays s new t grows ticks.0 ∙ streams.0.2), streams_on (place_after place (Tick t)) rest streams.1 ticks.1)
  streams_on place (Sync joined last from base ∷ rest) streams ticks = absurd streams.0
  streams_on place (Done number seq time ∷ rest) streams ticks = (tt, streams_on (place_after place (Done number seq time)) rest streams.1 ticks)
  streams_on place (Snapped time ∷ rest) streams ticks = (tt, streams_on (place_after place (Snapped time)) rest streams.1 ticks)
  streams_on place (Refused about code kept more ∷ rest) streams ticks = (tt, streams_on (place_after place (Refused about code kept more)) rest streams.1 ticks)
  streams_on place (Alive ∷ rest) streams ticks = (tt, streams_on (place_after place Alive) rest streams.1 ticks)

  -- the entry of the Join is one of the log, and so not later than its horizon
  join_on : (view : ℕ) (want : Want) (joined last from time : ℕ) (base : Option Base) → AnswersJoin s.log view want joined last from time base → AnswersJoin new.log view want joined last from time base
  join_on view want joined last from time base answers =
      let entry : Entry = record { seq = joined; time = time; view = view; what = what.Join } in
      let seq : joined ≡ joined - 1 + 1 = seq_at s.log (joined - 1) entry sound.legal answers.entry in
      let early : time ≤ last_time s.log = early_as_last 0 s.log (joined - 1) entry (TimesRise-legal s.log sound.legal) answers.entry in
      let within = at_within s.log (joined - 1) entry answers.entry in
      record {
        entry = rw grows.log (slice_get-grown s.log grows.rest (joined - 1) entry answers.entry);
        counted = answers.counted ∙ sym (ap (λ (l : List Entry). last_number (take (joined - 1) l) view) grows.log ∙ ap (λ (l : List Entry). last_number l view) (take-append-le (joined - 1) s.log grows.rest (omega (arith, within))));
        begins = begins_grow s new want time from base grows (omega (arith, early, sound.latest)) answers.begins;
      }

  from_on : (view : ℕ) (place : Place) (given : List (Option ClientFrame)) (frames : List ServerFrame) → ServedFrom s.log view place given frames → TicksWithin s.horizon frames → ServedFrom new.log view place given frames
  from_on view place given frames served ticks = record {
    streams = streams_on place frames served.streams ticks;
    answers = rw grows.log (in_order_on s.log grows.rest view given (answers_of frames) served.answers);
  }

  served_on : (given : List (Option ClientFrame)) (frames : List ServerFrame) → Served s.log given frames → TicksWithin s.horizon frames → Served new.log given frames
  served_on given [] served ticks = tt
  served_on given (Refused about code kept more ∷ rest) served ticks = served
  served_on (Some (client.Join session view want) ∷ given) (Sync joined last from base ∷ rest) served ticks =
      (served.0, join_on view want joined last from served.0 base served.1, from_on view (record { seen = from; least = served.0 }) given rest served.2 ticks)
  served_on [] (Sync joined last from base ∷ rest) served ticks = absurd served
  served_on (None ∷ given) (Sync joined last from base ∷ rest) served ticks = absurd served
  served_on (Some (client.Send number payload) ∷ given) (Sync joined last from base ∷ rest) served ticks = absurd served
  served_on (Some (client.Snap time bytes) ∷ given) (Sync joined last from base ∷ rest) served ticks = absurd served
  served_on (Some client.Leave ∷ given) (Sync joined last from base ∷ rest) served ticks = absurd served
  served_on (Some client.Alive ∷ given) (Sync joined last from base ∷ rest) served ticks = absurd served
  served_on given (Recv entry ∷ rest) served ticks = absurd served
  served_on given (Tick time ∷ rest) served ticks = absurd served
  served_on given (Done number seq time ∷ rest) served ticks = absurd served
  served_on given (Snapped time ∷ rest) served ticks = absurd served
  served_on given (Alive ∷ rest) served ticks = absurd served

  -- what a talk was served, and told of times, stays so
  pub talk_on : (heard : List Heard) (sent : List (List ℕ)) → IsTalkServed s.log heard sent → IsToldWithin s.horizon sent → IsTalkServed new.log heard sent
  talk_on heard sent served told =
      let same = spelled_alike told.frames served.frames told.spelled served.spelled (sym told.spelling ∙ served.spelling) in
      record {
        frames = served.frames;
        spelling = served.spelling;
        spelled = served.spelled;
        served = served_on (frames_of heard) served.frames served.served (subst (TicksWithin s.horizon) same told.ticks);
      }

  pub told_on : (sent : List (List ℕ)) → IsToldWithin s.horizon sent → IsToldWithin new.horizon sent
  told_on sent told = record { frames = told.frames; spelling = told.spelling; spelled = told.spelled; ticks = ticks_later s.horizon new.horizon told.frames grows.horizon told.ticks }
