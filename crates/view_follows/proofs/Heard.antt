-- What a link is served until a frame that was heard last.
use Rattle.std.proofs.Common.{◌≡◌, inl, inr, ℕ, ◌+◌, List, [], ◌∷◌, ◌++◌, map, Option, Some, refl, sym, ap, subst, arith, ◌∙◌}
use Rattle.std.specs.List.{AllByRecursion}
use Rattle.byte_fields.specs.Fields.{whole}
use Rattle.tea_base.specs.declared.entry.Entry.{Entry}
use Rattle.tea_base.specs.declared.entry.SessionId.{SessionId}
use Rattle.wire_frames.specs.Reading.{client_at}
use Rattle.wire_frames.specs.Spelling.{client_spelling}
use Rattle.wire_frames.specs.Served.{AnswersJoin, ComesAt, Place, Served, ServedFrom, Streams, place_after, place_after_all}
use Rattle.wire_frames.specs.declared.start.Base.{Base}
use Rattle.wire_frames.specs.declared.start.Want.{Want}
use Rattle.wire_frames.specs.declared.frame.ClientFrame.{ClientFrame}
use Rattle.wire_frames.specs.declared.frame.ClientFrame.TheVariants as client
use Rattle.wire_frames.specs.declared.frame.ServerFrame.{ServerFrame}
use Rattle.wire_frames.specs.declared.frame.ServerFrame.TheVariants.{Sync, Recv, Tick, Done, Snapped, Refused, Alive}
use Rattle.view_follows.specs.Sessions.{ComesFrom}
use Rattle.view_follows.proofs.Numbers.{alive_is_read, dones}

-- ---- the last frame that was read

some_frame : (frame other : ServerFrame) → Some frame ≡ Some other → frame ≡ other
some_frame frame other is = cc

pub some_alike : (frames others : List ServerFrame) → map Some frames ≡ map Some others → frames ≡ others
some_alike [] [] is = refl
some_alike [] (other ∷ others) is = absurd cc
some_alike (frame ∷ frames) [] is = absurd cc
some_alike (frame ∷ frames) (other ∷ others) is =
    let first : Some frame ≡ Some other = cc in
    let rest : map Some frames ≡ map Some others = cc in
    ap (λ (f : ServerFrame). f ∷ frames) (some_frame frame other first) ∙ ap (λ (fs : List ServerFrame). other ∷ fs) (some_alike frames others rest)

pub record IsReadLast (frames : List ServerFrame) (heard : List (Option ServerFrame)) (found : Option ServerFrame) : Type 0 where
  pub front : List ServerFrame
  pub frame : ServerFrame
  pub all : frames ≡ front ++ frame ∷ []
  pub is : found ≡ Some frame
  pub before : map Some front ≡ heard

read_alone : (frame : ServerFrame) (frames : List ServerFrame) (found : Option ServerFrame) → Some frame ∷ map Some frames ≡ found ∷ [] → IsReadLast (frame ∷ frames) [] found
read_alone frame [] found is = record { front = []; frame = frame; all = refl; is = cc; before = refl }
read_alone frame (next ∷ frames) found is = absurd cc

pub read_last : (frames : List ServerFrame) (heard : List (Option ServerFrame)) (found : Option ServerFrame) → map Some frames ≡ heard ++ found ∷ [] → IsReadLast frames heard found
read_last [] [] found is = absurd cc
read_last [] (first ∷ heard) found is = absurd cc
read_last (frame ∷ frames) [] found is = read_alone frame frames found is
read_last (frame ∷ frames) (first ∷ heard) found is =
    let head : Some frame ≡ first = cc in
    let tail : map Some frames ≡ heard ++ found ∷ [] = cc in
    let rest = read_last frames heard found tail in
    record {
      front = frame ∷ rest.front;
      frame = rest.frame;
      all = ap (λ (fs : List ServerFrame). frame ∷ fs) rest.all;
      is = rest.is;
      before = ap (λ (f : Option ServerFrame). f ∷ map Some rest.front) head ∙ ap (λ (fs : List (Option ServerFrame)). first ∷ fs) rest.before;
    }

-- ---- what was served

pub record BeginsServed (log : List Entry) (given : List (Option ClientFrame)) (joined last from : ℕ) (base : Option Base) (frames : List ServerFrame) : Type 0 where
  pub session : SessionId
  pub view : ℕ
  pub want : Want
  pub more : List (Option ClientFrame)
  pub time : ℕ
  pub is : given ≡ Some (client.Join session view want) ∷ more
  pub answers : AnswersJoin log view want joined last from time base
  pub rest : ServedFrom log view (record { seen = from; least = time }) more frames

-- a Sync comes first only where a Join was given first
pub begins_served : (log : List Entry) (given : List (Option ClientFrame)) (joined last from : ℕ) (base : Option Base) (frames : List ServerFrame) → Served log given (Sync joined last from base ∷ frames) → BeginsServed log given joined last from base frames
begins_served log [] joined last from base frames served = absurd served
begins_served log (Some (client.Join session view want) ∷ more) joined last from base frames (time, answers, rest) =
    record { session = session; view = view; want = want; more = more; time = time; is = refl; answers = answers; rest = rest }
begins_served log (frame ∷ more) joined last from base frames served = absurd served

-- a frame that comes first is a Sync or a Refused
abbrev pub BeginsLink : ServerFrame → List ServerFrame → Type 0
BeginsLink (Sync joined last from base) rest = Unit {0}
BeginsLink (Refused about code kept more) rest = rest ≡ []
BeginsLink frame rest = ⊥

pub begins_link : (log : List Entry) (given : List (Option ClientFrame)) (frame : ServerFrame) (rest : List ServerFrame) → Served log given (frame ∷ rest) → BeginsLink frame rest
begins_link log given (Sync joined last from base) rest served = tt
begins_link log given (Refused about code kept more) rest served = served
begins_link log given (Recv entry) rest served = absurd served
begins_link log given (Tick time) rest served = absurd served
begins_link log given (Done number seq time) rest served = absurd served
begins_link log given (Snapped time) rest served = absurd served
begins_link log given Alive rest served = absurd served

-- ---- the first frame that was given

read_alike : (x : Option ClientFrame) (one other : List ℕ) → one ≡ other → whole client_at one ≡ x → whole client_at other ≡ x
read_alike x one other same is = subst (λ (b : List ℕ). whole client_at b ≡ x) same is

no_alive : (session : SessionId) (view : ℕ) (want : Want) (bytes : List ℕ) → bytes ≡ client_spelling client.Alive → whole client_at bytes ≡ Some (client.Join session view want) → ⊥
no_alive session view want bytes is read = let alive : Some client.Alive ≡ Some (client.Join session view want) = sym alive_is_read ∙ read_alike (Some (client.Join session view want)) bytes (client_spelling client.Alive) is read in absurd cc

first_of : (x y : Option ClientFrame) (xs ys : List (Option ClientFrame)) → x ∷ xs ≡ y ∷ ys → x ≡ y
first_of x y xs ys is = cc

-- a Join that was heard first was sent first
pub first_sent : (session : SessionId) (view : ℕ) (want : Want) (more others : List (Option ClientFrame)) (first : Option ClientFrame) (given sent : List (List ℕ)) → ComesFrom given sent
    → map (whole client_at) given ≡ Some (client.Join session view want) ∷ more → map (whole client_at) sent ≡ first ∷ others → first ≡ Some (client.Join session view want)
first_sent session view want more others first [] sent comes is sent_is = absurd cc
first_sent session view want more others first (bytes ∷ given) [] comes is sent_is = absurd cc
first_sent session view want more others first (bytes ∷ given) (one ∷ sent) (inl alive) is sent_is =
    absurd (no_alive session view want bytes alive.0 (first_of (whole client_at bytes) (Some (client.Join session view want)) (map (whole client_at) given) more is))
first_sent session view want more others first (bytes ∷ given) (one ∷ sent) (inr same) is sent_is =
    sym (first_of (whole client_at one) first (map (whole client_at) sent) others sent_is)
    ∙ read_alike (Some (client.Join session view want)) bytes one same.0 (first_of (whole client_at bytes) (Some (client.Join session view want)) (map (whole client_at) given) more is)

-- ---- one frame more

pub place_last : (place : Place) (frames : List ServerFrame) (frame : ServerFrame) → place_after_all place (frames ++ frame ∷ []) ≡ place_after (place_after_all place frames) frame
place_last place [] frame = refl
place_last place (first ∷ frames) frame = place_last (place_after place first) frames frame

pub comes_last : (log : List Entry) (place : Place) (frames : List ServerFrame) (frame : ServerFrame) → Streams log place (frames ++ frame ∷ []) → ComesAt log (place_after_all place frames) frame
comes_last log place [] frame streams = streams.0
comes_last log place (first ∷ frames) frame streams = comes_last log (place_after place first) frames frame streams.1

pub all_last : {X : Type 0} (P : X → Type 0) (xs : List X) (x : X) → AllByRecursion P xs → P x → AllByRecursion P (xs ++ x ∷ [])
all_last P [] x all last = (last, tt)
all_last P (first ∷ xs) x all last = (all.0, all_last P xs x all.1 last)

-- the events that a frame answers are added
pub dones-append : (frames more : List ServerFrame) → dones (frames ++ more) ≡ dones frames + dones more
dones-append [] more = omega arith
dones-append (Done number seq time ∷ frames) more = let rest = dones-append frames more in omega (arith, rest)
dones-append (Sync joined last from base ∷ frames) more = dones-append frames more
dones-append (Recv entry ∷ frames) more = dones-append frames more
dones-append (Tick time ∷ frames) more = dones-append frames more
dones-append (Snapped time ∷ frames) more = dones-append frames more
dones-append (Refused about code kept rest ∷ frames) more = dones-append frames more
dones-append (Alive ∷ frames) more = dones-append frames more
