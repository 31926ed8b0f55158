-- What a connection was served stays so where the end of it was not sent, and where more frames were heard.
use Rattle.std.proofs.Common.{◌≡◌, inl, inr, ℕ, List, [], ◌∷◌, ◌++◌, Option, Some, None, refl, subst}
use Rattle.tea_base.specs.declared.entry.Entry.{Entry}
use Rattle.wire_frames.specs.Served.{AnswersInOrder, Place, Served, ServedFrom, answers_of}
use Rattle.wire_frames.specs.declared.frame.ClientFrame.{ClientFrame}
use Rattle.wire_frames.specs.declared.frame.ClientFrame.TheVariants as client
use Rattle.wire_frames.specs.declared.frame.ServerFrame.{ServerFrame}
use Rattle.wire_frames.specs.declared.frame.ServerFrame.TheVariants.{Sync, Recv, Tick, Done, Snapped, Refused, Alive}
use Rattle.wire_frames.proofs.Streams.{Streams-front}
use Rattle.system_plain.proofs.Lines.{answers_of-append, in_order_more}

in_order_front : (log : List Entry) (view : ℕ) (given : List (Option ClientFrame)) (front rest : List ServerFrame) → AnswersInOrder log view given (front ++ rest) → AnswersInOrder log view given front
in_order_front log view given [] rest are = tt
in_order_front log view [] (answer ∷ front) rest are = absurd are
in_order_front log view (frame ∷ given) (answer ∷ front) rest are = elim are [
  | inl answered ↦ inl (answered.0, in_order_front log view given front rest answered.1)
  | inr skipped ↦ inr (skipped.0, in_order_front log view given (answer ∷ front) rest skipped.1)
]

from_front : (log : List Entry) (view : ℕ) (place : Place) (given unheard : List (Option ClientFrame)) (front rest : List ServerFrame) → ServedFrom log view place given (front ++ rest) → ServedFrom log view place (given ++ unheard) front
from_front log view place given unheard front rest served = record {
  streams = Streams-front log place front rest served.streams;
  answers =
      in_order_more log view given unheard (answers_of front)
      (in_order_front log view given (answers_of front) (answers_of rest) (subst (AnswersInOrder log view given) (answers_of-append front rest) served.answers));
}

front_none : (front rest : List ServerFrame) → front ++ rest ≡ [] → front ≡ []
front_none [] rest is = refl
front_none (frame ∷ front) rest is = absurd (cc (is))

pub served_front : (log : List Entry) (given unheard : List (Option ClientFrame)) (front rest : List ServerFrame) → Served log given (front ++ rest) → Served log (given ++ unheard) front
served_front log given unheard [] rest served = tt
served_front log given unheard (Refused about code kept more ∷ front) rest served = front_none front rest served
served_front log (Some (client.Join session view want) ∷ given) unheard (Sync joined last from base ∷ front) rest served =
    (served.0, served.1, from_front log view (record { seen = from; least = served.0 }) given unheard front rest served.2)
served_front log [] unheard (Sync joined last from base ∷ front) rest served = absurd served
served_front log (None ∷ given) unheard (Sync joined last from base ∷ front) rest served = absurd served
served_front log (Some (client.Send number payload) ∷ given) unheard (Sync joined last from base ∷ front) rest served = absurd served
served_front log (Some (client.Snap time bytes) ∷ given) unheard (Sync joined last from base ∷ front) rest served = absurd served
served_front log (Some client.Leave ∷ given) unheard (Sync joined last from base ∷ front) rest served = absurd served
served_front log (Some client.Alive ∷ given) unheard (Sync joined last from base ∷ front) rest served = absurd served
served_front log given unheard (Recv entry ∷ front) rest served = absurd served
served_front log given unheard (Tick time ∷ front) rest served = absurd served
served_front log given unheard (Done number seq time ∷ front) rest served = absurd served
served_front log given unheard (Snapped time ∷ front) rest served = absurd served
served_front log given unheard (Alive ∷ front) rest served = absurd served
