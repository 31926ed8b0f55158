-- A link of which the first frame was taken, and is given once more.
use Rattle.std.specs.Prelude.{◌≡◌, ℕ, ◌-◌, List, [], ◌∷◌, length, take, Option, Some, None}
use Rattle.tea_base.specs.declared.entry.SessionId.{SessionId}
use Rattle.tea_io.specs.Told.{with_more}
use Rattle.tea_io.specs.declared.link.Heard.{Heard}
use Rattle.tea_io.specs.declared.link.Heard.TheVariants.{Frame}
use Rattle.session_lock.specs.Passes.{PassState}
use Rattle.connection.specs.declared.ending.Ended.{Ended}
use Rattle.connection.specs.Talk.{HasTalked, LinkAccount}

-- the frame that was taken, while it is still to be given, and the link
pub record PeekState (L : Type 0) : Type 0 where
  pub first : Option (List ℕ)
  pub link : L

-- the frame comes before those that the link has to come
abbrev pub first_to_come : Option (List ℕ) → Option (List (List ℕ)) → Option (List (List ℕ))
first_to_come None coming = coming
first_to_come (Some bytes) None = None
first_to_come (Some bytes) (Some frames) = Some (bytes ∷ frames)

-- what was heard: all that the link tells, but for the frame that is still to be given
abbrev pub heard_so_far : Option (List Heard) → Option (List ℕ) → Option (List Heard) → Option (List Heard)
heard_so_far before None heard = heard
heard_so_far before (Some bytes) heard = before

-- the link has told this and then the frame, and more only once the frame was given
abbrev pub IsPeeked : Option (List Heard) → List ℕ → Option (List ℕ) → Option (List Heard) → Type 0
IsPeeked before first None heard = (more : List Heard) × (heard ≡ with_more before (Frame first ∷ more))
IsPeeked before first (Some bytes) heard = (bytes ≡ first) × (heard ≡ with_more before (Frame first ∷ []))

-- what was told before the last that was told
abbrev pub but_last : Option (List Heard) → Option (List Heard)
but_last None = None
but_last (Some told) = Some (take (length told - 1) told)

-- A link was served after its first frame was taken, as if that frame were still to come: the talk is that of what it tells, without that frame.
pub record TalksAgain (gives : ℕ → Type 0) (id : SessionId) (pass : PassState) (before : Option (List Heard))
    (first : List ℕ) (old new : LinkAccount) (how : Ended) : Type 0 where
  pub left : Option (List ℕ)
  pub peeked : IsPeeked before first left new.heard
  pub talk : HasTalked gives id pass (record old { heard = before })
      (record new { heard = heard_so_far before left new.heard }) how
