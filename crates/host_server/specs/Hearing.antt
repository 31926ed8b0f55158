-- What is heard of a link before its first frame.
use Rattle.std.specs.Prelude.{◌≡◌, ℕ, ◌<◌, List, [], ◌∷◌, replicate, None}
use Rattle.tea_base.specs.declared.entry.SessionId.{SessionId}
use Rattle.tea_io.specs.Told.{with_more}
use Rattle.tea_io.specs.Links.{NoneFalls, most_quiets}
use Rattle.tea_io.specs.declared.link.Heard.{Heard}
use Rattle.tea_io.specs.declared.link.Heard.TheVariants.{Frame, Quiet}
use Rattle.reflector_core.specs.Play.{first_session}
use Rattle.connection.specs.declared.ending.Ended.{Ended}
use Rattle.connection.specs.Causes.{IsCauseCounted, RoseBy}
use Rattle.connection.specs.Talk.{LinkAccount, Talk}
use Rattle.host_server.specs.Routing.{first_frame}

-- the link was quiet so many times
pub record IsQuiet (quiets : ℕ) (old new : LinkAccount) : Type 0 where
  pub heard : new.heard ≡ with_more old.heard (replicate quiets Quiet)
  pub sent : new.sent ≡ old.sent
  pub later : NoneFalls old.counts new.counts
  pub counted : RoseBy quiets old.counts.quiets new.counts.quiets

-- it was quiet for a while, and then gave its first frame
pub record GivesFirst (old new : LinkAccount) (first : List ℕ) : Type 0 where
  pub quiets : ℕ
  pub few : quiets < most_quiets
  pub heard : new.heard ≡ with_more (with_more old.heard (replicate quiets Quiet)) (Frame first ∷ [])
  pub sent : new.sent ≡ old.sent
  pub later : NoneFalls old.counts new.counts

-- no clock was asked
abbrev pub untimed : ℕ → Type 0
untimed time = ⊥

-- it ended without a frame: a talk in which nobody was asked anything, and nothing was sent
pub record GivesNone (old new : LinkAccount) (how : Ended) : Type 0 where
  pub heard : List Heard
  pub tells_heard : new.heard ≡ with_more old.heard heard
  pub sent : new.sent ≡ old.sent
  pub frameless : first_frame heard ≡ None
  pub talk : (id : SessionId) → Talk untimed id first_session [] 0 heard [] how
  pub cause : IsCauseCounted old.counts new.counts how
