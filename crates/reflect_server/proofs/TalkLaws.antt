-- Talks of connections, and that they stay while their history grows.
use Rattle.std.proofs.Common.{◌≡◌, ℕ, ◌≤◌, true, List, [], ◌∷◌, sym, ap, ◌∙◌, subst, arith}
use Rattle.std.specs.List.{AllByRecursion}
use Rattle.atomic_table.specs.Seated.{TableId}
use Rattle.tea_base.specs.declared.entry.SessionId.{SessionId}
use Rattle.tea_io.specs.Links.{Counts, no_counts}
use Rattle.tea_io.specs.declared.link.Heard.{Heard}
use Rattle.run_steps.specs.Outside.{LinksTell}
use Rattle.reflector_core.specs.PlainSession.{PlainSession}
use Rattle.session_lock.specs.declared.knowledge.Item.{Item}
use Rattle.session_lock.specs.History.{has, Saw}
use Rattle.session_lock.specs.Numbers.{times}
use Rattle.session_lock.specs.Passes.{PassState, caller}
use Rattle.connection.specs.Causes.{EndsExactly, IsCauseCounted}
use Rattle.connection.specs.Exchanges.{exchanges_in}
use Rattle.connection.specs.Talk.{Talk}
use Rattle.connection.proofs.Callers.{exchanges_same}
use Rattle.connection.proofs.Talking.{talk_grows}
use Rattle.reflect_server.specs.declared.accepting.ServedLink.{ServedLink}
use Rattle.reflect_server.specs.Connections.{ServedConnection, HasTalk, callers_of}
use Rattle.reflect_server.specs.Rounds.{Serves}
use Rattle.reflect_server.proofs.PassLaws.{has_some, none_behind_seen, times_behind, times_first}

-- ---- talks

module _ (gives : ℕ → Type 0) (id : SessionId) (opening : PlainSession) {L : Type 0} (links : LinksTell L) where
  -- a talk stays where only others call
  pub talk_stays : (callers : List ℕ) (seen history : List Item) (one : ServedConnection L) → Saw callers seen history → has one.caller callers ≡ true
      → HasTalk gives id opening links seen one → HasTalk gives id opening links history one
  talk_stays callers seen history one saw own talk =
      let none = none_behind_seen callers seen history one.caller saw own in
      subst (λ (h : List Item). HasTalk gives id opening links h one) saw.1 (record {
        talk = talk_grows gives id opening seen saw.0 one.caller one.heard one.sent one.ended none talk.talk;
        heard = talk.heard;
        sent = talk.sent;
        exactly = subst (EndsExactly one.ended) (sym (exchanges_same opening seen saw.0 one.caller none)) talk.exactly;
        new = talk.new;
        cause = talk.cause;
      })

  -- so do all
  pub talks_stay : (callers : List ℕ) (seen history : List Item) (connections : List (ServedConnection L)) → Saw callers seen history
      → ((n : ℕ) → times n (callers_of connections) ≤ times n callers)
      → AllByRecursion (HasTalk gives id opening links seen) connections → AllByRecursion (HasTalk gives id opening links history) connections
  talks_stay callers seen history [] saw own talks = tt
  talks_stay callers seen history (one ∷ rest) saw own talks = (
    talk_stays callers seen history one saw (has_some one.caller callers (omega (arith, times_first one.caller (callers_of rest), own one.caller))) talks.0,
    talks_stay callers seen history rest saw (λ n. omega (arith, times_behind n one.caller (callers_of rest), own n)) talks.1,
  )

  -- what a fresh pass has served
  abbrev pub connection_of : (link : L) (pass : PassState) (one : ServedLink L) → List Heard → List (List ℕ) → ServedConnection L
  connection_of link pass one heard sent =
      record { accepted = link; returned = one.link; caller = caller pass; heard = heard; sent = sent; ended = one.ended }

  pub served_talks : (before : PassState) (link : L) (pass : PassState) (one : ServedLink L) → before.opening ≡ opening → links.counts link ≡ no_counts
      → (served : Serves gives id links before link pass one)
      → HasTalk gives id opening links pass.seen (connection_of link pass one served.talk.heard served.talk.sent)
  served_talks before link pass one opens new served =
      let opened : pass.opening ≡ opening = ap (λ (p : PassState). p.opening) served.kept ∙ opens in
      record {
        talk = subst (λ (o : PlainSession). Talk gives id o pass.seen (caller pass) served.talk.heard served.talk.sent one.ended) opened served.talk.talk;
        heard = served.talk.tells_heard;
        sent = served.talk.tells_sent;
        exactly = subst (λ (o : PlainSession). EndsExactly one.ended (exchanges_in o pass.seen (caller pass))) opened served.exactly;
        new = new;
        cause = subst (λ (counts : Counts). IsCauseCounted counts (links.counts one.link) one.ended) new served.cause;
      }

pub served_at : {L : Type 0} (gives : ℕ → Type 0) (id : SessionId) (links : LinksTell L) (table : TableId) (fresh pass : PassState) (link : L) (one : ServedLink L) → fresh.session ≡ table → Serves gives id links fresh link pass one → pass.session ≡ table
served_at gives id links table fresh pass link one at served = ap (λ (p : PassState). p.session) served.kept ∙ at
