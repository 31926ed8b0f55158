-- What is made before a net is asked, and what is left in the end.
use Rattle.std.specs.Prelude.{◌≡◌, ℕ, ◌≤◌, Bool, List, [], All, length, map, vec_len, vec_capacity}
use Rattle.tea_base.specs.declared.entry.SessionId.{SessionId}
use Rattle.tea_io.specs.declared.net.NetFault.{NetFault}
use Rattle.tea_io.specs.declared.net.NetFault.TheVariants as fault
use Rattle.reflector_core.specs.Play.{TellsItsEvents, first_session, replies_from}
use Rattle.reflector_core.specs.SessionState.{SessionState}
use Rattle.session_lock.specs.History.{IsSoundThrough, history_requests, play_from}
use Rattle.session_lock.specs.Passes.{HoldsEach, PassState, first_pass, own_calls}
use Rattle.reflect_server.specs.declared.accepting.ServedLink.{ServedLink}
use Rattle.reflect_server.specs.declared.reflection.ServeFault.{ServeFault}
use Rattle.reflect_server.specs.declared.reflection.ServeFault.TheVariants.{ListenFault, WantOfMemory}
use Rattle.host_server.specs.Claiming.{IsBegunClaim}
use Rattle.host_server.specs.Rounds.{bare}
use Rattle.host_server.specs.Rows.{AtEach, HasGiven, IsFreshRow, rooms_for}
use Rattle.host_server.specs.declared.rooms.Room.{Room}
use Rattle.host_server.specs.declared.running.Prepared.{Prepared}
use Rattle.host_server.specs.declared.serving.RoomedLink.{RoomedLink}

-- a new session, with its first pass
pub record IsNew {K : Type 0} (room : Room K) (lead : PassState) : Type 0 where
  pub begins : lead ≡ first_pass room.shared.session first_session

pub record AreOpened {K : Type 0} (many : ℕ) (rooms : List (Room K)) (leads : List PassState) : Type 0 where
  pub count : length rooms ≡ many
  pub passes : AtEach IsNew rooms leads

-- its first pass, but for the numbers that were given to others
pub record IsBegun {K : Type 0} (count : ℕ) (room : Room K) (lead : PassState) : Type 0 where
  pub given : HasGiven count (first_pass room.shared.session first_session) lead

pub record IsPrepared {L : Type 0} (listed : List SessionId) (on_demand : Bool) (connections : ℕ)
    (prepared : Prepared L) : Type 0 where
  pub rooms : length prepared.rooms.items ≡ rooms_for on_demand listed
  pub leads : AtEach (IsBegun connections) prepared.rooms.items prepared.lead.seats.items
  pub claims : prepared.claims.listed ≡ listed
  pub claim : IsBegunClaim connections prepared.claims prepared.lead.claim
  pub rows : All (IsFreshRow prepared.lead) prepared.rows.items
  pub count : vec_len prepared.rows ≡ connections
  pub none_served : prepared.served.items ≡ []
  pub room_for_links : connections ≤ vec_capacity prepared.served
  pub none_ended : prepared.ends.items ≡ []
  pub room_for_ends : connections ≤ vec_capacity prepared.ends
  pub none_closed : prepared.sessions.items ≡ []
  pub room_for_sessions : length prepared.rooms.items ≤ vec_capacity prepared.sessions

abbrev pub bare_all : {L : Type 0} → List (RoomedLink L) → List (ServedLink L)
bare_all served = map bare served

-- a session was closed with this pass, which had all numbers
pub record IsClosedWith (lead : PassState) (session : SessionState) : Type 0 where
  pub play : session.plain ≡ play_from lead.opening lead.seen
  pub calls : own_calls lead ≡ lead.seen
  pub numbers : HoldsEach lead
  pub sound : IsSoundThrough lead.opening lead.seen
  pub events : TellsItsEvents lead.opening.log (history_requests lead.seen)
      (replies_from lead.opening (history_requests lead.seen)) session.plain.log

-- each session was closed with its pass
abbrev pub AreClosed : List PassState → List SessionState → Type 0
AreClosed leads sessions = AtEach IsClosedWith leads sessions

-- by why the net did not listen
abbrev pub unheard : NetFault → ServeFault
unheard fault.Failed = ListenFault
unheard fault.WantOfMemory = WantOfMemory
