-- The runs of which the answers of `reflect` tell.
use Rattle.std.proofs.Common.{inl, inr, ℕ, List, [], ◌∷◌, ◌++◌, Option, Some, None, Result, Ok, Err, refl, sym, subst}
use Rattle.std.specs.List.{AllByRecursion}
use Rattle.tea_base.specs.declared.entry.SessionId.{SessionId}
use Rattle.tea_io.specs.declared.net.NetCall.{NetCall}
use Rattle.reflector_core.specs.PlainSession.{PlainSession}
use Rattle.reflector_core.specs.declared.request.Request.TheVariants.{Leave}
use Rattle.session_lock.specs.declared.knowledge.Item.{Item}
use Rattle.session_lock.specs.declared.knowledge.Item.TheVariants.{Did, Unkept, Void}
use Rattle.session_lock.specs.History.{play_from}
use Rattle.reflect_server.specs.declared.reflection.KeptFault.{KeptFault}
use Rattle.reflect_server.specs.declared.reflection.KeptFault.TheVariants as kept_fault
use Rattle.reflect_server.specs.declared.reflection.Reflected.{Reflected}
use Rattle.reflect_server.specs.declared.reflection.ServeFault.TheVariants.{ListenFault, WantOfMemory}
use Rattle.reflect_server.specs.Keeping.{HasNotOpened, HasOnlyOpened, HasOpenedAtMost, KeeperTells, no_keeper}
use Rattle.reflect_server.specs.Opening.{AreLeavesOf, IsLeaveOf, gives_later}
use Rattle.reflect_server.specs.Reflects.{HasReflected, HasWanted, ReflectsKept, ReturnsLinks}
use Rattle.reflect_server.specs.Rounds.{TakesAll}
use Rattle.connection.proofs.Talking.{with_more_none}
use Rattle.run_steps.specs.Outside.{LinksTell, NetTells}
use Rattle.view_follows.specs.AnyEnds.{IsLeaveOrMiss}
use Rattle.view_follows.specs.Journals.{AnswersTellOfRuns, TellsOfRun}
use Rattle.view_follows.specs.Sessions.{ReflectorRun}

-- ---- opening Leaves

leave_is : (gives : ℕ → Type 0) (opener : ℕ) (one : ℕ × ℕ) (item : Item) → IsLeaveOf gives opener one item → IsLeaveOrMiss item
leave_is gives opener one (Did who (Leave view joined now)) is = tt
leave_is gives opener one (Void who) is = tt
leave_is gives opener one item is = absurd is

leaves_are : (gives : ℕ → Type 0) (opener : ℕ) (views : List (ℕ × ℕ)) (items : List Item) → AreLeavesOf gives opener views items → AllByRecursion IsLeaveOrMiss items
leaves_are gives opener [] [] are = tt
leaves_are gives opener (one ∷ views) (item ∷ items) are = (leave_is gives opener one item are.0, leaves_are gives opener views items are.1)
leaves_are gives opener [] (item ∷ items) are = absurd are
leaves_are gives opener (one ∷ views) [] are = absurd are

and_unkept : (opener : ℕ) (items : List Item) → AllByRecursion IsLeaveOrMiss items → AllByRecursion IsLeaveOrMiss (items ++ Unkept opener ∷ [])
and_unkept opener [] are = (tt, tt)
and_unkept opener (item ∷ items) are = (are.0, and_unkept opener items are.1)

stays_told : {A : Type 0} (told : Option (List A)) → TakesAll told told []
stays_told None = refl
stays_told (Some told) = (told, refl, refl)

module _ {C N L : Type 0} (gives : C → ℕ → Type 0) (tells : NetTells N L) (links : LinksTell L) (id : SessionId) (clock : C) (opening : PlainSession) (kept : KeeperTells) where
  abbrev Tells : N → N → Result Reflected KeptFault → Type 0
  Tells before now answer = TellsOfRun gives id clock opening kept tells links before now answer

  abbrev gives_in : ℕ → Type 0
  gives_in = gives_later (gives clock) opening.horizon

  -- ---- without links

  record Opens : Type 0 where
    history : List Item
    leaves : AllByRecursion IsLeaveOrMiss history
    keeps : kept.keeps history

  opens_only : HasOnlyOpened gives_in opening kept → Opens
  opens_only opened = record { history = opened.history; leaves = leaves_are gives_in opened.opener opened.views opened.history opened.made; keeps = opened.keeps }

  opens_most : HasOpenedAtMost gives_in opening kept → Opens
  opens_most (inl none) = record { history = []; leaves = tt; keeps = none }
  opens_most (inr opened) = opens_only opened

  opens_not : HasNotOpened gives_in opening kept → Opens
  opens_not opened =
      let stops = opened.stops in
      record {
        history = opened.history;
        leaves = subst (AllByRecursion IsLeaveOrMiss) (sym stops.items_are) (and_unkept opened.opener stops.leaves (leaves_are gives_in opened.opener stops.made stops.leaves stops.each));
        keeps = opened.keeps;
      }

  abbrev only_run : Opens → ReflectorRun C L
  only_run opens = record { clock = clock; opening = opening; connections = []; history = opens.history; session = play_from opening opens.history }

  only_tells : (before now : N) (fault : KeptFault) → Opens → ReturnsLinks tells links before now [] → Tells before now (Err fault)
  only_tells before now fault opens net = record {
    run = only_run opens;
    its_clock = refl;
    begins = refl;
    ran = record { did = inr (record { none = refl; leaves = opens.leaves }); play = refl };
    net = net;
    keeps = opens.keeps;
    comes_to = tt;
  }

  no_links : (net : N) → ReturnsLinks tells links net net []
  no_links net = record { coming = stays_told (tells.coming net); over = sym (with_more_none (tells.over net)); lent = refl; counts = refl }

  wanted_tells : (calls : List NetCall) (before now : N) → HasWanted gives_in opening kept tells links calls before now → Tells before now (Err kept_fault.WantOfMemory)
  wanted_tells calls before now wanted = only_tells before now kept_fault.WantOfMemory (opens_most wanted.opened) wanted.net

  -- ---- with links

  reflected_tells : (calls : List NetCall) (count : ℕ) (before now : N) (reflected : Reflected) → HasReflected gives_in id opening kept tells links calls count before now reflected → Tells before now (Ok reflected)
  reflected_tells calls count before now reflected has = record {
    run = record { clock = clock; opening = opening; connections = has.connections; history = has.history; session = reflected.session.plain };
    its_clock = refl;
    begins = refl;
    ran = record { did = inl (record { opener = has.opener; talks = has.talks; sound = has.session.sound }); play = has.session.play };
    net = has.net;
    keeps = has.keeps;
    comes_to = refl;
  }

  pub kept_tells : (calls : List NetCall) (count : ℕ) (before now : N) (answer : Result Reflected KeptFault) → ReflectsKept gives_in id opening kept tells links calls count before now answer → Tells before now answer
  kept_tells calls count before now (Ok reflected) has = reflected_tells calls count before now reflected has
  kept_tells calls count before now (Err kept_fault.ListenFault) has = only_tells before now kept_fault.ListenFault (opens_only has.opened) has.net
  kept_tells calls count before now (Err kept_fault.WantOfMemory) has = wanted_tells calls before now has
  kept_tells calls count before now (Err kept_fault.Unkept) has =
      only_tells before now kept_fault.Unkept (opens_not has.1) (subst (λ (net : N). ReturnsLinks tells links before net []) (sym has.0) (no_links before))

pub answers_tell : {C N L : Type 0} (gives : C → ℕ → Type 0) (tells : NetTells N L) (links : LinksTell L) → AnswersTellOfRuns gives tells links
answers_tell gives tells links id clock opening calls count before now (Ok reflected) has = reflected_tells gives tells links id clock opening no_keeper calls count before now reflected has
answers_tell gives tells links id clock opening calls count before now (Err ListenFault) has = kept_tells gives tells links id clock opening no_keeper calls count before now (Err kept_fault.ListenFault) has
answers_tell gives tells links id clock opening calls count before now (Err WantOfMemory) has = wanted_tells gives tells links id clock opening no_keeper calls before now has
