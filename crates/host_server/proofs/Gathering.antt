-- Passes that are merged into the lead pass of their session, one that has served a link or one that has not.
use Rattle.std.proofs.Common.{◌≡◌, ℕ, ◌+◌, Bool, true, false, if◌then◌else◌, List, [], ◌∷◌, refl, sym, ap, ◌∙◌, subst, inl, inr, arith, eqb}
use Rattle.std.specs.List.{AllByRecursion}
use Rattle.std.proofs.lemmas.Bool.{eqb-true}
use Rattle.tea_base.specs.declared.entry.SessionId.{SessionId}
use Rattle.run_steps.specs.Outside.{LinksTell}
use Rattle.reflector_core.specs.PlainSession.{PlainSession}
use Rattle.session_lock.specs.History.{Saw, has, calls_of}
use Rattle.session_lock.specs.Numbers.{times}
use Rattle.session_lock.specs.Passes.{PassState, caller, numbers_held}
use Rattle.session_lock.proofs.Histories.{only_caller, saw_trans}
use Rattle.session_lock.proofs.Ranges.{times_append}
use Rattle.reflect_server.specs.Connections.{ServedConnection, HasTalk, callers_of}
use Rattle.reflect_server.specs.Passes.{Gathers, HasCalledAs, IsFresh, Keeps}
use Rattle.reflect_server.proofs.PassLaws.{called_alone, called_merged, fresh_before, has_some, keeps_caller, not_behind, not_first, not_second, one_caller, or_both, saw_one, times_behind, times_first}
use Rattle.reflect_server.proofs.TalkLaws.{talk_stays, talks_stay}
use Rattle.host_server.specs.Rounds.{HasServedBy, IsUsed}
use Rattle.host_server.specs.Rows.{TakesIn}

fresh_called : (lead p : PassState) → IsFresh lead p → HasCalledAs [] p
fresh_called lead p fresh n own other =
    subst (λ (m : ℕ). calls_of (m ∷ []) p.seen ≡ []) (sym (only_caller n (caller p) (sym (ap (has n) fresh.one) ∙ own))) fresh.calls

-- none of these callers had made a call in what was seen, nor this one
new_more : (before : PassState) (one n : ℕ) (callers : List ℕ) → ((m : ℕ) → has m callers ≡ true → calls_of (m ∷ []) before.seen ≡ []) → calls_of (one ∷ []) before.seen ≡ []
    → has n (one ∷ callers) ≡ true → calls_of (n ∷ []) before.seen ≡ []
new_more before one n callers others mine own =
    elim (or_both (eqb n one) (has n callers) own) [
      | inl is ↦ subst (λ (m : ℕ). calls_of (m ∷ []) before.seen ≡ []) (sym (eqb-true n one is)) mine
      | inr is ↦ others n is
    ]

-- no link was served
pub gathers_none : (gives : ℕ → Type 0) (id : SessionId) {L : Type 0} (links : LinksTell L) (before now : PassState) (count : ℕ) → Keeps before now → numbers_held now ≡ numbers_held before + count → Gathers gives id links before count [] now
gathers_none gives id links before now count keeps numbers = record {
  session = keeps.session;
  opening = keeps.opening;
  numbers = numbers;
  callers = keeps.callers;
  calls = keeps.calls;
  saw = keeps.saw;
  new = λ n own. absurd (cc (own));
  talks = tt;
}

module _ (gives : ℕ → Type 0) (id : SessionId) {L : Type 0} (links : LinksTell L) (before kept fresh pass now : PassState) (count : ℕ) (connections : List (ServedConnection L))
    (is_fresh : IsFresh before fresh) (gathers : Gathers gives id links before count connections kept) (takes : TakesIn kept pass now) where
  at_session : now.session ≡ before.session
  at_session = ap (λ (p : PassState). p.session) takes.merged.same ∙ gathers.session

  at_opening : now.opening ≡ before.opening
  at_opening = ap (λ (p : PassState). p.opening) takes.merged.same ∙ gathers.opening

  more_callers : (n : ℕ) → times n now.callers ≡ times n kept.callers + times n pass.callers
  more_callers n = ap (times n) (ap (λ (p : PassState). p.callers) takes.merged.same) ∙ times_append n kept.callers pass.callers

  saw_more : Saw (caller before ∷ []) before.seen now.seen
  saw_more =
      saw_trans (caller before ∷ []) before.seen kept.seen now.seen gathers.saw
      (saw_one kept.callers (caller before) kept.seen now.seen takes.merged.saw (keeps_caller before kept (callers_of connections) gathers.callers))

  talks_on : AllByRecursion (HasTalk gives id before.opening links now.seen) connections
  talks_on =
      talks_stay gives id before.opening links kept.callers kept.seen now.seen connections takes.merged.saw
      (λ n. let gathered = gathers.callers n in omega (arith, times_behind n (caller before) (callers_of connections), gathered)) gathers.talks

  -- it has served no link
  pub gathers_idle : pass ≡ fresh → Gathers gives id links before (count + 1) connections now
  gathers_idle same =
      let idle : IsFresh before pass = subst (IsFresh before) (sym same) is_fresh in
      record {
        session = at_session;
        opening = at_opening;
        numbers = let taken = takes.numbers in let held = idle.numbers in let gathered = gathers.numbers in omega (arith, taken, held, gathered);
        callers = λ n. let both = more_callers n in let gathered = gathers.callers n in omega (arith, both, gathered);
        calls =
            called_merged kept pass now (caller before ∷ callers_of connections) [] (caller before ∷ callers_of connections) takes.merged gathers.calls
            (fresh_called before pass idle) (λ n no. no) (λ n no. refl);
        saw = saw_more;
        new = gathers.new;
        talks = talks_on;
      }

  -- it has served this one
  pub gathers_served : (one : ServedConnection L) → HasServedBy gives id links fresh pass one → Gathers gives id links before (count + 1) (one ∷ connections) now
  gathers_served one served =
      let alone : pass.callers ≡ one.caller ∷ [] =
      one_caller pass (caller fresh) (ap (λ (p : PassState). p.callers) served.kept ∙ is_fresh.one) ∙ ap (λ (n : ℕ). n ∷ []) (sym served.mine) in
      let mine : one.caller ≡ caller fresh = served.mine ∙ ap caller served.kept in
      let held : numbers_held pass ≡ 1 = ap numbers_held served.kept ∙ is_fresh.numbers in
      record {
        session = at_session;
        opening = at_opening;
        numbers = let taken = takes.numbers in let gathered = gathers.numbers in omega (arith, taken, held, gathered);
        callers = λ n.
            let both = more_callers n in
            let own : times n pass.callers ≡ times n (one.caller ∷ []) = ap (times n) alone in
            let gathered = gathers.callers n in
            omega (arith, both, own, gathered);
        calls =
            called_merged kept pass now (caller before ∷ callers_of connections) (one.caller ∷ []) (caller before ∷ one.caller ∷ callers_of connections) takes.merged gathers.calls
            (called_alone pass one.caller alone)
            (λ n other. not_second n (caller before) one.caller (callers_of connections) other)
            (λ n other. not_first n one.caller (callers_of connections) (not_behind n (caller before) (one.caller ∷ callers_of connections) other));
        saw = saw_more;
        new = λ n own. new_more before one.caller n (callers_of connections) gathers.new
            (subst (λ (m : ℕ). calls_of (m ∷ []) before.seen ≡ []) (sym mine) (fresh_before before fresh is_fresh)) own;
        talks = (
          talk_stays gives id before.opening links pass.callers pass.seen now.seen one takes.merged.saw_other
              (ap (has one.caller) alone ∙ has_some one.caller (one.caller ∷ []) (times_first one.caller []))
              (subst (λ (o : PlainSession). HasTalk gives id o links pass.seen one) is_fresh.opening served.talk),
          talks_on,
        );
      }

  pub gathers_either : (one : ServedConnection L) (b : Bool) → IsUsed gives id links b one fresh pass
      → Gathers gives id links before (count + 1) (if b then one ∷ connections else connections) now
  gathers_either one true served = gathers_served one served
  gathers_either one false same = gathers_idle same
