-- What the passes of posts gather: callers are split off a pass and merged back into it, and in the end it is merged into the lead pass.
use Rattle.std.proofs.Common.{◌≡◌, inl, inr, ℕ, ◌+◌, ◌≤◌, Bool, true, false, ◌||◌, eqb, List, [], ◌∷◌, ◌++◌, length, append_assoc, refl, sym, ap, ◌∙◌, subst, arith}
use Rattle.std.specs.List.{AllByRecursion}
use Rattle.std.proofs.lemmas.Bool.{eqb-true}
use Rattle.std.proofs.lemmas.List.{map-append}
use Rattle.tea_base.specs.declared.entry.SessionId.{SessionId}
use Rattle.run_steps.specs.Outside.{LinksTell}
use Rattle.reflector_core.specs.PlainSession.{PlainSession}
use Rattle.session_lock.specs.declared.knowledge.Item.{Item}
use Rattle.session_lock.specs.History.{Saw, has, calls_of}
use Rattle.session_lock.specs.Numbers.{times}
use Rattle.session_lock.specs.Passes.{PassState, Merged, caller, numbers_held}
use Rattle.session_lock.proofs.Histories.{calls_append, nothing_first, only_caller, saw_own, saw_trans}
use Rattle.session_lock.proofs.Ranges.{times_append}
use Rattle.reflect_server.specs.Connections.{ServedConnection, HasTalk, callers_of}
use Rattle.reflect_server.specs.Passes.{Gathers, HasCalledAs, IsFresh}
use Rattle.reflect_server.proofs.PassLaws.{called_alone, called_merged, fresh_before, has_either, keeps_caller, not_behind, one_caller, or_first, saw_one, times_behind}
use Rattle.reflect_server.proofs.TalkLaws.{talks_stay}
use Rattle.host_server.specs.Rounds.{HasServedBy}
use Rattle.host_server.specs.Rows.{TakesIn}
use Rattle.host_posts.specs.Passes.{IsPostPass, ServesOne}
use Rattle.host_posts.specs.Posts.{post_numbers}

-- ---- lists

pub all_append : {A : Type 0} (P : A → Type 0) (xs ys : List A) → AllByRecursion P xs → AllByRecursion P ys → AllByRecursion P (xs ++ ys)
all_append P [] ys first rest = rest
all_append P (x ∷ xs) ys first rest = (first.0, all_append P xs ys first.1 rest)

neither_of : (a b : Bool) → a ≡ false → b ≡ false → (a || b) ≡ false
neither_of a b not_a not_b = ap (λ (x : Bool). x || b) not_a ∙ not_b

-- who stands in neither of two lists
not_in_first : (n : ℕ) (xs ys : List ℕ) → has n (xs ++ ys) ≡ false → has n xs ≡ false
not_in_first n [] ys not = refl
not_in_first n (x ∷ xs) ys not =
    neither_of (eqb n x) (has n xs) (or_first (eqb n x) (has n (xs ++ ys)) not) (not_in_first n xs ys (not_behind n x (xs ++ ys) not))

not_in_second : (n : ℕ) (xs ys : List ℕ) → has n (xs ++ ys) ≡ false → has n ys ≡ false
not_in_second n [] ys not = not
not_in_second n (x ∷ xs) ys not = not_in_second n xs ys (not_behind n x (xs ++ ys) not)

-- ---- what a pass has of connections, but for how many numbers it holds

pub record Collects (gives : ℕ → Type 0) (id : SessionId) {L : Type 0} (links : LinksTell L) (before : PassState) (connections : List (ServedConnection L)) (pass : PassState) : Type 0 where
  pub session : pass.session ≡ before.session
  pub opening : pass.opening ≡ before.opening
  pub callers : (n : ℕ) → times n (caller before ∷ callers_of connections) ≤ times n pass.callers
  pub calls : HasCalledAs (caller before ∷ callers_of connections) pass
  pub saw : Saw (caller before ∷ []) before.seen pass.seen
  pub new : (n : ℕ) → has n (callers_of connections) ≡ true → calls_of (n ∷ []) before.seen ≡ []
  pub talks : AllByRecursion (HasTalk gives id before.opening links pass.seen) connections

-- and what another pass adds to it
pub record Offers (gives : ℕ → Type 0) (id : SessionId) {L : Type 0} (links : LinksTell L) (before : PassState) (connections : List (ServedConnection L)) (pass : PassState) : Type 0 where
  pub callers : (n : ℕ) → times n (callers_of connections) ≤ times n pass.callers
  pub calls : HasCalledAs (callers_of connections) pass
  pub new : (n : ℕ) → has n (callers_of connections) ≡ true → calls_of (n ∷ []) before.seen ≡ []
  pub talks : AllByRecursion (HasTalk gives id before.opening links pass.seen) connections

module _ (gives : ℕ → Type 0) (id : SessionId) {L : Type 0} (links : LinksTell L) where
  append_callers : (xs ys : List (ServedConnection L)) → callers_of (xs ++ ys) ≡ callers_of xs ++ callers_of ys
  append_callers xs ys = map-append (λ (one : ServedConnection L). one.caller) xs ys

  pub collected : (before pass : PassState) (count : ℕ) (connections : List (ServedConnection L)) → Gathers gives id links before count connections pass → Collects gives id links before connections pass
  collected before pass count connections gathers = record {
    session = gathers.session;
    opening = gathers.opening;
    callers = gathers.callers;
    calls = gathers.calls;
    saw = gathers.saw;
    new = gathers.new;
    talks = gathers.talks;
  }

  pub gathered : (before pass : PassState) (count : ℕ) (connections : List (ServedConnection L)) → Collects gives id links before connections pass → numbers_held pass ≡ numbers_held before + count
      → Gathers gives id links before count connections pass
  gathered before pass count connections collects numbers = record {
    session = collects.session;
    opening = collects.opening;
    numbers = numbers;
    callers = collects.callers;
    calls = collects.calls;
    saw = collects.saw;
    new = collects.new;
    talks = collects.talks;
  }

  -- the connections of both
  pub collects_both : (before kept pass now : PassState) (first rest : List (ServedConnection L)) → Collects gives id links before first kept → Offers gives id links before rest pass → Merged kept pass now
      → Collects gives id links before (first ++ rest) now
  collects_both before kept pass now first rest collects offers merged = record {
    session = ap (λ (p : PassState). p.session) merged.same ∙ collects.session;
    opening = ap (λ (p : PassState). p.opening) merged.same ∙ collects.opening;
    callers = λ n.
        let both : times n now.callers ≡ times n kept.callers + times n pass.callers =
        ap (times n) (ap (λ (p : PassState). p.callers) merged.same) ∙ times_append n kept.callers pass.callers in
        let list : times n (callers_of (first ++ rest)) ≡ times n (callers_of first) + times n (callers_of rest) =
        ap (times n) (append_callers first rest) ∙ times_append n (callers_of first) (callers_of rest) in
        let mine = collects.callers n in
        let more = offers.callers n in
        omega (arith, both, list, mine, more);
    calls =
        called_merged kept pass now (caller before ∷ callers_of first) (callers_of rest) (caller before ∷ callers_of (first ++ rest)) merged collects.calls offers.calls
        (λ n other. not_mine n other) (λ n other. not_more n other);
    saw =
        saw_trans (caller before ∷ []) before.seen kept.seen now.seen collects.saw
        (saw_one kept.callers (caller before) kept.seen now.seen merged.saw (keeps_caller before kept (callers_of first) collects.callers));
    new = λ n own. new_of n own;
    talks =
        all_append (HasTalk gives id before.opening links now.seen) first rest
        (talks_stay gives id before.opening links kept.callers kept.seen now.seen first merged.saw
        (λ n. let mine = collects.callers n in omega (arith, times_behind n (caller before) (callers_of first), mine)) collects.talks)
        (talks_stay gives id before.opening links pass.callers pass.seen now.seen rest merged.saw_other offers.callers offers.talks);
  }
    where
      listed : (n : ℕ) → has n (caller before ∷ callers_of (first ++ rest)) ≡ false → has n (callers_of first ++ callers_of rest) ≡ false
      listed n other = ap (has n) (sym (append_callers first rest)) ∙ not_behind n (caller before) (callers_of (first ++ rest)) other

      not_mine : (n : ℕ) → has n (caller before ∷ callers_of (first ++ rest)) ≡ false → has n (caller before ∷ callers_of first) ≡ false
      not_mine n other =
          neither_of (eqb n (caller before)) (has n (callers_of first)) (or_first (eqb n (caller before)) (has n (callers_of (first ++ rest))) other)
          (not_in_first n (callers_of first) (callers_of rest) (listed n other))

      not_more : (n : ℕ) → has n (caller before ∷ callers_of (first ++ rest)) ≡ false → has n (callers_of rest) ≡ false
      not_more n other = not_in_second n (callers_of first) (callers_of rest) (listed n other)

      new_of : (n : ℕ) → has n (callers_of (first ++ rest)) ≡ true → calls_of (n ∷ []) before.seen ≡ []
      new_of n own =
          elim (has_either n (callers_of first) (callers_of rest) (sym (ap (has n) (append_callers first rest)) ∙ own)) [
            | inl is ↦ collects.new n is
            | inr is ↦ offers.new n is
          ]

  -- ---- one caller

  -- a caller's fresh pass, which has served a connection, adds this one
  pub offers_one : (before fresh pass : PassState) (one : ServedConnection L) → IsFresh before fresh → HasServedBy gives id links fresh pass one → Offers gives id links before (one ∷ []) pass
  offers_one before fresh pass one is_fresh served =
      let alone : pass.callers ≡ one.caller ∷ [] =
      one_caller pass (caller fresh) (ap (λ (p : PassState). p.callers) served.kept ∙ is_fresh.one) ∙ ap (λ (n : ℕ). n ∷ []) (sym served.mine) in
      let mine : one.caller ≡ caller fresh = served.mine ∙ ap caller served.kept in
      record {
        callers = λ n. let own : times n pass.callers ≡ times n (one.caller ∷ []) = ap (times n) alone in omega (arith, own);
        calls = called_alone pass one.caller alone;
        new = λ n own. subst (λ (m : ℕ). calls_of (m ∷ []) before.seen ≡ []) (sym (only_caller n one.caller own ∙ mine)) (fresh_before before fresh is_fresh);
        talks = (subst (λ (o : PlainSession). HasTalk gives id o links pass.seen one) is_fresh.opening served.talk, tt);
      }

  -- a pass that was split off one that has collected is fresh for the first one
  fresh_first : (before kept fresh : PassState) (connections : List (ServedConnection L)) → Collects gives id links before connections kept → IsFresh kept fresh → IsFresh before fresh
  fresh_first before kept fresh connections collects is = record {
    session = is.session ∙ collects.session;
    opening = is.opening ∙ collects.opening;
    one = is.one;
    calls = is.calls;
    numbers = is.numbers;
    rest = collects.saw.0 ++ is.rest;
    begins = sym (append_assoc before.seen collects.saw.0 is.rest) ∙ (ap (λ (l : List Item). l ++ is.rest) collects.saw.1 ∙ is.begins);
  }

  -- and the one that it was split off has collected the same
  still_collects : (before kept left : PassState) (connections : List (ServedConnection L)) → left ≡ record kept { spare = left.spare } → Collects gives id links before connections kept
      → Collects gives id links before connections left
  still_collects before kept left connections is collects =
      subst (Collects gives id links before connections) (sym is) (record {
        session = collects.session;
        opening = collects.opening;
        callers = collects.callers;
        calls = collects.calls;
        saw = collects.saw;
        new = collects.new;
        talks = collects.talks;
      })

  -- one caller more has served a connection
  pub gathers_next : (before kept now : PassState) (count : ℕ) (connections : List (ServedConnection L)) (one : ServedConnection L) → Gathers gives id links before count connections kept
      → ServesOne gives id links kept now one → Gathers gives id links before count (connections ++ one ∷ []) now
  gathers_next before kept now count connections one gathers serves =
      let collects = collected before kept count connections gathers in
      let is_fresh = fresh_first before kept serves.fresh connections collects serves.split.is_fresh in
      let held : numbers_held serves.pass ≡ 1 = ap numbers_held serves.served.kept ∙ is_fresh.numbers in
      let all = gathers.numbers in
      let less = serves.split.numbers in
      let more = serves.takes.numbers in
      gathered before now count (connections ++ one ∷ [])
      (collects_both before serves.left serves.pass now connections (one ∷ []) (still_collects before kept serves.left connections serves.split.kept collects)
      (offers_one before serves.fresh serves.pass one is_fresh serves.served) serves.takes.merged)
      (omega (arith, held, all, less, more))

  -- ---- a post

  post_called : (start done : PassState) (connections : List (ServedConnection L)) (n : ℕ) → calls_of (caller start ∷ []) start.seen ≡ [] → Collects gives id links start connections done
      → has n done.callers ≡ true → has n (callers_of connections) ≡ false → (b : Bool) → eqb n (caller start) ≡ b → calls_of (n ∷ []) done.seen ≡ []
  post_called start done connections n idle collects own other true is =
      subst (λ (m : ℕ). calls_of (m ∷ []) done.seen ≡ []) (sym (eqb-true n (caller start) is)) (saw_own (caller start ∷ []) start.seen done.seen collects.saw ∙ idle)
  post_called start done connections n idle collects own other false is =
      collects.calls n own (neither_of (eqb n (caller start)) (has n (callers_of connections)) is other)

  -- what a post's pass has collected adds to the lead pass that it was split off
  pub offers_post : (lead start done : PassState) (connections : List (ServedConnection L)) → IsPostPass lead start → Collects gives id links start connections done → Offers gives id links lead connections done
  offers_post lead start done connections post collects = record {
    callers = λ n. let had = collects.callers n in omega (arith, times_behind n (caller start) (callers_of connections), had);
    calls = λ n own other. post_called start done connections n post.calls collects own other (eqb n (caller start)) refl;
    new = λ n own.
        nothing_first (calls_of (n ∷ []) lead.seen) (calls_of (n ∷ []) post.rest)
        (sym (calls_append (n ∷ []) lead.seen post.rest) ∙ (ap (calls_of (n ∷ [])) post.begins ∙ collects.new n own));
    talks = subst (λ (o : PlainSession). AllByRecursion (HasTalk gives id o links done.seen) connections) post.opening collects.talks;
  }

  -- the pass of a post that has ended is merged into the lead pass
  pub gathers_post : (lead kept start done now : PassState) (count : ℕ) (first rest : List (ServedConnection L)) → Gathers gives id links lead count first kept → IsPostPass lead start
      → Gathers gives id links start 0 rest done → TakesIn kept done now → Gathers gives id links lead (count + post_numbers) (first ++ rest) now
  gathers_post lead kept start done now count first rest gathers post served takes =
      let had = gathers.numbers in
      let same = served.numbers in
      let one : length start.callers ≡ 1 = ap length post.one in
      let spare = post.spare in
      let more = takes.numbers in
      gathered lead now (count + post_numbers) (first ++ rest)
      (collects_both lead kept done now first rest (collected lead kept count first gathers) (offers_post lead start done rest post (collected start done 0 rest served)) takes.merged)
      (omega (arith, had, same, one, spare, more))
