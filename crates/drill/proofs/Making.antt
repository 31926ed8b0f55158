-- How the workers of a drill are made, each with a pass of its own.
use Rattle.std.proofs.Common.{◌≡◌, ℕ, zero, suc, ◌+◌, ◌*◌, ◌-◌, ◌≤◌, ◌<◌, Bool, true, false, leb, List, [], ◌∷◌, ◌++◌, if◌then◌else◌, length, refl, sym, ap, ◌∙◌, subst, arith}
use Rattle.std.specs.List.{AllByRecursion}
use Rattle.std.specs.Arc.{arc_value}
use Rattle.saved_value.specs.Saving.{CanBeSaved}
use Rattle.std.proofs.lemmas.Bool.{le-leb}
use Rattle.std.proofs.lemmas.List.{map-append}
use Rattle.std.specs.Str.{chars}
use Rattle.model_solved.specs.Founding.{CheckedView, founding_of}
use Rattle.reflector_core.specs.Play.{first_session}
use Rattle.reflector_core.proofs.SoundLaws.{IsSoundSession-first}
use Rattle.session_lock.specs.declared.knowledge.Item.{Item}
use Rattle.session_lock.specs.declared.knowledge.Range.{Range}
use Rattle.session_lock.specs.History.{IsSoundThrough, play}
use Rattle.session_lock.specs.Numbers.{drop_numbers, first_of_ranges, take_numbers}
use Rattle.session_lock.specs.Passes.{Given, PassState, SharedState, numbers_held}
use Rattle.replica.specs.View.{ReplicaView, founded_replica}
use Rattle.run_steps.specs.Limits.{most_drill_views}
use Rattle.drill.specs.declared.drilling.DrillSession.{DrillSession}
use Rattle.drill.specs.declared.finished.Finished.{Finished}
use Rattle.drill.specs.declared.size.Size.{Size}
use Rattle.drill.specs.declared.trust.TrustReplay.{TrustReplay}
use Rattle.drill.specs.declared.worker.Worker.{Worker}
use Rattle.drill.specs.Asking.{IsAskedInDrill}
use Rattle.drill.specs.Drilled.{sources_per_seed}
use Rattle.drill.specs.Drilling.{IsDrillSession, keeper_after, numbers_from, views_of, views_of_workers}
use Rattle.drill.specs.Program.{IsDrillProgram, drill_name, drill_text}
use Rattle.drill.specs.Sizes.{IsOfSize}
use Rattle.drill.specs.Workers.{IsFirst, IsTrustedReplay, IsWorker}

-- ---- numbers

numbers_last : (first count : ℕ) → numbers_from first (suc count) ≡ numbers_from first count ++ (first + count) ∷ []
numbers_last first zero = ap (λ (n : ℕ). n ∷ []) (omega arith)
numbers_last first (suc count) =
    ap (λ (ns : List ℕ). first ∷ ns) (numbers_last (first + 1) count ∙ ap (λ (n : ℕ). numbers_from (first + 1) count ++ n ∷ []) (omega arith))

pub numbers_push : (first count : ℕ) → numbers_from first (count + 1) ≡ numbers_from first count ++ (first + count) ∷ []
numbers_push first count = let same : count + 1 ≡ suc count = omega arith in ap (numbers_from first) same ∙ numbers_last first count

-- one more worker, of the next view
pub one_more_view : (workers new : List Worker) (w : Worker) (made : ℕ) → new ≡ workers ++ w ∷ [] → w.view ≡ made + 1 → views_of_workers workers ≡ numbers_from 1 made
    → views_of_workers new ≡ numbers_from 1 (made + 1)
one_more_view workers new w made is view before =
    ap views_of_workers is ∙ map-append (λ (u : Worker). u.view) workers (w ∷ [])
    ∙ ap (λ (ns : List ℕ). ns ++ w.view ∷ []) before
    ∙ ap (λ (n : ℕ). numbers_from 1 made ++ n ∷ []) (view ∙ omega arith)
    ∙ sym (numbers_push 1 made)

-- ---- passes

cut_first : (b : Bool) (r : Range) (rest : List Range) → b ≡ true → (if b then record { first = r.first + 1; count = r.count - 1 } ∷ [] else rest) ≡ record { first = r.first + 1; count = r.count - 1 } ∷ []
cut_first true r rest is = refl
cut_first false r rest is = absurd (cc is)

taken_first : (b : Bool) (r : Range) (rest : List Range) → b ≡ true → first_of_ranges (if b then record { first = r.first; count = 1 } ∷ [] else rest) ≡ r.first
taken_first true r rest is = refl
taken_first false r rest is = absurd (cc is)

some_left : (made : ℕ) → made < 4294967295 → leb 1 (4294967295 - made) ≡ true
some_left made few = le-leb 1 (4294967295 - made) (omega (arith, few))

range_after : (first count next left : ℕ) → first ≡ next → count ≡ left → ◌≡◌ {A = List Range} (record { first = first; count = count } ∷ []) (record { first = next; count = left } ∷ [])
range_after first count next left same_first same_count =
    ap (λ (n : ℕ). record { first = n; count = count } ∷ []) same_first ∙ ap (λ (n : ℕ). record { first = next; count = n } ∷ []) same_count

drop_first : (shared : SharedState TrustReplay) (made : ℕ) → made < 4294967295 → drop_numbers 1 (keeper_after shared made).spare ≡ (keeper_after shared (made + 1)).spare
drop_first shared made few =
    cut_first (leb 1 (4294967295 - made)) (record { first = made + 1; count = 4294967295 - made }) _ (some_left made few)
    ∙ range_after (made + 1 + 1) (4294967295 - made - 1) (made + 1 + 1) (4294967295 - (made + 1)) refl (omega (arith, few))

-- the first of the spare numbers is the next view's
first_spare : (shared : SharedState TrustReplay) (made : ℕ) → made < 4294967295 → first_of_ranges (take_numbers 1 (keeper_after shared made).spare) ≡ made + 1
first_spare shared made few = taken_first (leb 1 (4294967295 - made)) (record { first = made + 1; count = 4294967295 - made }) _ (some_left made few)

pub keeper_next : (shared : SharedState TrustReplay) (made : ℕ) (old new : PassState) → made < 4294967295 → old ≡ keeper_after shared made
    → new ≡ record old { spare = drop_numbers 1 old.spare } → new ≡ keeper_after shared (made + 1)
keeper_next shared made old new few is cut =
    cut ∙ ap (λ (p : PassState). record p { spare = drop_numbers 1 p.spare }) is
    ∙ ap (λ (spare : List Range). record (keeper_after shared made) { spare = spare }) (drop_first shared made few)

-- ---- a worker

-- how one more worker is made
pub record IsMade (size : Size) (prepared : DrillSession) (made : ℕ) (keeper : PassState) (w : Worker) : Type 0 where
  pub prepares : IsDrillSession prepared
  pub fits : IsOfSize size
  pub kept : keeper ≡ keeper_after prepared.shared made
  pub next : made < size.views
  pub pass : Given keeper 1 w.pass
  pub numbers : numbers_held w.pass ≡ 1
  pub view : w.view ≡ made + 1
  pub replica : w.replica ≡ founded_replica (arc_value prepared.program) prepared.id.0 (made + 1)
  pub source : w.source ≡ size.seed * sources_per_seed + made

module _ (gives : ℕ → Type 0) (size : Size) (prepared : DrillSession) (made : ℕ) (keeper : PassState) (w : Worker) (is : IsMade size prepared made keeper w) where
  seen_none : w.pass.seen ≡ []
  seen_none = ap (λ (p : PassState). p.seen) is.pass.same ∙ ap (λ (p : PassState). p.seen) is.kept

  own_number : w.pass.callers ≡ w.view ∷ []
  own_number =
      ap (λ (p : PassState). p.callers) is.pass.same
      ∙ ap (λ (p : PassState). first_of_ranges (take_numbers 1 p.spare) ∷ []) is.kept
      ∙ ap (λ (n : ℕ). n ∷ []) (first_spare prepared.shared made (omega (arith, is.next, is.fits.views)) ∙ sym is.view)

  is_drill : IsDrillProgram (founding_of (arc_value prepared.shared.trust.program))
  is_drill = subst (λ (p : CheckedView). IsDrillProgram (founding_of p)) (sym is.prepares.trusts) is.prepares.tree

  is_worker : IsWorker gives size prepared.shared w
  is_worker = record {
    session = ap (λ (p : PassState). p.session) is.pass.same ∙ ap (λ (p : PassState). p.session) is.kept;
    opening = ap (λ (p : PassState). p.opening) is.pass.same ∙ ap (λ (p : PassState). p.opening) is.kept;
    callers = own_number;
    numbers = is.numbers;
    named = (omega (arith, is.view), omega (arith, is.view, is.next));
    asked = subst (AllByRecursion (IsAskedInDrill gives size.views)) (sym is.pass.own) tt;
    sound = subst (IsSoundThrough first_session) (sym seen_none) IsSoundSession-first;
    trusted = subst (λ (seen : List Item). IsTrustedReplay prepared.shared (play seen)) (sym seen_none) tt;
    program = ap (λ (r : ReplicaView). r.program) is.replica ∙ sym is.prepares.trusts;
    id = ap (λ (r : ReplicaView). r.id) is.replica ∙ ap (λ i. i.0) (sym is.prepares.same_id);
    view = ap (λ (r : ReplicaView). r.plain.view) is.replica ∙ sym is.view;
    tree = record {
      program = (drill_text, is_drill.0);
      persisted = subst CanBeSaved (sym is_drill.1) ((omega arith, omega arith), refl);
    };
  }

  pub is_first : IsFirst gives size prepared.shared w
  is_first = record {
    worker = is_worker;
    calls = is.pass.own;
    outbox = ap (λ (r : ReplicaView). r.plain.outbox) is.replica;
    acknowledged = ap (λ (r : ReplicaView). r.plain.acknowledged) is.replica;
    source = omega (arith, is.source, is.view);
  }

-- ---- the session's id

pub name_characters : chars (100 ∷ 114 ∷ 105 ∷ 108 ∷ 108 ∷ []) ≡ drill_name
unfolding chars
name_characters = refl

-- ---- how many numbers there are

count_numbers : (first count : ℕ) → length (numbers_from first count) ≡ count
count_numbers first zero = refl
count_numbers first (suc count) = omega (arith, count_numbers (first + 1) count)

count_views : (ended : List Finished) → length (views_of ended) ≡ length ended
count_views [] = refl
count_views (one ∷ rest) = omega (arith, count_views rest)

-- with those of the views the kept pass has all
pub all_held : (shared : SharedState TrustReplay) (views held : ℕ) (ended : List Finished) (keeper : PassState) → views ≤ most_drill_views → keeper ≡ keeper_after shared views → views_of ended ≡ numbers_from 1 views
    → held ≡ numbers_held keeper + length ended → held ≡ 4294967296
all_held shared views held ended keeper few is numbered grown =
    let kept : numbers_held keeper ≡ numbers_held (keeper_after shared views) = ap numbers_held is in
    let many : length ended ≡ views = sym (count_views ended) ∙ ap length numbered ∙ count_numbers 1 views in
    omega (arith, few, grown, kept, many)
