-- What is reported of replicas that have the replay of one log.
use Rattle.std.proofs.Common.{◌≡◌, ◌<◌, ◌+◌, ℕ, ℤ, suc, true, cond, List, [], ◌∷◌, ◌++◌, None, Some, Ok, length, take, get_or, slice_get, refl, sym, ap, ◌∙◌, subst, arith}
use Rattle.std.specs.List.{All, AllByRecursion, AllZip, count_by, sum_by}
use Rattle.std.specs.Str.{bytes_eq}
use Rattle.std.proofs.lemmas.Slice.Eq.{bytes_eq-Decides}
use Rattle.std.proofs.lemmas.List.{take_more}
use Rattle.std.proofs.lemmas.List.Sums.{sum_by-cons}
use Rattle.std.proofs.lemmas.List.Elements.{recursion_from_All}
use Rattle.replica.specs.SessionWorlds.{Snaps}
use Rattle.model_solved.specs.Founding.{CheckedView, Founding, checked_tree, founding_of}
use Rattle.world_plain.specs.World.{WorldRecord}
use Rattle.world.specs.Worlds.{field_counts, replay}
use Rattle.snapshot_codec.specs.Answer.{IsSnapshot}
use Rattle.reflector_core.specs.PlainSession.{PlainSession}
use Rattle.reflector_core.specs.SessionState.{SessionState}
use Rattle.replica.specs.RealWorlds.{worlds}
use Rattle.replica.specs.View.{ReplicaView, world_part}
use Rattle.snapshot_codec.specs.Spelling.{world_spelling}
use Rattle.drill.specs.Ending.{HasReplay, root_total}
use Rattle.drill.specs.Reports.{IsSnapshotOf, Reports, IsWorldSnapshot}

abbrev replayed : PlainSession → CheckedView → List ℕ → WorldRecord
replayed s program id = (replay (founding_of program) id s.log s.horizon).world

-- the bytes are the snapshot of the replay, and are read as it
pub record IsSnapshotOfReplay (s : PlainSession) (program : CheckedView) (id bytes : List ℕ) : Type 0 where
  pub spelled : bytes ≡ world_spelling (replayed s program id)
  pub snapshot : IsSnapshot (field_counts (checked_tree program)) id bytes (replayed s program id)
  pub read : (worlds (founding_of program) id).unsnap bytes ≡ Some (replayed s program id)

-- a replica of the program and the session has the replay
abbrev IsReplayed : PlainSession → CheckedView → List ℕ → ReplicaView → Type 0
IsReplayed s program id r = HasReplay s (founding_of program) id r

snapshot_of_replay : (s : PlainSession) (program : CheckedView) (id : List ℕ) (r : ReplicaView) (bytes : List ℕ) → IsReplayed s program id r → IsSnapshotOf r bytes → IsSnapshotOfReplay s program id bytes
snapshot_of_replay s program id r bytes ended snaps =
    record {
      spelled = snaps.spelled ∙ ap world_spelling ended.world;
      snapshot = subst (IsSnapshot (field_counts (checked_tree program)) id bytes) ended.world
          (subst (λ i. IsSnapshot (field_counts (checked_tree program)) i bytes r.plain.world) ended.session
          (subst (λ (f : Founding). IsSnapshot (field_counts f.tree) r.id bytes r.plain.world) ended.program snaps.snapshot));
      read = ap (λ i. (worlds (founding_of program) i).unsnap bytes) (sym ended.session)
          ∙ ap (λ f. (worlds f r.id).unsnap bytes) (sym ended.program)
          ∙ snaps.read ∙ ap Some ended.world;
    }

-- so is each snapshot
snapshots_of_replay
    : (s : PlainSession) (program : CheckedView) (id : List ℕ) (replicas : List ReplicaView) (snapshots : List (List ℕ)) → AllByRecursion (IsReplayed s program id) replicas → AllZip IsSnapshotOf replicas snapshots
    → AllByRecursion (IsSnapshotOfReplay s program id) snapshots
snapshots_of_replay s program id [] [] ended snaps = tt
snapshots_of_replay s program id [] (bytes ∷ rest) ended snaps = absurd snaps
snapshots_of_replay s program id (r ∷ others) [] ended snaps = tt
snapshots_of_replay s program id (r ∷ others) (bytes ∷ rest) ended snaps =
    (snapshot_of_replay s program id r bytes ended.0 snaps.0, snapshots_of_replay s program id others rest ended.1 snaps.1)

-- there are as many as replicas
one_each : (replicas : List ReplicaView) (snapshots : List (List ℕ)) → AllZip IsSnapshotOf replicas snapshots → length snapshots ≡ length replicas
one_each [] [] snaps = refl
one_each [] (bytes ∷ rest) snaps = absurd snaps
one_each (r ∷ others) [] snaps = absurd snaps
one_each (r ∷ others) (bytes ∷ rest) snaps = ap suc (one_each others rest snaps.1)

one_more : (replicas : List ReplicaView) (snapshots : List (List ℕ)) (r : ReplicaView) (bytes : List ℕ) → AllZip IsSnapshotOf replicas snapshots → IsSnapshotOf r bytes → AllZip IsSnapshotOf (replicas ++ r ∷ []) (snapshots ++ bytes ∷ [])
one_more [] [] r bytes snaps more = (more, tt)
one_more [] (other ∷ rest) r bytes snaps more = absurd snaps
one_more (first ∷ others) [] r bytes snaps more = absurd snaps
one_more (first ∷ others) (other ∷ rest) r bytes snaps more = (snaps.0, one_more others rest r bytes snaps.1 more)

pub one_more_at : (replicas items : List ReplicaView) (snapshots new : List (List ℕ)) (i : ℕ) (r : ReplicaView) (bytes : List ℕ) → items ≡ replicas → i < length items → r ≡ get_or items i r → new ≡ snapshots ++ bytes ∷ []
    → AllZip IsSnapshotOf (take i replicas) snapshots → IsSnapshotOf r bytes → AllZip IsSnapshotOf (take (i + 1) replicas) new
one_more_at replicas items snapshots new i r bytes same below at is snaps more =
    let longer : take i replicas ++ r ∷ [] ≡ take (i + 1) replicas = ap (λ (xs : List ReplicaView). take i xs ++ r ∷ []) (sym same) ∙ ap (λ x. take i items ++ x ∷ []) at ∙ sym (take_more items i r below) ∙ ap (λ (xs : List ReplicaView). take (i + 1) xs) same in
    subst (λ xs. AllZip IsSnapshotOf xs new) longer (subst (AllZip IsSnapshotOf (take i replicas ++ r ∷ [])) (sym is) (one_more (take i replicas) snapshots r bytes snaps more))

pub is_snapshot : (r : ReplicaView) (bytes : List ℕ) → Snaps (Ok bytes) (world_part r) → IsSnapshotOf r bytes
is_snapshot r bytes snaps = record { spelled = snaps.1; snapshot = snaps.2; read = snaps.3 }

-- ---- the report

some_first : (snapshots : List (List ℕ)) → 0 < length snapshots → slice_get snapshots 0 ≡ None → ⊥
some_first [] some none = omega (arith, some)
some_first (bytes ∷ rest) some none = absurd cc

pub there_is_one : (replicas : List ReplicaView) (snapshots : List (List ℕ)) → AllZip IsSnapshotOf replicas snapshots → 0 < length replicas → slice_get snapshots 0 ≡ None → ⊥
there_is_one replicas snapshots snaps some = some_first snapshots (omega (arith, one_each replicas snapshots snaps, some))

first_has : (P : List ℕ → Type 0) (snapshots : List (List ℕ)) (first : List ℕ) → AllByRecursion P snapshots → slice_get snapshots 0 ≡ Some first → P first
first_has P [] first all is = absurd cc
first_has P (bytes ∷ rest) first all is =
    let same : bytes ≡ first = cc is in
    subst P same all.0

pub first_of_replay
    : (s : PlainSession) (program : CheckedView) (id : List ℕ) (replicas : List ReplicaView) (snapshots : List (List ℕ)) (first : List ℕ) → AllZip IsSnapshotOf replicas snapshots → All (IsReplayed s program id) replicas
    → slice_get snapshots 0 ≡ Some first → IsSnapshotOfReplay s program id first
first_of_replay s program id replicas snapshots first snaps ended =
    first_has (IsSnapshotOfReplay s program id) snapshots first (snapshots_of_replay s program id replicas snapshots (recursion_from_All (IsReplayed s program id) replicas ended) snaps)

pub spells_world : (s : PlainSession) (program : CheckedView) (id bytes : List ℕ) → IsSnapshotOfReplay s program id bytes → IsWorldSnapshot (checked_tree program) id bytes
spells_world s program id bytes is = record { world = replayed s program id; snapshot = is.snapshot }

all_agree : (s : PlainSession) (program : CheckedView) (id first : List ℕ) (snapshots : List (List ℕ)) → first ≡ world_spelling (replayed s program id) → AllByRecursion (IsSnapshotOfReplay s program id) snapshots
    → count_by (λ snapshot. bytes_eq snapshot first) snapshots ≡ length snapshots
all_agree s program id first [] is all = refl
all_agree s program id first (bytes ∷ rest) is all =
    let same : bytes_eq bytes first ≡ true = (bytes_eq-Decides bytes first).1 (all.0.spelled ∙ sym is) in
    let counts : List ℕ → ℕ = λ snapshot. cond (bytes_eq snapshot first) 1 0 in
    let long : 1 + length rest ≡ length (bytes ∷ rest) = omega arith in
    sum_by-cons counts bytes rest ∙ ap (λ b. cond b 1 0 + sum_by counts rest) same ∙ ap (λ n. 1 + n) (all_agree s program id first rest is all.1) ∙ long

pub reports
    : (session : SessionState) (program : CheckedView) (id : List ℕ) (replicas : List ReplicaView) (snapshots : List (List ℕ)) (first : List ℕ) (total : ℤ) (agree : ℕ)
    → AllZip IsSnapshotOf replicas snapshots → All (IsReplayed session.plain program id) replicas → slice_get snapshots 0 ≡ Some first
    → ((w : WorldRecord) → (worlds (founding_of program) id).unsnap first ≡ Some w → total ≡ root_total w) → agree ≡ count_by (λ snapshot. bytes_eq snapshot first) snapshots
    → Reports session program id replicas (record { session = session; replicas = replicas; total = total; agree = agree })
reports session program id replicas snapshots first total agree snaps ended at totals counted =
    let s = session.plain in
    let of_first = first_of_replay s program id replicas snapshots first snaps ended at in
    let all = snapshots_of_replay s program id replicas snapshots (recursion_from_All (IsReplayed s program id) replicas ended) snaps in
    record {
      same_session = refl;
      same_replicas = refl;
      total = totals (replayed s program id) of_first.read;
      agree = counted ∙ all_agree s program id first snapshots of_first.spelled all ∙ one_each replicas snapshots snaps;
    }
