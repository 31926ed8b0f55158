use Rattle.std.proofs.Common.{◌≡◌, ℤ, List, ℕ, sym, ap, ◌∙◌, subst, rules, arith, slice_get, to_z, of_z, w64}
use Rattle.std.specs.List.{count_by}
use Rattle.std.specs.Option.{option_copied}
use Rattle.std.specs.Str.{bytes_eq}
use Rattle.drill.specs.Reports.{Reports}
use Rattle.drill.proofs.Reporting.{first_of_replay, reports, spells_world, there_is_one}
use Rattle.drill.proofs.ending.report.Goals as goal

pub unreachable-requires : goal.unreachable-requires
unreachable-requires c =
    there_is_one c.args.replicas c.in_ok-snapshots.snapshots.items c.in_ok-snapshots.ensures c.requires.some
    (ap (λ (snapshots : List (List ℕ)). slice_get snapshots 0) (sym c.deref.ensures.value) ∙ sym c.first.ensures.value ∙ ap option_copied c.in_default.is)

pub total_of-requires : goal.total_of-requires
total_of-requires c =
    let at = ap (λ (snapshots : List (List ℕ)). slice_get snapshots 0) (sym c.deref.ensures.value) ∙ sym c.first.ensures.value ∙ ap option_copied c.in-Some.is in
    spells_world c.args.session.plain c.args.program.now c.args.id.now.0 c.in-Some.first.now
    (first_of_replay c.args.session.plain c.args.program.now c.args.id.now.0 c.args.replicas c.in_ok-snapshots.snapshots.items c.in-Some.first.now c.in_ok-snapshots.ensures c.requires.ended at)

pub returns : goal.returns
returns c =
    let snapshots = c.in_ok-snapshots.snapshots.items in
    let first = c.in-Some.first.now in
    let at = ap (λ (snapshots : List (List ℕ)). slice_get snapshots 0) (sym c.deref.ensures.value) ∙ sym c.first.ensures.value ∙ ap option_copied c.in-Some.is in
    let number : to_z w64 (of_z w64 c.in_ok-total.total) ≡ c.in_ok-total.total = search rules in
    let counted = c.agreeing-agree.ensures ∙ ap (λ bytes. count_by (λ snapshot. bytes_eq snapshot bytes) c.as_slice.result.now) c.bytes.ensures
    ∙ ap (λ (snapshots : List (List ℕ)). count_by (λ snapshot. bytes_eq snapshot first) snapshots) c.as_slice.ensures.value in
    subst (λ (total : ℤ). Reports c.args.session c.args.program.now c.args.id.now.0 c.args.replicas (record { session = c.args.session; replicas = c.args.replicas; total = total; agree = c.agreeing-agree.result })) (sym number)
    (reports c.args.session c.args.program.now c.args.id.now.0 c.args.replicas snapshots first c.in_ok-total.total c.agreeing-agree.result c.in_ok-snapshots.ensures c.requires.ended at c.in_ok-total.ensures counted)

pub overflow_cast-result : goal.overflow_cast-result
overflow_cast-result c =
    let snapshots = c.in_ok-snapshots.snapshots.items in
    let first = c.in-Some.first.now in
    let at = ap (λ (snapshots : List (List ℕ)). slice_get snapshots 0) (sym c.deref.ensures.value) ∙ sym c.first.ensures.value ∙ ap option_copied c.in-Some.is in
    let counted = c.agreeing-agree.ensures ∙ ap (λ bytes. count_by (λ snapshot. bytes_eq snapshot bytes) c.as_slice.result.now) c.bytes.ensures
    ∙ ap (λ (snapshots : List (List ℕ)). count_by (λ snapshot. bytes_eq snapshot first) snapshots) c.as_slice.ensures.value in
    let told = reports c.args.session c.args.program.now c.args.id.now.0 c.args.replicas snapshots first c.in_ok-total.total c.agreeing-agree.result c.in_ok-snapshots.ensures c.requires.ended at c.in_ok-total.ensures counted in
    omega (arith, told.agree, c.requires.few)
