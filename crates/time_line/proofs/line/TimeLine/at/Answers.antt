use Rattle.std.proofs.Common.{◌≡◌, ℕ, ◌+◌, ◌*◌, ◌/◌, ◌≤◌, drop, sym, ap, subst, ◌∙◌, rules, arith}
use Rattle.std.specs.Arc.{arc_value}
use Rattle.tea_base.specs.Legal.{TimesRiseAfter}
use Rattle.model_solved.specs.Founding.{CheckedView, checked_tree}
use Rattle.model_solved.specs.Methods.{field_counts}
use Rattle.world_plain.specs.Valid.{Valid}
use Rattle.world_plain.specs.World.{WorldRecord, world_record}
use Rattle.world.specs.View.{WorldView}
use Rattle.time_line.specs.Keyframes.{LineView, keyframe, moment, world_after}
use Rattle.time_line.proofs.LineLaws.{calm, entered-is, frame-is, moment-is}
use Rattle.time_line.proofs.line.TimeLine.at.Goals as goal

pub from_plain-requires : goal.from_plain-requires
from_plain-requires g c =
    let line : LineView = record { program = arc_value c.self.inside.program; id = c.self.inside.id.0; entries = c.self.inside.log.entries; every = c.self.inside.every } in
    let k = c.count_until-count.result / c.self.inside.every in
    let same : arc_value c.in_ok-program.program ≡ arc_value c.self.inside.program = search rules in
    let is = frame-is line c.count_until-count.result c.args.time c.self.inside.keyframes.items c.index.result.now c.self.invariant c.count_until-count.ensures c.index.ensures in
    subst (λ (p : CheckedView). Valid (field_counts (checked_tree p)) (world_record c.index.result.now)) (sym same)
    (subst (λ (w : WorldRecord). Valid (field_counts (checked_tree line.program)) w) (sym is) (c.worlds_after.ensures.valid line (k * line.every) c.self.invariant.sound))

pub enter_all-requires-clause-rises : goal.enter_all-requires-clause-rises
enter_all-requires-clause-rises g c =
    let line : LineView = record { program = arc_value c.self.inside.program; id = c.self.inside.id.0; entries = c.self.inside.log.entries; every = c.self.inside.every } in
    let k = c.count_until-count.result / c.self.inside.every in
    let is = frame-is line c.count_until-count.result c.args.time c.self.inside.keyframes.items c.index.result.now c.self.invariant c.count_until-count.ensures c.index.ensures in
    subst (λ (w : WorldRecord). TimesRiseAfter w.time (drop (k * line.every) line.entries)) (sym (ap (λ (v : WorldView). v.scene.world) c.in_ok-world.ensures ∙ is)) (c.worlds_after.ensures.rises line (k * line.every) c.self.invariant.sound)

pub arrive-requires-clause-early : goal.arrive-requires-clause-early
arrive-requires-clause-early g c =
    let line : LineView = record { program = arc_value c.self.inside.program; id = c.self.inside.id.0; entries = c.self.inside.log.entries; every = c.self.inside.every } in
    let count = c.count_until-count.result in
    let k = count / c.self.inside.every in
    let positive = c.self.invariant.sound.positive in
    let same : arc_value c.in_ok-program.program ≡ arc_value c.self.inside.program = search rules in
    let begins : c.in_ok-world.world ≡ calm line.program (world_record c.index.result.now) = subst (λ (p : CheckedView). c.in_ok-world.world ≡ calm p (world_record c.index.result.now)) same c.in_ok-world.ensures in
    let is = frame-is line count c.args.time c.self.inside.keyframes.items c.index.result.now c.self.invariant c.count_until-count.ensures c.index.ensures in
    let entered = entered-is line k count (world_record c.index.result.now) c.in_ok-world.world c.enter_all.new.world (omega arith) begins is c.in_ok-enter_all.ensures.entered in
    let at = ap (λ (v : WorldView). v.scene.world.time) entered in
    omega (arith, at, c.worlds_after.ensures.early line count c.args.time c.self.invariant.sound (omega (arith, c.count_until-count.ensures)))

pub returns-clause-world : goal.returns-clause-world
returns-clause-world g c =
    let line : LineView = record { program = arc_value c.self.inside.program; id = c.self.inside.id.0; entries = c.self.inside.log.entries; every = c.self.inside.every } in
    let count = c.count_until-count.result in
    let k = count / c.self.inside.every in
    let positive = c.self.invariant.sound.positive in
    let same : arc_value c.in_ok-program.program ≡ arc_value c.self.inside.program = search rules in
    let begins : c.in_ok-world.world ≡ calm line.program (world_record c.index.result.now) = subst (λ (p : CheckedView). c.in_ok-world.world ≡ calm p (world_record c.index.result.now)) same c.in_ok-world.ensures in
    let is = frame-is line count c.args.time c.self.inside.keyframes.items c.index.result.now c.self.invariant c.count_until-count.ensures c.index.ensures in
    let entered = entered-is line k count (world_record c.index.result.now) c.in_ok-world.world c.enter_all.new.world (omega arith) begins is c.in_ok-enter_all.ensures.entered in
    moment-is line count c.args.time c.enter_all.new.world c.arrive.new.world entered c.count_until-count.ensures (c.worlds_after.ensures.replays line c.args.time c.self.invariant.sound) c.in_ok-arrive.ensures
    ∙ ap (λ (l : LineView). moment l c.args.time) c.self.view_is
