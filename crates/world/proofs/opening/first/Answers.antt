use Rattle.std.proofs.Common.{◌≡◌, ◌<◌, [], length, get_or, ap, sym, ◌∙◌, arith}
use Rattle.model_value.specs.Plain.{PlainValue}
use Rattle.model_tree.specs.TreeView.{program_tree}
use Rattle.model_solved.specs.Founding.{founding_of}
use Rattle.world.specs.Worlds.{Scene, scene_with_world, empty_world, with_next_turn, with_root, with_root_init}
use Rattle.world.specs.View.{scene}
use Rattle.world.proofs.FirstWorld.{few_fields}
use Rattle.world.proofs.Roots.{first-is, fields_there}
use Rattle.world.proofs.Turn.{program-fits}
use Rattle.world.proofs.opening.first.Goals as goal

pub make_root-requires : goal.make_root-requires
make_root-requires c =
    let cs = c.args.program.now.classes in
    let n = c.root-root.result in
    let root = c.root-root.ensures in
    let class = c.in-Some.class.now in
    let same : c.classes.result.now ≡ cs = c.classes.ensures.classes ∙ c.program.ensures.program in
    let inside : n < length cs = rw (same, c.from.ensures) at c.in-Some.ensures.lookup.3.0 in
    let here : class ≡ get_or cs n class = rw (same, c.from.ensures) at c.in-Some.ensures.lookup.1 in
    let few = few_fields n (program_tree cs) root.0 (program-fits (program_tree cs) (rw c.program.ensures.program at c.classes.ensures.program)).classes root.1 in
    omega (arith, few, c.len.ensures, class.fields.ok, fields_there cs n class root.0 inside here root.1)

pub returns-clause-first : goal.returns-clause-first
returns-clause-first c =
    let cs = c.args.program.now.classes in
    let n = c.root-root.result in
    let root = c.root-root.ensures in
    let class = c.in-Some.class.now in
    let same : c.classes.result.now ≡ cs = c.classes.ensures.classes ∙ c.program.ensures.program in
    let inside : n < length cs = rw (same, c.from.ensures) at c.in-Some.ensures.lookup.3.0 in
    let here : class ≡ get_or cs n class = rw (same, c.from.ensures) at c.in-Some.ensures.lookup.1 in
    let count : c.len.result ≡ length class.fields.items = omega (arith, c.len.ensures, class.fields.ok) in
    let fields : length root.0.fields ≡ c.len.result = fields_there cs n class root.0 inside here root.1 ∙ sym count in
    let made = c.in_ok-make_root.ensures root.0 fields in
    let kept : c.of-saved.result ≡ c.args.program.now.persisted = c.of-saved.ensures ∙ c.in_ok-copy.ensures ∙ c.persisted.ensures.value in
    let before : scene c.begin.new.state ≡ record { world = with_next_turn (empty_world c.args.program.now.persisted c.args.id.0); published = [] } =
    c.begin.ensures ∙ ap (λ (s : Scene). scene_with_world s (with_next_turn s.world)) (c.empty-state.ensures ∙ ap (λ (v : PlainValue). record { world = empty_world v c.args.id.0; published = [] }) kept) in
    let start : scene c.make_root.new.state ≡ record { world = with_root n root.0 (with_next_turn (empty_world c.args.program.now.persisted c.args.id.0)); published = [] } =
    made ∙ ap (λ (s : Scene). scene_with_world s (with_root n root.0 s.world)) before in
    c.in_ok-initialise.ensures root.0 root.1 ∙ ap (with_root_init (founding_of c.args.program.now) root.0) start ∙ sym (first-is (founding_of c.args.program.now) c.args.id.0 n root c.program.ensures.faultless)
