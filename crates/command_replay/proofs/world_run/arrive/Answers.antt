use Rattle.std.proofs.Common.{◌≡◌, ℕ, List, subst, IfOk, Option}
use Rattle.std.proofs.lemmas.Result.{IfOk-weaker}
use Rattle.std.specs.Option.{option_map}
use Rattle.model_solved.specs.Methods.{field_counts}
use Rattle.model_solved.specs.Founding.{checked_tree}
use Rattle.snapshot_codec.specs.Conditions.{IsValid}
use Rattle.world_plain.specs.Valid.{Valid}
use Rattle.world_plain.specs.World.{WorldRecord, world_record}
use Rattle.command_replay.proofs.WorldLaws.{gone_on}
use Rattle.command_replay.proofs.world_run.arrive.Goals as goal

pub returns-clause-world : goal.returns-clause-world
returns-clause-world c =
    let start : Option WorldRecord = option_map world_record c.args.start in
    subst (λ w. IfOk c.plain_of.result (λ plain. world_record plain ≡ w))
    (gone_on c.in_ok-world.world c.go_on.new.world c.args.recording start c.args.time c.in_ok-world.ensures c.in_ok-go_on.ensures.legal c.in_ok-go_on.ensures.goes)
    c.plain_of.ensures.copy

pub returns-clause-valid : goal.returns-clause-valid
returns-clause-valid c =
    let counts : List ℕ = field_counts (checked_tree c.go_on.new.world.program) in
    IfOk-weaker c.plain_of.result (λ plain. Valid counts (world_record plain)) (λ plain. IsValid (world_record plain)) (λ plain valid. (counts, valid)) c.plain_of.ensures.valid
