use Rattle.std.proofs.Common.{rules, arith, Err}
use Rattle.model_solved.specs.Founding.{checked_tree}
use Rattle.world.specs.Worlds.{field_counts}
use Rattle.snapshot_codec.specs.Answer.{IsOfOther, Unsnaps}
use Rattle.snapshot_codec.proofs.Snapshots.{none_other, none-spelled}
use Rattle.replica.proofs.session_world.SessionWorld.of_bytes.Goals as goal

pub returns-in-Err-OtherSession : goal.returns-in-Err-OtherSession
returns-in-Err-OtherSession c =
    let counts = field_counts (checked_tree c.args.self.now.program) in
    let answer : Unsnaps (Err c.in-Err-OtherSession.field-0) counts c.args.self.now.id c.args.bytes.now = search rules in
    let other : IsOfOther c.args.self.now.id c.args.bytes.now = (rw c.in-Err-OtherSession.field-0-is at answer).0 in
    none-spelled counts c.args.self.now.id c.args.bytes.now (λ i. omega (arith, c.type_inv.bytes i)) (λ w. none_other counts c.args.self.now.id c.args.bytes.now w other)
