use Rattle.std.proofs.Common.{rules, of_calls, sym}
use Rattle.std.specs.Prelude.{nat_le}
use Rattle.std.proofs.lemmas.Fn.{always_returns_same}
use Rattle.std.proofs.lemmas.List.Sorted.{IsPartitionedBy-leb}
use Rattle.session_log.specs.declared.heads.Head.{Head}
use Rattle.session_log.proofs.TimeLaws.{count_until_at}
use Rattle.session_log.proofs.heads.count_until.Goals as goal

pub returns : goal.returns
returns c = λ payloads.
    let heads = c.args.heads.now in
    let parts = IsPartitionedBy-leb (λ (head : Head). head.time) heads c.args.time c.requires.rising in
    let point = c.partition_point.ensures.partitioned (λ (head : Head). nat_le head.time c.args.time) (always_returns_same _ _ _ (λ a r f k. search (rules, of_calls))) parts in
    sym (count_until_at payloads heads c.args.time c.partition_point.result c.partition_point.ensures.bound point.0 point.1)
