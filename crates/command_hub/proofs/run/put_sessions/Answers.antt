use Rattle.std.proofs.Common.{◌+◌, ◌<◌, ◌≡◌, length, arith}
use Rattle.command_hub.proofs.Files.{one_file}
use Rattle.command_hub.proofs.run.put_sessions.Goals as goal

pub loop-place-preserved : goal.loop-place-preserved
loop-place-preserved c =
    let count = c.sessions-place-end.ensures.count in
    let test = c.loop-place-test.true in
    let wide = c.from.ensures in
    let within : c.loop-place.place < length c.args.hub.now = omega (arith, count, test) in
    let number : c.from.result + 1 ≡ c.loop-place.place + 1 = omega (arith, wide) in
    one_file c.args.hub.now c.loop-place.place (c.from.result + 1) c.args.prefix.now c.in_ok-bytes.bytes c.in-Some.session.now.plain c.loop-place.files c.put_numbered.new.files
    within number c.in-Some.ensures c.in_ok-bytes.ensures c.loop-place.invariant c.in_ok-put_numbered.ensures
