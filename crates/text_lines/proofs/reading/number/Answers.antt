use Rattle.std.proofs.Common.{◌≡◌, ◌<◌, ◌^◌, arith}
use Rattle.text_lines.proofs.Numbers.{spelled_by-decimal}
use Rattle.text_lines.proofs.reading.number.Goals as goal
use Rattle.text_lines.proofs.reading.number.Goals.{else-low-number-via-then-low-number+else-number-high, else-low-number-via-else-low-number}

pub returns-else-low-number-clause-none : goal.returns-else-low-number-clause-none
returns-else-low-number-clause-none c = λ n low high spells.
    let small : n < 2 ^ 64 = omega (arith, c.ranges.high.fits) in
    let read = spelled_by-decimal n c.args.word.now spells small in
    let same : n ≡ c.in_ok-number.number = cc (read, c.in_ok-number.ensures.read) in
    elim c.else-low-number.branch [ else-low-number-via-then-low-number+else-number-high w ↦ omega arith | else-low-number-via-else-low-number w ↦ omega arith ]
