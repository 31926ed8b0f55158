use Rattle.std.proofs.Common.{rules, sym}
use Rattle.std.proofs.lemmas.Fmt.{parse-decimal}
use Rattle.text_lines.specs.Lines.{IsPlain}
use Rattle.text_lines.proofs.Numbers.{IsPlain-decimal, spelled_by-parsed, spelled_by-none, spelled_by-decimal}
use Rattle.text_lines.proofs.reading.decimal_number.Goals as goal

pub returns-then-not-is_plain-clause-none : goal.returns-then-not-is_plain-clause-none
returns-then-not-is_plain-clause-none c = λ n small spells.
    let plain : IsPlain c.as_bytes.result.now = rw (c.as_bytes.ensures.value, spells) (IsPlain-decimal n small) in
    cc (c.is_plain.ensures.1 plain)

pub returns-then-not-is_plain-clause-read : goal.returns-then-not-is_plain-clause-read
returns-then-not-is_plain-clause-read c = sym (spelled_by-none c.args.word.now (returns-then-not-is_plain-clause-none c))

pub returns-in-Ok-clause-found : goal.returns-in-Ok-clause-found
returns-in-Ok-clause-found c =
    let plain = rw c.as_bytes.ensures.value at (c.if-not-is_plain.ensures.0 (search rules)) in
    spelled_by-parsed c.args.word.now c.in-Ok.number c.parse.result c.parse.ensures.value.0 plain c.in-Ok.is

pub returns-in-Ok-clause-read : goal.returns-in-Ok-clause-read
returns-in-Ok-clause-read c = let found = returns-in-Ok-clause-found c in sym (spelled_by-decimal c.in-Ok.number c.args.word.now found.0 found.1)

pub returns-in-Err-clause-none : goal.returns-in-Err-clause-none
returns-in-Err-clause-none c = λ n small spells.
    let parsed = parse-decimal 64 n _ c.parse.result small small spells c.parse.ensures.value.0 in cc (parsed, c.in-Err.is)

pub returns-in-Err-clause-read : goal.returns-in-Err-clause-read
returns-in-Err-clause-read c = sym (spelled_by-none c.args.word.now (returns-in-Err-clause-none c))
