use Rattle.std.proofs.Common.{◌≡◌, ◌≢◌, ◌∙◌, sym, true, false}
use Rattle.tea_io.proofs.Held.{found_at, passed_at}
use Rattle.tea_io.proofs.mem_files.find.Goals as goal

pub returns-then-is_text : goal.returns-then-is_text
returns-then-is_text c =
    let same = c.is_text.ensures.0 c.if-is_text.true in
    sym (c.loop-file.invariant ∙ found_at _ _ _ _ c.loop-file-test.true c.file-item.is same)

pub loop-file-preserved : goal.loop-file-preserved
loop-file-preserved c =
    let other : c.file-item.result.name ≢ c.args.name.now = λ same.
    let no : true ≡ false = sym (c.is_text.ensures.1 same) ∙ c.if-is_text.false in cc in
    c.loop-file.invariant ∙ passed_at _ _ _ _ c.loop-file-test.true c.file-item.is other
