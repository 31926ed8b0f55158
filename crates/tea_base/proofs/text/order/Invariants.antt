use Rattle.std.proofs.Common.{◌≡◌, length}
use Rattle.std.specs.Cmp.Lexicographic.{slice_cmp}
use Rattle.std.specs.Ordering.{nat_cmp}
use Rattle.std.specs.Str.{IsUtf8, chars}
use Rattle.std.specs.Str.Iter.{chars_rest}
use Rattle.tea_base.proofs.text.order.Given as goal

abbrev pub invariant-loop-a : goal.invariant-loop-a
invariant-loop-a l = record {
  mine_is_text : IsUtf8 (chars_rest l.mine);
  others_is_text : IsUtf8 (chars_rest l.others);
  same : slice_cmp nat_cmp (chars (chars_rest l.mine)) (chars (chars_rest l.others)) ≡ slice_cmp nat_cmp (chars l.first) (chars l.second);
}

abbrev pub decreases-loop-a : goal.decreases-loop-a
decreases-loop-a l = length (chars_rest l.mine)
