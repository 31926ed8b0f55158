use Rattle.std.proofs.Common.{arith}
use Rattle.reflect_posts.proofs.Finals.{is_kept, reflects_without}
use Rattle.reflect_posts.proofs.reflecting.reflect_unkept_on.Goals as goal

pub answer_unkept-requires : goal.answer_unkept-requires
answer_unkept-requires g c = is_kept _ _ _ _ _ (λ rose. omega (arith, rose)) _ _ _ _ _ _ _ _ c.reflect_on-net.ensures

pub returns : goal.returns
returns g c = reflects_without _ _ _ _ _ (λ rose. omega (arith, rose)) _ _ _ _ _ _ _ c.reflect_on-net.result.2 c.answer_unkept.result c.answer_unkept.ensures c.reflect_on-net.ensures
