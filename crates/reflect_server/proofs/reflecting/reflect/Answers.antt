use Rattle.std.proofs.Common.{arith}
use Rattle.reflect_server.proofs.Reflections.{is_kept, reflects_without}
use Rattle.reflect_server.proofs.reflecting.reflect.Goals as goal

pub answer_unkept-requires : goal.answer_unkept-requires
answer_unkept-requires g c = is_kept _ _ _ _ (λ rose. omega (arith, rose)) _ _ _ _ _ _ _ c.reflect_kept-net.ensures

pub returns : goal.returns
returns g c = reflects_without _ _ _ _ (λ rose. omega (arith, rose)) _ _ _ _ _ _ c.reflect_kept-net.result.2 c.answer_unkept.result c.answer_unkept.ensures c.reflect_kept-net.ensures
