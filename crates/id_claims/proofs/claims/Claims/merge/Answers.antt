use Rattle.std.proofs.Common.{ap, sym, ◌∙◌, arith}
use Rattle.id_claims.specs.Passes.{ClaimsState, PassState}
use Rattle.id_claims.proofs.Contracts.{idle_merged, merged}
use Rattle.id_claims.proofs.Sharing.{joins_pass}
use Rattle.id_claims.proofs.Taking.{looks_at}
use Rattle.id_claims.proofs.claims.Claims.merge.Goals as goal

pub join_seat-requires : goal.join_seat-requires
join_seat-requires c = (
  ap (λ (p : PassState). p.claims) c.keep.view_is ∙ (c.requires.keep_claims ∙ sym (ap (λ (s : ClaimsState). s.claims) c.self.view_is)),
  ap (λ (p : PassState). p.claims) c.other.view_is ∙ (c.requires.other_claims ∙ sym (ap (λ (s : ClaimsState). s.claims) c.self.view_is)),
  c.other.invariant.empty,
  omega (arith, c.self.invariant.0),
  joins_pass c.self.inside.table.shared.key.value c.keep.inside.seat.id c.other.inside.seat.id c.keep.inside.seat.me.0 c.other.inside.seat.me.0 c.keep.invariant.part c.keep.invariant.settled c.other.invariant.settled c.other.invariant.free,
)

pub load-requires : goal.load-requires
load-requires c = (
  c.join_seat.ensures.0 ∙ (ap (λ (p : PassState). p.claims) c.keep.view_is ∙ (c.requires.keep_claims ∙ sym (ap (λ (s : ClaimsState). s.claims) c.self.view_is))),
  omega (arith, c.self.invariant.0),
  looks_at c.self.inside.table.shared.key.value _ c.join_seat.new.seat.id c.join_seat.new.seat.me,
)

pub invariant_of-keep : goal.invariant_of-keep
invariant_of-keep c = idle_merged c.keep.inside.seat.me c.join_seat.new.seat.me c.load.new.seat.me c.other.inside.seat.me.0 c.keep.invariant c.join_seat.ensures.2 c.load.ensures.2

pub returns : goal.returns
returns c =
    merged c.keep.inside.seat.table_id c.other.inside.seat.table_id c.load.new.seat.table_id c.keep.inside.seat.me c.join_seat.new.seat.me c.load.new.seat.me c.other.inside.seat.me.0 c.args.keep.now c.args.other c.keep.view_is c.other.view_is
    (cc (c.load.ensures.0, c.join_seat.ensures.0)) c.join_seat.ensures.2 c.load.ensures.2
