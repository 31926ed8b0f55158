use Rattle.std.proofs.Common.{◌+◌, ap, arith}
use Rattle.session_lock.specs.Steps.{M}
use Rattle.session_lock.specs.Numbers.{count_of}
use Rattle.session_lock.specs.Passes.{PassState}
use Rattle.session_lock.proofs.Contracts.{given_new, given_apart, spare_unused, given_count, left_count}
use Rattle.session_lock.proofs.lock.SharedSession.split.Goals as goal

pub returns-clause-given : goal.returns-clause-given
returns-clause-given g c =
    given_new c.pass.inside.seat.table_id c.cut-seat.result.table_id c.pass.inside.seat.me.0 c.cut-seat.result.me c.args.pass.now (c.args.spare + 1) c.pass.view_is (cc (c.cut-seat.ensures.table.1, c.requires.session, c.pass.view_is))
    c.cut-seat.ensures.given (omega arith) (omega (arith, c.requires.enough, ap (λ (p : PassState). count_of p.spare) c.pass.view_is)) c.cut-seat.ensures.unused

pub returns-clause-numbers : goal.returns-clause-numbers
returns-clause-numbers g c = given_count c.cut-seat.result.table_id c.pass.inside.seat.me.0 c.cut-seat.result.me c.args.spare c.cut-seat.ensures.given (omega (arith, c.requires.enough, ap (λ (p : PassState). count_of p.spare) c.pass.view_is))

pub returns-clause-numbers_left : goal.returns-clause-numbers_left
returns-clause-numbers_left g c =
    (left_count c.pass.inside.seat.table_id c.cut-seat.new.seat.table_id c.pass.inside.seat.me.0 c.cut-seat.new.seat.me.0 c.args.pass.now c.args.spare c.pass.view_is (ap (λ (m : M _). m.0) c.cut-seat.ensures.kept)
    (omega (arith, c.requires.enough, ap (λ (p : PassState). count_of p.spare) c.pass.view_is))).0

pub returns-clause-spare_left : goal.returns-clause-spare_left
returns-clause-spare_left g c =
    (left_count c.pass.inside.seat.table_id c.cut-seat.new.seat.table_id c.pass.inside.seat.me.0 c.cut-seat.new.seat.me.0 c.args.pass.now c.args.spare c.pass.view_is (ap (λ (m : M _). m.0) c.cut-seat.ensures.kept)
    (omega (arith, c.requires.enough, ap (λ (p : PassState). count_of p.spare) c.pass.view_is))).1

pub returns-clause-apart : goal.returns-clause-apart
returns-clause-apart g c =
    given_apart c.cut-seat.new.seat.table_id c.cut-seat.result.table_id c.pass.inside.seat.me.0 c.cut-seat.new.seat.me.0 c.cut-seat.result.me.0 (c.args.spare + 1) (ap (λ (m : M _). m.0) c.cut-seat.ensures.kept) (ap (λ (m : M _). m.0) c.cut-seat.ensures.given)
    (omega arith) (omega (arith, c.requires.enough, ap (λ (p : PassState). count_of p.spare) c.pass.view_is)) c.cut-seat.ensures.once

pub returns-clause-unused : goal.returns-clause-unused
returns-clause-unused g c = spare_unused c.pass.inside.seat.table_id c.pass.inside.seat.me.0 c.args.pass.now c.pass.view_is c.cut-seat.ensures.unused
