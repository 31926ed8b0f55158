use Rattle.std.proofs.Common.{◌≡◌, ◌+◌, List, ◌++◌, length}
use Rattle.tea_base.specs.declared.entry.Entry.{Entry}
use Rattle.resend_table.specs.Noted.{HasNoted}
use Rattle.reflector_core.proofs.session.going_back.forget_after.Given as goal

abbrev pub invariant-loop-gone : goal.invariant-loop-gone
invariant-loop-gone l = record {
  noted : HasNoted l.resend l.log.entries;
  begins : (rest : List Entry) × (l.initial.log.entries ≡ l.log.entries ++ rest);
  counted : length l.log.entries + l._gone ≡ length l.initial.log.entries + l.len;
}
