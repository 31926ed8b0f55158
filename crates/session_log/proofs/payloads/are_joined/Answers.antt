use Rattle.std.proofs.Common.{rules, ◌≡◌, ◌∙◌, sym, true, false}
use Rattle.std.specs.Prelude.{◌↔◌, IsTrue}
use Rattle.session_log.proofs.PayloadLaws.{joined_at, split_front, split_back}
use Rattle.session_log.proofs.payloads.are_joined.Goals as goal

pub returns-then-eq : goal.returns-then-eq
returns-then-eq c =
    let front : c.split_at.result.0.now ≡ c.args.first.now = search rules in
    let same : IsTrue c.eq-then-eq.result ↔ (c.split_at.result.1.now ≡ c.args.second.now) = search rules in (
      λ h. joined_at c.args.first.now c.args.second.now c.args.bytes.now (sym c.split_at.ensures.front ∙ front) (sym c.split_at.ensures.back ∙ same.0 h),
      λ h. same.1 (c.split_at.ensures.back ∙ split_back c.args.first.now c.args.second.now c.args.bytes.now h),
    )

pub returns-else-eq : goal.returns-else-eq
returns-else-eq c =
    let same : IsTrue c.eq.result ↔ (c.split_at.result.0.now ≡ c.args.first.now) = search rules in (
      λ h.
          let no : false ≡ true = rw c.if-eq.false at h in
          absurd cc,
      λ h. same.1 (c.split_at.ensures.front ∙ split_front c.args.first.now c.args.second.now c.args.bytes.now h),
    )
