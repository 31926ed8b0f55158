use Rattle.std.proofs.Common.{◌≡◌, ℕ, ◌+◌, ◌-◌, Some, vec_len, subst, sym, ◌∙◌, arith, rules}
use Rattle.std.proofs.lemmas.List.Elements.{All-pop}
use Rattle.host_server.specs.Claiming.{HasKeptClaims}
use Rattle.host_server.specs.Rows.{AtEach, HasKept, IsFreshRow}
use Rattle.host_server.proofs.ClaimLaws.{claim_kept_more, claim_kept_none}
use Rattle.host_server.proofs.RowLaws.{fresh_of, kept_more, kept_none, kept_of}
use Rattle.host_server.proofs.rooms.merge_rows.Goals as goal

pub loop-row-init : goal.loop-row-init
loop-row-init g c =
    let none : vec_len c.args.rows - vec_len c.args.rows ≡ 0 = omega arith in
    record {
      within = omega arith;
      seats = subst (λ (n : ℕ). AtEach (HasKept n) c.args.lead.now.seats.items c.args.lead.now.seats.items) (sym none) (kept_none c.args.lead.now.seats.items c.requires.kept);
      claim = subst (λ (n : ℕ). HasKeptClaims n c.args.lead.now.claim c.args.lead.now.claim) (sym none) (claim_kept_none c.args.lead.now.claim);
      fresh = c.requires.rows;
    }

pub merge_row-requires-clause-leads : goal.merge_row-requires-clause-leads
merge_row-requires-clause-leads g c = kept_of c.args.rooms.now _ c.args.lead.now.seats.items c.loop-row.lead.seats.items c.requires.leads c.loop-row.invariant.seats

pub merge_row-requires-clause-seats : goal.merge_row-requires-clause-seats
merge_row-requires-clause-seats g c =
    let popped = All-pop (IsFreshRow c.args.lead.now) c.loop-row.rows.items c.pop.new.self.items (Some c.in-Some.row) c.in-Some.ensures.items c.loop-row.invariant.fresh in
    fresh_of c.args.rooms.now c.args.lead.now.seats.items c.in-Some.row.seats.items c.requires.leads popped.1.seats

pub merge_row-requires-clause-lead_claims : goal.merge_row-requires-clause-lead_claims
merge_row-requires-clause-lead_claims g c = c.loop-row.invariant.claim.claims ∙ c.requires.claims

pub merge_row-requires-clause-row_claims : goal.merge_row-requires-clause-row_claims
merge_row-requires-clause-row_claims g c =
    let popped = All-pop (IsFreshRow c.args.lead.now) c.loop-row.rows.items c.pop.new.self.items (Some c.in-Some.row) c.in-Some.ensures.items c.loop-row.invariant.fresh in
    popped.1.claim.claims ∙ c.requires.claims

pub loop-row-preserved : goal.loop-row-preserved
loop-row-preserved g c =
    let popped = All-pop (IsFreshRow c.args.lead.now) c.loop-row.rows.items c.pop.new.self.items (Some c.in-Some.row) c.in-Some.ensures.items c.loop-row.invariant.fresh in
    let held = c.loop-row.invariant in
    let within = held.within in
    let one = c.in-Some.ensures.len in
    let count = vec_len c.args.rows - vec_len c.loop-row.rows in
    let more : count + 1 ≡ vec_len c.args.rows - vec_len c.pop.new.self = omega (arith, within, one) in
    record {
      within = omega (arith, within, one);
      seats = subst (λ (n : ℕ). AtEach (HasKept n) c.args.lead.now.seats.items c.merge_row.new.lead.seats.items) more
          (kept_more count c.args.lead.now.seats.items c.loop-row.lead.seats.items c.in-Some.row.seats.items c.merge_row.new.lead.seats.items held.seats popped.1.seats c.merge_row.ensures.seats);
      claim = subst (λ (n : ℕ). HasKeptClaims n c.args.lead.now.claim c.merge_row.new.lead.claim) more
          (claim_kept_more count c.args.lead.now.claim c.loop-row.lead.claim c.in-Some.row.claim c.merge_row.new.lead.claim held.claim popped.1.claim c.merge_row.ensures.claim);
      fresh = popped.0;
    }

pub returns-clause-seats : goal.returns-clause-seats
returns-clause-seats g c =
    let none : vec_len c.loop-row.rows ≡ 0 = search rules in
    let all : vec_len c.args.rows - vec_len c.loop-row.rows ≡ vec_len c.args.rows = omega (arith, none) in
    subst (λ (n : ℕ). AtEach (HasKept n) c.args.lead.now.seats.items c.loop-row.lead.seats.items) all c.loop-row.invariant.seats

pub returns-clause-claim : goal.returns-clause-claim
returns-clause-claim g c =
    let none : vec_len c.loop-row.rows ≡ 0 = search rules in
    let all : vec_len c.args.rows - vec_len c.loop-row.rows ≡ vec_len c.args.rows = omega (arith, none) in
    subst (λ (n : ℕ). HasKeptClaims n c.args.lead.now.claim c.loop-row.lead.claim) all c.loop-row.invariant.claim
