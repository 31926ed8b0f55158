-- Passes of claims that are split off, that claim, and that are merged.
use Rattle.std.proofs.Common.{◌≡◌, ℕ, ◌+◌, Bool, List, [], ◌++◌, refl, ap, ◌∙◌, append-nil, arith}
use Rattle.tea_base.specs.declared.entry.SessionId.{SessionId}
use Rattle.id_claims.specs.Ids.{Begins}
use Rattle.id_claims.specs.Passes.{Merged, PassState}
use Rattle.id_claims.proofs.Places.{begins_more}
use Rattle.host_server.specs.Claiming.{GathersClaims, HasGivenClaims, HasKeptClaims, IsFreshClaim, MayBeAll}

-- ---- parts that are split off

pub claim_given_none : (pass : PassState) → HasGivenClaims 0 pass pass
claim_given_none pass = record { kept = refl; parts = omega arith }

pub claim_given_more : (count : ℕ) (before now last : PassState) → HasGivenClaims count before now → last ≡ record now { parts = last.parts } → last.parts + 1 ≡ now.parts → HasGivenClaims (count + 1) before last
claim_given_more count before now last given kept one = record {
  kept = kept ∙ ap (λ (p : PassState). record p { parts = last.parts }) given.kept;
  parts = let had = given.parts in omega (arith, had, one);
}

pub claim_fresh : (count : ℕ) (before now fresh : PassState) → HasGivenClaims count before now → fresh ≡ record now { parts = 1; made = [] } → IsFreshClaim before fresh
claim_fresh count before now fresh given is = record {
  claims = ap (λ (p : PassState). p.claims) is ∙ ap (λ (p : PassState). p.claims) given.kept;
  parts = ap (λ (p : PassState). p.parts) is;
  made = ap (λ (p : PassState). p.made) is;
}

-- ---- passes that are merged

parts_merged : (before other after : PassState) → Merged before other after → after.parts ≡ before.parts + other.parts
parts_merged before other after merged = ap (λ (p : PassState). p.parts) merged.same

pub made_merged : (before other after : PassState) → Merged before other after → after.made ≡ before.made ++ other.made
made_merged before other after merged = ap (λ (p : PassState). p.made) merged.same

pub claims_merged : (before other after : PassState) → Merged before other after → after.claims ≡ before.claims
claims_merged before other after merged = ap (λ (p : PassState). p.claims) merged.same

pub claim_kept_none : (pass : PassState) → HasKeptClaims 0 pass pass
claim_kept_none pass = record { claims = refl; parts = omega arith; made = refl }

pub claim_kept_more : (count : ℕ) (before now other last : PassState) → HasKeptClaims count before now → IsFreshClaim before other → Merged now other last → HasKeptClaims (count + 1) before last
claim_kept_more count before now other last kept fresh merged = record {
  claims = claims_merged now other last merged ∙ kept.claims;
  parts = let had = kept.parts in let one = fresh.parts in let both = parts_merged now other last merged in omega (arith, had, one, both);
  made = made_merged now other last merged ∙ (ap (λ (l : List SessionId). now.made ++ l) fresh.made ∙ (append-nil now.made ∙ kept.made));
}

pub claim_gathers_none : (on_demand : Bool) (count : ℕ) (pass : PassState) → count ≡ 0 → GathersClaims on_demand count pass pass
claim_gathers_none on_demand count pass none = record { claims = refl; parts = omega (arith, none); none = λ is. refl }

pub claim_gathers_kept : (on_demand : Bool) (count : ℕ) (before now : PassState) → HasKeptClaims count before now → GathersClaims on_demand count before now
claim_gathers_kept on_demand count before now kept = record { claims = kept.claims; parts = kept.parts; none = λ is. kept.made }

pub claim_gathers_more : (on_demand : Bool) (count more : ℕ) (before fresh pass kept last : PassState) → more ≡ count + 1 → IsFreshClaim before fresh → GathersClaims on_demand 0 fresh pass
    → GathersClaims on_demand count before kept → Merged kept pass last → GathersClaims on_demand more before last
claim_gathers_more on_demand count more before fresh pass kept last is idle one rest merged = record {
  claims = claims_merged kept pass last merged ∙ rest.claims;
  parts = let had = rest.parts in let own = one.parts in let first = idle.parts in let both = parts_merged kept pass last merged in omega (arith, had, own, first, both, is);
  none = λ still.
      made_merged kept pass last merged
      ∙ (ap (λ (l : List SessionId). kept.made ++ l) (one.none still ∙ idle.made) ∙ (append-nil kept.made ∙ rest.none still));
}

-- ---- the ids in the end

-- they are so by what was seen before, too
pub all_before : (on_demand : Bool) (listed before seen ids : List SessionId) → Begins before seen → MayBeAll on_demand listed seen ids → MayBeAll on_demand listed before ids
all_before on_demand listed before seen ids grows all = record {
  begins = all.begins;
  grows = begins_more before seen all.grows.0 ids grows all.grows.1;
  few = all.few;
  still = all.still;
}
