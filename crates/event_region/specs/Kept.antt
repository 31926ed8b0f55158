-- What the fields of a region stand for, and what is true of them.
use Rattle.std.specs.Prelude.{◌+◌, ◌*◌, ◌^◌, ◌≡◌, ◌≤◌, ◌<◌, length, vec_len}
use Rattle.event_region.specs.RegionState.{RegionState}
use Rattle.event_region.specs.Chunks.{chunk_size, chunks_joined, AreFilled}
use Rattle.event_region.specs.declared.region.Region.TheInside.{Inside}

abbrev pub region_state : Inside → RegionState
region_state region = record { bytes = chunks_joined region.chunks.items; spare = region.spare }

pub record IsSoundRegion (region : Inside) : Type 0 where
  pub counted : region.len ≡ length (chunks_joined region.chunks.items)
  pub filled : AreFilled region.len region.chunks.items
  pub room : region.len + region.spare ≤ chunk_size * vec_len region.chunks
  pub short : region.len + region.spare < 2 ^ 64
