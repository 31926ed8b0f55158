use Rattle.event_region.proofs.ChunkLaws.{place_kept}
use Rattle.event_region.proofs.laws.a_place_keeps_its_bytes.Goals as goal

pub returns : goal.returns
returns c = λ bytes more place within. place_kept bytes more place.start place.len within
