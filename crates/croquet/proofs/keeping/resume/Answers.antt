use Rattle.croquet.proofs.keeping.resume.Goals as goal

pub go_on-requires : goal.go_on-requires
go_on-requires g c =
    let was = c.requires in
    rw c.bytes.ensures (record { bytes = was.bytes; tells = was.tells; are = was.are; read = was.from.read; count = was.from.good })
