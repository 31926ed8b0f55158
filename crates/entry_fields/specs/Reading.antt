-- Reading what an entry records.
use Rattle.std.specs.Prelude.{ℕ, ◌==◌, if◌then◌else◌}
use Rattle.std.specs.Int.{w32}
use Rattle.byte_fields.specs.Fields.{Decoder, byte_at, number_at, blob_at, paired_at, headed_at, made_at, nothing_at, never_at}
use Rattle.tea_base.specs.declared.entry.What.{What}
use Rattle.tea_base.specs.declared.entry.What.TheVariants.{Join, Exit, Event}

-- what an entry of this kind records
abbrev pub what_of_kind : ℕ → Decoder What
what_of_kind kind bytes =
    if kind == 1 then nothing_at Join bytes
    else if kind == 2 then nothing_at Exit bytes
    else if kind == 3 then made_at (λ p. Event p.0 p.1) (paired_at (number_at w32) blob_at) bytes
    else never_at bytes

unfoldable pub what_at : Decoder What
what_at = headed_at byte_at what_of_kind
