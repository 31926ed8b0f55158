-- The line of a world, and a world in full.
use Rattle.std.specs.Prelude.{ℕ, List, [], ◌∷◌, ◌++◌, length, sum, codes}
use Rattle.text_lines.specs.Lines.{spell_numbers}
use Rattle.hex.specs.Hex.{encode_lower}
use Rattle.sha2.specs.Sha256.{sha256}
use Rattle.model_tree.specs.Tree.{ProgramTree}
use Rattle.snapshot_codec.specs.Spelling.{world_spelling}
use Rattle.world_plain.specs.World.{WorldRecord}
use Rattle.world_lines.specs.WorldLines.{world_lines}

-- the numbers of a world
abbrev pub counts_part : WorldRecord → List ℕ
counts_part w =
    spell_numbers (codes "time") (w.time ∷ [])
    ++ spell_numbers (codes " objects") (length w.objects ∷ [])
    ++ spell_numbers (codes " pending") (length w.pending ∷ [])
    ++ spell_numbers (codes " subscriptions") (length w.subscriptions ∷ [])

-- how often messages were ended by faults of any kind
abbrev pub faults_part : WorldRecord → List ℕ
faults_part w = spell_numbers (codes " faults") (sum w.faults ∷ [])

abbrev pub digest_part : List ℕ → List ℕ
digest_part digest = codes " digest " ++ encode_lower digest

-- the line of a world with the digest of its snapshot
abbrev pub digested_world_line : WorldRecord → List ℕ → List ℕ
digested_world_line w digest = counts_part w ++ faults_part w ++ digest_part digest ++ codes "\n"

-- the line of a world: its numbers, and the digest of its snapshot
abbrev pub world_line : WorldRecord → List ℕ
world_line w = digested_world_line w (sha256 (world_spelling w))

-- a world in full: its line, and the lines of what is in it
abbrev pub full_text : ProgramTree → WorldRecord → List ℕ
full_text program w = world_line w ++ world_lines program w
