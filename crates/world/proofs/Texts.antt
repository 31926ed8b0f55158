-- The characters of names that the code spells.
use Rattle.std.proofs.Common.{◌≡◌, ℕ, zero, suc, ◌<◌, List, [], ◌∷◌, arith}
use Rattle.std.specs.Prelude.{chars, IsAscii}
use Rattle.std.proofs.lemmas.Str.{chars-IsAscii}
use Rattle.std.proofs.lemmas.Str.Ascii.{IsAscii-nil}
use Rattle.world.specs.Worlds.{init, model_root, view_join, view_exit}

ascii : (b : ℕ) (bs : List ℕ) → b < 128 → IsAscii bs → IsAscii (b ∷ bs)
ascii b bs h all zero = h
ascii b bs h all (suc i) = all i

pub init-chars : chars init ≡ init
init-chars = chars-IsAscii init (ascii 105 (110 ∷ 105 ∷ 116 ∷ []) (omega arith) (ascii 110 (105 ∷ 116 ∷ []) (omega arith) (ascii 105 (116 ∷ []) (omega arith) (ascii 116 ([]) (omega arith) IsAscii-nil))))

pub root-chars : chars model_root ≡ model_root
root-chars = chars-IsAscii model_root (ascii 109 (111 ∷ 100 ∷ 101 ∷ 108 ∷ 82 ∷ 111 ∷ 111 ∷ 116 ∷ []) (omega arith) (ascii 111 (100 ∷ 101 ∷ 108 ∷ 82 ∷ 111 ∷ 111 ∷ 116 ∷ []) (omega arith) (ascii 100 (101 ∷ 108 ∷ 82 ∷ 111 ∷ 111 ∷ 116 ∷ []) (omega arith) (ascii 101 (108 ∷ 82 ∷ 111 ∷ 111 ∷ 116 ∷ []) (omega arith) (ascii 108 (82 ∷ 111 ∷ 111 ∷ 116 ∷ []) (omega arith) (ascii 82 (111 ∷ 111 ∷ 116 ∷ []) (omega arith) (ascii 111 (111 ∷ 116 ∷ []) (omega arith) (ascii 111 (116 ∷ []) (omega arith) (ascii 116 ([]) (omega arith) IsAscii-nil)))))))))

pub join-chars : chars view_join ≡ view_join
join-chars = chars-IsAscii view_join (ascii 118 (105 ∷ 101 ∷ 119 ∷ 45 ∷ 106 ∷ 111 ∷ 105 ∷ 110 ∷ []) (omega arith) (ascii 105 (101 ∷ 119 ∷ 45 ∷ 106 ∷ 111 ∷ 105 ∷ 110 ∷ []) (omega arith) (ascii 101 (119 ∷ 45 ∷ 106 ∷ 111 ∷ 105 ∷ 110 ∷ []) (omega arith) (ascii 119 (45 ∷ 106 ∷ 111 ∷ 105 ∷ 110 ∷ []) (omega arith) (ascii 45 (106 ∷ 111 ∷ 105 ∷ 110 ∷ []) (omega arith) (ascii 106 (111 ∷ 105 ∷ 110 ∷ []) (omega arith) (ascii 111 (105 ∷ 110 ∷ []) (omega arith) (ascii 105 (110 ∷ []) (omega arith) (ascii 110 ([]) (omega arith) IsAscii-nil)))))))))

pub exit-chars : chars view_exit ≡ view_exit
exit-chars = chars-IsAscii view_exit (ascii 118 (105 ∷ 101 ∷ 119 ∷ 45 ∷ 101 ∷ 120 ∷ 105 ∷ 116 ∷ []) (omega arith) (ascii 105 (101 ∷ 119 ∷ 45 ∷ 101 ∷ 120 ∷ 105 ∷ 116 ∷ []) (omega arith) (ascii 101 (119 ∷ 45 ∷ 101 ∷ 120 ∷ 105 ∷ 116 ∷ []) (omega arith) (ascii 119 (45 ∷ 101 ∷ 120 ∷ 105 ∷ 116 ∷ []) (omega arith) (ascii 45 (101 ∷ 120 ∷ 105 ∷ 116 ∷ []) (omega arith) (ascii 101 (120 ∷ 105 ∷ 116 ∷ []) (omega arith) (ascii 120 (105 ∷ 116 ∷ []) (omega arith) (ascii 105 (116 ∷ []) (omega arith) (ascii 116 ([]) (omega arith) IsAscii-nil)))))))))
