-- The frame of a snapshot is spelled like no other frame.
use Rattle.std.proofs.Common.{◌≡◌, ◌<◌, ◌^◌, ◌++◌, ℕ, List, length, take, drop, sym, ap, ◌∙◌, arith}
use Rattle.std.specs.Int.{from_be_bytes, to_be_bytes, w32, w64}
use Rattle.std.proofs.lemmas.List.{drop_at, take_at}
use Rattle.byte_fields.specs.Fields.{blob}
use Rattle.byte_fields.proofs.Codecs.{wide32, wide64}
use Rattle.tea_base.specs.Limits.{time_limit}
use Rattle.wire_frames.specs.Spelling.{client_spelling}
use Rattle.wire_frames.specs.declared.frame.ClientFrame.TheVariants as client

same_front : (count : ℕ) (x y xs ys : List ℕ) → length x ≡ count → length y ≡ count → x ++ xs ≡ y ++ ys → x ≡ y
same_front count x y xs ys long other same = sym (take_at x xs count long) ∙ ap (take count) same ∙ take_at y ys count other

same_back : (count : ℕ) (x y xs ys : List ℕ) → length x ≡ count → length y ≡ count → x ++ xs ≡ y ++ ys → xs ≡ ys
same_back count x y xs ys long other same = sym (drop_at x xs count long) ∙ ap (drop count) same ∙ drop_at y ys count other

same_body : (t time : ℕ) (b bytes : List ℕ) → client_spelling (client.Snap t b) ≡ client_spelling (client.Snap time bytes) → to_be_bytes w64 t ++ blob b ≡ to_be_bytes w64 time ++ blob bytes
same_body t time b bytes same = ap (drop 1) same

pub same_time : (t time : ℕ) (b bytes : List ℕ) → t < time_limit → time < time_limit → client_spelling (client.Snap t b) ≡ client_spelling (client.Snap time bytes) → t ≡ time
same_time t time b bytes below other same =
    let long : t < 2 ^ 64 = omega (arith, below) in
    let bound : time < 2 ^ 64 = omega (arith, other) in
    sym (wide64.again t long)
    ∙ ap (from_be_bytes w64) (same_front 8 (to_be_bytes w64 t) (to_be_bytes w64 time) (blob b) (blob bytes) (wide64.len t) (wide64.len time) (same_body t time b bytes same))
    ∙ wide64.again time bound

pub same_bytes : (t time : ℕ) (b bytes : List ℕ) → client_spelling (client.Snap t b) ≡ client_spelling (client.Snap time bytes) → b ≡ bytes
same_bytes t time b bytes same =
    same_back 4 (to_be_bytes w32 (length b)) (to_be_bytes w32 (length bytes)) b bytes (wide32.len (length b)) (wide32.len (length bytes))
    (same_back 8 (to_be_bytes w64 t) (to_be_bytes w64 time) (blob b) (blob bytes) (wide64.len t) (wide64.len time) (same_body t time b bytes same))
