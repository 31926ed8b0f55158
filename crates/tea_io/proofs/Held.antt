-- Files that are looked up by name.
use Rattle.std.proofs.Common.{◌≡◌, ◌≢◌, ℕ, ◌+◌, ◌<◌, List, ◌∷◌, length, drop, get_or, Some, refl, ap, sym, ◌∙◌}
use Rattle.std.specs.Str.{bytes_eq}
use Rattle.std.proofs.lemmas.Bool.{false_from_ne_true}
use Rattle.std.proofs.lemmas.List.{at_drop_more}
use Rattle.std.proofs.lemmas.Slice.Eq.{bytes_eq-Decides}
use Rattle.tea_io.specs.declared.mem_files.NamedBlob.{NamedBlob}
use Rattle.tea_io.specs.MemFiles.{bytes_of}

-- the file at an index stands first in what is left there
at_index
    : (files : List NamedBlob) (name : List ℕ) (index : ℕ) (file : NamedBlob)
    → index < length files → file ≡ get_or files index file
    → bytes_of (drop index files) name ≡ bytes_of (file ∷ drop (index + 1) files) name
at_index files name index file within is =
    at_drop_more (λ left. bytes_of left name) files index file within
    ∙ ap (λ first. bytes_of (first ∷ drop (index + 1) files) name) (sym is)

-- the file at an index has this name
pub found_at
    : (files : List NamedBlob) (name : List ℕ) (index : ℕ) (file : NamedBlob)
    → index < length files → file ≡ get_or files index file → file.name ≡ name
    → bytes_of (drop index files) name ≡ Some file.bytes
found_at files name index file within is same =
    at_index files name index file within is ∙ rw ((bytes_eq-Decides file.name name).1 same) refl

-- the file at an index has another name
pub passed_at
    : (files : List NamedBlob) (name : List ℕ) (index : ℕ) (file : NamedBlob)
    → index < length files → file ≡ get_or files index file → file.name ≢ name
    → bytes_of (drop index files) name ≡ bytes_of (drop (index + 1) files) name
passed_at files name index file within is other =
    let same = bytes_eq-Decides file.name name in
    let differs = false_from_ne_true (bytes_eq file.name name) (λ yes. other (same.0 yes)) in
    at_index files name index file within is ∙ rw differs refl
