-- Files that are looked up by name, of two of one name the later.
use Rattle.std.proofs.Common.{◌≡◌, ◌≢◌, ◌⊎◌, inl, inr, ℕ, ◌+◌, ◌<◌, Bool, true, false, cond, eqb, List, [], ◌∷◌, ◌++◌, length, drop, get_or, Option, Some, None, Result, Err, refl, ap, sym, subst, ◌∙◌}
use Rattle.std.specs.Str.{bytes_eq}
use Rattle.std.proofs.lemmas.Bool.{false_from_ne_true}
use Rattle.std.proofs.lemmas.List.{at_drop_more}
use Rattle.std.proofs.lemmas.Slice.Eq.{bytes_eq-Decides}
use Rattle.tea_io.specs.Files.{Content, Untold, Absent, Present, MayBe, Holds}
use Rattle.tea_io.specs.MemFiles.{content_of_bytes}
use Rattle.tea_io.specs.declared.mem_files.NamedBlob.{NamedBlob}
use Rattle.store_io.specs.declared.store.StoreFault.{StoreFault}
use Rattle.store_io.specs.declared.store.StoreFault.TheVariants.{Failed, WantOfMemory}
use Rattle.store_io.specs.MemStores.{MemStoresState, newest, is_name, is_some_out, content, content_of, with_file, stores_called, found_tried, after_back}

-- ---- looking up

-- one file more was looked at
pub looked_at
    : (found : Option (List ℕ)) (files : List NamedBlob) (name : List ℕ) (index : ℕ) (file : NamedBlob)
    → index < length files → file ≡ get_or files index file
    → newest found (drop index files) name ≡ newest (cond (bytes_eq file.name name) (Some file.bytes) found) (drop (index + 1) files) name
looked_at found files name index file within is =
    at_drop_more (λ left. newest found left name) files index file within
    ∙ ap (λ (first : NamedBlob). newest found (first ∷ drop (index + 1) files) name) (sym is)

-- a file more, at the end
newest_more
    : (found : Option (List ℕ)) (files : List NamedBlob) (file : NamedBlob) (name : List ℕ)
    → newest found (files ++ file ∷ []) name ≡ cond (bytes_eq file.name name) (Some file.bytes) (newest found files name)
newest_more found [] file name = refl
newest_more found (first ∷ files) file name = newest_more (cond (bytes_eq first.name name) (Some first.bytes) found) files file name

same_name : (name : List ℕ) → bytes_eq name name ≡ true
same_name name = (bytes_eq-Decides name name).1 refl

other_name : (name other : List ℕ) → other ≢ name → bytes_eq name other ≡ false
other_name name other differs = false_from_ne_true (bytes_eq name other) (λ yes. differs (sym ((bytes_eq-Decides name other).0 yes)))

newest_same : (held : List NamedBlob) (name bytes : List ℕ) → newest None (held ++ record { name = name; bytes = bytes } ∷ []) name ≡ Some bytes
newest_same held name bytes =
    newest_more None held (record { name = name; bytes = bytes }) name
    ∙ ap (λ (b : Bool). cond b (Some bytes) (newest None held name)) (same_name name)

newest_other : (held : List NamedBlob) (name bytes other : List ℕ) → other ≢ name → newest None (held ++ record { name = name; bytes = bytes } ∷ []) other ≡ newest None held other
newest_other held name bytes other differs =
    newest_more None held (record { name = name; bytes = bytes }) other
    ∙ ap (λ (b : Bool). cond b (Some bytes) (newest None held other)) (other_name name other differs)

-- ---- a file that is put

holds_if : (b : Bool) (found : Option (List ℕ)) (bytes : List ℕ) → Holds (cond b Untold (content_of_bytes found)) (cond b Untold (Present bytes)) bytes
holds_if true found bytes = tt
holds_if false None bytes = refl
holds_if false (Some held) bytes = refl

-- it is what its name holds
put_holds : (stores : MemStoresState) (name bytes : List ℕ) → Holds (content_of stores name) (content_of (with_file name bytes stores) name) bytes
put_holds stores name bytes =
    subst (λ (found : Option (List ℕ)). Holds (content_of stores name) (cond (is_name stores.out name) Untold (content_of_bytes found)) bytes)
    (sym (newest_same stores.held name bytes)) (holds_if (is_name stores.out name) (newest None stores.held name) bytes)

-- all other names hold what they held
put_others : (stores : MemStoresState) (name bytes other : List ℕ) → other ≢ name → content_of (with_file name bytes stores) other ≡ content_of stores other
put_others stores name bytes other differs =
    ap (λ (found : Option (List ℕ)). cond (is_name stores.out other) Untold (content_of_bytes found)) (newest_other stores.held name bytes other differs)

pub found_holds : (stores new : MemStoresState) (name bytes : List ℕ) → new ≡ stores_called (with_file name bytes stores) → Holds (content_of stores name) (content_of new name) bytes
found_holds stores new name bytes is = subst (λ (s : MemStoresState). Holds (content_of stores name) (content_of s name) bytes) (sym is) (put_holds stores name bytes)

pub found_others : (stores new : MemStoresState) (name bytes other : List ℕ) → new ≡ stores_called (with_file name bytes stores) → other ≢ name → content_of new other ≡ content_of stores other
found_others stores new name bytes other is differs = ap (λ (s : MemStoresState). content_of s other) is ∙ put_others stores name bytes other differs

-- ---- a founding that failed

abbrev MayHold : MemStoresState → MemStoresState → List ℕ → List ℕ → Type 0
MayHold stores new name bytes = (content_of new name ≡ content_of stores name) ⊎ Holds (content_of stores name) (content_of new name) bytes

holds_if_torn : (b : Bool) (stores : MemStoresState) (name bytes : List ℕ) → MayHold stores (cond b stores (with_file name bytes stores)) name bytes
holds_if_torn true stores name bytes = inl refl
holds_if_torn false stores name bytes = inr (put_holds stores name bytes)

others_if_torn : (b : Bool) (stores : MemStoresState) (name bytes other : List ℕ) → other ≢ name → content_of (cond b stores (with_file name bytes stores)) other ≡ content_of stores other
others_if_torn true stores name bytes other differs = refl
others_if_torn false stores name bytes other differs = put_others stores name bytes other differs

tried_holds : (fault : StoreFault) (stores : MemStoresState) (name bytes : List ℕ) → MayHold stores (found_tried {T = Unit {0}} (Err fault) name bytes stores) name bytes
tried_holds Failed stores name bytes = holds_if_torn (eqb stores.torn 0) stores name bytes
tried_holds WantOfMemory stores name bytes = inl refl

tried_others : (fault : StoreFault) (stores : MemStoresState) (name bytes other : List ℕ) → other ≢ name → content_of (found_tried {T = Unit {0}} (Err fault) name bytes stores) other ≡ content_of stores other
tried_others Failed stores name bytes other differs = others_if_torn (eqb stores.torn 0) stores name bytes other differs
tried_others WantOfMemory stores name bytes other differs = refl

pub failed_holds : (fault : StoreFault) (stores tried new : MemStoresState) (name bytes : List ℕ) (faults : ℕ) → tried ≡ found_tried {T = Unit {0}} (Err fault) name bytes stores → new ≡ record tried { faults = faults } → MayHold stores new name bytes
failed_holds fault stores tried new name bytes faults is counted =
    subst (λ (s : MemStoresState). MayHold stores s name bytes) (sym counted)
    (subst (λ (s : MemStoresState). MayHold stores s name bytes) (sym is) (tried_holds fault stores name bytes))

pub failed_others : (fault : StoreFault) (stores tried new : MemStoresState) (name bytes other : List ℕ) (faults : ℕ) → tried ≡ found_tried {T = Unit {0}} (Err fault) name bytes stores → new ≡ record tried { faults = faults }
    → other ≢ name → content_of new other ≡ content_of stores other
failed_others fault stores tried new name bytes other faults is counted differs =
    ap (λ (s : MemStoresState). content_of s other) counted ∙ ap (λ (s : MemStoresState). content_of s other) is ∙ tried_others fault stores name bytes other differs

-- ---- a store that comes back

pub out_is : (out : Option (List ℕ)) (name : List ℕ) → is_name out name ≡ true → out ≡ Some name
out_is None name e = absurd cc
out_is (Some found) name e = ap Some ((bytes_eq-Decides found name).0 e)

pub some_is_out : (out : Option (List ℕ)) (name : List ℕ) → is_name out name ≡ true → is_some_out out ≡ true
some_is_out None name e = absurd cc
some_is_out (Some found) name e = refl

pub back_holds : (stores new : MemStoresState) (name bytes : List ℕ) → new ≡ after_back name bytes stores → MayBe (content_of new name) bytes
back_holds stores new name bytes is =
    subst (λ (s : MemStoresState). MayBe (content_of s name) bytes) (sym is)
    (subst (λ (found : Option (List ℕ)). MayBe (content_of_bytes found) bytes) (sym (newest_same stores.held name bytes)) refl)

pub back_others : (stores new : MemStoresState) (name bytes other : List ℕ) → new ≡ after_back name bytes stores → stores.out ≡ Some name → other ≢ name
    → (content_of new other ≡ content_of stores other) × (is_name new.out other ≡ is_name stores.out other)
back_others stores new name bytes other is out differs =
    let no : is_name stores.out other ≡ false = ap (λ (o : Option (List ℕ)). is_name o other) out ∙ other_name name other differs in (
      ap (λ (s : MemStoresState). content_of s other) is ∙ ap content_of_bytes (newest_other stores.held name bytes other differs)
          ∙ ap (λ (b : Bool). cond b Untold (content_of_bytes (newest None stores.held other))) (sym no),
      ap (λ (s : MemStoresState). is_name s.out other) is ∙ sym no,
    )
