-- What comes of the files of a host.
use Rattle.std.proofs.Common.{◌≡◌, inr, ℕ, suc, ◌+◌, ◌<◌, ◌≤◌, true, false, List, [], ◌∷◌, drop, get_or, length, refl, sym, ap, ◌∙◌, subst, arith}
use Rattle.std.specs.Prelude.{bytes_eq}
use Rattle.std.proofs.lemmas.List.{at_drop_more, length-map}
use Rattle.tea_base.specs.declared.entry.SessionId.{SessionId}
use Rattle.command_words.specs.declared.words.HostRequest.{HostRequest}
use Rattle.host_config.specs.Config.{AreFew, most_sessions}
use Rattle.host_config.specs.declared.reading.Config.{Config}
use Rattle.host_config.specs.declared.reading.SessionLine.{SessionLine}
use Rattle.command_reflect.specs.declared.reflection.LogPlace.{LogPlace}
use Rattle.command_host.specs.Hosting.{log_names, numbered_names}
use Rattle.commands.specs.declared.hosting.ReadProgram.{ReadProgram}
use Rattle.commands.specs.Verdict.{Free, OfHostIds, OfHostPrograms, Verdict, are_apart, host_id, host_ids, is_among, session_id_of, text_in}
use Rattle.commands.specs.Work.{AreHosted}
use Rattle.model_value.specs.Plain.{nil}

-- ---- the ids of sessions

-- a program of this name is found, or is not this one
pub text_here : (read : List ReadProgram) (i : ℕ) (found : ReadProgram) (name : List ℕ) → i < length read → found ≡ get_or read i found → bytes_eq found.name name ≡ true → text_in (drop i read) name ≡ found.text
text_here read i found name within is same =
    at_drop_more (λ (left : List ReadProgram). text_in left name) read i found within
    ∙ (ap (λ (one : ReadProgram). text_in (one ∷ drop (i + 1) read) name) (sym is) ∙ rw same refl)

pub text_later : (read : List ReadProgram) (i : ℕ) (found : ReadProgram) (name : List ℕ) → i < length read → found ≡ get_or read i found → bytes_eq found.name name ≡ false
    → text_in (drop i read) name ≡ text_in (drop (i + 1) read) name
text_later read i found name within is other =
    at_drop_more (λ (left : List ReadProgram). text_in left name) read i found within
    ∙ (ap (λ (one : ReadProgram). text_in (one ∷ drop (i + 1) read) name) (sym is) ∙ rw other refl)

-- the id of a session whose program has this text
pub id_by : (read : List ReadProgram) (line : SessionLine) (text : List ℕ) (id : SessionId) → id.0 ≡ session_id_of line.name text nil → text_in read line.program ≡ text → id ≡ host_id read line
id_by read line text id is found =
    ap (λ (bytes : List ℕ). let made : SessionId = record { 0 = bytes } in made) (is ∙ ap (λ (t : List ℕ). session_id_of line.name t nil) (sym found))

-- as many ids as sessions
pub hosted_ids : (read : List ReadProgram) (lines : List SessionLine) (ids : List SessionId) → ids ≡ host_ids read lines → AreFew lines → AreHosted ids
hosted_ids read lines ids is few =
    let long : length ids ≡ length lines = ap length is ∙ length-map lines (host_id read) in
    (let some = few.0 in omega (arith, long, some), let most = few.1 in omega (arith, long, most))

-- ---- the places of sessions

as_many_names : (prefix : List ℕ) (number : ℕ) (ids : List SessionId) → length (numbered_names prefix number ids) ≡ length ids
as_many_names prefix number [] = refl
as_many_names prefix number (id ∷ ids) = ap suc (as_many_names prefix (number + 1) ids)

-- as many places as ids
pub as_many_logs : (logs : List LogPlace) (prefix : List ℕ) (ids : List SessionId) → log_names logs ≡ numbered_names prefix 1 ids → length logs ≡ length ids
as_many_logs logs prefix ids named = sym (length-map logs (λ (place : LogPlace). place.name)) ∙ ap length named ∙ as_many_names prefix 1 ids

-- ---- ids that are apart

pub apart_later : (ids : List SessionId) (place : ℕ) (id : SessionId) → place < length ids → id ≡ get_or ids place id → is_among id (drop (place + 1) ids) ≡ false
    → are_apart (drop place ids) ≡ are_apart (drop (place + 1) ids)
apart_later ids place id within is alone =
    at_drop_more are_apart ids place id within ∙ (ap (λ (one : SessionId). are_apart (one ∷ drop (place + 1) ids)) (sym is) ∙ rw alone refl)

pub apart_not : (ids : List SessionId) (place : ℕ) (id : SessionId) → place < length ids → id ≡ get_or ids place id → is_among id (drop (place + 1) ids) ≡ true → are_apart (drop place ids) ≡ false
apart_not ids place id within is among =
    at_drop_more are_apart ids place id within ∙ (ap (λ (one : SessionId). are_apart (one ∷ drop (place + 1) ids)) (sym is) ∙ rw among refl)

-- ---- programs that are left

pub no_more : (names : List (List ℕ)) → names ≡ drop 1 names → names ≡ []
no_more [] same = refl
no_more (name ∷ rest) same = let long : suc (length rest) ≡ length rest = ap length same in absurd (omega (arith, long))

pub none_left : (request : HostRequest) (config : Config) (read : List ReadProgram) (names : List (List ℕ)) (verdict : Verdict) → names ≡ []
    → Free (OfHostIds request config.on_demand (host_ids read config.sessions)) verdict → Free (OfHostPrograms request config read names) verdict
none_left request config read names verdict none comes = subst (λ (left : List (List ℕ)). Free (OfHostPrograms request config read left) verdict) (sym none) comes

pub one_left : (request : HostRequest) (config : Config) (read : List ReadProgram) (names later : List (List ℕ)) (name : List ℕ) (verdict : Verdict) → names ≡ name ∷ later
    → OfHostPrograms request config read (name ∷ later) verdict → Free (OfHostPrograms request config read names) verdict
one_left request config read names later name verdict is comes = inr (subst (λ (left : List (List ℕ)). OfHostPrograms request config read left verdict) (sym is) comes)

-- fewer files are left to be read than there were
pub fewer_left : (names later : List (List ℕ)) (name : List ℕ) → names ≡ name ∷ later → length later + 1 < length names + 1
fewer_left names later name is = let long = ap length is in omega (arith, long)

pub few_left : (lines : List SessionLine) (names items : List (List ℕ)) (left : ℕ) → items ≡ names → length names ≤ length lines → AreFew lines → left < length items + 1 → left < most_sessions + 1
few_left lines names items left is each few fewer =
    let long = ap length is in
    let most = few.1 in
    omega (arith, long, each, most, fewer)

-- the programs of a configuration are left, and none was read
pub all_left : (request : HostRequest) (config : Config) (read : List ReadProgram) (names all : List (List ℕ)) (verdict : Verdict) → read ≡ [] → names ≡ all → Free (OfHostPrograms request config read names) verdict
    → Free (OfHostPrograms request config [] all) verdict
all_left request config read names all verdict none is comes =
    subst (λ (left : List (List ℕ)). Free (OfHostPrograms request config [] left) verdict) is (subst (λ (found : List ReadProgram). Free (OfHostPrograms request config found names) verdict) none comes)
