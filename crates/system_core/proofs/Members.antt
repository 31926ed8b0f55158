-- The members of a system and the clients that it has by them.
use Rattle.std.proofs.Common.{ℕ, ◌≡◌, ◌≢◌, true, false, eqb, List, [], ◌∷◌, ◌++◌, Some, None, zero, suc, map, set, slice_get, take, refl, sym, ap, ◌∙◌, subst, arith}
use Rattle.std.specs.List.{AllByRecursion}
use Rattle.std.proofs.lemmas.Bool.Decides.{nat_tests}
use Rattle.model_solved.specs.Founding.{CheckedView}
use Rattle.world_plain.specs.Messages.{PlainOutgoing}
use Rattle.world_plain.specs.World.{WorldRecord}
use Rattle.system_plain.specs.System.{Client, view_client, with_client}
use Rattle.system_core.specs.declared.member.Member.{Member}
use Rattle.system_core.specs.Parts.{AreApart, IsNoneOf, IsMember, member_view, plain_client}

-- ---- lists

pub all-at : {A : Type 0} (P : A → Type 0) (xs : List A) (k : ℕ) (x : A) → AllByRecursion P xs → slice_get xs k ≡ Some x → P x
all-at P [] k x all at = absurd cc
all-at P (y ∷ ys) zero x all at = let same : y ≡ x = cc in subst P same all.0
all-at P (y ∷ ys) (suc k) x all at = all-at P ys k x all.1 at

pub all-set : {A : Type 0} (P : A → Type 0) (xs : List A) (k : ℕ) (x : A) → AllByRecursion P xs → P x → AllByRecursion P (set xs k x)
all-set P [] k x all new = tt
all-set P (y ∷ ys) zero x all new = (new, all.1)
all-set P (y ∷ ys) (suc k) x all new = (all.0, all-set P ys k x all.1 new)

pub all-push : {A : Type 0} (P : A → Type 0) (xs : List A) (x : A) → AllByRecursion P xs → P x → AllByRecursion P (xs ++ x ∷ [])
all-push P [] x all new = (new, tt)
all-push P (y ∷ ys) x all new = (all.0, all-push P ys x all.1 new)

pub set-again : {A : Type 0} (xs : List A) (k : ℕ) (x y : A) → set (set xs k x) k y ≡ set xs k y
set-again [] k x y = refl
set-again (z ∷ zs) zero x y = refl
set-again (z ∷ zs) (suc k) x y = ap (λ ws. z ∷ ws) (set-again zs k x y)

pub get-set : {A : Type 0} (xs : List A) (k : ℕ) (x y : A) → slice_get xs k ≡ Some x → slice_get (set xs k y) k ≡ Some y
get-set [] k x y at = absurd cc
get-set (z ∷ zs) zero x y at = refl
get-set (z ∷ zs) (suc k) x y at = get-set zs k x y at

pub map-push : {A B : Type 0} (f : A → B) (xs : List A) (x : A) → map f (xs ++ x ∷ []) ≡ map f xs ++ f x ∷ []
map-push f [] x = refl
map-push f (y ∷ ys) x = ap (λ zs. f y ∷ zs) (map-push f ys x)

-- ---- views

pub absent-at : (view : ℕ) (members : List Member) (k : ℕ) (m : Member) → IsNoneOf view (map member_view members) → slice_get members k ≡ Some m → m.view ≢ view
absent-at view [] k m absent at = absurd cc
absent-at view (first ∷ rest) zero m absent at = λ same. absent.0 (let head : first ≡ m = cc in ap (λ (x : Member). x.view) head ∙ same)
absent-at view (first ∷ rest) (suc k) m absent at = absent-at view rest k m absent.1 at

absent-push : (views : List ℕ) (view other : ℕ) → IsNoneOf view views → other ≢ view → IsNoneOf view (views ++ other ∷ [])
absent-push [] view other absent far = (far, tt)
absent-push (first ∷ rest) view other absent far = (absent.0, absent-push rest view other absent.1 far)

pub apart-push : (views : List ℕ) (view : ℕ) → AreApart views → IsNoneOf view views → AreApart (views ++ view ∷ [])
apart-push [] view apart absent = (tt, tt)
apart-push (first ∷ rest) view apart absent = (absent-push rest first view apart.0 (λ same. absent.0 (sym same)), apart-push rest view apart.1 absent.1)

pub views-set : (members : List Member) (k : ℕ) (m new : Member) → slice_get members k ≡ Some m → new.view ≡ m.view → map member_view (set members k new) ≡ map member_view members
views-set [] k m new at same = refl
views-set (first ∷ rest) zero m new at same = ap (λ v. v ∷ map member_view rest) (same ∙ (let head : m ≡ first = cc in ap (λ (x : Member). x.view) head))
views-set (first ∷ rest) (suc k) m new at same = ap (λ vs. first.view ∷ vs) (views-set rest k m new at same)

pub absent-next : (view : ℕ) (members : List Member) (k : ℕ) (m : Member) → IsNoneOf view (map member_view (take k members)) → slice_get members k ≡ Some m → m.view ≢ view → IsNoneOf view (map member_view (take (suc k) members))
absent-next view [] k m absent at far = absurd cc
absent-next view (first ∷ rest) zero m absent at far = (λ same. far (let head : first ≡ m = cc in sym (ap (λ (x : Member). x.view) head) ∙ same), tt)
absent-next view (first ∷ rest) (suc k) m absent at far = (absent.0, absent-next view rest k m absent.1 at far)

-- ---- clients

abbrev pub clients_of : List Member → List (Client WorldRecord PlainOutgoing)
clients_of members = map plain_client members

hit : (a b : ℕ) → a ≡ b → eqb a b ≡ true
hit a b same = grind (arith, nat_tests)

miss : (a b : ℕ) → a ≢ b → eqb a b ≡ false
miss a b far = grind (arith, nat_tests)

-- a view that no member has is no client's
pub client-absent : (classes : CheckedView) (id : List ℕ) (members : List Member) (view : ℕ) → AllByRecursion (IsMember classes id) members → IsNoneOf view (map member_view members) → view_client (clients_of members) view ≡ None
client-absent classes id [] view each absent = refl
client-absent classes id (first ∷ rest) view each absent =
    rw (miss first.replica.plain.view view (λ same. absent.0 (each.0.viewed ∙ same))) (client-absent classes id rest view each.1 absent.1)

-- the member of a place is the client of its view
pub client-found : (classes : CheckedView) (id : List ℕ) (members : List Member) (k : ℕ) (m : Member) → AllByRecursion (IsMember classes id) members → AreApart (map member_view members) → slice_get members k ≡ Some m
    → view_client (clients_of members) m.view ≡ Some (plain_client m)
client-found classes id [] k m each apart at = absurd cc
client-found classes id (first ∷ rest) zero m each apart at =
    let head : first ≡ m = cc in
    rw (hit first.replica.plain.view m.view (sym each.0.viewed ∙ ap (λ (x : Member). x.view) head)) (ap (λ x. Some (plain_client x)) head)
client-found classes id (first ∷ rest) (suc k) m each apart at =
    rw (miss first.replica.plain.view m.view (λ same. absent-at first.view rest k m apart.0 at (sym same ∙ sym each.0.viewed))) (client-found classes id rest k m each.1 apart.1 at)

-- another client of a view that no member has changes nothing
with-absent : (classes : CheckedView) (id : List ℕ) (members : List Member) (new : Client WorldRecord PlainOutgoing) → AllByRecursion (IsMember classes id) members → IsNoneOf new.replica.view (map member_view members) → with_client (clients_of members) new ≡ clients_of members
with-absent classes id [] new each absent = refl
with-absent classes id (first ∷ rest) new each absent =
    rw (miss first.replica.plain.view new.replica.view (λ same. absent.0 (each.0.viewed ∙ same))) (ap (λ cs. plain_client first ∷ cs) (with-absent classes id rest new each.1 absent.1))

-- another member in a place, of the same view, is another client of it
pub client-changed : (classes : CheckedView) (id : List ℕ) (members : List Member) (k : ℕ) (m new : Member) → AllByRecursion (IsMember classes id) members → AreApart (map member_view members) → slice_get members k ≡ Some m → new.replica.plain.view ≡ m.view
    → clients_of (set members k new) ≡ with_client (clients_of members) (plain_client new)
client-changed classes id [] k m new each apart at same = absurd cc
client-changed classes id (first ∷ rest) zero m new each apart at same =
    let head : first ≡ m = cc in
    let heads : new.replica.plain.view ≡ first.view = same ∙ sym (ap (λ (x : Member). x.view) head) in
    rw (hit first.replica.plain.view new.replica.plain.view (sym each.0.viewed ∙ sym heads))
    (ap (λ cs. plain_client new ∷ cs) (sym (with-absent classes id rest (plain_client new) each.1 (subst (λ v. IsNoneOf v (map member_view rest)) (sym heads) apart.0))))
client-changed classes id (first ∷ rest) (suc k) m new each apart at same =
    rw (miss first.replica.plain.view new.replica.plain.view (λ eq. absent-at first.view rest k m apart.0 at (sym same ∙ sym eq ∙ sym each.0.viewed)))
    (ap (λ cs. plain_client first ∷ cs) (client-changed classes id rest k m new each.1 apart.1 at same))
