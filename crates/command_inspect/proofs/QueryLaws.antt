-- Queries that are text, and those that are not; queries one after the other.
use Rattle.std.proofs.Common.{◌≡◌, ℕ, ◌+◌, ◌<◌, Bool, true, false, cond, List, ◌∷◌, ◌++◌, length, get_or, drop, None, refl, sym, ap, ◌∙◌, subst, append_assoc}
use Rattle.std.specs.Prelude.{flat_map}
use Rattle.std.proofs.lemmas.List.{drop_more}
use Rattle.std.proofs.lemmas.Str.{is_utf8-from_IsUtf8, IsUtf8-from_is_utf8}
use Rattle.std.specs.Str.{is_utf8, IsUtf8}
use Rattle.std.specs.Str.Lines.{lines}
use Rattle.command_inspect.specs.declared.query.Query.{Query}
use Rattle.command_inspect.specs.declared.query.Query.TheVariants.{At}
use Rattle.command_inspect.specs.Queries.{AreTimed, IsTimed, queries_in, queries_of}

-- bytes that are text
pub queries_of-text : (bytes text : List ℕ) → IsUtf8 bytes → text ≡ bytes → queries_in (lines text) ≡ queries_of bytes
queries_of-text bytes text is same = rw (is_utf8-from_IsUtf8 bytes is, same) refl

queries_of-if : (bytes : List ℕ) (b : Bool) → is_utf8 bytes ≡ b → (IsUtf8 bytes → ⊥) → cond b (queries_in (lines bytes)) None ≡ None
queries_of-if bytes true is never = absurd (never (IsUtf8-from_is_utf8 bytes is))
queries_of-if bytes false is never = refl

-- bytes that are not
pub queries_of-not_text : (bytes : List ℕ) → (IsUtf8 bytes → ⊥) → queries_of bytes ≡ None
queries_of-not_text bytes never = queries_of-if bytes (is_utf8 bytes) refl never

-- the first of the queries that are left
pub query_at : (queries : List Query) (i : ℕ) (query : Query) → i < length queries → query ≡ get_or queries i query → drop i queries ≡ query ∷ drop (i + 1) queries
query_at queries i query lt is = drop_more queries i query lt ∙ ap (λ (q : Query). q ∷ drop (i + 1) queries) (sym is)

pub timed_at : (queries : List Query) (i : ℕ) (query : Query) → i < length queries → query ≡ get_or queries i query → AreTimed (drop i queries) → IsTimed query × AreTimed (drop (i + 1) queries)
timed_at queries i query lt is timed = subst AreTimed (query_at queries i query lt is) timed

-- one text more
pub text_on : (told : Query → List ℕ) (queries : List Query) (i : ℕ) (query : Query) (before text after : List ℕ) → i < length queries → query ≡ get_or queries i query → text ≡ told query → after ≡ before ++ text
    → before ++ flat_map told (drop i queries) ≡ flat_map told queries → after ++ flat_map told (drop (i + 1) queries) ≡ flat_map told queries
text_on told queries i query before text after lt is seen grew led =
    ap (λ (t : List ℕ). t ++ flat_map told (drop (i + 1) queries)) (grew ∙ ap (λ (t : List ℕ). before ++ t) seen)
    ∙ append_assoc before (told query) (flat_map told (drop (i + 1) queries))
    ∙ ap (λ (qs : List Query). before ++ flat_map told qs) (sym (query_at queries i query lt is))
    ∙ led

-- one text more, of the query in its place
pub text_more : (told : Query → List ℕ) (queries : List Query) (i : ℕ) (d : Query) (before text after : List ℕ) → i < length queries → text ≡ told (get_or queries i d) → after ≡ before ++ text
    → before ++ flat_map told (drop i queries) ≡ flat_map told queries → after ++ flat_map told (drop (i + 1) queries) ≡ flat_map told queries
text_more told queries i d before text after lt seen grew led =
    ap (λ (t : List ℕ). t ++ flat_map told (drop (i + 1) queries)) (grew ∙ ap (λ (t : List ℕ). before ++ t) seen)
    ∙ append_assoc before (told (get_or queries i d)) (flat_map told (drop (i + 1) queries))
    ∙ ap (λ (qs : List Query). before ++ flat_map told qs) (sym (drop_more queries i d lt))
    ∙ led

-- those that are left after it
pub timed_more : (queries : List Query) (i : ℕ) → i < length queries → AreTimed (drop i queries) → AreTimed (drop (i + 1) queries)
timed_more queries i lt timed = (subst AreTimed (drop_more queries i (At 0) lt) timed).1
