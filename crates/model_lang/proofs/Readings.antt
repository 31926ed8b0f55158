-- One thing comes of a text: a program, none, or a bound that it passes.
use Rattle.std.proofs.Common.{◌≡◌, inl, inr, ℕ, ◌+◌, ◌<◌, ◌≤◌, List, length, Option, Some, None, refl, sym, ap, ◌∙◌, subst, arith}
use Rattle.model_tokens.specs.declared.token.Token.{Token}
use Rattle.model_tokens.specs.Division.{Divides}
use Rattle.model_tree.specs.declared.bound.Bound.{Bound}
use Rattle.model_tree.specs.declared.bound.Bound.TheVariants as bound
use Rattle.model_tree.specs.Tree.{ProgramTree}
use Rattle.model_tree.specs.Grammar.{Derives}
use Rattle.model_tree.specs.Bounds.{most_program_bytes, most_nested, greatest, brackets_after, operators_after, first_excess}
use Rattle.model_tree.specs.Program.{FewBrackets, FewOperators, IsSpelled, IsRead, ArePast, IsTooLarge, AreNoProgram, IsNoProgram, Reading, a_program, no_program, too_large, IsReading}
use Rattle.model_lang.proofs.Whole.{OneDivision, one_derived, one_read, many_members, too_long, tokens_past}

-- ---- tokens

-- what is passed, and the count, are each the same
each_same : (a b : Bound) (m n : ℕ) → ◌≡◌ {A = Option (Bound × ℕ)} (Some (a, m)) (Some (b, n)) → (a ≡ b) × (m ≡ n)
each_same a b m n h =
    let p : ◌≡◌ {A = Bound × ℕ} (a, m) (b, n) = cc in
    (ap (λ q. q.0) p, ap (λ q. q.1) p)

one_past : (ts : List Token) (a b : Bound) (m n : ℕ) → ArePast a m ts → ArePast b n ts → (a ≡ b) × (m ≡ n)
one_past ts a b m n (inl p) (inl q) = (p.1 ∙ sym q.1, p.2 ∙ sym q.2)
one_past ts a b m n (inl p) (inr (inl q)) = absurd (omega arith)
one_past ts a b m n (inl p) (inr (inr q)) = absurd (omega arith)
one_past ts a b m n (inr (inl p)) (inl q) = absurd (omega arith)
one_past ts a b m n (inr (inl p)) (inr (inl q)) = (p.2 ∙ sym q.2, p.3 ∙ sym q.3)
one_past ts a b m n (inr (inl p)) (inr (inr q)) = absurd (omega arith)
one_past ts a b m n (inr (inr p)) (inl q) = absurd (omega arith)
one_past ts a b m n (inr (inr p)) (inr (inl q)) = absurd (omega arith)
one_past ts a b m n (inr (inr p)) (inr (inr q)) =
    let same : p.2.0 ≡ q.2.0 = one_derived ts p.2.0 q.2.0 p.2.1 q.2.1 in
    each_same a b m n (sym p.2.2 ∙ ap first_excess same ∙ q.2.2)

never_spelled : (ts : List Token) (what : Bound) (count : ℕ) (tree : ProgramTree) → ArePast what count ts → IsSpelled ts tree → ⊥
never_spelled ts what count tree (inl p) spelled = omega (arith, spelled.brackets)
never_spelled ts what count tree (inr (inl p)) spelled = omega (arith, spelled.operators)
never_spelled ts what count tree (inr (inr p)) spelled =
    let same : p.2.0 ≡ tree = one_derived ts p.2.0 tree p.2.1 spelled.derives in
    let e : ◌≡◌ {A = Option (Bound × ℕ)} (Some (what, count)) None = sym p.2.2 ∙ ap first_excess same ∙ spelled.fits in
    cc

never_none : (ts : List Token) (what : Bound) (count : ℕ) → ArePast what count ts → AreNoProgram ts → ⊥
never_none ts what count (inl p) none = omega (arith, none.brackets)
never_none ts what count (inr (inl p)) none = omega (arith, none.operators)
never_none ts what count (inr (inr p)) none = none.underived p.2.0 p.2.1

-- ---- texts

one_large : OneDivision → (text : List ℕ) (a b : Bound) (m n : ℕ) → IsTooLarge a m text → IsTooLarge b n text → (a ≡ b) × (m ≡ n)
one_large one text a b m n (inl p) (inl q) = (p.1 ∙ sym q.1, p.2 ∙ sym q.2)
one_large one text a b m n (inl p) (inr q) = absurd (omega arith)
one_large one text a b m n (inr p) (inl q) = absurd (omega arith)
one_large one text a b m n (inr p) (inr q) =
    one_past q.1.0 a b m n (subst (λ ts. ArePast a m ts) (one text p.1.0 q.1.0 p.1.1 q.1.1) p.1.2) q.1.2

read_none : (text : List ℕ) (tree : ProgramTree) → IsRead text tree → IsNoProgram text → ⊥
read_none text tree read none = (none.1 read.tokens read.divides).underived tree read.spelled.derives

read_large : OneDivision → (text : List ℕ) (tree : ProgramTree) (what : Bound) (count : ℕ) → IsRead text tree → IsTooLarge what count text → ⊥
read_large one text tree what count read (inl p) = omega (arith, read.bytes)
read_large one text tree what count read (inr p) =
    never_spelled read.tokens what count tree (subst (λ ts. ArePast what count ts) (one text p.1.0 read.tokens p.1.1 read.divides) p.1.2) read.spelled

none_large : (text : List ℕ) (what : Bound) (count : ℕ) → IsNoProgram text → IsTooLarge what count text → ⊥
none_large text what count none (inl p) = omega (arith, none.0)
none_large text what count none (inr p) = never_none p.1.0 what count p.1.2 (none.1 p.1.0 p.1.1)

large_same : (a b : Bound) (m n : ℕ) → (a ≡ b) × (m ≡ n) → too_large a m ≡ too_large b n
large_same a b m n each = ap (λ a. too_large a m) each.0 ∙ ap (too_large b) each.1

pub one-reading : OneDivision → (text : List ℕ) (reading other : Reading) → IsReading text reading → IsReading text other → reading ≡ other
one-reading one text (a_program tree) (a_program other) p q = ap a_program (one_read one text tree other p q)
one-reading one text (a_program tree) no_program p q = absurd (read_none text tree p q)
one-reading one text (a_program tree) (too_large what count) p q = absurd (read_large one text tree what count p q)
one-reading one text no_program (a_program tree) p q = absurd (read_none text tree q p)
one-reading one text no_program no_program p q = refl
one-reading one text no_program (too_large what count) p q = absurd (none_large text what count p q)
one-reading one text (too_large what count) (a_program tree) p q = absurd (read_large one text tree what count q p)
one-reading one text (too_large what count) no_program p q = absurd (none_large text what count q p)
one-reading one text (too_large a m) (too_large b n) p q = large_same a b m n (one_large one text a b m n p q)

-- ---- something comes of each text

abbrev Never : List ℕ → Type 0
Never text = (reading : Reading) → ¬ IsReading text reading

never_derived : (text : List ℕ) → Never text → length text ≤ most_program_bytes → (ts : List Token) → Divides ts text → FewBrackets ts → FewOperators ts → (tree : ProgramTree) → Derives ts tree → (found : Option (Bound × ℕ)) → first_excess tree ≡ found → ⊥
never_derived text never few ts divides brackets operators tree d None is =
    never (a_program tree) (record { bytes = few; tokens = ts; divides = divides; spelled = record { brackets = brackets; operators = operators; derives = d; fits = is } })
never_derived text never few ts divides brackets operators tree d (Some p) is =
    never (too_large p.0 p.1) (tokens_past text ts p.0 p.1 few divides (many_members ts tree p.0 p.1 brackets operators d is))

no_program_tokens : (text : List ℕ) → Never text → length text ≤ most_program_bytes → (ts : List Token) → Divides ts text → AreNoProgram ts
no_program_tokens text never few ts divides =
    let one : most_nested < greatest brackets_after 0 ts → ⊥ = λ many. never (too_large bound.Brackets (most_nested + 1)) (tokens_past text ts bound.Brackets (most_nested + 1) few divides (inl (many, refl, refl))) in
    let brackets : FewBrackets ts = omega (arith, one) in
    let other : most_nested < greatest operators_after 0 ts → ⊥ = λ many. never (too_large bound.Operators (most_nested + 1)) (tokens_past text ts bound.Operators (most_nested + 1) few divides (inr (inl (brackets, many, refl, refl)))) in
    let operators : FewOperators ts = omega (arith, other) in
    record { brackets = brackets; operators = operators; underived = λ tree d. never_derived text never few ts divides brackets operators tree d (first_excess tree) refl }

pub some-reading : (text : List ℕ) → ¬ ((reading : Reading) → ¬ IsReading text reading)
some-reading text never =
    let long : most_program_bytes < length text → ⊥ = λ many. never (too_large bound.Bytes (length text)) (too_long text many) in
    let few : length text ≤ most_program_bytes = omega (arith, long) in
    never no_program (few, no_program_tokens text never few)
