-- All the tokens of a text: what a reading of them answers.
use Rattle.std.proofs.Common.{◌≡◌, inl, inr, ℕ, ◌<◌, ◌≤◌, List, length, Option, Some, None, Err, refl, sym, ap, ◌∙◌, subst}
use Rattle.model_tokens.specs.declared.token.Token.{Token}
use Rattle.model_tokens.specs.Division.{Divides}
use Rattle.model_tree.specs.declared.bound.Bound.{Bound}
use Rattle.model_tree.specs.declared.bound.Bound.TheVariants as bound
use Rattle.model_lang.specs.declared.fault.LangFault.{LangFault}
use Rattle.model_lang.specs.declared.fault.LangFault.TheVariants.{Syntax, TooLarge, WantOfMemory}
use Rattle.model_tree.specs.Tree.{ProgramTree}
use Rattle.model_tree.specs.Grammar.{Derives}
use Rattle.model_tree.specs.Bounds.{most_program_bytes, first_excess}
use Rattle.model_tree.specs.Program.{FewBrackets, FewOperators, IsSpelled, IsRead, ArePast, IsTooLarge, AreNoProgram, IsNoProgram}
use Rattle.model_lang.specs.Reader.{read_program}
use Rattle.model_lang.specs.Answer.{ParsesTokens, Parses}
use Rattle.model_lang.proofs.CompletePrograms.{program_read}
use Rattle.model_lang.proofs.SoundPrograms.{program_sound}

-- ---- tokens

derived-read : (ts : List Token) (tree : ProgramTree) → Derives ts tree → read_program ts ≡ Some tree
derived-read ts tree d = ap read_program (sym d.3) ∙ program_read d.0 d.1 d.2 ∙ ap Some d.4

-- the grammar is unambiguous
pub one_derived : (ts : List Token) (tree other : ProgramTree) → Derives ts tree → Derives ts other → tree ≡ other
one_derived ts tree other d e =
    let p : ◌≡◌ {A = Option ProgramTree} (Some tree) (Some other) = sym (derived-read ts tree d) ∙ derived-read ts other e in
    cc

underived : (ts : List Token) → read_program ts ≡ None → (tree : ProgramTree) → ¬ Derives ts tree
underived ts none tree d =
    let p : ◌≡◌ {A = Option ProgramTree} (Some tree) None = sym (derived-read ts tree d) ∙ none in
    cc

pub are_spelled : (ts : List Token) (tree : ProgramTree) → FewBrackets ts → FewOperators ts → read_program ts ≡ Some tree → first_excess tree ≡ None → IsSpelled ts tree
are_spelled ts tree brackets operators read none = record { brackets = brackets; operators = operators; derives = program_sound ts tree read; fits = none }

pub are_no_program : (ts : List Token) → FewBrackets ts → FewOperators ts → read_program ts ≡ None → AreNoProgram ts
are_no_program ts brackets operators none = record { brackets = brackets; operators = operators; underived = underived ts none }

pub many_members : (ts : List Token) (tree : ProgramTree) (what : Bound) (count : ℕ) → FewBrackets ts → FewOperators ts → Derives ts tree → first_excess tree ≡ Some (what, count) → ArePast what count ts
many_members ts tree what count brackets operators d over = inr (inr (brackets, operators, (tree, d, over)))

-- ---- the tokens of a text

-- no text is divided in two ways: what `model_tokens::one_division` says
abbrev pub OneDivision : Type 0
OneDivision = (text : List ℕ) (ts us : List Token) → Divides ts text → Divides us text → ts ≡ us

pub one_read : OneDivision → (text : List ℕ) (tree other : ProgramTree) → IsRead text tree → IsRead text other → tree ≡ other
one_read one text tree other r q =
    let same : q.tokens ≡ r.tokens = one text q.tokens r.tokens q.divides r.divides in
    one_derived r.tokens tree other r.spelled.derives (subst (λ ts. Derives ts other) same q.spelled.derives)

pub too_long : (text : List ℕ) → most_program_bytes < length text → IsTooLarge bound.Bytes (length text) text
too_long text many = inl (many, refl, refl)

pub tokens_past : (text : List ℕ) (ts : List Token) (what : Bound) (count : ℕ) → length text ≤ most_program_bytes → Divides ts text → ArePast what count ts → IsTooLarge what count text
tokens_past text ts what count few divides past = inr (few, (ts, divides, past))

pub tokens_no_program : OneDivision → (text : List ℕ) (ts : List Token) → length text ≤ most_program_bytes → Divides ts text → AreNoProgram ts → IsNoProgram text
tokens_no_program one text ts few divides none = (few, λ us d. subst AreNoProgram (one text ts us divides d) none)

pub no_tokens : (text : List ℕ) → length text ≤ most_program_bytes → ((ts : List Token) → ¬ Divides ts text) → IsNoProgram text
no_tokens text few never = (few, λ ts d. absurd (never ts d))

pub parse_failed : OneDivision → (text : List ℕ) (ts : List Token) → length text ≤ most_program_bytes → Divides ts text → (fault : LangFault) → ParsesTokens (Err fault) ts → Parses (Err fault) text
parse_failed one text ts few divides (TooLarge what count) h = tokens_past text ts what count few divides h
parse_failed one text ts few divides (Syntax at) h = tokens_no_program one text ts few divides h
parse_failed one text ts few divides WantOfMemory h = tt
