-- The text of the drill is a program, and has no fault: both by what readers compute of it.
use Rattle.std.specs.Str.{chars, is_utf8}
use Rattle.std.proofs.Common.{true, ◌≢◌, ◌≡◌, ℕ, zero, suc, List, [], ◌∷◌, ◌++◌, Option, Some, None, refl, subst, arith}
use Rattle.std.proofs.Math.Dec.{leb}
use Rattle.std.proofs.lemmas.Bool.{leb-true}
use Rattle.model_tokens.specs.declared.token.Token.{Token}
use Rattle.model_tokens.specs.Division.{Piece, token_of, Divides}
use Rattle.model_tokens.specs.Reader.{TokenRead, next_piece}
use Rattle.model_tokens.proofs.Steps.{piece_before}
use Rattle.model_tree.specs.Tree.{ProgramTree}
use Rattle.model_lang.specs.Reader.{read_operator_line, read_program}
use Rattle.model_tree.specs.Bounds.{most_nested, greatest, brackets_after, operators_after, first_excess}
use Rattle.model_lang.proofs.Whole.{are_spelled}
use Rattle.model_check.specs.Answer.{IsFirstFault}
use Rattle.model_solved.specs.Faults.{first_of, faults_of_program}
use Rattle.model_solved.specs.declared.fault.CheckFault.{CheckFault}
use Rattle.model_solved.specs.declared.fault.CheckFault.TheVariants.{WantOfMemory}
use Rattle.model_tree.specs.Program.{IsRead}
use Rattle.drill.specs.Program.{drill_text}

abbrev with_tokens : List Token → Option (List Token) → Option (List Token)
with_tokens ts None = None
with_tokens ts (Some us) = Some (ts ++ us)

abbrev tokens_behind : (List ℕ → Option (List Token)) → TokenRead → Option (List Token)
tokens_behind reads None = None
tokens_behind reads (Some (piece, rest)) = with_tokens (token_of piece) (reads rest)

-- the tokens of a text, read piece by piece; none where a piece is none
abbrev all_tokens : ℕ → List ℕ → Option (List Token)
all_tokens turns [] = Some []
all_tokens zero (byte ∷ bytes) = None
all_tokens (suc turns) (byte ∷ bytes) = tokens_behind (all_tokens turns) (next_piece (byte ∷ bytes))

with_sound
    : (text : List ℕ) (piece : Piece) (rest : List ℕ) (more : Option (List Token)) (ts : List Token) → next_piece text ≡ Some (piece, rest) → ((us : List Token) → more ≡ Some us → Divides us rest)
    → with_tokens (token_of piece) more ≡ Some ts → Divides ts text
with_sound text piece rest None ts read divides is = cc
with_sound text piece rest (Some us) ts read divides is =
    let same : token_of piece ++ us ≡ ts = cc in
    subst (λ ts. Divides ts text) same (piece_before text piece rest us read (divides us refl))

behind_sound
    : (text : List ℕ) (reads : List ℕ → Option (List Token)) (read : TokenRead) (ts : List Token) → next_piece text ≡ read → ((rest : List ℕ) (us : List Token) → reads rest ≡ Some us → Divides us rest)
    → tokens_behind reads read ≡ Some ts → Divides ts text
behind_sound text reads None ts read divides is = cc
behind_sound text reads (Some (piece, rest)) ts read divides is = with_sound text piece rest (reads rest) ts read (divides rest) is

all_sound : (turns : ℕ) (text : List ℕ) (ts : List Token) → all_tokens turns text ≡ Some ts → Divides ts text
all_sound turns [] ts is =
    let same : ◌≡◌ {A = List Token} [] ts = cc in
    subst (λ ts. Divides ts []) same ([], tt, refl, refl)
all_sound zero (byte ∷ bytes) ts is = cc
all_sound (suc turns) (byte ∷ bytes) ts is = behind_sound (byte ∷ bytes) (all_tokens turns) (next_piece (byte ∷ bytes)) ts refl (λ rest us. all_sound turns rest us) is

-- what was read, or nothing
abbrev tokens_or : Option (List Token) → List Token
tokens_or None = []
tokens_or (Some ts) = ts

abbrev tree_or : Option ProgramTree → ProgramTree
tree_or None = []
tree_or (Some tree) = tree

abbrev drill_tokens : List Token
drill_tokens = tokens_or (all_tokens 225 drill_text)

abbrev pub drill_tree : ProgramTree
drill_tree = tree_or (read_program drill_tokens)

tokens_read : all_tokens 225 drill_text ≡ Some drill_tokens
unfolding is_utf8 chars lib.Utf8.encode
tokens_read = refl

few_brackets : leb (greatest brackets_after 0 drill_tokens) most_nested ≡ true
unfolding is_utf8 chars lib.Utf8.encode
few_brackets = refl

few_operators : leb (greatest operators_after 0 drill_tokens) most_nested ≡ true
unfolding is_utf8 chars lib.Utf8.encode
few_operators = refl

program_read : read_program drill_tokens ≡ Some drill_tree
unfolding is_utf8 chars read_operator_line lib.Utf8.encode
program_read = refl

no_excess : first_excess drill_tree ≡ None
unfolding is_utf8 chars read_operator_line lib.Utf8.encode
no_excess = refl

pub drill_reads : IsRead drill_text drill_tree
drill_reads = record {
  bytes = omega arith;
  tokens = drill_tokens;
  divides = all_sound 225 drill_text drill_tokens tokens_read;
  spelled = are_spelled drill_tokens drill_tree (leb-true _ _ few_brackets) (leb-true _ _ few_operators) program_read no_excess;
}

pub drill_faultless : first_of (faults_of_program drill_tree) ≡ None
unfolding is_utf8 chars read_operator_line lib.Utf8.encode
drill_faultless = refl

-- so no check of it ends in a fault, unless memory runs out
pub has_no_fault
    : (tree : ProgramTree) (fault : CheckFault) → drill_tree ≡ tree → fault ≢ WantOfMemory → IsFirstFault fault (faults_of_program tree) → ⊥
has_no_fault tree fault same other first =
    let none : first_of (faults_of_program tree) ≡ None = subst (λ t. first_of (faults_of_program t) ≡ None) same drill_faultless in
    let some = first other in
    cc
