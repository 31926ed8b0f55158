-- The canonical text of a program is read as that program.
use Rattle.std.proofs.Common.{ℕ, ◌≤◌, ◌<◌, false, List, [], ◌∷◌, length, map, refl, ap, subst, arith}
use Rattle.std.proofs.lemmas.List.{length-map}
use Rattle.model_tokens.specs.declared.token.Token.{Token}
use Rattle.model_tokens.specs.declared.token.Token.TheVariants.{Symbol as symbol}
use Rattle.model_tokens.specs.declared.token.Symbol.TheVariants as s
use Rattle.model_tokens.specs.Division.{Piece, blank, comment, a_token, ArePieces, tokens_of, Divides}
use Rattle.model_tree.specs.Tree.{ProgramTree}
use Rattle.model_tree.specs.Grammar.{tree_of_class, classes_spelling, Derives}
use Rattle.model_tree.specs.Program.{IsSpelled, IsRead, IsProgram}
use Rattle.model_print.specs.Canonical.{class_form, canonical_tokens, canonical_text}
use Rattle.model_print.proofs.Written.{classes-stand, trees-classes}
use Rattle.model_print.proofs.Shedding.{Sheds, classes_shed}
use Rattle.model_print.proofs.ShedCounts.{AreTokens, tokens_shed, nests_shed, counts_shed}
use Rattle.model_print.proofs.Neighbours.{Chain, classes_chain}
use Rattle.model_print.proofs.Spaced.{text-divides}
use Rattle.model_print.proofs.Shortest.{shorter_sheds, text_is_shortest}

-- the canonical tokens and any others of the tree
canonical_sheds : {M : List Token → List Token → Type 0} (m : Sheds M) (ts : List Token) (tree : ProgramTree) → Derives ts tree → M (canonical_tokens tree) ts
canonical_sheds {M = M} m ts tree d =
    subst (M (canonical_tokens tree)) d.3 (subst (λ t. M (canonical_tokens t) (classes_spelling d.0)) d.4 (classes_shed m d.0 d.2))

canonical_derives : (ts : List Token) (tree : ProgramTree) → Derives ts tree → Derives (canonical_tokens tree) tree
canonical_derives ts tree d =
    let some : 0 < length (map class_form tree) =
    omega (arith, d.1, ap length d.4, length-map d.0 tree_of_class, length-map tree class_form) in
    (map class_form tree, some, classes-stand tree, refl, trees-classes tree)

pieces_are : (pieces : List Piece) → ArePieces pieces → AreTokens (tokens_of pieces)
pieces_are [] h = tt
pieces_are (blank b ∷ pieces) h = pieces_are pieces h.2
pieces_are (comment bs ∷ pieces) h = pieces_are pieces h.2
pieces_are (a_token t ∷ pieces) h = (h.0, pieces_are pieces h.2)

divided_are : (ts : List Token) (text : List ℕ) → Divides ts text → AreTokens ts
divided_are ts text d = subst AreTokens d.3 (pieces_are d.0 d.1)

canonical_are : (text : List ℕ) (tree : ProgramTree) → IsRead text tree → AreTokens (canonical_tokens tree)
canonical_are text tree read = canonical_sheds tokens_shed read.tokens tree read.spelled.derives (divided_are read.tokens text read.divides)

-- each token of the canonical text can be spelled
pub canonical-tokens : (tree : ProgramTree) → IsProgram tree → AreTokens (canonical_tokens tree)
canonical-tokens tree p = canonical_are p.0 tree p.1

canonical_spelled : (ts : List Token) (tree : ProgramTree) → IsSpelled ts tree → IsSpelled (canonical_tokens tree) tree
canonical_spelled ts tree h =
    let nests = canonical_sheds nests_shed ts tree h.derives in
    let counts = canonical_sheds counts_shed ts tree h.derives in
    record {
      brackets = omega (arith, nests.less 0 0 (omega arith), h.brackets);
      operators = omega (arith, counts.less 0, h.operators);
      derives = canonical_derives ts tree h.derives;
      fits = h.fits;
    }

pub canonical-short : (text : List ℕ) (tree : ProgramTree) → IsRead text tree → length (canonical_text tree) ≤ length text
canonical-short text tree read =
    let derives = read.spelled.derives in
    let shorter = canonical_sheds shorter_sheds read.tokens tree derives false false in
    let chain = subst (Chain (symbol s.Semicolon)) derives.3 (classes_chain derives.0) in
    omega (arith, shorter, text_is_shortest read.tokens text chain read.divides)

canonical_read : (text : List ℕ) (tree : ProgramTree) → IsRead text tree → IsRead (canonical_text tree) tree
canonical_read text tree read = record {
  bytes = omega (arith, canonical-short text tree read, read.bytes);
  tokens = canonical_tokens tree;
  divides = text-divides (symbol s.Semicolon) (canonical_tokens tree) (classes_chain (map class_form tree)) (canonical_are text tree read);
  spelled = canonical_spelled read.tokens tree read.spelled;
}

pub canonical-reads : (tree : ProgramTree) → IsProgram tree → IsRead (canonical_text tree) tree
canonical-reads tree p = canonical_read p.0 tree p.1
