-- Symbols and comments: what is read of them.
use Rattle.std.proofs.Common.{◌≡◌, ℕ, Bool, true, false, ◌&&◌, cond, List, [], ◌∷◌, ◌++◌, Option, Some, None, refl, ap, subst, arith}
use Rattle.std.specs.Prelude.{◌==◌}
use Rattle.std.specs.List.{AllByRecursion}
use Rattle.std.proofs.lemmas.Bool.Decides.{nat_tests}
use Rattle.model_tokens.specs.Spelling.{spelled_symbol}
use Rattle.model_tokens.specs.Division.{a_token, EndsBefore, symbol_goes_on}
use Rattle.model_tokens.specs.Reader.{single_among, singles, double_of, single_at, double_or, symbol_at, comment_at, next_piece}
use Rattle.model_tokens.specs.declared.token.Token.TheVariants as token
use Rattle.model_tokens.specs.declared.token.Symbol.{Symbol}
use Rattle.model_tokens.specs.declared.token.Symbol.TheVariants as symbol
use Rattle.model_tokens.proofs.Lists.{both}

pub symbol_next : (s : Symbol) (rest : List ℕ) → EndsBefore (symbol_goes_on s) rest → next_piece (spelled_symbol s ++ rest) ≡ Some (a_token (token.Symbol s), rest)
symbol_next symbol.OpenBrace [] ends = refl
symbol_next symbol.OpenBrace (b ∷ rest) ends = refl
symbol_next symbol.CloseBrace [] ends = refl
symbol_next symbol.CloseBrace (b ∷ rest) ends = refl
symbol_next symbol.OpenRound [] ends = refl
symbol_next symbol.OpenRound (b ∷ rest) ends = refl
symbol_next symbol.CloseRound [] ends = refl
symbol_next symbol.CloseRound (b ∷ rest) ends = refl
symbol_next symbol.OpenSquare [] ends = refl
symbol_next symbol.OpenSquare (b ∷ rest) ends = refl
symbol_next symbol.CloseSquare [] ends = refl
symbol_next symbol.CloseSquare (b ∷ rest) ends = refl
symbol_next symbol.Comma [] ends = refl
symbol_next symbol.Comma (b ∷ rest) ends = refl
symbol_next symbol.Semicolon [] ends = refl
symbol_next symbol.Semicolon (b ∷ rest) ends = refl
symbol_next symbol.Dot [] ends = refl
symbol_next symbol.Dot (b ∷ rest) ends = refl
symbol_next symbol.Assign [] ends = refl
symbol_next symbol.Assign (b ∷ rest) ends = rw ends refl
symbol_next symbol.Same rest ends = refl
symbol_next symbol.Differs rest ends = refl
symbol_next symbol.Less [] ends = refl
symbol_next symbol.Less (b ∷ rest) ends = rw ends refl
symbol_next symbol.AtMost rest ends = refl
symbol_next symbol.Greater [] ends = refl
symbol_next symbol.Greater (b ∷ rest) ends = rw ends refl
symbol_next symbol.AtLeast rest ends = refl
symbol_next symbol.Plus [] ends = refl
symbol_next symbol.Plus (b ∷ rest) ends = refl
symbol_next symbol.Minus [] ends = refl
symbol_next symbol.Minus (b ∷ rest) ends = refl
symbol_next symbol.Times [] ends = refl
symbol_next symbol.Times (b ∷ rest) ends = refl
symbol_next symbol.Divide [] ends = refl
symbol_next symbol.Divide (b ∷ rest) ends = rw ends refl
symbol_next symbol.Rest [] ends = refl
symbol_next symbol.Rest (b ∷ rest) ends = refl
symbol_next symbol.Not [] ends = refl
symbol_next symbol.Not (b ∷ rest) ends = rw ends refl
symbol_next symbol.And rest ends = refl
symbol_next symbol.Or rest ends = refl

-- ---- one byte

-- what the table of single symbols says of a row, where no double symbol and no comment begins
pub record RowHolds (byte : ℕ) (s : Symbol) : Type 0 where
  pub spells : spelled_symbol s ≡ byte ∷ []
  pub ends : (c : ℕ) → double_of byte c ≡ None → (byte == 47 && c == 47) ≡ false → symbol_goes_on s c ≡ false

no_double : (s : Symbol) (b : Bool) → cond b (Some s) None ≡ None → b ≡ false
no_double s true h = cc
no_double s false h = refl

rows_hold : AllByRecursion (λ row. RowHolds row.0 row.1) singles
rows_hold = (
  record { spells = refl; ends = λ c double comment. refl },
  (
    record { spells = refl; ends = λ c double comment. refl },
    (
      record { spells = refl; ends = λ c double comment. refl },
      (
        record { spells = refl; ends = λ c double comment. refl },
        (
          record { spells = refl; ends = λ c double comment. refl },
          (
            record { spells = refl; ends = λ c double comment. refl },
            (
              record { spells = refl; ends = λ c double comment. refl },
              (
                record { spells = refl; ends = λ c double comment. refl },
                (
                  record { spells = refl; ends = λ c double comment. refl },
                  (
                    record { spells = refl; ends = λ c double comment. no_double symbol.Same (c == 61) double },
                    (
                      record { spells = refl; ends = λ c double comment. no_double symbol.AtMost (c == 61) double },
                      (
                        record { spells = refl; ends = λ c double comment. no_double symbol.AtLeast (c == 61) double },
                        (
                          record { spells = refl; ends = λ c double comment. refl },
                          (
                            record { spells = refl; ends = λ c double comment. refl },
                            (
                              record { spells = refl; ends = λ c double comment. refl },
                              (
                                record { spells = refl; ends = λ c double comment. comment },
                                (
                                  record { spells = refl; ends = λ c double comment. refl },
                                  (
                                    record { spells = refl; ends = λ c double comment. no_double symbol.Differs (c == 61) double },
                                    tt,
                                  ),
                                ),
                              ),
                            ),
                          ),
                        ),
                      ),
                    ),
                  ),
                ),
              ),
            ),
          ),
        ),
      ),
    ),
  ),
)

single_if : (row : ℕ × Symbol) (rows : List (ℕ × Symbol)) (byte : ℕ) (s : Symbol) → RowHolds row.0 row.1 → (single_among rows byte ≡ Some s → RowHolds byte s) → (b : Bool) → (byte == row.0) ≡ b → cond b (Some row.1) (single_among rows byte) ≡ Some s → RowHolds byte s
single_if row rows byte s here later true e h =
    let same : row.1 ≡ s = cc in
    let at : row.0 ≡ byte = grind (arith, nat_tests) in
    subst (λ n. RowHolds n s) at (subst (λ t. RowHolds row.0 t) same here)
single_if row rows byte s here later false e h = later h

single_holds : (rows : List (ℕ × Symbol)) (byte : ℕ) (s : Symbol) → AllByRecursion (λ row. RowHolds row.0 row.1) rows → single_among rows byte ≡ Some s → RowHolds byte s
single_holds [] byte s all h = cc
single_holds (row ∷ rows) byte s all h = single_if row rows byte s all.0 (single_holds rows byte s all.1) (byte == row.0) refl h

-- ---- two bytes

record Doubled (first second : ℕ) (s : Symbol) : Type 0 where
  pub spells : spelled_symbol s ≡ first ∷ second ∷ []
  pub ends : (c : ℕ) → symbol_goes_on s c ≡ false

doubled : (first second x y : ℕ) (s t : Symbol) → (first == x && second == y) ≡ true → ◌≡◌ {A = Option Symbol} (Some s) (Some t) → Doubled x y s → Doubled first second t
doubled first second x y s t test h here =
    let each = both (first == x) (second == y) test in
    let a : x ≡ first = grind (arith, nat_tests) in
    let b : y ≡ second = grind (arith, nat_tests) in
    let same : s ≡ t = cc in
    subst (λ n. Doubled n second t) a (subst (λ n. Doubled x n t) b (subst (λ u. Doubled x y u) same here))

double_if : (f c : ℕ) (t : Symbol) (a b d e g h : Bool) → (f == 61 && c == 61) ≡ a → (f == 33 && c == 61) ≡ b → (f == 60 && c == 61) ≡ d → (f == 62 && c == 61) ≡ e → (f == 38 && c == 38) ≡ g → (f == 124 && c == 124) ≡ h
    → cond a (Some symbol.Same) (cond b (Some symbol.Differs) (cond d (Some symbol.AtMost) (cond e (Some symbol.AtLeast) (cond g (Some symbol.And) (cond h (Some symbol.Or) None))))) ≡ Some t → Doubled f c t
double_if f c t true b d e g h ha hb hd he hg hh is = doubled f c 61 61 symbol.Same t ha is (record { spells = refl; ends = λ c. refl })
double_if f c t false true d e g h ha hb hd he hg hh is = doubled f c 33 61 symbol.Differs t hb is (record { spells = refl; ends = λ c. refl })
double_if f c t false false true e g h ha hb hd he hg hh is = doubled f c 60 61 symbol.AtMost t hd is (record { spells = refl; ends = λ c. refl })
double_if f c t false false false true g h ha hb hd he hg hh is = doubled f c 62 61 symbol.AtLeast t he is (record { spells = refl; ends = λ c. refl })
double_if f c t false false false false true h ha hb hd he hg hh is = doubled f c 38 38 symbol.And t hg is (record { spells = refl; ends = λ c. refl })
double_if f c t false false false false false true ha hb hd he hg hh is = doubled f c 124 124 symbol.Or t hh is (record { spells = refl; ends = λ c. refl })
double_if f c t false false false false false false ha hb hd he hg hh is = cc

double_holds : (f c : ℕ) (t : Symbol) → double_of f c ≡ Some t → Doubled f c t
double_holds f c t is = double_if f c t (f == 61 && c == 61) (f == 33 && c == 61) (f == 60 && c == 61) (f == 62 && c == 61) (f == 38 && c == 38) (f == 124 && c == 124) refl refl refl refl refl refl is

-- ---- the symbol at the front

pub record SymbolRead (text : List ℕ) (s : Symbol) (rest : List ℕ) : Type 0 where
  pub whole : spelled_symbol s ++ rest ≡ text
  pub ends : EndsBefore (symbol_goes_on s) rest

same_found : (s t : Symbol) (a b : List ℕ) → ◌≡◌ {A = Option (Symbol × List ℕ)} (Some (s, a)) (Some (t, b)) → (s ≡ t) × (a ≡ b)
same_found s t a b h =
    let p : ◌≡◌ {A = Symbol × List ℕ} (s, a) (t, b) = cc in
    (ap (λ q. q.0) p, ap (λ q. q.1) p)

moved : (text a rest : List ℕ) (s t : Symbol) → s ≡ t → a ≡ rest → SymbolRead text s a → SymbolRead text t rest
moved text a rest s t e f h = subst (λ u. SymbolRead text u rest) e (subst (λ b. SymbolRead text s b) f h)

ends_any : (s : Symbol) (rest : List ℕ) → ((c : ℕ) → symbol_goes_on s c ≡ false) → EndsBefore (symbol_goes_on s) rest
ends_any s [] h = tt
ends_any s (c ∷ rest) h = h c

last_read : (byte : ℕ) (s : Symbol) (rest : List ℕ) (found : Option Symbol) → single_among singles byte ≡ found → single_at byte [] found ≡ Some (s, rest) → SymbolRead (byte ∷ []) s rest
last_read byte s rest None e h = cc
last_read byte s rest (Some t) e h =
    let p = same_found t s [] rest h in
    let row = single_holds singles byte t rows_hold e in
    moved (byte ∷ []) [] rest t s p.0 p.1 (record { whole = ap (λ xs. xs ++ []) row.spells; ends = tt })

single_read : (first second : ℕ) (behind : List ℕ) (s : Symbol) (rest : List ℕ) (found : Option Symbol) → single_among singles first ≡ found → single_at first (second ∷ behind) found ≡ Some (s, rest) → double_of first second ≡ None → (first == 47 && second == 47) ≡ false → SymbolRead (first ∷ second ∷ behind) s rest
single_read first second behind s rest None e h double comment = cc
single_read first second behind s rest (Some t) e h double comment =
    let p = same_found t s (second ∷ behind) rest h in
    let row = single_holds singles first t rows_hold e in
    moved (first ∷ second ∷ behind) (second ∷ behind) rest t s p.0 p.1 (record { whole = ap (λ xs. xs ++ second ∷ behind) row.spells; ends = row.ends second double comment })

double_read : (first second : ℕ) (behind : List ℕ) (s : Symbol) (rest : List ℕ) (found : Option Symbol) → double_of first second ≡ found → double_or found first second behind ≡ Some (s, rest) → (first == 47 && second == 47) ≡ false → SymbolRead (first ∷ second ∷ behind) s rest
double_read first second behind s rest None e h comment = single_read first second behind s rest (single_among singles first) refl h e comment
double_read first second behind s rest (Some t) e h comment =
    let p = same_found t s behind rest h in
    let both_bytes = double_holds first second t e in
    moved (first ∷ second ∷ behind) behind rest t s p.0 p.1 (record { whole = ap (λ xs. xs ++ behind) both_bytes.spells; ends = ends_any t behind both_bytes.ends })

no_comment : (b : Bool) (rest : List ℕ) → cond b (Some rest) None ≡ None → b ≡ false
no_comment true rest h = cc
no_comment false rest h = refl

pub symbol_read : (text : List ℕ) (s : Symbol) (rest : List ℕ) → comment_at text ≡ None → symbol_at text ≡ Some (s, rest) → SymbolRead text s rest
symbol_read [] s rest comment h = cc
symbol_read (byte ∷ []) s rest comment h = last_read byte s rest (single_among singles byte) refl h
symbol_read (first ∷ second ∷ behind) s rest comment h = double_read first second behind s rest (double_of first second) refl h (no_comment (first == 47 && second == 47) behind comment)

comment_if : (first second : ℕ) (behind line : List ℕ) (b : Bool) → (first == 47 && second == 47) ≡ b → cond b (Some behind) None ≡ Some line → first ∷ second ∷ behind ≡ 47 ∷ 47 ∷ line
comment_if first second behind line true e h =
    let each = both (first == 47) (second == 47) e in
    let a : first ≡ 47 = grind (arith, nat_tests) in
    let b : second ≡ 47 = grind (arith, nat_tests) in
    let c : behind ≡ line = cc in
    rw (a, b, c) refl
comment_if first second behind line false e h = cc

pub comment_read : (text line : List ℕ) → comment_at text ≡ Some line → text ≡ 47 ∷ 47 ∷ line
comment_read [] line h = cc
comment_read (byte ∷ []) line h = cc
comment_read (first ∷ second ∷ behind) line h = comment_if first second behind line (first == 47 && second == 47) refl h
