-- Programs as plain trees. A name is the list of its characters.
use Rattle.std.specs.Prelude.{ℕ, ℤ, Bool, List, [], ◌∷◌}
use Rattle.model_tree.specs.declared.tree.UnaryOp.{UnaryOp}
use Rattle.model_tree.specs.declared.tree.BinaryOp.{BinaryOp}

abbrev pub Name : Type 0
Name = List ℕ

mutual
  pub data Expression : Type 0 where
    nil : Expression
    bool : Bool → Expression
    int : ℤ → Expression
    text : List ℕ → Expression
    this : Expression
    local : Name → Expression
    field : Name → Expression
    list : Expressions → Expression
    unary : UnaryOp → Expression → Expression
    binary : BinaryOp → Expression → Expression → Expression
    builtin : Name → Expressions → Expression
    call : Expression → Name → Expressions → Expression
    future : Expression → Expression → Name → Expressions → Expression
    create : Name → Expression → Expression

  pub data Expressions : Type 0 where
    no_expressions : Expressions
    expression : Expression → Expressions → Expressions

mutual
  pub data Statement : Type 0 where
    declare : Name → Expression → Statement
    assign : Name → Expression → Statement
    set_field : Name → Expression → Statement
    when : Expression → Statements → Otherwise → Statement
    while : Expression → Statements → Statement
    give : Expression → Statement
    do_ : Expression → Statement

  pub data Statements : Type 0 where
    no_statements : Statements
    statement : Statement → Statements → Statements

  -- no `else` at all differs from one with an empty block
  pub data Otherwise : Type 0 where
    no_else : Otherwise
    else_block : Statements → Otherwise

-- the name of the class whose object a world begins with: `Root`
abbrev pub root_name : Name
root_name = 82 ∷ 111 ∷ 111 ∷ 116 ∷ []

pub record MethodTree : Type 0 where
  pub name : Name
  pub params : List Name
  pub body : Statements

pub record ClassTree : Type 0 where
  pub name : Name
  pub fields : List Name
  pub methods : List MethodTree

-- the classes of a program, in their order
abbrev pub ProgramTree : Type 0
ProgramTree = List ClassTree

abbrev pub expressions_of : List Expression → Expressions
expressions_of [] = no_expressions
expressions_of (e ∷ es) = expression e (expressions_of es)

abbrev pub statements_of : List Statement → Statements
statements_of [] = no_statements
statements_of (s ∷ ss) = statement s (statements_of ss)
