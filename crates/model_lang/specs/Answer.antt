-- What the reading of a program answers.
use Rattle.std.specs.Prelude.{◌≡◌, ◌≤◌, ℕ, List, Option, Some, None, Result, Ok, Err, Vec}
use Rattle.std.specs.Borrow.{Bor}
use Rattle.std.specs.declared.alloc.Global.{Global}
use Rattle.tea_base.specs.declared.want.WantOfMemory.{WantOfMemory as NoMemory}
use Rattle.model_tokens.specs.declared.token.Token.{Token}
use Rattle.model_tree.specs.declared.tree.Class.{Class}
use Rattle.model_tree.specs.declared.tree.Expr.{Expr}
use Rattle.model_lang.specs.declared.fault.LangFault.{LangFault}
use Rattle.model_lang.specs.declared.fault.LangFault.TheVariants.{Syntax, TooLarge, WantOfMemory}
use Rattle.model_lang.specs.declared.fault.ParseStop.{ParseStop}
use Rattle.model_lang.specs.declared.fault.ParseStop.TheVariants as stop
use Rattle.model_tree.specs.Tree.{Name, Expression, ClassTree}
use Rattle.model_tree.specs.TreeView.{program_tree, expression_tree}
use Rattle.model_tree.specs.Program.{IsSpelled, IsRead, ArePast, IsTooLarge, AreNoProgram, IsNoProgram}
use Rattle.model_lang.specs.Reader.{ParseResult}

-- the tree that the text is read as, or the refusal that it meets
abbrev pub Parses : Result (List Class) LangFault → List ℕ → Type 0
Parses (Ok classes) text = IsRead text (program_tree classes)
Parses (Err (TooLarge what count)) text = IsTooLarge what count text
Parses (Err (Syntax at)) text = IsNoProgram text
Parses (Err WantOfMemory) text = Unit {0}

-- the place of a refusal is one in a text of this length, or its end
abbrev pub IsPlaced : {A : Type 0} → Result A LangFault → ℕ → Type 0
IsPlaced (Err (Syntax at)) most = at ≤ most
IsPlaced _ most = Unit {0}

-- the tree that the tokens are read as, or the refusal that they meet
abbrev pub ParsesTokens : Result (Vec Class Global) LangFault → List Token → Type 0
ParsesTokens (Ok classes) ts = IsSpelled ts (program_tree classes.items)
ParsesTokens (Err (TooLarge what count)) ts = ArePast what count ts
ParsesTokens (Err (Syntax at)) ts = AreNoProgram ts
ParsesTokens (Err WantOfMemory) ts = Unit {0}

-- beside what the reader reads
abbrev pub ParsesPart : {A B : Type 0} → (A → B) → Result (A × Bor (List Token)) ParseStop → ParseResult B → Type 0
ParsesPart seen (Ok found) meant = meant ≡ Some (seen found.0, found.1.now)
ParsesPart seen (Err (stop.NoProgram left)) meant = meant ≡ None
ParsesPart seen (Err stop.WantOfMemory) meant = Unit {0}

-- a part that may be there or not, and needs no memory
abbrev pub Finds : {A : Type 0} → Option (A × Bor (List Token)) → ParseResult A → Type 0
Finds None meant = meant ≡ None
Finds (Some found) meant = meant ≡ Some (found.0, found.1.now)

-- a name that may be there or not
abbrev pub FindsName : Option (Bor Name × Bor (List Token)) → ParseResult Name → Type 0
FindsName None meant = meant ≡ None
FindsName (Some found) meant = meant ≡ Some (found.0.now, found.1.now)

abbrev pub IsBehind : Option (Bor (List Token)) → Option (List Token) → Type 0
IsBehind None meant = meant ≡ None
IsBehind (Some rest) meant = meant ≡ Some rest.now

abbrev pub Expects : Result (Bor (List Token)) ParseStop → Option (List Token) → Type 0
Expects (Ok rest) meant = meant ≡ Some rest.now
Expects (Err (stop.NoProgram left)) meant = meant ≡ None
Expects (Err stop.WantOfMemory) meant = ⊥

-- the same of a name
abbrev pub ExpectsName : Result (Bor Name × Bor (List Token)) ParseStop → ParseResult Name → Type 0
ExpectsName (Ok found) meant = meant ≡ Some (found.0.now, found.1.now)
ExpectsName (Err (stop.NoProgram left)) meant = meant ≡ None
ExpectsName (Err stop.WantOfMemory) meant = ⊥

abbrev pub Makes : Result Expr NoMemory → Expression → Type 0
Makes (Ok e) meant = expression_tree e ≡ meant
Makes (Err e) meant = Unit {0}

-- all the classes, where they are read
abbrev pub ReadsAll : Result (Vec Class Global) ParseStop → Option (List ClassTree) → Type 0
ReadsAll (Ok classes) meant = meant ≡ Some (program_tree classes.items)
ReadsAll (Err (stop.NoProgram left)) meant = meant ≡ None
ReadsAll (Err stop.WantOfMemory) meant = Unit {0}
