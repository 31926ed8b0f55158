-- The plain tree of a value of each kind.
use Rattle.std.proofs.Common.{◌≡◌, ℕ, Bool, List, Vec, Global, sym, ap, ◌∙◌}
use Rattle.std.specs.Prelude.{ℤ}
use Rattle.model_value.specs.Plain.{PlainValue, nil, bool, int, text, list}
use Rattle.model_value.specs.View.{plain, plains, plain_step}
use Rattle.model_value.specs.declared.value.Value.{Value, fold-roll-Value}
use Rattle.model_value.specs.declared.value.Value.TheOpen.{Value-F}
use Rattle.model_value.specs.declared.value.Value.TheVariants.{Nil, Bool as Flag, Int, Text, List as Items, rolls-Nil, rolls-Bool, rolls-Int, rolls-Text, rolls-List}

pub plain-Nil : plain Nil ≡ nil
plain-Nil = ap plain (sym rolls-Nil) ∙ fold-roll-Value PlainValue plain_step Value-F.Nil

pub plain-Bool : (flag : Bool) → plain (Flag flag) ≡ bool flag
plain-Bool flag = ap plain (sym (rolls-Bool flag)) ∙ fold-roll-Value PlainValue plain_step (Value-F.Bool flag)

pub plain-Int : (n : ℤ) → plain (Int n) ≡ int n
plain-Int n = ap plain (sym (rolls-Int n)) ∙ fold-roll-Value PlainValue plain_step (Value-F.Int n)

pub plain-Text : (characters : List ℕ) → plain (Text characters) ≡ text characters
plain-Text characters = ap plain (sym (rolls-Text characters)) ∙ fold-roll-Value PlainValue plain_step (Value-F.Text characters)

pub plain-List : (items : Vec Value Global) → plain (Items items) ≡ list (plains items.items)
plain-List items = ap plain (sym (rolls-List items)) ∙ fold-roll-Value PlainValue plain_step (Value-F.List items)
