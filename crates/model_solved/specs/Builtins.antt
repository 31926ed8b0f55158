-- The builtins of the language: how each is named, and how many arguments it takes.
use Rattle.std.specs.Prelude.{ℕ, List, [], ◌∷◌, Option, find, bytes_eq, codes}
use Rattle.model_tree.specs.Tree.{Name}
use Rattle.model_solved.specs.declared.builtin.Builtin.{Builtin}
use Rattle.model_solved.specs.declared.builtin.Builtin.TheVariants as builtin

abbrev pub builtin_spelling : Builtin → Name
builtin_spelling builtin.Now = codes "now"
builtin_spelling builtin.Random = codes "random"
builtin_spelling builtin.ViewCount = codes "viewCount"
builtin_spelling builtin.Views = codes "views"
builtin_spelling builtin.SessionId = codes "sessionId"
builtin_spelling builtin.Known = codes "known"
builtin_spelling builtin.BeKnown = codes "beKnown"
builtin_spelling builtin.Exists = codes "exists"
builtin_spelling builtin.Destroy = codes "destroy"
builtin_spelling builtin.Publish = codes "publish"
builtin_spelling builtin.Subscribe = codes "subscribe"
builtin_spelling builtin.Unsubscribe = codes "unsubscribe"
builtin_spelling builtin.Cancel = codes "cancel"
builtin_spelling builtin.Persist = codes "persist"
builtin_spelling builtin.Length = codes "length"
builtin_spelling builtin.At = codes "at"
builtin_spelling builtin.Put = codes "put"
builtin_spelling builtin.Push = codes "push"
builtin_spelling builtin.Slice = codes "slice"
builtin_spelling builtin.Concat = codes "concat"
builtin_spelling builtin.Text = codes "text"
builtin_spelling builtin.Number = codes "number"
builtin_spelling builtin.Compare = codes "compare"

abbrev pub arguments_of : Builtin → ℕ
arguments_of builtin.Now = 0
arguments_of builtin.Random = 1
arguments_of builtin.ViewCount = 0
arguments_of builtin.Views = 0
arguments_of builtin.SessionId = 0
arguments_of builtin.Known = 1
arguments_of builtin.BeKnown = 1
arguments_of builtin.Exists = 1
arguments_of builtin.Destroy = 1
arguments_of builtin.Publish = 3
arguments_of builtin.Subscribe = 3
arguments_of builtin.Unsubscribe = 3
arguments_of builtin.Cancel = 1
arguments_of builtin.Persist = 1
arguments_of builtin.Length = 1
arguments_of builtin.At = 2
arguments_of builtin.Put = 3
arguments_of builtin.Push = 2
arguments_of builtin.Slice = 3
arguments_of builtin.Concat = 2
arguments_of builtin.Text = 1
arguments_of builtin.Number = 1
arguments_of builtin.Compare = 2

abbrev pub builtins : List Builtin
builtins =
    builtin.Now ∷ builtin.Random ∷ builtin.ViewCount ∷ builtin.Views ∷ builtin.SessionId ∷ builtin.Known
    ∷ builtin.BeKnown ∷ builtin.Exists ∷ builtin.Destroy ∷ builtin.Publish ∷ builtin.Subscribe ∷ builtin.Unsubscribe
    ∷ builtin.Cancel ∷ builtin.Persist ∷ builtin.Length ∷ builtin.At ∷ builtin.Put ∷ builtin.Push ∷ builtin.Slice
    ∷ builtin.Concat ∷ builtin.Text ∷ builtin.Number ∷ builtin.Compare ∷ []

-- the builtin of that name, if there is one
abbrev pub builtin_named : Name → Option Builtin
builtin_named x = find (λ b. bytes_eq x (builtin_spelling b)) builtins
