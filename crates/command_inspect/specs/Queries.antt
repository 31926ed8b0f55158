-- The grammar of queries, over plain lists: lines and words. Texts are seen as their UTF-8.
use Rattle.std.specs.Prelude.{ℕ, ◌<◌, if◌then◌else◌, List, [], ◌∷◌, ◌++◌, Option, Some, None, codes}
use Rattle.std.specs.Option.{option_map}
use Rattle.std.specs.List.{AllByRecursion}
use Rattle.std.specs.Str.{bytes_eq, is_utf8}
use Rattle.std.specs.Str.Lines.{lines}
use Rattle.tea_base.specs.Limits.{time_limit}
use Rattle.text_lines.specs.Lines.{LineWord, is_skipped, words_of, time_of_word}
use Rattle.command_inspect.specs.declared.query.Query.{Query}
use Rattle.command_inspect.specs.declared.query.Query.TheVariants.{At, Full}

-- the time that is asked about
abbrev pub time_of : Query → ℕ
time_of (At time) = time
time_of (Full time) = time

-- it is named by a time of a session
abbrev pub IsTimed : Query → Type 0
IsTimed query = time_of query < time_limit

-- what is so of the queries of each text
abbrev pub AreTimed : List Query → Type 0
AreTimed = AllByRecursion IsTimed

-- the query of a name and a time: one row for each
abbrev pub named_query : LineWord → LineWord → Option Query
named_query name time =
    if bytes_eq name (codes "at") then option_map At (time_of_word time)
    else (if bytes_eq name (codes "full") then option_map Full (time_of_word time)
    else None)

-- `at TIME`, `full TIME`
abbrev pub query_of : List LineWord → Option Query
query_of (name ∷ time ∷ []) = named_query name time
query_of words = None

-- these queries, and then those
abbrev pub then_queries : List Query → Option (List Query) → Option (List Query)
then_queries front None = None
then_queries front (Some rest) = Some (front ++ rest)

abbrev pub then_query : Option Query → Option (List Query) → Option (List Query)
then_query None rest = None
then_query (Some query) rest = then_queries (query ∷ []) rest

-- the queries of these lines, where each that is not skipped is one
abbrev pub queries_in : List (List ℕ) → Option (List Query)
queries_in [] = Some []
queries_in (line ∷ more) = if is_skipped line then queries_in more
    else then_query (query_of (words_of line)) (queries_in more)

-- the queries of a text: UTF-8, in lines
abbrev pub queries_of : List ℕ → Option (List Query)
queries_of bytes = if is_utf8 bytes then queries_in (lines bytes) else None
