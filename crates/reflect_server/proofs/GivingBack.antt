-- Links that go back to their net, in the order in which they were accepted.
use Rattle.std.proofs.Common.{◌≡◌, List, [], ◌∷◌, ◌++◌, length, map, Option, refl, sym, ap, ◌∙◌, append_assoc}
use Rattle.std.proofs.lemmas.List.{length-map, length-reverse, reverse-append, reverse-reverse}
use Rattle.std.specs.Prelude.{reverse}
use Rattle.tea_io.specs.Told.{with_more}
use Rattle.tea_io.specs.Nets.{plus}
use Rattle.tea_io.specs.Links.{Counts}
use Rattle.connection.specs.declared.ending.Ended.{Ended}
use Rattle.connection.proofs.Talking.{with_more_twice}
use Rattle.reflect_server.specs.declared.accepting.ServedLink.{ServedLink}
use Rattle.reflect_server.specs.Connections.{ServedConnection, ends_of, returned_links}
use Rattle.reflect_server.specs.Rounds.{ended_of, links_of, served_back, served_of, with_links}

-- ---- the last one that was put there is the next one that goes back

last_first : {A B : Type 0} (f : A → B) (rest : List A) (last : A) → map f (reverse (rest ++ last ∷ [])) ≡ f last ∷ map f (reverse rest)
last_first f rest last = ap (map f) (reverse-append rest (last ∷ []))

module _ {L : Type 0} (all rest : List (ServedLink L)) (link : L) (ended : Ended) (is : all ≡ rest ++ record { link = link; ended = ended } ∷ []) where
  first_link : links_of all ≡ link ∷ links_of rest
  first_link = ap links_of is ∙ last_first (λ (one : ServedLink L). one.link) rest (record { link = link; ended = ended })

  first_ended : ended_of all ≡ ended ∷ ended_of rest
  first_ended = ap ended_of is ∙ last_first (λ (one : ServedLink L). one.ended) rest (record { link = link; ended = ended })

  pub ends_next : (before now : List Ended) → now ≡ before ++ ended ∷ [] → now ++ ended_of rest ≡ before ++ ended_of all
  ends_next before now one =
      ap (λ (l : List Ended). l ++ ended_of rest) one
      ∙ (append_assoc before (ended ∷ []) (ended_of rest)
      ∙ ap (λ (l : List Ended). before ++ l) (sym first_ended))

  pub over_next : (before now : Option (List L)) → now ≡ with_more before (link ∷ []) → with_more now (links_of rest) ≡ with_more before (links_of all)
  over_next before now one =
      ap (λ (o : Option (List L)). with_more o (links_of rest)) one
      ∙ (with_more_twice before (link ∷ []) (links_of rest)
      ∙ ap (with_more before) (sym first_link))

  pub counts_next : (counts : L → Counts) (before now : Counts) → now ≡ plus before (counts link)
      → with_links counts now (links_of rest) ≡ with_links counts before (links_of all)
  counts_next counts before now one = ap (λ (c : Counts). with_links counts c (links_of rest)) one ∙ ap (with_links counts before) (sym first_link)

-- ---- those of a round

map_map : {A B C : Type 0} (f : A → B) (h : B → C) (xs : List A) → map h (map f xs) ≡ map (λ x. h (f x)) xs
map_map f h [] = refl
map_map f h (x ∷ xs) = ap (λ l. h (f x) ∷ l) (map_map f h xs)

pub links_of_round : {L : Type 0} (served : List (ServedLink L)) (connections : List (ServedConnection L)) → served ≡ served_back connections
    → links_of served ≡ returned_links connections
links_of_round served connections is =
    ap links_of is
    ∙ (ap (map (λ one. one.link)) (reverse-reverse (map served_of connections))
    ∙ map_map served_of (λ one. one.link) connections)

pub ends_of_round : {L : Type 0} (served : List (ServedLink L)) (connections : List (ServedConnection L)) → served ≡ served_back connections
    → ended_of served ≡ ends_of connections
ends_of_round served connections is =
    ap ended_of is
    ∙ (ap (map (λ one. one.ended)) (reverse-reverse (map served_of connections))
    ∙ map_map served_of (λ one. one.ended) connections)

pub round_length : {L : Type 0} (served : List (ServedLink L)) (connections : List (ServedConnection L)) → served ≡ served_back connections → length served ≡ length connections
round_length served connections is =
    ap length is ∙ (length-reverse (map served_of connections) ∙ length-map connections served_of)
