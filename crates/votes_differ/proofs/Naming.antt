-- What an event names by its payload does not depend on where it is.
use Rattle.std.proofs.Common.{ℕ, ◌≡◌, Bool, true, false, cond, List, Option, Some, None, refl, sym, ap, ◌∙◌}
use Rattle.std.specs.Option.{option_map}
use Rattle.std.specs.Str.{encode_utf8_all}
use Rattle.std.proofs.lemmas.Option.{none-some}
use Rattle.tea_base.specs.declared.entry.Entry.{Entry}
use Rattle.tea_base.specs.declared.entry.What.{What}
use Rattle.tea_base.specs.declared.entry.What.TheVariants.{Join, Exit, Event}
use Rattle.model_value.specs.Payload.{PlainPayload, whole_payload}
use Rattle.model_value.specs.Plain.{PlainValue, int, text, list, PlainValues, no_items, item}
use Rattle.vote_book.specs.VoteBook.{Ballot, ballot}
use Rattle.command_votes.specs.declared.reading.Named.{Named}
use Rattle.command_votes.specs.VoteForm.{IsEventWith}
use Rattle.command_votes.specs.VoteRead.{digest_of, entry_before, if_named, is_of_votes, named_by, named_by_items, named_by_pair, named_in, vote_in, vote_of}

digest_named : (at : Option ℕ) (digest : Option (List ℕ)) (named : Named) → if_named at digest ≡ Some named → digest ≡ Some named.digest
digest_named None digest named is = absurd (none-some named is)
digest_named (Some at) None named is = absurd (none-some named is)
digest_named (Some at) (Some digest) named is = let one : record { at = at; digest = digest } ≡ named = cc in ap (λ (n : Named). Some n.digest) one

one_digest : (found : Option (List ℕ)) (first second : List ℕ) → found ≡ Some first → found ≡ Some second → first ≡ second
one_digest found first second is also = cc

by_pair : (s t : ℕ) (number digits : PlainValue) (one two : Named) → named_by_pair s number digits ≡ Some one → named_by_pair t number digits ≡ Some two → one.digest ≡ two.digest
by_pair s t (int number) (text digits) one two is also =
    one_digest (digest_of (encode_utf8_all digits)) one.digest two.digest (digest_named (entry_before s number) (digest_of (encode_utf8_all digits)) one is) (digest_named (entry_before t number) (digest_of (encode_utf8_all digits)) two also)
by_pair s t number digits one two is also = absurd (none-some one is)

by_items : (s t : ℕ) (items : PlainValues) (one two : Named) → named_by_items s items ≡ Some one → named_by_items t items ≡ Some two → one.digest ≡ two.digest
by_items s t no_items one two is also = absurd (none-some one is)
by_items s t (item number no_items) one two is also = absurd (none-some one is)
by_items s t (item number (item digits no_items)) one two is also = by_pair s t number digits one two is also
by_items s t (item number (item digits (item more rest))) one two is also = absurd (none-some one is)

by_value : (s t : ℕ) (value : PlainValue) (one two : Named) → named_by s value ≡ Some one → named_by t value ≡ Some two → one.digest ≡ two.digest
by_value s t (list items) one two is also = by_items s t items one two is also
by_value s t value one two is also = absurd (none-some one is)

by_event : (b : Bool) (s t : ℕ) (value : PlainValue) (one two : Named) → cond b (named_by s value) None ≡ Some one → cond b (named_by t value) None ≡ Some two → one.digest ≡ two.digest
by_event true s t value one two is also = by_value s t value one two is also
by_event false s t value one two is also = absurd (none-some one is)

by_payload : (s t : ℕ) (payload : Option PlainPayload) (one two : Named) → named_in s payload ≡ Some one → named_in t payload ≡ Some two → one.digest ≡ two.digest
by_payload s t None one two is also = absurd (none-some one is)
by_payload s t (Some payload) one two is also = by_event (is_of_votes payload) s t payload.value one two is also

-- ---- votes

-- what an event with these bytes names is the digest of its vote
record NamesOf (seq : ℕ) (bytes digest : List ℕ) : Type 0 where
  named : Named
  is : named_in seq (whole_payload bytes) ≡ Some named
  digest_is : named.digest ≡ digest

named_of : (seq view : ℕ) (found : Option Named) (vote : Ballot) → option_map (λ (n : Named). ballot seq view n.at n.digest) found ≡ Some vote → (named : Named) × (found ≡ Some named) × (named.digest ≡ vote.digest)
named_of seq view None vote is = absurd (none-some vote is)
named_of seq view (Some named) vote is = let one : ballot seq view named.at named.digest ≡ vote = cc in (named, refl, ap (λ (b : Ballot). b.digest) one)

names_if : (seq view : ℕ) (bytes : List ℕ) (what : What) (vote : Ballot) → IsEventWith bytes what → vote_in seq view what ≡ Some vote → NamesOf seq bytes vote.digest
names_if seq view bytes Join vote spelled is = absurd spelled
names_if seq view bytes Exit vote spelled is = absurd spelled
names_if seq view bytes (Event number payload) vote spelled is =
    let of = named_of seq view (named_in seq (whole_payload payload)) vote is in
    record { named = of.0; is = ap (λ (p : List ℕ). named_in seq (whole_payload p)) (sym spelled) ∙ of.1; digest_is = of.2 }

-- two votes with one payload name one digest
pub same_digest : (bytes : List ℕ) (first second : Entry) (one two : Ballot) → IsEventWith bytes first.what → IsEventWith bytes second.what → vote_of first ≡ Some one → vote_of second ≡ Some two → one.digest ≡ two.digest
same_digest bytes first second one two spelled also is other =
    let a = names_if first.seq first.view bytes first.what one spelled is in
    let b = names_if second.seq second.view bytes second.what two also other in
    sym a.digest_is ∙ by_payload first.seq second.seq (whole_payload bytes) a.named b.named a.is b.is ∙ b.digest_is

entry_if : (seq view : ℕ) (found : Option Named) (vote : Ballot) → option_map (λ (n : Named). ballot seq view n.at n.digest) found ≡ Some vote → vote.entry ≡ seq
entry_if seq view None vote is = absurd (none-some vote is)
entry_if seq view (Some named) vote is = let one : ballot seq view named.at named.digest ≡ vote = cc in ap (λ (b : Ballot). b.entry) (sym one)

entry_in : (seq view : ℕ) (what : What) (vote : Ballot) → vote_in seq view what ≡ Some vote → vote.entry ≡ seq
entry_in seq view Join vote is = absurd (none-some vote is)
entry_in seq view Exit vote is = absurd (none-some vote is)
entry_in seq view (Event number payload) vote is = entry_if seq view (named_in seq (whole_payload payload)) vote is

-- a vote has the number of its entry
pub vote_seq : (entry : Entry) (vote : Ballot) → vote_of entry ≡ Some vote → vote.entry ≡ entry.seq
vote_seq entry vote is = entry_in entry.seq entry.view entry.what vote is
