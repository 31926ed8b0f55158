-- The lines that are left, and the room for what they publish.
use Rattle.std.proofs.Common.{arith, ◌≡◌, ◌≤◌, ◌<◌, ℕ, zero, suc, ◌+◌, ◌-◌, take, Bool, true, false, List, [], ◌∷◌, ◌++◌, Option, Some, None, length, drop, get_or, sym, ap, subst, ◌∙◌}
use Rattle.std.specs.Prelude.{⊤, nat_le, Result, Ok, Err, OnErr, OnOk}
use Rattle.tea_base.specs.declared.want.WantOfMemory.{WantOfMemory}
use Rattle.std.specs.List.{AllByRecursion}
use Rattle.std.proofs.lemmas.List.{drop-append-le, drop-drop, drop_all, map-append}
use Rattle.std.proofs.lemmas.Bool.Decides.{nat_tests}
use Rattle.view_script.specs.PlainLine.{LineFits, PlainLine, Settle, line_publishes, most_publishes, plain_line, plain_lines, publish_count}
use Rattle.view_script.specs.declared.line.ViewLine.{ViewLine}
use Rattle.view_script.specs.declared.line.ViewLine.TheVariants as line
use Rattle.view_shell.proofs.Scripts.{here}
use Rattle.view_shell.proofs.Visits.{fits_left}
use Rattle.live_view.specs.declared.input.Place.{Place}
use Rattle.live_view.specs.declared.queue.Queue.{Queue}
use Rattle.live_view.specs.Doing.{votes_at}
use Rattle.live_view.specs.Live.{lines_kept}
use Rattle.live_view.specs.View.{HasLines, queue_left}
use Rattle.live_view.proofs.Scripts.{count_both}

pub fits_both : (first more : List PlainLine) → AllByRecursion LineFits first → AllByRecursion LineFits more → AllByRecursion LineFits (first ++ more)
fits_both [] more first_fit more_fit = more_fit
fits_both (line ∷ first) more first_fit more_fit = (first_fit.0, fits_both first more first_fit.1 more_fit)

-- no more events than before are published, or to be
pub lines_for : (published other : ℕ) (queue : Queue) → other ≤ published → HasLines published queue → HasLines other queue
lines_for published other queue is lines = let has = lines.room in record { within = lines.within; fit = lines.fit; counted = lines.counted; room = omega (arith, has, is) }

-- some of the lines that were left are begun
pub lines_behind : (published now count : ℕ) (old new : Queue) (base : List ViewLine) → base ≡ drop old.begun old.lines.items → HasLines published old
    → queue_left new ≡ plain_lines (drop count base) → new.begun ≤ length new.lines.items → new.publishes ≡ publish_count (queue_left new)
    → now + publish_count (plain_lines (drop count base)) ≤ published + publish_count (plain_lines base) → HasLines now new
lines_behind published now count old new base is lines left within counted counts =
    let fit : AllByRecursion LineFits (plain_lines base) = subst (λ (ls : List ViewLine). AllByRecursion LineFits (plain_lines ls)) (sym is) lines.fit in
    let before : publish_count (plain_lines base) ≡ publish_count (queue_left old) = ap (λ (ls : List ViewLine). publish_count (plain_lines ls)) is in
    let behind : publish_count (queue_left new) ≡ publish_count (plain_lines (drop count base)) = ap publish_count left in
    let has = lines.room in
    record {
      within = within;
      fit = subst (λ (ls : List PlainLine). AllByRecursion LineFits ls) (sym left) (fits_left base count fit);
      counted = counted;
      room = omega (arith, has, before, behind, counts);
    }

-- lines came
pub lines_more : (published publishes : ℕ) (old new : Queue) (more : List PlainLine) → HasLines published old → AllByRecursion LineFits more → publishes ≡ publish_count more
    → queue_left new ≡ queue_left old ++ more → new.begun ≤ length new.lines.items → new.publishes ≡ old.publishes + publishes → published + publish_count (queue_left old) + publishes ≤ most_publishes → HasLines published new
lines_more published publishes old new more lines fit counts left within counted few =
    let all : publish_count (queue_left new) ≡ publish_count (queue_left old) + publish_count more = ap publish_count left ∙ count_both (queue_left old) more in
    record {
      within = within;
      fit = subst (λ (ls : List PlainLine). AllByRecursion LineFits ls) (sym left) (fits_both (queue_left old) more lines.fit fit);
      counted = let before = lines.counted in omega (arith, all, counts, counted, before);
      room = omega (arith, all, counts, few);
    }

-- no line was left, and one is that publishes nothing
pub lines_settle : (published : ℕ) (old new : Queue) → HasLines published old → queue_left old ≡ [] → queue_left new ≡ Settle ∷ [] → new.begun ≤ length new.lines.items → new.publishes ≡ 0 → HasLines published new
lines_settle published old new lines none left within counted =
    let nothing : publish_count (queue_left old) ≡ 0 = ap publish_count none in
    let one : publish_count (queue_left new) ≡ 0 = ap publish_count left in
    let has = lines.room in
    record {
      within = within;
      fit = subst (λ (ls : List PlainLine). AllByRecursion LineFits ls) (sym left) (tt, tt);
      counted = omega (arith, one, counted);
      room = omega (arith, has, nothing, one);
    }

-- there is room for lines, or there is none
pub room_for : (taken publishes all more : ℕ) → taken ≡ all → publishes ≡ more → taken + publishes ≤ most_publishes → nat_le (all + more) most_publishes ≡ true
room_for taken publishes all more has counts few =
    let fits : all + more ≤ most_publishes = omega (arith, has, counts, few) in
    grind (arith, nat_tests, fits)

pub no_room : (taken publishes all more : ℕ) → taken ≡ all → publishes ≡ more → most_publishes < taken + publishes → nat_le (all + more) most_publishes ≡ false
no_room taken publishes all more has counts many =
    let over : most_publishes < all + more = omega (arith, has, counts, many) in
    grind (arith, nat_tests, over)

-- ---- how many events are published, and to be published

-- a line was done, or one waits
pub none_left : (now total : ℕ) (place : Option Place) → place ≡ None → now + votes_at place ≤ total → now ≤ total
none_left now total place is count = let none : votes_at place ≡ 0 = ap votes_at is in omega (arith, none, count)

pub some_left : (now total : ℕ) (found : Option Place) (place : Place) → found ≡ Some place → now + votes_at found ≤ total → now + votes_at (Some place) ≤ total
some_left now total found place is count = subst (λ (p : Option Place). now + votes_at p ≤ total) is count

pub count_on : (lines : List ViewLine) (i : ℕ) (line : ViewLine) (within : i < length lines) (is : line ≡ get_or lines i line) (published now total : ℕ) → now ≤ published + line_publishes (plain_line line)
    → published + publish_count (plain_lines (drop i lines)) ≤ total → now + publish_count (plain_lines (drop (i + 1) lines)) ≤ total
count_on lines i line within is published now total done before =
    let at : publish_count (plain_lines (drop i lines)) ≡ line_publishes (plain_line line) + publish_count (plain_lines (drop (i + 1) lines)) = ap publish_count (here lines i line within is) in
    omega (arith, at, done, before)

pub count_end : (lines : List ViewLine) (i published now total : ℕ) → length lines ≤ i → now ≡ published → published + publish_count (plain_lines (drop i lines)) ≤ total → now + publish_count (plain_lines (drop (length lines) lines)) ≤ total
count_end lines i published now total over same before =
    let all : length lines ≤ length lines = omega arith in
    let none : publish_count (plain_lines (drop i lines)) ≡ 0 = ap (λ (ls : List ViewLine). publish_count (plain_lines ls)) (drop_all _ _ over) in
    let rest : publish_count (plain_lines (drop (length lines) lines)) ≡ 0 = ap (λ (ls : List ViewLine). publish_count (plain_lines ls)) (drop_all _ _ all) in
    omega (arith, none, rest, same, before)

-- ---- the queue itself

pub begun_on : (lines : List ViewLine) (begun count : ℕ) → plain_lines (drop (begun + count) lines) ≡ plain_lines (drop count (drop begun lines))
begun_on lines begun count = ap plain_lines (sym (drop-drop count begun lines))

-- the lines that are begun, and those behind them
pub count_split : (n : ℕ) (lines : List ViewLine) → publish_count (plain_lines lines) ≡ publish_count (plain_lines (take n lines)) + publish_count (plain_lines (drop n lines))
count_split zero lines = omega arith
count_split (suc n) [] = omega arith
count_split (suc n) (line ∷ lines) = let rest = count_split n lines in omega (arith, rest)

pub count_begun : (lines slice : List ViewLine) (begun count done publishes : ℕ) → slice ≡ take (begun + count - begun) (drop begun lines) → done ≡ publish_count (plain_lines slice) → publishes ≡ publish_count (plain_lines (drop begun lines))
    → done + publish_count (plain_lines (drop (begun + count) lines)) ≡ publishes
count_begun lines slice begun count done publishes is counts all =
    let n : begun + count - begun ≡ count = omega arith in
    let split = count_split count (drop begun lines) in
    let front : publish_count (plain_lines slice) ≡ publish_count (plain_lines (take count (drop begun lines))) = ap (λ (ls : List ViewLine). publish_count (plain_lines ls)) (is ∙ ap (λ (k : ℕ). take k (drop begun lines)) n) in
    let back : publish_count (plain_lines (drop (begun + count) lines)) ≡ publish_count (plain_lines (drop count (drop begun lines))) = ap publish_count (begun_on lines begun count) in
    omega (arith, split, front, back, counts, all)

pub begun_all : (lines now : List ViewLine) (begun count : ℕ) → length lines ≤ begun + count → now ≡ [] → plain_lines (drop 0 now) ≡ plain_lines (drop count (drop begun lines))
begun_all lines now begun count over none =
    ap (λ (ls : List ViewLine). plain_lines (drop 0 ls)) none ∙ ap plain_lines (sym (drop-drop count begun lines ∙ drop_all _ _ over))

pub left_more : (lines more now : List ViewLine) (begun : ℕ) → begun ≤ length lines → now ≡ lines ++ more → plain_lines (drop begun now) ≡ plain_lines (drop begun lines) ++ plain_lines more
left_more lines more now begun within is =
    ap (λ (ls : List ViewLine). plain_lines (drop begun ls)) is ∙ ap plain_lines (drop-append-le begun lines more within) ∙ map-append plain_line (drop begun lines) more

-- one line is left, where there was memory for it
pub settled_lines : (done : Result ⊤ WantOfMemory) (published : ℕ) (old new : Queue) → HasLines published old → queue_left old ≡ []
    → OnOk done (queue_left new ≡ Settle ∷ []) → OnOk done (new.begun ≤ length new.lines.items) → OnOk done (new.publishes ≡ 0) → OnOk done (HasLines published new)
settled_lines (Ok it) published old new lines none left within counted = lines_settle published old new lines none left within counted
settled_lines (Err want) published old new lines none left within counted = tt

pub settled_left : (done : Result ⊤ WantOfMemory) (lost : Bool) (new : Queue) (lines : List PlainLine) → lost ≡ true → OnOk done (queue_left new ≡ Settle ∷ []) → OnOk done (queue_left new ≡ lines_kept lost lines)
settled_left done lost new lines is left = subst (λ (b : Bool). OnOk done (queue_left new ≡ lines_kept b lines)) (sym is) left

-- ---- no lines, and one

pub empty_left : (items : List ViewLine) → items ≡ [] → plain_lines (drop 0 items) ≡ []
empty_left items none = ap (λ (ls : List ViewLine). plain_lines (drop 0 ls)) none

pub empty_lines : (published : ℕ) (queue : Queue) → queue.lines.items ≡ [] → queue.begun ≡ 0 → queue.publishes ≡ 0 → published ≤ most_publishes → HasLines published queue
empty_lines published queue none begun nothing few =
    let left : queue_left queue ≡ [] = ap (λ (n : ℕ). plain_lines (drop n queue.lines.items)) begun ∙ empty_left queue.lines.items none in
    let count : publish_count (queue_left queue) ≡ 0 = ap publish_count left in
    record {
      within = omega (arith, begun);
      fit = subst (λ (ls : List PlainLine). AllByRecursion LineFits ls) (sym left) tt;
      counted = omega (arith, count, nothing);
      room = omega (arith, count, few);
    }

pub one_left : (items before : List ViewLine) → items ≡ before ++ line.Settle ∷ [] → before ≡ [] → plain_lines (drop 0 items) ≡ Settle ∷ []
one_left items before is none = ap (λ (ls : List ViewLine). plain_lines (drop 0 ls)) is ∙ ap (λ (ls : List ViewLine). plain_lines (drop 0 (ls ++ line.Settle ∷ []))) none

pub one_left_if : (done : Result ⊤ WantOfMemory) (items before : List ViewLine) → OnOk done (items ≡ before ++ line.Settle ∷ []) → before ≡ [] → OnOk done (plain_lines (drop 0 items) ≡ Settle ∷ [])
one_left_if (Ok it) items before is none = one_left items before is none
one_left_if (Err want) items before is none = tt

-- what is so is so where a call did well
pub well : {A X : Type 0} (done : Result A WantOfMemory) → X → OnOk done X
well (Ok a) x = x
well (Err want) x = tt

-- and where it did not
pub ill : {A X : Type 0} (done : Result A WantOfMemory) → X → OnErr done X
ill (Ok a) x = tt
ill (Err want) x = x

-- ---- a line before the others

-- it publishes as many events as are to be
pub lines_first : (done : Result ⊤ WantOfMemory) (published votes publishes : ℕ) (old new : Queue) (first : PlainLine) → LineFits first → line_publishes first ≡ publishes → publishes ≡ votes → HasLines (published + votes) old
    → OnOk done (queue_left new ≡ first ∷ queue_left old) → OnOk done (new.begun ≤ length new.lines.items) → OnOk done (new.publishes ≡ old.publishes + publishes) → OnOk done (HasLines published new)
lines_first (Ok it) published votes publishes old new first fits one same lines left within counted =
    let all : publish_count (queue_left new) ≡ line_publishes first + publish_count (queue_left old) = ap publish_count left in
    let has = lines.room in
    record {
      within = within;
      fit = subst (λ (ls : List PlainLine). AllByRecursion LineFits ls) (sym left) (fits, lines.fit);
      counted = let before = lines.counted in omega (arith, all, one, counted, before);
      room = omega (arith, has, all, one, same);
    }
lines_first (Err want) published votes publishes old new first fits one same lines left within counted = tt
