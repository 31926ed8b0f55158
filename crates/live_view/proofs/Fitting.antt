-- Frames that fit the wire: as a test, and as what reading a frame asks of it.
use Rattle.std.proofs.Common.{arith, ◌≡◌, ◌==◌, Bool, true, false, ℕ, ◌<◌, ◌^◌, List, length, refl, ◌∙◌, ap}
use Rattle.std.specs.Prelude.{◌&&◌, nat_lt}
use Rattle.std.proofs.lemmas.Bool.Decides.{nat_tests}
use Rattle.tea_base.specs.Limits.{time_limit}
use Rattle.byte_fields.specs.Fields.{FitsBlob}
use Rattle.wire_frames.specs.Frames.{FitsWant, IsClientFrame, IsTime}
use Rattle.wire_frames.specs.declared.start.Want.{Want}
use Rattle.wire_frames.specs.declared.start.Want.TheVariants as want
use Rattle.wire_frames.specs.declared.frame.ClientFrame.{ClientFrame}
use Rattle.wire_frames.specs.declared.frame.ClientFrame.TheVariants as client
use Rattle.live_view.specs.Live.{fits_want, fits_wire, is_short}

pub and_assoc : (a b c : Bool) → ((a && b) && c) ≡ (a && (b && c))
and_assoc true b c = refl
and_assoc false b c = refl

both : (a b : Bool) → a ≡ true → b ≡ true → (a && b) ≡ true
both a b first second = ap (λ (x : Bool). x && b) first ∙ second

pub left_of : (a b : Bool) → (a && b) ≡ true → a ≡ true
left_of true b is = refl
left_of false b is = is

pub right_of : (a b : Bool) → (a && b) ≡ true → b ≡ true
right_of true b is = is
right_of false b is = absurd cc

below : (n most : ℕ) → n < most → nat_lt n most ≡ true
below n most few = grind (arith, nat_tests, few)

few_of : (n most : ℕ) → nat_lt n most ≡ true → n < most
few_of n most is = grind (arith, nat_tests, is)

same_count : (n m : ℕ) → n ≡ m → (n == m) ≡ true
same_count n m is = grind (arith, nat_tests, is)

count_of : (n m : ℕ) → (n == m) ≡ true → n ≡ m
count_of n m is = grind (arith, nat_tests, is)

want_fits : (w : Want) → FitsWant w → fits_want w ≡ true
want_fits want.Fresh fits = refl
want_fits want.Whole fits = refl
want_fits (want.After time) fits = below time time_limit fits

-- a frame that reads again is one that fits
pub frame_fits : (frame : ClientFrame) → IsClientFrame frame → fits_wire frame ≡ true
frame_fits (client.Join session view want) (fits, (long, few)) = both _ _ (want_fits want fits) (both _ _ (same_count (length session.0) 32 long) (below view (2 ^ 32) few))
frame_fits (client.Send number payload) (fits, few) = both _ _ (below (length payload) (2 ^ 32) fits) (below number (2 ^ 32) few)
frame_fits (client.Snap time bytes) ((early, short), typed) = both _ _ (below time time_limit early) (below (length bytes) (2 ^ 32) short)
frame_fits client.Leave fits = refl
frame_fits client.Alive fits = refl

fits_as : (w : Want) → fits_want w ≡ true → FitsWant w
fits_as want.Fresh is = tt
fits_as want.Whole is = tt
fits_as (want.After time) is = few_of time time_limit is

-- and one that fits reads again
pub fits_frame : (frame : ClientFrame) → fits_wire frame ≡ true → IsClientFrame frame
fits_frame (client.Join session view want) is =
    let fits = left_of (fits_want want) _ is in
    let rest = right_of (fits_want want) _ is in
    (fits_as want fits, (count_of (length session.0) 32 (left_of (length session.0 == 32) _ rest), few_of view (2 ^ 32) (right_of (length session.0 == 32) _ rest)))
fits_frame (client.Send number payload) is = (few_of (length payload) (2 ^ 32) (left_of (is_short payload) _ is), few_of number (2 ^ 32) (right_of (is_short payload) _ is))
fits_frame (client.Snap time bytes) is =
    ((few_of time time_limit (left_of (nat_lt time time_limit) _ is), few_of (length bytes) (2 ^ 32) (right_of (nat_lt time time_limit) _ is)), tt)
fits_frame client.Leave is = (tt, tt)
fits_frame client.Alive is = (tt, tt)
