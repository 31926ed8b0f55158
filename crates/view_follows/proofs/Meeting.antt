-- A link that is served at the reflector's end is served at the view's.
use Rattle.std.proofs.Common.{◌≡◌, ℕ, List, [], ◌∷◌, ◌++◌, map, Option, Some, refl, sym, ap, subst, ◌∙◌}
use Rattle.std.specs.List.{AllByRecursion}
use Rattle.byte_fields.specs.Fields.{whole}
use Rattle.byte_fields.proofs.Codecs.{whole_again}
use Rattle.tea_base.specs.declared.entry.Entry.{Entry}
use Rattle.wire_frames.specs.Frames.{IsServerFrame}
use Rattle.wire_frames.specs.Reading.{server_at}
use Rattle.wire_frames.specs.Served.{Served}
use Rattle.wire_frames.specs.Spelling.{server_spelling}
use Rattle.wire_frames.specs.declared.frame.ClientFrame.{ClientFrame}
use Rattle.wire_frames.specs.declared.frame.ServerFrame.{ServerFrame}
use Rattle.wire_frames.specs.declared.frame.ServerFrame.TheVariants.{Sync}
use Rattle.wire_frames.proofs.ServerCodec.{server_codec}
use Rattle.connection.specs.TalkServed.{frames_of}
use Rattle.connection.proofs.ServedFronts.{served_front}
use Rattle.view_follows.specs.Links.{BeginsHonestly}
use Rattle.view_follows.specs.BothEnds.{LinksMeet}
use Rattle.view_follows.proofs.Lists.{same_first, same_others}
use Rattle.view_follows.proofs.Stands.{RealWorlds}

-- the frames whose spellings came
record IsFrontOf (frames : List ServerFrame) (came : List (List ℕ)) : Type 0 where
  front : List ServerFrame
  back : List ServerFrame
  all : frames ≡ front ++ back
  spelling : map server_spelling front ≡ came

front_of : (frames : List ServerFrame) (came lost : List (List ℕ)) → map server_spelling frames ≡ came ++ lost → IsFrontOf frames came
front_of frames [] lost is = record { front = []; back = frames; all = refl; spelling = refl }
front_of [] (bytes ∷ came) lost is = absurd cc
front_of (frame ∷ frames) (bytes ∷ came) lost is =
    let rest = front_of frames came lost (same_others (server_spelling frame) bytes (map server_spelling frames) (came ++ lost) is) in
    record {
      front = frame ∷ rest.front;
      back = rest.back;
      all = ap (λ (fs : List ServerFrame). frame ∷ fs) rest.all;
      spelling = ap (λ (bs : List (List ℕ)). server_spelling frame ∷ bs) rest.spelling ∙ ap (λ (b : List ℕ). b ∷ came) (same_first (server_spelling frame) bytes (map server_spelling frames) (came ++ lost) is);
    }

front_is_read : (front back : List ServerFrame) → AllByRecursion IsServerFrame (front ++ back) → map Some front ≡ map (whole server_at) (map server_spelling front)
front_is_read [] back fit = refl
front_is_read (frame ∷ front) back fit =
    ap (λ (x : Option ServerFrame). x ∷ map Some front) (sym (whole_again server_codec frame fit.0))
    ∙ ap (λ (xs : List (Option ServerFrame)). whole server_at (server_spelling frame) ∷ xs) (front_is_read front back fit.1)

honest_front : (m : RealWorlds) (log : List Entry) (front back : List ServerFrame) → BeginsHonestly m log (front ++ back) → BeginsHonestly m log front
honest_front m log [] back honest = tt
honest_front m log (Sync joined last from base ∷ front) back honest = honest
honest_front m log (frame ∷ front) back honest = tt

pub links_meet : LinksMeet
links_meet m log link heard sent talk honest between =
    let split = front_of talk.frames between.came between.lost (sym talk.spelling ∙ between.went) in
    let fit = subst (λ (fs : List ServerFrame). AllByRecursion IsServerFrame fs) split.all talk.spelled in
    let served = subst (λ (fs : List ServerFrame). Served log (frames_of heard) fs) split.all talk.served in
    record {
      given = between.more;
      frames = split.front;
      heard = front_is_read split.front split.back fit ∙ ap (λ (bs : List (List ℕ)). map (whole server_at) bs) split.spelling ∙ sym between.read;
      served = subst (λ (given : List (Option ClientFrame)). Served log given split.front) (sym between.first) (served_front log (frames_of heard) between.unheard split.front split.back served);
      honest = honest_front m log split.front split.back (subst (λ (fs : List ServerFrame). BeginsHonestly m log fs) split.all honest);
    }
