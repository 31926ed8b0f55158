use Rattle.std.proofs.Common.{sym, ap, ◌∙◌}
use Rattle.world.specs.Worlds.{Scene, advance, take_up}
use Rattle.replica.proofs.WorldTests.{own-passes, passes-own, spelled-passes}
use Rattle.replica.proofs.Replays.{rests-at}
use Rattle.replica.proofs.laws.worlds_stand.Goals as goal

pub returns : goal.returns
returns c = λ founding id f.
    let program = founding.tree in
    let p = f.program in
    record {
      first_time = c.first_world_is_valid.ensures.time founding id f;
      first_valid = own-passes founding id _ (c.first_world_is_valid.ensures.valid founding id f) (c.first_world_is_valid.ensures.session founding id f);
      valid_time = λ w passes. (passes-own founding id w passes).valid.clock.time_fits;
      external_time = λ w e passes le. c.external_keeps_valid.ensures.time program e (take_up w) p (passes-own founding id w passes).valid le;
      external_valid = λ w e passes lt below.
          let own = passes-own founding id w passes in
          own-passes founding id _ (c.external_keeps_valid.ensures.valid program e (take_up w) p own.valid below) (c.external_keeps_valid.ensures.session program e (take_up w) p ∙ own.session);
      external_after = λ w s e passes le later below.
          sym (c.world_decides.ensures.external program e (advance program s (take_up w)))
          ∙ ap (λ (a : Scene). a.world) (c.external_after.ensures program s e (take_up w) p (passes-own founding id w passes).valid later below);
      advance_time = λ w t passes le. c.advance_rests.ensures.arrives program t (take_up w) p (passes-own founding id w passes).valid le;
      advance_valid = λ w t passes le below.
          let own = passes-own founding id w passes in
          own-passes founding id _ (c.advance_rests.ensures.valid program t (take_up w) p own.valid below) (c.advance_rests.ensures.session program t (take_up w) p ∙ own.session);
      advance_again = λ w s t passes le later below.
          sym (c.world_decides.ensures.advance program t (advance program s (take_up w)))
          ∙ ap (λ (a : Scene). a.world) (c.advance_twice.ensures program s t (take_up w) p (passes-own founding id w passes).valid later below);
      advance_rests = λ w t passes le below.
          let own = passes-own founding id w passes in
          rests-at t (advance program t (take_up w)).world (c.advance_rests.ensures.arrives program t (take_up w) p own.valid le) (c.advance_rests.ensures.rests program t (take_up w) p own.valid below);
      at_rest_stays = λ w passes rests. ap (λ (a : Scene). a.world) (c.at_rest_stays.ensures program (take_up w) p (passes-own founding id w passes).valid rests);
      unsnap_valid = λ bytes w found. spelled-passes founding id bytes w found;
    }
