use Rattle.std.proofs.Common.{ℕ, List, take, ap, ◌∙◌, arith}
use Rattle.tea_base.proofs.LogLaws.{TimesRise-legal}
use Rattle.tea_base.specs.declared.entry.Entry.{Entry}
use Rattle.model_solved.specs.Founding.{checked_tree, founding_of}
use Rattle.world.specs.Worlds.{advance, first_scene, take_up}
use Rattle.time_line.specs.Keyframes.{after_entries}
use Rattle.time_line.proofs.LineLaws.{early-after, first-stands, first_until, stands-after}
use Rattle.time_line.proofs.laws.worlds_after.Goals as goal

pub returns-clause-valid : goal.returns-clause-valid
returns-clause-valid c = λ line n s.
    let founding = founding_of line.program in
    let tree = checked_tree line.program in
    let first = first-stands line s (c.first_world_is_valid.ensures.valid founding line.id s.founded) (c.first_world_is_valid.ensures.time founding line.id s.founded) in
    (stands-after tree (λ e a. c.external_keeps_valid.ensures.valid tree e a s.founded.program) (λ e a. c.external_keeps_valid.ensures.time tree e a s.founded.program) n (first_scene founding line.id).world line.entries first).valid

pub returns-clause-rises : goal.returns-clause-rises
returns-clause-rises c = λ line n s.
    let founding = founding_of line.program in
    let tree = checked_tree line.program in
    let first = first-stands line s (c.first_world_is_valid.ensures.valid founding line.id s.founded) (c.first_world_is_valid.ensures.time founding line.id s.founded) in
    (stands-after tree (λ e a. c.external_keeps_valid.ensures.valid tree e a s.founded.program) (λ e a. c.external_keeps_valid.ensures.time tree e a s.founded.program) n (first_scene founding line.id).world line.entries first).rises

pub returns-clause-early : goal.returns-clause-early
returns-clause-early c = λ line n t s few.
    let founding = founding_of line.program in
    let tree = checked_tree line.program in
    let begins = c.first_world_is_valid.ensures.time founding line.id s.founded in
    let first = first-stands line s (c.first_world_is_valid.ensures.valid founding line.id s.founded) begins in
    early-after tree (λ e a. c.external_keeps_valid.ensures.valid tree e a s.founded.program) (λ e a. c.external_keeps_valid.ensures.time tree e a s.founded.program) t n (first_scene founding line.id).world line.entries first (omega (arith, begins)) few

pub returns-clause-replays : goal.returns-clause-replays
returns-clause-replays c = λ line t s.
    let founding = founding_of line.program in
    let tree = checked_tree line.program in
    c.replay_folds.ensures.world founding line.id line.entries t
    ∙ ap (λ (es : List Entry). (advance tree t (take_up (after_entries tree (first_scene founding line.id).world es))).world) (first_until t 0 line.entries (TimesRise-legal line.entries s.legal))
