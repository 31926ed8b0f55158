use Rattle.std.proofs.Common.{◌≡◌, length, rules, ap, subst, sym, ◌∙◌, arith}
use Rattle.std.specs.Prelude.{nat_eq, not}
use Rattle.std.specs.List.{filter}
use Rattle.std.proofs.lemmas.Fn.{filter_same}
use Rattle.world_plain.specs.World.{known_weight, total_weight}
use Rattle.world_plain.specs.declared.world.Known.{Known}
use Rattle.known_names.specs.Names.{AreNames, IsWeighedNames}
use Rattle.known_names.proofs.Held.{filtered, none_gone}
use Rattle.known_names.proofs.names.Names.drop_object.Goals as goal

pub invariant_of-self : goal.invariant_of-self
invariant_of-self c =
    let ks = c.self.inside.names.items in
    let left : c.retain.new.self.items ≡ filter (λ k. not (nat_eq k.object c.args.object)) ks =
    filter_same _ (λ (k : Known). not (nat_eq k.object c.args.object)) _ (λ x b f' k. search rules) _ _ c.retain.ensures.filtered in
    let as_many : length c.retain.new.self.items ≡ length ks = omega (arith, c.if-len-before.true, c.len.ensures, c.len-before.ensures) in
    subst (IsWeighedNames c.self.inside.weight) (sym (none_gone (λ (k : Known). not (nat_eq k.object c.args.object)) ks c.retain.new.self.items left as_many)) c.self.invariant

pub returns-then-len-before : goal.returns-then-len-before
returns-then-len-before c =
    filter_same _ (λ (k : Known). not (nat_eq k.object c.args.object)) _ (λ x b f' k. search rules) _ _ c.retain.ensures.filtered
    ∙ ap (filter (λ (k : Known). not (nat_eq k.object c.args.object))) c.self.view_is

pub weight_of-self-inside-requires : goal.weight_of-self-inside-requires
weight_of-self-inside-requires c =
    let left = filter_same _ (λ (k : Known). not (nat_eq k.object c.args.object)) _ (λ x b f' k. search rules) _ _ c.retain.ensures.filtered in
    let names : AreNames c.retain.new.self.items = filtered (λ (k : Known). not (nat_eq k.object c.args.object)) c.self.inside.names.items c.retain.new.self.items left c.self.invariant.names in
    omega (arith, names.light, ap (total_weight known_weight) c.deref.ensures.value)

pub invariant_of-self-2 : goal.invariant_of-self-2
invariant_of-self-2 c =
    let left = filter_same _ (λ (k : Known). not (nat_eq k.object c.args.object)) _ (λ x b f' k. search rules) _ _ c.retain.ensures.filtered in
    record {
      names = filtered (λ (k : Known). not (nat_eq k.object c.args.object)) c.self.inside.names.items c.retain.new.self.items left c.self.invariant.names;
      weight = c.weight_of-self-inside.ensures ∙ ap (total_weight known_weight) c.deref.ensures.value;
    }

pub returns : goal.returns
returns c =
    filter_same _ (λ (k : Known). not (nat_eq k.object c.args.object)) _ (λ x b f' k. search rules) _ _ c.retain.ensures.filtered
    ∙ ap (filter (λ (k : Known). not (nat_eq k.object c.args.object))) c.self.view_is
