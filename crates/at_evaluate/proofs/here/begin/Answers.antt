use Rattle.std.proofs.Common.{◌≡◌, ◌∙◌, ◌++◌, ◌∷◌, ℕ, List, [], None, Some, ap, map, nat_eq, refl, subst, sym, IfOk, true, false}
use Rattle.std.proofs.lemmas.Result.{IfOk-weaker}
use Rattle.at_store.specs.Shown.{contents}
use Rattle.at_model.specs.Run.{Is, Location, Value}
use Rattle.at_model.specs.Rules.{attribute_name, by_inherited, is_inherited}
use Rattle.at_model.specs.Support.{argument_classes}
use Rattle.at_model.specs.Terms.{max_depth}
use Rattle.at_rules.specs.Bodies.{body_view}
use Rattle.at_body.specs.Rest.{ev}
use Rattle.at_body.specs.Values.{value_view}
use Rattle.at_evaluate.specs.Place.{place_at}
use Rattle.at_evaluate.specs.Looking.{HasBegun}
use Rattle.at_evaluate.proofs.Begun.{at_node, by_own_body, entered}
use Rattle.at_evaluate.proofs.here.begin.Goals as goal

pub returns-then-is_inherited : goal.returns-then-is_inherited
returns-then-is_inherited c =
    let rules = c.args.rules.now in let look = contents c.args.store.now in let i = c.args.inst.now in let vs = map value_view c.in_ok-arguments.arguments in
    IfOk-weaker c.climb.result _ _ (λ r h. entered rules look i c.args.reads.now c.look_at.new.reads c.climb.new.reads c.node-node.result vs true (ev rules.classes (body_view r.1.now) (place_at r.0))
    c.node-node.ensures c.in_ok-arguments.ensures (sym c.if-is_inherited.true ∙ c.is_inherited.ensures ∙ ap (is_inherited rules) c.attribute-attribute.ensures)
    (c.in_ok-look_at.ensures ∙ ap (λ ws. c.push.new.self ++ argument_classes (map value_view ws)) c.as_slice.ensures ∙ ap (λ ls. ls ++ argument_classes vs) c.in_ok-push.ensures.gained)
    (subst (λ ws. HasBegun look c.look_at.new.reads c.climb.new.reads (by_inherited rules nat_eq (attribute_name rules i.attribute) ws max_depth i.node) (ev rules.classes (body_view r.1.now) (place_at r.0))) c.in_ok-arguments.ensures
    (subst (λ n. HasBegun look c.look_at.new.reads c.climb.new.reads (by_inherited rules nat_eq (attribute_name rules i.attribute) vs max_depth n) (ev rules.classes (body_view r.1.now) (place_at r.0))) c.node-node.ensures
    (subst (λ a. HasBegun look c.look_at.new.reads c.climb.new.reads (by_inherited rules nat_eq (attribute_name rules a) vs max_depth c.node-node.result) (ev rules.classes (body_view r.1.now) (place_at r.0))) c.attribute-attribute.ensures h)))) c.climb.ensures

pub returns-in-Some : goal.returns-in-Some
returns-in-Some c =
    let rules = c.args.rules.now in let look = contents c.args.store.now in let i = c.args.inst.now in let vs = map value_view c.in_ok-arguments.arguments in
    entered rules look i c.args.reads.now c.look_at.new.reads c.look_at.new.reads c.node-node.result vs false (ev rules.classes (body_view c.in-Some.body.now) (place_at c.new.result))
    c.node-node.ensures c.in_ok-arguments.ensures (sym c.if-is_inherited.false ∙ c.is_inherited.ensures ∙ ap (is_inherited rules) c.attribute-attribute.ensures)
    (c.in_ok-look_at.ensures ∙ ap (λ ws. c.push.new.self ++ argument_classes (map value_view ws)) c.as_slice.ensures ∙ ap (λ ls. ls ++ argument_classes vs) c.in_ok-push.ensures.gained)
    (by_own_body rules look i c.look_at.new.reads c.class.result c.attribute-attribute.result c.in-Some.body.now (place_at c.new.result) c.in_ok-arguments.arguments
    (c.class.ensures ∙ ap (λ n. look (Is n)) c.node-node.ensures) c.attribute-attribute.ensures c.in-Some.ensures (c.new.ensures ∙ ap (λ n. at_node n None c.in_ok-arguments.arguments) c.node-node.ensures) c.in_ok-arguments.ensures)
