use Rattle.std.proofs.Common.{◌≡◌, ◌∷◌, [], ap, refl, subst, sym, ◌∙◌, true, List}
use Rattle.at_model.specs.Run.{Truth}
use Rattle.at_model.specs.of_fixpoints.Formulas.{Formula, Known, Asks, is_known_as}
use Rattle.at_body.specs.Pieces.{AreTwo, HasTop, combined, is_value, piled, put_together, stacked, top_of}
use Rattle.std.proofs.Common.{false}
use Rattle.at_body.proofs.Piled.{first_top, has_top, join_else, join_known, lowered, popped, put_formula, put_tops, two_tops, value_on_top}
use Rattle.at_body.proofs.formula.Pile.join.Goals as goal

pub invariant_of-self : goal.invariant_of-self
invariant_of-self c =
    let are : stacked [] c.self.inside.pieces.items ≡ c.requires.right ∷ c.requires.left ∷ c.requires.others = c.self.view_is ∙ c.requires.are in
    let right = first_top _ _ _ _ _ _ are c.in-Some.ensures.taken c.self.invariant in
    let known : is_known_as c.args.conjunction c.requires.right ≡ true = sym (c.is_known_as.ensures c.requires.right right) ∙ c.if-is_known_as.true in
    let shorter = popped _ _ c.take_last.result c.take_last.ensures (has_top _ _ _ are) (value_on_top c.args.conjunction _ _ _ are known) in
    lowered (stacked [] c.self.inside.pieces.items) _ c.self.inside.surely _ c.pop.ensures.left shorter c.self.invariant

pub returns-then-is_known_as : goal.returns-then-is_known_as
returns-then-is_known_as c =
    let are : stacked [] c.self.inside.pieces.items ≡ c.requires.right ∷ c.requires.left ∷ c.requires.others = c.self.view_is ∙ c.requires.are in
    let right = first_top _ _ _ _ _ _ are c.in-Some.ensures.taken c.self.invariant in
    let known : is_known_as c.args.conjunction c.requires.right ≡ true = sym (c.is_known_as.ensures c.requires.right right) ∙ c.if-is_known_as.true in
    let shorter = popped _ _ c.take_last.result c.take_last.ensures (has_top _ _ _ are) (value_on_top c.args.conjunction _ _ _ are known) in
    shorter ∙ join_known c.args.conjunction _ c.requires.others c.requires.left c.requires.right are known ∙ ap (put_together c.args.conjunction) c.self.view_is

pub invariant_of-self-2 : goal.invariant_of-self-2
invariant_of-self-2 c =
    let are : stacked [] c.self.inside.pieces.items ≡ c.requires.right ∷ c.requires.left ∷ c.requires.others = c.self.view_is ∙ c.requires.are in
    let tops = two_tops _ _ c.requires.left c.requires.right c.in-Some-pop.left c.in-Some.right _ c.pop-2.new.self c.pop.new.self are c.in-Some.ensures.taken c.in-Some-pop.ensures.taken c.self.invariant in
    put_tops c.put.result c.self.inside.pieces.items _ c.pop-2.new.self _ c.operator.result (combined c.args.conjunction c.requires.left c.requires.right) c.requires.others _ c.put.ensures.pieces c.put.ensures.surely c.put.ensures.no_pieces c.put.ensures.nothing
    (ap (piled c.operator.result) are ∙ c.operator.ensures c.requires.left c.requires.right c.requires.others) (c.of_two.ensures c.requires.left c.requires.right tops.left tops.right) tops.others

pub returns : goal.returns
returns c =
    let are : stacked [] c.self.inside.pieces.items ≡ c.requires.right ∷ c.requires.left ∷ c.requires.others = c.self.view_is ∙ c.requires.are in
    let tops = two_tops _ _ c.requires.left c.requires.right c.in-Some-pop.left c.in-Some.right _ c.pop-2.new.self c.pop.new.self are c.in-Some.ensures.taken c.in-Some-pop.ensures.taken c.self.invariant in
    let known : is_known_as c.args.conjunction c.requires.right ≡ false = sym (c.is_known_as.ensures c.requires.right tops.right) ∙ c.if-is_known_as.false in
    put_formula c.put.result c.self.inside.pieces.items _ c.operator.result _ c.put.ensures.pieces
    ((ap (piled c.operator.result) are ∙ c.operator.ensures c.requires.left c.requires.right c.requires.others) ∙ join_else c.args.conjunction _ c.requires.others c.requires.left c.requires.right are known ∙ ap (put_together c.args.conjunction) c.self.view_is)
