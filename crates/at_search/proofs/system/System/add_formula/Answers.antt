use Rattle.std.proofs.Common.{◌∷◌, [], ◌++◌, List, ap, subst, ◌∙◌}
use Rattle.std.proofs.lemmas.List.{take_all}
use Rattle.std.specs.Map.{keys_of}
use Rattle.at_body.specs.declared.formula.Piece.{Piece}
use Rattle.at_solve.specs.declared.condition.Condition.TheVariants as condition
use Rattle.at_search.specs.Systems.{IsUnderWay}
use Rattle.at_search.proofs.Forming.{formed, same_conditions}
use Rattle.at_search.proofs.system.System.add_formula.Goals as goal

pub returns : goal.returns
returns g c =
    formed (g.K.Known.value_of c.args.known.now) (keys_of c.args.seen.now.entries) c.args.self.now _ c.loop-piece.self.conditions
    c.operand.new.self c.args.pieces.now c.in_ok-head.head c.in_ok-first.first c.take_targets-targets.result
    (subst (λ (ps : List Piece). IsUnderWay (g.K.Known.value_of c.args.known.now) (keys_of c.args.seen.now.entries) c.loop-piece.self.conditions ps)
    (take_all c.loop-piece.piece-index c.args.pieces.now c.loop-piece-test.false) c.loop-piece.invariant.under)
    c.loop-piece.invariant.stays c.in_ok-head.ensures.operand c.operand.ensures.stays c.in_ok-first.ensures
    (same_conditions c.operand.new.self c.take_targets-targets.new.self c.take_targets-targets.ensures.start c.take_targets-targets.ensures.count
    (ap (λ v. v.items) c.take_targets-targets.ensures.parts))
    (ap (λ v. v.items) c.take_targets-targets.ensures.parts)
    (c.in_ok-push.ensures.items ∙ ap (λ v. v.items ++ condition.When c.in_ok-first.first ∷ []) c.loop-piece.invariant.heads)
    (c.in_ok-push-2.ensures.items ∙ ap (λ v. v.items ++ c.operand.new.self.is_open ∷ []) c.loop-piece.invariant.open')
    c.take_targets-targets.ensures.targets
    (c.in_ok-push-3.ensures.items ∙ ap (λ v. v.items ++ c.take_targets-targets.result ∷ []) c.loop-piece.invariant.edges)
