use Rattle.std.proofs.Common.{sym, ap, ◌∙◌, subst}
use Rattle.at_rules.specs.Bodies.{body_view}
use Rattle.at_kinds.specs.Judging.{accessed}
use Rattle.at_kinds.specs.Typed.{Judges, typed_view}
use Rattle.at_kinds.proofs.Parts.{none_given, some_given, accessed_crowded}
use Rattle.at_kinds.proofs.typing.Scope.accessed.Goals as goal

pub returns-then-not-is_empty : goal.returns-then-not-is_empty
returns-then-not-is_empty c =
    let g = some_given c.args.arguments (sym c.is_empty.ensures ∙ c.if-not-is_empty.true) in
    rw c.refused.ensures (ap (accessed c.args.at c.args.accessor (body_view c.args.node.value)) g.2
    ∙ accessed_crowded c.args.at c.args.accessor (body_view c.args.node.value) g.0 g.1 c.in_default.not-Element)

pub returns : goal.returns
returns c = subst (λ ks. Judges typed_view (accessed c.args.at c.args.accessor (body_view c.args.node.value) ks)
    c.accessed_alone.result) (sym (none_given c.args.arguments (sym c.is_empty.ensures ∙ c.if-not-is_empty.false)))
    c.accessed_alone.ensures
