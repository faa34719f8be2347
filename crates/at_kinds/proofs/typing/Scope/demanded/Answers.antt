use Rattle.std.proofs.Common.{◌≡◌, ap, ap₂, sym, ◌∙◌, subst, map, option_map}
use Rattle.at_model.specs.Bodies.{Call}
use Rattle.at_rules.specs.Bodies.{body_view, bodies_view}
use Rattle.at_rules.specs.declared.body.Body as body
use Rattle.at_kinds.specs.Judging.{of_kind, fitted}
use Rattle.at_kinds.specs.Signatures.{declared_view}
use Rattle.at_kinds.specs.Typed.{Judges, typed_view}
use Rattle.at_kinds.proofs.Parts.{demanded_there}
use Rattle.at_kinds.proofs.Seen.{call_seen}
use Rattle.at_kinds.proofs.typing.Scope.demanded.Goals as goal

pub returns : goal.returns
returns c =
    let classes = c.args.self.now.classes.now in
    let ks = map typed_view c.args.arguments.items in
    let d = declared_view c.in-Some.signature.now in
    let same : body_view (body.Call c.args.node c.args.attribute c.in_ok-arguments.arguments)
    ≡ Call (body_view c.args.node.value) c.args.attribute (bodies_view c.in_ok-arguments.arguments.items) =
    call_seen c.args.node c.args.attribute c.in_ok-arguments.arguments in
    subst (λ j. Judges typed_view j c.of_kind.result)
    (sym (demanded_there c.args.self.now.arguments classes c.args.at c.args.attribute _ d
    (body_view c.args.node.value) ks (bodies_view
    c.in_ok-arguments.arguments.items) (sym c.get.ensures ∙ ap (option_map (λ s. declared_view s.now)) c.in-Some.is)
    (ap (fitted c.args.self.now.arguments classes c.args.at ks) (sym c.deref.ensures.value) ∙ c.in_ok-arguments.ensures)
    ∙ ap₂ (λ k b. of_kind c.args.at k b) (sym c.written-kind.ensures) (sym same)))
    c.of_kind.ensures
