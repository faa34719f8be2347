use Rattle.std.proofs.Common.{List, Some, map, refl, sym, ap, ◌∙◌, subst}
use Rattle.at_model.specs.Instances.{AnyText}
use Rattle.at_model.specs.Lines.{IsCommand}
use Rattle.at_model.specs.Machine.{parameters_of}
use Rattle.at_model.specs.Rules.{Kind}
use Rattle.at_model.specs.TypedRuns.{AreArguments}
use Rattle.at_model.proofs.of_texts.Words.{name_filled}
use Rattle.at_body.specs.Values.{value_view}
use Rattle.at_body.specs.declared.value.Value.{Value}
use Rattle.at_protocol.specs.LineView.{request_view}
use Rattle.at_protocol.specs.declared.line.Request.{Request}
use Rattle.tries.specs.Worlds.{classes_at, IsTyped}
use Rattle.tries.proofs.Fitted.{well_typed}
use Rattle.tries.proofs.WorldsLemmas.{class_of_there}
use Rattle.tries.proofs.instances.instance.Goals as goal

pub returns : goal.returns
returns c =
    let w = c.args.world.now in
    let asked = subst (λ (x : Request). IsCommand (request_view x)) (sym c.deref.ensures ∙ c.in-Ask.is) c.in_ok-request.ensures in
    let there = class_of_there w.store c.in_ok-node.node c.in_ok-node.ensures ∙ ap Some (sym c.class-class.ensures) in
    let named = sym (c.in-Some.ensures.named (name_filled c.in-Ask.attribute.now asked.1.0)) in
    let by_kinds = subst (λ (ks : List Kind). AreArguments w.rules.classes (classes_at w) AnyText (map value_view c.as_slice.result.now) ks) c.params.ensures (c.if-not-are_of.ensures refl) in
    let fit = subst (λ (vs : List Value). AreArguments w.rules.classes (classes_at w) AnyText (map value_view vs) (parameters_of w.rules c.in-Some.attribute)) c.as_slice.ensures.value by_kinds in
    let made = c.new.ensures ∙ ap (λ vs. record { node = c.in_ok-node.node; attribute = c.in-Some.attribute; arguments = map value_view vs }) c.in_ok-of.ensures in
    subst (IsTyped w) (sym made) (well_typed w.rules (classes_at w) c.in_ok-node.node c.class-class.result
    c.in-Some.attribute c.in-Ask.attribute.now
    c.len.result (map value_view c.in_ok-values.values.items) there named fit)
