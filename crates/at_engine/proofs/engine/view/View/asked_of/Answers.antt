use Rattle.std.proofs.Common.{◌∙◌, ap, map}
use Rattle.at_body.specs.Values.{value_view}
use Rattle.at_protocol.specs.LineView.{arguments_view}
use Rattle.at_engine.proofs.of_asking.Asked.{asked_fit, asked_no_attribute, asked_no_values, asked_unfit}
use Rattle.at_engine.proofs.Valued.{values_none, values_some}
use Rattle.at_engine.proofs.engine.view.View.asked_of.Goals as goal

pub returns-in_default : goal.returns-in_default
returns-in_default g c place number named =
    let v = c.args.self.now in
    asked_no_values v.rules.now v.store.now v.idle (g.M.Lookup.marks v.marks.now) c.args.session place c.args.attribute.now (arguments_view c.args.arguments.now) c.args.node number
    (values_none _ _ _ _ c.in_default.is c.in_ok-values.ensures)

pub returns-in_default-attribute_asked : goal.returns-in_default-attribute_asked
returns-in_default-attribute_asked g c place number named =
    let v = c.args.self.now in
    asked_no_attribute v.rules.now v.store.now v.idle (g.M.Lookup.marks v.marks.now) c.args.session place c.args.attribute.now (arguments_view c.args.arguments.now) c.args.node number
    c.in-Some.values.items (values_some _ _ _ _ _ c.in-Some.is c.in_ok-values.ensures) c.class.result
    c.class.ensures named c.len.result (c.len.ensures ∙ c.in-Some.values.ok.0)
    c.in_default-attribute_asked.ensures.named

pub returns-then-not-fit_parameters : goal.returns-then-not-fit_parameters
returns-then-not-fit_parameters g c place number named =
    let v = c.args.self.now in
    asked_unfit v.rules.now v.store.now v.idle (g.M.Lookup.marks v.marks.now) c.args.session place c.args.attribute.now (arguments_view c.args.arguments.now) c.args.node number
    c.in-Some.values.items (values_some _ _ _ _ _ c.in-Some.is c.in_ok-values.ensures) c.class.result
    c.class.ensures named c.len.result (c.len.ensures ∙ c.in-Some.values.ok.0) c.in-Some-attribute_asked.attribute
    c.in-Some-attribute_asked.ensures.named
    c.as_slice.result.now c.as_slice.ensures.value c.if-not-fit_parameters.ensures

pub returns : goal.returns
returns g c place number named =
    let v = c.args.self.now in
    asked_fit v.rules.now v.store.now v.idle (g.M.Lookup.marks v.marks.now) c.args.session place c.args.attribute.now (arguments_view c.args.arguments.now) c.args.node number
    c.in-Some.values.items (values_some _ _ _ _ _ c.in-Some.is c.in_ok-values.ensures) c.class.result
    c.class.ensures named c.len.result (c.len.ensures ∙ c.in-Some.values.ok.0) c.in-Some-attribute_asked.attribute
    c.in-Some-attribute_asked.ensures.named
    c.as_slice.result.now c.as_slice.ensures.value c.if-not-fit_parameters.ensures c.new.result
    (c.new.ensures ∙ ap (λ vs. record {
      node = c.args.node;
      attribute =
          c.in-Some-attribute_asked.attribute;
      arguments = map value_view vs;
    }) c.in_ok-of.ensures)
