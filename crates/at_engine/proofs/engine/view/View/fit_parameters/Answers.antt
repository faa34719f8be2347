use Rattle.std.proofs.Common.{◌∙◌, sym, ap, map, true, false}
use Rattle.at_body.specs.Values.{value_view}
use Rattle.at_store.specs.Shown.{contents}
use Rattle.at_engine.specs.Fitting.{fit_numbers}
use Rattle.at_engine.proofs.Fitted.{too_few, all_seen, first_fits}
use Rattle.at_engine.proofs.engine.view.View.fit_parameters.Goals as goal

pub loop-kind-init : goal.loop-kind-init
loop-kind-init g c =
    let v = c.args.self.now in
    ap (λ ks. fit_numbers v.rules.now.classes (contents v.store.now) ks (map value_view c.args.values.now)) (sym c.params-kinds.ensures)

pub loop-kind-preserved : goal.loop-kind-preserved
loop-kind-preserved g c =
    let v = c.args.self.now in
    c.loop-kind.invariant ∙ first_fits v.rules.now.classes (contents v.store.now) c.loop-kind.kinds.now c.in-Some.kind.now c.in-Some.other_kinds.now c.loop-kind.rest.now c.in-Some-split_first.value.now c.in-Some-split_first.others.now true c.in-Some.ensures.cases.0 c.in-Some-split_first.ensures.cases.0 c.if-not-fits_parameter.ensures

pub returns-then-not-fits_parameter : goal.returns-then-not-fits_parameter
returns-then-not-fits_parameter g c =
    let v = c.args.self.now in
    sym (c.loop-kind.invariant ∙ first_fits v.rules.now.classes (contents v.store.now) c.loop-kind.kinds.now c.in-Some.kind.now c.in-Some.other_kinds.now c.loop-kind.rest.now c.in-Some-split_first.value.now c.in-Some-split_first.others.now false c.in-Some.ensures.cases.0 c.in-Some-split_first.ensures.cases.0 c.if-not-fits_parameter.ensures)

pub returns-in_default-split_first : goal.returns-in_default-split_first
returns-in_default-split_first g c =
    let v = c.args.self.now in
    too_few v.rules.now.classes (contents v.store.now) c.loop-kind.kinds.now c.in-Some.kind.now c.in-Some.other_kinds.now c.loop-kind.rest.now c.in-Some.ensures.cases.0 c.in_default-split_first.ensures.cases ∙ sym c.loop-kind.invariant

pub returns : goal.returns
returns g c =
    let v = c.args.self.now in
    c.is_empty.ensures ∙ all_seen v.rules.now.classes (contents v.store.now) c.loop-kind.kinds.now c.loop-kind.rest.now c.in_default.ensures.cases ∙ sym c.loop-kind.invariant
