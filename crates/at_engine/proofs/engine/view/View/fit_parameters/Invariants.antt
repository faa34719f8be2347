use Rattle.std.proofs.Common.{◌≡◌, length, map}
use Rattle.at_model.specs.Machine.{parameters_of}
use Rattle.at_body.specs.Values.{value_view}
use Rattle.at_rules.specs.Bodies.{kind_view}
use Rattle.at_store.specs.Shown.{contents}
use Rattle.at_engine.specs.Fitting.{fit_numbers}
use Rattle.at_engine.proofs.engine.view.View.fit_parameters.Given as goal

-- the values before the rest fit
abbrev pub invariant-loop-kind : goal.invariant-loop-kind
invariant-loop-kind g l =
    let v = l.fn.self in
    fit_numbers v.rules.now.classes (contents v.store.now) (parameters_of v.rules.now l.fn.attribute) (map value_view l.fn.values)
    ≡ fit_numbers v.rules.now.classes (contents v.store.now) (map kind_view l.kinds) (map value_view l.rest)

abbrev pub decreases-loop-kind : goal.decreases-loop-kind
decreases-loop-kind g l = length l.kinds
