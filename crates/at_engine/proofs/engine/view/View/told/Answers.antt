use Rattle.at_store.specs.Shown.{path, tree}
use Rattle.at_engine.proofs.AnswersTold.{told_value}
use Rattle.at_engine.proofs.engine.view.View.told.Goals as goal

pub returns-in_ok-shown-in-Value : goal.returns-in_ok-shown-in-Value
returns-in_ok-shown-in-Value g c =
    let v = c.args.self.now in
    rw c.in-Value.is (λ a l. told_value (path v.store.now) v.rules.now (tree v.store.now) c.in_ok-shown-in-Value.field-0 c.in_ok-shown-in-Value.ensures l)

pub returns-in-Fault : goal.returns-in-Fault
returns-in-Fault g c = rw c.in-Fault.is c.told_fault.ensures

pub returns-in-Circular : goal.returns-in-Circular
returns-in-Circular g c = rw c.in-Circular.is c.told_circle.ensures
