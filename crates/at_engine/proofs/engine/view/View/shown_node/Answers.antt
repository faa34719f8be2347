use Rattle.at_store.specs.Shown.{path, tree}
use Rattle.at_engine.proofs.AnswersTold.{shown_null, shown_node}
use Rattle.at_engine.proofs.engine.view.View.shown_node.Goals as goal

pub returns-in-None : goal.returns-in-None
returns-in-None g c =
    let v = c.args.self.now in
    rw c.in-None.is (λ n l. shown_null (path v.store.now) v.rules.now.classes (tree v.store.now) l)

pub returns-in_ok-path_to-in-Some : goal.returns-in_ok-path_to-in-Some
returns-in_ok-path_to-in-Some g c =
    let v = c.args.self.now in
    let q = c.in_ok-path_to-in-Some in
    rw c.in-Some.is (λ n l. shown_node (path v.store.now) v.rules.now.classes (tree v.store.now) c.in-Some.node q.field-0 q.ensures.writable q.ensures.shown l)
