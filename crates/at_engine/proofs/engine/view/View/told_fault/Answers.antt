use Rattle.std.proofs.Common.{◌∙◌, ap}
use Rattle.at_store.specs.Shown.{path, tree}
use Rattle.at_engine.proofs.AnswersTold.{told_fault}
use Rattle.at_engine.proofs.engine.view.View.told_fault.Goals as goal

pub returns : goal.returns
returns g c = λ a l.
    let v = c.args.self.now in
    let p = c.in_ok-path in
    told_fault (path v.store.now) v.rules.now (tree v.store.now) p.path c.in_ok-attribute.attribute c.args.at.now p.ensures.writable (λ n is. p.ensures.shown n (ap (path v.store.now) c.node.ensures ∙ is)) c.in_ok-attribute.ensures c.args.kind l
