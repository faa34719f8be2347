use Rattle.std.proofs.Common.{◌≡◌, ◌∙◌, Some, sym, subst}
use Rattle.std.proofs.lemmas.Result.{IfOk-weaker}
use Rattle.at_model.specs.Classes.{Classes}
use Rattle.at_model.specs.Paths.{path_of}
use Rattle.at_store.specs.Shown.{tree}
use Rattle.at_engine.proofs.NamingLemmas.{path_written, path_to_is, tree_there}
use Rattle.at_engine.proofs.engine.view.View.path_to.Goals as goal

pub returns-clause-shown : goal.returns-clause-shown
returns-clause-shown g c n p =
    let v = c.args.self.now in
    let (u, at') = tree_there v.store.now c.args.node n p in
    let (q, written) = path_written v.rules.now.classes (tree v.store.now) 0 n u c.args.self.now.conforming at' in
    let there = subst (λ (x : Classes). path_of x (tree v.store.now) n ≡ Some q) (sym c.classes.ensures) written in
    IfOk-weaker c.path_of.result _ _ (λ r same. same ∙ sym (path_to_is v.rules.now.classes (tree v.store.now) n q written)) (c.path_of.ensures.shown n q p there)
