use Rattle.std.proofs.Common.{◌∙◌, ◌++◌, ap}
use Rattle.std.proofs.lemmas.Result.{err_from_is_err_and}
use Rattle.at_model.specs.Classes.{Classes}
use Rattle.at_model.specs.Terms.{tree_text}
use Rattle.at_protocol.specs.LineView.{place_view}
use Rattle.at_engine.specs.Holding.{state_in}
use Rattle.at_engine.proofs.Commands.{show_nowhere, show_term}
use Rattle.at_engine.proofs.NamingLemmas.{tree_there}
use Rattle.at_engine.proofs.engine.view.View.show.Goals as goal

pub returns-in_default : goal.returns-in_default
returns-in_default g c = λ version posts.
    let v = c.args.self.now in
    show_nowhere v.rules.now (state_in v.store.now version (g.M.Lookup.marks v.marks.now) posts) c.args.session (place_view c.args.place.now) c.in_default.ensures

pub returns-in_err-write_term : goal.returns-in_err-write_term
returns-in_err-write_term g c =
    let p = err_from_is_err_and c.from_residual.result c.from_residual.ensures.1 in
    rw p.1 tt

pub returns : goal.returns
returns g c = λ version posts.
    let v = c.args.self.now in
    let (n, named, p) = c.in-Some.ensures in
    let (u, at') = tree_there v.store.now c.in-Some.node n p in
    let text = c.in_ok-write_term.ensures.ok n u p at'
    ∙ ap (λ xs. xs ++ tree_text c.classes.result.now u) c.new-text.ensures.items
    ∙ ap (λ (x : Classes). tree_text x u) c.classes.ensures in
    show_term v.rules.now (state_in v.store.now version (g.M.Lookup.marks v.marks.now) posts) c.args.session (place_view c.args.place.now) n u c.write_term.new.out named at' text
