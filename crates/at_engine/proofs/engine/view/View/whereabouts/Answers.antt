use Rattle.std.proofs.Common.{◌∙◌, ℕ, Option, sym, subst}
use Rattle.std.proofs.lemmas.Result.{err_from_is_err_and}
use Rattle.at_model.specs.Machine.{marked}
use Rattle.at_store.specs.Shown.{path}
use Rattle.at_engine.specs.Holding.{state_in}
use Rattle.at_engine.specs.Marks.{marks_view}
use Rattle.at_engine.specs.Naming.{IsNumberOf}
use Rattle.at_engine.proofs.Commands.{where_nowhere, where_found}
use Rattle.at_engine.proofs.NamingLemmas.{marked_number}
use Rattle.at_engine.proofs.engine.view.View.whereabouts.Goals as goal

pub returns-in_err-path_to-in-Some : goal.returns-in_err-path_to-in-Some
returns-in_err-path_to-in-Some g c =
    let p = err_from_is_err_and c.from_residual.result c.from_residual.ensures.1 in
    rw p.1 tt

pub returns-in_ok-path_to-in-Some : goal.returns-in_ok-path_to-in-Some
returns-in_ok-path_to-in-Some g c = λ version posts.
    let v = c.args.self.now in
    let ms = g.M.Lookup.marks v.marks.now in
    let name = c.args.name.now in
    let all = marked_number v.store.now c.args.session name ms v.there in
    let (n, is, p) = subst (λ (o : Option ℕ). IsNumberOf v.store.now (marked (marks_view (path v.store.now) ms) c.args.session name) o) (sym c.get.ensures ∙ c.in-Some.is) all in
    where_found v.rules.now (state_in v.store.now version ms posts) c.args.session name n _ is (c.in_ok-path_to-in-Some.ensures.shown n p) c.in_ok-path_to-in-Some.ensures.writable

pub returns-in-None : goal.returns-in-None
returns-in-None g c = λ version posts.
    let v = c.args.self.now in
    let ms = g.M.Lookup.marks v.marks.now in
    let name = c.args.name.now in
    let all = marked_number v.store.now c.args.session name ms v.there in
    let none = subst (λ (o : Option ℕ). IsNumberOf v.store.now (marked (marks_view (path v.store.now) ms) c.args.session name) o) (sym c.get.ensures ∙ c.in-None.is) all in
    where_nowhere v.rules.now (state_in v.store.now version ms posts) c.args.session name none
