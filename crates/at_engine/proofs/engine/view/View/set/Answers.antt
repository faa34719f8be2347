use Rattle.std.proofs.Common.{sym}
use Rattle.std.proofs.lemmas.Result.{err_from_is_err_and}
use Rattle.at_model.specs.Edits as edit
use Rattle.at_model.specs.Edits.{class_asked}
use Rattle.at_model.specs.Lines.{Set}
use Rattle.at_model.specs.Machine.{changed}
use Rattle.at_tree.specs.View.{term_view}
use Rattle.at_protocol.specs.LineView.{place_view}
use Rattle.at_engine.specs.Holding.{state_in}
use Rattle.at_engine.proofs.Commands.{misshaped, set_as, set_nowhere, set_tree}
use Rattle.at_engine.proofs.MeantLemmas.{hindered_by}
use Rattle.at_engine.proofs.engine.view.View.set.Goals as goal

pub returns-in_default : goal.returns-in_default
returns-in_default g c = λ version posts.
    let v = c.args.self.now in
    let s = state_in v.store.now version (g.M.Lookup.marks v.marks.now) posts in
    set_nowhere v.rules.now s c.args.session (place_view c.args.place.now) (term_view c.args.term.now) c.in_default.ensures

pub returns-in_default-class_asked : goal.returns-in_default-class_asked
returns-in_default-class_asked g c =
    let (n, named, p) = c.in-Some.ensures in
    let none = (c.in_default-class_asked.ensures n p).1 in absurd cc

pub returns : goal.returns
returns g c =
    let v = c.args.self.now in
    let (n, named, p) = c.in-Some.ensures in
    let asked = sym (c.in-Some-class_asked.ensures n p).0 in
    record {
      node = n;
      target = n;
      found = p;
      there = p;
      meant = λ version posts.
          let s = state_in v.store.now version (g.M.Lookup.marks v.marks.now) posts in
          set_tree v.rules.now s c.args.session (place_view c.args.place.now) n named (term_view c.args.term.now) c.in-Some-class_asked.class c.in_ok-tree.tree asked c.in_ok-tree.ensures;
    }

pub returns-in_err-tree : goal.returns-in_err-tree
returns-in_err-tree g c =
    let v = c.args.self.now in
    let k = v.rules.now.classes in
    let t = term_view c.args.term.now in
    let place = place_view c.args.place.now in
    let ms = g.M.Lookup.marks v.marks.now in
    let (n, named, p) = c.in-Some.ensures in
    let asked = sym (c.in-Some-class_asked.ensures n p).0 in
    let e = err_from_is_err_and c.from_residual.result c.from_residual.ensures.1 in
    rw (e.1, e.2) (hindered_by v.rules.now v.store.now ms c.args.session (Set place t) c.in_err-tree.field-0.0 (λ value told version posts.
    let s = state_in v.store.now version ms posts in
    set_as v.rules.now s c.args.session place n named value s t
    (misshaped v.rules.now t c.in-Some-class_asked.class (class_asked k s.tree n) (λ u. changed k s (edit.Set n u)) s c.in_err-tree.field-0.0 value asked c.in_err-tree.ensures told)))
