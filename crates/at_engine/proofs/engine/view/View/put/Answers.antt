use Rattle.std.proofs.Common.{Some, refl, sym}
use Rattle.std.proofs.lemmas.Result.{err_from_is_err_and}
use Rattle.at_model.specs.Edits as edit
use Rattle.at_model.specs.Edits.{optional_class}
use Rattle.at_model.specs.Lines.{Put}
use Rattle.at_model.specs.Machine.{changed, with_tree}
use Rattle.at_tree.specs.View.{term_view}
use Rattle.at_protocol.specs.LineView.{place_view}
use Rattle.at_engine.specs.Holding.{state_in}
use Rattle.at_engine.proofs.Commands.{misshaped, no_component, other_shape, put_as, put_nowhere, put_tree, right_shape}
use Rattle.at_engine.proofs.MeantLemmas.{hindered_by}
use Rattle.at_engine.proofs.engine.view.View.put.Goals as goal

pub returns-in_default : goal.returns-in_default
returns-in_default g c = λ version posts.
    let v = c.args.self.now in
    let s = state_in v.store.now version (g.M.Lookup.marks v.marks.now) posts in
    put_nowhere v.rules.now s c.args.session (place_view c.args.place.now) c.args.part.now (term_view c.args.term.now) c.in_default.ensures

pub returns-in_default-component : goal.returns-in_default-component
returns-in_default-component g c = λ version posts.
    let v = c.args.self.now in
    let s = state_in v.store.now version (g.M.Lookup.marks v.marks.now) posts in
    let k = v.rules.now.classes in
    let t = term_view c.args.term.now in
    let (n, named, p) = c.in-Some.ensures in
    put_as v.rules.now s c.args.session (place_view c.args.place.now) n named _ s t c.args.part.now
    (no_component v.rules.now s n c.args.part.now optional_class (λ i b. with_tree k t (Some b) (λ u. changed k s (edit.Put n i u))) (c.in_default-component.ensures n p))

pub returns-in_default-optional_class : goal.returns-in_default-optional_class
returns-in_default-optional_class g c = λ version posts.
    let v = c.args.self.now in
    let s = state_in v.store.now version (g.M.Lookup.marks v.marks.now) posts in
    let k = v.rules.now.classes in
    let t = term_view c.args.term.now in
    let found = c.in-Some-component.found in
    let (n, named, p) = c.in-Some.ensures in
    put_as v.rules.now s c.args.session (place_view c.args.place.now) n named _ s t c.args.part.now
    (other_shape v.rules.now s n c.args.part.now optional_class (λ i b. with_tree k t (Some b) (λ u. changed k s (edit.Put n i u))) found.position found.shape (c.in-Some-component.ensures n p) (sym c.in_default-optional_class.ensures))

pub returns : goal.returns
returns g c =
    let v = c.args.self.now in
    let found = c.in-Some-component.found in
    let (n, named, p) = c.in-Some.ensures in
    record {
      node = n;
      target = n;
      found = p;
      there = p;
      meant = λ version posts.
          let s = state_in v.store.now version (g.M.Lookup.marks v.marks.now) posts in
          put_tree v.rules.now s c.args.session (place_view c.args.place.now) n named c.args.part.now found.position found.shape (c.in-Some-component.ensures n p) (term_view c.args.term.now) c.in-Some-optional_class.class c.in_ok-tree.tree (sym c.in-Some-optional_class.ensures) c.in_ok-tree.ensures;
    }

pub returns-in_err-tree : goal.returns-in_err-tree
returns-in_err-tree g c =
    let v = c.args.self.now in
    let k = v.rules.now.classes in
    let t = term_view c.args.term.now in
    let place = place_view c.args.place.now in
    let ms = g.M.Lookup.marks v.marks.now in
    let found = c.in-Some-component.found in
    let (n, named, p) = c.in-Some.ensures in
    let b = c.in-Some-optional_class.class in
    let o = c.in_err-tree.field-0.0 in
    let e = err_from_is_err_and c.from_residual.result c.from_residual.ensures.1 in
    rw (e.1, e.2) (hindered_by v.rules.now v.store.now ms c.args.session (Put place c.args.part.now t) o (λ value told version posts.
    let s = state_in v.store.now version ms posts in
    put_as v.rules.now s c.args.session place n named value s t c.args.part.now
    (right_shape v.rules.now s n c.args.part.now optional_class (λ i b. with_tree k t (Some b) (λ u. changed k s (edit.Put n i u))) found.position found.shape b value s (c.in-Some-component.ensures n p) (sym c.in-Some-optional_class.ensures)
    (misshaped v.rules.now t b (Some b) (λ u. changed k s (edit.Put n found.position u)) s o value refl c.in_err-tree.ensures told))))
