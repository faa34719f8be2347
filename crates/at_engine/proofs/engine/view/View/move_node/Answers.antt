use Rattle.std.proofs.Common.{◌≡◌, ◌∙◌, ℕ, true, false, not, Option, None, Some, ap, is_some, refl, sym}
use Rattle.at_model.specs.Edits as edit
use Rattle.at_model.specs.Edits.{list_class}
use Rattle.at_model.specs.Machine.{changed}
use Rattle.at_class.specs.View.{shape_view}
use Rattle.at_protocol.specs.LineView.{place_view}
use Rattle.at_engine.specs.Holding.{state_in}
use Rattle.at_engine.proofs.Commands.{move_as, move_is, move_nowhere, move_to_nowhere, no_component, other_shape}
use Rattle.at_engine.proofs.engine.view.View.move_node.Goals as goal

some_of : (o : Option ℕ) → is_some o ≡ true → (b : ℕ) × (o ≡ Some b)
some_of None e = absurd cc
some_of (Some b) e = (b, refl)

none_of : (o : Option ℕ) → is_some o ≡ false → o ≡ None
none_of None e = refl
none_of (Some b) e = absurd cc

pub returns-in_default : goal.returns-in_default
returns-in_default g c = λ version posts.
    let v = c.args.self.now in
    let s = state_in v.store.now version (g.M.Lookup.marks v.marks.now) posts in
    move_nowhere v.rules.now s c.args.session (place_view c.args.place.now) (place_view c.args.to.now) c.args.part.now c.args.index c.in_default.ensures

pub returns-in_default-node_named : goal.returns-in_default-node_named
returns-in_default-node_named g c = λ version posts.
    let v = c.args.self.now in
    let s = state_in v.store.now version (g.M.Lookup.marks v.marks.now) posts in
    let (n, named, p) = c.in-Some.ensures in
    move_to_nowhere v.rules.now s c.args.session (place_view c.args.place.now) (place_view c.args.to.now) c.args.part.now c.args.index n named c.in_default-node_named.ensures

pub returns-in_default-component : goal.returns-in_default-component
returns-in_default-component g c = λ version posts.
    let v = c.args.self.now in
    let s = state_in v.store.now version (g.M.Lookup.marks v.marks.now) posts in
    let (n, named, p) = c.in-Some.ensures in
    let (m, target, q) = c.in-Some-node_named.ensures in
    move_as v.rules.now s c.args.session (place_view c.args.place.now) (place_view c.args.to.now) c.args.part.now c.args.index n named m target _ s
    (no_component v.rules.now s m c.args.part.now list_class (λ i b. changed v.rules.now.classes s (edit.Move n m i c.args.index)) (c.in_default-component.ensures m q))

pub returns-then-is_none : goal.returns-then-is_none
returns-then-is_none g c = λ version posts.
    let v = c.args.self.now in
    let s = state_in v.store.now version (g.M.Lookup.marks v.marks.now) posts in
    let (n, named, p) = c.in-Some.ensures in
    let (m, target, q) = c.in-Some-node_named.ensures in
    let found = c.in-Some-component.found in
    let none = none_of (list_class (shape_view found.shape)) (ap is_some (sym c.list_class.ensures) ∙ c.is_none.ensures ∙ ap not c.if-is_none.true) in
    move_as v.rules.now s c.args.session (place_view c.args.place.now) (place_view c.args.to.now) c.args.part.now c.args.index n named m target _ s
    (other_shape v.rules.now s m c.args.part.now list_class (λ i b. changed v.rules.now.classes s (edit.Move n m i c.args.index)) found.position found.shape (c.in-Some-component.ensures m q) none)

pub returns : goal.returns
returns g c =
    let v = c.args.self.now in
    let (n, named, p) = c.in-Some.ensures in
    let (m, target, q) = c.in-Some-node_named.ensures in
    let found = c.in-Some-component.found in
    let some = ap is_some (sym c.list_class.ensures) ∙ c.is_none.ensures ∙ ap not c.if-is_none.false in
    let (b, is_list) = some_of (list_class (shape_view found.shape)) some in
    record {
      node = n;
      target = m;
      found = p;
      there = q;
      meant = λ version posts. move_is v.rules.now (state_in v.store.now version (g.M.Lookup.marks v.marks.now) posts) c.args.session (place_view c.args.place.now) (place_view c.args.to.now) c.args.part.now c.args.index n named m target found.position found.shape b (c.in-Some-component.ensures m q) is_list;
    }
