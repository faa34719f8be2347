use Rattle.std.proofs.Common.{◌≡◌, ◌∙◌, true, false, Option, None, Some, is_some, option_map, refl, sym, subst}
use Rattle.std.proofs.lemmas.Result.{err_from_is_err_and}
use Rattle.at_model.specs.Classes.{TokenKind as Kind}
use Rattle.at_model.specs.Edits as edit
use Rattle.at_model.specs.Edits.{token_kind}
use Rattle.at_model.specs.Lines.{Token}
use Rattle.at_model.specs.Machine.{changed, obeyed}
use Rattle.at_model.specs.Trees as tree
use Rattle.at_class.specs.View.{token_kind_view}
use Rattle.at_class.specs.declared.part.TokenKind.{TokenKind}
use Rattle.at_tree.specs.Token.{token_view}
use Rattle.at_protocol.specs.LineView.{place_view}
use Rattle.at_engine.specs.Holding.{state_in}
use Rattle.at_engine.proofs.Commands.{no_component, other_shape, token_as, token_is, token_nowhere}
use Rattle.at_engine.proofs.engine.view.View.token.Goals as goal

none_of : (o : Option TokenKind) → is_some o ≡ false → option_map token_kind_view o ≡ None
none_of None e = refl
none_of (Some a) e = absurd cc

some_of : (o : Option TokenKind) → is_some o ≡ true → (a : Kind) × (option_map token_kind_view o ≡ Some a)
some_of None e = absurd cc
some_of (Some a) e = (token_kind_view a, refl)

pub returns-in_default : goal.returns-in_default
returns-in_default g c = λ version posts.
    let v = c.args.self.now in
    let s = state_in v.store.now version (g.M.Lookup.marks v.marks.now) posts in
    token_nowhere v.rules.now s c.args.session (place_view c.args.place.now) c.args.part.now (token_view c.args.value.now) c.in_default.ensures

pub returns-in_default-component : goal.returns-in_default-component
returns-in_default-component g c = λ version posts.
    let v = c.args.self.now in
    let s = state_in v.store.now version (g.M.Lookup.marks v.marks.now) posts in
    let (n, named, p) = c.in-Some.ensures in
    token_as v.rules.now s c.args.session (place_view c.args.place.now) n named _ s c.args.part.now (token_view c.args.value.now)
    (no_component v.rules.now s n c.args.part.now token_kind (λ i kind. changed v.rules.now.classes s (edit.Token n i (token_view c.args.value.now))) (c.in_default-component.ensures n p))

pub returns-then-is_none : goal.returns-then-is_none
returns-then-is_none g c = λ version posts.
    let v = c.args.self.now in
    let s = state_in v.store.now version (g.M.Lookup.marks v.marks.now) posts in
    let (n, named, p) = c.in-Some.ensures in
    let found = c.in-Some-component.found in
    token_as v.rules.now s c.args.session (place_view c.args.place.now) n named _ s c.args.part.now (token_view c.args.value.now)
    (other_shape v.rules.now s n c.args.part.now token_kind (λ i kind. changed v.rules.now.classes s (edit.Token n i (token_view c.args.value.now))) found.position found.shape (c.in-Some-component.ensures n p)
    (sym c.token_kind.ensures ∙ none_of c.token_kind.result c.if-is_none.ensures))

pub returns-in_err-value : goal.returns-in_err-value
returns-in_err-value g c =
    let e = err_from_is_err_and c.from_residual.result c.from_residual.ensures.1 in
    rw (e.1, e.2) tt

pub returns : goal.returns
returns g c =
    let v = c.args.self.now in
    let (n, named, p) = c.in-Some.ensures in
    let found = c.in-Some-component.found in
    let (kind, is_kind) = some_of c.token_kind.result c.if-is_none.ensures in
    record {
      node = n;
      target = n;
      found = p;
      there = p;
      meant = λ version posts.
          let s = state_in v.store.now version (g.M.Lookup.marks v.marks.now) posts in
          let is = token_is v.rules.now s c.args.session (place_view c.args.place.now) n named c.args.part.now found.position found.shape (c.in-Some-component.ensures n p) (token_view c.args.value.now) kind (sym c.token_kind.ensures ∙ is_kind) in
          let Is : tree.Token → Type 0 = λ x. obeyed v.rules.now s c.args.session (Token (place_view c.args.place.now) c.args.part.now (token_view c.args.value.now)) ≡ changed v.rules.now.classes s (edit.Token n found.position x) in
          subst Is (sym c.in_ok-value.ensures) is;
    }
