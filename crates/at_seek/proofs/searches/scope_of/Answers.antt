use Rattle.std.proofs.Common.{◌≡◌, ℕ, ap, map, sym, ◌∙◌}
use Rattle.at_rules.specs.Bodies.{kind_view}
use Rattle.at_rules.specs.declared.rules.Attribute.{Attribute}
use Rattle.at_seek.proofs.Scopes.{parameters_told, scope_kinds}
use Rattle.at_seek.proofs.searches.scope_of.Goals as goal

pub returns-in-Some : goal.returns-in-Some
returns-in-Some c = λ rules a h over there.
    let e : (ℕ × ℕ) × Attribute = (c.in-Some.field-0-0.now, c.in-Some.declared.now) in
    scope_kinds c.scope_with.result h c.args.class c.deref.result.now a.parameters c.scope_with.ensures
    (parameters_told rules c.args.finder.now c.args.attribute e a over (sym c.in-Some.ensures.entry) there ∙ ap (map kind_view) (sym c.deref.ensures.value))
