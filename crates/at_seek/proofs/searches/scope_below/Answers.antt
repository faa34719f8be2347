use Rattle.std.proofs.Common.{ap, map, sym, ◌∙◌}
use Rattle.at_rules.specs.Bodies.{kind_view}
use Rattle.at_seek.proofs.Scopes.{parameters_below, scope_kinds}
use Rattle.at_seek.proofs.searches.scope_below.Goals as goal

pub returns : goal.returns
returns c = λ rules texts k a h over alike named of.
    scope_kinds c.scope_with.result h c.args.class c.deref.result.now a.parameters c.scope_with.ensures
    (parameters_below rules texts c.args.finder.now k c.args.name a c.in_ok-declared.declared over alike named of c.in_ok-declared.ensures
    ∙ ap (map kind_view) (sym c.deref.ensures.value))
