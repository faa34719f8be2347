use Rattle.std.proofs.Common.{◌++◌, ◌∷◌, Some, sym, ap, ◌∙◌, lit<}
use Rattle.std.proofs.lemmas.Str.Pattern.{split_parts}
use Rattle.at_tree.proofs.FrontsLemmas.{name_found}
use Rattle.at_tree.proofs.ShapeLaws.{name_of-named}
use Rattle.at_tree.proofs.tree.front.take_class.Goals as goal

pub returns-clause-taken : goal.returns-clause-taken
returns-clause-taken c =
    let cut = split_parts 40 c.args.front.now.rest.now (Some (c.in-Some.name, c.in-Some.behind)) c.in-Some.ensures.cases (lit< tt) in
    cut.0 ∙ ap (λ ys. ys ++ 40 ∷ c.in-Some.behind.now) (sym (name_found c.args.classes.now c.in-Some.name.now c.in-Some-id_of.class (sym c.id_of.ensures.found ∙ c.in-Some-id_of.is)))

pub returns-clause-named : goal.returns-clause-named
returns-clause-named c = name_of-named c.args.classes.now c.in-Some-id_of.class c.in-Some-id_of.ensures.sound c.in-Some-id_of.ensures.within
