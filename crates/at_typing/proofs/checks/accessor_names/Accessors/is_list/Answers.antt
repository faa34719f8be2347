use Rattle.std.proofs.Common.{codes, Some, None, ◌∙◌}
use Rattle.std.proofs.lemmas.Bool.Decides.{Decides-eqb}
use Rattle.std.proofs.lemmas.Slice.Eq.{strip_prefix_is, strip_suffix_is}
use Rattle.at_typing.proofs.AccessorNaming.{none_around, none_before, between}
use Rattle.at_typing.proofs.checks.accessor_names.Accessors.is_list.Goals as goal

pub returns-in_default : goal.returns-in_default
returns-in_default c = none_around c.args.name.now (codes "get") (codes "List") c.args.self.now.lists.texts.keys
    (strip_prefix_is Decides-eqb c.args.name.now (codes "get") None c.in_default.ensures.cases)

pub returns-in-Some-strip_suffix : goal.returns-in-Some-strip_suffix
returns-in-Some-strip_suffix c =
    let name = c.args.name.now in
    let rest = c.in-Some.rest in
    let list = c.in-Some-strip_suffix.list in
    c.contains.ensures ∙ between name (codes "get") rest.now list.now (codes "List") c.args.self.now.lists.texts.keys
    (strip_prefix_is Decides-eqb name (codes "get") (Some rest) c.in-Some.ensures.cases)
    (strip_suffix_is Decides-eqb rest.now (codes "List") (Some list) c.in-Some-strip_suffix.ensures.cases)

pub returns-in-None : goal.returns-in-None
returns-in-None c =
    let name = c.args.name.now in
    let rest = c.in-Some.rest in
    none_before name (codes "get") rest.now (codes "List") c.args.self.now.lists.texts.keys
    (strip_prefix_is Decides-eqb name (codes "get") (Some rest) c.in-Some.ensures.cases)
    (strip_suffix_is Decides-eqb rest.now (codes "List") None c.in-None.ensures.cases)
