use Rattle.std.proofs.Common.{◌∙◌, Some, None}
use Rattle.std.proofs.lemmas.Bool.Decides.{Decides-eqb}
use Rattle.std.proofs.lemmas.Slice.Eq.{strip_prefix_is}
use Rattle.at_typing.proofs.AccessorNaming.{none_behind, one_behind}
use Rattle.at_typing.proofs.checks.accessor_names.PartNames.has_behind.Goals as goal

pub returns-in-Some : goal.returns-in-Some
returns-in-Some c = c.contains.ensures
    ∙ one_behind c.args.name.now c.args.prefix.now c.in-Some.rest.now c.args.self.now.texts.keys
    (strip_prefix_is Decides-eqb c.args.name.now c.args.prefix.now (Some c.in-Some.rest) c.in-Some.ensures.cases)

pub returns-in-None : goal.returns-in-None
returns-in-None c = none_behind c.args.name.now c.args.prefix.now c.args.self.now.texts.keys (strip_prefix_is Decides-eqb c.args.name.now c.args.prefix.now None c.in-None.ensures.cases)
