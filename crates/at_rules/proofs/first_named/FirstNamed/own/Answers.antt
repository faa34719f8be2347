use Rattle.std.proofs.Common.{◌∙◌, ◌∷◌, []}
use Rattle.at_rules.proofs.FirstNaming.{found_own}
use Rattle.at_rules.proofs.first_named.FirstNamed.own.Goals as goal

pub returns : goal.returns
returns c = λ ks are. c.copied.ensures ∙ c.get.ensures.value ∙ found_own c.args.self.now.first.entries c.args.class c.args.name ∙ are c.args.name (c.args.class ∷ [])
