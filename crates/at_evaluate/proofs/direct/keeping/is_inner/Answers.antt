use Rattle.std.proofs.Common.{◌≡◌, false, rules}
use Rattle.at_model.specs.Rules.{is_lazy}
use Rattle.at_evaluate.proofs.of_nesting.Ground.{own_of}
use Rattle.at_evaluate.proofs.direct.keeping.is_inner.Goals as goal

pub returns-clause-own : goal.returns-clause-own
returns-clause-own c = λ is.
    let eager : is_lazy c.args.rules.now c.args.attribute ≡ false = search rules in
    own_of c.args.rules.now c.requires c.args.attribute eager
