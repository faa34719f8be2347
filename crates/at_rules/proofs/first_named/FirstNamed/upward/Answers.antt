use Rattle.std.proofs.Common.{◌∙◌, ap, sym}
use Rattle.std.specs.Prelude.{option_and_then}
use Rattle.at_model.specs.Classes.{chain}
use Rattle.at_rules.specs.Upward.{declares}
use Rattle.at_rules.proofs.Dispatching.{value_at}
use Rattle.at_rules.proofs.FirstNaming.{found_at_first}
use Rattle.at_rules.proofs.first_named.FirstNamed.upward.Goals as goal

pub returns-in_err-position : goal.returns-in_err-position
returns-in_err-position c = λ ks are.
    let es = c.args.self.now.first.entries in
    let cs = chain c.args.classes.now c.args.class in
    c.from_residual.ensures
    ∙ ap (option_and_then (value_at (λ x. x) es)) (sym c.in_err-position.was ∙ c.declared_above.ensures)
    ∙ found_at_first (declares c.args.name cs) es
    ∙ are c.args.name cs

pub returns : goal.returns
returns c = λ ks are.
    let es = c.args.self.now.first.entries in
    let cs = chain c.args.classes.now c.args.class in
    c.at.ensures
    ∙ ap (option_and_then (value_at (λ x. x) es)) (sym c.in_ok-position.was ∙ c.declared_above.ensures)
    ∙ found_at_first (declares c.args.name cs) es
    ∙ are c.args.name cs
