use Rattle.std.proofs.Common.{◌∙◌, ap, sym, subst}
use Rattle.std.specs.Prelude.{option_and_then}
use Rattle.std.specs.Map.{keys_of}
use Rattle.at_model.specs.Rules.{Rules}
use Rattle.at_rules.specs.declared.dispatch.Precedence.TheVariants.{Nearest}
use Rattle.at_rules.specs.Dispatch.{body_at, cell_at, found_up, AreRight}
use Rattle.at_rules.proofs.Dispatching.{own_right}
use Rattle.at_rules.proofs.rules.Rules.own_body.Goals as goal

pub returns-in-Some : goal.returns-in-Some
returns-in-Some c =
    let es = c.self.inside.equations.own.entries in
    let rows = c.self.inside.bodies.rows.items in
    let right = subst (λ classes. AreRight (found_up Nearest (keys_of es) classes) rows) (ap (λ (r : Rules). r.classes) c.self.view_is) c.self.invariant.of_bodies in
    let there = ap (λ i. cell_at rows c.args.class i) (sym c.index.ensures) ∙ sym c.cell.ensures ∙ c.in-Some.is in
    c.body_at.ensures
    ∙ ap (option_and_then (body_at es)) c.position.ensures
    ∙ own_right es c.args.self.now (ap (λ (r : Rules). r.own) c.self.view_is) rows right c.args.class c.args.attribute c.in-Some.cell there
