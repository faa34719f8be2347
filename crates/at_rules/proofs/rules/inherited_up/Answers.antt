use Rattle.std.proofs.Common.{◌∙◌, ap, sym, subst, option_map}
use Rattle.at_rules.specs.Bodies.{body_view}
use Rattle.at_rules.specs.Holding.{Leads}
use Rattle.at_rules.specs.RulesView.{numbered_in}
use Rattle.at_rules.proofs.rules.inherited_up.Goals as goal

pub returns-in_err-holder-in-Some : goal.returns-in_err-holder-in-Some
returns-in_err-holder-in-Some c =
    let f = numbered_in c.args.inherited.now.entries c.args.name c.args.part in
    let leads = c.requires c.args.class c.args.name c.args.part c.in-Some.cell (sym c.in-Some.ensures) in
    ap (option_map (λ b. body_view b.now)) c.from_residual.ensures
    ∙ sym (subst (Leads f c.args.classes.now c.args.class) (sym c.class_at.ensures ∙ c.in_err-holder-in-Some.was) leads)

pub returns-in_ok-holder-in-Some : goal.returns-in_ok-holder-in-Some
returns-in_ok-holder-in-Some c =
    let f = numbered_in c.args.inherited.now.entries c.args.name c.args.part in
    let leads = c.requires c.args.class c.args.name c.args.part c.in-Some.cell (sym c.in-Some.ensures) in
    c.inherited_above.ensures
    ∙ sym (subst (Leads f c.args.classes.now c.args.class) (sym c.class_at.ensures ∙ c.in_ok-holder-in-Some.was) leads)
