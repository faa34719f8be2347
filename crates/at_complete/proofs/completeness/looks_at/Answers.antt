use Rattle.std.proofs.Common.{ap, sym, ◌∙◌}
use Rattle.std.specs.Prelude.{nat_eq, option_map}
use Rattle.std.specs.List.{list_any}
use Rattle.at_model.specs.Classes.{is_concrete}
use Rattle.at_rules.specs.Bodies.{body_view}
use Rattle.at_complete.proofs.Lacking.{looks_past, looks_below}
use Rattle.at_complete.proofs.completeness.looks_at.Goals as goal

pub returns-in-Some : goal.returns-in-Some
returns-in-Some c =
    looks_past c.args.rules.now c.args.attribute c.args.class _ c.args.walk.now.met.items c.args.walk.now.pending.items (sym (ap (option_map (λ b. body_view b.now)) c.in-Some.is) ∙ c.own_in.ensures)

pub returns-then-is_concrete : goal.returns-then-is_concrete
returns-then-is_concrete c =
    (sym c.own_in.ensures ∙ ap (option_map (λ b. body_view b.now)) c.in_default.is, ap (λ k. is_concrete k c.args.class) (sym c.classes.ensures) ∙ sym c.is_concrete.ensures ∙ c.if-is_concrete.true)

pub returns : goal.returns
returns c =
    looks_below c.args.rules.now c.args.attribute c.args.class (λ e. list_any (nat_eq e) c.below.result.now) _ _ _ _ (sym (ap (option_map (λ b. body_view b.now)) c.in_default.is) ∙ c.own_in.ensures)
    (ap (λ k. is_concrete k c.args.class) (sym c.classes.ensures) ∙ sym c.is_concrete.ensures ∙ c.if-is_concrete.false)
    (λ e. ap (list_any (nat_eq e)) c.below.ensures ∙ c.requires c.args.class e) c.in_ok-meet_all.ensures
