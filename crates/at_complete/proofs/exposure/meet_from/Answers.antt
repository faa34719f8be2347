use Rattle.std.proofs.Common.{ap, sym, ◌∙◌, length, refl}
use Rattle.std.specs.Prelude.{nat_eq}
use Rattle.std.specs.List.{list_any}
use Rattle.at_model.specs.Classes.{is_concrete, parts}
use Rattle.at_model.specs.Rules.{attribute_name}
use Rattle.at_complete.proofs.Exposing.{leads_concrete, leads_abstract, concrete_within}
use Rattle.at_complete.proofs.exposure.meet_from.Goals as goal

pub returns-then-is_concrete : goal.returns-then-is_concrete
returns-then-is_concrete c =
    leads_concrete c.args.rules.now (attribute_name c.args.rules.now c.args.attribute) c.args.class
    (length (parts c.args.rules.now.classes c.args.class)) (λ e. list_any (nat_eq e) c.below.result.now) _ _ _ _ _ _
    (λ e. ap (list_any (nat_eq e)) c.below.ensures ∙ c.requires c.args.class e)
    (ap (λ k. is_concrete k c.args.class) (sym c.classes.ensures) ∙ sym c.is_concrete.ensures ∙ c.if-is_concrete.true) refl c.in_ok-meet_all.ensures c.in_ok-meet_within.ensures

pub returns : goal.returns
returns c =
    leads_abstract c.args.rules.now (attribute_name c.args.rules.now c.args.attribute) c.args.class (λ e. list_any (nat_eq e) c.below.result.now) _ _ _ _
    (λ e. ap (list_any (nat_eq e)) c.below.ensures ∙ c.requires c.args.class e)
    (ap (λ k. is_concrete k c.args.class) (sym c.classes.ensures) ∙ sym c.is_concrete.ensures ∙ c.if-is_concrete.false) c.in_ok-meet_all.ensures

pub meet_within-requires : goal.meet_within-requires
meet_within-requires c = concrete_within c.args.rules.now.classes c.args.class (ap (λ k. is_concrete k c.args.class) (sym c.classes.ensures) ∙ sym c.is_concrete.ensures ∙ c.if-is_concrete.true)
