use Rattle.std.proofs.Common.{◌≡◌, ◌∙◌, ap, sym, subst, arith, map, take_all, refl, true≢false}
use Rattle.std.specs.Prelude.{All, true}
use Rattle.at_model.specs.Names.{is_name}
use Rattle.at_model.specs.Declarations.{PartDeclaration}
use Rattle.at_class.specs.Grammar.{part_declaration_view}
use Rattle.at_class.proofs.Firsts.{all_more, all_fails}
use Rattle.at_class.proofs.naming.are_parts_named.Goals as goal

pub loop-part-preserved : goal.loop-part-preserved
loop-part-preserved c =
    all_more (λ (p : PartDeclaration). is_name p.name ≡ true) part_declaration_view c.args.parts.now c.loop-part.part-index c.part-item.result (omega arith) c.part-item.is c.loop-part.invariant
    (ap is_name (sym c.as_str.ensures.value) ∙ sym c.is_name.ensures ∙ c.if-not-is_name.false)

pub returns-then-not-is_name : goal.returns-then-not-is_name
returns-then-not-is_name c = (
  λ h. absurd (true≢false (sym h)),
  λ all. absurd (all_fails (λ (p : PartDeclaration). is_name p.name ≡ true) part_declaration_view c.args.parts.now c.loop-part.part-index c.part-item.result (omega arith) c.part-item.is
      (λ h. true≢false (sym h ∙ ap is_name (sym c.as_str.ensures.value) ∙ sym c.is_name.ensures ∙ c.if-not-is_name.true)) all),
)

pub returns : goal.returns
returns c = (
  λ _. subst (λ ps. All (λ (p : PartDeclaration). is_name p.name ≡ true) (map part_declaration_view ps)) (take_all c.loop-part.part-index c.args.parts.now (omega arith)) c.loop-part.invariant,
  λ _. refl,
)
