use Rattle.std.proofs.Common.{subst, arith, map, take_all, refl, sym, ◌∙◌, true≢false}
use Rattle.at_model.specs.Declarations.{AreNamed, IsDeclarationNamed}
use Rattle.at_class.specs.Grammar.{declaration_view}
use Rattle.at_class.proofs.Firsts.{all_more, all_fails}
use Rattle.at_class.proofs.naming.are_all_named.Goals as goal

pub loop-declaration-preserved : goal.loop-declaration-preserved
loop-declaration-preserved c =
    all_more IsDeclarationNamed declaration_view c.args.declarations.now c.loop-declaration.declaration-index c.declaration-item.result (omega arith) c.declaration-item.is c.loop-declaration.invariant
    (c.is_named.ensures.0 c.if-not-is_named.false)

pub returns-then-not-is_named : goal.returns-then-not-is_named
returns-then-not-is_named c = (
  λ h. absurd (true≢false (sym h)),
  λ all. absurd (all_fails IsDeclarationNamed declaration_view c.args.declarations.now c.loop-declaration.declaration-index c.declaration-item.result (omega arith) c.declaration-item.is
      (λ h. true≢false (sym (c.is_named.ensures.1 h) ∙ c.if-not-is_named.true)) all),
)

pub returns : goal.returns
returns c = (
  λ _. subst (λ ds. AreNamed (map declaration_view ds)) (take_all c.loop-declaration.declaration-index c.args.declarations.now (omega arith)) c.loop-declaration.invariant,
  λ _. refl,
)
