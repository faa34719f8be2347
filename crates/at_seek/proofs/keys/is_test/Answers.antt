use Rattle.std.proofs.Common.{◌≡◌, refl, sym, subst, ap, ◌∙◌, eqb-true}
use Rattle.at_class.specs.Keys.{key_view}
use Rattle.at_rules.specs.Bodies.{body_view}
use Rattle.at_seek.specs.Finding.{Compares}
use Rattle.at_seek.proofs.Tests.{compares_tests, never_tests}
use Rattle.at_seek.proofs.keys.is_test.Goals as goal

pub returns-then-not-has : goal.returns-then-not-has
returns-then-not-has c = λ h.
    never_tests c.args.classes.now (key_view c.args.key.now) c.args.class (body_view c.args.body.now) (sym c.has.ensures ∙ c.if-not-has.true) (c.is_false.ensures h)

pub returns-in-Some : goal.returns-in-Some
returns-in-Some c = λ h.
    compares_tests c.args.classes.now (key_view c.args.key.now) c.args.class (body_view c.args.body.now) (sym c.has.ensures ∙ c.if-not-has.false)
    (c.is_text.ensures c.if-not-is_text.false)
    (subst (λ t. Compares t (body_view c.args.body.now)) (eqb-true c.in-Some.part c.args.key.now.token h) c.in-Some.ensures)
