use Rattle.std.proofs.Common.{◌∙◌, ap, sym, refl, arith}
use Rattle.at_class.specs.Checks.{circle_in, circle_at}
use Rattle.at_class.specs.Climbs.{is_above_itself}
use Rattle.at_class.specs.View.{classes_view}
use Rattle.at_class.specs.Grammar.{declaration_view, place_view}
use Rattle.at_class.proofs.Firsts.{first_here, none_more, none_at_all, some_if, none_if}
use Rattle.at_class.proofs.checks.superclass_circle.Goals as goal

pub loop-position-init : goal.loop-position-init
loop-position-init c = (refl, c.in_ok-circles.ensures)

pub loop-position-preserved : goal.loop-position-preserved
loop-position-preserved c =
    let classes = classes_view c.args.classes.now in
    let told = ap (is_above_itself classes) (sym c.new-class.ensures) ∙ sym c.in_ok-is_above.ensures.told ∙ c.if-is_above.false in (
      none_more (circle_at classes) declaration_view c.args.declarations.now c.loop-position.position
          c.index-declarations-position.result (omega arith) c.index-declarations-position.is (none_if _ _ told)
          c.loop-position.invariant.0,
      c.in_ok-is_above.ensures.kept,
    )

pub returns-then-is_above : goal.returns-then-is_above
unfolding circle_in
returns-then-is_above c =
    let classes = classes_view c.args.classes.now in
    let d = c.index-declarations-position.result in
    let told = ap (is_above_itself classes) (sym c.new-class.ensures) ∙ sym c.in_ok-is_above.ensures.told ∙ c.if-is_above.true in
    sym (first_here (circle_at classes) declaration_view c.args.declarations.now c.loop-position.position d
    (place_view d.at) (omega arith) c.index-declarations-position.is c.loop-position.invariant.0 (some_if _ _ told))

pub returns : goal.returns
unfolding circle_in
returns c = sym (none_at_all (circle_at (classes_view c.args.classes.now)) declaration_view c.args.declarations.now c.loop-position.position (omega arith) c.loop-position.invariant.0)
