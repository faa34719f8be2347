use Rattle.at_index.proofs.Common.{◌∙◌, arith, refl, sym, shr_and_one, loc_view, Answers}
use Rattle.std.proofs.Common.{eq-eqb, ne_eqb}
use Rattle.at_index.proofs.Beginning.{all_asked, all_passed, number_asked, number_passed, one_touched}
use Rattle.at_index.proofs.facet.is_any_touched.Goals as goal
use Rattle.at_index.proofs.facet.is_any_touched.Goals.{else-rest-eq1-via-then-rest-eq1+else-touched, else-rest-eq1-via-else-rest-eq1}

pub loop-number-init : goal.loop-number-init
loop-number-init g c l k at is less has = absurd (omega (arith, less))

pub returns-then-rest-eq0 : goal.returns-then-rest-eq0
returns-then-rest-eq0 g c =
    all_asked (Answers (goal.F-post g c.args.touched.now)) c.args.node c.args.set c.loop-number.number c.loop-number.invariant c.if-rest-eq0.true

pub returns-then-touched : goal.returns-then-touched
returns-then-touched g c =
    one_touched (Answers (goal.F-post g c.args.touched.now)) c.args.node c.args.set c.loop-number.number (loc_view c.location_at.result)
    c.location_at.ensures.node c.location_at.ensures.number
    (eq-eqb _ 1 (sym (shr_and_one c.args.set c.loop-number.number) ∙ c.if-rest-eq1.true))
    (c.location_at.result, refl, c.if-touched.ensures)

pub loop-number-preserved : goal.loop-number-preserved
loop-number-preserved g c = elim c.else-rest-eq1.branch [
  | else-rest-eq1-via-then-rest-eq1+else-touched w ↦
      number_asked (Answers (goal.F-post g c.args.touched.now)) c.args.node c.args.set c.loop-number.number c.loop-number.invariant
      (loc_view w.location_at.result) w.location_at.ensures.node w.location_at.ensures.number
      (w.location_at.result, refl, w.if-touched.ensures)
  | else-rest-eq1-via-else-rest-eq1 w ↦
      number_passed (Answers (goal.F-post g c.args.touched.now)) c.args.node c.args.set c.loop-number.number c.loop-number.invariant
      (ne_eqb _ 1 (λ e. w.if-rest-eq1.false (shr_and_one c.args.set c.loop-number.number ∙ e)))
]

pub returns : goal.returns
returns g c =
    let past = c.loop-number-test.false in
    all_passed (Answers (goal.F-post g c.args.touched.now)) c.args.node c.args.set c.loop-number.number c.loop-number.invariant c.ranges.set.fits
    (omega (arith, past))
