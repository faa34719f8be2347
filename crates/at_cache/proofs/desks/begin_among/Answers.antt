use Rattle.at_cache.proofs.Common.{◌++◌, arith, subst, take_all, true, Answers, Asked, edges_in_desks, edges_in, asked_none}
use Rattle.at_cache.specs.declared.cut.Loss.TheVariants as loss
use Rattle.at_cache.proofs.Drawers.{asked_next_touched, asked_next_untouched}
use Rattle.at_cache.proofs.Naming.{goes_not}
use Rattle.at_cache.proofs.of_cut.Passing.{over_then}
use Rattle.at_cache.proofs.desks.begin_among.Goals as goal
use Rattle.at_cache.proofs.desks.begin_among.Goals.{then-is_touched, else-is_touched}

pub loop-place-init : goal.loop-place-init
loop-place-init g c = goes_not asked_none c.args.first c.args.cut.now

pub loop-place-preserved : goal.loop-place-preserved
loop-place-preserved g c =
    let ds = c.args.desks.now.spots.entries in
    let i = c.loop-place.place in
    let (spot, at, there) = c.desk-drawer.ensures in
    let (edges, done, asked) = c.loop-place.invariant in
    elim c.if-is_touched.branch [
      | then-is_touched t ↦ (
        edges ++ edges_in c.desk-drawer.result.1.now,
        rw (t.cut-is, t.first-is) (over_then loss.Both done t.doom_listed-first.ensures),
        asked_next_touched c.args.node ds i spot c.desk-drawer.result.1.now there asked _ at (rw t.if-is_touched.true at c.is_touched.ensures),
      )
      | else-is_touched t ↦ (
        edges,
        rw (t.cut-is, t.first-is) done,
        asked_next_untouched c.args.node ds i spot c.desk-drawer.result.1.now there asked _ at (rw t.if-is_touched.false at c.is_touched.ensures),
      )
    ]

pub returns : goal.returns
returns g c =
    let ds = c.args.desks.now.spots.entries in
    let (edges, done, asked) = c.loop-place.invariant in (
      edges,
      done,
      subst (λ es. Asked (Answers (goal.F-post g c.args.touched.now)) (λ l. true) (edges_in_desks c.args.node es) edges)
          (take_all c.loop-place.place ds (omega (arith, c.loop-place-test.false, c.len-place-end.ensures))) asked,
    )
