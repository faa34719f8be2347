use Rattle.at_cache.proofs.Common.{List, subst, take_all, GoesOver, edges_past}
use Rattle.at_cache.specs.declared.cut.Loss.TheVariants as loss
use Rattle.at_index.specs.declared.run.Reach.{Reach}
use Rattle.at_cache.proofs.of_cut.Passing.{over_none, over_then}
use Rattle.at_index.proofs.of_runs.Passed.{past_other, past_over}
use Rattle.at_cache.proofs.forgetting.doom_past.Goals as goal
use Rattle.at_cache.proofs.forgetting.doom_past.Goals.{then-is_over, else-is_over}

pub loop-reach-init : goal.loop-reach-init
loop-reach-init c = over_none loss.Both c.args.first c.args.cut.now

pub loop-reach-preserved : goal.loop-reach-preserved
loop-reach-preserved c =
    let i = c.loop-reach.reach-index in
    let edges = c.args.edges.now in
    elim c.if-is_over.branch [
      | then-is_over t ↦ rw (t.cut-is, t.first-is)
          (subst (λ es. GoesOver loss.Both es c.args.first c.args.cut.now t.doom-first.result t.doom-first.new.cut)
          (past_over c.args.place edges i _ c.loop-reach-test.true t.if-is_over.ensures)
          (over_then loss.Both c.loop-reach.invariant t.doom-first.ensures))
      | else-is_over t ↦ rw (t.cut-is, t.first-is)
          (subst (λ es. GoesOver loss.Both es c.args.first c.args.cut.now c.loop-reach.first c.loop-reach.cut)
          (past_other c.args.place edges i _ c.loop-reach-test.true t.if-is_over.ensures) c.loop-reach.invariant)
    ]

pub returns : goal.returns
returns c = subst (λ (rs : List Reach). GoesOver loss.Both (edges_past c.args.place rs) c.args.first c.args.cut.now c.loop-reach.first c.loop-reach.cut)
    (take_all c.loop-reach.reach-index c.args.edges.now c.loop-reach-test.false) c.loop-reach.invariant
