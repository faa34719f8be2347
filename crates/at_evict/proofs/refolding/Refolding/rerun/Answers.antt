use Rattle.at_evict.proofs.Common.{arith, length-set, refl, slice_get_read, get_other}
use Rattle.at_evict.proofs.of_folding.Places.{below_end, below_more, below_start}
use Rattle.at_evict.proofs.of_folding.Rerun.{one_run, runs_rerun, seated_set}
use Rattle.at_evict.proofs.refolding.Refolding.rerun.Goals as goal

pub loop-number-init : goal.loop-number-init
loop-number-init c = record {
  below = below_start _;
  seated = λ seats h. h;
}

pub loop-number-preserved : goal.loop-number-preserved
loop-number-preserved c =
    let l = c.loop-number in
    let was = c.index_mut-run.result.now in
    let v = c.rerun_one.new.run in
    let less = c.loop-number-test.true in
    let at = slice_get_read l.runs.items _ l.number was refl
    (omega (arith, less, l.invariant.below.len, c.len-number-end.ensures, c.args.runs.now.ok.0)) c.index_mut-run.ensures.value in
    record {
      below = below_more l.invariant.below (one_run _ _ l.runs.items l.number was v at c.in_ok-rerun_one.ensures.edges)
          (λ k differs. get_other l.runs.items l.number k v differs) (length-set l.runs.items l.number v);
      seated = λ seats h. seated_set l.runs.items _ l.number was v at refl c.rerun_one.ensures.count c.rerun_one.ensures.further (l.invariant.seated seats h);
    }

pub returns-clause-edges : goal.returns-clause-edges
returns-clause-edges c =
    runs_rerun _ _ _ _
    (below_end c.loop-number.invariant.below (omega (arith, c.loop-number-test.false, c.len-number-end.ensures, c.args.runs.now.ok.0)) refl)

pub returns-clause-seated : goal.returns-clause-seated
returns-clause-seated c = c.loop-number.invariant.seated

pub returns-in_err-rerun_one-clause-seated : goal.returns-in_err-rerun_one-clause-seated
returns-in_err-rerun_one-clause-seated c seats h =
    let l = c.loop-number in
    let was = c.index_mut-run.result.now in
    let less = c.loop-number-test.true in
    let at = slice_get_read l.runs.items _ l.number was refl
    (omega (arith, less, l.invariant.below.len, c.len-number-end.ensures, c.args.runs.now.ok.0)) c.index_mut-run.ensures.value in
    seated_set l.runs.items _ l.number was c.rerun_one.new.run at refl c.rerun_one.ensures.count c.rerun_one.ensures.further (l.invariant.seated seats h)
