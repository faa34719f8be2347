use Rattle.at_cache.proofs.Common.{◌∙◌, refl}
use Rattle.at_cache.proofs.of_cut.Passing.{passes_both, passes_on}
use Rattle.at_cache.proofs.cutting.forget_all.Goals as goal

pub loop-first-init : goal.loop-first-init
loop-first-init c = record { works = λ old start w. w; passes = passes_on c.args.cut.now; len = refl }

pub loop-first-preserved : goal.loop-first-preserved
loop-first-preserved c = record {
  works = λ old start w. c.forget-first.ensures.works old start (rw c.in-Some.is at (c.loop-first.invariant.works old start w));
  passes = passes_both c.loop-first.invariant.passes c.forget-first.ensures.passes;
  len = c.forget-first.ensures.len ∙ c.loop-first.invariant.len;
}
