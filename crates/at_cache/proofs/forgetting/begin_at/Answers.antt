use Rattle.at_cache.proofs.Common.{◌++◌, List, subst, take_all, Readers, edges_in, Asked, looks_at, Answers, edges_among, asked_next_touched, asked_next_untouched, asked_none}
use Rattle.at_cache.specs.declared.cut.Loss.TheVariants as loss
use Rattle.at_cache.proofs.Naming.{goes_not}
use Rattle.at_cache.proofs.of_cut.Passing.{over_then}
use Rattle.at_cache.proofs.forgetting.begin_at.Goals as goal
use Rattle.at_cache.proofs.forgetting.begin_at.Goals.{then-is_touched, else-is_touched}

pub loop-reader-init : goal.loop-reader-init
loop-reader-init g c = goes_not asked_none c.args.first c.args.cut.now

pub loop-reader-preserved : goal.loop-reader-preserved
loop-reader-preserved g c =
    let r = c.reader-item.result in
    let (edges, done, asked) = c.loop-reader.invariant in
    elim c.if-is_touched.branch [
      | then-is_touched t ↦ (
        edges ++ edges_in r.edges,
        rw (t.cut-is, t.first-is) (over_then loss.Both done t.doom_listed-first.ensures),
        asked_next_touched c.args.node c.args.readers.now c.loop-reader.reader-index r c.reader-item.is c.loop-reader-test.true asked t.if-is_touched.ensures,
      )
      | else-is_touched t ↦ (
        edges,
        rw (t.cut-is, t.first-is) done,
        asked_next_untouched c.args.node c.args.readers.now c.loop-reader.reader-index r c.reader-item.is c.loop-reader-test.true asked t.if-is_touched.ensures,
      )
    ]

pub returns : goal.returns
returns g c =
    let (edges, done, asked) = c.loop-reader.invariant in
    (edges, done, subst (λ (rs : List Readers). Asked (Answers (goal.F-post g c.args.touched.now)) (looks_at c.args.scope) (edges_among c.args.node rs) edges) (take_all c.loop-reader.reader-index c.args.readers.now c.loop-reader-test.false) asked)
