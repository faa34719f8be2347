use Rattle.at_evict.proofs.Common.{◌∙◌, ap, arith, length, length-set, refl, slice_get_read, get_other}
use Rattle.at_evict.proofs.of_folding.Nodes.{nodes_refolded}
use Rattle.at_evict.proofs.of_folding.Places.{below_end, below_more, below_start, one_node}
use Rattle.at_evict.proofs.refolding.Refolding.rewrite.Goals as goal

pub loop-number-init : goal.loop-number-init
loop-number-init c = below_start _

pub loop-number-preserved : goal.loop-number-preserved
loop-number-preserved c =
    let l = c.loop-number in
    let w = c.rewrite_facets.new.readers in
    let less = c.loop-number-test.true in
    let at = slice_get_read l.readers.items _ l.number c.index_mut-list.result.now refl
    (omega (arith, less, c.loop-number.invariant.len, c.len-number-end.ensures, c.args.readers.now.ok.0)) c.index_mut-list.ensures.value in
    below_more l.invariant (one_node _ _ l.readers.items l.number _ w at c.in_ok-rewrite_facets.ensures)
    (λ k differs. get_other l.readers.items l.number k w differs) (length-set l.readers.items l.number w)

pub returns-clause-lists : goal.returns-clause-lists
returns-clause-lists c =
    rw c.shrink_to_fit.ensures.items (nodes_refolded _ _ _ _
    (below_end c.loop-number.invariant (omega (arith, c.loop-number-test.false, c.len-number-end.ensures, c.args.readers.now.ok.0)) refl))

pub returns-clause-len : goal.returns-clause-len
returns-clause-len c = ap length c.shrink_to_fit.ensures.items ∙ c.loop-number.invariant.len

pub returns-in_err-rewrite_facets-clause-len : goal.returns-in_err-rewrite_facets-clause-len
returns-in_err-rewrite_facets-clause-len c =
    length-set c.loop-number.readers.items c.loop-number.number c.rewrite_facets.new.readers ∙ c.loop-number.invariant.len
