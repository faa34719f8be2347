use Rattle.at_evict.proofs.Common.{Contains, subst, sym, Contains-cons, edges_of, head_of}
use Rattle.at_evict.proofs.refolding.Refolding.is_in_row.Goals as goal

pub loop-edge-init : goal.loop-edge-init
loop-edge-init c x d = d

pub loop-edge-preserved : goal.loop-edge-preserved
loop-edge-preserved c x d = c.loop-edge.invariant x
    (subst (λ es. Contains es x) (sym c.in-Some.ensures) (Contains-cons c.in-Some.edge x (edges_of c.in-Some.others) d))

pub returns-then-is_user : goal.returns-then-is_user
returns-then-is_user c t = (
  c.in-Some.edge,
  c.loop-edge.invariant c.in-Some.edge
      (subst (λ es. Contains es c.in-Some.edge) (sym c.in-Some.ensures) (head_of c.in-Some.edge (edges_of c.in-Some.others))),
  c.is_user.ensures.current c.if-is_user.true,
  c.is_user.ensures.folded c.if-is_user.true,
)
