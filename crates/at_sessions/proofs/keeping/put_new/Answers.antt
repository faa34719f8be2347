use Rattle.std.proofs.Common.{◌∙◌, Contains, sym, subst, take_all}
use Rattle.std.specs.Prelude.{IsSome}
use Rattle.at_index.proofs.Looked.{holds_next}
use Rattle.at_sessions.proofs.keeping.put_new.Goals as goal

pub loop-used-preserved : goal.loop-used-preserved
loop-used-preserved g c =
    holds_next (λ u. IsSome (g.K.Keeper.contents c.args.keeper.now u)) c.args.uses.now c.loop-used.used-index c.used-item.result c.loop-used-test.true c.used-item.is c.loop-used.invariant
    (sym c.stands-in-loop-used.ensures ∙ c.if-not-stands.false)

pub put-requires-clause-present : goal.put-requires-clause-present
put-requires-clause-present g c u h =
    c.loop-used.invariant u (subst (λ us. Contains us u) (sym (take_all c.loop-used.used-index c.args.uses.now c.loop-used-test.false)) h)
