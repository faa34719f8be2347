use Rattle.at_evict.proofs.Common.{◌∙◌, ◌++◌, ap, sym, on_ok_weaker, into_of, is_told}
use Rattle.at_evict.proofs.of_folding.Gathering.{gathered_one, gathered_stale}
use Rattle.at_evict.proofs.refolding.Refolding.gather_edge.Goals as goal

pub returns-then-has : goal.returns-then-has
returns-then-has c =
    let (there, only) = c.has.ensures (is_told c.args.self.now) (into_of c.args.self.now) c.args.self.now.alone c.if-has.true in
    gathered_one _ _ c.args.edge _ _ there (c.in_ok-push.ensures.items ∙ ap (λ xs. c.args.slots.now.items ++ xs) (sym only))

pub returns-then-not-is_current : goal.returns-then-not-is_current
returns-then-not-is_current c = gathered_stale _ _ c.args.edge _ (sym c.is_current.ensures ∙ c.if-not-is_current.true)

pub returns : goal.returns
returns c = on_ok_weaker c.add_slots.result
    (λ is. gathered_one _ _ c.args.edge _ _ (sym c.is_current.ensures ∙ c.if-not-is_current.false)
    (is ∙ ap (λ xs. c.args.slots.now.items ++ xs) c.slots_at.ensures)) c.add_slots.ensures
