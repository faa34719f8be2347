use Rattle.at_cache.proofs.Common.{ap, sym, ◌∙◌, Standing, memory_of}
use Rattle.at_cache.proofs.of_cut.Shed.{sheds_by, sheds_none, sheds_nothing}
use Rattle.at_cache.proofs.shedding.shed_at.Goals as goal

pub returns-then-standing-clause-sheds : goal.returns-then-standing-clause-sheds
returns-then-standing-clause-sheds c = sheds_nothing c.args.standings.now c.args.slot _ (ap (λ (z : Standing). z.holds) (sym c.standing_at-standing.ensures) ∙ c.if-standing.true)

pub returns-then-not-is_taken-clause-sheds : goal.returns-then-not-is_taken-clause-sheds
returns-then-not-is_taken-clause-sheds c = sheds_none c.args.standings.now c.args.slot _ (sym c.is_taken.ensures ∙ c.if-not-is_taken.true)

pub returns-clause-sheds : goal.returns-clause-sheds
returns-clause-sheds c =
    sheds_by c.args.standings.now c.args.slot (memory_of c.args.entries.now) (memory_of c.remove.new.self) _ c.remove.result
    (ap (λ (z : Standing). z.holds) (sym c.standing_at-standing.ensures) ∙ c.if-standing.false) (sym c.is_taken.ensures ∙ c.if-not-is_taken.false)
    c.remove.ensures.none c.remove.ensures.gone c.remove.ensures.others
