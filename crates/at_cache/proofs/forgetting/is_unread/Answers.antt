use Rattle.at_cache.proofs.Common.{◌∙◌, arith, eqb-true, sym}
use Rattle.at_index.proofs.of_runs.Seats.{none_long}
use Rattle.at_cache.proofs.Drawers.{none_read}
use Rattle.at_cache.proofs.forgetting.is_unread.Goals as goal

pub returns : goal.returns
returns c = λ is.
    let rs = c.args.readers.now in
    let own = eqb-true _ _ (sym c.is_empty.ensures ∙ c.if-not-is_empty.false) in
    let seats = eqb-true _ _ (sym c.is_empty-2.ensures ∙ c.if-not-is_empty-2.false) in
    none_read rs (none_long rs.own.items (omega (arith, own, rs.own.ok.0))) (none_long rs.seats.items (omega (arith, seats, rs.seats.ok.0)))
    (none_long rs.desks.entries (c.is_empty-3.ensures.0 is))
