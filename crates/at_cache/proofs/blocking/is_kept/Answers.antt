use Rattle.at_cache.proofs.of_cut.InTheWay.{none_known, not_known, some_known, traced_known}
use Rattle.at_cache.proofs.Common.{◌∙◌}
use Rattle.at_cache.proofs.blocking.is_kept.Goals as goal

pub returns-then-not-standing : goal.returns-then-not-standing
returns-then-not-standing c =
    not_known c.args.entries.now c.args.standings.now c.args.slot _
    c.standing_at-standing.ensures c.if-not-standing.true

pub returns-then-standing : goal.returns-then-standing
returns-then-standing c =
    traced_known c.args.entries.now c.args.standings.now c.args.slot _
    c.standing_at-standing.ensures c.if-not-standing.false c.if-standing.true

pub returns-in-Some : goal.returns-in-Some
returns-in-Some c =
    c.is_some.ensures
    ∙ some_known c.args.entries.now c.args.standings.now c.args.slot _ _
    c.standing_at-standing.ensures c.if-not-standing.false c.if-standing.false c.in-Some.ensures

pub returns-in-None : goal.returns-in-None
returns-in-None c =
    none_known c.args.entries.now c.args.standings.now c.args.slot _
    c.standing_at-standing.ensures c.if-not-standing.false c.if-standing.false c.in-None.ensures
