use Rattle.std.proofs.Common.{Ok, inl, inr, sym, ◌∙◌}
use Rattle.at_demand.specs.Levels.{known_to, seen_in}
use Rattle.at_demand.specs.declared.demand.searching.Look.TheVariants as look_is
use Rattle.at_evaluate.proofs.Entered.{none_entered}
use Rattle.at_demand.proofs.of_levels.Resolving.{among_off, among_on, looked_ok, nothing_looked}
use Rattle.at_demand.proofs.demand.Demand.look_at.Goals as goal
use Rattle.at_demand.proofs.demand.Demand.look_at.Goals.{then-has_seen-via-then-has_seen, then-has_seen-via-else-has_seen+then-is_known}

pub returns : goal.returns
returns g c =
    let old = c.args.question.now in
    let i = c.args.inst.now in
    let m = c.args.self.now in
    let n = c.resolve.new.self in
    let entries = g.K.Keeper.contents m.keeper in
    looked_ok c.args.rules.now c.args.store.now entries (g.K.Keeper.contents n.keeper) (g.K.Keeper.memories m.keeper)
    (g.K.Keeper.memories n.keeper) m.work n.work old c.resolve.new.question i
    (among_off i (seen_in old.level) c.has_seen.result c.has_seen.ensures c.if-has_seen.false)
    (none_entered (known_to entries old i) c.is_known.result c.is_known.ensures c.if-is_known.false) c.in_ok-resolve.field-0 c.in_ok-resolve.ensures
    c.looked.result c.looked.ensures

pub returns-then-has_seen : goal.returns-then-has_seen
returns-then-has_seen g c =
    let m = c.args.self.now in
    let q = c.args.question.now in
    let i = c.args.inst.now in
    nothing_looked c.args.rules.now c.args.store.now (g.K.Keeper.contents m.keeper) (g.K.Keeper.memories m.keeper) m.work q
    c.requires m.few i (Ok look_is.Passed) (elim c.then-has_seen.branch [
      | then-has_seen-via-then-has_seen w ↦ inl (among_on i (seen_in q.level) c.has_seen.result c.has_seen.ensures w.if-has_seen.true)
      | then-has_seen-via-else-has_seen+then-is_known w ↦ inr (sym w.is_known.ensures ∙ w.if-is_known.true)
    ])
