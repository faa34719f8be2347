use Rattle.std.proofs.Common.{ap}
use Rattle.at_index.specs.Asking.{Answers}
use Rattle.at_demand.proofs.of_traces.Forgetting.{bounded, forgets}
use Rattle.at_demand.proofs.demand.Demand.after_edit_at.Goals as goal

pub returns-clause-forgets : goal.returns-clause-forgets
returns-clause-forgets g c =
    let old = c.args.self.now.keeper in
    let mid = c.fit.new.keeper in
    let new = c.flush.new.self in
    forgets (Answers (λ x b. g.F.Fn.post c.args.touched.now (x, tt {0}) b))
    (g.K.Keeper.contents old) (g.K.Keeper.contents mid) (g.K.Keeper.contents new)
    (g.K.Keeper.memories old) (g.K.Keeper.memories mid) (g.K.Keeper.memories new)
    c.fit.ensures.kept c.fit.ensures.stay c.flush.ensures.leaves c.flush.ensures.loses c.flush.ensures.traces c.flush.ensures.spares
    c.args.most c.args.self.now.work c.args.self.now.made
    (λ off. ap g.K.Keeper.contents (c.fit.ensures.within off))
    (λ off. ap g.K.Keeper.memories (c.fit.ensures.within off))

pub returns-clause-bound : goal.returns-clause-bound
returns-clause-bound g c = bounded c.args.most (g.K.Keeper.memories c.fit.new.keeper).count (g.K.Keeper.memories c.flush.new.self).count
    c.flush.ensures.fewer c.fit.ensures.few
