use Rattle.std.proofs.Common.{◌∙◌, refl}
use Rattle.at_demand.proofs.Entering.{founds_on, shares_none, shares_on}
use Rattle.at_demand.proofs.of_traces.TurnsPut.{puts_same, puts_then}
use Rattle.at_demand.proofs.demand.Demand.share_all.Goals as goal

pub loop-position-init : goal.loop-position-init
loop-position-init g c = let old = g.K.Keeper.contents c.args.self.now.keeper in record { shares = shares_none c.args.rules.now c.args.found.now.entries old old (λ i. refl); work = refl; traces = puts_same (g.K.Keeper.memories c.args.self.now.keeper) }

pub share-requires : goal.share-requires
share-requires g c = founds_on (g.K.Keeper.contents c.args.self.now.keeper) (g.K.Keeper.contents c.loop-position.self.keeper) c.loop-position.invariant.shares.stays c.args.found.now.entries c.requires

pub loop-position-preserved : goal.loop-position-preserved
loop-position-preserved g c =
    let inv = c.loop-position.invariant in
    let e = c.share.ensures in
    record {
      shares = shares_on c.args.rules.now c.args.found.now.entries (g.K.Keeper.contents c.args.self.now.keeper) (g.K.Keeper.contents c.loop-position.self.keeper) (g.K.Keeper.contents c.share.new.self.keeper) inv.shares e.shares;
      work = e.work ∙ inv.work;
      traces = puts_then (g.K.Keeper.memories c.args.self.now.keeper) (g.K.Keeper.memories c.loop-position.self.keeper) (g.K.Keeper.memories c.share.new.self.keeper) c.loop-position.invariant.traces c.share.ensures.traces;
    }

pub returns-then-not-stands : goal.returns-then-not-stands
returns-then-not-stands g c =
    let inv = c.loop-position.invariant in
    let e = c.share.ensures in
    record {
      shares = shares_on c.args.rules.now c.args.found.now.entries (g.K.Keeper.contents c.args.self.now.keeper) (g.K.Keeper.contents c.loop-position.self.keeper) (g.K.Keeper.contents c.share.new.self.keeper) inv.shares e.shares;
      work = e.work ∙ inv.work;
      traces = puts_then (g.K.Keeper.memories c.args.self.now.keeper) (g.K.Keeper.memories c.loop-position.self.keeper) (g.K.Keeper.memories c.share.new.self.keeper) c.loop-position.invariant.traces c.share.ensures.traces;
    }

pub returns-in_err-stands : goal.returns-in_err-stands
returns-in_err-stands g c =
    let inv = c.loop-position.invariant in
    let e = c.share.ensures in
    record {
      shares = shares_on c.args.rules.now c.args.found.now.entries (g.K.Keeper.contents c.args.self.now.keeper) (g.K.Keeper.contents c.loop-position.self.keeper) (g.K.Keeper.contents c.share.new.self.keeper) inv.shares e.shares;
      work = e.work ∙ inv.work;
      traces = puts_then (g.K.Keeper.memories c.args.self.now.keeper) (g.K.Keeper.memories c.loop-position.self.keeper) (g.K.Keeper.memories c.share.new.self.keeper) c.loop-position.invariant.traces c.share.ensures.traces;
    }

pub returns : goal.returns
returns g c = record { shares = c.loop-position.invariant.shares; work = c.loop-position.invariant.work; traces = c.loop-position.invariant.traces }
