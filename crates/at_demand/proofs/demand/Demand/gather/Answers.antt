use Rattle.std.proofs.Common.{refl}
use Rattle.std.proofs.lemmas.Result.{err_from_is_err_and}
use Rattle.at_evaluate.proofs.Entered.{entered_on, valued_on}
use Rattle.at_demand.proofs.Entering.{founds_on, shares_none}
use Rattle.at_demand.proofs.of_traces.TurnsPut.{puts_same}
use Rattle.at_demand.proofs.demand.Demand.gather.Goals as goal

pub share_all-requires : goal.share_all-requires
share_all-requires g c = c.requires.finds

pub returns-in_err-sources : goal.returns-in_err-sources
returns-in_err-sources g c =
    let is = (err_from_is_err_and c.from_residual.result c.from_residual.ensures.1).1 in
    let old = g.K.Keeper.contents c.args.self.now.keeper in
    record { shares = shares_none c.args.rules.now c.args.found.now.entries old old (λ i. refl); work = refl; sources = rw is tt; traces = puts_same (g.K.Keeper.memories c.args.self.now.keeper) }

pub returns-then-is_empty : goal.returns-then-is_empty
returns-then-is_empty g c =
    let old = g.K.Keeper.contents c.args.self.now.keeper in
    let e = c.in_ok-sources.ensures in
    record {
      shares = shares_none c.args.rules.now c.args.found.now.entries old old (λ i. refl);
      work = refl;
      sources = record { gathered = e.gathered; from = e.only; kept = e.kept c.requires.finds c.requires.kept };
      traces = puts_same (g.K.Keeper.memories c.args.self.now.keeper);
    }

pub returns-in_err-any : goal.returns-in_err-any
returns-in_err-any g c =
    let is = (err_from_is_err_and c.from_residual-in_err-any.result c.from_residual-in_err-any.ensures.1).1 in
    record { shares = c.share_all.ensures.shares; work = c.share_all.ensures.work; sources = rw is tt; traces = c.share_all.ensures.traces }

pub returns-then-not-any : goal.returns-then-not-any
returns-then-not-any g c =
    let old = g.K.Keeper.contents c.args.self.now.keeper in
    let new = g.K.Keeper.contents c.share_all.new.self.keeper in
    let e = c.in_ok-sources.ensures in
    let shares = c.share_all.ensures.shares in
    record {
      shares = shares;
      work = c.share_all.ensures.work;
      sources = record { gathered = e.gathered; from = e.only; kept = λ u h. entered_on old new shares.stays u (e.kept c.requires.finds c.requires.kept u h) };
      traces = c.share_all.ensures.traces;
    }

pub returns-in_err-shared : goal.returns-in_err-shared
returns-in_err-shared g c =
    let is = (err_from_is_err_and c.from_residual-in_err-shared.result c.from_residual-in_err-shared.ensures.1).1 in
    record { shares = c.share_all.ensures.shares; work = c.share_all.ensures.work; sources = rw is tt; traces = c.share_all.ensures.traces }

pub returns : goal.returns
returns g c =
    let old = g.K.Keeper.contents c.args.self.now.keeper in
    let new = g.K.Keeper.contents c.share_all.new.self.keeper in
    let e = c.in_ok-shared.ensures in
    let shares = c.share_all.ensures.shares in
    record {
      shares = shares;
      work = c.share_all.ensures.work;
      sources = record { gathered = e.gathered; from = e.only; kept = e.kept (founds_on old new shares.stays c.args.found.now.entries c.requires.finds) (valued_on old new shares.stays c.args.find.now.demanded.kept.items c.requires.kept) };
      traces = c.share_all.ensures.traces;
    }
