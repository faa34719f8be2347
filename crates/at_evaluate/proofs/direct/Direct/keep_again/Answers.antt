use Rattle.std.proofs.Common.{◌≡◌, true, None, refl, ap, ◌∙◌}
use Rattle.at_model.specs.Rules.{is_lazy}
use Rattle.at_cache.specs.Kept.{Entries}
use Rattle.at_evaluate.specs.InParts.{held_by}
use Rattle.at_evaluate.specs.Valued.{kept_values}
use Rattle.at_evaluate.proofs.Counting.{counted_more, counted_none, counted_still}
use Rattle.at_evaluate.proofs.Entered.{none_where}
use Rattle.at_evaluate.proofs.of_nesting.Grown.{grown_settled}
use Rattle.at_evaluate.proofs.of_traces.Settled.{settled_none}
use Rattle.at_evaluate.proofs.direct.Direct.keep_again.Goals as goal

pub recall-requires : goal.recall-requires
recall-requires g c =
    let (n, steps, counted) = c.settle-count.ensures.settled in
    let grown = grown_settled c.args.basis.now.rules.now c.args.basis.now.store.now c.args.basis.now.idle
    c.args.needed.now (held_by g.K.Keeper.contents g.K.Keeper.memories c.args.keeper.now c.args.self.now)
    (g.K.Keeper.contents c.settle-count.new.self) (g.K.Keeper.memories c.settle-count.new.self) n
    c.saturating_add-self.result c.requires.held c.args.self.now.few (g.K.Keeper.kept_last c.args.keeper.now) steps
    (counted_more c.args.self.now.work n c.settle-count.result c.saturating_add-self.result counted
    c.saturating_add-self.ensures) c.settle-count.ensures.stay c.settle-count.ensures.alike in
    grown.gains.known

pub returns-then-count-eq0 : goal.returns-then-count-eq0
returns-then-count-eq0 g c =
    let (n, steps, counted) = c.settle-count.ensures.settled in
    let none = counted_none n c.settle-count.result counted c.if-count-eq0.true in
    record {
      recalled = refl;
      unkept = ap (λ (e : Entries). kept_values e c.args.needed.now) (settled_none
          (g.K.Keeper.memories c.args.keeper.now) c.args.needed.now n (g.K.Keeper.contents c.args.keeper.now)
          (g.K.Keeper.contents c.settle-count.new.self) steps none) ∙ c.requires.unkept;
      grown =
          grown_settled c.args.basis.now.rules.now c.args.basis.now.store.now c.args.basis.now.idle
          c.args.needed.now (held_by g.K.Keeper.contents g.K.Keeper.memories c.args.keeper.now c.args.self.now)
          (g.K.Keeper.contents c.settle-count.new.self) (g.K.Keeper.memories c.settle-count.new.self) n
          c.args.self.now.work c.requires.held c.args.self.now.few (g.K.Keeper.kept_last c.args.keeper.now) steps
          (counted_still c.args.self.now.work n c.args.self.now.few none) c.settle-count.ensures.stay c.settle-count.ensures.alike;
    }

pub returns : goal.returns
returns g c = record {
  recalled = c.recall.ensures.recalled;
  unkept = none_where c.recall.result (is_lazy c.args.basis.now.rules.now c.args.needed.now.attribute ≡ true)
      (kept_values (g.K.Keeper.contents c.settle-count.new.self) c.args.needed.now ≡ None) c.requires.lazy
      c.recall.ensures.unkept;
  grown =
      let (n, steps, counted) = c.settle-count.ensures.settled in
      grown_settled c.args.basis.now.rules.now c.args.basis.now.store.now c.args.basis.now.idle
      c.args.needed.now (held_by g.K.Keeper.contents g.K.Keeper.memories c.args.keeper.now c.args.self.now)
      (g.K.Keeper.contents c.settle-count.new.self) (g.K.Keeper.memories c.settle-count.new.self) n
      c.saturating_add-self.result c.requires.held c.args.self.now.few (g.K.Keeper.kept_last c.args.keeper.now) steps
      (counted_more c.args.self.now.work n c.settle-count.result c.saturating_add-self.result counted
      c.saturating_add-self.ensures) c.settle-count.ensures.stay c.settle-count.ensures.alike;
}
