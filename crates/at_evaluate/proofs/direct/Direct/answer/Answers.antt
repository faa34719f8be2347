use Rattle.std.proofs.Common.{ℕ, sym, subst}
use Rattle.std.proofs.lemmas.Result.{IfOk-weaker}
use Rattle.at_model.specs.of_fixpoints.Fixpoints.{HasValue}
use Rattle.at_model.specs.Run.{Instance}
use Rattle.at_store.specs.Shown.{contents}
use Rattle.at_body.specs.Values.{value_view}
use Rattle.at_evaluate.specs.Inner.{AreKnown}
use Rattle.at_evaluate.specs.Valued.{kept_values, meaning}
use Rattle.at_evaluate.specs.Led.{AreLed}
use Rattle.at_evaluate.specs.Sparing.{HasWorthy}
use Rattle.at_evaluate.specs.Traces.{StayJustified}
use Rattle.at_evaluate.proofs.of_traces.Making.{makes_as, makes_from, makes_none}
use Rattle.at_evaluate.proofs.of_traces.Putting.{traced_same}
use Rattle.at_evaluate.proofs.of_nesting.Demanding.{demanded_none}
use Rattle.at_evaluate.proofs.of_nesting.InnerGains.{Found, gains_as, gains_from, gains_none, told_holds, told_whole}
use Rattle.at_evaluate.proofs.direct.Direct.answer.Goals as goal

pub told-requires : goal.told-requires
told-requires g c = record {
  known =
      subst (λ (f : Found). AreKnown c.args.basis.now.rules.now (contents c.args.basis.now.store.now)
      (g.K.Keeper.contents c.args.keeper.now) f) (sym c.level-asks.ensures.found) c.requires.known;
  justified = c.requires.justified;
}

pub returns-clause-value : goal.returns-clause-value
returns-clause-value g c =
    let rules = c.args.basis.now.rules.now in
    let s = c.args.basis.now.store.now in
    let new = g.K.Keeper.contents c.told.new.keeper in
    IfOk-weaker c.told.result _ _ (λ v h. subst (λ (i : Instance ℕ). HasValue (contents s) (meaning rules) i
    (value_view v)) c.in_ok-needed.ensures
    (told_holds rules s new c.told.new.self.found.entries c.in_ok-needed.needed (value_view v) h.looks
    h.takes c.told.ensures.grown.gains.known h.given)) c.told.ensures.told

pub returns-clause-all : goal.returns-clause-all
returns-clause-all g c = λ spare.
    let rules = c.args.basis.now.rules.now in
    let s = c.args.basis.now.store.now in
    let new = g.K.Keeper.contents c.told.new.keeper in
    IfOk-weaker c.told.result _ _ (λ v h. subst (λ (i : Instance ℕ). HasWorthy rules (contents s) i new)
    c.in_ok-needed.ensures
    (told_whole rules s new c.told.new.self.found.entries c.in_ok-needed.needed (value_view v) h.looks
    h.takes (c.told.ensures.grown.gains.spare spare) c.told.ensures.grown.gains.known h.given)) c.told.ensures.told

pub returns-clause-grown : goal.returns-clause-grown
returns-clause-grown g c = record {
  gains =
      let old = g.K.Keeper.contents c.args.keeper.now in
      let new = g.K.Keeper.contents c.told.new.keeper in
      let self = c.args.self.now in
      let asks = c.level-asks.new.self in
      let later = c.told.new.self in
      gains_from c.args.basis.now.rules.now c.args.basis.now.store.now c.args.inst.now c.in_ok-needed.needed old new
      self.found.entries asks.found.entries later.found.entries self.work asks.work later.work
      c.in_ok-needed.ensures c.level-asks.ensures.found c.level-asks.ensures.work c.told.ensures.grown.gains;
  demanded = subst (λ (i : Instance ℕ). AreLed c.args.basis.now.rules.now c.args.basis.now.store.now i
      (g.K.Keeper.contents c.args.keeper.now) (g.K.Keeper.contents c.told.new.keeper)) c.in_ok-needed.ensures
      c.told.ensures.grown.demanded;
  traces = subst (λ (i : Instance ℕ). StayJustified c.args.basis.now.rules.now c.args.basis.now.store.now i (g.K.Keeper.memories
      c.args.keeper.now) (g.K.Keeper.memories c.told.new.keeper)) c.in_ok-needed.ensures c.told.ensures.grown.traces;
  makes = makes_from c.level-asks.ensures.made c.told.ensures.grown.makes;
}

pub returns-in_err-needed-clause-grown : goal.returns-in_err-needed-clause-grown
returns-in_err-needed-clause-grown g c = record {
  gains =
      let entries = g.K.Keeper.contents c.args.keeper.now in
      let self = c.args.self.now in
      let asks = c.level-asks.new.self in
      gains_as c.args.basis.now.rules.now c.args.basis.now.store.now c.args.inst.now entries entries self.found.entries
      self.found.entries asks.found.entries self.work self.work asks.work c.level-asks.ensures.found
      c.level-asks.ensures.work
      (gains_none c.args.basis.now.rules.now c.args.basis.now.store.now c.args.inst.now entries self.found.entries
      self.work self.few c.requires.known);
  demanded = demanded_none (contents c.args.basis.now.store.now) (meaning c.args.basis.now.rules.now) c.args.inst.now
      (kept_values (g.K.Keeper.contents c.args.keeper.now));
  traces = traced_same c.args.basis.now.rules.now c.args.basis.now.store.now c.args.inst.now (g.K.Keeper.memories c.args.keeper.now)
      c.requires.justified;
  makes = makes_as c.level-asks.ensures.made (makes_none (g.K.Keeper.contents c.args.keeper.now)
      (g.K.Keeper.memories c.args.keeper.now) c.args.self.now.made);
}
