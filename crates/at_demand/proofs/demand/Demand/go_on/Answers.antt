use Rattle.std.proofs.Common.{Bool, [], Some, refl, sym, ap, ◌∙◌, subst, arith}
use Rattle.std.proofs.lemmas.Result.{err_from_is_err_and}
use Rattle.at_store.specs.Shown.{contents}
use Rattle.at_body.specs.Values.{value_view}
use Rattle.at_body.specs.Typed.{IsTypedStep, class_shown}
use Rattle.at_body.specs.declared.trial.Step.{Step}
use Rattle.at_cache.specs.Kept.{Entries}
use Rattle.at_body.specs.declared.value.Value.{Value as ValueCode}
use Rattle.at_demand.specs.declared.evaluation.Demanded.{Demanded}
use Rattle.at_demand.specs.Keeping.{SaysKept}
use Rattle.at_demand.specs.Known.{known_in}
use Rattle.at_evaluate.specs.Valued.{AreValued}
use Rattle.at_demand.specs.UnderWay.{HasStepped, IsOpen}
use Rattle.at_demand.specs.Covering.{HasPassedTo}
use Rattle.at_demand.specs.Attempts.{HasFound}
use Rattle.at_demand.proofs.Gaining.{gain_none, settled_still}
use Rattle.at_evaluate.proofs.of_nesting.InnerGains.{worthy_none}
use Rattle.at_evaluate.proofs.Counting.{counts_none}
use Rattle.at_demand.proofs.Attempted.{has_found, has_failed, has_needed, right_added, right_stays, worthy_added, spare_added, settled_added}
use Rattle.at_demand.proofs.of_traces.TurnsPut.{puts_same}
use Rattle.at_demand.proofs.demand.Demand.go_on.Goals as goal

none_kept : (entries : Entries) → AreValued entries []
none_kept entries u (n, less, at) = absurd (omega (arith, less))

pub returns-in_err-step : goal.returns-in_err-step
returns-in_err-step g c = record {
  attempted =
      let is = (err_from_is_err_and c.from_residual.result c.from_residual.ensures.1).1 in
      let entries = g.K.Keeper.contents c.args.self.now.keeper in
      record { tried = rw is tt; right = c.requires.answerable.right; stays = λ there finds right. right; plain = c.requires.answerable.plain; gains = gain_none c.args.rules.now (contents c.args.store.now) c.args.found.now.entries entries c.args.inst.now; worthy = worthy_none c.args.rules.now (contents c.args.store.now) c.args.inst.now entries; spare = λ spare lean settled. spare; settles = λ spare settled. rw is tt; counts = counts_none entries c.args.self.now.work c.args.self.now.few; keeps = rw is tt; waits = rw is tt; idle = rw is tt };
  traces = puts_same (g.K.Keeper.memories c.args.self.now.keeper);
}

pub go_on-requires-clause-basis : goal.go_on-requires-clause-basis
go_on-requires-clause-basis g c = c.requires.answerable.basis

pub go_on-requires-clause-right : goal.go_on-requires-clause-right
go_on-requires-clause-right g c = c.requires.finds.right

pub keep-requires : goal.keep-requires
keep-requires g c = record {
  rests = record {
    kept = subst (λ (d : Demanded). AreValued (g.K.Keeper.contents c.args.self.now.keeper) d.kept.items)
        (sym c.take_find-find.ensures.demanded) c.in_ok-step.ensures.kept;
    finds = c.requires.finds.kept;
  };
  unkept = c.requires.unkept;
  plain = c.requires.answerable.plain;
}

pub returns-in_err-is_kept-in-Value : goal.returns-in_err-is_kept-in-Value
returns-in_err-is_kept-in-Value g c = record {
  attempted =
      let is = (err_from_is_err_and c.from_residual-in_err-is_kept-in-Value.result c.from_residual-in_err-is_kept-in-Value.ensures.1).1 in
      let rules = c.args.rules.now in
      let look = contents c.args.store.now in
      let found = c.args.found.now.entries in
      let inst = c.args.inst.now in
      let old = g.K.Keeper.contents c.args.self.now.keeper in
      let new = g.K.Keeper.contents c.keep.new.self.keeper in
      let frame = c.go_on.new.self in
      let d = c.take_find-find.result in
      let e = c.take_find-find.ensures in
      let stepped = subst (λ (s : Step). HasStepped rules look inst frame.trial s) c.in-Value.is (c.in_ok-step.ensures.stepped inst c.requires.standing.stepped) in
      let passed = subst (λ (s : Step). HasPassedTo rules look found inst frame s) c.in-Value.is (c.in_ok-step.ensures.passed inst c.requires.standing.passed) in
      let takes = c.in_ok-step.ensures.only inst c.requires.own c.requires.standing.stepped c.requires.standing.takes in
      let has : HasFound rules look old found inst d = has_found rules look old found inst frame c.in-Value.value d c.requires.own stepped passed takes c.in_ok-step.ensures.kept e.value e.reads e.demanded in
      let adds = c.keep.ensures.keeps.adds in
      record {
        tried = rw is tt;
        right = right_added rules old new inst (value_view d.value) adds look has.value c.requires.answerable.right;
        stays = right_stays rules old new inst (value_view d.value) adds c.args.store.now found c.keep.ensures.keeps.gains c.keep.ensures.keeps.plain has.value (c.keep.ensures.keeps.covers look c.requires.finds.whole has.whole);
        plain = c.keep.ensures.keeps.plain;
        gains = c.keep.ensures.keeps.gains;
        worthy = worthy_added rules look old new inst (value_view d.value) found c.keep.ensures.keeps.gains has.value;
        spare = λ spare lean settled. spare_added rules look old new found inst d c.requires.answerable.basis.circular.lazy c.requires.own c.keep.ensures.keeps.gains c.requires.finds.whole has settled spare (c.keep.ensures.keeps.only look lean has.lean spare.only);
        settles = λ spare settled. rw is tt;
        counts = c.keep.ensures.keeps.counts;
        keeps = rw is tt;
        waits = rw is tt;
        idle = rw is tt;
      };
  traces = c.keep.ensures.traces;
}

pub returns-then-is_kept : goal.returns-then-is_kept
returns-then-is_kept g c = record {
  attempted =
      let rules = c.args.rules.now in
      let look = contents c.args.store.now in
      let found = c.args.found.now.entries in
      let inst = c.args.inst.now in
      let old = g.K.Keeper.contents c.args.self.now.keeper in
      let new = g.K.Keeper.contents c.keep.new.self.keeper in
      let frame = c.go_on.new.self in
      let d = c.take_find-find.result in
      let e = c.take_find-find.ensures in
      let stepped = subst (λ (s : Step). HasStepped rules look inst frame.trial s) c.in-Value.is (c.in_ok-step.ensures.stepped inst c.requires.standing.stepped) in
      let passed = subst (λ (s : Step). HasPassedTo rules look found inst frame s) c.in-Value.is (c.in_ok-step.ensures.passed inst c.requires.standing.passed) in
      let takes = c.in_ok-step.ensures.only inst c.requires.own c.requires.standing.stepped c.requires.standing.takes in
      let has : HasFound rules look old found inst d = has_found rules look old found inst frame c.in-Value.value d c.requires.own stepped passed takes c.in_ok-step.ensures.kept e.value e.reads e.demanded in
      let adds = c.keep.ensures.keeps.adds in
      let kept = subst (λ (r : Bool). SaysKept new inst d r) c.if-is_kept.true c.in_ok-is_kept-in-Value.ensures.keeps.says in
      record {
        tried = (d, sym c.into_value.ensures, has);
        right = right_added rules old new inst (value_view d.value) adds look has.value c.requires.answerable.right;
        stays = right_stays rules old new inst (value_view d.value) adds c.args.store.now found c.keep.ensures.keeps.gains c.keep.ensures.keeps.plain has.value (c.keep.ensures.keeps.covers look c.requires.finds.whole has.whole);
        plain = c.keep.ensures.keeps.plain;
        gains = c.keep.ensures.keeps.gains;
        worthy = worthy_added rules look old new inst (value_view d.value) found c.keep.ensures.keeps.gains has.value;
        spare = λ spare lean settled. spare_added rules look old new found inst d c.requires.answerable.basis.circular.lazy c.requires.own c.keep.ensures.keeps.gains c.requires.finds.whole has settled spare (c.keep.ensures.keeps.only look lean has.lean spare.only);
        settles = λ spare settled. settled_still rules look old new inst found c.keep.ensures.keeps.gains found settled;
        counts = c.keep.ensures.keeps.counts;
        keeps = kept ∙ ap (λ (v : ValueCode). Some (value_view v)) (sym c.into_value.ensures);
        waits = tt;
        idle = tt;
      };
  traces = c.keep.ensures.traces;
}

pub returns-else-is_kept : goal.returns-else-is_kept
returns-else-is_kept g c = record {
  attempted =
      let rules = c.args.rules.now in
      let look = contents c.args.store.now in
      let found = c.args.found.now.entries in
      let inst = c.args.inst.now in
      let old = g.K.Keeper.contents c.args.self.now.keeper in
      let new = g.K.Keeper.contents c.keep.new.self.keeper in
      let frame = c.go_on.new.self in
      let d = c.take_find-find.result in
      let e = c.take_find-find.ensures in
      let stepped = subst (λ (s : Step). HasStepped rules look inst frame.trial s) c.in-Value.is (c.in_ok-step.ensures.stepped inst c.requires.standing.stepped) in
      let passed = subst (λ (s : Step). HasPassedTo rules look found inst frame s) c.in-Value.is (c.in_ok-step.ensures.passed inst c.requires.standing.passed) in
      let takes = c.in_ok-step.ensures.only inst c.requires.own c.requires.standing.stepped c.requires.standing.takes in
      let has : HasFound rules look old found inst d = has_found rules look old found inst frame c.in-Value.value d c.requires.own stepped passed takes c.in_ok-step.ensures.kept e.value e.reads e.demanded in
      let adds = c.keep.ensures.keeps.adds in
      record {
        tried = has;
        right = right_added rules old new inst (value_view d.value) adds look has.value c.requires.answerable.right;
        stays = right_stays rules old new inst (value_view d.value) adds c.args.store.now found c.keep.ensures.keeps.gains c.keep.ensures.keeps.plain has.value (c.keep.ensures.keeps.covers look c.requires.finds.whole has.whole);
        plain = c.keep.ensures.keeps.plain;
        gains = c.keep.ensures.keeps.gains;
        worthy = worthy_added rules look old new inst (value_view d.value) found c.keep.ensures.keeps.gains has.value;
        spare = λ spare lean settled. spare_added rules look old new found inst d c.requires.answerable.basis.circular.lazy c.requires.own c.keep.ensures.keeps.gains c.requires.finds.whole has settled spare (c.keep.ensures.keeps.only look lean has.lean spare.only);
        settles = λ spare settled. settled_added rules look old new found inst d c.requires.answerable.basis.circular.lazy c.requires.own c.keep.ensures.keeps.gains c.requires.finds.whole has settled spare c.in_ok-is_kept-in-Value.ensures.keeps.keeps;
        counts = c.keep.ensures.keeps.counts;
        keeps = tt;
        waits = tt;
        idle = tt;
      };
  traces = c.keep.ensures.traces;
}

pub returns-in-Fault : goal.returns-in-Fault
returns-in-Fault g c = record {
  attempted =
      let rules = c.args.rules.now in
      let look = contents c.args.store.now in
      let found = c.args.found.now.entries in
      let inst = c.args.inst.now in
      let entries = g.K.Keeper.contents c.args.self.now.keeper in
      let stepped = subst (λ (s : Step). HasStepped rules look inst c.go_on.new.self.trial s) c.in-Fault.is (c.in_ok-step.ensures.stepped inst c.requires.standing.stepped) in
      let typed = subst (λ (s : Step). IsTypedStep rules (class_shown c.args.store.now) s c.go_on.new.self.trial) c.in-Fault.is c.in_ok-step.ensures.typed in
      let passed = subst (λ (s : Step). HasPassedTo rules look found inst c.go_on.new.self s) c.in-Fault.is (c.in_ok-step.ensures.passed inst c.requires.standing.passed) in
      let takes = c.in_ok-step.ensures.only inst c.requires.own c.requires.standing.stepped c.requires.standing.takes in
      record { tried = has_failed rules look entries found inst c.go_on.new.self.trial c.in-Fault.kind c.requires.own stepped; right = c.requires.answerable.right; stays = λ there finds right. right; plain = c.requires.answerable.plain; gains = gain_none rules look found entries inst; worthy = worthy_none rules look inst entries; spare = λ spare lean settled. spare; settles = λ spare settled. settled; counts = counts_none entries c.args.self.now.work c.args.self.now.few; keeps = tt; waits = record { stepped = stepped; passed = passed; takes = takes; typed = typed; kept = c.in_ok-step.ensures.kept }; idle = (refl, refl) };
  traces = puts_same (g.K.Keeper.memories c.args.self.now.keeper);
}

pub returns-in-Need : goal.returns-in-Need
returns-in-Need g c = record {
  attempted =
      let rules = c.args.rules.now in
      let look = contents c.args.store.now in
      let found = c.args.found.now.entries in
      let inst = c.args.inst.now in
      let entries = g.K.Keeper.contents c.args.self.now.keeper in
      let trial = c.go_on.new.self.trial in
      let stepped = subst (λ (s : Step). HasStepped rules look inst trial s) c.in-Need.is (c.in_ok-step.ensures.stepped inst c.requires.standing.stepped) in
      let unknown = subst (λ (s : Step). IsOpen (known_in entries found) s) c.in-Need.is c.in_ok-step.ensures.unknown in
      let typed = subst (λ (s : Step). IsTypedStep rules (class_shown c.args.store.now) s trial) c.in-Need.is c.in_ok-step.ensures.typed in
      let passed = subst (λ (s : Step). HasPassedTo rules look found inst c.go_on.new.self s) c.in-Need.is (c.in_ok-step.ensures.passed inst c.requires.standing.passed) in
      let takes = c.in_ok-step.ensures.only inst c.requires.own c.requires.standing.stepped c.requires.standing.takes in
      record { tried = has_needed rules look entries found inst (class_shown c.args.store.now) trial c.in-Need.needed c.requires.own stepped unknown typed; right = c.requires.answerable.right; stays = λ there finds right. right; plain = c.requires.answerable.plain; gains = gain_none rules look found entries inst; worthy = worthy_none rules look inst entries; spare = λ spare lean settled. spare; settles = λ spare settled. settled; counts = counts_none entries c.args.self.now.work c.args.self.now.few; keeps = tt; waits = record { stepped = stepped; passed = passed; takes = takes; typed = typed; kept = c.in_ok-step.ensures.kept }; idle = (refl, refl) };
  traces = puts_same (g.K.Keeper.memories c.args.self.now.keeper);
}
