use Rattle.std.proofs.Common.{sym, subst}
use Rattle.std.specs.Box.{with_value}
use Rattle.at_store.specs.Shown.{contents}
use Rattle.at_body.specs.Typed.{class_shown}
use Rattle.at_demand.specs.declared.evaluation.Frame.{Frame}
use Rattle.at_demand.specs.declared.formation.Formation.{Formation}
use Rattle.at_demand.specs.declared.trying.Going.{Going}
use Rattle.at_demand.specs.Attempts.{HasComeTo, HasFormedTo, IsGoing}
use Rattle.at_evaluate.proofs.Counting.{counts_none}
use Rattle.at_demand.proofs.of_levels.Carried.{formed_idle, formed_settles, none_gained, none_worthy, value_idle, value_settles, value_tried}
use Rattle.at_demand.proofs.of_levels.FormingOn.{formed_tried}
use Rattle.at_demand.proofs.demand.Demand.carry_on.Goals as goal

pub go_on-requires : goal.go_on-requires
go_on-requires g c =
    let rules = c.args.rules.now in
    let s = c.args.store.now in
    let found = c.args.found.now.entries in
    let inst = c.args.inst.now in
    let entries = g.K.Keeper.contents c.args.self.now.keeper in
    let going = subst (λ (x : Going). IsGoing rules (class_shown s) (contents s) entries found inst x) c.in-Value.is c.requires.going in
    record {
      answerable = c.requires.answerable;
      standing = subst (λ (f : Frame). HasComeTo rules (class_shown s) (contents s) entries found inst f c.in-Value.step)
          (sym c.deref_mut.ensures.value) going.1;
      own = going.0;
      finds = c.requires.finds;
      unkept = c.requires.unkept;
    }

pub returns-in_ok-attempt-in-Value-clause-tried : goal.returns-in_ok-attempt-in-Value-clause-tried
returns-in_ok-attempt-in-Value-clause-tried g c =
    let rules = c.args.rules.now in
    let s = c.args.store.now in
    let found = c.args.found.now.entries in
    let inst = c.args.inst.now in
    let before = g.K.Keeper.contents c.args.self.now.keeper in
    let after = g.K.Keeper.contents c.go_on.new.self.keeper in
    let a = c.in_ok-attempt-in-Value.ensures.attempted in
    let going = subst (λ (x : Going). IsGoing rules (class_shown s) (contents s) before found inst x) c.in-Value.is c.requires.going in
    record {
      tried = value_tried rules (class_shown s) (contents s) before after found inst c.in_ok-attempt-in-Value.attempt
          (with_value c.in-Value.frame c.go_on.new.frame) c.came_to_value.result going.0 a.tried a.keeps a.waits c.came_to_value.ensures;
      right = a.right;
      stays = a.stays;
      plain = a.plain;
      gains = a.gains;
      worthy = a.worthy;
      spare = a.spare;
      settles = λ spare settled. value_settles rules after found inst c.in_ok-attempt-in-Value.attempt
          (with_value c.in-Value.frame c.go_on.new.frame) c.came_to_value.result
          c.came_to_value.ensures (a.settles spare settled);
      counts = a.counts;
      idle = value_idle before after c.args.self.now.work c.go_on.new.self.work c.in_ok-attempt-in-Value.attempt
          (with_value c.in-Value.frame c.go_on.new.frame) c.came_to_value.result
          c.came_to_value.ensures a.idle;
    }

pub returns-in_ok-progress-in-Formula-clause-tried : goal.returns-in_ok-progress-in-Formula-clause-tried
returns-in_ok-progress-in-Formula-clause-tried g c =
    let rules = c.args.rules.now in
    let s = c.args.store.now in
    let at = class_shown s in
    let look = contents s in
    let found = c.args.found.now.entries in
    let inst = c.args.inst.now in
    let entries = g.K.Keeper.contents c.args.self.now.keeper in
    let e = c.in_ok-progress-in-Formula.ensures in
    let was = subst (λ (x : Going). IsGoing rules at look entries found inst x) c.in-Formula.is c.requires.going in
    let old = subst (λ (f : Formation). HasFormedTo rules at look entries found inst f c.in-Formula.progress) (sym c.deref_mut-in-Formula.ensures.value) was.1 in
    let new : HasFormedTo rules at look entries found inst c.go_on-in-Formula.new.self c.in_ok-progress-in-Formula.progress =
    record { passed = e.passed inst old.passed; takes = e.only inst old.passed old.takes; typed = e.typed; kept = e.kept } in
    record {
      tried = formed_tried rules look at entries found inst was.0 (with_value c.in-Formula.formation c.go_on-in-Formula.new.self) c.in_ok-progress-in-Formula.progress c.came_to_formula.result new e.unknown c.came_to_formula.ensures;
      right = c.requires.answerable.right;
      stays = λ there finds right. right;
      plain = c.requires.answerable.plain;
      gains = none_gained rules found entries inst;
      worthy = none_worthy rules look inst entries;
      spare = λ spare lean settled. spare;
      settles = λ spare settled. formed_settles rules entries found inst c.in_ok-progress-in-Formula.progress
          (with_value c.in-Formula.formation c.go_on-in-Formula.new.self) c.came_to_formula.result c.came_to_formula.ensures settled;
      counts = counts_none entries c.args.self.now.work c.args.self.now.few;
      idle = formed_idle entries c.args.self.now.work c.in_ok-progress-in-Formula.progress
          (with_value c.in-Formula.formation c.go_on-in-Formula.new.self) c.came_to_formula.result c.came_to_formula.ensures;
    }
