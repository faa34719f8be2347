use Rattle.std.proofs.lemmas.Result.{err_from_is_err_and}
use Rattle.at_evaluate.proofs.Entered.{all_entered}
use Rattle.at_demand.proofs.Orderly.{added_kept, used_kept}
use Rattle.at_demand.proofs.Gathered.{adds_one, adds_used_after}
use Rattle.at_demand.proofs.OnlyLemmas.{adds_only_one, adds_only_used_after}
use Rattle.at_demand.proofs.gathering.Sources.add_at.Goals as goal

pub returns-then-not-often : goal.returns-then-not-often
returns-then-not-often g c =
    let entries = g.K.Keeper.contents c.args.keeper.now in
    let found = c.args.found.now.entries in
    let find = c.in-Some-get_index.find.now in
    let keys = c.args.visited.now.keys in
    record {
      kept = λ founds kept. added_kept entries c.add.result c.args.self.now.kept.items find.demanded.kept.items c.add.new.self.kept.items c.add.ensures.kept kept (all_entered entries find.demanded.kept.items (founds _ _ c.in-Some-get_index.ensures.value));
      added = adds_one found c.add.result c.args.next c.in-Some.position.now c.in-Some-get_index.inst.now find c.args.self.now c.add.new.self keys c.add.new.visited.keys c.in-Some.ensures.key c.in-Some-get_index.ensures.entry c.add.ensures.added;
      only = adds_only_one found c.add.result c.args.next c.in-Some.position.now c.in-Some-get_index.inst.now find c.args.self.now c.add.new.self keys c.add.new.visited.keys c.in-Some.ensures.key c.in-Some-get_index.ensures.entry c.add.ensures.only;
    }

pub returns : goal.returns
returns g c =
    let entries = g.K.Keeper.contents c.args.keeper.now in
    let found = c.args.found.now.entries in
    let find = c.in-Some-get_index.find.now in
    let keys = c.args.visited.now.keys in
    record {
      kept = λ founds kept. added_kept entries c.add-2.result c.args.self.now.kept.items find.demanded.kept.items c.add-2.new.self.kept.items c.add-2.ensures.kept kept (all_entered entries find.demanded.kept.items (founds _ _ c.in-Some-get_index.ensures.value));
      added = adds_one found c.add-2.result c.args.next c.in-Some.position.now c.in-Some-get_index.inst.now find c.args.self.now c.add-2.new.self keys c.add-2.new.visited.keys c.in-Some.ensures.key c.in-Some-get_index.ensures.entry c.add-2.ensures.added;
      only = adds_only_one found c.add-2.result c.args.next c.in-Some.position.now c.in-Some-get_index.inst.now find c.args.self.now c.add-2.new.self keys c.add-2.new.visited.keys c.in-Some.ensures.key c.in-Some-get_index.ensures.entry c.add-2.ensures.only;
    }

pub returns-then-stands : goal.returns-then-stands
returns-then-stands g c =
    let entries = g.K.Keeper.contents c.args.keeper.now in
    let found = c.args.found.now.entries in
    let inst = c.in-Some-get_index.inst.now in
    let find = c.in-Some-get_index.find.now in
    let keys = c.args.visited.now.keys in
    let e = c.add_use.ensures in
    record {
      kept = λ founds kept. used_kept entries c.add_use.result c.stands.result c.args.self.now.kept.items c.add_use.new.self.kept.items inst c.stands.ensures c.if-stands.true e.kept kept;
      added = adds_used_after found c.add_use.result c.args.next c.in-Some.position.now inst find c.args.self.now c.add_use.new.self keys c.in-Some.ensures.key c.in-Some-get_index.ensures.entry e.reads e.kept;
      only = adds_only_used_after found c.add_use.result c.args.next c.in-Some.position.now inst find c.args.self.now c.add_use.new.self keys c.in-Some.ensures.key c.in-Some-get_index.ensures.entry e.reads e.kept;
    }

pub returns-in_err-often : goal.returns-in_err-often
returns-in_err-often g c =
    let is = (err_from_is_err_and c.from_residual.result c.from_residual.ensures.1).1 in
    record { kept = λ found kept. rw is tt; added = rw is tt; only = rw is tt }

pub returns-in_err-note : goal.returns-in_err-note
returns-in_err-note g c =
    let is = (err_from_is_err_and c.from_residual-in_err-note.result c.from_residual-in_err-note.ensures.1).1 in
    record { kept = λ found kept. rw is tt; added = rw is tt; only = rw is tt }
