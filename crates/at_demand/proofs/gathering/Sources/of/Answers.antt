use Rattle.std.proofs.Common.{List, ◌++◌, ◌<◌, ◌≤◌, sym, ap, ◌∙◌, subst}
use Rattle.std.proofs.lemmas.Result.{err_from_is_err_and}
use Rattle.at_model.specs.Run.{Instance}
use Rattle.std.proofs.Common.{ℕ}
use Rattle.at_cache.specs.Kept.{AreKept}
use Rattle.at_demand.specs.declared.gathering.Sources.{Sources}
use Rattle.at_evaluate.proofs.Entered.{all_entered}
use Rattle.at_demand.proofs.Gathered.{visited_first, visited_next, visited_all}
use Rattle.at_demand.proofs.OnlyLemmas.{from_first, from_next}
use Rattle.at_demand.proofs.gathering.Sources.of.Goals as goal

pub loop-next-init : goal.loop-next-init
loop-next-init g c =
    let find = c.args.find.now in
    let entries = g.K.Keeper.contents c.args.keeper.now in
    let old : Sources = record { reads = c.new.result; kept = c.new-2.result } in
    record {
      kept = λ found kept. subst (AreKept entries) (sym (c.in_ok-add.ensures.kept ∙ ap (λ (l : List (Instance ℕ)). l ++ find.demanded.kept.items) c.new-2.ensures.items)) (all_entered entries find.demanded.kept.items kept);
      visited = visited_first c.args.found.now.entries find old c.add.new.self c.in_ok-visited.visited.keys c.add.new.visited.keys c.in_ok-add.ensures.added;
      from = from_first c.args.found.now.entries find old c.add.new.self c.in_ok-visited.visited.keys c.add.new.visited.keys c.new.ensures.items c.new-2.ensures.items c.in_ok-visited.ensures.empty c.in_ok-add.ensures.only;
    }

pub loop-next-preserved : goal.loop-next-preserved
loop-next-preserved g c = record {
  kept = λ found kept. c.in_ok-add_at.ensures.kept found (c.loop-next.invariant.kept found kept);
  visited = visited_next c.args.found.now.entries c.args.find.now c.loop-next.sources c.add_at.new.self c.loop-next.visited.keys c.add_at.new.visited.keys c.loop-next.next
      (subst (λ n. c.loop-next.next < n) c.len.ensures.len c.loop-next-test.true) c.loop-next.invariant.visited c.in_ok-add_at.ensures.added;
  from = from_next c.args.found.now.entries c.args.find.now c.loop-next.sources c.add_at.new.self c.loop-next.visited.keys c.add_at.new.visited.keys c.loop-next.next c.loop-next.invariant.from c.in_ok-add_at.ensures.only;
}

pub returns : goal.returns
returns g c = record {
  kept = c.loop-next.invariant.kept;
  gathered = visited_all c.args.found.now.entries c.args.find.now c.loop-next.sources c.loop-next.visited.keys c.loop-next.next (subst (λ n. n ≤ c.loop-next.next) c.len.ensures.len c.loop-next-test.false) c.loop-next.invariant.visited;
  only = (c.loop-next.visited.keys, c.loop-next.invariant.from);
}

pub returns-in_err-add : goal.returns-in_err-add
returns-in_err-add g c =
    let is = (err_from_is_err_and c.from_residual-in_err-add.result c.from_residual-in_err-add.ensures.1).1 in
    record { kept = λ found kept. rw is tt; gathered = rw is tt; only = rw is tt }

pub returns-in_err-add_at : goal.returns-in_err-add_at
returns-in_err-add_at g c =
    let is = (err_from_is_err_and c.from_residual-in_err-add_at.result c.from_residual-in_err-add_at.ensures.1).1 in
    record { kept = λ found kept. rw is tt; gathered = rw is tt; only = rw is tt }

pub returns-in_err-visited : goal.returns-in_err-visited
returns-in_err-visited g c =
    let is = (err_from_is_err_and c.from_residual.result c.from_residual.ensures.1).1 in
    record { kept = λ found kept. rw is tt; gathered = rw is tt; only = rw is tt }
