use Rattle.std.proofs.Common.{List, ℕ, take, get_or, inl, subst, sym}
use Rattle.std.proofs.lemmas.List.{take_all, take_more}
use Rattle.at_demand.specs.Covering.{Visits}
use Rattle.at_demand.specs.Only.{VisitsOnly}
use Rattle.at_demand.proofs.Gathered.{extends_self, visits_more}
use Rattle.at_demand.proofs.OnlyLemmas.{visits_one}
use Rattle.at_demand.proofs.gathering.visit.Goals as goal

pub loop-position-init : goal.loop-position-init
loop-position-init c = record { all = (extends_self c.args.visited.now.keys, λ p h. absurd h); only = λ p h. inl h }

pub loop-position-preserved : goal.loop-position-preserved
loop-position-preserved c =
    let i = c.loop-position.position-index in
    let old = c.args.visited.now.keys in
    let new = c.insert.new.self.keys in
    let next = take_more c.args.positions.now i 0 c.loop-position-test.true in
    let all = visits_more (take i c.args.positions.now) old c.loop-position.visited.keys new (get_or c.args.positions.now i 0) c.loop-position.invariant.all c.in_ok-insert.ensures.keys in
    let only = visits_one (take i c.args.positions.now) old c.loop-position.visited.keys new (get_or c.args.positions.now i 0) c.loop-position.invariant.only c.in_ok-insert.ensures.keys in
    record {
      all = subst (λ (l : List ℕ). Visits l old new) (sym next) all;
      only = subst (λ (l : List ℕ). VisitsOnly l old new) (sym next) only;
    }

pub returns : goal.returns
returns c =
    let done = take_all c.loop-position.position-index c.args.positions.now c.loop-position-test.false in
    record {
      all = subst (λ (l : List ℕ). Visits l c.args.visited.now.keys c.loop-position.visited.keys) done c.loop-position.invariant.all;
      only = subst (λ (l : List ℕ). VisitsOnly l c.args.visited.now.keys c.loop-position.visited.keys) done c.loop-position.invariant.only;
    }
