use Rattle.std.proofs.Common.{List, ℕ, ◌++◌, ◌∙◌, ◌≤◌, length, take, ap, subst, OnOk}
use Rattle.std.proofs.lemmas.List.{take_all}
use Rattle.at_model.specs.Run.{Instance}
use Rattle.at_demand.specs.Covering.{Visits}
use Rattle.at_demand.specs.Only.{VisitsOnly}
use Rattle.at_demand.proofs.Gathered.{adds_after}
use Rattle.at_demand.proofs.OnlyLemmas.{adds_only_after}
use Rattle.at_demand.proofs.gathering.Sources.add.Goals as goal

pub returns-clause-added : goal.returns-clause-added
returns-clause-added c =
    let old = c.args.self.now in
    let find = c.args.find.now in
    let keys = c.args.visited.now.keys in
    let more = c.visit.new.visited.keys in
    adds_after c.visit.result find old c.loop-inst.self keys more
    (c.loop-inst.invariant.reads ∙ c.in_ok-add_reads.ensures.reads ∙ ap (λ l. old.reads.items ++ l) c.as_slice.ensures)
    (c.loop-inst.invariant.kept ∙ ap (λ l. l ++ take c.loop-inst.inst-index find.demanded.kept.items) c.add_reads.ensures.kept ∙ ap (λ l. old.kept.items ++ l) (take_all c.loop-inst.inst-index find.demanded.kept.items (subst (λ (l : List (Instance ℕ)). length l ≤ c.loop-inst.inst-index) c.deref-inst-items.ensures.value c.loop-inst-test.false)))
    (subst (λ (l : List ℕ). OnOk c.visit.result (Visits l keys more)) c.as_slice-2.ensures.value c.visit.ensures.all)

pub returns-clause-only : goal.returns-clause-only
returns-clause-only c =
    let old = c.args.self.now in
    let find = c.args.find.now in
    let keys = c.args.visited.now.keys in
    let more = c.visit.new.visited.keys in
    adds_only_after c.visit.result find old c.loop-inst.self keys more
    (c.loop-inst.invariant.reads ∙ c.in_ok-add_reads.ensures.reads ∙ ap (λ l. old.reads.items ++ l) c.as_slice.ensures)
    (c.loop-inst.invariant.kept ∙ ap (λ l. l ++ take c.loop-inst.inst-index find.demanded.kept.items) c.add_reads.ensures.kept ∙ ap (λ l. old.kept.items ++ l) (take_all c.loop-inst.inst-index find.demanded.kept.items (subst (λ (l : List (Instance ℕ)). length l ≤ c.loop-inst.inst-index) c.deref-inst-items.ensures.value c.loop-inst-test.false)))
    (subst (λ (l : List ℕ). OnOk c.visit.result (VisitsOnly l keys more)) c.as_slice-2.ensures.value c.visit.ensures.only)
