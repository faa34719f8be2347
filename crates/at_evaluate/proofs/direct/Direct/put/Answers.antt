use Rattle.std.proofs.Common.{ℕ, Some, ap, map, subst}
use Rattle.at_model.specs.Run.{Instance}
use Rattle.at_store.specs.Located.{loc_view}
use Rattle.at_body.specs.Values.{value_view}
use Rattle.at_cache.specs.Kept.{Puts, value_at}
use Rattle.at_cache.specs.Traced.{PutsTrace, SparesOthers}
use Rattle.at_evaluate.proofs.Counting.{counts_put}
use Rattle.at_evaluate.proofs.of_traces.Making.{makes_none, makes_put, makes_unmade}
use Rattle.at_evaluate.proofs.direct.Direct.put.Goals as goal

pub returns-clause-counts : goal.returns-clause-counts
returns-clause-counts g c =
    let old = g.K.Keeper.contents c.args.keeper.now in
    let new = g.K.Keeper.contents c.put.new.self in
    let reads = map loc_view c.as_slice-reads.result.now in
    let uses = c.as_slice-uses.result.now in
    let puts = subst (λ (i : Instance ℕ). Puts old i (Some (value_view c.in_ok-copy-2.field-0)) reads uses new)
    c.in_ok-copy.ensures c.in_ok-put.ensures.puts in
    counts_put old new c.args.inst.now _ reads uses c.args.self.now.work c.saturating_add-self.result
    c.requires.absent puts c.saturating_add-self.ensures

pub returns-clause-makes : goal.returns-clause-makes
returns-clause-makes g c =
    let old = g.K.Keeper.contents c.args.keeper.now in
    let new = g.K.Keeper.contents c.put.new.self in
    let m = g.K.Keeper.memories c.args.keeper.now in
    let n = g.K.Keeper.memories c.put.new.self in
    let reads = map loc_view c.as_slice-reads.result.now in
    let uses = c.as_slice-uses.result.now in
    let is = c.in_ok-copy.ensures in
    makes_put old new m n c.args.inst.now c.requires.absent
    (subst (λ (i : Instance ℕ). SparesOthers i new m n) is c.put.ensures.spares)
    c.requires.anew (Some (value_view c.in_ok-copy-2.field-0)) reads uses c.args.order
    (subst (λ (i : Instance ℕ). Puts old i (Some (value_view c.in_ok-copy-2.field-0)) reads uses new)
    is c.in_ok-put.ensures.puts)
    (subst (λ (i : Instance ℕ). PutsTrace i (Some (value_view c.in_ok-copy-2.field-0)) reads uses c.args.order m n) is c.put.ensures.traces)
    c.args.self.now.made c.saturating_add-self-2.result c.saturating_add-self-2.ensures

pub returns-in_err-put-clause-makes : goal.returns-in_err-put-clause-makes
returns-in_err-put-clause-makes g c =
    let new = g.K.Keeper.contents c.put.new.self in
    let m = g.K.Keeper.memories c.args.keeper.now in
    let n = g.K.Keeper.memories c.put.new.self in
    let is = c.in_ok-copy.ensures in
    makes_unmade (g.K.Keeper.contents c.args.keeper.now) new m n c.args.inst.now c.requires.absent
    (subst (λ (i : Instance ℕ). SparesOthers i new m n) is c.put.ensures.spares)
    c.requires.anew (λ j. ap value_at (c.in_err-put.ensures.err j)) c.in_err-put.ensures.fails c.args.self.now.made

pub returns-in_err-copy-clause-makes : goal.returns-in_err-copy-clause-makes
returns-in_err-copy-clause-makes g c = makes_none _ _ _

pub returns-in_err-copy-2-clause-makes : goal.returns-in_err-copy-2-clause-makes
returns-in_err-copy-2-clause-makes g c = makes_none _ _ _
