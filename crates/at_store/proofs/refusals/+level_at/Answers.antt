use Rattle.std.proofs.Common.{sym, ◌∙◌, arith}
use Rattle.at_store.specs.View.{memory_of}
use Rattle.at_store.proofs.Levels.{level_none, level_root, level_above, level_bound}
use Rattle.at_store.proofs.refusals.+level_at.Goals as goal

pub returns-then-most-eq0 : goal.returns-then-most-eq0
returns-then-most-eq0 t c = sym (level_none (memory_of c.args.slab.now) c.args.most c.args.node c.if-most-eq0.true)

pub returns-in-None : goal.returns-in-None
returns-in-None t c = sym (level_root (memory_of c.args.slab.now) c.args.most c.args.node (sym c.up_at.ensures ∙ c.in-None.is))

pub returns-in-Some : goal.returns-in-Some
returns-in-Some t c =
    let memory = memory_of c.args.slab.now in
    let f = level_above memory c.args.most c.args.node c.in-Some.place (omega (arith, c.if-most-eq0.false)) (sym c.up_at.ensures ∙ c.in-Some.is) in
    omega (arith, f, level_bound memory c.args.most c.args.node, c.level_at.ensures, c.saturating_add.ensures, c.ranges.most.fits)
