use Rattle.std.proofs.Common.{◌||◌, ◌-◌, ap, sym, ◌∙◌, arith}
use Rattle.at_store.specs.Told.{planted_told}
use Rattle.at_store.specs.View.{memory_of}
use Rattle.at_store.proofs.Loose.{planted_above, planted_none, planted_root}
use Rattle.at_store.proofs.refusals.+is_planted.Goals as goal

pub returns-then-most-eq0 : goal.returns-then-most-eq0
returns-then-most-eq0 t c = sym (planted_none c.args.classes.now (memory_of c.args.slab.now) c.args.most c.args.node c.if-most-eq0.true)

pub returns-in_default : goal.returns-in_default
returns-in_default t c = sym (planted_root c.args.classes.now (memory_of c.args.slab.now) c.args.most c.args.node (sym c.up_at.ensures ∙ c.in_default.is))

pub returns-then-is_fixed : goal.returns-then-is_fixed
returns-then-is_fixed t c =
    let classes = c.args.classes.now in
    let memory = memory_of c.args.slab.now in
    sym (planted_above classes memory c.args.most c.args.node c.in-Some.place
    (omega (arith, c.if-most-eq0.false)) (sym c.up_at.ensures ∙ c.in-Some.is)
    ∙ ap (λ b. b || planted_told classes memory (c.args.most - 1) c.in-Some.place.0) (sym c.is_fixed.ensures ∙ c.if-is_fixed.true))

pub returns : goal.returns
returns t c =
    let classes = c.args.classes.now in
    let memory = memory_of c.args.slab.now in
    c.is_planted.ensures ∙ sym (planted_above classes memory c.args.most c.args.node c.in-Some.place
    (omega (arith, c.if-most-eq0.false)) (sym c.up_at.ensures ∙ c.in-Some.is)
    ∙ ap (λ b. b || planted_told classes memory (c.args.most - 1) c.in-Some.place.0) (sym c.is_fixed.ensures ∙ c.if-is_fixed.false))
