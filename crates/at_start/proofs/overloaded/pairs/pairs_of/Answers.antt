use Rattle.std.proofs.Common.{◌∙◌, ◌||◌, Bool, ap, arith, sym}
use Rattle.at_start.specs.Overloading.{is_declared_by}
use Rattle.at_start.proofs.Overloads.{all_any, one_any}
use Rattle.at_start.proofs.overloaded.pairs.pairs_of.Goals as goal

pub loop-one-preserved : goal.loop-one-preserved
loop-one-preserved c = λ name count.
    c.in_ok-add.ensures name count
    ∙ ap (λ (b : Bool). b || is_declared_by name count c.one-item.result) (c.loop-one.invariant name count)
    ∙ sym (one_any (is_declared_by name count) c.args.counted.now c.loop-one.one-index c.one-item.result (omega arith) c.one-item.is)

pub returns : goal.returns
returns c = λ name count.
    c.loop-one.invariant name count ∙ all_any (is_declared_by name count) c.args.counted.now c.loop-one.one-index (omega arith)
