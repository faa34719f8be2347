use Rattle.std.proofs.Common.{◌∙◌, ◌&&◌, ◌||◌, Bool, ℕ, List, ap, arith, sym}
use Rattle.at_start.specs.Overloading.{Counted, is_declared_by}
use Rattle.at_start.specs.Pairs.{needs_in}
use Rattle.at_start.proofs.Overloads.{all_any, all_overloaded, one_any}
use Rattle.at_start.proofs.overloaded.pairs.overloaded.Goals as goal

pub loop-one-preserved : goal.loop-one-preserved
loop-one-preserved c = λ name count.
    let such : Counted → Bool = λ d. is_declared_by name count d && needs_in c.args.classes.now c.in_ok-all.all d in
    c.in_ok-add_overloaded.ensures name count
    ∙ ap (λ (b : Bool). b || such c.one-item.result) (c.loop-one.invariant name count)
    ∙ sym (one_any such c.args.counted.now c.loop-one.one-index c.one-item.result (omega arith) c.one-item.is)

pub returns : goal.returns
returns c =
    all_overloaded c.args.classes.now c.in_ok-all.all c.loop-one.found c.args.counted.now c.in_ok-all.ensures
    (λ name count. c.loop-one.invariant name count
    ∙ all_any (λ d. is_declared_by name count d && needs_in c.args.classes.now c.in_ok-all.all d) c.args.counted.now c.loop-one.one-index (omega arith))
