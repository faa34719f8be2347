use Rattle.std.proofs.Common.{◌≡◌, ◌<◌, arith, length}
use Rattle.std.proofs.lemmas.Bool.Decides.{nat_tests}
use Rattle.at_class.specs.Fixing.{fixed_view}
use Rattle.at_start.proofs.PlantingFixes.{same_all, same_more}
use Rattle.at_start.proofs.constants.fixing.are_same.Goals as goal

pub loop-i-preserved : goal.loop-i-preserved
loop-i-preserved c =
    let xs = c.args.fixes.now in
    let ys = c.args.others.now in
    let i = c.loop-i.i in
    let less : i < length xs = grind (arith, nat_tests) in
    let less' : i < length ys = grind (arith, nat_tests) in
    same_more fixed_view xs ys i c.index-fixes-i.result c.index-others-i.result less less' c.index-fixes-i.is c.index-others-i.is
    (c.is_same.ensures c.if-not-is_same.false) c.loop-i.invariant

pub returns : goal.returns
returns c same =
    same_all fixed_view c.args.fixes.now c.args.others.now c.loop-i.i (grind (arith, nat_tests)) (grind (arith, nat_tests)) c.loop-i.invariant
