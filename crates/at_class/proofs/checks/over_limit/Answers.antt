use Rattle.std.proofs.Common.{◌<◌, ◌∙◌, sym, refl, arith, length}
use Rattle.at_class.specs.Checks.{over_in, over_at}
use Rattle.at_class.specs.Grammar.{declaration_view, place_view}
use Rattle.at_class.proofs.Firsts.{first_here, none_more, none_at_all, some_if, none_if}
use Rattle.at_class.proofs.Places.{over_test}
use Rattle.at_class.proofs.checks.over_limit.Goals as goal

pub loop-position-init : goal.loop-position-init
loop-position-init c = λ classes are. refl

pub returns-then-is_over : goal.returns-then-is_over
unfolding over_in
returns-then-is_over c = λ classes are.
    let d = c.index-declarations-position.result in
    let k = c.loop-position.position in
    let less : k < length c.args.found.now = omega (arith, c.requires) in
    let test = over_test classes k _ c.is_over.result (are.each k _ less) c.is_over.ensures in
    sym (first_here (over_at classes) declaration_view c.args.declarations.now k d (place_view d.at) (omega arith)
    c.index-declarations-position.is (c.loop-position.invariant classes are)
    (some_if _ _ (test ∙ c.if-is_over.true)))

pub loop-position-preserved : goal.loop-position-preserved
loop-position-preserved c = λ classes are.
    let d = c.index-declarations-position.result in
    let k = c.loop-position.position in
    let less : k < length c.args.found.now = omega (arith, c.requires) in
    let test = over_test classes k _ c.is_over.result (are.each k _ less) c.is_over.ensures in
    none_more (over_at classes) declaration_view c.args.declarations.now k d (omega arith)
    c.index-declarations-position.is (none_if _ _ (test ∙ c.if-is_over.false))
    (c.loop-position.invariant classes are)

pub returns : goal.returns
unfolding over_in
returns c = λ classes are. sym (none_at_all (over_at classes) declaration_view c.args.declarations.now c.loop-position.position (omega arith) (c.loop-position.invariant classes are))
