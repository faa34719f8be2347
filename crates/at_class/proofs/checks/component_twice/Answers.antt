use Rattle.std.proofs.Common.{◌<◌, ◌∙◌, ap, sym, refl, arith, length, map}
use Rattle.std.specs.Prelude.{option_map}
use Rattle.at_class.specs.Checks.{twice_in, twice_at, parts_twice}
use Rattle.at_class.specs.Grammar.{declaration_view, part_declaration_view, place_view}
use Rattle.at_class.proofs.Firsts.{first_here, none_more, none_at_all}
use Rattle.at_class.proofs.checks.component_twice.Goals as goal

pub loop-position-init : goal.loop-position-init
loop-position-init c = λ classes are. refl

pub returns-in-Some : goal.returns-in-Some
unfolding twice_in
returns-in-Some c = λ classes are.
    let d = c.index-declarations-position.result in
    let k = c.loop-position.position in
    let less : k < length c.args.found.now = omega (arith, c.requires) in
    sym (first_here (twice_at classes) declaration_view c.args.declarations.now k d (place_view c.in-Some.at) (omega arith) c.index-declarations-position.is (c.loop-position.invariant classes are)
    (ap (λ ps. parts_twice classes k (map part_declaration_view ps)) (sym c.deref.ensures.value) ∙ sym (c.twice_at.ensures classes k (are.each k _ less)) ∙ ap (option_map place_view) c.in-Some.is))

pub loop-position-preserved : goal.loop-position-preserved
loop-position-preserved c = λ classes are.
    let d = c.index-declarations-position.result in
    let k = c.loop-position.position in
    let less : k < length c.args.found.now = omega (arith, c.requires) in
    none_more (twice_at classes) declaration_view c.args.declarations.now k d (omega arith) c.index-declarations-position.is
    (ap (λ ps. parts_twice classes k (map part_declaration_view ps)) (sym c.deref.ensures.value)
    ∙ sym (c.twice_at.ensures classes k (are.each k _ less)) ∙ ap (option_map place_view) c.in_default.is)
    (c.loop-position.invariant classes are)

pub returns : goal.returns
unfolding twice_in
returns c = λ classes are. sym (none_at_all (twice_at classes) declaration_view c.args.declarations.now c.loop-position.position (omega arith) (c.loop-position.invariant classes are))
