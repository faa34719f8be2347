use Rattle.std.proofs.Common.{arith, refl, sym, ap, ◌∙◌, map, take, Some}
use Rattle.std.specs.Prelude.{◌&&◌, ◌||◌}
use Rattle.std.specs.List.{list_any}
use Rattle.std.proofs.lemmas.List.{take-map}
use Rattle.at_typing.specs.Declaring.{is_attribute, binds_twice, clashes, twice_at}
use Rattle.at_typing.specs.Numbering.{numbered_view}
use Rattle.at_kinds.specs.declared.code.RuleCode.TheVariants as code
use Rattle.at_typing.proofs.of_attributes.AttributesFound.{among_before}
use Rattle.at_typing.proofs.of_attributes.Clashing.{fits, none_added, one_added}
use Rattle.at_typing.proofs.FirstFaults.{fault_where, fault_nowhere}
use Rattle.at_typing.proofs.checks.twice.declared_twice.Goals as goal
use Rattle.at_class.proofs.Firsts.{none_more, first_here, none_at_all}

pub loop-numbered-init : goal.loop-numbered-init
loop-numbered-init c = (refl, none_added c.args.arguments c.args.classes.now c.args.declared.now _ c.new-before.ensures.first c.new-before.ensures.declared c.new-before.ensures.above)

pub returns-then-is_twice : goal.returns-then-is_twice
returns-then-is_twice c =
    let xs = c.args.declared.now in
    let classes = c.args.classes.now in
    let d = c.numbered-item.result in
    let i = c.loop-numbered.numbered-index in
    let told = c.in_ok-is_twice.ensures (take i xs) c.loop-numbered.invariant.1 (among_before classes xs i d (omega arith) c.numbered-item.is c.requires) in
    let test = ap (λ l. (is_attribute (numbered_view d).decl.form && list_any (clashes c.args.arguments classes (numbered_view d)) l)
    || binds_twice (numbered_view d).decl.form) (take-map numbered_view i xs) ∙ sym told ∙ c.if-is_twice.true in
    sym (first_here (twice_at c.args.arguments classes (map numbered_view xs)) numbered_view xs i d c.fault_at.result (omega arith)
    c.numbered-item.is c.loop-numbered.invariant.0
    (fault_where _ code.AttributeTwice (numbered_view d) test ∙ ap Some (sym c.fault_at.ensures)))

pub loop-numbered-preserved : goal.loop-numbered-preserved
loop-numbered-preserved c =
    let xs = c.args.declared.now in
    let classes = c.args.classes.now in
    let d = c.numbered-item.result in
    let i = c.loop-numbered.numbered-index in
    let among = among_before classes xs i d (omega arith) c.numbered-item.is c.requires in
    let told = c.in_ok-is_twice.ensures (take i xs) c.loop-numbered.invariant.1 among in
    let none = sym told ∙ c.if-is_twice.false in
    let test = ap (λ l. (is_attribute (numbered_view d).decl.form && list_any (clashes c.args.arguments classes (numbered_view d)) l)
    || binds_twice (numbered_view d).decl.form) (take-map numbered_view i xs) ∙ none in (
      none_more (twice_at c.args.arguments classes (map numbered_view xs)) numbered_view xs i d (omega arith) c.numbered-item.is
          (fault_nowhere _ code.AttributeTwice (numbered_view d) test) c.loop-numbered.invariant.0,
      one_added c.args.arguments classes xs i d c.loop-numbered.before c.add.new.self (omega arith) c.numbered-item.is
          c.loop-numbered.invariant.1 c.in_ok-add.ensures (fits c.args.arguments classes (take i xs) c.loop-numbered.before d
          c.loop-numbered.invariant.1 among (binds_twice (numbered_view d).decl.form) none),
    )

pub returns : goal.returns
returns c = sym (none_at_all (twice_at c.args.arguments c.args.classes.now (map numbered_view c.args.declared.now)) numbered_view
    c.args.declared.now c.loop-numbered.numbered-index (omega arith) c.loop-numbered.invariant.0)
