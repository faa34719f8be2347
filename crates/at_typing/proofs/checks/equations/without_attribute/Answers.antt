use Rattle.std.proofs.Common.{arith, sym, ap, ◌∙◌, map, Some}
use Rattle.std.specs.Prelude.{not}
use Rattle.at_typing.specs.Declaring.{undeclared_at}
use Rattle.at_typing.specs.Numbering.{numbered_view}
use Rattle.at_kinds.specs.declared.code.RuleCode.TheVariants as code
use Rattle.at_typing.proofs.of_attributes.AttributesFound.{among_all}
use Rattle.at_typing.proofs.FirstFaults.{fault_where, fault_nowhere}
use Rattle.at_typing.proofs.checks.equations.without_attribute.Goals as goal
use Rattle.at_class.proofs.Firsts.{none_more, first_here, none_at_all}

pub returns-then-not-is_of_attribute : goal.returns-then-not-is_of_attribute
returns-then-not-is_of_attribute c =
    let xs = c.args.declared.now in
    let d = c.numbered-item.result in
    let i = c.loop-numbered.numbered-index in
    let among = among_all c.args.classes.now xs i d (omega arith) c.numbered-item.is c.requires.0 in
    let test = ap not (sym (c.is_of_attribute.ensures xs c.requires.1 among) ∙ c.if-not-is_of_attribute.true) in
    sym (first_here (undeclared_at c.args.classes.now (map numbered_view xs)) numbered_view xs i d c.fault_at.result
    (omega arith) c.numbered-item.is c.loop-numbered.invariant
    (fault_where _ code.EquationWithoutAttribute (numbered_view d) test ∙ ap Some (sym c.fault_at.ensures)))

pub loop-numbered-preserved : goal.loop-numbered-preserved
loop-numbered-preserved c =
    let xs = c.args.declared.now in
    let d = c.numbered-item.result in
    let i = c.loop-numbered.numbered-index in
    let among = among_all c.args.classes.now xs i d (omega arith) c.numbered-item.is c.requires.0 in
    let test = ap not (sym (c.is_of_attribute.ensures xs c.requires.1 among) ∙ c.if-not-is_of_attribute.false) in
    none_more (undeclared_at c.args.classes.now (map numbered_view xs)) numbered_view xs i d (omega arith)
    c.numbered-item.is (fault_nowhere _ code.EquationWithoutAttribute (numbered_view d) test)
    c.loop-numbered.invariant

pub returns : goal.returns
returns c = sym (none_at_all (undeclared_at c.args.classes.now (map numbered_view c.args.declared.now)) numbered_view
    c.args.declared.now c.loop-numbered.numbered-index (omega arith) c.loop-numbered.invariant)
