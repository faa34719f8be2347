use Rattle.std.proofs.Common.{arith, refl, sym, ap, ◌∙◌, map, Some}
use Rattle.at_typing.specs.Declaring.{equation_at}
use Rattle.at_typing.specs.EquationKeys.{key_view}
use Rattle.at_typing.specs.Numbering.{numbered_view}
use Rattle.at_kinds.specs.declared.code.RuleCode.TheVariants as code
use Rattle.at_typing.proofs.EquationsBefore.{before, one_equation_more, is_had, is_missing}
use Rattle.at_typing.proofs.FirstFaults.{fault_where, fault_nowhere}
use Rattle.at_typing.proofs.checks.equations.equation_twice.Goals as goal
use Rattle.at_class.proofs.Firsts.{none_more, first_here, none_at_all}

pub loop-numbered-init : goal.loop-numbered-init
loop-numbered-init c = (refl, record { own = c.new-before.ensures.own; inherited = ap (map key_view) c.new-before.ensures.inherited })

pub returns-then-not-branch : goal.returns-then-not-branch
returns-then-not-branch c =
    let xs = c.args.declared.now in
    let d = c.numbered-item.result in
    let i = c.loop-numbered.numbered-index in
    let there = before xs i d (omega arith) c.numbered-item.is c.requires c.loop-numbered.before c.loop-numbered.invariant.1 ∙ is_had _ _ c.in_ok-add.ensures.new c.if-not-branch.true in
    sym (first_here (equation_at (map numbered_view xs)) numbered_view xs i d c.fault_at.result (omega arith)
    c.numbered-item.is c.loop-numbered.invariant.0
    (fault_where _ code.EquationTwice (numbered_view d) there ∙ ap Some (sym c.fault_at.ensures)))

pub loop-numbered-preserved : goal.loop-numbered-preserved
loop-numbered-preserved c =
    let xs = c.args.declared.now in
    let d = c.numbered-item.result in
    let i = c.loop-numbered.numbered-index in
    let there = before xs i d (omega arith) c.numbered-item.is c.requires c.loop-numbered.before c.loop-numbered.invariant.1 ∙ is_missing _ _ c.in_ok-add.ensures.new c.if-not-branch.false in (
      none_more (equation_at (map numbered_view xs)) numbered_view xs i d (omega arith) c.numbered-item.is (fault_nowhere _ code.EquationTwice (numbered_view d) there) c.loop-numbered.invariant.0,
      one_equation_more xs i d c.loop-numbered.before c.add.new.self (omega arith) c.numbered-item.is c.loop-numbered.invariant.1 (c.in_ok-add.ensures.added c.if-not-branch.false),
    )

pub returns : goal.returns
returns c = sym (none_at_all (equation_at (map numbered_view c.args.declared.now)) numbered_view c.args.declared.now c.loop-numbered.numbered-index (omega arith) c.loop-numbered.invariant.0)
