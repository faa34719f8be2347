use Rattle.std.proofs.Common.{◌∙◌, ap, refl, sym, arith, Some}
use Rattle.at_kinds.specs.declared.code.RuleCode.TheVariants as code
use Rattle.at_typing.specs.Declaring.{accessor_at}
use Rattle.at_typing.specs.Numbering.{numbered_view}
use Rattle.at_typing.proofs.FirstFaults.{fault_where, fault_nowhere}
use Rattle.at_typing.proofs.checks.accessor_names.Accessors.first_named.Goals as goal
use Rattle.at_class.proofs.Firsts.{none_more, first_here, none_at_all}

pub loop-numbered-init : goal.loop-numbered-init
loop-numbered-init c classes names = refl

pub returns-then-have_name_of : goal.returns-then-have_name_of
returns-then-have_name_of c classes names =
    let d = c.numbered-item.result in
    let is = sym (c.have_name_of.ensures classes names) ∙ c.if-have_name_of.true in
    sym (first_here (accessor_at classes) numbered_view c.args.declared.now c.loop-numbered.numbered-index d
    c.fault_at.result (omega arith) c.numbered-item.is (c.loop-numbered.invariant classes names)
    (fault_where _ code.NameOfAccessor (numbered_view d) is ∙ ap Some (sym c.fault_at.ensures)))

pub loop-numbered-preserved : goal.loop-numbered-preserved
loop-numbered-preserved c classes names =
    let d = c.numbered-item.result in
    let is = sym (c.have_name_of.ensures classes names) ∙ c.if-have_name_of.false in
    none_more (accessor_at classes) numbered_view c.args.declared.now c.loop-numbered.numbered-index d (omega arith)
    c.numbered-item.is (fault_nowhere _ code.NameOfAccessor (numbered_view d) is)
    (c.loop-numbered.invariant classes names)

pub returns : goal.returns
returns c classes names = sym (none_at_all (accessor_at classes) numbered_view c.args.declared.now c.loop-numbered.numbered-index (omega arith) (c.loop-numbered.invariant classes names))
