use Rattle.std.proofs.Common.{arith, ◌∙◌, ap, subst}
use Rattle.at_model.specs.Classes.{parts}
use Rattle.at_typing.specs.AccessorNames.{AddsNames}
use Rattle.at_typing.proofs.AccessorNaming.{has_more, has_end, has_none}
use Rattle.at_typing.proofs.checks.accessor_names.Accessors.of.Goals as goal

pub loop-class-init : goal.loop-class-init
loop-class-init c = has_none c.args.classes.now _ c.new.ensures c.new-2.ensures c.new-3.ensures

pub loop-class-preserved : goal.loop-class-preserved
loop-class-preserved c =
    let classes = c.args.classes.now in
    has_more classes c.loop-class.class c.loop-class.accessors c.add_all.new.self (omega arith) c.loop-class.invariant
    (subst (λ ps. AddsNames ps c.loop-class.accessors c.add_all.new.self) (c.parts.ensures ∙ ap (parts classes) c.new-in-loop-class.ensures) c.in_ok-add_all.ensures)

pub returns : goal.returns
returns c = has_end c.args.classes.now c.loop-class.class c.loop-class.accessors (omega arith) c.loop-class.invariant
