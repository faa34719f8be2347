use Rattle.std.proofs.Common.{map, refl}
use Rattle.std.proofs.lemmas.Result.{err_from_is_err_and}
use Rattle.at_kinds.specs.declared.code.RuleCode.TheVariants as code
use Rattle.at_typing.specs.Completing.{fault_of}
use Rattle.at_typing.specs.Numbering.{numbered_view}
use Rattle.at_typing.proofs.Built.{lacks_own, lacks_inherited}
use Rattle.at_typing.proofs.building.refuse_incomplete.Goals as goal

pub returns-in_err-refuse : goal.returns-in_err-refuse
returns-in_err-refuse c =
    let ds = map numbered_view c.args.declared.now in
    let p = err_from_is_err_and c.from_residual-in_err-refuse.result c.from_residual-in_err-refuse.ensures.1 in
    rw (p.1, p.2) (lacks_own c.args.rules.now ds (fault_of code.ClassWithoutEquation ds c.in_ok-own.own) _ (c.in_ok-own.own, c.in_ok-own.ensures, refl) c.in_err-refuse.ensures)

pub returns : goal.returns
returns c =
    let ds = map numbered_view c.args.declared.now in
    lacks_inherited c.args.rules.now ds (fault_of code.ClassWithoutEquation ds c.in_ok-own.own) (fault_of code.InheritedWithoutEquation ds c.in_ok-inherited.inherited) _
    (c.in_ok-own.own, c.in_ok-own.ensures, refl) c.in_ok-refuse.ensures (c.in_ok-inherited.inherited, c.in_ok-inherited.ensures, refl) c.refuse-2.ensures
