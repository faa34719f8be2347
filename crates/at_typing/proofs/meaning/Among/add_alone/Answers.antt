use Rattle.std.proofs.Common.{refl}
use Rattle.std.proofs.lemmas.Result.{err_from_is_err_and}
use Rattle.at_typing.specs.Numbering.{numbered_view}
use Rattle.at_typing.specs.Meanings.{declared_alone}
use Rattle.at_typing.proofs.Adding.{declares_fault, declares_alone}
use Rattle.at_typing.proofs.meaning.Among.add_alone.Goals as goal

pub returns-in_err-declare : goal.returns-in_err-declare
returns-in_err-declare c =
    let p = err_from_is_err_and c.from_residual.result c.from_residual.ensures.1 in
    rw (p.1, p.2) (declares_fault (numbered_view c.args.numbered.now) c.args.numbered.now.name c.args.meant.now c.declare.new.meant declared_alone _ _ c.in_err-declare.ensures.declared)

pub returns : goal.returns
returns c = declares_alone (numbered_view c.args.numbered.now) c.args.numbered.now.name c.args.meant.now
    c.declare.new.meant declared_alone _ _ _ (λ a. refl) c.in_ok-declare.ensures.declared c.in_ok-declare.ensures.own
    c.in_ok-declare.ensures.inherited
