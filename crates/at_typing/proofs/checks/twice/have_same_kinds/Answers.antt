use Rattle.std.proofs.Common.{◌∙◌, ap, sym, arith}
use Rattle.at_jrag.specs.View.{param_view, kind_view}
use Rattle.at_jrag.specs.declared.syntax.Param.{Param}
use Rattle.at_typing.specs.Declaring.{is_same_kind}
use Rattle.at_typing.proofs.SameKinds.{other_lengths, same_more, same_end}
use Rattle.at_typing.proofs.checks.twice.have_same_kinds.Goals as goal

pub returns-then-params-others : goal.returns-then-params-others
returns-then-params-others c = other_lengths param_view c.args.params.now c.args.others.now c.if-params-others.true

pub loop-i-preserved : goal.loop-i-preserved
loop-i-preserved c =
    let p = c.index-params-i.result in
    let q = c.index-others-i.result in
    let same = ap (λ (r : Param). is_same_kind (kind_view p.kind.kind) (kind_view r.kind.kind)) c.index-others-i.is ∙ sym c.if-not-is_same_kind.ensures in
    c.loop-i.invariant ∙ same_more param_view c.args.params.now c.args.others.now c.loop-i.i p q (omega arith) (omega arith) c.index-params-i.is c.index-others-i.is same

pub returns : goal.returns
returns c = sym (c.loop-i.invariant ∙ same_end param_view c.args.params.now c.args.others.now c.loop-i.i (omega arith) (omega arith))
