use Rattle.std.proofs.Common.{List, [], ◌∷◌, arith, map, refl}
use Rattle.at_jrag.specs.View.{expr_view, param_view}
use Rattle.at_jrag.specs.declared.syntax.Param.{Param}
use Rattle.at_start.specs.NullCalls.{literal_for}
use Rattle.at_start.proofs.Rereading.{next_part, no_part, viewed_part}
use Rattle.at_start.proofs.null_calls.literals.Goals as goal

pub loop-param-preserved : goal.loop-param-preserved
loop-param-preserved c =
    let left = λ (ps : List Param). map literal_for (map param_view ps) in
    let p = c.param-item.result in
    next_part left left _ _ (literal_for (param_view p) ∷ []) _ c.args.params.now c.loop-param.param-index p (omega arith) c.param-item.is
    (λ rest. refl) (viewed_part expr_view c.loop-param.all.items _ _ _ c.in_ok-push.ensures.items c.literal_for.ensures)
    c.loop-param.invariant

pub returns : goal.returns
returns c =
    no_part (λ (ps : List Param). map literal_for (map param_view ps)) _ _ c.args.params.now c.loop-param.param-index (omega arith) refl
    c.loop-param.invariant
