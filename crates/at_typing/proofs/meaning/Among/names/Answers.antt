use Rattle.std.proofs.Common.{List, ◌∷◌, [], arith, map, refl}
use Rattle.at_jrag.specs.View.{param_view}
use Rattle.at_jrag.specs.declared.syntax.Param.{Param}
use Rattle.at_kinds.specs.Typed.{bound_view}
use Rattle.at_typing.specs.Ruling.{bound}
use Rattle.at_typing.proofs.Appending.{next_part, no_part, viewed_part}
use Rattle.at_typing.proofs.meaning.Among.names.Goals as goal

pub loop-param-preserved : goal.loop-param-preserved
loop-param-preserved c =
    let p = c.param-item.result in
    let left = λ (ps : List Param). map (bound c.args.self.now.classes.now) (map param_view ps) in
    let name = bound c.args.self.now.classes.now (param_view p) in
    next_part left left _ _ (name ∷ []) _ c.args.params.now c.loop-param.param-index p (omega arith) c.param-item.is (λ rest. refl)
    (viewed_part bound_view c.loop-param.names.items c.push.new.self.items _ name c.in_ok-push.ensures.items c.in_ok-bound.ensures) c.loop-param.invariant

pub returns : goal.returns
returns c =
    let left = λ (ps : List Param). map (bound c.args.self.now.classes.now) (map param_view ps) in
    no_part left (map bound_view c.loop-param.names.items) _ c.args.params.now c.loop-param.param-index (omega arith) refl c.loop-param.invariant
