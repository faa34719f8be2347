use Rattle.std.proofs.Common.{List, ◌∷◌, [], arith, ap, ap₂, is_some, map, refl, ◌∙◌}
use Rattle.at_jrag.specs.View.{param_view}
use Rattle.at_jrag.specs.declared.syntax.Param.{Param}
use Rattle.at_typing.specs.Ruling.{as_written, first_unless, words_view, written_kind}
use Rattle.at_typing.proofs.Appending.{next_part, no_part, pushed_part}
use Rattle.at_typing.proofs.written.kinds_of.Goals as goal

pub loop-param-preserved : goal.loop-param-preserved
loop-param-preserved c =
    let p = c.param-item.result in
    let left = λ (ps : List Param). map (λ p. written_kind c.args.classes.now (words_view c.args.words.now) p.kind.kind) (map param_view ps) in
    let kind = written_kind c.args.classes.now (words_view c.args.words.now) (param_view p).kind.kind in
    next_part left left _ _ (kind ∷ []) _ c.args.params.now c.loop-param.param-index p (omega arith) c.param-item.is (λ rest. refl)
    (pushed_part c.loop-param.kinds.items c.push.new.self.items c.as_written.result kind
    c.in_ok-push.ensures.items (c.as_written.ensures ∙ ap₂ as_written
    (c.first_unless-first.ensures ∙ ap (λ b. first_unless b (words_view c.args.words.now) (param_view p).kind.kind)
    (c.is_some.ensures ∙ ap is_some c.known_kind-known.ensures)) c.known_kind-known.ensures)) c.loop-param.invariant

pub returns : goal.returns
returns c =
    let left = λ (ps : List Param). map (λ p. written_kind c.args.classes.now (words_view c.args.words.now) p.kind.kind) (map param_view ps) in
    no_part left c.loop-param.kinds.items _ c.args.params.now c.loop-param.param-index (omega arith) refl c.loop-param.invariant
