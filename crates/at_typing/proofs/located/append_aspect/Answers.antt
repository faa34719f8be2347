use Rattle.std.proofs.Common.{◌∙◌, ap, arith, map, refl, ◌++◌, ◌∷◌, []}
use Rattle.at_jrag.specs.View.{decl_view}
use Rattle.at_jrag.specs.declared.syntax.Decl.{Decl}
use Rattle.at_typing.specs.Located.{located_view}
use Rattle.at_typing.proofs.Appending.{next_part, viewed_part}
use Rattle.at_typing.proofs.Locating.{at_end, from_items, in_file}
use Rattle.at_typing.proofs.located.append_aspect.Goals as goal

pub returns : goal.returns
returns c =
    let file = c.args.file in
    let items = c.deref-decl-items.result.now in
    at_end (map located_view c.loop-decl.all.items) _ (λ d. in_file file (decl_view d)) items c.loop-decl.decl-index (omega arith) c.loop-decl.invariant
    ∙ ap (λ ds. map located_view c.args.all.now.items ++ ds) (from_items file items ∙ ap (λ ds. map (in_file file) (map decl_view ds)) c.deref-decl-items.ensures.value)

pub loop-decl-preserved : goal.loop-decl-preserved
loop-decl-preserved c =
    let view = λ (d : Decl). in_file c.args.file (decl_view d) in
    let d = c.decl-item.result in
    next_part (map view) (map view) _ _ (view d ∷ []) _ c.deref-decl-items.result.now c.loop-decl.decl-index d (omega arith) c.decl-item.is (λ rest. refl)
    (viewed_part located_view c.loop-decl.all.items c.push.new.self.items _ (view d) c.in_ok-push.ensures.items refl) c.loop-decl.invariant
