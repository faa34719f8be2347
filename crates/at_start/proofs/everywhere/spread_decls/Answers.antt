use Rattle.std.proofs.Common.{List, ◌∙◌, ap, arith, length, map, refl, sym}
use Rattle.std.specs.List.{flat_map}
use Rattle.std.specs.Vec.Iter.{into_iter_items}
use Rattle.at_jrag.specs.View.{decl_view}
use Rattle.at_jrag.specs.declared.syntax.Decl.{Decl}
use Rattle.at_start.specs.Spreading.{spread_as}
use Rattle.at_start.proofs.Rereading.{next_given, none_given}
use Rattle.at_start.proofs.everywhere.spread_decls.Goals as goal

pub loop-decl-preserved : goal.loop-decl-preserved
loop-decl-preserved c =
    let classes = c.args.classes.now in
    let attributes = c.args.own.now.attributes.items in
    let equations = c.args.own.now.equations.items in
    let at = c.loop-decl in
    let d = c.in-Some.decl in
    let steps = c.in-Some.ensures.steps in
    let left = λ (ds : List Decl). flat_map (spread_as classes attributes equations) (map decl_view ds) in (
      next_given left (map decl_view at.all.items) _ (spread_as classes attributes equations (decl_view d)) _ (into_iter_items
          at.decl-iterator) _ d steps.0
          (λ xs. refl) c.in_ok-spread_decl.ensures at.invariant.0,
      omega (arith, at.invariant.1, steps.1, ap length steps.0),
    )

pub returns : goal.returns
returns c =
    let at = c.loop-decl in
    let left = λ (ds : List Decl). flat_map (spread_as c.args.classes.now c.args.own.now.attributes.items
    c.args.own.now.equations.items) (map decl_view ds) in
    none_given left (map decl_view at.all.items) _ (into_iter_items at.decl-iterator) (sym at.invariant.1
    ∙ c.in-None.ensures.steps.0) refl at.invariant.0
    ∙ ap left c.into_iter-decl-iterator.ensures.into_iter_gives.0
