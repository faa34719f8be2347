use Rattle.std.proofs.Common.{◌≡◌, ◌∙◌, ◌++◌, ap, sym, reverse, map}
use Rattle.std.proofs.lemmas.List.{length-map}
use Rattle.std.specs.List.{flat_map}
use Rattle.std.specs.Prelude.{Some}
use Rattle.at_model.specs.Classes.{own_of, chain, chain_within}
use Rattle.at_class.specs.View.{class_view, classes_view, part_view}
use Rattle.at_class.proofs.chain.whole_parts.Goals as goal

pub loop-above-init : goal.loop-above-init
unfolding chain
loop-above-init c =
    let xs = c.args.classes.now in
    let classes = classes_view xs in
    let way : chain classes c.args.class ≡ c.in_ok-way.way.items =
    ap (λ n. chain_within n classes (Some c.args.class)) (length-map xs class_view) ∙ sym c.in_ok-way.ensures in
    ap (λ ys. flat_map (own_of classes) (reverse ys)) way
    ∙ ap (λ ps. map part_view ps ++ flat_map (own_of classes) (reverse c.in_ok-way.way.items)) (sym c.new-parts.ensures.items)
