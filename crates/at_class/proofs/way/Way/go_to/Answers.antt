use Rattle.std.proofs.Common.{◌∙◌, ◌++◌, ap, sym, arith}
use Rattle.std.proofs.lemmas.Result.{IfOk-weaker}
use Rattle.at_model.specs.Classes.{parent_of}
use Rattle.at_model.specs.Declarations.{above as above_of}
use Rattle.at_class.specs.View.{classes_view}
use Rattle.at_class.specs.Ways.{on_way}
use Rattle.at_class.proofs.Descents.{missing_less, none_left, one_missing_less, rest_above}
use Rattle.at_class.proofs.way.Way.go_to.Goals as goal

pub loop-above-init : goal.loop-above-init
loop-above-init c =
    let left = c.leave_to.ensures c.requires.0 c.requires.1 in
    (left.0, c.in_ok-missing.ensures left.0 left.1)

pub enter-requires : goal.enter-requires
enter-requires c =
    let classes = classes_view c.args.classes.now in
    let on = on_way c.loop-above.self.levels.items in
    let rest = c.pop.new.self.items in
    let whole = missing_less (above_of classes c.args.class) c.loop-above.missing.items rest on c.in-Some.above c.loop-above.invariant.1 c.in-Some.ensures.items in
    (c.requires.0, c.loop-above.invariant.0, rest_above classes c.requires.0 (parent_of classes c.args.class) rest c.in-Some.above on whole)

pub loop-above-preserved : goal.loop-above-preserved
loop-above-preserved c =
    let classes = classes_view c.args.classes.now in
    let on = on_way c.loop-above.self.levels.items in
    let rest = c.pop.new.self.items in
    let whole = missing_less (above_of classes c.args.class) c.loop-above.missing.items rest on c.in-Some.above c.loop-above.invariant.1 c.in-Some.ensures.items in
    (c.in_ok-enter.ensures.1, whole ∙ ap (λ cs. rest ++ cs) (sym c.in_ok-enter.ensures.2))

pub loop-above-smaller : goal.loop-above-smaller
loop-above-smaller c = one_missing_less c.loop-above.missing.items c.pop.new.self.items c.in-Some.above c.in-Some.ensures.items

pub enter-requires-2 : goal.enter-requires-2
enter-requires-2 c =
    let none = none_left c.loop-above.missing.items (omega (arith, c.in_default.ensures.cases.0, c.loop-above.missing.ok.0)) in
    (c.requires.0, c.loop-above.invariant.0, sym (c.loop-above.invariant.1 ∙ ap (λ ms. ms ++ on_way c.loop-above.self.levels.items) none))

pub returns : goal.returns
returns c = IfOk-weaker c.enter-2.result _ _ (λ f e. (e.0, e.1)) c.enter-2.ensures
