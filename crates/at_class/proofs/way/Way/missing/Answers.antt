use Rattle.std.proofs.Common.{◌∙◌, ap, sym, length}
use Rattle.std.proofs.lemmas.List.{length-map}
use Rattle.std.proofs.lemmas.Result.{IfOk-weaker}
use Rattle.at_model.specs.Classes.{chain_within, parent_of}
use Rattle.at_class.specs.View.{class_view, classes_view}
use Rattle.at_class.proofs.Descents.{missing_all, missing_none}
use Rattle.at_class.proofs.way.Way.missing.Goals as goal

pub returns-then-is_above : goal.returns-then-is_above
returns-then-is_above c = λ w either.
    let classes = classes_view c.args.classes.now in
    missing_none classes c.args.self.now.levels.items c.args.self.now.taken (parent_of classes c.args.class) c.new.result.items c.new.ensures.items (sym c.is_above.ensures ∙ c.if-is_above.true) w

pub returns : goal.returns
returns c =
    let xs = c.args.classes.now in
    let classes = classes_view xs in
    IfOk-weaker c.lineage.result _ _ (λ v e w either.
    missing_all classes c.args.self.now.levels.items (parent_of classes c.args.class) v.items
    (e ∙ ap (λ n. chain_within n classes c.parent_of.result) (sym (length-map xs class_view)) ∙ ap (chain_within (length classes) classes) c.parent_of.ensures)
    (sym c.is_above.ensures ∙ c.if-is_above.false) either) c.lineage.ensures
