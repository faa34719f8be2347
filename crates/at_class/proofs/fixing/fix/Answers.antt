use Rattle.std.proofs.Common.{ap, refl, sym, subst, ◌∙◌, ◌<◌}
use Rattle.at_class.specs.View.{class_view}
use Rattle.at_class.specs.TreeView.{cell_view}
use Rattle.at_class.specs.Fixing.{with_part}
use Rattle.at_class.specs.View.{classes_view}
use Rattle.at_model.specs.Edits.{changed_at}
use Rattle.at_class.proofs.FixedParts.{set_changed, past_all_changed}
use Rattle.at_class.proofs.fixing.fix.Goals as goal

pub returns-in-Some : goal.returns-in-Some
returns-in-Some c =
    let ks = c.args.classes.now.items in
    let g = with_part c.args.part (cell_view c.args.cell) in
    set_changed class_view g ks c.index.result c.in-Some.class.now c.fix_part.new.class (subst (λ n. c.index.result < n) c.args.classes.now.ok.0 (c.in-Some.ensures.variant.0 refl)) (sym c.in-Some.ensures.value) c.fix_part.ensures
    ∙ ap (changed_at g (classes_view ks)) c.index.ensures

pub returns-in_default : goal.returns-in_default
returns-in_default c =
    let ks = c.args.classes.now.items in
    let g = with_part c.args.part (cell_view c.args.cell) in
    sym (past_all_changed class_view g ks c.index.result (λ less. c.in_default.ensures.variant.1 (subst (λ n. c.index.result < n) (sym c.args.classes.now.ok.0) less))) ∙ ap (changed_at g (classes_view ks)) c.index.ensures
