use Rattle.std.proofs.Common.{◌∙◌, ap}
use Rattle.at_class.specs.Climbs.{is_circular}
use Rattle.at_class.specs.View.{classes_view}
use Rattle.at_class.proofs.circles.Circles.is_above_itself.Goals as goal

pub returns-clause-kept : goal.returns-clause-kept
returns-clause-kept c =
    (c.descend.ensures (classes_view c.args.classes.now) c.args.class (c.go_round.ensures c.args.class c.in_ok-end.ensures)).0

pub returns-clause-told : goal.returns-clause-told
returns-clause-told c =
    let d = c.descend.ensures (classes_view c.args.classes.now) c.args.class (c.go_round.ensures c.args.class c.in_ok-end.ensures) in
    c.is_circular.ensures ∙ ap is_circular c.mark_of.ensures ∙ d.0.0.right c.args.class d.1
