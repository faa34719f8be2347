use Rattle.std.proofs.Common.{◌≡◌, ◌∙◌, ap, refl, arith, subst, length}
use Rattle.at_model.specs.Classes.{parts}
use Rattle.at_class.specs.Table.{AreEntries}
use Rattle.at_class.specs.View.{classes_view}
use Rattle.at_class.proofs.Entries.{entries_more, entries_none}
use Rattle.at_class.proofs.entry.entries_of.Goals as goal

pub loop-position-init : goal.loop-position-init
loop-position-init c = entries_none c.args.classes.now c.in_ok-entries.entries.items c.in_ok-entries.ensures.items

pub loop-position-preserved : goal.loop-position-preserved
loop-position-preserved c =
    let ks = c.args.classes.now in
    entries_more ks c.loop-position.entries.items c.push.new.self.items c.loop-position.position c.index-classes-position.result _ c.loop-position.invariant (omega arith) c.index-classes-position.is
    (record { is_abstract = refl; parent = refl; parts = c.in_ok-parts.ensures ∙ ap (parts (classes_view ks)) c.new.ensures }) c.in_ok-push.ensures.items

pub returns : goal.returns
returns c =
    let n : c.loop-position.position ≡ length c.args.classes.now = omega arith in
    subst (AreEntries c.args.classes.now c.loop-position.entries.items) n c.loop-position.invariant
