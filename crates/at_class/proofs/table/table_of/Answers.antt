use Rattle.std.proofs.Common.{◌∙◌, ap, length, map, subst, sym}
use Rattle.std.proofs.lemmas.Bool.{eqb-true}
use Rattle.std.proofs.lemmas.List.{length-map}
use Rattle.at_model.specs.Declarations.{classes_of}
use Rattle.at_model.specs.WellFormed.{IsHierarchy}
use Rattle.at_model.proofs.LedUp.{led}
use Rattle.at_class.specs.View.{classes_view}
use Rattle.at_class.specs.Grammar.{declarations_view}
use Rattle.at_class.specs.Intervals.{AreIntervals}
use Rattle.at_class.specs.Ways.{AreLed}
use Rattle.at_class.specs.Fixing.{fixed_as, fixed_view}
use Rattle.at_class.proofs.FixedParts.{none_given, not_off}
use Rattle.at_class.proofs.Named.{classes-declared}
use Rattle.at_class.proofs.Order.{no_fault}
use Rattle.at_class.proofs.Sound.{classes_sound, view_texts}
use Rattle.at_class.proofs.Whole.{longer, is_table, made, table_of_classes}
use Rattle.at_class.proofs.table.table_of.Goals as goal

pub refuse_classes-requires-clause-known : goal.refuse_classes-requires-clause-known
refuse_classes-requires-clause-known c = c.in_ok-names.ensures.known.1

pub refuse_classes-requires-clause-sound : goal.refuse_classes-requires-clause-sound
refuse_classes-requires-clause-sound c =
    let xs = c.args.declarations.now in
    let k = c.in_ok-names.ensures.known.1 in
    classes_sound (declarations_view xs) (longer xs k.some) c.requires (view_texts xs) k.once

pub refuse_classes-requires-clause-declared : goal.refuse_classes-requires-clause-declared
refuse_classes-requires-clause-declared c =
    let ks = c.in_ok-classes.classes.items in
    ap classes_view c.deref.ensures.value ∙ classes-declared c.in_ok-names.names.keys c.args.declarations.now (classes_view ks) c.in_ok-names.ensures.known.0 c.in_ok-classes.ensures

pub entries_of-requires : goal.entries_of-requires
entries_of-requires c =
    let xs = c.args.declarations.now in
    let fs = map fixed_view c.args.fixed.now in
    let k = c.in_ok-names.ensures.known.1 in
    let r = c.in_ok-refuse_classes.ensures.regular in
    let m = made xs fs c.requires k.some k.once r.circle r.twice c.in_ok-classes-2.ensures.tokens in
    let e = c.in_ok-classes-2.ensures.fixed ∙ ap (fixed_as fs) (classes-declared c.in_ok-names.names.keys xs (classes_view c.in_ok-classes.classes.items) c.in_ok-names.ensures.known.0 c.in_ok-classes.ensures) in
    subst AreLed (sym (ap classes_view c.deref-2.ensures.value ∙ e)) (led (fixed_as fs (classes_of (declarations_view xs))) m.hierarchy m.sound.some)

pub intervals_of-requires : goal.intervals_of-requires
intervals_of-requires c =
    let xs = c.args.declarations.now in
    let fs = map fixed_view c.args.fixed.now in
    let k = c.in_ok-names.ensures.known.1 in
    let r = c.in_ok-refuse_classes.ensures.regular in
    let m = made xs fs c.requires k.some k.once r.circle r.twice c.in_ok-classes-2.ensures.tokens in
    let e = ap classes_view c.deref-3.ensures.value ∙ c.in_ok-classes-2.ensures.fixed
    ∙ ap (fixed_as fs) (classes-declared c.in_ok-names.names.keys xs (classes_view c.in_ok-classes.classes.items) c.in_ok-names.ensures.known.0 c.in_ok-classes.ensures) in
    (subst IsHierarchy (sym e) m.hierarchy, subst AreLed (sym e) (led (fixed_as fs (classes_of (declarations_view xs))) m.hierarchy m.sound.some))

pub invariant_of-result : goal.invariant_of-result
invariant_of-result c =
    let xs = c.args.declarations.now in
    let fs = map fixed_view c.args.fixed.now in
    let names = c.in_ok-names.ensures.known in
    let r = c.in_ok-refuse_classes.ensures.regular in
    let m = made xs fs c.requires names.1.some names.1.once r.circle r.twice c.in_ok-classes-2.ensures.tokens in
    let e = c.in_ok-classes-2.ensures.fixed ∙ ap (fixed_as fs) (classes-declared c.in_ok-names.names.keys xs (classes_view c.in_ok-classes.classes.items) names.0 c.in_ok-classes.ensures) in
    is_table c.in_ok-names.names.keys c.in_ok-classes-2.classes.items c.deref-2.result.now c.in_ok-entries.entries.items
    c.in_ok-intervals.intervals.items c.new.result (fixed_as fs (classes_of (declarations_view xs))) c.new.ensures (names.0 ∙ m.named) e c.deref-2.ensures.value
    c.in_ok-entries.ensures m.sound m.hierarchy m.apart
    (subst (λ lent. AreIntervals (classes_view lent) c.in_ok-intervals.intervals.items) (c.deref-3.ensures.value ∙ sym c.deref-2.ensures.value) c.in_ok-intervals.ensures)
    _ (λ off. none_given (declarations_view xs) fs
    (length-map c.args.fixed.now fixed_view ∙ eqb-true (length c.args.fixed.now) 0 (sym c.is_empty.ensures ∙ not_off c.is_empty.result off)))

pub returns-clause-faultless : goal.returns-clause-faultless
returns-clause-faultless c =
    let k = c.in_ok-names.ensures.known.1 in
    let r = c.in_ok-refuse_classes.ensures.regular in
    no_fault (declarations_view c.args.declarations.now) k.some k.once k.known r.circle r.kind r.twice r.limit

pub returns-clause-built : goal.returns-clause-built
returns-clause-built c =
    let xs = c.args.declarations.now in
    let fs = map fixed_view c.args.fixed.now in
    let names = c.in_ok-names.ensures.known in
    let r = c.in_ok-refuse_classes.ensures.regular in
    let m = made xs fs c.requires names.1.some names.1.once r.circle r.twice c.in_ok-classes-2.ensures.tokens in
    let e = c.in_ok-classes-2.ensures.fixed ∙ ap (fixed_as fs) (classes-declared c.in_ok-names.names.keys xs (classes_view c.in_ok-classes.classes.items) names.0 c.in_ok-classes.ensures) in
    table_of_classes c.in_ok-names.names.keys c.in_ok-classes-2.classes.items c.deref-2.result.now c.in_ok-entries.entries.items
    (fixed_as fs (classes_of (declarations_view xs))) (names.0 ∙ m.named) e c.deref-2.ensures.value c.in_ok-entries.ensures m.sound m.hierarchy

pub returns-clause-hierarchy : goal.returns-clause-hierarchy
returns-clause-hierarchy c =
    let xs = c.args.declarations.now in
    let fs = map fixed_view c.args.fixed.now in
    let k = c.in_ok-names.ensures.known.1 in
    let r = c.in_ok-refuse_classes.ensures.regular in
    let m = made xs fs c.requires k.some k.once r.circle r.twice c.in_ok-classes-2.ensures.tokens in
    subst IsHierarchy (sym (returns-clause-built c)) m.hierarchy
