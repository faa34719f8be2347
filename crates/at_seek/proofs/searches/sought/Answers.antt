use Rattle.std.proofs.Common.{◌≡◌, length, map, nat_lt, subst, sym, ◌∙◌}
use Rattle.at_model.specs.Rules.{InheritedEquation, OwnEquation}
use Rattle.at_rules.specs.RulesView.{inherited_view, own_view, text_of}
use Rattle.at_seek.specs.Finding.{AreKeys, IsOver}
use Rattle.at_seek.specs.Sought.{EachBy, IsInheritedSought, IsOwnSought}
use Rattle.at_seek.proofs.Entries.{each_passing, each_seen}
use Rattle.at_seek.proofs.EquationsKept.{well_formed}
use Rattle.at_seek.proofs.Scopes.{declared_of, named_of}
use Rattle.at_seek.proofs.searches.sought.Goals as goal

pub returns-clause-sought : goal.returns-clause-sought
returns-clause-sought c =
    let rules = c.args.rules in
    let was = c.into_parts-classes.ensures in
    let names = c.into_parts-classes.result.1.keys in
    let old = c.into_parts-classes.result.2 in
    let over : IsOver rules _ = record {
      classes = was.classes;
      hierarchy = c.requires.hierarchy;
      attributes = declared_of rules names old.attributes.entries was.attributes;
      keys = subst (AreKeys rules) (sym c.as_slice.ensures.value) c.keys_of-keys.ensures;
    } in
    let own = each_seen own_view (IsOwnSought rules) old.own.entries c.turn_own.new.own.entries (c.turn_own.ensures rules over) in
    let below = each_passing (λ k. nat_lt k.2 (length names)) (inherited_view names) (IsInheritedSought rules) old.inherited.entries
    c.turn_inherited.new.inherited.entries
    (c.turn_inherited.ensures rules (text_of names) over c.requires.typed.alike (named_of rules names old.attributes.entries was.attributes)) in
    record {
      classes = c.new.ensures.classes ∙ was.classes;
      attributes = c.new.ensures.attributes ∙ was.attributes;
      own = subst (λ xs. EachBy (IsOwnSought rules) xs c.new.result.own) was.own (subst (EachBy (IsOwnSought rules) (map own_view old.own.entries)) (sym c.new.ensures.own) own);
      inherited = subst (λ xs. EachBy (IsInheritedSought rules) xs c.new.result.inherited) was.inherited (subst (EachBy (IsInheritedSought rules) _) (sym c.new.ensures.inherited) below);
    }

pub returns-clause-well_formed : goal.returns-clause-well_formed
returns-clause-well_formed c = well_formed c.args.rules c.new.result (returns-clause-sought c) c.requires
