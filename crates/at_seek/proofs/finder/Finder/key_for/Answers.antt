use Rattle.std.proofs.Common.{◌≡◌, ℕ, Some, ltb-true, length, refl, subst, sym, true, ◌∙◌}
use Rattle.std.specs.List.{slice_get}
use Rattle.std.proofs.lemmas.Option.{slice_get_read}
use Rattle.at_model.specs.Classes.{is_sub}
use Rattle.at_rules.specs.declared.rules.Attribute.{Attribute}
use Rattle.at_seek.proofs.Found.{key_told}
use Rattle.at_seek.proofs.finder.Finder.key_for.Goals as goal

pub returns-in-Some-get : goal.returns-in-Some-get
returns-in-Some-get c = λ rules over.
    let finder = c.args.self.now in
    let e : (ℕ × ℕ) × Attribute = (c.in-Some.key.now, c.in-Some.field-0-1.now) in
    let entry = subst (λ k. slice_get finder.attributes.now.entries k ≡ Some e) c.index.ensures (sym c.in-Some.ensures.entry) in
    let found = c.in-Some-get.ensures.lookup in
    let below = subst (λ b. is_sub finder.classes.now c.args.element b ≡ true) c.new.ensures (sym c.is_sub.ensures ∙ c.if-not-is_sub.false) in
    let kept = slice_get_read finder.keys.now (length finder.keys.now) c.index-2.result c.in-Some-get.key.now refl (ltb-true c.index-2.result (length finder.keys.now) (sym found.0)) found.1 in
    key_told rules finder c.in-Some-get.key.now c.args.element c.args.attribute e over entry below
    (subst (λ k. slice_get finder.keys.now k ≡ Some c.in-Some-get.key.now) c.index-2.ensures kept)
