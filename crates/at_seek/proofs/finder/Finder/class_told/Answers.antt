use Rattle.std.proofs.Common.{◌≡◌, ℕ, Some, subst, sym, true, [], ◌∙◌}
use Rattle.std.specs.List.{slice_get}
use Rattle.at_model.specs.Classes.{is_sub}
use Rattle.at_rules.specs.declared.rules.Attribute.{Attribute}
use Rattle.at_seek.proofs.Found.{call_kind, none_there}
use Rattle.at_seek.proofs.finder.Finder.class_told.Goals as goal

pub returns : goal.returns
returns c = λ rules s e over kind.
    let finder = c.args.self.now in
    let d : (ℕ × ℕ) × Attribute = (c.in-Some.key.now, c.in-Some.declared.now) in
    let entry = subst (λ k. slice_get finder.attributes.now.entries k ≡ Some d) c.index.ensures (sym c.in-Some.ensures.entry) in
    let below = subst (λ b. is_sub finder.classes.now c.args.class b ≡ true) c.new.ensures (sym c.is_sub.ensures ∙ c.if-not-is_sub.false) in
    let none : c.in-Some.declared.now.params.items ≡ [] = none_there c.in-Some.declared.now.params (sym c.is_empty.ensures ∙ c.if-not-is_empty.false) in
    call_kind rules finder s e c.class_in.result c.args.class c.args.attribute d over entry below none c.class_in.ensures kind
