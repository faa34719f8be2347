use Rattle.std.proofs.Common.{◌≡◌, ◌∙◌, ap, sym, subst, map, length, arith, Some}
use Rattle.std.proofs.lemmas.List.{length-map}
use Rattle.at_kinds.specs.Signatures.{declared_view, IsIndexed}
use Rattle.at_kinds.proofs.Signing.{declared_nowhere, declared_more, named_more, none_more, pushed}
use Rattle.at_rules.specs.Names.{number_in}
use Rattle.at_kinds.proofs.signatures.Signatures.push.Goals as goal

pub invariant_of-self : goal.invariant_of-self
invariant_of-self c = named_more c.self.inside.names.keys c.number_for.new.names.keys c.number_for.ensures.keeps c.self.inside.first (map declared_view c.self.inside.items.items) c.self.invariant

pub invariant_of-self-in_err-reserve : goal.invariant_of-self-in_err-reserve
invariant_of-self-in_err-reserve c =
    let names = c.number_for.new.names.keys in
    let first = c.self.inside.first in
    subst (λ items. IsIndexed names first (map declared_view items)) (sym c.in_err-reserve.ensures.items)
    (named_more c.self.inside.names.keys names c.number_for.ensures.keeps first (map declared_view c.self.inside.items.items) c.self.invariant)

pub invariant_of-self-in_err-note : goal.invariant_of-self-in_err-note
invariant_of-self-in_err-note c =
    let names = c.number_for.new.names.keys in
    let first = c.self.inside.first in
    subst (λ items. IsIndexed names c.note.new.self (map declared_view items)) (sym c.in_ok-reserve.ensures.items)
    (none_more names (map declared_view c.self.inside.items.items) first c.note.new.self c.in_err-note.ensures.err
    (named_more c.self.inside.names.keys names c.number_for.ensures.keeps first (map declared_view c.self.inside.items.items) c.self.invariant))

pub invariant_of-self-in_default : goal.invariant_of-self-in_default
invariant_of-self-in_default c =
    let items = c.self.inside.items.items in
    let first = c.self.inside.first in
    let ds = map declared_view items in
    let names = c.number_for.new.names.keys in
    let number = ap (number_in names) (sym c.as_str.ensures.value) ∙ c.in_ok-number.ensures.number in
    subst (IsIndexed names first) (pushed items c.reserve.new.self.items c.push.new.self.items c.args.signature c.in_ok-push.ensures.items c.in_ok-reserve.ensures.items)
    (declared_nowhere names ds (declared_view c.args.signature) c.in_ok-number.number number first (named_more
    c.self.inside.names.keys names c.number_for.ensures.keeps first ds c.self.invariant) c.in_default.is)

pub invariant_of-self-2 : goal.invariant_of-self-2
invariant_of-self-2 c =
    let items = c.self.inside.items.items in
    let first = c.self.inside.first in
    let ds = map declared_view items in
    let names = c.number_for.new.names.keys in
    let number = ap (number_in names) (sym c.as_str.ensures.value) ∙ c.in_ok-number.ensures.number in
    let which : c.new-attribute.result ≡ length items = omega (arith, c.new-attribute.ensures, c.len.ensures, c.self.inside.items.ok.0) in
    subst (IsIndexed names c.note.new.self) (pushed items c.reserve.new.self.items c.push-2.new.self.items c.args.signature c.in_ok-push-2.ensures.items c.in_ok-reserve.ensures.items)
    (declared_more names ds (declared_view c.args.signature) c.in_ok-number.number number c.index.result c.new-attribute.result first c.note.new.self
    (named_more c.self.inside.names.keys names c.number_for.ensures.keeps first ds c.self.invariant) (c.in-Some.is
    ∙ ap Some (sym c.index.ensures)) (which ∙ sym (length-map items declared_view)) c.in_ok-note.ensures.noted)
