use Rattle.std.proofs.Common.{◌∙◌, ◌++◌, ap, sym}
use Rattle.std.specs.Prelude.{codes}
use Rattle.at_class.specs.Taken.{has_key}
use Rattle.at_class.specs.View.{part_view}
use Rattle.at_class.proofs.Taking.{by_name, by_accessor, by_nothing, by_own}
use Rattle.at_class.proofs.taken.TakenNames.has_clash.Goals as goal

pub returns-then-has : goal.returns-then-has
returns-then-has c = λ before k.
    let t = c.args.self.now in
    sym (by_name (part_view c.args.part.now) before t k (ap (has_key t.names.keys) (sym c.as_str-name.ensures.value) ∙ sym c.has.ensures ∙ c.if-has.true))

pub returns-then-has-2 : goal.returns-then-has-2
returns-then-has-2 c = λ before k.
    let t = c.args.self.now in
    sym (by_accessor (part_view c.args.part.now) before t k (ap (has_key t.accessors.keys) (sym c.as_str-name.ensures.value) ∙ sym c.has-2.ensures ∙ c.if-has-2.true))

pub returns-then-not-is_list : goal.returns-then-not-is_list
returns-then-not-is_list c = λ before k.
    let t = c.args.self.now in
    sym (by_nothing (part_view c.args.part.now) before t k
    (ap (has_key t.names.keys) (sym c.as_str-name.ensures.value) ∙ sym c.has.ensures ∙ c.if-has.false)
    (ap (has_key t.accessors.keys) (sym c.as_str-name.ensures.value) ∙ sym c.has-2.ensures ∙ c.if-has-2.false)
    (sym c.is_list.ensures ∙ c.if-not-is_list.true))

pub returns : goal.returns
returns c = λ before k.
    let t = c.args.self.now in
    c.has_either.ensures
    ∙ by_own (part_view c.args.part.now) before t c.as_str.result.now c.as_str-2.result.now k
    (ap (has_key t.names.keys) (sym c.as_str-name.ensures.value) ∙ sym c.has.ensures ∙ c.if-has.false)
    (ap (has_key t.accessors.keys) (sym c.as_str-name.ensures.value) ∙ sym c.has-2.ensures ∙ c.if-has-2.false)
    (sym c.is_list.ensures ∙ c.if-not-is_list.false)
    (c.as_str.ensures.value ∙ c.in_ok-count.ensures ∙ ap (λ s. codes "Num" ++ s) c.as_str-name.ensures.value)
    (c.as_str-2.ensures.value ∙ c.in_ok-list.ensures ∙ ap (λ s. s ++ codes "List") c.as_str-name.ensures.value)
