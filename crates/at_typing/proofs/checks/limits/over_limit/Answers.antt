use Rattle.std.proofs.Common.{arith, refl, sym, ap, ◌∙◌, map, length, take}
use Rattle.std.specs.Prelude.{true, false}
use Rattle.at_typing.specs.Declaring.{attributes, limit_at, max_attributes}
use Rattle.at_typing.specs.Numbering.{numbered_view, limit_of}
use Rattle.at_typing.proofs.of_attributes.AttributesCounted.{is_full, room, attributes_more}
use Rattle.at_typing.proofs.checks.limits.over_limit.Goals as goal
use Rattle.at_typing.proofs.checks.limits.over_limit.Goals.{then-is_attribute, else-is_attribute}
use Rattle.at_class.proofs.Firsts.{none_more, first_here, none_at_all}

pub loop-numbered-init : goal.loop-numbered-init
unfolding max_attributes
loop-numbered-init c = (refl, refl)

pub returns-in-Some : goal.returns-in-Some
returns-in-Some c =
    let xs = c.args.declared.now in
    let d = c.numbered-item.result in
    let i = c.loop-numbered.numbered-index in
    let here = ap (λ b. limit_of b (numbered_view d)) (is_full c.loop-numbered.left
    (length (attributes (take i (map numbered_view xs)))) max_attributes c.loop-numbered.invariant.1)
    ∙ sym c.limit_of.ensures ∙ c.in-Some.is in
    sym (first_here (limit_at (map numbered_view xs)) numbered_view xs i d _ (omega arith) c.numbered-item.is c.loop-numbered.invariant.0 here)

pub loop-numbered-preserved : goal.loop-numbered-preserved
loop-numbered-preserved c =
    let xs = c.args.declared.now in
    let d = c.numbered-item.result in
    let i = c.loop-numbered.numbered-index in
    let left = c.loop-numbered.left in
    let none = sym c.limit_of.ensures ∙ c.in_default.is in
    let here = ap (λ b. limit_of b (numbered_view d)) (is_full left (length (attributes (take i (map numbered_view xs)))) max_attributes c.loop-numbered.invariant.1) ∙ none in (
      none_more (limit_at (map numbered_view xs)) numbered_view xs i d (omega arith) c.numbered-item.is here c.loop-numbered.invariant.0,
      elim c.if-is_attribute.branch [
        | then-is_attribute w ↦
            let test = sym c.is_attribute.ensures ∙ w.if-is_attribute.true in
            omega (arith, w.left-is, c.loop-numbered.invariant.1, room left (numbered_view d) test none, attributes_more numbered_view xs i d (omega arith) c.numbered-item.is true test)
        | else-is_attribute w ↦
            let test = sym c.is_attribute.ensures ∙ w.if-is_attribute.false in
            omega (arith, w.left-is, c.loop-numbered.invariant.1, attributes_more numbered_view xs i d (omega arith) c.numbered-item.is false test)
      ],
    )

pub returns : goal.returns
returns c = sym (none_at_all (limit_at (map numbered_view c.args.declared.now)) numbered_view c.args.declared.now c.loop-numbered.numbered-index (omega arith) c.loop-numbered.invariant.0)
