use Rattle.std.proofs.Common.{arith, refl, sym, ap, length, ◌∙◌}
use Rattle.at_typing.proofs.of_attributes.AttributesDeclared.{declared_here, declared_nowhere}
use Rattle.at_typing.proofs.of_attributes.AttributesFound.{counted, with_none}
use Rattle.at_typing.proofs.checks.completeness.declaration_of.Goals as goal

pub loop-numbered-init : goal.loop-numbered-init
loop-numbered-init c = (refl, omega arith, omega arith)

pub loop-numbered-preserved-then-not-is_attribute : goal.loop-numbered-preserved-then-not-is_attribute
loop-numbered-preserved-then-not-is_attribute c =
    let ds = c.args.declared.now in
    let test = sym c.is_attribute.ensures ∙ c.if-not-is_attribute.true in (
      c.loop-numbered.invariant.0 ∙ sym (ap length (with_none ds c.loop-numbered.numbered-index c.numbered-item.result (omega arith) c.numbered-item.is test)),
      omega (arith, c.loop-numbered.invariant.1),
      c.loop-numbered.invariant.2,
    )

pub loop-numbered-preserved : goal.loop-numbered-preserved
loop-numbered-preserved c =
    let ds = c.args.declared.now in
    let d = c.numbered-item.result in
    let i = c.loop-numbered.numbered-index in
    let n = c.loop-numbered.position in
    let test = sym c.is_attribute.ensures ∙ c.if-not-is_attribute.false in (
      counted ds i d n (omega arith) c.numbered-item.is test c.loop-numbered.invariant.0,
      omega (arith, c.loop-numbered.invariant.1),
      omega (arith, c.loop-numbered.invariant.2, c.if-position-index.false, c.index.ensures),
    )

pub returns-then-position-index : goal.returns-then-position-index
returns-then-position-index c =
    let ds = c.args.declared.now in
    let test = sym c.is_attribute.ensures ∙ c.if-not-is_attribute.false in
    declared_here ds c.loop-numbered.numbered-index c.numbered-item.result c.loop-numbered.position c.args.attribute
    (omega arith) c.numbered-item.is test c.loop-numbered.invariant.0
    (omega (arith, c.if-position-index.true, c.index.ensures))

pub returns : goal.returns
returns c = declared_nowhere c.args.declared.now c.loop-numbered.numbered-index c.loop-numbered.position c.args.attribute (omega arith) c.loop-numbered.invariant.0 c.loop-numbered.invariant.2
