use Rattle.std.proofs.Common.{arith, refl, sym, ap, subst, length, take, ◌∙◌, ◌+◌}
use Rattle.std.proofs.lemmas.List.{take_all}
use Rattle.at_typing.specs.AttributeKeys.{AreAttributes}
use Rattle.at_typing.proofs.of_attributes.AttributesFound.{one_noted, still_noted, counted, with_none}
use Rattle.at_typing.proofs.attributes.Attributes.of.Goals as goal
use Rattle.at_typing.proofs.attributes.Attributes.of.Goals.{then-is_attribute+in_ok-note, else-is_attribute}

pub loop-numbered-init : goal.loop-numbered-init
loop-numbered-init c = (record { classes = c.new.ensures; words = c.new-2.ensures; names = c.new-3.ensures }, refl, omega arith)

pub loop-numbered-preserved : goal.loop-numbered-preserved
loop-numbered-preserved c =
    let ds = c.args.declared.now in
    let d = c.numbered-item.result in
    let i = c.loop-numbered.numbered-index in
    elim c.if-is_attribute.branch [
      | then-is_attribute+in_ok-note w ↦
          let test = sym c.is_attribute.ensures ∙ w.if-is_attribute.true in (
            subst (AreAttributes (take (i + 1) ds)) (sym w.attributes-is)
                (one_noted ds i d w.new-then-is_attribute.result c.loop-numbered.attributes w.note.new.self
                (omega arith) c.numbered-item.is test (w.new-then-is_attribute.ensures ∙ c.loop-numbered.invariant.1)
                c.loop-numbered.invariant.0 w.in_ok-note.ensures),
            w.count-is ∙ counted ds i d c.loop-numbered.count (omega arith) c.numbered-item.is test c.loop-numbered.invariant.1,
            omega (arith, w.count-is, c.loop-numbered.invariant.2),
          )
      | else-is_attribute w ↦
          let test = sym c.is_attribute.ensures ∙ w.if-is_attribute.false in (
            subst (AreAttributes (take (i + 1) ds)) (sym w.attributes-is) (still_noted ds i d c.loop-numbered.attributes (omega arith) c.numbered-item.is test c.loop-numbered.invariant.0),
            w.count-is ∙ c.loop-numbered.invariant.1 ∙ sym (ap length (with_none ds i d (omega arith) c.numbered-item.is test)),
            omega (arith, w.count-is, c.loop-numbered.invariant.2),
          )
    ]

pub returns : goal.returns
returns c = subst (λ l. AreAttributes l c.loop-numbered.attributes) (take_all c.loop-numbered.numbered-index c.args.declared.now (omega arith)) c.loop-numbered.invariant.0
