use Rattle.std.proofs.Common.{arith, ap, ◌∙◌, map, take_all}
use Rattle.at_typing.specs.Located.{located_view}
use Rattle.at_typing.specs.Numbering.{numbered_view, HasNumbers}
use Rattle.at_typing.proofs.WordNumbers.{kept, both_more, all_more}
use Rattle.at_typing.proofs.numbered.Words.all_numbered.Goals as goal

pub loop-located-preserved : goal.loop-located-preserved
loop-located-preserved c =
    let old = c.loop-located.items.items in
    let d = c.in_ok-numbered.field-0 in
    let keeps = c.in_ok-numbered.ensures.keeps in
    let new = c.numbered.new.self in (
      both_more numbered_view located_view old c.push.new.self.items c.args.all.now c.loop-located.located-index d
          c.located-item.result c.in_ok-push.ensures.items (omega arith) c.located-item.is c.in_ok-numbered.ensures.view
          c.loop-located.invariant.0,
      all_more (HasNumbers c.args.classes.now new.unknown.keys new.names.keys) old c.push.new.self.items d c.in_ok-push.ensures.items
          (λ k e less. kept c.args.classes.now c.loop-located.self.unknown.keys new.unknown.keys
          c.loop-located.self.names.keys new.names.keys _ keeps.0 keeps.1 (c.loop-located.invariant.1 k e less))
          c.in_ok-numbered.ensures.numbers,
    )

pub returns-clause-view : goal.returns-clause-view
returns-clause-view c = c.loop-located.invariant.0 ∙ ap (map located_view) (take_all c.loop-located.located-index c.args.all.now (omega arith))
