use Rattle.std.proofs.Common.{sym, ◌∙◌, arith}
use Rattle.std.specs.List.{list_any}
use Rattle.std.proofs.lemmas.Option.{slice_get_within}
use Rattle.at_rules.specs.Bodies.{is_numeric}
use Rattle.at_rules.proofs.Numeric.{any_at, no_any}
use Rattle.at_rules.proofs.rules.have_numbers.Goals as goal

pub returns-in-loop-position : goal.returns-in-loop-position
returns-in-loop-position c = sym (any_at (λ e. list_any is_numeric e.1.params.items) c.args.attributes.now.entries c.loop-position.position
    (c.in-Some.field-0-0.now, c.in-Some.attribute.now) (sym c.in-Some.ensures.entry) (sym c.has_numbers.ensures ∙ c.if-has_numbers.true))

pub returns : goal.returns
returns c = sym (no_any (λ e. list_any is_numeric e.1.params.items) c.args.attributes.now.entries
    (λ i e at. c.loop-position.invariant i e (omega (
      arith,
      slice_get_within c.args.attributes.now.entries i e at,
      c.loop-position-test.false,
      c.len-position-end.ensures.len,
    )) at))
