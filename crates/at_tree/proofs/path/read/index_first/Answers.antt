use Rattle.std.proofs.Common.{refl, rules}
use Rattle.std.specs.Prelude.{IsUtf8}
use Rattle.at_tree.proofs.PathRuns.{leads_digit, leads_more}
use Rattle.at_tree.proofs.path.read.index_first.Goals as goal

pub loop-value-init : goal.loop-value-init
loop-value-init c =
    let digit = c.in_ok-value.ensures in
    let text : IsUtf8 c.in_ok-value.rest.now = search rules in
    (text, λ ss part. leads_digit ss part c.args.text.now c.in_ok-value.rest.now c.in_ok-value.value digit.0 digit.1)

pub loop-value-preserved : goal.loop-value-preserved
loop-value-preserved c =
    let digit = c.in-Some.ensures in
    let text : IsUtf8 c.in-Some.behind.now = search rules in (
      text,
      λ ss part. leads_more ss part c.args.text.now c.loop-value.rest.now c.in-Some.behind.now c.loop-value.value c.in-Some.digit _ (c.loop-value.invariant.1 ss part) digit.1 digit.0
          c.loop-value-test.true c.if-value-lt100000000.true refl,
    )
