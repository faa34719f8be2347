use Rattle.std.proofs.Common.{◌≡◌, length, true, false, sym, ap, ◌∙◌, rules, ◌++◌, encode_utf8}
use Rattle.at_text.proofs.Fronts.{one_passed, stops_at, stops_at_end}
use Rattle.at_tree.specs.Runs.{takes}
use Rattle.at_tree.proofs.runs.past.Goals as goal

pub loop-c-preserved : goal.loop-c-preserved
loop-c-preserved c =
    let i = c.loop-c.invariant in
    let t : takes c.args.run c.in-Some.c ≡ true = search rules in
    (c.as_str-rest.utf8, one_passed (takes c.args.run) c.in-Some.c _ _ _ (sym i.2 ∙ c.in-Some.ensures.steps.0 ∙ ap (λ l. encode_utf8 c.in-Some.c ++ l) (sym c.as_str-rest.ensures)) t i.1, sym c.as_str-rest.ensures)

pub returns-then-not-takes : goal.returns-then-not-takes
returns-then-not-takes c =
    let i = c.loop-c.invariant in
    let t : takes c.args.run c.in-Some.c ≡ false = search rules in
    (i.1.front, i.1.split, (i.1.each, stops_at (takes c.args.run) c.in-Some.c _ _ (sym i.2 ∙ c.in-Some.ensures.steps.0) t))

pub returns-in_default : goal.returns-in_default
returns-in_default c =
    let i = c.loop-c.invariant in
    let e = rw c.in_default.is at c.next.ensures.steps in
    (i.1.front, i.1.split, (i.1.each, stops_at_end (takes c.args.run) _ (ap length (sym i.2) ∙ e.0.0)))
