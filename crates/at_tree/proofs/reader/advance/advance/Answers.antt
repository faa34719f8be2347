use Rattle.std.proofs.Common.{◌≡◌, ◌++◌, ap, sym, ◌∙◌, encode_utf8}
use Rattle.std.proofs.lemmas.Result.{IfOk-weaker}
use Rattle.at_tree.specs.Partial.{step}
use Rattle.at_tree.specs.Seen.{partial_view}
use Rattle.at_tree.proofs.Passing.{takes_more}
use Rattle.at_tree.proofs.reader.advance.advance.Goals as goal

pub returns-clause-taken : goal.returns-clause-taken
returns-clause-taken c =
    let split : c.args.text.now ≡ encode_utf8 c.in-Some.c ++ c.as_str-rest.result.now =
    sym c.chars-chars.ensures.rest ∙ c.in-Some.ensures.steps.0 ∙ ap (λ l. encode_utf8 c.in-Some.c ++ l) (sym c.as_str-rest.ensures) in
    IfOk-weaker c.run_on.result _ _
    (λ r h. takes_more step (partial_view c.args.partial) (partial_view c.in_ok-next.next) (partial_view r.0) c.in-Some.c h.0 c.args.text.now c.as_str-rest.result.now r.1.now c.in_ok-next.ensures split h.1 h.2)
    c.run_on.ensures.leads
