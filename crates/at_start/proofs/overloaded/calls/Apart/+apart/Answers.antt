use Rattle.std.proofs.Common.{◌≡◌, ◌∙◌, arith, length}
use Rattle.at_start.specs.Pairs.{overloaded_in}
use Rattle.at_start.proofs.Overloads.{call_apart, call_of_apart}
use Rattle.at_start.proofs.overloaded.calls.Apart.+apart.Goals as goal

pub expr-returns-in_ok-list-in-Call : goal.expr-returns-in_ok-list-in-Call
expr-returns-in_ok-list-in-Call t c =
    let counts : c.len.result ≡ length c.in-Call.es.items = omega (arith, c.len.ensures, c.in-Call.es.ok.0) in
    c.formed-in-Call.ensures
    ∙ call_apart (overloaded_in c.args.self.now.pairs) c.args.expr.now c.in-Call.name c.in_ok-text-in-Call.text c.in-Call.es c.in_ok-list-in-Call.field-0
    c.as_str.result.now c.len.result c.deref.result.now c.in-Call.is c.as_str.ensures.value counts c.in_ok-text-in-Call.ensures
    c.deref.ensures.value c.in_ok-list-in-Call.ensures

pub expr-returns-in_ok-list-in-CallOf : goal.expr-returns-in_ok-list-in-CallOf
expr-returns-in_ok-list-in-CallOf t c =
    let counts : c.len-in-CallOf.result ≡ length c.in-CallOf.es.items = omega (arith, c.len-in-CallOf.ensures, c.in-CallOf.es.ok.0) in
    c.formed-in-CallOf.ensures
    ∙ call_of_apart (overloaded_in c.args.self.now.pairs) c.args.expr.now c.in-CallOf.e c.in_ok-boxed-in-CallOf.field-0 c.in-CallOf.name
    c.in_ok-text-in-CallOf.text c.in-CallOf.es c.in_ok-list-in-CallOf.field-0 c.deref-in-CallOf.result.now c.as_str-in-CallOf.result.now
    c.len-in-CallOf.result c.deref-in-CallOf-2.result.now c.in-CallOf.is c.deref-in-CallOf.ensures c.in_ok-boxed-in-CallOf.ensures
    c.as_str-in-CallOf.ensures.value counts c.in_ok-text-in-CallOf.ensures c.deref-in-CallOf-2.ensures.value c.in_ok-list-in-CallOf.ensures
