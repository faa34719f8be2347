use Rattle.at_jrag.specs.View.{expr_view}
use Rattle.at_java.specs.Found.{names_of}
use Rattle.at_java.specs.Naming.{named}
use Rattle.std.proofs.Common.{sym, ◌∙◌}
use Rattle.at_java.proofs.Copied.{call_copied, call_of_copied, plain_of, stands_for}
use Rattle.at_java.proofs.rewriting.copying.Copies.+copies.Goals as goal

pub expr-returns-in_ok-list-in-Call : goal.expr-returns-in_ok-list-in-Call
expr-returns-in_ok-list-in-Call t c =
    c.formed-in-Call.ensures ∙ call_copied (names_of c.args.self.now.found) c.args.expr.now c.in-Call.name c.in_ok-text-in-Call.field-0 c.in-Call.es c.in_ok-list-in-Call.field-0
    c.deref.result.now c.in-Call.is c.in_ok-text-in-Call.ensures c.deref.ensures.value c.in_ok-list-in-Call.ensures

pub expr-returns-in_ok-list-in-CallOf : goal.expr-returns-in_ok-list-in-CallOf
expr-returns-in_ok-list-in-CallOf t c =
    c.formed-in-CallOf.ensures ∙ call_of_copied (names_of c.args.self.now.found) c.args.expr.now c.in-CallOf.e c.in_ok-boxed-in-CallOf.field-0 c.in-CallOf.name c.in_ok-text-in-CallOf.field-0
    c.in-CallOf.es c.in_ok-list-in-CallOf.field-0 c.deref-in-CallOf.result.now c.deref-in-CallOf-2.result.now c.in-CallOf.is c.deref-in-CallOf.ensures
    c.in_ok-boxed-in-CallOf.ensures c.in_ok-text-in-CallOf.ensures c.deref-in-CallOf-2.ensures.value c.in_ok-list-in-CallOf.ensures

pub name-returns-then-eq : goal.name-returns-then-eq
name-returns-then-eq t c =
    stands_for c.expr.result (named (names_of c.plain.result.found) (expr_view c.in-Some.found.expr.now)) (names_of c.args.self.now.found c.args.at c.args.name.now)
    (plain_of c.args.self.now.found c.plain.result.found c.in-Some.found c.args.at c.args.name.now c.in-Some.is c.plain.ensures (sym c.eq.ensures ∙ c.if-eq.true)) c.expr.ensures
