use Rattle.std.proofs.Common.{arith}
use Rattle.std.proofs.lemmas.List.{length-map}
use Rattle.at_text.specs.Symbols.{placed}
use lib.Chars.{codes}
use Rattle.std.proofs.lemmas.Result.{err_from_is_err_and}
use Rattle.at_text.specs.Rows.{left}
use Rattle.at_jrag.specs.View.{word_view}
use Rattle.at_jrag.specs.Runs.{reason_of}
use Rattle.at_jrag.proofs.DeclarationStops.{word_taken, word_missing, aspect_stays, aspect_no_name, aspect_no_brace, aspect_decls}
use Rattle.at_jrag.proofs.reader.Reader.aspect.Goals as goal

pub returns-in_err-name-clause-stays : goal.returns-in_err-name-clause-stays
returns-in_err-name-clause-stays c =
    let w = word_taken c.args.self.now.cursor c.takes_word.new.self (λ r. left r.rest.now) (codes "aspect") c.takes_word.result c.if-is_none.ensures c.takes_word.ensures in
    let p = err_from_is_err_and c.from_residual.result c.from_residual.ensures.1 in
    rw (p.1, p.2)
    (aspect_no_name c.args.forms w.0 c.in_err-name.field-0.0 (left c.args.self.now.cursor.rest.now)
    (left c.takes_word.new.self.rest.now) (left c.name.new.self.cursor.rest.now) w.1 c.in_err-name.ensures.missing)

pub returns-then-is_none-clause-stays : goal.returns-then-is_none-clause-stays
returns-then-is_none-clause-stays c =
    let w = word_missing c.args.self.now.cursor c.takes_word.new.self (λ r. left r.rest.now) (codes "aspect") c.takes_word.result c.if-is_none.ensures c.takes_word.ensures in
    rw c.no_keyword.ensures
    (aspect_stays c.args.forms (left c.args.self.now.cursor.rest.now) (left c.takes_word.new.self.rest.now) w.0
    (omega (arith, c.requires, length-map c.args.self.now.cursor.rest.now placed)) w.1)

pub returns-in_err-expects-clause-stays : goal.returns-in_err-expects-clause-stays
returns-in_err-expects-clause-stays c =
    let w = word_taken c.args.self.now.cursor c.takes_word.new.self (λ r. left r.rest.now) (codes "aspect") c.takes_word.result c.if-is_none.ensures c.takes_word.ensures in
    let p = err_from_is_err_and c.from_residual-in_err-expects.result c.from_residual-in_err-expects.ensures.1 in
    rw (p.1, p.2)
    (aspect_no_brace c.args.forms w.0 (word_view c.in_ok-name.name) c.in_err-expects.field-0.0 (left c.args.self.now.cursor.rest.now) (left c.takes_word.new.self.rest.now)
    (left c.name.new.self.cursor.rest.now) (left c.expects.new.self.cursor.rest.now) w.1 c.in_ok-name.ensures.found c.in_err-expects.ensures.missing)

pub returns-in_err-decls-clause-stays : goal.returns-in_err-decls-clause-stays
returns-in_err-decls-clause-stays c =
    let w = word_taken c.args.self.now.cursor c.takes_word.new.self (λ r. left r.rest.now) (codes "aspect") c.takes_word.result c.if-is_none.ensures c.takes_word.ensures in
    let p = err_from_is_err_and c.from_residual-in_err-decls.result c.from_residual-in_err-decls.ensures.1 in
    rw (p.1, p.2)
    (aspect_decls c.args.forms w.0 (word_view c.in_ok-name.name) (reason_of c.in_err-decls.field-0.0) (left c.args.self.now.cursor.rest.now) (left c.takes_word.new.self.rest.now)
    (left c.name.new.self.cursor.rest.now) (left c.expects.new.self.cursor.rest.now)
    (left c.decls.new.self.cursor.rest.now) w.1 c.in_ok-name.ensures.found (_, c.in_ok-expects.ensures.found)
    c.in_err-decls.ensures.stays)
