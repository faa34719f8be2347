use Rattle.std.proofs.Common.{[], ◌∷◌, sym, ap, ◌∙◌}
use lib.Chars.{codes}
use Rattle.at_text.specs.Rows.{left, is_word, next_is}
use Rattle.at_jrag.specs.Wants as want
use Rattle.at_jrag.specs.Table.{declared}
use Rattle.at_jrag.proofs.Declarations.{decl_read}
use Rattle.at_jrag.proofs.DeclarationStops.{behind_keyword, syn_stays, inh_stays, eq_stays, decl_stays}
use Rattle.at_jrag.proofs.reader.Reader.decl.Goals as goal

-- ---- behind `syn`

pub returns-in-Some-clause-found : goal.returns-in-Some-clause-found
returns-in-Some-clause-found c =
    decl_read c.args.forms c.synthesized.result (codes "syn") c.in-Some.at (left c.args.self.now.cursor.rest.now)
    (left c.takes_word.new.self.rest.now) (left c.synthesized.new.self.cursor.rest.now) c.synthesized.ensures.found
    c.in-Some.ensures

pub returns-in-Some-clause-stays : goal.returns-in-Some-clause-stays
returns-in-Some-clause-stays c =
    behind_keyword c.args.forms c.synthesized.result
    (declared c.args.forms (want.Ending ∷ want.Decls c.args.forms ∷ [])) (left c.takes_word.new.self.rest.now)
    (left c.synthesized.new.self.cursor.rest.now) (left c.args.self.now.cursor.rest.now)
    (λ r st. syn_stays c.args.forms c.in-Some.at r (left c.args.self.now.cursor.rest.now)
    (left c.takes_word.new.self.rest.now) (left c.synthesized.new.self.cursor.rest.now) c.in-Some.ensures st)
    c.synthesized.ensures.stays

-- ---- behind `inh`

pub returns-in-Some-takes_word-clause-found : goal.returns-in-Some-takes_word-clause-found
returns-in-Some-takes_word-clause-found c =
    let front = sym (ap (λ r. left r.rest.now) c.in_default.ensures.0) ∙ c.in-Some-takes_word.ensures in
    decl_read c.args.forms c.inherited.result (codes "inh") c.in-Some-takes_word.at
    (left c.args.self.now.cursor.rest.now) (left c.takes_word-2.new.self.rest.now)
    (left c.inherited.new.self.cursor.rest.now) c.inherited.ensures.found front

pub returns-in-Some-takes_word-clause-stays : goal.returns-in-Some-takes_word-clause-stays
returns-in-Some-takes_word-clause-stays c =
    let front = sym (ap (λ r. left r.rest.now) c.in_default.ensures.0) ∙ c.in-Some-takes_word.ensures in
    behind_keyword c.args.forms c.inherited.result (declared c.args.forms
    (want.Mark (codes ";") ∷ want.Decls c.args.forms ∷ [])) (left c.takes_word-2.new.self.rest.now)
    (left c.inherited.new.self.cursor.rest.now) (left c.args.self.now.cursor.rest.now)
    (λ r st. inh_stays c.args.forms c.in-Some-takes_word.at r (left c.args.self.now.cursor.rest.now)
    (left c.takes_word-2.new.self.rest.now) (left c.inherited.new.self.cursor.rest.now) front st)
    c.inherited.ensures.stays

-- ---- behind `eq`

pub returns-in-Some-takes_word-2-clause-found : goal.returns-in-Some-takes_word-2-clause-found
returns-in-Some-takes_word-2-clause-found c =
    let same = ap (λ r. left r.rest.now) (c.in_default-takes_word.ensures.0 ∙ c.in_default.ensures.0) in
    decl_read c.args.forms c.equation.result (codes "eq") c.in-Some-takes_word-2.at
    (left c.args.self.now.cursor.rest.now) (left c.takes_word-3.new.self.rest.now)
    (left c.equation.new.self.cursor.rest.now) (c.equation.ensures.found c.args.forms)
    (sym same ∙ c.in-Some-takes_word-2.ensures)

pub returns-in-Some-takes_word-2-clause-stays : goal.returns-in-Some-takes_word-2-clause-stays
returns-in-Some-takes_word-2-clause-stays c =
    let same = ap (λ r. left r.rest.now) (c.in_default-takes_word.ensures.0 ∙ c.in_default.ensures.0) in
    behind_keyword c.args.forms c.equation.result (want.Name ∷ want.Mark
    (codes ".") ∷ want.Signed ∷ want.Defined ∷ want.Decls c.args.forms ∷ []) (left c.takes_word-3.new.self.rest.now)
    (left c.equation.new.self.cursor.rest.now) (left c.args.self.now.cursor.rest.now)
    (λ r st. eq_stays c.args.forms c.in-Some-takes_word-2.at r (left c.args.self.now.cursor.rest.now)
    (left c.takes_word-3.new.self.rest.now) (left c.equation.new.self.cursor.rest.now)
    (sym same ∙ c.in-Some-takes_word-2.ensures) st) (c.equation.ensures.stays c.args.forms)

-- ---- where no declaration begins

pub returns-in-None-clause-stays : goal.returns-in-None-clause-stays
returns-in-None-clause-stays c =
    let one = ap (λ r. left r.rest.now) c.in_default.ensures.0 in
    let two = ap (λ r. left r.rest.now) c.in_default-takes_word.ensures.0 ∙ one in
    let three = ap (λ r. left r.rest.now) c.in-None.ensures.0 ∙ two in
    rw c.no_keyword.ensures
    (decl_stays c.args.forms (left c.args.self.now.cursor.rest.now) (left c.takes_word-3.new.self.rest.now) three c.requires c.in_default.ensures.1 (ap (next_is (is_word (codes "inh")))
    (sym one) ∙ c.in_default-takes_word.ensures.1) (ap (next_is (is_word (codes "eq"))) (sym two) ∙ c.in-None.ensures.1))
