use Rattle.std.proofs.Common.{sym, ap, ◌∙◌}
use Rattle.std.specs.Prelude.{is_some}
use Rattle.at_rules.proofs.NameNumbers.{inserted, kept_as}
use Rattle.at_rules.proofs.names.number_for.Goals as goal

pub returns-clause-number : goal.returns-clause-number
returns-clause-number c =
    (inserted c.args.names.now.keys c.args.name.now c.in_ok-from_str.field-0 c.insert_full.new.self.keys c.in_ok-number.number c.in_ok-from_str.ensures.ok (sym c.get_index_of.ensures.found ∙ ap is_some c.in_default.is) c.in_ok-number.ensures.keys c.in_ok-number.ensures.index).0

pub returns-clause-keeps : goal.returns-clause-keeps
returns-clause-keeps c =
    (inserted c.args.names.now.keys c.args.name.now c.in_ok-from_str.field-0 c.insert_full.new.self.keys c.in_ok-number.number c.in_ok-from_str.ensures.ok (sym c.get_index_of.ensures.found ∙ ap is_some c.in_default.is) c.in_ok-number.ensures.keys c.in_ok-number.ensures.index).1

pub returns-in-Some-clause-keeps : goal.returns-in-Some-clause-keeps
returns-in-Some-clause-keeps c = λ text n found. found

pub returns-in_err-from_str-clause-keeps : goal.returns-in_err-from_str-clause-keeps
returns-in_err-from_str-clause-keeps c = λ text n found. found

pub returns-in_err-number-clause-keeps : goal.returns-in_err-number-clause-keeps
returns-in_err-number-clause-keeps c = kept_as _ _ c.in_err-number.ensures.err
