use Rattle.std.proofs.Common.{◌∙◌, sym, arith}
use Rattle.at_text.proofs.Reserved.{reserved_with_a, reserved_with_b, reserved_with_c, reserved_with_e, reserved_with_f, reserved_with_i, reserved_with_l, reserved_with_n, reserved_with_r, reserved_with_s, reserved_with_t, reserved_with_capital_s, reserved_with_no_other}
use Rattle.at_text.proofs.names.is_reserved_by_first.Goals as goal

pub returns-in-97 : goal.returns-in-97
returns-in-97 c = c.is_one_of.ensures ∙ reserved_with_a c.args.word.now (sym c.first_byte.ensures ∙ c.in-97.is)

pub returns-in-98 : goal.returns-in-98
returns-in-98 c = c.is_one_of-in-98.ensures ∙ reserved_with_b c.args.word.now (sym c.first_byte.ensures ∙ c.in-98.is)

pub returns-in-99 : goal.returns-in-99
returns-in-99 c = c.is_one_of-in-99.ensures ∙ reserved_with_c c.args.word.now (sym c.first_byte.ensures ∙ c.in-99.is)

pub returns-in-101 : goal.returns-in-101
returns-in-101 c = c.is_one_of-in-101.ensures ∙ reserved_with_e c.args.word.now (sym c.first_byte.ensures ∙ c.in-101.is)

pub returns-in-102 : goal.returns-in-102
returns-in-102 c = c.is_one_of-in-102.ensures ∙ reserved_with_f c.args.word.now (sym c.first_byte.ensures ∙ c.in-102.is)

pub returns-in-105 : goal.returns-in-105
returns-in-105 c = c.is_one_of-in-105.ensures ∙ reserved_with_i c.args.word.now (sym c.first_byte.ensures ∙ c.in-105.is)

pub returns-in-108 : goal.returns-in-108
returns-in-108 c = c.is_one_of-in-108.ensures ∙ reserved_with_l c.args.word.now (sym c.first_byte.ensures ∙ c.in-108.is)

pub returns-in-110 : goal.returns-in-110
returns-in-110 c = c.is_one_of-in-110.ensures ∙ reserved_with_n c.args.word.now (sym c.first_byte.ensures ∙ c.in-110.is)

pub returns-in-114 : goal.returns-in-114
returns-in-114 c = c.is_one_of-in-114.ensures ∙ reserved_with_r c.args.word.now (sym c.first_byte.ensures ∙ c.in-114.is)

pub returns-in-115 : goal.returns-in-115
returns-in-115 c = c.is_one_of-in-115.ensures ∙ reserved_with_s c.args.word.now (sym c.first_byte.ensures ∙ c.in-115.is)

pub returns-in-116 : goal.returns-in-116
returns-in-116 c = c.is_one_of-in-116.ensures ∙ reserved_with_t c.args.word.now (sym c.first_byte.ensures ∙ c.in-116.is)

pub returns-in-83 : goal.returns-in-83
returns-in-83 c = c.is_one_of-in-83.ensures ∙ reserved_with_capital_s c.args.word.now (sym c.first_byte.ensures ∙ c.in-83.is)

pub returns-in_default : goal.returns-in_default
returns-in_default c = reserved_with_no_other c.args.word.now (omega arith) (omega arith) (omega arith) (omega arith)
    (omega arith) (omega arith) (omega arith) (omega arith) (omega arith) (omega arith) (omega arith) (omega arith)
