use Rattle.std.proofs.Common.{ap, arith}
use Rattle.at_jrag.specs.Read.{greatest}
use Rattle.at_jrag.proofs.Numbers.{no_number, none_within, known, unfit}
use Rattle.at_java.proofs.Spellings.{bound}
use Rattle.at_java.proofs.reader.literals.number_of.Goals as goal

pub returns-in_default-clause-none : goal.returns-in_default-clause-none
returns-in_default-clause-none c = no_number (greatest c.args.is_negative) c.args.digits.now (bound c.args.is_negative) c.in_default.ensures

pub returns-in-Err-2-clause-none : goal.returns-in-Err-2-clause-none
returns-in-Err-2-clause-none c = none_within (greatest c.args.is_negative) c.args.digits.now (λ w.
    let b = bound c.args.is_negative in
    let k = known (greatest c.args.is_negative) c.args.digits.now c.in-Some.value b (omega arith) c.in-Some.ensures w in
    let u = unfit c.in-Some.value c.in-Err.ensures in
    c.if-value-eq2147483648.false (omega (arith, b, k, u)))

pub returns-in-Err-2-2-clause-none : goal.returns-in-Err-2-2-clause-none
returns-in-Err-2-2-clause-none c = none_within (greatest c.args.is_negative) c.args.digits.now (λ w.
    let k = known (greatest c.args.is_negative) c.args.digits.now c.in-Some.value (bound c.args.is_negative) (omega arith) c.in-Some.ensures w in
    let u = unfit c.in-Some.value c.in-Err.ensures in
    let m = ap greatest c.if-is_negative-2.false in
    absurd (omega (arith, k, u, m)))
