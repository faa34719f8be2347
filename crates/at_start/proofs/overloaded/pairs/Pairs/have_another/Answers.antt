use Rattle.std.proofs.Common.{ℕ, ◌<◌, ◌≤◌, ◌∙◌, ◌&&◌, Bool, arith, length, nat_eq, not, sym}
use Rattle.at_start.specs.Pairs.{has_pair}
use Rattle.at_start.proofs.Overloads.{numbers, own_number}
use Rattle.at_start.proofs.Rereading.{any_here, any_later, any_nowhere}
use Rattle.at_start.proofs.overloaded.pairs.Pairs.have_another.Goals as goal

pub returns-then-have_other : goal.returns-then-have_other
returns-then-have_other c =
    let test : ℕ → Bool = λ n. not (nat_eq n c.args.count) && has_pair c.args.self.now c.args.name.now n in
    let i = c.loop-number.number in
    let less : i < 5 = omega (arith, c.loop-number-test.true) in
    sym (c.loop-number.invariant ∙ any_here test numbers i i less (own_number i less) (sym c.have_other.ensures ∙ c.if-have_other.true))

pub loop-number-preserved : goal.loop-number-preserved
loop-number-preserved c =
    let test : ℕ → Bool = λ n. not (nat_eq n c.args.count) && has_pair c.args.self.now c.args.name.now n in
    let i = c.loop-number.number in
    let less : i < 5 = omega (arith, c.loop-number-test.true) in
    c.loop-number.invariant ∙ any_later test numbers i i less (own_number i less) (sym c.have_other.ensures ∙ c.if-have_other.false)

pub returns : goal.returns
returns c =
    let test : ℕ → Bool = λ n. not (nat_eq n c.args.count) && has_pair c.args.self.now c.args.name.now n in
    let i = c.loop-number.number in
    let past : 5 ≤ i = omega (arith, c.loop-number-test.false) in
    sym (c.loop-number.invariant ∙ any_nowhere test numbers i past)
