use Rattle.std.proofs.Common.{◌∙◌, ◌≡◌, ℕ, List, ap, arith, subst, sym, length}
use Rattle.at_model.specs.Meaning.{Among}
use Rattle.at_solve.specs.Spreading.{AreListed, Spreads, users_at}
use Rattle.at_solve.proofs.Looking.{popped, ended}
use Rattle.at_solve.proofs.spreading.derived.Goals as goal

pub loop-position-preserved : goal.loop-position-preserved
loop-position-preserved c = c.in_ok-look_at_all.ensures.spreads
    (subst (λ (us : List ℕ). Spreads c.args.system.now (λ u. Among u us) c.loop-position.spread.known.items c.pop.new.self.items) (sym c.listed.ensures)
    (popped c.args.system.now c.deref.result.now c.loop-position.spread.known.items c.loop-position.spread.waiting.items c.pop.new.self.items c.in-Some.position
    (subst (AreListed c.args.system.now) (sym c.deref.ensures.value) c.in_ok-users.ensures) c.in-Some.ensures.items c.loop-position.invariant))

pub returns-clause-known : goal.returns-clause-known
returns-clause-known c = ended c.args.system.now c.loop-position.spread.known.items c.loop-position.spread.waiting.items (omega (arith, c.in_default.ensures.cases.0, c.loop-position.spread.waiting.ok.0)) c.loop-position.invariant
