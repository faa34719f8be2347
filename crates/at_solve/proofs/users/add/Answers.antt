use Rattle.std.proofs.Common.{◌∙◌, sym, subst, ap, arith, length, ◌++◌, ◌∷◌, []}
use Rattle.at_solve.proofs.UserLemmas.{kept, added}
use Rattle.at_solve.proofs.users.add.Goals as goal

pub returns-clause-kept : goal.returns-clause-kept
returns-clause-kept c = kept c.args.users.now.items c.args.of c.args.position c.push.new.self _
    (omega (arith, c.if-of-len.false, c.len.ensures, c.args.users.now.ok.0)) (c.in_ok-push.ensures.items ∙ ap (λ v. v.items ++ c.args.position ∷ []) c.index_mut.ensures.value)

pub returns-clause-added : goal.returns-clause-added
returns-clause-added c = λ less. added c.args.users.now.items c.args.of c.args.position c.push.new.self _ less (c.in_ok-push.ensures.items ∙ ap (λ v. v.items ++ c.args.position ∷ []) c.index_mut.ensures.value)
