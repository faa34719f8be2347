use Rattle.std.proofs.Common.{◌≡◌, map, refl, sym, subst, IfOk}
use Rattle.at_body.specs.Values.{value_view}
use Rattle.at_body.proofs.Naming.{is_bound, is_behind}
use Rattle.at_evaluate.proofs.here.Here.name.Goals as goal

pub returns-in-Some : goal.returns-in-Some
returns-in-Some c = is_bound c.args.self.now.bound _ c.args.position c.in-Some.node (cc)

pub returns-in-None : goal.returns-in-None
returns-in-None c = subst (λ v. IfOk c.argument.result (λ w. v ≡ value_view w)) (sym (is_behind c.args.self.now.bound (map value_view c.args.self.now.arguments) c.args.position _ (cc) refl)) c.argument.ensures
