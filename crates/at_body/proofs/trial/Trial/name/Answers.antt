use Rattle.std.proofs.Common.{ap, map, subst, sym, IfOk, refl}
use Rattle.at_body.specs.Rest.{resumed}
use Rattle.at_body.proofs.Naming.{is_bound, is_behind, behind}
use Rattle.at_body.specs.Values.{value_view}
use Rattle.at_model.specs.Run.{Gives}
use Rattle.at_body.specs.Typed.{ComesTo}
use Rattle.at_body.proofs.of_typing.TypedSteps.{behind_there}
use Rattle.at_body.proofs.trial.Trial.name.Goals as goal

pub returns-in-Some-clause-same : goal.returns-in-Some-clause-same
returns-in-Some-clause-same c = λ classes. ap (resumed classes c.args.self.now) (is_bound c.args.self.now.bound _ c.args.position c.in-Some.node (cc))

pub returns-in-None-clause-same : goal.returns-in-None-clause-same
returns-in-None-clause-same c = λ classes. behind classes c.args.self.now c.args.position _ (cc) (c.argument.ensures.same classes)

pub argument-requires : goal.argument-requires
argument-requires c = record { there = behind_there c.args.self.now.bound c.args.self.now.arguments c.args.position _ (cc) refl c.requires.there }

pub returns-in-Some-clause-told : goal.returns-in-Some-clause-told
returns-in-Some-clause-told c = λ look. is_bound c.args.self.now.bound _ c.args.position c.in-Some.node (cc)

pub returns-in-None-clause-told : goal.returns-in-None-clause-told
returns-in-None-clause-told c = λ look. subst (λ v. IfOk c.argument.result (λ now. ComesTo look (Gives v) now)) (sym (is_behind c.args.self.now.bound (map value_view c.args.self.now.arguments) c.args.position _ (cc) refl)) (c.argument.ensures.told look)
