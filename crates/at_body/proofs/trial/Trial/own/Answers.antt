use Rattle.std.proofs.Common.{refl, ap, nat_eq, ◌∙◌, sym, map, None}
use Rattle.at_model.specs.Run.{Fails, Null}
use Rattle.at_model.specs.Rules.{by_equation}
use Rattle.at_body.specs.Values.{value_view}
use Rattle.at_rules.specs.Bodies.{body_view}
use Rattle.at_body.proofs.Climbing.{alone}
use Rattle.at_body.proofs.Formed.{form_own}
use Rattle.at_body.proofs.of_typing.TypedStarting.{own_stands}
use Rattle.at_body.proofs.trial.Trial.own.Goals as goal

pub returns-clause-same : goal.returns-clause-same
returns-clause-same c = ap (by_equation c.args.rules.now nat_eq (record { this = c.args.self.now.this; names = map value_view c.args.self.now.arguments; child = None }) (Fails Null)) (sym c.in-Some.ensures) ∙ sym (alone _ c.args.self.now (body_view c.in-Some.body.now) _ _ None c.requires.alone.idle c.requires.alone.unbound refl refl c.requires.top)

pub returns-clause-formed : goal.returns-clause-formed
returns-clause-formed c = form_own c.args.rules.now c.args.self.now.this c.args.attribute (map value_view c.args.self.now.arguments) c.in-Some.body.now c.args.self.now _ c.in-Some.ensures c.requires.alone.unbound refl refl c.requires.top

pub returns-clause-equation : goal.returns-clause-equation
returns-clause-equation c = λ at look are h. own_stands c.args.rules.now are at look c.args.self.now c.args.class c.args.attribute c.in-Some.body.now h c.requires.top c.requires.alone.unbound (sym c.in-Some.ensures)
