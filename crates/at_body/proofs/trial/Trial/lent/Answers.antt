use Rattle.std.proofs.Common.{refl}
use Rattle.at_store.specs.Shown.{contents}
use Rattle.at_rules.specs.Bodies.{body_view}
use Rattle.at_body.specs.Rest.{place_of}
use Rattle.at_body.proofs.TextsCompared.{given_lent}
use Rattle.at_body.proofs.trial.Trial.lent.Goals as goal

pub returns-in-Text : goal.returns-in-Text
returns-in-Text c = given_lent (contents c.args.store.now) (body_view c.args.body.now) (place_of c.args.self.now) c.as_str.result.now (λ classes. rw (c.in-Text.is, c.as_str.ensures.value) refl)

pub returns-in-Name : goal.returns-in-Name
returns-in-Name c = rw c.in-Name.is (c.lent_name.ensures (contents c.args.store.now))

pub returns-in-TokenOf : goal.returns-in-TokenOf
returns-in-TokenOf c = rw (c.in-TokenOf.is, ← c.deref.ensures) c.lent_token.ensures
