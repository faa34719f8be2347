use Rattle.at_store.specs.Shown.{contents}
use Rattle.std.proofs.Common.{◌≡◌, refl, ◌∙◌, ap, sym, map, subst, IfOk}
use Rattle.at_body.specs.Rest.{place_of, rest}
use Rattle.at_body.specs.Starting.{form_by_rule, formula_at}
use Rattle.at_body.specs.declared.todo.Now.TheVariants.{Enter}
use Rattle.at_model.specs.Follow.{follow}
use Rattle.at_model.specs.Rules.{start_of}
use Rattle.at_body.proofs.Formed.{seek_formed, seek_same}
use Rattle.at_body.specs.Values.{value_view}
use Rattle.at_model.specs.Run.{Is}
use Rattle.at_body.proofs.of_typing.TypedShown.{shown_typed}
use Rattle.at_body.proofs.of_typing.TypedBegins.{begins}
use Rattle.at_body.proofs.trial.Trial.seek.Goals as goal

pub begin-requires-clause-formed : goal.begin-requires-clause-formed
begin-requires-clause-formed c = c.requires.formed.typed

pub begin-requires-clause-over : goal.begin-requires-clause-over
begin-requires-clause-over c = shown_typed c.args.rules.now c.args.store.now c.requires.idle c.requires.formed c.requires.sound

pub begin-requires-clause-typed : goal.begin-requires-clause-typed
begin-requires-clause-typed c = begins c.args.rules.now c.args.store.now c.requires.idle c.requires.formed c.requires.sound c.args.inst.now c.requires.typed _ _ _ (c.clear.ensures.this ∙ c.node-node.ensures) (ap (map value_view) c.clear.ensures.arguments ∙ c.in_ok-arguments.ensures) (c.class.ensures ∙ ap (λ n. contents c.args.store.now (Is n)) c.node-node.ensures) c.attribute.ensures

pub returns-clause-same : goal.returns-clause-same
returns-clause-same c = seek_same c.begin.result c.args.rules.now (contents c.args.store.now) c.args.inst.now c.look_at.new.reads _ _ c.class.result _ (λ b. follow (contents c.args.store.now) c.begin.new.self.reads (rest c.args.rules.now.classes (Enter b) c.begin.new.self))
    (c.clear.ensures.this ∙ c.node-node.ensures) c.attribute.ensures (ap (map value_view) c.clear.ensures.arguments ∙ c.in_ok-arguments.ensures) (rw (c.in_ok-look_at.ensures, c.as_slice.ensures, c.in_ok-push.ensures.gained, c.clear.ensures.unread, c.clear.ensures.this) refl) (c.class.ensures ∙ ap (λ n. contents c.args.store.now (Is n)) (sym c.clear.ensures.this)) c.begin.ensures.same

pub returns-clause-formed : goal.returns-clause-formed
returns-clause-formed c = seek_formed c.begin.result c.args.rules.now (contents c.args.store.now) c.args.inst.now c.look_at.new.reads _ _ c.class.result _
    (λ b. follow (contents c.args.store.now) c.begin.new.self.reads (formula_at c.args.rules.now (start_of c.args.rules.now c.args.inst.now.attribute) b.now (place_of c.begin.new.self)))
    (c.clear.ensures.this ∙ c.node-node.ensures) c.attribute.ensures (ap (map value_view) c.clear.ensures.arguments ∙ c.in_ok-arguments.ensures) (rw (c.in_ok-look_at.ensures, c.as_slice.ensures, c.in_ok-push.ensures.gained, c.clear.ensures.unread, c.clear.ensures.this) refl) (c.class.ensures ∙ ap (λ n. contents c.args.store.now (Is n)) (sym c.clear.ensures.this)) (subst (λ a. IfOk c.begin.result (λ b. follow (contents c.args.store.now) c.look_at.new.reads (form_by_rule c.args.rules.now c.clear.new.self.this c.attribute.result (map value_view c.clear.new.self.arguments) c.class.result)
    ≡ follow (contents c.args.store.now) c.begin.new.self.reads (formula_at c.args.rules.now (start_of c.args.rules.now a) b.now (place_of c.begin.new.self)))) c.attribute.ensures c.begin.ensures.formed)
