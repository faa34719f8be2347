use Rattle.std.proofs.Common.{◌≡◌, ◌∙◌, ap, arith, not, refl, sym}
use Rattle.at_model.specs.Bodies.{And, Or, Choose, Exists, SeekAny}
use Rattle.at_class.specs.Keys.{key_view}
use Rattle.at_rules.specs.Bodies.{body_view, sought_view}
use Rattle.at_rules.specs.declared.body.Body.{items_hidden-the_row-Body-0}
use Rattle.at_body.specs.Forms.{followed, formed, place_of}
use Rattle.at_body.proofs.Entering.{call_view}
use Rattle.at_body.proofs.FormPlain.{others_plain, shape_of}
use Rattle.at_body.proofs.FormRuns.{as_ever, choice_shape, exists_shape, sides_put}
use Rattle.at_body.proofs.FormKinds.{and_forms, choose_evaluates, evaluates_it, exists_evaluates, or_forms, sides_typed}
use Rattle.at_body.proofs.FormSeeks.{seek_evaluates}
use Rattle.at_body.proofs.Seeks.{seek_shape}
use Rattle.at_body.proofs.forming.Forming.form.Goals as goal

pub call-requires : goal.call-requires
call-requires c = record { is = call_view _ _ _ _ _ _ _ _ c.in-Call.is (items_hidden-the_row-Body-0 c.in-Call.passed ∙ sym c.deref-in-Call-2.ensures.value) c.deref-in-Call.ensures }

pub returns-in-And-clause-same : goal.returns-in-And-clause-same
returns-in-And-clause-same c = sides_put c.args.rules.now c.sides.result c.args.self.now c.sides.new.self c.args.positive c.args.positive (body_view c.args.body.now) c.deref-in-And.result c.deref-in-And-2.result c.sides.ensures (rw (c.in-And.is, ← c.deref-in-And.ensures, ← c.deref-in-And-2.ensures) refl)

pub returns-in-And-clause-typed : goal.returns-in-And-clause-typed
returns-in-And-clause-typed c = λ at look h. sides_typed c.args.rules.now at look c.sides.result c.args.self.now c.sides.new.self c.args.positive c.args.positive c.deref-in-And.result c.deref-in-And-2.result c.sides.ensures
    (and_forms c.args.rules.now at c.args.self.now c.args.positive c.args.positive c.args.body.now c.deref-in-And.result.now c.deref-in-And-2.result (rw (c.in-And.is, ← c.deref-in-And.ensures, ← c.deref-in-And-2.ensures) refl) h)

pub returns-in-Or-clause-same : goal.returns-in-Or-clause-same
returns-in-Or-clause-same c = sides_put c.args.rules.now c.sides-in-Or.result c.args.self.now c.sides-in-Or.new.self (not c.args.positive) c.args.positive (body_view c.args.body.now) c.deref-in-Or.result c.deref-in-Or-2.result c.sides-in-Or.ensures (rw (c.in-Or.is, ← c.deref-in-Or.ensures, ← c.deref-in-Or-2.ensures) refl)

pub returns-in-Or-clause-typed : goal.returns-in-Or-clause-typed
returns-in-Or-clause-typed c = λ at look h. sides_typed c.args.rules.now at look c.sides-in-Or.result c.args.self.now c.sides-in-Or.new.self (not c.args.positive) c.args.positive c.deref-in-Or.result c.deref-in-Or-2.result c.sides-in-Or.ensures
    (or_forms c.args.rules.now at c.args.self.now (not c.args.positive) c.args.positive c.args.body.now c.deref-in-Or.result.now c.deref-in-Or-2.result (rw (c.in-Or.is, ← c.deref-in-Or.ensures, ← c.deref-in-Or-2.ensures) refl) h)

pub returns-in-Choose-clause-same : goal.returns-in-Choose-clause-same
returns-in-Choose-clause-same c =
    let is : body_view c.args.body.now ≡ Choose (body_view c.deref-in-Choose-3.result.now) (body_view c.deref-in-Choose.result.now) (body_view c.deref-in-Choose-2.result.now) =
    rw (c.in-Choose.is, ← c.deref-in-Choose.ensures, ← c.deref-in-Choose-2.ensures, ← c.deref-in-Choose-3.ensures) refl in
    ap (λ e. followed c.args.rules.now c.args.self.now (formed c.args.rules.now c.args.self.now.start c.args.positive e (place_of c.args.self.now))) is
    ∙ choice_shape c.args.rules.now c.args.self.now c.args.positive (body_view c.deref-in-Choose-3.result.now) c.deref-in-Choose.result c.deref-in-Choose-2.result

pub returns-in-Choose-clause-typed : goal.returns-in-Choose-clause-typed
returns-in-Choose-clause-typed c = λ at look h.
    let is : body_view c.args.body.now ≡ Choose (body_view c.deref-in-Choose-3.result.now) (body_view c.deref-in-Choose.result.now) (body_view c.deref-in-Choose-2.result.now) =
    rw (c.in-Choose.is, ← c.deref-in-Choose.ensures, ← c.deref-in-Choose-2.ensures, ← c.deref-in-Choose-3.ensures) refl in
    choose_evaluates c.args.rules.now at c.args.self.now c.args.positive c.args.body.now c.deref-in-Choose-3.result.now c.deref-in-Choose.result c.deref-in-Choose-2.result is h

pub returns-in-Exists-clause-same : goal.returns-in-Exists-clause-same
returns-in-Exists-clause-same c =
    let is : body_view c.args.body.now ≡ Exists (body_view c.deref-in-Exists-2.result.now) c.in-Exists.part (body_view c.deref-in-Exists.result.now) =
    rw (c.in-Exists.is, ← c.deref-in-Exists.ensures, ← c.deref-in-Exists-2.ensures) refl in
    ap (λ e. followed c.args.rules.now c.args.self.now (formed c.args.rules.now c.args.self.now.start c.args.positive e (place_of c.args.self.now))) is
    ∙ exists_shape c.args.rules.now c.args.self.now c.args.positive (body_view c.deref-in-Exists-2.result.now) c.in-Exists.part c.deref-in-Exists.result

pub returns-in-Exists-clause-typed : goal.returns-in-Exists-clause-typed
returns-in-Exists-clause-typed c = λ at look h.
    let is : body_view c.args.body.now ≡ Exists (body_view c.deref-in-Exists-2.result.now) c.in-Exists.part (body_view c.deref-in-Exists.result.now) =
    rw (c.in-Exists.is, ← c.deref-in-Exists.ensures, ← c.deref-in-Exists-2.ensures) refl in
    exists_evaluates c.args.rules.now at c.args.self.now c.args.positive c.args.body.now c.deref-in-Exists-2.result.now c.in-Exists.part c.deref-in-Exists.result is h

pub returns-in-SeekAny-clause-same : goal.returns-in-SeekAny-clause-same
returns-in-SeekAny-clause-same c =
    let is : body_view c.args.body.now ≡ SeekAny (body_view c.deref-in-SeekAny-3.result.now) c.deref-in-SeekAny.result.now.part (key_view c.deref-in-SeekAny.result.now.key) (sought_view c.deref-in-SeekAny.result.now.sought) (body_view c.deref-in-SeekAny-2.result.now) =
    rw (c.in-SeekAny.is, ← c.deref-in-SeekAny.ensures, ← c.deref-in-SeekAny-2.ensures, ← c.deref-in-SeekAny-3.ensures) refl in
    ap (λ e. followed c.args.rules.now c.args.self.now (formed c.args.rules.now c.args.self.now.start c.args.positive e (place_of c.args.self.now))) is
    ∙ seek_shape c.args.rules.now c.args.self.now c.args.positive (body_view c.deref-in-SeekAny-3.result.now) c.deref-in-SeekAny.result c.deref-in-SeekAny-2.result

pub returns-in-SeekAny-clause-typed : goal.returns-in-SeekAny-clause-typed
returns-in-SeekAny-clause-typed c = λ at look h.
    let is : body_view c.args.body.now ≡ SeekAny (body_view c.deref-in-SeekAny-3.result.now) c.deref-in-SeekAny.result.now.part (key_view c.deref-in-SeekAny.result.now.key) (sought_view c.deref-in-SeekAny.result.now.sought) (body_view c.deref-in-SeekAny-2.result.now) =
    rw (c.in-SeekAny.is, ← c.deref-in-SeekAny.ensures, ← c.deref-in-SeekAny-2.ensures, ← c.deref-in-SeekAny-3.ensures) refl in
    seek_evaluates c.args.rules.now at c.args.self.now c.args.positive c.args.body.now c.deref-in-SeekAny-3.result.now c.deref-in-SeekAny.result c.deref-in-SeekAny-2.result is h

pub returns-in_default : goal.returns-in_default
returns-in_default c = record {
  same = as_ever c.args.rules.now c.args.self.now c.args.positive (body_view c.args.body.now)
      (shape_of c.args.rules.now c.args.self.now.start c.args.positive (place_of c.args.self.now) c.args.body.now
      (others_plain c.args.rules.now c.args.self.now.start c.args.positive (place_of c.args.self.now) c.args.body.now c.in_default.not-Not c.in_default.not-And c.in_default.not-Or c.in_default.not-Choose c.in_default.not-Call c.in_default.not-Exists c.in_default.not-SeekAny));
  less = omega arith;
  reads = refl;
  typed = λ at look h. evaluates_it c.args.rules.now at c.args.self.now c.args.positive c.args.body.now h;
}
