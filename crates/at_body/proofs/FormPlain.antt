-- Expressions that are evaluated as ever.
use Rattle.std.proofs.Common.{◌≡◌, ℕ, Bool, refl, sym, ap, ◌∙◌, subst, Box, Vec}
use Rattle.std.specs.Global.{Global}
use Rattle.at_model.specs.Run.{Value, Run, Gives, ◌>>=◌}
use Rattle.at_model.specs.Rules.{Rules}
use Rattle.at_model.specs.of_fixpoints.Formulas.{Formula, Known, turned}
use Rattle.at_rules.specs.Bodies.{body_view}
use Rattle.at_rules.specs.declared.body.Body.{Body, out-Body, roll-Body, roll-out-Body}
use Rattle.at_rules.specs.declared.body.Body.TheVariants as variant
use Rattle.at_rules.specs.declared.body.Lookup.{Lookup}
use Rattle.at_rules.specs.declared.body.Body.TheOpen.{Body-F}
use Rattle.at_body.specs.Standing.{Place}
use Rattle.at_body.specs.Rest.{ev}
use Rattle.at_body.specs.Forms.{formed}

-- the body is evaluated, and its value is the formula
pub data IsPlain (rules : Rules) (b p : Bool) (place : Place) (x : Body) : Type 0 where
  plain : formed rules b p (body_view x) place ≡ ev rules.classes (body_view x) place >>= (λ v. Gives (Known (turned p v))) → IsPlain rules b p place x

pub shape_of : (rules : Rules) (b p : Bool) (place : Place) (x : Body) → IsPlain rules b p place x → formed rules b p (body_view x) place ≡ ev rules.classes (body_view x) place >>= (λ v. Gives (Known (turned p v)))
shape_of rules b p place x (plain h) = h

whole : (x : Body) (o : Body-F Body) → out-Body x ≡ o → x ≡ roll-Body o
whole x o is = sym (roll-out-Body x) ∙ ap roll-Body is

pub others_plain : (rules : Rules) (b p : Bool) (place : Place) (x : Body) →
    ((a : Box Body Global) → x ≡ variant.Not a → ⊥) → ((a c : Box Body Global) → x ≡ variant.And a c → ⊥) → ((a c : Box Body Global) → x ≡ variant.Or a c → ⊥) →
    ((a c d : Box Body Global) → x ≡ variant.Choose a c d → ⊥) → ((a : Box Body Global) (n : ℕ) (bs : Vec Body Global) → x ≡ variant.Call a n bs → ⊥) →
    ((a : Box Body Global) (n : ℕ) (c : Box Body Global) → x ≡ variant.Exists a n c → ⊥) → ((a : Box Body Global) (l : Box Lookup Global) (c : Box Body Global) → x ≡ variant.SeekAny a l c → ⊥) →
    IsPlain rules b p place x
others_plain rules b p place x no_not no_and no_or no_choose no_call no_exists no_seek = by (out-Body x) refl
  where
    at : (y : Body) → x ≡ y → IsPlain rules b p place y → IsPlain rules b p place x
    at y is h = subst (IsPlain rules b p place) (sym is) h

    by : (o : Body-F Body) → out-Body x ≡ o → IsPlain rules b p place x
    by (Body-F.Int n) is = at (variant.Int n) (whole x (Body-F.Int n) is ∙ variant.rolls-Int n) (plain refl)
    by (Body-F.Truth t) is = at (variant.Truth t) (whole x (Body-F.Truth t) is ∙ variant.rolls-Truth t) (plain refl)
    by (Body-F.Text s) is = at (variant.Text s) (whole x (Body-F.Text s) is ∙ variant.rolls-Text s) (plain refl)
    by Body-F.Null is = at variant.Null (whole x Body-F.Null is ∙ variant.rolls-Null) (plain refl)
    by Body-F.This is = at variant.This (whole x Body-F.This is ∙ variant.rolls-This) (plain refl)
    by (Body-F.Name n) is = at (variant.Name n) (whole x (Body-F.Name n) is ∙ variant.rolls-Name n) (plain refl)
    by Body-F.IndexName is = at variant.IndexName (whole x Body-F.IndexName is ∙ variant.rolls-IndexName) (plain refl)
    by (Body-F.Negate a) is = at (variant.Negate a) (whole x (Body-F.Negate a) is ∙ variant.rolls-Negate a) (plain refl)
    by (Body-F.Not a) is = absurd (no_not a (whole x (Body-F.Not a) is ∙ variant.rolls-Not a))
    by (Body-F.Arithmetic o a c) is = at (variant.Arithmetic o a c) (whole x (Body-F.Arithmetic o a c) is ∙ variant.rolls-Arithmetic o a c) (plain refl)
    by (Body-F.Compare o a c) is = at (variant.Compare o a c) (whole x (Body-F.Compare o a c) is ∙ variant.rolls-Compare o a c) (plain refl)
    by (Body-F.Join a c) is = at (variant.Join a c) (whole x (Body-F.Join a c) is ∙ variant.rolls-Join a c) (plain refl)
    by (Body-F.JoinInt a c) is = at (variant.JoinInt a c) (whole x (Body-F.JoinInt a c) is ∙ variant.rolls-JoinInt a c) (plain refl)
    by (Body-F.Same a c) is = at (variant.Same a c) (whole x (Body-F.Same a c) is ∙ variant.rolls-Same a c) (plain refl)
    by (Body-F.Differ a c) is = at (variant.Differ a c) (whole x (Body-F.Differ a c) is ∙ variant.rolls-Differ a c) (plain refl)
    by (Body-F.And a c) is = absurd (no_and a c (whole x (Body-F.And a c) is ∙ variant.rolls-And a c))
    by (Body-F.Or a c) is = absurd (no_or a c (whole x (Body-F.Or a c) is ∙ variant.rolls-Or a c))
    by (Body-F.Choose a c d) is = absurd (no_choose a c d (whole x (Body-F.Choose a c d) is ∙ variant.rolls-Choose a c d))
    by (Body-F.Equals a c) is = at (variant.Equals a c) (whole x (Body-F.Equals a c) is ∙ variant.rolls-Equals a c) (plain refl)
    by (Body-F.InstanceOf a n) is = at (variant.InstanceOf a n) (whole x (Body-F.InstanceOf a n) is ∙ variant.rolls-InstanceOf a n) (plain refl)
    by (Body-F.CastTo n a) is = at (variant.CastTo n a) (whole x (Body-F.CastTo n a) is ∙ variant.rolls-CastTo n a) (plain refl)
    by (Body-F.Child a n) is = at (variant.Child a n) (whole x (Body-F.Child a n) is ∙ variant.rolls-Child a n) (plain refl)
    by (Body-F.Element a n c) is = at (variant.Element a n c) (whole x (Body-F.Element a n c) is ∙ variant.rolls-Element a n c) (plain refl)
    by (Body-F.Count a n) is = at (variant.Count a n) (whole x (Body-F.Count a n) is ∙ variant.rolls-Count a n) (plain refl)
    by (Body-F.Has a n) is = at (variant.Has a n) (whole x (Body-F.Has a n) is ∙ variant.rolls-Has a n) (plain refl)
    by (Body-F.TokenOf a n) is = at (variant.TokenOf a n) (whole x (Body-F.TokenOf a n) is ∙ variant.rolls-TokenOf a n) (plain refl)
    by (Body-F.Call a n bs) is = absurd (no_call a n bs (whole x (Body-F.Call a n bs) is ∙ variant.rolls-Call a n bs))
    by (Body-F.Passed a) is = at (variant.Passed a) (whole x (Body-F.Passed a) is ∙ variant.rolls-Passed a) (plain refl)
    by (Body-F.Exists a n c) is = absurd (no_exists a n c (whole x (Body-F.Exists a n c) is ∙ variant.rolls-Exists a n c))
    by (Body-F.First a n c) is = at (variant.First a n c) (whole x (Body-F.First a n c) is ∙ variant.rolls-First a n c) (plain refl)
    by (Body-F.Sum a n c) is = at (variant.Sum a n c) (whole x (Body-F.Sum a n c) is ∙ variant.rolls-Sum a n c) (plain refl)
    by (Body-F.SeekAny a l c) is = absurd (no_seek a l c (whole x (Body-F.SeekAny a l c) is ∙ variant.rolls-SeekAny a l c))
    by (Body-F.SeekFirst a l c) is = at (variant.SeekFirst a l c) (whole x (Body-F.SeekFirst a l c) is ∙ variant.rolls-SeekFirst a l c) (plain refl)
