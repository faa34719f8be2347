-- Evaluations in one go: elements of a fold, and operands, that come to their value at once.
use Rattle.std.proofs.Common.{◌≡◌, ℕ, false, List, Option, Some, None, Result, Ok, Err, IfOk, IfSome, refl, sym, ap, subst}
use Rattle.at_model.specs.Bodies.{Expr}
use Rattle.at_model.specs.Classes.{Classes}
use Rattle.at_model.specs.Run.{Value, Instance, Location, Contents, Run, Gives, ◌>>=◌}
use Rattle.at_model.specs.Rules.{Rules, is_lazy}
use Rattle.at_store.specs.Shown.{Shown, contents}
use Rattle.at_rules.specs.Bodies.{body_view}
use Rattle.at_rules.specs.declared.body.Body.{Body}
use Rattle.at_body.specs.Rest.{ev, with_one}
use Rattle.at_body.specs.Standing.{Place, inside}
use Rattle.at_body.specs.Values.{value_view}
use Rattle.at_body.specs.declared.todo.Unary.{Unary}
use Rattle.at_body.specs.declared.value.Value.{Value as ValueCode}
use Rattle.at_evaluate.specs.Looking.{HasLooked, MayHaveLooked}
use Rattle.at_evaluate.specs.Near.{asked}
use Rattle.at_evaluate.specs.Parts.{one_of}
use Rattle.at_evaluate.specs.declared.direct.Level.{Level}
use Rattle.at_evaluate.specs.Valued.{equations}
use Rattle.at_evaluate.specs.Inner.{HasTold}
use Rattle.at_evaluate.specs.InParts.{AsksEachInner, AsksInner, HasCome, Held, MayHaveCome, values_in}
use Rattle.at_evaluate.proofs.of_nesting.Asked.{inner_told}
use Rattle.at_evaluate.proofs.of_parts.Directly.{come_looked, told_come}

-- what the evaluation of an instance comes to by looks alone is told, where its attribute isn't lazy
pub looked_told : (rules : Rules) (s : Shown) (h : Held) (old new : Level) (i : Instance ℕ) (v : Value ℕ) →
    is_lazy rules i.attribute ≡ false → new.uses.items ≡ old.uses.items →
    HasLooked (contents s) old.reads new.reads (equations rules i) v →
    HasTold rules (contents s) (values_in h) old new i v
looked_told rules s h old new i v lazy uses l =
    inner_told rules s h old new i v (come_looked rules s h old new (equations rules i) v uses l) lazy

-- within a fold, at an element of it
pub asks_inside : (rules : Rules) (p q : Place) (b : Body) (n : ℕ) (o : Option ℕ) → q ≡ inside p n →
    IfSome o (AsksEachInner rules p b) → IfSome o (AsksInner rules q b n)
asks_inside rules p q b n None there h = tt
asks_inside rules p q b n (Some a) there h = subst (λ z. AsksInner rules z b n a) (sym there) (record {
  asks = λ classes. h.asks classes n;
  inner = h.inner;
  own = h.own;
})

-- an expression that asks the element for an attribute comes to what the instance comes to by looks alone
pub plain_come : {E : Type 0} (rules : Rules) (s : Shown) (old : Level) (reads : List (Location ℕ)) (p : Place) (b : Body)
    (n a : ℕ) (res : Result (Option ValueCode) E) → AsksInner rules p b n a →
    IfOk res (MayHaveLooked (contents s) old.reads reads (equations rules (asked n a p.passed))) →
    IfOk res (MayHaveCome rules (contents s) old (record { reads = reads; uses = old.uses }) (ev rules.classes (body_view b) p))
plain_come rules s old reads p b n a (Err e) is h = tt
plain_come rules s old reads p b n a (Ok None) is h =
    ap (λ (ls : List (Location ℕ)). let l : Level = record { reads = ls; uses = old.uses } in l) h
plain_come rules s old reads p b n a (Ok (Some v)) is h = λ known. subst
    (λ (r : Run ℕ (Value ℕ)). HasCome rules (contents s) known old new r (value_view v)) (sym (is.asks rules.classes))
    (told_come rules s known old new i (value_view v) (looked_told rules s known old new i (value_view v) is.inner refl h))
  where
    i : Instance ℕ
    i = asked n a p.passed

    new : Level
    new = record { reads = reads; uses = old.uses }

-- an expression whose value is at hand looks at nothing
pub looked_at_hand : (look : Contents ℕ) (classes : Classes) (reads : List (Location ℕ)) (e : Expr) (p : Place) (o : Option ValueCode)
    → IfSome o (λ v. (cs : Classes) → ev cs e p ≡ Gives (value_view v)) → MayHaveLooked look reads reads (ev classes e p) o
looked_at_hand look classes reads e p None h = refl
looked_at_hand look classes reads e p (Some v) h =
    subst (λ (r : Run ℕ (Value ℕ)). HasLooked look reads reads r (value_view v)) (sym (h classes)) refl

-- what is done with a value at hand comes to what that comes to
pub looked_one : (look : Contents ℕ) (classes : Classes) (old new : List (Location ℕ)) (p : Place) (u : Unary) (b : Body) (x y : ValueCode)
    → ev classes (body_view b) p ≡ Gives (value_view x) → HasLooked look old new (with_one classes u (value_view x)) (value_view y)
    → HasLooked look old new (one_of classes p u b) (value_view y)
looked_one look classes old new p u b x y is h =
    subst (λ (r : Run ℕ (Value ℕ)). HasLooked look old new (r >>= with_one classes u) (value_view y)) (sym is) h
