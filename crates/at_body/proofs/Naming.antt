-- What names stand for.
use Rattle.std.proofs.Common.{◌≡◌, ◌-◌, ℕ, zero, suc, List, [], ◌∷◌, length, map, refl, ap, ◌∙◌, Result, Ok, Err, IfOk, arith, Option, Some, None, IfSome, slice_get}
use Rattle.at_model.specs.Run.{Value, Ref, Run, Gives}
use Rattle.at_model.specs.Bodies.{named}
use Rattle.at_body.specs.Standing.{names, scope}
use Rattle.at_model.specs.Classes.{Classes}
use Rattle.at_body.specs.Rest.{rest, resumed, place_of}
use Rattle.at_body.specs.declared.trial.Trial.{Trial}
use Rattle.at_body.specs.declared.todo.Now.{Now}
use Rattle.at_body.specs.Values.{value_view}
use Rattle.at_body.specs.declared.value.Value.{Value as ValueCode}

pub is_bound : (ns : List ℕ) (vs : List (Value ℕ)) (i n : ℕ) → slice_get ns i ≡ Some n → named (names ns vs) i ≡ Ref (Some n)
is_bound [] vs zero n e = absurd (cc)
is_bound [] vs (suc i) n e = absurd (cc)
is_bound (m ∷ ns) vs zero n e = let f : m ≡ n = cc in rw f refl
is_bound (m ∷ ns) vs (suc i) n e = is_bound ns vs i n e

-- the value of a name
pub gives_name : (res : Option ValueCode) (v : Value ℕ) → IfSome res (λ w. v ≡ value_view w) → IfSome res (λ w. ◌≡◌ {A = Run ℕ (Value ℕ)} (Gives v) (Gives (value_view w)))
gives_name (Some w) v e = ap Gives e
gives_name None v e = tt

pub is_behind : (ns : List ℕ) (vs : List (Value ℕ)) (i j : ℕ) → slice_get ns i ≡ None → j ≡ i - length ns → named (names ns vs) i ≡ named vs j
is_behind [] vs i j e f = let g : j ≡ i = omega (arith, f) in rw g refl
is_behind (m ∷ ns) vs zero j e f = absurd (cc)
is_behind (m ∷ ns) vs (suc i) j e f = is_behind ns vs i j e (omega (arith, f))

pub is_passed : (vs : List ValueCode) (j : ℕ) (v : ValueCode) → Some v ≡ slice_get vs j → named (map value_view vs) j ≡ value_view v
is_passed [] zero v e = absurd (cc)
is_passed [] (suc j) v e = absurd (cc)
is_passed (w ∷ vs) zero v e = let f : w ≡ v = cc in rw f refl
is_passed (w ∷ vs) (suc j) v e = is_passed vs j v e

pub is_none : (vs : List ValueCode) (j : ℕ) → None ≡ slice_get vs j → named (map value_view vs) j ≡ Ref None
is_none [] zero e = refl
is_none [] (suc j) e = refl
is_none (w ∷ vs) zero e = absurd (cc)
is_none (w ∷ vs) (suc j) e = is_none vs j e

pub behind : {E : Type 0} (classes : Classes) (t : Trial) (i : ℕ) (res : Result Now E) → slice_get t.bound i ≡ None →
    IfOk res (λ now. resumed classes t (named (map value_view t.arguments) (i - length t.bound)) ≡ rest classes now t) →
    IfOk res (λ now. resumed classes t (named (scope (place_of t)).names i) ≡ rest classes now t)
behind classes t i (Ok now) e h = ap (resumed classes t) (is_behind t.bound (map value_view t.arguments) i (i - length t.bound) e refl) ∙ h
behind classes t i (Err e') e h = tt
