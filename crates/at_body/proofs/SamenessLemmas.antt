-- Instances in the code's words and in the model's.
use Rattle.std.proofs.Common.{◌≡◌, ℕ, Bool, true, false, not, List, [], ◌∷◌, ◌++◌, map, length, suc, nat_eq, ◌==◌, ap, ◌∙◌, refl, sym}
use Rattle.std.proofs.Common.{arith, eq-eqb, true≢false}
use Rattle.std.proofs.lemmas.Bool.{and_parts, eqb-true}
use Rattle.std.specs.List.{fold, flat_map}
use Rattle.std.specs.Hash.{fed_then}
use Rattle.std.specs.Hash as fed
use Rattle.std.specs.Cmp.Lexicographic.{pointwise, pointwise_decides}
use Rattle.std.specs.Cmp.Derive.Mapped.{pointwise-map}
use Rattle.at_model.specs.Run.{Instance, Value}
use Rattle.at_body.specs.declared.value.Value.{Value as ValueCode}
use Rattle.at_body.specs.Values.{value_view}
use Rattle.at_body.specs.Same.{same_value, same_instance, value_writes, place_number, arguments_writes, instance_writes}
use Rattle.at_body.specs.Sameness.{values_decided}

not_off : (b : Bool) → false ≡ not b → b ≡ true
not_off true e = refl
not_off false e = e

pub same_rest : (i j : Instance ℕ) (xs ys : List ValueCode) (r : Bool) → false ≡ not (nat_eq i.node j.node) → false ≡ not (nat_eq i.attribute j.attribute) → i.arguments ≡ map value_view xs → j.arguments ≡ map value_view ys →
    r ≡ pointwise (λ v w. same_value (value_view v) (value_view w)) xs ys → r ≡ same_instance i j
same_rest i j xs ys r e f g h is = rw (not_off _ e, not_off _ f, g, h) (is ∙ sym (pointwise-map value_view same_value xs ys))

-- the same, with the arguments told by their comparison
pub same_behind : (i j : Instance ℕ) (xs ys : List ValueCode) {r : Bool}
    → r ≡ pointwise (λ v w. same_value (value_view v) (value_view w)) xs ys
    → false ≡ not (nat_eq i.node j.node) → false ≡ not (nat_eq i.attribute j.attribute)
    → i.arguments ≡ map value_view xs → j.arguments ≡ map value_view ys → r ≡ same_instance i j
same_behind i j xs ys {r} is e f g h = same_rest i j xs ys r e f g h is

abbrev instance : ℕ → ℕ → List (Value ℕ) → Instance ℕ
instance n a vs = record { node = n; attribute = a; arguments = vs }

-- instances that the test finds the same are equal
pub same_true : (i j : Instance ℕ) → same_instance i j ≡ true → i ≡ j
same_true i j e =
    let b = and_parts _ _ e in
    let c = and_parts _ _ b.1 in
    ap (λ n. instance n i.attribute i.arguments) (eqb-true i.node j.node b.0)
    ∙ ap (λ a. instance j.node a i.arguments) (eqb-true i.attribute j.attribute c.0)
    ∙ ap (λ vs. instance j.node j.attribute vs) ((pointwise_decides values_decided i.arguments j.arguments).0 c.1)

flat : (xs : List ValueCode) → flat_map (λ v. value_writes (value_view v)) xs ≡ flat_map value_writes (map value_view xs)
flat [] = refl
flat (x ∷ xs) = ap (λ ws. value_writes (value_view x) ++ ws) (flat xs)

long : (xs : List ValueCode) → length xs ≡ length (map value_view xs)
long [] = refl
long (x ∷ xs) = ap (λ n. suc n) (long xs)

slices : (xs : List ValueCode) → fed.slice (λ v. value_writes (value_view v)) xs ≡ fed.slice value_writes (map value_view xs)
slices xs = ap (λ n. fed.usize n ++ flat_map (λ v. value_writes (value_view v)) xs) (long xs) ∙ ap (λ ws. fed.usize (length (map value_view xs)) ++ ws) (flat xs)

none_writes : (xs : List ValueCode) → (length xs == 0) ≡ true → arguments_writes (map value_view xs) ≡ []
none_writes [] h = refl
none_writes (x ∷ xs) h = let e : length (x ∷ xs) ≡ 0 = eqb-true (length (x ∷ xs)) 0 h in absurd (omega arith)

some_writes : (xs : List ValueCode) → (length xs == 0) ≡ false → arguments_writes (map value_view xs) ≡ fed.slice value_writes (map value_view xs)
some_writes [] h = absurd (true≢false (sym (eq-eqb 0 0 refl) ∙ h))
some_writes (x ∷ xs) h = refl

-- without arguments nothing follows the place
pub place_fed : {S : Type 0} (write : S → List ℕ → S) (s t : S) (i : Instance ℕ) (xs : List ValueCode) → i.arguments ≡ map value_view xs → (length xs == 0) ≡ true →
    t ≡ fold write s (fed.u64 (place_number i)) → t ≡ fold write s (instance_writes i)
place_fed write s t i xs e l p = fed_then write s t t (fed.u64 (place_number i)) (arguments_writes i.arguments) p (rw (e, none_writes xs l) refl)

pub instance_fed : {S : Type 0} (write : S → List ℕ → S) (s t w : S) (i : Instance ℕ) (xs : List ValueCode) → i.arguments ≡ map value_view xs → (length xs == 0) ≡ false →
    t ≡ fold write s (fed.u64 (place_number i)) → w ≡ fold write t (fed.slice (λ v. value_writes (value_view v)) xs) → w ≡ fold write s (instance_writes i)
instance_fed write s t w i xs e l p r =
    fed_then write s t w (fed.u64 (place_number i)) (arguments_writes i.arguments) p (rw (e, some_writes xs l) (r ∙ ap (fold write t) (slices xs)))
