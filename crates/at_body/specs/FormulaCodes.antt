-- Formulas as lists of marks, which give them back: by such a list a formula is told from others.
use Rattle.std.specs.Prelude.{◌≡◌, ℕ, ℤ, Bool, true, false, List, [], ◌∷◌, Option, ◌⊎◌, refl}
use Rattle.std.specs.Coded.{Coded, code_by, coded×, coded⊎, coded_list, coded_option, coded_bool, coded_ℕ, coded_ℤ}
use Rattle.std.proofs.Common.{ap, ◌∙◌, inl, inr}
use Rattle.at_model.specs.Run.{Value, Instance, Int, Truth, Text, Ref, Nodes}
use Rattle.at_model.specs.of_fixpoints.Formulas.{Formula, Known, Asks, Both, Either}

abbrev pub ValueMark : Type 0
ValueMark = ℤ ⊎ (Bool ⊎ (List ℕ ⊎ (Option ℕ ⊎ List ℕ)))

abbrev pub value_mark : Value ℕ → ValueMark
value_mark (Int n) = inl n
value_mark (Truth b) = inr (inl b)
value_mark (Text bytes) = inr (inr (inl bytes))
value_mark (Ref n) = inr (inr (inr (inl n)))
value_mark (Nodes ns) = inr (inr (inr (inr ns)))

abbrev pub value_marked : ValueMark → Value ℕ
value_marked (inl n) = Int n
value_marked (inr (inl b)) = Truth b
value_marked (inr (inr (inl bytes))) = Text bytes
value_marked (inr (inr (inr (inl n)))) = Ref n
value_marked (inr (inr (inr (inr ns)))) = Nodes ns

pub value_back : (v : Value ℕ) → value_marked (value_mark v) ≡ v
value_back (Int n) = refl
value_back (Truth b) = refl
value_back (Text bytes) = refl
value_back (Ref n) = refl
value_back (Nodes ns) = refl

abbrev pub value_code : Coded (Value ℕ)
value_code = code_by ValueMark
    (coded⊎ coded_ℤ (coded⊎ coded_bool (coded⊎ (coded_list coded_ℕ) (coded⊎ (coded_option coded_ℕ) (coded_list coded_ℕ)))))
    value_mark value_marked value_back

abbrev pub instance_code : Coded (Instance ℕ)
instance_code = code_by (ℕ × (ℕ × List (Value ℕ))) (coded× coded_ℕ (coded× coded_ℕ (coded_list value_code)))
    (λ i. (i.node, (i.attribute, i.arguments))) (λ p. record { node = p.0; attribute = p.1.0; arguments = p.1.1 }) (λ _. refl)

-- a value, an instance, or an operator on the two formulas in front of it
abbrev pub Mark : Type 0
Mark = Value ℕ ⊎ (Instance ℕ ⊎ Bool)

-- the marks of a formula before those behind it
abbrev pub marks : Formula ℕ → List Mark → List Mark
marks (Known v) tail = inl v ∷ tail
marks (Asks i) tail = inr (inl i) ∷ tail
marks (Both f g) tail = marks f (marks g (inr (inr true) ∷ tail))
marks (Either f g) tail = marks f (marks g (inr (inr false) ∷ tail))

-- an operator on the two formulas on top
abbrev pub operating : Bool → List (Formula ℕ) → List (Formula ℕ)
operating true (g ∷ f ∷ fs) = Both f g ∷ fs
operating false (g ∷ f ∷ fs) = Either f g ∷ fs
operating b fs = fs

abbrev pub marked : List (Formula ℕ) → List Mark → List (Formula ℕ)
marked fs [] = fs
marked fs (inl v ∷ ms) = marked (Known v ∷ fs) ms
marked fs (inr (inl i) ∷ ms) = marked (Asks i ∷ fs) ms
marked fs (inr (inr b) ∷ ms) = marked (operating b fs) ms

pub marked_back : (f : Formula ℕ) (fs : List (Formula ℕ)) (tail : List Mark) → marked fs (marks f tail) ≡ marked (f ∷ fs) tail
marked_back (Known v) fs tail = refl
marked_back (Asks i) fs tail = refl
marked_back (Both f g) fs tail = marked_back f fs (marks g (inr (inr true) ∷ tail)) ∙ marked_back g (f ∷ fs) (inr (inr true) ∷ tail)
marked_back (Either f g) fs tail = marked_back f fs (marks g (inr (inr false) ∷ tail)) ∙ marked_back g (f ∷ fs) (inr (inr false) ∷ tail)

abbrev pub first_marked : List (Formula ℕ) → Formula ℕ
first_marked [] = Known (Truth false)
first_marked (f ∷ fs) = f

abbrev pub formula_code : Coded (Formula ℕ)
formula_code = code_by (List Mark) (coded_list (coded⊎ value_code (coded⊎ instance_code coded_bool))) (λ f. marks f []) (λ ms. first_marked (marked [] ms))
    (λ f. ap first_marked (marked_back f [] []))
