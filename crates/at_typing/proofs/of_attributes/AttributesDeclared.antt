-- The declaration of the attribute of a number.
use Rattle.std.proofs.Common.{◌≡◌, ℕ, zero, suc, ◌<◌, ◌≤◌, List, [], ◌∷◌, length, take, get_or, map, filter, refl, ap, sym, ◌∙◌, arith, Option, Some, None}
use Rattle.std.specs.Prelude.{Bool, true, false, cond, option_map, slice_get}
use Rattle.std.proofs.lemmas.List.{take_all}
use Rattle.std.proofs.lemmas.Option.{slice_get_past}
use Rattle.at_typing.specs.AttributeKeys.{attributes_in}
use Rattle.at_typing.specs.Declaring.{is_attribute, attributes}
use Rattle.at_typing.specs.Numbering.{numbered_view}
use Rattle.at_typing.specs.declared.numbered.Numbered.{Numbered as NumberedValue}

-- an element that passes the test is at its number among those that do
at_number : {X : Type 0} (a : X → Bool) (xs : List X) (k : ℕ) (x : X) → k < length xs → x ≡ get_or xs k x → a x ≡ true → slice_get (filter a xs) (length (filter a (take k xs))) ≡ Some x
at_number a [] k x less is test = absurd (omega (arith, less))
at_number a (y ∷ ys) zero x less is test = ap (λ b. slice_get (cond b (y ∷ filter a ys) (filter a ys)) 0) (ap a (sym is) ∙ test) ∙ ap Some (sym is)
at_number a (y ∷ ys) (suc k) x less is test = by (a y) (at_number a ys k x (omega (arith, less)) is test)
  where
    by : (b : Bool) → slice_get (filter a ys) (length (filter a (take k ys))) ≡ Some x → slice_get (cond b
        (y ∷ filter a ys) (filter a ys)) (length (cond b (y ∷ filter a (take k ys)) (filter a (take k ys)))) ≡ Some x
    by true rest = rest
    by false rest = rest

mapped : {A B : Type 0} (f : A → B) (xs : List A) (n : ℕ) → option_map f (slice_get xs n) ≡ slice_get (map f xs) n
mapped f [] n = refl
mapped f (x ∷ xs) zero = refl
mapped f (x ∷ xs) (suc n) = mapped f xs n

viewed : (ds : List NumberedValue) → attributes (map numbered_view ds) ≡ map numbered_view (attributes_in ds)
viewed [] = refl
viewed (d ∷ ds) = by (is_attribute (numbered_view d).decl.form) (viewed ds)
  where
    by : (b : Bool) → attributes (map numbered_view ds) ≡ map numbered_view (attributes_in ds)
        → cond b (numbered_view d ∷ attributes (map numbered_view ds)) (attributes (map numbered_view ds))
        ≡ map numbered_view (cond b (d ∷ attributes_in ds) (attributes_in ds))
    by true rest = ap (λ l. numbered_view d ∷ l) rest
    by false rest = rest

by_number : (ds : List NumberedValue) (n : ℕ) → option_map numbered_view (slice_get (attributes_in ds) n) ≡ slice_get (attributes (map numbered_view ds)) n
by_number ds n = mapped numbered_view (attributes_in ds) n ∙ ap (λ l. slice_get l n) (sym (viewed ds))

-- the one that has as many before it
pub declared_here : (ds : List NumberedValue) (k : ℕ) (d : NumberedValue) (n attribute : ℕ) → k < length ds → d ≡ get_or
    ds k d → is_attribute (numbered_view d).decl.form ≡ true → n ≡ length (attributes_in (take k ds)) → attribute ≡ n
    → Some (numbered_view d) ≡ slice_get (attributes (map numbered_view ds)) attribute
declared_here ds k d n attribute less is test count same =
    ap (option_map numbered_view) (sym (at_number (λ (e : NumberedValue). is_attribute (numbered_view e).decl.form) ds k d less is test) ∙ ap (slice_get (attributes_in ds)) (sym (same ∙ count)))
    ∙ by_number ds attribute

-- there are no more
pub declared_nowhere : (ds : List NumberedValue) (k n attribute : ℕ) → length ds ≤ k → n ≡ length
    (attributes_in (take k ds)) → n ≤ attribute → None ≡ slice_get (attributes (map numbered_view ds)) attribute
declared_nowhere ds k n attribute past count most =
    ap (option_map numbered_view) (sym (slice_get_past (attributes_in ds) attribute (omega (arith, most, count, ap (λ l. length (attributes_in l)) (take_all k ds past)))))
    ∙ by_number ds attribute
