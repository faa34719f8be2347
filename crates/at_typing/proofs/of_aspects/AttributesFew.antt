-- J11: its test finds nothing exactly where there are few attributes and short texts.
use Rattle.std.proofs.Common.{◌≡◌, ℕ, zero, suc, ◌<◌, ◌≤◌, ◌↔◌, Bool, true, false, ◌&&◌, not, List, [], ◌∷◌, length, take, Option, Some, None, refl, sym, ap, ◌∙◌, subst, arith}
use Rattle.std.specs.Prelude.{cond, filter, nat_lt, option_and_then, option_map}
use Rattle.std.specs.List.{slice_get}
use Rattle.std.proofs.lemmas.Bool.{ltb-true, ltb-false}
use Rattle.std.proofs.lemmas.Option.{none-some}
use Rattle.at_model.proofs.FirstGiven.{none_at, none_anywhere}
use Rattle.at_model.proofs.GrammarKept.{off_not}
use Rattle.at_model.proofs.Options.{unmapped}
use Rattle.at_jrag.specs.Syntax.{Body}
use Rattle.at_kinds.specs.declared.code.RuleCode.TheVariants as code
use Rattle.at_typing.specs.AspectRules.{AreFew}
use Rattle.at_typing.specs.Declaring.{attributes, body_in, fault_at, fault_if, is_attribute, is_too_many, limit_at, long_text, max_attributes, over_limit}
use Rattle.at_typing.specs.Located.{Located}
use Rattle.at_typing.proofs.Gathering.{first_none, other_none}
use Rattle.at_typing.proofs.of_aspects.FaultNowhere.{unfaulted, faultless, both_none}
use Rattle.at_typing.proofs.of_aspects.TextsShort.{short, none_long}

module _ {A : Type 0} (f : A → Bool) where
  -- before each one that is counted fewer are
  abbrev HasRoom : ℕ → List A → Type 0
  HasRoom n xs = (i : ℕ) (x : A) → slice_get xs i ≡ Some x → f x ≡ true → length (filter f (take i xs)) < n

  few : (xs : List A) (n : ℕ) → HasRoom n xs → length (filter f xs) ≤ n
  few [] n room = omega arith
  few (x ∷ xs) n room = by (f x) refl n room (few xs)
    where
      inside : (b : Bool) → f x ≡ b → (n i : ℕ) (y : A) → HasRoom n (x ∷ xs) → slice_get xs i ≡ Some y → f y ≡ true → length (cond b (x ∷ filter f (take i xs)) (filter f (take i xs))) < n
      inside b e n i y room at is = subst (λ c. length (cond c (x ∷ filter f (take i xs)) (filter f (take i xs))) < n) e (room (suc i) y at is)

      by : (b : Bool) → f x ≡ b → (n : ℕ) → HasRoom n (x ∷ xs) → ((m : ℕ) → HasRoom m xs → length (filter f xs) ≤ m) → length (cond b (x ∷ filter f xs) (filter f xs)) ≤ n
      by true e zero room rest = let l = room 0 x refl e in absurd (omega (arith, l))
      by true e (suc m) room rest = let l = rest m (λ i y at is. let k = inside true e (suc m) i y room at is in omega (arith, k)) in omega (arith, l)
      by false e n room rest = rest n (λ i y at is. inside false e n i y room at is)

  room : (xs : List A) (n : ℕ) → length (filter f xs) ≤ n → HasRoom n xs
  room [] n l = λ i x at is. absurd (none-some x at)
  room (x ∷ xs) n l = by (f x) refl n l (room xs)
    where
      one : (y : A) → Some x ≡ Some y → f y ≡ true → f x ≡ true
      one y e is = let same : y ≡ x = cc in subst (λ z. f z ≡ true) same is

      by : (b : Bool) → f x ≡ b → (n : ℕ) → length (cond b (x ∷ filter f xs) (filter f xs)) ≤ n → ((m : ℕ) → length (filter f xs) ≤ m → HasRoom m xs) → HasRoom n (x ∷ xs)
      by b e n l rest zero y at is = let g : b ≡ true = sym e ∙ one y at is in first b g l
        where
          first : (b : Bool) → b ≡ true → length (cond b (x ∷ filter f xs) (filter f xs)) ≤ n → 0 < n
          first true g l = omega (arith, l)
          first false g l = absurd cc
      by b e n l rest (suc i) y at is = subst (λ c. length (cond c (x ∷ filter f (take i xs)) (filter f (take i xs))) < n) (sym e) (next b n l)
        where
          next : (b : Bool) (n : ℕ) → length (cond b (x ∷ filter f xs) (filter f xs)) ≤ n → length (cond b (x ∷ filter f (take i xs)) (filter f (take i xs))) < n
          next true zero l = absurd (omega (arith, l))
          next true (suc m) l = let k = rest m (omega (arith, l)) i y at is in omega (arith, k)
          next false n l = rest n l i y at is

has_room : (b : Bool) (n m : ℕ) → (b && not (nat_lt n m)) ≡ false → b ≡ true → n < m
has_room true n m e f = ltb-true n m (off_not (nat_lt n m) e)
has_room false n m e f = absurd cc

room_has : (b : Bool) (n m : ℕ) → (b ≡ true → n < m) → (b && not (nat_lt n m)) ≡ false
room_has false n m h = refl
room_has true n m h = by (nat_lt n m) refl
  where
    by : (c : Bool) → nat_lt n m ≡ c → not c ≡ false
    by true e = refl
    by false e = let l = ltb-false n m e in let k = h refl in absurd (omega (arith, l, k))

module _ (ds : List Located) where
  abbrev long_in : Located → Option Body → Type 0
  long_in d o = option_map (fault_at code.Limit d) (option_and_then (λ b. long_text b.expr) o) ≡ None

  short_in : (d : Located) (b : Body) (o : Option Body) → o ≡ Some b → long_in d o → long_text b.expr ≡ None
  short_in d b o is none = ap (option_and_then (λ (b : Body). long_text b.expr)) (sym is) ∙ unmapped (fault_at code.Limit d) (option_and_then (λ b. long_text b.expr) o) none

  in_short : (d : Located) (o : Option Body) → ((b : Body) → o ≡ Some b → long_text b.expr ≡ None) → long_in d o
  in_short d None h = refl
  in_short d (Some b) h = ap (option_map (fault_at code.Limit d)) (h b refl)

  pub limits : (over_limit ds ≡ None) ↔ AreFew ds
  limits = (
    λ none.
        let each : (i : ℕ) (d : Located) → slice_get ds i ≡ Some d → limit_at ds i d ≡ None = none_at (limit_at ds) ds none in
        record {
          attributes = few (λ (d : Located). is_attribute d.decl.form) ds max_attributes (λ i d at is.
              has_room (is_attribute d.decl.form) (length (attributes (take i ds))) max_attributes
              (unfaulted (is_too_many (take i ds) d) code.Limit d (first_none (fault_if (is_too_many (take i ds) d) code.Limit d) _ (each i d at))) is);
          texts = λ i d b text at is has. short has (short_in d b (body_in d.decl.form) is (other_none (fault_if (is_too_many (take i ds) d) code.Limit d) _ (each i d at)));
        },
    λ h. none_anywhere (limit_at ds) ds (λ i d at.
        both_none (fault_if (is_too_many (take i ds) d) code.Limit d) _
        (faultless (is_too_many (take i ds) d) code.Limit d (room_has (is_attribute d.decl.form) (length (attributes (take i ds))) max_attributes
        (λ is. room (λ (d : Located). is_attribute d.decl.form) ds max_attributes h.attributes i d at is)))
        (in_short d (body_in d.decl.form) (λ b is. none_long b.expr (λ text has. h.texts i d b text at is has)))),
  )
