-- What maps that keep the first value of each key have.
use Rattle.std.proofs.Common.{◌≡◌, Bool, true, false, cond, refl, ap, sym, ◌∙◌, Option, Some, None, true≢false}
use Rattle.std.specs.Prelude.{is_some, if◌then◌else◌}
use Rattle.std.specs.Cmp.{IsEquivalence}
use Rattle.std.specs.Option.{option_or}
use Rattle.indexmap.specs.IndexMap.{IndexMap, get, get_by}

-- what isn't noted
pub not_noted : {V : Type 0} (o : Option V) (v : V) (b : Bool) → b ≡ false → o ≡ option_or o (if b then Some v else None)
not_noted None v b e = rw e refl
not_noted (Some x) v b e = refl

right : {V : Type 0} (o : Option V) → o ≡ option_or o None
right None = refl
right (Some x) = refl

none_when : {V : Type 0} (o : Option V) → is_some o ≡ false → o ≡ None
none_when None e = refl
none_when (Some x) e = absurd (true≢false e)

module _ {K V S : Type 0} (eq : K → K → Bool) (laws : IsEquivalence eq) (m : IndexMap K V S) (key : K) (v : V) where
  -- keys that are equal have the same value
  equal : (k : K) → eq k key ≡ true → get eq m key ≡ get eq m k
  equal k e = ap (λ test. get_by test m) (λ i x. sym (laws.congr k key x e) i)

  -- where the key has a value
  pub noted_before : is_some (get eq m key) ≡ true → (k : K) → get eq m k ≡ option_or (get eq m k) (if eq k key then Some v else None)
  noted_before there k = by (get eq m k) refl
    where
      differs : (b : Bool) → eq k key ≡ b → get eq m k ≡ None → None ≡ (if b then Some v else None)
      differs false e none = refl
      differs true e none = absurd (true≢false (sym there ∙ ap is_some (equal k e ∙ none)))

      by : (o : Option V) → get eq m k ≡ o → o ≡ option_or o (if eq k key then Some v else None)
      by (Some x) is = refl
      by None is = differs (eq k key) refl is

  -- where it has none, and is given one
  pub noted_now : (n : IndexMap K V S) → is_some (get eq m key) ≡ false → ((q : K) → get eq n q ≡ cond (eq key q)
      (Some v) (get eq m q)) → (k : K) → get eq n k ≡ option_or (get eq m k) (if eq k key then Some v else None)
  noted_now n absent updates k = updates k ∙ ap (λ b. cond b (Some v) (get eq m k)) (laws.symm key k) ∙ by (eq k key) refl
    where
      by : (b : Bool) → eq k key ≡ b → cond b (Some v) (get eq m k) ≡ option_or (get eq m k) (if b then Some v else None)
      by true e = sym (ap (λ o. option_or o (Some v)) (sym (equal k e) ∙ none_when (get eq m key) absent))
      by false e = right (get eq m k)
