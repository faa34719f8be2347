-- Look-ups among entries.
use Rattle.std.proofs.Common.{◌≡◌, ◌+◌, ◌<◌, ℕ, zero, suc, arith, get_or, take, length, slice_get, Bool, true, false, List, [], ◌∷◌, ◌++◌, Option, Some, None, ◌⊎◌, inl, inr, refl, sym, ap, ◌∙◌, subst, if◌then◌else◌, cond, true≢false, is_some}
use Rattle.std.proofs.lemmas.List.{take_more}
use Rattle.std.proofs.lemmas.Option.{none-some, same_Some}
use Rattle.std.specs.Bool.{MatchBool}
use Rattle.std.specs.Map.{keys_of, lookup, lookup_key}
use Rattle.indexmap.specs.IndexMap.{insert_entry}
use Rattle.at_model.specs.Run.{Instance}
use Rattle.at_model.specs.Meaning.{Among}
use Rattle.at_model.proofs.Listed.{among_left}
use Rattle.at_model.proofs.Members.{among_last, among_push}
use Rattle.at_body.specs.Same.{same_instance}
use Rattle.at_demand.specs.declared.evaluation.Find.{Find}
use Rattle.at_demand.specs.Known.{IsFound}
use Rattle.at_evaluate.proofs.Sameness.{same_true, same_refl, apart}

cases : (b : Bool) → (b ≡ true) ⊎ (b ≡ false)
cases true = inl refl
cases false = inr refl

module _ {X : Type 0} where
  -- an instance that isn't among the keys has gone entry
  pub absent : (es : List (Instance ℕ × X)) (i : Instance ℕ) → (Among i (keys_of es) → ⊥) → lookup (same_instance i) es ≡ None
  absent [] i gone = refl
  absent (e ∷ es) i gone = rw (apart i e.0 (λ h. gone (inl h))) (absent es i (λ h. gone (inr h)))

  -- and one with gone entry isn't among them
  pub no_key : (es : List (Instance ℕ × X)) (i : Instance ℕ) → lookup (same_instance i) es ≡ None → Among i (keys_of es) → ⊥
  no_key [] i none h = h
  no_key (e ∷ es) i none h = by (same_instance i e.0) refl none h (no_key es i)
    where
      by : (b : Bool) → same_instance i e.0 ≡ b → (if b then Some e.1 else lookup (same_instance i) es) ≡ None → Among i (e.0 ∷ keys_of es) → (lookup (same_instance i) es ≡ None → Among i (keys_of es) → ⊥) → ⊥
      by true s f h more = absurd cc
      by false s f (inl h) more = true≢false (sym (ap (same_instance i) (sym h) ∙ same_refl i) ∙ s)
      by false s f (inr h) more = more f h

  -- a new entry goes last
  pub goes_last : (es : List (Instance ℕ × X)) (i : Instance ℕ) (x : X) → (Among i (keys_of es) → ⊥) → insert_entry same_instance es i x ≡ es ++ (i, x) ∷ []
  goes_last [] i x gone = refl
  goes_last (e ∷ es) i x gone = rw (apart i e.0 (λ h. gone (inl h))) (ap (λ fs. e ∷ fs) (goes_last es i x (λ h. gone (inr h))))

  -- what is found once an entry goes last
  pub lookup_push : (es : List (Instance ℕ × X)) (i j : Instance ℕ) (x y : X) → lookup (same_instance j) (es ++ (i, x) ∷ []) ≡ Some y → (lookup (same_instance j) es ≡ Some y) ⊎ ((j ≡ i) × (x ≡ y))
  lookup_push [] i j x y f = by (same_instance j i) refl f
    where
      by : (b : Bool) → same_instance j i ≡ b → (if b then Some x else None) ≡ Some y → (◌≡◌ {A = Option X} None (Some y)) ⊎ ((j ≡ i) × (x ≡ y))
      by true s f = inr (same_true j i s, cc)
      by false s f = absurd cc
  lookup_push (e ∷ es) i j x y f = by (same_instance j e.0) f (lookup_push es i j x y)
    where
      by : (b : Bool) → (if b then Some e.1 else lookup (same_instance j) (es ++ (i, x) ∷ [])) ≡ Some y → (lookup (same_instance j) (es ++ (i, x) ∷ []) ≡ Some y → (lookup (same_instance j) es ≡ Some y) ⊎ ((j ≡ i) × (x ≡ y))) → ((if b then Some e.1 else lookup (same_instance j) es) ≡ Some y) ⊎ ((j ≡ i) × (x ≡ y))
      by true f more = inl f
      by false f more = more f

  pub length_push : (es : List (Instance ℕ × X)) (e : Instance ℕ × X) → length (es ++ e ∷ []) ≡ suc (length es)
  length_push [] e = refl
  length_push (d ∷ es) e = ap suc (length_push es e)

  pub keys_push : (es : List (Instance ℕ × X)) (i : Instance ℕ) (x : X) → keys_of (es ++ (i, x) ∷ []) ≡ keys_of es ++ i ∷ []
  keys_push [] i x = refl
  keys_push (e ∷ es) i x = ap (λ ks. e.0 ∷ ks) (keys_push es i x)

  key_there : (es : List (Instance ℕ × X)) (j : Instance ℕ) → is_some (lookup (same_instance j) es) ≡ true → Among j (keys_of es)
  key_there [] j h = absurd (true≢false (sym h))
  key_there (e ∷ es) j h = by (same_instance j e.0) refl h (key_there es j)
    where
      by : (b : Bool) → same_instance j e.0 ≡ b → is_some (if b then Some e.1 else lookup (same_instance j) es) ≡ true → (is_some (lookup (same_instance j) es) ≡ true → Among j (keys_of es)) → Among j (e.0 ∷ keys_of es)
      by true s f more = inl (same_true j e.0 s)
      by false s f more = inr (more f)

  none_of : (o : Option X) → false ≡ is_some o → o ≡ None
  none_of None e = refl
  none_of (Some x) e = absurd (true≢false (sym e))

-- the key that is found passes the test
pub key_passes : {K X : Type 0} (test : K → Bool) (es : List (K × X)) (k : K) → lookup_key test es ≡ Some k → test k ≡ true
key_passes test [] k e = absurd cc
key_passes test (x ∷ es) k e = by (test x.0) refl e (key_passes test es k)
  where
    by : (b : Bool) → test x.0 ≡ b → cond b (Some x.0) (lookup_key test es) ≡ Some k → (lookup_key test es ≡ Some k → test k ≡ true) → test k ≡ true
    by true s f more = let same : x.0 ≡ k = cc in ap test (sym same) ∙ s
    by false s f more = more f

-- another one than the last is among the others
pub not_last : (ks : List (Instance ℕ)) (i j : Instance ℕ) → same_instance i j ≡ false → (Among j ks → ⊥) → Among j (ks ++ i ∷ []) → ⊥
not_last ks i j s gone h = elim (among_push ks j i h) [
  | inl a ↦ gone a
  | inr f ↦ true≢false (sym (ap (same_instance i) f ∙ same_refl i) ∙ s)
]

-- whether an instance is a key
pub is_key : {X : Type 0} (b : Bool) (es : List (Instance ℕ × X)) (i : Instance ℕ) → b ≡ is_some (lookup (same_instance i) es) → MatchBool b (Among i (keys_of es)) (Among i (keys_of es) → ⊥)
is_key true es i e = key_there es i (sym e)
is_key false es i e = no_key es i (none_of (lookup (same_instance i) es) e)

-- it is, where it is the same as one of them
pub same_key : (ks : List (Instance ℕ)) (n : ℕ) (k i : Instance ℕ) → n < length ks → k ≡ get_or ks n k → same_instance k i ≡ true → Among i ks
same_key [] n k i less is s = absurd (omega (arith, less))
same_key (x ∷ xs) zero k i less is s = inl (sym (same_true k i s) ∙ is)
same_key (x ∷ xs) (suc n) k i less is s = inr (same_key xs n k i (omega (arith, less)) is s)

-- and isn't one of the first ones, where it is the same as none of these
pub other_key : (ks : List (Instance ℕ)) (n : ℕ) (k i : Instance ℕ) → n < length ks → k ≡ get_or ks n k → same_instance k i ≡ false → (Among i (take n ks) → ⊥) → Among i (take (n + 1) ks) → ⊥
other_key ks n k i less is s gone h = not_last (take n ks) k i s gone (subst (Among i) (take_more ks n k less ∙ ap (λ x. take n ks ++ x ∷ []) (sym is)) h)

-- whether it is the last one, or one before it
pub is_last : (ks : List (Instance ℕ)) (i j : Instance ℕ) → same_instance i j ≡ true → Among j (ks ++ i ∷ [])
is_last ks i j e = subst (λ x. Among x (ks ++ i ∷ [])) (same_true i j e) (among_last ks i)

pub is_before : (b : Bool) (ks : List (Instance ℕ)) (i j : Instance ℕ) → MatchBool b (Among j ks) (Among j ks → ⊥) → same_instance i j ≡ false → MatchBool b (Among j (ks ++ i ∷ [])) (Among j (ks ++ i ∷ []) → ⊥)
is_before true ks i j there s = among_left j ks (i ∷ []) there
is_before false ks i j gone s = not_last ks i j s gone

-- what was found stands under its instance
pub found_once : (found : List (Instance ℕ × Find)) (j : Instance ℕ) → IsFound found j → (f : Find) × (lookup (same_instance j) found ≡ Some f)
found_once found j (p, f, at) = by found p at
  where
    by : (fs : List (Instance ℕ × Find)) (p : ℕ) → slice_get fs p ≡ Some (j, f) → (g : Find) × (lookup (same_instance j) fs ≡ Some g)
    by [] p e = absurd (none-some (j, f) e)
    by (x ∷ fs) zero e = here (same_instance j x.0) refl
      where
        here : (b : Bool) → same_instance j x.0 ≡ b → (g : Find) × ((if b then Some x.1 else lookup (same_instance j) fs) ≡ Some g)
        here true is = (x.1, refl)
        here false is = absurd (true≢false (sym (ap (λ (y : Instance ℕ × Find). same_instance j y.0) (same_Some x (j, f) e) ∙ same_refl j) ∙ is))
    by (x ∷ fs) (suc p) e = behind (same_instance j x.0) (by fs p e)
      where
        behind : (b : Bool) → (g : Find) × (lookup (same_instance j) fs ≡ Some g) → (g : Find) × ((if b then Some x.1 else lookup (same_instance j) fs) ≡ Some g)
        behind true r = (x.1, refl)
        behind false r = r
