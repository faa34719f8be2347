-- The first attribute of a class and a name, where attributes are noted one by one.
use Rattle.std.proofs.Common.{◌≡◌, ℕ, List, [], ◌∷◌, ◌++◌, length, refl, ap, ap₂, sym, ◌∙◌, Option, Some, None, true≢false}
use Rattle.std.specs.Prelude.{Bool, true, false, ◌&&◌, ◌||◌, cond, nat_eq, position, is_some, option_map, option_and_then}
use Rattle.std.specs.Map.{lookup, keys_of}
use Rattle.std.specs.Option.{option_or}
use Rattle.std.proofs.lemmas.Bool.{eqb-true}
use Rattle.std.proofs.lemmas.Iterator.Adapters.{position_from-zero}
use Rattle.at_model.proofs.Options.{both}
use Rattle.at_rules.specs.FirstNamed.{is_named, first_named, StandFirst}
use Rattle.at_rules.specs.Upward.{declares}
use Rattle.at_rules.proofs.Dispatching.{found_from, value_at}
use Rattle.at_rules.proofs.Earlier.{position_push}

pub none_noted : (es : List ((ℕ × ℕ) × ℕ)) → es ≡ [] → StandFirst [] es
none_noted es none = λ n cs. ap (lookup (declares n cs)) none ∙ sym (position_from-zero (is_named n cs) [])

-- one more entry
lookup_push : (test : ℕ × ℕ → Bool) (es : List ((ℕ × ℕ) × ℕ)) (k : ℕ × ℕ) (a : ℕ) → lookup test (es ++ (k, a) ∷ []) ≡ option_or (lookup test es) (cond (test k) (Some a) None)
lookup_push test [] k a = refl
lookup_push test (e ∷ es) k a = by (test e.0) (lookup_push test es k a)
  where
    by : (b : Bool) → lookup test (es ++ (k, a) ∷ []) ≡ option_or (lookup test es) (cond (test k) (Some a) None)
        → cond b (Some e.1) (lookup test (es ++ (k, a) ∷ [])) ≡ option_or (cond b (Some e.1) (lookup test es)) (cond (test k) (Some a) None)
    by true rest = refl
    by false rest = rest

-- the class and the name of the code
abbrev pub has_key : (class name : ℕ) → ℕ × ℕ → Bool
has_key c n k = nat_eq c k.0 && nat_eq n k.1

-- where one stands by a class and a name, one stands by each name and classes that they are among
stands_too : (test : ℕ × ℕ → Bool) (c n : ℕ) → test (c, n) ≡ true → (es : List ((ℕ × ℕ) × ℕ)) → is_some (lookup (has_key c n) es) ≡ true → is_some (lookup test es) ≡ true
stands_too test c n is [] there = absurd (true≢false (sym there))
stands_too test c n is (e ∷ es) there = by (test e.0) refl (has_key c n e.0) refl there (stands_too test c n is es)
  where
    by : (t : Bool) → test e.0 ≡ t → (h : Bool) → has_key c n e.0 ≡ h → is_some (cond h (Some e.1) (lookup (has_key c n) es)) ≡ true → (is_some (lookup (has_key c n) es) ≡ true → is_some (lookup test es) ≡ true)
        → is_some (cond t (Some e.1) (lookup test es)) ≡ true
    by true at h same there rest = refl
    by false at false other there rest = rest there
    by false at true same there rest =
        let k = both (nat_eq c e.0.0) (nat_eq n e.0.1) same in
        absurd (true≢false (sym (ap₂ (λ i j. test (i, j)) (sym (eqb-true c e.0.0 k.0)) (sym (eqb-true n e.0.1 k.1)) ∙ is) ∙ at))

stays : (o p : Option ℕ) → is_some o ≡ true → o ≡ option_or o p
stays (Some i) p is = refl
stays None p is = absurd (true≢false (sym is))

pub none_where : {A : Type 0} (o : Option A) → is_some o ≡ false → o ≡ None
none_where None is = refl
none_where (Some x) is = absurd (true≢false is)

or_none : (o : Option ℕ) → o ≡ option_or o None
or_none None = refl
or_none (Some i) = refl

-- the attribute isn't the first of its class and name
pub noted_before : (es : List ((ℕ × ℕ) × ℕ)) (ks : List (Option (ℕ × ℕ))) (c n : ℕ) → is_some (lookup (has_key c n) es) ≡ true → StandFirst ks es → StandFirst (ks ++ Some (c, n) ∷ []) es
noted_before es ks c n there are = λ m cs. are m cs ∙ by m cs (declares m cs (c, n)) refl ∙ sym (position_push (is_named m cs) ks (Some (c, n)))
  where
    by : (m : ℕ) (cs : List ℕ) (b : Bool) → declares m cs (c, n) ≡ b → first_named ks m cs ≡ option_or (first_named ks m cs) (cond (declares m cs (c, n)) (Some (length ks)) None)
    by m cs true is = stays (first_named ks m cs) _ (ap is_some (sym (are m cs)) ∙ stands_too (declares m cs) c n is es there)
    by m cs false is = or_none (first_named ks m cs) ∙ ap (λ b. option_or (first_named ks m cs) (cond b (Some (length ks)) None)) (sym is)

-- it is
pub noted_now : (es new : List ((ℕ × ℕ) × ℕ)) (ks : List (Option (ℕ × ℕ))) (c n a : ℕ) → new ≡ es ++ ((c, n), a) ∷ [] → a ≡ length ks → StandFirst ks es → StandFirst (ks ++ Some (c, n) ∷ []) new
noted_now es new ks c n a is number are = λ m cs.
    ap (lookup (declares m cs)) is
    ∙ lookup_push (declares m cs) es (c, n) a
    ∙ ap₂ (λ o i. option_or o (cond (declares m cs (c, n)) (Some i) None)) (are m cs) number
    ∙ sym (position_push (is_named m cs) ks (Some (c, n)))

-- one that is passed over
pub passed_over : (es : List ((ℕ × ℕ) × ℕ)) (ks : List (Option (ℕ × ℕ))) → StandFirst ks es → StandFirst (ks ++ None ∷ []) es
passed_over es ks are = λ m cs. are m cs ∙ or_none (first_named ks m cs) ∙ sym (position_push (is_named m cs) ks None)

-- look-ups ----------------------------------------------------------------------------------------------------------------

or_false : (b : Bool) → b ≡ (b || false)
or_false true = refl
or_false false = refl

-- the one of a class alone
pub found_own : (es : List ((ℕ × ℕ) × ℕ)) (c n : ℕ) → lookup (has_key c n) es ≡ lookup (declares n (c ∷ [])) es
found_own es c n = ap (λ test. lookup test es) (λ i k. or_false (has_key c n k) i)

itself : (o : Option ℕ) → option_map (λ x. x) o ≡ o
itself None = refl
itself (Some i) = refl

-- what stands at the first position is what is looked up
pub found_at_first : (test : ℕ × ℕ → Bool) (es : List ((ℕ × ℕ) × ℕ)) → option_and_then (value_at (λ x. x) es) (position test (keys_of es)) ≡ lookup test es
found_at_first test es =
    ap (option_and_then (value_at (λ x. x) es)) (position_from-zero test (keys_of es))
    ∙ sym (found_from (λ x. x) test es)
    ∙ itself (lookup test es)
