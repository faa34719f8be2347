-- A walk meets each class once at most, and in the end all those to which one leads that was met.
use Rattle.std.proofs.Common.{◌≡◌, ℕ, zero, suc, ◌+◌, ◌<◌, ◌≤◌, ◌⊎◌, inl, inr, List, [], ◌∷◌, ◌++◌, length, length-append, refl, ap, ap₂, sym, ◌∙◌, subst, arith, true≢false, take, Option, Some, None}
use Rattle.std.specs.Prelude.{Bool, true, false, ◌||◌, ◌&&◌, not, nat_eq, nat_lt, get_or, set, replicate}
use Rattle.std.specs.List.{list_any}
use Rattle.std.specs.Option.{option_to_list, option_eq}
use Rattle.std.proofs.lemmas.Bool.{eqb-true, or_left, or_right, lt-ltb, ltb-true, and_from}
use Rattle.std.proofs.lemmas.List.{get_or-set_same, get_or-set_other, length-set}
use Rattle.std.proofs.lemmas.List.Folds.{list_any-append, list_any_more}
use Rattle.at_complete.specs.Walks.{is_in, has_met, met_count, Meets, Walked, Walking}
use Rattle.at_complete.proofs.Climbing.{no_list, same}
use Rattle.at_model.proofs.Options.{both}

pub or_cases : (a b : Bool) → (a || b) ≡ true → (a ≡ true) ⊎ ((a ≡ false) × (b ≡ true))
or_cases true b e = inl refl
or_cases false b e = inr (refl, e)

pub met_count-le : (met : List Bool) → met_count met ≤ length met
met_count-le [] = omega arith
met_count-le (true ∷ bs) = omega (arith, met_count-le bs)
met_count-le (false ∷ bs) = omega (arith, met_count-le bs)

pub met_count-set : (met : List Bool) (c : ℕ) → c < length met → has_met met c ≡ false → met_count (set met c true) ≡ met_count met + 1
met_count-set [] c less e = absurd (omega (arith, less))
met_count-set (false ∷ bs) zero less e = omega arith
met_count-set (true ∷ bs) zero less e = no_list (sym e)
met_count-set (true ∷ bs) (suc c) less e = omega (arith, met_count-set bs c (omega (arith, less)) e)
met_count-set (false ∷ bs) (suc c) less e = met_count-set bs c (omega (arith, less)) e

pub met_count-none : (n : ℕ) → met_count (replicate n false) ≡ 0
met_count-none zero = refl
met_count-none (suc n) = met_count-none n

pub has_met-none : (n c : ℕ) → has_met (replicate n false) c ≡ false
has_met-none zero c = refl
has_met-none (suc n) zero = refl
has_met-none (suc n) (suc c) = has_met-none n c

pub has_met-within : (met : List Bool) (c : ℕ) → has_met met c ≡ true → c < length met
has_met-within [] c e = no_list e
has_met-within (b ∷ bs) zero e = omega arith
has_met-within (b ∷ bs) (suc c) e = omega (arith, has_met-within bs c e)

-- the classes that pass no test
pub meets_none : (met : List Bool) (pending : List ℕ) → Meets (λ c. false) met met pending pending
meets_none met pending = record {
  size = refl;
  met_too = λ c. by (has_met met c) (nat_lt c (length met));
  waits = λ c. other (is_in c pending) (has_met met c);
  count = refl;
}
  where
    by : (a b : Bool) → a ≡ (a || (b && false))
    by true b = refl
    by false true = refl
    by false false = refl

    other : (a b : Bool) → a ≡ (a || (b && not b))
    other true b = refl
    other false true = refl
    other false false = refl

-- tests that are the same
pub meets_like : (p q : ℕ → Bool) → ((c : ℕ) → p c ≡ q c) → (met after : List Bool) (pending waiting : List ℕ) → Meets p met after pending waiting → Meets q met after pending waiting
meets_like p q like met after pending waiting m = record {
  size = m.size;
  met_too = λ c. m.met_too c ∙ ap (λ b. has_met met c || (nat_lt c (length met) && b)) (like c);
  waits = m.waits;
  count = m.count;
}

-- one after the other
pub meets_more : (p q : ℕ → Bool) (a b c : List Bool) (x y z : List ℕ) → Meets p a b x y → Meets q b c y z → Meets (λ e. p e || q e) a c x z
meets_more p q a b c x y z m n = record {
  size = n.size ∙ m.size;
  met_too = λ e. n.met_too e ∙ ap₂ (λ s t. s || (nat_lt e t && q e)) (m.met_too e) m.size ∙ met (has_met a e) (nat_lt e (length a)) (p e) (q e);
  waits = λ e. n.waits e
      ∙ ap (λ s. s || (has_met c e && not (has_met b e))) (m.waits e)
      ∙ waits (is_in e x) (has_met a e) (has_met b e) (has_met c e) (wider (has_met a e) (nat_lt e (length a) && p e)
      (has_met b e) (m.met_too e)) (wider (has_met b e) (nat_lt e (length b) && q e) (has_met c e) (n.met_too e));
  count = omega (arith, m.count, n.count);
}
  where
    met : (s t u v : Bool) → ((s || (t && u)) || (t && v)) ≡ (s || (t && (u || v)))
    met true t u v = refl
    met false true u v = refl
    met false false u v = refl

    wider : (s t u : Bool) → u ≡ (s || t) → s ≡ true → u ≡ true
    wider true t u e f = e
    wider false t u e f = no_list f

    waits : (s t u v : Bool) → (t ≡ true → u ≡ true) → (u ≡ true → v ≡ true) → ((s || (u && not t)) || (v && not u)) ≡ (s || (v && not t))
    waits true t u v f g = refl
    waits false true true true f g = refl
    waits false true true false f g = refl
    waits false true false v f g = no_list (f refl)
    waits false false true true f g = refl
    waits false false true false f g = no_list (g refl)
    waits false false false true f g = refl
    waits false false false false f g = refl

-- a number that no class has
pub meets_beyond : (met : List Bool) (pending : List ℕ) (d : ℕ) → length met ≤ d → Meets (λ c. nat_eq c d) met met pending pending
meets_beyond met pending d out = record {
  size = refl;
  met_too = λ c. by c (has_met met c) (nat_lt c (length met)) (nat_eq c d) refl refl;
  waits = (meets_none met pending).waits;
  count = refl;
}
  where
    by : (c : ℕ) (s t u : Bool) → nat_lt c (length met) ≡ t → nat_eq c d ≡ u → s ≡ (s || (t && u))
    by c true t u e f = refl
    by c false true true e f = absurd (omega (arith, out, ltb-true c (length met) e, eqb-true c d f))
    by c false true false e f = refl
    by c false false u e f = refl

-- a class that was met
pub meets_again : (met : List Bool) (pending : List ℕ) (d : ℕ) → has_met met d ≡ true → Meets (λ c. nat_eq c d) met met pending pending
meets_again met pending d there = record {
  size = refl;
  met_too = λ c. by c (has_met met c) (nat_lt c (length met)) (nat_eq c d) refl refl;
  waits = (meets_none met pending).waits;
  count = refl;
}
  where
    by : (c : ℕ) (s t u : Bool) → has_met met c ≡ s → nat_eq c d ≡ u → s ≡ (s || (t && u))
    by c true t u e f = refl
    by c false true true e f = no_list (sym e ∙ ap (has_met met) (eqb-true c d f) ∙ there)
    by c false true false e f = refl
    by c false false u e f = refl

set_there : (met : List Bool) (d c : ℕ) → d < length met → has_met (set met d true) c ≡ (has_met met c || (nat_lt c (length met) && nat_eq c d))
set_there met d c less = by (nat_eq c d) refl
  where
    off : (s t : Bool) → s ≡ (s || (t && false))
    off true t = refl
    off false true = refl
    off false false = refl

    by : (u : Bool) → nat_eq c d ≡ u → has_met (set met d true) c ≡ (has_met met c || (nat_lt c (length met) && nat_eq c d))
    by true e =
        let there = eqb-true c d e in
        ap (has_met (set met d true)) there ∙ get_or-set_same met d true false less
        ∙ sym (or_right (has_met met c) _ (and_from (nat_lt c (length met)) _ (lt-ltb c (length met) (subst (λ z. z < length met) (sym there) less)) e))
    by false e =
        get_or-set_other met d c true false (λ f. true≢false (sym (same c d f) ∙ e))
        ∙ off (has_met met c) (nat_lt c (length met)) ∙ ap (λ b. has_met met c || (nat_lt c (length met) && b)) (sym e)

-- a class that wasn't met
pub meets_new : (met : List Bool) (pending : List ℕ) (d : ℕ) → d < length met → has_met met d ≡ false
    → length (set met d true) ≡ length met → Meets (λ c. nat_eq c d) met (set met d true) pending (pending ++ d ∷ [])
meets_new met pending d less new kept = record {
  size = kept;
  met_too = λ c. set_there met d c less;
  waits = λ c. list_any-append (nat_eq c) pending (d ∷ []) ∙ ap (λ b. is_in c pending || b)
      (by (has_met met c) (nat_lt c (length met)) (nat_eq c d) (λ e. ap (has_met met) (eqb-true c d e) ∙ new)
      (λ e. lt-ltb c (length met) (subst (λ z. z < length met) (sym (eqb-true c d e)) less))
      ∙ ap (λ b. b && not (has_met met c)) (sym (set_there met d c less)));
  count = omega (arith, met_count-set met d less new, length-append pending (d ∷ []));
}
  where
    by : (s t u : Bool) → (u ≡ true → s ≡ false) → (u ≡ true → t ≡ true) → (u || false) ≡ ((s || (t && u)) && not s)
    by true t true e f = no_list (sym (e refl))
    by true t false e f = refl
    by false true true e f = refl
    by false false true e f = no_list (f refl)
    by false true false e f = refl
    by false false false e f = refl

empty : (cs : List ℕ) → length cs ≡ 0 → (c : ℕ) → is_in c cs ≡ false
empty [] e c = refl
empty (d ∷ ds) e c = absurd (omega (arith, e))

-- what is read at a place within does not depend on what stands for a place beyond
unread : (met : List Bool) (d : ℕ) (x y : Bool) → d < length met → x ≡ get_or met d y → has_met met d ≡ x
unread [] d x y less e = absurd (omega (arith, less))
unread (b ∷ bs) zero x y less e = sym e
unread (b ∷ bs) (suc d) x y less e = unread bs d x y (omega (arith, less)) e

-- the same for another word of the class
pub beyond_at : (met : List Bool) (pending : List ℕ) (d class : ℕ) → d ≡ class → length met ≤ d → Meets (λ c. nat_eq c class) met met pending pending
beyond_at met pending d class e out = subst (λ z. Meets (λ c. nat_eq c z) met met pending pending) e (meets_beyond met pending d out)

pub again_at : (met : List Bool) (pending : List ℕ) (d class : ℕ) (x y : Bool) → d ≡ class → d < length met → x ≡ get_or met d y → x ≡ true → Meets (λ c. nat_eq c class) met met pending pending
again_at met pending d class x y e less read is = subst (λ z. Meets (λ c. nat_eq c z) met met pending pending) e (meets_again met pending d (unread met d x y less read ∙ is))

pub new_at : (met : List Bool) (pending waiting : List ℕ) (d class : ℕ) (x y : Bool) → d ≡ class → d < length met
    → x ≡ get_or met d y → x ≡ false → waiting ≡ pending ++ class ∷ []
    → Meets (λ c. nat_eq c class) met (set met d true) pending waiting
new_at met pending waiting d class x y e less read is joined =
    subst (λ ws. Meets (λ c. nat_eq c class) met (set met d true) pending ws) (sym joined)
    (subst (λ z. Meets (λ c. nat_eq c z) met (set met d true) pending (pending ++ z ∷ [])) e (meets_new met pending d less (unread met d x y less read ∙ is) (length-set met d true)))

-- a class, if there is one
pub some_at : (o : Option ℕ) (d : ℕ) (a b : List Bool) (p q : List ℕ) → o ≡ Some d → Meets (λ c. nat_eq c d) a b p q → Meets (λ c. option_eq nat_eq (Some c) o) a b p q
some_at o d a b p q is m = meets_like _ _ (λ c. ap (λ x. option_eq nat_eq (Some c) x) (sym is)) a b p q m

pub none_at : (o : Option ℕ) (met : List Bool) (pending : List ℕ) → o ≡ None → Meets (λ c. option_eq nat_eq (Some c) o) met met pending pending
none_at o met pending is = meets_like _ _ (λ c. ap (λ x. option_eq nat_eq (Some c) x) (sym is)) met met pending pending (meets_none met pending)

-- one more of a row
pub row_more : (xs : List ℕ) (i x y : ℕ) (a b c : List Bool) (p q r : List ℕ) → i < length xs → x ≡ get_or xs i y
    → Meets (λ e. list_any (nat_eq e) (take i xs)) a b p q → Meets (λ e. nat_eq e x) b c q r
    → Meets (λ e. list_any (nat_eq e) (take (i + 1) xs)) a c p r
row_more xs i x y a b c p q r less read m k =
    meets_like _ _ (λ e. ap (λ z. list_any (nat_eq e) (take i xs) || nat_eq e z) read ∙ sym (list_any_more (nat_eq e) xs i y less)) a c p r
    (meets_more _ _ a b c p q r m k)

module _ (n : ℕ) (start : ℕ → Bool) (leads : ℕ → ℕ → Bool) (passes : ℕ → Bool) (Good : ℕ → Type 0) where
  -- from where it begins
  pub begins : (met : List Bool) (pending : List ℕ) → Meets start (replicate n false) met [] pending → length (replicate
      n false) ≡ n → ((c : ℕ) → c < n → start c ≡ true → Good c) → Walking n start leads passes Good 0 met pending
  begins met pending m wide good = record {
    size = m.size ∙ wide;
    count = omega (arith, m.count, met_count-none n);
    known = λ c e. (both (has_met met c) _ (sym (m.waits c) ∙ e)).0;
    good = λ c e. let f = both (nat_lt c (length (replicate n false))) (start c)
        (sym (ap (λ b. b || (nat_lt c (length (replicate n false)) && start c)) (has_met-none n c)) ∙ sym (m.met_too c)
        ∙ e) in good c (omega (arith, ltb-true c _ f.0, wide)) f.1;
    started = λ c less e. m.met_too c ∙ or_right (has_met (replicate n false) c) _ (and_from _ (start c) (lt-ltb c (length (replicate n false)) (omega (arith, less, wide))) e);
    looked = λ c e. inl (m.waits c ∙ and_from (has_met met c) _ e (ap not (has_met-none n c)));
  }

  -- one class is looked at
  pub goes_on : (i c : ℕ) (met after : List Bool) (rest waiting : List ℕ) → Walking n start leads passes Good i met
      (rest ++ c ∷ []) → Meets (leads c) met after rest waiting → passes c ≡ true
      → ((d : ℕ) → Good c → d < n → leads c d ≡ true → Good d) → Walking n start leads passes Good (i + 1) after waiting
  goes_on i c met after rest waiting w m pass good = record {
    size = m.size ∙ w.size;
    count = omega (arith, w.count, m.count, length-append rest (c ∷ []));
    known = λ d e. elim (or_cases (is_in d rest) _ (sym (m.waits d) ∙ e)) [
      | inl f ↦ keeps d (w.known d (list_any-append (nat_eq d) rest (c ∷ []) ∙ or_left (is_in d rest) _ f))
      | inr f ↦ (both (has_met after d) _ f.1).0
    ];
    good = λ d e. elim (or_cases (has_met met d) _ (sym (m.met_too d) ∙ e)) [
      | inl f ↦ w.good d f
      | inr f ↦ let g = both (nat_lt d (length met)) (leads c d) f.1 in good d here (omega (arith, ltb-true d _ g.0, w.size)) g.1
    ];
    started = λ d less e. keeps d (w.started d less e);
    looked = λ d e. elim (or_cases (has_met met d) _ (sym (m.met_too d) ∙ e)) [
      | inl f ↦ elim (w.looked d f) [
        | inl g ↦ elim (or_cases (is_in d rest) _ (sym (list_any-append (nat_eq d) rest (c ∷ [])) ∙ g)) [
          | inl h ↦ inl (m.waits d ∙ or_left (is_in d rest) _ h)
          | inr h ↦ inr (at_it d (one d h.1))
        ]
        | inr g ↦ inr (g.0, λ b less l. keeps b (g.1 b less l))
      ]
      | inr f ↦ inl (m.waits d ∙ or_right (is_in d rest) _ (and_from (has_met after d) _ e (ap not f.0)))
    ];
  }
    where
      keeps : (d : ℕ) → has_met met d ≡ true → has_met after d ≡ true
      keeps d e = m.met_too d ∙ or_left (has_met met d) _ e

      one : (d : ℕ) → (nat_eq d c || false) ≡ true → d ≡ c
      one d e = elim (or_cases (nat_eq d c) false e) [ inl f ↦ eqb-true d c f | inr f ↦ no_list f.1 ]

      here : Good c
      here = w.good c (w.known c (list_any-append (nat_eq c) rest (c ∷ []) ∙ or_right (is_in c rest) _ (or_left (nat_eq c c) false (same c c refl))))

      all : (b : ℕ) → b < n → leads c b ≡ true → has_met after b ≡ true
      all b less l = m.met_too b ∙ or_right (has_met met b) _ (and_from _ (leads c b) (lt-ltb b (length met) (omega (arith, less, w.size))) l)

      at_it : (d : ℕ) → d ≡ c → (passes d ≡ true) × ((b : ℕ) → b < n → leads d b ≡ true → has_met after b ≡ true)
      at_it d e = subst (λ z. (passes z ≡ true) × ((b : ℕ) → b < n → leads z b ≡ true → has_met after b ≡ true)) (sym e) (pass, all)

  -- none waits
  pub ends : (i : ℕ) (met : List Bool) (pending : List ℕ) → length pending ≡ 0 → Walking n start leads passes Good i met pending → Walked n start leads passes Good met
  ends i met pending none w = record {
    size = w.size;
    good = w.good;
    started = w.started;
    passed = λ c e. (done c e).0;
    closed = λ c d e less l. (done c e).1 d less l;
  }
    where
      done : (c : ℕ) → has_met met c ≡ true → (passes c ≡ true) × ((d : ℕ) → d < n → leads c d ≡ true → has_met met d ≡ true)
      done c e = elim (w.looked c e) [ inl f ↦ no_list (sym (empty pending none c) ∙ f) | inr f ↦ f ]

  -- after as many steps as there are classes none waits
  pub ends_full : (i : ℕ) (met : List Bool) (pending : List ℕ) → i ≡ n → Walking n start leads passes Good i met pending → Walked n start leads passes Good met
  ends_full i met [] full w = ends i met [] refl w
  ends_full i met (c ∷ cs) full w = absurd (omega (arith, full, w.count, w.size, met_count-le met))

  -- the same by what is taken from those that wait
  pub steps : (i c : ℕ) (o : Option ℕ) (met old after : List Bool) (pending rest waiting : List ℕ)
      → Walking n start leads passes Good i met pending → old ≡ met → pending ≡ rest ++ option_to_list o → o ≡ Some c
      → Meets (leads c) old after rest waiting → passes c ≡ true → ((d : ℕ) → Good c → d < n → leads c d ≡ true → Good d) → Walking n start leads passes Good (i + 1) after waiting
  steps i c o met old after pending rest waiting w same_met taken is m pass good =
      goes_on i c old after rest waiting (subst (λ ms. Walking n start leads passes Good i ms (rest ++ c ∷ []))
      (sym same_met) (subst (λ ps. Walking n start leads passes Good i met ps)
      (taken ∙ ap (λ p. rest ++ option_to_list p) is) w)) m pass good

  -- what is taken from those that wait was met
  pub taken_good : (i c : ℕ) (o : Option ℕ) (met : List Bool) (pending rest : List ℕ) → Walking n start leads passes Good i met pending → pending ≡ rest ++ option_to_list o → o ≡ Some c → Good c
  taken_good i c o met pending rest w taken is =
      w.good c (w.known c (ap (is_in c) (taken ∙ ap (λ p. rest ++ option_to_list p) is) ∙ list_any-append (nat_eq c)
      rest (c ∷ []) ∙ or_right (is_in c rest) _ (or_left (nat_eq c c) false (same c c refl))))

  pub stops : (i : ℕ) (met old : List Bool) (pending : List ℕ) → Walking n start leads passes Good i met pending → old ≡ met → length pending ≡ 0 → Walked n start leads passes Good old
  stops i met old pending w same_met none = subst (λ ms. Walked n start leads passes Good ms) (sym same_met) (ends i met pending none w)
