-- Where the attributes of a name begin.
use Rattle.std.proofs.Common.{◌≡◌, ℕ, zero, suc, ◌+◌, ◌≤◌, ◌++◌, List, [], ◌∷◌, length, take, refl, ap, sym, ◌∙◌}
use Rattle.std.proofs.Common.{subst, arith, length-append, Option, Some, None, true≢false, eq-eqb}
use Rattle.std.specs.Prelude.{Result, Ok, Err, OnOk, OnErr, Bool, true, false, ◌&&◌, ◌||◌, cond, is_some, nat_eq}
use Rattle.std.specs.Prelude.{unwrap_or, slice_get}
use Rattle.std.specs.List.{list_any}
use Rattle.std.specs.Map.{lookup}
use Rattle.std.specs.Option.{option_or}
use Rattle.std.proofs.lemmas.Bool.{eqb-true, or_parts, or_left, or_right, and_from}
use Rattle.std.proofs.lemmas.List.{take_all, take-append-le}
use Rattle.std.proofs.lemmas.List.Folds.{list_any-append}
use Rattle.at_rules.specs.Begun.{IsBegun, Keyed, begun, has_name, position_of}
use Rattle.at_rules.specs.Upward.{declares}

abbrev pub Positions : Type 0
Positions = List (ℕ × ℕ)

no_Some : {A : Type 0} {p : ℕ} → None ≡ Some p → A
no_Some e = absurd cc

same_Some : {p q : ℕ} → Some p ≡ Some q → p ≡ q
same_Some {p} e = ap (λ o. unwrap_or o p) e

-- the position is kept ------------------------------------------------------------------------------------------------

-- as much as there is of a name, and else the position, if it is the one that is kept
abbrev pub either_of : Option ℕ → (m n p : ℕ) → Option ℕ
either_of o m n p = option_or o (cond (nat_eq m n) (Some p) None)

position_last : (m n p : ℕ) (ps : Positions) → position_of (ps ++ (n, p) ∷ []) m ≡ either_of (position_of ps m) m n p
position_last m n p [] = refl
position_last m n p (e ∷ es) = by (nat_eq m e.0) (position_last m n p es)
  where
    by : (b : Bool) → position_of (es ++ (n, p) ∷ []) m ≡ either_of (position_of es m) m n p
        → cond b (Some e.1) (position_of (es ++ (n, p) ∷ []) m) ≡ either_of (cond b (Some e.1) (position_of es m)) m n p
    by true rest = refl
    by false rest = rest

abbrev pub Stands : Keyed → ℕ → ℕ → Type 0
Stands es m q = (q ≤ length es) × (list_any (has_name m) (take q es) ≡ false)

module _ (ps : Positions) (es : Keyed) (n : ℕ) (are : IsBegun ps es) where
  kept_last : (m q : ℕ) (o : Option ℕ) → position_of ps m ≡ o → either_of o m n (length es) ≡ Some q → Stands es m q
  kept_last m q (Some i) f h = are.kept m q (f ∙ h)
  kept_last m q None f h = by (nat_eq m n) h
    where
      by : (b : Bool) → cond b (Some (length es)) None ≡ Some q → Stands es m q
      by true e = subst (Stands es m) (same_Some e)
          (omega arith, ap (list_any (has_name m)) (take_all (length es) es (omega arith)) ∙ are.none m f)
      by false e = no_Some e

  none_last : (m : ℕ) (o : Option ℕ) → position_of ps m ≡ o → either_of o m n (length es) ≡ None
      → list_any (has_name m) es ≡ false
  none_last m None f h = are.none m f
  none_last m (Some i) f h = no_Some (sym h)

  pub begins : IsBegun (begun ps n (length es)) es
  begins = by (is_some (position_of ps n))
    where
      by : (b : Bool) → IsBegun (cond b ps (ps ++ (n, length es) ∷ [])) es
      by true = are
      by false = record {
        kept = λ m q h. kept_last m q (position_of ps m) refl (sym (position_last m n (length es) ps) ∙ h);
        none = λ m h. none_last m (position_of ps m) refl (sym (position_last m n (length es) ps) ∙ h);
      }

kept_now : (ps : Positions) (n p : ℕ) → is_some (position_of (begun ps n p) n) ≡ true
kept_now ps n p = by (is_some (position_of ps n)) refl
  where
    last : (o : Option ℕ) → is_some (either_of o n n p) ≡ true
    last (Some i) = refl
    last None = ap (λ b. is_some (cond b (Some p) None)) (eq-eqb n n refl)

    by : (b : Bool) → is_some (position_of ps n) ≡ b → is_some (position_of (cond b ps (ps ++ (n, p) ∷ [])) n) ≡ true
    by true e = e
    by false e = ap is_some (position_last n n p ps) ∙ last (position_of ps n)

-- one more of a name of which a position is kept
more : (ps : Positions) (es new : Keyed) (n : ℕ) (e : (ℕ × ℕ) × ℕ) → new ≡ es ++ e ∷ [] → e.0.1 ≡ n
    → is_some (position_of ps n) ≡ true → IsBegun ps es → IsBegun ps new
more ps es new n e is of some are = subst (IsBegun ps) (sym is) (record {
  kept = λ m q h.
      let k = are.kept m q h in (
        omega (arith, k.0, length-append es (e ∷ [])),
        ap (list_any (has_name m)) (take-append-le q es (e ∷ []) k.0) ∙ k.1,
      );
  none = λ m h.
      list_any-append (has_name m) es (e ∷ [])
      ∙ ap (λ b. b || (nat_eq m e.0.1 || false)) (are.none m h)
      ∙ by m h (nat_eq m e.0.1) refl;
})
  where
    by : (m : ℕ) → position_of ps m ≡ None → (b : Bool) → nat_eq m e.0.1 ≡ b → (b || false) ≡ false
    by m h true f =
        let same = sym (eqb-true m e.0.1 f ∙ of) in
        absurd (true≢false (sym some ∙ ap is_some (ap (position_of ps) same ∙ h)))
    by m h false f = refl

-- whether the attribute is put behind the others, or memory is wanting
pub noted_or_not : {T E : Type 0} (r : Result T E) (ps qs : Positions) (es new put : Keyed) (c n p a : ℕ)
    → p ≡ length es → qs ≡ begun ps n p → put ≡ es ++ ((c, n), a) ∷ [] → OnOk r (new ≡ put) → OnErr r (new ≡ es)
    → IsBegun ps es → IsBegun qs new
noted_or_not (Ok x) ps qs es new put c n p a at is push ok err are =
    let now = more (begun ps n (length es)) es new n ((c, n), a) (ok ∙ push) refl (kept_now ps n (length es)) in
    subst (λ xs. IsBegun xs new) (sym (is ∙ ap (begun ps n) at)) (now (begins ps es n are))
noted_or_not (Err e) ps qs es new put c n p a at is push ok err are =
    subst (λ xs. IsBegun xs new) (sym (is ∙ ap (begun ps n) at)) (subst (IsBegun _) (sym err) (begins ps es n are))

-- the first of all ----------------------------------------------------------------------------------------------------

either_way : (a b : ℕ) → nat_eq a b ≡ true → nat_eq b a ≡ true
either_way a b e = eq-eqb b a (sym (eqb-true a b e))

-- where the class is among those, one that has it and the name is found by them
declared : (n c : ℕ) (cs : List ℕ) (m : ℕ) → nat_eq m n ≡ true → list_any (nat_eq c) cs ≡ true
    → declares n cs (c, m) ≡ true
declared n c [] m same e = e
declared n c (b ∷ bs) m same e = by (nat_eq c b) refl e (declared n c bs m same)
  where
    by : (s : Bool) → nat_eq c b ≡ s → (s || list_any (nat_eq c) bs) ≡ true
        → (list_any (nat_eq c) bs ≡ true → declares n bs (c, m) ≡ true) → declares n (b ∷ bs) (c, m) ≡ true
    by true f h rest =
        let this = and_from (nat_eq b c) (nat_eq n m) (either_way c b f) (either_way m n same) in
        or_left (nat_eq b c && nat_eq n m) _ this
    by false f h rest = or_right (nat_eq b c && nat_eq n m) _ (rest h)

-- one of another name isn't
undeclared : (n : ℕ) (cs : List ℕ) (k : ℕ × ℕ) → nat_eq n k.1 ≡ false → declares n cs k ≡ false
undeclared n [] k e = refl
undeclared n (b ∷ bs) k e =
    ap (λ s. (nat_eq b k.0 && s) || declares n bs k) e
    ∙ ap (λ s. s || declares n bs k) (none (nat_eq b k.0))
    ∙ undeclared n bs k e
  where
    none : (s : Bool) → (s && false) ≡ false
    none true = refl
    none false = refl

found_behind : (n : ℕ) (cs : List ℕ) (es : Keyed) (p : ℕ) (e : (ℕ × ℕ) × ℕ) → slice_get es p ≡ Some e
    → list_any (has_name n) (take p es) ≡ false → declares n cs e.0 ≡ true → lookup (declares n cs) es ≡ Some e.1
found_behind n cs [] p e at none is = absurd cc
found_behind n cs (x ∷ xs) zero e at none is =
    let same : x ≡ e = ap (λ o. unwrap_or o x) at in
    ap (λ y. cond (declares n cs y.0) (Some y.1) (lookup (declares n cs) xs)) same
    ∙ ap (λ b. cond b (Some e.1) (lookup (declares n cs) xs)) is
found_behind n cs (x ∷ xs) (suc p) e at none is =
    let parts = or_parts (has_name n x) _ none in
    ap (λ b. cond b (Some x.1) (lookup (declares n cs) xs)) (undeclared n cs x.0 parts.0)
    ∙ found_behind n cs xs p e at parts.1 is

-- what stands where the name begins is looked up, if it has the name and one of the classes
pub first_found : (ps : Positions) (es : Keyed) (n p c m a : ℕ) (cs : List ℕ) → IsBegun ps es
    → position_of ps n ≡ Some p → slice_get es p ≡ Some ((c, m), a) → m ≡ n → list_any (nat_eq c) cs ≡ true
    → lookup (declares n cs) es ≡ Some a
first_found ps es n p c m a cs are at there same among =
    found_behind n cs es p ((c, m), a) there (are.kept n p at).1 (declared n c cs m (eq-eqb m n same) among)
