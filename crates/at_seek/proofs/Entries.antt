-- Entries whose values are turned one after the other.
use Rattle.std.proofs.Common.{◌≡◌, ◌<◌, ◌≤◌, ◌+◌, ℕ, zero, suc, Bool, true, false, if◌then◌else◌, List, [], ◌∷◌, length, map, filter, nat_lt, Option, None, Some, refl, sym, ap, subst, ◌∙◌, arith}
use Rattle.std.specs.List.{slice_get}
use Rattle.indexmap.specs.Layout.{set_value_at}
use Rattle.at_rules.specs.declared.body.Body.{Body}
use Rattle.at_seek.specs.Finding.{OneTurned}
use Rattle.at_seek.specs.Sought.{EachBy}

-- those in front of a position are turned, and those from it on are as they were
pub data TurnedTo {K : Type 0} (R : K × Body → K × Body → Type 0) : ℕ → List (K × Body) → List (K × Body) → Type 0 where
  left : (es : List (K × Body)) → TurnedTo R 0 es es
  next : {n : ℕ} {e f : K × Body} {es fs : List (K × Body)} → R e f → TurnedTo R n es fs → TurnedTo R (suc n) (e ∷ es) (f ∷ fs)
  ended : (n : ℕ) → TurnedTo R n [] []

turned_at : {K : Type 0} (R : K × Body → K × Body → Type 0) (n : ℕ) (old now : List (K × Body)) (x : K × Body) (b : Body) → TurnedTo R n old now →
    slice_get now n ≡ Some x → R x (x.0, b) → TurnedTo R (suc n) old (set_value_at now n b)
turned_at R _ _ _ x b (left []) at h = absurd cc
turned_at {K} R _ _ _ x b (left (e ∷ es)) at h = next (subst (λ y. R y (y.0, b)) (same e x at) h) (left es)
  where
    same : (e x : K × Body) → slice_get (e ∷ es) 0 ≡ Some x → x ≡ e
    same e x at = cc
turned_at R _ _ _ x b (next {n} {e} {f} {es} {fs} r t) at h = next r (turned_at R n es fs x b t at h)
turned_at R _ _ _ x b (ended n) at h = absurd cc

found : {A : Type 0} (xs : List A) (n : ℕ) → n < length xs → (x : A) × (slice_get xs n ≡ Some x)
found [] n less = absurd (omega (arith, less))
found (x ∷ xs) zero less = (x, refl)
found (x ∷ xs) (suc n) less = found xs n (omega (arith, less))

-- one more is turned
pub one_more : {K : Type 0} (R : K × Body → K × Body → Type 0) (n : ℕ) (old now new : List (K × Body)) → TurnedTo R n old now → n < length now →
    OneTurned R n now new → TurnedTo R (n + 1) old new
one_more {K} R n old now new t less one =
    let (x, at) = found now n less in
    let (b, is, h) = one x at in
    let up : suc n ≡ n + 1 = omega arith in
    subst (λ m. TurnedTo R m old new) up (subst (λ xs. TurnedTo R (suc n) old xs) (sym is) (turned_at R n old now x b t at h))

-- there are as many as before
pub turned_length : {K : Type 0} (R : K × Body → K × Body → Type 0) (n : ℕ) (old now : List (K × Body)) → TurnedTo R n old now → length now ≡ length old
turned_length R _ _ _ (left es) = refl
turned_length R _ _ _ (next {n} {e} {f} {es} {fs} r t) = ap suc (turned_length R n es fs t)
turned_length R _ _ _ (ended n) = refl

-- all are turned
pub all_turned : {K : Type 0} (R : K × Body → K × Body → Type 0) (n : ℕ) (old now : List (K × Body)) → TurnedTo R n old now → length now ≤ n → EachBy R old now
all_turned R _ _ _ (left []) less = tt
all_turned R _ _ _ (left (e ∷ es)) less = absurd (omega (arith, less))
all_turned R _ _ _ (next {n} {e} {f} {es} {fs} r t) less = (r, all_turned R n es fs t (omega (arith, less)))
all_turned R _ _ _ (ended n) less = tt

-- and so is what they stand for
pub each_seen : {A B : Type 0} (v : A → B) (R : B → B → Type 0) (es fs : List A) → EachBy (λ e f. R (v e) (v f)) es fs → EachBy R (map v es) (map v fs)
each_seen v R [] [] h = tt
each_seen v R [] (f ∷ fs) h = absurd h
each_seen v R (e ∷ es) [] h = absurd h
each_seen v R (e ∷ es) (f ∷ fs) (r, h) = (r, each_seen v R es fs h)

-- of those whose key passes a test
pub each_passing : {K B : Type 0} (p : K → Bool) (v : K × Body → B) (R : B → B → Type 0) (es fs : List (K × Body)) →
    EachBy (λ e f. (f.0 ≡ e.0) × R (v e) (v f)) es fs → EachBy R (map v (filter (λ e. p e.0) es)) (map v (filter (λ e. p e.0) fs))
each_passing p v R [] [] h = tt
each_passing p v R [] (f ∷ fs) h = absurd h
each_passing p v R (e ∷ es) [] h = absurd h
each_passing {K} p v R (e ∷ es) (f ∷ fs) ((k, r), h) = by (each_passing p v R es fs h) (p e.0) refl
  where
    Passes : Bool → Bool → Type 0
    Passes b c = EachBy R (map v (if b then e ∷ filter (λ e. p e.0) es else filter (λ e. p e.0) es))
        (map v (if c then f ∷ filter (λ e. p e.0) fs else filter (λ e. p e.0) fs))

    by : EachBy R (map v (filter (λ e. p e.0) es)) (map v (filter (λ e. p e.0) fs)) → (b : Bool) → p e.0 ≡ b → Passes (p e.0) (p f.0)
    by rest true is = subst (λ b. Passes b (p f.0)) (sym is) (subst (λ c. Passes true c) (sym (ap p k ∙ is)) (r, rest))
    by rest false is = subst (λ b. Passes b (p f.0)) (sym is) (subst (λ c. Passes false c) (sym (ap p k ∙ is)) rest)
