-- An evaluation with inner ones comes to the value of its instance; all that supports it was looked at, or supports
-- what it took; and it looked at nothing else. None of them is circular.
use Rattle.std.proofs.Common.{◌≡◌, ℕ, zero, suc, Bool, true, ◌+◌, List, ◌++◌, Some, None, ◌⊎◌, inl, inr, refl, sym, subst, append_assoc, arith}
use Rattle.at_model.specs.Run.{Value, Location, Run, Gives, Fails, Looks, Demands, Instance, Contents, Known, ◌>>=◌}
use Rattle.at_model.specs.Meaning.{Outcome, Finds, Equations, Reaches, Among}
use Rattle.at_model.specs.Support.{Sees}
use Rattle.at_model.specs.Nested.{Passes, gives, looks, told, Tells, Evaluates, IsGround}
use Rattle.at_model.specs.of_fixpoints.Formulas.{Formula, atoms, Forms}
use Rattle.at_model.specs.of_fixpoints.Formulas as formula
use Rattle.at_model.specs.of_fixpoints.Fixpoints.{Made, Ends, LeadsOver, AreFormed, Valued, EndsAt, EndsSo, HasForm, HasValue, HoldsAt}
use Rattle.at_model.specs.of_fixpoints.Fixpoints as fixpoint
use Rattle.at_model.specs.of_fixpoints.Resting.{Comes, Leads, stays, goes, Supports}
use Rattle.at_model.specs.of_fixpoints.Searching.{Wants}
use Rattle.at_model.proofs.Reached.{front_among, back_among, either_among}
use Rattle.at_model.proofs.of_formulas.UniqueOutcomes.{ends_at, once}
use Rattle.at_model.proofs.of_formulas.Heights.{ends_more, higher}
use Rattle.at_model.proofs.of_formulas.PlainForms.{plain_value}
use Rattle.at_model.proofs.of_formulas.PlainAnswers.{reaches_on, reaches_off, sees_on, sees_off}
use Rattle.at_model.proofs.of_searching.Strictly.{WantsOn, wants, and_on, led_over, none_on_circle, wants_none}

-- one evaluation, and then another one with its value
pub binds : {N A B : Type 0} (look : Contents N) (tells : Instance N → Value N → List (Location N) →
    List (Instance N) → Type 0) (r : Run N A) (k : A → Run N B) (a : A) (b : B)
    (ls ms : List (Location N)) (us ts : List (Instance N)) → Passes look tells r a ls us →
    Passes look tells (k a) b ms ts → Passes look tells (r >>= k) b (ls ++ ms) (us ++ ts)
binds look tells r k a b ls ms us ts (gives _) q = q
binds look tells r k a b ls ms us ts (looks l h _ ls' _ p) q = looks l (λ c. h c >>= k) b (ls' ++ ms) (us ++ ts) (binds
    look tells (h (look l)) k a b ls' ms us ts p q)
binds look tells r k a b ls ms us ts (told j h v _ l1 l2 u1 u2 t p) q =
    let z = told j (λ w. h w >>= k) v b l1 (l2 ++ ms) u1 (u2 ++ ts) t (binds look tells (h v) k a b l2 ms u2 ts p q) in
    rw (append_assoc l1 l2 ms, append_assoc u1 u2 ts) z

-- what is told by more is told, too
pub more : {N A : Type 0} (look : Contents N) (tells also : Instance N → Value N → List (Location N) →
    List (Instance N) → Type 0) →
    ((j : Instance N) (v : Value N) (ls : List (Location N)) (us : List (Instance N)) → tells j v ls us →
    also j v ls us) →
    (r : Run N A) (a : A) (ls : List (Location N)) (us : List (Instance N)) → Passes look tells r a ls us →
    Passes look also r a ls us
more look tells also f r a ls us (gives _) = gives a
more look tells also f r a ls us (looks l h _ ls' _ p) = looks l h a ls' us (more look tells also f (h (look l)) a ls'
    us p)
more look tells also f r a ls us (told j h v _ l1 l2 u1 u2 t p) = told j h v a l1 l2 u1 u2 (f j v l1 u1 t) (more look
    tells also f (h v) a l2 u2 p)

-- an evaluation to a value, as one to a formula
abbrev plain : {N : Type 0} → Run N (Value N) → Run N (Formula N)
plain r = r >>= λ v. Gives (formula.Known v)

module _ {N : Type 0} (look : Contents N) (forms : Forms N) where
  -- an evaluation over values that hold ends by a value
  passes_ended : (tells : Instance N → Value N → List (Location N) → List (Instance N) → Type 0) →
      ((j : Instance N) (v : Value N) (ls : List (Location N)) (us : List (Instance N)) → tells j v ls us →
      HasValue look forms j v) →
      (i : Instance N) (r : Run N (Value N)) (v : Value N) (ls : List (Location N)) (us : List (Instance N)) →
      Passes look tells r v ls us →
      (n : ℕ) × Ends look (HoldsAt look forms n) i (plain r) (Made (formula.Known v))
  passes_ended tells f i r v ls us (gives _) = (0, refl)
  passes_ended tells f i r v ls us (looks l h _ ls' _ p) = passes_ended tells f i (h (look l)) v ls' us p
  passes_ended tells f i r v ls us (told j h w _ l1 l2 u1 u2 t p) =
      let (a, e) = f j w l1 u1 t in
      let (b, g) = passes_ended tells f i (h w) v l2 u2 p in
      let q : b + a ≡ a + b = omega arith in
      let up : (k : Instance N) (o : Outcome N) → HoldsAt look forms b k o → HoldsAt look forms (a + b) k o =
      λ k o x. subst (λ z. HoldsAt look forms z k o) q (higher look forms b a k o x) in (
        a + b,
        inl (
          w,
          higher look forms a b j (Finds w) e,
          ends_more look (HoldsAt look forms b) (HoldsAt look forms (a + b)) up i (plain (h w))
              (Made (formula.Known v)) g,
        ),
      )

  -- an instance whose formula is a value leads to no other one by formulas
  formed_alone : (n : ℕ) (i : Instance N) (v : Value N) → EndsAt look forms n i (Made (formula.Known v)) →
      AreFormed (EndsAt look forms n) i
  formed_alone n i v x _ (fixpoint.stays _) = (formula.Known v, x)
  formed_alone n i v x j (fixpoint.goes _ k _ f h a l) =
      let q : Made f ≡ Made (formula.Known v) = ends_at look forms n n i (Made f) (Made (formula.Known v)) h x in
      let q' : f ≡ formula.Known v = cc in
      absurd (subst (λ z. Among k (atoms z)) q' a)

  -- where it isn't circular that is its value
  value_of : (i : Instance N) (v : Value N) → forms.starts i.attribute ≡ None →
      HasForm look forms i (formula.Known v) → HasValue look forms i v
  value_of i v own (n, x) = (
    suc n,
    (
      formed_alone n i v x,
      subst (λ z. Valued (λ j f. EndsAt look forms n j (Made f)) z i v) (sym own) x,
    ),
  )

  same_value : (i : Instance N) (v w : Value N) → HasValue look forms i v → HasValue look forms i w → v ≡ w
  same_value i v w h g = let e : Finds v ≡ Finds w = once look forms i (Finds v) (Finds w) h g in cc

  -- what comes behind an evaluation is reached where that reaches it
  pub reaches_within : {A B : Type 0} (r : Run N A) (k : A → Run N B) (j : Instance N) →
      Reaches look (HasValue look forms) r j → Reaches look (HasValue look forms) (r >>= k) j
  reaches_within (Gives a) k j h = absurd h
  reaches_within (Fails f) k j h = absurd h
  reaches_within (Looks l f) k j h = reaches_within (f (look l)) k j h
  reaches_within (Demands i f) k j (inl e) = inl e
  reaches_within (Demands i f) k j (inr (v, has, h)) = inr (v, has, reaches_within (f v) k j h)

  -- what formulas lead to one that wants another one wants it, too
  wants_by : (i j k : Instance N) → LeadsOver (EndsSo look forms) i j → WantsOn look forms j k → WantsOn look forms i k
  wants_by i _ _ l (wants j k w) =
      wants i k (record { by = w.by; led = led_over look forms i j w.by l w.led; demands = w.demands })
  wants_by i _ _ l (and_on j m k w x) =
      and_on i m k (record { by = w.by; led = led_over look forms i j w.by l w.led; demands = w.demands }) x

  -- what leads to one that wants another one wants it, too
  wants_through : (i j k : Instance N) → Leads look forms i j → Wants look forms j k → WantsOn look forms i k
  wants_through _ _ k (stays i) w = wants i k w
  wants_through _ j k (goes i m _ (inl c) l) w =
      and_on i m k (record { by = i; led = fixpoint.stays i; demands = c }) (wants_through m j k l w)
  wants_through _ j k (goes i m _ (inr (f, h, a)) l) w =
      wants_by i m k (fixpoint.goes i m m f h a (fixpoint.stays m)) (wants_through m j k l w)

  leads_further : (i j k : Instance N) → Leads look forms i j → Leads look forms j k → Leads look forms i k
  leads_further _ _ k (stays i) l = l
  leads_further _ j k (goes i m _ c r) l = goes i m k c (leads_further m j k r l)

  -- an instance that waits for the value of another one isn't led to by what that leads to, where it has a value
  pub waits_apart : (i j k : Instance N) (v : Value N) → Reaches look (HasValue look forms) (forms.formula i) j →
      Leads look forms j k → Leads look forms k i → HasValue look forms i v → ⊥
  waits_apart i j k v c l m has =
      let w : Wants look forms i j = record { by = i; led = fixpoint.stays i; demands = c } in
      wants_none look forms i j w
      (none_on_circle look forms j (wants_through j i j (leads_further j k i l m) w)) (Finds v) has

-- an evaluation goes the same way where more is known
module _ {N : Type 0} (look : Contents N) (equation : Equations N) (known : Known N) (inner : Instance N → Bool) where
  module _ (knows : Known N) (grows : (j : Instance N) (w : Value N) → known j ≡ Some w → knows j ≡ Some w) where
    pub tells_more : (n : ℕ) (j : Instance N) (v : Value N) (ls : List (Location N)) (us : List (Instance N)) →
        Tells look equation known inner n j v ls us → Tells look equation knows inner n j v ls us
    tells_more zero j v ls us (e, a, b) = (grows j v e, a, b)
    tells_more (suc n) j v ls us (inl t) = inl (tells_more n j v ls us t)
    tells_more (suc n) j v ls us (inr (is, p)) = inr (
      is,
      more look (Tells look equation known inner n) (Tells look
          equation knows inner n) (tells_more n) (equation j) v ls us p,
    )

    pub evaluates_more : {A : Type 0} (n : ℕ) (r : Run N A) (a : A) (ls : List (Location N)) (us : List (Instance N))
        → Evaluates look equation known inner n r a ls us → Evaluates look equation knows inner n r a ls us
    evaluates_more n r a ls us p = more look (Tells look equation known inner n) (Tells look equation knows inner n)
        (tells_more n) r a ls us p

  -- nested less deep, it may be nested deeper
  pub tells_deeper : (n d : ℕ) (j : Instance N) (v : Value N) (ls : List (Location N)) (us : List (Instance N)) →
      Tells look equation known inner n j v ls us → Tells look equation known inner (d + n) j v ls us
  tells_deeper n zero j v ls us t = let q : 0 + n ≡ n = omega arith in rw q t
  tells_deeper n (suc d) j v ls us t = let q : suc d + n ≡ suc (d + n) = omega arith in rw q (inl (tells_deeper n d j
      v ls us t))

  pub evaluates_deeper : {A : Type 0} (n d : ℕ) (r : Run N A) (a : A) (ls : List (Location N)) (us : List (Instance
      N)) → Evaluates look equation known inner n r a ls us → Evaluates look equation known inner (d + n) r a ls us
  evaluates_deeper n d r a ls us p = more look (Tells look equation known inner n) (Tells look equation known inner
      (d + n)) (tells_deeper n d) r a ls us p

  -- what it took is known
  known_by : {A : Type 0} (n : ℕ) → ((j : Instance N) (v : Value N) (ls : List (Location N)) (us : List (Instance N))
      → Tells look equation known inner n j v ls us → (u : Instance N) → Among u us →
      (w : Value N) × (known u ≡ Some w)) →
      (r : Run N A) (a : A) (ls : List (Location N)) (us : List (Instance N)) →
      Evaluates look equation known inner n r a ls us → (u : Instance N) → Among u us →
      (w : Value N) × (known u ≡ Some w)
  known_by n below r a ls us (gives _) u h = absurd h
  known_by n below r a ls us (looks m k _ ls' _ p) u h = known_by n below (k (look m)) a ls' us p u h
  known_by n below r a ls us (told j k v _ l1 l2 u1 u2 t p) u h = elim (either_among u u1 u2 h) [
    | inl x ↦ below j v l1 u1 t u x
    | inr x ↦ known_by n below (k v) a l2 u2 p u x
  ]

  tells_known : (n : ℕ) (j : Instance N) (v : Value N) (ls : List (Location N)) (us : List (Instance N)) →
      Tells look equation known inner n j v ls us → (u : Instance N) → Among u us → (w : Value N) × (known u ≡ Some w)
  tells_known zero j v ls us (e, _, is) u h = let h' = subst (Among u) is h in elim h' [
    | inl s ↦ (
      v,
      subst (λ x.
          known x ≡ Some v) (sym s) e,
    )
    | inr x ↦ absurd x
  ]
  tells_known (suc n) j v ls us (inl t) u h = tells_known n j v ls us t u h
  tells_known (suc n) j v ls us (inr (_, p)) u h = known_by n (tells_known n) (equation j) v ls us p u h

  pub taken_known : (n : ℕ) (i : Instance N) (v : Value N) (ls : List (Location N)) (us : List (Instance N)) →
      Evaluates look equation known inner n (equation i) v ls us → (u : Instance N) → Among u us →
      (w : Value N) × (known u ≡ Some w)
  taken_known n i v ls us p u h = known_by n (tells_known n) (equation i) v ls us p u h

-- what is known holds, none is circular that is evaluated
module _ {N : Type 0} (look : Contents N) (equation : Equations N) (forms : Forms N) (known : Known N)
    (inner : Instance N → Bool) (ground : IsGround look equation forms known inner) where
  -- it isn't circular
  abbrev pub IsOwn : Instance N → Type 0
  IsOwn i = forms.starts i.attribute ≡ None

  -- an evaluation that ends by a value is that of its instance
  value_by : (i : Instance N) (v : Value N) → IsOwn i →
      ((n : ℕ) × Ends look (HoldsAt look forms n) i (plain (equation i)) (Made (formula.Known v))) →
      HasValue look forms i v
  value_by i v own (n, x) = value_of look forms i v own (
    n,
    subst (λ r. Ends look (HoldsAt look forms n) i r (Made (formula.Known v))) (sym (ground.formula i own)) x,
  )

  -- what is told holds
  pub tells_hold : (n : ℕ) (j : Instance N) (v : Value N) (ls : List (Location N)) (us : List (Instance N)) →
      Tells look equation known inner n j v ls us → HasValue look forms j v
  tells_hold zero j v ls us (e, _, _) = ground.right j v e
  tells_hold (suc n) j v ls us (inl t) = tells_hold n j v ls us t
  tells_hold (suc n) j v ls us (inr (is, p)) = value_by j v (ground.own j is) (passes_ended look forms
      (Tells look equation known inner n) (tells_hold n) j (equation j) v ls us p)

  -- the value is that of the instance
  pub evaluates_value : (n : ℕ) (i : Instance N) (v : Value N) (ls : List (Location N)) (us : List (Instance N)) →
      IsOwn i → Evaluates look equation known inner n (equation i) v ls us → HasValue look forms i v
  evaluates_value n i v ls us own p = value_by i v own (passes_ended look forms (Tells look equation known inner n)
      (tells_hold n) i (equation i) v ls us p)

  -- what its equation demands, and looks at, its formula does
  pub reaches_own : (i j : Instance N) → IsOwn i → Reaches look (HasValue look forms) (equation i) j →
      Reaches look (HasValue look forms) (forms.formula i) j
  reaches_own i j own h = subst (λ (r : Run N (Formula N)). Reaches look (HasValue look forms) r j)
      (sym (ground.formula i own))
      (reaches_on look (HasValue look forms) (HasValue look forms) (λ k w x. x) (equation i) j h)

  pub comes_own : (i j : Instance N) → IsOwn i → Reaches look (HasValue look forms) (equation i) j →
      Comes look forms i j
  comes_own i j own h = inl (reaches_own i j own h)

  sees_own : (i : Instance N) (l : Location N) → IsOwn i → Sees look (HasValue look forms) (equation i) l →
      Sees look (HasValue look forms) (forms.formula i) l
  sees_own i l own h = subst (λ (r : Run N (Formula N)). Sees look (HasValue look forms) r l)
      (sym (ground.formula i own))
      (sees_on look (HasValue look forms) (HasValue look forms) (λ k w x. x) (equation i) l h)

  -- and nothing else
  pub own_comes : (i j : Instance N) → IsOwn i → Comes look forms i j →
      Reaches look (HasValue look forms) (equation i) j
  own_comes i j own (inl h) = reaches_off look (HasValue look forms) (HasValue look forms) (λ k w x. x) (equation i) j
      (subst (λ (r : Run N (Formula N)). Reaches look (HasValue look forms) r j) (ground.formula i own) h)
  own_comes i j own (inr (f, (n, x), m)) =
      let (v, q) = plain_value look (HoldsAt look forms n) i (equation i) f
      (subst (λ (r : Run N (Formula N)). Ends look (HoldsAt look forms n) i r (Made f)) (ground.formula i own) x) in
      absurd (subst (λ z. Among j (atoms z)) q m)

  own_sees : (i : Instance N) (l : Location N) → IsOwn i → Sees look (HasValue look forms) (forms.formula i) l →
      Sees look (HasValue look forms) (equation i) l
  own_sees i l own h = sees_off look (HasValue look forms) (HasValue look forms) (λ k w x. x) (equation i) l
      (subst (λ (r : Run N (Formula N)). Sees look (HasValue look forms) r l) (ground.formula i own) h)

  -- one list has all of another
  abbrev pub Within : {A : Type 0} → List A → List A → Type 0
  Within {A} xs ys = (x : A) → Among x xs → Among x ys

  -- what an evaluation comes to was told, with what that looked at and took
  told_of : {A : Type 0} (n : ℕ) (r : Run N A) (a : A) (ls : List (Location N)) (us : List (Instance N)) (j :
      Instance N) → Evaluates look equation known inner n r a ls us → Reaches look (HasValue look forms) r j →
      (v : Value N) × (ms : List (Location N)) × (ts : List (Instance N)) × Tells look equation known inner n j v ms
      ts × Within ms ls × Within ts us
  told_of n r a ls us j (gives _) h = absurd h
  told_of n r a ls us j (looks l k _ ls' _ p) h =
      let (v, ms, ts, t, x, y) = told_of n (k (look l)) a ls' us j p h in (v, ms, ts, t, λ z m. inr (x z m), y)
  told_of n r a ls us j (told i k v _ l1 l2 u1 u2 t p) (inl same) = (
    v,
    l1,
    u1,
    subst (λ z. Tells look equation known inner n z v l1 u1) same t,
    λ z m. front_among z l1 l2 m,
    λ z
        m. front_among z u1 u2 m,
  )
  told_of n r a ls us j (told i k v _ l1 l2 u1 u2 t p) (inr (w, has, h)) =
      let h' = subst (λ z. Reaches look (HasValue look forms) (k z) j) (same_value look forms i w v has (tells_hold n i
      v l1 u1 t)) h in
      let (x, ms, ts, s, f, g) = told_of n (k v) a l2 u2 j p h' in
      (x, ms, ts, s, λ z m. back_among z l1 l2 (f z m), λ z m. back_among z u1 u2 (g z m))

  -- what it sees it has looked at
  seen_in : {A : Type 0} (n : ℕ) (r : Run N A) (a : A) (ls : List (Location N)) (us : List (Instance N)) (l :
      Location N) → Evaluates look equation known inner n r a ls us → Sees look (HasValue look forms) r l →
      Among l ls
  seen_in n r a ls us l (gives _) h = absurd h
  seen_in n r a ls us l (looks m k _ ls' _ p) (inl same) = inl (sym same)
  seen_in n r a ls us l (looks m k _ ls' _ p) (inr h) = inr (seen_in n (k (look m)) a ls' us l p h)
  seen_in n r a ls us l (told i k v _ l1 l2 u1 u2 t p) (w, has, h) =
      let h' = subst (λ z. Sees look (HasValue look forms) (k z) l) (same_value look forms i w v has (tells_hold n i v l1
      u1 t)) h in
      back_among l l1 l2 (seen_in n (k v) a l2 u2 l p h')

  -- the instance isn't circular, and was evaluated within, where all that it looked at and took is among these
  abbrev pub IsWithin : List (Location N) → List (Instance N) → Instance N → Type 0
  IsWithin ls us j = IsOwn j × (n : ℕ) × (v : Value N) × (ms : List (Location N)) × (ts : List (Instance N)) ×
      Evaluates look equation known inner n (equation j) v ms ts × Within ms ls × Within ts us

  -- it was taken, or evaluated within, as an inner one
  told_is : (n : ℕ) (j : Instance N) (v : Value N) (ms : List (Location N)) (ts : List (Instance N)) (ls : List
      (Location N)) (us : List (Instance N)) → Tells look equation known inner n j v ms ts → Within ms ls →
      Within ts us →
      Among j us ⊎ ((inner j ≡ true) × IsWithin ls us j)
  told_is zero j v ms ts ls us (e, _, is) f g = inl (g j (subst (Among j) (sym is) (inl refl)))
  told_is (suc n) j v ms ts ls us (inl t) f g = told_is n j v ms ts ls us t f g
  told_is (suc n) j v ms ts ls us (inr (is, p)) f g = inr (is, (ground.own j is, n, v, ms, ts, p, f, g))

  next : (ls : List (Location N)) (us : List (Instance N)) (i j : Instance N) → IsWithin ls us i →
      Comes look forms i j → Among j us ⊎ ((inner j ≡ true) × IsWithin ls us j)
  next ls us i j (own, n, v, ms, ts, p, f, g) c =
      let (w, ms', ts', t, f', g') = told_of n (equation i) v ms ts j p (own_comes i j own c) in
      told_is n j w ms' ts' ls us t (λ z m. f z (f' z m)) (λ z m. g z (g' z m))

  -- all that supports it was looked at, or supports what was taken
  abbrev pub IsCovered : List (Location N) → List (Instance N) → Location N → Type 0
  IsCovered ls us l = Among l ls ⊎ ((u : Instance N) × Among u us × Supports look forms l u)

  walked : (ls : List (Location N)) (us : List (Instance N)) (l : Location N) (i j : Instance N) → IsWithin ls us i →
      Leads look forms i j → Sees look (HasValue look forms) (forms.formula j) l → IsCovered ls us l
  walked ls us l _ _ (own, n, v, ms, ts, p, f, g) (stays i) s =
      inl (f l (seen_in n (equation i) v ms ts l p (own_sees i l own s)))
  walked ls us l _ j w (goes i m _ c rest) s = elim (next ls us i m w c) [
    | inl k ↦ inr (m, k, (j, rest, s))
    | inr q ↦ walked ls us l m j q.1 rest s
  ]

  whole : (ls : List (Location N)) (us : List (Instance N)) → (n : ℕ) (i : Instance N) (v : Value N) → IsOwn i →
      Evaluates look equation known inner n (equation i) v ls us → IsWithin ls us i
  whole ls us n i v own p = (own, n, v, ls, us, p, λ z m. m, λ z m. m)

  pub covered : (n : ℕ) (i : Instance N) (v : Value N) (ls : List (Location N)) (us : List (Instance N)) → IsOwn i →
      Evaluates look equation known inner n (equation i) v ls us → (l : Location N) → Supports look forms l i →
      IsCovered ls us l
  covered n i v ls us own p l (j, leads, s) = walked ls us l i j (whole ls us n i v own p) leads s

  -- each to which it leads was taken or led to by one that was, or is an inner one
  abbrev pub IsFound : (Instance N) → List (Instance N) → Instance N → Type 0
  IsFound i us j = (i ≡ j) ⊎ ((inner j ≡ true) ⊎ ((u : Instance N) × Among u us × Leads look forms u j))

  found : (ls : List (Location N)) (us : List (Instance N)) (i j : Instance N) → IsWithin ls us i →
      Leads look forms i j → IsFound i us j
  found ls us _ _ w (stays i) = inl refl
  found ls us _ j w (goes i m _ c rest) = elim (next ls us i m w c) [
    | inl k ↦ inr (inr (m, k, rest))
    | inr q ↦ elim (found ls us m j q.1 rest) [
      | inl same ↦ inr (inl (subst (λ x. inner x ≡ true) same q.0))
      | inr more ↦ inr more
    ]
  ]

  pub led : (n : ℕ) (i : Instance N) (v : Value N) (ls : List (Location N)) (us : List (Instance N)) → IsOwn i →
      Evaluates look equation known inner n (equation i) v ls us → (j : Instance N) → Leads look forms i j →
      IsFound i us j
  led n i v ls us own p j leads = found ls us i j (whole ls us n i v own p) leads

  -- an evaluation sees it, or it supports what that comes to
  abbrev IsSeen : {A : Type 0} → Run N A → Location N → Type 0
  IsSeen r l = Sees look (HasValue look forms) r l ⊎ ((j : Instance N) × Reaches look (HasValue look forms) r j
      × Supports look forms l j)

  only_by : {A : Type 0} (n : ℕ) → ((j : Instance N) (v : Value N) (ls : List (Location N)) (us : List (Instance N))
      → Tells look equation known inner n j v ls us → (l : Location N) → Among l ls → Supports look forms l j) →
      (r : Run N A) (a : A) (ls : List (Location N)) (us : List (Instance N)) →
      Evaluates look equation known inner n r a ls us → (l : Location N) → Among l ls → IsSeen r l
  only_by n below r a ls us (gives _) l h = absurd h
  only_by n below r a ls us (looks m k _ ls' _ p) l (inl e) = inl (inl (sym e))
  only_by n below r a ls us (looks m k _ ls' _ p) l (inr h) = elim (only_by n below (k (look m)) a ls' us p l h) [
    | inl s ↦ inl (inr s)
    | inr q ↦ inr q
  ]
  only_by n below r a ls us (told j k v _ l1 l2 u1 u2 t p) l h = elim (either_among l l1 l2 h) [
    | inl x ↦ inr (j, inl refl, below j v l1 u1 t l x)
    | inr x ↦ elim (only_by n below (k v) a l2 u2 p l x) [
      | inl s ↦ inl (v, tells_hold n j v l1 u1 t, s)
      | inr q ↦ inr (q.0, inr (v, tells_hold n j v l1 u1 t, q.1), q.2)
    ]
  ]

  only_seen : (i : Instance N) (l : Location N) → IsOwn i → IsSeen (equation i) l → Supports look forms l i
  only_seen i l own (inl s) = (i, stays i, sees_own i l own s)
  only_seen i l own (inr (j, c, (m, d, s))) = (m, goes i j m (comes_own i j own c) d, s)

  tells_only : (n : ℕ) (j : Instance N) (v : Value N) (ls : List (Location N)) (us : List (Instance N)) →
      Tells look equation known inner n j v ls us → (l : Location N) → Among l ls → Supports look forms l j
  tells_only zero j v ls us (e, none, _) l h = let h' = subst (Among l) none h in absurd h'
  tells_only (suc n) j v ls us (inl t) l h = tells_only n j v ls us t l h
  tells_only (suc n) j v ls us (inr (is, p)) l h =
      only_seen j l (ground.own j is) (only_by n (tells_only n) (equation j) v ls us p l h)

  -- it looked at nothing else than what supports it
  pub only : (n : ℕ) (i : Instance N) (v : Value N) (ls : List (Location N)) (us : List (Instance N)) → IsOwn i →
      Evaluates look equation known inner n (equation i) v ls us → (l : Location N) → Among l ls →
      Supports look forms l i
  only n i v ls us own p l h = only_seen i l own (only_by n (tells_only n) (equation i) v ls us p l h)

  -- an evaluation comes to it, or to one that leads to it
  abbrev IsReached : {A : Type 0} → Run N A → Instance N → Type 0
  IsReached r u = (j : Instance N) × Reaches look (HasValue look forms) r j × Leads look forms j u

  takes_by : {A : Type 0} (n : ℕ) → ((j : Instance N) (v : Value N) (ls : List (Location N)) (us : List (Instance N))
      → Tells look equation known inner n j v ls us → (u : Instance N) → Among u us → Leads look forms j u) →
      (r : Run N A) (a : A) (ls : List (Location N)) (us : List (Instance N)) →
      Evaluates look equation known inner n r a ls us → (u : Instance N) → Among u us → IsReached r u
  takes_by n below r a ls us (gives _) u h = absurd h
  takes_by n below r a ls us (looks m k _ ls' _ p) u h = takes_by n below (k (look m)) a ls' us p u h
  takes_by n below r a ls us (told j k v _ l1 l2 u1 u2 t p) u h = elim (either_among u u1 u2 h) [
    | inl x ↦ (j, inl refl, below j v l1 u1 t u x)
    | inr x ↦ let q = takes_by n below (k v) a l2 u2 p u x in (q.0, inr (v, tells_hold n j v l1 u1 t, q.1), q.2)
  ]

  reached_led : (i u : Instance N) → IsOwn i → IsReached (equation i) u → Leads look forms i u
  reached_led i u own (j, c, d) = goes i j u (comes_own i j own c) d

  tells_takes : (n : ℕ) (j : Instance N) (v : Value N) (ls : List (Location N)) (us : List (Instance N)) →
      Tells look equation known inner n j v ls us → (u : Instance N) → Among u us → Leads look forms j u
  tells_takes zero j v ls us (e, _, is) u h = let h' = subst (Among u) is h in elim h' [
    | inl s ↦ subst (λ z. Leads look forms j z) (sym s) (stays j)
    | inr x
        ↦ absurd x
  ]
  tells_takes (suc n) j v ls us (inl t) u h = tells_takes n j v ls us t u h
  tells_takes (suc n) j v ls us (inr (is, p)) u h = reached_led j u (ground.own j is) (takes_by n (tells_takes n)
      (equation j) v ls us p u h)

  -- it leads to all that it took
  pub takes : (n : ℕ) (i : Instance N) (v : Value N) (ls : List (Location N)) (us : List (Instance N)) → IsOwn i →
      Evaluates look equation known inner n (equation i) v ls us → (u : Instance N) → Among u us →
      Leads look forms i u
  takes n i v ls us own p u h = reached_led i u own (takes_by n (tells_takes n) (equation i) v ls us p u h)

  -- what comes behind it is reached from its beginning
  pub reaches_behind : {A B : Type 0} (n : ℕ) (r : Run N A) (k : A →
      Run N B) (a : A) (ls : List (Location N)) (us : List (Instance N)) (j : Instance N) →
      Evaluates look equation known inner n r a ls us → Reaches look (HasValue look forms) (k a) j →
      Reaches look (HasValue look forms) (r >>= k) j
  reaches_behind n r k a ls us j (gives _) h = h
  reaches_behind n r k a ls us j (looks l f _ ls' _ p) h = reaches_behind n (f (look l)) k a ls' us j p h
  reaches_behind n r k a ls us j (told m f v _ l1 l2 u1 u2 t p) h = inr (
    v,
    tells_hold n m v l1 u1 t,
    reaches_behind
        n (f v) k a l2 u2 j p h,
  )
