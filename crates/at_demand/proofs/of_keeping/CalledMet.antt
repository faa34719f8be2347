-- What the search for a question has met is met by paths, too, and no more; and so is a circle.
use Rattle.std.proofs.Common.{◌≡◌, ◌⊎◌, List, [], ◌∷◌, ◌++◌, inl, inr, refl, ap, subst}
use Rattle.at_model.specs.Run.{Value, Instance, Contents, FaultKind}
use Rattle.at_model.specs.Meaning.{Finds, Reaches}
use Rattle.at_model.specs.Alike.{InstanceLike, ListLike, ValueLike, end, more}
use Rattle.at_model.specs.of_fixpoints.Circles.{Circular, Closes, HasNone, IsOpen}
use Rattle.at_model.specs.of_fixpoints.Circles as closes
use Rattle.at_model.specs.of_fixpoints.Fixpoints.{End, EndsSo, HasValue, Holds, Made, Spoilt}
use Rattle.at_model.specs.of_fixpoints.Formulas.{Formula, Forms, atoms}
use Rattle.at_model.specs.of_fixpoints.Likeness.{FormsLike, FormulaLike}
use Rattle.at_model.specs.of_fixpoints.Met.{IsMet, LooksAt, again, deeper, formed, here, spoilt}
use Rattle.at_model.specs.of_fixpoints.Resting.{stays}
use Rattle.at_model.proofs.of_formulas.CarriedByFormulas.{IsCarried, all_matched, carried_next, ends_so_there, form_there, leads_back, leads_there, outcome_back, outcome_there, reaches_there}
use Rattle.at_model.proofs.of_formulas.EndsAlike.{found_back, reached_back}
use Rattle.at_model.proofs.of_formulas.Matching.{EndMatches, atoms_match, joined_lists, makes, spoils, spoilt_on}
use Rattle.at_model.proofs.of_likeness.CarryingCircles.{Agrees, among-back, among-like, instance-agrees}

module _ {N M : Type 0} {S T : Instance N → Instance M → Type 0} {V : Value N → Value M → Type 0} where
  made_from : {d : End N (Formula N)} {e : End M (Formula M)} → EndMatches S T V d e → (g : Formula M) → e ≡ Made g →
      (f : Formula N) × (d ≡ Made f) × ListLike S (atoms f) (atoms g)
  made_from (makes {f = f} {g = h} s) g e =
      let q : h ≡ g = cc in (f, refl, subst (λ z. ListLike S (atoms f) (atoms z)) q (atoms_match s))
  made_from (spoils k t) g e = absurd cc

  spoilt_from : {d : End N (Formula N)} {e : End M (Formula M)} → EndMatches S T V d e → (k : FaultKind) (b : Instance M) →
      e ≡ Spoilt k b → (a : Instance N) × (d ≡ Spoilt k a)
  spoilt_from (makes s) k b e = absurd cc
  spoilt_from (spoils l {a = c} {b = h} t) k b e = let r : l ≡ k = cc in (c, ap (λ z. Spoilt z c) r)

module _ {N M : Type 0} {R : N → M → Type 0} (agree : Agrees R) (look : Contents N) (also : Contents M)
    (forms : Forms N) (other : Forms M) (like : FormsLike R forms other) where
  abbrev Pair : Instance N → Instance M → Type 0
  Pair j k = IsCarried agree look also forms other like j k

  -- the equation of one ends as that of the other one does
  ends_back : (i : Instance N) (k : Instance M) (e : End M (Formula M)) → Pair i k → EndsSo also other k e →
      (d : End N (Formula N)) × EndsSo look forms i d × EndMatches Pair (InstanceLike R) (ValueLike R) d e
  ends_back i k e s (n, x) =
      let m = all_matched agree look also forms other like n in
      let (d, y, l) = m.back i k e s x in (d, (n, y), l)

  lost_there : (j : Instance N) (k : Instance M) → Pair j k → HasNone look forms j → HasNone also other k
  lost_there j k s none p h = let (o, y, l) = outcome_back agree look also forms other like j k p s h in none o y

  lost_back : (j : Instance N) (k : Instance M) → Pair j k → HasNone also other k → HasNone look forms j
  lost_back j k s none o h = let (p, y, l) = outcome_there agree look also forms other like j k o s h in none p y

  open_there : (under : List (Instance N)) (below : List (Instance M)) → ListLike (InstanceLike R) under below →
      (j : Instance N) (k : Instance M) → Pair j k → IsOpen look forms under j → IsOpen also other below k
  open_there under below u j k s (h, none) = (among-like (instance-agrees agree) u j k s.0 h, lost_there j k s none)

  value_back : (i : Instance N) (k : Instance M) (w : Value M) → Pair i k → HasValue also other k w →
      (v : Value N) × HasValue look forms i v × ValueLike R v w
  value_back i k w s h =
      let (o, y, l) = outcome_back agree look also forms other like i k (Finds w) s h in
      let (v, q, u) = found_back w l refl in (v, subst (Holds look forms i) q y, u)

  reaches_back : (i : Instance N) (k h : Instance M) → Pair i k → Reaches also (HasValue also other) (other.formula k) h →
      (j : Instance N) × Pair j h × Reaches look (HasValue look forms) (forms.formula i) j
  reaches_back i k h (t, a) x =
      let (j, u, y) = reached_back R (FormulaLike R) look also (HasValue look forms) (HasValue also other)
      (like.formulas i k t) (λ l h. a l (i, stays i, h))
      (λ b d v r u. value_back b d v (carried_next agree look also forms other like i b d a (inl r) u)) h x in
      (j, carried_next agree look also forms other like i j h a (inl y) u, y)

  -- a search looks at what a like one looks at
  looks_back : (under seen todo : List (Instance N)) (below met ahead : List (Instance M)) (x : Instance M) →
      ListLike (InstanceLike R) under below → ListLike (InstanceLike R) seen met → ListLike Pair todo ahead →
      LooksAt also other below met ahead x → (y : Instance N) × Pair y x × LooksAt look forms under seen todo y
  looks_back under seen _ below met _ x u s end l = absurd (elim l [ ])
  looks_back under seen _ below met _ _ u s (more {a = i} {b = k} t ts) (here _) = (i, t, here i)
  looks_back under seen _ below met _ x u s (more {a = i} {b = k} {as' = todo} {bs = ahead} t ts) (again _ o a l) =
      let (y, p, z) = looks_back under seen todo below met ahead x u s ts l in
      (y, p, again i (λ w. o (open_there under below u i k t w)) (among-back (instance-agrees agree) s i k t.0 a) z)
  looks_back under seen _ below met _ x u s (more {a = i} {b = k} {as' = todo} {bs = ahead} t ts) (formed _ g o n e l) =
      let (d, q, m) = ends_back i k (Made g) t e in
      let (f, is, same) = made_from m g refl in
      let (y, p, z) = looks_back under (i ∷ seen) (atoms f ++ todo) below (k ∷ met) (atoms g ++ ahead) x u (more t.0 s)
      (joined_lists same ts) l in (
        y,
        p,
        formed i f (λ w. o (open_there under below u i k t w)) (λ w. n (among-like (instance-agrees agree) s i k t.0 w))
            (subst (λ w. EndsSo look forms i w) is q) z,
      )
  looks_back under seen _ below met _ x u s (more {a = i} {b = k} {as' = todo} {bs = ahead} t ts) (spoilt _ at c o n e l) =
      let (d, q, m) = ends_back i k (Spoilt c at) t e in
      let (to, is) = spoilt_from m c at refl in
      let (y, p, z) = looks_back under (i ∷ seen) todo below (k ∷ met) ahead x u (more t.0 s) ts l in (
        y,
        p,
        spoilt i to c (λ w. o (open_there under below u i k t w))
            (λ w. n (among-like (instance-agrees agree) s i k t.0 w)) (subst (λ w. EndsSo look forms i w) is q) z,
      )
  looks_back under seen _ below met _ x u s (more {a = i} {b = k} t ts) (deeper _ h o n (reach, none) m l) =
      let (j, p, v) = reaches_back i k h t reach in
      let line = more t.0 (joined_lists s u) in
      let (y, q, z) = looks_back (i ∷ (seen ++ under)) [] (j ∷ []) (k ∷ (met ++ below)) [] (h ∷ []) x line end (more p end) l in (
        y,
        q,
        deeper i j (λ w. o (open_there under below u i k t w)) (λ w. n (among-like (instance-agrees agree) s i k t.0 w))
            (v, lost_back j h p none) (λ w. m (among-like (instance-agrees agree) line j h p.0 w)) z,
      )

  -- and what it has met, a like one has
  pub met_back : (q : Instance N) (k x : Instance M) → Pair q k → IsMet also other k x →
      (y : Instance N) × Pair y x × IsMet look forms q y
  met_back q k x t m =
      let (by, p, looked) = looks_back [] [] (q ∷ []) [] [] (k ∷ []) m.by end end (more t end) m.looked in
      of_settled by p looked (settled by p)
    where
      settled : (by : Instance N) → Pair by m.by → (j : Instance N) × Pair j m.settled
          × ((by ≡ j) ⊎ Reaches look (HasValue look forms) (forms.formula by) j)
      settled by p = elim m.is [
        | inl e ↦ (by, subst (λ z. Pair by z) e p, inl refl)
        | inr reach ↦ (let (j, u, v) = reaches_back by m.by m.settled p reach in (j, u, inr v))
      ]

      of_settled : (by : Instance N) → Pair by m.by → LooksAt look forms [] [] (q ∷ []) by → ((j : Instance N) × Pair j m.settled
          × ((by ≡ j) ⊎ Reaches look (HasValue look forms) (forms.formula by) j)) → (y : Instance N) × Pair y x × IsMet look forms q y
      of_settled by p looked (j, r, is) =
          let (o, holds, same) = outcome_back agree look also forms other like j m.settled m.outcome r m.holds in
          let (y, u, led) = leads_back agree look also forms other like j m.settled x r m.led in (
            y,
            u,
            record { by = by; looked = looked; settled = j; is = is; outcome = o; holds = holds; led = led },
          )

  open_back : (under : List (Instance N)) (below : List (Instance M)) → ListLike (InstanceLike R) under below →
      (j : Instance N) (k : Instance M) → Pair j k → IsOpen also other below k → IsOpen look forms under j
  open_back under below u j k s (h, none) = (among-back (instance-agrees agree) u j k s.0 h, lost_back j k s none)

  -- and it looks at no more
  looks_there : (under seen todo : List (Instance N)) (below met ahead : List (Instance M)) (x : Instance N) →
      ListLike (InstanceLike R) under below → ListLike (InstanceLike R) seen met → ListLike Pair todo ahead →
      LooksAt look forms under seen todo x → (y : Instance M) × Pair x y × LooksAt also other below met ahead y
  looks_there under seen _ below met _ x u s end l = absurd (elim l [ ])
  looks_there under seen _ below met _ _ u s (more {a = i} {b = k} t ts) (here _) = (k, t, here k)
  looks_there under seen _ below met _ x u s (more {a = i} {b = k} {as' = todo} {bs = ahead} t ts) (again _ o a l) =
      let (y, p, z) = looks_there under seen todo below met ahead x u s ts l in
      (y, p, again k (λ w. o (open_back under below u i k t w)) (among-like (instance-agrees agree) s i k t.0 a) z)
  looks_there under seen _ below met _ x u s (more {a = i} {b = k} {as' = todo} {bs = ahead} t ts) (formed _ f o n e l) =
      let (g, d, m) = form_there agree look also forms other like i k f t e in
      let (y, p, z) = looks_there under (i ∷ seen) (atoms f ++ todo) below (k ∷ met) (atoms g ++ ahead) x u (more t.0 s)
      (joined_lists (atoms_match m) ts) l in (
        y,
        p,
        formed k g (λ w. o (open_back under below u i k t w)) (λ w. n (among-back (instance-agrees agree) s i k t.0 w)) d z,
      )
  looks_there under seen _ below met _ x u s (more {a = i} {b = k} {as' = todo} {bs = ahead} t ts) (spoilt _ at c o n e l) =
      let (d, q, m) = ends_so_there agree look also forms other like i k (Spoilt c at) t e in
      let (to, is, v) = spoilt_on c at m refl in
      let (y, p, z) = looks_there under (i ∷ seen) todo below (k ∷ met) ahead x u (more t.0 s) ts l in (
        y,
        p,
        spoilt k to c (λ w. o (open_back under below u i k t w))
            (λ w. n (among-back (instance-agrees agree) s i k t.0 w)) (subst (λ w. EndsSo also other k w) is q) z,
      )
  looks_there under seen _ below met _ x u s (more {a = i} {b = k} t ts) (deeper _ j o n (reach, none) m l) =
      let (h, p, v) = reaches_there agree look also forms other like i j k t reach in
      let line = more t.0 (joined_lists s u) in
      let (y, q, z) = looks_there (i ∷ (seen ++ under)) [] (j ∷ []) (k ∷ (met ++ below)) [] (h ∷ []) x line end (more p end) l in (
        y,
        q,
        deeper k h (λ w. o (open_back under below u i k t w)) (λ w. n (among-back (instance-agrees agree) s i k t.0 w))
            (v, lost_there j h p none) (λ w. m (among-back (instance-agrees agree) line j h p.0 w)) z,
      )

  pub met_there : (q x : Instance N) (k : Instance M) → Pair q k → IsMet look forms q x →
      (y : Instance M) × Pair x y × IsMet also other k y
  met_there q x k t m =
      let (by, p, looked) = looks_there [] [] (q ∷ []) [] [] (k ∷ []) m.by end end (more t end) m.looked in
      of_settled by looked (settled by p)
    where
      settled : (by : Instance M) → Pair m.by by → (h : Instance M) × Pair m.settled h
          × ((by ≡ h) ⊎ Reaches also (HasValue also other) (other.formula by) h)
      settled by p = elim m.is [
        | inl e ↦ (by, subst (λ z. Pair z by) e p, inl refl)
        | inr reach ↦ (let (h, u, v) = reaches_there agree look also forms other like m.by m.settled by p reach in (h, u, inr v))
      ]

      of_settled : (by : Instance M) → LooksAt also other [] [] (k ∷ []) by → ((h : Instance M) × Pair m.settled h
          × ((by ≡ h) ⊎ Reaches also (HasValue also other) (other.formula by) h)) → (y : Instance M) × Pair x y × IsMet also other k y
      of_settled by looked (h, r, is) =
          let (o, holds, same) = outcome_there agree look also forms other like m.settled h m.outcome r m.holds in
          let (y, u, led) = leads_there agree look also forms other like m.settled x h r m.led in (
            y,
            u,
            record { by = by; looked = looked; settled = h; is = is; outcome = o; holds = holds; led = led },
          )

  -- a search comes back where a like one does
  closes_back : (under seen todo : List (Instance N)) (below met ahead : List (Instance M)) (x : Instance M) →
      ListLike (InstanceLike R) under below → ListLike (InstanceLike R) seen met → ListLike Pair todo ahead →
      Closes also other below met ahead x → (y : Instance N) × InstanceLike R y x × Closes look forms under seen todo y
  closes_back under seen _ below met _ x u s end l = absurd (elim l [ ])
  closes_back under seen _ below met _ _ u s (more {a = i} {b = k} t ts) (closes.back _ o) =
      (i, t.0, closes.back i (open_back under below u i k t o))
  closes_back under seen _ below met _ x u s (more {a = i} {b = k} {as' = todo} {bs = ahead} t ts) (closes.again _ o a l) =
      let (y, p, z) = closes_back under seen todo below met ahead x u s ts l in
      (y, p, closes.again i (λ w. o (open_there under below u i k t w)) (among-back (instance-agrees agree) s i k t.0 a) z)
  closes_back under seen _ below met _ x u s (more {a = i} {b = k} {as' = todo} {bs = ahead} t ts) (closes.formed _ g o n e l) =
      let (d, q, m) = ends_back i k (Made g) t e in
      let (f, is, same) = made_from m g refl in
      let (y, p, z) = closes_back under (i ∷ seen) (atoms f ++ todo) below (k ∷ met) (atoms g ++ ahead) x u (more t.0 s)
      (joined_lists same ts) l in (
        y,
        p,
        closes.formed i f (λ w. o (open_there under below u i k t w)) (λ w. n (among-like (instance-agrees agree) s i k t.0 w))
            (subst (λ w. EndsSo look forms i w) is q) z,
      )
  closes_back under seen _ below met _ x u s (more {a = i} {b = k} {as' = todo} {bs = ahead} t ts) (closes.spoilt _ at c o n e l) =
      let (d, q, m) = ends_back i k (Spoilt c at) t e in
      let (to, is) = spoilt_from m c at refl in
      let (y, p, z) = closes_back under (i ∷ seen) todo below (k ∷ met) ahead x u (more t.0 s) ts l in (
        y,
        p,
        closes.spoilt i to c (λ w. o (open_there under below u i k t w))
            (λ w. n (among-like (instance-agrees agree) s i k t.0 w)) (subst (λ w. EndsSo look forms i w) is q) z,
      )
  closes_back under seen _ below met _ _ u s (more {a = i} {b = k} t ts) (closes.comes_back _ h o n (reach, none) m) =
      let (j, p, v) = reaches_back i k h t reach in (
        j,
        p.0,
        closes.comes_back i j (λ w. o (open_there under below u i k t w)) (λ w. n (among-like (instance-agrees agree) s i k t.0 w))
            (v, lost_back j h p none) (among-back (instance-agrees agree) (more t.0 (joined_lists s u)) j h p.0 m),
      )
  closes_back under seen _ below met _ x u s (more {a = i} {b = k} t ts) (closes.deeper _ h o n (reach, none) m l) =
      let (j, p, v) = reaches_back i k h t reach in
      let line = more t.0 (joined_lists s u) in
      let (y, q, z) = closes_back (i ∷ (seen ++ under)) [] (j ∷ []) (k ∷ (met ++ below)) [] (h ∷ []) x line end (more p end) l in (
        y,
        q,
        closes.deeper i j (λ w. o (open_there under below u i k t w)) (λ w. n (among-like (instance-agrees agree) s i k t.0 w))
            (v, lost_back j h p none) (λ w. m (among-like (instance-agrees agree) line j h p.0 w)) z,
      )

  -- so a circle answers the one question where it answers the other one
  pub circle_back : (q : Instance N) (k x : Instance M) → Pair q k → Circular also other k x →
      (y : Instance N) × InstanceLike R y x × Circular look forms q y
  circle_back q k x t l = closes_back [] [] (q ∷ []) [] [] (k ∷ []) x end end (more t end) l
