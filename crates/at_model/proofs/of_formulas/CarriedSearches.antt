-- Where two trees are alike at all that supports an instance, a circle from it is one in both, also where attributes
-- are
-- circular; and so is an answer.
use Rattle.std.proofs.Common.{List, [], ◌∷◌, ◌++◌, refl, subst}
use Rattle.at_model.specs.Run.{Contents, Instance}
use Rattle.at_model.specs.Meaning.{Answer, Outcomes, Circle}
use Rattle.at_model.specs.Alike.{ListLike, end, more, InstanceLike, AnswerLike, outcome, circle}
use Rattle.at_model.proofs.of_likeness.CarryingCircles.{Agrees, instance-agrees, among-like, among-back}
use Rattle.at_model.specs.of_fixpoints.Formulas.{Forms, atoms}
use Rattle.at_model.specs.of_fixpoints.Fixpoints.{Spoilt, EndsSo}
use Rattle.at_model.specs.of_fixpoints.Likeness.{FormsLike, AlikeBelow}
use Rattle.at_model.specs.of_fixpoints.Circles.{HasNone, IsOpen, WantsNone, Closes, back, again, formed, spoilt, comes_back, deeper, Circular, Answers}
use Rattle.at_model.proofs.of_formulas.Matching.{joined_lists, atoms_match, spoilt_on}
use Rattle.at_model.proofs.of_formulas.CarriedByFormulas.{IsCarried, outcome_there, outcome_back, ends_so_there, form_there, reaches_there}

module _ {N M : Type 0} {R : N → M → Type 0} (agree : Agrees R) (look : Contents N) (also : Contents M)
    (forms : Forms N) (other : Forms M) (like : FormsLike R forms other) where
  abbrev Pair : Instance N → Instance M → Type 0
  Pair j k = IsCarried agree look also forms other like j k

  none_there : (j : Instance N) (k : Instance M) → Pair j k → HasNone look forms j → HasNone also other k
  none_there j k s none p h = let (o, y, l) = outcome_back agree look also forms other like j k p s h in none o y

  none_back : (j : Instance N) (k : Instance M) → Pair j k → HasNone also other k → HasNone look forms j
  none_back j k s none o h = let (p, y, l) = outcome_there agree look also forms other like j k o s h in none p y

  open_there : (under : List (Instance N)) (below : List (Instance M)) → ListLike (InstanceLike R) under below →
      (j : Instance N) (k : Instance M) → Pair j k → IsOpen look forms under j → IsOpen also other below k
  open_there under below u j k s (h, none) = (among-like (instance-agrees agree) u j k s.0 h, none_there j k s none)

  open_back : (under : List (Instance N)) (below : List (Instance M)) → ListLike (InstanceLike R) under below →
      (j : Instance N) (k : Instance M) → Pair j k → IsOpen also other below k → IsOpen look forms under j
  open_back under below u j k s (h, none) = (among-back (instance-agrees agree) u j k s.0 h, none_back j k s none)

  wants_there : (i j : Instance N) (k : Instance M) → Pair i k → WantsNone look forms i j →
      (h : Instance M) × Pair j h × WantsNone also other k h
  wants_there i j k s (x, none) = let (h, u, y) = reaches_there agree look also forms other like i j k s x in
      (h, u, (y, none_there j h u none))

  -- a search comes back at a like instance
  closes_there : (under seen todo : List (Instance N)) (below met ahead : List (Instance M)) (j : Instance N) →
      ListLike (InstanceLike R) under below → ListLike (InstanceLike R) seen met → ListLike Pair todo ahead →
      Closes look forms under seen todo j →
      (h : Instance M) × InstanceLike R j h × Closes also other below met ahead h
  closes_there under seen _ below met _ j u s end x = absurd (elim x [ ])
  closes_there under seen _ below met _ _ u s (more {a = i} {b = k} t ts) (back _ o) =
      (k, t.0, back k (open_there under below u i k t o))
  closes_there under seen _ below met _ j u s (more {a = i} {b = k} {as' = todo} {bs = ahead} t ts) (again _ o a x) =
      let (h, l, y) = closes_there under seen todo below met ahead j u s ts x in
      (h, l, again k (λ z. o (open_back under below u i k t z)) (among-like (instance-agrees agree) s i k t.0 a) y)
  closes_there under seen _ below met _ j u s (more {a = i} {b = k} {as' = todo} {bs = ahead} t ts)
      (formed _ f o a e x) =
      let (g, d, m) = form_there agree look also forms other like i k f t e in
      let (h, l, y) = closes_there under (i ∷ seen) (atoms f ++ todo) below (k ∷ met) (atoms g ++ ahead) j u
      (more t.0 s)
      (joined_lists (atoms_match m) ts) x in (
        h,
        l,
        formed k g (λ z. o (open_back under below u i k t z))
            (λ z. a (among-back (instance-agrees agree) s i k t.0 z)) d y,
      )
  closes_there under seen _ below met _ j u s (more {a = i} {b = k} {as' = todo} {bs = ahead} t ts)
      (spoilt _ at c o a e x) =
      let (d, y, m) = ends_so_there agree look also forms other like i k (Spoilt c at) t e in
      let (to, q, v) = spoilt_on c at m refl in
      let (h, l, z) = closes_there under (i ∷ seen) todo below (k ∷ met) ahead j u (more t.0 s) ts x in (
        h,
        l,
        spoilt k to c (λ z. o (open_back under below u i k t z))
            (λ z. a (among-back (instance-agrees agree) s i k t.0 z))
            (subst (λ z. EndsSo also other k z) q y) z,
      )
  closes_there under seen _ below met _ j u s (more {a = i} {b = k} t ts) (comes_back _ _ o a w m) =
      let (h, p, v) = wants_there i j k t w in (
        h,
        p.0,
        comes_back k h (λ z. o (open_back under below u i k t z))
            (λ z. a (among-back (instance-agrees agree) s i k t.0 z)) v
            (among-like (instance-agrees agree) (more t.0 (joined_lists s u)) j h p.0 m),
      )
  closes_there under seen _ below met _ j u s (more {a = i} {b = k} t ts) (deeper _ n o a w m x) =
      let (h, p, v) = wants_there i n k t w in
      let line = more t.0 (joined_lists s u) in
      let (e, l, y) = closes_there (i ∷ (seen ++ under)) [] (n ∷ []) (k ∷ (met ++ below)) [] (h ∷ []) j line end
      (more p end) x in (
        e,
        l,
        deeper k h (λ z. o (open_back under below u i k t z))
            (λ z. a (among-back (instance-agrees agree) s i k t.0 z)) v
            (λ z. m (among-back (instance-agrees agree) line n h p.0 z)) y,
      )

  pub circle_there : (q j : Instance N) (k : Instance M) → InstanceLike R q k → AlikeBelow R look also forms q →
      Circular look forms q j →
      (h : Instance M) × InstanceLike R j h × Circular also other k h
  circle_there q j k t a x = closes_there [] [] (q ∷ []) [] [] (k ∷ []) j end end (more (t, a) end) x

  -- an answer is one over the other tree
  pub answer_there : (q : Instance N) (k : Instance M) (x : Answer N) → InstanceLike R q k →
      AlikeBelow R look also forms q → Answers look forms q x →
      (y : Answer M) × AnswerLike R x y × Answers also other k y
  answer_there q k (Outcomes o) t a h = let (p, g, s) =
      outcome_there agree look also forms other like q k o (t, a) h in (Outcomes p, outcome s, g)
  answer_there q k (Circle j) t a h = let (i, s, c) = circle_there q j k t a h in (Circle i, circle s, c)
