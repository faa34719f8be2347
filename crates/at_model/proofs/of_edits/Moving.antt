-- Where nodes go when the steps from one node to its children lead elsewhere.
use Rattle.std.proofs.Common.{◌≡◌, ℕ, Bool, true, false, ◌&&◌, nat_eq, if◌then◌else◌, [], ◌∷◌, ◌++◌, Option, Some, refl, sym, ap, ◌∙◌, subst, option_map}
use Rattle.at_model.specs.Paths.{Node, step_eq, node_eq}
use Rattle.at_model.specs.Edits.{moved_under}
use Rattle.at_model.proofs.Options.{mapped}

abbrev pub Way : Type 0
Way = ℕ × ℕ

-- a node goes nowhere but to what the way of its step gives
module _ (past : Way → Option Way) where
  -- steps in other components go on as they are, and no step changes its component
  pub record KeepsParts (part : ℕ) : Type 0 where
    pub other : (s : Way) → nat_eq part s.0 ≡ false → past s ≡ Some s
    pub same : (s u : Way) → past s ≡ Some u → u.0 ≡ s.0

  abbrev pub KeepsIndex : Type 0
  KeepsIndex = (s u : Way) → past s ≡ Some u → u.1 ≡ s.1

  pub moved-nil : (p : Node) → moved_under p past [] ≡ Some []
  moved-nil [] = refl
  moved-nil (a ∷ p) = refl

  -- what a node that has a parent is moved to
  pub record Moved (p n : Node) (s : Way) (part : ℕ) (m : Node) : Type 0 where
    pub parent : Node
    pub step : Way
    pub is : m ≡ parent ++ step ∷ []
    pub up : moved_under p past n ≡ Some parent
    pub part_same : step.0 ≡ s.0
    pub index_same : ((node_eq p n && nat_eq part s.0) ≡ true → KeepsIndex) → step.1 ≡ s.1

  by_test : {A : Type 0} (P : A → Type 0) (b : Bool) (x y : A) → (b ≡ true → P x) → (b ≡ false → P y) → P (if b then x else y)
  by_test P true x y h k = h refl
  by_test P false x y h k = k refl

  module _ (part : ℕ) (keeps : KeepsParts part) where
    at_child : (s : Way) (b : Bool) → nat_eq part s.0 ≡ b → (u : Way) → past s ≡ Some u → ((b ≡ true) → KeepsIndex) → u.1 ≡ s.1
    at_child s true e u is index = index refl s u is
    at_child s false e u is index = let f : Some s ≡ Some u = sym (keeps.other s e) ∙ is in let g : s ≡ u = cc in ap (λ (w : Way). w.1) (sym g)

    pub moved-snoc : (p n : Node) (s : Way) (m : Node) → moved_under p past (n ++ s ∷ []) ≡ Some m → Moved p n s part m
    moved-snoc [] [] s m e =
        let (u, is, f) = mapped (λ (w : Way). w ∷ []) (past s) m e in
        record { parent = []; step = u; is = sym f; up = refl; part_same = keeps.same s u is; index_same = at_child s (nat_eq part s.0) refl u is }
    moved-snoc [] (r ∷ rs) s m e =
        let (u, is, f) = mapped (λ (w : Way). w ∷ (rs ++ s ∷ [])) (past r) m e in
        record { parent = u ∷ rs; step = s; is = sym f; up = ap (option_map (λ (w : Way). w ∷ rs)) is; part_same = refl; index_same = λ h. refl }
    moved-snoc (a ∷ p) [] s m e = first (step_eq a s) e
      where
        first : (b : Bool) → (if b then option_map (λ (us : Node). s ∷ us) (moved_under p past []) else Some (s ∷ [])) ≡ Some m → Moved (a ∷ p) [] s part m
        first true e = let f : Some (s ∷ []) ≡ Some m = sym (ap (option_map (λ (us : Node). s ∷ us)) (moved-nil p))
            ∙ e in record { parent = []; step = s; is = cc; up = refl; part_same = refl; index_same = λ h. refl }
        first false e = record { parent = []; step = s; is = cc; up = refl; part_same = refl; index_same = λ h. refl }
    moved-snoc (a ∷ p) (r ∷ rs) s m e = deeper (step_eq a r) refl e (moved-snoc p rs s)
      where
        deeper : (b : Bool) → step_eq a r ≡ b → (if b then option_map (λ (us : Node). r ∷ us) (moved_under p past (rs ++ s ∷ [])) else Some (r ∷ (rs ++ s ∷ []))) ≡ Some m →
            ((k : Node) → moved_under p past (rs ++ s ∷ []) ≡ Some k → Moved p rs s part k) → Moved (a ∷ p) (r ∷ rs) s part m
        deeper true t e more =
            let (k, is, f) = mapped (λ (us : Node). r ∷ us) (moved_under p past (rs ++ s ∷ [])) m e in
            let rest = more k is in
            let P : Bool → Type 0 = λ b. (if b then option_map (λ (us : Node). r ∷ us) (moved_under p past rs) else Some (r ∷ rs)) ≡ Some (r ∷ rest.parent) in
            let Q : Bool → Type 0 = λ b. ((b && node_eq p rs && nat_eq part s.0) ≡ true → KeepsIndex) → rest.step.1 ≡ s.1 in
            record {
              parent = r ∷ rest.parent;
              step = rest.step;
              is = sym f ∙ ap (λ (us : Node). r ∷ us) rest.is;
              up = subst P (sym t) (ap (option_map (λ (us : Node). r ∷ us)) rest.up);
              part_same = rest.part_same;
              index_same = subst (λ (b : Bool). (((b && node_eq p rs) && nat_eq part s.0) ≡ true → KeepsIndex) → rest.step.1 ≡ s.1) (sym t) rest.index_same;
            }
        deeper false t e more =
            let P : Bool → Type 0 = λ b. (if b then option_map (λ (us : Node). r ∷ us) (moved_under p past rs) else Some (r ∷ rs)) ≡ Some (r ∷ rs) in
            record { parent = r ∷ rs; step = s; is = cc; up = subst P (sym t) refl; part_same = refl; index_same = λ h. refl }

    -- the children go with their node, where their steps stay
    pub moved_children : (p n m : Node) (s : Way) → (node_eq p n && nat_eq part s.0) ≡ false → moved_under p past n ≡ Some m → moved_under p past (n ++ s ∷ []) ≡ Some (m ++ s ∷ [])
    moved_children [] [] m s apart e = let f : [] ≡ m = cc in subst (λ (k : Node). option_map (λ (w : Way). w ∷ [])
        (past s) ≡ Some (k ++ s ∷ [])) f (ap (option_map (λ (w : Way). w ∷ [])) (keeps.other s apart))
    moved_children [] (r ∷ rs) m s apart e =
        let (u, is, f) = mapped (λ (w : Way). w ∷ rs) (past r) m e in
        ap (option_map (λ (w : Way). w ∷ (rs ++ s ∷ []))) is ∙ ap (λ (k : Node). Some (k ++ s ∷ [])) f
    moved_children (a ∷ p) [] m s apart e = let f : [] ≡ m = cc in subst (λ (k : Node). moved_under (a ∷ p) past (s ∷ []) ≡ Some (k ++ s ∷ [])) f
        (by_test (λ (o : Option Node). o ≡ Some (s ∷ [])) (step_eq a s) _ _ (λ t. ap (option_map (λ (us : Node). s ∷ us)) (moved-nil p)) (λ t. refl))
    moved_children (a ∷ p) (r ∷ rs) m s apart e = deeper (step_eq a r) refl apart e (λ k. moved_children p rs k s)
      where
        deeper : (b : Bool) → step_eq a r ≡ b → ((b && node_eq p rs) && nat_eq part s.0) ≡ false → (if b then option_map (λ (us : Node). r ∷ us) (moved_under p past rs) else Some (r ∷ rs)) ≡ Some m →
            ((k : Node) → (node_eq p rs && nat_eq part s.0) ≡ false → moved_under p past rs ≡ Some k → moved_under p past (rs ++ s ∷ []) ≡ Some (k ++ s ∷ [])) →
            (if b then option_map (λ (us : Node). r ∷ us) (moved_under p past (rs ++ s ∷ [])) else Some (r ∷ (rs ++ s ∷ []))) ≡ Some (m ++ s ∷ [])
        deeper true t apart e more =
            let (k, is, f) = mapped (λ (us : Node). r ∷ us) (moved_under p past rs) m e in
            ap (option_map (λ (us : Node). r ∷ us)) (more k apart is) ∙ ap (λ (us : Node). Some (us ++ s ∷ [])) f
        deeper false t apart e more = let f : r ∷ rs ≡ m = cc in ap (λ (us : Node). Some (us ++ s ∷ [])) f

  -- no two nodes go to one
  abbrev pub IsApart : Type 0
  IsApart = (s r u : Way) → past s ≡ Some u → past r ≡ Some u → s ≡ r

  pub moved_apart : IsApart → (p a b c : Node) → moved_under p past a ≡ Some c → moved_under p past b ≡ Some c → a ≡ b
  moved_apart apart [] [] [] c e f = refl
  moved_apart apart [] [] (s ∷ ss) c e f = let (u, is, g) = mapped (λ (w : Way). w ∷ ss) (past s) c f in absurd cc
  moved_apart apart [] (s ∷ ss) [] c e f = let (u, is, g) = mapped (λ (w : Way). w ∷ ss) (past s) c e in absurd cc
  moved_apart apart [] (s ∷ ss) (r ∷ rs) c e f =
      let (u, is, g) = mapped (λ (w : Way). w ∷ ss) (past s) c e in
      let (v, js, h) = mapped (λ (w : Way). w ∷ rs) (past r) c f in
      let both : u ∷ ss ≡ v ∷ rs = g ∙ sym h in let first : u ≡ v = cc in let rest : ss ≡ rs = cc in
      let heads = apart s r u is (js ∙ ap Some (sym first)) in
      λ i. heads i ∷ rest i
  moved_apart apart (x ∷ p) [] [] c e f = refl
  moved_apart apart (x ∷ p) [] (s ∷ ss) c e f = nonempty (step_eq x s) f
    where
      nonempty : (b : Bool) → (if b then option_map (λ (us : Node). s ∷ us) (moved_under p past ss) else Some (s ∷ ss)) ≡ Some c → [] ≡ s ∷ ss
      nonempty true f = let (k, is, g) = mapped (λ (us : Node). s ∷ us) (moved_under p past ss) c f in absurd cc
      nonempty false f = absurd cc
  moved_apart apart (x ∷ p) (s ∷ ss) [] c e f = nonempty (step_eq x s) e
    where
      nonempty : (b : Bool) → (if b then option_map (λ (us : Node). s ∷ us) (moved_under p past ss) else Some (s ∷ ss)) ≡ Some c → s ∷ ss ≡ []
      nonempty true e = let (k, is, g) = mapped (λ (us : Node). s ∷ us) (moved_under p past ss) c e in absurd cc
      nonempty false e = absurd cc
  moved_apart apart (x ∷ p) (s ∷ ss) (r ∷ rs) c e f = deeper (step_eq x s) (step_eq x r) refl refl e f (moved_apart apart p ss rs)
    where
      deeper : (b d : Bool) → step_eq x s ≡ b → step_eq x r ≡ d → (if b then option_map (λ (us : Node). s ∷ us) (moved_under p past ss) else Some (s ∷ ss)) ≡ Some c →
          (if d then option_map (λ (us : Node). r ∷ us) (moved_under p past rs) else Some (r ∷ rs)) ≡ Some c →
          ((k : Node) → moved_under p past ss ≡ Some k → moved_under p past rs ≡ Some k → ss ≡ rs) → s ∷ ss ≡ r ∷ rs
      deeper true true t w e f more =
          let (k, is, g) = mapped (λ (us : Node). s ∷ us) (moved_under p past ss) c e in
          let (j, js, h) = mapped (λ (us : Node). r ∷ us) (moved_under p past rs) c f in
          let both : s ∷ k ≡ r ∷ j = g ∙ sym h in let first : s ≡ r = cc in let rest : k ≡ j = cc in
          let tails = more k is (js ∙ ap Some (sym rest)) in
          λ i. first i ∷ tails i
      deeper true false t w e f more =
          let (k, is, g) = mapped (λ (us : Node). s ∷ us) (moved_under p past ss) c e in
          let first : s ≡ r = cc in let z : step_eq x s ≡ false = subst (λ (y : Way). step_eq x y ≡ false) (sym first) w in absurd cc
      deeper false true t w e f more =
          let (j, js, h) = mapped (λ (us : Node). r ∷ us) (moved_under p past rs) c f in
          let first : s ≡ r = cc in let z : step_eq x r ≡ false = subst (λ (y : Way). step_eq x y ≡ false) first t in absurd cc
      deeper false false t w e f more = cc
