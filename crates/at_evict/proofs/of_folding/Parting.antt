-- What is kept of a list that is made anew, and the edges that are added.
use Rattle.at_evict.proofs.Common.{◌≡◌, ◌⊎◌, inl, inr, ℕ, ◌<◌, ◌≤◌, ◌+◌, ◌-◌, List, [], ◌∷◌, ◌++◌, true, None, Some, Contains, IsPermutation, get_or, slice_get, swap_remove, take, length, sym, ap, ◌∙◌, subst, arith, cases_eq, cases_lt, get_or_default, take_more, Contains-append_left, Contains-push, Contains-push_cases, Contains-permutation, IsPermutation-swap_remove, IsPermutation-sym, none-some, same_Some, Contains-cons, Contains-cons_cases, Edge, Row, Added, AreAlone, Gathered, HasUser, Parted, Refolded, told_of, Memory, Lists, is_current, edges_along, edges_of, head_of, none_in, past, stayed, got, along_from, along_has, along_to}
use Rattle.at_evict.proofs.of_folding.Gathering.{only_one, told_same, user_of}

module _ (m : Memory) (into : ℕ → List ℕ) where
  -- Of some edges those are in the rows that stay by the rows before the place, and others; of what went the targets are gathered.
  pub record PartedTo (start : List Edge) (rows : List Row) (place : ℕ) (slots : List ℕ) : Type 0 where
    pub has : (x y : Edge) → Contains start x → is_current m x ≡ true → Contains (into x.slot) y.slot → is_current m y ≡ true
        → Contains (edges_along rows) x ⊎ Contains slots y.slot
    pub from : (x : Edge) → Contains (edges_along rows) x → Contains start x
    pub alone : (k : ℕ) (r : Row) → k < place → slice_get rows k ≡ Some r → AreAlone (is_current m) into (edges_of r)
    pub users : (r : ℕ) → Contains slots r → HasUser (is_current m) into start r

  pub parted_start : (rows : List Row) (slots : List ℕ) → slots ≡ [] → PartedTo (edges_along rows) rows 0 slots
  parted_start rows slots none = record {
    has = λ x y c is d k. inl c;
    from = λ x c. c;
    alone = λ k r less. absurd (omega (arith, less));
    users = λ r c. absurd (none_in r (subst (λ rs. Contains rs r) none c));
  }

  -- the row at the place stays
  pub parted_stays : (start : List Edge) (rows read : List Row) (place : ℕ) (d : Row) (slots : List ℕ) → place < length rows → read ≡ rows
      → AreAlone (is_current m) into (edges_of (get_or read place d)) → PartedTo start rows place slots → PartedTo start rows (place + 1) slots
  parted_stays start rows read place d slots less same here p = record {
    has = p.has;
    from = p.from;
    alone = λ k r under is. elim (cases_eq k place) [
      | inl one ↦
          let it : get_or read place d ≡ r = ap (λ (rs : List Row). get_or rs place d) same ∙ same_Some _ r (sym (got rows place d less) ∙ ap (slice_get rows) (sym one) ∙ is) in
          subst (λ (w : Row). AreAlone (is_current m) into (edges_of w)) it here
      | inr differs ↦ p.alone k r (below k under differs) is
    ];
    users = p.users;
  }
    where
      below : (k : ℕ) → k < place + 1 → (k ≡ place → ⊥) → k < place
      below k under differs = elim (cases_lt k place) [ inl is ↦ is | inr over ↦ absurd (differs (omega (arith, under, over))) ]

  -- it goes, and its targets are gathered
  pub parted_goes : (start : List Edge) (rows read new : List Row) (place : ℕ) (r d : Row) (old slots : List ℕ) → place < length rows → read ≡ rows
      → r ≡ get_or rows place r → new ≡ swap_remove rows place r → Gathered (is_current m) into (edges_of (get_or read place d)) old slots
      → PartedTo start rows place old → PartedTo start new place slots
  parted_goes start rows read new place r d old slots less same is swapped gathered p = record {
    has = λ x y c there e k. elim (p.has x y c there e k) [
      | inl f ↦
          let (row, g, h) = along_from edges_of rows x f in
          elim (Contains-cons_cases r row new (Contains-permutation rows (r ∷ new) row shuffled g)) [
            | inl one ↦ inr (g_all.has x y.slot (subst (λ (w : Row). Contains (edges_of w) x) (sym one) h) there e)
            | inr rest ↦ inl (along_to edges_of new row x rest h)
          ]
      | inr f ↦ inr (g_all.kept y.slot f)
    ];
    from = λ x c. p.from x (stands x c);
    alone = λ k row under at. p.alone k row under (sym (left k under row at) ∙ at);
    users = λ t c. elim (g_all.from t c) [
      | inl before ↦ p.users t before
      | inr u ↦ user_of (is_current m) into (edges_of r) start t (λ x e. p.from x (along_has rows place r x (got rows place r less ∙ ap Some (sym is)) e)) u
    ];
  }
    where
      shuffled : IsPermutation rows (r ∷ new)
      shuffled = subst (λ ys. IsPermutation rows (r ∷ ys)) (sym swapped) (IsPermutation-swap_remove rows place r less is)

      g_all : Gathered (is_current m) into (edges_of r) old slots
      g_all = subst (λ (w : Row). Gathered (is_current m) into (edges_of w) old slots)
          (ap (λ (rs : List Row). get_or rs place d) same ∙ sym (get_or_default rows place r d less) ∙ sym is) gathered

      stands : (x : Edge) → Contains (edges_along new) x → Contains (edges_along rows) x
      stands x c =
          let (row, e, f) = along_from edges_of new x c in
          along_to edges_of rows row x (Contains-permutation (r ∷ new) rows row (IsPermutation-sym rows (r ∷ new) shuffled) (Contains-cons r row new e)) f

      left : (k : ℕ) → k < place → (row : Row) → slice_get new k ≡ Some row → slice_get new k ≡ slice_get rows k
      left k under row at = elim (cases_lt k (length rows - 1)) [
        | inl before ↦ ap (λ (rs : List Row). slice_get rs k) swapped ∙ stayed rows place r less k before (λ one. absurd (omega (arith, under, one)))
        | inr behind ↦ absurd (none-some row (sym (ap (λ (rs : List Row). slice_get rs k) swapped ∙ past rows place r less k behind) ∙ at))
      ]

  -- it stands behind all rows
  pub parted_end : (start : List Edge) (rows : List Row) (place : ℕ) (slots : List ℕ) → length rows ≤ place → PartedTo start rows place slots
      → Parted m into start slots (edges_along rows)
  parted_end start rows place slots all p = record {
    has = λ x y c is d k. elim (p.has x y c is d k) [
      | inl e ↦
          let same : y.slot ≡ x.slot = only_one x.slot y.slot (subst (λ rs. Contains rs y.slot) ((each x e).1) d) in
          inl (subst (Contains (edges_along rows)) (told_same m x y is k (sym same)) e)
      | inr e ↦ inr e
    ];
    from = λ y c. let (is, only) = each y c in (is, (y, p.from y c, is, subst (λ rs. Contains rs y.slot) (sym only) (head_of y.slot [])));
    users = p.users;
  }
    where
      each : (x : Edge) → Contains (edges_along rows) x → (is_current m x ≡ true) × (into x.slot ≡ x.slot ∷ [])
      each x c =
          let (r, d, e) = along_from edges_of rows x c in
          let (k, less, at) = d in
          p.alone k r (omega (arith, less, all)) (got rows k r less ∙ ap Some at) x e

  -- with edges to what is gathered that is the new list
  pub refolded_parted : (xs : List Edge) (slots sorted : List ℕ) (kept new : List Edge) → IsPermutation slots sorted → Parted m into xs slots kept
      → Added m kept sorted new → Refolded (is_current m) into xs new
  refolded_parted xs slots sorted kept new shuffled p a = record {
    has = λ y u k.
        let (x, c, is, d) = u in
        elim (p.has x y c is d k) [ inl e ↦ a.keeps y e k | inr e ↦ a.has y (Contains-permutation slots sorted y.slot shuffled e) k ];
    from = λ y c. elim (a.from y c) [
      | inl e ↦ p.from y e
      | inr (is, d) ↦ (is, p.users y.slot (Contains-permutation sorted slots y.slot (IsPermutation-sym slots sorted shuffled) d))
    ];
  }

module _ (m : Memory) (kept : List Edge) where
  -- edges to no slots
  pub added_none : Added m kept [] kept
  added_none = record { keeps = λ y c is. c; has = λ y c is. absurd (none_in y.slot c); from = λ y c. inl c }

  further : (slots : List ℕ) (s : ℕ) (edges : List Edge) (y : Edge) → Added m kept slots edges → Contains edges y
      → Contains kept y ⊎ ((is_current m y ≡ true) × Contains (slots ++ s ∷ []) y.slot)
  further slots s edges y a c = elim (a.from y c) [ inl d ↦ inl d | inr (is, d) ↦ inr (is, Contains-append_left slots (s ∷ []) y.slot d) ]

  -- to a slot more, in which nothing is
  pub added_same : (slots : List ℕ) (s : ℕ) (edges : List Edge) → m s ≡ None → Added m kept slots edges → Added m kept (slots ++ s ∷ []) edges
  added_same slots s edges none a = record {
    keeps = a.keeps;
    has = λ y c is. elim (Contains-push_cases slots s y.slot c) [
      | inl d ↦ a.has y d is
      | inr same ↦ let (e, found, stamp) = told_of m y is in absurd (none-some e (sym none ∙ ap m same ∙ found))
    ];
    from = λ y c. further slots s edges y a c;
  }

  -- to a slot more, to which there is one
  pub added_had : (slots : List ℕ) (x : Edge) (edges : List Edge) → is_current m x ≡ true → Contains edges x → Added m kept slots edges
      → Added m kept (slots ++ x.slot ∷ []) edges
  added_had slots x edges is had a = record {
    keeps = a.keeps;
    has = λ y c k. elim (Contains-push_cases slots x.slot y.slot c) [
      | inl d ↦ a.has y d k
      | inr same ↦ subst (Contains edges) (told_same m x y is k same) had
    ];
    from = λ y c. further slots x.slot edges y a c;
  }

  -- to a slot more, by a new one
  pub added_more : (slots : List ℕ) (x : Edge) (old new : List Edge) → is_current m x ≡ true → Lists (is_current m) x old new → Contains new x → Added m kept slots old
      → Added m kept (slots ++ x.slot ∷ []) new
  added_more slots x old new is lists has a = record {
    keeps = λ y c k. lists.keeps y (a.keeps y c k) k;
    has = λ y c k. elim (Contains-push_cases slots x.slot y.slot c) [
      | inl d ↦ lists.keeps y (a.has y d k) k
      | inr same ↦ subst (Contains new) (told_same m x y is k same) has
    ];
    from = λ y c. elim (lists.only y c) [
      | inl d ↦ further slots x.slot old y a d
      | inr same ↦
          inr (subst (λ (z : Edge). (is_current m z ≡ true) × Contains (slots ++ x.slot ∷ []) z.slot) (sym same) (is, Contains-push slots x.slot))
    ];
  }

  -- along the slots
  pub added_push : (xs : List ℕ) (i x : ℕ) (edges : List Edge) → i < length xs → x ≡ get_or xs i x → Added m kept (take i xs ++ x ∷ []) edges
      → Added m kept (take (i + 1) xs) edges
  added_push xs i x edges less is a = subst (λ ys. Added m kept ys edges) (ap (λ y. take i xs ++ y ∷ []) is ∙ sym (take_more xs i x less)) a
