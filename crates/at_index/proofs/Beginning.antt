-- Which edges are asked of nodes.
use Rattle.at_index.proofs.Common.{◌≡◌, ◌⊎◌, inl, inr, ℕ, ◌+◌, ◌/◌, ◌^◌, get_or, List, [], ◌∷◌, ◌++◌, Bool, true, false, true≢false, cond, Some, Contains, take, if◌then◌else◌, length, ◌<◌, ◌≤◌, refl, sym, ap, ◌∙◌, subst, append-nil, arith, eqb-true, and_from, cases_lt, take_more, flat_map-append, Contains-append_cases, Contains-append_left, Contains-append_right, Location, both, Loc, loc_view, Edge, Facet, Readers, edges_in, Asked, Answers, node_at, same_location, edges_among, has_number, number_of, stands_for}
use Rattle.std.proofs.Common.{eq-eqb}
use Rattle.std.specs.Bool.{MatchBool}
use Rattle.at_index.specs.declared.facet.Facet.TheVariants as facet
use Rattle.at_index.proofs.Locations.{near_at, near_number, none_from, none_past, same_location-is, same_location-itself, same_number, stands_at}
use Rattle.at_index.proofs.Lists.{none_in}

module _ {says : Location ℕ → Bool → Type 0} {seen : Location ℕ → Bool} where
  -- nothing is asked yet
  pub asked_none : Asked says seen (λ l. []) []
  asked_none = record { from = λ x c. absurd (none_in x c); all = λ l s. inr (λ x c. c) }

  -- one list after another is asked
  pub asked_both : {lists more both : Location ℕ → List Edge} {start edges : List Edge} → ((l : Location ℕ) → both l ≡ lists l ++ more l) → Asked says seen lists start → Asked says seen more edges → Asked says seen both (start ++ edges)
  asked_both {lists} {more} {both} {start} {edges} is a b = record {
    from = λ x c. elim (Contains-append_cases start edges x c) [
      | inl d ↦ let (l, said, e) = a.from x d in (l, said, subst (λ es. Contains es x) (sym (is l)) (Contains-append_left (lists l) (more l) x e))
      | inr d ↦ let (l, said, e) = b.from x d in (l, said, subst (λ es. Contains es x) (sym (is l)) (Contains-append_right (lists l) (more l) x e))
    ];
    all = λ l s. elim (a.all l s) [
      | inl said ↦ inl said
      | inr left ↦ elim (b.all l s) [
        | inl said ↦ inl said
        | inr right ↦ inr (λ x c. elim (Contains-append_cases (lists l) (more l) x (subst (λ es. Contains es x) (is l) c)) [
          | inl d ↦ Contains-append_left start edges x (left x d)
          | inr d ↦ Contains-append_right start edges x (right x d)
        ])
      ]
    ];
  }

-- What is answered of the one location of a facet.
pub told_of_one : (post : Loc → Bool → Type 0) (n : ℕ) (f : Facet) (x : Loc) (b : Bool) → ((l : Location ℕ) → stands_for n f l ≡ same_location l (loc_view x))
    → post x b
    → MatchBool b ((l : Location ℕ) × (stands_for n f l ≡ true) × Answers post l true) ((l : Location ℕ) → stands_for n f l ≡ true → Answers post l false)
told_of_one post n f x true alone p = (loc_view x, alone (loc_view x) ∙ same_location-itself (loc_view x), (x, refl, p))
told_of_one post n f x false alone p = λ l stands. (x, sym (same_location-is l (loc_view x) (sym (alone l) ∙ stands)), p)

-- the locations of a set whose numbers are below this one have the answer `false`
abbrev pub AreFalse : (says : Location ℕ → Bool → Type 0) → (node set number : ℕ) → Type 0
AreFalse says node set number = (l : Location ℕ) (k : ℕ) → node_at l ≡ node → number_of l ≡ Some k → k < number → has_number set k ≡ true → says l false

module _ (says : Location ℕ → Bool → Type 0) (node set number : ℕ) where
  -- one number more isn't in the set
  pub number_passed : AreFalse says node set number → has_number set number ≡ false → AreFalse says node set (number + 1)
  number_passed asked off l k at is less has = elim (cases_lt k number) [
    | inl before ↦ asked l k at is before has
    | inr after ↦ absurd (let same : k ≡ number = omega (arith, less, after) in true≢false (sym has ∙ ap (has_number set) same ∙ off))
  ]

  -- or was asked
  pub number_asked : AreFalse says node set number → (x : Location ℕ) → node_at x ≡ node → number_of x ≡ Some number → says x false
      → AreFalse says node set (number + 1)
  number_asked asked x here it said l k at is less has = elim (cases_lt k number) [
    | inl before ↦ asked l k at is before has
    | inr after ↦
        let same : k ≡ number = omega (arith, less, after) in
        subst (λ m. says m false) (same_number x l number (here ∙ sym at) it (is ∙ ap Some same)) said
  ]

  -- all were, where the set has no number from here on
  all_asked_by : AreFalse says node set number → ((k : ℕ) → number ≤ k → has_number set k ≡ false) → (l : Location ℕ)
      → stands_for node (facet.Near set) l ≡ true → says l false
  all_asked_by asked none l stands =
      let (near, at) = both _ _ stands in
      let (k, is, has) = near_number set l near in
      elim (cases_lt k number) [
        | inl before ↦ asked l k (eqb-true _ _ at) is before has
        | inr after ↦ absurd (true≢false (sym has ∙ none k after))
      ]

  pub all_asked : AreFalse says node set number → set / 2 ^ number ≡ 0 → (l : Location ℕ) → stands_for node (facet.Near set) l ≡ true → says l false
  all_asked asked none = all_asked_by asked (λ k more. none_from set number k none more)

  -- all numbers were passed
  pub all_passed : AreFalse says node set number → set < 2 ^ 32 → 32 ≤ number → (l : Location ℕ) → stands_for node (facet.Near set) l ≡ true
      → says l false
  all_passed asked fits end = all_asked_by asked (λ k more. none_past set 32 k fits (omega (arith, end, more)))

  -- one is touched
  pub one_touched : (x : Location ℕ) → node_at x ≡ node → number_of x ≡ Some number → has_number set number ≡ true → says x true
      → (l : Location ℕ) × (stands_for node (facet.Near set) l ≡ true) × says l true
  one_touched x here it has said = (x, and_from _ _ (near_at set number x it ∙ has) (eq-eqb _ _ here), said)

module _ (n : ℕ) where
  -- the edges of one facet
  abbrev pub edges_of : Readers → Location ℕ → List Edge
  edges_of r l = if stands_for n r.facet l then edges_in r.edges else []

  pub among_more : (rs : List Readers) (r : Readers) (l : Location ℕ) → edges_among n (rs ++ r ∷ []) l ≡ edges_among n rs l ++ edges_of r l
  among_more rs r l = flat_map-append (λ r. edges_of r l) rs (r ∷ []) ∙ ap (λ es. edges_among n rs l ++ es) (append-nil (edges_of r l))

  pub among_others : (rs : List Readers) (l : Location ℕ) → (node_at l ≡ n → ⊥) → edges_among n rs l ≡ []
  among_others [] l differs = refl
  among_others (r ∷ rs) l differs =
      ap (λ es. es ++ edges_among n rs l) (by (stands_for n r.facet l) refl) ∙ among_others rs l differs
    where
      by : (b : Bool) → stands_for n r.facet l ≡ b → cond b (edges_in r.edges) [] ≡ []
      by true h = absurd (differs (stands_at n r.facet l h))
      by false h = refl

  module _ {says : Location ℕ → Bool → Type 0} {seen : Location ℕ → Bool} (r : Readers) where
    pub asked_touched : (l : Location ℕ) × (stands_for n r.facet l ≡ true) × says l true
        → Asked says seen (edges_of r) (edges_in r.edges)
    asked_touched (k, stands, said) = record {
      from = λ x c. (k, said, subst (λ b. Contains (cond b (edges_in r.edges) []) x) (sym stands) c);
      all = λ l s. inr (λ x c. by (stands_for n r.facet l) x c);
    }
      where
        by : (b : Bool) (x : Edge) → Contains (cond b (edges_in r.edges) []) x → Contains (edges_in r.edges) x
        by true x c = c
        by false x c = absurd (none_in x c)

    pub asked_untouched : ((l : Location ℕ) → stands_for n r.facet l ≡ true → seen l ≡ true → says l false)
        → Asked says seen (edges_of r) []
    asked_untouched said = record {
      from = λ x c. absurd (none_in x c);
      all = λ l s. by l s (stands_for n r.facet l) refl;
    }
      where
        by : (l : Location ℕ) → seen l ≡ true → (b : Bool) → stands_for n r.facet l ≡ b
            → says l false ⊎ ((x : Edge) → Contains (cond b (edges_in r.edges) []) x → Contains [] x)
        by l s true h = inl (said l h s)
        by l s false h = inr (λ x c. c)

-- one facet more is asked
module _ {says : Location ℕ → Bool → Type 0} {seen : Location ℕ → Bool} (n : ℕ) (rs : List Readers) (i : ℕ) (r : Readers) (is : r ≡ get_or rs i r) (less : i < length rs) {edges : List Edge} (asked : Asked says seen (edges_among n (take i rs)) edges) where
  on_more : (lists : List Edge) → Asked says seen (edges_among n (take i rs ++ r ∷ [])) lists → Asked says seen (edges_among n (take (i + 1) rs)) lists
  on_more lists b = subst (λ (ss : List Readers). Asked says seen (edges_among n ss) lists) (ap (λ (s : Readers). take i rs ++ s ∷ []) is ∙ sym (take_more rs i r less)) b

  pub asked_next_touched : (l : Location ℕ) × (stands_for n r.facet l ≡ true) × says l true
      → Asked says seen (edges_among n (take (i + 1) rs)) (edges ++ (edges_in r.edges))
  asked_next_touched said = on_more (edges ++ (edges_in r.edges)) (asked_both (among_more n (take i rs) r) asked (asked_touched n r said))

  pub asked_next_untouched : ((l : Location ℕ) → stands_for n r.facet l ≡ true → seen l ≡ true → says l false)
      → Asked says seen (edges_among n (take (i + 1) rs)) edges
  asked_next_untouched said = on_more edges (subst (Asked says seen (edges_among n (take i rs ++ r ∷ []))) (append-nil edges) (asked_both (among_more n (take i rs) r) asked (asked_untouched n r said)))
