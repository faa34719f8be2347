-- One entry more goes, or one less is there.
use Rattle.at_cache.proofs.Common.{◌≡◌, ◌&&◌, ◌⊎◌, inl, inr, ℕ, List, [], ◌∷◌, Bool, true, false, not, Option, None, Some, option_map, nat_eq, if◌then◌else◌, Contains, IsSome, refl, sym, ap, ◌∙◌, subst, arith, eqb-true, cases_eq, eq-eqb, ne_eqb, none-some, same_Some, Contains-cons, Contains-cons_cases, Edge, Info, Memory, head_of, Reached, Work, IsChain, IsDoomed, IsSame, doomed, dooms, first_after, is_fresh}

-- those of a chain are there, and going
pub chain_going : (m : Memory) (first : Option ℕ) (ss : List ℕ) → IsChain m first ss → (s : ℕ) → Contains ss s → (e : Info) × (m s ≡ Some e) × (e.going ≡ true)
chain_going m first [] h s c = absurd (let within = c.1 in omega arith)
chain_going m first (t ∷ ts) (is, (e, there, going, rest), apart) s c = elim (Contains-cons_cases t s ts c) [
  | inl same ↦ (e, ap m (sym same) ∙ there, going)
  | inr in_rest ↦ chain_going m e.next ts rest s in_rest
]

-- what isn't of the chain may change
pub chain_stays : (m later : Memory) (first : Option ℕ) (ss : List ℕ) → IsChain m first ss → ((s : ℕ) → Contains ss s → later s ≡ m s) → IsChain later first ss
chain_stays m later first [] h same = h
chain_stays m later first (t ∷ ts) (is, (e, there, going, rest), apart) same =
    (is, (e, same t (head_of t ts) ∙ there, going, chain_stays m later e.next ts rest (λ s c. same s (Contains-cons t s ts c))), apart)

-- what an edge tells of is fresh
pub fresh_is : (x : Edge) (e : Info) → is_fresh x (Some e) ≡ true → (e.stamp ≡ x.stamp) × (e.going ≡ false)
fresh_is x e h = by (nat_eq e.stamp x.stamp) refl e.going refl
  where
    by : (b : Bool) → nat_eq e.stamp x.stamp ≡ b → (g : Bool) → e.going ≡ g → (e.stamp ≡ x.stamp) × (e.going ≡ false)
    by true p false q = (eqb-true e.stamp x.stamp p, q)
    by true p true q = absurd (let h2 = ap (λ b. b && not e.going) p in let h3 = ap (λ g. not g) q in cc)
    by false p g q = absurd (let h2 = ap (λ b. b && not e.going) p in cc)

pub stale_is : (x : Edge) (e : Info) → is_fresh x (Some e) ≡ false → e.stamp ≡ x.stamp → e.going ≡ true
stale_is x e h same = by e.going refl
  where
    by : (g : Bool) → e.going ≡ g → e.going ≡ true
    by true q = q
    by false q = absurd (let h2 = ap (λ b. b && not e.going) (eq-eqb e.stamp x.stamp same) in let h3 = ap (λ g. not g) q in cc)

module _ {old m : Memory} {start todo : List Edge} {x : Edge} {first : Option ℕ} (w : Work old start (x ∷ todo) first m) where
  -- the edge tells of nothing that is there and stays
  pub passed : IsDoomed m x → Work old start todo first m
  passed doomed_is = record {
    chain = w.chain;
    linked = w.linked;
    all = w.all;
    same = w.same;
    reason = w.reason;
    gone = w.gone;
    started = λ y c. by y (w.started y c);
    left = λ s f there gone y c. by y (w.left s f there gone y c);
    due = λ y c. w.due y (Contains-cons x y todo c);
  }
    where
      by : (y : Edge) → IsDoomed m y ⊎ Contains (x ∷ todo) y → IsDoomed m y ⊎ Contains todo y
      by y (inl d) = inl d
      by y (inr c) = elim (Contains-cons_cases x y todo c) [ inl same ↦ inl (subst (IsDoomed m) same doomed_is) | inr rest ↦ inr rest ]

  module _ {later : Memory} (e : Info) (there : m x.slot ≡ Some e) (stamp : e.stamp ≡ x.stamp) (stayed : e.going ≡ false) (here : later x.slot ≡ Some (doomed first e)) (others : (k : ℕ) → (k ≡ x.slot → ⊥) → later k ≡ m k) where
    is_new : (e' : Info) → later x.slot ≡ Some e' → doomed first e ≡ e'
    is_new e' h = same_Some _ _ (sym here ∙ h)

    apart : Contains w.chain x.slot → ⊥
    apart c = let (f, found, going) = chain_going m first w.chain w.linked x.slot c in let same : e ≡ f = same_Some _ _ (sym there ∙ found) in let g = ap (λ (y : Info). y.going) same in cc

    goes_on : (y : Edge) → IsDoomed m y → IsDoomed later y
    goes_on y d f found same = elim (cases_eq y.slot x.slot) [
      | inl at_x ↦ let new : doomed first e ≡ f = is_new f (ap later (sym at_x) ∙ found) in sym (ap (λ (z : Info). z.going) new)
      | inr differs ↦ d f (sym (others y.slot differs) ∙ found) same
    ]

    goes_now : IsDoomed later x
    goes_now f found same = let new : doomed first e ≡ f = is_new f found in sym (ap (λ (z : Info). z.going) new)

    -- it goes
    pub goes_too : Work old start todo (Some x.slot) later
    goes_too = record {
      chain = x.slot ∷ w.chain;
      linked = (refl, (doomed first e, here, refl, chain_stays m later first w.chain w.linked (λ s c. others s (λ is. apart (subst (Contains w.chain) is c)))), apart);
      all = λ s f found going. elim (cases_eq s x.slot) [
        | inl at_x ↦ subst (Contains (x.slot ∷ w.chain)) (sym at_x) (head_of x.slot w.chain)
        | inr differs ↦ Contains-cons x.slot s w.chain (w.all s f (sym (others s differs) ∙ found) going)
      ];
      same = λ s f found. elim (cases_eq s x.slot) [
        | inl at_x ↦ let new : doomed first e ≡ f = is_new f (ap later (sym at_x) ∙ found) in
            let (o, was, alike) = w.same x.slot e there in
            (o, ap old at_x ∙ was, subst (IsSame o) new (record { instance = alike.instance; value = alike.value; links = alike.links; stamp = alike.stamp; since = alike.since; users = alike.users }))
        | inr differs ↦ w.same s f (sym (others s differs) ∙ found)
      ];
      reason = λ s f found going. elim (cases_eq s x.slot) [
        | inl at_x ↦ let (o, was, alike) = w.same x.slot e there in subst (Reached old start) (sym at_x) (w.due x (head_of x todo) o was (sym alike.stamp ∙ stamp))
        | inr differs ↦ w.reason s f (sym (others s differs) ∙ found) going
      ];
      gone = λ s f was none. elim (cases_eq s x.slot) [
        | inl at_x ↦ absurd (none-some (doomed first e) (sym none ∙ ap later at_x ∙ here))
        | inr differs ↦ w.gone s f was (sym (others s differs) ∙ none)
      ];
      started = λ y c. by y (w.started y c);
      left = λ s f was none y c. elim (cases_eq s x.slot) [
        | inl at_x ↦ absurd (none-some (doomed first e) (sym none ∙ ap later at_x ∙ here))
        | inr differs ↦ by y (w.left s f was (sym (others s differs) ∙ none) y c)
      ];
      due = λ y c. w.due y (Contains-cons x y todo c);
    }
      where
        by : (y : Edge) → IsDoomed m y ⊎ Contains (x ∷ todo) y → IsDoomed later y ⊎ Contains todo y
        by y (inl d) = inl (goes_on y d)
        by y (inr c) = elim (Contains-cons_cases x y todo c) [ inl same ↦ inl (subst (IsDoomed later) same goes_now) | inr rest ↦ inr rest ]

-- one edge of those to do
module _ {old m later : Memory} {start todo : List Edge} {x : Edge} {first after : Option ℕ} where
  pub dooming : Work old start (x ∷ todo) first m → ((k : ℕ) → later k ≡ dooms x first m k) → after ≡ first_after x first m → Work old start todo after later
  dooming w written is = by (m x.slot) refl
    where
      at_x : later x.slot ≡ (if is_fresh x (m x.slot) then option_map (doomed first) (m x.slot) else m x.slot)
      at_x = written x.slot ∙ ap (λ b. if b && is_fresh x (m x.slot) then option_map (doomed first) (m x.slot) else m x.slot) (eq-eqb x.slot x.slot refl)

      others : (k : ℕ) → (k ≡ x.slot → ⊥) → later k ≡ m k
      others k differs = written k ∙ ap (λ b. if b && is_fresh x (m k) then option_map (doomed first) (m k) else m k) (ne_eqb k x.slot differs)

      unchanged : is_fresh x (m x.slot) ≡ false → later ≡ m
      unchanged stale i k = by_slot k (cases_eq k x.slot) i
        where
          by_slot : (k : ℕ) → (k ≡ x.slot) ⊎ (k ≡ x.slot → ⊥) → later k ≡ m k
          by_slot k (inl same) = ap later same ∙ at_x ∙ ap (λ b. if b then option_map (doomed first) (m x.slot) else m x.slot) stale ∙ ap m (sym same)
          by_slot k (inr differs) = others k differs

      stays : is_fresh x (m x.slot) ≡ false → IsDoomed m x → Work old start todo after later
      stays stale d =
          let kept : after ≡ first = is ∙ ap (λ b. if b then Some x.slot else first) stale in
          subst (λ a. Work old start todo a later) (sym kept) (subst (Work old start todo first) (sym (unchanged stale)) (passed w d))

      by : (o : Option Info) → m x.slot ≡ o → Work old start todo after later
      by None none = stays (ap (is_fresh x) none) (λ e there same. absurd (none-some e (sym none ∙ there)))
      by (Some e) there = by_test (is_fresh x (Some e)) refl
        where
          by_test : (b : Bool) → is_fresh x (Some e) ≡ b → Work old start todo after later
          by_test true fresh =
              let now : is_fresh x (m x.slot) ≡ true = ap (is_fresh x) there ∙ fresh in
              let (stamp, stayed) = fresh_is x e fresh in
              let kept : after ≡ Some x.slot = is ∙ ap (λ b. if b then Some x.slot else first) now in
              let here : later x.slot ≡ Some (doomed first e) = at_x ∙ ap (λ b. if b then option_map (doomed first) (m x.slot) else m x.slot) now ∙ ap (option_map (doomed first)) there in
              subst (λ a. Work old start todo a later) (sym kept) (goes_too w e there stamp stayed here others)
          by_test false stale = stays (ap (is_fresh x) there ∙ stale) (λ f found same. stale_is x f (ap (is_fresh x) (sym found ∙ there) ∙ stale) same)

-- what one edge does, where its entry is fresh, and where it isn't
module _ (x : Edge) (first : Option ℕ) (m later : Memory) where
  pub doom_fresh : is_fresh x (m x.slot) ≡ true → ((k : ℕ) → later k ≡ (if nat_eq k x.slot then option_map (doomed first) (m k) else m k)) → (k : ℕ) → later k ≡ dooms x first m k
  doom_fresh fresh written k = written k ∙ by (cases_eq k x.slot)
    where
      by : (k ≡ x.slot) ⊎ (k ≡ x.slot → ⊥) → (if nat_eq k x.slot then option_map (doomed first) (m k) else m k) ≡ dooms x first m k
      by (inl same) =
          let now : is_fresh x (m k) ≡ true = ap (λ n. is_fresh x (m n)) same ∙ fresh in
          ap (λ b. if b then option_map (doomed first) (m k) else m k) (eq-eqb k x.slot same)
          ∙ sym (ap (λ b. if b && is_fresh x (m k) then option_map (doomed first) (m k) else m k) (eq-eqb k x.slot same) ∙ ap (λ b. if b then option_map (doomed first) (m k) else m k) now)
      by (inr differs) =
          ap (λ b. if b then option_map (doomed first) (m k) else m k) (ne_eqb k x.slot differs)
          ∙ sym (ap (λ b. if b && is_fresh x (m k) then option_map (doomed first) (m k) else m k) (ne_eqb k x.slot differs))

  pub doom_stale : is_fresh x (m x.slot) ≡ false → (k : ℕ) → m k ≡ dooms x first m k
  doom_stale stale k = by (cases_eq k x.slot)
    where
      by : (k ≡ x.slot) ⊎ (k ≡ x.slot → ⊥) → m k ≡ dooms x first m k
      by (inl same) =
          let now : is_fresh x (m k) ≡ false = ap (λ n. is_fresh x (m n)) same ∙ stale in
          sym (ap (λ b. if b && is_fresh x (m k) then option_map (doomed first) (m k) else m k) (eq-eqb k x.slot same) ∙ ap (λ b. if b then option_map (doomed first) (m k) else m k) now)
      by (inr differs) = sym (ap (λ b. if b && is_fresh x (m k) then option_map (doomed first) (m k) else m k) (ne_eqb k x.slot differs))

  pub first_fresh : is_fresh x (m x.slot) ≡ true → Some x.slot ≡ first_after x first m
  first_fresh fresh = sym (ap (λ b. if b then Some x.slot else first) fresh)

  pub first_stale : is_fresh x (m x.slot) ≡ false → first ≡ first_after x first m
  first_stale stale = sym (ap (λ b. if b then Some x.slot else first) stale)

-- a fresh entry is there
pub fresh_there : (x : Edge) (o : Option Info) → is_fresh x o ≡ true → IsSome o
fresh_there x None h = absurd (cc)
fresh_there x (Some e) h = refl
