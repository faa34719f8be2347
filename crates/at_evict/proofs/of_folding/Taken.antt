-- The slots of all entries, and what is done to each of these.
use Rattle.at_evict.proofs.Common.{◌≡◌, inl, inr, ℕ, ◌<◌, ◌≤◌, ◌+◌, List, [], ◌∷◌, ◌++◌, Option, None, Some, option_map, Contains, get_or, take, length, slice_get, refl, sym, ap, ◌∙◌, subst, arith, cases_eq, cases_lt, length_push, take_more, Contains-append_left, Contains-append_right, Contains-push_cases, none-some, same_Some, get, Instance, Entry, Table, AreLinks, AreTaken, HasLinked, HasUsed, Remains, RemovesAt, Stays, Info, Memory, info, memory_of, head_of, get_push, none_in, at_none, table_by, slice_get_within}

-- these are the slots of the entries at the first places, in their order
pub record TakenBelow (t : Table) (n : ℕ) (slots : List ℕ) : Type 0 where
  pub has : (s p : ℕ) → get t.places s ≡ Some p → p < n → Contains slots s
  pub at : (j s : ℕ) → slice_get slots j ≡ Some s → get t.places s ≡ Some j
  pub len : length slots ≡ n

pub taken_none : (t : Table) (slots : List ℕ) → slots ≡ [] → TakenBelow t 0 slots
taken_none t slots none = record {
  has = λ s p at less. absurd (omega (arith, less));
  at = λ j s h. absurd (none-some s (ap (λ xs. slice_get xs j) (sym none) ∙ h));
  len = ap length none;
}

pub taken_more : (t : Table) (n : ℕ) (slots new : List ℕ) (slot : ℕ) → TakenBelow t n slots
    → Some slot ≡ option_map (λ (e : Instance ℕ × Entry). e.1.slot) (slice_get t.entries.entries n) → new ≡ slots ++ slot ∷ [] → TakenBelow t (n + 1) new
taken_more t n slots new slot before is so = record {
  has = λ s p at less. elim (cases_eq p n) [
    | inl same ↦
        let (e, there, of_slot) = (table_by t.placed).from s p at in
        let found : slice_get t.entries.entries n ≡ Some e = ap (slice_get t.entries.entries) (sym same) ∙ there in
        let one : slot ≡ s = same_Some slot e.1.slot (is ∙ ap (option_map (λ (x : Instance ℕ × Entry). x.1.slot)) found) ∙ of_slot in
        subst (λ xs. Contains xs s) (sym so) (Contains-append_right slots (slot ∷ []) s (subst (Contains (slot ∷ [])) one (head_of slot [])))
    | inr differs ↦ subst (λ xs. Contains xs s) (sym so) (Contains-append_left slots (slot ∷ []) s (before.has s p at (below p less differs)))
  ];
  at = λ j s h. elim (get_push slots slot j s (ap (λ xs. slice_get xs j) (sym so) ∙ h)) [
    | inl old ↦ before.at j s old
    | inr (end, same) ↦ subst (λ k. get t.places s ≡ Some k) (sym (end ∙ before.len)) (subst (λ k. get t.places k ≡ Some n) same (last (slice_get t.entries.entries n) refl))
  ];
  len = ap length so ∙ length_push slots slot ∙ ap (λ k. k + 1) before.len;
}
  where
    below : (p : ℕ) → p < n + 1 → (p ≡ n → ⊥) → p < n
    below p less differs = elim (cases_lt p n) [ inl is ↦ is | inr over ↦ absurd (differs (omega (arith, less, over))) ]

    last : (o : Option (Instance ℕ × Entry)) → slice_get t.entries.entries n ≡ o → get t.places slot ≡ Some n
    last None none = absurd (none-some slot (sym (is ∙ ap (option_map (λ (x : Instance ℕ × Entry). x.1.slot)) none)))
    last (Some e) found =
        let one : slot ≡ e.1.slot = same_Some slot e.1.slot (is ∙ ap (option_map (λ (x : Instance ℕ × Entry). x.1.slot)) found) in
        ap (get t.places) one ∙ (table_by t.placed).to n e found

pub taken_all : (t : Table) (n : ℕ) (slots : List ℕ) → length t.entries.entries ≤ n → TakenBelow t n slots → AreTaken (memory_of t) slots
taken_all t n slots all below s e there = by (get t.places s) refl
  where
    by : (o : Option ℕ) → get t.places s ≡ o → Contains slots s
    by None none = absurd (none-some e (sym (ap (option_map info) (at_none t.entries.entries (get t.places) s none)) ∙ there))
    by (Some p) is =
        let (x, found, of_slot) = (table_by t.placed).from s p is in
        let less = slice_get_within t.entries.entries p x found in
        below.has s p is (omega (arith, less, all))

-- What doesn't stay of these slots is gone.
pub record RemainsOf (into : ℕ → List ℕ) (done : List ℕ) (old new : Memory) : Type 0 where
  pub stays : (k : ℕ) → Stays into k → new k ≡ old k
  pub only : (k : ℕ) (f : Info) → Contains done k → new k ≡ Some f → Stays into k
  pub was : (k : ℕ) (f : Info) → new k ≡ Some f → old k ≡ Some f

module _ {into : ℕ → List ℕ} where
  pub of_none : (m : Memory) → RemainsOf into [] m m
  of_none m = record { stays = λ k s. refl; only = λ k f c. absurd (none_in k c); was = λ k f h. h }

  pub of_more : (slots : List ℕ) (i d : ℕ) (m mid new : Memory) → i < length slots → RemainsOf into (take i slots) m mid
      → RemovesAt into (get_or slots i d) mid new → RemainsOf into (take (i + 1) slots) m new
  of_more slots i d m mid new less a b = record {
    stays = λ k s. elim (cases_eq k slot) [
      | inl same ↦ subst (λ j. new j ≡ mid j) (sym same) (b.stays (subst (Stays into) same s)) ∙ a.stays k s
      | inr differs ↦ b.others k differs ∙ a.stays k s
    ];
    only = λ k f c h. elim (cases_eq k slot) [
      | inl same ↦ subst (Stays into) (sym same) (b.gone f (ap new (sym same) ∙ h))
      | inr differs ↦ elim (Contains-push_cases (take i slots) slot k (subst (λ ys. Contains ys k) (take_more slots i d less) c)) [
        | inl done ↦ a.only k f done (sym (b.others k differs) ∙ h)
        | inr same ↦ absurd (differs (sym same))
      ]
    ];
    was = λ k f h. elim (cases_eq k slot) [
      | inl same ↦
          let here : new slot ≡ Some f = ap new (sym same) ∙ h in
          a.was k f (ap mid same ∙ sym (b.stays (b.gone f here)) ∙ here)
      | inr differs ↦ a.was k f (sym (b.others k differs) ∙ h)
    ];
  }
    where
      slot : ℕ
      slot = get_or slots i d

  pub of_all : (slots : List ℕ) (m new : Memory) → AreTaken m slots → RemainsOf into slots m new → Remains into m new
  of_all slots m new taken a = record { stays = a.stays; only = λ k f h. a.only k f (taken k f (a.was k f h)) h }

-- The links of the entries in these slots are there.
pub record LinksOf (m : Memory) (into : ℕ → List ℕ) (done : List ℕ) (links : ℕ → List ℕ) : Type 0 where
  pub has : (s : ℕ) (e : Info) → Contains done s → m s ≡ Some e → (r p : ℕ) → Contains (into s) r → (r ≡ s → ⊥) → Contains e.links p → Stays into p
      → Contains (links r) p
  pub from : (r p : ℕ) → Contains (links r) p → HasUsed m into p r

module _ {m : Memory} {into : ℕ → List ℕ} where
  pub links_none : (links : ℕ → List ℕ) → ((r : ℕ) → links r ≡ []) → LinksOf m into [] links
  links_none links none = record {
    has = λ s e c. absurd (none_in s c);
    from = λ r p c. absurd (none_in p (subst (λ xs. Contains xs p) (none r) c));
  }

  pub links_one : (slots : List ℕ) (i d : ℕ) {old new : ℕ → List ℕ} → i < length slots → LinksOf m into (take i slots) old
      → HasLinked m into (get_or slots i d) old new → LinksOf m into (take (i + 1) slots) new
  links_one slots i d {old} {new} less a b = record {
    has = λ s e c there r p k other link stays. elim (Contains-push_cases (take i slots) slot s (subst (λ ys. Contains ys s) (take_more slots i d less) c)) [
      | inl done ↦ b.kept r p (a.has s e done there r p k other link stays)
      | inr same ↦ b.has e (ap m same ∙ there) r p (subst (λ j. Contains (into j) r) (sym same) k) (λ is. other (is ∙ same)) link stays
    ];
    from = λ r p c. elim (b.from r p c) [
      | inl d ↦ a.from r p d
      | inr (e, there, k, stays, u) ↦ (stays, (slot, e, there, k, u))
    ];
  }
    where
      slot : ℕ
      slot = get_or slots i d

pub links_all : (m : Memory) (into : ℕ → List ℕ) (slots : List ℕ) (links : ℕ → List ℕ) → AreTaken m slots → LinksOf m into slots links → AreLinks m into links
links_all m into slots links taken a = record { has = λ s r p e there c other d k. a.has s e (taken s e there) there r p c other d k; from = a.from }
