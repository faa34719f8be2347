-- The last entry takes the place of one that is taken out.
use Rattle.at_cache.proofs.Common.{◌≡◌, ◌⊎◌, inl, inr, ℕ, zero, suc, ◌<◌, ◌≤◌, ◌-◌, List, [], ◌∷◌, ◌++◌, Option, None, Some, option_map, nat_eq, if◌then◌else◌, length, take, get_or, slice_get, slice_set, swap_remove, refl, sym, ap, ◌∙◌, subst, arith, eqb-true, Bool, true, false, true≢false, cases_eq, cases_lt, eq-eqb, ne_eqb, none-some, same_Some, slice_get_within, IsDistinct, keys_of, set_value_at, Instance, same_instance, instances_equiv, Entry, get_left, get_push, get_seam, got, IsMoved, IsPlaced, at}
use Rattle.std.proofs.lemmas.Map.Keys.{apart_from_distinct}
use Rattle.at_index.proofs.Gained.{get_other}

-- where each slot's entry is, with the entry
pub record IsTable (es : List (Instance ℕ × Entry)) (slots : ℕ → Option ℕ) : Type 0 where
  pub to : (p : ℕ) (e : Instance ℕ × Entry) → slice_get es p ≡ Some e → slots e.1.slot ≡ Some p
  pub from : (k p : ℕ) → slots k ≡ Some p → (e : Instance ℕ × Entry) × (slice_get es p ≡ Some e) × (e.1.slot ≡ k)

module _ {X : Type 0} where
  set_here : (xs : List X) (k : ℕ) (v : X) → k < length xs → slice_get (slice_set xs k v) k ≡ Some v
  set_here [] k v h = absurd (omega arith)
  set_here (x ∷ xs) zero v h = refl
  set_here (x ∷ xs) (suc k) v h = set_here xs k v (omega arith)

  pub take_within : (n : ℕ) (xs : List X) (k : ℕ) → k < n → slice_get (take n xs) k ≡ slice_get xs k
  take_within zero xs k h = absurd (omega arith)
  take_within (suc n) [] k h = refl
  take_within (suc n) (x ∷ xs) zero h = refl
  take_within (suc n) (x ∷ xs) (suc k) h = take_within n xs k (omega arith)

  pub take_past : (n : ℕ) (xs : List X) (k : ℕ) → n ≤ k → slice_get (take n xs) k ≡ None
  take_past zero xs k h = refl
  take_past (suc n) [] k h = refl
  take_past (suc n) (x ∷ xs) zero h = absurd (omega arith)
  take_past (suc n) (x ∷ xs) (suc k) h = take_past n xs k (omega arith)

  module _ (xs : List X) (i : ℕ) (d : X) (h : i < length xs) where
    pub moved : i < length xs - 1 → slice_get (swap_remove xs i d) i ≡ slice_get xs (length xs - 1)
    moved before = take_within (length xs - 1) _ i before ∙ set_here xs i _ h ∙ sym (got xs (length xs - 1) d (omega arith))

    pub stayed : (k : ℕ) → k < length xs - 1 → (k ≡ i → ⊥) → slice_get (swap_remove xs i d) k ≡ slice_get xs k
    stayed k before differs = take_within (length xs - 1) _ k before ∙ get_other xs i k _ differs

    pub past : (k : ℕ) → length xs - 1 ≤ k → slice_get (swap_remove xs i d) k ≡ None
    past k behind = take_past (length xs - 1) _ k behind

pub at_some : (es : List (Instance ℕ × Entry)) (slots : ℕ → Option ℕ) (k q : ℕ) → slots k ≡ Some q → at es slots k ≡ slice_get es q
at_some es slots k q h = ap (λ (o : Option ℕ). elim o as (λ _. Option (Instance ℕ × Entry)) [ None ↦ None | Some p ↦ slice_get es p ]) h

pub at_none : (es : List (Instance ℕ × Entry)) (slots : ℕ → Option ℕ) (k : ℕ) → slots k ≡ None → at es slots k ≡ None
at_none es slots k h = ap (λ (o : Option ℕ). elim o as (λ _. Option (Instance ℕ × Entry)) [ None ↦ None | Some p ↦ slice_get es p ]) h

-- one entry is taken out, and the last one takes its place
module _ (es : List (Instance ℕ × Entry)) (slots mid new : ℕ → Option ℕ) (slot p : ℕ) (e : Instance ℕ × Entry) (table : IsTable es slots) (was : slots slot ≡ Some p) (gone : mid slot ≡ None) (others : (k : ℕ) → (k ≡ slot → ⊥) → mid k ≡ slots k) (there : slice_get es p ≡ Some e) where
  abbrev fs : List (Instance ℕ × Entry)
  fs = swap_remove es p e

  inside : p < length es
  inside = slice_get_within es p e there

  apart : (k q : ℕ) → (k ≡ slot → ⊥) → slots k ≡ Some q → q ≡ p → ⊥
  apart k q differs h same =
      let (f, found, is) = table.from k q h in
      let (g, had, its) = table.from slot p was in
      let alike : f ≡ g = same_Some f g (sym found ∙ ap (slice_get es) same ∙ had) in
      differs (sym is ∙ ap (λ (x : Instance ℕ × Entry). x.1.slot) alike ∙ its)

  differs_by : (k q : ℕ) → slots k ≡ Some q → (q ≡ p → ⊥) → k ≡ slot → ⊥
  differs_by k q h other same = other (same_Some q p (sym h ∙ ap slots same ∙ was))

  module _ (at_slot : new slot ≡ None) (at_last : (k : ℕ) → (k ≡ slot → ⊥) → slots k ≡ Some (length es - 1) → new k ≡ Some p) (at_other : (k q : ℕ) → (k ≡ slot → ⊥) → slots k ≡ Some q → (q ≡ length es - 1 → ⊥) → new k ≡ Some q) (at_free : (k : ℕ) → slots k ≡ None → new k ≡ None) where
    where_now : (k q : ℕ) (f : Instance ℕ × Entry) → (k ≡ slot → ⊥) → slots k ≡ Some q → slice_get es q ≡ Some f → (r : ℕ) × (new k ≡ Some r) × (slice_get fs r ≡ Some f)
    where_now k q f differs h found = elim (cases_eq q (length es - 1)) [
      | inl last ↦ let other = apart k q differs h in let before : p < length es - 1 = omega (arith, inside, other) in
          (p, at_last k differs (h ∙ ap Some last), moved es p e inside before ∙ ap (slice_get es) (sym last) ∙ found)
      | inr q_other ↦ let w = slice_get_within es q f found in (q, at_other k q differs h q_other, stayed es p e inside q (omega (arith, w, q_other)) (apart k q differs h) ∙ found)
    ]

    pub table_after : IsTable fs new
    table_after = record {
      to = λ r f found. to r f found (cases_eq r p);
      from = λ k r h. from k r h (cases_eq k slot) (slots k) refl;
    }
      where
        in_front : (r : ℕ) (f : Instance ℕ × Entry) → slice_get fs r ≡ Some f → r < length es - 1
        in_front r f found = elim (cases_lt r (length es - 1)) [ inl less ↦ less | inr behind ↦ absurd (none-some f (sym (past es p e inside r behind) ∙ found)) ]

        to : (r : ℕ) (f : Instance ℕ × Entry) → slice_get fs r ≡ Some f → (r ≡ p) ⊎ (r ≡ p → ⊥) → new f.1.slot ≡ Some r
        to r f found (inl same) =
            let front = in_front r f found in
            let before : p < length es - 1 = omega (arith, front, same) in
            let at_end : slice_get es (length es - 1) ≡ Some f = sym (moved es p e inside before) ∙ ap (slice_get fs) (sym same) ∙ found in
            let h = table.to (length es - 1) f at_end in
            at_last f.1.slot (differs_by f.1.slot (length es - 1) h (λ last. omega (arith, before, last))) h ∙ ap Some (sym same)
        to r f found (inr other) =
            let front = in_front r f found in
            let here : slice_get es r ≡ Some f = sym (stayed es p e inside r front other) ∙ found in
            let h = table.to r f here in
            at_other f.1.slot r (differs_by f.1.slot r h other) h (λ last. omega (arith, front, last))

        from : (k r : ℕ) → new k ≡ Some r → (k ≡ slot) ⊎ (k ≡ slot → ⊥) → (o : Option ℕ) → slots k ≡ o → (f : Instance ℕ × Entry) × (slice_get fs r ≡ Some f) × (f.1.slot ≡ k)
        from k r h (inl same) o is = absurd (none-some r (sym at_slot ∙ ap new (sym same) ∙ h))
        from k r h (inr differs) None is = absurd (none-some r (sym (at_free k is) ∙ h))
        from k r h (inr differs) (Some q) is =
            let (f, found, its) = table.from k q is in
            let (n, now, here) = where_now k q f differs is found in
            (f, ap (slice_get fs) (same_Some r n (sym h ∙ now)) ∙ here, its)

    pub others_after : (k : ℕ) → at fs new k ≡ (if nat_eq k slot then None else at es slots k)
    others_after k = by (cases_eq k slot) (slots k) refl
      where
        by : (k ≡ slot) ⊎ (k ≡ slot → ⊥) → (o : Option ℕ) → slots k ≡ o → at fs new k ≡ (if nat_eq k slot then None else at es slots k)
        by (inl same) o is = at_none fs new k (ap new same ∙ at_slot) ∙ sym (ap (λ b. if b then None else at es slots k) (eq-eqb k slot same))
        by (inr differs) None is = at_none fs new k (at_free k is) ∙ sym (at_none es slots k is) ∙ sym (ap (λ b. if b then None else at es slots k) (ne_eqb k slot differs))
        by (inr differs) (Some q) is =
            let (f, found, its) = table.from k q is in
            let (r, now, here) = where_now k q f differs is found in
            at_some fs new k r now ∙ here ∙ sym found ∙ sym (at_some es slots k q is) ∙ sym (ap (λ b. if b then None else at es slots k) (ne_eqb k slot differs))

  -- so the slots are, where what came to the place is noted
  pub removes : IsMoved (option_map (λ x. x.1.slot) (slice_get fs p)) p mid new → IsTable fs new × ((k : ℕ) → at fs new k ≡ (if nat_eq k slot then None else at es slots k))
  removes noted = by (cases_lt p (length es - 1))
    where
      by : (p < length es - 1) ⊎ (length es - 1 ≤ p) → IsTable fs new × ((k : ℕ) → at fs new k ≡ (if nat_eq k slot then None else at es slots k))
      by (inr behind) =
          let is : (k : ℕ) → new k ≡ mid k = subst (λ (o : Option (Instance ℕ × Entry)). IsMoved (option_map (λ x. x.1.slot) o) p mid new) (past es p e inside p behind) noted in
          let a = is slot ∙ gone in
          let b : (k : ℕ) → (k ≡ slot → ⊥) → slots k ≡ Some (length es - 1) → new k ≡ Some p = λ k differs h. absurd (apart k (length es - 1) differs h (omega (arith, inside, behind))) in
          let c : (k q : ℕ) → (k ≡ slot → ⊥) → slots k ≡ Some q → (q ≡ length es - 1 → ⊥) → new k ≡ Some q = λ k q differs h other. is k ∙ others k differs ∙ h in
          let d : (k : ℕ) → slots k ≡ None → new k ≡ None = λ k h. elim (cases_eq k slot) [ inl same ↦ ap new same ∙ a | inr differs ↦ is k ∙ others k differs ∙ h ] in
          (table_after a b c d, others_after a b c d)
      by (inl before) = last (slice_get es (length es - 1)) refl
        where
          last : (o : Option (Instance ℕ × Entry)) → slice_get es (length es - 1) ≡ o → IsTable fs new × ((k : ℕ) → at fs new k ≡ (if nat_eq k slot then None else at es slots k))
          last None none = absurd (none-some _ (sym none ∙ got es (length es - 1) e (omega (arith, before))))
          last (Some g) found =
              let its = table.to (length es - 1) g found in
              let g_other = differs_by g.1.slot (length es - 1) its (λ same. omega (arith, before, same)) in
              let is : (k : ℕ) → new k ≡ (if nat_eq k g.1.slot then option_map (λ q. p) (mid k) else mid k) = subst (λ (o : Option (Instance ℕ × Entry)). IsMoved (option_map (λ x. x.1.slot) o) p mid new) (moved es p e inside before ∙ found) noted in
              let here : (k : ℕ) → k ≡ g.1.slot → new k ≡ option_map (λ q. p) (mid k) = λ k same. is k ∙ ap (λ b. if b then option_map (λ q. p) (mid k) else mid k) (eq-eqb k g.1.slot same) in
              let off : (k : ℕ) → (k ≡ g.1.slot → ⊥) → new k ≡ mid k = λ k differs. is k ∙ ap (λ b. if b then option_map (λ q. p) (mid k) else mid k) (ne_eqb k g.1.slot differs) in
              let a = off slot (λ same. g_other (sym same)) ∙ gone in
              let is_g : (k : ℕ) → slots k ≡ Some (length es - 1) → k ≡ g.1.slot = λ k h. let (f, had, k_is) = table.from k (length es - 1) h in sym k_is ∙ ap (λ (x : Instance ℕ × Entry). x.1.slot) (same_Some f g (sym had ∙ found)) in
              let b : (k : ℕ) → (k ≡ slot → ⊥) → slots k ≡ Some (length es - 1) → new k ≡ Some p = λ k differs h. here k (is_g k h) ∙ ap (option_map (λ q. p)) (others k differs ∙ h) in
              let c : (k q : ℕ) → (k ≡ slot → ⊥) → slots k ≡ Some q → (q ≡ length es - 1 → ⊥) → new k ≡ Some q = λ k q differs h other. off k (λ same. other (same_Some q _ (sym h ∙ ap slots same ∙ its))) ∙ others k differs ∙ h in
              let d : (k : ℕ) → slots k ≡ None → new k ≡ None = λ k h. elim (cases_eq k slot) [ inl same ↦ ap new same ∙ a | inr differs ↦ off k (λ same. none-some _ (sym h ∙ ap slots same ∙ its)) ∙ others k differs ∙ h ] in
              (table_after a b c d, others_after a b c d)

-- nothing is in the slot
pub nothing_there : (es : List (Instance ℕ × Entry)) (slots : ℕ → Option ℕ) (slot : ℕ) → slots slot ≡ None → at es slots slot ≡ None
nothing_there es slots slot h = at_none es slots slot h

pub nothing_removed : (es : List (Instance ℕ × Entry)) (slots : ℕ → Option ℕ) (slot : ℕ) → slots slot ≡ None → (k : ℕ) → at es slots k ≡ (if nat_eq k slot then None else at es slots k)
nothing_removed es slots slot h k = elim (cases_eq k slot) [
  | inl same ↦ at_none es slots k (ap slots same ∙ h) ∙ sym (ap (λ b. if b then None else at es slots k) (eq-eqb k slot same))
  | inr differs ↦ sym (ap (λ b. if b then None else at es slots k) (ne_eqb k slot differs))
]

pub entry_there : (es : List (Instance ℕ × Entry)) (slots : ℕ → Option ℕ) (slot p : ℕ) → IsTable es slots → slots slot ≡ Some p → slice_get es p ≡ None → ⊥
entry_there es slots slot p table was none = let (f, found, is) = table.from slot p was in none-some f (sym none ∙ found)

pub removed_is : (es : List (Instance ℕ × Entry)) (slots : ℕ → Option ℕ) (slot p : ℕ) (e : Instance ℕ × Entry) → slots slot ≡ Some p → slice_get es p ≡ Some e → Some e.1 ≡ option_map (λ x. x.1) (at es slots slot)
removed_is es slots slot p e was there = sym (ap (option_map (λ (x : Instance ℕ × Entry). x.1)) (at_some es slots slot p was ∙ there))

-- one entry comes behind the others
module _ (es fs : List (Instance ℕ × Entry)) (slots new : ℕ → Option ℕ) (slot : ℕ) (instance : Instance ℕ) (entry : Entry) (of_slot : entry.slot ≡ slot) (table : IsTable es slots) (free : slots slot ≡ None) (pushed : fs ≡ es ++ (instance, entry) ∷ []) (changed : new slot ≡ Some (length es)) (others : (k : ℕ) → (k ≡ slot → ⊥) → new k ≡ slots k) where
  abbrev its : Instance ℕ × Entry
  its = (instance, entry)

  not_free : (k p : ℕ) → slots k ≡ Some p → k ≡ slot → ⊥
  not_free k p h same = none-some p (sym free ∙ ap slots (sym same) ∙ h)

  left : (p : ℕ) (e : Instance ℕ × Entry) → slice_get es p ≡ Some e → slice_get fs p ≡ Some e
  left p e h = ap (λ xs. slice_get xs p) pushed ∙ get_left es (its ∷ []) p e h

  seam : slice_get fs (length es) ≡ Some its
  seam = ap (λ xs. slice_get xs (length es)) pushed ∙ get_seam es its

  pub table_entered : IsTable fs new
  table_entered = record {
    to = λ p e h. elim (get_push es its p e (ap (λ xs. slice_get xs p) (sym pushed) ∙ h)) [
      | inl there ↦ let at_p = table.to p e there in others e.1.slot (not_free e.1.slot p at_p) ∙ at_p
      | inr (at_end, same) ↦ ap new (ap (λ (x : Instance ℕ × Entry). x.1.slot) (sym same) ∙ of_slot) ∙ changed ∙ ap Some (sym at_end)
    ];
    from = λ k p h. elim (cases_eq k slot) [
      | inl same ↦ (its, ap (slice_get fs) (same_Some p (length es) (sym h ∙ ap new same ∙ changed)) ∙ seam, of_slot ∙ sym same)
      | inr differs ↦ let (e, found, is) = table.from k p (sym (others k differs) ∙ h) in (e, left p e found, is)
    ];
  }

  pub slot_entered : (k : ℕ) → at fs new k ≡ (if nat_eq k slot then Some its else at es slots k)
  slot_entered k = by k (cases_eq k slot) (slots k) refl
    where
      by : (k : ℕ) → (k ≡ slot) ⊎ (k ≡ slot → ⊥) → (o : Option ℕ) → slots k ≡ o → at fs new k ≡ (if nat_eq k slot then Some its else at es slots k)
      by k (inl same) o is = at_some fs new k (length es) (ap new same ∙ changed) ∙ seam ∙ sym (ap (λ b. if b then Some its else at es slots k) (eq-eqb k slot same))
      by k (inr differs) None is = at_none fs new k (others k differs ∙ is) ∙ sym (at_none es slots k is) ∙ sym (ap (λ b. if b then Some its else at es slots k) (ne_eqb k slot differs))
      by k (inr differs) (Some p) is = let (e, found, here) = table.from k p is in
          at_some fs new k p (others k differs ∙ is) ∙ left p e found ∙ sym found ∙ sym (at_some es slots k p is) ∙ sym (ap (λ b. if b then Some its else at es slots k) (ne_eqb k slot differs))

-- a slot is taken and given back
pub given_back : (slots mid new : ℕ → Option ℕ) (slot : ℕ) → slots slot ≡ None → new slot ≡ None → ((k : ℕ) → (k ≡ slot → ⊥) → mid k ≡ slots k) → ((k : ℕ) → (k ≡ slot → ⊥) → new k ≡ mid k) → new ≡ slots
given_back slots mid new slot free gone there back i k = by k (cases_eq k slot) i
  where
    by : (k : ℕ) → (k ≡ slot) ⊎ (k ≡ slot → ⊥) → new k ≡ slots k
    by k (inl same) = ap new same ∙ gone ∙ sym free ∙ ap slots (sym same)
    by k (inr differs) = back k differs ∙ there k differs

-- no two entries are of one instance
abbrev pub AreApart : List (Instance ℕ × Entry) → Type 0
AreApart es = (p q : ℕ) (e f : Instance ℕ × Entry) → slice_get es p ≡ Some e → slice_get es q ≡ Some f → same_instance e.0 f.0 ≡ true → p ≡ q

-- the table by tests is the table
pub placed : {es : List (Instance ℕ × Entry)} {slots : ℕ → Option ℕ} → IsTable es slots → AreApart es → IsPlaced es slots
placed {es} {slots} t apart = record {
  to = t.to;
  from = λ k p h. let (e, found, is) = t.from k p h in ap (λ (o : Option (Instance ℕ × Entry)). elim o as (λ _. Bool) [ None ↦ false | Some e ↦ nat_eq e.1.slot k ]) found ∙ eq-eqb e.1.slot k is;
  apart = apart;
}

pub table_by : {es : List (Instance ℕ × Entry)} {slots : ℕ → Option ℕ} → IsPlaced es slots → IsTable es slots
table_by {es} {slots} t = record { to = t.to; from = λ k p h. by k p (slice_get es p) refl (t.from k p h) }
  where
    by : (k p : ℕ) (o : Option (Instance ℕ × Entry)) → slice_get es p ≡ o → (elim (slice_get es p) as (λ _. Bool) [ None ↦ false | Some e ↦ nat_eq e.1.slot k ]) ≡ true → (e : Instance ℕ × Entry) × (slice_get es p ≡ Some e) × (e.1.slot ≡ k)
    by k p None is h = absurd (let no_one = ap (λ (o : Option (Instance ℕ × Entry)). elim o as (λ _. Bool) [ None ↦ false | Some e ↦ nat_eq e.1.slot k ]) is in cc)
    by k p (Some e) is h = (e, is, eqb-true e.1.slot k (sym (ap (λ (o : Option (Instance ℕ × Entry)). elim o as (λ _. Bool) [ None ↦ false | Some e ↦ nat_eq e.1.slot k ]) is) ∙ h))

-- just one slot has its entry at that place
pub one_slot : {es : List (Instance ℕ × Entry)} {slots : ℕ → Option ℕ} → IsPlaced es slots → (s p : ℕ) → slots s ≡ Some p → (k : ℕ) → slots k ≡ Some p → k ≡ s
one_slot t s p there k at =
    let (e, found, is) = (table_by t).from s p there in
    let (f, again, its) = (table_by t).from k p at in
    sym its ∙ ap (λ (x : Instance ℕ × Entry). x.1.slot) (same_Some f e (sym again ∙ found)) ∙ is

-- one entry is changed, and keeps its slot
value_here : (es : List (Instance ℕ × Entry)) (p : ℕ) (e : Instance ℕ × Entry) (w : Entry) → slice_get es p ≡ Some e → slice_get (set_value_at es p w) p ≡ Some (e.0, w)
value_here [] p e w h = absurd (none-some e h)
value_here (x ∷ xs) zero e w h = ap (λ (y : Instance ℕ × Entry). Some (y.0, w)) (same_Some x e h)
value_here (x ∷ xs) (suc p) e w h = value_here xs p e w h

value_there : (es : List (Instance ℕ × Entry)) (p q : ℕ) (w : Entry) → (q ≡ p → ⊥) → slice_get (set_value_at es p w) q ≡ slice_get es q
value_there [] p q w differs = refl
value_there (x ∷ xs) zero zero w differs = absurd (differs refl)
value_there (x ∷ xs) zero (suc q) w differs = refl
value_there (x ∷ xs) (suc p) zero w differs = refl
value_there (x ∷ xs) (suc p) (suc q) w differs = value_there xs p q w (λ same. differs (ap suc same))

module _ (es : List (Instance ℕ × Entry)) (slots : ℕ → Option ℕ) (slot p : ℕ) (e : Instance ℕ × Entry) (w : Entry) (table : IsTable es slots) (was : slots slot ≡ Some p) (there : slice_get es p ≡ Some e) (same_slot : w.slot ≡ e.1.slot) where
  pub table_changed : IsTable (set_value_at es p w) slots
  table_changed = record {
    to = λ q f h. to q f h (cases_eq q p);
    from = λ k q h. let (f, found, is) = table.from k q h in elim (cases_eq q p) [
      | inl same ↦
          let alike : f ≡ e = same_Some f e (sym found ∙ ap (slice_get es) same ∙ there) in
          ((e.0, w), ap (slice_get (set_value_at es p w)) same ∙ value_here es p e w there, same_slot ∙ ap (λ (x : Instance ℕ × Entry). x.1.slot) (sym alike) ∙ is)
      | inr differs ↦ (f, value_there es p q w differs ∙ found, is)
    ];
  }
    where
      to : (q : ℕ) (f : Instance ℕ × Entry) → slice_get (set_value_at es p w) q ≡ Some f → (q ≡ p) ⊎ (q ≡ p → ⊥) → slots f.1.slot ≡ Some q
      to q f h (inl same) =
          let alike : (e.0, w) ≡ f = same_Some _ f (sym (value_here es p e w there) ∙ ap (slice_get (set_value_at es p w)) (sym same) ∙ h) in
          ap slots (ap (λ (x : Instance ℕ × Entry). x.1.slot) (sym alike) ∙ same_slot) ∙ table.to p e there ∙ ap Some (sym same)
      to q f h (inr differs) = table.to q f (sym (value_there es p q w differs) ∙ h)

  pub at_changed : (k : ℕ) → at (set_value_at es p w) slots k ≡ (if nat_eq k slot then Some (e.0, w) else at es slots k)
  at_changed k = by (cases_eq k slot) (slots k) refl
    where
      by : (k ≡ slot) ⊎ (k ≡ slot → ⊥) → (o : Option ℕ) → slots k ≡ o → at (set_value_at es p w) slots k ≡ (if nat_eq k slot then Some (e.0, w) else at es slots k)
      by (inl same) o is = at_some (set_value_at es p w) slots k p (ap slots same ∙ was) ∙ value_here es p e w there ∙ sym (ap (λ b. if b then Some (e.0, w) else at es slots k) (eq-eqb k slot same))
      by (inr differs) None is = at_none (set_value_at es p w) slots k is ∙ sym (at_none es slots k is) ∙ sym (ap (λ b. if b then Some (e.0, w) else at es slots k) (ne_eqb k slot differs))
      by (inr differs) (Some q) is =
          let (f, found, its) = table.from k q is in
          let (g, had, of_slot) = table.from slot p was in
          let other : q ≡ p → ⊥ = λ same. differs (sym its ∙ ap (λ (x : Instance ℕ × Entry). x.1.slot) (same_Some f g (sym found ∙ ap (slice_get es) same ∙ had)) ∙ of_slot) in
          at_some (set_value_at es p w) slots k q is ∙ value_there es p q w other ∙ sym (at_some es slots k q is) ∙ sym (ap (λ b. if b then Some (e.0, w) else at es slots k) (ne_eqb k slot differs))

  pub at_slot : at es slots slot ≡ Some e
  at_slot = at_some es slots slot p was ∙ there

-- the instances stay where they are
pub apart_changed : (es : List (Instance ℕ × Entry)) (p : ℕ) (e : Instance ℕ × Entry) (w : Entry) → slice_get es p ≡ Some e → AreApart es → AreApart (set_value_at es p w)
apart_changed es p e w there apart q r f g at_q at_r same =
    let (a, found_a, is_a) = was q f at_q in
    let (b, found_b, is_b) = was r g at_r in
    apart q r a b found_a found_b (ap (λ i. same_instance i b.0) is_a ∙ ap (same_instance f.0) is_b ∙ same)
  where
    was : (q : ℕ) (f : Instance ℕ × Entry) → slice_get (set_value_at es p w) q ≡ Some f → (a : Instance ℕ × Entry) × (slice_get es q ≡ Some a) × (a.0 ≡ f.0)
    was q f h = elim (cases_eq q p) [
      | inl at_p ↦
          let alike : (e.0, w) ≡ f = same_Some _ f (sym (value_here es p e w there) ∙ ap (slice_get (set_value_at es p w)) (sym at_p) ∙ h) in
          (e, ap (slice_get es) at_p ∙ there, ap (λ (x : Instance ℕ × Entry). x.0) alike)
      | inr differs ↦ (f, sym (value_there es p q w differs) ∙ h, refl)
    ]

-- where the keys differ
key_at : (es : List (Instance ℕ × Entry)) (p : ℕ) (e : Instance ℕ × Entry) (d : Instance ℕ) → slice_get es p ≡ Some e → (p < length (keys_of es)) × (get_or (keys_of es) p d ≡ e.0)
key_at [] p e d h = absurd (none-some e h)
key_at (x ∷ xs) zero e d h = (omega arith, ap (λ (y : Instance ℕ × Entry). y.0) (same_Some x e h))
key_at (x ∷ xs) (suc p) e d h = let (less, is) = key_at xs p e d h in (omega (arith, less), is)

differ : (es : List (Instance ℕ × Entry)) → IsDistinct same_instance (keys_of es) → (p q : ℕ) (e f : Instance ℕ × Entry) → slice_get es p ≡ Some e → slice_get es q ≡ Some f → p < q → same_instance e.0 f.0 ≡ false
differ es d p q e f at_p at_q less =
    let (within_p, is_e) = key_at es p e e.0 at_p in
    let (within_q, is_f) = key_at es q f e.0 at_q in
    sym (ap (λ i. same_instance i f.0) is_e) ∙ sym (ap (same_instance (get_or (keys_of es) p e.0)) is_f) ∙ apart_from_distinct same_instance (keys_of es) p q e.0 d less within_q

pub apart_by : (es : List (Instance ℕ × Entry)) → IsDistinct same_instance (keys_of es) → AreApart es
apart_by es d p q e f at_p at_q same = elim (cases_lt p q) [
  | inl less ↦ absurd (true≢false (sym same ∙ differ es d p q e f at_p at_q less))
  | inr not_less ↦ elim (cases_lt q p) [
    | inl more ↦ absurd (true≢false (sym same ∙ instances_equiv.symm e.0 f.0 ∙ differ es d q p f e at_q at_p more))
    | inr not_more ↦ omega (arith, not_less, not_more)
  ]
]

-- the same entries and slots, in less memory
pub placed_same : (xs ys : List (Instance ℕ × Entry)) (slots later : ℕ → Option ℕ) → ys ≡ xs → ((k : ℕ) → later k ≡ slots k) → IsPlaced xs slots → IsPlaced ys later
placed_same xs ys slots later same values placed =
    subst (λ (f : ℕ → Option ℕ). IsPlaced ys f) (sym (λ i k. values k i)) (subst (λ (zs : List (Instance ℕ × Entry)). IsPlaced zs slots) (sym same) placed)

pub at_same : (xs ys : List (Instance ℕ × Entry)) (slots later : ℕ → Option ℕ) (k : ℕ) → ys ≡ xs → ((k : ℕ) → later k ≡ slots k) → at ys later k ≡ at xs slots k
at_same xs ys slots later k same values =
    ap (λ (zs : List (Instance ℕ × Entry)). at zs later k) same ∙ ap (λ (f : ℕ → Option ℕ). at xs f k) (λ i k. values k i)
