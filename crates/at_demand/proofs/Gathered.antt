-- What is gathered stands among the sources, and so they cover all that supports the instance.
use Rattle.std.proofs.Common.{◌≡◌, ◌⊎◌, ℕ, zero, suc, ◌+◌, ◌<◌, ◌≤◌, nat_eq, Bool, true, false, ◌||◌, List, [], ◌∷◌, ◌++◌, length, map, slice_get, Option, Some, None, OnOk, Ok, Err, inl, inr, refl, sym, ap, ◌∙◌, subst, append-nil, if◌then◌else◌, true≢false, arith}
use Rattle.std.specs.Prelude.{IsSome, Result}
use Rattle.std.specs.List.{list_any}
use Rattle.std.proofs.lemmas.Bool.{eqb-true}
use Rattle.std.proofs.lemmas.Option.{none-some, same_Some}
use Rattle.indexmap.specs.IndexSet.{insert_key}
use Rattle.at_model.specs.Run.{Value, Instance, Location, Contents}
use Rattle.at_model.specs.Rules.{Rules}
use Rattle.at_model.specs.Meaning.{Among}
use Rattle.at_model.specs.Support.{Sees}
use Rattle.at_model.specs.of_fixpoints.Fixpoints.{HasValue}
use Rattle.at_model.specs.of_fixpoints.Resting.{Comes, Leads, Supports}
use Rattle.at_model.proofs.Listed.{among_map, among_right}
use Rattle.at_model.proofs.Options.{or_right}
use Rattle.at_store.specs.Located.{loc_view}
use Rattle.at_body.specs.Same.{same_instance}
use Rattle.at_cache.specs.Kept.{Kept, Entries, AreKept, Puts, covered, covers_at}
use Rattle.at_index.specs.Sameness.{same_location}
use Rattle.at_index.proofs.Lists.{get_contains}
use Rattle.at_index.proofs.Locations.{same_location-itself}
use Rattle.at_demand.specs.declared.evaluation.Find.{Find}
use Rattle.at_demand.specs.declared.gathering.Sources.{Sources}
use Rattle.at_evaluate.specs.Valued.{meaning}
use Rattle.at_demand.specs.Covering.{IsWhole, alone, by_first, in_group, AreWhole, AreWholeIn, IsWholeIn, Extends, IsAdded, IsGathered, Visits, Adds, AddsAt, AreGathered}
use Rattle.at_evaluate.specs.Right.{AreCovered}
use Rattle.at_demand.proofs.Leading.{leads_next}
use Rattle.at_evaluate.proofs.Sameness.{same_true}
use Rattle.at_demand.proofs.Supported.{supported}
pub use Rattle.at_demand.proofs.Extending.{among_more, extends_self, extends_on, get_more, get_back, among_at, map_among}
use Rattle.at_evaluate.proofs.Tests.{any_among}

or_left : (a b : Bool) → a ≡ true → (a || b) ≡ true
or_left true b e = refl
or_left false b e = absurd (true≢false (sym e))

-- a position that is inserted stands among those that are visited
already : (ks : List ℕ) (k : ℕ) → list_any (nat_eq k) ks ≡ true → Among k ks
already [] k e = absurd (true≢false (sym e))
already (x ∷ ks) k e = by (nat_eq k x) refl e (already ks k)
  where
    by : (b : Bool) → nat_eq k x ≡ b → (b || list_any (nat_eq k) ks) ≡ true → (list_any (nat_eq k) ks ≡ true → Among k ks) → (k ≡ x) ⊎ Among k ks
    by true s f more = inl (eqb-true k x s)
    by false s f more = inr (more f)

pub inserted : (ks : List ℕ) (k : ℕ) → Extends ks (insert_key nat_eq ks k) × Among k (insert_key nat_eq ks k)
inserted ks k = by (list_any (nat_eq k) ks) refl
  where
    by : (b : Bool) → list_any (nat_eq k) ks ≡ b → Extends ks (if b then ks else ks ++ k ∷ []) × Among k (if b then ks else ks ++ k ∷ [])
    by true e = (extends_self ks, already ks k e)
    by false e = ((k ∷ [], refl), among_right k ks (k ∷ []) (inl refl))

-- one position more
pub visits_more : (done old new next : List ℕ) (k : ℕ) → Visits done old new → next ≡ insert_key nat_eq new k → Visits (done ++ k ∷ []) old next
visits_more done old new next k v e =
    let step = inserted new k in
    let on : Extends new next = subst (Extends new) (sym e) step.0 in
    (extends_on old new next v.0 on, λ p h. by p (split done p h))
  where
    split : (ds : List ℕ) (p : ℕ) → Among p (ds ++ k ∷ []) → Among p ds ⊎ (p ≡ k)
    split [] p (inl same) = inr same
    split [] p (inr h) = absurd h
    split (d ∷ ds) p (inl same) = inl (inl same)
    split (d ∷ ds) p (inr h) = elim (split ds p h) [ inl g ↦ inl (inr g) | inr same ↦ inr same ]

    by : (p : ℕ) → Among p done ⊎ (p ≡ k) → Among p next
    by p (inl h) = among_more p new next (subst (Extends new) (sym e) (inserted new k).0) (v.1 p h)
    by p (inr same) = subst (λ x. Among x next) (sym same) (subst (Among k) (sym e) (inserted new k).1)

-- what was added stays so while more is
pub grown : (f : Find) (s t : Sources) (ps qs : List ℕ) → Extends s.reads.items t.reads.items → Extends s.kept.items t.kept.items → Extends ps qs → IsAdded s ps f → IsAdded t qs f
grown f s t ps qs reads kept finds a = record {
  reads = λ x h. among_more x s.reads.items t.reads.items reads (a.reads x h);
  kept = λ u h. among_more u s.kept.items t.kept.items kept (a.kept u h);
  finds = λ p h. among_more p ps qs finds (a.finds p h);
}

-- a find is added
pub adds : (f : Find) (s t : Sources) (ps qs : List ℕ) → t.reads.items ≡ s.reads.items ++ f.reads.items → t.kept.items ≡ s.kept.items ++ f.demanded.kept.items → Visits f.demanded.finds.items ps qs → Adds f s t ps qs
adds f s t ps qs reads kept finds = record {
  reads = (f.reads.items, reads);
  kept = (f.demanded.kept.items, kept);
  finds = finds.0;
  added = record {
    reads = λ x h. subst (Among x) (sym reads) (among_right x s.reads.items f.reads.items h);
    kept = λ u h. subst (Among u) (sym kept) (among_right u s.kept.items f.demanded.kept.items h);
    finds = finds.1;
  };
}

-- or its instance is used
pub gathered_on : (i : Instance ℕ) (f : Find) (s t : Sources) (ps qs : List ℕ) → Extends s.reads.items t.reads.items → Extends s.kept.items t.kept.items → Extends ps qs → IsGathered s ps i f → IsGathered t qs i f
gathered_on i f s t ps qs reads kept finds (inl a) = inl (grown f s t ps qs reads kept finds a)
gathered_on i f s t ps qs reads kept finds (inr u) = inr (among_more i s.kept.items t.kept.items kept u)

below_next : (n m : ℕ) → n < suc m → (n < m) ⊎ (n ≡ m)
below_next zero zero h = inr refl
below_next zero (suc m) h = inl (omega arith)
below_next (suc n) zero h = absurd (omega arith)
below_next (suc n) (suc m) h = elim (below_next n m (omega arith)) [ inl g ↦ inl (omega (arith, g)) | inr e ↦ inr (ap suc e) ]

pub adds_after : {E : Type 0} (r : Result (Unit {0}) E) (f : Find) (s t : Sources) (ps qs : List ℕ) → t.reads.items ≡ s.reads.items ++ f.reads.items → t.kept.items ≡ s.kept.items ++ f.demanded.kept.items → OnOk r (Visits f.demanded.finds.items ps qs) → OnOk r (Adds f s t ps qs)
adds_after (Ok u) f s t ps qs reads kept finds = adds f s t ps qs reads kept finds
adds_after (Err e) f s t ps qs reads kept finds = tt

module _ (found : List (Instance ℕ × Find)) where
  -- where no find is there
  pub adds_none : (next p : ℕ) (s : Sources) (ps : List ℕ) → Some p ≡ slice_get ps next → ◌≡◌ {A = Option (Instance ℕ × Find)} None (slice_get found p) → AddsAt found next s s ps ps
  adds_none next p s ps at gone = record {
    reads = extends_self s.reads.items;
    kept = extends_self s.kept.items;
    finds = extends_self ps;
    added = λ q i g there is. let same : p ≡ q = same_Some p q (at ∙ there) in absurd (none-some (i, g) (gone ∙ ap (slice_get found) same ∙ is));
  }

  -- where the find there is
  pub adds_one : {E : Type 0} (r : Result (Unit {0}) E) (next p : ℕ) (i : Instance ℕ) (g : Find) (s t : Sources) (ps qs : List ℕ) → Some p ≡ slice_get ps next → Some (i, g) ≡ slice_get found p → OnOk r (Adds g s t ps qs) → OnOk r (AddsAt found next s t ps qs)
  adds_one (Err e) next p i g s t ps qs at is a = tt
  adds_one (Ok u) next p i g s t ps qs at is a = record {
    reads = a.reads;
    kept = a.kept;
    finds = a.finds;
    added = λ q j h there found_is.
        let same : p ≡ q = same_Some p q (at ∙ there) in
        let one : (i, g) ≡ (j, h) = same_Some (i, g) (j, h) (is ∙ ap (slice_get found) same ∙ found_is) in
        inl (subst (λ x. IsAdded t qs x) (ap (λ (x : Instance ℕ × Find). x.1) one) a.added);
  }

  -- where its instance is used
  pub adds_used : (next p : ℕ) (i : Instance ℕ) (g : Find) (s t : Sources) (ps : List ℕ) → Some p ≡ slice_get ps next → Some (i, g) ≡ slice_get found p → t.reads.items ≡ s.reads.items → t.kept.items ≡ s.kept.items ++ i ∷ [] → AddsAt found next s t ps ps
  adds_used next p i g s t ps at is reads kept = record {
    reads = ([], reads ∙ sym (append-nil s.reads.items));
    kept = (i ∷ [], kept);
    finds = extends_self ps;
    added = λ q j h there found_is.
        let same : p ≡ q = same_Some p q (at ∙ there) in
        let one : (i, g) ≡ (j, h) = same_Some (i, g) (j, h) (is ∙ ap (slice_get found) same ∙ found_is) in
        inr (subst (λ (x : Instance ℕ × Find). Among x.0 t.kept.items) one (subst (Among i) (sym kept) (among_right i s.kept.items (i ∷ []) (inl refl))));
  }

  pub adds_used_after : {E : Type 0} (r : Result (Unit {0}) E) (next p : ℕ) (i : Instance ℕ) (g : Find) (s t : Sources) (ps : List ℕ) → Some p ≡ slice_get ps next → Some (i, g) ≡ slice_get found p → t.reads.items ≡ s.reads.items → OnOk r (t.kept.items ≡ s.kept.items ++ i ∷ []) → OnOk r (AddsAt found next s t ps ps)
  adds_used_after (Ok u) next p i g s t ps at is reads kept = adds_used next p i g s t ps at is reads kept
  adds_used_after (Err e) next p i g s t ps at is reads kept = tt

  -- how far it has come
  pub record IsVisited (f : Find) (s : Sources) (ps : List ℕ) (next : ℕ) : Type 0 where
    pub first : IsAdded s ps f
    pub others : (n p : ℕ) (i : Instance ℕ) (g : Find) → n < next → slice_get ps n ≡ Some p → slice_get found p ≡ Some (i, g) → IsGathered s ps i g

  pub visited_first : (f : Find) (s t : Sources) (ps qs : List ℕ) → Adds f s t ps qs → IsVisited f t qs 0
  visited_first f s t ps qs a = record { first = a.added; others = λ n p i g less at is. absurd (omega (arith, less)) }

  pub visited_next : (f : Find) (s t : Sources) (ps qs : List ℕ) (next : ℕ) → next < length ps → IsVisited f s ps next → AddsAt found next s t ps qs → IsVisited f t qs (next + 1)
  visited_next f s t ps qs next less v a = record {
    first = grown f s t ps qs a.reads a.kept a.finds v.first;
    others = λ n p i g under at is. by n p i g under (get_back ps qs n p a.finds (omega (arith, under, less)) at) is (below_next n next (omega (arith, under)));
  }
    where
      by : (n p : ℕ) (i : Instance ℕ) (g : Find) → n < next + 1 → slice_get ps n ≡ Some p → slice_get found p ≡ Some (i, g) → (n < next) ⊎ (n ≡ next) → IsGathered t qs i g
      by n p i g under at is (inl h) = gathered_on i g s t ps qs a.reads a.kept a.finds (v.others n p i g h at is)
      by n p i g under at is (inr e) = a.added p i g (subst (λ x. slice_get ps x ≡ Some p) e at) is

  pub visited_all : (f : Find) (s : Sources) (ps : List ℕ) (next : ℕ) → length ps ≤ next → IsVisited f s ps next → AreGathered found f s
  visited_all f s ps next past v = record {
    positions = ps;
    first = v.first;
    others = λ p i g among is. let (n, less, at) = among_at p ps among in v.others n p i g (omega (arith, less, past)) at is;
  }

module _ (rules : Rules) (look : Contents ℕ) (entries : Entries) (found : List (Instance ℕ × Find)) (f : Find) (s : Sources) (gathered : AreGathered found f s) (whole : AreWhole rules look found) (kept : AreKept entries s.kept.items) (covers : AreCovered rules look entries) where
  abbrev pub reads : List (Location ℕ)
  reads = map loc_view s.reads.items

  -- all that it rests on stands with a find that was gathered, or an instance that the sources use leads to it
  abbrev InFind : Instance ℕ → Type 0
  InFind i = (g : Find) × (these : List (Instance ℕ)) × Among i these × AreWholeIn rules look found these g × IsAdded s gathered.positions g

  abbrev BelowUsed : Instance ℕ → Type 0
  BelowUsed i = (j : Instance ℕ) × Among j s.kept.items × Leads look (meaning rules) j i

  abbrev Within : Instance ℕ → Type 0
  Within i = InFind i ⊎ BelowUsed i

  within : (i : Instance ℕ) (g : Find) → IsWhole rules look found i g → IsAdded s gathered.positions g → Within i
  within i g (alone w) added = inl (g, i ∷ [], inl refl, w, added)
  within i g (in_group these c a w) added = inl (g, these, a, w, added)
  within i g (by_first j c (inl k) l) added = inr (j, added.kept j k, l)
  within i g (by_first j c (inr (p, h, at, is, so)) l) added = by_find so (gathered.others p j h (added.finds p at) is)
    where
      by_find : IsWholeIn rules look found i h → IsGathered s gathered.positions j h → Within i
      by_find (these, a, w) (inl more) = inl (h, these, a, w, more)
      by_find (these, a, w) (inr used) = inr (j, used, l)

  next : (i j : Instance ℕ) → Within i → Comes look (meaning rules) i j → Among j s.kept.items ⊎ Within j
  next i j (inl (g, these, a, w, added)) c = elim (w.demands i j a c) [
    | inl b ↦ inr (inl (g, these, b, w, added))
    | inr d ↦ elim d [
      | inl k ↦ inl (added.kept j k)
      | inr (p, h, at, is) ↦ elim (gathered.others p j h (added.finds p at) is) [ inl more ↦ inr (within j h (whole p j h is) more) | inr used ↦ inl used ]
    ]
  ]
  next i j (inr (m, used, l)) c = inr (inr (m, used, leads_next look (meaning rules) m i j l c))

  below : (i : Instance ℕ) (l : Location ℕ) → Among i s.kept.items → Supports look (meaning rules) l i → covered entries reads s.kept.items l ≡ true
  below i l among h =
      let (n, less, at) = among_at i s.kept.items among in
      or_right _ _ (any_among (λ u. covers_at (entries u) l) i s.kept.items among (by (entries i) refl (kept i (get_contains s.kept.items n i at))))
    where
      by : (o : Option Kept) → entries i ≡ o → IsSome o → covers_at o l ≡ true
      by None e some = absurd (true≢false (sym some))
      by (Some k) e some = covers i k e l h

  seen : (i : Instance ℕ) (l : Location ℕ) → Within i → Sees look (HasValue look (meaning rules)) ((meaning rules).formula i) l → covered entries reads s.kept.items l ≡ true
  seen i l (inl (g, these, a, w, added)) h =
      let (x, among, is) = map_among loc_view l g.reads.items (w.reads i l a h) in
      let there : Among l reads = subst (λ m. Among m reads) is (among_map loc_view x s.reads.items (added.reads x among)) in
      or_left _ _ (any_among (same_location l) l reads there (same_location-itself l))
  seen i l (inr (j, used, led)) h = below j l used (i, led, h)

  -- the sources cover all that supports the instance
  pub all_covered : (i : Instance ℕ) (l : Location ℕ) → IsWhole rules look found i f → Supports look (meaning rules) l i → covered entries reads s.kept.items l ≡ true
  all_covered i l w h = supported look (meaning rules) Within (λ u. Among u s.kept.items) (λ m. covered entries reads s.kept.items m ≡ true) next seen below i l (within i f w gathered.first) h

  -- and so what is put
  pub put_covers : (new : Entries) (i : Instance ℕ) (v : Option (Value ℕ)) → IsWhole rules look found i f → Puts entries i v reads s.kept.items new → AreCovered rules look new
  put_covers new i v w p m k is l h = by (same_instance i m) refl (sym (p.adds m) ∙ is)
    where
      by : (t : Bool) → same_instance i m ≡ t → (if t then Some p.entry else entries m) ≡ Some k → k.covers l ≡ true
      by true at e =
          let same : p.entry ≡ k = same_Some p.entry k e in
          let here : Supports look (meaning rules) l i = subst (λ x. Supports look (meaning rules) l x) (sym (same_true i m at)) h in
          ap (λ (x : Kept). x.covers l) (sym same) ∙ p.covers l (all_covered i l w here)
      by false at e = covers m k e l h

-- a find below which no other one stands is gathered by itself
pub gathered_alone : (found : List (Instance ℕ × Find)) (f : Find) → f.demanded.finds.items ≡ [] → AreGathered found f (record { reads = f.reads; kept = f.demanded.kept })
gathered_alone found f none = record {
  positions = [];
  first = record { reads = λ x h. h; kept = λ u h. h; finds = λ p h. subst (Among p) none h };
  others = λ p i g among is. absurd among;
}
