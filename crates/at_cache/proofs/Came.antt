-- Of an attribute of which no entry came no instance has one.
use Rattle.at_cache.proofs.Common.{◌≡◌, ◌∙◌, ℕ, zero, suc, ◌<◌, List, [], ◌∷◌, ◌++◌, length, slice_set, Bool, true, false, true≢false, cond, Option, None, Some, is_some, eqb-true, refl, sym, ap, arith, lookup, none-some, Instance, same_instance, Entry, HaveCome, has_come, both}

pub none_by : {A : Type 0} (o : Option A) → is_some o ≡ false → o ≡ None
none_by None h = refl
none_by (Some a) h = absurd (true≢false h)

pub none_still : {A : Type 0} (b : Bool) (o : Option A) → o ≡ None → cond b None o ≡ None
none_still true o h = refl
none_still false o h = h

-- one more has none
pub come_push : (xs : List Bool) (a : ℕ) → has_come (xs ++ false ∷ []) a ≡ has_come xs a
come_push [] zero = refl
come_push [] (suc a) = refl
come_push (b ∷ bs) zero = refl
come_push (b ∷ bs) (suc a) = come_push bs a

-- of one more an entry comes
pub come_stays : (xs : List Bool) (k a : ℕ) → has_come (slice_set xs k true) a ≡ false → has_come xs a ≡ false
come_stays [] k a h = h
come_stays (b ∷ bs) zero zero h = absurd (true≢false h)
come_stays (b ∷ bs) zero (suc a) h = h
come_stays (b ∷ bs) (suc k) zero h = h
come_stays (b ∷ bs) (suc k) (suc a) h = come_stays bs k a h

pub come_here : (xs : List Bool) (k : ℕ) → k < length xs → has_come (slice_set xs k true) k ≡ true
come_here [] k less = absurd (omega (arith, less))
come_here (b ∷ bs) zero less = refl
come_here (b ∷ bs) (suc k) less = come_here bs k (omega (arith, less))

-- no instance has an entry that had none
pub come_on : (es fs : List (Instance ℕ × Entry)) (xs : List Bool) → ((i : Instance ℕ) → lookup (same_instance i) es ≡ None → lookup (same_instance i) fs ≡ None)
    → HaveCome es xs → HaveCome fs xs
come_on es fs xs stays come i h = ap is_some (stays i (none_by _ (come i h)))

lookup_behind : (test : Instance ℕ → Bool) (es : List (Instance ℕ × Entry)) (e : Instance ℕ × Entry) → test e.0 ≡ false → lookup test es ≡ None → lookup test (es ++ e ∷ []) ≡ None
lookup_behind test [] e off h = ap (λ b. cond b (Some e.1) None) off
lookup_behind test (x ∷ xs) e off h = by (test x.0) h (lookup_behind test xs e off)
  where
    by : (b : Bool) → cond b (Some x.1) (lookup test xs) ≡ None → (lookup test xs ≡ None → lookup test (xs ++ e ∷ []) ≡ None) → cond b (Some x.1) (lookup test (xs ++ e ∷ [])) ≡ None
    by true k on = absurd (none-some x.1 (sym k))
    by false k on = on k

differ_by : (xs : List Bool) (i j : Instance ℕ) → has_come xs i.attribute ≡ true → has_come xs j.attribute ≡ false → same_instance j i ≡ false
differ_by xs i j come not_come = by (same_instance j i) refl
  where
    by : (b : Bool) → same_instance j i ≡ b → same_instance j i ≡ false
    by true h = let same = eqb-true j.attribute i.attribute (both _ _ (both _ _ h).1).0 in absurd (true≢false (sym come ∙ ap (has_come xs) (sym same) ∙ not_come))
    by false h = h

-- one entry more has come of its attribute
pub come_more : (es fs : List (Instance ℕ × Entry)) (i : Instance ℕ) (e : Entry) (old new : List Bool) → fs ≡ es ++ (i, e) ∷ []
    → ((a : ℕ) → has_come new a ≡ false → has_come old a ≡ false) → has_come new i.attribute ≡ true → HaveCome es old → HaveCome fs new
come_more es fs i e old new pushed stay noted come j h =
    ap (λ gs. is_some (lookup (same_instance j) gs)) pushed
    ∙ ap is_some (lookup_behind (same_instance j) es (i, e) (differ_by new i j noted h) (none_by _ (come j (stay j.attribute h))))
