-- What is kept of entries, of which some are marked.
use Rattle.at_cache.proofs.Common.{◌≡◌, ◌<◌, ◌≤◌, ◌+◌, inl, inr, ◌&&◌, ℕ, zero, suc, drop, List, [], ◌∷◌, length, slice_set, arith, Bool, true, false, Option, None, Some, IsSome, option_map, nat_eq, if◌then◌else◌, refl, sym, ap, ◌∙◌, subst, eqb-true, option_and_then, cases_eq, eq-eqb, ne_eqb, Edge, Standing, doomed, is_fresh, Info, Memory, beside, unmarked, IsChanged, held, held_among, shape, shown, standing_of}
use Rattle.at_cache.specs.Standings.{nothing}

-- what is kept is there
pub seen_there : (s : Standing) (o : Option Info) → IsSome (option_and_then (shown s) o) → IsSome o
seen_there s None h = h
seen_there s (Some e) h = refl

-- an edge tells of a fresh entry where it is kept, and fresh
pub fresh_seen : (s : Standing) (x : Edge) (o : Option Info) → is_fresh x (option_and_then (shown s) o) ≡ (s.holds && is_fresh x o)
fresh_seen s x None = by s.holds
  where
    by : (b : Bool) → false ≡ (b && false)
    by true = refl
    by false = refl
fresh_seen s x (Some e) = by s.holds
  where
    by : (b : Bool) → is_fresh x (if b then Some (shape s e) else None) ≡ (b && is_fresh x (Some e))
    by true = refl
    by false = refl

-- what is marked is kept so
going_shown : (s : Standing) (first : Option ℕ) (o : Option Info) → option_and_then (shown s) (option_map (doomed first) o) ≡ option_map (doomed first) (option_and_then (shown s) o)
going_shown s first None = refl
going_shown s first (Some e) = by s.holds
  where
    by : (b : Bool) → (if b then Some (shape s (doomed first e)) else None) ≡ option_map (doomed first) (if b then Some (shape s e) else None)
    by true = refl
    by false = refl

module _ (standings : List Standing) (slot : ℕ) (first : Option ℕ) (m later : Memory) (written : (k : ℕ) → later k ≡ (if nat_eq k slot then option_map (doomed first) (m k) else m k)) where
  pub going_seen : (k : ℕ) → held standings later k ≡ (if nat_eq k slot then option_map (doomed first) (held standings m k) else held standings m k)
  going_seen k = ap (option_and_then (shown (standing_of standings k))) (written k) ∙ by (nat_eq k slot)
    where
      by : (b : Bool) → option_and_then (shown (standing_of standings k)) (if b then option_map (doomed first) (m k) else m k) ≡ (if b then option_map (doomed first) (held standings m k) else held standings m k)
      by true = going_shown (standing_of standings k) first (m k)
      by false = refl

  -- a mark of what is kept leaves the others, and what they are but for it
  pub going_beside : IsSome (held standings m slot) → (k : ℕ) → beside standings later k ≡ beside standings m k
  going_beside there k = by (nat_eq k slot) refl
    where
      aside : (o n : Option Info) → Option Info
      aside o n = elim o [ None ↦ n | Some e ↦ option_map unmarked n ]

      marked : (o n : Option Info) → IsSome o → aside (option_map (doomed first) o) (option_map (doomed first) n) ≡ aside o n
      marked None n h = absurd (cc)
      marked (Some e) None h = refl
      marked (Some e) (Some f) h = refl

      both : (b : Bool) → nat_eq k slot ≡ b → aside (held standings later k) (later k) ≡ aside (if b then option_map (doomed first) (held standings m k) else held standings m k) (if b then option_map (doomed first) (m k) else m k)
      both b is = ap (λ o. aside o (later k)) (going_seen k ∙ ap (λ b. if b then option_map (doomed first) (held standings m k) else held standings m k) is)
          ∙ ap (aside (if b then option_map (doomed first) (held standings m k) else held standings m k)) (written k ∙ ap (λ b. if b then option_map (doomed first) (m k) else m k) is)

      by : (b : Bool) → nat_eq k slot ≡ b → beside standings later k ≡ beside standings m k
      by true is = both true is ∙ marked (held standings m k) (m k) (subst (λ n. IsSome (held standings m n)) (sym (eqb-true k slot is)) there)
      by false is = both false is

-- one that stands otherwise
pub set_is : (xs : List Standing) (k : ℕ) (v : Standing) → k < length xs → (n : ℕ) → standing_of (slice_set xs k v) n ≡ (if nat_eq n k then v else standing_of xs n)
set_is [] k v less n = absurd (omega arith)
set_is (x ∷ xs) zero v less zero = refl
set_is (x ∷ xs) zero v less (suc n) = sym (ap (λ b. if b then v else standing_of xs n) (ne_eqb (suc n) 0 (λ h. omega (arith, h))))
set_is (x ∷ xs) (suc k) v less zero = sym (ap (λ b. if b then v else x) (ne_eqb 0 (suc k) (λ h. omega (arith, h))))
set_is (x ∷ xs) (suc k) v less (suc n) = set_is xs k v (omega (arith, less)) n ∙ ap (λ b. if b then v else standing_of xs n) (one_more n k)
  where
    one_more : (n k : ℕ) → nat_eq n k ≡ nat_eq (suc n) (suc k)
    one_more n k = elim (cases_eq n k) [
      | inl same ↦ eq-eqb n k same ∙ sym (eq-eqb (suc n) (suc k) (ap suc same))
      | inr differs ↦ ne_eqb n k differs ∙ sym (ne_eqb (suc n) (suc k) (λ h. differs (omega (arith, h))))
    ]

-- there are as many as before
pub set_room : (xs : List Standing) (k : ℕ) (v : Standing) → length (slice_set xs k v) ≡ length xs
set_room [] k v = refl
set_room (x ∷ xs) zero v = refl
set_room (x ∷ xs) (suc k) v = ap suc (set_room xs k v)

pub past_nothing : (xs : List Standing) (k : ℕ) → length xs ≤ k → standing_of xs k ≡ nothing
past_nothing [] k h = refl
past_nothing (x ∷ xs) zero h = absurd (omega arith)
past_nothing (x ∷ xs) (suc k) h = past_nothing xs k (omega (arith, h))

-- one less is kept
pub set_fewer : (xs : List Standing) (k : ℕ) (v : Standing) → k < length xs → (standing_of xs k).holds ≡ true → v.holds ≡ false → held_among (slice_set xs k v) + 1 ≡ held_among xs
set_fewer [] k v less h off = absurd (omega arith)
set_fewer (x ∷ xs) zero v less h off =
    ap (λ b. (if b then suc (held_among xs) else held_among xs) + 1) off
    ∙ (let e : held_among xs + 1 ≡ suc (held_among xs) = omega arith in e)
    ∙ sym (ap (λ b. if b then suc (held_among xs) else held_among xs) h)
set_fewer (x ∷ xs) (suc k) v less h off = by x.holds (set_fewer xs k v (omega (arith, less)) h off)
  where
    by : (b : Bool) → held_among (slice_set xs k v) + 1 ≡ held_among xs
        → (if b then suc (held_among (slice_set xs k v)) else held_among (slice_set xs k v)) + 1 ≡ (if b then suc (held_among xs) else held_among xs)
    by true rest = omega (arith, rest)
    by false rest = rest

-- or as many as before
pub set_same : (xs : List Standing) (k : ℕ) (v : Standing) → v.holds ≡ (standing_of xs k).holds → held_among (slice_set xs k v) ≡ held_among xs
set_same [] k v h = refl
set_same (x ∷ xs) zero v h = ap (λ b. if b then suc (held_among xs) else held_among xs) h
set_same (x ∷ xs) (suc k) v h = ap (λ n. if x.holds then suc n else n) (set_same xs k v h)

-- behind the last one nothing is left
pub held_none : (xs : List Standing) (k : ℕ) → length xs ≤ k → held_among (drop k xs) ≡ 0
held_none [] zero over = refl
held_none [] (suc k) over = refl
held_none (x ∷ xs) zero over = absurd (omega arith)
held_none (x ∷ xs) (suc k) over = held_none xs k (omega (arith, over))

module _ (change : Standing → Standing) (xs : List Standing) (k : ℕ) where
  -- what is changed within, and where nothing is
  pub changed_set : (ys : List Standing) (v : Standing) → k < length xs → v ≡ change (standing_of xs k) → ys ≡ slice_set xs k v → IsChanged change k xs ys
  changed_set ys v less is set n = ap (λ zs. standing_of zs n) set ∙ set_is xs k v less n ∙ by (nat_eq n k) refl
    where
      by : (b : Bool) → nat_eq n k ≡ b → (if b then v else standing_of xs n) ≡ (if b then change (standing_of xs n) else standing_of xs n)
      by true h = is ∙ ap (λ m. change (standing_of xs m)) (sym (eqb-true n k h))
      by false h = refl

  pub changed_past : change nothing ≡ nothing → length xs ≤ k → IsChanged change k xs xs
  changed_past still past n = by (nat_eq n k) refl
    where
      by : (b : Bool) → nat_eq n k ≡ b → standing_of xs n ≡ (if b then change (standing_of xs n) else standing_of xs n)
      by true h =
          let none : standing_of xs n ≡ nothing = ap (standing_of xs) (eqb-true n k h) ∙ past_nothing xs k past in
          none ∙ sym (ap change none ∙ still)
      by false h = refl
