-- How much a search still has to go through.
use Rattle.std.proofs.Common.{◌≡◌, ℕ, suc, ◌+◌, ◌≤◌, Bool, true, false, ◌||◌, cond, List, [], ◌∷◌, ◌++◌, length, Option, Some, None, ◌⊎◌, inl, inr, refl, sym}
use Rattle.std.proofs.Common.{ap, ◌∙◌, subst, arith, if◌then◌else◌, true≢false}
use Rattle.std.proofs.lemmas.List.{length-append}
use Rattle.std.specs.Map.{lookup}
use Rattle.at_model.specs.Run.{Instance}
use Rattle.at_model.specs.Meaning.{Among}
use Rattle.at_model.specs.of_fixpoints.Searching.{asked_in}
use Rattle.at_body.specs.Same.{same_instance}
use Rattle.at_search.specs.declared.ended.Ended.{Ended}
use Rattle.at_search.specs.Recorded.{is_in, cost_of, left_by, work_left, end_of}
use Rattle.at_search.proofs.Sameness.{same_true, same_refl, apart}

-- the test tells what isn't among them
pub is_out : (js : List (Instance ℕ)) (i : Instance ℕ) → (Among i js → ⊥) → is_in js i ≡ false
is_out [] i gone = refl
is_out (j ∷ js) i gone = rw (apart i j (λ e. gone (inl e))) (is_out js i (λ h. gone (inr h)))

-- and what is
pub is_there : (js : List (Instance ℕ)) (i : Instance ℕ) → is_in js i ≡ true → Among i js
is_there [] i e = absurd (true≢false (sym e))
is_there (j ∷ js) i e = by (same_instance i j) refl e (is_there js i)
  where
    by : (b : Bool) → same_instance i j ≡ b → (b || is_in js i) ≡ true → (is_in js i ≡ true → Among i js) → Among i (j ∷ js)
    by true s f more = inl (same_true i j s)
    by false s f more = inr (more f)

-- what was seen costs nothing more, and the more was seen the less is left
less_cost : (a b : Bool) (n : ℕ) → cond (a || b) 0 n ≤ cond b 0 n
less_cost true true n = omega arith
less_cost true false n = omega arith
less_cost false b n = omega arith

pub less_left : (k : Instance ℕ) (seen : List (Instance ℕ)) (ended : List (Instance ℕ × Ended)) → left_by (k ∷ seen) ended ≤ left_by seen ended
less_left k seen [] = omega arith
less_left k seen (p ∷ ps) =
    let here = less_cost (same_instance p.0 k) (is_in seen p.0) (cost_of p.1) in
    let rest = less_left k seen ps in
    omega (arith, here, rest)

-- what is seen for the first time is less by what it costs
pub fewer_left : (k : Instance ℕ) (seen : List (Instance ℕ)) (ended : List (Instance ℕ × Ended)) (x : Ended) →
    lookup (same_instance k) ended ≡ Some x → is_in seen k ≡ false → left_by (k ∷ seen) ended + cost_of x ≤ left_by seen ended
fewer_left k seen [] x found out = absurd cc
fewer_left k seen (p ∷ ps) x found out = by (same_instance k p.0) refl found (λ f. fewer_left k seen ps x f out)
  where
    at_first : same_instance k p.0 ≡ true → p.1 ≡ x → left_by (k ∷ seen) (p ∷ ps) + cost_of x ≤ left_by seen (p ∷ ps)
    at_first s e =
        let same = same_true k p.0 s in
        let there : same_instance p.0 k ≡ true = ap (same_instance p.0) same ∙ same_refl p.0 in
        let gone : is_in seen p.0 ≡ false = ap (is_in seen) (sym same) ∙ out in
        let rest = less_left k seen ps in
        let cost : cost_of p.1 ≡ cost_of x = ap cost_of e in
        let new : cond (same_instance p.0 k || is_in seen p.0) 0 (cost_of p.1) ≡ 0 = ap (λ b. cond (b || is_in seen p.0) 0 (cost_of p.1)) there in
        let old : cond (is_in seen p.0) 0 (cost_of p.1) ≡ cost_of p.1 = ap (λ b. cond b 0 (cost_of p.1)) gone in
        omega (arith, rest, cost, new, old)

    by : (b : Bool) → same_instance k p.0 ≡ b → (if b then Some p.1 else lookup (same_instance k) ps) ≡ Some x →
        (lookup (same_instance k) ps ≡ Some x → left_by (k ∷ seen) ps + cost_of x ≤ left_by seen ps) →
        left_by (k ∷ seen) (p ∷ ps) + cost_of x ≤ left_by seen (p ∷ ps)
    by true s f more = let e : p.1 ≡ x = cc in at_first s e
    by false s f more =
        let rest = more f in
        let here = less_cost (same_instance p.0 k) (is_in seen p.0) (cost_of p.1) in
        omega (arith, here, rest)

-- seeing one takes no more than it costs
pub less_work : (ended : List (Instance ℕ × Ended)) (seen todo : List (Instance ℕ)) (k : Instance ℕ) (x : Ended) →
    lookup (same_instance k) ended ≡ Some x → (Among k seen → ⊥) →
    work_left ended (k ∷ seen) (asked_in (end_of x.ending) ++ todo) ≤ work_left ended seen todo
less_work ended seen todo k x found out =
    let left = fewer_left k seen ended x found (is_out seen k out) in
    let long = length-append (asked_in (end_of x.ending)) todo in
    omega (arith, left, long)

-- so it is where the lists are what they come to
pub less_to : (ended : List (Instance ℕ × Ended)) (seen todo seen' todo' : List (Instance ℕ)) (k : Instance ℕ) (x : Ended) →
    Some x ≡ lookup (same_instance k) ended → (Among k seen → ⊥) → seen' ≡ k ∷ seen → todo' ≡ asked_in (end_of x.ending) ++ todo →
    work_left ended seen' todo' ≤ work_left ended seen todo
less_to ended seen todo seen' todo' k x found out es et =
    subst (λ z. work_left ended z todo' ≤ work_left ended seen todo) (sym es)
    (subst (λ z. work_left ended (k ∷ seen) z ≤ work_left ended seen todo) (sym et) (less_work ended seen todo k x (sym found) out))
