-- The edges of a row, from its front and to its end.
use Rattle.at_index.proofs.Common.{◌≡◌, inl, inr, ℕ, zero, suc, ◌+◌, ◌-◌, ◌*◌, ◌%◌, ◌^◌, ◌<◌, [], ◌∷◌, ◌++◌, length, Contains, arith, refl, sym, ap, ◌∙◌, subst, add-zero, add-suc, add_assoc, mod-eq_of_lt, cases_lt, Contains-append_left, Contains-push, zero-mul, one-mul, suc-mul, add_comm, mod-add-mod, suc-add, zero-add, Edge, edge_at}
use Rattle.at_index.specs.Rows.{edges_from}

same_number : (n k s b : ℕ) → n < b → k ≡ n → (n + 0 * s) % b ≡ k
same_number n k s b less is = ap (λ m. (n + m) % b) (zero-mul s) ∙ ap (λ m. m % b) (add-zero n) ∙ mod-eq_of_lt less ∙ sym is

-- a row begins with its first edge
pub at_first : (f : Edge) (s : ℕ) → f.slot < 2 ^ 32 → f.stamp < 2 ^ 64 → edge_at f s 0 ≡ f
at_first f s slot stamp = λ i. record { slot = same_number f.slot f.slot s (2 ^ 32) slot refl i; stamp = same_number f.stamp f.stamp s (2 ^ 64) stamp refl i }

-- whatever its step is
pub at_step : (f : Edge) (s t : ℕ) → edge_at f s 0 ≡ edge_at f t 0
at_step f s t = ap (λ m. record { slot = (f.slot + m) % 2 ^ 32; stamp = (f.stamp + m) % 2 ^ 64 }) (zero-mul s ∙ sym (zero-mul t))

-- an edge that lies so far behind
pub at_place : (f x : Edge) (s k : ℕ) → x.slot < 2 ^ 32 → x.stamp < 2 ^ 64 → x.slot ≡ f.slot + k * s → x.stamp ≡ f.stamp + k * s → edge_at f s k ≡ x
at_place f x s k slot stamp p q = λ i. record {
  slot = (ap (λ m. m % 2 ^ 32) (sym p) ∙ mod-eq_of_lt slot) i;
  stamp = (ap (λ m. m % 2 ^ 64) (sym q) ∙ mod-eq_of_lt stamp) i;
}

pub many : (f : Edge) (s k n : ℕ) → length (edges_from f s k n) ≡ n
unfolding edges_from
many f s k zero = refl
many f s k (suc n) = ap (λ m. suc m) (many f s (suc k) n)

-- one edge more stands at the end
pub one_more : (f : Edge) (s k n : ℕ) → edges_from f s k (suc n) ≡ edges_from f s k n ++ edge_at f s (k + n) ∷ []
unfolding edges_from
one_more f s k zero = ap (λ m. edge_at f s m ∷ []) (sym (add-zero k))
one_more f s k (suc n) = ap (λ xs. edge_at f s k ∷ xs) (one_more f s (suc k) n ∙ ap (λ m. edges_from f s (suc k) n ++ edge_at f s m ∷ []) (suc-add k n ∙ sym (add-suc k n)))

next_number : (n b k s : ℕ) → (n + suc k * s) % b ≡ ((n + 1 * s) % b + k * s) % b
next_number n b k s = ap (λ m. (n + m) % b) (suc-mul k s ∙ add_comm (k * s) s ∙ ap (λ m. m + k * s) (sym (one-mul s))) ∙ ap (λ m. m % b) (sym (add_assoc n (1 * s) (k * s))) ∙ sym (mod-add-mod (n + 1 * s) b (k * s))

-- behind its first edge it goes on as a row that begins with the second one
pub behind_first : (f : Edge) (s k n : ℕ) → edges_from f s (suc k) n ≡ edges_from (edge_at f s 1) s k n
unfolding edges_from
behind_first f s k zero = refl
behind_first f s k (suc n) =
    let here : edge_at f s (suc k) ≡ edge_at (edge_at f s 1) s k = λ i. record { slot = next_number f.slot (2 ^ 32) k s i; stamp = next_number f.stamp (2 ^ 64) k s i } in
    λ i. here i ∷ behind_first f s (suc k) n i

pub first_and_rest : (f second : Edge) (s n : ℕ) → f.slot < 2 ^ 32 → f.stamp < 2 ^ 64 → second ≡ edge_at f s 1 → (n ≡ 0 → ⊥) → edges_from f s 0 n ≡ f ∷ edges_from second s 0 (n - 1)
unfolding edges_from
first_and_rest f second s zero slot stamp is some = absurd (some refl)
first_and_rest f second s (suc n) slot stamp is some =
    let rest : edges_from f s 1 n ≡ edges_from second s 0 n = behind_first f s 0 n ∙ ap (λ x. edges_from x s 0 n) (sym is) in
    let less : suc n - 1 ≡ n = omega arith in
    (λ i. at_first f s slot stamp i ∷ rest i) ∙ ap (λ m. f ∷ edges_from second s 0 m) (sym less)

pub none_of : (f : Edge) (s n : ℕ) → n ≡ 0 → edges_from f s 0 n ≡ []
unfolding edges_from
none_of f s n none = ap (edges_from f s 0) none

pub alone : (f : Edge) (s : ℕ) → f.slot < 2 ^ 32 → f.stamp < 2 ^ 64 → edges_from f s 0 1 ≡ f ∷ []
unfolding edges_from
alone f s slot stamp = ap (λ x. x ∷ []) (at_first f s slot stamp)

pub any_step : (f : Edge) (s t n : ℕ) → n ≡ 1 → edges_from f s 0 n ≡ edges_from f t 0 n
unfolding edges_from
any_step f s t n one = ap (edges_from f s 0) one ∙ ap (λ x. x ∷ []) (at_step f s t) ∙ sym (ap (edges_from f t 0) one)

-- the edge lies behind the last one
pub goes_on : (f x : Edge) (s was n more way : ℕ) → x.slot < 2 ^ 32 → x.stamp < 2 ^ 64 → more ≡ n + 1 → way ≡ n * s → x.slot ≡ f.slot + way → x.stamp ≡ f.stamp + way →
    edges_from f s 0 n ≡ edges_from f was 0 n → edges_from f s 0 more ≡ edges_from f was 0 n ++ x ∷ []
goes_on f x s was n more way slot stamp counts far p q same =
    ap (edges_from f s 0) (counts ∙ add-suc n 0 ∙ ap (λ m. suc m) (add-zero n))
    ∙ one_more f s 0 n
    ∙ ap (λ y. edges_from f s 0 n ++ y ∷ []) (ap (edge_at f s) (zero-add n) ∙ at_place f x s n slot stamp (p ∙ ap (λ w. f.slot + w) far) (q ∙ ap (λ w. f.stamp + w) far))
    ∙ ap (λ xs. xs ++ x ∷ []) same

-- the edge is the last one
pub ends_so : (f x : Edge) (s n place way : ℕ) → x.slot < 2 ^ 32 → x.stamp < 2 ^ 64 → n ≡ suc place → way ≡ place * s
    → x.slot ≡ f.slot + way → x.stamp ≡ f.stamp + way → Contains (edges_from f s 0 n) x
ends_so f x s n place way slot stamp counts far p q =
    let here : edge_at f s (0 + place) ≡ x = ap (edge_at f s) (zero-add place)
    ∙ at_place f x s place slot stamp (p ∙ ap (λ w. f.slot + w) far) (q ∙ ap (λ w. f.stamp + w) far) in
    let all : edges_from f s 0 n ≡ edges_from f s 0 place ++ x ∷ [] = ap (edges_from f s 0) counts ∙ one_more f s 0 place
    ∙ ap (λ y. edges_from f s 0 place ++ y ∷ []) here in
    subst (λ es. Contains es x) (sym all) (Contains-push (edges_from f s 0 place) x)

-- the edge is one of them
pub stands_so : (f x : Edge) (s n place way : ℕ) → x.slot < 2 ^ 32 → x.stamp < 2 ^ 64 → place < n → way ≡ place * s
    → x.slot ≡ f.slot + way → x.stamp ≡ f.stamp + way → Contains (edges_from f s 0 n) x
stands_so f x s zero place way slot stamp less far p q = absurd (omega (arith, less))
stands_so f x s (suc n) place way slot stamp less far p q = elim (cases_lt place n) [
  | inl is ↦ subst (λ es. Contains es x) (sym (one_more f s 0 n))
      (Contains-append_left (edges_from f s 0 n) (edge_at f s (0 + n) ∷ []) x (stands_so f x s n place way slot stamp is far p q))
  | inr over ↦ ends_so f x s (suc n) place way slot stamp (omega (arith, less, over)) far p q
]
