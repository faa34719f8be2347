-- Bytes cut at newlines, piece by piece.
use Rattle.std.proofs.Common.{◌≡◌, ℕ, suc, ◌+◌, ◌<◌, ◌≤◌, Bool, true, false, cond, nat_eq, List, [], ◌∷◌, ◌++◌, length, get_or, take, drop, filter, None, Some, refl, sym, ap, ◌∙◌, append_assoc, append-nil, arith}
use Rattle.std.specs.List.{position_or_len}
use Rattle.std.proofs.lemmas.Bool.Decides.{nat_tests}
use Rattle.std.proofs.lemmas.Grind.{common_steps}
use Rattle.std.proofs.lemmas.List.{get_or-take, length-take, take-append-drop, take_more}
use Rattle.std.proofs.lemmas.List.Quantifiers.{position-Some}
use Rattle.std.proofs.lemmas.List.Sums.{fails_before_first}
use Rattle.at_model.specs.Lines.{pieces, onto_first}
use Rattle.at_engine.specs.Loop.{Splits, IsOpen, newline_at}

-- the first piece goes on these bytes
abbrev pub onto_front : List ℕ → List (List ℕ) → List (List ℕ)
onto_front p [] = p ∷ []
onto_front p (q ∷ qs) = (p ++ q) ∷ qs

-- the pieces of two texts, one behind the other
abbrev pub join : List (List ℕ) → List (List ℕ) → List (List ℕ)
join [] qs = qs
join (p ∷ []) qs = onto_front p qs
join (p ∷ q ∷ ps) qs = p ∷ join (q ∷ ps) qs

pub data IsCons : List (List ℕ) → Type 0 where
  is_cons : (p : List ℕ) (ps : List (List ℕ)) → IsCons (p ∷ ps)

onto_first_cons : (b : ℕ) (ps : List (List ℕ)) → IsCons (onto_first b ps)
onto_first_cons b [] = is_cons _ _
onto_first_cons b (p ∷ ps) = is_cons _ _

pub pieces_cons : (bs : List ℕ) → IsCons (pieces bs)
pieces_cons [] = is_cons _ _
pieces_cons (b ∷ bs) = elim (nat_eq b 10) as (λ t. IsCons (cond t ([] ∷ pieces bs) (onto_first b (pieces bs)))) [
  | true ↦ is_cons _ _
  | false ↦ onto_first_cons b (pieces bs)
]

pub onto_front_nothing : (qs : List (List ℕ)) → IsCons qs → onto_front [] qs ≡ qs
onto_front_nothing (q ∷ qs) h = refl
onto_front_nothing [] h = elim h [ ]

join_newline : (ps qs : List (List ℕ)) → IsCons ps → [] ∷ join ps qs ≡ join ([] ∷ ps) qs
join_newline (p ∷ ps) qs h = refl
join_newline [] qs h = elim h [ ]

join_byte : (b : ℕ) (ps qs : List (List ℕ)) → IsCons ps → onto_first b (join ps qs) ≡ join (onto_first b ps) qs
join_byte b [] qs h = elim h [ ]
join_byte b (p ∷ []) [] h = refl
join_byte b (p ∷ []) (q ∷ qs) h = refl
join_byte b (p ∷ q ∷ ps) qs h = refl

pub pieces-append : (as' bs : List ℕ) → pieces (as' ++ bs) ≡ join (pieces as') (pieces bs)
pieces-append [] bs = sym (onto_front_nothing (pieces bs) (pieces_cons bs))
pieces-append (a ∷ as') bs = elim (nat_eq a 10) as (λ t. cond t ([] ∷ pieces (as' ++ bs)) (onto_first a (pieces (as' ++ bs))) ≡ join (cond t ([] ∷ pieces as') (onto_first a (pieces as'))) (pieces bs)) [
  | true ↦ ap (λ l. [] ∷ l) (pieces-append as' bs) ∙ join_newline (pieces as') (pieces bs) (pieces_cons as')
  | false ↦ ap (onto_first a) (pieces-append as' bs) ∙ join_byte a (pieces as') (pieces bs) (pieces_cons as')
]

pub join-last : (fulls : List (List ℕ)) (p : List ℕ) (qs : List (List ℕ)) → join (fulls ++ p ∷ []) qs ≡ fulls ++ onto_front p qs
join-last [] p qs = refl
join-last (f ∷ []) p qs = refl
join-last (f ∷ g ∷ gs) p qs = ap (λ l. f ∷ l) (join-last (g ∷ gs) p qs)

-- what follows goes on the last piece
pub splits_then : (as' bs : List ℕ) (fulls : List (List ℕ)) (p : List ℕ) → Splits as' fulls p → pieces (as' ++ bs) ≡ fulls ++ onto_front p (pieces bs)
splits_then as' bs fulls p h = pieces-append as' bs ∙ ap (λ l. join l (pieces bs)) h ∙ join-last fulls p (pieces bs)

-- bytes in which no newline stands are open
open_where : (bs : List ℕ) → ((k : ℕ) → k < length bs → nat_eq (get_or bs k 0) 10 ≡ false) → IsOpen bs
open_where [] h = refl
open_where (b ∷ bs) h =
    ap (λ t. cond t ([] ∷ pieces bs) (onto_first b (pieces bs))) (h 0 (omega arith)) ∙ ap (onto_first b) (open_where bs (λ k l. h (suc k) (omega (arith, l))))

-- without one all bytes are open
pub open_all : (bs : List ℕ) → newline_at bs ≡ None → IsOpen bs
open_all bs none =
    let past : length bs ≤ position_or_len (λ b. nat_eq b 10) bs = grind (arith, common_steps) in
    open_where bs (λ k l. fails_before_first (λ b. nat_eq b 10) bs k 0 (omega (arith, past, l)))

-- those before it are
pub open_before : (bs : List ℕ) (i : ℕ) → newline_at bs ≡ Some i → IsOpen (take i bs)
open_before bs i is =
    let p = position-Some (λ b. nat_eq b 10) bs i 0 is in
    open_where (take i bs) (λ k l. let below : k < i = omega (arith, length-take i bs, l) in ap (λ b. nat_eq b 10) (get_or-take i bs k 0 below) ∙ p.2 k below)

-- there it stands
pub split_at_newline : (bs : List ℕ) (i : ℕ) → newline_at bs ≡ Some i → bs ≡ take i bs ++ 10 ∷ drop (i + 1) bs
split_at_newline bs i is =
    let p = position-Some (λ b. nat_eq b 10) bs i 0 is in
    let newline : get_or bs i 0 ≡ 10 = grind (arith, nat_tests, p.1) in
    sym (take-append-drop (i + 1) bs) ∙ ap (λ l. l ++ drop (i + 1) bs) (take_more bs i 0 p.0 ∙ ap (λ b. take i bs ++ b ∷ []) newline) ∙ append_assoc (take i bs) (10 ∷ []) (drop (i + 1) bs)

-- open bytes go on the line
pub splits_open : (as' : List ℕ) (fulls : List (List ℕ)) (p bs : List ℕ) → IsOpen bs → Splits as' fulls p → Splits (as' ++ bs) fulls (p ++ bs)
splits_open as' fulls p bs o s = splits_then as' bs fulls p s ∙ ap (λ l. fulls ++ onto_front p l) o

-- a newline ends it
pub splits_newline : (as' : List ℕ) (fulls : List (List ℕ)) (p : List ℕ) → Splits as' fulls p → Splits (as' ++ 10 ∷ []) (fulls ++ p ∷ []) []
splits_newline as' fulls p s = splits_then as' (10 ∷ []) fulls p s ∙ ap (λ l. fulls ++ l ∷ [] ∷ []) (append-nil p) ∙ sym (append_assoc fulls (p ∷ []) ([] ∷ []))

-- lines behind an open one
pub splits_on : (as' bs : List ℕ) (fulls more : List (List ℕ)) (p q : List ℕ) → Splits as' fulls p → IsOpen p → Splits (p ++ bs) more q → Splits (as' ++ bs) (fulls ++ more) q
splits_on as' bs fulls more p q s o t =
    splits_then as' bs fulls p s ∙ ap (λ l. fulls ++ l) (sym (splits_then p bs [] p o) ∙ t) ∙ sym (append_assoc fulls more (q ∷ []))

pub filter-append : (test : List ℕ → Bool) (xs ys : List (List ℕ)) → filter test (xs ++ ys) ≡ filter test xs ++ filter test ys
filter-append test [] ys = refl
filter-append test (x ∷ xs) ys = elim (test x) as (λ t. cond t (x ∷ filter test (xs ++ ys)) (filter test (xs ++ ys)) ≡ cond t (x ∷ filter test xs) (filter test xs) ++ filter test ys) [
  | true ↦ ap (λ l. x ∷ l) (filter-append test xs ys)
  | false ↦ filter-append test xs ys
]
