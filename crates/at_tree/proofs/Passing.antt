-- How a reader's steps lead over characters of one sort.
use Rattle.std.proofs.Common.{◌≡◌, ℕ, ◌+◌, ◌-◌, ◌<◌, Bool, true, List, [], ◌∷◌, ◌++◌, length, take, drop, Option, Some, refl, ap, sym, ◌∙◌, subst, append_assoc, append-nil, length-append, arith, encode_utf8_all}
use Rattle.std.specs.Prelude.{encode_utf8, IsUtf8}
use Rattle.std.specs.Str.{IsCharBoundary}
use Rattle.std.specs.List.{AllByRecursion}
use Rattle.std.proofs.Math.Seq.{take-append_seam, drop-append_seam}
use Rattle.std.proofs.lemmas.Str.{length-encode, len_utf8_bounds, IsCharBoundary-at_seam, encode_ascii, encodes-append}
use Rattle.at_tree.specs.Leads.{Leads, LeadsTo, Takes}

-- where a text is cut
seam : (text front rest : List ℕ) → text ≡ front ++ rest → length text - length rest ≡ length front
seam text front rest e = let l : length text ≡ length front + length rest = ap length e ∙ length-append front rest in omega (arith, l)

pub cut_boundary : (text front rest : List ℕ) → text ≡ front ++ rest → IsUtf8 rest → IsCharBoundary text (length text - length rest)
cut_boundary text front rest e u = subst (IsCharBoundary text) (sym (seam text front rest e)) (IsCharBoundary-at_seam text front rest e u)

pub cut_front : (text front rest : List ℕ) → text ≡ front ++ rest → take (length text - length rest) text ≡ front
cut_front text front rest e = ap (λ n. take n text) (seam text front rest e) ∙ ap (take (length front)) e ∙ take-append_seam front rest

pub cut_back : (text front rest : List ℕ) → text ≡ front ++ rest → drop (length text - length rest) text ≡ rest
cut_back text front rest e = ap (λ n. drop n text) (seam text front rest e) ∙ ap (drop (length front)) e ∙ drop-append_seam front rest

pub leads_over : {P : Type 0} (step : P → ℕ → Option P) (passes : ℕ → Bool) (place : List ℕ → P) → ((word : List ℕ) (c : ℕ) → passes c ≡ true → step (place word) c ≡ Some (place (word ++ encode_utf8 c))) → (cs word : List ℕ) → AllByRecursion (λ c. passes c ≡ true) cs → Leads step (place word) cs (place (word ++ encode_utf8_all cs))
leads_over step passes place goes [] word e = rw append-nil refl
leads_over step passes place goes (c ∷ cs) word e = (
  place (word ++ encode_utf8 c),
  goes word c e.0,
  subst (λ w. Leads step (place (word ++ encode_utf8 c)) cs (place w)) (append_assoc word (encode_utf8 c) (encode_utf8_all cs)) (leads_over step passes place goes cs (word ++ encode_utf8 c) e.1),
)

-- a character, and those behind it
pub one_before : (c : ℕ) (cs text rest rest' : List ℕ) → text ≡ encode_utf8 c ++ rest → rest ≡ encode_utf8_all cs ++ rest' → text ≡ encode_utf8_all (c ∷ cs) ++ rest'
one_before c cs text rest rest' split more = split ∙ ap (λ l. encode_utf8 c ++ l) more ∙ sym (append_assoc (encode_utf8 c) (encode_utf8_all cs) rest')

-- one character, and more behind it
pub takes_more : {P : Type 0} (step : P → ℕ → Option P) (p next q : P) (c : ℕ) (cs text rest rest' : List ℕ) → step p c ≡ Some next → text ≡ encode_utf8 c ++ rest → rest ≡ encode_utf8_all cs ++ rest' → Leads step next cs q → Takes step p text q rest'
takes_more step p next q c cs text rest rest' first split more leads = (c, cs, one_before c cs text rest rest' split more, (next, first, leads))

-- what is left gets less
pub less_left : (c : ℕ) (cs text rest : List ℕ) → text ≡ encode_utf8_all (c ∷ cs) ++ rest → length rest < length text
less_left c cs text rest e =
    omega (arith, ap length e, length-append (encode_utf8 c ++ encode_utf8_all cs) rest, length-append (encode_utf8 c) (encode_utf8_all cs), length-encode c, len_utf8_bounds c)

-- one way behind another
leads_then : {P : Type 0} (step : P → ℕ → Option P) (p q r : P) (cs ds : List ℕ) → Leads step p cs q → Leads step q ds r → Leads step p (cs ++ ds) r
leads_then step p q r [] ds h k = subst (λ x. Leads step x ds r) (sym h) k
leads_then step p q r (c ∷ cs) ds h k = (h.0, h.1, leads_then step h.0 q r cs ds h.2 k)

pub joined : (text mid rest cs ds : List ℕ) → text ≡ encode_utf8_all cs ++ mid → mid ≡ encode_utf8_all ds ++ rest → text ≡ encode_utf8_all (cs ++ ds) ++ rest
joined text mid rest cs ds e f =
    e ∙ ap (λ y. encode_utf8_all cs ++ y) f ∙ sym (append_assoc (encode_utf8_all cs) (encode_utf8_all ds) rest) ∙ ap (λ y. y ++ rest) (sym (encodes-append cs ds))

pub leads_on : {P : Type 0} (step : P → ℕ → Option P) (p q r : P) (text mid rest : List ℕ) → LeadsTo step p text q mid → LeadsTo step q mid r rest → LeadsTo step p text r rest
leads_on step p q r text mid rest h k = (h.0 ++ k.0, joined text mid rest h.0 k.0 h.1 k.1, leads_then step p q r h.0 k.0 h.2 k.2)

-- over a byte that is a character
pub leads_byte : {P : Type 0} (step : P → ℕ → Option P) (p q : P) (b : ℕ) (text rest : List ℕ) → b < 128 → text ≡ b ∷ rest → step p b ≡ Some q → LeadsTo step p text q rest
leads_byte step p q b text rest low e taken = (b ∷ [], e ∙ ap (λ y. (y ++ []) ++ rest) (sym (encode_ascii b low)), (q, taken, refl))
