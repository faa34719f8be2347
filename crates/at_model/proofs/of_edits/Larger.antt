-- What becomes of an edit where the tree may have so many nodes.
use Rattle.std.proofs.Common.{◌≡◌, ◌⊎◌, ℕ, ◌≤◌, inl, inr, Bool, true, false, if◌then◌else◌, Result, Ok, Err, refl, ap, ◌∙◌, subst, arith}
use Rattle.std.specs.Prelude.{nat_le}
use Rattle.std.proofs.lemmas.Bool.Decides.{nat_tests}
use Rattle.at_model.specs.Classes.{Classes}
use Rattle.at_model.specs.Trees.{Tree, nodes}
use Rattle.at_model.specs.Edits.{Edit, Refusal, Limit, edited, edited_within}

-- what is left of an answer where the tree may have so many nodes
abbrev pub up_to : ℕ → Result Tree Refusal → Result Tree Refusal
up_to n r = elim r [ Err x ↦ Err x | Ok u ↦ if nat_le (nodes u) n then Ok u else Err Limit ]

fits : (n : ℕ) (v u : Tree) (b : Bool) → nat_le (nodes v) n ≡ b → (if b then Ok v else Err Limit) ≡ Ok u →
    (v ≡ u) × (nat_le (nodes u) n ≡ true)
fits n v u true few is = let same : v ≡ u = cc in (same, subst (λ x. nat_le (nodes x) n ≡ true) same few)
fits n v u false few is = let f : Err Limit ≡ Ok u = is in absurd cc

by_answer : (n : ℕ) (r : Result Tree Refusal) (u : Tree) → up_to n r ≡ Ok u → (r ≡ Ok u) × (nat_le (nodes u) n ≡ true)
by_answer n (Err x) u is = absurd cc
by_answer n (Ok v) u is = let (same, few) = fits n v u (nat_le (nodes v) n) refl is in (ap Ok same, few)

-- why there is a refusal
abbrev pub IsRefused : ℕ → Result Tree Refusal → Refusal → Type 0
IsRefused n r x = (r ≡ Err x) ⊎ ((u : Tree) × (x ≡ Limit) × (r ≡ Ok u) × (nat_le (nodes u) n ≡ false))

large : (n : ℕ) (u : Tree) (x : Refusal) (b : Bool) → nat_le (nodes u) n ≡ b → (if b then Ok u else Err Limit) ≡ Err x →
    IsRefused n (Ok u) x
large n u x true few e = let f : Result Tree Refusal = Ok u in let g : f ≡ Err x = e in absurd cc
large n u x false many e = let same : x ≡ Limit = cc in inr (u, same, refl, many)

refused_by : (n : ℕ) (r : Result Tree Refusal) (x : Refusal) → up_to n r ≡ Err x → IsRefused n r x
refused_by n (Err y) x is = let same : y ≡ x = cc in inl (ap Err same)
refused_by n (Ok u) x is = large n u x (nat_le (nodes u) n) refl is

-- the tree is that of the edit, and no larger than it may be
pub within_edited : (n : ℕ) (classes : Classes) (t : Tree) (e : Edit) (u : Tree) → edited_within n classes t e ≡ Ok u →
    (edited classes t e ≡ Ok u) × (nat_le (nodes u) n ≡ true)
within_edited n classes t e u is = by_answer n (edited classes t e) u is

pub allowed_edit : (n : ℕ) (classes : Classes) (t : Tree) (e : Edit) (u : Tree) → edited classes t e ≡ Ok u →
    nat_le (nodes u) n ≡ true → edited_within n classes t e ≡ Ok u
allowed_edit n classes t e u is few = ap (up_to n) is ∙ ap (λ (b : Bool). if b then Ok u else Err Limit) few

pub large_edit : (n : ℕ) (classes : Classes) (t : Tree) (e : Edit) (u : Tree) → edited classes t e ≡ Ok u →
    nat_le (nodes u) n ≡ false → edited_within n classes t e ≡ Err Limit
large_edit n classes t e u is many = ap (up_to n) is ∙ ap (λ (b : Bool). if b then Ok u else Err Limit) many

pub refused_edit : (n : ℕ) (classes : Classes) (t : Tree) (e : Edit) (x : Refusal) → edited classes t e ≡ Err x →
    edited_within n classes t e ≡ Err x
refused_edit n classes t e x is = ap (up_to n) is

-- it is refused as it is anyhow, or since it leaves too many
pub why_refused : (n : ℕ) (classes : Classes) (t : Tree) (e : Edit) (x : Refusal) →
    edited_within n classes t e ≡ Err x →
    IsRefused n (edited classes t e) x
why_refused n classes t e x is = refused_by n (edited classes t e) x is

no_more : (a n m : ℕ) → nat_le a n ≡ true → n ≤ m → nat_le a m ≡ true
no_more a n m h k = grind (arith, nat_tests)

-- with more room it is accepted, too
pub more_room : (n m : ℕ) (classes : Classes) (t : Tree) (e : Edit) (u : Tree) → edited_within n classes t e ≡ Ok u →
    n ≤ m → edited_within m classes t e ≡ Ok u
more_room n m classes t e u is less =
    let (made, few) = within_edited n classes t e u is in
    allowed_edit m classes t e u made (no_more (nodes u) n m few less)
