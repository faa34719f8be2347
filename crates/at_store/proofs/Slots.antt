-- A list with another element, and what is shown of it.
use Rattle.std.proofs.Common.{◌≡◌, ℕ, zero, suc, ◌≤◌, List, [], ◌∷◌, length, slice_set, Bool, true, false, cond, nat_eq, drop, Option, Some, None, refl, sym, ap, ◌∙◌, arith}
use lib.ListN.{get_or}
use Rattle.std.specs.Prelude.{map}
use Rattle.at_model.specs.Edits.{changed_at}
use Rattle.std.specs.List.{slice_get, insert}
use Rattle.at_store.specs.Memory.{Info, Kept, Place, with_kept, with_place, with_up, with_index, rewritten, placed, raised, indexed, renumbered}

pub set_mapped : {A B : Type 0} (f : A → B) (xs : List A) (i : ℕ) (a : A) → map f (slice_set xs i a) ≡ changed_at (λ old. f a) (map f xs) i
set_mapped f [] zero a = refl
set_mapped f [] (suc i) a = refl
set_mapped f (x ∷ xs) zero a = refl
set_mapped f (x ∷ xs) (suc i) a = ap (λ ys. f x ∷ ys) (set_mapped f xs i a)

pub set_changed : {A : Type 0} (xs : List A) (i : ℕ) (a : A) → slice_set xs i a ≡ changed_at (λ old. a) xs i
set_changed [] zero a = refl
set_changed [] (suc i) a = refl
set_changed (x ∷ xs) zero a = refl
set_changed (x ∷ xs) (suc i) a = ap (λ ys. x ∷ ys) (set_changed xs i a)

-- an element that became what g makes of it
pub set_shown : {A B : Type 0} (f : A → B) (g : B → B) (xs : List A) (i : ℕ) (a b : A) → get_or xs i a ≡ a → f b ≡ g (f a) → map f (slice_set xs i b) ≡ changed_at g (map f xs) i
set_shown f g [] zero a b e h = refl
set_shown f g [] (suc i) a b e h = refl
set_shown f g (x ∷ xs) zero a b e h = ap (λ y. y ∷ map f xs) (h ∙ ap (λ z. g (f z)) (sym e))
set_shown f g (x ∷ xs) (suc i) a b e h = ap (λ ys. f x ∷ ys) (set_shown f g xs i a b e h)

pub none_changed : {A : Type 0} (g : A → A) (xs : List A) (i : ℕ) → length xs ≤ i → changed_at g xs i ≡ xs
none_changed g [] i h = refl
none_changed g (x ∷ xs) zero h = let e : suc (length xs) ≤ 0 = h in absurd (omega arith)
none_changed g (x ∷ xs) (suc i) h = let e : suc (length xs) ≤ suc i = h in ap (λ ys. x ∷ ys) (none_changed g xs i (omega arith))

pub map_length : {A B : Type 0} (f : A → B) (xs : List A) → length (map f xs) ≡ length xs
map_length f [] = refl
map_length f (x ∷ xs) = ap suc (map_length f xs)

-- the class stays
abbrev pub class_at : Option Info → ℕ
class_at o = elim o [ None ↦ 0 | Some i ↦ i.class ]

pub class_cond : (b : Bool) (o q : Option Info) → class_at o ≡ class_at q → class_at (cond b o q) ≡ class_at q
class_cond true o q e = e
class_cond false o q e = refl

pub class_place : (place : Place) (o : Option Info) → class_at (with_place place o) ≡ class_at o
class_place place None = refl
class_place place (Some i) = refl

pub class_kept : (part : ℕ) (c : Kept) (o : Option Info) → class_at (with_kept part c o) ≡ class_at o
class_kept part c None = refl
class_kept part c (Some i) = refl

pub class_indexed : (n index k : ℕ) (o : Option Info) → class_at (indexed n index k o) ≡ class_at o
class_indexed n index k o = by_test (nat_eq k n) o
  where
    by_test : (b : Bool) (o : Option Info) → class_at (cond b (with_index index o) o) ≡ class_at o
    by_test true None = refl
    by_test true (Some i) = refl
    by_test false o = refl

pub class_renumbered : (ns : List ℕ) (index k : ℕ) (o : Option Info) → class_at (renumbered ns index k o) ≡ class_at o
class_renumbered [] index k o = refl
class_renumbered (n ∷ ns) index k o = class_renumbered ns (suc index) k (indexed n index k o) ∙ class_indexed n index k o

pub class_rewritten : (n part : ℕ) (c : Kept) (k : ℕ) (o : Option Info) → class_at (rewritten n part c k o) ≡ class_at o
class_rewritten n part c k o = class_cond (nat_eq k n) (with_kept part c o) o (class_kept part c o)

pub class_placed : (n : ℕ) (place : Place) (k : ℕ) (o : Option Info) → class_at (placed n place k o) ≡ class_at o
class_placed n place k o = class_cond (nat_eq k n) (with_place place o) o (class_place place o)

-- a node below another parent and at another index is at another place
pub raised_indexed : (n : ℕ) (up : Option (ℕ × ℕ)) (index k : ℕ) (o : Option Info) → indexed n index k (raised n up k o) ≡ placed n (up, index) k o
raised_indexed n up index k o = by_test (nat_eq k n) o
  where
    by_test : (b : Bool) (o : Option Info) → cond b (with_index index (cond b (with_up up o) o)) (cond b (with_up up o) o) ≡ cond b (with_place (up, index) o) o
    by_test true None = refl
    by_test true (Some i) = refl
    by_test false o = refl

-- the nodes of a list from an index on are given their indexes
pub drop_at : {A : Type 0} (xs : List A) (i : ℕ) (x : A) → slice_get xs i ≡ Some x → drop i xs ≡ x ∷ drop (suc i) xs
drop_at [] i x e = absurd cc
drop_at (y ∷ ys) zero x e = let same : y ≡ x = cc in ap (λ z. z ∷ ys) same
drop_at (y ∷ ys) (suc i) x e = drop_at ys i x e

pub renumbered_step : (ns : List ℕ) (i n k : ℕ) (o : Option Info) → slice_get ns i ≡ Some n → renumbered (drop i ns) i k o ≡ renumbered (drop (suc i) ns) (suc i) k (indexed n i k o)
renumbered_step ns i n k o e = ap (λ xs. renumbered xs i k o) (drop_at ns i n e)

pub none_past : {A : Type 0} (xs : List A) (i : ℕ) → slice_get xs i ≡ None → length xs ≤ i
none_past [] i e = omega arith
none_past (x ∷ xs) zero e = absurd cc
none_past (x ∷ xs) (suc i) e = let h = none_past xs i e in omega (arith, h)

inserted_there : (ns : List ℕ) (i n : ℕ) → i ≤ length ns → slice_get (insert ns i n) i ≡ Some n
inserted_there [] zero n h = refl
inserted_there [] (suc i) n h = let f : suc i ≤ 0 = h in absurd (omega arith)
inserted_there (x ∷ xs) zero n h = refl
inserted_there (x ∷ xs) (suc i) n h = let f : suc i ≤ suc (length xs) = h in inserted_there xs i n (omega arith)

-- the new element gets its index with those behind it
pub renumbered_insert : (ns numbers : List ℕ) (i n k : ℕ) (up : Option (ℕ × ℕ)) (o : Option Info) → numbers ≡ insert ns i n → i ≤ length ns →
    renumbered (drop i numbers) i k (raised n up k o) ≡ renumbered (drop (suc i) numbers) (suc i) k (placed n (up, i) k o)
renumbered_insert ns numbers i n k up o same bound =
    renumbered_step numbers i n k (raised n up k o) (ap (λ xs. slice_get xs i) same ∙ inserted_there ns i n bound) ∙ ap (renumbered (drop (suc i) numbers) (suc i) k) (raised_indexed n up i k o)
