-- The declarations of a list, appended one by one.
use Rattle.std.proofs.Common.{◌≡◌, ℕ, ◌≤◌, List, [], ◌∷◌, ◌++◌, length, drop, map, refl, ap, sym, ◌∙◌, append-nil}
use Rattle.std.proofs.lemmas.List.{drop_all}
use Rattle.at_jrag.specs.declared.syntax.Decl.{Decl as DeclValue}
use Rattle.at_jrag.specs.Syntax.{Decl}
use Rattle.at_jrag.specs.View.{decl_view}
use Rattle.at_typing.specs.Located.{Located}

-- nothing is left
pub at_end : {X A : Type 0} (xs zs : List A) (f : X → A) (items : List X) (k : ℕ) → length items ≤ k → xs ++ map f (drop k items) ≡ zs → xs ≡ zs
at_end xs zs f items k past is = sym (ap (λ ds. xs ++ map f ds) (drop_all k items past) ∙ append-nil xs) ∙ is

map-twice : {X A B : Type 0} (f : A → B) (v : X → A) (xs : List X) → map (λ x. f (v x)) xs ≡ map f (map v xs)
map-twice f v [] = refl
map-twice f v (x ∷ xs) = ap (λ ys. f (v x) ∷ ys) (map-twice f v xs)

-- of that file
abbrev pub in_file : ℕ → Decl → Located
in_file file d = record { file = file; decl = d }

pub from_items : (file : ℕ) (items : List DeclValue) → map (λ d. in_file file (decl_view d)) items ≡ map (in_file file) (map decl_view items)
from_items file items = map-twice (in_file file) decl_view items
