-- An evaluation that has come to its end with values that hold has looked at all that it sees, and was told the values of all
-- that it comes to; and it saw and came to no others.
use Rattle.std.proofs.Common.{◌≡◌, List, inl, inr, sym, subst}
use Rattle.at_model.specs.Run.{Value, Location, Run, Gives, Fails, Instance, Contents, FaultKind}
use Rattle.at_model.specs.Follow.{Past, here, looked, told}
use Rattle.at_model.specs.Meaning.{Finds, Reaches, Among}
use Rattle.at_model.specs.Support.{Sees}
use Rattle.at_model.specs.of_fixpoints.Formulas.{Forms}
use Rattle.at_model.specs.of_fixpoints.Fixpoints.{HasValue}
use Rattle.at_model.proofs.of_formulas.UniqueOutcomes.{once}

module _ {N : Type 0} (look : Contents N) (forms : Forms N) where
  same_value : (i : Instance N) (v w : Value N) → HasValue look forms i v → HasValue look forms i w → v ≡ w
  same_value i v w h g = let e : Finds v ≡ Finds w = once look forms i (Finds v) (Finds w) h g in cc

  pub sees_read : {A : Type 0} (r s : Run N A) (a : A) (js : List (Instance N)) (ls : List (Location N)) (l : Location N) → s ≡ Gives a → Past look (HasValue look forms) r js ls s → Sees look (HasValue look forms) r l → Among l ls
  sees_read r s a js ls l e (here _) h = let h' = rw e at h in absurd h'
  sees_read r s a js ls l e (looked m k p) (inl same) = inl (sym same)
  sees_read r s a js ls l e (looked m k p) (inr h) = inr (sees_read (k (look m)) s a _ _ l e p h)
  sees_read r s a js ls l e (told j k w is p) (u, has, h) = sees_read (k w) s a _ _ l e p (subst (λ x. Sees look (HasValue look forms) (k x) l) (same_value j u w has is) h)

  pub comes_told : {A : Type 0} (r s : Run N A) (a : A) (js : List (Instance N)) (ls : List (Location N)) (i : Instance N) → s ≡ Gives a → Past look (HasValue look forms) r js ls s → Reaches look (HasValue look forms) r i → Among i js
  comes_told r s a js ls i e (here _) h = let h' = rw e at h in absurd h'
  comes_told r s a js ls i e (looked m k p) h = comes_told (k (look m)) s a _ _ i e p h
  comes_told r s a js ls i e (told j k w is p) (inl same) = inl (sym same)
  comes_told r s a js ls i e (told j k w is p) (inr (u, has, h)) = inr (comes_told (k w) s a _ _ i e p (subst (λ x. Reaches look (HasValue look forms) (k x) i) (same_value j u w has is) h))

  -- one that has come to its end with a fault was told the values of all that it comes to
  pub comes_failed : {A : Type 0} (r s : Run N A) (f : FaultKind) (js : List (Instance N)) (ls : List (Location N)) (i : Instance N) → s ≡ Fails f → Past look (HasValue look forms) r js ls s → Reaches look (HasValue look forms) r i → Among i js
  comes_failed r s f js ls i e (here _) h = let h' = rw e at h in absurd h'
  comes_failed r s f js ls i e (looked m k p) h = comes_failed (k (look m)) s f _ _ i e p h
  comes_failed r s f js ls i e (told j k w is p) (inl same) = inl (sym same)
  comes_failed r s f js ls i e (told j k w is p) (inr (u, has, h)) = inr (comes_failed (k w) s f _ _ i e p (subst (λ x. Reaches look (HasValue look forms) (k x) i) (same_value j u w has is) h))

  pub read_seen : {A : Type 0} (r s : Run N A) (js : List (Instance N)) (ls : List (Location N)) (l : Location N) → Past look (HasValue look forms) r js ls s → Among l ls → Sees look (HasValue look forms) r l
  read_seen r s js ls l (here _) h = absurd h
  read_seen r s js ls l (looked m k p) (inl same) = inl (sym same)
  read_seen r s js ls l (looked m k p) (inr h) = inr (read_seen (k (look m)) s _ _ l p h)
  read_seen r s js ls l (told j k w is p) h = (w, is, read_seen (k w) s _ _ l p h)
