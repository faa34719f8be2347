-- Levels with one instance each, and what they have under way.
use Rattle.std.proofs.Common.{◌≡◌, List, [], ◌∷◌, ◌++◌, map, reverse, get_or, inl, inr, refl, sym, ◌∙◌, subst, ap}
use Rattle.std.proofs.lemmas.List.{reverse-append, reverse-reverse}
use Rattle.at_model.specs.Run.{Value, Instance}
use Rattle.at_model.specs.Meaning.{Among}
use Rattle.at_model.specs.Turning.{keys, IsOneMore, between}
use Rattle.at_model.specs.of_fixpoints.Searching.{Level, begun, under, root_of}
use Rattle.at_model.specs.of_fixpoints.Chains.{levels_of}
use Rattle.at_model.proofs.Listed.{among_left, among_right}
use Rattle.at_model.proofs.Members.{among_either}
use Rattle.at_model.proofs.of_machines.Bounded.{keys_both}

-- a list is empty, or has a last one
pub data IsPushed {A : Type 0} : List A → Type 0 where
  empty : IsPushed []
  push : (front : List A) (a : A) → IsPushed (front ++ a ∷ [])

in_front : {A : Type 0} (a : A) (xs : List A) → IsPushed xs → IsPushed (a ∷ xs)
in_front a _ empty = push [] a
in_front a _ (push front b) = push (a ∷ front) b

pub pushed : {A : Type 0} (xs : List A) → IsPushed xs
pushed [] = empty
pushed (a ∷ xs) = in_front a xs (pushed xs)

pub reversed : {A : Type 0} (a : A) (xs : List A) → Among a xs → Among a (reverse xs)
reversed a [] h = absurd h
reversed a (b ∷ xs) (inl e) =
    subst (Among a) (sym (reverse-append (b ∷ []) xs)) (among_right a (reverse xs) (b ∷ []) (inl e))
reversed a (b ∷ xs) (inr h) =
    subst (Among a) (sym (reverse-append (b ∷ []) xs)) (among_left a (reverse xs) (b ∷ []) (reversed a xs h))

pub unreversed : {A : Type 0} (a : A) (xs : List A) → Among a (reverse xs) → Among a xs
unreversed a xs h = subst (Among a) (reverse-reverse xs) (reversed a (reverse xs) h)

module _ {N : Type 0} where
  pub levels_push : (ws : List (Instance N)) (i : Instance N) → levels_of (ws ++ i ∷ []) ≡ begun i ∷ levels_of ws
  levels_push ws i = ap (map begun) (reverse-append ws (i ∷ []))

  under_begun : (xs : List (Instance N)) (j : Instance N) → Among j xs → Among j (under (map begun xs))
  under_begun [] j h = absurd h
  under_begun (x ∷ xs) j (inl e) = inl e
  under_begun (x ∷ xs) j (inr h) = inr (under_begun xs j h)

  begun_under : (xs : List (Instance N)) (j : Instance N) → Among j (under (map begun xs)) → Among j xs
  begun_under [] j h = absurd h
  begun_under (x ∷ xs) j (inl e) = inl e
  begun_under (x ∷ xs) j (inr h) = inr (begun_under xs j h)

  -- all under way are those of the chain
  waits_under : (ws : List (Instance N)) (j : Instance N) → Among j ws → Among j (under (levels_of ws))
  waits_under ws j h = under_begun (reverse ws) j (reversed j ws h)

  pub under_waits : (ws : List (Instance N)) (j : Instance N) → Among j (under (levels_of ws)) → Among j ws
  under_waits ws j h = unreversed j ws (begun_under (reverse ws) j h)

  pub chain_under : (ws : List (Instance N)) (i j : Instance N) → Among j (ws ++ i ∷ []) →
      Among j (i ∷ under (levels_of ws))
  chain_under ws i j h = elim (among_either ws (i ∷ []) j h) [
    | inl a ↦ inr (waits_under ws j a)
    | inr (inl e) ↦ inl e
    | inr (inr n) ↦ absurd n
  ]

  pub under_chain : (ws : List (Instance N)) (i j : Instance N) → Among j (i ∷ under (levels_of ws)) →
      Among j (ws ++ i ∷ [])
  under_chain ws i j (inl e) = among_right j ws (i ∷ []) (inl e)
  under_chain ws i j (inr h) = among_left j ws (i ∷ []) (under_waits ws j h)

  level_begun : (xs : List (Instance N)) (l : Level N) → Among l (map begun xs) →
      (x : Instance N) × Among x xs × (l ≡ begun x)
  level_begun [] l h = absurd h
  level_begun (x ∷ xs) l (inl e) = (x, inl refl, e)
  level_begun (x ∷ xs) l (inr h) = let (y, a, e) = level_begun xs l h in (y, inr a, e)

  -- each level is that of one that waits
  pub level_waits : (ws : List (Instance N)) (l : Level N) → Among l (levels_of ws) →
      (x : Instance N) × Among x ws × (l ≡ begun x)
  level_waits ws l h = let (x, a, e) = level_begun (reverse ws) l h in (x, unreversed x ws a, e)

  -- the first of the chain is what the lowest level demands
  root_last : (root w : Instance N) (xs : List (Instance N)) → root_of root (map begun (xs ++ w ∷ [])) ≡ w
  root_last root w [] = refl
  root_last root w (x ∷ xs) = root_last x w xs

  pub same_asked : (ws : List (Instance N)) (i : Instance N) → root_of i (levels_of ws) ≡ get_or ws 0 i
  same_asked [] i = refl
  same_asked (w ∷ ws) i =
      ap (λ xs. root_of i (map begun xs)) (reverse-append (w ∷ []) ws) ∙ root_last i w (reverse ws)

  pub no_level : (ws : List (Instance N)) → levels_of ws ≡ [] → ws ≡ []
  no_level [] e = refl
  no_level (w ∷ ws) e = absurd (off (reverse ws) (sym (ap (map begun) (reverse-append (w ∷ []) ws)) ∙ e))
    where
      off : (xs : List (Instance N)) → ◌≡◌ {A = List (Level N)} (map begun (xs ++ w ∷ [])) [] → ⊥
      off [] e = absurd cc
      off (x ∷ xs) e = absurd cc

  -- what was found, with one more
  pub key_value : (fs : List (Instance N × Value N)) (i : Instance N) → Among i (keys fs) →
      (v : Value N) × Among (i, v) fs
  key_value [] i h = absurd h
  key_value (f ∷ fs) i (inl e) = (f.1, inl (ap (λ z. (z, f.1)) e))
  key_value (f ∷ fs) i (inr h) = let r = key_value fs i h in (r.0, inr r.1)

  pub more_keys : (x : Instance N × Value N) (old new : List (Instance N × Value N)) → IsOneMore x old new →
      (i : Instance N) →
      Among i (keys old) → Among i (keys new)
  more_keys x _ _ (between front back) i h =
      subst (Among i) (sym (keys_both front (x ∷ back)))
      (elim (among_either (keys front) (keys back) i (subst (Among i) (keys_both front back) h)) [
        | inl a ↦ among_left i (keys front) (x.0 ∷ keys back) a
        | inr b ↦ among_right i (keys front) (x.0 ∷ keys back) (inr b)
      ])

  pub new_key : (x : Instance N × Value N) (old new : List (Instance N × Value N)) → IsOneMore x old new →
      Among x.0 (keys new)
  new_key x _ _ (between front back) =
      subst (Among x.0) (sym (keys_both front (x ∷ back))) (among_right x.0 (keys front) (x.0 ∷ keys back) (inl refl))
