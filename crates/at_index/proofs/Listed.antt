-- The edges of a location, among those of all.
use Rattle.at_index.proofs.Common.{◌≡◌, ℕ, List, [], Option, None, Some, slice_get, ap, SmallVec, Location, Edge, Readers, node_at, edges_among, edges_at}

pub edges_are : (xs : List (SmallVec Readers)) (l : Location ℕ) (v : SmallVec Readers) → slice_get xs (node_at l) ≡ Some v → edges_at xs l ≡ edges_among (node_at l) v.items l
edges_are xs l v h = ap (λ (o : Option (SmallVec Readers)). elim o as (λ _. List Edge) [ None ↦ [] | Some w ↦ edges_among (node_at l) w.items l ]) h

pub no_edges : (xs : List (SmallVec Readers)) (l : Location ℕ) → slice_get xs (node_at l) ≡ None → edges_at xs l ≡ []
no_edges xs l h = ap (λ (o : Option (SmallVec Readers)). elim o as (λ _. List Edge) [ None ↦ [] | Some w ↦ edges_among (node_at l) w.items l ]) h

pub same_list : (xs ys : List (SmallVec Readers)) (l : Location ℕ) → slice_get xs (node_at l) ≡ slice_get ys (node_at l) → edges_at xs l ≡ edges_at ys l
same_list xs ys l h = ap (λ (o : Option (SmallVec Readers)). elim o as (λ _. List Edge) [ None ↦ [] | Some w ↦ edges_among (node_at l) w.items l ]) h
