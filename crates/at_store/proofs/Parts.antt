-- The components of a class that is not there.
use Rattle.std.proofs.Common.{◌≡◌, ℕ, zero, suc, ◌<◌, ◌≤◌, List, [], ◌∷◌, ◌++◌, Option, Some, None, refl, sym, ap, ◌∙◌, length, option_map, option_and_then}
use Rattle.std.specs.List.{slice_get, flat_map}
use Rattle.std.specs.Prelude.{reverse, position, map}
use Rattle.std.specs.Str.{bytes_eq}
use Rattle.std.specs.List.{slice_index_or}
use Rattle.std.proofs.lemmas.Option.{slice_get_past, slice_get_read, slice_get-map}
use Rattle.at_model.specs.Classes.{Classes, Class, chain, chain_within, own_of, parts}
use Rattle.at_model.specs.Paths.{Step, step_in, part_named, place_in}
use Rattle.at_model.specs.Trees.{Node as branch, no_cells}
use Rattle.at_class.specs.View.{part_view, shape_view}
use Rattle.at_class.specs.declared.part.Part.{Part}

none : (classes : Classes) (n : ℕ) → chain_within n classes None ≡ []
none classes zero = refl
none classes (suc n) = refl

own : (classes : Classes) (c : ℕ) → slice_get classes c ≡ None → own_of classes c ≡ []
own classes c e = ap (λ (o : Option Class). elim o [ None ↦ [] | Some k ↦ k.own ]) e

chained : (classes : Classes) (n c : ℕ) → slice_get classes c ≡ None → flat_map (own_of classes) (reverse (chain_within n classes (Some c))) ≡ []
chained classes zero c e = refl
chained classes (suc n) c e =
    ap (λ o. flat_map (own_of classes) (reverse (c ∷ chain_within n classes o))) (ap (option_and_then (λ k. k.parent)) e) ∙
    ap (λ xs. flat_map (own_of classes) (reverse (c ∷ xs))) (none classes n) ∙ ap (λ xs. xs ++ []) (own classes c e)

-- it has none
pub no_parts : (classes : Classes) (c : ℕ) → length classes ≤ c → parts classes c ≡ []
unfolding chain
no_parts classes c h = chained classes (length classes) c (slice_get_past classes c h)

abbrev led_by : Classes → ℕ → Step → Option ℕ → Option (ℕ × ℕ)
led_by classes c s o = option_and_then (λ part. option_and_then (λ p. option_map (λ i. (part, i)) (place_in p.shape s.index)) (slice_get (parts classes c) part)) o

-- no step leads on from it
pub step_nowhere : (classes : Classes) (c : ℕ) (s : Step) → length classes ≤ c → step_in classes (branch c no_cells) s ≡ None
step_nowhere classes c s h = ap (led_by classes c s) (ap (position (λ p. bytes_eq p.name s.part)) (no_parts classes c h))

-- a step by a component that is there
pub step_there : (classes : Classes) (c : ℕ) (s : Step) (part : ℕ) (ps : List Part) (q : Part) → map part_view ps
    ≡ parts classes c → part_named classes c s.part ≡ Some part → part < length ps → q ≡ slice_index_or ps part q →
    step_in classes (branch c no_cells) s ≡ option_map (λ i. (part, i)) (place_in (shape_view q.shape) s.index)
step_there classes c s part ps q same named within is =
    ap (led_by classes c s) named ∙
    ap (option_and_then (λ p. option_map (λ i. (part, i)) (place_in p.shape s.index)))
    (ap (λ xs. slice_get xs part) (sym same) ∙ slice_get-map part_view ps part ∙ ap (option_map part_view) (slice_get_read ps (length ps) part q refl within is))
