-- What a question adds to what is kept where it isn't answered, by the paths of nodes.
use Rattle.std.proofs.Common.{◌≡◌, ◌⊎◌, ℕ, ◌+◌, ◌-◌, ◌^◌, min, Option, Some, None, inl, inr, refl, sym, ap, ◌∙◌, subst}
use Rattle.std.specs.Prelude.{IsSome}
use Rattle.at_model.specs.Paths.{Node}
use Rattle.at_model.specs.Run.{Value, Instance, Location}
use Rattle.at_model.specs.Rules.{Rules}
use Rattle.at_model.specs.Meaning.{Among, content}
use Rattle.at_model.specs.Alike.{InstanceLike, Names, IsInjective, AlikeAt}
use Rattle.at_model.specs.Sparing.{IsWorthKeeping}
use Rattle.at_store.specs.Shown.{Shown, IsIdle, contents, numbers, path, tree}
use Rattle.at_store.specs.Memory.{class_in}
use Rattle.at_store.specs.View.{memory_of}
use Rattle.at_store.proofs.Found.{path_injective}
use Rattle.at_store.proofs.Relabelled.{contents_alike}
use Rattle.at_cache.specs.Kept.{Entries}
use Rattle.at_demand.specs.Answered.{AddsMet}
use Rattle.at_evaluate.specs.Valued.{kept_values, IsKept}
use Rattle.at_evaluate.specs.Sparing.{AddsWorthy, Counts}
use Rattle.at_demand.specs.Called.{KeptBy}
use Rattle.at_demand.proofs.of_keeping.CalledAsked.{one_number, one_path, worth_on}
use Rattle.at_engine.specs.KeptOver.{Grows}
use Rattle.at_demand.proofs.Working.{came_worth}
use Rattle.at_evaluate.proofs.Entered.{kept_on, not_none}
use Rattle.at_demand.proofs.Naming.{name_all}

-- kept or not
kept_or_not : (o : Option (Value ℕ)) → IsSome o ⊎ (o ≡ None)
kept_or_not None = inr refl
kept_or_not (Some v) = inl refl

module _ (rules : Rules) (s : Shown) (idle : IsIdle s) (q : Instance ℕ) (p : Instance Node) (asked : InstanceLike (Names (path s)) q p) (old new : Entries) (w x : ℕ) (adds : AddsWorthy rules (contents s) q old new) (met : AddsMet rules (contents s) q old new) (counts : Counts old new w x) where
  once : IsInjective (path s)
  once = path_injective (numbers s)

  alike : (l : Location ℕ) → AlikeAt (Names (path s)) (contents s) (content (tree s)) l
  alike = contents_alike (class_in (memory_of s.slab)) (numbers s) idle.keeps.apart

  worthy : (i : Instance ℕ) → Among i counts.0 → (j : Instance Node) × InstanceLike (Names (path s)) i j × IsWorthKeeping rules (tree s) p j
  worthy i h =
      let y = (counts.1.exactly i).0 h in
      worth_on rules (contents s) (tree s) (path s) once alike q p asked i
      (came_worth rules (contents s) q old new adds met i y.1 y.0)

  path_is : (i : Instance ℕ) (j k : Instance Node) → InstanceLike (Names (path s)) i j → InstanceLike (Names (path s)) i k → j ≡ k
  path_is = one_path rules (contents s) (tree s) (path s) once alike

  number_is : (i j : Instance ℕ) (k : Instance Node) → InstanceLike (Names (path s)) i k → InstanceLike (Names (path s)) j k → i ≡ j
  number_is = one_number rules (contents s) (tree s) (path s) once alike

  pub grows_asked : Grows (IsWorthKeeping rules (tree s) p) (KeptBy s old) (KeptBy s new) w x
  grows_asked =
      let (js, c) = name_all (path s) path_is number_is counts.0 (λ i h. let (j, u, worth) = worthy i h in (j, u)) in
      record {
        stays = λ j (i, some, u). (i, kept_on old new adds.stays i some, u);
        gained = js;
        distinct = c.distinct counts.1.distinct;
        exactly = λ j. (
          λ h. (let (i, a, u) = c.of_one j h in let y = (counts.1.exactly i).0 a in ((i, y.0, u), λ (m, some, v). not_none (kept_values old i) (subst (IsKept old) (number_is m i j v u) some) y.1)),
          λ ((i, some, u), none). elim (kept_or_not (kept_values old i)) [ inl was ↦ absurd (none (i, was, u)) | inr new ↦ c.each i j ((counts.1.exactly i).1 (some, new)) u ],
        );
        worth = λ j h. (let (i, a, u) = c.of_one j h in let (k, v, worth) = worthy i a in subst (IsWorthKeeping rules (tree s) p) (path_is i k j v u) worth);
        grows = λ small. counts.2 ∙ ap (λ n. min (w + n) (2 ^ 64 - 1)) (sym c.size);
      }
