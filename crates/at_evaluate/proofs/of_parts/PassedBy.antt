-- Evaluations in one go: elements that a fold passes by.
use Rattle.std.proofs.Common.{◌≡◌, ◌≤◌, ◌<◌, ◌^◌, ◌++◌, ◌∷◌, [], ℕ, Bool, List, Ok, Option, Result, Some, ap, arith, false, inl, inr, length, length-append, refl, sym, subst}
use Rattle.at_model.specs.Run.{Contents, Location, Run, Truth, Value}
use Rattle.at_model.specs.Rules.{Rules}
use Rattle.at_store.specs.Shown.{Shown, contents}
use Rattle.at_rules.specs.declared.body.Body.{Body}
use Rattle.at_body.specs.Standing.{Place, inside}
use Rattle.at_body.specs.declared.todo.Fold.{Fold}
use Rattle.at_body.specs.declared.todo.Fold.TheVariants as fold
use Rattle.at_body.specs.declared.value.Value.{Value as ValueCode}
use Rattle.at_body.specs.declared.value.Value.TheVariants as value
use Rattle.at_evaluate.specs.Passing.{AreFalse}
use Rattle.at_evaluate.specs.declared.direct.Level.{Level}
use Rattle.at_evaluate.specs.InParts.{AsksEachInner, AsksInner, Held, MayHavePassedBy, Seeks}
use Rattle.at_evaluate.proofs.of_parts.AtOnce.{plain_come}
use Rattle.at_evaluate.proofs.of_parts.ByForm.{run_at}
use Rattle.at_evaluate.proofs.of_parts.Directly.{nothing_gained}
use Rattle.at_evaluate.proofs.of_parts.Looping.{GoesOn, each_on, elements_at, settled_at}

-- behind an element at which its expression comes to false a fold that seeks is what it was
seeks_on : (rules : Rules) (s : Shown) (p : Place) (f : Fold) (b : Body) (n : ℕ) (ns : List ℕ) → Seeks f →
    settled_at rules s p f b n ns (Truth false) ≡ elements_at rules s p f b ns
seeks_on rules s p fold.Exists b n ns is = refl
seeks_on rules s p fold.First b n ns is = refl
seeks_on rules s p (fold.Sum total) b n ns is = absurd is

module _ (rules : Rules) (s : Shown) (p : Place) (f : Fold) (b : Body) (a : ℕ) (seeks : Seeks f) (asks : AsksEachInner rules p b a)
    (whole : Run ℕ (Value ℕ)) (first now : Held) (old : Level) (few : now.work < 2 ^ 64) where
  -- the fold goes on there, with what was looked at behind what the level had
  abbrev On : Level → List (Location ℕ) → List ℕ → Type 0
  On mid reads ns = GoesOn rules s first now old (record mid { reads = reads }) whole (elements_at rules s p f b ns) (λ v. v)

  at_element : (n : ℕ) → AsksInner rules (inside p n) b n a
  at_element n = record { asks = λ classes. asks.asks classes n; inner = asks.inner; own = asks.own }

  abbrev at_once : Result (Option ValueCode) ℕ
  at_once = Ok (Some (value.Bool false))

  -- each of the elements in front is passed by
  goes_behind : (front rest nodes : List ℕ) (mid : Level) (before after : List (Location ℕ)) → nodes ≡ front ++ rest →
      AreFalse rules (contents s) a p.passed front before after → On mid before nodes → On mid after rest
  goes_behind [] rest nodes mid before after those are i =
      subst (λ ls. On mid ls rest) (sym are) (subst (λ ns. On mid before ns) those i)
  goes_behind (n ∷ ns) rest nodes mid before after those (between, looked, are) i =
      goes_behind ns rest (ns ++ rest) mid between after refl are (each_on rules s p whole first now now old (record mid { reads = before })
      (record mid { reads = between }) f b n (ns ++ rest) nodes those (inside p n) refl i
      (nothing_gained rules s (run_at rules (inside p n) b) now few i.right) (Truth false)
      (plain_come rules s (record mid { reads = before }) between (inside p n) b n a at_once (at_element n) looked now)
      f (seeks_on rules s p f b n (ns ++ rest) seeks))

-- behind those that it passes by, if it passes any by, the fold goes on
pub goes_past : (rules : Rules) (s : Shown) (p : Place) (f : Fold) (b : Body) (whole : Run ℕ (Value ℕ)) (first now : Held)
    (old mid later : Level) (nodes rest : List ℕ) → now.work < 2 ^ 64 → MayHavePassedBy rules (contents s) p f b mid later nodes rest →
    GoesOn rules s first now old mid whole (elements_at rules s p f b nodes) (λ v. v) →
    GoesOn rules s first now old later whole (elements_at rules s p f b rest) (λ v. v)
goes_past rules s p f b whole first now old mid later nodes rest few (inl (same, level)) i =
    subst (λ l. GoesOn rules s first now old l whole (elements_at rules s p f b rest) (λ v. v)) (sym level)
    (subst (λ ns. GoesOn rules s first now old mid whole (elements_at rules s p f b ns) (λ v. v)) (sym same) i)
goes_past rules s p f b whole first now old mid later nodes rest few (inr (a, h)) i =
    subst (λ l. GoesOn rules s first now old l whole (elements_at rules s p f b rest) (λ v. v)) (sym h.uses)
    (goes_behind rules s p f b a h.seeks h.asks whole first now old few h.passed.front rest nodes mid mid.reads later.reads h.passed.those h.passed.are i)

-- what is left is no more than there was
no_longer : (rules : Rules) (look : Contents ℕ) (p : Place) (f : Fold) (b : Body) (mid later : Level) (nodes rest : List ℕ) →
    MayHavePassedBy rules look p f b mid later nodes rest → length rest ≤ length nodes
no_longer rules look p f b mid later nodes rest (inl (same, level)) = omega (arith, ap length same)
no_longer rules look p f b mid later nodes rest (inr (a, h)) =
    omega (arith, ap length h.passed.those, length-append h.passed.front rest)

-- behind an element, and behind those passed by then, there is less than there was
pub less_left : (rules : Rules) (look : Contents ℕ) (p : Place) (f : Fold) (b : Body) (mid later : Level) (n : ℕ) (whole others rest : List ℕ) →
    whole ≡ n ∷ others → MayHavePassedBy rules look p f b mid later others rest → length rest < length whole
less_left rules look p f b mid later n whole others rest more passed =
    omega (arith, ap length more, no_longer rules look p f b mid later others rest passed)
