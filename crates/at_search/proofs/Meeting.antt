-- A search for the first fault, step by step.
use Rattle.std.proofs.Common.{◌≡◌, ◌⊎◌, ℕ, Bool, true, false, ◌||◌, List, [], ◌∷◌, ◌++◌, Option, Some, None, inl, inr, refl, sym, subst, ◌∙◌, ap, true≢false}
use Rattle.std.specs.Prelude.{IfSome}
use Rattle.at_search.specs.declared.search.Search.{Search}
use Rattle.at_model.specs.Run.{Instance, Contents, FaultKind}
use Rattle.at_model.specs.Meaning.{Among}
use Rattle.at_model.specs.of_fixpoints.Formulas.{Formula, atoms, Forms}
use Rattle.at_model.specs.of_fixpoints.Fixpoints.{End, Made, Spoilt, Meets, again, formed, spoilt, EndsSo}
use Rattle.at_model.specs.of_fixpoints.Searching.{asked_in}
use Rattle.at_model.specs.of_fixpoints.Searched.{IsMade, AreClosed, IsWhole}
use Rattle.at_model.proofs.of_searching.Thinning.{IsTold}
use Rattle.at_model.proofs.of_searching.PassedFaults.{IsFormed, meets_past}
use Rattle.at_model.proofs.of_searching.PassedCircles.{ends_one}
use Rattle.at_body.specs.Same.{same_instance}
use Rattle.at_body.specs.Values.{fault_view}
use Rattle.at_search.specs.declared.ended.Ending.{Ending}
use Rattle.at_search.specs.declared.ended.Ending.TheVariants as ending
use Rattle.at_search.specs.declared.ended.Fault.{Fault}
use Rattle.at_search.specs.Recorded.{HasLooked, HasMetFirst, HasMetIn, MetFrom, copied_from, end_of, is_in, seen_by, todo_of}
use Rattle.at_search.proofs.Working.{is_there, is_out}
use Rattle.at_search.proofs.Sameness.{same_refl}

or_true : (b : Bool) → (b || true) ≡ true
or_true true = refl
or_true false = refl

is_among : (js : List (Instance ℕ)) (i : Instance ℕ) → Among i js → is_in js i ≡ true
is_among [] i h = absurd h
is_among (j ∷ js) i (inl e) =
    ap (λ z. same_instance i z || is_in js i) (sym e) ∙ ap (λ b. b || is_in js i) (same_refl i)
is_among (j ∷ js) i (inr h) = ap (λ b. same_instance i j || b) (is_among js i h) ∙ or_true (same_instance i j)

-- whether an instance is one of a list can be told
pub told : IsTold (Instance ℕ)
told i js = by (is_in js i) refl
  where
    by : (b : Bool) → is_in js i ≡ b → Among i js ⊎ (¬ (Among i js))
    by true e = inl (is_there js i e)
    by false e = inr (λ h. true≢false (sym (is_among js i h) ∙ e))

module _ (look : Contents ℕ) (forms : Forms ℕ) where
  -- what is whole has formulas alone
  pub formed_of : (W : List (Instance ℕ)) → AreClosed (EndsSo look forms) IsMade W → IsFormed (EndsSo look forms) W
  formed_of W c j h = let x = c j h in made x.end x.ends x.good x.next
    where
      made : (e : End ℕ (Formula ℕ)) → EndsSo look forms j e → IsMade e → ((k : Instance ℕ) → Among k (asked_in e) → Among k W) →
          (f : Formula ℕ) × EndsSo look forms j (Made f) × ((k : Instance ℕ) → Among k (atoms f) → Among k W)
      made (Made f) y g n = (f, y, n)
      made (Spoilt k at) y g n = absurd g

  -- the next one was seen, or is whole
  pub passes : (root : Instance ℕ) (seen todo : List (Instance ℕ)) (k : Instance ℕ) (o : Option Fault) →
      MetFrom look forms root seen (k ∷ todo) o → Among k seen ⊎ IsWhole look forms k → MetFrom look forms root seen todo o
  passes root seen todo k (Some f) m p = m
  passes root seen todo k None m p = λ kind at x. m kind at (elim p [
    | inl a ↦ again k a x
    | inr (W, w, h) ↦ meets_past (EndsSo look forms) (ends_one look forms) told W (formed_of W w) k seen todo h x
  ])

  -- the next one is seen
  pub sees : (root : Instance ℕ) (seen todo : List (Instance ℕ)) (k : Instance ℕ) (e : Ending) (old new : Option Fault) →
      MetFrom look forms root seen (k ∷ todo) old → (¬ (Among k seen)) → EndsSo look forms k (end_of e) → HasMetIn e old new →
      MetFrom look forms root (k ∷ seen) (asked_in (end_of e) ++ todo) new
  sees root seen todo k (ending.Formed f) None new m n x h =
      subst (λ z. MetFrom look forms root (k ∷ seen) (atoms f.formula ++ todo) z) (sym h)
      (λ kind at y. m kind at (formed k f.formula n x y))
  sees root seen todo k (ending.Formed f) (Some g) new m n x h =
      subst (λ z. MetFrom look forms root (k ∷ seen) (atoms f.formula ++ todo) z) (sym h) m
  sees root seen todo k (ending.Spoilt s) None new m n x (g, h, (kinds, ats)) =
      subst (λ z. MetFrom look forms root (k ∷ seen) todo z) (sym h)
      (subst (λ z. Meets (EndsSo look forms) [] (root ∷ []) (fault_view z) g.at) (sym kinds)
      (subst (λ z. Meets (EndsSo look forms) [] (root ∷ []) (fault_view s.kind) z) (sym ats)
      (m (fault_view s.kind) s.at (spoilt k n x))))
  sees root seen todo k (ending.Spoilt s) (Some g) new m n x h =
      subst (λ z. MetFrom look forms root (k ∷ seen) todo z) (sym h) m

  -- as it begins
  pub begins : (root : Instance ℕ) → MetFrom look forms root [] (root ∷ []) None
  begins root = λ kind at x. x

  -- the fault that was met, if one was
  pub ends : (root : Instance ℕ) (seen todo : List (Instance ℕ)) (o : Option Fault) → MetFrom look forms root seen todo o →
      IfSome o (λ f. Meets (EndsSo look forms) [] (root ∷ []) (fault_view f.kind) f.at)
  ends root seen todo None m = tt
  ends root seen todo (Some f) m = m

  -- the next one is seen, and the lists are what they come to
  pub sees_to : (root : Instance ℕ) (seen todo seen' todo' : List (Instance ℕ)) (k : Instance ℕ) (e : Ending) (old new : Option Fault) →
      MetFrom look forms root seen (k ∷ todo) old → (¬ (Among k seen)) → EndsSo look forms k (end_of e) → HasMetIn e old new →
      seen' ≡ k ∷ seen → todo' ≡ asked_in (end_of e) ++ todo → MetFrom look forms root seen' todo' new
  sees_to root seen todo seen' todo' k e old new m n x h es et =
      subst (λ z. MetFrom look forms root z todo' new) (sym es) (subst (λ z. MetFrom look forms root (k ∷ seen) z new) (sym et)
      (sees root seen todo k e old new m n x h))

  -- as it begins, where the lists are so
  pub begins_at : (root : Instance ℕ) (seen todo : List (Instance ℕ)) (o : Option Fault) → seen ≡ [] → todo ≡ root ∷ [] → o ≡ None →
      MetFrom look forms root seen todo o
  begins_at root seen todo o es et eo =
      subst (λ z. MetFrom look forms root z todo o) (sym es) (subst (λ z. MetFrom look forms root [] z o) (sym et)
      (subst (λ z. MetFrom look forms root [] (root ∷ []) z) (sym eo) (begins root)))

  -- the next one is taken off
  pub steps_to : (root : Instance ℕ) (seen seen' todo rest : List (Instance ℕ)) (k : Instance ℕ) (o p : Option Fault) → seen' ≡ seen →
      todo ≡ k ∷ rest → p ≡ o → MetFrom look forms root seen todo o → MetFrom look forms root seen' (k ∷ rest) p
  steps_to root seen seen' todo rest k o p es et eo m =
      subst (λ z. MetFrom look forms root z (k ∷ rest) p) (sym es) (subst (λ z. MetFrom look forms root seen z p) et
      (subst (λ z. MetFrom look forms root seen todo z) (sym eo) m))

  -- the equation had ended
  pub looked : (root : Instance ℕ) (s : Search) (b : Bool) → b ≡ true → HasLooked look forms root s b →
      MetFrom look forms root (seen_by s) (todo_of s) s.fault
  looked root s true e h = h
  looked root s false e h = absurd (true≢false (sym e))

  -- what is taken out is the fault
  pub taken : (root : Instance ℕ) (seen todo : List (Instance ℕ)) (o p : Option Fault) → p ≡ o → MetFrom look forms root seen todo o →
      IfSome p (λ f. Meets (EndsSo look forms) [] (root ∷ []) (fault_view f.kind) f.at)
  taken root seen todo o p e m = ends root seen todo p (subst (λ z. MetFrom look forms root seen todo z) (sym e) m)
