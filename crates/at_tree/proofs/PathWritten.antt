-- What has been written of a path.
use Rattle.std.proofs.Common.{◌≡◌, ℕ, ◌+◌, ◌<◌, ◌≤◌, List, [], ◌∷◌, ◌++◌, length, take, drop, get_or, refl, ap, sym, ◌∙◌, append_assoc, append-nil, arith, take_all, add-one, Result, Ok, Err}
use Rattle.std.specs.Result.{OnErr}
use Rattle.std.specs.List.{flat_map}
use Rattle.std.proofs.Math.Seq.{take-suc, take-append_seam}
use Rattle.std.proofs.lemmas.List.{map-append, take-append-drop}
use Rattle.std.proofs.lemmas.Grind.{flat_map-append}
use Rattle.at_model.specs.Paths.{path_text, step_text}
use Rattle.at_tree.specs.PathView.{step_view, steps_view}
use Rattle.at_tree.specs.declared.path.Step.{Step as StepValue}

-- the texts of the steps
abbrev pub steps_text : List StepValue → List ℕ
steps_text ss = flat_map step_text (steps_view ss)

pub steps_more : (ss : List StepValue) (i : ℕ) (s : StepValue) → i < length ss → s ≡ get_or ss i s → steps_text (take (i + 1) ss) ≡ steps_text (take i ss) ++ step_text (step_view s)
steps_more ss i s less is =
    let e : take (i + 1) ss ≡ take i ss ++ s ∷ [] = rw (add-one, take-suc ss i s less, ← is) refl in
    rw (e, map-append step_view (take i ss) (s ∷ []), flat_map-append step_text (steps_view (take i ss)) (step_view s ∷ [])) (simp append-nil)

pub text_of_steps : (ss : List StepValue) (n : ℕ) → 0 < length ss → length ss ≤ n → steps_text (take n ss) ≡ path_text (steps_view ss)
text_of_steps [] n some most = absurd (omega arith)
text_of_steps (s ∷ ss) n some most = rw (take_all n (s ∷ ss) most) refl

-- what was kept of a longer text is kept of its front
pub keeps_front : (old mid new more : List ℕ) → mid ≡ old ++ more → take (length mid) new ≡ mid → take (length old) new ≡ old
keeps_front old mid new more e f =
    let split : new ≡ old ++ (more ++ drop (length mid) new) = sym (take-append-drop (length mid) new) ∙ ap (λ y. y ++ drop (length mid) new) (f ∙ e) ∙ append_assoc old more _ in
    ap (take (length old)) split ∙ take-append_seam old _

pub on_err : {A E : Type 0} {P : Type 0} (r : Result A E) → P → OnErr r P
on_err (Ok a) p = tt
on_err (Err e) p = p
