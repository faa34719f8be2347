-- Steps in a loop: where those that are left lead, all of them do.
use Rattle.std.proofs.Common.{◌≡◌, ◌<◌, ◌+◌, ℕ, List, [], ◌∷◌, Option, Some, None, length, drop, get_or, option_and_then, suc, ap, refl, sym, ◌∙◌, subst, arith}
use Rattle.std.specs.List.{slice_get}
use Rattle.std.proofs.lemmas.List.{append-nil}
use Rattle.std.proofs.Math.Seq.{drop-cons}
use Rattle.at_model.specs.Classes.{Classes}
use Rattle.at_model.specs.Trees.{Tree, Node as branch, no_cells}
use Rattle.at_model.specs.Paths.{Node, Path, Step, step_in, tree_at}
use Rattle.at_store.specs.Numbers.{path_in, relabel}
use Rattle.at_store.specs.Memory.{Info, Keeps, class_in, kids_in}
use Rattle.at_store.specs.Led.{Led}
use Rattle.at_store.proofs.Walked.{walked_off, walked_on}

-- from the node of the number the steps lead to the other one, or nowhere
abbrev pub Leads : (ℕ → Option Info) → Classes → ℕ → Path → Option ℕ → Type 0
Leads memory classes k steps r = (s : Tree) (n : Node) (u : Tree) → Keeps memory s None → path_in k s ≡ Some n → tree_at s n ≡ Some u
    → Led s classes n (relabel (class_in memory) u) steps r

-- what is left leads from one number where all of the steps lead from the other
abbrev pub GoesBack : (ℕ → Option Info) → Classes → ℕ → Path → ℕ → Path → Type 0
GoesBack memory classes from all now left = (r : Option ℕ) → Leads memory classes now left r → Leads memory classes from all r

pub drop_next : {A : Type 0} (xs : List A) (i : ℕ) (x : A) → i < length xs → x ≡ get_or xs i x → drop i xs ≡ x ∷ drop (i + 1) xs
drop_next xs i x less is =
    let next : suc i ≡ i + 1 = omega arith in
    drop-cons xs i x less ∙ ap (λ y. y ∷ drop (suc i) xs) (sym is) ∙ ap (λ n. x ∷ drop n xs) next

pub arrived : (memory : ℕ → Option Info) (classes : Classes) (from now : ℕ) (all left : Path) → left ≡ [] → GoesBack memory classes from all now left → Leads memory classes from all (Some now)
arrived memory classes from now all left none back =
    back (Some now) (λ s n u h p is. subst (λ xs. Led s classes n (relabel (class_in memory) u) xs (Some now)) (sym none) ([], refl, p ∙ ap Some (sym (append-nil n))))

pub strode : (memory : ℕ → Option Info) (classes : Classes) (from now next : ℕ) (all left rest : Path) (step : Step) (o : Option ℕ) → left ≡ step ∷ rest
    → o ≡ option_and_then (λ way. slice_get (kids_in (memory now) way.0) way.1) (step_in classes (branch (class_in memory now) no_cells) step)
    → o ≡ Some next → GoesBack memory classes from all now left → GoesBack memory classes from all next rest
strode memory classes from now next all left rest step o split e some back =
    λ r led. back r (λ s n u h p is. walked_on memory s h classes now next n u step rest left o r p is split e some (λ m y found at'. led s m y h found at'))

pub lost : (memory : ℕ → Option Info) (classes : Classes) (from now : ℕ) (all left rest : Path) (step : Step) (o r : Option ℕ) → left ≡ step ∷ rest
    → o ≡ option_and_then (λ way. slice_get (kids_in (memory now) way.0) way.1) (step_in classes (branch (class_in memory now) no_cells) step)
    → o ≡ None → r ≡ None → GoesBack memory classes from all now left → Leads memory classes from all r
lost memory classes from now all left rest step o r split e none off back =
    back r (λ s n u h p is. walked_off memory s h classes now n u step rest left o r p is split e none off)
