-- Which nodes go nowhere.
use Rattle.std.proofs.Common.{◌≡◌, ℕ, ◌+◌, ◌-◌, Bool, true, false, ◌&&◌, ◌||◌, nat_eq, nat_lt, nat_le, if◌then◌else◌, List, [], ◌∷◌, ◌++◌, length, Option, Some, None, refl, sym, ap, ◌∙◌, subst, arith, option_and_then, option_map, ◌⊎◌, inl, inr}
use Rattle.std.specs.Prelude.{is_none, ◌==◌}
use Rattle.std.specs.List.{slice_get}
use Rattle.std.proofs.lemmas.Bool.Decides.{nat_tests}
use Rattle.at_model.specs.Trees.{Tree}
use Rattle.at_model.specs.Paths.{Node, children_at, tree_at, step_eq, is_within, parent_of}
use Rattle.at_model.specs.Edits.{children_of, moved_under, past_set, past_put, past_drop, past_insert, past_taking}
use Rattle.at_model.proofs.Options.{led}
use Rattle.at_model.proofs.of_edits.Conforming.{root_alone}
use Rattle.at_model.proofs.Nodes.{step_eq-sound}
use Rattle.at_model.proofs.WayUp.{snoc, parent_of-snoc}
use Rattle.at_model.proofs.of_edits.Moving.{Way}
use Rattle.at_model.proofs.of_edits.Ways.{same_some}

pub none_mapped : {A B : Type 0} (f : A → B) (o : Option A) → is_none (option_map f o) ≡ is_none o
none_mapped f None = refl
none_mapped f (Some a) = refl

and_one : (b : Bool) → b ≡ (b && true)
and_one true = refl
and_one false = refl

pub or_none : (b : Bool) → b ≡ (b || false)
or_none true = refl
or_none false = refl

-- a node goes nowhere exactly where it stands within the child whose step does
pub moved_out : (past : Way → Option Way) (s : Way) → ((r : Way) → is_none (past r) ≡ step_eq s r) → (p n : Node) → is_none (moved_under p past n) ≡ is_within (p ++ s ∷ []) n
moved_out past s h [] [] = refl
moved_out past s h [] (r ∷ rs) = none_mapped (λ (w : Way). w ∷ rs) (past r) ∙ h r ∙ and_one (step_eq s r)
moved_out past s h (a ∷ p) [] = refl
moved_out past s h (a ∷ p) (r ∷ rs) = by_step (step_eq a r) (moved_out past s h p rs)
  where
    by_step : (b : Bool) → is_none (moved_under p past rs) ≡ is_within (p ++ s ∷ []) rs → is_none (if b then option_map
        (λ (us : Node). r ∷ us) (moved_under p past rs) else Some (r ∷ rs)) ≡ (b && is_within (p ++ s ∷ []) rs)
    by_step true e = none_mapped (λ (us : Node). r ∷ us) (moved_under p past rs) ∙ e
    by_step false e = refl

pub none_moved_out : (past : Way → Option Way) → ((r : Way) → is_none (past r) ≡ false) → (p n : Node) → is_none (moved_under p past n) ≡ false
none_moved_out past h [] [] = refl
none_moved_out past h [] (r ∷ rs) = none_mapped (λ (w : Way). w ∷ rs) (past r) ∙ h r
none_moved_out past h (a ∷ p) [] = refl
none_moved_out past h (a ∷ p) (r ∷ rs) = by_step (step_eq a r) (none_moved_out past h p rs)
  where
    by_step : (b : Bool) → is_none (moved_under p past rs) ≡ false → is_none (if b then option_map (λ (us : Node). r ∷ us) (moved_under p past rs) else Some (r ∷ rs)) ≡ false
    by_step true e = none_mapped (λ (us : Node). r ∷ us) (moved_under p past rs) ∙ e
    by_step false e = refl

pub set_out : (s r : Way) → is_none (past_set s r) ≡ step_eq s r
set_out s r = by_test (step_eq s r)
  where
    by_test : (b : Bool) → is_none (if b then None else Some r) ≡ b
    by_test true = refl
    by_test false = refl

pub drop_out : (s r : Way) → is_none (past_drop s r) ≡ step_eq s r
drop_out s r = by_tests (step_eq s r) (nat_eq s.0 r.0 && nat_lt s.1 r.1)
  where
    by_tests : (b c : Bool) → is_none (if b then None else (if c then Some (r.0, r.1 - 1) else Some r)) ≡ b
    by_tests true c = refl
    by_tests false true = refl
    by_tests false false = refl

pub insert_out : (s r : Way) → is_none (past_insert s r) ≡ false
insert_out s r = by_test (nat_eq s.0 r.0 && nat_le s.1 r.1)
  where
    by_test : (b : Bool) → is_none (if b then Some (r.0, r.1 + 1) else Some r) ≡ false
    by_test true = refl
    by_test false = refl

-- where the optional is empty, no node stands in it
pub put_out : (part : ℕ) (p n : Node) (t v : Tree) → children_of t p part ≡ [] → tree_at t n ≡ Some v → is_none (moved_under p (past_put part) n) ≡ false
put_out part [] [] t v free found = refl
put_out part [] (r ∷ rs) t v free found = none_mapped (λ (w : Way). w ∷ rs) (past_put part r) ∙ by_part (nat_eq part r.0) refl
  where
    by_part : (b : Bool) → nat_eq part r.0 ≡ b → is_none (if b then None else Some r) ≡ false
    by_part false e = refl
    by_part true e =
        let same : part ≡ r.0 = grind (arith, nat_tests) in
        let (u, child, below) = led (λ x. tree_at x rs) (slice_get (children_at t r.0) r.1) v found in
        let none : children_at t r.0 ≡ [] = subst (λ (q : ℕ). children_at t q ≡ []) same free in
        let gone : None ≡ Some u = sym (ap (λ (xs : List Tree). slice_get xs r.1) none) ∙ child in absurd cc
put_out part (a ∷ p) [] t v free found = refl
put_out part (a ∷ p) (r ∷ rs) t v free found = by_step (step_eq a r) refl (put_out part p rs)
  where
    by_step : (b : Bool) → step_eq a r ≡ b → ((u w : Tree) → children_of u p part ≡ [] → tree_at u rs ≡ Some w
        → is_none (moved_under p (past_put part) rs) ≡ false) → is_none
        (if b then option_map (λ (us : Node). r ∷ us) (moved_under p (past_put part) rs) else Some (r ∷ rs)) ≡ false
    by_step false e more = refl
    by_step true e more =
        let (u, child, below) = led (λ x. tree_at x rs) (slice_get (children_at t r.0) r.1) v found in
        let same = step_eq-sound a r e in
        let child' : slice_get (children_at t a.0) a.1 ≡ Some u = subst (λ (s : Way). slice_get (children_at t s.0) s.1 ≡ Some u) (sym same) child in
        let free' : children_of u p part ≡ [] = sym (ap (λ (o : Option Tree). elim (option_and_then (λ x. tree_at x p) o) [ None ↦ [] | Some x ↦ children_at x part ]) child') ∙ free in
        none_mapped (λ (us : Node). r ∷ us) (moved_under p (past_put part) rs) ∙ more u v free' below

pub parent_is : (node : Node) (p : Node × Way) → parent_of node ≡ Some p → node ≡ p.0 ++ p.1 ∷ []
parent_is node p e = by_end (snoc node)
  where
    by_end : (node ≡ []) ⊎ ((m : Node) × (s : Way) × (node ≡ m ++ s ∷ [])) → node ≡ p.0 ++ p.1 ∷ []
    by_end (inl none) = let f : None ≡ Some p = sym (ap parent_of none) ∙ e in absurd cc
    by_end (inr (m, s, is)) =
        let f : Some (m, s) ≡ Some p = sym (ap parent_of is ∙ parent_of-snoc m s) ∙ e in
        let same = same_some {A = Node × Way} (m, s) p f in
        is ∙ ap (λ (x : Node × Way). x.0 ++ x.1 ∷ []) same

pub no_children : (xs : List Tree) → (length xs == 0) ≡ true → xs ≡ []
no_children [] e = refl
no_children (x ∷ xs) e = let f : length (x ∷ xs) ≡ 0 = grind (arith, nat_tests) in absurd cc

pub around : (o : Option (Node × Way)) (f : Node × Way → Bool) → ((p : Node × Way) → f p ≡ false) → elim o [ None ↦ false | Some p ↦ f p ] ≡ false
around None f h = refl
around (Some p) f h = h p

pub at_set : (node n : Node) (o : Option (Node × Way)) → parent_of node ≡ o → is_none (elim o [ None ↦ None | Some p ↦ moved_under p.0 (past_set p.1) n ]) ≡ is_within node n
at_set node n None e = ap (λ (k : Node). is_within k n) (sym (root_alone node e))
at_set node n (Some p) e = moved_out (past_set p.1) p.1 (set_out p.1) p.0 n ∙ ap (λ (k : Node). is_within k n) (sym (parent_is node p e))

pub at_drop : (node n : Node) (o : Option (Node × Way)) → parent_of node ≡ o → is_none (elim o [ None ↦ None | Some p ↦ moved_under p.0 (past_drop p.1) n ]) ≡ is_within node n
at_drop node n None e = ap (λ (k : Node). is_within k n) (sym (root_alone node e))
at_drop node n (Some p) e = moved_out (past_drop p.1) p.1 (drop_out p.1) p.0 n ∙ ap (λ (k : Node). is_within k n) (sym (parent_is node p e))

-- a node goes nowhere when another is taken out exactly where it is that one or below it
pub out_taken : (node n : Node) → is_none (past_taking node n) ≡ is_within node n
out_taken node n = at_drop node n (parent_of node) refl
