-- A line is refused for the first reason that there is.
use Rattle.std.proofs.Common.{◌≡◌, ◌⊎◌, ℕ, suc, ◌<◌, ◌≤◌, inl, inr, Bool, true, false, not, ◌||◌, ◌&&◌, if◌then◌else◌, List, [], ◌∷◌, ◌++◌, length, map, Option, Some, None, Result, Ok, Err, refl, sym, ap, ◌∙◌, subst, arith}
use Rattle.std.specs.Prelude.{nat_eq, nat_lt, nat_le, count_by, option_map, option_and_then, is_some, IsSome}
use Rattle.std.specs.List.{slice_get, list_any, list_all, flat_map}
use Rattle.std.proofs.lemmas.Bool.Decides.{nat_tests}
use Rattle.at_model.specs.Classes.{Classes, Shape}
use Rattle.at_model.specs.Trees.{Tree, class_of, nodes}
use Rattle.at_model.specs.Trees as tree
use Rattle.at_model.specs.Terms.{Term}
use Rattle.at_model.specs.Paths.{Path, Node, tree_at, node_at, children_at, step_in}
use Rattle.at_model.specs.Run.{Value, Instance}
use Rattle.at_model.specs.Run as run
use Rattle.at_model.specs.Rules.{Rules, attribute_asked}
use Rattle.at_model.specs.Meaning.{Among}
use Rattle.at_model.specs.Edits.{Edit, Refusal, edited, edited_within, left_by, has_component, shape_at, class_asked, list_class, optional_class, token_kind}
use Rattle.at_model.specs.Edits as edit
use Rattle.at_model.specs.Shaping.{names_classes, shaped}
use Rattle.at_model.specs.Effects.{component_named}
use Rattle.at_model.specs.Lines.{Line, Place, From_root, From_mark, Argument, Text, Int, Truth, Ref, Null, Command, Ask, Set, Put, Drop, Insert, Token, Move, Show, Mark, Unmark, Where, Version, Post, Wait, last_version, last_post}
use Rattle.at_model.specs.Replies.{Code}
use Rattle.at_model.specs.Replies as code
use Rattle.at_model.specs.Replies.{Written, At}
use Rattle.at_model.specs.Machine.{State, Posted, Verdict, Refuses, Leaves, Edits, Asks, Posts, Waits, marked, is_marked, marks_used, node_named, node_below, value_named, each, suit, is_read, is_posted, code_of, max_marks, max_posted, is_edit, is_stale, changed, with_component, with_tree, obeyed, verdict}
use Rattle.at_model.specs.Refusing.{number, rank, Breaks, places_in, Asked, component_asked, term_in, shape_named, HasComponent, class_for, tree_for, meant, attribute_at, ExpectsOther, IsRefusedAs, IsTooLarge, IsPastLast, MarksAgain, MarksTooMany, PostsTooMany, AsksNone, AsksAmiss, WaitsForNone, Applies}
use Rattle.at_model.proofs.Options.{led, mapped, both, either_true, or_right}
use Rattle.at_model.proofs.of_edits.Untouched.{tree_at-append}
use Rattle.at_model.proofs.Chained.{nat_same}
use Rattle.at_model.proofs.FirstGiven.{off_on}
use Rattle.at_model.proofs.GrammarKept.{off_not}
use Rattle.at_model.proofs.EditRefused.{first_refused, none_refused}
use Rattle.at_model.proofs.of_edits.Larger.{within_edited, why_refused}

none_some : {A : Type 0} (o : Option A) (a : A) → o ≡ None → o ≡ Some a → ⊥
none_some None a e f = absurd cc
none_some (Some b) a e f = absurd cc

-- where each comes to a value there are as many values
as_many : {A B : Type 0} (f : A → Option B) (as' : List A) (bs : List B) → each (map f as') ≡ Some bs → length bs ≡ length as'
as_many f [] [] e = refl
as_many f [] (b ∷ bs) e = absurd cc
as_many {A} {B} f (a ∷ as') bs e = by (f a) (each (map f as')) (as_many f as') e
  where
    by : (o : Option B) (p : Option (List B)) → ((cs : List B) → p ≡ Some cs → length cs ≡ length as')
        → option_and_then (λ c. option_map (λ cs. c ∷ cs) p) o ≡ Some bs → length bs ≡ suc (length as')
    by None p more g = absurd cc
    by (Some c) None more g = absurd cc
    by (Some c) (Some cs) more g =
        let same : c ∷ cs ≡ bs = cc in
        sym (ap length same) ∙ ap suc (more cs refl)

past_twelve : (r : Refusal) → 12 < rank r → ⊥
past_twelve edit.Component l = omega (arith, l)
past_twelve edit.Fit l = omega (arith, l)
past_twelve edit.Index l = omega (arith, l)
past_twelve edit.Taken l = omega (arith, l)
past_twelve edit.Fixed l = omega (arith, l)
past_twelve edit.Inside l = omega (arith, l)
past_twelve edit.Limit l = omega (arith, l)

past_itself : (n : ℕ) → n < n → ⊥
past_itself n l = omega (arith, l)

-- a place leads to a node of the tree
step_there : (t : Tree) (a b : Node) (v : Tree) → a ≡ b → tree_at t a ≡ Some v → (w : Tree) × (tree_at t b ≡ Some w)
step_there t a b v e found = (v, ap (tree_at t) (sym e) ∙ found)

step_leads : (t : Tree) (s : ℕ × ℕ) (ss : Node) (u v : Tree) → slice_get (children_at t s.0) s.1 ≡ Some u → tree_at u ss ≡ Some v → tree_at t (s ∷ ss) ≡ Some v
step_leads t s ss u v child found = ap (option_and_then (λ x. tree_at x ss)) child ∙ found

path_there : (classes : Classes) (t : Tree) (path : Path) (n : Node) → node_at classes t path ≡ Some n → (u : Tree) × (tree_at t n ≡ Some u)
path_there classes t [] n e = let f : [] ≡ n = cc in step_there t [] n t f refl
path_there classes t (p ∷ ps) n e =
    let (way, step, f) = led (λ way. option_and_then (λ u. option_map (λ ways. way ∷ ways) (node_at classes u ps)) (slice_get (children_at t way.0) way.1)) (step_in classes t p) n e in
    let (u, child, g) = led (λ u. option_map (λ ways. way ∷ ways) (node_at classes u ps)) (slice_get (children_at t way.0) way.1) n f in
    let (ways, rest, h) = mapped (λ (ways : Node). way ∷ ways) (node_at classes u ps) n g in
    let (v, found) = path_there classes u ps ways rest in
    step_there t (way ∷ ways) n v h (step_leads t way ways u v child found)

place_there : (classes : Classes) (s : State) (session : ℕ) (place : Place) (n : Node) → node_named classes s session place ≡ Some n → (u : Tree) × (tree_at s.tree n ≡ Some u)
place_there classes s session (From_root path) n e = path_there classes s.tree path n e
place_there classes s session (From_mark name steps) n e =
    let (k, mark, f) = led (node_below classes s.tree steps) (marked s.marks session name) n e in
    let (u, found, g) = led (λ u. option_map (λ ss. k ++ ss) (node_at classes u steps)) (tree_at s.tree k) n f in
    let (ss, rest, h) = mapped (λ (ss : Node). k ++ ss) (node_at classes u steps) n g in
    let (v, below) = path_there classes u steps ss rest in
    step_there s.tree (k ++ ss) n v h (tree_at-append s.tree k ss ∙ ap (option_and_then (λ x. tree_at x ss)) found ∙ below)

module _ (rules : Rules) (s : State) (session : ℕ) (expected : Option ℕ) (fresh : ExpectsOther expected s.version → ⊥) where
  abbrev line : Command → Line
  line c = record { session = session; expected = expected; command = c }

  -- there is that reason, and none that comes before
  abbrev IsFirst : Command → Code → Type 0
  IsFirst c d = Applies rules s (line c) d × ((e : Code) → number e < number d → Applies rules s (line c) e → ⊥)

  abbrev Isnt : Command → Code → Type 0
  Isnt c d = Applies rules s (line c) d → ⊥

  -- it can be read, and the marks that it uses are there
  abbrev Begins : Command → Type 0
  Begins c = Isnt c code.Mark × (is_read rules c ≡ true)

  -- whatever the verdict refuses the command for is the first reason, and where it doesn't refuse it there is none
  abbrev Firstly : Command → Verdict → Type 0
  Firstly c v = ((d : Code) → v ≡ Refuses d → IsFirst c d) × (((d : Code) → v ≡ Refuses d → ⊥) → (d : Code) → Isnt c d)

  none_before : (c : Command) (n : ℕ) → Begins c → (4 < n → Isnt c code.Path) → (5 < n → Isnt c code.Component)
      → (6 < n → Isnt c code.Class) → (7 < n → Isnt c code.Fit) → (8 < n → Isnt c code.Index)
      → (9 < n → Isnt c code.Taken) → (10 < n → Isnt c code.Fixed) → (11 < n → Isnt c code.Inside)
      → (12 < n → Isnt c code.Limit) → (13 < n → Isnt c code.Attribute) → (14 < n → Isnt c code.Arguments) → n ≤ 15
      → (e : Code) → number e < n → Isnt c e
  none_before c n mk pa co cl fi ix ta fx ins li at ar m code.Syntax l x = off_on (is_read rules c) x mk.1
  none_before c n mk pa co cl fi ix ta fx ins li at ar m (code.Stale v) l x = fresh x.0
  none_before c n mk pa co cl fi ix ta fx ins li at ar m code.Mark l x = mk.0 x
  none_before c n mk pa co cl fi ix ta fx ins li at ar m code.Path l x = pa l x
  none_before c n mk pa co cl fi ix ta fx ins li at ar m code.Component l x = co l x
  none_before c n mk pa co cl fi ix ta fx ins li at ar m code.Class l x = cl l x
  none_before c n mk pa co cl fi ix ta fx ins li at ar m code.Fit l x = fi l x
  none_before c n mk pa co cl fi ix ta fx ins li at ar m code.Index l x = ix l x
  none_before c n mk pa co cl fi ix ta fx ins li at ar m code.Taken l x = ta l x
  none_before c n mk pa co cl fi ix ta fx ins li at ar m code.Fixed l x = fx l x
  none_before c n mk pa co cl fi ix ta fx ins li at ar m code.Inside l x = ins l x
  none_before c n mk pa co cl fi ix ta fx ins li at ar m code.Limit l x = li l x
  none_before c n mk pa co cl fi ix ta fx ins li at ar m code.Attribute l x = at l x
  none_before c n mk pa co cl fi ix ta fx ins li at ar m code.Arguments l x = ar l x
  none_before c n mk pa co cl fi ix ta fx ins li at ar m code.Question l x = absurd (omega (arith, l, m))

  told : (c : Command) (d : Code) → IsFirst c d → Firstly c (Refuses d)
  told c d h = (λ e f. let same : d ≡ e = cc in subst (IsFirst c) same h, λ no. absurd (no d refl))

  -- none of the fifteen
  every : (c : Command) → ((e : Code) → number e < 15 → Isnt c e) → Isnt c code.Question → (d : Code) → Isnt c d
  every c h q code.Syntax = h code.Syntax (omega arith)
  every c h q (code.Stale v) = h (code.Stale v) (omega arith)
  every c h q code.Mark = h code.Mark (omega arith)
  every c h q code.Path = h code.Path (omega arith)
  every c h q code.Component = h code.Component (omega arith)
  every c h q code.Class = h code.Class (omega arith)
  every c h q code.Fit = h code.Fit (omega arith)
  every c h q code.Index = h code.Index (omega arith)
  every c h q code.Taken = h code.Taken (omega arith)
  every c h q code.Fixed = h code.Fixed (omega arith)
  every c h q code.Inside = h code.Inside (omega arith)
  every c h q code.Limit = h code.Limit (omega arith)
  every c h q code.Attribute = h code.Attribute (omega arith)
  every c h q code.Arguments = h code.Arguments (omega arith)
  every c h q code.Question = q

  stage : (c : Command) {A : Type 0} (o : Option A) (d : Code) (k : A → Verdict) → (o ≡ None → IsFirst c d)
      → ((a : A) → o ≡ Some a → Firstly c (k a)) → Firstly c (elim o [ None ↦ Refuses d | Some a ↦ k a ])
  stage c None d k f g = told c d (f refl)
  stage c (Some a) d k f g = g a refl

  module _ (c : Command) (mk : Begins c) where
    first_path : Applies rules s (line c) code.Path → IsFirst c code.Path
    first_path x = (
      x,
      none_before c 4 mk (λ l. absurd (omega (arith, l))) (λ l. absurd (omega (arith, l)))
          (λ l. absurd (omega (arith, l))) (λ l. absurd (omega (arith, l))) (λ l. absurd (omega (arith, l)))
          (λ l. absurd (omega (arith, l))) (λ l. absurd (omega (arith, l))) (λ l. absurd (omega (arith, l))) (λ l.
          absurd (omega (arith, l))) (λ l. absurd (omega (arith, l))) (λ l. absurd (omega (arith, l))) (omega arith),
    )

    first_component : Isnt c code.Path → Applies rules s (line c) code.Component → IsFirst c code.Component
    first_component pa x = (
      x,
      none_before c 5 mk (λ l. pa) (λ l. absurd (omega (arith, l)))
          (λ l. absurd (omega (arith, l))) (λ l. absurd (omega (arith, l))) (λ l. absurd (omega (arith, l)))
          (λ l. absurd (omega (arith, l))) (λ l. absurd (omega (arith, l))) (λ l. absurd (omega (arith, l))) (λ l.
          absurd (omega (arith, l))) (λ l. absurd (omega (arith, l))) (λ l. absurd (omega (arith, l))) (omega arith),
    )

    first_class : Isnt c code.Path → Isnt c code.Component → Applies rules s (line c) code.Class → IsFirst c code.Class
    first_class pa co x = (
      x,
      none_before c 6 mk (λ l. pa) (λ l. co) (λ l. absurd (omega (arith, l)))
          (λ l. absurd (omega (arith, l))) (λ l. absurd (omega (arith, l))) (λ l. absurd (omega (arith, l)))
          (λ l. absurd (omega (arith, l))) (λ l. absurd (omega (arith, l))) (λ l. absurd (omega (arith, l)))
          (λ l. absurd (omega (arith, l))) (λ l. absurd (omega (arith, l))) (omega arith),
    )

    first_fit : Isnt c code.Path → Isnt c code.Component → Isnt c code.Class → Applies rules s (line c) code.Fit → IsFirst c code.Fit
    first_fit pa co cl x = (
      x,
      none_before c 7 mk (λ l. pa) (λ l. co) (λ l. cl) (λ l. absurd (omega (arith, l)))
          (λ l. absurd (omega (arith, l))) (λ l. absurd (omega (arith, l))) (λ l. absurd (omega (arith, l)))
          (λ l. absurd (omega (arith, l))) (λ l. absurd (omega (arith, l))) (λ l. absurd (omega (arith, l)))
          (λ l. absurd (omega (arith, l))) (omega arith),
    )

    -- the term is no tree of the class that is asked
    abbrev IsNoTree : Type 0
    IsNoTree = (t : Term) × (term_in c ≡ Some t) × (tree_for rules.classes s session c ≡ None)

    -- an edit whose words are there, and that has the component which it needs
    module _ (e : Edit) (means : meant rules.classes s session c ≡ Some e) (edits : is_edit c ≡ true) (has : has_component rules.classes s.tree e ≡ true)
        (pa : Isnt c code.Path) (co : Isnt c code.Component) (cl : Isnt c code.Class) (tr : IsNoTree → ⊥) where
      not_again : MarksAgain s (line c) → ⊥
      not_again (name, place, is, x) = off_on false refl (sym (ap is_edit is) ∙ edits)

      not_asked : AsksNone rules s (line c) → ⊥
      not_asked x = off_on false refl (sym (ap is_edit x.asks) ∙ edits)

      not_amiss : AsksAmiss rules s (line c) → ⊥
      not_amiss x = off_on false refl (sym (ap is_edit x.asks) ∙ edits)

      not_this : (r : Refusal) → (Breaks rules.classes s.tree e r → ⊥) → IsRefusedAs rules s (line c) r → ⊥
      not_this r h (f, m, b) =
          let x : Some f ≡ Some e = sym m ∙ means in
          let same : f ≡ e = cc in
          h (subst (λ z. Breaks rules.classes s.tree z r) same b)

      not_many : MarksTooMany s (line c) ⊎ PostsTooMany s (line c) → ⊥
      not_many (inl (name, place, is, x)) = off_on false refl (sym (ap is_edit is) ∙ edits)
      not_many (inr (place, name, arguments, is, x)) = off_on false refl (sym (ap is_edit is) ∙ edits)

      not_waiting : WaitsForNone s (line c) → ⊥
      not_waiting (which, is, x) = off_on false refl (sym (ap is_edit is) ∙ edits)

      not_large : nat_le (nodes (left_by s.tree e)) s.limit ≡ true → IsTooLarge rules s (line c) → ⊥
      not_large few (f, m, b) =
          let x : Some f ≡ Some e = sym m ∙ means in
          let same : f ≡ e = cc in
          off_on (nat_le (nodes (left_by s.tree e)) s.limit) (subst (λ z. nat_le (nodes (left_by s.tree z)) s.limit ≡ false) same b) few

      nothing : ((q : Refusal) → Breaks rules.classes s.tree e q → ⊥) →
          nat_le (nodes (left_by s.tree e)) s.limit ≡ true → (s.version ≡ last_version → ⊥) → (d : Code) → Isnt c d
      nothing h few version = every c
          (none_before c 15 mk (λ l. pa) (λ l. co) (λ l. cl) (λ l x. elim x [ inl y ↦ tr y | inr y ↦ not_this edit.Fit (h edit.Fit) y ])
          (λ l. not_this edit.Index (h edit.Index))
          (λ l x. elim x [ inl y ↦ not_this edit.Taken (h edit.Taken) y | inr y ↦ not_again y ])
          (λ l. not_this edit.Fixed (h edit.Fixed))
          (λ l. not_this edit.Inside (h edit.Inside))
          (λ l x. elim x [
            | inl y ↦ not_this edit.Limit (h edit.Limit) y
            | inr (inl (inl y)) ↦ not_large few y
            | inr (inl (inr y)) ↦ version y.2
            | inr (inr y) ↦ not_many y
          ])
          (λ l. not_asked)
          (λ l. not_amiss)
          (omega arith))
          not_waiting

      earlier : (n : ℕ) → (12 < n → ⊥) → ((q : Refusal) → rank q < n → Breaks rules.classes s.tree e q → ⊥) → (d : Code) → number d < n → Isnt c d
      earlier n few before = none_before c n mk (λ l. pa) (λ l. co) (λ l. cl) (λ l x. elim x [ inl y ↦ tr y | inr y ↦ not_this edit.Fit (before edit.Fit l) y ])
          (λ l. not_this edit.Index (before edit.Index l))
          (λ l x. elim x [ inl y ↦ not_this edit.Taken (before edit.Taken l) y | inr y ↦ not_again y ])
          (λ l. not_this edit.Fixed (before edit.Fixed l))
          (λ l. not_this edit.Inside (before edit.Inside l))
          (λ l x. few l)
          (λ l x. not_asked x)
          (λ l x. not_amiss x)
          (at_most n few)
        where
          at_most : (n : ℕ) → (12 < n → ⊥) → n ≤ 15
          at_most n few = by_test (nat_lt 12 n) refl
            where
              by_test : (b : Bool) → nat_lt 12 n ≡ b → n ≤ 15
              by_test true f = absurd (few (grind (arith, nat_tests)))
              by_test false f = let less : n ≤ 12 = grind (arith, nat_tests) in omega (arith, less)

      applies : (r : Refusal) → Breaks rules.classes s.tree e r → Applies rules s (line c) (code_of r)
      applies edit.Component b = absurd (off_on (has_component rules.classes s.tree e) b has)
      applies edit.Fit b = inr (e, means, b)
      applies edit.Index b = (e, means, b)
      applies edit.Taken b = inl (e, means, b)
      applies edit.Fixed b = (e, means, b)
      applies edit.Inside b = (e, means, b)
      applies edit.Limit b = inl (e, means, b)

      by_last : (u : Tree) → nat_le (nodes (left_by s.tree e)) s.limit ≡ true →
          ((q : Refusal) → Breaks rules.classes s.tree e q → ⊥) → (b : Bool) →
          nat_eq s.version last_version ≡ b → Firstly c (if b then Refuses code.Limit else Edits e u)
      by_last u few none true g =
          told c code.Limit (inr (inl (inr (e, means, nat_same s.version last_version g))), earlier 12 (past_itself 12) (λ q l. none q))
      by_last u few none false g =
          (λ d h. absurd cc, λ no. nothing none few (λ same. off_on (nat_eq s.version last_version) g (grind (arith, nat_tests))))

      -- the edit is refused as it is anyhow, or leaves too many nodes
      by_reason : (r : Refusal) →
          (edited rules.classes s.tree e ≡ Err r) ⊎ ((u : Tree) × (r ≡ edit.Limit) × (edited rules.classes s.tree e ≡ Ok u) × (nat_le (nodes u) s.limit ≡ false)) →
          Firstly c (Refuses (code_of r))
      by_reason r (inl f) =
          let (b, before) = first_refused rules.classes s.tree e r f in told c (code_of r) (applies r b, earlier (rank r) (past_twelve r) before)
      by_reason r (inr (u, limit, made, many)) =
          let (none, left) = none_refused rules.classes s.tree e u made in
          let large = ap (λ (x : Tree). nat_le (nodes x) s.limit) left ∙ many in
          subst (λ (x : Refusal). Firstly c (Refuses (code_of x))) (sym limit)
          (told c code.Limit (inr (inl (inl (e, means, large))), earlier 12 (past_itself 12) (λ q l. none q)))

      at_version : (u : Tree) → edited_within s.limit rules.classes s.tree e ≡ Ok u → (b : Bool) →
          nat_eq s.version last_version ≡ b →
          Firstly c (if b then Refuses code.Limit else Edits e u)
      at_version u f b g =
          let (made, small) = within_edited s.limit rules.classes s.tree e u f in
          let (none, left) = none_refused rules.classes s.tree e u made in
          let few = ap (λ (x : Tree). nat_le (nodes x) s.limit) left ∙ small in
          by_last u few none b g

      by_result : (r : Result Tree Refusal) → edited_within s.limit rules.classes s.tree e ≡ r →
          Firstly c (elim r [ Err refusal ↦ Refuses (code_of refusal) | Ok t ↦ if nat_eq s.version last_version then Refuses code.Limit else Edits e t ])
      by_result (Err r) f = by_reason r (why_refused s.limit rules.classes s.tree e r f)
      by_result (Ok u) f = at_version u f (nat_eq s.version last_version) refl

      edit_stage : Firstly c (changed rules.classes s e)
      edit_stage = by_result (edited_within s.limit rules.classes s.tree e) refl

  -- what commands name --------------------------------------------------------------------------------------------------

  one_place : (place : Place) (n : Node) → node_named rules.classes s session place ≡ Some n → (p : Place) × Among p (place ∷ []) × (node_named rules.classes s session p ≡ None) → ⊥
  one_place place n named (p, inl same, none) = none_some (node_named rules.classes s session place) n (subst (λ z. node_named rules.classes s session z ≡ None) same none) named
  one_place place n named (p, inr x, none) = x

  two_places : (place to : Place) (n m : Node) → node_named rules.classes s session place ≡ Some n
      → node_named rules.classes s session to ≡ Some m
      → (p : Place) × Among p (place ∷ to ∷ []) × (node_named rules.classes s session p ≡ None) → ⊥
  two_places place to n m named other (p, inl same, none) = none_some (node_named rules.classes s session place) n (subst (λ z. node_named rules.classes s session z ≡ None) same none) named
  two_places place to n m named other (p, inr x, none) = one_place to m other (p, x, none)

  shape_is : (place : Place) (name : List ℕ) (n : Node) (o : Option ℕ)
      → node_named rules.classes s session place ≡ Some n → component_named rules.classes s.tree n name ≡ o
      → shape_named rules.classes s session place name ≡ option_and_then (shape_at rules.classes s.tree n) o
  shape_is place name n o named part = ap (option_and_then
      (λ n. option_and_then (shape_at rules.classes s.tree n) (component_named rules.classes s.tree n name))) named
      ∙ ap (option_and_then (shape_at rules.classes s.tree n)) part

  -- the component that is looked for
  abbrev asked : {A : Type 0} → Place → List ℕ → (Shape → Option A) → Asked
  asked place name wanted = record { place = place; name = name; serves = λ shape. is_some (wanted shape) }

  has_none : {A : Type 0} (place : Place) (name : List ℕ) (wanted : Shape → Option A)
      → option_and_then wanted (shape_named rules.classes s session place name) ≡ None
      → HasComponent rules.classes s session (asked place name wanted) → ⊥
  has_none place name wanted e h =
      let f : wanted h.shape ≡ None = sym (ap (option_and_then wanted) h.there) ∙ e in
      off_on false refl (sym (ap is_some f) ∙ h.serves)

  has_some : {A : Type 0} (place : Place) (name : List ℕ) (wanted : Shape → Option A) (a : A)
      → option_and_then wanted (shape_named rules.classes s session place name) ≡ Some a
      → HasComponent rules.classes s session (asked place name wanted)
  has_some place name wanted a e = let (shape, f, g) = led wanted (shape_named rules.classes s session place name) a e in record { shape = shape; there = f; serves = ap is_some g }

  component_stage : {A : Type 0} (c : Command) (mk : Begins c) (pa : Isnt c code.Path) (place : Place) (name : List ℕ) (n : Node) (wanted : Shape → Option A) (k : ℕ → A → Verdict)
      → component_asked c ≡ Some (asked place name wanted) → node_named rules.classes s session place ≡ Some n
      → ((p : ℕ) (a : A) → component_named rules.classes s.tree n name ≡ Some p
      → option_and_then wanted (shape_at rules.classes s.tree n p) ≡ Some a → option_and_then wanted
      (shape_named rules.classes s session place name) ≡ Some a → Isnt c code.Component → Firstly c (k p a))
      → Firstly c (with_component rules.classes s.tree n name wanted k)
  component_stage c mk pa place name n wanted k is named h =
      stage c (component_named rules.classes s.tree n name) code.Component
      _ (λ none. first_component c mk pa (
        asked place name wanted,
        is,
        has_none place name wanted (ap (option_and_then wanted) (shape_is place name n None named none)),
      )) (λ p part.
      stage c (option_and_then wanted (shape_at rules.classes s.tree n p)) code.Component (k p)
      (λ none. first_component c mk pa (
        asked place name wanted,
        is,
        has_none place name wanted
            (ap (option_and_then wanted) (shape_is place name n (Some p) named part) ∙ none),
      )) (λ a some.
      let found = ap (option_and_then wanted) (shape_is place name n (Some p) named part) ∙ some in
      h p a part some found (there a found)))
    where
      there : (a : _) → option_and_then wanted (shape_named rules.classes s session place name) ≡ Some a → Isnt c code.Component
      there a found (b, one, lacks) =
          let e : Some b ≡ Some (asked place name wanted) = sym one ∙ is in
          let same : asked place name wanted ≡ b = cc in
          lacks (subst (HasComponent rules.classes s session) same (has_some place name wanted a found))

  names : (c : Command) (b : Bool) (v : Verdict) → (b ≡ false → IsFirst c code.Class) → (b ≡ true → Firstly c v) → Firstly c (elim b [ false ↦ Refuses code.Class | true ↦ v ])
  names c true v f g = g refl
  names c false v f g = told c code.Class (f refl)

  tree_is : (c : Command) (t : Term) (o : Option ℕ) → term_in c ≡ Some t → class_for rules.classes s session c ≡ o → tree_for rules.classes s session c ≡ option_and_then (shaped rules.classes t) o
  tree_is c t o e f = ap (option_and_then (λ t. option_and_then (shaped rules.classes t) (class_for rules.classes s session c))) e ∙ ap (option_and_then (shaped rules.classes t)) f

  tree_stage : (c : Command) (mk : Begins c) (pa : Isnt c code.Path) (co : Isnt c code.Component) (t : Term)
      (o : Option ℕ) (k : Tree → Verdict) → term_in c ≡ Some t → class_for rules.classes s session c ≡ o
      → ((u : Tree) → tree_for rules.classes s session c ≡ Some u → Isnt c code.Class → Firstly c (k u)) → Firstly c (with_tree rules.classes t o k)
  tree_stage c mk pa co t o k e f h =
      names c (names_classes rules.classes t) _ (λ off. first_class c mk pa co (t, e, off)) (λ on.
      stage c (option_and_then (shaped rules.classes t) o) code.Fit k (λ none. first_fit c mk pa co (no_class on) (inl (t, e, tree_is c t o e f ∙ none))) (λ u some.
      h u (tree_is c t o e f ∙ some) (no_class on)))
    where
      no_class : names_classes rules.classes t ≡ true → Isnt c code.Class
      no_class on (u, one, off) =
          let x : Some u ≡ Some t = sym one ∙ e in
          let same : u ≡ t = cc in
          off_on (names_classes rules.classes t) (subst (λ z. names_classes rules.classes z ≡ false) same off) on

  no_asked : (c : Command) → component_asked c ≡ None → Isnt c code.Component
  no_asked c e (a, f, h) = none_some (component_asked c) a e f

  no_term : (c : Command) → term_in c ≡ None → Isnt c code.Class
  no_term c e (t, f, h) = none_some (term_in c) t e f

  treed : (c : Command) (u : Tree) → tree_for rules.classes s session c ≡ Some u → (t : Term) × (term_in c ≡ Some t) × (tree_for rules.classes s session c ≡ None) → ⊥
  treed c u e (t, f, g) = none_some (tree_for rules.classes s session c) u g e

  termless : (c : Command) → term_in c ≡ None → (t : Term) × (term_in c ≡ Some t) × (tree_for rules.classes s session c ≡ None) → ⊥
  termless c e (t, f, g) = none_some (term_in c) t e f

  -- edits ---------------------------------------------------------------------------------------------------------------

  of_set : (place : Place) (t : Term) → Begins (Set place t) → Firstly (Set place t) (obeyed rules s session (Set place t))
  of_set place t mk =
      let c = Set place t in
      stage c (node_named rules.classes s session place) code.Path _ (λ none. first_path c mk (place, inl refl, none)) (λ n named.
      tree_stage c mk (one_place place n named) (no_asked c refl) t (class_asked rules.classes s.tree n) _ refl (ap (option_and_then (class_asked rules.classes s.tree)) named) (λ u tr cl.
      edit_stage c mk (edit.Set n u) (rw (tr, named) refl) refl refl (one_place place n named) (no_asked c refl) cl (treed c u tr)))

  of_put : (place : Place) (name : List ℕ) (t : Term) → Begins (Put place name t) → Firstly (Put place name t) (obeyed rules s session (Put place name t))
  of_put place name t mk =
      let c = Put place name t in
      stage c (node_named rules.classes s session place) code.Path _ (λ none. first_path c mk (place, inl refl, none)) (λ n named.
      component_stage c mk (one_place place n named) place name n optional_class _ refl named (λ p b part shape found co.
      tree_stage c mk (one_place place n named) co t (Some b) _ refl found (λ u tr cl.
      edit_stage c mk (edit.Put n p u) (rw (tr, named, part) refl) refl (ap is_some shape) (one_place place n named) co cl (treed c u tr))))

  of_drop : (place : Place) → Begins (Drop place) → Firstly (Drop place) (obeyed rules s session (Drop place))
  of_drop place mk =
      let c = Drop place in
      stage c (node_named rules.classes s session place) code.Path _ (λ none. first_path c mk (place, inl refl, none)) (λ n named.
      edit_stage c mk (edit.Drop n) (ap (option_map (λ n. edit.Drop n)) named) refl refl (one_place place n named) (no_asked c refl) (no_term c refl) (termless c refl))

  of_insert : (place : Place) (name : List ℕ) (index : ℕ) (t : Term) → Begins (Insert place name index t)
      → Firstly (Insert place name index t) (obeyed rules s session (Insert place name index t))
  of_insert place name index t mk =
      let c = Insert place name index t in
      stage c (node_named rules.classes s session place) code.Path _ (λ none. first_path c mk (place, inl refl, none)) (λ n named.
      component_stage c mk (one_place place n named) place name n list_class _ refl named (λ p b part shape found co.
      tree_stage c mk (one_place place n named) co t (Some b) _ refl found (λ u tr cl.
      edit_stage c mk (edit.Insert n p index u) (rw (tr, named, part) refl) refl (ap is_some shape) (one_place place n named) co cl (treed c u tr))))

  of_token : (place : Place) (name : List ℕ) (v : tree.Token) → Begins (Token place name v) → Firstly (Token place name v) (obeyed rules s session (Token place name v))
  of_token place name v mk =
      let c = Token place name v in
      stage c (node_named rules.classes s session place) code.Path _ (λ none. first_path c mk (place, inl refl, none)) (λ n named.
      component_stage c mk (one_place place n named) place name n token_kind _ refl named (λ p b part shape found co.
      edit_stage c mk (edit.Token n p v) (rw (named, part) refl) refl (ap is_some shape) (one_place place n named) co (no_term c refl) (termless c refl)))

  of_move : (place to : Place) (name : List ℕ) (index : ℕ) → Begins (Move place to name index) → Firstly (Move place to name index) (obeyed rules s session (Move place to name index))
  of_move place to name index mk =
      let c = Move place to name index in
      stage c (node_named rules.classes s session place) code.Path _ (λ none. first_path c mk (place, inl refl, none)) (λ n named.
      stage c (node_named rules.classes s session to) code.Path _ (λ none. first_path c mk (to, inr (inl refl), none)) (λ m other.
      component_stage c mk (two_places place to n m named other) to name m list_class _ refl other (λ p b part shape found co.
      edit_stage c mk (edit.Move n m p index) (rw (named, other, part) refl) refl (ap is_some shape) (two_places place to n m named other) co (no_term c refl) (termless c refl))))

  -- other commands ------------------------------------------------------------------------------------------------------

  no_edit : (c : Command) (r : Refusal) → meant rules.classes s session c ≡ None → IsRefusedAs rules s (line c) r → ⊥
  no_edit c r e (f, m, b) = none_some (meant rules.classes s session c) f e m

  no_large : (c : Command) → meant rules.classes s session c ≡ None → IsTooLarge rules s (line c) → ⊥
  no_large c e (f, m, b) = none_some (meant rules.classes s session c) f e m

  no_last : (c : Command) → meant rules.classes s session c ≡ None → IsPastLast rules s (line c) → ⊥
  no_last c e (f, m, b) = none_some (meant rules.classes s session c) f e m

  -- of a command that is no edit, only what is given here can come first
  first_other : (c : Command) (d : Code) → Begins c → component_asked c ≡ None → term_in c ≡ None → meant rules.classes s session c ≡ None → number d ≤ 15
      → Isnt c code.Path → (9 < number d → MarksAgain s (line c) → ⊥)
      → (12 < number d → (MarksTooMany s (line c) ⊎ PostsTooMany s (line c)) → ⊥)
      → (13 < number d → Isnt c code.Attribute) → (14 < number d → Isnt c code.Arguments)
      → Applies rules s (line c) d → IsFirst c d
  first_other c d mk co te ed most pa ta li at ar x = (
    x,
    none_before c (number d) mk (λ l. pa) (λ l. no_asked c co) (λ l. no_term c te)
        (λ l y. elim y [ inl z ↦ termless c te z | inr z ↦ no_edit c edit.Fit ed z ])
        (λ l. no_edit c edit.Index ed)
        (λ l y. elim y [ inl z ↦ no_edit c edit.Taken ed z | inr z ↦ ta l z ])
        (λ l. no_edit c edit.Fixed ed)
        (λ l. no_edit c edit.Inside ed)
        (λ l y. elim y [ inl z ↦ no_edit c edit.Limit ed z | inr (inl (inl z)) ↦ no_large c ed z | inr (inl (inr z)) ↦ no_last c ed z | inr (inr z) ↦ li l z ])
        at ar most,
  )

  -- and where none of these is there, no reason is
  none_other : (c : Command) → Begins c → component_asked c ≡ None → term_in c ≡ None
      → meant rules.classes s session c ≡ None → Isnt c code.Path → (MarksAgain s (line c) → ⊥)
      → (MarksTooMany s (line c) ⊎ PostsTooMany s (line c) → ⊥) → Isnt c code.Attribute → Isnt c code.Arguments
      → Isnt c code.Question → (d : Code) → Isnt c d
  none_other c mk co te ed pa ta li at ar qu = every c
      (none_before c 15 mk (λ l. pa) (λ l. no_asked c co) (λ l. no_term c te)
      (λ l y. elim y [ inl z ↦ termless c te z | inr z ↦ no_edit c edit.Fit ed z ])
      (λ l. no_edit c edit.Index ed)
      (λ l y. elim y [ inl z ↦ no_edit c edit.Taken ed z | inr z ↦ ta z ])
      (λ l. no_edit c edit.Fixed ed)
      (λ l. no_edit c edit.Inside ed)
      (λ l y. elim y [ inl z ↦ no_edit c edit.Limit ed z | inr (inl (inl z)) ↦ no_large c ed z | inr (inl (inr z)) ↦ no_last c ed z | inr (inr z) ↦ li z ])
      (λ l. at)
      (λ l. ar)
      (omega arith))
      qu

  -- it neither asks, nor marks, nor posts, nor waits
  abbrev is_plain : Command → Bool
  is_plain (Ask place name arguments) = false
  is_plain (Mark name place) = false
  is_plain (Post place name arguments) = false
  is_plain (Wait which) = false
  is_plain c = true

  none_plain : (c : Command) → is_plain c ≡ true → Begins c → component_asked c ≡ None → term_in c ≡ None → meant rules.classes s session c ≡ None → Isnt c code.Path → (d : Code) → Isnt c d
  none_plain c plain mk co te ed pa = none_other c mk co te ed pa
      (λ x. off_on false refl (sym (ap is_plain x.2) ∙ plain))
      (λ x. elim x [ inl y ↦ off_on false refl (sym (ap is_plain y.2) ∙ plain) | inr y ↦ off_on false refl (sym (ap is_plain y.3) ∙ plain) ])
      (λ x. off_on false refl (sym (ap is_plain x.asks) ∙ plain))
      (λ x. off_on false refl (sym (ap is_plain x.asks) ∙ plain))
      (λ x. off_on false refl (sym (ap is_plain x.1) ∙ plain))

  -- a place among the arguments leads nowhere
  some_unnamed : (arguments : List Argument) → each (map (value_named rules.classes s session) arguments) ≡ None
      → (p : Place) × Among p (flat_map places_in arguments) × (node_named rules.classes s session p ≡ None)
  some_unnamed [] e = absurd cc
  some_unnamed (Text bytes ∷ rest) e = some_unnamed rest (unmapped (each (map (value_named rules.classes s session) rest)) e)
    where
      unmapped : (o : Option (List (Value Node))) → option_map (λ vs. run.Text bytes ∷ vs) o ≡ None → o ≡ None
      unmapped None e = refl
      unmapped (Some vs) e = absurd cc
  some_unnamed (Int n ∷ rest) e = some_unnamed rest (unmapped (each (map (value_named rules.classes s session) rest)) e)
    where
      unmapped : (o : Option (List (Value Node))) → option_map (λ vs. run.Int n ∷ vs) o ≡ None → o ≡ None
      unmapped None e = refl
      unmapped (Some vs) e = absurd cc
  some_unnamed (Truth b ∷ rest) e = some_unnamed rest (unmapped (each (map (value_named rules.classes s session) rest)) e)
    where
      unmapped : (o : Option (List (Value Node))) → option_map (λ vs. run.Truth b ∷ vs) o ≡ None → o ≡ None
      unmapped None e = refl
      unmapped (Some vs) e = absurd cc
  some_unnamed (Null ∷ rest) e = some_unnamed rest (unmapped (each (map (value_named rules.classes s session) rest)) e)
    where
      unmapped : (o : Option (List (Value Node))) → option_map (λ vs. run.Ref None ∷ vs) o ≡ None → o ≡ None
      unmapped None e = refl
      unmapped (Some vs) e = absurd cc
  some_unnamed (Ref place ∷ rest) e = by_node (node_named rules.classes s session place) refl e (some_unnamed rest)
    where
      unmapped : (n : Node) (o : Option (List (Value Node))) → option_map (λ vs. run.Ref (Some n) ∷ vs) o ≡ None → o ≡ None
      unmapped n None e = refl
      unmapped n (Some vs) e = absurd cc

      by_node : (o : Option Node) → node_named rules.classes s session place ≡ o → option_and_then
          (λ (v : Value Node). option_map (λ vs. v ∷ vs) (each (map (value_named rules.classes s session) rest)))
          (option_map (λ n. run.Ref (Some n)) o) ≡ None
          → (each (map (value_named rules.classes s session) rest) ≡ None → (p : Place) × Among p (flat_map places_in rest) × (node_named rules.classes s session p ≡ None))
          → (p : Place) × Among p (place ∷ flat_map places_in rest) × (node_named rules.classes s session p ≡ None)
      by_node None f g h = (place, inl refl, f)
      by_node (Some n) f g h = let (p, among, none) = h (unmapped n (each (map (value_named rules.classes s session) rest)) g) in (p, inr among, none)

  -- where each argument has a value, each place among them leads to a node
  all_named : (arguments : List Argument) (vs : List (Value Node))
      → each (map (value_named rules.classes s session) arguments) ≡ Some vs → (p : Place)
      → Among p (flat_map places_in arguments) → node_named rules.classes s session p ≡ None → ⊥
  all_named [] vs e p among none = among
  all_named (Text bytes ∷ rest) vs e p among none = let (ws, f, g) = mapped (λ vs. run.Text bytes ∷ vs) (each (map (value_named rules.classes s session) rest)) vs e in all_named rest ws f p among none
  all_named (Int n ∷ rest) vs e p among none = let (ws, f, g) = mapped (λ vs. run.Int n ∷ vs) (each (map (value_named rules.classes s session) rest)) vs e in all_named rest ws f p among none
  all_named (Truth b ∷ rest) vs e p among none = let (ws, f, g) = mapped (λ vs. run.Truth b ∷ vs) (each (map (value_named rules.classes s session) rest)) vs e in all_named rest ws f p among none
  all_named (Null ∷ rest) vs e p among none = let (ws, f, g) = mapped (λ vs. run.Ref None ∷ vs) (each (map (value_named rules.classes s session) rest)) vs e in all_named rest ws f p among none
  all_named (Ref place ∷ rest) vs e p among none =
      let (v, f, g) =
      led (λ (v : Value Node). option_map (λ vs. v ∷ vs) (each (map (value_named rules.classes s session) rest)))
      (option_map (λ n. run.Ref (Some n)) (node_named rules.classes s session place)) vs e in
      let (n, named, h) = mapped (λ n. run.Ref (Some n)) (node_named rules.classes s session place) v f in
      let (ws, k, m) = mapped (λ vs. v ∷ vs) (each (map (value_named rules.classes s session) rest)) vs g in
      elim among [
        | inl same ↦ none_some (node_named rules.classes s session place) n (subst (λ z. node_named rules.classes s session z ≡ None) same none) named
        | inr x ↦ all_named rest ws k p x none
      ]

  asked_places : (place : Place) (n : Node) (arguments : List Argument) (vs : List (Value Node)) → node_named
      rules.classes s session place ≡ Some n → each (map (value_named rules.classes s session) arguments) ≡ Some vs
      → (p : Place) × Among p (place ∷ flat_map places_in arguments) × (node_named rules.classes s session p ≡ None) → ⊥
  asked_places place n arguments vs named all (p, inl same, none) = none_some (node_named rules.classes s session place) n (subst (λ z. node_named rules.classes s session z ≡ None) same none) named
  asked_places place n arguments vs named all (p, inr x, none) = all_named arguments vs all p x none

  by_fit : (c : Command) (b : Bool) (q : Instance Node) → (b ≡ false → IsFirst c code.Arguments) → (b ≡ true → (d : Code) → Isnt c d) → Firstly c (if b then Asks q else Refuses code.Arguments)
  by_fit c true q f g = (λ d e. absurd cc, λ no. g refl)
  by_fit c false q f g = told c code.Arguments (f refl)

  not_marking : (place : Place) (name : List ℕ) (arguments : List Argument) → MarksAgain s (line (Ask place name arguments)) → ⊥
  not_marking place name arguments (other, at, e, x) = absurd cc

  not_many_asked : (place : Place) (name : List ℕ) (arguments : List Argument) → MarksTooMany s (line (Ask place name arguments)) ⊎ PostsTooMany s (line (Ask place name arguments)) → ⊥
  not_many_asked place name arguments (inl (other, at, e, x)) = absurd cc
  not_many_asked place name arguments (inr (other, at, more, e, x)) = absurd cc

  of_ask : (place : Place) (name : List ℕ) (arguments : List Argument) → Begins (Ask place name arguments)
      → Firstly (Ask place name arguments) (obeyed rules s session (Ask place name arguments))
  of_ask place name arguments mk =
      let c = Ask place name arguments in
      stage c (node_named rules.classes s session place) code.Path _ (λ none. first_path c mk (place, inl refl, none)) (λ n named.
      stage c (each (map (value_named rules.classes s session) arguments)) code.Path _ (λ none. let (p, among, x) = some_unnamed arguments none in first_path c mk (p, inr among, x)) (λ vs all.
      let many : length vs ≡ length arguments = as_many (value_named rules.classes s session) arguments vs all in
      stage c (option_and_then (λ u. attribute_asked rules (class_of u) name (length vs)) (tree_at s.tree n)) code.Attribute _
      (λ none. first_other c code.Attribute mk refl refl refl (omega arith)
      (asked_places place n arguments vs named all) (λ l. not_marking place name arguments)
      (λ l. not_many_asked place name arguments) (λ l. absurd (past_itself 13 l)) (λ l. absurd (omega (arith, l)))
      (record { place = place; name = name; arguments = arguments; node = n; asks = refl; named = named; none = subst (λ k. attribute_at rules s.tree n name k ≡ None) many none }))
      (λ a found.
      by_fit c (suit rules s.tree a vs) _
      (λ amiss. first_other c code.Arguments mk refl refl refl (omega arith) (asked_places place n arguments vs named
      all) (λ l. not_marking place name arguments) (λ l. not_many_asked place name arguments)
      (λ l. has_attribute place name arguments n a named (counted n name a vs arguments many found)) (λ l. absurd (past_itself 14 l))
      (record { place = place; name = name; arguments = arguments; node = n; attribute = a; values = vs; asks = refl; named = named; found = found; told = all; amiss = amiss }))
      (λ fit. none_other c mk refl refl refl (asked_places place n arguments vs named all) (not_marking place name
      arguments) (not_many_asked place name arguments) (has_attribute place name arguments n a named (counted n name a vs arguments many found))
      (fits_all place name arguments n a vs named found all fit) (λ x. let e = x.1 in absurd cc)))))
    where
      counted : (n : Node) (name : List ℕ) (a : ℕ) (vs : List (Value Node)) (arguments : List Argument) → length vs ≡ length arguments
          → attribute_at rules s.tree n name (length vs) ≡ Some a → attribute_at rules s.tree n name (length arguments) ≡ Some a
      counted n name a vs arguments many found = subst (λ k. attribute_at rules s.tree n name k ≡ Some a) many found

      has_attribute : (place : Place) (name : List ℕ) (arguments : List Argument) (n : Node) (a : ℕ)
          → node_named rules.classes s session place ≡ Some n → attribute_at rules s.tree n name (length arguments) ≡ Some a
          → Isnt (Ask place name arguments) code.Attribute
      has_attribute place name arguments n a named found x =
          let place_same : place ≡ x.place = let e = x.asks in cc in
          let name_same : name ≡ x.name = let e = x.asks in cc in
          let other : Some n ≡ Some x.node = sym named ∙ ap (node_named rules.classes s session) place_same ∙ x.named in
          let node_same : n ≡ x.node = cc in
          let arguments_same : arguments ≡ x.arguments = let e = x.asks in cc in
          none_some (attribute_at rules s.tree x.node x.name (length x.arguments)) a x.none
          (subst (λ as'. attribute_at rules s.tree x.node x.name (length as') ≡ Some a) arguments_same
          (subst (λ m. attribute_at rules s.tree m x.name (length arguments) ≡ Some a) node_same
          (subst (λ z. attribute_at rules s.tree n z (length arguments) ≡ Some a) name_same found)))

      fits_all : (place : Place) (name : List ℕ) (arguments : List Argument) (n : Node) (a : ℕ) (vs : List (Value Node))
          → node_named rules.classes s session place ≡ Some n → attribute_at rules s.tree n name (length vs) ≡ Some a
          → each (map (value_named rules.classes s session) arguments) ≡ Some vs
          → suit rules s.tree a vs ≡ true → Isnt (Ask place name arguments) code.Arguments
      fits_all place name arguments n a vs named found all fit x =
          let place_same : place ≡ x.place = let e = x.asks in cc in
          let name_same : name ≡ x.name = let e = x.asks in cc in
          let arguments_same : arguments ≡ x.arguments = let e = x.asks in cc in
          let node : Some n ≡ Some x.node = sym named ∙ ap (node_named rules.classes s session) place_same ∙ x.named in
          let node_same : n ≡ x.node = cc in
          let values : Some vs ≡ Some x.values = sym all ∙ ap (λ as'. each (map (value_named rules.classes s session) as')) arguments_same ∙ x.told in
          let values_same : vs ≡ x.values = cc in
          let attribute : Some a ≡ Some x.attribute = sym found
          ∙ ap (λ z. attribute_at rules s.tree n z (length vs)) name_same
          ∙ ap (λ m. attribute_at rules s.tree m x.name (length vs)) node_same
          ∙ ap (λ ws. attribute_at rules s.tree x.node x.name (length ws)) values_same
          ∙ x.found in
          let attribute_same : a ≡ x.attribute = cc in
          off_on (suit rules s.tree a vs)
          (ap (λ z. suit rules s.tree z vs) attribute_same ∙ ap (suit rules s.tree x.attribute) values_same ∙ x.amiss) fit

  of_show : (place : Place) → Begins (Show place) → Firstly (Show place) (obeyed rules s session (Show place))
  of_show place mk =
      let c = Show place in
      stage c (node_named rules.classes s session place) code.Path _ (λ none. first_path c mk (place, inl refl, none)) (λ n named.
      stage c (tree_at s.tree n) code.Path _ (λ none. let (u, there) =
      place_there rules.classes s session place n named in absurd (none_some (tree_at s.tree n) u none there))
      (λ u there. (λ d e. absurd cc, λ no. none_plain c refl mk refl refl refl (one_place place n named))))

  of_mark : (name : List ℕ) (place : Place) → Begins (Mark name place) → Firstly (Mark name place) (obeyed rules s session (Mark name place))
  of_mark name place mk =
      let c = Mark name place in
      stage c (node_named rules.classes s session place) code.Path _ (λ none. first_path c mk (place, inl refl, none)) (λ n named.
      by_name n named (is_marked s.marks session name) refl (nat_le max_marks (count_by (λ m. nat_eq session m.session) s.marks)) refl)
    where
      free : (o : Option Node) → is_some o ≡ false → IsSome o → ⊥
      free None e h = absurd cc
      free (Some n) e h = absurd cc

      some_of : (o : Option Node) → is_some o ≡ true → IsSome o
      some_of None e = absurd cc
      some_of (Some n) e = refl

      few : (m n : ℕ) → nat_le n m ≡ false → n ≤ m → ⊥
      few m n e l = grind (arith, nat_tests)

      by_many : (n : Node) → node_named rules.classes s session place ≡ Some n → is_marked s.marks session name ≡ false
          → (b : Bool) → nat_le max_marks (count_by (λ m. nat_eq session m.session) s.marks) ≡ b
          → Firstly (Mark name place) (if b then Refuses code.Limit else Leaves (s.marks ++ record { session = session; name = name; node = n } ∷ []))
      by_many n named e true f = told (Mark name place) code.Limit (first_other (Mark name place) code.Limit mk refl refl refl (omega arith) (one_place place n named)
          (λ l x. let (other, at, is, some) = x in let same : name ≡ other = cc in free (marked s.marks session name) e (subst (λ z. IsSome (marked s.marks session z)) (sym same) some))
          (λ l. absurd (past_itself 12 l)) (λ l. absurd (omega (arith, l))) (λ l. absurd (omega (arith, l))) (inr (inr (inl (name, place, refl, grind (arith, nat_tests))))))
      by_many n named e false f = (
        λ d h. absurd cc,
        λ no. none_other (Mark name place) mk refl refl refl (one_place place n named)
            (λ x. let (other, at, is, some) = x in let same : name ≡ other = cc in free (marked s.marks session name) e (subst (λ z. IsSome (marked s.marks session z)) (sym same) some))
            (λ x. elim x [ inl y ↦ few (count_by (λ m. nat_eq session m.session) s.marks) max_marks f y.3 | inr y ↦ let h = y.3 in absurd cc ])
            (λ x. let h = x.asks in absurd cc)
            (λ x. let h = x.asks in absurd cc)
            (λ x. let h = x.1 in absurd cc),
      )

      by_name : (n : Node) → node_named rules.classes s session place ≡ Some n → (b : Bool) → is_marked s.marks session
          name ≡ b → (t : Bool) → nat_le max_marks (count_by (λ m. nat_eq session m.session) s.marks) ≡ t
          → Firstly (Mark name place) (if b then Refuses code.Taken else
          (if nat_le max_marks (count_by (λ m. nat_eq session m.session) s.marks) then Refuses code.Limit else
          Leaves (s.marks ++ record { session = session; name = name; node = n } ∷ [])))
      by_name n named true e t f = told (Mark name place) code.Taken (first_other (Mark name place) code.Taken mk refl
          refl refl (omega arith) (one_place place n named) (λ l. absurd (past_itself 9 l))
          (λ l. absurd (omega (arith, l))) (λ l. absurd (omega (arith, l))) (λ l. absurd (omega (arith, l)))
          (inr (name, place, refl, some_of (marked s.marks session name) e)))
      by_name n named false e t f = by_many n named e (nat_le max_marks (count_by (λ m. nat_eq session m.session) s.marks)) refl

  among_any : {A : Type 0} (p : A → Bool) (xs : List A) (x : A) → Among x xs → p x ≡ true → list_any p xs ≡ true
  among_any p [] x h e = absurd h
  among_any p (y ∷ ys) x (inl same) e = ap (λ b. b || list_any p ys) (subst (λ z. p z ≡ true) same e)
  among_any p (y ∷ ys) x (inr h) e = or_right (p y) _ (among_any p ys x h e)

  any_among : {A : Type 0} (p : A → Bool) (xs : List A) → list_any p xs ≡ true → (x : A) × Among x xs × (p x ≡ true)
  any_among p [] e = absurd cc
  any_among p (y ∷ ys) e = elim (either_true (p y) _ e) [ inl f ↦ (y, inl refl, f) | inr f ↦ let (x, among, g) = any_among p ys f in (x, inr among, g) ]

  of_where : (name : List ℕ) → Begins (Where name) → Firstly (Where name) (obeyed rules s session (Where name))
  of_where name mk = stage (Where name) (marked s.marks session name) code.Mark
      _ (λ none. absurd (mk.0 (name, inl refl, none)))
      (λ n some. (λ d e. absurd cc, λ no. none_plain (Where name) refl mk refl refl refl (λ x. x.1)))

  not_posted : (place : Place) (name : List ℕ) (arguments : List Argument) → MarksAgain s (line (Post place name arguments)) → ⊥
  not_posted place name arguments (other, at, e, x) = absurd cc

  post_limit : (place : Place) (name : List ℕ) (arguments : List Argument) → Begins (Post place name arguments)
      → (max_posted ≤ count_by (λ q. nat_eq session q.session) s.posted) ⊎ (s.posts ≡ last_post)
      → IsFirst (Post place name arguments) code.Limit
  post_limit place name arguments mk h =
      first_other (Post place name arguments) code.Limit mk refl refl refl (omega arith) (λ x. x.1)
      (λ l. not_posted place name arguments) (λ l. absurd (past_itself 12 l)) (λ l. absurd (omega (arith, l)))
      (λ l. absurd (omega (arith, l)))
      (inr (inr (inr (place, name, arguments, refl, h))))

  by_posts : (c : Command) (q : Posted) (b t : Bool) → (b ≡ true → IsFirst c code.Limit)
      → (t ≡ true → IsFirst c code.Limit) → (b ≡ false → t ≡ false → (d : Code) → Isnt c d)
      → Firstly c (if b then Refuses code.Limit else (if t then Refuses code.Limit else Posts q))
  by_posts c q true t f g h = told c code.Limit (f refl)
  by_posts c q false true f g h = told c code.Limit (g refl)
  by_posts c q false false f g h = (λ d e. absurd cc, λ no. h refl refl)

  of_post : (place : Place) (name : List ℕ) (arguments : List Argument) → Begins (Post place name arguments)
      → Firstly (Post place name arguments) (obeyed rules s session (Post place name arguments))
  of_post place name arguments mk = by_posts (Post place name arguments) _ (nat_le max_posted (count_by (λ q. nat_eq session q.session) s.posted)) (nat_eq s.posts last_post)
      (λ e. post_limit place name arguments mk (inl (most (count_by (λ q. nat_eq session q.session) s.posted) max_posted e)))
      (λ e. post_limit place name arguments mk (inr (nat_same s.posts last_post e)))
      (λ e f. none_other (Post place name arguments) mk refl refl refl (λ x. x.1) (not_posted place name arguments)
      (λ x. elim x [
        | inl y ↦ let h = y.2 in absurd cc
        | inr y ↦
            elim y.4 [
              | inl l ↦ few (count_by (λ q. nat_eq session q.session) s.posted) max_posted e l
              | inr same ↦
                  off_on (nat_eq s.posts last_post) f (same_on s.posts last_post same)
            ]
      ])
      (λ x. let h = x.asks in absurd cc)
      (λ x. let h = x.asks in absurd cc)
      (λ x. let h = x.1 in absurd cc))
    where
      few : (m n : ℕ) → nat_le n m ≡ false → n ≤ m → ⊥
      few m n e l = grind (arith, nat_tests)

      same_on : (m n : ℕ) → m ≡ n → nat_eq m n ≡ true
      same_on m n e = grind (arith, nat_tests)

      most : (m n : ℕ) → nat_le n m ≡ true → n ≤ m
      most m n e = grind (arith, nat_tests)

  no_ask : (which : ℕ) → Isnt (Wait which) code.Attribute
  no_ask which x = let e = x.asks in absurd cc

  no_amiss : (which : ℕ) → Isnt (Wait which) code.Arguments
  no_amiss which x = let e = x.asks in absurd cc

  no_again : (which : ℕ) → MarksAgain s (line (Wait which)) → ⊥
  no_again which (other, at, e, x) = absurd cc

  no_many : (which : ℕ) → MarksTooMany s (line (Wait which)) ⊎ PostsTooMany s (line (Wait which)) → ⊥
  no_many which (inl (other, at, e, x)) = absurd cc
  no_many which (inr (other, at, more, e, x)) = absurd cc

  by_open : (which : ℕ) → Begins (Wait which) → (b : Bool) → list_any (is_posted session which) s.posted ≡ b → Firstly (Wait which) (if b then Waits which else Refuses code.Question)
  by_open which mk true e = (
    λ d f. absurd cc,
    λ no. none_other (Wait which) mk refl refl refl (λ x. x.1) (no_again which) (no_many which) (no_ask which) (no_amiss which) (λ x.
        let (other, is, none) = x in
        let same : which ≡ other = cc in
        let (q, among, f) = any_among (is_posted session which) s.posted e in
        none q among (subst (λ z. is_posted session z q ≡ true) same f)),
  )
  by_open which mk false e = told (Wait which) code.Question (first_other (Wait which) code.Question mk refl refl refl
      (omega arith) (λ x. x.1) (λ l. no_again which) (λ l. no_many which) (λ l. no_ask which) (λ l. no_amiss which)
      (which, refl, λ q among f. off_on _ e (among_any (is_posted session which) s.posted q among f)))

  of_wait : (which : ℕ) → Begins (Wait which) → Firstly (Wait which) (obeyed rules s session (Wait which))
  of_wait which mk = by_open which mk (list_any (is_posted session which) s.posted) refl

  of_command : (c : Command) → Begins c → Firstly c (obeyed rules s session c)
  of_command (Ask place name arguments) = of_ask place name arguments
  of_command (Set place t) = of_set place t
  of_command (Put place name t) = of_put place name t
  of_command (Drop place) = of_drop place
  of_command (Insert place name index t) = of_insert place name index t
  of_command (Token place name v) = of_token place name v
  of_command (Move place to name index) = of_move place to name index
  of_command (Show place) = of_show place
  of_command (Mark name place) = of_mark name place
  of_command (Unmark name) = λ mk. (λ d e. absurd cc, λ no. none_plain (Unmark name) refl mk refl refl refl (λ x. x.1))
  of_command (Where name) = of_where name
  of_command Version = λ mk. (λ d e. absurd cc, λ no. none_plain Version refl mk refl refl refl (λ x. x.1))
  of_command (Post place name arguments) = of_post place name arguments
  of_command (Wait which) = of_wait which

-- lines ----------------------------------------------------------------------------------------------------------------

module _ (rules : Rules) (s : State) (l : Line) where
  -- before a mark comes no more than the version
  small : (n : ℕ) → n ≤ 3 → (1 < n → is_read rules l.command ≡ true) → (2 < n → ExpectsOther l.expected s.version → ⊥) → (e : Code) → number e < n → Applies rules s l e → ⊥
  small n m r h code.Syntax k x = off_on (is_read rules l.command) x (r k)
  small n m r h (code.Stale v) k x = h k x.0
  small n m r h code.Mark k x = absurd (omega (arith, m, k))
  small n m r h code.Path k x = absurd (omega (arith, m, k))
  small n m r h code.Component k x = absurd (omega (arith, m, k))
  small n m r h code.Class k x = absurd (omega (arith, m, k))
  small n m r h code.Fit k x = absurd (omega (arith, m, k))
  small n m r h code.Index k x = absurd (omega (arith, m, k))
  small n m r h code.Taken k x = absurd (omega (arith, m, k))
  small n m r h code.Fixed k x = absurd (omega (arith, m, k))
  small n m r h code.Inside k x = absurd (omega (arith, m, k))
  small n m r h code.Limit k x = absurd (omega (arith, m, k))
  small n m r h code.Attribute k x = absurd (omega (arith, m, k))
  small n m r h code.Arguments k x = absurd (omega (arith, m, k))
  small n m r h code.Question k x = absurd (omega (arith, m, k))

  abbrev IsToldFirst : Code → Type 0
  IsToldFirst d = Applies rules s l d × ((e : Code) → number e < number d → Applies rules s l e → ⊥)

  abbrev IsTold : Verdict → Type 0
  IsTold v = ((d : Code) → v ≡ Refuses d → IsToldFirst d) × (((d : Code) → v ≡ Refuses d → ⊥) → (d : Code) → Applies rules s l d → ⊥)

  tells : (d : Code) → IsToldFirst d → IsTold (Refuses d)
  tells d h = (λ e f. let same : d ≡ e = cc in subst IsToldFirst same h, λ no. absurd (no d refl))

  stale_other : (o : Option ℕ) (version : ℕ) → is_stale o version ≡ true → ExpectsOther o version
  stale_other None version e = absurd cc
  stale_other (Some v) version e = (v, refl, λ same. off_on (nat_eq v version) (not_on (nat_eq v version) e) (grind (arith, nat_tests)))
    where
      not_on : (b : Bool) → not b ≡ true → b ≡ false
      not_on true f = absurd cc
      not_on false f = refl

  fresh_by : (o : Option ℕ) (version : ℕ) → is_stale o version ≡ false → ExpectsOther o version → ⊥
  fresh_by None version e (v, f, h) = absurd cc
  fresh_by (Some w) version e (v, f, h) = let same : w ≡ v = cc in h (sym same ∙ nat_same w version (off_not (nat_eq w version) e))

  some_unmarked : (names : List (List ℕ)) → list_all (is_marked s.marks l.session) names ≡ false → (name : List ℕ) × Among name names × (marked s.marks l.session name ≡ None)
  some_unmarked [] e = absurd cc
  some_unmarked (name ∷ rest) e = by_mark (marked s.marks l.session name) refl e (some_unmarked rest)
    where
      by_mark : (o : Option Node) → marked s.marks l.session name ≡ o → (is_some o && list_all (is_marked s.marks l.session) rest) ≡ false
          → (list_all (is_marked s.marks l.session) rest ≡ false → (other : List ℕ) × Among other rest × (marked s.marks l.session other ≡ None))
          → (other : List ℕ) × Among other (name ∷ rest) × (marked s.marks l.session other ≡ None)
      by_mark None f g h = (name, inl refl, f)
      by_mark (Some n) f g h = let (other, among, none) = h g in (other, inr among, none)

  none_unmarked : (names : List (List ℕ)) → list_all (is_marked s.marks l.session) names ≡ true → (name : List ℕ) × Among name names × (marked s.marks l.session name ≡ None) → ⊥
  none_unmarked [] e (name, among, none) = among
  none_unmarked (first ∷ rest) e (name, inl same, none) = off_on (is_marked s.marks l.session first) (subst (λ z.
      is_marked s.marks l.session z ≡ false) same (ap is_some none)) (both (is_marked s.marks l.session first) _ e).0
  none_unmarked (first ∷ rest) e (name, inr among, none) = none_unmarked rest (both (is_marked s.marks l.session first) _ e).1 (name, among, none)

  by_marks : is_read rules l.command ≡ true → (ExpectsOther l.expected s.version → ⊥) → (b : Bool) → list_all (is_marked s.marks l.session)
      (marks_used l.command) ≡ b → IsTold (if not b then Refuses code.Mark else obeyed rules s l.session l.command)
  by_marks read fresh true e = of_command rules s l.session l.expected fresh l.command (none_unmarked (marks_used l.command) e, read)
  by_marks read fresh false e = tells code.Mark (some_unmarked (marks_used l.command) e, small 3 (omega arith) (λ k. read) (λ k. fresh))

  by_version : is_read rules l.command ≡ true → (b : Bool) → is_stale l.expected s.version ≡ b
      → IsTold (if b then Refuses (code.Stale s.version) else (if not (list_all (is_marked s.marks l.session)
      (marks_used l.command)) then Refuses code.Mark else obeyed rules s l.session l.command))
  by_version read true e = tells (code.Stale s.version) ((stale_other l.expected s.version e, refl), small 2 (omega arith) (λ k. read) (λ k. absurd (past_itself 2 k)))
  by_version read false e = by_marks read (fresh_by l.expected s.version e) (list_all (is_marked s.marks l.session) (marks_used l.command)) refl

  by_reading : (b : Bool) → is_read rules l.command ≡ b
      → IsTold (if not b then Refuses code.Syntax else (if is_stale l.expected s.version then Refuses (code.Stale s.version)
      else (if not (list_all (is_marked s.marks l.session) (marks_used l.command)) then Refuses code.Mark
      else obeyed rules s l.session l.command)))
  by_reading false e = tells code.Syntax (e, small 1 (omega arith) (λ k. absurd (past_itself 1 k)) (λ k. absurd (omega (arith, k))))
  by_reading true e = by_version e (is_stale l.expected s.version) refl

  pub told_first : IsTold (verdict rules s l)
  told_first = by_reading (is_read rules l.command) refl
