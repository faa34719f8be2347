-- What the table gives is judged so.
use Rattle.std.proofs.Common.{◌≡◌, ℕ, suc, Bool, true, false, List, [], ◌∷◌, length, Some, None, refl, sym, ap, ◌∙◌, subst, arith, true≢false}
use Rattle.std.specs.Prelude.{nat_eq, codes, is_some, option_map, slice_get}
use Rattle.std.specs.Str.{bytes_eq}
use Rattle.std.proofs.lemmas.Bool.Decides.{nat_tests}
use Rattle.at_model.specs.Classes.{Classes, is_sub, class_of_name}
use Rattle.at_model.specs.Bodies as body
use Rattle.at_model.proofs.Options.{and_true}
use Rattle.at_text.specs.declared.place.Place.{Place}
use Rattle.at_jrag.specs.Syntax.{Word}
use Rattle.at_jrag.specs.Syntax as written
use Rattle.at_kinds.specs.Signatures.{Declared, declared_named}
use Rattle.at_kinds.specs.Accessors.{accessor_named}
use Rattle.at_kinds.specs.Kinds.{known, of_written, is_int, is_truth, is_text, is_node, common_word, fits, wider, are_ints, are_truths, are_alike}
use Rattle.at_kinds.specs.Judging.{Kinded, Judgement, Judged, Is, Wrong, and_then, of_kind, kind_if, Scope, bound_to, index_eq, within, named_by, named, this_node, negation, opposite, text_joined, added, joined, of_wider, chosen, beside, class_beside, cast, tested, one_argument, accessed, is_given_text, is_argument, misfit, bodies, bodies_or, fitted, demanded_of, demanded, asked_by, asked, asked_of, called, Listed, list_named, list_by, list_called, list_or, folded, folded_in, placed, judged, judged_all, judged_list}
use Rattle.at_kinds.specs.KindTable.{IsNode, AreAlike, Wider, Fits, Computes, Orders, Compares, Decides, Gives, Answers, AreArguments, IsGiven, IsList}
use Rattle.at_kinds.specs.KindTable as table
use Rattle.at_kinds.specs.declared.arguments.Arguments.{Arguments}
use Rattle.at_kinds.specs.declared.arguments.Arguments.TheVariants.{Given, Computed}
use Rattle.at_rules.specs.declared.body.Kind.{Kind}
use Rattle.at_rules.specs.declared.body.Kind.TheVariants as kind
use Rattle.at_kinds.specs.declared.signatures.WrittenKind.{WrittenKind}
use Rattle.at_kinds.specs.declared.signatures.WrittenKind.TheVariants.{Known, Strange as Nowhere}
use Rattle.at_kinds.specs.declared.accessors.Accessor.{Accessor}
use Rattle.at_kinds.specs.declared.accessors.Accessor.TheVariants as accessor
use Rattle.at_kinds.specs.declared.typing.kinds.ExprKind.{ExprKind}
use Rattle.at_kinds.specs.declared.typing.kinds.ExprKind.TheVariants.{Int, Bool as Truth, Text, Class, Strange, Null}

-- tests ----------------------------------------------------------------------------------------------------------------

node_true : {k : ExprKind} → IsNode k → is_node k ≡ true
node_true (table.node c) = refl
node_true (table.stranger first) = refl
node_true table.nothing = refl

nodes_alike : {j : ExprKind} (k : ExprKind) → IsNode j → is_node k ≡ true → are_alike j k ≡ true
nodes_alike k (table.node c) e = e
nodes_alike k (table.stranger first) e = e
nodes_alike k table.nothing e = e

alike_true : {j k : ExprKind} → AreAlike j k → are_alike j k ≡ true
alike_true table.ints = refl
alike_true table.truths = refl
alike_true (table.nodes {k = k} a b) = nodes_alike k a (node_true b)

upper_first : (classes : Classes) (c b : ℕ) → is_sub classes b c ≡ true → wider classes (Class c) (Class b) ≡ Some (Class c)
upper_first classes c b e = rw e refl

upper_second : (classes : Classes) (c b : ℕ) → is_sub classes b c ≡ false → is_sub classes c b ≡ true → wider classes (Class c) (Class b) ≡ Some (Class b)
upper_second classes c b e f = rw (e, f) refl

null_wider : (classes : Classes) {k : ExprKind} → IsNode k → wider classes Null k ≡ Some k
null_wider classes (table.node c) = refl
null_wider classes (table.stranger first) = refl
null_wider classes table.nothing = refl

wider_null : (classes : Classes) {k : ExprKind} → IsNode k → wider classes k Null ≡ Some k
wider_null classes (table.node c) = refl
wider_null classes (table.stranger first) = refl
wider_null classes table.nothing = refl

-- one class that isn't there
one_word : (a : ℕ) → common_word (Some a) (Some a) ≡ Some a
one_word a = let same : nat_eq a a ≡ true = grind (arith, nat_tests) in rw same refl

wider_some : {classes : Classes} {j k m : ExprKind} → Wider classes j k m → wider classes j k ≡ Some m
wider_some table.ints = refl
wider_some table.truths = refl
wider_some table.texts = refl
wider_some {classes = classes} (table.first c b e) = upper_first classes c b e
wider_some {classes = classes} (table.second c b e f) = upper_second classes c b e f
wider_some (table.strangers a) = ap (option_map (λ word. Strange (Some word))) (one_word a)
wider_some {classes = classes} (table.null_second n) = wider_null classes n
wider_some {classes = classes} (table.null_first n) = null_wider classes n

fits_true : {classes : Classes} {k : ExprKind} {p : WrittenKind} → Fits classes k p → fits classes k p ≡ true
fits_true table.int = refl
fits_true table.truth = refl
fits_true table.text = refl
fits_true (table.below c b e) = e
fits_true (table.null b) = refl
fits_true (table.stranger a) = ap is_some (one_word a)
fits_true (table.null_nowhere first) = refl

-- forms ----------------------------------------------------------------------------------------------------------------

-- something of that kind is judged
abbrev Comes : Judged → ExprKind → Type 0
Comes j k = (m : Kinded) × (j ≡ Is m) × (m.kind ≡ k)

abbrev kinded : Place → ExprKind → body.Expr → Kinded
kinded at k e = record { at = at; kind = k; body = e }

comes : (at : Place) (k : ExprKind) (e : body.Expr) → Comes (of_kind at k e) k
comes at k e = (kinded at k e, refl, refl)

comes_if : (b : Bool) (at : Place) (k : ExprKind) (e : body.Expr) → b ≡ true → Comes (kind_if b at k e) k
comes_if true at k e f = comes at k e
comes_if false at k e f = absurd (true≢false (sym f))

-- of what is judged the same
comes_by : {i j : Judged} {k : ExprKind} → i ≡ j → Comes j k → Comes i k
comes_by e (m, f, g) = (m, e ∙ f, g)

both_ints : (j k : ExprKind) → j ≡ Int → k ≡ Int → are_ints j k ≡ true
both_ints j k e f = and_true (is_int j) (is_int k) (ap is_int e) (ap is_int f)

both_truths : (j k : ExprKind) → j ≡ Truth → k ≡ Truth → are_truths j k ≡ true
both_truths j k e f = and_true (is_truth j) (is_truth k) (ap is_truth e) (ap is_truth f)

computes_int : {o : written.Operator} → Computes o → (at : Place) (j k : Kinded) → are_ints j.kind k.kind ≡ true → Comes (joined at o j k) Int
computes_int table.subtract at j k e = comes_if (are_ints j.kind k.kind) at Int (body.Arithmetic body.Subtract j.body k.body) e
computes_int table.multiply at j k e = comes_if (are_ints j.kind k.kind) at Int (body.Arithmetic body.Multiply j.body k.body) e
computes_int table.divide at j k e = comes_if (are_ints j.kind k.kind) at Int (body.Arithmetic body.Divide j.body k.body) e
computes_int table.remainder at j k e = comes_if (are_ints j.kind k.kind) at Int (body.Arithmetic body.Remainder j.body k.body) e

orders_truth : {o : written.Operator} → Orders o → (at : Place) (j k : Kinded) → are_ints j.kind k.kind ≡ true → Comes (joined at o j k) Truth
orders_truth table.below at j k e = comes_if (are_ints j.kind k.kind) at Truth (body.Compare body.Below j.body k.body) e
orders_truth table.at_most at j k e = comes_if (are_ints j.kind k.kind) at Truth (body.Compare body.AtMost j.body k.body) e
orders_truth table.above at j k e = comes_if (are_ints j.kind k.kind) at Truth (body.Compare body.Above j.body k.body) e
orders_truth table.at_least at j k e = comes_if (are_ints j.kind k.kind) at Truth (body.Compare body.AtLeast j.body k.body) e

compares_truth : {o : written.Operator} → Compares o → (at : Place) (j k : Kinded) → are_alike j.kind k.kind ≡ true → Comes (joined at o j k) Truth
compares_truth table.same at j k e = comes_if (are_alike j.kind k.kind) at Truth (body.Same j.body k.body) e
compares_truth table.differs at j k e = comes_if (are_alike j.kind k.kind) at Truth (body.Differ j.body k.body) e

decides_truth : {o : written.Operator} → Decides o → (at : Place) (j k : Kinded) → are_truths j.kind k.kind ≡ true → Comes (joined at o j k) Truth
decides_truth table.and at j k e = comes_if (are_truths j.kind k.kind) at Truth (body.And j.body k.body) e
decides_truth table.or at j k e = comes_if (are_truths j.kind k.kind) at Truth (body.Or j.body k.body) e

adds_int : (at : Place) (j k : Kinded) → j.kind ≡ Int → k.kind ≡ Int → Comes (added at j k) Int
adds_int at j k e f = comes_by (rw (ap is_text e) refl) (comes_if (are_ints j.kind k.kind) at Int (body.Arithmetic body.Add j.body k.body) (both_ints j.kind k.kind e f))

joins_text : (at : Place) (j k : Kinded) → j.kind ≡ Text → k.kind ≡ Text → Comes (added at j k) Text
joins_text at j k e f = comes_by (rw (ap is_text e) (ap (λ z. text_joined at j.body z k.body) f)) (comes at Text (body.Join j.body k.body))

joins_int : (at : Place) (j k : Kinded) → j.kind ≡ Text → k.kind ≡ Int → Comes (added at j k) Text
joins_int at j k e f = comes_by (rw (ap is_text e) (ap (λ z. text_joined at j.body z k.body) f)) (comes at Text (body.JoinInt j.body k.body))

chooses_wider : (classes : Classes) (at : Place) (c j k : Kinded) (m : ExprKind) → c.kind ≡ Truth → wider classes j.kind k.kind ≡ Some m → Comes (chosen classes at c j k) m
chooses_wider classes at c j k m e f = comes_by (rw (ap is_truth e) (ap (of_wider at (body.Choose c.body j.body k.body)) f)) (comes at m (body.Choose c.body j.body k.body))

is_beside : (classes : Classes) (at : Place) (class : Word) (k : Kinded) (c : ℕ) → class_of_name classes class.text ≡ Some c → is_node k.kind ≡ true → class_beside classes at class k ≡ Is c
is_beside classes at class k c e f = ap (beside at k.kind) e ∙ rw f refl

casts : (classes : Classes) (at : Place) (class : Word) (k : Kinded) (c : ℕ) → class_of_name classes class.text ≡ Some c → is_node k.kind ≡ true → Comes (cast classes at class k) (Class c)
casts classes at class k c e f = comes_by (ap (and_then (λ c. of_kind at (Class c) (body.CastTo c k.body))) (is_beside classes at class k c e f)) (comes at (Class c) (body.CastTo c k.body))

tests : (classes : Classes) (at : Place) (class : Word) (k : Kinded) (c : ℕ) → class_of_name classes class.text ≡ Some c → is_node k.kind ≡ true → Comes (tested classes at class k) Truth
tests classes at class k c e f = comes_by (ap (and_then (λ c. of_kind at Truth (body.InstanceOf k.body c))) (is_beside classes at class k c e f)) (comes at Truth (body.InstanceOf k.body c))

names_bound : (s : Scope) (at : Place) (name : List ℕ) (i : ℕ) (k : WrittenKind) → bound_to s.names name ≡ Some (i, k) → Comes (named s at name) (of_written k)
names_bound s at name i k e = comes_by (ap (named_by at (index_eq s.index name)) e) (comes at (of_written k) (body.Name i))

names_index : (s : Scope) (at : Place) (name : List ℕ) → bound_to s.names name ≡ None → index_eq s.index name ≡ true → Comes (named s at name) Int
names_index s at name e f = comes_by (ap (named_by at (index_eq s.index name)) e ∙ rw f refl) (comes at Int body.IndexName)

folds_truth : (at : Place) (l : Listed) (part : ℕ) (k : Kinded) → l.part ≡ Some part → k.kind ≡ Truth → Comes (folded at written.Exists l k) Truth
folds_truth at l part k e f =
    comes_by (ap (λ o. folded_in at written.Exists l o k) e) (comes_if (is_truth k.kind) at Truth (body.Exists l.node part k.body) (ap is_truth f))

folds_first : (at : Place) (l : Listed) (part : ℕ) (k : Kinded) → l.part ≡ Some part → k.kind ≡ Truth → Comes (folded at written.First l k) (Class l.class)
folds_first at l part k e f =
    comes_by (ap (λ o. folded_in at written.First l o k) e) (comes_if (is_truth k.kind) at (Class l.class) (body.First l.node part k.body) (ap is_truth f))

folds_sum : (at : Place) (l : Listed) (part : ℕ) (k : Kinded) → l.part ≡ Some part → k.kind ≡ Int → Comes (folded at written.Sum l k) Int
folds_sum at l part k e f =
    comes_by (ap (λ o. folded_in at written.Sum l o k) e) (comes_if (is_int k.kind) at Int (body.Sum l.node part k.body) (ap is_int f))

-- calls ----------------------------------------------------------------------------------------------------------------

-- of a node that is asked by no `equals`
asked_node : (s : Scope) (at : Place) (name : List ℕ) (r : Kinded) (ks : List Kinded) (c : ℕ) → r.kind ≡ Class c
    → bytes_eq name (codes "equals") ≡ false → called s at name r ks ≡ asked s at name c r.body ks
asked_node s at name r ks c e f = rw f (ap (λ z. asked_of s at name z r.body ks) e)

by_accessor : (s : Scope) (at : Place) (name : List ℕ) (r : Kinded) (ks : List Kinded) (c : ℕ) (a : Accessor)
    → r.kind ≡ Class c → bytes_eq name (codes "equals") ≡ false → accessor_named s.classes c name ≡ Some a
    → called s at name r ks ≡ accessed at a r.body ks
by_accessor s at name r ks c a e f g = asked_node s at name r ks c e f ∙ ap (λ o. asked_by s at (declared_named s.classes s.declared c name) o r.body ks) g

by_attribute : (s : Scope) (at : Place) (name : List ℕ) (r : Kinded) (ks : List Kinded) (c a : ℕ) (d : Declared)
    → r.kind ≡ Class c → bytes_eq name (codes "equals") ≡ false → accessor_named s.classes c name ≡ None
    → declared_named s.classes s.declared c name ≡ Some a → slice_get s.declared a ≡ Some d
    → called s at name r ks ≡ demanded_of s.arguments s.classes at a (Some d) r.body ks
by_attribute s at name r ks c a d e f g h i =
    asked_node s at name r ks c e f ∙ ap (λ o. asked_by s at (declared_named s.classes s.declared c name) o r.body ks) g
    ∙ ap (λ o. demanded s at o r.body ks) h ∙ ap (λ o. demanded_of s.arguments s.classes at a o r.body ks) i

one_fits : (test : ExprKind → Bool) (at : Place) (k : Kinded) → test k.kind ≡ true → one_argument test at (k ∷ []) ≡ Is k.body
one_fits test at k e = rw e refl

fitted_is : (allowed : Arguments) (classes : Classes) (at : Place) (ks : List Kinded) (ps : List WrittenKind)
    → nat_eq (length ks) (length ps) ≡ true → misfit allowed classes ks ps ≡ None
    → fitted allowed classes at ks ps ≡ Is (bodies allowed ks)
fitted_is allowed classes at ks ps e f = rw e (ap (bodies_or allowed ks) f)

by_word : (classes : Classes) (k : Kinded) (p : WrittenKind) → fits classes k.kind p ≡ true
    → (p ≡ Known kind.Text → is_given_text k.body ≡ true) → is_argument Given classes k p ≡ true
by_word classes k (Known kind.Text) e h = and_true (fits classes k.kind (Known kind.Text)) (is_given_text k.body) e (h refl)
by_word classes k (Known kind.Int) e h = and_true (fits classes k.kind (Known kind.Int)) true e refl
by_word classes k (Known kind.Bool) e h = and_true (fits classes k.kind (Known kind.Bool)) true e refl
by_word classes k (Known (kind.Class b)) e h = and_true (fits classes k.kind (Known (kind.Class b))) true e refl
by_word classes k (Nowhere first) e h = and_true (fits classes k.kind (Nowhere first)) true e refl

fits_argument : (allowed : Arguments) (classes : Classes) (k : Kinded) (p : WrittenKind) → fits classes k.kind p ≡ true
    → (allowed ≡ Given → p ≡ Known kind.Text → is_given_text k.body ≡ true) → is_argument allowed classes k p ≡ true
fits_argument Given classes k p e h = by_word classes k p e (h refl)
fits_argument Computed classes k p e h = and_true (fits classes k.kind p) true e refl

-- a token that is read is given
token_given : (at : Place) (part : ℕ) (k : Kind) (e : body.Expr) (ks : List Kinded) (m : Kinded) → accessed at (accessor.Token part k) e ks ≡ Is m → is_given_text m.body ≡ true
token_given at part k e [] m f = let same : kinded at (known k) (body.TokenOf e part) ≡ m = cc in ap (λ (z : Kinded). is_given_text z.body) (sym same)
token_given at part k e (x ∷ ks) m f = absurd cc

-- what was made of a part came of one that was found
pub made : {A B : Type 0} (f : A → Judgement B) (j : Judgement A) (b : B) → and_then f j ≡ Is b → (a : A) × (j ≡ Is a) × (f a ≡ Is b)
made f (Is a) b e = (a, refl, e)
made f (Wrong c at) b e = absurd cc

-- the table ------------------------------------------------------------------------------------------------------------

-- the arguments are judged, and fit
abbrev AreJudged : Scope → written.Exprs → List WrittenKind → Type 0
AreJudged s es ps = (ks : List Kinded) × (judged_all s es ≡ Is ks) × (nat_eq (length ks) (length ps) ≡ true)
    × (misfit s.arguments s.classes ks ps ≡ None)

-- asked of whatever has that kind, it comes to the other one
abbrev AreAsked : Scope → ExprKind → List ℕ → written.Exprs → ExprKind → Type 0
AreAsked s j name es k = (ks : List Kinded) × (judged_all s es ≡ Is ks) × ((at : Place) (r : Kinded) → r.kind ≡ j → Comes (called s at name r ks) k)

abbrev IsListed : Scope → written.Expr → ℕ → Type 0
IsListed s list c = (fold : Place) → (l : Listed) × (part : ℕ) × (list_or fold (judged s list) (judged_list s fold list) ≡ Is l) × (l.part ≡ Some part) × (l.class ≡ c)

one_more : (s : Scope) (e : written.Expr) (es : written.Exprs) (k : Kinded) (ks : List Kinded) → judged s e ≡ Is k → judged_all s es ≡ Is ks → judged_all s (written.expr e es) ≡ Is (k ∷ ks)
one_more s e es k ks f g = ap (and_then (λ k. and_then (λ ks. Is (k ∷ ks)) (judged_all s es))) f ∙ ap (and_then (λ ks. Is (k ∷ ks))) g

more_args : (m n : ℕ) → nat_eq m n ≡ true → nat_eq (suc m) (suc n) ≡ true
more_args m n e = grind (arith, nat_tests)

mutual
  pub found : {s : Scope} {e : written.Expr} {k : ExprKind} → Gives s e k → Comes (judged s e) k
  found (table.number {at = at} {n = n}) = comes at Int (body.IntLiteral n)
  found (table.text {at = at} {bytes = bytes}) = comes at Text (body.TextLiteral bytes)
  found (table.truth {at = at} {b = b}) = comes at Truth (body.TruthLiteral b)
  found (table.null {at = at}) = comes at Null body.NullLiteral
  found (table.this {s = s} {at = at}) = (this_node s at, refl, refl)
  found (table.name {s = s} {at = at} {name = name} i k e) = names_bound s at name i k e
  found (table.index {s = s} {at = at} {name = name} e f) = names_index s at name e f
  found (table.paren {at = at} g) = let (m, e, f) = found g in comes_by (ap (and_then (placed at)) e) (kinded at m.kind m.body, refl, f)
  found (table.negate {at = at} g) = let (m, e, f) = found g in comes_by (ap (and_then (negation at)) e) (comes_if (is_int m.kind) at Int (body.Negate m.body) (ap is_int f))
  found (table.opposite {at = at} g) = let (m, e, f) = found g in comes_by (ap (and_then (opposite at)) e) (comes_if (is_truth m.kind) at Truth (body.Not m.body) (ap is_truth f))
  found (table.cast {s = s} {at = at} {class = class} c n w g) = let (m, e, f) = found g in
      comes_by (ap (and_then (cast s.classes at class)) e) (casts s.classes at class m c n (ap is_node f ∙ node_true w))
  found (table.instance_of {s = s} {at = at} {class = class} c n w g) = let (m, e, f) = found g in comes_by
      (ap (and_then (tested s.classes at class)) e) (tests s.classes at class m c n (ap is_node f ∙ node_true w))
  found (table.computes {s = s} {at = at} {a = a} {b = b} {o = o} w g h) =
      let (j, e, f) = found g in let (k, i, l) = found h in
      comes_by (ap (and_then (λ j. and_then (joined at o j) (judged s b))) e ∙ ap (and_then (joined at o j)) i) (computes_int w at j k (both_ints j.kind k.kind f l))
  found (table.adds {s = s} {at = at} {a = a} {b = b} g h) =
      let (j, e, f) = found g in let (k, i, l) = found h in
      comes_by (ap (and_then (λ j. and_then (joined at written.Add j) (judged s b))) e ∙ ap (and_then (joined at written.Add j)) i) (adds_int at j k f l)
  found (table.joins {s = s} {at = at} {a = a} {b = b} g h) =
      let (j, e, f) = found g in let (k, i, l) = found h in
      comes_by (ap (and_then (λ j. and_then (joined at written.Add j) (judged s b))) e ∙ ap (and_then (joined at written.Add j)) i) (joins_text at j k f l)
  found (table.joins_int {s = s} {at = at} {a = a} {b = b} g h) =
      let (j, e, f) = found g in let (k, i, l) = found h in
      comes_by (ap (and_then (λ j. and_then (joined at written.Add j) (judged s b))) e ∙ ap (and_then (joined at written.Add j)) i) (joins_int at j k f l)
  found (table.orders {s = s} {at = at} {a = a} {b = b} {o = o} w g h) =
      let (j, e, f) = found g in let (k, i, l) = found h in
      comes_by (ap (and_then (λ j. and_then (joined at o j) (judged s b))) e ∙ ap (and_then (joined at o j)) i) (orders_truth w at j k (both_ints j.kind k.kind f l))
  found (table.compares {s = s} {at = at} {a = a} {b = b} {o = o} w x g h) =
      let (j, e, f) = found g in let (k, i, l) = found h in
      comes_by (ap (and_then (λ j. and_then (joined at o j) (judged s b))) e ∙ ap (and_then (joined at o j)) i)
      (compares_truth w at j k (ap (λ z. are_alike z k.kind) f ∙ ap (are_alike _) l ∙ alike_true x))
  found (table.decides {s = s} {at = at} {a = a} {b = b} {o = o} w g h) =
      let (j, e, f) = found g in let (k, i, l) = found h in
      comes_by (ap (and_then (λ j. and_then (joined at o j) (judged s b))) e ∙ ap (and_then (joined at o j)) i) (decides_truth w at j k (both_truths j.kind k.kind f l))
  found (table.chooses {s = s} {at = at} {c = c} {a = a} {b = b} {m = m} w g h i) =
      let (x, e, f) = found g in let (j, l, n) = found h in let (k, o, p) = found i in
      comes_by (ap (and_then (λ i. and_then (λ j. and_then (chosen s.classes at i j) (judged s b)) (judged s a))) e
      ∙ ap (and_then (λ j. and_then (chosen s.classes at x j) (judged s b))) l
      ∙ ap (and_then (chosen s.classes at x j)) o)
      (chooses_wider s.classes at x j k m f (ap (λ z. wider s.classes z k.kind) n ∙ ap (wider s.classes _) p ∙ wider_some w))
  found (table.call {s = s} {at = at} {name = name} a) = let (ks, e, f) = answers a in comes_by (ap (and_then (called s at name (this_node s at))) e) (f at (this_node s at) refl)
  found (table.call_of {s = s} {at = at} {name = name} {es = es} g a) =
      let (r, e, f) = found g in let (ks, h, i) = answers a in
      comes_by (ap (and_then (λ k. and_then (called s at name k) (judged_all s es))) e ∙ ap (and_then (called s at name r)) h) (i at r f)
  found (table.exists {s = s} {at = at} {name = name} {e = e} {c = c} l g) =
      let (m, part, h, there, i) = lists l at in let (k, f, n) = found g in
      comes_by (ap (and_then (λ l. and_then (folded at written.Exists l) (judged (within s name.text l.class) e))) h
      ∙ ap (λ z. and_then (folded at written.Exists m) (judged (within s name.text z) e)) i
      ∙ ap (and_then (folded at written.Exists m)) f) (folds_truth at m part k there n)
  found (table.first {s = s} {at = at} {name = name} {list = list} {e = e} {c = c} l g) =
      let (m, part, h, there, i) = lists l at in let (k, f, n) = found g in
      subst (Comes (judged s (written.Fold at written.First name list e))) (ap (λ z. Class z) i)
      (comes_by (ap (and_then (λ l. and_then (folded at written.First l) (judged (within s name.text l.class) e))) h
      ∙ ap (λ z. and_then (folded at written.First m) (judged (within s name.text z) e)) i
      ∙ ap (and_then (folded at written.First m)) f) (folds_first at m part k there n))
  found (table.sum {s = s} {at = at} {name = name} {e = e} {c = c} l g) =
      let (m, part, h, there, i) = lists l at in let (k, f, n) = found g in
      comes_by (ap (and_then (λ l. and_then (folded at written.Sum l) (judged (within s name.text l.class) e))) h
      ∙ ap (λ z. and_then (folded at written.Sum m) (judged (within s name.text z) e)) i
      ∙ ap (and_then (folded at written.Sum m)) f) (folds_sum at m part k there n)

  answers : {s : Scope} {j : ExprKind} {name : List ℕ} {es : written.Exprs} {k : ExprKind} → Answers s j name es k → AreAsked s j name es k
  answers (table.equals {s = s} {name = name} {e = e} n g) =
      let (k, f, h) = found g in (
        k ∷ [],
        one_more s e written.no_exprs k [] f refl,
        λ at r is. comes_by (rw n (rw (ap is_text is) (ap (and_then (λ z. of_kind at Truth (body.Equals r.body z)))
            (one_fits is_text at k (ap is_text h))))) (comes at Truth (body.Equals r.body k.body)),
      )
  answers (table.child {s = s} {c = c} {name = name} part b n a) = (
    [],
    refl,
    λ at r is. comes_by
        (by_accessor s at name r [] c (accessor.Child part b) is n a) (comes at (Class b) (body.Child r.body part)),
  )
  answers (table.element {s = s} {c = c} {name = name} {e = e} part b n a g) =
      let (k, f, h) = found g in (
        k ∷ [],
        one_more s e written.no_exprs k [] f refl,
        λ at r is. comes_by (by_accessor s at name r (k ∷ []) c (accessor.Element part b) is n a ∙
            ap (and_then (λ i. of_kind at (Class b) (body.Element r.body part i))) (one_fits is_int at k (ap is_int h)))
            (comes at (Class b) (body.Element r.body part k.body)),
      )
  answers (table.token {s = s} {c = c} {name = name} part k n a) = (
    [],
    refl,
    λ at r is. comes_by
        (by_accessor s at name r [] c (accessor.Token part k) is n a) (comes at (known k) (body.TokenOf r.body part)),
  )
  answers (table.has {s = s} {c = c} {name = name} part n a) = ([], refl, λ at r is. comes_by (by_accessor s at name r [] c (accessor.Has part) is n a) (comes at Truth (body.Has r.body part)))
  answers (table.count {s = s} {c = c} {name = name} part n a) = ([], refl, λ at r is. comes_by (by_accessor s at name r [] c (accessor.Count part) is n a) (comes at Int (body.Count r.body part)))
  answers (table.attribute {s = s} {c = c} {name = name} a d n none declared is_there args) =
      let (ks, e, f, g) = arguments args in (
        ks,
        e,
        λ at r is. comes_by (by_attribute s at name r ks c a d is n none declared is_there
            ∙ ap (and_then (λ es. of_kind at (of_written d.result) (body.Call r.body a es)))
            (fitted_is s.arguments s.classes at ks
            d.parameters f g)) (comes at (of_written d.result) (body.Call r.body a (bodies s.arguments ks))),
      )

  arguments : {s : Scope} {es : written.Exprs} {ps : List WrittenKind} → AreArguments s es ps → AreJudged s es ps
  arguments table.none = ([], refl, refl, refl)
  arguments (table.argument {s = s} {e = e} {es = es} {p = p} {ps = ps} g w t more) =
      let (k, f, h) = found g in
      let (ks, i, l, m) = arguments more in (
        k ∷ ks,
        one_more s e es k ks f i,
        more_args (length ks) (length ps) l,
        rw (fits_argument s.arguments s.classes k p (ap (λ z. fits s.classes z p) h ∙ fits_true w)
            (λ alone is. given (t alone is) k f)) m,
      )

  given : {s : Scope} {e : written.Expr} → IsGiven s e → (m : Kinded) → judged s e ≡ Is m → is_given_text m.body ≡ true
  given (table.literal {at = at} {bytes = bytes}) m f = let same : kinded at Text (body.TextLiteral bytes) ≡ m = cc in ap (λ (z : Kinded). is_given_text z.body) (sym same)
  given (table.parameter {s = s} {at = at} {name = name} i k e) m f =
      let x : Is (kinded at (of_written k) (body.Name i)) ≡ Is m = sym (ap (named_by at (index_eq s.index name)) e) ∙ f in
      let same : kinded at (of_written k) (body.Name i) ≡ m = cc in
      ap (λ (z : Kinded). is_given_text z.body) (sym same)
  given (table.own_token {s = s} {at = at} {name = name} {es = es} part k n a) m f =
      let (ks, g, h) = made (called s at name (this_node s at)) (judged_all s es) m f in
      token_given at part k body.This ks m (sym (by_accessor s at name (this_node s at) ks s.this (accessor.Token part k) refl n a) ∙ h)
  given (table.token_of {s = s} {at = at} {e = e} {name = name} {es = es} c part k d n a) m f =
      let (r, i, j) = found d in
      let x : and_then (called s at name r) (judged_all s es) ≡ Is m = sym (ap (and_then (λ k. and_then (called s at name k) (judged_all s es))) i) ∙ f in
      let (ks, g, h) = made (called s at name r) (judged_all s es) m x in
      token_given at part k r.body ks m (sym (by_accessor s at name r ks c (accessor.Token part k) j n a) ∙ h)
  given (table.parens {s = s} {at = at} {e = e} d) m f =
      let (k, g, h) = made (placed at) (judged s e) m f in
      let same : kinded at k.kind k.body ≡ m = cc in
      ap (λ (z : Kinded). is_given_text z.body) (sym same) ∙ given d k g

  lists : {s : Scope} {list : written.Expr} {c : ℕ} → IsList s list c → IsListed s list c
  lists (table.own_list {s = s} {at = at} {name = name} part c e) fold =
      (record { node = body.This; part = Some part; class = c }, part, ap (λ o. list_by fold at o (called s at name (this_node s at) []) (this_node s at) []) e, refl, refl)
  lists (table.list_of {s = s} {at = at} {e = e} {name = name} b part c g w) fold =
      let (r, i, j) = found g in (
        record { node = r.body; part = Some part; class = c },
        part,
        ap (and_then (λ k. list_called s fold at name k [])) i ∙ ap (λ o. list_by fold at o (called s at name r []) r []) (ap (λ z. list_named s.classes z name) j ∙ w),
        refl,
        refl,
      )
