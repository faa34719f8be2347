-- What is judged is given by the table.
use Rattle.std.proofs.Common.{◌≡◌, ℕ, suc, Bool, true, false, List, [], ◌∷◌, length, Option, Some, None, refl, sym, ap, ◌∙◌, subst, arith, true≢false}
use Rattle.std.specs.Prelude.{if◌then◌else◌, nat_eq, codes, is_some, option_map, slice_get}
use Rattle.std.specs.Str.{bytes_eq}
use Rattle.std.proofs.lemmas.Bool.Decides.{nat_tests}
use Rattle.at_model.specs.Classes.{Classes, is_sub, class_of_name}
use Rattle.at_model.specs.Bodies as body
use Rattle.at_model.proofs.Options.{both}
use Rattle.at_text.specs.declared.place.Place.{Place}
use Rattle.at_jrag.specs.Syntax.{Word}
use Rattle.at_jrag.specs.Syntax as written
use Rattle.at_kinds.specs.Signatures.{Declared, declared_named}
use Rattle.at_kinds.specs.Accessors.{accessor_named, listed}
use Rattle.at_kinds.specs.Kinds.{known, of_written, is_int, is_truth, is_text, is_node, common_word, is_of_word, fits, only_if, wider_strange, wider, are_ints, are_truths, are_alike}
use Rattle.at_kinds.specs.Judging.{Kinded, Judged, Is, Wrong, and_then, of_kind, kind_if, Scope, bound_to, index_eq, within, index_named, named_by, named, this_node, negation, opposite, computed, text_joined, joined, of_wider, chosen, beside, class_beside, cast, tested, where_fit, one_argument, equal, alone, accessed, is_given_text, is_text_word, is_allowed, is_argument, misfit, bodies_or, fitted, demanded_of, demanded, asked_by, asked_of, called, Listed, list_named, without, list_by, list_called, list_or, nodes_of, no_list, folded, folded_in, folded_over, placed, judged, judged_all, judged_list}
use Rattle.at_kinds.specs.KindTable.{IsNode, AreAlike, Wider, Fits, Computes, Orders, Compares, Decides, Gives, Answers, AreArguments, IsGiven, IsList}
use Rattle.at_kinds.specs.KindTable as table
use Rattle.at_kinds.specs.declared.code.RuleCode.TheVariants as code
use Rattle.at_kinds.specs.declared.arguments.Arguments.{Arguments}
use Rattle.at_kinds.specs.declared.arguments.Arguments.TheVariants.{Given, Computed}
use Rattle.at_rules.specs.declared.body.Kind.{Kind}
use Rattle.at_rules.specs.declared.body.Kind.TheVariants as kind
use Rattle.at_kinds.specs.declared.signatures.WrittenKind.{WrittenKind}
use Rattle.at_kinds.specs.declared.signatures.WrittenKind.TheVariants.{Known, Strange as Nowhere}
use Rattle.at_kinds.specs.declared.accessors.Accessor.{Accessor}
use Rattle.at_kinds.specs.declared.accessors.Accessor.TheVariants as accessor
use Rattle.at_kinds.specs.declared.typing.kinds.ExprKind.{ExprKind}
use Rattle.at_kinds.specs.declared.typing.kinds.ExprKind.TheVariants.{Int, Bool as Truth, Text, Class, Strange, Null}
use Rattle.at_kinds.proofs.TableJudged.{made}

-- kinds ----------------------------------------------------------------------------------------------------------------

int_is : (k : ExprKind) → is_int k ≡ true → k ≡ Int
int_is Int e = refl
int_is k e = absurd (true≢false (sym e))

truth_is : (k : ExprKind) → is_truth k ≡ true → k ≡ Truth
truth_is Truth e = refl
truth_is k e = absurd (true≢false (sym e))

text_is : (k : ExprKind) → is_text k ≡ true → k ≡ Text
text_is Text e = refl
text_is k e = absurd (true≢false (sym e))

node_is : (k : ExprKind) → is_node k ≡ true → IsNode k
node_is (Class c) e = table.node c
node_is (Strange first) e = table.stranger first
node_is Null e = table.nothing
node_is k e = absurd (true≢false (sym e))

alike_is : (j k : ExprKind) → are_alike j k ≡ true → AreAlike j k
alike_is Int k e = subst (AreAlike Int) (sym (int_is k e)) table.ints
alike_is Truth k e = subst (AreAlike Truth) (sym (truth_is k e)) table.truths
alike_is Text k e = absurd (true≢false (sym e))
alike_is (Class c) k e = table.nodes (table.node c) (node_is k e)
alike_is (Strange first) k e = table.nodes (table.stranger first) (node_is k e)
alike_is Null k e = table.nodes table.nothing (node_is k e)

only : (b : Bool) (k m : ExprKind) → only_if b k ≡ Some m → (b ≡ true) × (k ≡ m)
only true k m e = (refl, cc)
only false k m e = absurd cc

upper_is : (classes : Classes) (c b : ℕ) (m : ExprKind) (x y : Bool) → is_sub classes b c ≡ x → is_sub classes c b ≡ y
    → (if x then Some (Class c) else only_if y (Class b)) ≡ Some m → Wider classes (Class c) (Class b) m
upper_is classes c b m true y f g e = let same : Class c ≡ m = cc in subst (Wider classes (Class c) (Class b)) same (table.first c b f)
upper_is classes c b m false true f g e = let same : Class b ≡ m = cc in subst (Wider classes (Class c) (Class b)) same (table.second c b f g)
upper_is classes c b m false false f g e = absurd cc

-- one class that isn't there has one word
same_word : (first second : Option ℕ) (w : ℕ) → common_word first second ≡ Some w → (first ≡ Some w) × (second ≡ Some w)
same_word None second w e = absurd cc
same_word (Some a) None w e = absurd cc
same_word (Some a) (Some b) w e = by_test (nat_eq a b) refl e
  where
    by_test : (t : Bool) → nat_eq a b ≡ t → (if t then Some a else None) ≡ Some w → (Some a ≡ Some w) × (Some b ≡ Some w)
    by_test true f g = let same : a ≡ b = grind (arith, nat_tests) in (g, ap Some (sym same) ∙ g)
    by_test false f g = absurd cc

of_word : (classes : Classes) (first second o : Option ℕ) (m : ExprKind) → common_word first second ≡ o → option_map (λ word. Strange (Some word)) o ≡ Some m
    → Wider classes (Strange first) (Strange second) m
of_word classes first second None m f e = absurd cc
of_word classes first second (Some w) m f e =
    let (x, y) = same_word first second w f in
    let same : Strange (Some w) ≡ m = cc in
    subst (Wider classes (Strange first) (Strange second)) same
    (subst (λ z. Wider classes (Strange z) (Strange second) (Strange (Some w))) (sym x)
    (subst (λ z. Wider classes (Strange (Some w)) (Strange z) (Strange (Some w))) (sym y) (table.strangers w)))

strange_is : (classes : Classes) (first : Option ℕ) (k m : ExprKind) → wider_strange first k ≡ Some m → Wider classes (Strange first) k m
strange_is classes first Null m e = let same : Strange first ≡ m = cc in subst (Wider classes (Strange first) Null) same (table.null_second (table.stranger first))
strange_is classes first (Strange second) m e = of_word classes first second (common_word first second) m refl e
strange_is classes first k m e = absurd cc

wider_is : (classes : Classes) (j k m : ExprKind) → wider classes j k ≡ Some m → Wider classes j k m
wider_is classes Int k m e = let (f, g) = only (is_int k) k m e in subst (Wider classes Int k) g (subst (λ z. Wider classes Int z z) (sym (int_is k f)) table.ints)
wider_is classes Truth k m e = let (f, g) = only (is_truth k) k m e in subst (Wider classes Truth k) g (subst (λ z. Wider classes Truth z z) (sym (truth_is k f)) table.truths)
wider_is classes Text k m e = let (f, g) = only (is_text k) k m e in subst (Wider classes Text k) g (subst (λ z. Wider classes Text z z) (sym (text_is k f)) table.texts)
wider_is classes (Class c) (Class b) m e = upper_is classes c b m (is_sub classes b c) (is_sub classes c b) refl refl e
wider_is classes (Class c) Null m e = let same : Class c ≡ m = cc in subst (Wider classes (Class c) Null) same (table.null_second (table.node c))
wider_is classes (Class c) k m e = absurd cc
wider_is classes (Strange first) k m e = strange_is classes first k m e
wider_is classes Null k m e = let (f, g) = only (is_node k) k m e in subst (Wider classes Null k) g (table.null_first (node_is k f))

within_is : (classes : Classes) (k : ExprKind) (b : ℕ) → fits classes k (Known (kind.Class b)) ≡ true → Fits classes k (Known (kind.Class b))
within_is classes (Class c) b e = table.below c b e
within_is classes Null b e = table.null b
within_is classes k b e = absurd (true≢false (sym e))

nowhere_is : (classes : Classes) (k : ExprKind) (first : Option ℕ) → is_of_word first k ≡ true → Fits classes k (Nowhere first)
nowhere_is classes Null first e = table.null_nowhere first
nowhere_is classes (Strange second) first e = by_word (common_word first second) refl e
  where
    by_word : (o : Option ℕ) → common_word first second ≡ o → is_some o ≡ true → Fits classes (Strange second) (Nowhere first)
    by_word None f g = absurd (true≢false (sym g))
    by_word (Some w) f g =
        let (x, y) = same_word first second w f in
        subst (λ z. Fits classes (Strange second) (Nowhere z)) (sym x) (subst (λ z. Fits classes (Strange z) (Nowhere (Some w))) (sym y) (table.stranger w))
nowhere_is classes k first e = absurd (true≢false (sym e))

fits_is : (classes : Classes) (k : ExprKind) (p : WrittenKind) → fits classes k p ≡ true → Fits classes k p
fits_is classes k (Known kind.Int) e = subst (λ z. Fits classes z (Known kind.Int)) (sym (int_is k e)) table.int
fits_is classes k (Known kind.Bool) e = subst (λ z. Fits classes z (Known kind.Bool)) (sym (truth_is k e)) table.truth
fits_is classes k (Known kind.Text) e = subst (λ z. Fits classes z (Known kind.Text)) (sym (text_is k e)) table.text
fits_is classes k (Known (kind.Class b)) e = within_is classes k b e
fits_is classes k (Nowhere first) e = nowhere_is classes k first e

-- what is found --------------------------------------------------------------------------------------------------------

abbrev kinded : Place → ExprKind → body.Expr → Kinded
kinded at k e = record { at = at; kind = k; body = e }

same_kinded : (a m : Kinded) → Is a ≡ Is m → a ≡ m
same_kinded a m e = cc

kind_of : (at : Place) (k : ExprKind) (b : body.Expr) (m : Kinded) → of_kind at k b ≡ Is m → k ≡ m.kind
kind_of at k b m e = ap (λ (z : Kinded). z.kind) (same_kinded (kinded at k b) m e)

body_of : (at : Place) (k : ExprKind) (b : body.Expr) (m : Kinded) → of_kind at k b ≡ Is m → is_given_text b ≡ is_given_text m.body
body_of at k b m e = ap (λ (z : Kinded). is_given_text z.body) (same_kinded (kinded at k b) m e)

if_kind : (t : Bool) (at : Place) (k : ExprKind) (b : body.Expr) (m : Kinded) → kind_if t at k b ≡ Is m → (t ≡ true) × (k ≡ m.kind)
if_kind true at k b m e = (refl, kind_of at k b m e)
if_kind false at k b m e = absurd cc

if_body : (t : Bool) (at : Place) (k : ExprKind) (b : body.Expr) (m : Kinded) → kind_if t at k b ≡ Is m → is_given_text b ≡ is_given_text m.body
if_body true at k b m e = body_of at k b m e
if_body false at k b m e = absurd cc

ints_are : (j k : ExprKind) → are_ints j k ≡ true → (j ≡ Int) × (k ≡ Int)
ints_are j k e = let (f, g) = both (is_int j) (is_int k) e in (int_is j f, int_is k g)

truths_are : (j k : ExprKind) → are_truths j k ≡ true → (j ≡ Truth) × (k ≡ Truth)
truths_are j k e = let (f, g) = both (is_truth j) (is_truth k) e in (truth_is j f, truth_is k g)

-- operators ------------------------------------------------------------------------------------------------------------

module _ (s : Scope) (at between : Place) (a b : written.Expr) (j k m : Kinded) (ga : Gives s a j.kind) (gb : Gives s b k.kind) where
  abbrev Whole : written.Operator → Type 0
  Whole o = Gives s (written.Binary at o between a b) m.kind

  of_ints : (o : written.Operator) (r : ExprKind) → (Gives s a Int → Gives s b Int → Gives s
      (written.Binary at o between a b) r) → (e : body.Expr) → kind_if (are_ints j.kind k.kind) at r e ≡ Is m → Whole o
  of_ints o r f e is =
      let (t, same) = if_kind (are_ints j.kind k.kind) at r e m is in
      let (x, y) = ints_are j.kind k.kind t in
      subst (Gives s (written.Binary at o between a b)) same (f (subst (Gives s a) x ga) (subst (Gives s b) y gb))

  of_truths : (o : written.Operator) → Decides o → (e : body.Expr) → kind_if (are_truths j.kind k.kind) at Truth e ≡ Is m → Whole o
  of_truths o d e is =
      let (t, same) = if_kind (are_truths j.kind k.kind) at Truth e m is in
      let (x, y) = truths_are j.kind k.kind t in
      subst (Gives s (written.Binary at o between a b)) same (table.decides d (subst (Gives s a) x ga) (subst (Gives s b) y gb))

  of_alike : (o : written.Operator) → Compares o → (e : body.Expr) → kind_if (are_alike j.kind k.kind) at Truth e ≡ Is m → Whole o
  of_alike o d e is =
      let (t, same) = if_kind (are_alike j.kind k.kind) at Truth e m is in
      subst (Gives s (written.Binary at o between a b)) same (table.compares d (alike_is j.kind k.kind t) ga gb)

  of_texts : (r : ExprKind) → k.kind ≡ r → j.kind ≡ Text → text_joined at j.body r k.body ≡ Is m → Whole written.Add
  of_texts Text f x is = subst (Gives s (written.Binary at written.Add between a b)) (kind_of at Text (body.Join j.body k.body) m is) (table.joins (subst (Gives s a) x ga) (subst (Gives s b) f gb))
  of_texts Int f x is = subst (Gives s (written.Binary at written.Add between a b)) (kind_of at Text
      (body.JoinInt j.body k.body) m is) (table.joins_int (subst (Gives s a) x ga) (subst (Gives s b) f gb))
  of_texts r f x is = absurd cc

  of_add : (t : Bool) → is_text j.kind ≡ t → (if t then text_joined at j.body k.kind k.body else computed at body.Add j k) ≡ Is m → Whole written.Add
  of_add true f is = of_texts k.kind refl (text_is j.kind f) is
  of_add false f is = of_ints written.Add Int (λ x y. table.adds x y) (body.Arithmetic body.Add j.body k.body) is

  of_operator : (o : written.Operator) → joined at o j k ≡ Is m → Whole o
  of_operator written.Add is = of_add (is_text j.kind) refl is
  of_operator written.Subtract is = of_ints written.Subtract Int (λ x y. table.computes table.subtract x y) (body.Arithmetic body.Subtract j.body k.body) is
  of_operator written.Multiply is = of_ints written.Multiply Int (λ x y. table.computes table.multiply x y) (body.Arithmetic body.Multiply j.body k.body) is
  of_operator written.Divide is = of_ints written.Divide Int (λ x y. table.computes table.divide x y) (body.Arithmetic body.Divide j.body k.body) is
  of_operator written.Remainder is = of_ints written.Remainder Int (λ x y. table.computes table.remainder x y) (body.Arithmetic body.Remainder j.body k.body) is
  of_operator written.Below is = of_ints written.Below Truth (λ x y. table.orders table.below x y) (body.Compare body.Below j.body k.body) is
  of_operator written.AtMost is = of_ints written.AtMost Truth (λ x y. table.orders table.at_most x y) (body.Compare body.AtMost j.body k.body) is
  of_operator written.Above is = of_ints written.Above Truth (λ x y. table.orders table.above x y) (body.Compare body.Above j.body k.body) is
  of_operator written.AtLeast is = of_ints written.AtLeast Truth (λ x y. table.orders table.at_least x y) (body.Compare body.AtLeast j.body k.body) is
  of_operator written.Same is = of_alike written.Same table.same (body.Same j.body k.body) is
  of_operator written.Differs is = of_alike written.Differs table.differs (body.Differ j.body k.body) is
  of_operator written.And is = of_truths written.And table.and (body.And j.body k.body) is
  of_operator written.Or is = of_truths written.Or table.or (body.Or j.body k.body) is

-- no operator makes a text that is given
joined_text : (at : Place) (a : body.Expr) (r : ExprKind) (b : body.Expr) (m : Kinded) → text_joined at a r b ≡ Is m → is_given_text m.body ≡ false
joined_text at a Text b m is = sym (body_of at Text (body.Join a b) m is)
joined_text at a Int b m is = sym (body_of at Text (body.JoinInt a b) m is)
joined_text at a r b m is = absurd cc

added_given : (at : Place) (j k m : Kinded) (t : Bool) → (if t then text_joined at j.body k.kind k.body else computed at body.Add j k) ≡ Is m → is_given_text m.body ≡ false
added_given at j k m true is = joined_text at j.body k.kind k.body m is
added_given at j k m false is = sym (if_body (are_ints j.kind k.kind) at Int (body.Arithmetic body.Add j.body k.body) m is)

joined_given : (at : Place) (o : written.Operator) (j k m : Kinded) → joined at o j k ≡ Is m → is_given_text m.body ≡ false
joined_given at written.Add j k m is = added_given at j k m (is_text j.kind) is
joined_given at written.Subtract j k m is = sym (if_body (are_ints j.kind k.kind) at Int (body.Arithmetic body.Subtract j.body k.body) m is)
joined_given at written.Multiply j k m is = sym (if_body (are_ints j.kind k.kind) at Int (body.Arithmetic body.Multiply j.body k.body) m is)
joined_given at written.Divide j k m is = sym (if_body (are_ints j.kind k.kind) at Int (body.Arithmetic body.Divide j.body k.body) m is)
joined_given at written.Remainder j k m is = sym (if_body (are_ints j.kind k.kind) at Int (body.Arithmetic body.Remainder j.body k.body) m is)
joined_given at written.Below j k m is = sym (if_body (are_ints j.kind k.kind) at Truth (body.Compare body.Below j.body k.body) m is)
joined_given at written.AtMost j k m is = sym (if_body (are_ints j.kind k.kind) at Truth (body.Compare body.AtMost j.body k.body) m is)
joined_given at written.Above j k m is = sym (if_body (are_ints j.kind k.kind) at Truth (body.Compare body.Above j.body k.body) m is)
joined_given at written.AtLeast j k m is = sym (if_body (are_ints j.kind k.kind) at Truth (body.Compare body.AtLeast j.body k.body) m is)
joined_given at written.Same j k m is = sym (if_body (are_alike j.kind k.kind) at Truth (body.Same j.body k.body) m is)
joined_given at written.Differs j k m is = sym (if_body (are_alike j.kind k.kind) at Truth (body.Differ j.body k.body) m is)
joined_given at written.And j k m is = sym (if_body (are_truths j.kind k.kind) at Truth (body.And j.body k.body) m is)
joined_given at written.Or j k m is = sym (if_body (are_truths j.kind k.kind) at Truth (body.Or j.body k.body) m is)

-- classes and choices --------------------------------------------------------------------------------------------------

beside_is : (at : Place) (k : ExprKind) (o : Option ℕ) (c : ℕ) → beside at k o ≡ Is c → (o ≡ Some c) × IsNode k
beside_is at k None c e = absurd cc
beside_is at k (Some d) c e = by_test (is_node k) refl e
  where
    by_test : (b : Bool) → is_node k ≡ b → (if b then Is d else Wrong code.Kind at) ≡ Is c → (Some d ≡ Some c) × IsNode k
    by_test true f g = (cc, node_is k f)
    by_test false f g = absurd cc

wider_of : (at : Place) (e : body.Expr) (o : Option ExprKind) (m : Kinded) → of_wider at e o ≡ Is m → (o ≡ Some m.kind) × (is_given_text e ≡ is_given_text m.body)
wider_of at e None m is = absurd cc
wider_of at e (Some k) m is = (ap Some (kind_of at k e m is), body_of at k e m is)

chosen_is : (classes : Classes) (at : Place) (c j k m : Kinded) → chosen classes at c j k ≡ Is m → (c.kind ≡ Truth) × Wider classes j.kind k.kind m.kind × (is_given_text m.body ≡ false)
chosen_is classes at c j k m is = by_test (is_truth c.kind) refl is
  where
    by_test : (b : Bool) → is_truth c.kind ≡ b →
        (if b then of_wider at (body.Choose c.body j.body k.body) (wider classes j.kind k.kind) else Wrong code.Kind at)
        ≡ Is m → (c.kind ≡ Truth) × Wider classes j.kind k.kind m.kind × (is_given_text m.body ≡ false)
    by_test true f g =
        let (x, y) = wider_of at (body.Choose c.body j.body k.body) (wider classes j.kind k.kind) m g in
        (truth_is c.kind f, wider_is classes j.kind k.kind m.kind x, sym y)
    by_test false f g = absurd cc

-- names ----------------------------------------------------------------------------------------------------------------

name_is : (s : Scope) (at : Place) (name : List ℕ) (m : Kinded) (o : Option (ℕ × WrittenKind))
    → bound_to s.names name ≡ o → named_by at (index_eq s.index name) o ≡ Is m → Gives s (written.Name at name) m.kind
name_is s at name m (Some b) f is = subst (Gives s (written.Name at name)) (kind_of at (of_written b.1) (body.Name b.0) m is) (table.name b.0 b.1 f)
name_is s at name m None f is = by_index (index_eq s.index name) refl is
  where
    by_index : (b : Bool) → index_eq s.index name ≡ b → index_named at b ≡ Is m → Gives s (written.Name at name) m.kind
    by_index true g h = subst (Gives s (written.Name at name)) (kind_of at Int body.IndexName m h) (table.index f g)
    by_index false g h = absurd cc

name_given : (s : Scope) (at : Place) (name : List ℕ) (m : Kinded) (o : Option (ℕ × WrittenKind))
    → bound_to s.names name ≡ o → named_by at (index_eq s.index name) o ≡ Is m → is_given_text m.body ≡ true
    → IsGiven s (written.Name at name)
name_given s at name m (Some b) f is t = table.parameter b.0 b.1 f
name_given s at name m None f is t = by_index (index_eq s.index name) is
  where
    by_index : (b : Bool) → index_named at b ≡ Is m → IsGiven s (written.Name at name)
    by_index true h = absurd (true≢false (sym t ∙ sym (body_of at Int body.IndexName m h)))
    by_index false h = absurd cc

-- calls ----------------------------------------------------------------------------------------------------------------

-- the arguments are judged, and the table gives each its kind
data Each (s : Scope) : written.Exprs → List Kinded → Type 0 where
  no_more : Each s written.no_exprs []
  more : {e : written.Expr} {es : written.Exprs} {ks : List Kinded} (k : Kinded) → Gives s e k.kind → (is_given_text k.body ≡ true → IsGiven s e) → Each s es ks → Each s (written.expr e es) (k ∷ ks)

only_one : (test : ExprKind → Bool) (at : Place) (ks : List Kinded) (b : body.Expr) → one_argument test at ks ≡ Is b → (k : Kinded) × (ks ≡ k ∷ []) × (test k.kind ≡ true)
only_one test at [] b e = absurd cc
only_one test at (k ∷ l ∷ ks) b e = absurd cc
only_one test at (k ∷ []) b e = by_test (test k.kind) refl e
  where
    by_test : (t : Bool) → test k.kind ≡ t → where_fit t k ≡ Is b → (x : Kinded) × (k ∷ [] ≡ x ∷ []) × (test x.kind ≡ true)
    by_test true f g = (k, refl, f)
    by_test false f g = absurd cc

none_there : (at : Place) (ks : List Kinded) (j : Judged) (m : Kinded) → alone at ks j ≡ Is m → (ks ≡ []) × (j ≡ Is m)
none_there at [] j m e = (refl, e)
none_there at (k ∷ ks) j m e = absurd cc

each_none : (s : Scope) (es : written.Exprs) (ks : List Kinded) → Each s es ks → ks ≡ [] → es ≡ written.no_exprs
each_none s _ _ no_more e = refl
each_none s _ _ (more k g t rest) e = absurd cc

first_of : (k : Kinded) (ks : List Kinded) (x : Kinded) → k ∷ ks ≡ x ∷ [] → (k ≡ x) × (ks ≡ [])
first_of k ks x e = (cc, cc)

-- one argument, of that kind
each_one : (s : Scope) (es : written.Exprs) (ks : List Kinded) (x : Kinded) → Each s es ks → ks ≡ x ∷ [] → (e : written.Expr) × (es ≡ written.expr e written.no_exprs) × Gives s e x.kind
each_one s _ _ x no_more f = absurd cc
each_one s _ _ x (more {e = e} {es = es} {ks = ks} k g t rest) f =
    let (same, none) = first_of k ks x f in
    (e, ap (written.expr e) (each_none s es ks rest none), subst (λ (z : Kinded). Gives s e z.kind) same g)

less_args : (m n : ℕ) → nat_eq (suc m) (suc n) ≡ true → nat_eq m n ≡ true
less_args m n e = grind (arith, nat_tests)

no_args : (n : ℕ) → nat_eq 0 (suc n) ≡ true → ⊥
no_args n e = grind (arith, nat_tests)

args_no : (n : ℕ) → nat_eq (suc n) 0 ≡ true → ⊥
args_no n e = grind (arith, nat_tests)

argument_is : (allowed : Arguments) (classes : Classes) (k : Kinded) (p : WrittenKind)
    → is_argument allowed classes k p ≡ true
    → Fits classes k.kind p × (allowed ≡ Given → p ≡ Known kind.Text → is_given_text k.body ≡ true)
argument_is allowed classes k p e =
    let (f, g) = both (fits classes k.kind p) (is_allowed allowed p k.body) e in (
      fits_is classes k.kind p f,
      λ alone is. subst (λ z. (if is_text_word z then is_given_text k.body else true) ≡ true) is
          (subst (λ a. is_allowed a p k.body ≡ true) alone g),
    )

fitting : (s : Scope) (es : written.Exprs) (ks : List Kinded) (ps : List WrittenKind) → Each s es ks
    → nat_eq (length ks) (length ps) ≡ true → misfit s.arguments s.classes ks ps ≡ None → AreArguments s es ps
fitting s _ _ [] no_more e f = table.none
fitting s _ _ (p ∷ ps) no_more e f = absurd (no_args (length ps) e)
fitting s _ _ [] (more {ks = ks} k g t rest) e f = absurd (args_no (length ks) e)
fitting s _ _ (p ∷ ps) (more {e = x} {es = es} {ks = ks} k g t rest) e f =
    by_test (is_argument s.arguments s.classes k p) refl f (fitting s es ks ps rest
    (less_args (length ks) (length ps) e))
  where
    by_test : (b : Bool) → is_argument s.arguments s.classes k p ≡ b
        → (if b then misfit s.arguments s.classes ks ps else Some k.at) ≡ None
        → (misfit s.arguments s.classes ks ps ≡ None → AreArguments s es ps)
        → AreArguments s (written.expr x es) (p ∷ ps)
    by_test true h i go = let (w, is) = argument_is s.arguments s.classes k p h in
        table.argument g w (λ alone y. t (is alone y)) (go i)
    by_test false h i go = absurd cc

bodies_are : (allowed : Arguments) (ks : List Kinded) (o : Option Place) (b : body.Exprs)
    → bodies_or allowed ks o ≡ Is b → o ≡ None
bodies_are allowed ks None b e = refl
bodies_are allowed ks (Some at) b e = absurd cc

fitted_are : (allowed : Arguments) (classes : Classes) (at : Place) (ks : List Kinded) (ps : List WrittenKind)
    (b : body.Exprs)
    → fitted allowed classes at ks ps ≡ Is b → (nat_eq (length ks) (length ps) ≡ true)
    × (misfit allowed classes ks ps ≡ None)
fitted_are allowed classes at ks ps b e = by_test (nat_eq (length ks) (length ps)) refl e
  where
    by_test : (t : Bool) → nat_eq (length ks) (length ps) ≡ t
        → (if t then bodies_or allowed ks (misfit allowed classes ks ps) else
        Wrong code.Argument at) ≡ Is b → (nat_eq (length ks) (length ps) ≡ true) × (misfit allowed classes ks ps ≡ None)
    by_test true f g = (f, bodies_are allowed ks (misfit allowed classes ks ps) b g)
    by_test false f g = absurd cc

module _ (s : Scope) (at : Place) (name : List ℕ) (es : written.Exprs) (ks : List Kinded) (m : Kinded) (each : Each s es ks) where
  -- an accessor of a node
  of_accessor : (c : ℕ) (e : body.Expr) → bytes_eq name (codes "equals") ≡ false → (a : Accessor)
      → accessor_named s.classes c name ≡ Some a → accessed at a e ks ≡ Is m → Answers s (Class c) name es m.kind
  of_accessor c e n (accessor.Child part b) f is =
      let (none, g) = none_there at ks (of_kind at (Class b) (body.Child e part)) m is in
      subst (λ z. Answers s (Class c) name z m.kind) (sym (each_none s es ks each none)) (subst (Answers s (Class c)
      name written.no_exprs) (kind_of at (Class b) (body.Child e part) m g) (table.child part b n f))
  of_accessor c e n (accessor.Element part b) f is =
      let (i, g, h) = made (λ i. of_kind at (Class b) (body.Element e part i)) (one_argument is_int at ks) m is in
      let (k, one, t) = only_one is_int at ks i g in
      let (x, same, gives) = each_one s es ks k each one in
      subst (λ z. Answers s (Class c) name z m.kind) (sym same)
      (subst (Answers s (Class c) name (written.expr x written.no_exprs)) (kind_of at (Class b)
      (body.Element e part i) m h) (table.element part b n f (subst (Gives s x) (int_is k.kind t) gives)))
  of_accessor c e n (accessor.Token part k) f is =
      let (none, g) = none_there at ks (of_kind at (known k) (body.TokenOf e part)) m is in
      subst (λ z. Answers s (Class c) name z m.kind) (sym (each_none s es ks each none)) (subst (Answers s (Class c)
      name written.no_exprs) (kind_of at (known k) (body.TokenOf e part) m g) (table.token part k n f))
  of_accessor c e n (accessor.Has part) f is =
      let (none, g) = none_there at ks (of_kind at Truth (body.Has e part)) m is in
      subst (λ z. Answers s (Class c) name z m.kind) (sym (each_none s es ks each none)) (subst (Answers s (Class c)
      name written.no_exprs) (kind_of at Truth (body.Has e part) m g) (table.has part n f))
  of_accessor c e n (accessor.Count part) f is =
      let (none, g) = none_there at ks (of_kind at Int (body.Count e part)) m is in
      subst (λ z. Answers s (Class c) name z m.kind) (sym (each_none s es ks each none)) (subst (Answers s (Class c)
      name written.no_exprs) (kind_of at Int (body.Count e part) m g) (table.count part n f))
  of_accessor c e n (accessor.List part) f is = let (none, g) = none_there at ks (Wrong code.Kind at) m is in absurd cc

  of_declared : (c a : ℕ) (e : body.Expr) → bytes_eq name (codes "equals") ≡ false → accessor_named s.classes c name
      ≡ None → declared_named s.classes s.declared c name ≡ Some a → (o : Option Declared) → slice_get s.declared a ≡ o
      → demanded_of s.arguments s.classes at a o e ks ≡ Is m → Answers s (Class c) name es m.kind
  of_declared c a e n none named None f is = absurd cc
  of_declared c a e n none named (Some d) f is =
      let (b, g, h) = made (λ es. of_kind at (of_written d.result) (body.Call e a es))
      (fitted s.arguments s.classes at ks d.parameters) m is in
      let (count, fit) = fitted_are s.arguments s.classes at ks d.parameters b g in
      subst (Answers s (Class c) name es) (kind_of at (of_written d.result) (body.Call e a b) m h) (table.attribute a d n none named f (fitting s es ks d.parameters each count fit))

  of_attribute : (c : ℕ) (e : body.Expr) → bytes_eq name (codes "equals") ≡ false
      → accessor_named s.classes c name ≡ None → (o : Option ℕ) → declared_named s.classes s.declared c name ≡ o
      → demanded s at o e ks ≡ Is m → Answers s (Class c) name es m.kind
  of_attribute c e n none None f is = absurd cc
  of_attribute c e n none (Some a) f is = of_declared c a e n none f (slice_get s.declared a) refl is

  of_node : (c : ℕ) (e : body.Expr) → bytes_eq name (codes "equals") ≡ false → (o : Option Accessor)
      → accessor_named s.classes c name ≡ o → asked_by s at (declared_named s.classes s.declared c name) o e ks ≡ Is m
      → Answers s (Class c) name es m.kind
  of_node c e n (Some a) f is = of_accessor c e n a f is
  of_node c e n None f is = of_attribute c e n f (declared_named s.classes s.declared c name) refl is

  of_kind_asked : (r : ExprKind) (e : body.Expr) → bytes_eq name (codes "equals") ≡ false → asked_of s at name r e ks ≡ Is m → Answers s r name es m.kind
  of_kind_asked (Class c) e n is = of_node c e n (accessor_named s.classes c name) refl is
  of_kind_asked (Strange first) e n is = absurd cc
  of_kind_asked r e n is = absurd cc

  of_equal : (r : Kinded) → bytes_eq name (codes "equals") ≡ true → (t : Bool) → is_text r.kind ≡ t
      → (if t then and_then (λ e. of_kind at Truth (body.Equals r.body e)) (one_argument is_text at ks) else Wrong
      code.Kind at) ≡ Is m → Answers s r.kind name es m.kind
  of_equal r n true f is =
      let (b, g, h) = made (λ e. of_kind at Truth (body.Equals r.body e)) (one_argument is_text at ks) m is in
      let (k, one, t) = only_one is_text at ks b g in
      let (x, same, gives) = each_one s es ks k each one in
      subst (λ z. Answers s r.kind name z m.kind) (sym same)
      (subst (λ z. Answers s z name (written.expr x written.no_exprs) m.kind) (sym (text_is r.kind f))
      (subst (Answers s Text name (written.expr x written.no_exprs)) (kind_of at Truth (body.Equals r.body b) m h) (table.equals n (subst (Gives s x) (text_is k.kind t) gives))))
  of_equal r n false f is = absurd cc

  of_called : (r : Kinded) → (b : Bool) → bytes_eq name (codes "equals") ≡ b → (if b then equal at r ks else asked_of s at name r.kind r.body ks) ≡ Is m → Answers s r.kind name es m.kind
  of_called r true n is = of_equal r n (is_text r.kind) refl is
  of_called r false n is = of_kind_asked r.kind r.body n is

-- what of a call is given is a token -----------------------------------------------------------------------------------

abbrev IsToken : Scope → List ℕ → ExprKind → Type 0
IsToken s name r = (c part : ℕ) × (k : Kind) × (r ≡ Class c) × (bytes_eq name (codes "equals") ≡ false) × (accessor_named s.classes c name ≡ Some (accessor.Token part k))

not_given : {A : Type 0} (b : body.Expr) (m : Kinded) → is_given_text b ≡ is_given_text m.body → is_given_text b ≡ false → is_given_text m.body ≡ true → A
not_given b m e f t = absurd (true≢false (sym t ∙ sym e ∙ f))

module _ (s : Scope) (at : Place) (name : List ℕ) (ks : List Kinded) (m : Kinded) (t : is_given_text m.body ≡ true) where
  token_by : (c : ℕ) (e : body.Expr) → bytes_eq name (codes "equals") ≡ false → (a : Accessor) → accessor_named s.classes c name ≡ Some a → accessed at a e ks ≡ Is m → IsToken s name (Class c)
  token_by c e n (accessor.Child part b) f is = let (none, g) = none_there at ks (of_kind at (Class b)
      (body.Child e part)) m is in not_given (body.Child e part) m (body_of at (Class b) (body.Child e part) m g) refl t
  token_by c e n (accessor.Element part b) f is = let (i, g, h) =
      made (λ i. of_kind at (Class b) (body.Element e part i)) (one_argument is_int at ks) m is in
      not_given (body.Element e part i) m (body_of at (Class b) (body.Element e part i) m h) refl t
  token_by c e n (accessor.Token part k) f is = (c, part, k, refl, n, f)
  token_by c e n (accessor.Has part) f is = let (none, g) = none_there at ks (of_kind at Truth (body.Has e part)) m is in not_given (body.Has e part) m (body_of at Truth (body.Has e part) m g) refl t
  token_by c e n (accessor.Count part) f is = let (none, g) = none_there at ks (of_kind at Int (body.Count e part)) m
      is in not_given (body.Count e part) m (body_of at Int (body.Count e part) m g) refl t
  token_by c e n (accessor.List part) f is = let (none, g) = none_there at ks (Wrong code.Kind at) m is in absurd cc

  token_demanded : (c a : ℕ) (e : body.Expr) (o : Option Declared)
      → demanded_of s.arguments s.classes at a o e ks ≡ Is m → IsToken s name (Class c)
  token_demanded c a e None is = absurd cc
  token_demanded c a e (Some d) is = let (b, g, h) =
      made (λ es. of_kind at (of_written d.result) (body.Call e a es))
      (fitted s.arguments s.classes at ks d.parameters) m is in
      not_given (body.Call e a b) m (body_of at (of_written d.result) (body.Call e a b) m h) refl t

  token_attribute : (c : ℕ) (e : body.Expr) (o : Option ℕ) → demanded s at o e ks ≡ Is m → IsToken s name (Class c)
  token_attribute c e None is = absurd cc
  token_attribute c e (Some a) is = token_demanded c a e (slice_get s.declared a) is

  token_node : (c : ℕ) (e : body.Expr) → bytes_eq name (codes "equals") ≡ false → (o : Option Accessor)
      → accessor_named s.classes c name ≡ o → asked_by s at (declared_named s.classes s.declared c name) o e ks ≡ Is m
      → IsToken s name (Class c)
  token_node c e n (Some a) f is = token_by c e n a f is
  token_node c e n None f is = token_attribute c e (declared_named s.classes s.declared c name) is

  token_kind : (r : ExprKind) (e : body.Expr) → bytes_eq name (codes "equals") ≡ false → asked_of s at name r e ks ≡ Is m → IsToken s name r
  token_kind (Class c) e n is = token_node c e n (accessor_named s.classes c name) refl is
  token_kind (Strange first) e n is = absurd cc
  token_kind r e n is = absurd cc

  token_equal : (r : Kinded) (b : Bool) → (if b then and_then (λ e. of_kind at Truth (body.Equals r.body e)) (one_argument is_text at ks) else Wrong code.Kind at) ≡ Is m → IsToken s name r.kind
  token_equal r true is = let (b, g, h) = made (λ e. of_kind at Truth (body.Equals r.body e)) (one_argument is_text at
      ks) m is in not_given (body.Equals r.body b) m (body_of at Truth (body.Equals r.body b) m h) refl t
  token_equal r false is = absurd cc

  token_called : (r : Kinded) (b : Bool) → bytes_eq name (codes "equals") ≡ b → (if b then equal at r ks else asked_of s at name r.kind r.body ks) ≡ Is m → IsToken s name r.kind
  token_called r true n is = token_equal r (is_text r.kind) is
  token_called r false n is = token_kind r.kind r.body n is

-- folds ----------------------------------------------------------------------------------------------------------------

list_kind : (classes : Classes) (r : ExprKind) (name : List ℕ) (p : ℕ × ℕ) → list_named classes r name ≡ Some p → (c : ℕ) × (r ≡ Class c) × (listed classes c name ≡ Some p)
list_kind classes (Class c) name p e = (c, refl, e)
list_kind classes r name p e = absurd cc

without_is : (at : Place) (ks : List Kinded) (x l : Listed) → without at ks x ≡ Is l → (ks ≡ []) × (x ≡ l)
without_is at [] x l e = (refl, cc)
without_is at (k ∷ ks) x l e = absurd cc

-- what is no list has no component
no_part : {A : Type 0} (fold : Place) (k : ExprKind) (e : body.Expr) (l : Listed) (part : ℕ) → nodes_of fold k e ≡ Is l → l.part ≡ Some part → A
no_part fold (Class c) e l part f g =
    let same : record { node = e; part = None; class = c } ≡ l = cc in
    let x : None ≡ Some part = ap (λ (z : Listed). z.part) same ∙ g in absurd cc
no_part fold k e l part f g = absurd cc

no_listed : {A : Type 0} (fold : Place) (j : Judged) (l : Listed) (part : ℕ) → and_then (no_list fold) j ≡ Is l → l.part ≡ Some part → A
no_listed fold (Is k) l part e f = no_part fold k.kind k.body l part e f
no_listed fold (Wrong c at) l part e f = absurd cc

list_is : (classes : Classes) (fold at : Place) (name : List ℕ) (call : Judged) (r : Kinded) (ks : List Kinded) (l : Listed) (part : ℕ) (o : Option (ℕ × ℕ)) → list_named classes r.kind name ≡ o
    → list_by fold at o call r ks ≡ Is l → l.part ≡ Some part → (c part : ℕ) × (r.kind ≡ Class c) × (listed classes c name ≡ Some (part, l.class)) × (ks ≡ [])
list_is classes fold at name call r ks l part None f is there = no_listed fold call l part is there
list_is classes fold at name call r ks l part (Some p) f is there =
    let (none, same) = without_is at ks (record { node = r.body; part = Some p.0; class = p.1 }) l is in
    let (c, g, h) = list_kind classes r.kind name p f in
    (c, p.0, g, subst (λ (z : Listed). listed classes c name ≡ Some (p.0, z.class)) same h, none)

-- a fold goes over a list alone
folded_is : (at : Place) (form : written.FoldForm) (l : Listed) (k m : Kinded) (o : Option ℕ) → l.part ≡ o → folded_in at form l o k ≡ Is m
    → (part : ℕ) × (l.part ≡ Some part) × (folded_over at form l part k ≡ Is m)
folded_is at form l k m None f e = absurd cc
folded_is at form l k m (Some part) f e = (part, f, e)

fold_is : (s : Scope) (form : written.FoldForm) (at : Place) (name : Word) (list e : written.Expr) (l : Listed) (part : ℕ) (k m : Kinded)
    → folded_over at form l part k ≡ Is m → IsList s list l.class → Gives (within s name.text l.class) e k.kind
    → Gives s (written.Fold at form name list e) m.kind
fold_is s written.Exists at name list e l part k m i x g =
    let (t, same) = if_kind (is_truth k.kind) at Truth (body.Exists l.node part k.body) m i in
    subst (Gives s (written.Fold at written.Exists name list e)) same (table.exists x (subst (Gives (within s name.text l.class) e) (truth_is k.kind t) g))
fold_is s written.First at name list e l part k m i x g =
    let (t, same) = if_kind (is_truth k.kind) at (Class l.class) (body.First l.node part k.body) m i in
    subst (Gives s (written.Fold at written.First name list e)) same (table.first x (subst (Gives (within s name.text l.class) e) (truth_is k.kind t) g))
fold_is s written.Sum at name list e l part k m i x g =
    let (t, same) = if_kind (is_int k.kind) at Int (body.Sum l.node part k.body) m i in
    subst (Gives s (written.Fold at written.Sum name list e)) same (table.sum x (subst (Gives (within s name.text l.class) e) (int_is k.kind t) g))

-- and makes no text that is given
fold_given : (form : written.FoldForm) (at : Place) (l : Listed) (part : ℕ) (k m : Kinded) → folded_over at form l part k ≡ Is m → is_given_text m.body ≡ false
fold_given written.Exists at l part k m i = sym (if_body (is_truth k.kind) at Truth (body.Exists l.node part k.body) m i)
fold_given written.First at l part k m i = sym (if_body (is_truth k.kind) at (Class l.class) (body.First l.node part k.body) m i)
fold_given written.Sum at l part k m i = sym (if_body (is_int k.kind) at Int (body.Sum l.node part k.body) m i)

no_exprs_judged : (s : Scope) (es : written.Exprs) (ks : List Kinded) → judged_all s es ≡ Is ks → ks ≡ [] → es ≡ written.no_exprs
no_exprs_judged s written.no_exprs ks e f = refl
no_exprs_judged s (written.expr e es) ks g f =
    let (k, h, i) = made (λ k. and_then (λ ks. Is (k ∷ ks)) (judged_all s es)) (judged s e) ks g in
    let (ls, j, n) = made (λ ks. Is (k ∷ ks)) (judged_all s es) ks i in
    absurd (none k ls n f)
  where
    none : (k : Kinded) (ls : List Kinded) → Is (k ∷ ls) ≡ Is ks → ks ≡ [] → ⊥
    none k ls e f = let y : Is (k ∷ ls) ≡ Is [] = e ∙ ap Is f in cc

-- ----------------------------------------------------------------------------------------------------------------------

mutual
  pub tabled : (s : Scope) (e : written.Expr) (m : Kinded) → judged s e ≡ Is m → Gives s e m.kind
  tabled s (written.Number at n) m is = subst (Gives s (written.Number at n)) (kind_of at Int (body.IntLiteral n) m is) table.number
  tabled s (written.TextLiteral at bytes) m is = subst (Gives s (written.TextLiteral at bytes)) (kind_of at Text (body.TextLiteral bytes) m is) table.text
  tabled s (written.Truth at b) m is = subst (Gives s (written.Truth at b)) (kind_of at Truth (body.TruthLiteral b) m is) table.truth
  tabled s (written.Null at) m is = subst (Gives s (written.Null at)) (kind_of at Null body.NullLiteral m is) table.null
  tabled s (written.This at) m is = subst (Gives s (written.This at)) (ap (λ (z : Kinded). z.kind) (same_kinded (this_node s at) m is)) table.this
  tabled s (written.Name at name) m is = name_is s at name m (bound_to s.names name) refl is
  tabled s (written.Call at name es) m is =
      let (ks, f, g) = made (called s at name (this_node s at)) (judged_all s es) m is in
      table.call (of_called s at name es ks m (all_tabled s es ks f) (this_node s at) (bytes_eq name (codes "equals")) refl g)
  tabled s (written.CallOf at e name es) m is =
      let (r, f, g) = made (λ k. and_then (called s at name k) (judged_all s es)) (judged s e) m is in
      let (ks, h, i) = made (called s at name r) (judged_all s es) m g in
      table.call_of (tabled s e r f) (of_called s at name es ks m (all_tabled s es ks h) r (bytes_eq name (codes "equals")) refl i)
  tabled s (written.Paren at e) m is =
      let (j, f, g) = made (placed at) (judged s e) m is in
      subst (Gives s (written.Paren at e)) (kind_of at j.kind j.body m g) (table.paren (tabled s e j f))
  tabled s (written.Negate at e) m is =
      let (j, f, g) = made (negation at) (judged s e) m is in
      let (t, same) = if_kind (is_int j.kind) at Int (body.Negate j.body) m g in
      subst (Gives s (written.Negate at e)) same (table.negate (subst (Gives s e) (int_is j.kind t) (tabled s e j f)))
  tabled s (written.Not at e) m is =
      let (j, f, g) = made (opposite at) (judged s e) m is in
      let (t, same) = if_kind (is_truth j.kind) at Truth (body.Not j.body) m g in
      subst (Gives s (written.Not at e)) same (table.opposite (subst (Gives s e) (truth_is j.kind t) (tabled s e j f)))
  tabled s (written.Cast at class e) m is =
      let (j, f, g) = made (cast s.classes at class) (judged s e) m is in
      let (c, h, i) = made (λ c. of_kind at (Class c) (body.CastTo c j.body)) (class_beside s.classes at class j) m g in
      let (named, is_one) = beside_is at j.kind (class_of_name s.classes class.text) c h in
      subst (Gives s (written.Cast at class e)) (kind_of at (Class c) (body.CastTo c j.body) m i) (table.cast c named is_one (tabled s e j f))
  tabled s (written.InstanceOf at e behind class) m is =
      let (j, f, g) = made (tested s.classes at class) (judged s e) m is in
      let (c, h, i) = made (λ c. of_kind at Truth (body.InstanceOf j.body c)) (class_beside s.classes at class j) m g in
      let (named, is_one) = beside_is at j.kind (class_of_name s.classes class.text) c h in
      subst (Gives s (written.InstanceOf at e behind class)) (kind_of at Truth (body.InstanceOf j.body c) m i) (table.instance_of c named is_one (tabled s e j f))
  tabled s (written.Binary at o between a b) m is =
      let (j, f, g) = made (λ j. and_then (joined at o j) (judged s b)) (judged s a) m is in
      let (k, h, i) = made (joined at o j) (judged s b) m g in
      of_operator s at between a b j k m (tabled s a j f) (tabled s b k h) o i
  tabled s (written.Choose at c behind a b) m is =
      let (x, f, g) = made (λ i. and_then (λ j. and_then (chosen s.classes at i j) (judged s b)) (judged s a)) (judged s c) m is in
      let (j, h, i) = made (λ j. and_then (chosen s.classes at x j) (judged s b)) (judged s a) m g in
      let (k, n, o) = made (chosen s.classes at x j) (judged s b) m i in
      let (t, w, off) = chosen_is s.classes at x j k m o in
      table.chooses w (subst (Gives s c) t (tabled s c x f)) (tabled s a j h) (tabled s b k n)
  tabled s (written.Fold at form name list e) m is =
      let (l, f, g) = made (λ l. and_then (folded at form l) (judged (within s name.text l.class) e)) (list_or at (judged s list) (judged_list s at list)) m is in
      let (k, h, i) = made (folded at form l) (judged (within s name.text l.class) e) m g in
      let (part, there, n) = folded_is at form l k m l.part refl i in
      fold_is s form at name list e l part k m n (tabled_list s at list l part f there) (tabled (within s name.text l.class) e k h)

  -- a text that is given
  given_is : (s : Scope) (e : written.Expr) (m : Kinded) → judged s e ≡ Is m → is_given_text m.body ≡ true → IsGiven s e
  given_is s (written.Number at n) m is t = not_given (body.IntLiteral n) m (body_of at Int (body.IntLiteral n) m is) refl t
  given_is s (written.TextLiteral at bytes) m is t = table.literal
  given_is s (written.Truth at b) m is t = not_given (body.TruthLiteral b) m (body_of at Truth (body.TruthLiteral b) m is) refl t
  given_is s (written.Null at) m is t = not_given body.NullLiteral m (body_of at Null body.NullLiteral m is) refl t
  given_is s (written.This at) m is t = not_given body.This m (ap (λ (z : Kinded). is_given_text z.body) (same_kinded (this_node s at) m is)) refl t
  given_is s (written.Name at name) m is t = name_given s at name m (bound_to s.names name) refl is t
  given_is s (written.Call at name es) m is t =
      let (ks, f, g) = made (called s at name (this_node s at)) (judged_all s es) m is in
      let (c, part, k, x, n, a) = token_called s at name ks m t (this_node s at) (bytes_eq name (codes "equals")) refl g in
      table.own_token part k n (subst (λ z. accessor_named s.classes z name ≡ Some (accessor.Token part k)) (sym (same_class s.this c x)) a)
    where
      same_class : (b c : ℕ) → Class b ≡ Class c → b ≡ c
      same_class b c e = cc
  given_is s (written.CallOf at e name es) m is t =
      let (r, f, g) = made (λ k. and_then (called s at name k) (judged_all s es)) (judged s e) m is in
      let (ks, h, i) = made (called s at name r) (judged_all s es) m g in
      let (c, part, k, x, n, a) = token_called s at name ks m t r (bytes_eq name (codes "equals")) refl i in
      table.token_of c part k (subst (Gives s e) x (tabled s e r f)) n a
  given_is s (written.Paren at e) m is t =
      let (j, f, g) = made (placed at) (judged s e) m is in
      table.parens (given_is s e j f (body_of at j.kind j.body m g ∙ t))
  given_is s (written.Negate at e) m is t = let (j, f, g) = made (negation at) (judged s e) m is in not_given (body.Negate j.body) m (if_body (is_int j.kind) at Int (body.Negate j.body) m g) refl t
  given_is s (written.Not at e) m is t = let (j, f, g) = made (opposite at) (judged s e) m is in not_given (body.Not j.body) m (if_body (is_truth j.kind) at Truth (body.Not j.body) m g) refl t
  given_is s (written.Cast at class e) m is t =
      let (j, f, g) = made (cast s.classes at class) (judged s e) m is in
      let (c, h, i) = made (λ c. of_kind at (Class c) (body.CastTo c j.body)) (class_beside s.classes at class j) m g in
      not_given (body.CastTo c j.body) m (body_of at (Class c) (body.CastTo c j.body) m i) refl t
  given_is s (written.InstanceOf at e behind class) m is t =
      let (j, f, g) = made (tested s.classes at class) (judged s e) m is in
      let (c, h, i) = made (λ c. of_kind at Truth (body.InstanceOf j.body c)) (class_beside s.classes at class j) m g in
      not_given (body.InstanceOf j.body c) m (body_of at Truth (body.InstanceOf j.body c) m i) refl t
  given_is s (written.Binary at o between a b) m is t =
      let (j, f, g) = made (λ j. and_then (joined at o j) (judged s b)) (judged s a) m is in
      let (k, h, i) = made (joined at o j) (judged s b) m g in
      absurd (true≢false (sym t ∙ joined_given at o j k m i))
  given_is s (written.Choose at c behind a b) m is t =
      let (x, f, g) = made (λ i. and_then (λ j. and_then (chosen s.classes at i j) (judged s b)) (judged s a)) (judged s c) m is in
      let (j, h, i) = made (λ j. and_then (chosen s.classes at x j) (judged s b)) (judged s a) m g in
      let (k, n, o) = made (chosen s.classes at x j) (judged s b) m i in
      let (u, w, off) = chosen_is s.classes at x j k m o in
      absurd (true≢false (sym t ∙ off))
  given_is s (written.Fold at form name list e) m is t =
      let (l, f, g) = made (λ l. and_then (folded at form l) (judged (within s name.text l.class) e)) (list_or at (judged s list) (judged_list s at list)) m is in
      let (k, h, i) = made (folded at form l) (judged (within s name.text l.class) e) m g in
      let (part, there, n) = folded_is at form l k m l.part refl i in
      absurd (true≢false (sym t ∙ fold_given form at l part k m n))

  all_tabled : (s : Scope) (es : written.Exprs) (ks : List Kinded) → judged_all s es ≡ Is ks → Each s es ks
  all_tabled s written.no_exprs ks is = subst (Each s written.no_exprs) (same_list [] ks is) no_more
    where
      same_list : (ls ks : List Kinded) → Is ls ≡ Is ks → ls ≡ ks
      same_list ls ks e = cc
  all_tabled s (written.expr e es) ks is =
      let (k, f, g) = made (λ k. and_then (λ ks. Is (k ∷ ks)) (judged_all s es)) (judged s e) ks is in
      let (ls, h, i) = made (λ ks. Is (k ∷ ks)) (judged_all s es) ks g in
      subst (Each s (written.expr e es)) (same_list (k ∷ ls) ks i) (more k (tabled s e k f) (given_is s e k f) (all_tabled s es ls h))
    where
      same_list : (ls ks : List Kinded) → Is ls ≡ Is ks → ls ≡ ks
      same_list ls ks e = cc

  tabled_list : (s : Scope) (fold : Place) (list : written.Expr) (l : Listed) (part : ℕ) → list_or fold (judged s list) (judged_list s fold list) ≡ Is l → l.part ≡ Some part
      → IsList s list l.class
  tabled_list s fold (written.Call at name es) l part is there =
      let (ks, f, g) = made (list_called s fold at name (this_node s at)) (judged_all s es) l is in
      let (c, p, x, a, none) = list_is s.classes fold at name (called s at name (this_node s at) ks) (this_node s at) ks l part (list_named s.classes (Class s.this) name) refl g there in
      subst (λ z. IsList s (written.Call at name z) l.class) (sym (no_exprs_judged s es ks f none)) (table.own_list p
      l.class (subst (λ z. listed s.classes z name ≡ Some (p, l.class)) (sym (same_class s.this c x)) a))
    where
      same_class : (b c : ℕ) → Class b ≡ Class c → b ≡ c
      same_class b c e = cc
  tabled_list s fold (written.CallOf at e name es) l part is there =
      let (r, f, g) = made (λ k. and_then (list_called s fold at name k) (judged_all s es)) (judged s e) l is in
      let (ks, h, i) = made (list_called s fold at name r) (judged_all s es) l g in
      let (c, p, x, a, none) = list_is s.classes fold at name (called s at name r ks) r ks l part (list_named s.classes r.kind name) refl i there in
      subst (λ z. IsList s (written.CallOf at e name z) l.class) (sym (no_exprs_judged s es ks h none)) (table.list_of c p l.class (subst (Gives s e) x (tabled s e r f)) a)
  tabled_list s fold (written.Number at n) l part is there = no_listed fold (judged s (written.Number at n)) l part is there
  tabled_list s fold (written.TextLiteral at bytes) l part is there = no_listed fold (judged s (written.TextLiteral at bytes)) l part is there
  tabled_list s fold (written.Truth at b) l part is there = no_listed fold (judged s (written.Truth at b)) l part is there
  tabled_list s fold (written.Null at) l part is there = no_listed fold (judged s (written.Null at)) l part is there
  tabled_list s fold (written.This at) l part is there = no_listed fold (judged s (written.This at)) l part is there
  tabled_list s fold (written.Name at name) l part is there = no_listed fold (judged s (written.Name at name)) l part is there
  tabled_list s fold (written.Paren at e) l part is there = no_listed fold (judged s (written.Paren at e)) l part is there
  tabled_list s fold (written.Negate at e) l part is there = no_listed fold (judged s (written.Negate at e)) l part is there
  tabled_list s fold (written.Not at e) l part is there = no_listed fold (judged s (written.Not at e)) l part is there
  tabled_list s fold (written.Cast at class e) l part is there = no_listed fold (judged s (written.Cast at class e)) l part is there
  tabled_list s fold (written.InstanceOf at e behind class) l part is there = no_listed fold (judged s (written.InstanceOf at e behind class)) l part is there
  tabled_list s fold (written.Binary at o between a b) l part is there = no_listed fold (judged s (written.Binary at o between a b)) l part is there
  tabled_list s fold (written.Choose at c behind a b) l part is there = no_listed fold (judged s (written.Choose at c behind a b)) l part is there
  tabled_list s fold (written.Fold at form name list e) l part is there = no_listed fold (judged s (written.Fold at form name list e)) l part is there
