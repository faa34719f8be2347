-- Typed bodies have formulas of their kinds.
use Rattle.std.proofs.Common.{◌≡◌, ℕ, Bool, true, false, cond, not, ◌&&◌, List, [], ◌∷◌, ◌++◌, Some, refl, sym, ◌∙◌, subst}
use Rattle.std.specs.List.{slice_get, AllByRecursion}
use Rattle.at_model.specs.Run.{Value, Instance, Contents, Run, Gives, Demands, ◌>>=◌}
use Rattle.at_model.specs.Bodies.{Expr, IntLiteral, TruthLiteral, TextLiteral, NullLiteral, This, Name, IndexName, Negate, Arithmetic, Compare, Join, JoinInt, Same, Differ, Equals, InstanceOf, CastTo, Child, Element, Count, Has, TokenOf, First, Sum, SeekFirst, Listed, Only, Union, Contains, FirstOf, SumOf, Gather, Close, Over, Children, Parent, Scope, bound, truth_of, elements_of, drawer_of, nodes_of, eval, eval_all, Passed}
use Rattle.at_model.specs.Rules.{Rules, Kind, Attribute, start_of}
use Rattle.at_model.specs.Rules as kind
use Rattle.at_model.specs.Kinds.{ScopeKinds, HasKind, bound_kinds}
use Rattle.at_model.specs.Kinds as has
use Rattle.at_model.specs.TypedRuns.{ClassAt, Texts, IsTypedRun, IsNodeOf, IsOfKind, IsWellTyped, AreArguments, AreContentsTyped, IsOfScopeKinds}
use Rattle.at_model.specs.Instances.{literals, all_literals}
use Rattle.at_model.proofs.Below.{AreChained, sub_sub}
use Rattle.at_model.proofs.Everywhere.{both_all}
use Rattle.at_model.proofs.of_typing.TypedSteps.{then_typed, either_typed}
use Rattle.at_model.proofs.of_typing.TypedExpressions.{nodes_there, of_node, elements_typed, drawers_typed, bound_scope, typed, all_typed}
use Rattle.at_model.specs.of_fixpoints.Formulas.{Formula, Known, Asks, Both, Either, is_surely, is_known_as, joined, turned, starts_from, demanded, fold_form, two_sides, form}
use Rattle.at_model.specs.of_fixpoints.FormKinds.{IsFormulaOf}

module _ {N : Type 0} (rules : Rules) (lined : AreChained rules.classes) (at : ClassAt N) (Allowed : Texts)
    (look : Contents N) (contents : AreContentsTyped rules.classes at Allowed look) (same : N → N → Bool) where
  -- a formula of booleans
  abbrev F : Formula N → Type 0
  F f = IsFormulaOf rules at Allowed kind.Truth f

  abbrev Typed : {A : Type 0} → (A → Type 0) → Run N A → Type 0
  Typed Q r = IsTypedRun rules at Allowed look Q r

  turned_of : (p : Bool) (v : Value N) → IsOfKind rules.classes at v kind.Truth →
      IsOfKind rules.classes at (turned p v) kind.Truth
  turned_of true v h = h
  turned_of false v h = tt

  cond_of : (b : Bool) (f g : Formula N) → F f → F g → F (cond b f g)
  cond_of true f g x y = x
  cond_of false f g x y = y

  joined_of : (b : Bool) (f g : Formula N) → F f → F g → F (joined b f g)
  joined_of true f g x y =
      cond_of (is_known_as true f) g (cond (is_known_as true g) f (Both f g)) y
      (cond_of (is_known_as true g) f (Both f g) x (x, y))
  joined_of false f g x y =
      cond_of (is_known_as false f) g (cond (is_known_as false g) f (Either f g)) y
      (cond_of (is_known_as false g) f (Either f g) x (x, y))

  fold_of : (p : Bool) (test : N → Run N (Formula N)) (P : N → Type 0) (ns : List N) →
      ((n : N) → P n → Typed F (test n)) → AllByRecursion P ns → Typed F (fold_form p test ns)
  fold_of p test P [] g h = tt
  fold_of p test P (n ∷ ns) g (h, hs) =
      then_typed rules at Allowed look F F (test n) _ (g n h)
      (λ f x. either_typed rules at Allowed look F (is_surely p f) (Gives f) _ x
      (then_typed rules at Allowed look F F (fold_form p test ns) _ (fold_of p test P ns g hs)
      (λ k y. joined_of (not p) f k x y)))

  sides_of : (c : Bool) (r s : Run N (Formula N)) → Typed F r → Typed F s → Typed F (two_sides c r s)
  sides_of c r s g h =
      then_typed rules at Allowed look F F r _ g
      (λ f x. either_typed rules at Allowed look F (is_surely (not c) f) (Gives f) _ x
      (then_typed rules at Allowed look F F s _ h (λ k y. joined_of c f k x y)))

  one_declaration : (a : ℕ) (d e : Attribute) → slice_get rules.attributes a ≡ Some d →
      slice_get rules.attributes a ≡ Some e → d ≡ e
  one_declaration a d e f g = let h : Some d ≡ Some e = sym f ∙ g in cc

  asked_of : (b p : Bool) (i : Instance N) (d : Attribute) → IsWellTyped rules at Allowed i →
      slice_get rules.attributes i.attribute ≡ Some d → d.result ≡ kind.Truth →
      Typed F (demanded (start_of rules) b p i)
  asked_of b p i d w e k =
      either_typed rules at Allowed look F (p && starts_from b (start_of rules i.attribute)) (Gives (Asks i))
      (Demands i (λ v. Gives (Known (turned p v))))
      (w, λ c f. subst (λ (z : Attribute). z.result ≡ kind.Truth) (one_declaration i.attribute d c e f) k)
      (w, λ v its. turned_of p v (subst (λ z. IsOfKind rules.classes at v z) k (its d e)))

  -- what is evaluated as ever
  plain : (s : ScopeKinds) (e : Expr) (k : Kind) → k ≡ kind.Truth → HasKind rules s e k →
      (p : Bool) (scope : Scope N) → AllByRecursion Allowed (literals e) →
      IsOfScopeKinds rules.classes at Allowed s scope →
      Typed F (eval rules.classes same e scope >>= λ v. Gives (Known (turned p v)))
  plain s e k kk x p scope h i =
      then_typed rules at Allowed look (λ v. IsOfKind rules.classes at v k) F (eval rules.classes same e scope)
      (λ v. Gives (Known (turned p v)))
      (typed rules lined at Allowed look contents same s e k x scope h i)
      (λ v z. turned_of p v (subst (λ z. IsOfKind rules.classes at v z) kk z))

  pub form_typed : (s : ScopeKinds) (e : Expr) (k : Kind) → k ≡ kind.Truth → HasKind rules s e k →
      (b p : Bool) (scope : Scope N) → AllByRecursion Allowed (literals e) →
      IsOfScopeKinds rules.classes at Allowed s scope →
      Typed F (form rules.classes same (start_of rules) b p e scope)
  form_typed s e _ kk (has.widened c d sub x) b p scope h i = absurd cc
  form_typed s e _ kk (has.widened_all c d sub x) b p scope h i = absurd cc
  form_typed s _ k kk (has.int_literal n f) b p scope h i =
      plain s (IntLiteral n) k kk (has.int_literal n f) p scope h i
  form_typed s _ k kk (has.truth_literal t) b p scope h i =
      plain s (TruthLiteral t) k kk (has.truth_literal t) p scope h i
  form_typed s _ k kk (has.text_literal bytes) b p scope h i =
      plain s (TextLiteral bytes) k kk (has.text_literal bytes) p scope h i
  form_typed s _ k kk (has.null_literal c) b p scope h i = plain s NullLiteral k kk (has.null_literal c) p scope h i
  form_typed s _ k kk has.this b p scope h i = plain s This k kk has.this p scope h i
  form_typed s _ k kk (has.name n e) b p scope h i = plain s (Name n) k kk (has.name n e) p scope h i
  form_typed s _ k kk (has.index_name e) b p scope h i = plain s IndexName k kk (has.index_name e) p scope h i
  form_typed s _ k kk (has.negate {a = a} x) b p scope h i = plain s (Negate a) k kk (has.negate x) p scope h i
  form_typed s _ k kk (has.opposite {a = a} x) b p scope h i = form_typed s a kind.Truth refl x b (not p) scope h i
  form_typed s _ k kk (has.arithmetic {a = a} {b = c} o x y) b p scope h i =
      plain s (Arithmetic o a c) k kk (has.arithmetic o x y) p scope h i
  form_typed s _ k kk (has.compare {a = a} {b = c} o x y) b p scope h i =
      plain s (Compare o a c) k kk (has.compare o x y) p scope h i
  form_typed s _ k kk (has.join {a = a} {b = c} x y) b p scope h i =
      plain s (Join a c) k kk (has.join x y) p scope h i
  form_typed s _ k kk (has.join_int {a = a} {b = c} x y) b p scope h i =
      plain s (JoinInt a c) k kk (has.join_int x y) p scope h i
  form_typed s _ k kk (has.same {a = a} {b = c} l m alike x y) b p scope h i =
      plain s (Same a c) k kk (has.same l m alike x y) p scope h i
  form_typed s _ k kk (has.differ {a = a} {b = c} l m alike x y) b p scope h i =
      plain s (Differ a c) k kk (has.differ l m alike x y) p scope h i
  form_typed s _ k kk (has.and {a = a} {b = c} x y) b p scope h i =
      sides_of p (form rules.classes same (start_of rules) b p a scope)
      (form rules.classes same (start_of rules) b p c scope)
      (form_typed s a kind.Truth refl x b p scope (both_all Allowed (literals a) (literals c) h).0 i)
      (form_typed s c kind.Truth refl y b p scope (both_all Allowed (literals a) (literals c) h).1 i)
  form_typed s _ k kk (has.or {a = a} {b = c} x y) b p scope h i =
      sides_of (not p) (form rules.classes same (start_of rules) b p a scope)
      (form rules.classes same (start_of rules) b p c scope)
      (form_typed s a kind.Truth refl x b p scope (both_all Allowed (literals a) (literals c) h).0 i)
      (form_typed s c kind.Truth refl y b p scope (both_all Allowed (literals a) (literals c) h).1 i)
  form_typed s _ k kk (has.choose {c = d} {a = a} {b = c} l x y z) b p scope h i =
      let (hd, hac) = both_all Allowed (literals d) (literals a ++ literals c) h in
      let (ha, hc) = both_all Allowed (literals a) (literals c) hac in
      then_typed rules at Allowed look (λ v. IsOfKind rules.classes at v kind.Truth) F
      (eval rules.classes same d scope) _
      (typed rules lined at Allowed look contents same s d kind.Truth x scope hd i)
      (λ v _. either_typed rules at Allowed look F (truth_of v) _ _ (form_typed s a l kk y b p scope ha i)
      (form_typed s c l kk z b p scope hc i))
  form_typed s _ k kk (has.equals {a = a} {b = c} x y) b p scope h i =
      plain s (Equals a c) k kk (has.equals x y) p scope h i
  form_typed s _ k kk (has.instance_of {a = a} c class there x) b p scope h i =
      plain s (InstanceOf a class) k kk (has.instance_of c class there x) p scope h i
  form_typed s _ k kk (has.cast_to {a = a} c class there x) b p scope h i =
      plain s (CastTo class a) k kk (has.cast_to c class there x) p scope h i
  form_typed s _ k kk (has.child {a = a} c part d e x) b p scope h i =
      plain s (Child a part) k kk (has.child c part d e x) p scope h i
  form_typed s _ k kk (has.element {a = a} {i = j} c part d e x y) b p scope h i =
      plain s (Element a part j) k kk (has.element c part d e x y) p scope h i
  form_typed s _ k kk (has.count {a = a} c part d e x) b p scope h i =
      plain s (Count a part) k kk (has.count c part d e x) p scope h i
  form_typed s _ k kk (has.has {a = a} c part d e x) b p scope h i =
      plain s (Has a part) k kk (has.has c part d e x) p scope h i
  form_typed s _ k kk (has.token_of {a = a} c part t e x) b p scope h i =
      plain s (TokenOf a part) k kk (has.token_of c part t e x) p scope h i
  form_typed s _ k kk (has.call {a = a} {es = es} c attribute d e sub x ys) b p scope h i =
      let (ha, hes) = both_all Allowed (literals a) (all_literals es) h in
      then_typed rules at Allowed look (λ v. IsOfKind rules.classes at v (kind.Class c)) F
      (eval rules.classes same a scope) _
      (typed rules lined at Allowed look contents same s a (kind.Class c) x scope ha i) (λ v z.
      then_typed rules at Allowed look (λ vs. AreArguments rules.classes at Allowed vs d.parameters) F
      (eval_all rules.classes same es scope) _
      (all_typed rules lined at Allowed look contents same s es d.parameters ys scope hes i) (λ vs u.
      of_node rules lined at Allowed look contents same F c v
      (λ n. demanded (start_of rules) b p (record { node = n; attribute = attribute; arguments = vs })) z
      (λ n y there below.
      asked_of b p (record { node = n; attribute = attribute; arguments = vs }) d
      (record {
        class = y;
        declaration = d;
        node = there;
        attribute = e;
        declared =
            sub_sub rules.classes lined y c d.class below sub;
        arguments = u;
      }) e kk)))
  form_typed s _ k kk (has.exists {a = a} {e = f} c part d e x y) b p scope h i =
      let (ha, hf) = both_all Allowed (literals a) (literals f) h in
      then_typed rules at Allowed look (λ v. IsOfKind rules.classes at v (kind.Class c)) F
      (eval rules.classes same a scope) _
      (typed rules lined at Allowed look contents same s a (kind.Class c) x scope ha i) (λ v z.
      then_typed rules at Allowed look (AllByRecursion (λ m. IsNodeOf rules.classes at m d)) F (elements_of part v) _
      (elements_typed rules lined at Allowed look contents same c part d v e z) (λ ns all.
      fold_of p (λ n. form rules.classes same (start_of rules) b p f (bound scope n))
      (λ m. IsNodeOf rules.classes at m d) ns
      (λ n there. form_typed (bound_kinds s d) f kind.Truth refl y b p (bound scope n) hf
      (bound_scope rules lined at Allowed look contents same s scope n d i there)) all))
  form_typed s _ k kk (has.first {a = a} {e = f} c part d e x y) b p scope h i =
      plain s (First a part f) k kk (has.first c part d e x y) p scope h i
  form_typed s _ k kk (has.sum {a = a} {e = f} c part d e x y) b p scope h i =
      plain s (Sum a part f) k kk (has.sum c part d e x y) p scope h i
  form_typed s _ k kk (has.listed {a = a} c part d e x) b p scope h i =
      plain s (Listed a part) k kk (has.listed c part d e x) p scope h i
  form_typed s _ k kk (has.only {a = a} c x) b p scope h i =
      plain s (Only a) k kk (has.only c x) p scope h i
  form_typed s _ k kk (has.union {a = a} {b = d} c x y) b p scope h i =
      plain s (Union a d) k kk (has.union c x y) p scope h i
  form_typed s _ k kk (has.contains {a = a} {b = f} c d x y) b p scope h i =
      plain s (Contains a f) k kk (has.contains c d x y) p scope h i
  form_typed s _ k kk (has.any_of {a = a} {e = f} d x y) b p scope h i =
      let (ha, hf) = both_all Allowed (literals a) (literals f) h in
      then_typed rules at Allowed look (λ v. IsOfKind rules.classes at v (kind.Nodes d)) F
      (eval rules.classes same a scope) _
      (typed rules lined at Allowed look contents same s a (kind.Nodes d) x scope ha i) (λ v z.
      fold_of p (λ n. form rules.classes same (start_of rules) b p f (bound scope n))
      (λ m. IsNodeOf rules.classes at m d) (nodes_of v)
      (λ n there. form_typed (bound_kinds s d) f kind.Truth refl y b p (bound scope n) hf
      (bound_scope rules lined at Allowed look contents same s scope n d i there))
      (nodes_there rules lined at Allowed look contents same d v z))
  form_typed s _ k kk (has.first_of {a = a} {e = f} d x y) b p scope h i =
      plain s (Over FirstOf a f) k kk (has.first_of d x y) p scope h i
  form_typed s _ k kk (has.sum_of {a = a} {e = f} d x y) b p scope h i =
      plain s (Over SumOf a f) k kk (has.sum_of d x y) p scope h i
  form_typed s _ k kk (has.gather {a = a} {e = f} c d x y) b p scope h i =
      plain s (Over Gather a f) k kk (has.gather c d x y) p scope h i
  form_typed s _ k kk (has.close {a = a} {e = f} d x y) b p scope h i =
      plain s (Over Close a f) k kk (has.close d x y) p scope h i
  form_typed s _ k kk (has.children {a = a} c d top x) b p scope h i =
      plain s (Children a) k kk (has.children c d top x) p scope h i
  form_typed s _ k kk (has.parent {a = a} c d top x) b p scope h i =
      plain s (Parent a) k kk (has.parent c d top x) p scope h i
  form_typed s _ k kk (has.passed {a = a} l x) b p scope h i =
      plain s (Passed a) k kk (has.passed l x) p scope h i
  form_typed s _ k kk (has.seek_any {a = a} {t = t} {e = f} c part d key e x y z) b p scope h i =
      let (hat, hf) = both_all Allowed (literals a ++ literals t) (literals f) h in
      let (ha, ht) = both_all Allowed (literals a) (literals t) hat in
      then_typed rules at Allowed look (λ v. IsOfKind rules.classes at v (kind.Class c)) F
      (eval rules.classes same a scope) _
      (typed rules lined at Allowed look contents same s a (kind.Class c) x scope ha i) (λ v r.
      then_typed rules at Allowed look (λ v. IsOfKind rules.classes at v kind.Text) F
      (eval rules.classes same t scope) _
      (typed rules lined at Allowed look contents same s t kind.Text y scope ht i) (λ w q.
      then_typed rules at Allowed look (AllByRecursion (λ m. IsNodeOf rules.classes at m d)) F (drawer_of part key v w) _
      (drawers_typed rules lined at Allowed look contents same c part d key v w e r) (λ ns all.
      fold_of p (λ n. form rules.classes same (start_of rules) b p f (bound scope n))
      (λ m. IsNodeOf rules.classes at m d) ns
      (λ n there. form_typed (bound_kinds s d) f kind.Truth refl z b p (bound scope n) hf
      (bound_scope rules lined at Allowed look contents same s scope n d i there)) all)))
  form_typed s _ k kk (has.seek_first {a = a} {t = t} {e = f} c part d key e x y z) b p scope h i =
      plain s (SeekFirst a part key t f) k kk (has.seek_first c part d key e x y z) p scope h i
