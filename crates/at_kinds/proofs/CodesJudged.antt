-- What is told of an expression is a name that isn't there, a wrong argument or a wrong kind.
use Rattle.std.proofs.Common.{◌≡◌, ℕ, Bool, true, false, List, [], ◌∷◌, length, Option, Some, None}
use Rattle.std.specs.Prelude.{⊤, nat_eq, codes, slice_get, if◌then◌else◌}
use Rattle.std.specs.Str.{bytes_eq}
use Rattle.at_model.specs.Classes.{Classes, class_of_name}
use Rattle.at_model.specs.Bodies as body
use Rattle.at_text.specs.declared.place.Place.{Place}
use Rattle.at_jrag.specs.Syntax.{Word}
use Rattle.at_jrag.specs.Syntax as written
use Rattle.at_kinds.specs.Signatures.{Declared, declared_named}
use Rattle.at_kinds.specs.Accessors.{accessor_named}
use Rattle.at_kinds.specs.Kinds.{known, of_written, is_int, is_truth, is_text, is_node, fits, wider, are_ints, are_truths, are_alike}
use Rattle.at_kinds.specs.Judging.{Kinded, Judgement, Judged, Is, Wrong, and_then, kind_if, of_kind, Scope, bound_to, index_eq, within, index_named, named_by, this_node, negation, opposite, computed, text_joined, joined, of_wider, chosen, beside, cast, tested, only, where_fit, one_argument, equal, alone, accessed, misfit, bodies_or, fitted, demanded_of, demanded, asked_by, asked_of, called, Listed, nodes_of, no_list, list_named, without, list_by, list_called, list_or, folded_over, folded_in, folded, placed, judged, judged_all, judged_list, fitting, body_of}
use Rattle.at_kinds.specs.declared.accessors.Accessor.{Accessor}
use Rattle.at_kinds.specs.declared.accessors.Accessor.TheVariants as accessor
use Rattle.at_kinds.specs.declared.arguments.Arguments.{Arguments}
use Rattle.at_kinds.specs.declared.code.RuleCode.{RuleCode}
use Rattle.at_kinds.specs.declared.code.RuleCode.TheVariants as code
use Rattle.at_kinds.specs.declared.signatures.WrittenKind.{WrittenKind}
use Rattle.at_kinds.specs.declared.typing.kinds.ExprKind.{ExprKind}
use Rattle.at_kinds.specs.declared.typing.kinds.ExprKind.TheVariants.{Int, Bool as Truth, Text, Class, Strange, Null}

-- one of the three that are looked at together
abbrev pub IsOfOne : RuleCode → Type 0
IsOfOne code.UnknownName = ⊤
IsOfOne code.Argument = ⊤
IsOfOne code.Kind = ⊤
IsOfOne c = ⊥

abbrev pub TellsOne : {A : Type 0} → Judgement A → Type 0
TellsOne (Is a) = ⊤
TellsOne (Wrong c at) = IsOfOne c

pub then_tells : {A B : Type 0} (f : A → Judgement B) (j : Judgement A) → TellsOne j → ((a : A) → TellsOne (f a)) → TellsOne (and_then f j)
then_tells f (Is a) t g = g a
then_tells f (Wrong c at) t g = t

-- forms ----------------------------------------------------------------------------------------------------------------

kind_tells : (b : Bool) (at : Place) (k : ExprKind) (e : body.Expr) → TellsOne (kind_if b at k e)
kind_tells true at k e = tt
kind_tells false at k e = tt

index_tells : (at : Place) (b : Bool) → TellsOne (index_named at b)
index_tells at true = tt
index_tells at false = tt

name_tells : (at : Place) (b : Bool) (o : Option (ℕ × WrittenKind)) → TellsOne (named_by at b o)
name_tells at b (Some x) = tt
name_tells at b None = index_tells at b

text_tells : (at : Place) (a : body.Expr) (k : ExprKind) (b : body.Expr) → TellsOne (text_joined at a k b)
text_tells at a Text b = tt
text_tells at a Int b = tt
text_tells at a k b = tt

added_tells : (t : Bool) (at : Place) (j k : Kinded) → TellsOne (if t then text_joined at j.body k.kind k.body else computed at body.Add j k)
added_tells true at j k = text_tells at j.body k.kind k.body
added_tells false at j k = kind_tells (are_ints j.kind k.kind) at Int (body.Arithmetic body.Add j.body k.body)

joined_tells : (at : Place) (o : written.Operator) (j k : Kinded) → TellsOne (joined at o j k)
joined_tells at written.Add j k = added_tells (is_text j.kind) at j k
joined_tells at written.Subtract j k = kind_tells (are_ints j.kind k.kind) at Int (body.Arithmetic body.Subtract j.body k.body)
joined_tells at written.Multiply j k = kind_tells (are_ints j.kind k.kind) at Int (body.Arithmetic body.Multiply j.body k.body)
joined_tells at written.Divide j k = kind_tells (are_ints j.kind k.kind) at Int (body.Arithmetic body.Divide j.body k.body)
joined_tells at written.Remainder j k = kind_tells (are_ints j.kind k.kind) at Int (body.Arithmetic body.Remainder j.body k.body)
joined_tells at written.Below j k = kind_tells (are_ints j.kind k.kind) at Truth (body.Compare body.Below j.body k.body)
joined_tells at written.AtMost j k = kind_tells (are_ints j.kind k.kind) at Truth (body.Compare body.AtMost j.body k.body)
joined_tells at written.Above j k = kind_tells (are_ints j.kind k.kind) at Truth (body.Compare body.Above j.body k.body)
joined_tells at written.AtLeast j k = kind_tells (are_ints j.kind k.kind) at Truth (body.Compare body.AtLeast j.body k.body)
joined_tells at written.Same j k = kind_tells (are_alike j.kind k.kind) at Truth (body.Same j.body k.body)
joined_tells at written.Differs j k = kind_tells (are_alike j.kind k.kind) at Truth (body.Differ j.body k.body)
joined_tells at written.And j k = kind_tells (are_truths j.kind k.kind) at Truth (body.And j.body k.body)
joined_tells at written.Or j k = kind_tells (are_truths j.kind k.kind) at Truth (body.Or j.body k.body)

wider_tells : (at : Place) (e : body.Expr) (o : Option ExprKind) → TellsOne (of_wider at e o)
wider_tells at e None = tt
wider_tells at e (Some k) = tt

chosen_tells : (b : Bool) (at : Place) (e : body.Expr) (o : Option ExprKind) → TellsOne (if b then of_wider at e o else Wrong code.Kind at)
chosen_tells true at e o = wider_tells at e o
chosen_tells false at e o = tt

beside_tells : (at : Place) (k : ExprKind) (o : Option ℕ) → TellsOne (beside at k o)
beside_tells at k None = tt
beside_tells at k (Some c) = by (is_node k)
  where
    by : (b : Bool) → TellsOne {A = ℕ} (if b then Is c else Wrong code.Kind at)
    by true = tt
    by false = tt

-- calls ----------------------------------------------------------------------------------------------------------------

only_tells : (at : Place) (ks : List Kinded) → TellsOne (only at ks)
only_tells at [] = tt
only_tells at (k ∷ []) = tt
only_tells at (k ∷ l ∷ ks) = tt

fit_tells : (b : Bool) (k : Kinded) → TellsOne (where_fit b k)
fit_tells true k = tt
fit_tells false k = tt

one_tells : (test : ExprKind → Bool) (at : Place) (ks : List Kinded) → TellsOne (one_argument test at ks)
one_tells test at ks = then_tells (λ k. where_fit (test k.kind) k) (only at ks) (only_tells at ks) (λ k. fit_tells (test k.kind) k)

equal_tells : (b : Bool) (at : Place) (k : Kinded) (ks : List Kinded)
    → TellsOne (if b then and_then (λ e. of_kind at Truth (body.Equals k.body e)) (one_argument is_text at ks) else Wrong code.Kind at)
equal_tells true at k ks = then_tells (λ e. of_kind at Truth (body.Equals k.body e)) (one_argument is_text at ks) (one_tells is_text at ks) (λ e. tt)
equal_tells false at k ks = tt

alone_tells : (at : Place) (ks : List Kinded) (j : Judged) → TellsOne j → TellsOne (alone at ks j)
alone_tells at [] j t = t
alone_tells at (k ∷ ks) j t = tt

accessed_tells : (at : Place) (a : Accessor) (e : body.Expr) (ks : List Kinded) → TellsOne (accessed at a e ks)
accessed_tells at (accessor.Child part c) e ks = alone_tells at ks (of_kind at (Class c) (body.Child e part)) tt
accessed_tells at (accessor.Element part c) e ks =
    then_tells (λ i. of_kind at (Class c) (body.Element e part i)) (one_argument is_int at ks) (one_tells is_int at ks) (λ i. tt)
accessed_tells at (accessor.Token part k) e ks = alone_tells at ks (of_kind at (known k) (body.TokenOf e part)) tt
accessed_tells at (accessor.Has part) e ks = alone_tells at ks (of_kind at Truth (body.Has e part)) tt
accessed_tells at (accessor.Count part) e ks = alone_tells at ks (of_kind at Int (body.Count e part)) tt
accessed_tells at (accessor.List part) e ks = alone_tells at ks (Wrong code.Kind at) tt

bodies_tell : (allowed : Arguments) (ks : List Kinded) (o : Option Place) → TellsOne (bodies_or allowed ks o)
bodies_tell allowed ks None = tt
bodies_tell allowed ks (Some at) = tt

fitted_tells : (allowed : Arguments) (classes : Classes) (at : Place) (ks : List Kinded) (ps : List WrittenKind)
    → TellsOne (fitted allowed classes at ks ps)
fitted_tells allowed classes at ks ps = by (nat_eq (length ks) (length ps))
  where
    by : (b : Bool)
        → TellsOne (if b then bodies_or allowed ks (misfit allowed classes ks ps) else Wrong code.Argument at)
    by true = bodies_tell allowed ks (misfit allowed classes ks ps)
    by false = tt

demanded_of_tells : (allowed : Arguments) (classes : Classes) (at : Place) (a : ℕ) (o : Option Declared) (e : body.Expr)
    (ks : List Kinded) → TellsOne (demanded_of allowed classes at a o e ks)
demanded_of_tells allowed classes at a None e ks = tt
demanded_of_tells allowed classes at a (Some d) e ks =
    then_tells (λ es. of_kind at (of_written d.result) (body.Call e a es)) (fitted allowed classes at ks d.parameters)
    (fitted_tells allowed classes at ks d.parameters) (λ es. tt)

module _ (s : Scope) (at : Place) (name : List ℕ) (ks : List Kinded) where
  demanded_tells : (o : Option ℕ) (e : body.Expr) → TellsOne (demanded s at o e ks)
  demanded_tells None e = tt
  demanded_tells (Some a) e = demanded_of_tells s.arguments s.classes at a (slice_get s.declared a) e ks

  asked_tells : (c : ℕ) (o : Option Accessor) (e : body.Expr) → TellsOne (asked_by s at (declared_named s.classes s.declared c name) o e ks)
  asked_tells c (Some a) e = accessed_tells at a e ks
  asked_tells c None e = demanded_tells (declared_named s.classes s.declared c name) e

  kind_asked_tells : (k : ExprKind) (e : body.Expr) → TellsOne (asked_of s at name k e ks)
  kind_asked_tells (Class c) e = asked_tells c (accessor_named s.classes c name) e
  kind_asked_tells (Strange first) e = tt
  kind_asked_tells k e = tt

  called_tells : (k : Kinded) → TellsOne (called s at name k ks)
  called_tells k = by (bytes_eq name (codes "equals"))
    where
      by : (b : Bool) → TellsOne (if b then equal at k ks else asked_of s at name k.kind k.body ks)
      by true = equal_tells (is_text k.kind) at k ks
      by false = kind_asked_tells k.kind k.body

-- folds ----------------------------------------------------------------------------------------------------------------

nodes_tell : (fold : Place) (k : ExprKind) (e : body.Expr) → TellsOne (nodes_of fold k e)
nodes_tell fold (Class c) e = tt
nodes_tell fold k e = tt

without_tells : (at : Place) (ks : List Kinded) (l : Listed) → TellsOne (without at ks l)
without_tells at [] l = tt
without_tells at (k ∷ ks) l = tt

list_tells : (fold at : Place) (o : Option (ℕ × ℕ)) (call : Judged) (k : Kinded) (ks : List Kinded) → TellsOne call → TellsOne (list_by fold at o call k ks)
list_tells fold at None call k ks t = then_tells (no_list fold) call t (λ j. nodes_tell fold j.kind j.body)
list_tells fold at (Some l) call k ks t = without_tells at ks (record { node = k.body; part = Some l.0; class = l.1 })

over_tells : (at : Place) (form : written.FoldForm) (l : Listed) (part : ℕ) (k : Kinded) → TellsOne (folded_over at form l part k)
over_tells at written.Exists l part k = kind_tells (is_truth k.kind) at Truth (body.Exists l.node part k.body)
over_tells at written.First l part k = kind_tells (is_truth k.kind) at (Class l.class) (body.First l.node part k.body)
over_tells at written.Sum l part k = kind_tells (is_int k.kind) at Int (body.Sum l.node part k.body)

folded_tells : (at : Place) (form : written.FoldForm) (l : Listed) (o : Option ℕ) (k : Kinded) → TellsOne (folded_in at form l o k)
folded_tells at form l None k = tt
folded_tells at form l (Some part) k = over_tells at form l part k

-- of the list of a fold, where a call is one
abbrev TellOne : Option (Judgement Listed) → Type 0
TellOne None = ⊤
TellOne (Some l) = TellsOne l

list_or_tells : (fold : Place) (whole : Judged) (o : Option (Judgement Listed)) → TellsOne whole → TellOne o → TellsOne (list_or fold whole o)
list_or_tells fold whole None t u = then_tells (no_list fold) whole t (λ j. nodes_tell fold j.kind j.body)
list_or_tells fold whole (Some l) t u = u

-- ----------------------------------------------------------------------------------------------------------------------

mutual
  pub judged_tells : (s : Scope) (e : written.Expr) → TellsOne (judged s e)
  judged_tells s (written.Number at n) = tt
  judged_tells s (written.TextLiteral at bytes) = tt
  judged_tells s (written.Truth at b) = tt
  judged_tells s (written.Null at) = tt
  judged_tells s (written.This at) = tt
  judged_tells s (written.Name at name) = name_tells at (index_eq s.index name) (bound_to s.names name)
  judged_tells s (written.Call at name es) =
      then_tells (called s at name (this_node s at)) (judged_all s es) (all_tell s es) (λ ks. called_tells s at name ks (this_node s at))
  judged_tells s (written.CallOf at e name es) =
      then_tells (λ k. and_then (called s at name k) (judged_all s es)) (judged s e) (judged_tells s e)
      (λ k. then_tells (called s at name k) (judged_all s es) (all_tell s es) (λ ks. called_tells s at name ks k))
  judged_tells s (written.Paren at e) = then_tells (placed at) (judged s e) (judged_tells s e) (λ k. tt)
  judged_tells s (written.Negate at e) =
      then_tells (negation at) (judged s e) (judged_tells s e) (λ k. kind_tells (is_int k.kind) at Int (body.Negate k.body))
  judged_tells s (written.Not at e) =
      then_tells (opposite at) (judged s e) (judged_tells s e) (λ k. kind_tells (is_truth k.kind) at Truth (body.Not k.body))
  judged_tells s (written.Cast at class e) =
      then_tells (cast s.classes at class) (judged s e) (judged_tells s e) (λ k.
      then_tells (λ c. of_kind at (Class c) (body.CastTo c k.body)) (beside at k.kind (class_of_name s.classes class.text)) (beside_tells at k.kind (class_of_name s.classes class.text)) (λ c. tt))
  judged_tells s (written.InstanceOf at e behind class) =
      then_tells (tested s.classes at class) (judged s e) (judged_tells s e) (λ k.
      then_tells (λ c. of_kind at Truth (body.InstanceOf k.body c)) (beside at k.kind (class_of_name s.classes class.text)) (beside_tells at k.kind (class_of_name s.classes class.text)) (λ c. tt))
  judged_tells s (written.Binary at o between a b) =
      then_tells (λ j. and_then (joined at o j) (judged s b)) (judged s a) (judged_tells s a)
      (λ j. then_tells (joined at o j) (judged s b) (judged_tells s b) (λ k. joined_tells at o j k))
  judged_tells s (written.Choose at c behind a b) =
      then_tells (λ i. and_then (λ j. and_then (chosen s.classes at i j) (judged s b)) (judged s a)) (judged s c) (judged_tells s c)
      (λ i. then_tells (λ j. and_then (chosen s.classes at i j) (judged s b)) (judged s a) (judged_tells s a)
      (λ j. then_tells (chosen s.classes at i j) (judged s b) (judged_tells s b)
      (λ k. chosen_tells (is_truth i.kind) at (body.Choose i.body j.body k.body) (wider s.classes j.kind k.kind))))
  judged_tells s (written.Fold at form name list e) =
      then_tells (λ l. and_then (folded at form l) (judged (within s name.text l.class) e)) (list_or at (judged s list) (judged_list s at list))
      (list_or_tells at (judged s list) (judged_list s at list) (judged_tells s list) (called_list_tells s at list))
      (λ l. then_tells (folded at form l) (judged (within s name.text l.class) e) (judged_tells (within s name.text l.class) e) (λ k. folded_tells at form l l.part k))

  all_tell : (s : Scope) (es : written.Exprs) → TellsOne (judged_all s es)
  all_tell s written.no_exprs = tt
  all_tell s (written.expr e es) =
      then_tells (λ k. and_then (λ ks. Is (k ∷ ks)) (judged_all s es)) (judged s e) (judged_tells s e)
      (λ k. then_tells (λ ks. Is (k ∷ ks)) (judged_all s es) (all_tell s es) (λ ks. tt))

  called_list_tells : (s : Scope) (fold : Place) (e : written.Expr) → TellOne (judged_list s fold e)
  called_list_tells s fold (written.Call at name es) =
      then_tells (list_called s fold at name (this_node s at)) (judged_all s es) (all_tell s es) (λ ks.
      list_tells fold at (list_named s.classes (Class s.this) name) (called s at name (this_node s at) ks) (this_node s at) ks (called_tells s at name ks (this_node s at)))
  called_list_tells s fold (written.CallOf at e name es) =
      then_tells (λ k. and_then (list_called s fold at name k) (judged_all s es)) (judged s e) (judged_tells s e) (λ k.
      then_tells (list_called s fold at name k) (judged_all s es) (all_tell s es) (λ ks.
      list_tells fold at (list_named s.classes k.kind name) (called s at name k ks) k ks (called_tells s at name ks k)))
  called_list_tells s fold (written.Number at n) = tt
  called_list_tells s fold (written.TextLiteral at bytes) = tt
  called_list_tells s fold (written.Truth at b) = tt
  called_list_tells s fold (written.Null at) = tt
  called_list_tells s fold (written.This at) = tt
  called_list_tells s fold (written.Name at name) = tt
  called_list_tells s fold (written.Paren at e) = tt
  called_list_tells s fold (written.Negate at e) = tt
  called_list_tells s fold (written.Not at e) = tt
  called_list_tells s fold (written.Cast at class e) = tt
  called_list_tells s fold (written.InstanceOf at e behind class) = tt
  called_list_tells s fold (written.Binary at o between a b) = tt
  called_list_tells s fold (written.Choose at c behind a b) = tt
  called_list_tells s fold (written.Fold at form name list e) = tt

pub body_tells : (s : Scope) (e : written.Expr) (wanted : WrittenKind) → TellsOne (body_of s e wanted)
body_tells s e wanted = then_tells (fitting s.classes wanted (written.place e)) (judged s e) (judged_tells s e) (λ k. by k (fits s.classes k.kind wanted))
  where
    by : (k : Kinded) (b : Bool) → TellsOne (if b then Is k.body else Wrong code.Kind (written.place e))
    by k true = tt
    by k false = tt
