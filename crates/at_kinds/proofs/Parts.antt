-- What is made of parts, or the fault of one.
use Rattle.std.proofs.Common.{rules, ◌≡◌, ℕ, ◌+◌, ◌<◌, ◌≤◌, List, [], ◌∷◌, ◌++◌, map, length, drop, get_or, refl, ap, ap₂, sym, ◌∙◌, append_assoc, append-nil, Option, Some, None, option_map, Result, Ok, Err, suc, zero, cond, subst, arith, add-one, true≢false}
use Rattle.std.specs.Prelude.{Bool, true, false, slice_get, position, option_and_then, nat_eq, vec_len, if◌then◌else◌, Vec, Box}
use Rattle.std.specs.Str.{bytes_eq}
use Rattle.std.specs.Global.{Global}
use Rattle.std.proofs.Math.Seq.{drop-cons}
use Rattle.std.proofs.lemmas.List.{drop_all, map-append}
use Rattle.std.proofs.lemmas.Bool.{eqb-true, eq-eqb}
use Rattle.std.proofs.lemmas.Option.{none-some, slice_get-map}
use Rattle.at_class.proofs.Named.{position-map}
use Rattle.at_model.specs.Classes.{Classes}
use Rattle.at_model.specs.Bodies.{Expr, Exprs, expr, Call, Passed}
use Rattle.at_text.specs.declared.place.Place.{Place}
use Rattle.at_jrag.specs.Syntax.{to_exprs}
use Rattle.at_jrag.specs.View.{expr_view}
use Rattle.at_jrag.specs.declared.syntax.Expr.{Expr as ExprValue}
use Rattle.at_rules.specs.Bodies.{body_view, bodies_view}
use Rattle.at_rules.specs.declared.body.Body.{Body, the_lemmas}
use Rattle.at_rules.specs.declared.body.Body as body
use Rattle.at_kinds.specs.Judging.{Judgement, Judged, Kinded, Scope, Bound, bound_to, Is, Wrong, and_then, judged, judged_all, bodies, bodies_or, is_computed, passed_for, misfit, fitted, is_argument, accessed, asked_by, demanded, demanded_of, of_kind, list_by, no_list, fitting}
use Rattle.at_kinds.specs.Kinds.{of_written, fits}
use Rattle.at_kinds.specs.Signatures.{Declared}
use Rattle.at_kinds.specs.Typed.{Judges, typed_view, all_view, list_view, bound_view, passed_body}
use Rattle.at_kinds.specs.declared.accessors.Accessor.{Accessor}
use Rattle.at_kinds.specs.declared.arguments.Arguments.{Arguments}
use Rattle.at_kinds.specs.declared.arguments.Arguments.TheVariants.{Given, Computed}
use Rattle.at_kinds.specs.declared.accessors.Accessor.TheVariants as accessor
use Rattle.at_kinds.specs.declared.code.RuleCode.TheVariants as code
use Rattle.at_kinds.specs.declared.code.RuleCode.{RuleCode}
use Rattle.at_kinds.specs.declared.signatures.WrittenKind.{WrittenKind}
use Rattle.at_kinds.specs.declared.signatures.WrittenKind.TheVariants.{Known}
use Rattle.at_rules.specs.declared.body.Kind.TheVariants as kind
use Rattle.at_kinds.specs.declared.typing.kinds.Typed.{Typed}
use Rattle.at_kinds.specs.declared.typing.Bound.{Bound as BoundValue}
use Rattle.at_text.specs.declared.fault.Fault.{Fault}
use Rattle.at_text.specs.declared.fault.Fault.TheVariants.{Refused, Memory}

-- a part's fault is that of the whole
pub fault_of : {A B T U : Type 0} (view : T → A) (whole : U → B) (f : A → Judgement B) (j : Judgement A) (e : Fault RuleCode) → Judges view j (Err e) → Judges whole (and_then f j) (Err e)
fault_of view whole f j (Refused c at) is = ap (and_then f) is
fault_of view whole f j Memory is = tt

-- what is made of a part
pub made_of : {A B T U : Type 0} (view : T → A) (whole : U → B) (f : A → Judgement B) (j : Judgement A) (t : T)
    (r : Result U (Fault RuleCode)) → Judges view j (Ok t) → Judges whole (f (view t)) r → Judges whole (and_then f j) r
made_of view whole f j t (Ok u) is so = ap (and_then f) is ∙ so
made_of view whole f j t (Err (Refused c at)) is so = ap (and_then f) is ∙ so
made_of view whole f j t (Err Memory) is so = tt

pub fault_in : {A B T U : Type 0} (view : T → A) (whole : U → B) (f : A → Judgement B) (j : Judgement A) (o : Result T
    (Fault RuleCode)) (e : Fault RuleCode) → o ≡ Err e → Judges view j o → Judges whole (and_then f j) (Err e)
fault_in view whole f j o e was is = fault_of view whole f j e (subst (λ p. Judges view j p) was is)

pub made_in : {A B T U : Type 0} (view : T → A) (whole : U → B) (f : A → Judgement B) (j : Judgement A)
    (o : Result T (Fault RuleCode)) (t : T) (r : Result U (Fault RuleCode)) → o ≡ Ok t → Judges view j o
    → Judges whole (f (view t)) r → Judges whole (and_then f j) r
made_in view whole f j o t r was is so = made_of view whole f j t r (subst (λ p. Judges view j p) was is) so

-- an argument that is looked at when it is passed
passed_seen : (p : Box Body Global) → body_view (body.Passed p) ≡ Passed (body_view p.value)
passed_seen p = search (rules, the_lemmas)

-- names ------------------------------------------------------------------------------------------------------------------

abbrev pub kind_in : ℕ → WrittenKind → ℕ × WrittenKind
kind_in i k = (i, k)

mapped : (i : ℕ) (o : Option BoundValue) → option_map (kind_in i) (option_map (λ (b : BoundValue). b.kind) o) ≡ option_map (λ (b : Bound). kind_in i b.kind) (option_map bound_view o)
mapped i None = refl
mapped i (Some b) = refl

-- what is bound at a position
bound_at : (bs : List BoundValue) (o : Option ℕ)
    → option_and_then (λ i. option_map (kind_in i) (option_map (λ (b : BoundValue). b.kind) (slice_get bs i))) o
    ≡ option_and_then (λ i. option_map (λ (b : Bound). kind_in i b.kind) (slice_get (map bound_view bs) i)) o
bound_at bs None = refl
bound_at bs (Some i) = mapped i (slice_get bs i) ∙ ap (option_map (λ (b : Bound). kind_in i b.kind)) (sym (slice_get-map bound_view bs i))

-- what is bound, from its position
pub bound_seen : (bs : List BoundValue) (name : List ℕ) (o : Option ℕ) → o ≡ position (λ b. bytes_eq (bound_view b).name name) bs
    → option_and_then (λ i. option_map (kind_in i) (option_map (λ (b : BoundValue). b.kind) (slice_get bs i))) o ≡ bound_to (map bound_view bs) name
bound_seen bs name o is =
    bound_at bs o
    ∙ ap (option_and_then (λ i. option_map (λ (b : Bound). kind_in i b.kind) (slice_get (map bound_view bs) i))) (is ∙ sym (position-map (λ (b : Bound). bytes_eq b.name name) bound_view bs))

-- the arguments of a call ------------------------------------------------------------------------------------------------

-- their bodies
passed_same : (allowed : Arguments) (t : Typed) → body_view (passed_body allowed t) ≡ passed_for allowed (typed_view t)
passed_same Given t = refl
passed_same Computed t = by (is_computed t.kind (body_view t.body.value))
  where
    by : (b : Bool) → body_view (if b then body.Passed t.body else t.body.value)
        ≡ (if b then Passed (body_view t.body.value) else body_view t.body.value)
    by true = passed_seen t.body
    by false = refl

pub bodies_same : (allowed : Arguments) (bs : List Body) (ts : List Typed) → bs ≡ map (passed_body allowed) ts
    → bodies_view bs ≡ bodies allowed (map typed_view ts)
bodies_same allowed bs ts is = ap bodies_view is ∙ each ts
  where
    each : (ts : List Typed) → bodies_view (map (passed_body allowed) ts) ≡ bodies allowed (map typed_view ts)
    each [] = refl
    each (t ∷ ts) = ap₂ expr (passed_same allowed t) (each ts)

-- the first that is wrong, behind those that are right
pub misfit_more : (allowed : Arguments) (classes : Classes) (ts : List Typed) (ps : List WrittenKind) (i : ℕ)
    (t : Typed) (p : WrittenKind) → slice_get ts i ≡ Some t → slice_get ps i ≡ Some p
    → misfit allowed classes (map typed_view (drop i ts)) (drop i ps)
    ≡ cond (is_argument allowed classes (typed_view t) p) (misfit allowed classes (map typed_view (drop (suc i) ts))
    (drop (suc i) ps)) (Some t.at)
misfit_more allowed classes [] ps i t p at by' = absurd (none-some t at)
misfit_more allowed classes (x ∷ xs) [] i t p at by' = absurd (none-some p by')
misfit_more allowed classes (x ∷ xs) (q ∷ qs) zero t p at by' =
    let e : x ≡ t = cc in
    let f : q ≡ p = cc in
    ap₂ (λ y r. cond (is_argument allowed classes (typed_view y) r) (misfit allowed classes (map typed_view xs) qs)
    (Some y.at)) e f
misfit_more allowed classes (x ∷ xs) (q ∷ qs) (suc i) t p at by' = misfit_more allowed classes xs qs i t p at by'

pub misfit_none : (allowed : Arguments) (classes : Classes) (ks : List Kinded) (ps : List WrittenKind) (i : ℕ)
    → slice_get ps i ≡ None → misfit allowed classes ks (drop i ps) ≡ None
misfit_none allowed classes [] ps i is = refl
misfit_none allowed classes (k ∷ ks) [] zero is = refl
misfit_none allowed classes (k ∷ ks) [] (suc i) is = refl
misfit_none allowed classes (k ∷ ks) (p ∷ ps) zero is = absurd (none-some p (sym is))
misfit_none allowed classes (k ∷ ks) (p ∷ ps) (suc i) is = misfit_none allowed classes (k ∷ ks) ps i is

-- as many arguments as parameters
pub fitted_same : (allowed : Arguments) (classes : Classes) (at : Place) (ks : List Kinded) (ps : List WrittenKind)
    (o : Option Place)
    → length ks ≡ length ps → misfit allowed classes ks ps ≡ o
    → fitted allowed classes at ks ps ≡ bodies_or allowed ks o
fitted_same allowed classes at ks ps o same is =
    ap (λ b. if b then bodies_or allowed ks (misfit allowed classes ks ps) else Wrong code.Argument at)
    (eq-eqb (length ks) (length ps) same) ∙ ap (bodies_or allowed ks) is

pub none_given : (ts : Vec Typed Global) → nat_eq (vec_len ts) 0 ≡ true → map typed_view ts.items ≡ []
none_given ts is = empty ts.items (let e = eqb-true (vec_len ts) 0 is in omega (arith, e, ts.ok.0))
  where
    empty : (xs : List Typed) → length xs ≡ 0 → map typed_view xs ≡ []
    empty [] e = refl
    empty (x ∷ xs) e = absurd (omega (arith, e))

pub some_given : (ts : Vec Typed Global) → nat_eq (vec_len ts) 0 ≡ false → (k : Kinded) × (ks : List Kinded) × (map typed_view ts.items ≡ k ∷ ks)
some_given ts is = filled ts.items (λ e. true≢false (sym (eq-eqb (vec_len ts) 0 (omega (arith, e, ts.ok.0))) ∙ is))
  where
    filled : (xs : List Typed) → (length xs ≡ 0 → ⊥) → (k : Kinded) × (ks : List Kinded) × (map typed_view xs ≡ k ∷ ks)
    filled [] some = absurd (some refl)
    filled (x ∷ xs) some = (typed_view x, map typed_view xs, refl)

-- no accessor but an element's takes an argument
pub accessed_crowded : (at : Place) (a : Accessor) (e : Expr) (k : Kinded) (ks : List Kinded) → ((part c : ℕ) → a ≡ accessor.Element part c → ⊥) → accessed at a e (k ∷ ks) ≡ Wrong code.Argument at
accessed_crowded at (accessor.Child part c) e k ks other = refl
accessed_crowded at (accessor.Element part c) e k ks other = absurd (other part c refl)
accessed_crowded at (accessor.Token part t) e k ks other = refl
accessed_crowded at (accessor.Has part) e k ks other = refl
accessed_crowded at (accessor.Count part) e k ks other = refl
accessed_crowded at (accessor.List part) e k ks other = refl

-- what is asked is an accessor, or else an attribute
pub by_accessor : (s : Scope) (at : Place) (a : Option ℕ) (o : Option Accessor) (x : Accessor) (e : Expr)
    (ks : List Kinded) (r : Result Typed (Fault RuleCode)) → o ≡ Some x → Judges typed_view (accessed at x e ks) r
    → Judges typed_view (asked_by s at a o e ks) r
by_accessor s at a o x e ks r is so = subst (λ p. Judges typed_view (asked_by s at a p e ks) r) (sym is) so

pub by_attribute : (s : Scope) (at : Place) (a : Option ℕ) (b : ℕ) (o : Option Accessor) (e : Expr) (ks : List Kinded) (r : Result Typed (Fault RuleCode)) → o ≡ None → a ≡ Some b
    → Judges typed_view (demanded_of s.arguments s.classes at b (slice_get s.declared b) e ks) r
    → Judges typed_view (asked_by s at a o e ks) r
by_attribute s at a b o e ks r none is so = subst (λ p. Judges typed_view (asked_by s at a p e ks) r) (sym none) (subst (λ p. Judges typed_view (demanded s at p e ks) r) (sym is) so)

-- an attribute that is declared
pub demanded_there : (allowed : Arguments) (classes : Classes) (at : Place) (a : ℕ) (o : Option Declared) (d : Declared)
    (e : Expr)
    (ks : List Kinded) (es : Exprs) → o ≡ Some d → fitted allowed classes at ks d.parameters ≡ Is es
    → demanded_of allowed classes at a o e ks ≡ of_kind at (of_written d.result) (Call e a es)
demanded_there allowed classes at a o d e ks es is so = ap (λ p. demanded_of allowed classes at a p e ks) is
    ∙ ap (and_then (λ xs. of_kind at (of_written d.result) (Call e a xs))) so

-- the whole -----------------------------------------------------------------------------------------------------------------

pub not_fitting : (classes : Classes) (wanted : WrittenKind) (here at : Place) (k : Kinded) → here ≡ at → fits classes k.kind wanted ≡ false → fitting classes wanted here k ≡ Wrong code.Kind at
not_fitting classes wanted here at k is other = ap (λ b. if b then Is k.body else Wrong code.Kind here) other ∙ ap (Wrong code.Kind) is

-- the list of a fold ------------------------------------------------------------------------------------------------------

pub no_list_fault : (fold at : Place) (o : Option (ℕ × ℕ)) (call : Judged) (k : Kinded) (ks : List Kinded) (e : Fault
    RuleCode) → o ≡ None → Judges typed_view call (Err e) → Judges list_view (list_by fold at o call k ks) (Err e)
no_list_fault fold at None call k ks e is so = fault_of typed_view list_view (no_list fold) call e so
no_list_fault fold at (Some l) call k ks e is so = absurd (none-some l (sym is))

pub no_list_kind : (fold at : Place) (o : Option (ℕ × ℕ)) (call : Judged) (k : Kinded) (ks : List Kinded) (t : Typed)
    → o ≡ None → call ≡ Is (typed_view t) → list_by fold at o call k ks ≡ no_list fold (typed_view t)
no_list_kind fold at o call k ks t is so = ap (λ p. list_by fold at p call k ks) is ∙ ap (and_then (no_list fold)) so

pub list_crowded : (fold at : Place) (o : Option (ℕ × ℕ)) (l : ℕ × ℕ) (call : Judged) (k : Kinded) (ks : List Kinded)
    (j : Kinded) (js : List Kinded) → o ≡ Some l → ks ≡ j ∷ js → list_by fold at o call k ks ≡ Wrong code.Argument at
list_crowded fold at o l call k ks j js is given = ap₂ (λ p xs. list_by fold at p call k xs) is given

pub list_there : (fold at : Place) (o : Option (ℕ × ℕ)) (l : ℕ × ℕ) (call : Judged) (k : Kinded) (ks : List Kinded)
    → o ≡ Some l → ks ≡ [] → list_by fold at o call k ks ≡ Is (record { node = k.body; part = Some l.0; class = l.1 })
list_there fold at o l call k ks is given = ap₂ (λ p xs. list_by fold at p call k xs) is given

-- the name of a fold over nodes of class c
abbrev pub node_bound : List ℕ → ℕ → Bound
node_bound name c = record { name = name; kind = Known (kind.Class c) }

-- expressions one after the other -----------------------------------------------------------------------------------------

-- behind those that are judged
abbrev pub behind : List Kinded → Judgement (List Kinded) → Judgement (List Kinded)
behind ks j = and_then (λ ls. Is (ks ++ ls)) j

pub behind_none : (j : Judgement (List Kinded)) → j ≡ behind [] j
behind_none (Is ks) = refl
behind_none (Wrong c at) = refl

next_all : (s : Scope) (es : List ExprValue) (i : ℕ) (e : ExprValue) → i < length es → e ≡ get_or es i e
    → judged_all s (to_exprs (map expr_view (drop i es))) ≡ and_then (λ k. and_then (λ ks. Is (k ∷ ks)) (judged_all s (to_exprs (map expr_view (drop (suc i) es))))) (judged s (expr_view e))
next_all s es i e less is = ap (λ l. judged_all s (to_exprs (map expr_view l))) (drop-cons es i e less ∙ ap (λ x. x ∷ drop (suc i) es) (sym is))

regroup : (done : List Kinded) (k : Kinded) (j : Judgement (List Kinded)) → behind done (and_then (λ ks. Is (k ∷ ks)) j) ≡ behind (done ++ k ∷ []) j
regroup done k (Is ks) = ap Is (sym (append_assoc done (k ∷ []) ks))
regroup done k (Wrong c at) = refl

pub all_more : (s : Scope) (es : List ExprValue) (i : ℕ) (e : ExprValue) (t : Typed) (done : List Typed)
    (whole : Judgement (List Kinded)) → i < length es → e ≡ get_or es i e → judged s (expr_view e) ≡ Is (typed_view t)
    → whole ≡ behind (map typed_view done) (judged_all s (to_exprs (map expr_view (drop i es))))
    → whole ≡ behind (map typed_view (done ++ t ∷ [])) (judged_all s (to_exprs (map expr_view (drop (i + 1) es))))
all_more s es i e t done whole less is here so_far =
    let others = λ (n : ℕ). judged_all s (to_exprs (map expr_view (drop n es))) in
    so_far
    ∙ ap (behind (map typed_view done)) (next_all s es i e less is ∙ ap (and_then (λ k. and_then (λ ks. Is (k ∷ ks)) (others (suc i)))) here)
    ∙ regroup (map typed_view done) (typed_view t) (others (suc i))
    ∙ ap (λ l. behind l (others (suc i))) (sym (map-append typed_view done (t ∷ [])))
    ∙ ap (λ n. behind (map typed_view (done ++ t ∷ [])) (others n)) (sym (add-one i))

pub all_wrong : (s : Scope) (es : List ExprValue) (i : ℕ) (e : ExprValue) (c : RuleCode) (at : Place) (done : List
    Kinded) (whole : Judgement (List Kinded)) → i < length es → e ≡ get_or es i e → judged s (expr_view e) ≡ Wrong c at
    → whole ≡ behind done (judged_all s (to_exprs (map expr_view (drop i es)))) → whole ≡ Wrong c at
all_wrong s es i e c at done whole less is here so_far =
    so_far ∙ ap (behind done) (next_all s es i e less is ∙ ap (and_then (λ k. and_then (λ ks. Is (k ∷ ks)) (judged_all s (to_exprs (map expr_view (drop (suc i) es)))))) here)

pub all_fault : (s : Scope) (es : List ExprValue) (i : ℕ) (e : ExprValue) (f : Fault RuleCode) (done : List Kinded)
    (whole : Judgement (List Kinded)) → i < length es → e ≡ get_or es i e
    → Judges typed_view (judged s (expr_view e)) (Err f)
    → whole ≡ behind done (judged_all s (to_exprs (map expr_view (drop i es)))) → Judges {T = Vec Typed Global} all_view whole (Err f)
all_fault s es i e (Refused c at) done whole less is here so_far = all_wrong s es i e c at done whole less is here so_far
all_fault s es i e Memory done whole less is here so_far = tt

pub all_there : (s : Scope) (es : List ExprValue) (i : ℕ) (done : List Kinded) (whole : Judgement (List Kinded))
    → length es ≤ i → whole ≡ behind done (judged_all s (to_exprs (map expr_view (drop i es)))) → whole ≡ Is done
all_there s es i done whole past so_far = so_far ∙ ap (λ l. behind done (judged_all s (to_exprs (map expr_view l)))) (drop_all i es past) ∙ ap Is (append-nil done)
