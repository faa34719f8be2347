-- The instances of a formula start from the value from which its instance starts.
use Rattle.std.proofs.Common.{◌≡◌, ℕ, zero, suc, Bool, true, false, ◌&&◌, cond, not, List, [], ◌∷◌, ◌++◌, Option, Some, None, inl, inr, refl, sym, subst, ◌∙◌}
use Rattle.at_model.specs.Classes.{Classes}
use Rattle.at_model.specs.Run.{Value, Run, Gives, Fails, Looks, Demands, Null, Is, Contents, Instance, ◌>>=◌}
use Rattle.at_model.specs.Bodies.{Expr, Not, And, Or, Choose, Call, Exists, SeekAny, AnyOf, Over, Scope, bound, truth_of, mentioned, nodes_of, node_of, elements_of, drawer_of, eval, eval_all}
use Rattle.at_model.specs.Meaning.{Outcome, Among}
use Rattle.at_model.specs.Rules.{Rules, past_nodes, past_arguments, own_equation, inherited_equation, is_inherited, attribute_name, start_of}
use Rattle.at_model.specs.Terms.{max_depth}
use Rattle.at_model.proofs.Reached.{either_among}
use Rattle.at_model.specs.of_fixpoints.Formulas.{Formula, Known, Asks, Both, Either, atoms, is_surely, is_known_as, joined, turned, Starts, starts_from, fold_form, two_sides, form}
use Rattle.at_model.specs.of_fixpoints.Fixpoints.{Made, Ends, HoldsAt, HasForm}
use Rattle.at_model.specs.of_fixpoints.Sets.{AreOfOneStart}
use Rattle.at_model.specs.of_fixpoints.Evaluations.{by_equation, by_inherited, by_own, evaluation_within, evaluation}

-- whatever it is told, what it gives is so
abbrev GivesOnly : {N A : Type 0} → (A → Type 0) → Run N A → Type 0
GivesOnly P (Gives a) = P a
GivesOnly P (Fails f) = Unit {0}
GivesOnly P (Looks l k) = (c : _) → GivesOnly P (k c)
GivesOnly P (Demands j k) = (v : _) → GivesOnly P (k v)

then_only : {N A B : Type 0} (P : B → Type 0) (r : Run N A) (k : A → Run N B) → ((a : A) → GivesOnly P (k a)) →
    GivesOnly P (r >>= k)
then_only P (Gives a) k h = h a
then_only P (Fails f) k h = tt
then_only P (Looks l g) k h = λ c. then_only P (g c) k h
then_only P (Demands j g) k h = λ v. then_only P (g v) k h

and_then : {N A B : Type 0} (Q : A → Type 0) (P : B → Type 0) (r : Run N A) (k : A → Run N B) → GivesOnly Q r →
    ((a : A) → Q a → GivesOnly P (k a)) → GivesOnly P (r >>= k)
and_then Q P (Gives a) k q h = h a q
and_then Q P (Fails f) k q h = tt
and_then Q P (Looks l g) k q h = λ c. and_then Q P (g c) k (q c) h
and_then Q P (Demands j g) k q h = λ v. and_then Q P (g v) k (q v) h

less_only : {N A : Type 0} (Q P : A → Type 0) (r : Run N A) → ((a : A) → Q a → P a) → GivesOnly Q r → GivesOnly P r
less_only Q P (Gives a) h g = h a g
less_only Q P (Fails f) h g = tt
less_only Q P (Looks l k) h g = λ c. less_only Q P (k c) h (g c)
less_only Q P (Demands j k) h g = λ v. less_only Q P (k v) h (g v)

ends_only : {N A : Type 0} (look : Contents N) (Has : Instance N → Outcome N → Type 0) (P : A → Type 0)
    (i : Instance N) (r : Run N A) (a : A) → GivesOnly P r → Ends look Has i r (Made a) → P a
ends_only look Has P i (Gives b) a g e = let q : b ≡ a = cc in subst P q g
ends_only look Has P i (Fails f) a g e = absurd cc
ends_only look Has P i (Looks l k) a g e = ends_only look Has P i (k (look l)) a (g (look l)) e
ends_only look Has P i (Demands j k) a g (inl (v, h, e)) = ends_only look Has P i (k v) a (g v) e
ends_only look Has P i (Demands j k) a g (inr (f, at, h, e)) = absurd cc

-- all its instances start from b
abbrev StartFrom : {N : Type 0} → Starts → Bool → Formula N → Type 0
StartFrom {N} starts b f = (k : Instance N) → Among k (atoms f) → starts k.attribute ≡ Some b

cond_only : {N A : Type 0} (P : A → Type 0) (b : Bool) (r s : Run N A) → GivesOnly P r → GivesOnly P s →
    GivesOnly P (cond b r s)
cond_only P true r s g h = g
cond_only P false r s g h = h

cond_start : {N : Type 0} (starts : Starts) (b c : Bool) (f g : Formula N) → StartFrom starts b f →
    StartFrom starts b g → StartFrom starts b (cond c f g)
cond_start starts b true f g x y = x
cond_start starts b false f g x y = y

both_start : {N : Type 0} (starts : Starts) (b : Bool) (f g : Formula N) → StartFrom starts b f →
    StartFrom starts b g → (k : Instance N) → Among k (atoms f ++ atoms g) → starts k.attribute ≡ Some b
both_start starts b f g x y k h = elim (either_among k (atoms f) (atoms g) h) [ inl u ↦ x k u | inr u ↦ y k u ]

joined_start : {N : Type 0} (starts : Starts) (b c : Bool) (f g : Formula N) → StartFrom starts b f →
    StartFrom starts b g → StartFrom starts b (joined c f g)
joined_start starts b true f g x y =
    cond_start starts b (is_known_as true f) g (cond (is_known_as true g) f (Both f g)) y
    (cond_start starts b (is_known_as true g) f (Both f g) x (both_start starts b f g x y))
joined_start starts b false f g x y =
    cond_start starts b (is_known_as false f) g (cond (is_known_as false g) f (Either f g)) y
    (cond_start starts b (is_known_as false g) f (Either f g) x (both_start starts b f g x y))

started : (b : Bool) (o : Option Bool) → starts_from b o ≡ true → o ≡ Some b
started b None e = absurd cc
started true (Some true) e = refl
started true (Some false) e = absurd cc
started false (Some true) e = absurd cc
started false (Some false) e = refl

asked_start : {N : Type 0} (starts : Starts) (b p s : Bool) (i : Instance N) →
    starts_from b (starts i.attribute) ≡ s →
    GivesOnly (StartFrom starts b) (cond (p && s) (Gives (Asks i)) (Demands i (λ v. Gives (Known (turned p v)))))
asked_start starts b true true i e =
    λ k h. elim h [
      | inl r ↦ subst (λ z. starts z.attribute ≡ Some b) (sym r) (started b (starts i.attribute) e)
      | inr u ↦ absurd u
    ]
asked_start starts b true false i e = λ v k h. absurd h
asked_start starts b false s i e = λ v k h. absurd h

fold_start : {N : Type 0} (starts : Starts) (b p : Bool) (test : N → Run N (Formula N)) →
    ((n : N) → GivesOnly (StartFrom starts b) (test n)) → (ns : List N) →
    GivesOnly (StartFrom starts b) (fold_form p test ns)
fold_start starts b p test g [] = λ k h. absurd h
fold_start starts b p test g (n ∷ ns) =
    and_then (StartFrom starts b) (StartFrom starts b) (test n) _ (g n)
    (λ f x. cond_only (StartFrom starts b) (is_surely p f) (Gives f) _ x
    (and_then (StartFrom starts b) (StartFrom starts b) (fold_form p test ns) _ (fold_start starts b p test g ns)
    (λ h y. joined_start starts b (not p) f h x y)))

sides_start : {N : Type 0} (starts : Starts) (b c : Bool) (r s : Run N (Formula N)) →
    GivesOnly (StartFrom starts b) r → GivesOnly (StartFrom starts b) s →
    GivesOnly (StartFrom starts b) (two_sides c r s)
sides_start starts b c r s g h =
    and_then (StartFrom starts b) (StartFrom starts b) r _ g
    (λ f x. cond_only (StartFrom starts b) (is_surely (not c) f) (Gives f) _ x
    (and_then (StartFrom starts b) (StartFrom starts b) s _ h (λ k y. joined_start starts b c f k x y)))

form_start : {N : Type 0} (classes : Classes) (same : N → N → Bool) (starts : Starts) (b p : Bool) (e : Expr)
    (scope : Scope N) → GivesOnly (StartFrom starts b) (form classes same starts b p e scope)
form_start classes same starts b p (Not e) scope = form_start classes same starts b (not p) e scope
form_start classes same starts b p (And e f) scope =
    sides_start starts b p _ _ (form_start classes same starts b p e scope)
    (form_start classes same starts b p f scope)
form_start classes same starts b p (Or e f) scope =
    sides_start starts b (not p) _ _ (form_start classes same starts b p e scope)
    (form_start classes same starts b p f scope)
form_start classes same starts b p (Choose c e f) scope =
    then_only (StartFrom starts b) (eval classes same c scope) _
    (λ v. cond_only (StartFrom starts b) (truth_of v) _ _ (form_start classes same starts b p e scope)
    (form_start classes same starts b p f scope))
form_start classes same starts b p (Call e attribute es) scope =
    then_only (StartFrom starts b) (eval classes same e scope) _
    (λ v. then_only (StartFrom starts b) (eval_all classes same es scope) _
    (λ vs. then_only (StartFrom starts b) (node_of v) _ (λ n.
    asked_start starts b p (starts_from b (starts attribute))
    (record { node = n; attribute = attribute; arguments = vs }) refl)))
form_start classes same starts b p (Exists e part f) scope =
    then_only (StartFrom starts b) (eval classes same e scope) _
    (λ v. then_only (StartFrom starts b) (elements_of part v) _ (λ ns.
    fold_start starts b p _ (λ n. form_start classes same starts b p f (bound scope n)) ns))
form_start classes same starts b p (Over AnyOf e f) scope =
    then_only (StartFrom starts b) (eval classes same e scope) _
    (λ v. fold_start starts b p _ (λ n. form_start classes same starts b p f (bound scope n)) (nodes_of v))
form_start classes same starts b p (SeekAny e part key t f) scope =
    then_only (StartFrom starts b) (eval classes same e scope) _
    (λ v. then_only (StartFrom starts b) (eval classes same t scope) _
    (λ w. then_only (StartFrom starts b) (drawer_of part key v w) _ (λ ns.
    fold_start starts b p _ (λ n. form_start classes same starts b p f (bound scope n)) ns)))
form_start classes same starts b p e scope =
    then_only (StartFrom starts b) (eval classes same e scope) (λ v. Gives (Known (turned p v))) (λ v k h. absurd h)

-- of all starts that an attribute may have
abbrev OfStart : {N : Type 0} → Starts → Option Bool → Formula N → Type 0
OfStart {N} starts start f =
    ((k : Instance N) → Among k (atoms f) → (starts k.attribute ≡ start) × ((b : Bool) × (start ≡ Some b)))
    × (start ≡ None → (v : Value N) × (f ≡ Known v))

off : (b : Bool) → Some b ≡ None → ⊥
off b e = cc

body_start : {N : Type 0} (rules : Rules) (same : N → N → Bool) (start : Option Bool) (scope : Scope N)
    (r : Run N (Formula N)) (o : Option Expr) → GivesOnly (OfStart (start_of rules) start) r →
    GivesOnly (OfStart (start_of rules) start) (by_equation rules same start scope r o)
body_start rules same start scope r None g = g
body_start rules same None scope r (Some e) g =
    then_only (OfStart (start_of rules) None) (eval rules.classes same e scope) (λ v. Gives (Known v))
    (λ v. ((λ k h. absurd h), λ e. (v, refl)))
body_start rules same (Some b) scope r (Some e) g =
    less_only (StartFrom (start_of rules) b) (OfStart (start_of rules) (Some b))
    (form rules.classes same (start_of rules) b true e scope) (λ f h. ((λ k a. (h k a, (b, refl))), λ e. absurd (off b e)))
    (form_start rules.classes same (start_of rules) b true e scope)

above_at : {N : Type 0} (rules : Rules) (same : N → N → Bool) (start : Option Bool) (name : List ℕ)
    (vs : List (Value N)) (height : ℕ) (n : N) →
    ((m : N) → GivesOnly (OfStart (start_of rules) start) (by_inherited rules same start name vs height m)) →
    (c : Option (N × ℕ)) →
    GivesOnly (OfStart (start_of rules) start) (elim c as (λ _. Run N (Formula N)) [
      | None ↦ Fails Null
      | Some p ↦ Looks (Is p.0)
          (λ d. by_equation rules same start (record { this = p.0; names = vs; child = Some n })
          (by_inherited rules same start name vs height p.0) (inherited_equation rules d p.1 name))
    ])
above_at rules same start name vs height n rest None = tt
above_at rules same start name vs height n rest (Some p) = λ d.
    body_start rules same start (record { this = p.0; names = vs; child = Some n })
    (by_inherited rules same start name vs height p.0) (inherited_equation rules d p.1 name) (rest p.0)

above_start : {N : Type 0} (rules : Rules) (same : N → N → Bool) (start : Option Bool) (name : List ℕ)
    (vs : List (Value N)) (height : ℕ) (n : N) →
    GivesOnly (OfStart (start_of rules) start) (by_inherited rules same start name vs height n)
above_start rules same start name vs zero n = tt
above_start rules same start name vs (suc height) n =
    λ c. above_at rules same start name vs height n (above_start rules same start name vs height) c

past_one : {N A : Type 0} (P : A → Type 0) (ns : List N) (r : Run N A) → GivesOnly P r → GivesOnly P (past_nodes ns r)
past_one P [] r g = g
past_one P (n ∷ ns) r g = λ c. past_one P ns r g

past_start : {N A : Type 0} (P : A → Type 0) (vs : List (Value N)) (r : Run N A) → GivesOnly P r →
    GivesOnly P (past_arguments vs r)
past_start P [] r g = g
past_start P (v ∷ vs) r g = past_one P (mentioned v) (past_arguments vs r) (past_start P vs r g)

which_start : {N : Type 0} (P : Formula N → Type 0) (b : Bool) (r s : Run N (Formula N)) → GivesOnly P r →
    GivesOnly P s → GivesOnly P (elim b as (λ _. Run N (Formula N)) [ true ↦ r | false ↦ s ])
which_start P true r s g h = g
which_start P false r s g h = h

evaluation_start : {N : Type 0} (height : ℕ) (rules : Rules) (same : N → N → Bool) (i : Instance N) →
    GivesOnly (OfStart (start_of rules) (start_of rules i.attribute)) (evaluation_within height rules same i)
evaluation_start height rules same i =
    λ c. past_start (OfStart (start_of rules) (start_of rules i.attribute)) i.arguments _
    (which_start (OfStart (start_of rules) (start_of rules i.attribute)) (is_inherited rules i.attribute)
    (by_inherited rules same (start_of rules i.attribute) (attribute_name rules i.attribute) i.arguments height
    i.node) (by_own rules same i c)
    (above_start rules same (start_of rules i.attribute) (attribute_name rules i.attribute) i.arguments height i.node)
    (body_start rules same (start_of rules i.attribute) (record { this = i.node; names = i.arguments; child = None })
    (Fails Null) (own_equation rules c i.attribute) tt))

of_start : {N : Type 0} (look : Contents N) (rules : Rules) (same : N → N → Bool) (i k : Instance N) (f : Formula N) →
    HasForm look (evaluation rules same) i f → Among k (atoms f) →
    (start_of rules k.attribute ≡ start_of rules i.attribute) × ((b : Bool) × (start_of rules i.attribute ≡ Some b))
of_start look rules same i k f (n, e) h =
    (ends_only look (HoldsAt look (evaluation rules same) n) (OfStart (start_of rules) (start_of rules i.attribute)) i
    (evaluation_within max_depth rules same i) f (evaluation_start max_depth rules same i) e).0 k h

-- the formula of one that isn't circular is a value
pub of_none : {N : Type 0} (look : Contents N) (rules : Rules) (same : N → N → Bool) (i : Instance N) (f : Formula N) →
    HasForm look (evaluation rules same) i f → start_of rules i.attribute ≡ None → (v : Value N) × (f ≡ Known v)
of_none look rules same i f (n, e) none =
    (ends_only look (HoldsAt look (evaluation rules same) n) (OfStart (start_of rules) (start_of rules i.attribute)) i
    (evaluation_within max_depth rules same i) f (evaluation_start max_depth rules same i) e).1 none

pub of_one_start : {N : Type 0} (look : Contents N) (rules : Rules) (same : N → N → Bool) →
    AreOfOneStart look (evaluation rules same)
of_one_start look rules same i k f x h = (of_start look rules same i k f x h).0

-- the instances of a formula are circular
pub circular_asked : {N : Type 0} (look : Contents N) (rules : Rules) (same : N → N → Bool) (i k : Instance N)
    (f : Formula N) → HasForm look (evaluation rules same) i f → Among k (atoms f) →
    (b : Bool) × (start_of rules k.attribute ≡ Some b)
circular_asked look rules same i k f x h =
    let (e, (b, q)) = of_start look rules same i k f x h in (b, e ∙ q)
