-- The classes that are exposed are those that a walk from the start class meets.
use Rattle.std.proofs.Common.{◌≡◌, ℕ, zero, suc, ◌+◌, ◌<◌, inl, inr, List, [], length, ◌++◌, refl, ap, ap₂, sym, ◌∙◌, subst, arith, Option, Some, None, true≢false}
use Rattle.std.specs.Prelude.{Bool, true, false, ◌||◌, ◌&&◌, not, nat_eq, nat_lt, option_and_then, slice_get, is_none, replicate, IfNone, if◌then◌else◌}
use Rattle.std.specs.Option.{option_eq, option_to_list}
use Rattle.std.proofs.lemmas.Bool.{lt-ltb, ltb-true, ltb-false, eqb-true, or_left, or_right, and_from}
use Rattle.std.proofs.lemmas.List.{length-replicate}
use Rattle.std.proofs.lemmas.Option.{none-some, slice_get_within}
use Rattle.at_model.specs.Classes.{Classes, Class, Component, AreSound, class_in, is_concrete, is_sub, fits, parent_of, parts}
use Rattle.at_model.specs.Rules.{Rules, Exposed, as_root, below, inherited_equation}
use Rattle.at_model.specs.Bodies.{Expr}
use Rattle.at_model.proofs.Options.{both as and_both}
use Rattle.at_complete.specs.Walks.{has_met, Meets, Walked, Walking}
use Rattle.at_complete.specs.Hierarchies.{is_child}
use Rattle.at_complete.specs.Completing.{passed, is_passed, leads, leads_up, AllExposed, IsExposedBelow, HasBelow, is_met_concrete, Tells}
use Rattle.at_complete.proofs.Climbing.{no_list, same, unlike, sub_itself, sub_above, sub_parent, child_within, parent_within, descends, ascends}
use Rattle.at_complete.proofs.Walking.{or_cases, meets_like, meets_more, meets_none, begins, steps, stops}

pub is_some_of : (o : Option ℕ) (c : ℕ) → option_eq nat_eq o (Some c) ≡ true → o ≡ Some c
is_some_of None c e = no_list e
is_some_of (Some b) c e = ap Some (eqb-true b c e)

pub is_some_from : (o : Option ℕ) (c : ℕ) → o ≡ Some c → option_eq nat_eq o (Some c) ≡ true
is_some_from o c e = ap (λ p. option_eq nat_eq p (Some c)) e ∙ same c c refl

pub some_is_of : (o : Option ℕ) (c : ℕ) → option_eq nat_eq (Some c) o ≡ true → o ≡ Some c
some_is_of None c e = no_list e
some_is_of (Some b) c e = ap Some (sym (eqb-true c b e))

pub some_is_from : (o : Option ℕ) (c : ℕ) → o ≡ Some c → option_eq nat_eq (Some c) o ≡ true
some_is_from o c e = ap (λ p. option_eq nat_eq (Some c) p) e ∙ same c c refl

pub concrete_within : (classes : Classes) (c : ℕ) → is_concrete classes c ≡ true → c < length classes
concrete_within classes c e = by (slice_get classes c) refl
  where
    by : (o : Option Class) → slice_get classes c ≡ o → c < length classes
    by None f = no_list (sym (ap (λ (o : Option Class). elim o [ None ↦ false | Some k ↦ not k.is_abstract ]) f) ∙ e)
    by (Some k) f = slice_get_within classes c k f

pub fits_within : (classes : Classes) (c b : ℕ) → fits classes c b ≡ true → c < length classes
fits_within classes c b e = concrete_within classes c (and_both (is_concrete classes c) (is_sub classes c b) e).0

pub fits_itself : (classes : Classes) (c : ℕ) → is_concrete classes c ≡ true → fits classes c c ≡ true
fits_itself classes c e = and_from (is_concrete classes c) _ e (sub_itself classes c (concrete_within classes c e))

pub fits_above : (classes : Classes) → AreSound classes → (c b a : ℕ) → fits classes c b ≡ true → is_sub classes b a ≡ true → fits classes c a ≡ true
fits_above classes sound c b a e f =
    let parts = and_both (is_concrete classes c) (is_sub classes c b) e in
    and_from (is_concrete classes c) _ parts.0 (sub_above classes sound c b a (concrete_within classes c parts.0) parts.1 f)

pub above_within : (classes : Classes) → AreSound classes → (c b : ℕ) → fits classes c b ≡ true → b < length classes
above_within classes sound c b e = ascends classes (λ d. d < length classes) (λ p d up less. parent_within classes sound
    d p up) c b (and_both (is_concrete classes c) (is_sub classes c b) e).1 (fits_within classes c b e)

pub passed_parts : (rules : Rules) (name : List ℕ) (c part d : ℕ) → passed rules name c part ≡ Some d
    → (inherited_equation rules c part name ≡ None)
    × (option_and_then (λ p. class_in p.shape) (slice_get (parts rules.classes c) part) ≡ Some d)
passed_parts rules name c part d e = by (inherited_equation rules c part name) refl
  where
    by : (o : Option Expr) → inherited_equation rules c part name ≡ o → (inherited_equation rules c part name ≡ None)
        × (option_and_then (λ p. class_in p.shape) (slice_get (parts rules.classes c) part) ≡ Some d)
    by None f = (f, sym (ap (λ (o : Option Expr). if is_none o then option_and_then (λ p. class_in p.shape) (slice_get (parts rules.classes c) part) else None) f) ∙ e)
    by (Some x) f = absurd (none-some d (sym (ap (λ (o : Option Expr). if is_none o then option_and_then (λ p. class_in p.shape) (slice_get (parts rules.classes c) part) else None) f) ∙ e))

pub passed_from : (rules : Rules) (name : List ℕ) (c part d : ℕ) → inherited_equation rules c part name ≡ None
    → option_and_then (λ p. class_in p.shape) (slice_get (parts rules.classes c) part) ≡ Some d
    → passed rules name c part ≡ Some d
passed_from rules name c part d none there = ap (λ (o : Option Expr). if is_none o then option_and_then (λ p. class_in p.shape) (slice_get (parts rules.classes c) part) else None) none ∙ there

-- what the code finds of one component
pub passed_over : (rules : Rules) (name : List ℕ) (c part : ℕ) (e : Expr) → Some e ≡ inherited_equation rules c part name → None ≡ passed rules name c part
passed_over rules name c part e has = ap (λ (o : Option Expr). if is_none o then option_and_then (λ p. class_in p.shape) (slice_get (parts rules.classes c) part) else None) has

pub passed_down : (rules : Rules) (name : List ℕ) (c part : ℕ) (ps : List Component) → ps ≡ parts rules.classes c
    → None ≡ inherited_equation rules c part name
    → option_and_then (λ p. class_in p.shape) (slice_get ps part) ≡ passed rules name c part
passed_down rules name c part ps same none =
    ap (λ (qs : List Component). option_and_then (λ p. class_in p.shape) (slice_get qs part)) same
    ∙ ap (λ (o : Option Expr). if is_none o then option_and_then (λ p. class_in p.shape) (slice_get (parts rules.classes c) part) else None) none

pub passed_there : (rules : Rules) (name : List ℕ) (n c d : ℕ) → is_passed rules name n c d ≡ true → (part : ℕ) × (passed rules name c part ≡ Some d)
passed_there rules name zero c d e = no_list e
passed_there rules name (suc n) c d e = elim (or_cases (is_passed rules name n c d) _ e) [
  | inl f ↦ passed_there rules name n c d f
  | inr f ↦ (n, some_is_of (passed rules name c n) d f.1)
]

pub passed_among : (rules : Rules) (name : List ℕ) (n c d part : ℕ) → part < n → passed rules name c part ≡ Some d → is_passed rules name n c d ≡ true
passed_among rules name zero c d part less e = absurd (omega (arith, less))
passed_among rules name (suc n) c d part less e = by (nat_eq part n) refl (λ more. passed_among rules name n c d part more e)
  where
    by : (b : Bool) → nat_eq part n ≡ b → (part < n → is_passed rules name n c d ≡ true) → is_passed rules name (suc n) c d ≡ true
    by true f rest = or_right (is_passed rules name n c d) _ (some_is_from (passed rules name c n) d (ap (passed rules name c) (sym (eqb-true part n f)) ∙ e))
    by false f rest = or_left (is_passed rules name n c d) _ (rest (omega (arith, less, differ f)))
      where
        differ : nat_eq part n ≡ false → part ≡ n → ⊥
        differ f g = true≢false (sym (same part n g) ∙ f)

pub leads_on : (rules : Rules) → AreSound rules.classes → (name : List ℕ) (c d : ℕ) → AllExposed rules name c → leads rules name c d ≡ true → AllExposed rules name d
leads_on rules sound name c d good e k f = elim (or_cases (is_child rules.classes c d) _ e) [
  | inl g ↦ good k (fits_above rules.classes sound k d c f (sub_parent rules.classes sound d c (is_some_of _ c g)))
  | inr g ↦
      let h = and_both (is_concrete rules.classes c) _ g.1 in
      let there = passed_there rules name (length (parts rules.classes c)) c d h.1 in
      let found = passed_parts rules name c there.0 d there.1 in
      below c k (good c (fits_itself rules.classes c h.0)) (record { part = there.0; class = d; trees = found.1; fit = f; without = found.0 })
]

pub exposed_concrete : (rules : Rules) (name : List ℕ) (c : ℕ) → Exposed rules name c → is_concrete rules.classes c ≡ true
exposed_concrete rules name c (as_root _ e) = (and_both (is_concrete rules.classes c) _ e).0
exposed_concrete rules name d (below c _ x passes) = (and_both (is_concrete rules.classes d) _ passes.fit).0

met_below : (rules : Rules) (name : List ℕ) (met : List Bool)
    → ((c d : ℕ) → has_met met c ≡ true → d < length rules.classes → leads rules name c d ≡ true → has_met met d ≡ true)
    → (c b : ℕ) → fits rules.classes c b ≡ true → has_met met b ≡ true → has_met met c ≡ true
met_below rules name met closed c b e there =
    descends rules.classes (λ d. has_met met d ≡ true) (λ p d up m.
    closed p d m (child_within rules.classes d p up) (or_left (is_child rules.classes p d) _ (is_some_from _ p up)))
    c b (and_both (is_concrete rules.classes c) _ e).1 there

there : (rules : Rules) (c part b : ℕ) → option_and_then (λ p. class_in p.shape) (slice_get (parts rules.classes c) part) ≡ Some b → part < length (parts rules.classes c)
there rules c part b e = by (slice_get (parts rules.classes c) part) refl
  where
    by : (o : Option Component) → slice_get (parts rules.classes c) part ≡ o → part < length (parts rules.classes c)
    by None f = absurd (none-some b (sym (ap (λ (o : Option Component). option_and_then (λ p. class_in p.shape) o) f) ∙ e))
    by (Some p) f = slice_get_within (parts rules.classes c) part p f

-- what is closed under leading has all that is exposed
pub exposed_met : (rules : Rules) → AreSound rules.classes → (name : List ℕ) (met : List Bool) → has_met met 0 ≡ true
    → ((c d : ℕ) → has_met met c ≡ true → d < length rules.classes → leads rules name c d ≡ true → has_met met d ≡ true)
    → (c : ℕ) → Exposed rules name c → has_met met c ≡ true
exposed_met rules sound name met start closed c (as_root _ e) = met_below rules name met closed c 0 e start
exposed_met rules sound name met start closed d (below c _ x passes) =
    let b = passes.class in
    met_below rules name met closed d b passes.fit (closed c b (exposed_met rules sound name met start closed c x) (above_within rules.classes sound d b passes.fit)
    (or_right (is_child rules.classes c b) _ (and_from (is_concrete rules.classes c) _ (exposed_concrete rules name c x)
    (passed_among rules name (length (parts rules.classes c)) c b passes.part (there rules c passes.part b
    passes.trees) (passed_from rules name c passes.part b passes.without passes.trees)))))

pub has_below_itself : (classes : Classes) (met : List Bool) (c : ℕ) → (has_met met c && is_concrete classes c) ≡ true → HasBelow classes met c
has_below_itself classes met c e = let (x, y) = and_both (has_met met c) (is_concrete classes c) e in (c, fits_itself classes c y, x)

pub has_below_up : (classes : Classes) → AreSound classes → (met : List Bool) (c d : ℕ) → HasBelow classes met c → leads_up classes c d ≡ true → HasBelow classes met d
has_below_up classes sound met c d (e, f, g) l = (e, fits_above classes sound e c d f (sub_parent classes sound c d (some_is_of (parent_of classes c) d l)), g)

-- a class is marked exactly where one is exposed that fits it
pub marked : (rules : Rules) → AreSound rules.classes → (name : List ℕ) (met marks : List Bool) (passes both : ℕ → Bool)
    → Walked (length rules.classes) (λ c. nat_eq c 0) (leads rules name) passes (AllExposed rules name) met
    → Walked (length rules.classes) (is_met_concrete rules.classes met) (leads_up rules.classes) both (HasBelow rules.classes met) marks
    → (b : ℕ) → Tells (has_met marks b) (IsExposedBelow rules name b)
marked rules sound name met marks passes both w v b = by (has_met marks b) refl
  where
    by : (t : Bool) → has_met marks b ≡ t → Tells t (IsExposedBelow rules name b)
    by true e = let (c, f, g) = v.good b e in (c, f, w.good c g c (fits_itself rules.classes c (and_both (is_concrete rules.classes c) (is_sub rules.classes c b) f).0))
    by false e = λ (c, f, x).
        let met_too = exposed_met rules sound name met (w.started 0 sound.some refl) w.closed c x in
        let concrete = exposed_concrete rules name c x in
        let there = ascends rules.classes (λ d. has_met marks d ≡ true) (λ p d up m. v.closed d p m (parent_within rules.classes sound d p up) (some_is_from (parent_of rules.classes d) p up))
        c b (and_both (is_concrete rules.classes c) (is_sub rules.classes c b) f).1 (v.started c (concrete_within
        rules.classes c concrete) (and_from (has_met met c) (is_concrete rules.classes c) met_too concrete)) in
        true≢false (sym there ∙ e)

-- each class is looked at, up to the last one
pub picks_more : (classes : Classes) (met : List Bool) (i : ℕ) (o : Option ℕ) (a b c : List Bool) (p q r : List ℕ) → o ≡ (if is_met_concrete classes met i then Some i else None)
    → Meets (λ e. nat_lt e i && is_met_concrete classes met e) a b p q → Meets (λ e. option_eq nat_eq (Some e) o) b c q r → Meets (λ e. nat_lt e (i + 1) && is_met_concrete classes met e) a c p r
picks_more classes met i o a b c p q r is m k =
    meets_like _ _ (λ e. ap (λ o. (nat_lt e i && is_met_concrete classes met e) || option_eq nat_eq (Some e) o) is ∙ by e) a c p r
    (meets_more _ _ a b c p q r m k)
  where
    next : (e : ℕ) (u v w : Bool) → nat_eq e i ≡ u → nat_lt e i ≡ v → nat_lt e (i + 1) ≡ w → w ≡ (v || u)
    next e true v true x y z = sym (or_right v true refl)
    next e true v false x y z = absurd (omega (arith, ltb-false e (i + 1) z, eqb-true e i x))
    next e false true true x y z = refl
    next e false true false x y z = absurd (omega (arith, ltb-true e i y, ltb-false e (i + 1) z))
    next e false false true x y z = absurd (omega (arith, unlike e i x, ltb-false e i y, ltb-true e (i + 1) z))
    next e false false false x y z = refl

    chosen : (e : ℕ) (s t : Bool) → nat_eq e i ≡ t → option_eq nat_eq (Some e) (if s then Some i else None) ≡ (t && s)
    chosen e true true x = x
    chosen e true false x = x
    chosen e false true x = refl
    chosen e false false x = refl

    moved : (e : ℕ) (u : Bool) → nat_eq e i ≡ u → (u && is_met_concrete classes met i) ≡ (u && is_met_concrete classes met e)
    moved e true x = ap (is_met_concrete classes met) (sym (eqb-true e i x))
    moved e false x = refl

    spread : (u v t : Bool) → ((v && t) || (u && t)) ≡ ((v || u) && t)
    spread true true true = refl
    spread true true false = refl
    spread true false t = refl
    spread false true true = refl
    spread false true false = refl
    spread false false t = refl

    by : (e : ℕ) → ((nat_lt e i && is_met_concrete classes met e) || option_eq nat_eq (Some e)
        (if is_met_concrete classes met i then Some i else None)) ≡ (nat_lt e (i + 1) && is_met_concrete classes met e)
    by e =
        ap (λ b. (nat_lt e i && is_met_concrete classes met e) || b) (chosen e (is_met_concrete classes met i) (nat_eq e i) refl ∙ moved e (nat_eq e i) refl)
        ∙ spread (nat_eq e i) (nat_lt e i) (is_met_concrete classes met e)
        ∙ ap (λ b. b && is_met_concrete classes met e) (sym (next e (nat_eq e i) (nat_lt e i) (nat_lt e (i + 1)) refl refl refl))

pub picked_all : (classes : Classes) (met a b : List Bool) (p q : List ℕ) → Meets (λ e. nat_lt e (length classes)
    && is_met_concrete classes met e) a b p q → Meets (is_met_concrete classes met) a b p q
picked_all classes met a b p q m = meets_like _ _ (λ e. by e (is_met_concrete classes met e) refl) a b p q m
  where
    by : (e : ℕ) (t : Bool) → is_met_concrete classes met e ≡ t → (nat_lt e (length classes) && is_met_concrete classes met e) ≡ is_met_concrete classes met e
    by e true f = and_from _ _ (lt-ltb e (length classes) (concrete_within classes e (and_both (has_met met e) (is_concrete classes e) f).1)) f ∙ sym f
    by e false f = ap (λ b. nat_lt e (length classes) && b) f ∙ off (nat_lt e (length classes)) ∙ sym f
      where
        off : (b : Bool) → (b && false) ≡ false
        off true = refl
        off false = refl

-- one more component is looked at
pub passes_more : (rules : Rules) (name : List ℕ) (class i : ℕ) (o : Option ℕ) (a b c : List Bool) (p q r : List ℕ) → o ≡ passed rules name class i
    → Meets (is_passed rules name i class) a b p q → Meets (λ e. option_eq nat_eq (Some e) o) b c q r → Meets (is_passed rules name (i + 1) class) a c p r
passes_more rules name class i o a b c p q r is m k =
    let next : suc i ≡ i + 1 = omega arith in
    subst (λ n. Meets (is_passed rules name n class) a c p r) next
    (meets_like _ _ (λ e. ap (λ o. is_passed rules name i class e || option_eq nat_eq (Some e) o) is) a c p r (meets_more _ _ a b c p q r m k))

-- the classes to which a class leads: below it, and, where it isn't abstract, in its components
pub leads_concrete : (rules : Rules) (name : List ℕ) (class n : ℕ) (t : ℕ → Bool) (a b c : List Bool) (p q r : List ℕ)
    → ((e : ℕ) → t e ≡ is_child rules.classes class e) → is_concrete rules.classes class ≡ true
    → n ≡ length (parts rules.classes class)
    → Meets t a b p q → Meets (is_passed rules name n class) b c q r → Meets (leads rules name class) a c p r
leads_concrete rules name class n t a b c p q r child concrete count m k =
    meets_like _ _ (λ e. ap₂ (λ u v. u || is_passed rules name v class e) (child e) count
    ∙ ap (λ u. is_child rules.classes class e
    || (u && is_passed rules name (length (parts rules.classes class)) class e)) (sym concrete)) a c p r
    (meets_more _ _ a b c p q r m k)

pub leads_abstract : (rules : Rules) (name : List ℕ) (class : ℕ) (t : ℕ → Bool) (a b : List Bool) (p q : List ℕ)
    → ((e : ℕ) → t e ≡ is_child rules.classes class e) → is_concrete rules.classes class ≡ false
    → Meets t a b p q → Meets (leads rules name class) a b p q
leads_abstract rules name class t a b p q child abstract' m =
    meets_like _ _ (λ e. child e ∙ off (is_child rules.classes class e) ∙ ap (λ u. is_child rules.classes class e
    || (u && is_passed rules name (length (parts rules.classes class)) class e)) (sym abstract')) a b p q m
  where
    off : (b : Bool) → b ≡ (b || false)
    off true = refl
    off false = refl

-- the walk, step by step
pub exposing_begins : (rules : Rules) → AreSound rules.classes
    → (name : List ℕ) (count first : ℕ) (met : List Bool) (pending : List ℕ) → count ≡ length rules.classes → first ≡ 0
    → Meets (λ c. nat_eq c first) (replicate count false) met [] pending
    → Walking (length rules.classes) (λ c. nat_eq c 0) (leads rules name) (λ c. true) (AllExposed rules name) 0 met pending
exposing_begins rules sound name count first met pending all start m =
    begins (length rules.classes) (λ c. nat_eq c 0) (leads rules name) (λ c. true) (AllExposed rules name) met pending
    (subst (λ n. Meets (λ c. nat_eq c 0) (replicate n false) met [] pending) all (subst (λ f. Meets (λ c. nat_eq c f) (replicate count false) met [] pending) start m))
    (length-replicate (length rules.classes) false)
    (λ c less e. subst (AllExposed rules name) (sym (eqb-true c 0 e)) (λ k f. as_root k f))

pub exposing_on : (rules : Rules) → AreSound rules.classes → (name : List ℕ) (i c : ℕ) (o : Option ℕ) (met old after : List Bool) (pending rest waiting : List ℕ)
    → Walking (length rules.classes) (λ c. nat_eq c 0) (leads rules name) (λ c. true) (AllExposed rules name) i met
    pending → old ≡ met → pending ≡ rest ++ option_to_list o → o ≡ Some c
    → Meets (leads rules name c) old after rest waiting
    → Walking (length rules.classes) (λ c. nat_eq c 0) (leads rules name) (λ c. true) (AllExposed rules name) (i + 1) after waiting
exposing_on rules sound name i c o met old after pending rest waiting w same_met taken is m =
    steps (length rules.classes) (λ c. nat_eq c 0) (leads rules name) (λ c. true) (AllExposed rules name) i c o met old
    after pending rest waiting w same_met taken is m refl (λ d good less l. leads_on rules sound name c d good l)

pub exposing_stops : (rules : Rules) (name : List ℕ) (i : ℕ) (o : Option ℕ) (met old : List Bool) (pending : List ℕ)
    → Walking (length rules.classes) (λ c. nat_eq c 0) (leads rules name) (λ c. true) (AllExposed rules name) i met pending → old ≡ met → o ≡ None → IfNone o (length pending ≡ 0)
    → Walked (length rules.classes) (λ c. nat_eq c 0) (leads rules name) (λ c. true) (AllExposed rules name) old
exposing_stops rules name i o met old pending w same_met is none =
    stops (length rules.classes) (λ c. nat_eq c 0) (leads rules name) (λ c. true) (AllExposed rules name) i met old pending w same_met (subst (λ x. IfNone x (length pending ≡ 0)) is none)

pub marking_begins : (classes : Classes) (exposed met : List Bool) (pending : List ℕ) → Meets (is_met_concrete classes exposed) (replicate (length classes) false) met [] pending
    → Walking (length classes) (is_met_concrete classes exposed) (leads_up classes) (λ c. true) (HasBelow classes exposed) 0 met pending
marking_begins classes exposed met pending m =
    begins (length classes) (is_met_concrete classes exposed) (leads_up classes) (λ c. true) (HasBelow classes exposed)
    met pending m (length-replicate (length classes) false) (λ c less e. has_below_itself classes exposed c e)

pub marking_on : (classes : Classes) → AreSound classes → (exposed : List Bool) (i c : ℕ) (o up : Option ℕ) (met old after : List Bool) (pending rest waiting : List ℕ)
    → Walking (length classes) (is_met_concrete classes exposed) (leads_up classes) (λ c. true) (HasBelow classes exposed) i met pending → old ≡ met → pending ≡ rest ++ option_to_list o → o ≡ Some c
    → up ≡ parent_of classes c → Meets (λ d. option_eq nat_eq (Some d) up) old after rest waiting
    → Walking (length classes) (is_met_concrete classes exposed) (leads_up classes) (λ c. true) (HasBelow classes exposed) (i + 1) after waiting
marking_on classes sound exposed i c o up met old after pending rest waiting w same_met taken is parent m =
    steps (length classes) (is_met_concrete classes exposed) (leads_up classes) (λ c. true) (HasBelow classes exposed) i c o met old after pending rest waiting w same_met taken is
    (subst (λ u. Meets (λ d. option_eq nat_eq (Some d) u) old after rest waiting) parent m) refl (λ d good less l. has_below_up classes sound exposed c d good l)

pub marking_stops : (classes : Classes) (exposed : List Bool) (i : ℕ) (o : Option ℕ) (met old : List Bool) (pending : List ℕ)
    → Walking (length classes) (is_met_concrete classes exposed) (leads_up classes) (λ c. true) (HasBelow classes exposed) i met pending → old ≡ met → o ≡ None → IfNone o (length pending ≡ 0)
    → Walked (length classes) (is_met_concrete classes exposed) (leads_up classes) (λ c. true) (HasBelow classes exposed) old
marking_stops classes exposed i o met old pending w same_met is none =
    stops (length classes) (is_met_concrete classes exposed) (leads_up classes) (λ c. true) (HasBelow classes exposed) i met old pending w same_met (subst (λ x. IfNone x (length pending ≡ 0)) is none)

pub picks_begin : (test : ℕ → Bool) (count n : ℕ) (fresh : List Bool) (pending : List ℕ) → count ≡ n → fresh
    ≡ replicate count false → pending ≡ [] → Meets (λ c. nat_lt c 0 && test c) (replicate n false) fresh [] pending
picks_begin test count n fresh pending all is none =
    subst (λ ms. Meets (λ c. nat_lt c 0 && test c) (replicate n false) ms [] pending) (sym (is ∙ ap (λ k. replicate k false) all))
    (subst (λ ps. Meets (λ c. nat_lt c 0 && test c) (replicate n false) (replicate n false) [] ps) (sym none)
    (meets_like _ _ (λ c. by c (nat_lt c 0) refl) (replicate n false) (replicate n false) [] [] (meets_none (replicate n false) [])))
  where
    by : (c : ℕ) (b : Bool) → nat_lt c 0 ≡ b → false ≡ (nat_lt c 0 && test c)
    by c true e = absurd (omega (arith, ltb-true c 0 e))
    by c false e = sym (ap (λ b. b && test c) e)
