-- From a class to the first one upward that has an equation for a name, and to what is found from there.
use Rattle.std.proofs.Common.{◌≡◌, ℕ, ◌+◌, ◌<◌, List, [], ◌∷◌, ◌++◌, length, take, drop, refl, ap, sym, ◌∙◌, subst, arith, Option, Some, None, suc, zero, true≢false}
use Rattle.std.specs.Prelude.{Bool, true, false, ◌&&◌, ◌||◌, cond, nat_eq, option_map, option_and_then, is_some, slice_get, Vec}
use Rattle.std.specs.Map.{lookup, keys_of}
use Rattle.std.specs.Option.{option_eq, option_or}
use Rattle.std.proofs.lemmas.Bool.{eqb-true}
use Rattle.std.proofs.lemmas.List.Folds.{list_any-append}
use Rattle.std.proofs.lemmas.Option.{none-some}
use Rattle.indexmap.specs.IndexMap.{insert_entry}
use Rattle.at_model.specs.Classes.{Classes, chain, chain_within, parent_of}
use Rattle.at_model.specs.Bodies.{Expr}
use Rattle.at_model.specs.Rules.{first_answer}
use Rattle.at_model.specs.WellFormed.{IsHierarchy}
use Rattle.at_model.proofs.of_machines.WellAsked.{element_at}
use Rattle.at_class.proofs.Chains.{chain_within-none}
use Rattle.at_model.proofs.LedUp.{led}
use Rattle.at_class.proofs.Named.{position-map}
use Rattle.at_rules.specs.declared.body.Body.{Body}
use Rattle.at_rules.specs.declared.dispatch.Cell.{Cell}
use Rattle.at_rules.specs.declared.dispatch.Precedence.TheVariants.{Nearest}
use Rattle.at_rules.specs.Bodies.{body_view}
use Rattle.at_rules.specs.Dispatch.{key_at, found_up, AreRight}
use Rattle.at_rules.specs.Holding.{is_held, has_equation, class_at, Leads, AreHolders}
use Rattle.at_rules.specs.RulesView.{by_number, numbered_in}
use Rattle.at_rules.proofs.Dispatching.{found_first}
use Rattle.at_rules.proofs.Earlier.{any_found}

-- keys that are put in -----------------------------------------------------------------------------------------------------

abbrev same_key : ℕ × ℕ → ℕ × ℕ → Bool
same_key k l = nat_eq k.0 l.0 && nat_eq k.1 l.1

both : (a b : Bool) → (a && b) ≡ true → (a ≡ true) × (b ≡ true)
both true true is = (refl, refl)
both true false is = absurd (true≢false (sym is))
both false b is = absurd (true≢false (sym is))

pub held_more : {V : Type 0} (es : List ((ℕ × ℕ) × V)) (k : ℕ × ℕ) (v : V) (c n : ℕ) → is_held (keys_of (insert_entry same_key es k v)) c n ≡ (is_held (keys_of es) c n || (nat_eq c k.0 && nat_eq n k.1))
held_more [] k v c n = last (nat_eq c k.0 && nat_eq n k.1)
  where
    last : (b : Bool) → (b || false) ≡ (false || b)
    last true = refl
    last false = refl
held_more (e ∷ es) k v c n = by (same_key k e.0) refl (held_more es k v c n)
  where
    again : (a r : Bool) → (a || r) ≡ ((a || r) || a)
    again true r = refl
    again false true = refl
    again false false = refl

    later : (a r b : Bool) → (a || (r || b)) ≡ ((a || r) || b)
    later true r b = refl
    later false r b = refl

    by : (b : Bool) → same_key k e.0 ≡ b → is_held (keys_of (insert_entry same_key es k v)) c n ≡ (is_held (keys_of es) c n || (nat_eq c k.0 && nat_eq n k.1))
        → is_held (keys_of (cond b ((e.0, v) ∷ es) (e ∷ insert_entry same_key es k v))) c n ≡ (is_held (keys_of (e ∷ es)) c n || (nat_eq c k.0 && nat_eq n k.1))
    by true same rest =
        let s = both (nat_eq k.0 e.0.0) (nat_eq k.1 e.0.1) same in
        again (nat_eq c e.0.0 && nat_eq n e.0.1) (is_held (keys_of es) c n)
        ∙ ap (λ i. is_held (keys_of (e ∷ es)) c n || (nat_eq c i && nat_eq n e.0.1)) (sym (eqb-true k.0 e.0.0 s.0))
        ∙ ap (λ i. is_held (keys_of (e ∷ es)) c n || (nat_eq c k.0 && nat_eq n i)) (sym (eqb-true k.1 e.0.1 s.1))
    by false other rest = ap (λ r. (nat_eq c e.0.0 && nat_eq n e.0.1) || r) rest ∙ later (nat_eq c e.0.0 && nat_eq n e.0.1) (is_held (keys_of es) c n) (nat_eq c k.0 && nat_eq n k.1)

-- a class that isn't held has no equation -----------------------------------------------------------------------------------

none_held : (ks : List (ℕ × ℕ)) (n c : ℕ) → key_at ks n c ≡ None → is_held ks c n ≡ false
none_held ks n c none = sym (any_found (λ key. nat_eq c key.0 && nat_eq n key.1) ks) ∙ ap is_some none

neither : (a b : Bool) → (a || b) ≡ false → (a ≡ false) × (b ≡ false)
neither false b is = (refl, is)
neither true b is = absurd (true≢false is)

no_equation_for : (es : List ((ℕ × Option ℕ × ℕ) × Body)) (n c : ℕ) → has_equation (keys_of es) c n ≡ false → (o : Option ℕ) → by_number es n o c ≡ None
no_equation_for [] n c none o = refl
no_equation_for (e ∷ es) n c none o =
    let s = neither (nat_eq c e.0.0 && nat_eq n e.0.2) (has_equation (keys_of es) c n) none in
    ap (λ b. option_map body_view (cond b (Some e.1) (lookup (λ k. (nat_eq c k.0 && option_eq nat_eq o k.1) && nat_eq n k.2) es))) (off (nat_eq c e.0.0) (option_eq nat_eq o e.0.1) (nat_eq n e.0.2) s.0)
    ∙ no_equation_for es n c s.1 o
  where
    off : (a p b : Bool) → (a && b) ≡ false → ((a && p) && b) ≡ false
    off true true b is = is
    off true false b is = refl
    off false p b is = refl

none_numbered : (es : List ((ℕ × Option ℕ × ℕ) × Body)) (n part c : ℕ) → has_equation (keys_of es) c n ≡ false → numbered_in es n part c ≡ None
none_numbered es n part c none = ap (λ o. option_or o (by_number es n None c)) (no_equation_for es n c none (Some part)) ∙ no_equation_for es n c none None

-- and so the way up may begin at the first one that is held -----------------------------------------------------------------

key_class : {V : Type 0} (held : List ((ℕ × ℕ) × V)) (n c p : ℕ) → key_at (keys_of held) n c ≡ Some p → class_at held p ≡ Some c
key_class held n c p is =
    let e = element_at (λ e. nat_eq c e.0.0 && nat_eq n e.0.1) held p (sym (position-map (λ key. nat_eq c key.0 && nat_eq n key.1) (λ e. e.0) held) ∙ is) in
    ap (option_map (λ e. e.0.0)) e.1 ∙ ap Some (sym (eqb-true c e.0.0.0 (both (nat_eq c e.0.0.0) (nat_eq n e.0.0.1) e.2).0))

abbrev LeadsOn : {B : Type 0} → (ℕ → Option B) → Classes → List ℕ → Option ℕ → Type 0
LeadsOn f classes cs None = first_answer f cs ≡ None
LeadsOn f classes cs (Some b) = first_answer f cs ≡ first_answer f (chain classes b)

module _ {V : Type 0} (classes : Classes) (h : IsHierarchy classes) (some : 0 < length classes) (held : List ((ℕ × ℕ) × V)) (n : ℕ) (f : ℕ → Option Expr) (none : (c : ℕ) → key_at (keys_of held) n c ≡ None → f c ≡ None) where
  leads_on : (cs : List ℕ) (o : Option ℕ) → cs ≡ chain_within (length classes) classes o → LeadsOn f classes cs (option_and_then (class_at held) (first_answer (key_at (keys_of held) n) cs))
  unfolding chain
  leads_on [] o is = refl
  leads_on (d ∷ ds) None is = absurd (no_more d ds (is ∙ chain_within-none classes (length classes)))
    where
      no_more : (d : ℕ) (ds : List ℕ) → d ∷ ds ≡ [] → ⊥
      no_more d ds e = cc
  leads_on (d ∷ ds) (Some c) is = by (key_at (keys_of held) n d) refl (leads_on ds (parent_of classes c) (ap (drop 1) whole))
    where
      whole : d ∷ ds ≡ c ∷ chain_within (length classes) classes (parent_of classes c)
      whole = is ∙ led classes h some c

      first : d ≡ c
      first = ap (λ xs. elim xs [ [] ↦ d | x ∷ rest ↦ x ]) whole

      by : (o : Option ℕ) → key_at (keys_of held) n d ≡ o → LeadsOn f classes ds (option_and_then (class_at held) (first_answer (key_at (keys_of held) n) ds))
          → LeadsOn f classes (d ∷ ds) (option_and_then (class_at held) (option_or o (first_answer (key_at (keys_of held) n) ds)))
      by (Some p) at rest = subst (LeadsOn f classes (d ∷ ds)) (sym (key_class held n d p at)) (ap (first_answer f) (is ∙ ap (λ i. chain_within (length classes) classes (Some i)) (sym first)))
      by None at rest = above (option_and_then (class_at held) (first_answer (key_at (keys_of held) n) ds)) rest
        where
          above : (r : Option ℕ) → LeadsOn f classes ds r → LeadsOn f classes (d ∷ ds) r
          above None rest = ap (λ o. option_or o (first_answer f ds)) (none d at) ∙ rest
          above (Some b) rest = ap (λ o. option_or o (first_answer f ds)) (none d at) ∙ rest

  leads : (c : ℕ) (r : Option ℕ) → r ≡ option_and_then (class_at held) (first_answer (key_at (keys_of held) n) (chain classes c)) → Leads f classes c r
  unfolding chain
  leads c None is = subst (LeadsOn f classes (chain classes c)) (sym is) (leads_on (chain classes c) (Some c) refl)
  leads c (Some b) is = subst (LeadsOn f classes (chain classes c)) (sym is) (leads_on (chain classes c) (Some c) refl)

pub holders_right : {V Z : Type 0} (classes : Classes) → IsHierarchy classes → 0 < length classes → (es : List ((ℕ × Option ℕ × ℕ) × Body)) (held : List ((ℕ × ℕ) × V)) (rows : List (Vec Cell Z))
    → ((c n : ℕ) → has_equation (keys_of es) c n ≡ is_held (keys_of held) c n) → AreRight (found_up Nearest (keys_of held) classes) rows → AreHolders classes es held rows
holders_right classes h some es held rows same right = λ c n part cell is.
    leads classes h some held n (numbered_in es n part) (λ d none. none_numbered es n part d (same d n ∙ none_held (keys_of held) n d none)) c _ (ap (option_and_then (class_at held)) (right c n cell is ∙ found_first (key_at (keys_of held) n) (chain classes c)))

-- one equation more ----------------------------------------------------------------------------------------------------------

one_more : (ks : List (ℕ × Option ℕ × ℕ)) (key : ℕ × Option ℕ × ℕ) (c n : ℕ) → has_equation (ks ++ key ∷ []) c n ≡ (has_equation ks c n || (nat_eq c key.0 && nat_eq n key.2))
one_more ks key c n = list_any-append (λ k. nat_eq c k.0 && nat_eq n k.2) ks (key ∷ []) ∙ ap (λ b. has_equation ks c n || b) (last (nat_eq c key.0 && nat_eq n key.2))
  where
    last : (b : Bool) → (b || false) ≡ b
    last true = refl
    last false = refl

taken : (es : List ((ℕ × Option ℕ × ℕ) × Body)) (i : ℕ) (e : (ℕ × Option ℕ × ℕ) × Body) → slice_get es i ≡ Some e → take (i + 1) (keys_of es) ≡ take i (keys_of es) ++ e.0 ∷ []
taken [] i e is = absurd (none-some e is)
taken (x ∷ xs) zero e is = ap (λ o. elim o [ None ↦ x.0 ∷ [] | Some y ↦ y.0 ∷ [] ]) is
taken (x ∷ xs) (suc i) e is =
    let next : suc i + 1 ≡ suc (i + 1) = omega arith in
    ap (λ m. take m (keys_of (x ∷ xs))) next ∙ ap (λ ks. x.0 ∷ ks) (taken xs i e is)

pub held_next : (es : List ((ℕ × Option ℕ × ℕ) × Body)) (i : ℕ) (e : (ℕ × Option ℕ × ℕ) × Body) (old new : List (ℕ × ℕ)) → slice_get es i ≡ Some e
    → ((c n : ℕ) → has_equation (take i (keys_of es)) c n ≡ is_held old c n) → ((c n : ℕ) → is_held new c n ≡ (is_held old c n || (nat_eq c e.0.0 && nat_eq n e.0.2)))
    → (c n : ℕ) → has_equation (take (i + 1) (keys_of es)) c n ≡ is_held new c n
held_next es i e old new there before here c n =
    ap (λ ks. has_equation ks c n) (taken es i e there)
    ∙ one_more (take i (keys_of es)) e.0 c n
    ∙ ap (λ b. b || (nat_eq c e.0.0 && nat_eq n e.0.2)) (before c n)
    ∙ sym (here c n)

pub not_there : {A : Type 0} (es : List A) (i : ℕ) → i < length es → slice_get es i ≡ None → ⊥
not_there [] i less is = omega (arith, less)
not_there (x ∷ xs) zero less is = none-some x (sym is)
not_there (x ∷ xs) (suc i) less is = not_there xs i (omega (arith, less)) is
