-- The sample rules are well formed, and the sample trees are sound.
use Rattle.std.proofs.Common.{◌≡◌, ℕ, zero, suc, pos, negsuc, ◌<◌, nat_eq, length, get_or, arith, Bool, true, false, cond, ◌&&◌, not, List, [], ◌∷◌, Option, Some, None, refl, sym, ap, ◌∙◌, subst}
use Rattle.std.specs.Prelude.{IsSome, IfSome, is_some, option_and_then}
use Rattle.std.specs.List.{slice_get, list_any, AllByRecursion}
use Rattle.std.specs.Str.{IsUtf8, bytes_eq}
use Rattle.std.proofs.lemmas.Option.{slice_get_within}
use Rattle.std.proofs.lemmas.Bool.Decides.{nat_tests}
use lib.Chars.{codes}
use Rattle.at_model.specs.Bodies.{Expr, This, TextLiteral, IntLiteral, no_exprs, expr}
use Rattle.at_model.specs.Bodies as body
use Rattle.at_model.specs.Classes.{Classes, Class, chain, parent_of, class_in, parts, is_sub, is_concrete, fits}
use Rattle.at_model.specs.Classes as token
use Rattle.at_model.specs.Declarations.{above}
use Rattle.at_model.specs.Rules.{Rules, Kind, Int, Truth, Text, Attribute, own_equation, inherited_equation, PassesDown, Exposed, as_root, below, AreComplete}
use Rattle.at_model.specs.Rules as kind
use Rattle.at_model.specs.Samples.{calc, calc_classes, calc_attributes, calc_tree, sum_rules, sum_tree}
use Rattle.at_model.specs.Kinds.{AreComparable, ScopeKinds, HasKind, HaveKinds, IsDeclarationTyped, IsOwnTyped, IsInheritedTyped, IsInheritedOf, AreInheritedAlike, AreTyped}
use Rattle.at_model.specs.Kinds as form
use Rattle.at_model.specs.WellFormed.{IsHierarchy, AreWellFormed, IsTreeSound}
use Rattle.at_model.proofs.Options.{both}
use Rattle.at_model.proofs.Everywhere.{found}
use Rattle.at_model.proofs.Below.{sub_sub}
use Rattle.at_model.proofs.Chained.{chained}
use Rattle.at_model.proofs.of_typing.Taken.{taken}
use Rattle.at_model.proofs.of_texts.PlainLines.{low_utf8}
use Rattle.at_model.proofs.Listed.{none_below}

-- tests on all numbers below one
abbrev every_below : ℕ → (ℕ → Bool) → Bool
every_below zero p = true
every_below (suc n) p = p n && every_below n p

at_top : (n : ℕ) (p : ℕ → Bool) (k : ℕ) → p n ≡ true → k < suc n → (b : Bool) → nat_eq k n ≡ b → (k < n → p k ≡ true) → p k ≡ true
at_top n p k e h true f rest = let same : k ≡ n = grind (arith, nat_tests) in subst (λ m. p m ≡ true) (sym same) e
at_top n p k e h false f rest = let less : k < n = grind (arith, nat_tests) in rest less

passes : (n : ℕ) (p : ℕ → Bool) (k : ℕ) → every_below n p ≡ true → k < n → p k ≡ true
passes zero p k e h = absurd (none_below k h)
passes (suc n) p k e h = at_top n p k (both (p n) (every_below n p) e).0 h (nat_eq k n) refl (passes n p k (both (p n) (every_below n p) e).1)

off : (b : Bool) → not b ≡ true → b ≡ false
off true e = absurd cc
off false e = refl

module _ (classes : Classes) (parents : AllByRecursion (λ (k : Class). IfSome k.parent (λ b. b < length classes))
    classes) (free : every_below (length classes) (λ c. not (list_any (nat_eq c) (above classes c))) ≡ true) where
  parents_there : (c : ℕ) → IfSome (parent_of classes c) (λ b. b < length classes)
  parents_there c = by_class (slice_get classes c) refl
    where
      by_class : (o : Option Class) → slice_get classes c ≡ o → IfSome (option_and_then (λ (k : Class). k.parent) o) (λ b. b < length classes)
      by_class None e = tt
      by_class (Some k) e = found (λ (k : Class). IfSome k.parent (λ b. b < length classes)) classes c k parents e

  hierarchy : IsHierarchy classes
  hierarchy = record { parents = parents_there; no_circle = λ c h. off (list_any (nat_eq c) (above classes c)) (passes (length classes) (λ c. not (list_any (nat_eq c) (above classes c))) c free h) }

concrete_there : (classes : Classes) (c b : ℕ) → fits classes c b ≡ true → c < length classes
concrete_there classes c b e = by_class (slice_get classes c) refl (both (is_concrete classes c) (is_sub classes c b) e).0
  where
    by_class : (o : Option Class) → slice_get classes c ≡ o → elim o [ None ↦ false | Some k ↦ not k.is_abstract ] ≡ true → c < length classes
    by_class None f g = absurd cc
    by_class (Some k) f g = slice_get_within classes c k f

-- the class has an equation for the attribute, where its nodes need one
abbrev is_met : Rules → ℕ → ℕ → Bool
is_met rules c k = elim (slice_get rules.attributes k) [ None ↦ true | Some a ↦ cond a.is_inherited true (cond (fits rules.classes c a.class) (is_some (own_equation rules c k)) true) ]

met_there : (rules : Rules) (c k : ℕ) (a : Attribute) → slice_get rules.attributes k ≡ Some a → a.is_inherited ≡ false
    → fits rules.classes c a.class ≡ true → is_met rules c k ≡ true → is_some (own_equation rules c k) ≡ true
met_there rules c k a e f g h = by_option (slice_get rules.attributes k) e h
  where
    by_option : (o : Option Attribute) → o ≡ Some a → elim o [
      | None ↦ true
      | Some a ↦
          cond a.is_inherited true (cond (fits rules.classes c a.class) (is_some (own_equation rules c k)) true)
    ] ≡ true
        → is_some (own_equation rules c k) ≡ true
    by_option None i j = absurd cc
    by_option (Some b) i j =
        let same : b ≡ a = cc in
        let x = subst (λ (z : Attribute). cond z.is_inherited true (cond (fits rules.classes c z.class) (is_some (own_equation rules c k)) true) ≡ true) same j in
        subst (λ z. cond z (is_some (own_equation rules c k)) true ≡ true) g (subst (λ z. cond z true (cond (fits rules.classes c a.class) (is_some (own_equation rules c k)) true) ≡ true) f x)

all_met : (rules : Rules) → every_below (length rules.classes) (λ c. every_below (length rules.attributes)
    (is_met rules c)) ≡ true → (c k : ℕ) (a : Attribute) → slice_get rules.attributes k ≡ Some a
    → a.is_inherited ≡ false → fits rules.classes c a.class ≡ true → IsSome (own_equation rules c k)
all_met rules test c k a e f g =
    met_there rules c k a e f g
    (passes (length rules.attributes) (is_met rules c) k (passes (length rules.classes)
    (λ c. every_below (length rules.attributes) (is_met rules c)) c test (concrete_there rules.classes c a.class g))
    (slice_get_within rules.attributes k a e))

-- sum -----------------------------------------------------------------------------------------------------------------

total : Attribute
total = record { name = codes "total"; class = 0; parameters = []; result = Int; is_lazy = false; is_inherited = false; start = None }

sum_hierarchy : IsHierarchy sum_rules.classes
unfolding chain
sum_hierarchy = hierarchy sum_rules.classes (tt, (tt, tt)) refl

sum_body : HasKind sum_rules (record { this = 0; names = []; has_index = false })
    (body.Arithmetic body.Add (body.TokenOf (body.Child This 0) 0)
    (body.Arithmetic body.Multiply (body.TokenOf (body.Child This 1) 0) (IntLiteral (pos 2)))) Int
unfolding chain
sum_body = form.arithmetic body.Add (form.token_of 1 0 token.Int refl (form.child 0 0 1 refl form.this))
    (form.arithmetic body.Multiply (form.token_of 1 0 token.Int refl (form.child 0 1 1 refl form.this))
    (form.int_literal (pos 2) (omega arith)))

not_inherited : (a : Attribute) → a.is_inherited ≡ false → a.is_inherited ≡ true → ⊥
not_inherited a e f = let g : false ≡ true = sym e ∙ f in absurd cc

sum_synthesized : (k : ℕ) (a : Attribute) → slice_get sum_rules.attributes k ≡ Some a → a.is_inherited ≡ false
sum_synthesized k a e = found (λ (a : Attribute). a.is_inherited ≡ false) sum_rules.attributes k a (refl, tt) e

sum_typed : AreTyped sum_rules
unfolding chain total
sum_typed = record {
  attributes = (record { class = omega arith; result = tt; parameters = tt; few = omega arith; boolean = λ b e. absurd cc }, tt);
  alike = λ j k a b e f inherited. absurd (not_inherited a (sum_synthesized j a e) inherited);
  own = (record { declaration = total; attribute = refl; synthesized = refl; declared = refl; body = sum_body }, tt);
  inherited = tt;
}

sum_complete : AreComplete sum_rules
unfolding chain
sum_complete = record {
  synthesized = all_met sum_rules refl;
  inherited = λ c k a e inherited f g. not_inherited a (sum_synthesized k a e) inherited;
}

pub sum_well_formed : AreWellFormed sum_rules
sum_well_formed = record { hierarchy = sum_hierarchy; typed = sum_typed; complete = sum_complete }

pub sum_tree_sound : IsTreeSound sum_rules.classes sum_tree
unfolding chain
sum_tree_sound = record { conform = refl; within = refl; tokens = ((omega arith, tt), ((omega arith, tt), tt)) }

-- the calculator ------------------------------------------------------------------------------------------------------

calc_hierarchy : IsHierarchy calc_classes
unfolding chain
calc_hierarchy = hierarchy calc_classes (tt, (tt, (omega arith, (omega arith, (omega arith, (tt, (omega arith, (omega arith, (omega arith, tt))))))))) refl

-- the attribute at a position
abbrev at : ℕ → Attribute
at k = get_or calc_attributes k total

-- a scope without parameters, and with a name
abbrev plain : ℕ → ScopeKinds
plain c = record { this = c; names = []; has_index = false }

abbrev with_name : ℕ → Bool → ScopeKinds
with_name c b = record { this = c; names = Text ∷ []; has_index = b }

int_of : (s : ScopeKinds) (n : ℕ) → n < 2147483648 → HasKind calc s (IntLiteral (pos n)) Int
int_of s n h = form.int_literal (pos n) h

one_by_zero_typed : HasKind calc (plain 0) (body.Arithmetic body.Divide (IntLiteral (pos 1)) (IntLiteral (pos 0))) Int
one_by_zero_typed = form.arithmetic body.Divide (int_of (plain 0) 1 (omega arith)) (int_of (plain 0) 0 (omega arith))

circ_typed : HasKind calc (plain 0) (body.Call This 9 no_exprs) Int
unfolding chain
circ_typed = form.call 0 9 (at 9) refl refl form.this form.no_more

spin_typed : HasKind calc (plain 0) (body.Call This 10 no_exprs) Truth
unfolding chain
spin_typed = form.call 0 10 (at 10) refl refl form.this form.no_more

-- a call of one of the attributes with one parameter, of the node itself with the name
named_call : HaveKinds calc (with_name 2 true) (expr (body.Name 0) no_exprs) (Text ∷ [])
named_call = form.argument tt (form.name 0 refl) form.no_more

local_typed : HasKind calc (with_name 2 true) (body.Call This 2 (expr (body.Name 0) no_exprs)) (kind.Class 3)
unfolding chain
local_typed = form.call 2 2 (at 2) refl refl form.this named_call

lookup_typed : HasKind calc (with_name 2 true) (body.Call This 1 (expr (body.Name 0) no_exprs)) (kind.Class 3)
unfolding chain
lookup_typed = form.call 2 1 (at 1) refl refl form.this named_call

own_typed : AllByRecursion (IsOwnTyped calc) calc.own
unfolding chain
own_typed = (
  record {
    declaration = at 2;
    attribute = refl;
    synthesized = refl;
    declared = refl;
    body = form.cast_to 1 3 (omega arith) (form.first 2 0 1 refl form.this (form.call 1 3 (at 3) refl refl (form.name 0 refl) (form.argument tt (form.name 1 refl) form.no_more)));
  },
  (
    record { declaration = at 3; attribute = refl; synthesized = refl; declared = refl; body = form.truth_literal false },
    (
      record {
        declaration = at 3;
        attribute = refl;
        synthesized = refl;
        declared = refl;
        body = form.equals (form.token_of 3 0 token.Text refl form.this) (form.name 0 refl);
      },
      (
        record {
          declaration = at 4;
          attribute = refl;
          synthesized = refl;
          declared = refl;
          body = form.call 6 0 (at 0) refl refl form.this (form.argument tt (form.token_of 6 0 token.Text refl form.this) form.no_more);
        },
        (
          record { declaration = at 5; attribute = refl; synthesized = refl; declared = refl; body = form.token_of 7 0 token.Int refl form.this },
          (
            record {
              declaration = at 5;
              attribute = refl;
              synthesized = refl;
              declared = refl;
              body = form.arithmetic body.Add (form.call 5 5 (at 5) refl refl (form.child 8 0 5 refl form.this)
                  form.no_more) (form.call 5 5 (at 5) refl refl (form.child 8 1 5 refl form.this) form.no_more);
            },
            (
              record {
                declaration = at 5;
                attribute = refl;
                synthesized = refl;
                declared = refl;
                body = form.call 3 6 (at 6) refl refl (form.call 6 4 (at 4) refl refl form.this form.no_more) form.no_more;
              },
              (
                record {
                  declaration = at 6;
                  attribute = refl;
                  synthesized = refl;
                  declared = refl;
                  body = form.choose Int (form.has 3 1 5 refl form.this) (form.call 5 5 (at 5) refl refl (form.child 3 1 5 refl form.this) form.no_more) (form.int_literal (pos 0) (omega arith));
                },
                (
                  record {
                    declaration = at 7;
                    attribute = refl;
                    synthesized = refl;
                    declared = refl;
                    body = form.same (kind.Class 5) (kind.Class 5) (form.nodes 5 5) (form.child 8 0 5 refl form.this) (form.child 8 1 5 refl form.this);
                  },
                  (
                    record {
                      declaration = at 8;
                      attribute = refl;
                      synthesized = refl;
                      declared = refl;
                      body = form.same (kind.Class 5) (kind.Class 5) (form.nodes 5 5) (form.child 8 0 5 refl form.this) (form.child 8 0 5 refl form.this);
                    },
                    (
                      record { declaration = at 9; attribute = refl; synthesized = refl; declared = refl; body = circ_typed },
                      (
                        record { declaration = at 10; attribute = refl; synthesized = refl; declared = refl; body = spin_typed },
                        (
                          record { declaration = at 11; attribute = refl; synthesized = refl; declared = refl; body = form.and (form.truth_literal false) spin_typed },
                          (
                            record { declaration = at 12; attribute = refl; synthesized = refl; declared = refl; body = form.arithmetic body.Add one_by_zero_typed circ_typed },
                            (
                              record { declaration = at 13; attribute = refl; synthesized = refl; declared = refl; body = form.arithmetic body.Add circ_typed one_by_zero_typed },
                              (
                                record {
                                  declaration = at 14;
                                  attribute = refl;
                                  synthesized = refl;
                                  declared = refl;
                                  body = form.arithmetic body.Add (int_of (plain 0) 2147483647 (omega arith)) (int_of (plain 0) 1 (omega arith));
                                },
                                (
                                  record {
                                    declaration = at 15;
                                    attribute = refl;
                                    synthesized = refl;
                                    declared = refl;
                                    body = form.join_int (form.join_int (form.text_literal (codes "n"))
                                        (form.arithmetic body.Divide (int_of (plain 0) 1 (omega arith)) (int_of
                                        (plain 0) 2 (omega arith)))) (form.int_literal (negsuc 6) (omega arith));
                                  },
                                  tt,
                                ),
                              ),
                            ),
                          ),
                        ),
                      ),
                    ),
                  ),
                ),
              ),
            ),
          ),
        ),
      ),
    ),
  ),
)

-- what holds of the attributes that are inherited of a name
abbrev IsEach : List ℕ → (Attribute → Type 0) → Attribute → Type 0
IsEach name P a = a.is_inherited ≡ true → bytes_eq name a.name ≡ true → P a

each_lookup : (P : Attribute → Type 0) → P (at 0) → P (at 1) → AllByRecursion (IsEach (codes "lookup") P) calc_attributes
each_lookup P user block = (
  λ i e. user,
  (
    λ i e. block,
    (
      λ i e. absurd cc,
      (
        λ i e. absurd cc,
        (
          λ i e. absurd cc,
          (
            λ i e. absurd cc,
            (
              λ i e. absurd cc,
              (
                λ i e. absurd cc,
                (
                  λ i e. absurd cc,
                  (
                    λ i e. absurd cc,
                    (
                      λ i e. absurd cc,
                      (
                        λ i e. absurd cc,
                        (
                          λ i e. absurd
                              cc,
                          (λ i e. absurd cc, (λ i e. absurd cc, (λ i e. absurd cc, (λ i e. absurd cc, tt)))),
                        ),
                      ),
                    ),
                  ),
                ),
              ),
            ),
          ),
        ),
      ),
    ),
  ),
)

each_pos : (P : Attribute → Type 0) → P (at 16) → AllByRecursion (IsEach (codes "pos") P) calc_attributes
each_pos P statement = (
  λ i e. absurd cc,
  (
    λ i e. absurd cc,
    (
      λ i e. absurd cc,
      (
        λ i e. absurd cc,
        (
          λ i e. absurd cc,
          (
            λ i e. absurd cc,
            (
              λ i e. absurd cc,
              (
                λ i e. absurd cc,
                (
                  λ i e. absurd cc,
                  (
                    λ i e. absurd cc,
                    (
                      λ i e. absurd cc,
                      (
                        λ i e. absurd cc,
                        (
                          λ i e. absurd
                              cc,
                          (λ i e. absurd cc, (λ i e. absurd cc, (λ i e. absurd cc, (λ i e. statement, tt)))),
                        ),
                      ),
                    ),
                  ),
                ),
              ),
            ),
          ),
        ),
      ),
    ),
  ),
)

of_lookup : (P : Attribute → Type 0) → P (at 0) → P (at 1) → (k : ℕ) (a : Attribute) → IsInheritedOf calc (codes "lookup") k a → P a
of_lookup P user block k a (e, inherited, named) = found (IsEach (codes "lookup") P) calc_attributes k a (each_lookup P user block) e inherited named

of_pos : (P : Attribute → Type 0) → P (at 16) → (k : ℕ) (a : Attribute) → IsInheritedOf calc (codes "pos") k a → P a
of_pos P statement k a (e, inherited, named) = found (IsEach (codes "pos") P) calc_attributes k a (each_pos P statement) e inherited named

abbrev Body : ℕ → Bool → Expr → Attribute → Type 0
Body c b e a = HasKind calc (record { this = c; names = a.parameters; has_index = b }) e a.result

lookup_in_block : HasKind calc (with_name 2 true)
    (body.Choose (body.Differ (body.Call This 2 (expr (body.Name 0) no_exprs)) body.NullLiteral)
    (body.Call This 2 (expr (body.Name 0) no_exprs)) (body.Call This 1 (expr (body.Name 0) no_exprs))) (kind.Class 3)
lookup_in_block = form.choose (kind.Class 3) (form.differ (kind.Class 3) (kind.Class 3) (form.nodes 3 3) local_typed (form.null_literal 3)) local_typed lookup_typed

inherited_typed : AllByRecursion (IsInheritedTyped calc) calc.inherited
unfolding chain
inherited_typed = (
  record {
    class = omega arith;
    part = refl;
    declared = (0, at 0, (refl, refl, refl));
    body = λ k a h. of_lookup
        (Body 2 true (body.Choose (body.Differ (body.Call This 2 (expr (body.Name 0) no_exprs)) body.NullLiteral)
        (body.Call This 2 (expr (body.Name 0) no_exprs)) (body.Call This 1 (expr (body.Name 0) no_exprs))))
        lookup_in_block lookup_in_block k a h;
  },
  (
    record {
      class = omega arith;
      part = refl;
      declared = (0, at 0, (refl, refl, refl));
      body = λ k a h. of_lookup (Body 0 false body.NullLiteral) (form.null_literal 3) (form.null_literal 3) k a h;
    },
    (
      record {
        class = omega arith;
        part = refl;
        declared = (16, at 16, (refl, refl, refl));
        body = λ k a h. of_pos (Body 2 true body.IndexName) (form.index_name refl) k a h;
      },
      (
        record {
          class = omega arith;
          part = refl;
          declared = (16, at 16, (refl, refl, refl));
          body = λ k a h. of_pos (Body 0 false (IntLiteral (negsuc 0))) (form.int_literal (negsuc 0) (omega arith)) k a h;
        },
        tt,
      ),
    ),
  ),
)

declarations_typed : AllByRecursion (IsDeclarationTyped calc_classes) calc_attributes
declarations_typed = (
  record {
    class = omega arith;
    result = omega arith;
    parameters = (tt, tt);
    few = omega arith;
    boolean = λ b e.
        absurd cc;
  },
  (
    record {
      class = omega arith;
      result = omega arith;
      parameters = (tt, tt);
      few = omega arith;
      boolean = λ b e. absurd cc;
    },
    (
      record {
        class = omega arith;
        result = omega arith;
        parameters = (tt, tt);
        few =
            omega arith;
        boolean = λ b e. absurd cc;
      },
      (
        record {
          class = omega arith;
          result = tt;
          parameters = (tt, tt);
          few = omega arith;
          boolean = λ b e. absurd cc;
        },
        (
          record {
            class = omega arith;
            result = omega arith;
            parameters = tt;
            few = omega arith;
            boolean = λ b e. absurd cc;
          },
          (
            record {
              class = omega arith;
              result = tt;
              parameters = tt;
              few = omega arith;
              boolean = λ b e. absurd cc;
            },
            (
              record {
                class = omega
                    arith;
                result = tt;
                parameters = tt;
                few = omega arith;
                boolean = λ b e. absurd cc;
              },
              (
                record {
                  class = omega
                      arith;
                  result = tt;
                  parameters = tt;
                  few = omega arith;
                  boolean = λ b e. absurd cc;
                },
                (
                  record {
                    class = omega
                        arith;
                    result = tt;
                    parameters = tt;
                    few = omega arith;
                    boolean = λ b e. absurd cc;
                  },
                  (
                    record {
                      class = omega
                          arith;
                      result = tt;
                      parameters = tt;
                      few = omega arith;
                      boolean = λ b e. absurd cc;
                    },
                    (
                      record {
                        class = omega
                            arith;
                        result = tt;
                        parameters = tt;
                        few = omega arith;
                        boolean = λ b e. absurd cc;
                      },
                      (
                        record {
                          class = omega
                              arith;
                          result = tt;
                          parameters = tt;
                          few = omega arith;
                          boolean = λ b e. absurd cc;
                        },
                        (
                          record {
                            class = omega
                                arith;
                            result = tt;
                            parameters = tt;
                            few = omega arith;
                            boolean = λ b e. absurd cc;
                          },
                          (
                            record {
                              class = omega
                                  arith;
                              result = tt;
                              parameters = tt;
                              few = omega arith;
                              boolean = λ b e. absurd cc;
                            },
                            (
                              record {
                                class = omega
                                    arith;
                                result = tt;
                                parameters = tt;
                                few = omega arith;
                                boolean = λ b e. absurd cc;
                              },
                              (
                                record {
                                  class = omega
                                      arith;
                                  result = tt;
                                  parameters = tt;
                                  few = omega arith;
                                  boolean = λ b e. absurd cc;
                                },
                                (
                                  record {
                                    class = omega
                                        arith;
                                    result = tt;
                                    parameters = tt;
                                    few = omega arith;
                                    boolean = λ b e. absurd cc;
                                  },
                                  tt,
                                ),
                              ),
                            ),
                          ),
                        ),
                      ),
                    ),
                  ),
                ),
              ),
            ),
          ),
        ),
      ),
    ),
  ),
)

-- the same parameters and the same result
abbrev IsSigned : Attribute → Attribute → Type 0
IsSigned a b = (a.parameters ≡ b.parameters) × (a.result ≡ b.result)

abbrev IsAlikeToAll : Attribute → Type 0
IsAlikeToAll a = a.is_inherited ≡ true → (k : ℕ) (b : Attribute) → slice_get calc_attributes k ≡ Some b → b.is_inherited ≡ true → bytes_eq a.name b.name ≡ true → IsSigned a b

all_alike : AllByRecursion IsAlikeToAll calc_attributes
all_alike = (
  λ i k b f j n. of_lookup (IsSigned (at 0)) (refl, refl) (refl, refl) k b (f, j, n),
  (
    λ i k b f j n.
        of_lookup (IsSigned (at 1)) (refl, refl) (refl, refl) k b (f, j, n),
    (
      λ i k b f j n. absurd cc,
      (
        λ i k b f j n.
            absurd cc,
        (
          λ i k b f j n. absurd cc,
          (
            λ i k b f j n. absurd cc,
            (
              λ i k b f j n. absurd cc,
              (
                λ i k b f j n. absurd
                    cc,
                (
                  λ i k b f j n. absurd cc,
                  (
                    λ i k b f j n. absurd cc,
                    (
                      λ i k b f j n. absurd cc,
                      (
                        λ i k b f j n. absurd
                            cc,
                        (
                          λ i k b f j n. absurd cc,
                          (
                            λ i k b f j n. absurd cc,
                            (
                              λ i k b f j n. absurd cc,
                              (
                                λ i k b f j n. absurd
                                    cc,
                                (λ i k b f j n. of_pos (IsSigned (at 16)) (refl, refl) k b (f, j, n), tt),
                              ),
                            ),
                          ),
                        ),
                      ),
                    ),
                  ),
                ),
              ),
            ),
          ),
        ),
      ),
    ),
  ),
)

calc_alike : AreInheritedAlike calc
calc_alike j k a b e f inherited also named = found IsAlikeToAll calc_attributes j a all_alike e inherited k b f also named

calc_typed : AreTyped calc
calc_typed = record { attributes = declarations_typed; alike = calc_alike; own = own_typed; inherited = inherited_typed }

-- no node but the root may stand with no equation above
root_alone : (c : ℕ) → fits calc_classes c 0 ≡ true → c ≡ 0
unfolding chain
root_alone c e = is_zero (subst (λ b. cond b (nat_eq c 0) true ≡ true) e (passes (length calc_classes)
    (λ c. cond (fits calc_classes c 0) (nat_eq c 0) true) c refl (concrete_there calc_classes c 0 e)))
  where
    is_zero : nat_eq c 0 ≡ true → c ≡ 0
    is_zero h = grind (arith, nat_tests)

one_part : (p b : ℕ) → option_and_then (λ (q : token.Component). class_in q.shape) (slice_get (parts calc_classes 0) (suc p)) ≡ Some b → ⊥
unfolding chain
one_part zero b e = absurd cc
one_part (suc p) b e = absurd cc

nothing_passes : (bytes : List ℕ) → IsSome (inherited_equation calc 0 0 bytes) → (d : ℕ) → PassesDown calc bytes 0 d → ⊥
nothing_passes bytes some d passes = by passes.part passes.trees passes.without
  where
    by : (part : ℕ) → option_and_then (λ p. class_in p.shape) (slice_get (parts calc_classes 0) part) ≡ Some passes.class → inherited_equation calc 0 part bytes ≡ None → ⊥
    by zero is none = let none_some : is_some (inherited_equation calc 0 0 bytes) ≡ false = ap is_some none in let f : false ≡ true = sym none_some ∙ some in absurd cc
    by (suc p) is none = one_part p passes.class is

only_root : (bytes : List ℕ) → IsSome (inherited_equation calc 0 0 bytes) → (c : ℕ) → Exposed calc bytes c → c ≡ 0
only_root bytes some _ (as_root c e) = root_alone c e
only_root bytes some _ (below c d exposed passes) = absurd (nothing_passes bytes some d (subst (λ z. PassesDown calc bytes z d) (only_root bytes some c exposed) passes))

met_at_root : AllByRecursion (λ (a : Attribute). a.is_inherited ≡ true → IsSome (inherited_equation calc 0 0 a.name)) calc_attributes
unfolding chain
met_at_root = (
  λ i. refl,
  (
    λ i. refl,
    (
      λ i. absurd cc,
      (
        λ i. absurd cc,
        (
          λ i. absurd cc,
          (
            λ i. absurd cc,
            (
              λ i. absurd cc,
              (
                λ i. absurd cc,
                (
                  λ i. absurd cc,
                  (
                    λ i. absurd cc,
                    (
                      λ i. absurd cc,
                      (
                        λ i. absurd
                            cc,
                        (λ i. absurd cc, (λ i. absurd cc, (λ i. absurd cc, (λ i. absurd cc, (λ i. refl, tt))))),
                      ),
                    ),
                  ),
                ),
              ),
            ),
          ),
        ),
      ),
    ),
  ),
)

none_of_root : AllByRecursion (λ (a : Attribute). a.is_inherited ≡ true → fits calc_classes 0 a.class ≡ true → ⊥) calc_attributes
unfolding chain
none_of_root = (
  λ i f. absurd cc,
  (
    λ i f. absurd cc,
    (
      λ i f. absurd cc,
      (
        λ i f. absurd cc,
        (
          λ i f. absurd cc,
          (
            λ i f. absurd cc,
            (
              λ i f. absurd cc,
              (
                λ i f. absurd cc,
                (
                  λ i f. absurd cc,
                  (
                    λ i f. absurd cc,
                    (
                      λ i f. absurd cc,
                      (
                        λ i f. absurd cc,
                        (
                          λ i f. absurd
                              cc,
                          (λ i f. absurd cc, (λ i f. absurd cc, (λ i f. absurd cc, (λ i f. absurd cc, tt)))),
                        ),
                      ),
                    ),
                  ),
                ),
              ),
            ),
          ),
        ),
      ),
    ),
  ),
)

calc_complete : AreComplete calc
unfolding chain
calc_complete = record {
  synthesized = all_met calc refl;
  inherited = λ c k a e inherited f exposed.
      let some = found (λ (a : Attribute). a.is_inherited ≡ true → IsSome (inherited_equation calc 0 0 a.name)) calc_attributes k a met_at_root e inherited in
      let root = only_root a.name some c exposed in
      found (λ (a : Attribute). a.is_inherited ≡ true → fits calc_classes 0 a.class ≡ true → ⊥) calc_attributes k a none_of_root e inherited (subst (λ z. fits calc_classes z a.class ≡ true) root f);
}

pub calc_well_formed : AreWellFormed calc
calc_well_formed = record { hierarchy = calc_hierarchy; typed = calc_typed; complete = calc_complete }

x_is_text : IsUtf8 (codes "x")
x_is_text = low_utf8 (codes "x") refl

pub calc_tree_sound : IsTreeSound calc_classes calc_tree
unfolding chain
calc_tree_sound = record {
  conform = refl;
  within = refl;
  tokens = ((((x_is_text, ((omega arith, tt), tt)), (((((x_is_text, tt), ((omega arith, tt), tt)), tt)), tt)), tt), tt);
}

-- what has no kind ----------------------------------------------------------------------------------------------------

pub no_argument : (rules : Rules) (s : ScopeKinds) (a b : Expr) → HaveKinds rules s (expr (body.Join a b) no_exprs) (Text ∷ []) → ⊥
no_argument rules s a b (form.argument given x xs) = given

abbrev IsText : Kind → Type 0
IsText Text = Unit {0}
IsText k = ⊥

not_text : (k l : Kind) → AreComparable k l → IsText k → ⊥
not_text _ _ form.ints h = h
not_text _ _ form.truths h = h
not_text _ _ (form.nodes c d) h = h

literal_text : (rules : Rules) (s : ScopeKinds) (bytes : List ℕ) (k : Kind) → HasKind rules s (TextLiteral bytes) k → IsText k
literal_text rules s bytes _ (form.widened c d sub x) = literal_text rules s bytes (kind.Class c) x
literal_text rules s bytes _ (form.widened_all c d sub x) = absurd (literal_text rules s bytes (kind.Nodes c) x)
literal_text rules s bytes _ (form.text_literal _) = tt

pub no_texts : (rules : Rules) (s : ScopeKinds) (k : Kind) (bytes more : List ℕ) → HasKind rules s (body.Same (TextLiteral bytes) (TextLiteral more)) k → ⊥
no_texts rules s k bytes more h =
    let (j, l, alike, x, y) = taken rules s (body.Same (TextLiteral bytes) (TextLiteral more)) k h in
    not_text j l alike (literal_text rules s bytes j x)

-- the class of `this` is the kind's or below it
abbrev IsAbove : ℕ → Kind → Type 0
IsAbove c (kind.Class d) = is_sub calc_classes c d ≡ true
IsAbove c k = ⊥

this_above : (s : ScopeKinds) (k : Kind) → is_sub calc_classes s.this s.this ≡ true → HasKind calc s This k → IsAbove s.this k
this_above s _ own (form.widened c d sub x) = sub_sub calc_classes (chained calc_classes calc_hierarchy) s.this c d (this_above s (kind.Class c) own x) sub
this_above s _ own (form.widened_all c d sub x) = absurd (this_above s (kind.Nodes c) own x)
this_above s _ own form.this = own

pub no_declaration : HasKind calc (plain 2) This (kind.Class 3) → ⊥
unfolding chain
no_declaration h = let above : is_sub calc_classes 2 3 ≡ true = this_above (plain 2) (kind.Class 3) refl h in let e : false ≡ true = above in absurd cc
