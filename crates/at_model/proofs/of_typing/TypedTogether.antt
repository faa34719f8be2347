-- With well-formed rules, over a sound tree: all of it together.
use Rattle.std.proofs.Common.{◌≡◌, ℕ, ◌<◌, ◌≤◌, Bool, true, false, ◌&&◌, nat_eq, nat_le, List, length, Option, Some, None, refl, sym, ap, ◌∙◌, subst, arith}
use Rattle.std.specs.Prelude.{IsSome, IfSome, option_and_then}
use Rattle.std.specs.List.{slice_get, list_any}
use Rattle.std.proofs.lemmas.Bool.Decides.{nat_tests}
use Rattle.std.proofs.lemmas.List.Elements.{recursion_from_All}
use Rattle.at_model.specs.Classes.{is_sub, Classes, Class, AreSound, IsClassSound}
use Rattle.at_model.specs.Trees.{Tree, class_of}
use Rattle.at_model.specs.Trees as held
use Rattle.at_model.specs.Terms.{max_depth}
use Rattle.at_model.specs.Paths.{Node, node_eq, tree_at}
use Rattle.at_model.specs.Run.{Value, Instance, Contents, Location}
use Rattle.at_model.specs.Run as run
use Rattle.at_model.specs.Bodies.{Expr, Scope, eval, value_of}
use Rattle.at_model.specs.Rules.{Rules, Kind, Attribute, evaluation, own_equation, Source, source_of, is_inherited, attribute_name}
use Rattle.at_model.specs.Meaning.{content, equations, Leads, HasValue, Among}
use Rattle.at_model.specs.Alike.{AlikeAt, Names, IsInjective, InstanceLike, ValueLike}
use Rattle.at_model.specs.Edits.{is_within_limits, tokens_short, max_nodes}
use Rattle.at_model.specs.Asking.{IsWellFormed}
use Rattle.at_model.specs.Kinds.{ScopeKinds, HasKind}
use Rattle.at_model.specs.TypedRuns.{class_at, class_numbered, IsOfKind, IsAllowed, IsWellTyped, IsOfItsKind, IsTypedRun, AreEquationsTyped, IsOfScopeKinds}
use Rattle.at_model.specs.Instances.{literals, tokens, instances, IsGiven, AnyText}
use Rattle.at_model.specs.WellFormed.{IsHierarchy, AreWellFormed, IsTreeSound}
use Rattle.at_model.specs.Declarations.{above}
use Rattle.at_model.specs.Enduring.{AreTokens}
use Rattle.at_model.specs.Machine.{State, IsSound}
use Rattle.at_model.proofs.of_likeness.EquationsAlike.{evaluation-like}
use Rattle.at_model.proofs.Nodes.{same_like, nat_eq-is, node_eq-is}
use Rattle.at_model.proofs.Options.{both}
use Rattle.at_model.proofs.Everywhere.{all_any, found}
use Rattle.at_model.proofs.Depths.{within_depth}
use Rattle.at_model.proofs.Complete.{has_own, has_source}
use Rattle.at_model.proofs.Chained.{chained}
use Rattle.at_model.proofs.of_typing.TypedExpressions.{typed}
use Rattle.at_model.proofs.of_typing.TypedEquations.{AreMet, equations_typed}
use Rattle.at_model.proofs.of_typing.TypedContents.{contents_stand, tokens_written}
use Rattle.at_model.proofs.of_typing.TypedQuestions.{tokens_given, literals_given, typed_of_formed, formed_of_typed}
use Rattle.at_model.proofs.of_typing.TypedLeads.{leads_typed, value_typed}
use Rattle.at_model.proofs.of_typing.TypedNumbers.{value_back, typed_back}
use Rattle.at_model.proofs.Listed.{instance_listed}

less_than_ints : (m n : ℕ) → nat_le m n ≡ true → n < 2147483648 → m < 2147483648
less_than_ints m n e h = grind (arith, nat_tests)

pub few_nodes : (t : Tree) → is_within_limits t ≡ true → held.nodes t < 2147483648
few_nodes t within =
    let (sizes, short) = both (nat_le (held.nodes t) max_nodes && nat_le (held.depth t) max_depth) (tokens_short t) within in
    let (few, deep) = both (nat_le (held.nodes t) max_nodes) (nat_le (held.depth t) max_depth) sizes in
    less_than_ints (held.nodes t) max_nodes few (omega arith)

short_path : (t : Tree) → is_within_limits t ≡ true → (n : Node) → IsSome (tree_at t n) → length n ≤ max_depth
short_path t within n h = by_tree (tree_at t n) refl h
  where
    by_tree : (o : Option Tree) → tree_at t n ≡ o → IsSome o → length n ≤ max_depth
    by_tree None e h = absurd cc
    by_tree (Some u) e h = within_depth t n u within e

pub any_text : {N : Type 0} (v : Value N) → IsAllowed AnyText v
any_text (run.Int n) = tt
any_text (run.Truth b) = tt
any_text (run.Text bytes) = tt
any_text (run.Ref n) = tt
any_text (run.Nodes ns) = tt

-- what is served ------------------------------------------------------------------------------------------------------

pub classes_hierarchy : (classes : Classes) → AreSound classes → ((c : ℕ) → c < length classes → list_any (nat_eq c) (above classes c) ≡ false) → IsHierarchy classes
classes_hierarchy classes sound free = record { parents = λ c. by_class c (slice_get classes c) refl; no_circle = free }
  where
    by_class : (c : ℕ) (o : Option Class) → slice_get classes c ≡ o → IfSome (option_and_then (λ (k : Class). k.parent) o) (λ b. b < length classes)
    by_class c None e = tt
    by_class c (Some k) e = let s = found (IsClassSound (length classes)) classes c k (recursion_from_All (IsClassSound (length classes)) classes sound.each) e in s.parent

pub state_sound : (classes : Classes) (s : State) → IsSound classes s → AreTokens s.tree → IsTreeSound classes s.tree
state_sound classes s sound tokens = record { conform = sound.tree_conforms; within = sound.tree_within; tokens = tokens }

-- an expression has a value of its kind
pub expression_typed : (rules : Rules) → IsHierarchy rules.classes → (t : Tree) → IsTreeSound rules.classes t →
    (s : ScopeKinds) (e : Expr) (k : Kind) (scope : Scope Node) → HasKind rules s e k → IsOfScopeKinds rules.classes (class_at t) AnyText s scope →
    IsTypedRun rules (class_at t) AnyText (content t) (λ v. IsOfKind rules.classes (class_at t) v k) (eval rules.classes node_eq e scope)
expression_typed rules hierarchy t sound s e k scope kinds stands =
    typed rules (chained rules.classes hierarchy) (class_at t) AnyText (content t)
    (contents_stand rules.classes t AnyText
    (record {
      conform = sound.conform;
      fit = tokens_written t sound.tokens;
      said = all_any (λ v. IsAllowed
          {N = Node} AnyText (value_of v)) (tokens t) (λ v. any_text (value_of v));
      few = few_nodes t sound.within;
    }))
    node_eq s e k kinds scope (all_any AnyText (literals e) (λ x. tt)) stands

module _ (rules : Rules) (ok : AreWellFormed rules) (t : Tree) (sound : IsTreeSound rules.classes t) where
  -- with arguments of any text
  pub met_any : AreMet rules t AnyText
  met_any = record {
    lined = chained rules.classes ok.hierarchy;
    typed = ok.typed;
    complete = ok.complete;
    conform = sound.conform;
    short = short_path t sound.within;
    said = record { own = all_any _ rules.own (λ e. all_any AnyText (literals e.body) (λ x. tt)); inherited = all_any _ rules.inherited (λ e. all_any AnyText (literals e.body) (λ x. tt)) };
    contents = contents_stand rules.classes t AnyText
        (record {
          conform = sound.conform;
          fit = tokens_written t sound.tokens;
          said = all_any (λ v. IsAllowed
              {N = Node} AnyText (value_of v)) (tokens t) (λ v. any_text (value_of v));
          few = few_nodes t sound.within;
        });
  }

  -- each equation with these is typed
  pub evaluated_any : AreEquationsTyped rules (class_at t) AnyText (content t) (equations rules)
  evaluated_any = equations_typed rules t AnyText met_any

  module _ (vs : List (Value Node)) where
    pub met : AreMet rules t (IsGiven rules t vs)
    met = record {
      lined = chained rules.classes ok.hierarchy;
      typed = ok.typed;
      complete = ok.complete;
      said = literals_given rules t vs;
      conform = sound.conform;
      contents = contents_stand rules.classes t (IsGiven rules t vs) (record {
        conform = sound.conform;
        fit = tokens_written t sound.tokens;
        said = tokens_given rules t vs;
        few = few_nodes t sound.within;
      });
      short = short_path t sound.within;
    }

    -- and with the texts that are given
    pub evaluated : AreEquationsTyped rules (class_at t) (IsGiven rules t vs) (content t) (equations rules)
    evaluated = equations_typed rules t (IsGiven rules t vs) met

  module _ (i : Instance Node) (formed : IsWellFormed rules t i) where
    well_typed : (j : Instance Node) → Leads (content t) (equations rules) i j → IsWellTyped rules (class_at t) (IsGiven rules t i.arguments) j
    well_typed j leads = leads_typed rules (class_at t) (IsGiven rules t i.arguments) (content t) (equations rules) (evaluated i.arguments) i j (typed_of_formed rules t i formed) leads

    pub demanded : (j : Instance Node) → Leads (content t) (equations rules) i j → IsWellFormed rules t j
    demanded j leads = formed_of_typed rules t j (IsGiven rules t i.arguments) ok.typed (well_typed j leads)

    pub value_of_kind : (v : Value Node) → HasValue (content t) (equations rules) i v → IsOfItsKind rules (class_at t) i v
    value_of_kind v has = value_typed rules (class_at t) (IsGiven rules t i.arguments) (content t) (equations rules) (evaluated i.arguments) i v (typed_of_formed rules t i formed) has

    pub listed : (j : Instance Node) → Leads (content t) (equations rules) i j → Among j (instances rules t i.arguments)
    listed j leads = instance_listed rules t i.arguments ok.typed j (well_typed j leads)

    declared_inherited : (d : Attribute) (b : Bool) → slice_get rules.attributes i.attribute ≡ Some d → is_inherited rules i.attribute ≡ b → d.is_inherited ≡ b
    declared_inherited d b e f = sym (rw (e, is_inherited) refl) ∙ f

    pub own_there : is_inherited rules i.attribute ≡ false → (u : Tree) → tree_at t i.node ≡ Some u → (e : Expr) × (own_equation rules (class_of u) i.attribute ≡ Some e)
    own_there own u there =
        let same : class_of formed.node ≡ class_of u = let e : Some formed.node ≡ Some u = sym formed.there ∙ there in ap class_of (let f : formed.node ≡ u = cc in f) in
        has_own rules ok.complete t sound.conform i.node u i.attribute formed.declared there formed.attribute
        (subst (λ c. is_sub rules.classes c formed.declared.class ≡ true) same formed.has)
        (declared_inherited formed.declared false formed.attribute own)

    pub source_there : is_inherited rules i.attribute ≡ true → (s : Source) × (source_of rules t (attribute_name rules i.attribute) i.node ≡ Some s)
    source_there inherited =
        let (s, e) = has_source rules ok.complete t sound.conform i.node formed.node i.attribute formed.declared
        formed.there formed.attribute formed.has
        (declared_inherited formed.declared true formed.attribute inherited) in
        (s, ap (λ name. source_of rules t name i.node) (named formed.declared formed.attribute) ∙ e)
      where
        named : (d : Attribute) → slice_get rules.attributes i.attribute ≡ Some d → attribute_name rules i.attribute ≡ d.name
        named d e = rw (e, attribute_name) refl

  module _ (path : ℕ → Option Node) (injective : IsInjective path) (numbers : Contents ℕ) (alike : (l : Location ℕ) → AlikeAt (Names path) numbers (content t) l) where
    kind_back : (i : Instance ℕ) (j : Instance Node) (v : Value ℕ) (w : Value Node) → i.attribute ≡ j.attribute
        → ValueLike (Names path) v w → IsOfItsKind rules (class_at t) j w
        → IsOfItsKind rules (class_numbered path (class_at t)) i v
    kind_back i j v w e r h d f = value_back rules path (class_at t) (IsGiven rules t j.arguments) d.result r (h d (ap (slice_get rules.attributes) (sym e) ∙ f))

    pub evaluated_by_numbers : (i : Instance ℕ) (j : Instance Node) → InstanceLike (Names path) i j → IsWellFormed rules t j →
        IsTypedRun rules (class_numbered path (class_at t)) (IsGiven rules t j.arguments) numbers (IsOfItsKind rules (class_numbered path (class_at t)) i) (evaluation rules nat_eq i)
    evaluated_by_numbers i j r w =
        typed_back rules path (class_at t) (IsGiven rules t j.arguments)
        (IsOfItsKind rules (class_numbered path (class_at t)) i) (IsOfItsKind rules (class_at t) j)
        (ValueLike (Names path)) numbers (content t) alike (λ v u like h. kind_back i j v u r.attribute like h)
        (evaluation rules nat_eq i) (equations rules j) (evaluation-like rules nat_eq node_eq (same_like nat_eq node_eq
        nat_eq-is node_eq-is path injective) i j r) (evaluated j.arguments j (typed_of_formed rules t j w))
