-- Values that arguments name.
use Rattle.std.proofs.Common.{◌≡◌, ℕ, ℤ, ◌+◌, ◌<◌, ◌≤◌, List, [], ◌∷◌, ◌++◌, map, length, drop, get_or, Option, Some, None, option_map, sym, ap, ◌∙◌, subst}
use Rattle.std.proofs.lemmas.List.{drop_all, map-append}
use Rattle.at_model.specs.Paths.{Node}
use Rattle.at_model.specs.Run.{Value, Int, Text}
use Rattle.at_model.specs.Lines.{Argument}
use Rattle.at_model.specs.Machine.{each}
use Rattle.at_model.specs.Alike.{ValueLike, int, text, Names}
use Rattle.at_body.specs.Values.{value_view}
use Rattle.at_body.specs.declared.value.Value.{Value as ValueCode}
use Rattle.at_protocol.specs.LineView.{argument_view, arguments_view}
use Rattle.at_protocol.specs.declared.line.Argument.{Argument as ArgumentValue}
use Rattle.at_engine.specs.Answered.{AreValuesOf, IsValueOf}
use Rattle.at_engine.specs.Collected.{Collected}
use Rattle.at_engine.proofs.Collecting.{collected_none, collected_more, collected_stop, collected_all}
use Rattle.at_engine.proofs.Positions.{drop_next}

pub text_like : (path : ℕ → Option Node) (a b : List ℕ) → a ≡ b → ValueLike (Names path) (Text a) (Text b)
text_like path a b e = subst (λ (x : List ℕ). ValueLike (Names path) (Text a) (Text x)) e (text a)

pub int_like : (path : ℕ → Option Node) (n : ℤ) (v : Value ℕ) → v ≡ Int n → ValueLike (Names path) v (Int n)
int_like path n v e = subst (λ (x : Value ℕ). ValueLike (Names path) x (Int n)) (sym e) (int n)

-- the values of the arguments before the rest are there
module _ (path : ℕ → Option Node) (named : Argument → Option (Value Node)) (all : List (Option (Value Node))) where
  abbrev So : List ValueCode → List ArgumentValue → Type 0
  So vs rest = Collected (ValueLike (Names path)) all (map value_view vs) (map named (arguments_view rest))

  pub so_first : (vs : List ValueCode) (rest : List ArgumentValue) → vs ≡ [] → all ≡ map named (arguments_view rest) → So vs rest
  so_first vs rest e f = subst (λ (xs : List (Option (Value Node))). Collected (ValueLike (Names path)) all (map value_view vs) xs) f (subst (λ (xs : List ValueCode). Collected (ValueLike (Names path)) all (map value_view xs) all) (sym e) (collected_none (ValueLike (Names path)) all))

  module _ (vs : List ValueCode) (arguments : List ArgumentValue) (i : ℕ) (so : So vs (drop i arguments)) where
    pub so_all : length arguments ≤ i → AreValuesOf path (each all) (Some vs)
    so_all past = collected_all (ValueLike (Names path)) all (map value_view vs) (subst (λ (xs : List ArgumentValue). So vs xs) (drop_all i arguments past) so)

    module _ (a : ArgumentValue) (less : i < length arguments) (is : a ≡ get_or arguments i a) where
      so_now : So vs (a ∷ drop (i + 1) arguments)
      so_now = subst (λ (xs : List ArgumentValue). So vs xs) (drop_next arguments i a less is) so

      pub so_more : (o : Option ValueCode) (v : ValueCode) → o ≡ Some v → IsValueOf path (named (argument_view a)) o → (more : List ValueCode) → more ≡ vs ++ v ∷ [] → So more (drop (i + 1) arguments)
      so_more o v there h more same =
          let (w, is, like) : IsValueOf path (named (argument_view a)) (Some v) = subst (λ (x : Option ValueCode). IsValueOf path (named (argument_view a)) x) there h in
          subst (λ (xs : List (Value ℕ)). Collected (ValueLike (Names path)) all xs (map named (arguments_view (drop (i + 1) arguments)))) (sym (ap (map value_view) same ∙ map-append value_view vs (v ∷ [])))
          (collected_more (ValueLike (Names path)) all (map value_view vs) (value_view v) w (named (argument_view a)) (map named (arguments_view (drop (i + 1) arguments))) is like so_now)

      pub so_stop : (o : Option ValueCode) → o ≡ None → IsValueOf path (named (argument_view a)) o → each all ≡ None
      so_stop o there h = collected_stop (ValueLike (Names path)) all (map value_view vs) (named (argument_view a)) (map named (arguments_view (drop (i + 1) arguments))) (subst (λ (x : Option ValueCode). IsValueOf path (named (argument_view a)) x) there h) so_now

-- what is said of an option of values that is, or isn't, there
module _ {A : Type 0} (items : A → List ValueCode) (path : ℕ → Option Node) (named : Option (List (Value Node))) where
  pub values_none : (o : Option A) → o ≡ None → AreValuesOf path named (option_map items o) → AreValuesOf path named None
  values_none o e h = subst (λ (x : Option A). AreValuesOf path named (option_map items x)) e h

  pub values_some : (o : Option A) (vs : A) → o ≡ Some vs → AreValuesOf path named (option_map items o) → AreValuesOf path named (Some (items vs))
  values_some o vs e h = subst (λ (x : Option A). AreValuesOf path named (option_map items x)) e h
