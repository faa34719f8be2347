-- Elements at which the expression of a fold comes to false at once.
use Rattle.std.proofs.Common.{◌≡◌, ◌++◌, ◌∷◌, [], ℕ, Bool, List, Ok, Option, Result, Some, false, nat_eq, not, true, refl, sym, ap, ◌∙◌, subst, append_assoc}
use Rattle.std.proofs.lemmas.Bool.{eqb-true}
use Rattle.at_model.specs.Bodies.{token_of}
use Rattle.at_model.specs.Classes.{Classes}
use Rattle.at_model.specs.Rules.{Rules, evaluation, is_inherited}
use Rattle.at_model.specs.Run.{Contents, Gives, Is, Location, Ref, Run, Text, Truth, Value, ◌>>=◌}
use Rattle.at_rules.specs.Bodies.{body_view}
use Rattle.at_rules.specs.declared.body.Body.{Body}
use Rattle.at_body.specs.Rest.{ev, with_two}
use Rattle.at_body.specs.Standing.{Place}
use Rattle.at_body.specs.declared.todo.Binary.{Binary}
use Rattle.at_body.specs.declared.value.Value.{Value as ValueCode}
use Rattle.at_body.specs.declared.value.Value.TheVariants as value
use Rattle.at_evaluate.specs.Looking.{HasLooked}
use Rattle.at_evaluate.specs.Near.{asked, entered}
use Rattle.at_evaluate.specs.Parts.{two_of}
use Rattle.at_evaluate.specs.Passing.{AreFalse, ArePassedBy, AsksOwn, asked_of}
use Rattle.at_evaluate.specs.declared.passing.Asked.{Asked}
use Rattle.at_evaluate.proofs.Nearby.{by_own_at_once}

-- what isn't another class is this one
not_off : (b : Bool) → false ≡ not b → b ≡ true
not_off true e = refl
not_off false e = e

pub not_other : (c d : ℕ) → false ≡ not (nat_eq c d) → d ≡ c
not_other c d e = sym (eqb-true c d (not_off (nat_eq c d) e))

-- the comparison of a token of `this` with a text
pub compares_own : (classes : Classes) (p : Place) (o : Binary) (a b : Body) (n part : ℕ) (w : List ℕ) → ev classes (body_view a) p ≡ token_of part (Ref (Some n)) →
    ev classes (body_view b) p ≡ Gives (Text w) → two_of classes p o a b ≡ token_of part (Ref (Some n)) >>= λ v. with_two o v (Text w)
compares_own classes p o a b n part w token text =
    ap (λ (r : Run ℕ (Value ℕ)). r >>= λ v. ev classes (body_view b) p >>= with_two o v) token
    ∙ ap (λ (r : Run ℕ (Value ℕ)). token_of part (Ref (Some n)) >>= λ v. r >>= with_two o v) text

module _ (rules : Rules) (look : Contents ℕ) (a : ℕ) (vs : List ValueCode) where
  -- one more at the end
  pub one_passed : (front : List ℕ) (n : ℕ) (old mid new : List (Location ℕ)) → AreFalse rules look a vs front old mid → HasLooked look mid new (evaluation rules nat_eq (asked n a vs)) (Truth false) →
      AreFalse rules look a vs (front ++ n ∷ []) old new
  one_passed [] n old mid new is h = (new, subst (λ ls. HasLooked look ls new (evaluation rules nat_eq (asked n a vs)) (Truth false)) is h, refl)
  one_passed (m ∷ ms) n old mid new (between, first, is) h = (between, first, one_passed ms n between mid new is h)

  -- one more was passed
  pub passed_on : (old mid new : List (Location ℕ)) (nodes rest others : List ℕ) (n c : ℕ) (q : Asked) → ArePassedBy rules look a vs old mid nodes rest → rest ≡ n ∷ others → is_inherited rules a ≡ false →
      c ≡ look (Is n) → AsksOwn rules c a vs q → HasLooked look (entered mid n vs) new (asked_of q n) (Truth false) → ArePassedBy rules look a vs old new nodes others
  passed_on old mid new nodes rest others n c q is more own class asks h = record {
    front = is.front ++ n ∷ [];
    those = is.those ∙ ap (λ ns. is.front ++ ns) more ∙ sym (append_assoc is.front (n ∷ []) others);
    are = one_passed is.front n old mid new is.are (by_own_at_once rules look mid new n a c vs asks.body at_once own class asks.own
        (subst (λ r. HasLooked look (entered mid n vs) new r (Truth false)) (sym (asks.asks n)) h));
  }
    where
      at_once : Result (Option ValueCode) ℕ
      at_once = Ok (Some (value.Bool false))
