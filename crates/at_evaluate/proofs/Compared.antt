-- Texts that are compared where they stand.
use Rattle.std.proofs.Common.{◌≡◌, ℕ, Bool, List, [], ◌∷◌, ◌++◌, Some, None, Option, IfSome, map, slice_get, refl, sym, ap, ◌∙◌}
use Rattle.at_model.specs.Bodies.{Expr, named, token_of, value_of}
use Rattle.at_model.specs.Classes.{Classes}
use Rattle.at_model.specs.Follow.{Reached, Ends, follow}
use Rattle.at_model.specs.Run.{Contents, Gives, Location, Ref, Run, Text, Tok, Truth, Value, ◌>>=◌}
use Rattle.at_rules.specs.Bodies.{body_view}
use Rattle.at_rules.specs.declared.body.Body.{Body}
use Rattle.at_rules.specs.declared.body.Body as body
use Rattle.at_body.specs.Rest.{ev, with_two}
use Rattle.at_body.specs.Standing.{Place}
use Rattle.at_body.specs.Values.{value_view}
use Rattle.at_body.proofs.Naming.{is_bound}
use Rattle.at_body.specs.declared.todo.Binary.{Binary}
use Rattle.at_evaluate.specs.Looking.{HasLooked}
use Rattle.at_evaluate.specs.Parts.{two_of}

pub texts_compared : (look : Contents ℕ) (classes : Classes) (p : Place) (o : Binary) (a b : Body) (old new : List (Location ℕ)) (n part : ℕ) (v w : List ℕ) (holds : Bool) → ev classes (body_view a) p ≡ token_of part (Ref (Some n)) → value_of {N = ℕ} (look (Tok n part)) ≡ Text v →
    ev classes (body_view b) p ≡ Gives (Text w) → with_two o (Text v) (Text w) ≡ Gives (Truth holds) → new ≡ old ++ Tok n part ∷ [] → HasLooked look old new (two_of classes p o a b) (Truth holds)
texts_compared look classes p o a b old new n part v w holds token text other tells reads =
    let seen : List (Location ℕ) = old ++ Tok n part ∷ [] in
    let K : Value ℕ → Run ℕ (Value ℕ) = λ x. ev classes (body_view b) p >>= with_two o x in
    ap (λ (r : Run ℕ (Value ℕ)). follow look old (r >>= K)) token
    ∙ ap (λ x. follow look seen (K x)) text
    ∙ ap (λ (r : Run ℕ (Value ℕ)). follow look seen (r >>= with_two o (Text v))) other
    ∙ ap (follow look seen) tells
    ∙ ap (λ (ls : List (Location ℕ)). let end : Reached ℕ (Value ℕ) × List (Location ℕ) = (Ends (Truth holds), ls) in end) (sym reads)

-- a token of a node that is at hand
pub token_at : (classes : Classes) (p : Place) (a : Body) (n part : ℕ) (t : Run ℕ (Value ℕ)) → t ≡ ev classes (body_view a) p >>= token_of part → ev classes (body_view a) p ≡ Gives (Ref (Some n)) → t ≡ token_of part (Ref (Some n))
token_at classes p a n part t is near = is ∙ ap (λ (r : Run ℕ (Value ℕ)). r >>= token_of part) near

-- the name of an element
pub near_named : (p : Place) (b : Body) (i : ℕ) (res : Option ℕ) → b ≡ body.Name i → res ≡ slice_get p.bound i → IfSome res (λ n. (classes : Classes) → ev classes (body_view b) p ≡ Gives (Ref (Some n)))
near_named p b i None is e = tt
near_named p b i (Some n) is e = λ classes. ap (λ x. ev classes (body_view x) p) is ∙ ap (λ (v : Value ℕ). let r : Run ℕ (Value ℕ) = Gives v in r) (is_bound p.bound (map value_view p.passed) i n (sym e))
