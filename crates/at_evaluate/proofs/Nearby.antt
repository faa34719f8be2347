-- Equations that come to their value at once.
use Rattle.std.proofs.Common.{◌≡◌, ℕ, false, List, [], ◌∷◌, ◌++◌, Option, Some, None, Result, Ok, Err, IfOk, IfSome, map, refl, sym, ap, ◌∙◌, append_assoc, append-nil, nat_eq}
use Rattle.at_model.specs.Bodies.{Name, This, TokenOf, demand_of, token_of}
use Rattle.at_model.specs.Classes.{Classes}
use Rattle.at_model.specs.Follow.{Ends, Reached, follow}
use Rattle.at_model.specs.Rules.{Rules, evaluation, is_inherited, own_equation}
use Rattle.at_model.specs.Run.{Contents, Demands, Fails, Gives, Instance, Is, Location, Looks, LooksTo, Ref, Run, Value, ◌>>=◌}
use Rattle.at_rules.specs.Bodies.{body_view, bodies_view}
use Rattle.at_rules.specs.declared.body.Body.{Body}
use Rattle.at_body.specs.Rest.{ev, ev_all}
use Rattle.at_body.specs.Standing.{Place, inside}
use Rattle.at_body.specs.Values.{value_view}
use Rattle.at_body.specs.declared.value.Value.{Value as ValueCode}
use Rattle.at_evaluate.specs.Looking.{HasBegun, HasLooked, MayHaveLooked}
use Rattle.at_evaluate.specs.Near.{AsksEach, MayHaveEntered, asked, entered, own_place}
use Rattle.at_evaluate.specs.Parts.{call_of}
use Rattle.at_evaluate.proofs.Begun as begun

-- behind looks alone
looked_past : {A : Type 0} (look : Contents ℕ) (seen : List (Location ℕ)) (r : Run ℕ A) (ls : List (Location ℕ)) (q : Run ℕ A) → LooksTo look r ls q → follow look seen r ≡ follow look (seen ++ ls) q
looked_past look seen r [] q e = ap (follow look seen) e ∙ ap (λ ls. follow look ls q) (sym (append-nil seen))
looked_past look seen (Gives b) (l ∷ ls) q h = absurd h
looked_past look seen (Fails f) (l ∷ ls) q h = absurd h
looked_past look seen (Looks n k) (l ∷ ls) q (e, h) =
    looked_past look (seen ++ n ∷ []) (k (look n)) ls q h ∙ ap (λ ms. follow look ms q) (append_assoc seen (n ∷ []) ls ∙ ap (λ m. seen ++ m ∷ ls) e)
looked_past look seen (Demands j k) (l ∷ ls) q h = absurd h

-- an evaluation that has begun, and comes to its value by looks alone
begun_looked : {A : Type 0} (look : Contents ℕ) (old mid new : List (Location ℕ)) (r q : Run ℕ A) (a : A) → HasBegun look old mid r q → HasLooked look mid new q a → HasLooked look old new r a
begun_looked look old mid new r q a b h = looked_past look old r b.looks q b.goes ∙ ap (λ ls. follow look ls q) (sym b.reads) ∙ h

-- what the body of its own equation comes to at once the instance comes to
pub by_own_at_once : {E : Type 0} (rules : Rules) (look : Contents ℕ) (old new : List (Location ℕ)) (n a c : ℕ) (vs : List ValueCode) (b : Body) (res : Result (Option ValueCode) E) →
    is_inherited rules a ≡ false → c ≡ look (Is n) →
    Some (body_view b) ≡ own_equation rules c a → IfOk res (MayHaveEntered look old new n vs (ev rules.classes (body_view b) (own_place n vs))) → IfOk res (MayHaveLooked look old new
    (evaluation rules nat_eq (asked n a vs)))
by_own_at_once rules look old new n a c vs b (Err e) own class is h = tt
by_own_at_once rules look old new n a c vs b (Ok None) own class is h = h
by_own_at_once rules look old new n a c vs b (Ok (Some v)) own class is h =
    begun_looked look old (entered old n vs) new (evaluation rules nat_eq i) q (value_view v)
    (begun.entered rules look i old (entered old n vs) (entered old n vs) n (map value_view vs) false q refl refl (sym own) refl
    (begun.by_own_body rules look i (entered old n vs) c a b (own_place n vs) vs class refl is refl refl)) h
  where
    i : Instance ℕ
    i = asked n a vs

    q : Run ℕ (Value ℕ)
    q = ev rules.classes (body_view b) (own_place n vs)

-- a value that is at hand behind the classes
pub entered_gives : (look : Contents ℕ) (old new : List (Location ℕ)) (n : ℕ) (vs : List ValueCode) (r : Run ℕ (Value ℕ)) (v : Value ℕ) → r ≡ Gives v → new ≡ entered old n vs → HasLooked
    look (entered old n vs) new r v
entered_gives look old new n vs r v gives reads =
    ap (follow look (entered old n vs)) gives ∙ ap (λ (ls : List (Location ℕ)). let end : Reached ℕ (Value ℕ) × List (Location ℕ) = (Ends v, ls) in end) (sym reads)

-- a token of `this`
pub own_token_at : (classes : Classes) (n part : ℕ) (vs : List ValueCode) (b : Body) → body_view b ≡ TokenOf This part → ev classes (body_view b) (own_place n vs) ≡ token_of part (Ref (Some n))
own_token_at classes n part vs b is = ap (λ e. ev classes e (own_place n vs)) is

-- the element of the fold is asked for the attribute, with what was passed
pub asks_each : (p : Place) (b a : Body) (attribute : ℕ) (passed : List Body) → ((classes : Classes) (q : Place) → ev classes (body_view b) q ≡ call_of classes q a attribute passed) →
    body_view a ≡ Name 0 → ((classes : Classes) (n : ℕ) → ev_all classes (bodies_view passed) (inside p n) ≡ Gives (map value_view p.passed)) → AsksEach p b attribute
asks_each p b a attribute passed means element names = λ classes n.
    means classes (inside p n)
    ∙ ap (λ e. ev classes e (inside p n) >>= λ v. ev_all classes (bodies_view passed) (inside p n) >>= demand_of attribute v) element
    ∙ ap (λ (r : Run ℕ (List (Value ℕ))). r >>= demand_of attribute (Ref (Some n))) (names classes n)

-- what a literal comes to anywhere it comes to at a place
pub literal_at : (p : Place) (b : Body) (o : Option ValueCode) → IfSome o (λ v. (classes : Classes) (q : Place) → ev classes (body_view b) q ≡ Gives (value_view v)) → IfSome o (λ v. (classes
    : Classes) → ev classes (body_view b) p ≡ Gives (value_view v))
literal_at p b None h = tt
literal_at p b (Some v) h = λ classes. h classes p
