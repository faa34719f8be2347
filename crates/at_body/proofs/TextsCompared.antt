-- Texts that are compared where they stand.
use Rattle.std.proofs.Common.{◌≡◌, ◌<◌, ◌+◌, ◌-◌, ℕ, Bool, List, [], ◌∷◌, ◌++◌, length, map, refl, ap, sym, subst, ◌∙◌, append_assoc, append-nil, Bor, Option, Some, None, IfSome, slice_get, bytes_eq, arith}
use Rattle.at_model.specs.Bodies.{Expr, Child, This, Name, TokenOf, node_or, named, ref_of, token_of}
use Rattle.at_model.specs.Classes.{Classes}
use Rattle.at_model.specs.Follow.{follow}
use Rattle.at_model.specs.Rules.{Rules, Kind}
use Rattle.at_model.specs.Rules as model
use Rattle.at_model.specs.Run.{Value, Ref, Text, Truth, Slot, Tok, Location, Contents, Run, Gives, Fails, Absent, ◌>>=◌}
use Rattle.at_model.specs.TypedRuns.{ClassAt}
use Rattle.at_rules.specs.Bodies.{body_view}
use Rattle.at_rules.specs.declared.body.Body.{Body}
use Rattle.at_body.specs.Comparing.{AreTexts, IsComparison, IsLent, ReadsAs, IsToken, looks}
use Rattle.at_body.specs.Rest.{ev, evaluated_for, load, place_of, resumed, used, with_two}
use Rattle.at_body.specs.Standing.{Place}
use Rattle.at_body.specs.Typed.{PlaceKinds, IsPlaceOf, IsOperation, IsTodo, AreTodos, Enters, Takes}
use Rattle.at_body.specs.Typed as typed
use Rattle.at_body.specs.Values.{value_view}
use Rattle.at_body.specs.declared.comparing.Lent.{Lent}
use Rattle.at_body.specs.declared.todo.Binary.{Binary}
use Rattle.at_body.specs.declared.todo.Todo.{Todo}
use Rattle.at_body.specs.declared.todo.Todo.TheVariants as code
use Rattle.at_body.specs.declared.trial.Trial.{Trial}
use Rattle.at_body.proofs.Naming.{is_behind}
use Rattle.at_body.proofs.Runs.{regroup}
use Rattle.at_body.proofs.Uses.{refers}

-- what gives a text is lent, and nothing is looked at
pub given_lent : (look : Contents ℕ) (e : Expr) (p : Place) (text : List ℕ) → ((classes : Classes) → ev classes e p ≡ Gives (Text text)) → IsLent look e p text []
given_lent look e p text gives = λ classes seen k. ap (λ (r : Run ℕ (Value ℕ)). follow look seen (r >>= k)) (gives classes) ∙ ap (λ ls. follow look ls (k (Text text))) (sym (append-nil seen))

-- so is a token of a node that is at hand
pub token_lent : (look : Contents ℕ) (e : Expr) (p : Place) (v : Value ℕ) (n part : ℕ) (text : List ℕ) (ls : List (Location ℕ)) → ((classes : Classes) → ev classes e p ≡ Gives v) → v ≡ Ref (Some n) →
    ls ≡ Tok n part ∷ [] → IsToken look n part text → IsLent look (TokenOf e part) p text ls
token_lent look e p v n part text ls gives is looked there = λ classes seen k.
    ap (λ (r : Run ℕ (Value ℕ)). follow look seen ((r >>= token_of part) >>= k)) (gives classes ∙ ap Gives is)
    ∙ ap (λ w. follow look (seen ++ Tok n part ∷ []) (k w)) there
    ∙ ap (λ ms. follow look (seen ++ ms) (k (Text text))) (sym looked)

-- and one of a child of `this`
pub child_lent : (look : Contents ℕ) (e : Expr) (p : Place) (slot n part : ℕ) (text : List ℕ) → e ≡ Child This slot → Some n ≡ slice_get (look (Slot p.this slot)) 0 → IsToken look n part text →
    IsLent look (TokenOf e part) p text (Slot p.this slot ∷ Tok n part ∷ [])
child_lent look e p slot n part text is child there = λ classes seen k.
    ap (λ f. follow look seen ((ev classes f p >>= token_of part) >>= k)) is
    ∙ ap (λ (r : Run ℕ (Value ℕ)). follow look (seen ++ Slot p.this slot ∷ []) ((r >>= token_of part) >>= k)) (ap (node_or (Fails Absent)) (sym child))
    ∙ ap (λ w. follow look ((seen ++ Slot p.this slot ∷ []) ++ Tok n part ∷ []) (k w)) there
    ∙ ap (λ ms. follow look ms (k (Text text))) (append_assoc seen (Slot p.this slot ∷ []) (Tok n part ∷ []))

-- two texts that are lent are compared
pub texts_compared : (classes : Classes) (look : Contents ℕ) (old new : Trial) (o : Binary) (e : Expr) (b : Bor Body) (same tells : Bool) → AreTexts look e (body_view b.now) old new (Some same) →
    ((v w : List ℕ) → same ≡ bytes_eq v w → with_two o (Text v) (Text w) ≡ Gives (Truth tells)) →
    follow look old.reads (evaluated_for classes old (code.Right o b) e) ≡ follow look new.reads (resumed classes new (Truth tells))
texts_compared classes look old new o e b same tells (v, w, ls, ms, after, is, left, right) told =
    left classes old.reads (used classes (code.Right o b) old)
    ∙ ap (follow look (old.reads ++ ls)) (regroup (ev classes (body_view b.now) (place_of old)) (with_two o (Text v)) (resumed classes old))
    ∙ right classes (old.reads ++ ls) (λ x. with_two o (Text v) x >>= resumed classes old)
    ∙ ap (λ (r : Run ℕ (Value ℕ)). follow look ((old.reads ++ ls) ++ ms) (r >>= resumed classes old)) (told v w is)
    ∙ ap (λ (t : Trial). follow look t.reads (resumed classes t (Truth tells))) (sym after)

module _ (rules : Rules) (at : ClassAt ℕ) where
  -- a comparison tells a truth value
  operation_tells : (o : Binary) (k l m : Kind) → IsComparison o → IsOperation rules k l o m → m ≡ model.Truth
  operation_tells _ k l _ h (typed.same _ _ alike) = refl
  operation_tells _ k l _ h (typed.differ _ _ alike) = refl
  operation_tells _ _ _ _ h typed.equals = refl
  operation_tells _ _ _ _ h (typed.arithmetic o) = absurd h
  operation_tells _ _ _ _ h (typed.compare o) = absurd h
  operation_tells _ _ _ _ h typed.join = absurd h
  operation_tells _ _ _ _ h typed.join_int = absurd h
  operation_tells _ _ _ _ h (typed.element c part b e) = absurd h

  todo_tells : (s s' : PlaceKinds) (k k' : Kind) (t : Trial) (o : Binary) (b : Bor Body) (c : Bool) → IsComparison o → IsTodo rules at s k (code.Right o b) s' k' → AreTodos rules at s' k' t.todo →
      IsPlaceOf rules.classes at s (place_of t) → Takes rules at t (Truth c)
  todo_tells s _ k _ t _ _ c h (typed.right _ _ l m o b does x) rest place =
      let is : m ≡ model.Truth = operation_tells o k l m h does in
      record { kinds = s; kind = model.Truth; is = tt; stands = record { place = place; todo = subst (λ z. AreTodos rules at s z t.todo) is rest } }

  todos_tell : (s : PlaceKinds) (k : Kind) (t : Trial) (o : Binary) (b : Bor Body) (c : Bool) (ts : List Todo) → ts ≡ code.Right o b ∷ t.todo → IsComparison o → AreTodos rules at s k ts →
      IsPlaceOf rules.classes at s (place_of t) → Takes rules at t (Truth c)
  todos_tell s k t o b c _ e h (typed.ended _ _) place = absurd (cc)
  todos_tell s k t o b c _ e h (typed.more {s' = s'} {k' = k'} {t = top} {ts = ts} does rest) place =
      let same : top ≡ code.Right o b = cc in
      let others : ts ≡ t.todo = cc in
      todo_tells s s' k k' t o b c h (subst (λ z. IsTodo rules at s k z s' k') same does) (subst (AreTodos rules at s' k') others rest) place
  todos_tell s _ t o b c ts e h (typed.widened c' d sub x) place = todos_tell s (model.Class d) t o b c ts e h x place
  todos_tell s _ t o b c ts e h (typed.widened_all c' d sub x) place = todos_tell s (model.Nodes d) t o b c ts e h x place

  pub comparison_takes : (t : Trial) (o : Binary) (b : Bor Body) (left : Body) (c : Bool) → IsComparison o → Enters rules at (record t { todo = code.Right o b ∷ t.todo }) left → Takes rules at t (Truth c)
  comparison_takes t o b left c h x = todos_tell x.kinds x.kind t o b c (code.Right o b ∷ t.todo) refl h x.stands.todo x.stands.place

  -- also behind what was looked at
  pub comparison_told : (look : Contents ℕ) (old new : Trial) (o : Binary) (e f : Expr) (b : Bor Body) (left : Body) (same tells : Bool) → AreTexts look e f old new (Some same) → IsComparison o →
      Enters rules at (record old { todo = code.Right o b ∷ old.todo }) left → Takes rules at new (Truth tells)
  comparison_told look old new o e f b left same tells (v, w, ls, ms, after, is, l, r) h x =
      let takes : Takes rules at old (Truth tells) = comparison_takes old o b left tells h x in
      subst (λ t. Takes rules at t (Truth tells)) (sym after) (record { kinds = takes.kinds; kind = takes.kind; is = takes.is; stands = record { place = takes.stands.place; todo = takes.stands.todo } })

-- what is noted for two texts
pub texts_noted : (look : Contents ℕ) (e f : Expr) (old : Trial) (same : Bool) (v w : List ℕ) (ls ms first reads : List (Location ℕ)) → first ≡ old.reads ++ ls → reads ≡ first ++ ms → same ≡ bytes_eq v w →
    IsLent look e (place_of old) v ls → IsLent look f (place_of old) w ms → AreTexts look e f old (record old { reads = reads }) (Some same)
texts_noted look e f old same v w ls ms first reads one two is left right = (v, w, ls, ms, ap (λ rs. record old { reads = rs }) (two ∙ ap (λ rs. rs ++ ms) one), is, left, right)

-- and nothing is left to do for them
pub texts_less : (look : Contents ℕ) (e f : Expr) (old new : Trial) (same : Bool) (n : ℕ) → AreTexts look e f old new (Some same) → load new.todo < n + 3 + load old.todo
texts_less look e f old new same n (v, w, ls, ms, after, is, left, right) =
    let h : load new.todo ≡ load old.todo = ap (λ t. load t.todo) after in omega (arith, h)

-- what a name behind those of the folds stands for
pub lent_behind : (look : Contents ℕ) (t : Trial) (i : ℕ) (res : Option Lent) → slice_get t.bound i ≡ None →
    IfSome res (λ l. (looks l.looked ≡ []) × ReadsAs (named (map value_view t.arguments) (i - length t.bound)) l.text.now) →
    IfSome res (λ l. IsLent look (Name i) (place_of t) l.text.now (looks l.looked))
lent_behind look t i None unbound h = tt
lent_behind look t i (Some l) unbound (none, is) =
    let gives : (classes : Classes) → ev classes (Name i) (place_of t) ≡ Gives (Text l.text.now) = λ classes. ap Gives (is_behind t.bound (map value_view t.arguments) i (i - length t.bound) unbound refl ∙ is) in
    subst (IsLent look (Name i) (place_of t) l.text.now) (sym none) (given_lent look (Name i) (place_of t) l.text.now gives)

-- a token of a node at hand
pub hand_lent : (look : Contents ℕ) (e : Expr) (p : Place) (v : Value ℕ) (o : Option ℕ) (n part : ℕ) (res : Option Lent) → ((classes : Classes) → ev classes e p ≡ Gives v) → o ≡ ref_of v → o ≡ Some n →
    IfSome res (λ l. (looks l.looked ≡ Tok n part ∷ []) × IsToken look n part l.text.now) → IfSome res (λ l. IsLent look (TokenOf e part) p l.text.now (looks l.looked))
hand_lent look e p v o n part None gives is some h = tt
hand_lent look e p v o n part (Some l) gives is some (looked, there) = token_lent look e p v n part l.text.now (looks l.looked) gives (refers v n (sym is ∙ some)) looked there
