-- The use of a value.
use Rattle.std.proofs.Common.{◌≡◌, ℕ, List, [], ◌∷◌, ◌++◌, ap, ◌∙◌, refl, sym, subst, Result, Ok, Err, IfOk, Bor, append_assoc, Option, Some, None, slice_get}
use Rattle.at_model.specs.Classes.{Classes}
use Rattle.at_model.specs.Bodies.{Expr, Exprs, demand_of, node_or, ref_of, Child, This}
use Rattle.at_model.specs.Run.{Value, Int, Truth, Text, Ref, Nodes, Slot, Location, Contents, Run, Gives, Fails, Absent, ◌>>=◌}
use Rattle.at_model.specs.Follow.{follow}
use Rattle.at_rules.specs.declared.body.Body.{Body}
use Rattle.at_body.specs.declared.value.Value.{Value as ValueCode}
use Rattle.at_body.specs.declared.value.Value.TheVariants as value
use Rattle.at_body.specs.Calling.{IsReceiver}
use Rattle.at_body.specs.Typed.{ComesTo}
use Rattle.at_body.specs.declared.todo.Binary.{Binary}
use Rattle.at_body.specs.declared.todo.Fold.{Fold}
use Rattle.at_body.specs.declared.todo.Now.{Now}
use Rattle.at_body.specs.declared.todo.Now.TheVariants.{Back}
use Rattle.at_body.specs.declared.todo.Todo.{Todo}
use Rattle.at_body.specs.declared.todo.Todo.TheVariants.{Right, Apply, Arguments, Element}
use Rattle.at_body.specs.declared.trial.Trial.{Trial}
use Rattle.at_body.specs.Values.{value_view}
use Rattle.at_rules.specs.Bodies.{body_view, bodies_view}
use Rattle.at_body.specs.Stacked.{below}
use Rattle.at_body.specs.Rest.{rest, resumed, used, called, evaluated_for, gone_over, folded, decided, place_of, ev, ev_all, with_two}
use Rattle.at_body.proofs.Runs.{regroup, fun_ext}
use Rattle.at_body.proofs.Entering.{Put}

pub followed : {E : Type 0} (classes : Classes) (tree : Contents ℕ) (seen : List (Location ℕ)) (res : Result Now E) (r s : Run ℕ (Value ℕ)) (new : Trial) →
    r ≡ s → IfOk res (λ now. s ≡ rest classes now new) → IfOk res (λ now. new.reads ≡ seen) → IfOk res (λ now. follow tree seen r ≡ follow tree new.reads (rest classes now new))
followed classes tree seen (Ok now) r s new e h same = let P : List (Location ℕ) → Type 0 = λ ls. follow tree seen r ≡ follow tree ls (rest classes now new) in subst P (sym same) (ap (follow tree seen) (e ∙ h))
followed classes tree seen (Err e') r s new e h same = tt

pub kept : {E : Type 0} (res : Result Now E) (seen : List (Location ℕ)) → IfOk res (λ now. seen ≡ seen)
kept (Ok now) seen = refl
kept (Err e) seen = tt

-- the same evaluation, in other words
pub instead : {E : Type 0} (classes : Classes) (tree : Contents ℕ) (seen : List (Location ℕ)) (res : Result Now E) (new : Trial) (r s : Run ℕ (Value ℕ)) →
    r ≡ s → IfOk res (λ now. follow tree seen s ≡ follow tree new.reads (rest classes now new)) → IfOk res (λ now. follow tree seen r ≡ follow tree new.reads (rest classes now new))
instead classes tree seen (Ok now) new r s e h = ap (follow tree seen) e ∙ h
instead classes tree seen (Err e') new r s e h = tt

-- an expression is evaluated for a use of its value
pub puts : {E : Type 0} (classes : Classes) (tree : Contents ℕ) (res : Result Now E) (t new : Trial) (r : Run ℕ (Value ℕ)) (part : Bor Body) (todo : Todo) →
    Put res t new part todo → r ≡ ev classes (body_view part.now) (place_of t) >>= used classes todo t → IfOk res (λ now. follow tree t.reads r ≡ follow tree new.reads (rest classes now new))
puts classes tree (Ok now) t new r part todo (is, becomes) shape = rw (is, becomes) (ap (follow tree t.reads) shape)
puts classes tree (Err e') t new r part todo h shape = tt

pub right_shape : (classes : Classes) (t : Trial) (o : Binary) (b : Bor Body) (v : ValueCode) → used classes (Right o b) t (value_view v) ≡ ev classes (body_view b.now) (place_of t) >>= used classes (Apply o v) t
right_shape classes t o b v = regroup (ev classes (body_view b.now) (place_of t)) (with_two o (value_view v)) (resumed classes t)

pub one_more : (classes : Classes) (t : Trial) (a : ℕ) (v w : Value ℕ) (done : List (Value ℕ)) (es : Exprs) →
    (ev_all classes es (place_of t) >>= λ ws. demand_of a v (done ++ w ∷ ws)) >>= resumed classes t ≡ called classes t a v (done ++ w ∷ []) es
one_more classes t a v w done es =
    let e : (λ (ws : List (Value ℕ)). demand_of a v (done ++ w ∷ ws)) ≡ (λ ws. demand_of a v ((done ++ w ∷ []) ++ ws)) = fun_ext (λ ws. ap (demand_of a v) (sym (append_assoc done (w ∷ []) ws))) in
    ap (λ k. (ev_all classes es (place_of t) >>= k) >>= resumed classes t) e

-- a reference to a node
pub refers : (v : Value ℕ) (n : ℕ) → ref_of v ≡ Some n → v ≡ Ref (Some n)
refers (Int z) n e = absurd (cc)
refers (Truth b) n e = absurd (cc)
refers (Text s) n e = absurd (cc)
refers (Ref o) n e = ap Ref e
refers (Nodes ns) n e = absurd (cc)

-- a value at hand is the receiver of a call, where it is a node
pub hand_received : (look : Contents ℕ) (e : Expr) (t : Trial) (v : Value ℕ) (o : Option ℕ) → ((classes : Classes) → ev classes e (place_of t) ≡ Gives v) → o ≡ ref_of v → IsReceiver look e t t o
hand_received look e t v None gives is = refl
hand_received look e t v (Some n) gives is =
    let node : (classes : Classes) → ev classes e (place_of t) ≡ Gives (Ref (Some n)) = λ classes. gives classes ∙ ap Gives (refers v n (sym is)) in
    (t.reads, refl, λ classes. subst (λ (r : Run ℕ (Value ℕ)). ComesTo look r (Back (value.Ref (Some n)))) (sym (node classes)) refl, λ classes k. ap (λ (r : Run ℕ (Value ℕ)). follow look t.reads (r >>= k)) (node classes))

-- and so is a child of `this` that is there
pub child_received : (look : Contents ℕ) (e : Expr) (t : Trial) (part n : ℕ) (reads : List (Location ℕ)) → e ≡ Child This part → Some n ≡ slice_get (look (Slot t.this part)) 0 → reads ≡ t.reads ++ Slot t.this part ∷ [] → IsReceiver look e t (record t { reads = reads }) (Some n)
child_received look e t part n reads is there gains =
    let node : node_or (Fails Absent) (slice_get (look (Slot t.this part)) 0) ≡ Gives (Ref (Some n)) = ap (node_or (Fails Absent)) (sym there) in
    (reads, refl, λ classes. rw is (subst (λ (r : Run ℕ (Value ℕ)). ComesTo look r (Back (value.Ref (Some n)))) (sym node) refl), λ classes k. rw (is, gains) (ap (λ (r : Run ℕ (Value ℕ)). follow look (t.reads ++ Slot t.this part ∷ []) (r >>= k)) node))

-- a call goes on with its receiver
pub receiver_seen : {E : Type 0} (classes : Classes) (tree : Contents ℕ) (res : Result Now E) (t mid new : Trial) (e : Expr) (n a : ℕ) (bs : Bor (List Body)) → IsReceiver tree e t mid (Some n) →
    IfOk res (λ now. called classes mid a (Ref (Some n)) [] (bodies_view bs.now) ≡ rest classes now new) → IfOk res (λ now. new.reads ≡ mid.reads) →
    IfOk res (λ now. follow tree t.reads (evaluated_for classes t (Arguments a bs) e) ≡ follow tree new.reads (rest classes now new))
receiver_seen classes tree (Ok now) t mid new e n a bs (seen, after, comes, goes) h same =
    let s : follow tree t.reads (evaluated_for classes t (Arguments a bs) e) ≡ follow tree mid.reads (called classes mid a (Ref (Some n)) [] (bodies_view bs.now)) = rw after (goes classes (used classes (Arguments a bs) t)) in
    let P : List (Location ℕ) → Type 0 = λ ls. follow tree t.reads (evaluated_for classes t (Arguments a bs) e) ≡ follow tree ls (rest classes now new) in subst P (sym same) (s ∙ ap (follow tree mid.reads) h)
receiver_seen classes tree (Err e') t mid new e n a bs r h same = tt

-- the value of a fold's expression, once the element is no longer bound
pub unbound : {E : Type 0} (classes : Classes) (tree : Contents ℕ) (res : Result Now E) (t new : Trial) (f : Fold) (b : Bor Body) (n : ℕ) (ns : Bor (List ℕ)) (v : Value ℕ) (bound : List ℕ) →
    bound ≡ below t.bound → IfOk res (λ now. decided classes (record t { bound = bound }) f (body_view b.now) n ns.now v ≡ rest classes now new) → IfOk res (λ now. new.reads ≡ t.reads) →
    IfOk res (λ now. follow tree t.reads (used classes (Element f b n ns) t v) ≡ follow tree new.reads (rest classes now new))
unbound classes tree res t new f b n ns v bound e h same = let s : used classes (Element f b n ns) t v ≡ decided classes (record t { bound = bound }) f (body_view b.now) n ns.now v = rw e refl in followed classes tree t.reads res _ _ new s h same

pub elements_in : {E : Type 0} (classes : Classes) (tree : Contents ℕ) (res : Result Now E) (t new : Trial) (f : Fold) (e : Expr) (part n : ℕ) (ns : List ℕ) (reads : List (Location ℕ)) →
    reads ≡ t.reads ++ Slot n part ∷ [] → ns ≡ tree (Slot n part) → IfOk res (λ now. gone_over classes (record t { reads = reads }) f e ns ≡ rest classes now new) → IfOk res (λ now. new.reads ≡ reads) →
    IfOk res (λ now. follow tree t.reads (folded classes t f part e (Some n)) ≡ follow tree new.reads (rest classes now new))
elements_in classes tree (Ok now) t new f e part n ns reads is are h same =
    let s : follow tree t.reads (folded classes t f part e (Some n)) ≡ follow tree reads (gone_over classes t f e ns) = rw (is, are) refl in
    let P : List (Location ℕ) → Type 0 = λ ls. follow tree t.reads (folded classes t f part e (Some n)) ≡ follow tree ls (rest classes now new) in subst P (sym same) (s ∙ ap (follow tree reads) h)
elements_in classes tree (Err e') t new f e part n ns reads is are h same = tt
