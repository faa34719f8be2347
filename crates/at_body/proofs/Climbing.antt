-- The start of an evaluation.
use Rattle.std.proofs.Common.{◌≡◌, ℕ, suc, List, [], ◌∷◌, ◌++◌, refl, ap, sym, ◌∙◌, nat_eq, map, Option, Some, None, append_assoc, append-nil}
use Rattle.at_model.specs.Classes.{Classes}
use Rattle.at_model.specs.Run.{Value, Instance, Location, Is, Up, Contents, Null, Run, Fails, Looks}
use Rattle.at_model.specs.Bodies.{Expr, mentioned, eval}
use Rattle.at_model.specs.Rules.{Rules, by_inherited, by_equation, inherited_equation, past_arguments, past_nodes, evaluation}
use Rattle.at_model.specs.Support.{argument_classes}
use Rattle.at_body.specs.declared.trial.Trial.{Trial}
use Rattle.at_body.specs.Values.{value_view}
use Rattle.at_body.specs.Standing.{scope}
use Rattle.at_model.specs.Follow.{Reached, follow}
use Rattle.at_body.specs.Starting.{by_rule}
use Rattle.at_body.specs.Rest.{begun, place_of, ev}
use Rattle.at_body.proofs.Runs.{to_its_end}

-- nothing else is left to do, and no node is bound
pub alone : (classes : Classes) (t : Trial) (e : Expr) (n : ℕ) (vs : List (Value ℕ)) (child : Option ℕ) → t.todo ≡ [] → t.bound ≡ [] → t.this ≡ n → map value_view t.arguments ≡ vs → t.child ≡ child →
    begun classes t e ≡ eval classes nat_eq e (record { this = n; names = vs; child = child })
alone classes t e n vs child idle unbound this passed down =
    let r : Run ℕ (Value ℕ) = ev classes e (place_of t) in
    let s : begun classes t e ≡ r = rw idle (to_its_end r) in
    let p : scope (place_of t) ≡ record { this = n; names = vs; child = child } = rw (unbound, this, passed, down) refl in
    s ∙ ap (eval classes nat_eq e) p

-- the classes of these nodes are looked at
past_these : {A : Type 0} (tree : Contents ℕ) (seen : List (Location ℕ)) (ns : List ℕ) (r : Run ℕ A) →
    follow tree seen (past_nodes ns r) ≡ follow tree (seen ++ map (λ n. Is n) ns) r
past_these tree seen [] r = ap (λ ls. follow tree ls r) (sym (append-nil seen))
past_these tree seen (n ∷ ns) r =
    past_these tree (seen ++ Is n ∷ []) ns r ∙ ap (λ ls. follow tree ls r) (append_assoc seen (Is n ∷ []) (map (λ n. Is n) ns))

-- the arguments are passed
pub past : {A : Type 0} (tree : Contents ℕ) (seen : List (Location ℕ)) (vs : List (Value ℕ)) (r : Run ℕ A) → follow tree seen (past_arguments vs r) ≡ follow tree (seen ++ argument_classes vs) r
past tree seen [] r = ap (λ ls. follow tree ls r) (sym (append-nil seen))
past tree seen (v ∷ vs) r =
    let first : List (Location ℕ) = map (λ n. Is n) (mentioned v) in
    past_these tree seen (mentioned v) (past_arguments vs r) ∙ past tree (seen ++ first) vs r
    ∙ ap (λ ls. follow tree ls r) (append_assoc seen first (argument_classes vs))

-- the equation stands at the parent
pub found : (rules : Rules) (tree : Contents ℕ) (seen : List (Location ℕ)) (name : List ℕ) (vs : List (Value ℕ)) (height h n p part : ℕ) (e : Expr) (t : Trial) →
    height ≡ suc h → Some (p, part) ≡ tree (Up n) → Some e ≡ inherited_equation rules (tree (Is p)) part name → t.todo ≡ [] → t.bound ≡ [] → t.this ≡ p → map value_view t.arguments ≡ vs → t.child ≡ Some n →
    follow tree seen (by_inherited rules nat_eq name vs height n) ≡ follow tree ((seen ++ Up n ∷ []) ++ Is p ∷ []) (begun rules.classes t e)
found rules tree seen name vs height h n p part e t high up is idle unbound this passed down =
    let above : Option (ℕ × ℕ) → Run ℕ (Value ℕ) = elim [ None ↦ Fails Null | Some q ↦ Looks (Is q.0) (λ c. by_equation rules nat_eq (record { this = q.0; names = vs; child = Some n }) (by_inherited rules nat_eq name vs h q.0) (inherited_equation rules c q.1 name)) ] in
    ap (λ k. follow tree seen (by_inherited rules nat_eq name vs k n)) high
    ∙ ap (λ o. follow tree (seen ++ Up n ∷ []) (above o)) (sym up)
    ∙ ap (λ o. follow tree ((seen ++ Up n ∷ []) ++ Is p ∷ []) (by_equation rules nat_eq (record { this = p; names = vs; child = Some n }) (by_inherited rules nat_eq name vs h p) o)) (sym is)
    ∙ ap (follow tree ((seen ++ Up n ∷ []) ++ Is p ∷ [])) (sym (alone rules.classes t e p vs (Some n) idle unbound this passed down))

-- or it stands above the parent
pub climbs : (rules : Rules) (tree : Contents ℕ) (seen : List (Location ℕ)) (name : List ℕ) (vs : List (Value ℕ)) (height h n p part : ℕ) →
    height ≡ suc h → Some (p, part) ≡ tree (Up n) → None ≡ inherited_equation rules (tree (Is p)) part name →
    follow tree seen (by_inherited rules nat_eq name vs height n) ≡ follow tree ((seen ++ Up n ∷ []) ++ Is p ∷ []) (by_inherited rules nat_eq name vs h p)
climbs rules tree seen name vs height h n p part high up is =
    let above : Option (ℕ × ℕ) → Run ℕ (Value ℕ) = elim [ None ↦ Fails Null | Some q ↦ Looks (Is q.0) (λ c. by_equation rules nat_eq (record { this = q.0; names = vs; child = Some n }) (by_inherited rules nat_eq name vs h q.0) (inherited_equation rules c q.1 name)) ] in
    ap (λ k. follow tree seen (by_inherited rules nat_eq name vs k n)) high
    ∙ ap (λ o. follow tree (seen ++ Up n ∷ []) (above o)) (sym up)
    ∙ ap (λ o. follow tree ((seen ++ Up n ∷ []) ++ Is p ∷ []) (by_equation rules nat_eq (record { this = p; names = vs; child = Some n }) (by_inherited rules nat_eq name vs h p) o)) (sym is)

pub starts : (rules : Rules) (tree : Contents ℕ) (i : Instance ℕ) (seen : List (Location ℕ)) (c : ℕ) (end : Reached ℕ (Value ℕ) × List (Location ℕ)) →
    seen ≡ (Is i.node ∷ []) ++ argument_classes i.arguments → c ≡ tree (Is i.node) → follow tree seen (by_rule rules i.node i.attribute i.arguments c) ≡ end → follow tree [] (evaluation rules nat_eq i) ≡ end
starts rules tree i seen c end grows is h =
    let s : follow tree [] (evaluation rules nat_eq i) ≡ follow tree ((Is i.node ∷ []) ++ argument_classes i.arguments) (by_rule rules i.node i.attribute i.arguments (tree (Is i.node))) = past tree (Is i.node ∷ []) i.arguments (by_rule rules i.node i.attribute i.arguments (tree (Is i.node))) in
    s ∙ ap (λ d. follow tree ((Is i.node ∷ []) ++ argument_classes i.arguments) (by_rule rules i.node i.attribute i.arguments d)) (sym is) ∙ ap (λ ls. follow tree ls (by_rule rules i.node i.attribute i.arguments c)) (sym grows) ∙ h

-- the same, of a node, an attribute and arguments that are those of the instance
pub started : (rules : Rules) (tree : Contents ℕ) (i : Instance ℕ) (seen : List (Location ℕ)) (n a c : ℕ) (vs : List (Value ℕ)) (end : Reached ℕ (Value ℕ) × List (Location ℕ)) →
    n ≡ i.node → a ≡ i.attribute → vs ≡ i.arguments → seen ≡ (Is n ∷ []) ++ argument_classes vs → c ≡ tree (Is n) → follow tree seen (by_rule rules n a vs c) ≡ end → follow tree [] (evaluation rules nat_eq i) ≡ end
started rules tree i seen n a c vs end e f g grows is h =
    let whole : i ≡ record { node = n; attribute = a; arguments = vs } = rw (e, f, g) refl in
    ap (λ j. follow tree [] (evaluation rules nat_eq j)) whole ∙ starts rules tree (record { node = n; attribute = a; arguments = vs }) seen c end grows is h
