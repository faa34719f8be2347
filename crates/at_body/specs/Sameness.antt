-- The tests of values and of instances are equivalences, and what is the same has the same hash.
use Rattle.std.specs.Prelude.{◌≡◌, ℕ, Bool, true, false, refl, List, [], ◌∷◌, ◌++◌, ◌&&◌, Option, Some, None, nat_eq}
use mathlib.Core.Path.{ap, ◌∙◌, sym}
use mathlib.Core.Bool.{true≢false}
use Rattle.std.specs.Bool.{Decides, one_answer}
use Rattle.std.specs.Cmp.{IsEquivalence, first_so, second_so, on_equiv, and_equiv, nat_eq_equiv, signed_Decides, unsigned_Decides}
use Rattle.std.specs.Cmp.Lexicographic.{lists_equiv, pointwise, pointwise_decides}
use Rattle.std.specs.Hash.{Alike, same_Alike, items_Alike}
use Rattle.std.specs.Hash as fed
use Rattle.std.proofs.lemmas.Slice.Eq.{bytes_eq-Decides}
use Rattle.at_model.specs.Bodies.{bool_eq, ref_eq}
use Rattle.at_model.specs.Run.{Value, Int, Truth, Text, Ref, Nodes, Instance}
use Rattle.at_body.specs.Same.{same_value, same_instance, value_writes, place_number, arguments_writes, instance_writes}

bools_agree : (a b : Bool) → bool_eq a b ≡ true → a ≡ b
bools_agree true true h = refl
bools_agree true false h = absurd (true≢false (sym h))
bools_agree false true h = absurd (true≢false (sym h))
bools_agree false false h = refl

bool_itself : (b : Bool) → bool_eq b b ≡ true
bool_itself true = refl
bool_itself false = refl

refs_agree : (m n : Option ℕ) → ref_eq nat_eq m n ≡ true → m ≡ n
refs_agree None None h = refl
refs_agree None (Some n) h = absurd (true≢false (sym h))
refs_agree (Some m) None h = absurd (true≢false (sym h))
refs_agree (Some m) (Some n) h = ap Some ((unsigned_Decides m n).0 h)

ref_itself : (n : Option ℕ) → ref_eq nat_eq n n ≡ true
ref_itself None = refl
ref_itself (Some n) = nat_eq_equiv.refl n

nodes_decided : (ms ns : List ℕ) → Decides (pointwise nat_eq ms ns) (ms ≡ ns)
nodes_decided = pointwise_decides unsigned_Decides

values_agree : (v w : Value ℕ) → same_value v w ≡ true → v ≡ w
values_agree (Int m) (Int n) h = ap Int ((signed_Decides m n).0 h)
values_agree (Truth a) (Truth b) h = ap Truth (bools_agree a b h)
values_agree (Text s) (Text t) h = ap Text ((bytes_eq-Decides s t).0 h)
values_agree (Ref m) (Ref n) h = ap Ref (refs_agree m n h)
values_agree (Nodes ms) (Nodes ns) h = ap Nodes ((nodes_decided ms ns).0 h)
values_agree (Int m) (Truth b) h = absurd (true≢false (sym h))
values_agree (Int m) (Text t) h = absurd (true≢false (sym h))
values_agree (Int m) (Ref n) h = absurd (true≢false (sym h))
values_agree (Int m) (Nodes ns) h = absurd (true≢false (sym h))
values_agree (Truth a) (Int n) h = absurd (true≢false (sym h))
values_agree (Truth a) (Text t) h = absurd (true≢false (sym h))
values_agree (Truth a) (Ref n) h = absurd (true≢false (sym h))
values_agree (Truth a) (Nodes ns) h = absurd (true≢false (sym h))
values_agree (Text s) (Int n) h = absurd (true≢false (sym h))
values_agree (Text s) (Truth b) h = absurd (true≢false (sym h))
values_agree (Text s) (Ref n) h = absurd (true≢false (sym h))
values_agree (Text s) (Nodes ns) h = absurd (true≢false (sym h))
values_agree (Ref m) (Int n) h = absurd (true≢false (sym h))
values_agree (Ref m) (Truth b) h = absurd (true≢false (sym h))
values_agree (Ref m) (Text t) h = absurd (true≢false (sym h))
values_agree (Ref m) (Nodes ns) h = absurd (true≢false (sym h))
values_agree (Nodes ms) (Int n) h = absurd (true≢false (sym h))
values_agree (Nodes ms) (Truth b) h = absurd (true≢false (sym h))
values_agree (Nodes ms) (Text t) h = absurd (true≢false (sym h))
values_agree (Nodes ms) (Ref n) h = absurd (true≢false (sym h))

value_itself : (v : Value ℕ) → same_value v v ≡ true
value_itself (Int n) = (signed_Decides n n).1 refl
value_itself (Truth b) = bool_itself b
value_itself (Text s) = (bytes_eq-Decides s s).1 refl
value_itself (Ref n) = ref_itself n
value_itself (Nodes ns) = (nodes_decided ns ns).1 refl

pub values_decided : (v w : Value ℕ) → Decides (same_value v w) (v ≡ w)
values_decided v w = (values_agree v w, λ e. ap (same_value v) (sym e) ∙ value_itself v)

turned : (v w : Value ℕ) → Decides (same_value w v) (v ≡ w)
turned v w = (λ h. sym (values_agree w v h), λ e. (values_decided w v).1 (sym e))

pub values_equiv : IsEquivalence same_value
values_equiv = record {
  refl = value_itself;
  symm = λ v w. one_answer (same_value v w) (same_value w v) (values_decided v w) (turned v w);
  congr = λ v w x h. ap (λ u. same_value u x) (values_agree v w h);
}

pub values_fed : Alike same_value value_writes
values_fed = same_Alike value_writes values_decided

pub instances_equiv : IsEquivalence same_instance
instances_equiv =
    and_equiv (on_equiv (λ i. i.node) nat_eq_equiv)
    (and_equiv (on_equiv (λ i. i.attribute) nat_eq_equiv) (on_equiv (λ i. i.arguments) (lists_equiv values_equiv)))

arguments_fed : (vs ws : List (Value ℕ)) → pointwise same_value vs ws ≡ true → arguments_writes vs ≡ arguments_writes ws
arguments_fed [] [] h = refl
arguments_fed [] (w ∷ ws) h = absurd (true≢false (sym h))
arguments_fed (v ∷ vs) [] h = absurd (true≢false (sym h))
arguments_fed (v ∷ vs) (w ∷ ws) h = (items_Alike values_fed).fed (v ∷ vs) (w ∷ ws) h

same_place : (i j : Instance ℕ) → nat_eq i.node j.node ≡ true → nat_eq i.attribute j.attribute ≡ true → place_number i ≡ place_number j
same_place i j h k = rw ((unsigned_Decides i.node j.node).0 h, (unsigned_Decides i.attribute j.attribute).0 k) refl

alike : (i j : Instance ℕ) → same_instance i j ≡ true → instance_writes i ≡ instance_writes j
alike i j h =
    let rest = second_so (nat_eq i.node j.node) (nat_eq i.attribute j.attribute && pointwise same_value i.arguments j.arguments) h in
    let place = same_place i j (first_so (nat_eq i.node j.node) _ h) (first_so (nat_eq i.attribute j.attribute) _ rest) in
    λ k. fed.u64 (place k) ++ arguments_fed i.arguments j.arguments (second_so (nat_eq i.attribute j.attribute) _ rest) k

pub instances_fed : Alike same_instance instance_writes
instances_fed = record { fed = alike }
