-- Which values and which instances are the same, and what a hash of them is made from.
use Rattle.std.specs.Prelude.{ℕ, Bool, false, List, [], ◌∷◌, ◌*◌, ◌^◌, ◌%◌, ◌&&◌, ◌++◌, bit_xor, nat_eq, bytes_eq}
use Rattle.std.specs.Ordering.{int_eq}
use Rattle.std.specs.Cmp.Lexicographic.{pointwise}
use Rattle.std.specs.Hash.{HashWrites}
use Rattle.std.specs.Hash as fed
use Rattle.at_model.specs.Bodies.{bool_eq, ref_eq}
use Rattle.at_model.specs.Run.{Value, Int, Truth, Text, Ref, Nodes, Instance}

abbrev pub same_value : Value ℕ → Value ℕ → Bool
same_value (Int m) (Int n) = int_eq m n
same_value (Truth a) (Truth b) = bool_eq a b
same_value (Text s) (Text t) = bytes_eq s t
same_value (Ref m) (Ref n) = ref_eq nat_eq m n
same_value (Nodes ms) (Nodes ns) = pointwise nat_eq ms ns
same_value _ _ = false

-- the same node, the same attribute and the same arguments
abbrev pub same_instance : Instance ℕ → Instance ℕ → Bool
same_instance i j = nat_eq i.node j.node && (nat_eq i.attribute j.attribute && pointwise same_value i.arguments j.arguments)

-- the number, the truth, the text, the node or the nodes alone: what isn't the same may be fed alike
abbrev pub value_writes : Value ℕ → HashWrites
value_writes (Int n) = fed.i32 n
value_writes (Truth b) = fed.bool b
value_writes (Text s) = s ∷ []
value_writes (Ref n) = fed.option fed.u32 n
value_writes (Nodes ns) = fed.slice fed.u32 ns

-- the attribute and the node in one number
abbrev pub place_number : Instance ℕ → ℕ
place_number i = bit_xor ((i.attribute * 2 ^ 32) % 2 ^ 64) i.node

-- nothing for no arguments
abbrev pub arguments_writes : List (Value ℕ) → HashWrites
arguments_writes [] = []
arguments_writes (v ∷ vs) = fed.slice value_writes (v ∷ vs)

abbrev pub instance_writes : Instance ℕ → HashWrites
instance_writes i = fed.u64 (place_number i) ++ arguments_writes i.arguments
