use Rattle.std.proofs.Common.{◌≡◌, ◌+◌, List, Some, sym, subst, arith}
use Rattle.std.specs.List.{slice_get}
use Rattle.at_model.specs.Paths.{Node, node_eq}
use Rattle.at_model.specs.Run.{Value, Contents, Known, Run}
use Rattle.at_model.specs.Bodies.{max_turns, nodes_of}
use Rattle.at_model.specs.Meaning.{Among}
use Rattle.at_model.specs.Lists.{IsReached, first, next}
use Rattle.at_model.proofs.Nodes.{node_eq-is}
use Rattle.at_model.proofs.of_lists.Closing.{IsClosed, closes, position}
use Rattle.at_model.proofs.list_laws.what_is_reached_is_the_closure.Goals as goal

reached : (look : Contents Node) (known : Known Node) (what : Node → Run Node (Value Node)) (ns ms : List Node) → IsClosed node_eq (λ a b. (node_eq-is a b).0) look known what 0 ns ms →
    (n : Node) → IsReached look known what ns n → Among n ms
reached look known what ns ms h _ (first n a) = h.stays n a
reached look known what ns ms h _ (next n m v r gives a) =
    let (i, f) = position n ms (reached look known what ns ms h n r) in
    let at : i ≡ 0 + i = omega arith in
    let (w, also, g) = h.closed i n (subst (λ z. slice_get ms z ≡ Some n) at f) in
    let s : w ≡ v = cc in
    g m (subst (λ z. Among m (nodes_of z)) (sym s) a)

pub returns : goal.returns
returns c = λ look known what ns v e.
    let (ms, s, h) = closes node_eq (λ a b. (node_eq-is a b).0) look known what max_turns 0 ns v e in
    (ms, s, λ n. (h.least (IsReached look known what ns) (λ k a. first k a) (λ k w r gives m a. next k m w r gives a) n, reached look known what ns ms h n))
