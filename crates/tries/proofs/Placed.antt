-- Trees that are read are sound.
use Rattle.std.proofs.Common.{ℕ, List, sym, subst}
use Rattle.at_model.specs.Classes.{AreSound, Classes}
use Rattle.at_model.specs.Trees.{Tree}
use Rattle.at_model.specs.Terms.{IsTerm}
use Rattle.at_model.specs.Enduring.{AreTokens}
use Rattle.at_model.proofs.of_machines.TokensKept.{written_tokens}
use Rattle.at_tree.specs.ReadTrees.{IsReadAs}

-- a tree that is read has tokens that can be written
pub read_tokens : (classes : Classes) → AreSound classes → (text : List ℕ) (b : ℕ) (t : Tree) → IsReadAs classes text b t → AreTokens t
read_tokens classes sound text b t (term, is, shaped) = written_tokens classes sound t b shaped.conforms (subst IsTerm (sym shaped.written) is.0)
