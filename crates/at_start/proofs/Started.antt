-- Each stage's refusal is the first fault of the files, and the state at the start is sound.
use Rattle.std.proofs.Common.{◌+◌, ℕ, List, length, Some, None}
use Rattle.std.proofs.lemmas.Bool.{and_parts}
use Rattle.std.specs.Prelude.{nat_le}
use Rattle.at_model.specs.Classes.{Classes}
use Rattle.at_model.specs.Declarations.{Declarations, Place}
use Rattle.at_model.specs.Edits.{is_within_limits}
use Rattle.at_model.specs.Enduring.{AreTokens}
use Rattle.at_model.specs.Rules.{Rules}
use Rattle.at_model.specs.Trees.{Tree, nodes}
use Rattle.at_seek.specs.Standing.{Stands}
use Rattle.at_start.specs.AspectFiles.{GivesRules, IsAspectFault}
use Rattle.at_start.specs.GrammarFiles.{GivesGrammar, IsGrammarFault}
use Rattle.at_start.specs.TreeFiles.{GivesTree, IsTreeFault}
use Rattle.at_start.specs.StartFaults.{of_file, of_tree}
use Rattle.at_start.specs.Starts.{aspect_bytes, IsStartFault, by_grammar, by_aspects, by_tree, opening}
use Rattle.at_start.specs.declared.files.Files.{Files}
use Rattle.at_start.specs.declared.code.Code.{Code}
use Rattle.at_text.specs.declared.fault.Fault.{Fault}
use Rattle.at_text.specs.declared.fault.Fault.TheVariants as fault
use Rattle.at_text.specs.declared.fault.Failure.{Failure}
use Rattle.at_text.specs.declared.fault.Failure.TheVariants as failure
use Rattle.at_start.specs.declared.fault.StartFault.{StartFault}
use Rattle.at_start.specs.declared.fault.StartFault.TheVariants.{Refused, Memory}

pub grammar_refuses : (files : Files) (f : Fault Code) → IsGrammarFault files.language files.grammar.bytes.items f → IsStartFault files (of_file 0 f)
grammar_refuses files (fault.Refused c at) h = by_grammar c at h
grammar_refuses files fault.Memory h = tt

pub aspects_refuse : (files : Files) (ds : Declarations) (marks : List Place) (e : StartFault)
    → GivesGrammar files.language files.grammar.bytes.items ds marks
    → IsAspectFault files.language marks ds (aspect_bytes files.aspects.items) e → IsStartFault files e
aspects_refuse files ds marks (Refused n c (Some at)) g h = by_aspects ds marks n c at g h
aspects_refuse files ds marks (Refused n c None) g h = absurd h
aspects_refuse files ds marks Memory g h = tt

pub tree_refuses : (files : Files) (ds : Declarations) (marks : List Place) (rules : Rules) (f : Failure Code)
    → GivesGrammar files.language files.grammar.bytes.items ds marks
    → GivesRules files.language marks ds (aspect_bytes files.aspects.items) rules
    → IsTreeFault rules.classes files.nodes files.tree.bytes.items f → IsStartFault files (of_tree (length files.aspects.items + 1) f)
tree_refuses files ds marks rules (failure.For c) g r h = by_tree ds marks rules c g r h
tree_refuses files ds marks rules failure.Memory g r h = tt

-- ---- the state at the start

pub opening_stands : (classes : Classes) (limit : ℕ) {bytes : List ℕ} (t : Tree) → GivesTree classes limit bytes t → AreTokens t
    → Stands classes (opening limit t)
opening_stands classes limit t given tokens =
    let within = and_parts (nat_le (nodes t) limit) (is_within_limits t) given.within in record {
      sound = record { tree_conforms = given.whole; tree_within = within.1; tree_allowed = within.0; marks_lead = tt; posted_lead = tt };
      tokens = tokens;
    }
