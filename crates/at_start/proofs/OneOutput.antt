-- Files mean one output for the bytes of lines.
use Rattle.std.proofs.Common.{◌≡◌, ℕ, Bool, List, [], ◌∷◌, map, refl, sym, ap₂, ◌∙◌, subst}
use Rattle.at_model.specs.Lines.{lines}
use Rattle.at_model.specs.Rules.{Rules}
use Rattle.at_model.specs.Trees.{Tree}
use Rattle.at_model.specs.Replies.{Reply}
use Rattle.at_model.specs.Effects.{PostNothing}
use Rattle.at_model.specs.Machine.{Outputs, State}
use Rattle.at_model.proofs.of_machines.OneOutput.{Plainly, ended, output_plain, outputs_once, served}
use Rattle.at_start.specs.Starts.{aspect_bytes, opening}
use Rattle.at_start.specs.TreeFiles.{GivesTree}
use Rattle.at_start.specs.Whole.{IsWithinMemory, MeansOutput}
use Rattle.at_start.specs.declared.files.Files.{Files}
use Rattle.at_start.proofs.OneMeaning.{given_apart, grammar_once, rules_once, tree_once}

-- each line is told once, and of none is it told that memory ran out
same_flags : (rules : Rules) (old start : State) (ls : List (List ℕ)) (told also : List (Bool × Reply)) (new other : State)
    → Plainly rules old ls told new → Plainly rules start ls also other → IsWithinMemory told → IsWithinMemory also
    → map (λ (x : Bool × Reply). x.0) told ≡ map (λ (x : Bool × Reply). x.0) also
same_flags rules _ _ _ _ _ _ _ (ended s none) (ended t none') w v = refl
same_flags rules old start _ _ _ new other (served {mid = mid} {rest = rest} {more = more} none serves goes)
    (served {mid = mid'} {more = more'} none' serves' goes') w v =
    ap₂ (λ b bs. b ∷ bs) (w.0 ∙ sym v.0) (same_flags rules mid mid' rest more more' new other goes goes' w.1 v.1)

pub one_output : (files : Files) (slice other_slice : ℕ) (input one other : List ℕ) (a : MeansOutput files slice input one)
    (b : MeansOutput files other_slice input other) → PostNothing input → IsWithinMemory a.told → IsWithinMemory b.told → one ≡ other
one_output files slice other_slice input one other a b no_post within within' =
    let grammar = grammar_once files.language files.grammar.bytes.items a.declarations b.declarations a.marks b.marks a.grammar b.grammar in
    let rules = rules_once files.language a.marks b.marks a.declarations b.declarations (aspect_bytes files.aspects.items) a.rules b.rules grammar.1 grammar.0
    a.aspects b.aspects in
    let given = subst (λ (r : Rules). GivesTree r.classes files.nodes files.tree.bytes.items b.opened) (sym rules) b.tree in
    let apart = given_apart files.language a.marks a.declarations (aspect_bytes files.aspects.items) a.rules a.grammar.faultless a.aspects in
    let trees = tree_once a.rules.classes files.nodes files.tree.bytes.items a.opened b.opened apart a.tree given in
    let start = opening files.nodes a.opened in
    let outputs = subst (λ (r : Rules). Outputs r other_slice start input b.told b.new) (sym rules)
    (subst (λ (t : Tree). Outputs b.rules other_slice (opening files.nodes t) input b.told b.new) (sym trees) b.outputs) in
    let flags = same_flags a.rules start start (lines input) a.told b.told a.new b.new
    (output_plain a.rules slice start input a.told a.new refl no_post a.outputs)
    (output_plain a.rules other_slice start input b.told b.new refl no_post outputs) within within' in
    let texts = outputs_once a.rules slice other_slice start input a.told b.told a.new b.new refl no_post a.outputs outputs flags in
    a.text ∙ texts.0 ∙ sym b.text
