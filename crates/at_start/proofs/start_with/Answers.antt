use Rattle.std.proofs.Common.{arith, ◌≡◌, ◌∙◌, List, ℕ, true, length, map, sym, subst}
use Rattle.std.proofs.lemmas.Result.{err_from_is_err_and}
use Rattle.at_model.specs.Classes.{AreSound, Classes}
use Rattle.at_class.specs.Grammar.{grammar_view, place_view}
use Rattle.at_model.specs.Terms.{term_of}
use Rattle.at_model.specs.Trees.{conforms}
use Rattle.at_model.specs.Rules.{Rules}
use Rattle.at_store.specs.Loading.{IsNotLoaded}
use Rattle.at_store.specs.declared.edit.LoadFault.{LoadFault}
use Rattle.at_tree.specs.TreeView.{tree_view}
use Rattle.at_start.specs.AspectFiles.{GivesRules, IsAspectFault}
use Rattle.at_start.specs.Files.{IsText, tree_bytes}
use Rattle.at_start.specs.GrammarFiles.{GivesGrammar, IsGrammarFault}
use Rattle.at_start.specs.Starts.{aspect_bytes, AreServed, IsStartFault}
use Rattle.at_start.specs.TreeFiles.{GivesTree, IsTreeFault, IsTermFile, no_room}
use Rattle.at_start.specs.declared.code.Code.TheVariants as code
use Rattle.at_start.specs.declared.files.Source.{Source}
use Rattle.at_text.specs.declared.fault.Failure.TheVariants as failure
use Rattle.at_start.proofs.Started.{grammar_refuses, aspects_refuse, opening_stands, tree_refuses}
use Rattle.at_model.proofs.of_machines.TokensKept.{written_tokens}
use Rattle.at_seek.specs.Standing.{Stands}
use Rattle.at_start.proofs.start_with.Goals as goal

pub returns-in-Err-clause-refused : goal.returns-in-Err-clause-refused
returns-in-Err-clause-refused g c =
    let fault = subst (λ (b : List ℕ). IsGrammarFault c.args.files.now.language b c.in-Err.fault) c.deref.ensures.value c.in-Err.ensures.refused in
    subst (IsStartFault c.args.files.now) (sym c.of_file.ensures) (grammar_refuses c.args.files.now c.in-Err.fault fault)

pub returns-in_err-rules-clause-refused : goal.returns-in_err-rules-clause-refused
returns-in_err-rules-clause-refused g c =
    let ds = grammar_view c.in-Ok.declared.grammar in
    let marks = map place_view c.in-Ok.declared.marks.items in
    let p = err_from_is_err_and c.from_residual.result c.from_residual.ensures.1 in
    let given = subst (λ (b : List ℕ). GivesGrammar c.args.files.now.language b ds marks) c.deref.ensures.value c.in-Ok.ensures.given in
    let fault = subst (λ (s : List Source). IsAspectFault c.args.files.now.language marks ds (aspect_bytes s)
    c.in_err-rules.field-0.0) c.deref-2.ensures.value c.in_err-rules.ensures.refused in
    rw (p.1, p.2) (aspects_refuse c.args.files.now ds marks c.in_err-rules.field-0.0 given fault)

pub returns-in-Err-tree_of-clause-refused : goal.returns-in-Err-tree_of-clause-refused
returns-in-Err-tree_of-clause-refused g c =
    let files = c.args.files.now in
    let ds = grammar_view c.in-Ok.declared.grammar in
    let marks = map place_view c.in-Ok.declared.marks.items in
    let made = c.in_ok-rules.rules in
    let given = subst (λ (b : List ℕ). GivesGrammar c.args.files.now.language b ds marks) c.deref.ensures.value c.in-Ok.ensures.given in
    let rules = subst (λ (s : List Source). GivesRules files.language marks ds (aspect_bytes s) made) c.deref-2.ensures.value c.in_ok-rules.ensures.given in
    let same = c.classes.ensures ∙ c.served-rules.ensures.classes in
    let there = subst (λ (k : Classes). IsTreeFault k files.nodes c.deref-3.result.now c.in-Err-tree_of.fault) same c.in-Err-tree_of.ensures.refused in
    let fault = subst (λ (b : List ℕ). IsTreeFault made.classes files.nodes b c.in-Err-tree_of.fault) c.deref-3.ensures.value there in
    let count : c.len-file.result ≡ length files.aspects.items = omega (arith, c.len-file.ensures, files.aspects.ok.0) in
    rw (c.of_tree.ensures, count) (tree_refuses files ds marks made c.in-Err-tree_of.fault given rules fault)

pub returns-in-Err-Limit-clause-refused : goal.returns-in-Err-Limit-clause-refused
returns-in-Err-Limit-clause-refused g c =
    let files = c.args.files.now in
    let ds = grammar_view c.in-Ok.declared.grammar in
    let marks = map place_view c.in-Ok.declared.marks.items in
    let made = c.in_ok-rules.rules in
    let t = tree_view c.in-Ok-tree_of.tree in
    let bytes = files.tree.bytes.items in
    let same = c.classes.ensures ∙ c.served-rules.ensures.classes in
    let given = subst (λ (b : List ℕ). GivesGrammar c.args.files.now.language b ds marks) c.deref.ensures.value c.in-Ok.ensures.given in
    let rules = subst (λ (s : List Source). GivesRules files.language marks ds (aspect_bytes s) made) c.deref-2.ensures.value c.in_ok-rules.ensures.given in
    let refused = subst (λ (k : Classes). IsNotLoaded k files.nodes t c.in-Err-Limit.field-0) c.served-rules.ensures.classes c.in-Err-Limit.ensures.refused in
    let load = subst (λ (f : LoadFault). IsNotLoaded made.classes files.nodes t f) c.in-Err-Limit.field-0-is refused in
    let text = subst (IsText (tree_bytes files.nodes)) c.deref-3.ensures.value c.in-Ok-tree_of.ensures.text in
    let there = subst (λ (b : List ℕ). IsTermFile b (term_of c.classes.result.now t)) c.deref-3.ensures.value c.in-Ok-tree_of.ensures.written in
    let written = subst (λ (k : Classes). IsTermFile bytes (term_of k t)) same there in
    let whole = subst (λ (k : Classes). conforms k t 0 ≡ true) same c.in-Ok-tree_of.ensures.whole in
    let count : c.len-file.result ≡ length files.aspects.items = omega (arith, c.len-file.ensures, files.aspects.ok.0) in
    rw (c.of_tree-in-Err-Limit.ensures, count) (tree_refuses files ds marks made (failure.For code.TreeLimit) given rules (no_room t text written whole load.1))

pub returns-in-Ok-new-clause-ready : goal.returns-in-Ok-new-clause-ready
returns-in-Ok-new-clause-ready g c =
    let t = tree_view c.in-Ok-tree_of.tree in
    let tokens = written_tokens c.classes.result.now c.in-Ok-tree_of.ensures.sound t 0 c.in-Ok-tree_of.ensures.whole c.in-Ok-tree_of.ensures.written.0 in
    c.in-Ok-new.ensures.sound c.served-rules.ensures.well_formed c.served-rules.ensures.circular tokens c.requires

pub returns-in-Ok-new-clause-started : goal.returns-in-Ok-new-clause-started
returns-in-Ok-new-clause-started g c =
    let files = c.args.files.now in
    let ds = grammar_view c.in-Ok.declared.grammar in
    let marks = map place_view c.in-Ok.declared.marks.items in
    let made = c.in_ok-rules.rules in
    let t = tree_view c.in-Ok-tree_of.tree in
    let bytes = files.tree.bytes.items in
    let same = c.classes.ensures ∙ c.served-rules.ensures.classes in
    let given = subst (λ (b : List ℕ). GivesGrammar c.args.files.now.language b ds marks) c.deref.ensures.value c.in-Ok.ensures.given in
    let read = subst (λ (s : List Source). GivesRules files.language marks ds (aspect_bytes s) made) c.deref-2.ensures.value c.in_ok-rules.ensures.given in
    let text = subst (IsText (tree_bytes files.nodes)) c.deref-3.ensures.value c.in-Ok-tree_of.ensures.text in
    let there = subst (λ (b : List ℕ). IsTermFile b (term_of c.classes.result.now t)) c.deref-3.ensures.value c.in-Ok-tree_of.ensures.written in
    let written = subst (λ (k : Classes). IsTermFile bytes (term_of k t)) same there in
    let whole = subst (λ (k : Classes). conforms k t 0 ≡ true) same c.in-Ok-tree_of.ensures.whole in
    let sound = c.in-Ok-tree_of.ensures.sound in
    let tokens = written_tokens c.classes.result.now sound t 0 c.in-Ok-tree_of.ensures.whole c.in-Ok-tree_of.ensures.written.0 in
    let tree : GivesTree made.classes files.nodes bytes t = record { text = text; written = written; whole = whole; within = c.in-Ok-new.ensures.within } in
    record {
      rules = made;
      starts = record { declarations = ds; marks = marks; grammar = given; aspects = read; opened = t; tree = tree; state_is = c.in-Ok-new.ensures.first };
      served = subst (AreServed files.index made) (sym c.in-Ok-new.ensures.rules) c.served-rules.ensures.served;
      well_formed = c.in_ok-rules.ensures.well_formed;
      classes = subst AreSound same c.in-Ok-tree_of.ensures.sound;
      stands = subst (Stands made.classes) (sym c.in-Ok-new.ensures.first) (opening_stands made.classes files.nodes t tree tokens);
    }
