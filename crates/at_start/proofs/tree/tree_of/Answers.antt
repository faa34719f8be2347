use Rattle.std.proofs.Common.{◌≡◌, true, subst, ℕ, List}
use Rattle.at_model.specs.Trees.{conforms}
use Rattle.at_tree.specs.ReadTrees.{IsUnread}
use Rattle.at_tree.specs.TreeView.{tree_view}
use Rattle.at_tree.specs.declared.tree.reading.ReadFault.{ReadFault}
use Rattle.at_start.specs.Files.{IsNoText, IsText}
use Rattle.at_start.specs.declared.code.Code.TheVariants as code
use Rattle.at_start.specs.TreeFiles.{IsWithoutNewline, no_text}
use Rattle.at_start.proofs.TermFiles.{is_tree_file, no_term_read, no_class_read, no_fit_read}
use Rattle.at_start.proofs.tree.tree_of.Goals as goal

pub returns-in-Err-clause-refused : goal.returns-in-Err-clause-refused
returns-in-Err-clause-refused c = no_text c.in-Err.code (subst (λ (m : ℕ). IsNoText m c.args.bytes.now code.TreeLimit code.TreeSyntax c.in-Err.code) c.tree_bytes.ensures c.in-Err.ensures)

pub returns-in-Ok-read_tree-clause-written : goal.returns-in-Ok-read_tree-clause-written
returns-in-Ok-read_tree-clause-written c =
    let file = subst (λ (x : List ℕ). IsWithoutNewline x c.without_newline.result.now) c.in-Ok.ensures.1 c.without_newline.ensures in
    is_tree_file c.args.classes.now c.args.bytes.now c.without_newline.result.now c.start.result (tree_view c.in-Ok-read_tree.tree) file c.in-Ok-read_tree.ensures.found

pub returns-in-Ok-read_tree-clause-whole : goal.returns-in-Ok-read_tree-clause-whole
returns-in-Ok-read_tree-clause-whole c = subst (λ (b : ℕ). conforms c.args.classes.now (tree_view c.in-Ok-read_tree.tree) b ≡ true) c.start.ensures.first c.in-Ok-read_tree.ensures.found.2.conforms

pub returns-in-Err-Syntax-clause-refused : goal.returns-in-Err-Syntax-clause-refused
returns-in-Err-Syntax-clause-refused c =
    let file = subst (λ (x : List ℕ). IsWithoutNewline x c.without_newline.result.now) c.in-Ok.ensures.1 c.without_newline.ensures in
    let at_start = subst (λ (b : ℕ). IsUnread c.args.classes.now c.without_newline.result.now b c.in-Err-Syntax.field-0) c.start.ensures.first c.in-Err-Syntax.ensures.refused in
    let none = subst (λ (f : ReadFault). IsUnread c.args.classes.now c.without_newline.result.now 0 f) c.in-Err-Syntax.field-0-is at_start in
    no_term_read c.args.classes.now c.args.nodes c.args.bytes.now c.without_newline.result.now _ (subst (λ (m : ℕ). IsText m c.args.bytes.now) c.tree_bytes.ensures c.in-Ok.ensures.0) file none

pub returns-in-Err-Class-clause-refused : goal.returns-in-Err-Class-clause-refused
returns-in-Err-Class-clause-refused c =
    let file = subst (λ (x : List ℕ). IsWithoutNewline x c.without_newline.result.now) c.in-Ok.ensures.1 c.without_newline.ensures in
    let at_start = subst (λ (b : ℕ). IsUnread c.args.classes.now c.without_newline.result.now b c.in-Err-Class.field-0) c.start.ensures.first c.in-Err-Class.ensures.refused in
    let none = subst (λ (f : ReadFault). IsUnread c.args.classes.now c.without_newline.result.now 0 f) c.in-Err-Class.field-0-is at_start in
    no_class_read c.args.classes.now c.args.nodes c.args.bytes.now c.without_newline.result.now (subst (λ (m : ℕ). IsText m c.args.bytes.now) c.tree_bytes.ensures c.in-Ok.ensures.0) file none

pub returns-in-Err-Fit-clause-refused : goal.returns-in-Err-Fit-clause-refused
returns-in-Err-Fit-clause-refused c =
    let file = subst (λ (x : List ℕ). IsWithoutNewline x c.without_newline.result.now) c.in-Ok.ensures.1 c.without_newline.ensures in
    let at_start = subst (λ (b : ℕ). IsUnread c.args.classes.now c.without_newline.result.now b c.in-Err-Fit.field-0) c.start.ensures.first c.in-Err-Fit.ensures.refused in
    let none = subst (λ (f : ReadFault). IsUnread c.args.classes.now c.without_newline.result.now 0 f) c.in-Err-Fit.field-0-is at_start in
    no_fit_read c.args.classes.now c.args.nodes c.args.bytes.now c.without_newline.result.now (subst (λ (m : ℕ). IsText m c.args.bytes.now) c.tree_bytes.ensures c.in-Ok.ensures.0) file none
