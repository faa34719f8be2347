use Rattle.std.proofs.Common.{◌≡◌, ◌⊎◌, ◌≤◌, ◌∙◌, ℕ, [], Some, ap, arith, inl, inr, length, sym, true}
use Rattle.at_model.specs.Classes.{Classes}
use Rattle.at_model.specs.Trees.{Tree, conforms}
use Rattle.at_model.specs.Paths.{ArePartsApart, Node, Path, node_at, path_of, tree_at}
use Rattle.at_model.proofs.PathsBack.{path_back}
use Rattle.at_store.specs.Memory.{class_in}
use Rattle.at_store.specs.Numbers.{relabel}
use Rattle.at_store.specs.Shown.{numbers, tree}
use Rattle.at_store.specs.View.{memory_of}
use Rattle.at_store.proofs.Reading.{shown_there, small_index}
use Rattle.at_store.proofs.Arranged.{once_kept}
use Rattle.at_store.proofs.store.Store.path_of.Goals as goal

pub returns-clause-shown : goal.returns-clause-shown
returns-clause-shown c n p found is =
    let s = numbers c.args.self.now in
    let (u, at', number, there) = shown_there c.args.self.now c.args.node n found in
    c.in_ok-steps.ensures.led s n p c.requires.keeps found (omega (arith, c.requires.keeps.shallow n u at')) is

-- the path that leads back, also where it is that of the root and nothing is known of the classes
back_by : (classes : Classes) (t : Tree) (b : ℕ) (n : Node) (u : Tree) → (n ≡ []) ⊎ ArePartsApart classes → conforms classes t b ≡ true → tree_at t n ≡ Some u
    → (p : Path) × (path_of classes t n ≡ Some p) × (node_at classes t p ≡ Some n)
back_by classes t b n u (inl root) ok there = ([], ap (path_of classes t) root, ap Some (sym root))
back_by classes t b n u (inr apart) ok there = path_back classes apart t b n u ok there

pub returns-clause-back : goal.returns-clause-back
returns-clause-back c n b found ok =
    let s = c.args.self.now in
    let classes = c.args.classes.now in
    let (u, at', number, there) = shown_there s c.args.node n found in
    let short : length n ≤ 512 = omega (arith, c.requires.keeps.shallow n u at') in
    let apart = c.in_ok-steps.ensures.apart (numbers s) n c.requires.keeps found short in
    let (p, written, read) = back_by classes (tree s) b n (relabel (class_in (memory_of s.slab)) u) apart ok there in
    ap (node_at classes (tree s)) (c.in_ok-steps.ensures.led (numbers s) n p c.requires.keeps found short written) ∙ read

pub steps_to-requires : goal.steps_to-requires
steps_to-requires c = λ k. (once_kept (memory_of c.args.self.now.slab) (numbers c.args.self.now) c.requires.keeps k, small_index c.args.self.now c.requires k)
