-- The path that is told of a mark leads back to its node.
use Rattle.std.proofs.Common.{◌≡◌, List, [], Option, Some, None, append-nil, arith, refl, sym, ap, ◌∙◌, subst}
use Rattle.std.specs.Prelude.{ℕ, ◌≤◌, ◌&&◌, nat_le, true, IsSome, unwrap_or}
use Rattle.std.specs.List.{find}
use Rattle.at_model.specs.Classes.{AreSound}
use Rattle.at_model.specs.Trees.{Tree, nodes, depth}
use Rattle.at_model.specs.Terms.{max_depth}
use Rattle.at_model.specs.Edits.{max_nodes, tokens_short}
use Rattle.at_model.specs.Paths.{Path, Node, ArePartsApart, IsPath, path_text, tree_at, node_at}
use Rattle.at_model.specs.Rules.{Rules}
use Rattle.at_model.specs.Lines.{Line, Command, Where}
use Rattle.at_model.specs.Replies.{Reply, Form, Code, Shows, At}
use Rattle.at_model.specs.Replies as code
use Rattle.at_model.specs.Machine.{State, Marked, Verdict, Refuses, Tells, IsSound, Says, Step, is_mark, marked, obeyed, path_to}
use Rattle.std.proofs.lemmas.Bool.Decides.{nat_tests}
use Rattle.at_model.proofs.Options.{both, mapped}
use Rattle.at_model.proofs.PathsWritten.{path_written}
use Rattle.at_model.proofs.of_texts.OneLine.{same_path}
use Rattle.at_model.proofs.PathsBack.{path_back}
use Rattle.at_model.proofs.of_edits.Changes.{whole}
use Rattle.at_model.proofs.of_machines.Sound.{leads-found}

at_most : (a : ℕ) → nat_le a 16777216 ≡ true → a ≤ 16777216
at_most a e = grind (arith, nat_tests)

some_tree : (o : Option Tree) → IsSome o → (u : Tree) × (o ≡ Some u)
some_tree None h = absurd cc
some_tree (Some u) h = (u, refl)

module _ (rules : Rules) (s : State) (apart : ArePartsApart rules.classes) (sound : IsSound rules.classes s) (session : ℕ) (name : List ℕ) where
  -- where it tells a path, that path leads to the marked node
  abbrev TellsBack : Verdict → Type 0
  TellsBack v = (form : Form) (path : Path) → Says rules s v form → form ≡ Shows (At path)
      → (n : Node) × (marked s.marks session name ≡ Some n) × (node_at rules.classes s.tree path ≡ Some n)
      × (AreSound rules.classes → IsPath path)

  told_nothing : (c : Code) → TellsBack (Refuses c)
  told_nothing c form path says e = absurd cc

  -- the node of a mark is there
  marked_there : (n : Node) → marked s.marks session name ≡ Some n → (u : Tree) × (tree_at s.tree n ≡ Some u)
  marked_there n is =
      let (m, found, same) = mapped (λ (m : Marked). m.node) (find (is_mark session name) s.marks) n is in
      some_tree (tree_at s.tree n) (subst (λ (x : Node). IsSome (tree_at s.tree x)) same (leads-found s.tree (is_mark session name) s.marks m sound.marks_lead found))

  where_tells : (o : Option Node) → marked s.marks session name ≡ o → TellsBack (elim o [ None ↦ Refuses code.Mark | Some n ↦ Tells (At (path_to rules.classes s.tree n)) ])
  where_tells None is form path says e = absurd cc
  where_tells (Some n) is form path says e =
      let (u, found) = marked_there n is in
      let (p, written, read) = path_back rules.classes apart s.tree 0 n u sound.tree_conforms found in
      let same : path_to rules.classes s.tree n ≡ path = cc in
      let back : p ≡ path = sym (ap (λ o. unwrap_or o []) written) ∙ same in
      let few = both (nat_le (nodes s.tree) max_nodes && nat_le (depth s.tree) max_depth) (tokens_short s.tree) sound.tree_within in
      let small : nodes s.tree ≤ 16777216 = at_most (nodes s.tree) (both (nat_le (nodes s.tree) max_nodes) (nat_le (depth s.tree) max_depth) few.0).0 in
      (n, is, subst (λ (x : Path). node_at rules.classes s.tree x ≡ Some n) back read, λ named. subst IsPath back (path_written rules.classes named s.tree n p small written))

pub where_step : (rules : Rules) (old : State) (l : Line) (new : State) (reply : Reply) (name : List ℕ) (path : Path)
    → ArePartsApart rules.classes → IsSound rules.classes old → l.command ≡ Where name → Step rules old l new reply →
    reply.form ≡ Shows (At path) → (n : Node) × (marked old.marks l.session name ≡ Some n) × (node_at rules.classes old.tree path ≡ Some n) × (AreSound rules.classes → IsPath path)
where_step rules old l new reply name path apart sound is h form =
    let Q : Command → Type 0 = λ c. TellsBack rules old apart sound l.session name (obeyed rules old l.session c) in
    whole (TellsBack rules old apart sound l.session name) (told_nothing rules old apart sound l.session name) rules old l
    (subst Q (sym is) (where_tells rules old apart sound l.session name (marked old.marks l.session name) refl)) reply.form path h.says form

-- and so does whatever else is read of its text
pub where_text : (rules : Rules) (old : State) (l : Line) (new : State) (reply : Reply) (name : List ℕ) (path : Path)
    → AreSound rules.classes → ArePartsApart rules.classes → IsSound rules.classes old → l.command ≡ Where name
    → Step rules old l new reply →
    reply.form ≡ Shows (At path) → (q : Path) → IsPath q → path_text q ≡ path_text path → node_at rules.classes old.tree q ≡ marked old.marks l.session name
where_text rules old l new reply name path named apart sound is h form q written same =
    let (n, there, leads, can) = where_step rules old l new reply name path apart sound is h form in
    let equal : q ≡ path = (same_path q path [] [] written (can named) tt tt (append-nil (path_text q) ∙ same ∙ sym (append-nil (path_text path)))).0 in
    subst (λ (x : Path). node_at rules.classes old.tree x ≡ marked old.marks l.session name) (sym equal) (leads ∙ sym there)
