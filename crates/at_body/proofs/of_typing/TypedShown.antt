-- What a store shows of a sound tree is of the right kinds, by numbers.
use Rattle.std.proofs.Common.{◌≡◌, ℕ, ◌<◌, List, [], map, length, Option, Some, None, refl, sym, ◌∙◌, subst, arith}
use Rattle.std.proofs.lemmas.List.{length-map}
use Rattle.std.specs.Prelude.{IsSome, IfSome, option_and_then}
use Rattle.std.specs.List.{AllByRecursion}
use Rattle.at_model.specs.Classes.{Classes, TokenKind, Token}
use Rattle.at_model.specs.Classes as class
use Rattle.at_model.specs.Trees as held
use Rattle.at_model.specs.Paths.{Node}
use Rattle.at_model.specs.Run.{Is, Tok, Slot, Up, Idx, Drawer, Location, Contents}
use Rattle.at_model.specs.Bodies.{value_of}
use Rattle.at_model.specs.Rules.{Rules}
use Rattle.at_model.specs.Meaning.{content}
use Rattle.at_model.specs.Alike.{AlikeAt, Names, ListLike, OptionLike, neither, both, end, more, is, tok, slot, up, idx, drawer}
use Rattle.at_model.specs.Kinds.{kind_of_token}
use Rattle.at_model.specs.TypedRuns.{ClassAt, Texts, class_at, class_numbered, IsNodeOf, IsOfKind, IsAllowed, AreContentsTyped}
use Rattle.at_model.specs.Instances.{AnyText, tokens}
use Rattle.at_model.specs.WellFormed.{AreWellFormed, IsTreeSound}
use Rattle.at_model.proofs.Options.{led}
use Rattle.at_model.proofs.Everywhere.{all_any}
use Rattle.at_model.proofs.of_typing.TypedContents.{contents_stand, tokens_written, slot_few}
use Rattle.at_model.proofs.of_typing.TypedTogether.{few_nodes}
use Rattle.at_store.specs.Memory.{class_in}
use Rattle.at_store.specs.Numbers.{number_at}
use Rattle.at_store.specs.Shown.{IsIdle, Shown, contents, numbers, path, tree}
use Rattle.at_store.specs.View.{memory_of}
use Rattle.at_store.proofs.Relabelled.{contents_alike}
use Rattle.at_body.specs.Typed.{IsOver, class_shown}

any_token : (v : held.Token) → IsAllowed {N = ℕ} AnyText (value_of v)
any_token (held.Text bytes) = tt
any_token (held.Int n) = tt
any_token (held.Truth b) = tt

module _ (classes : Classes) (path : ℕ → Option Node) (at : ClassAt Node) (look : Contents ℕ) (other : Contents Node) (alike : (l : Location ℕ) → AlikeAt (Names path) look other l) where
  abbrev At : ClassAt ℕ
  At = class_numbered path at

  class_back : (n : ℕ) (m : Node) → path n ≡ Some m → At n ≡ at m
  class_back n m e = rw e refl

  token_back : (v : held.Token) (k : TokenKind) → IsOfKind {N = Node} classes at (value_of v) (kind_of_token k) → IsOfKind {N = ℕ} classes At (value_of v) (kind_of_token k)
  token_back (held.Text bytes) class.Text h = h
  token_back (held.Int n) class.Int h = h
  token_back (held.Truth b) class.Truth h = h
  token_back (held.Text bytes) class.Int h = absurd h
  token_back (held.Text bytes) class.Truth h = absurd h
  token_back (held.Int n) class.Text h = absurd h
  token_back (held.Int n) class.Truth h = absurd h
  token_back (held.Truth b) class.Text h = absurd h
  token_back (held.Truth b) class.Int h = absurd h

  nodes_back : (b : ℕ) (ns : List ℕ) (ms : List Node) → ListLike (Names path) ns ms → AllByRecursion (λ m. IsNodeOf classes at m b) ms → AllByRecursion (λ n. IsNodeOf classes At n b) ns
  nodes_back b _ _ end h = tt
  nodes_back b _ _ (more {a = n} {b = m} r rs) ((c, e, sub), hs) = ((c, class_back n m r ∙ e, sub), nodes_back b _ _ rs hs)

  some_class : (o : Option Node) → IsSome (option_and_then at o) → (m : Node) × (c : ℕ) × (o ≡ Some m) × (at m ≡ Some c)
  some_class None h = absurd (cc)
  some_class (Some m) h = by_class (at m) refl h
    where
      by_class : (p : Option ℕ) → at m ≡ p → IsSome p → (k : Node) × (c : ℕ) × (Some m ≡ Some k) × (at k ≡ Some c)
      by_class None e h = absurd (cc)
      by_class (Some c) e h = (m, c, refl, e)

  -- what stands above a node
  parent_back : (o : Option (ℕ × ℕ)) (p : Option (Node × ℕ)) → OptionLike (λ p q. Names path p.0 q.0 × (p.1 ≡ q.1)) o p
      → IfSome p (λ q. (c : ℕ) × (at q.0 ≡ Some c) × (c < length classes)) → IfSome o (λ q. (c : ℕ) × (At q.0 ≡ Some c) × (c < length classes))
  parent_back _ _ neither h = tt
  parent_back _ _ (both {a = p} {b = q} (r, same)) (c, e, less) = (c, class_back p.0 q.0 r ∙ e, less)

  pub numbers_stand : (Allowed : Texts) → AreContentsTyped classes at Allowed other → ((n part : ℕ) → length (look (Slot n part)) < 2147483648) → AreContentsTyped classes At AnyText look
  numbers_stand Allowed stand few = record {
    class = λ n c e. let (m, f, g) = led at (path n) c e in let x : look (Is n) ≡ other (Is m) = alike (Is n) (Is m) (is f) in x ∙ stand.class m c g;
    token = λ n c part kind e shape. let (m, f, g) = led at (path n) c e in
        let x : look (Tok n part) ≡ other (Tok m part) = alike (Tok n part) (Tok m part) (tok part f) in
        token_back (look (Tok n part)) kind (subst (λ v. IsOfKind {N = Node} classes at (value_of v) (kind_of_token kind)) (sym x) (stand.token m c part kind g shape));
    said = λ n part. any_token (look (Tok n part));
    children = λ n c part b e asked. let (m, f, g) = led at (path n) c e in nodes_back b (look (Slot n part)) (other (Slot m part)) (alike (Slot n part) (Slot m part) (slot part f)) (stand.children m c part b g asked);
    parent = λ n there. let (m, c, f, g) = some_class (path n) there in
        parent_back (look (Up n)) (other (Up m)) (alike (Up n) (Up m) (up f)) (stand.parent m (rw g refl));
    chosen = λ n c part b key mark e asked. let (m, f, g) = led at (path n) c e in
        nodes_back b (look (Drawer n part key mark)) (other (Drawer m part key mark))
        (alike (Drawer n part key mark) (Drawer m part key mark) (drawer part key mark f)) (stand.chosen m c part b key mark g asked);
    few = few;
    early = λ n there. let (m, c, f, g) = some_class (path n) there in
        let x : look (Idx n) ≡ other (Idx m) = alike (Idx n) (Idx m) (idx f) in
        subst (λ i. i < 2147483648) (sym x) (stand.early m (rw g refl));
  }

any_value : (v : held.Token) → IsAllowed {N = Node} AnyText (value_of v)
any_value (held.Text bytes) = tt
any_value (held.Int n) = tt
any_value (held.Truth b) = tt

-- the rules are over what the store shows
pub shown_typed : (rules : Rules) (s : Shown) → IsIdle s → AreWellFormed rules → IsTreeSound rules.classes (tree s) → IsOver rules (class_shown s) (contents s)
shown_typed rules s idle ok sound = record {
  hierarchy = ok.hierarchy;
  contents = numbers_stand rules.classes (path s) (class_at (tree s)) (contents s) (content (tree s)) (contents_alike (class_in (memory_of s.slab)) (numbers s) idle.keeps.apart) AnyText
      (contents_stand rules.classes (tree s) AnyText (record {
        conform = sound.conform;
        fit = tokens_written (tree s) sound.tokens;
        said = all_any (λ v. IsAllowed {N = Node} AnyText (value_of v)) (tokens (tree s)) any_value;
        few = few_nodes (tree s) sound.within;
      })) few;
}
  where
    few : (n part : ℕ) → length (contents s (Slot n part)) < 2147483648
    few n part = by_path (path s n)
      where
        by_path : (o : Option Node) → length {A = ℕ} (elim o [ None ↦ [] | Some m ↦ map (number_at (numbers s)) (content (tree s) (Slot m part)) ]) < 2147483648
        by_path None = omega arith
        by_path (Some m) = subst (λ k. k < 2147483648) (sym (length-map (content (tree s) (Slot m part)) (number_at (numbers s)))) (slot_few (tree s) m part 2147483648 (few_nodes (tree s) sound.within))
