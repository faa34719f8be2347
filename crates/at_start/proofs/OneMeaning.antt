-- Files give one grammar, one set of rules and one tree.
use Rattle.std.proofs.Common.{◌≡◌, ℕ, List, [], ◌∷◌, refl, sym, ap, ap₂, ◌∙◌, subst, None, Some}
use Rattle.at_model.specs.Classes.{AreNamedApart, Classes}
use Rattle.at_model.specs.Declarations.{Declarations, Place, classes_of, first_fault}
use Rattle.at_model.specs.Rules.{Rules}
use Rattle.at_model.specs.Terms.{term_of}
use Rattle.at_model.specs.Trees.{Tree}
use Rattle.at_model.specs.Shaping.{shaped}
use Rattle.at_model.proofs.of_texts.Shaped.{conforms_shaped}
use Rattle.at_text.specs.Symbols.{symbols, words_keep}
use Rattle.at_text.specs.Rows.{Row}
use Rattle.at_text.proofs.Scanned.{cut_only, fault_only}
use Rattle.at_text.proofs.TextTokens.{one_row}
use Rattle.at_text.specs.Pieces.{Piece, spelled_at}
use Rattle.at_grammar.proofs.Unique.{file_unique}
use Rattle.at_jrag.specs.Syntax.{Aspect}
use Rattle.at_jrag.specs.Grammar.{File}
use Rattle.at_jrag.proofs.Unambiguous.{one_file}
use Rattle.at_tree.proofs.TextLaws.{one_term_each}
use Rattle.at_typing.specs.Building.{rules_of}
use Rattle.at_typing.specs.Located.{located}
use Rattle.at_start.specs.Constants.{Placed, constants_from, planted_classes}
use Rattle.at_start.specs.GrammarFiles.{Declares, GivesGrammar, IsReadOf, declared}
use Rattle.at_start.specs.Slashes.{Unslashes, blanked, cut, marks_of, slashed_in, slashes, uncut}
use Rattle.at_java.specs.Aliases.{Alias}
use Rattle.at_java.specs.Declarations.{Constant}
use Rattle.at_java.specs.Files.{Contents, contents_of}
use Rattle.at_java.specs.Read.{got}
use Rattle.at_start.specs.Lists.{aliases_in}
use Rattle.at_start.specs.AspectFiles.{AllGive, AllHold, GivesRules, IsWritten, arguments_in, aspects_in}
use Rattle.at_start.specs.Redeclaring.{read_in}
use Rattle.at_start.proofs.PlantedNames.{planted_apart}
use Rattle.at_start.proofs.Ruled.{made_builds}
use Rattle.at_start.specs.declared.language.Language.{Language}
use Rattle.at_start.specs.declared.language.Language.TheVariants.{Profile, JastAdd}
use Rattle.at_start.specs.TreeFiles.{GivesTree}
use Rattle.at_start.proofs.TermFiles.{inner_term, without_newline}

-- ---- the grammar

declared_once : (text : List ℕ) (ds es : Declarations) → Declares text ds → Declares text es → ds ≡ es
declared_once text ds es h k =
    let rows = one_row text h.tokens k.tokens h.cut k.cut in
    let written = file_unique h.grammar k.grammar h.spells.0 k.spells.0 (sym h.spells.1 ∙ ap (symbols words_keep) rows ∙ k.spells.1) in
    h.means ∙ ap declared written ∙ sym k.means

unslashed_once : (text read other : List ℕ) (ms ns : List Place) → Unslashes text read ms → Unslashes text other ns → (read ≡ other) × (ms ≡ ns)
unslashed_once text _ _ _ _ (cut ps c) (cut qs d) =
    let same = cut_only text ps qs c d in (
      ap (λ (xs : List Piece). blanked text (slashes (slashed_in (spelled_at 0 xs)))) same,
      ap (λ (xs : List Piece). marks_of text (slashed_in (spelled_at 0 xs))) same,
    )
unslashed_once text _ _ _ _ (cut ps c) (uncut e some fault) = absurd (some (fault_only text e fault ps c))
unslashed_once text _ _ _ _ (uncut e some fault) (cut ps c) = absurd (some (fault_only text e fault ps c))
unslashed_once text _ _ _ _ (uncut e some fault) (uncut f some' fault') = (refl, refl)

read_once : (language : Language) (text read other : List ℕ) (ms ns : List Place) → IsReadOf language text read ms → IsReadOf language text other ns
    → (read ≡ other) × (ms ≡ ns)
read_once (Profile forms) text read other ms ns h k = (h.0 ∙ sym k.0, h.1 ∙ sym k.1)
read_once JastAdd text read other ms ns h k = unslashed_once text read other ms ns h k

pub grammar_once : (language : Language) (bytes : List ℕ) (ds es : Declarations) (ms ns : List Place) → GivesGrammar language bytes ds ms
    → GivesGrammar language bytes es ns → (ds ≡ es) × (ms ≡ ns)
grammar_once language bytes ds es ms ns h k =
    let same = read_once language bytes h.read k.read ms ns h.is_read k.is_read in
    (declared_once k.read ds es (subst (λ (r : List ℕ). Declares r ds) same.0 h.declares) k.declares, same.1)

-- ---- the aspects

got_once : (x y : Contents) (rest : Row) → got x rest ≡ got y rest → x ≡ y
got_once x y rest e = cc

both_once : (x y : Contents) → x.aspects ≡ y.aspects → x.constants ≡ [] → y.constants ≡ [] → x ≡ y
both_once x y same none none' = ap₂ (λ (as' : List Aspect) (ks : List Constant). let c : Contents = record { aspects = as'; constants = ks } in c) same (none ∙ sym none')

written_once : (language : Language) (names : List Alias) (text : List ℕ) (x y : Contents) → IsWritten language names text x
    → IsWritten language names text y → x ≡ y
written_once (Profile forms) names text x y h k =
    let rows = one_row text h.0.tokens k.0.tokens h.0.cut k.0.cut in
    let same = one_file forms x.aspects y.aspects k.0.tokens (subst (λ (row : Row). File forms x.aspects row []) rows h.0.spells) k.0.spells in
    both_once x y same h.1 k.1
written_once JastAdd names text x y h k =
    let rows = one_row text h.tokens k.tokens h.cut k.cut in
    got_once x y [] (sym h.is ∙ ap (contents_of names) rows ∙ k.is)

all_held_once : (language : Language) (names : List Alias) (files : List (List ℕ)) (xs ys : List Contents)
    → AllHold language names files xs → AllHold language names files ys → xs ≡ ys
all_held_once language names [] [] [] h k = refl
all_held_once language names [] [] (y ∷ ys) h k = absurd k
all_held_once language names [] (x ∷ xs) ys h k = absurd h
all_held_once language names (f ∷ fs) [] ys h k = absurd h
all_held_once language names (f ∷ fs) (x ∷ xs) [] h k = absurd k
all_held_once language names (f ∷ fs) (x ∷ xs) (y ∷ ys) h k =
    ap₂ (λ c cs. c ∷ cs) (written_once language names f x y h.0.written k.0.written) (all_held_once language names fs xs ys h.1 k.1)

given_once : (language : Language) (names : List Alias) (files : List (List ℕ)) (aspects others : List (List Aspect)) (ks js : List Placed)
    → AllGive language names files aspects ks → AllGive language names files others js → (aspects ≡ others) × (ks ≡ js)
given_once language names files aspects others ks js h k =
    let same = all_held_once language names files h.contents k.contents h.hold k.hold in
    (h.aspects_are ∙ ap aspects_in same ∙ sym k.aspects_are, h.constants_are ∙ ap (constants_from 1) same ∙ sym k.constants_are)

pub rules_once : (language : Language) (ms ns : List Place) (ds es : Declarations) (files : List (List ℕ)) (rules others : Rules) → ms ≡ ns → ds ≡ es
    → GivesRules language ms ds files rules → GivesRules language ns es files others → rules ≡ others
rules_once language ms ns ds es files rules others marks same h k =
    let given = subst (λ (d : Declarations). AllGive language (aliases_in language (classes_of d)) files h.aspects h.constants) same h.given in
    let both = given_once language (aliases_in language (classes_of es)) files h.aspects k.aspects h.constants k.constants given k.given in
    let classes : planted_classes ms ds h.constants ≡ planted_classes ns es k.constants =
    ap₂ (λ (m : List Place) (d : Declarations). planted_classes m d h.constants) marks same ∙ ap (planted_classes ns es) both.1 in
    (made_builds language (planted_classes ms ds h.constants) h.aspects rules h.built).1 ∙ ap₂
    (λ c as'. rules_of (arguments_in language) c (located 1 (read_in language c as'))) classes both.0
    ∙ sym (made_builds language (planted_classes ns es k.constants) k.aspects others k.built).1

-- their classes have names of their own
pub given_apart : (language : Language) (marks : List Place) (ds : Declarations) (files : List (List ℕ)) (rules : Rules) → first_fault ds ≡ None
    → GivesRules language marks ds files rules → AreNamedApart rules.classes
given_apart language marks ds files rules faultless h =
    let made = (made_builds language (planted_classes marks ds h.constants) h.aspects rules h.built).1 in
    subst AreNamedApart (sym (ap (λ (r : Rules). r.classes) made)) (planted_apart marks ds h.constants faultless)

-- ---- the tree

some_of : {t u : Tree} → Some t ≡ Some u → t ≡ u
some_of e = cc

pub tree_once : (classes : Classes) (limit : ℕ) (bytes : List ℕ) (t u : Tree) → AreNamedApart classes
    → GivesTree classes limit bytes t → GivesTree classes limit bytes u → t ≡ u
tree_once classes limit bytes t u apart h k =
    let texts = inner_term bytes _ (term_of classes t) (without_newline bytes (term_of classes u) k.written) h.written in
    let terms = one_term_each (term_of classes t) (term_of classes u) h.written.0 k.written.0 texts in
    some_of (sym (conforms_shaped classes apart t 0 h.whole).0 ∙ ap (λ x. shaped classes x 0) terms ∙ (conforms_shaped classes apart u 0 k.whole).0)
