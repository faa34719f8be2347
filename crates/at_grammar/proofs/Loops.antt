-- How reading components, classes and files follows from reading their parts.
use Rattle.std.proofs.Common.{◌≡◌, ◌<◌, List, [], ◌∷◌, ◌++◌, Bool, true, false, cond, Option, Some, None, length, refl, sym, ap, ◌∙◌, append_assoc, length-append, arith, inl, inr}
use Rattle.std.specs.Prelude.{MatchOption}
use Rattle.std.specs.List.{flat_map}
use Rattle.std.proofs.lemmas.List.{append-nil}
use Rattle.std.proofs.lemmas.Grind.{flat_map-append}
use lib.Chars.{codes}
use Rattle.at_text.specs.Machine.{Reason, LeftOut, Refuses, LeavesOut, and_then, is_skip}
use Rattle.at_text.specs.Reading.{first, takes, skips, run}
use Rattle.at_text.specs.Symbols.{Symbol, word, sign, is_sign, is_word, is_name_next, symbols, words_keep}
use Rattle.at_text.specs.Rows as rows
use Rattle.at_text.proofs.ReadingLaws.{run-takes, run-skips, run-begins, leaves_here, stops_within, Many, all_push, all_append, one_more}
use Rattle.at_grammar.specs.Grammar as grammar
use Rattle.at_grammar.specs.Grammar.{Word, Typed, IsName, IsPart, AreParts, IsBody, IsDeclaration, IsFile, IfWritten, Declaration}
use Rattle.at_grammar.specs.Faults.{LeftOutOfParts}
use Rattle.at_grammar.specs.Table as want
use Rattle.at_grammar.specs.Table.{Want, table, name_answer, child_answer, part_answer, more_parts_answer, declaration_answer, mark_answer}
use Rattle.at_text.specs.declared.cursor.Cursor.{Cursor}
use Rattle.at_text.specs.declared.place.Place.{Place}
use Rattle.at_grammar.specs.Forms.{left, name, mark, kind, part, parts, body, modifier, declaration, file}
use Rattle.at_grammar.proofs.Paths.{Reads, Stops, Goes, on_never_skips}
use Rattle.at_grammar.proofs.Tokens.{same_left, next_word}

-- ---- { part } ";"

part_never_skips : (a b c : Bool) → is_skip {W = Want} (cond a (takes (want.Token ∷ [])) (cond b (takes
    (want.Optional ∷ [])) (and_then (and_then (cond c (takes []) Refuses) (want.Kind ∷ [])) (want.Star ∷ [])))) ≡ false
part_never_skips true b c = refl
part_never_skips false true c = refl
part_never_skips false false true = refl
part_never_skips false false false = refl

pub parts_begin : (ss : List Symbol) → is_sign (codes ";") (first ss) ≡ false → is_sign (codes "/") (first ss) ≡ false → Goes (want.Parts ∷ []) ss (want.Part ∷ want.Parts ∷ []) ss
unfolding table
parts_begin ss e f ws = run-begins table want.Parts want.Part (want.Parts ∷ []) ws ss
    (ap (λ b. cond b (takes []) (more_parts_answer (first ss))) e ∙ ap (λ b. cond b LeavesOut (and_then (part_answer (first ss)) (want.Parts ∷ []))) f)
    (part_never_skips (is_sign (codes "<") (first ss)) (is_sign (codes "[") (first ss)) (is_name_next (first ss)))

pub parts_end : (old mid rest : List Symbol) → (m : Many table part want.Parts old mid) → mid ≡ sign (codes ";") ∷ rest → Reads parts m.items old rest
unfolding table
parts_end old mid rest m e = record {
  is = m.are;
  text = m.text ∙ ap (λ l. flat_map grammar.part m.items ++ l) e ∙ sym (append_assoc (flat_map grammar.part m.items) (sign (codes ";") ∷ []) rest);
  goes = λ ws. m.goes ws ∙ ap (run table (want.Parts ∷ ws)) e ∙ run-takes table want.Parts [] ws (sign (codes ";")) rest refl;
}

-- components in front of others
more_parts_spelled : (ps us : List grammar.Part) → grammar.parts (ps ++ us) ≡ flat_map grammar.part ps ++ (grammar.parts us ++ [])
more_parts_spelled ps us = ap (λ l. l ++ sign (codes ";") ∷ []) (flat_map-append grammar.part ps us)
    ∙ append_assoc (flat_map grammar.part ps) (flat_map grammar.part us) (sign (codes ";") ∷ [])
    ∙ ap (λ l. flat_map grammar.part ps ++ l) (sym (append-nil (grammar.parts us)))

pub more_left_out : (ps : List grammar.Part) (front : List Symbol) (s : Option Symbol) → AreParts ps → LeftOutOfParts front s → LeftOutOfParts (flat_map grammar.part ps ++ front) s
more_left_out ps front s are h = (
  ps ++ h.0,
  h.1,
  all_append IsPart ps h.0 are h.2,
  ap (λ l. flat_map grammar.part ps ++ l) h.3 ∙ sym (append_assoc (flat_map grammar.part ps) (flat_map grammar.part h.0) h.1) ∙ ap (λ l. l ++ h.1) (sym (flat_map-append grammar.part ps h.0)),
  h.4,
)

pub parts_stop_behind : (q : Reason) (old mid rest : List Symbol) → Many table part want.Parts old mid → Stops parts q mid rest → Stops parts q old rest
parts_stop_behind q old mid rest m s = stops_within table parts parts q old mid rest (flat_map grammar.part m.items) [] (λ us. m.items ++ us) [] m.text m.goes
    (λ us are. all_append IsPart m.items us m.are are) (λ us. more_parts_spelled m.items us) (λ xs x h. more_left_out m.items xs x m.are h) s

parts_stop_first : (q : Reason) (old rest : List Symbol) → is_sign (codes ";") (first old) ≡ false → is_sign (codes "/") (first old) ≡ false → Stops part q old rest → Stops parts q old rest
parts_stop_first q old rest e f s = stops_within table part parts q old old rest [] (want.Parts ∷ []) (λ u. u ∷ []) (sign (codes ";") ∷ []) refl (parts_begin old e f)
    (λ u is. (is, tt)) (λ u. ap (λ l. l ++ sign (codes ";") ∷ []) (one_more grammar.part [] u)) (λ xs x h. ([], xs, tt, refl, inr h)) s

pub parts_stop : (q : Reason) (old mid rest : List Symbol) → Many table part want.Parts old mid → is_sign (codes ";")
    (first mid) ≡ false → is_sign (codes "/") (first mid) ≡ false → Stops part q mid rest → Stops parts q old rest
parts_stop q old mid rest m e f s = parts_stop_behind q old mid rest m (parts_stop_first q mid rest e f s)

slash_leaves : (old : List Symbol) → first old ≡ Some (sign (codes "/")) → Stops parts LeftOut old old
unfolding table
slash_leaves old e = leaves_here table parts [] old (sign (codes "/")) e tt refl ([], [], tt, refl, inl (refl, refl))

pub parts_leave : (old mid : List Symbol) → Many table part want.Parts old mid → first mid ≡ Some (sign (codes "/")) → Stops parts LeftOut old mid
parts_leave old mid m e = parts_stop_behind LeftOut old mid mid m (slash_leaves mid e)

-- a component takes a token
pub part_shorter : (p : grammar.Part) (old rest : List Symbol) → Reads part p old rest → length rest < length old
part_shorter (grammar.Child t) old rest r = let l = ap length r.text in omega (arith, length-append (grammar.kind t.kind) rest)
part_shorter (grammar.Children t) old rest r = let l = ap length r.text in omega (arith, length-append (grammar.kind t.kind ++ sign (codes "*") ∷ []) rest)
part_shorter (grammar.Optional t) old rest r = let l = ap length r.text in omega (arith, length-append (grammar.typed t ++ sign (codes "]") ∷ []) rest)
part_shorter (grammar.Token t) old rest r = let l = ap length r.text in omega (arith, length-append (grammar.typed t ++ sign (codes ">") ∷ []) rest)

-- ---- ["::=" { part }] ";"

body_goes : (old : List Symbol) → is_sign (codes ";") (first old) ≡ false → Goes (want.Body ∷ []) old (want.Mark (codes "::=") ∷ want.Parts ∷ []) old
unfolding table
body_goes old e ws = run-begins table want.Body (want.Mark (codes "::=")) (want.Parts ∷ []) ws old
    (ap (λ b. cond b (takes []) (and_then (mark_answer (codes "::=") (first old)) (want.Parts ∷ []))) e)
    (on_never_skips (is_sign (codes "::=") (first old)))

pub body_none : (old rest : List Symbol) → old ≡ sign (codes ";") ∷ rest → Reads body None old rest
unfolding table
body_none old rest e = record { is = tt; text = e; goes = λ ws. ap (run table (want.Body ∷ ws)) e ∙ run-takes table want.Body [] ws (sign (codes ";")) rest refl }

pub body_some : (ps : List grammar.Part) (old mid rest : List Symbol) → is_sign (codes ";") (first old) ≡ false
    → Reads (mark (codes "::=")) tt old mid → Reads parts ps mid rest → Reads body (Some ps) old rest
body_some ps old mid rest e m r = record { is = r.is; text = m.text ∙ ap (λ l. sign (codes "::=") ∷ l) r.text; goes = λ ws. body_goes old e ws ∙ m.goes (want.Parts ∷ ws) ∙ r.goes ws }

pub body_stops_mark : (q : Reason) (old rest : List Symbol) → is_sign (codes ";") (first old) ≡ false → Stops (mark (codes "::=")) q old rest → Stops body q old rest
body_stops_mark q old rest e s = stops_within table (mark (codes "::=")) body q old old rest [] (want.Parts ∷ [])
    (λ _. Some []) (sign (codes ";") ∷ []) refl (body_goes old e) (λ u is. tt) (λ u. refl) (λ xs x h. absurd h) s

pub body_stops_parts : (q : Reason) (old mid rest : List Symbol) → is_sign (codes ";") (first old) ≡ false → Reads (mark (codes "::=")) tt old mid → Stops parts q mid rest → Stops body q old rest
body_stops_parts q old mid rest e m s = stops_within table parts body q old mid rest (sign (codes "::=") ∷ []) []
    (λ ps. Some ps) [] m.text (λ ws. body_goes old e ws ∙ m.goes (want.Parts ∷ ws)) (λ u is. is)
    (λ u. ap (λ l. sign (codes "::=") ∷ l) (sym (append-nil (grammar.parts u)))) (λ xs x h. (xs, refl, h)) s

-- ---- ["abstract"]

pub modifier_none : (old rest : List Symbol) → rest ≡ old → is_word (codes "abstract") (first old) ≡ false → Reads modifier None old rest
unfolding table
modifier_none old rest same e = record { is = tt; text = sym same; goes = λ ws. run-skips table want.Modifier ws old (ap (λ b. cond b (takes []) skips) e) ∙ ap (run table ws) (sym same) }

pub modifier_some : (at : Place) (old rest : List Symbol) → old ≡ word (codes "abstract") at ∷ rest → Reads modifier (Some at) old rest
unfolding table
modifier_some at old rest e = record { is = tt; text = e; goes = λ ws. ap (run table (want.Modifier ∷ ws)) e ∙ run-takes table want.Modifier [] ws (word (codes "abstract") at) rest refl }

pub modifier_reads : (r : Option Place) (old new : Cursor)
    → MatchOption r ((new ≡ old) × (rows.next_is (rows.is_word (codes "abstract")) (rows.left old.rest.now) ≡ false))
    (λ at. rows.left old.rest.now ≡ rows.word (codes "abstract") at ∷ rows.left new.rest.now)
    → Reads modifier r (left old.rest.now) (left new.rest.now)
modifier_reads None old new h = modifier_none _ _ (same_left new old h.0) (sym (next_word (codes "abstract") (rows.left old.rest.now)) ∙ h.1)
modifier_reads (Some at) old new h = modifier_some at _ _ (ap (symbols words_keep) h)

-- ---- ["abstract"] name [":" name] ["::=" { part }] ";"

abbrev after_modifier : List Want → List Want
after_modifier ws = want.Name ∷ want.Kind ∷ want.Body ∷ ws

abstract_goes : (old : List Symbol) → is_word (codes "abstract") (first old) ≡ true → Goes (want.Declaration ∷ []) old (want.Modifier ∷ after_modifier []) old
unfolding table
abstract_goes [] e ws = absurd cc
abstract_goes (s ∷ ss) e ws =
    run-takes table want.Declaration (after_modifier []) ws s ss (ap (λ b. cond b (takes (after_modifier [])) (and_then (name_answer (Some s)) (want.Kind ∷ want.Body ∷ []))) e)
    ∙ sym (run-takes table want.Modifier [] (after_modifier ws) s ss (ap (λ b. cond b (takes []) skips) e))

plain_goes : (old : List Symbol) → is_word (codes "abstract") (first old) ≡ false → Goes (want.Declaration ∷ []) old (want.Modifier ∷ after_modifier []) old
unfolding table
plain_goes old e ws =
    run-begins table want.Declaration want.Name (want.Kind ∷ want.Body ∷ []) ws old
    (ap (λ b. cond b (takes (after_modifier [])) (and_then (name_answer (first old)) (want.Kind ∷ want.Body ∷ [])))
    e) (on_never_skips (is_name_next (first old)))
    ∙ sym (run-skips table want.Modifier (after_modifier ws) old (ap (λ b. cond b (takes []) skips) e))

goes_either : (b : Bool) (old : List Symbol) → is_word (codes "abstract") (first old) ≡ b → Goes (want.Declaration ∷ []) old (want.Modifier ∷ after_modifier []) old
goes_either true old e = abstract_goes old e
goes_either false old e = plain_goes old e

declaration_goes : (old : List Symbol) → Goes (want.Declaration ∷ []) old (want.Modifier ∷ after_modifier []) old
declaration_goes old = goes_either (is_word (codes "abstract") (first old)) old refl

-- a class's head, up to its components
pub record HeadRead (d : Declaration) (old rest : List Symbol) : Type 0 where
  pub named : IsName d.name
  pub below : IfWritten IsName d.parent
  pub text : old ≡ grammar.head d ++ rest
  pub goes : Goes (want.Declaration ∷ []) old (want.Body ∷ []) rest

abbrev pub head_of : Option Place → Word → Option Word → Declaration
head_of m n p = record { abstract_at = m; name = n; parent = p; parts = None }

pub head_read : (m : Option Place) (n : Word) (p : Option Word) (old a b rest : List Symbol) → Reads modifier m old a → Reads name n a b → Reads kind p b rest → HeadRead (head_of m n p) old rest
head_read m n p old a b rest x y z = record {
  named = y.is;
  below = z.is;
  text = x.text ∙ ap (λ l. grammar.modifier m ++ l) (y.text ∙ ap (λ l. grammar.name n ∷ l) z.text) ∙ sym (append_assoc (grammar.modifier m) (grammar.name n ∷ grammar.kind p) rest);
  goes = λ ws. declaration_goes old ws ∙ x.goes (after_modifier ws) ∙ y.goes (want.Kind ∷ want.Body ∷ ws) ∙ z.goes (want.Body ∷ ws);
}

pub declaration_reads : (m : Option Place) (n : Word) (p : Option Word) (b : Option (List grammar.Part))
    (old mid rest : List Symbol) → HeadRead (head_of m n p) old mid → Reads body b mid rest
    → Reads declaration (record { abstract_at = m; name = n; parent = p; parts = b }) old rest
declaration_reads m n p b old mid rest h r = record {
  is = (h.named, h.below, r.is);
  text = h.text ∙ ap (λ l. grammar.head (head_of m n p) ++ l) r.text ∙ sym (append_assoc (grammar.head (head_of m n p)) (grammar.body b) rest);
  goes = λ ws. h.goes ws ∙ r.goes ws;
}

pub declaration_stops_name : (m : Option Place) (q : Reason) (old a rest : List Symbol) → Reads modifier m old a → Stops name q a rest → Stops declaration q old rest
declaration_stops_name m q old a rest x s = stops_within table name declaration q old a rest (grammar.modifier m) (want.Kind ∷ want.Body ∷ []) (λ n. head_of m n None) (sign (codes ";") ∷ []) x.text
    (λ ws. declaration_goes old ws ∙ x.goes (after_modifier ws)) (λ u is. (is, tt, tt)) (λ u. append_assoc (grammar.modifier m) (grammar.name u ∷ []) (sign (codes ";") ∷ [])) (λ xs y h. absurd h) s

pub declaration_stops_parent : (m : Option Place) (n : Word) (q : Reason) (old a b rest : List Symbol) → Reads modifier m old a → Reads name n a b → Stops kind q b rest → Stops declaration q old rest
declaration_stops_parent m n q old a b rest x y s = stops_within table kind declaration q old b rest
    (grammar.modifier m ++ grammar.name n ∷ []) (want.Body ∷ []) (λ p. head_of m n p) (sign (codes ";") ∷ [])
    (x.text ∙ ap (λ l. grammar.modifier m ++ l) y.text ∙ sym (append_assoc (grammar.modifier m) (grammar.name n ∷ []) b))
    (λ ws. declaration_goes old ws ∙ x.goes (after_modifier ws) ∙ y.goes (want.Kind ∷ want.Body ∷ ws)) (λ u is. (y.is, is, tt)) (λ u. simp append_assoc) (λ xs z h. absurd h) s

pub declaration_stops_body : (m : Option Place) (n : Word) (p : Option Word) (q : Reason) (old mid rest : List Symbol)
    → HeadRead (head_of m n p) old mid → Stops body q mid rest → Stops declaration q old rest
declaration_stops_body m n p q old mid rest h s = stops_within table body declaration q old mid rest (grammar.head
    (head_of m n p)) [] (λ b. record { abstract_at = m; name = n; parent = p; parts = b }) [] h.text h.goes
    (λ u is. (h.named, h.below, is)) (λ u. ap (λ l. grammar.head (head_of m n p) ++ l) (sym (append-nil (grammar.body u))))
    (λ xs z k. (head_of m n p, k.0, (h.named, h.below, tt), ap (λ l. grammar.head (head_of m n p) ++ l) k.1, k.2)) s

-- ---- { decl }

declaration_never_skips : (a b : Bool) → is_skip {W = Want} (cond a (takes (after_modifier [])) (and_then (cond b (takes []) Refuses) (want.Kind ∷ want.Body ∷ []))) ≡ false
declaration_never_skips true b = refl
declaration_never_skips false true = refl
declaration_never_skips false false = refl

pub file_begins : (ss : List Symbol) → 0 < length ss → Goes (want.File ∷ []) ss (want.Declaration ∷ want.File ∷ []) ss
unfolding table
file_begins [] h ws = absurd (omega arith)
file_begins (s ∷ ss) h ws = run-begins table want.File want.Declaration (want.File ∷ []) ws (s ∷ ss) refl (declaration_never_skips (is_word (codes "abstract") (Some s)) (is_name_next (Some s)))

pub file_ends : (old mid : List Symbol) → (m : Many table declaration want.File old mid) → mid ≡ [] → Reads file m.items old mid
unfolding table
file_ends old mid m e = record { is = m.are; text = m.text; goes = λ ws. m.goes ws ∙ run-skips table want.File ws mid (ap (λ l. table want.File (first l)) e) }

pub file_stops : (q : Reason) (old mid rest : List Symbol) → (m : Many table declaration want.File old mid) → 0 < length mid → Stops declaration q mid rest → Stops file q old rest
file_stops q old mid rest m h s = stops_within table declaration file q old mid rest (flat_map grammar.declaration
    m.items) (want.File ∷ []) (λ u. m.items ++ u ∷ []) [] m.text (λ ws. m.goes ws ∙ file_begins mid h ws)
    (λ u is. all_push IsDeclaration m.items u m.are is) (λ u. one_more grammar.declaration m.items u ∙ ap (λ l. flat_map grammar.declaration m.items ++ l) (sym (append-nil (grammar.declaration u))))
    (λ xs x k. (m.items, k.0, k.1, m.are, k.2, ap (λ l. flat_map grammar.declaration m.items ++ l) k.3, k.4)) s

pub declaration_shorter : (d : Declaration) (old rest : List Symbol) → Reads declaration d old rest → length rest < length old
declaration_shorter d old rest r =
    let l = ap length r.text in
    omega (
      arith,
      length-append (grammar.declaration d) rest,
      length-append (grammar.head d) (grammar.body d.parts),
      length-append (grammar.modifier d.abstract_at) (grammar.name d.name ∷ grammar.kind d.parent),
    )
