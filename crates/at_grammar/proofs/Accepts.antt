-- What is spelled is taken whole, and what is left out is met.
use Rattle.std.proofs.Common.{◌≡◌, ℕ, ◌<◌, List, [], ◌∷◌, ◌++◌, Bool, true, false, cond, Option, Some, None, length, refl, sym, ap, subst, ◌∙◌, append_assoc, length-append, arith, inl, inr}
use Rattle.std.specs.List.{flat_map}
use Rattle.std.proofs.lemmas.List.{append-nil}
use Rattle.std.proofs.lemmas.Slice.Eq.{bytes_eq-Decides}
use Rattle.std.specs.Str.{bytes_eq}
use lib.Chars.{codes}
use Rattle.std.specs.Prelude.{not, chars}
use Rattle.at_model.specs.Names.{is_name, is_reserved, reserved_words}
use Rattle.at_model.specs.Names as names
use Rattle.at_model.proofs.Options.{and_off}
use Rattle.at_text.specs.Machine as machine
use Rattle.at_text.specs.Machine.{LeftOut, Refuses, and_then, Whole, Stuck}
use Rattle.at_text.specs.Reading.{first, takes, run}
use Rattle.at_text.specs.Symbols.{Symbol, sign, is_sign, is_word}
use Rattle.at_text.proofs.ReadingLaws.{run-takes, run-leaves_out, many_none}
use Rattle.at_text.specs.declared.place.Place.{Place}
use Rattle.at_grammar.specs.Grammar as grammar
use Rattle.at_grammar.specs.Grammar.{Word, Typed, IsName, IsTokenKind, IsTyped, IsToken, IsPart, AreParts, IsBody, IsDeclaration, IsFile, IfWritten, Declaration}
use Rattle.at_grammar.specs.Faults.{GoesOnKind, LeftOutOfParts, IsLeftOut}
use Rattle.at_grammar.specs.Table as want
use Rattle.at_grammar.specs.Table.{Want, table}
use Rattle.at_grammar.specs.Forms.{name, kind, typed, child, optional, token_kind, token, part, parts, body, modifier, declaration}
use Rattle.at_grammar.proofs.Paths.{Reads, Goes, reads_mark, reads_name, reads_kind_name, kind_none, kind_some, typed_reads, child_reads, children_reads, optional_reads, close_reads, token_kind_none, before_kind, token_kind_some, token_reads, part_token, part_optional, part_child}
use Rattle.at_grammar.proofs.Loops.{parts_begin, parts_end, body_none, body_some, modifier_none, modifier_some, head_read, HeadRead, head_of, declaration_reads, file_begins}

-- ---- the forms of components

kind_spelled : (k : Option Word) (more : List Symbol) → IfWritten IsName k → is_sign (codes ":") (first more) ≡ false → Reads kind k (grammar.kind k ++ more) more
kind_spelled None more is e = kind_none more more refl e
kind_spelled (Some k) more is e = kind_some k _ (grammar.name k ∷ more) more refl (reads_name k _ more refl is)

typed_spelled : (t : Typed) (more : List Symbol) → IsTyped t → is_sign (codes ":") (first more) ≡ false → Reads typed t (grammar.typed t ++ more) more
typed_spelled t more is e = typed_reads t.name t.kind _ (grammar.kind t.kind ++ more) more (reads_name t.name _ (grammar.kind t.kind ++ more) refl is.0) (kind_spelled t.kind more is.1 e)

token_kind_spelled : (k : Option Word) (more : List Symbol) → IfWritten IsTokenKind k → Reads token_kind k ((grammar.kind k ++ sign (codes ">") ∷ []) ++ more) more
token_kind_spelled None more is = token_kind_none _ more refl
token_kind_spelled (Some k) more is =
    token_kind_some k _ (grammar.name k ∷ sign (codes ">") ∷ more) (sign (codes ">") ∷ more) more
    (before_kind _ _ refl (reads_mark (codes ":") _ _ refl)) (reads_kind_name k _ _ refl is) (close_reads _ more refl refl (reads_mark (codes ">") _ more refl))

token_spelled : (t : Typed) (more : List Symbol) → IsToken t → Reads token t ((grammar.typed t ++ sign (codes ">") ∷ []) ++ more) more
token_spelled t more is = token_reads t.name t.kind _ _ more (reads_name t.name _ _ refl is.0) (token_kind_spelled t.kind more is.1)

-- what stands behind a component begins neither a kind nor a list
abbrev pub Follows : List Symbol → Type 0
Follows more = (is_sign (codes ":") (first more) ≡ false) × (is_sign (codes "*") (first more) ≡ false)

part_spelled : (p : grammar.Part) (more : List Symbol) → IsPart p → Follows more → Reads part p (grammar.part p ++ more) more
part_spelled (grammar.Child t) more is f = part_child (grammar.Child t) _ more refl refl (child_reads t _ more more (typed_spelled t more is f.0) refl f.1)
part_spelled (grammar.Children t) more is f =
    let r = typed_spelled t (sign (codes "*") ∷ more) is refl in
    let e : (grammar.typed t ++ sign (codes "*") ∷ []) ++ more ≡ grammar.typed t ++ sign (codes "*") ∷ more = append_assoc (grammar.typed t) (sign (codes "*") ∷ []) more in
    part_child (grammar.Children t) _ more refl refl (subst (λ (x : List Symbol). Reads child (grammar.Children t) x more) (sym e) (children_reads t _ _ more r refl))
part_spelled (grammar.Optional t) more is f =
    let r = typed_spelled t (sign (codes "]") ∷ more) is refl in
    let e : (grammar.typed t ++ sign (codes "]") ∷ []) ++ more ≡ grammar.typed t ++ sign (codes "]") ∷ more = append_assoc (grammar.typed t) (sign (codes "]") ∷ []) more in
    part_optional t _ ((grammar.typed t ++ sign (codes "]") ∷ []) ++ more) more refl (subst (λ (x : List Symbol).
    Reads optional t x more) (sym e) (optional_reads t _ _ more r (reads_mark (codes "]") _ more refl)))
part_spelled (grammar.Token t) more is f = part_token t _ ((grammar.typed t ++ sign (codes ">") ∷ []) ++ more) more refl (token_spelled t more is)

-- ---- components

-- components are followed by others
pub follows_parts : (ps : List grammar.Part) (more : List Symbol) → Follows more → Follows (flat_map grammar.part ps ++ more)
follows_parts [] more f = f
follows_parts (grammar.Child t ∷ ps) more f = (refl, refl)
follows_parts (grammar.Children t ∷ ps) more f = (refl, refl)
follows_parts (grammar.Optional t ∷ ps) more f = (refl, refl)
follows_parts (grammar.Token t ∷ ps) more f = (refl, refl)

pub no_end : (p : grammar.Part) (more : List Symbol) → (is_sign (codes ";") (first (grammar.part p ++ more)) ≡ false) × (is_sign (codes "/") (first (grammar.part p ++ more)) ≡ false)
no_end (grammar.Child t) more = (refl, refl)
no_end (grammar.Children t) more = (refl, refl)
no_end (grammar.Optional t) more = (refl, refl)
no_end (grammar.Token t) more = (refl, refl)

-- whole components are taken, and more of them are wanted
parts_go : (ps : List grammar.Part) (more : List Symbol) → AreParts ps → Follows more → Goes (want.Parts ∷ []) (flat_map grammar.part ps ++ more) (want.Parts ∷ []) more
parts_go [] more is f ws = refl
parts_go (p ∷ ps) more is f ws =
    let rest = flat_map grammar.part ps ++ more in
    let text : flat_map grammar.part (p ∷ ps) ++ more ≡ grammar.part p ++ rest = simp append_assoc in
    let none = no_end p rest in
    ap (run table (want.Parts ∷ ws)) text ∙ parts_begin (grammar.part p ++ rest) none.0 none.1 ws
    ∙ (part_spelled p rest is.0 (follows_parts ps more f)).goes (want.Parts ∷ ws) ∙ parts_go ps more is.1 f ws

pub parts_spelled : (ps : List grammar.Part) (more : List Symbol) → AreParts ps → Reads parts ps (grammar.parts ps ++ more) more
parts_spelled ps more is =
    let text : grammar.parts ps ++ more ≡ flat_map grammar.part ps ++ sign (codes ";") ∷ more = append_assoc (flat_map grammar.part ps) (sign (codes ";") ∷ []) more in
    record {
      is = is;
      text = refl;
      goes = λ ws. ap (run table (want.Parts ∷ ws)) text ∙ parts_go ps (sign (codes ";") ∷ more) is (refl, refl) ws
          ∙ (parts_end _ (sign (codes ";") ∷ more) more (many_none table part want.Parts _) refl).goes ws;
    }

body_spelled : (b : Option (List grammar.Part)) (more : List Symbol) → IsBody b → Reads body b (grammar.body b ++ more) more
body_spelled None more is = body_none _ more refl
body_spelled (Some ps) more is = body_some ps _ (grammar.parts ps ++ more) more refl (reads_mark (codes "::=") _ _ refl) (parts_spelled ps more is)

-- ---- classes

-- no name is the word `abstract`
pub abstract_is_no_name : is_name (codes "abstract") ≡ false
unfolding reserved_words
abstract_is_no_name = and_off (names.is_word (chars (codes "abstract"))) (not (is_reserved (codes "abstract"))) refl

differs : (b : Bool) (text : List ℕ) → is_name text ≡ true → bytes_eq text (codes "abstract") ≡ b → b ≡ false
differs false text is e = refl
differs true text is e =
    let same : text ≡ codes "abstract" = (bytes_eq-Decides text (codes "abstract")).0 e in
    absurd (let q : true ≡ false = sym is ∙ ap is_name same ∙ abstract_is_no_name in cc)

no_name_is_abstract : (text : List ℕ) → is_name text ≡ true → bytes_eq text (codes "abstract") ≡ false
no_name_is_abstract text is = differs (bytes_eq text (codes "abstract")) text is refl

modifier_spelled : (m : Option Place) (more : List Symbol) → is_word (codes "abstract") (first more) ≡ false → Reads modifier m (grammar.modifier m ++ more) more
modifier_spelled None more e = modifier_none _ more refl e
modifier_spelled (Some at) more e = modifier_some at _ more refl

head_spelled : (m : Option Place) (n : Word) (p : Option Word) (more : List Symbol) → IsName n → IfWritten IsName p
    → is_sign (codes ":") (first more) ≡ false → HeadRead (head_of m n p) (grammar.head (head_of m n p) ++ more) more
head_spelled m n p more is below e =
    let text : grammar.head (head_of m n p) ++ more ≡ grammar.modifier m ++ (grammar.name n ∷ (grammar.kind p ++ more)) = append_assoc (grammar.modifier m) (grammar.name n ∷ grammar.kind p) more in
    subst (λ (x : List Symbol). HeadRead (head_of m n p) x more) (sym text)
    (head_read m n p _ (grammar.name n ∷ (grammar.kind p ++ more)) (grammar.kind p ++ more) more
    (modifier_spelled m _ (no_name_is_abstract n.text is)) (reads_name n _ _ refl is) (kind_spelled p more below e))

pub no_colon : (b : Option (List grammar.Part)) (more : List Symbol) → is_sign (codes ":") (first (grammar.body b ++ more)) ≡ false
no_colon None more = refl
no_colon (Some ps) more = refl

pub declaration_spelled : (d : Declaration) (more : List Symbol) → IsDeclaration d → Reads declaration d (grammar.declaration d ++ more) more
declaration_spelled d more is =
    let text : grammar.declaration d ++ more ≡ grammar.head d ++ (grammar.body d.parts ++ more) = append_assoc (grammar.head d) (grammar.body d.parts) more in
    subst (λ (x : List Symbol). Reads declaration d x more) (sym text)
    (declaration_reads d.abstract_at d.name d.parent d.parts _ (grammar.body d.parts ++ more) more (head_spelled
    d.abstract_at d.name d.parent _ is.0 is.1 (no_colon d.parts more)) (body_spelled d.parts more is.2))

-- ---- files

file_goes_on : (d : Declaration) (more : List Symbol) → 0 < length (grammar.head d ++ more)
file_goes_on d more = omega (arith, length-append (grammar.head d) more, length-append (grammar.modifier d.abstract_at) (grammar.name d.name ∷ grammar.kind d.parent))

-- whole declarations are taken, and more of them are wanted
pub file_goes : (ds : List Declaration) (more : List Symbol) → IsFile ds → Goes (want.File ∷ []) (grammar.file ds ++ more) (want.File ∷ []) more
file_goes [] more is ws = refl
file_goes (d ∷ ds) more is ws =
    let rest = grammar.file ds ++ more in
    let text : grammar.file (d ∷ ds) ++ more ≡ grammar.declaration d ++ rest = simp append_assoc in
    let some : 0 < length (grammar.declaration d ++ rest) = omega (arith, file_goes_on d (grammar.body d.parts ++ rest), ap length (append_assoc (grammar.head d) (grammar.body d.parts) rest)) in
    ap (run table (want.File ∷ ws)) text ∙ file_begins (grammar.declaration d ++ rest) some ws ∙ (declaration_spelled d rest is.0).goes (want.File ∷ ws) ∙ file_goes ds more is.1 ws

ends_whole : run table (want.File ∷ []) [] ≡ Whole
unfolding machine.run table
ends_whole = refl

pub file_taken : (ds : List Declaration) → IsFile ds → run table (want.File ∷ []) (grammar.file ds) ≡ Whole
file_taken ds is = ap (run table (want.File ∷ [])) (sym (append-nil (grammar.file ds))) ∙ file_goes ds [] is [] ∙ ends_whole

-- ---- what is left out

-- a token's kind that goes on
kind_met : (s : Symbol) (rest : List Symbol) (ws : List Want) → GoesOnKind (Some s) → run table (want.Close ∷ ws) (s ∷ rest) ≡ Stuck LeftOut (s ∷ rest)
unfolding table
kind_met s rest ws (inl e) = run-leaves_out table want.Close ws s rest (ap (λ x. table want.Close x) e)
kind_met s rest ws (inr e) = run-leaves_out table want.Close ws s rest (ap (λ x. table want.Close x) e)

more_kind_met : (rest : List Symbol) (ws : List Want) → GoesOnKind (first rest) → run table (want.Close ∷ ws) rest ≡ Stuck LeftOut rest
more_kind_met [] ws (inl e) = absurd cc
more_kind_met [] ws (inr e) = absurd cc
more_kind_met (s ∷ rest) ws h = kind_met s rest ws h

token_met : (name kind : Word) (rest : List Symbol) (ws : List Want) → IsName name → IsTokenKind kind
    → GoesOnKind (first rest) → run table (want.Parts ∷ ws)
    (sign (codes "<") ∷ grammar.name name ∷ sign (codes ":") ∷ grammar.name kind ∷ rest) ≡ Stuck LeftOut rest
unfolding table
token_met name kind rest ws is isk h =
    parts_begin (sign (codes "<") ∷ grammar.name name ∷ sign (codes ":") ∷ grammar.name kind ∷ rest) refl refl ws
    ∙ run-takes table want.Part (want.Token ∷ []) (want.Parts ∷ ws) (sign (codes "<")) (grammar.name name ∷ sign (codes ":") ∷ grammar.name kind ∷ rest) refl
    ∙ run-takes table want.Token (want.TokenKind ∷ []) (want.Parts ∷ ws) (grammar.name name) (sign (codes ":") ∷
    grammar.name kind ∷ rest) (ap (λ b. and_then (cond b (takes []) Refuses) (want.TokenKind ∷ [])) is)
    ∙ run-takes table want.TokenKind (want.KindName ∷ want.Close ∷ []) (want.Parts ∷ ws) (sign (codes ":")) (grammar.name kind ∷ rest) refl
    ∙ run-takes table want.KindName [] (want.Close ∷ want.Parts ∷ ws) (grammar.name kind) rest (ap (λ b. cond b (takes []) Refuses) isk)
    ∙ more_kind_met rest (want.Parts ∷ ws) h

slash_met : (rest : List Symbol) (ws : List Want) → first rest ≡ Some (sign (codes "/")) → run table (want.Parts ∷ ws) rest ≡ Stuck LeftOut rest
unfolding table
slash_met [] ws e = absurd cc
slash_met (s ∷ rest) ws e = run-leaves_out table want.Parts ws s rest (ap (λ x. table want.Parts x) e)

slash_follows : (rest : List Symbol) → first rest ≡ Some (sign (codes "/")) → Follows rest
slash_follows rest e = (ap (is_sign (codes ":")) e, ap (is_sign (codes "*")) e)

parts_met : (front rest : List Symbol) (ws : List Want) → LeftOutOfParts front (first rest) → run table (want.Parts ∷ ws) (front ++ rest) ≡ Stuck LeftOut rest
parts_met front rest ws (ps, more, are, e, inl h) =
    let text : front ++ rest ≡ flat_map grammar.part ps ++ rest = ap (λ l. l ++ rest) (e ∙ ap (λ l. flat_map grammar.part ps ++ l) h.0 ∙ append-nil (flat_map grammar.part ps)) in
    ap (run table (want.Parts ∷ ws)) text ∙ parts_go ps rest are (slash_follows rest h.1) ws ∙ slash_met rest ws h.1
parts_met front rest ws (ps, more, are, e, inr h) =
    let t = h.0 in
    let behind = sign (codes "<") ∷ grammar.name t.0 ∷ sign (codes ":") ∷ grammar.name t.1 ∷ rest in
    let text : front ++ rest ≡ flat_map grammar.part ps ++ behind =
    ap (λ l. l ++ rest) (e ∙ ap (λ l. flat_map grammar.part ps ++ l) t.4) ∙ append_assoc (flat_map grammar.part ps)
    (sign (codes "<") ∷ grammar.name t.0 ∷ sign (codes ":") ∷ grammar.name t.1 ∷ []) rest in
    ap (run table (want.Parts ∷ ws)) text ∙ parts_go ps behind are (refl, refl) ws ∙ token_met t.0 t.1 rest ws t.2 t.3 h.1

body_met : (more rest : List Symbol) (ws : List Want) → LeftOutOfParts more (first rest) → run table (want.Body ∷ ws) (sign (codes "::=") ∷ (more ++ rest)) ≡ Stuck LeftOut rest
unfolding table
body_met more rest ws h = run-takes table want.Body (want.Parts ∷ []) ws (sign (codes "::=")) (more ++ rest) refl ∙ parts_met more rest ws h

pub left_out_met : (front rest : List Symbol) → IsLeftOut front (first rest) → run table (want.File ∷ []) (front ++ rest) ≡ Stuck LeftOut rest
left_out_met front rest (ds, d, more, are, is, e, h) =
    let behind = sign (codes "::=") ∷ (more ++ rest) in
    let text : front ++ rest ≡ grammar.file ds ++ (grammar.head d ++ behind) = ap (λ l. l ++ rest) e ∙ simp append_assoc in
    let head = head_spelled d.abstract_at d.name d.parent behind is.0 is.1 refl in
    ap (run table (want.File ∷ [])) text ∙ file_goes ds (grammar.head d ++ behind) are [] ∙ file_begins (grammar.head d
    ++ behind) (file_goes_on d behind) [] ∙ head.goes (want.File ∷ []) ∙ body_met more rest (want.File ∷ []) h
