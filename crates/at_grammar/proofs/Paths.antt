-- How reading a form of the grammar follows from reading its parts.
use Rattle.std.proofs.Common.{◌≡◌, ℕ, List, [], ◌∷◌, ◌++◌, Bool, true, false, cond, Option, Some, None, refl, sym, ap, ◌∙◌, append_assoc, inl, inr}
use Rattle.std.specs.Prelude.{◌||◌, ◌⊎◌}
use Rattle.std.specs.Str.{bytes_eq}
use Rattle.std.proofs.lemmas.Slice.Eq.{bytes_eq-Decides}
use Rattle.std.proofs.lemmas.List.{append-nil}
use lib.Chars.{codes}
use Rattle.at_model.specs.Names.{is_name}
use Rattle.at_text.specs.Machine.{Reason, Refused, LeftOut, Answer, Takes, Skips, Refuses, LeavesOut, and_then, is_skip}
use Rattle.at_text.specs.Reading.{first, takes, skips, Form, run}
use Rattle.at_text.specs.Reading as reading
use Rattle.at_text.specs.Symbols.{Symbol, sign, is_sign, is_name_next}
use Rattle.at_text.proofs.SomeName.{is_some_name}
use Rattle.at_text.proofs.ReadingLaws.{run-takes, run-skips, run-same, run-begins, stops_here, leaves_here, stops_within}
use Rattle.at_text.specs.Place.{first_place}
use Rattle.at_grammar.specs.Grammar as grammar
use Rattle.at_grammar.specs.Grammar.{Word, Typed, IsName, IsTokenKind, IsPart, IfWritten, is_token_kind, is_basic_kind, Declaration}
use Rattle.at_grammar.specs.Table as want
use Rattle.at_grammar.specs.Table.{Want, table, is_kind_next, name_answer, child_answer, part_answer, typed_answer, mark_answer}
use Rattle.at_grammar.specs.Forms.{name, kind_name, mark, kind, typed, child, optional, close, token_kind, token, part, IsChild}

abbrev pub Reads : {V : Type 0} → Form Symbol Want V → V → List Symbol → List Symbol → Type 0
Reads form v old rest = reading.Reads table form v old rest

abbrev pub Stops : {V : Type 0} → Form Symbol Want V → Reason → List Symbol → List Symbol → Type 0
Stops form r old rest = reading.Stops table form r old rest

-- wanting these at old comes to wanting those at mid, whatever is wanted behind them
abbrev pub Goes : List Want → List Symbol → List Want → List Symbol → Type 0
Goes us old vs mid = (ws : List Want) → run table (us ++ ws) old ≡ run table (vs ++ ws) mid

-- ---- tokens

same_bytes : (text : List ℕ) → bytes_eq text text ≡ true
same_bytes text = (bytes_eq-Decides text text).1 refl

pub reads_mark : (text : List ℕ) (old rest : List Symbol) → old ≡ sign text ∷ rest → Reads (mark text) tt old rest
unfolding table
reads_mark text old rest e = record {
  is = tt;
  text = e;
  goes = λ ws. ap (run table (want.Mark text ∷ ws)) e
      ∙ run-takes table (want.Mark text) [] ws (sign text) rest (ap (λ b. cond b (takes []) Refuses) (same_bytes text));
}

pub stops_mark : (text : List ℕ) (old rest : List Symbol) → rest ≡ old → is_sign text (first old) ≡ false → Stops (mark text) Refused old rest
unfolding table
stops_mark text old rest same e = rw same (stops_here table (mark text) tt old tt (ap (λ b. cond b (takes []) Refuses) e))

-- a name, to complete what was read
some_name : Word
some_name = record { text = codes "_"; at = first_place }

pub reads_name : (w : Word) (old rest : List Symbol) → old ≡ grammar.name w ∷ rest → IsName w → Reads name w old rest
unfolding table
reads_name w old rest e is = record {
  is = is;
  text = e;
  goes = λ ws. ap (run table (want.Name ∷ ws)) e
      ∙ run-takes table want.Name [] ws (grammar.name w) rest (ap (λ b. cond b (takes []) Refuses) is);
}

pub stops_name : (old rest : List Symbol) → rest ≡ old → is_name_next (first old) ≡ false → Stops name Refused old rest
unfolding table some_name
stops_name old rest same e = rw same (stops_here table name some_name old is_some_name (ap (λ b. cond b (takes []) Refuses) e))

pub reads_kind_name : (w : Word) (old rest : List Symbol) → old ≡ grammar.name w ∷ rest → IsTokenKind w → Reads kind_name w old rest
unfolding table
reads_kind_name w old rest e is = record {
  is = is;
  text = e;
  goes = λ ws. ap (run table (want.KindName ∷ ws)) e
      ∙ run-takes table want.KindName [] ws (grammar.name w) rest (ap (λ b. cond b (takes []) Refuses) is);
}

either : (a b : Bool) → a ≡ true → a || b ≡ true
either a b e = ap (λ x. x || b) e

some_name_is_kind : IsTokenKind some_name
unfolding some_name
some_name_is_kind = either (is_name (codes "_")) (is_basic_kind (codes "_")) is_some_name

pub stops_kind_name : (old rest : List Symbol) → rest ≡ old → is_kind_next (first old) ≡ false → Stops kind_name Refused old rest
unfolding table some_name
stops_kind_name old rest same e = rw same (stops_here table kind_name some_name old some_name_is_kind (ap (λ b. cond b (takes []) Refuses) e))

-- ---- [":" name]

pub kind_none : (old rest : List Symbol) → rest ≡ old → is_sign (codes ":") (first old) ≡ false → Reads kind None old rest
unfolding table
kind_none old rest same e = record { is = tt; text = sym same; goes = λ ws. run-skips table want.Kind ws old (ap (λ b. cond b (takes (want.Name ∷ [])) skips) e) ∙ ap (run table ws) (sym same) }

kind_goes : (old mid : List Symbol) → old ≡ sign (codes ":") ∷ mid → Goes (want.Kind ∷ []) old (want.Name ∷ []) mid
unfolding table
kind_goes old mid e ws = ap (run table (want.Kind ∷ ws)) e ∙ run-takes table want.Kind (want.Name ∷ []) ws (sign (codes ":")) mid refl

pub kind_some : (k : Word) (old mid rest : List Symbol) → old ≡ sign (codes ":") ∷ mid → Reads name k mid rest → Reads kind (Some k) old rest
kind_some k old mid rest e r = record { is = r.is; text = e ∙ ap (λ l. sign (codes ":") ∷ l) r.text; goes = λ ws. kind_goes old mid e ws ∙ r.goes ws }

pub kind_stops : (q : Reason) (old mid rest : List Symbol) → old ≡ sign (codes ":") ∷ mid → Stops name q mid rest → Stops kind q old rest
kind_stops q old mid rest e s = stops_within table name kind q old mid rest (sign (codes ":") ∷ []) [] (λ k. Some k) [] e (kind_goes old mid e) (λ u is. is) (λ u. refl) (λ xs x h. h) s

-- ---- name [":" name]

pub on_never_skips : (b : Bool) → is_skip {W = Want} (cond b (takes []) Refuses) ≡ false
on_never_skips true = refl
on_never_skips false = refl

pub and_then_never_skips : (a : Answer Want) (us : List Want) → is_skip (and_then a us) ≡ false
and_then_never_skips (Takes within vs d) us = refl
and_then_never_skips (Skips d) us = refl
and_then_never_skips Refuses us = refl
and_then_never_skips LeavesOut us = refl

typed_goes : (old : List Symbol) → Goes (want.Typed ∷ []) old (want.Name ∷ want.Kind ∷ []) old
unfolding table
typed_goes old ws = run-begins table want.Typed want.Name (want.Kind ∷ []) ws old refl (on_never_skips (is_name_next (first old)))

pub typed_reads : (n : Word) (k : Option Word) (old mid rest : List Symbol) → Reads name n old mid → Reads kind k mid rest → Reads typed (record { name = n; kind = k }) old rest
typed_reads n k old mid rest a b = record { is = (a.is, b.is); text = a.text ∙ ap (λ l. grammar.name n ∷ l) b.text; goes = λ ws. typed_goes old ws ∙ a.goes (want.Kind ∷ ws) ∙ b.goes ws }

pub typed_stops_name : (q : Reason) (old rest : List Symbol) → Stops name q old rest → Stops typed q old rest
typed_stops_name q old rest s = stops_within table name typed q old old rest [] (want.Kind ∷ [])
    (λ n. record { name = n; kind = None }) [] refl (typed_goes old) (λ u is. (is, tt)) (λ u. refl) (λ xs x h. h) s

pub typed_stops_kind : (n : Word) (q : Reason) (old mid rest : List Symbol) → Reads name n old mid → Stops kind q mid rest → Stops typed q old rest
typed_stops_kind n q old mid rest a s = stops_within table kind typed q old mid rest (grammar.name n ∷ []) []
    (λ k. record { name = n; kind = k }) [] a.text (λ ws. typed_goes old ws ∙ a.goes (want.Kind ∷ ws))
    (λ u is. (a.is, is)) (λ u. ap (λ l. grammar.name n ∷ l) (sym (append-nil (grammar.kind u)))) (λ xs x h. h) s

-- ---- name [":" name] ["*"]

child_goes : (old : List Symbol) → Goes (want.Child ∷ []) old (want.Typed ∷ want.Star ∷ []) old
unfolding table
child_goes old ws = run-begins table want.Child want.Typed (want.Star ∷ []) ws old refl (and_then_never_skips (name_answer (first old)) (want.Kind ∷ []))

star_skips : (mid : List Symbol) (ws : List Want) → is_sign (codes "*") (first mid) ≡ false → run table (want.Star ∷ ws) mid ≡ run table ws mid
unfolding table
star_skips mid ws e = run-skips table want.Star ws mid (ap (λ b. cond b (takes []) skips) e)

star_takes : (mid rest : List Symbol) (ws : List Want) → mid ≡ sign (codes "*") ∷ rest → run table (want.Star ∷ ws) mid ≡ run table ws rest
unfolding table
star_takes mid rest ws e = ap (run table (want.Star ∷ ws)) e ∙ run-takes table want.Star [] ws (sign (codes "*")) rest refl

pub child_reads : (t : Typed) (old mid rest : List Symbol) → Reads typed t old mid → rest ≡ mid → is_sign (codes "*") (first mid) ≡ false → Reads child (grammar.Child t) old rest
child_reads t old mid rest a same e = record {
  is = a.is;
  text = a.text ∙ ap (λ l. grammar.typed t ++ l) (sym same);
  goes = λ ws. child_goes old ws ∙ a.goes (want.Star ∷ ws) ∙ star_skips mid ws e ∙ ap (run table ws) (sym same);
}

pub children_reads : (t : Typed) (old mid rest : List Symbol) → Reads typed t old mid → mid ≡ sign (codes "*") ∷ rest → Reads child (grammar.Children t) old rest
children_reads t old mid rest a e = record {
  is = a.is;
  text = a.text ∙ ap (λ l. grammar.typed t ++ l) e ∙ sym (append_assoc (grammar.typed t) (sign (codes "*") ∷ []) rest);
  goes = λ ws. child_goes old ws ∙ a.goes (want.Star ∷ ws) ∙ star_takes mid rest ws e;
}

pub child_stops : (q : Reason) (old rest : List Symbol) → Stops typed q old rest → Stops child q old rest
child_stops q old rest s = stops_within table typed child q old old rest [] (want.Star ∷ []) (λ t. grammar.Child t) []
    refl (child_goes old) (λ u is. is) (λ u. sym (append-nil (grammar.typed u))) (λ xs x h. h) s

-- ---- name [":" name] "]"

optional_goes : (old : List Symbol) → Goes (want.Optional ∷ []) old (want.Typed ∷ want.Mark (codes "]") ∷ []) old
unfolding table
optional_goes old ws = run-begins table want.Optional want.Typed (want.Mark (codes "]") ∷ []) ws old refl (and_then_never_skips (name_answer (first old)) (want.Kind ∷ []))

pub optional_reads : (t : Typed) (old mid rest : List Symbol) → Reads typed t old mid → Reads (mark (codes "]")) tt mid rest → Reads optional t old rest
optional_reads t old mid rest a m = record {
  is = a.is;
  text = a.text ∙ ap (λ l. grammar.typed t ++ l) m.text ∙ sym (append_assoc (grammar.typed t) (sign (codes "]") ∷ []) rest);
  goes = λ ws. optional_goes old ws ∙ a.goes (want.Mark (codes "]") ∷ ws) ∙ m.goes ws;
}

pub optional_stops_typed : (q : Reason) (old rest : List Symbol) → Stops typed q old rest → Stops optional q old rest
optional_stops_typed q old rest s = stops_within table typed optional q old old rest [] (want.Mark (codes "]") ∷ [])
    (λ t. t) (sign (codes "]") ∷ []) refl (optional_goes old) (λ u is. is) (λ u. refl) (λ xs x h. h) s

pub optional_stops_mark : (t : Typed) (q : Reason) (old mid rest : List Symbol) → Reads typed t old mid → Stops (mark (codes "]")) q mid rest → Stops optional q old rest
optional_stops_mark t q old mid rest a s = stops_within table (mark (codes "]")) optional q old mid rest
    (grammar.typed t) [] (λ _. t) [] a.text (λ ws. optional_goes old ws ∙ a.goes (want.Mark (codes "]") ∷ ws))
    (λ u is. a.is) (λ u. refl) (λ xs x h. h) s

-- ---- ">" behind a token's kind

close_goes : (old : List Symbol) → is_sign (codes ".") (first old) ≡ false → is_sign (codes "<") (first old) ≡ false → Goes (want.Close ∷ []) old (want.Mark (codes ">") ∷ []) old
unfolding table
close_goes old d l ws = run-same table want.Close (want.Mark (codes ">")) ws old
    (ap (λ b. cond (b || is_sign (codes "<") (first old)) LeavesOut (mark_answer (codes ">") (first old))) d
    ∙ ap (λ b. cond b LeavesOut (mark_answer (codes ">") (first old))) l)

pub close_reads : (old rest : List Symbol) → is_sign (codes ".") (first old) ≡ false → is_sign (codes "<") (first old) ≡ false → Reads (mark (codes ">")) tt old rest → Reads close tt old rest
close_reads old rest d l m = record { is = tt; text = m.text; goes = λ ws. close_goes old d l ws ∙ m.goes ws }

pub close_stops : (q : Reason) (old rest : List Symbol) → is_sign (codes ".") (first old) ≡ false
    → is_sign (codes "<") (first old) ≡ false → Stops (mark (codes ">")) q old rest → Stops close q old rest
close_stops q old rest d l s = stops_within table (mark (codes ">")) close q old old rest [] [] (λ u. u) [] refl (close_goes old d l) (λ u is. tt) (λ u. refl) (λ xs x h. absurd h) s

pub close_leaves : (text : List ℕ) (old rest : List Symbol) → rest ≡ old → first old ≡ Some (sign text) → (text ≡ codes ".") ⊎ (text ≡ codes "<") → Stops close LeftOut old rest
unfolding table
close_leaves text old rest same e (inl f) =
    let g : first old ≡ Some (sign (codes ".")) = e ∙ ap (λ t. Some (sign t)) f in
    rw same (leaves_here table close tt old (sign (codes ".")) g tt refl (refl, inl refl))
close_leaves text old rest same e (inr f) =
    let g : first old ≡ Some (sign (codes "<")) = e ∙ ap (λ t. Some (sign t)) f in
    rw same (leaves_here table close tt old (sign (codes "<")) g tt refl (refl, inr refl))

-- ---- [":" kind] ">" behind a token's name

token_kind_goes : (old : List Symbol) → is_sign (codes ">") (first old) ≡ false → Goes (want.TokenKind ∷ []) old (want.Mark (codes ":") ∷ want.KindName ∷ want.Close ∷ []) old
unfolding table
token_kind_goes old e ws = run-begins table want.TokenKind (want.Mark (codes ":")) (want.KindName ∷ want.Close ∷ []) ws
    old (ap (λ b. cond b (takes []) (and_then (mark_answer (codes ":") (first old)) (want.KindName ∷ want.Close ∷ [])))
    e) (on_never_skips (is_sign (codes ":") (first old)))

pub token_kind_none : (old rest : List Symbol) → old ≡ sign (codes ">") ∷ rest → Reads token_kind None old rest
unfolding table
token_kind_none old rest e = record { is = tt; text = e; goes = λ ws. ap (run table (want.TokenKind ∷ ws)) e ∙ run-takes table want.TokenKind [] ws (sign (codes ">")) rest refl }

-- up to the kind, and behind it
pub record BeforeKind (old mid : List Symbol) : Type 0 where
  pub text : old ≡ sign (codes ":") ∷ mid
  pub goes : Goes (want.TokenKind ∷ []) old (want.KindName ∷ want.Close ∷ []) mid

pub before_kind : (old mid : List Symbol) → is_sign (codes ">") (first old) ≡ false → Reads (mark (codes ":")) tt old mid → BeforeKind old mid
before_kind old mid e m = record { text = m.text; goes = λ ws. token_kind_goes old e ws ∙ m.goes (want.KindName ∷ want.Close ∷ ws) }

pub token_kind_some : (k : Word) (old mid next rest : List Symbol) → BeforeKind old mid → Reads kind_name k mid next → Reads close tt next rest → Reads token_kind (Some k) old rest
token_kind_some k old mid next rest b r c = record {
  is = r.is;
  text = b.text ∙ ap (λ l. sign (codes ":") ∷ l) (r.text ∙ ap (λ l. grammar.name k ∷ l) c.text);
  goes = λ ws. b.goes ws ∙ r.goes (want.Close ∷ ws) ∙ c.goes ws;
}

pub token_kind_stops_mark : (q : Reason) (old rest : List Symbol) → is_sign (codes ">") (first old) ≡ false → Stops (mark (codes ":")) q old rest → Stops token_kind q old rest
token_kind_stops_mark q old rest e s = stops_within table (mark (codes ":")) token_kind q old old rest []
    (want.KindName ∷ want.Close ∷ []) (λ _. Some some_name) (grammar.name some_name ∷ sign (codes ">") ∷ []) refl
    (token_kind_goes old e) (λ u is. some_name_is_kind) (λ u. refl) (λ xs x h. absurd h) s

pub token_kind_stops_name : (q : Reason) (old mid rest : List Symbol) → BeforeKind old mid → Stops kind_name q mid rest → Stops token_kind q old rest
token_kind_stops_name q old mid rest b s = stops_within table kind_name token_kind q old mid rest
    (sign (codes ":") ∷ []) (want.Close ∷ []) (λ k. Some k) (sign (codes ">") ∷ []) b.text b.goes (λ u is. is)
    (λ u. refl) (λ xs x h. absurd h) s

pub token_kind_stops_close : (k : Word) (q : Reason) (old mid next rest : List Symbol) → BeforeKind old mid → Reads kind_name k mid next → Stops close q next rest → Stops token_kind q old rest
token_kind_stops_close k q old mid next rest b r s =
    stops_within table close token_kind q old next rest (sign (codes ":") ∷ grammar.name k ∷ []) [] (λ _. Some k) []
    (b.text ∙ ap (λ l. sign (codes ":") ∷ l) r.text) (λ ws. b.goes ws ∙ r.goes (want.Close ∷ ws)) (λ u is. r.is)
    (λ u. refl) (λ xs x h. (k, r.is, ap (λ l. sign (codes ":") ∷ grammar.name k ∷ l) h.0, h.1)) s

-- ---- name [":" kind] ">" behind a `<`

token_goes : (old : List Symbol) → Goes (want.Token ∷ []) old (want.Name ∷ want.TokenKind ∷ []) old
unfolding table
token_goes old ws = run-begins table want.Token want.Name (want.TokenKind ∷ []) ws old refl (on_never_skips (is_name_next (first old)))

pub token_reads : (n : Word) (k : Option Word) (old mid rest : List Symbol) → Reads name n old mid → Reads token_kind k mid rest → Reads token (record { name = n; kind = k }) old rest
token_reads n k old mid rest a b = record { is = (a.is, b.is); text = a.text ∙ ap (λ l. grammar.name n ∷ l) b.text; goes = λ ws. token_goes old ws ∙ a.goes (want.TokenKind ∷ ws) ∙ b.goes ws }

pub token_stops_name : (q : Reason) (old rest : List Symbol) → Stops name q old rest → Stops token q old rest
token_stops_name q old rest s = stops_within table name token q old old rest [] (want.TokenKind ∷ [])
    (λ n. record { name = n; kind = None }) (sign (codes ">") ∷ []) refl (token_goes old) (λ u is. (is, tt)) (λ u. refl)
    (λ xs x h. absurd h) s

pub token_stops_kind : (n : Word) (q : Reason) (old mid rest : List Symbol) → Reads name n old mid → Stops token_kind q mid rest → Stops token q old rest
token_stops_kind n q old mid rest a s = stops_within table token_kind token q old mid rest (grammar.name n ∷ []) []
    (λ k. record { name = n; kind = k }) [] a.text (λ ws. token_goes old ws ∙ a.goes (want.TokenKind ∷ ws))
    (λ u is. (a.is, is)) (λ u. sym (append-nil (grammar.name n ∷ (grammar.kind u ++ sign (codes ">") ∷ []))))
    (λ xs x h. ((n, h.0, a.is, h.1, ap (λ l. sign (codes "<") ∷ grammar.name n ∷ l) h.2), h.3)) s

-- ---- a component

part_token_goes : (old mid : List Symbol) → old ≡ sign (codes "<") ∷ mid → Goes (want.Part ∷ []) old (want.Token ∷ []) mid
unfolding table
part_token_goes old mid e ws = ap (run table (want.Part ∷ ws)) e ∙ run-takes table want.Part (want.Token ∷ []) ws (sign (codes "<")) mid refl

part_optional_goes : (old mid : List Symbol) → old ≡ sign (codes "[") ∷ mid → Goes (want.Part ∷ []) old (want.Optional ∷ []) mid
unfolding table
part_optional_goes old mid e ws = ap (run table (want.Part ∷ ws)) e ∙ run-takes table want.Part (want.Optional ∷ []) ws (sign (codes "[")) mid refl

part_child_goes : (old : List Symbol) → is_sign (codes "<") (first old) ≡ false → is_sign (codes "[") (first old) ≡ false → Goes (want.Part ∷ []) old (want.Child ∷ []) old
unfolding table
part_child_goes old l b ws = run-same table want.Part want.Child ws old (ap (λ x. cond x (takes (want.Token ∷ []))
    (cond (is_sign (codes "[") (first old)) (takes (want.Optional ∷ [])) (child_answer (first old)))) l
    ∙ ap (λ x. cond x (takes (want.Optional ∷ [])) (child_answer (first old))) b)

pub part_token : (t : Typed) (old mid rest : List Symbol) → old ≡ sign (codes "<") ∷ mid → Reads token t mid rest → Reads part (grammar.Token t) old rest
part_token t old mid rest e r = record { is = r.is; text = e ∙ ap (λ l. sign (codes "<") ∷ l) r.text; goes = λ ws. part_token_goes old mid e ws ∙ r.goes ws }

pub part_token_stops : (q : Reason) (old mid rest : List Symbol) → old ≡ sign (codes "<") ∷ mid → Stops token q mid rest → Stops part q old rest
part_token_stops q old mid rest e s = stops_within table token part q old mid rest (sign (codes "<") ∷ []) []
    (λ t. grammar.Token t) [] e (part_token_goes old mid e) (λ u is. is)
    (λ u. ap (λ l. sign (codes "<") ∷ l) (sym (append-nil (grammar.typed u ++ sign (codes ">") ∷ [])))) (λ xs x h. h) s

pub part_optional : (t : Typed) (old mid rest : List Symbol) → old ≡ sign (codes "[") ∷ mid → Reads optional t mid rest → Reads part (grammar.Optional t) old rest
part_optional t old mid rest e r = record { is = r.is; text = e ∙ ap (λ l. sign (codes "[") ∷ l) r.text; goes = λ ws. part_optional_goes old mid e ws ∙ r.goes ws }

pub part_optional_stops : (q : Reason) (old mid rest : List Symbol) → old ≡ sign (codes "[") ∷ mid → Stops optional q mid rest → Stops part q old rest
part_optional_stops q old mid rest e s = stops_within table optional part q old mid rest (sign (codes "[") ∷ []) []
    (λ t. grammar.Optional t) [] e (part_optional_goes old mid e) (λ u is. is) (λ u.
    ap (λ l. sign (codes "[") ∷ l) (sym (append-nil (grammar.typed u ++ sign (codes "]") ∷ [])))) (λ xs x h. absurd h) s

child_is_part : (p : grammar.Part) → IsChild p → IsPart p
child_is_part (grammar.Child t) is = is
child_is_part (grammar.Children t) is = is
child_is_part (grammar.Optional t) is = absurd is
child_is_part (grammar.Token t) is = absurd is

pub part_child : (p : grammar.Part) (old rest : List Symbol) → is_sign (codes "<") (first old) ≡ false → is_sign (codes "[") (first old) ≡ false → Reads child p old rest → Reads part p old rest
part_child p old rest l b r = record { is = child_is_part p r.is; text = r.text; goes = λ ws. part_child_goes old l b ws ∙ r.goes ws }

pub part_child_stops : (q : Reason) (old rest : List Symbol) → is_sign (codes "<") (first old) ≡ false → is_sign (codes "[") (first old) ≡ false → Stops child q old rest → Stops part q old rest
part_child_stops q old rest l b s = stops_within table child part q old old rest [] [] (λ p. p) [] refl
    (part_child_goes old l b) child_is_part (λ u. sym (append-nil (grammar.part u))) (λ xs x h. absurd h) s
