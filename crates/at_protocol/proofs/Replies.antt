-- The bytes of a reply are the text of what it stands for.
use Rattle.std.proofs.Common.{◌≡◌, ℕ, List, [], ◌∷◌, ◌++◌, Option, Some, None, option_map, refl, ap, sym, ◌∙◌, append_assoc}
use Rattle.std.specs.Prelude.{codes}
use Rattle.std.specs.List.{join_with_byte}
use Rattle.std.specs.Fmt.{decimal}
use Rattle.at_model.specs.Replies.{Reply, Posting, Form, Shown, done_words, form_words, session_text, shown_text, reply_text}
use Rattle.at_protocol.specs.ReplyView.{IsShown, IsForm, IsReply, posting_view, shown_bytes, done_bytes, form_bytes, reply_bytes}
use Rattle.at_protocol.specs.declared.reply.Shown.{Shown as ShownValue}
use Rattle.at_protocol.specs.declared.reply.Shown.TheVariants as shown
use Rattle.at_protocol.specs.declared.reply.Form.{Form as FormValue}
use Rattle.at_protocol.specs.declared.reply.Form.TheVariants as form
use Rattle.at_protocol.specs.declared.reply.Posting.{Posting as PostingValue}
use Rattle.at_protocol.specs.declared.reply.Reply.{Reply as ReplyValue}

shown_is : (v : ShownValue) (s : Shown) → IsShown v s → shown_text s ≡ shown_bytes v
shown_is (shown.Token value) s h = rw h refl
shown_is (shown.Node path) s h = rw h refl
shown_is shown.Null s h = rw h refl
shown_is (shown.Term text) s (t, is_text, is) = rw is (sym is_text)

-- a word in front of what is told
form_is : (v : FormValue) (f : Form) (word : List ℕ) → IsForm v f → join_with_byte 32 (word ∷ form_words f) ≡ word ++ form_bytes v
form_is (form.Ok version) f word h = rw h refl
form_is (form.Shows s) f word (is, told, h) = rw h (ap (λ y. word ++ 32 ∷ (codes "=" ++ 32 ∷ y)) (shown_is s is told))
form_is (form.Fault kind path attribute) f word h = rw h refl
form_is (form.Circular path attribute) f word h = rw h refl
form_is (form.Refused r) f word h = rw h refl
form_is form.Memory f word h = rw h refl
form_is (form.Open number) f word h = rw h refl

done_is : (d : Option PostingValue) (p : Option Posting) (v : FormValue) (f : Form) (word : List ℕ) → option_map posting_view d ≡ p → IsForm v f →
    join_with_byte 32 (word ∷ (done_words p ++ form_words f)) ≡ word ++ (done_bytes d ++ form_bytes v)
done_is None p v f word h k = rw (← h) (form_is v f word k)
done_is (Some d) p v f word h k =
    let last = form_is v f (decimal d.version) k in
    rw (← h) (ap (λ y. word ++ 32 ∷ (codes "done" ++ 32 ∷ (decimal d.number ++ 32 ∷ y))) last
    ∙ ap (λ y. word ++ 32 ∷ (codes "done" ++ 32 ∷ y)) (sym (append_assoc (decimal d.number) (32 ∷ decimal d.version) (form_bytes v))))

pub reply_is : (v : ReplyValue) (r : Reply) → IsReply v r → reply_bytes v ≡ reply_text r
reply_is v r h =
    let front = session_text v.session in
    let told = done_is v.done r.done v.form r.form front h.done h.form in
    sym (ap (λ y. y ++ 10 ∷ []) (ap (λ s. join_with_byte 32 (session_text s ∷ (done_words r.done ++ form_words r.form))) (sym h.session) ∙ told)
    ∙ append_assoc front (done_bytes v.done ++ form_bytes v.form) (10 ∷ [])
    ∙ ap (λ y. front ++ y) (append_assoc (done_bytes v.done) (form_bytes v.form) (10 ∷ [])))
