-- What is read as a line is spelled as that line.
use Rattle.std.proofs.Common.{◌≡◌, ℕ, Bool, true, false, cond, List, [], ◌∷◌, ◌++◌, refl, sym, ap, ◌∙◌, subst, take, drop, length, nat_eq, Option, None, Some, inl, inr}
use Rattle.std.specs.Prelude.{IsTrue, codes, decimal, is_none}
use Rattle.std.specs.Option.{unwrap_or}
use Rattle.std.specs.Str.{bytes_eq}
use Rattle.std.specs.List.{starts_with}
use Rattle.std.proofs.lemmas.Bool.{and_parts}
use Rattle.std.proofs.lemmas.Option.{cond_some}
use Rattle.std.proofs.lemmas.List.{take-append-drop}
use Rattle.std.proofs.lemmas.Slice.Eq.{bytes_eq-Decides}
use Rattle.wx_id.specs.declared.numbers.TabId.{TabId}
use Rattle.wx_context.specs.Paths.{is_printable}
use Rattle.wx_script.specs.declared.line.Awaited.{Awaited}
use Rattle.wx_script.specs.declared.line.Awaited.TheVariants as event
use Rattle.wx_script.specs.Words.{word, rest, behind, is_name, is_word, is_given, is_small, is_comment}
use Rattle.wx_machine.specs.Words.{deaf}
use Rattle.wx_script.specs.Line.{NamedTarget, own, tab, NamedAct, NamedCommand, Document, NamedContext, Line, listen, connect, take_one, echo, plain, repeat, content, web, comment, endpoint, script, name_at, count_at, tab_id_at, frame_id_at, file_at, extension_at, host_at, page_at, document_at, content_at, web_at, context_with, endpoint_with, flag_at, flags_at, listen_at, extension_target_at, frame_at, tab_with, tab_at, target_at, port_name_at, connect_at, post_at, disconnect_at, channel_act_with, native_at, ask_at, native_act_with, send_at, reply_with, reply_at, decline_at, request_act_with, awaited_at, await_at, echo_at, act_with, act_at, repeat_at, command_at, declaration_with, declaration_at, line_at}
use Rattle.wx_script.specs.Spelling.{◌␣◌, flag_ahead, flag_words, target_spelling, port_spelling, event_word, act_spelling, command_spelling, document_spelling, endpoint_spelling, spelling, IsNamedTarget, may_follow, IsNamedAct, IsNamedCommand, IsDocument, IsNamedContext, IsFile, IsLine}
use Rattle.wx_id.proofs.OptionLemmas.{bind_some}
use Rattle.wx_script.proofs.Chosen.{chosen}
use Rattle.wx_script.proofs.WordLemmas.{parts, two_parts}
use Rattle.wx_script.proofs.NumberLemmas.{tab_id_read, frame_id_read, count_read}

-- a command or a line, and its one spelling
pub record IsReadAs (l : Line) (text : List ℕ) : Type 0 where
  pub is_line : IsLine l
  pub spelled : text ≡ spelling l

pub record IsReadAsAct (a : NamedAct) (text : List ℕ) : Type 0 where
  pub is_act : IsNamedAct a
  pub spelled : text ≡ act_spelling a

pub record IsReadAsCommand (c : NamedCommand) (text : List ℕ) : Type 0 where
  pub is_command : IsNamedCommand c
  pub spelled : text ≡ command_spelling c

record IsNamed (name more text : List ℕ) : Type 0 where
  is_named : IsTrue (is_name name)
  spelled : text ≡ name ␣ more

name_read : (text : List ℕ) (x : List ℕ × List ℕ) → name_at text ≡ Some x → IsNamed x.0 x.1 text
unfolding name_at
name_read text x e =
    let p = bind_some (rest text) _ x e in
    let q = cond_some _ _ _ p.2 in
    let w : word text ≡ x.0 = ap (λ y. y.0) q.1 in
    let r : p.0 ≡ x.1 = ap (λ y. y.1) q.1 in
    record {
      is_named = subst (λ n. IsTrue (is_name n)) w q.0;
      spelled = two_parts text p.0 p.1 ∙ ap (λ n. n ␣ p.0) w ∙ ap (λ m. x.0 ␣ m) r;
    }

-- two equal texts
same : (xs ys : List ℕ) → bytes_eq xs ys ≡ true → xs ≡ ys
same xs ys e = (bytes_eq-Decides xs ys).0 e

-- what begins with p
front : (text p : List ℕ) → starts_with nat_eq text p ≡ true → text ≡ p ++ drop (length p) text
front text p e = sym (take-append-drop (length p) text) ∙ ap (λ t. t ++ drop (length p) text) (sym (same p (take (length p) text) e))

-- a text with a space, whose first word is w
words : (text w more : List ℕ) → rest text ≡ Some more → word text ≡ w → text ≡ w ␣ more
words text w more e is = two_parts text more e ∙ ap (λ v. v ␣ more) is

-- ---- declarations

abbrev nothing : Option (List ℕ)
nothing = None

record IsReadAsFile (file text : Option (List ℕ)) : Type 0 where
  is_file : IsFile file
  same : text ≡ file

file_read : (text file : Option (List ℕ)) → file_at text ≡ Some file → IsReadAsFile file text
unfolding file_at
file_read None file e = let file_is : nothing ≡ file = cc in subst (λ f. IsReadAsFile f None) file_is (record { is_file = tt; same = refl })
file_read (Some text) file e = let q = cond_some _ _ _ e in subst (λ f. IsReadAsFile f (Some text)) q.1 (record { is_file = q.0; same = refl })

extension_read : (text : List ℕ) (l : Line) → extension_at text ≡ Some l → IsReadAs l (codes "extension" ␣ text)
unfolding extension_at
extension_read text l e =
    let p = bind_some (name_at text) _ l e in
    let n = name_read text p.0 p.1 in
    let p2 = bind_some (file_at (rest p.0.1)) _ l p.2 in
    let f = file_read (rest p.0.1) p2.0 p2.1 in
    let q = cond_some _ _ _ p2.2 in
    subst (λ l. IsReadAs l (codes "extension" ␣ text)) q.1
    (record {
      is_line = (n.is_named, q.0, f.is_file);
      spelled = ap (λ t. codes "extension" ␣ t) (n.spelled ∙ ap (λ t. p.0.0 ␣ t) (parts p.0.1 ∙ ap (λ file. word p.0.1 ++ behind file) f.same));
    })

host_read : (text : List ℕ) (l : Line) → host_at text ≡ Some l → IsReadAs l (codes "host" ␣ text)
unfolding host_at
host_read text l e =
    let q = cond_some _ _ _ e in
    subst (λ l. IsReadAs l (codes "host" ␣ text)) q.1 (record { is_line = q.0; spelled = refl })

-- a context by its word and what stands after the endpoint's name
record IsReadAsContext (c : NamedContext) (head text : List ℕ) : Type 0 where
  is_context : IsNamedContext c
  spelled : (name : List ℕ) → head ␣ name ␣ text ≡ endpoint_spelling name c

page_read : (text : List ℕ) (c : NamedContext) → page_at text ≡ Some c → IsReadAsContext c (codes "page") text
unfolding page_at
page_read text c e =
    let p = bind_some (name_at text) _ c e in
    let n = name_read text p.0 p.1 in
    let q = cond_some _ _ _ p.2 in
    subst (λ c. IsReadAsContext c (codes "page") text) q.1
    (record { is_context = (n.is_named, q.0); spelled = λ name. ap (λ t. codes "page" ␣ name ␣ t) n.spelled })

record IsReadAsDocument (d : Document) (text : List ℕ) : Type 0 where
  is_document : IsDocument d
  spelled : text ≡ document_spelling d

document_read : (text : List ℕ) (d : Document) → document_at text ≡ Some d → IsReadAsDocument d text
unfolding document_at
document_read text d e =
    let p = bind_some (tab_id_at (word text)) _ d e in
    let t = tab_id_read (word text) p.0 p.1 in
    let p2 = bind_some (rest text) _ d p.2 in
    let p3 = bind_some (frame_id_at (word p2.0)) _ d p2.2 in
    let f = frame_id_read (word p2.0) p3.0 p3.1 in
    let p4 = bind_some (rest p2.0) _ d p3.2 in
    let q = cond_some _ _ _ p4.2 in
    subst (λ d. IsReadAsDocument d text) q.1
    (record {
      is_document = (t.is_small, f.is_small, q.0);
      spelled = words text (decimal p.0.0) p2.0 p2.1 t.spelled ∙ ap (λ more. decimal p.0.0 ␣ more) (words p2.0 (decimal p3.0.0) p4.0 p4.1 f.spelled);
    })

content_read : (text : List ℕ) (c : NamedContext) → content_at text ≡ Some c → IsReadAsContext c (codes "content") text
unfolding content_at
content_read text c e =
    let p = bind_some (name_at text) _ c e in
    let n = name_read text p.0 p.1 in
    let p2 = bind_some (document_at p.0.1) _ c p.2 in
    let d = document_read p.0.1 p2.0 p2.1 in
    let c_is : content p.0.0 p2.0 ≡ c = cc in
    subst (λ c. IsReadAsContext c (codes "content") text) c_is
    (record { is_context = (n.is_named, d.is_document); spelled = λ name. ap (λ t. codes "content" ␣ name ␣ t) (n.spelled ∙ ap (λ t. p.0.0 ␣ t) d.spelled) })

web_read : (text : List ℕ) (c : NamedContext) → web_at text ≡ Some c → IsReadAsContext c (codes "web") text
unfolding web_at
web_read text c e =
    let p = bind_some (document_at text) _ c e in
    let d = document_read text p.0 p.1 in
    let c_is : web p.0 ≡ c = cc in
    subst (λ c. IsReadAsContext c (codes "web") text) c_is
    (record { is_context = d.is_document; spelled = λ name. ap (λ t. codes "web" ␣ name ␣ t) d.spelled })

context_with_read : (head text : List ℕ) (c : NamedContext) → context_with head text ≡ Some c → IsReadAsContext c head text
unfolding context_with
context_with_read head text c e =
    elim (chosen (bytes_eq head (codes "page")) _ _ _ e) [
      | inl h ↦ rw (same head (codes "page") h.0) (page_read text c h.1)
      | inr h ↦ elim (chosen (bytes_eq head (codes "content")) _ _ _ h.1) [
        | inl h ↦ rw (same head (codes "content") h.0) (content_read text c h.1)
        | inr h ↦ elim (chosen (bytes_eq head (codes "web")) _ _ _ h.1) [
          | inl h ↦ rw (same head (codes "web") h.0) (web_read text c h.1)
          | inr h ↦ absurd cc
        ]
      ]
    ]

endpoint_with_read : (head text : List ℕ) (l : Line) → endpoint_with head text ≡ Some l → IsReadAs l (head ␣ text)
unfolding endpoint_with
endpoint_with_read head text l e =
    let p = bind_some (name_at text) _ l e in
    let n = name_read text p.0 p.1 in
    let p2 = bind_some (context_with head p.0.1) _ l p.2 in
    let c = context_with_read head p.0.1 p2.0 p2.1 in
    let l_is : endpoint p.0.0 p2.0 ≡ l = cc in
    subst (λ l. IsReadAs l (head ␣ text)) l_is
    (record { is_line = (n.is_named, c.is_context); spelled = ap (λ t. head ␣ t) n.spelled ∙ c.spelled p.0.0 })

declaration_with_read : (head text : List ℕ) (l : Line) → declaration_with head text ≡ Some l → IsReadAs l (head ␣ text)
unfolding declaration_with
declaration_with_read head text l e =
    elim (chosen (bytes_eq head (codes "extension")) _ _ _ e) [
      | inl h ↦ rw (same head (codes "extension") h.0) (extension_read text l h.1)
      | inr h ↦ elim (chosen (bytes_eq head (codes "host")) _ _ _ h.1) [
        | inl h ↦ rw (same head (codes "host") h.0) (host_read text l h.1)
        | inr h ↦ endpoint_with_read head text l h.1
      ]
    ]

declaration_read : (text : List ℕ) (l : Line) → declaration_at text ≡ Some l → IsReadAs l text
unfolding declaration_at
declaration_read text l e =
    let p = bind_some (rest text) _ l e in
    subst (λ t. IsReadAs l t) (sym (two_parts text p.0 p.1)) (declaration_with_read (word text) p.0 l p.2)

-- ---- what is listened to

-- a flag stands ahead of what is left, where it is set
flag_read : (flag : List ℕ) (left : Option (List ℕ)) → left ≡ flag_ahead (flag_at flag left).0 flag (flag_at flag left).1
unfolding flag_at
flag_read flag None = refl
flag_read flag (Some text) = at (bytes_eq (word text) flag) refl
  where
    at : (t : Bool) → bytes_eq (word text) flag ≡ t → (let read : Bool × Option (List ℕ) = cond t (true, rest text) (false, Some text) in Some text ≡ flag_ahead read.0 flag read.1)
    at true is = ap Some (parts text ∙ ap (λ w. w ++ behind (rest text)) (same (word text) flag is))
    at false is = refl

flags_read : (text : List ℕ) → (flags_at text).1 ≡ None → Some text ≡ flag_words (flags_at text).0
unfolding flags_at
flags_read text none =
    let c = flag_at (codes "connect") (Some text) in
    let m = flag_at (codes "message") c.1 in
    let ec = flag_at (codes "external-connect") m.1 in
    let em = flag_at (codes "external-message") ec.1 in
    flag_read (codes "connect") (Some text)
    ∙ ap (flag_ahead c.0 (codes "connect")) (flag_read (codes "message") c.1
    ∙ ap (flag_ahead m.0 (codes "message")) (flag_read (codes "external-connect") m.1
    ∙ ap (flag_ahead ec.0 (codes "external-connect")) (flag_read (codes "external-message") ec.1
    ∙ ap (flag_ahead em.0 (codes "external-message")) none)))

none_left : {A : Type 0} (o : Option A) → is_none o ≡ true → o ≡ None
none_left None h = refl
none_left (Some x) h = absurd cc

listen_read : (text : List ℕ) (a : NamedAct) → listen_at text ≡ Some a → IsReadAsAct a (codes "listen" ␣ text)
unfolding listen_at
listen_read text a e =
    elim (chosen (bytes_eq text (codes "none")) _ _ _ e) [
      | inl h ↦ rw (same text (codes "none") h.0) (subst (λ a. IsReadAsAct a (codes "listen" ␣ codes "none")) (let e : listen deaf ≡ a = cc in e) (record { is_act = tt; spelled = refl }))
      | inr h ↦
          let q = cond_some _ _ _ h.1 in
          let read : Some text ≡ flag_words (flags_at text).0 = flags_read text (none_left (flags_at text).1 q.0) in
          subst (λ a. IsReadAsAct a (codes "listen" ␣ text)) q.1
          (record { is_act = tt; spelled = ap (λ o. codes "listen" ␣ unwrap_or o (codes "none")) read })
    ]

-- ---- targets

record IsReadAsTarget (t : NamedTarget) (more : Option (List ℕ)) (text : List ℕ) : Type 0 where
  is_target : IsNamedTarget t
  follows : IsTrue (may_follow t more)
  spelled : text ≡ target_spelling t more

extension_target_read : (text : List ℕ) (x : NamedTarget × Option (List ℕ)) → extension_target_at text ≡ Some x → IsReadAsTarget x.0 x.1 (codes "ext" ␣ text)
unfolding extension_target_at
extension_target_read text x e =
    let q = cond_some _ _ _ e in
    subst (λ (x : NamedTarget × Option (List ℕ)). IsReadAsTarget x.0 x.1 (codes "ext" ␣ text)) q.1
    (record { is_target = q.0; follows = refl; spelled = ap (λ t. codes "ext" ␣ t) (parts text) })

frame_read : (t : TabId) (text : List ℕ) (x : NamedTarget × Option (List ℕ)) → IsTrue (is_small t.0) → frame_at t text ≡ Some x
    → IsReadAsTarget x.0 x.1 (codes "tab" ␣ decimal t.0 ␣ codes "frame" ␣ text)
unfolding frame_at
frame_read t text x small e =
    let p = bind_some (frame_id_at (word text)) _ x e in
    let f = frame_id_read (word text) p.0 p.1 in
    let x_is : (tab t (Some p.0), rest text) ≡ x = cc in
    subst (λ (x : NamedTarget × Option (List ℕ)). IsReadAsTarget x.0 x.1 (codes "tab" ␣ decimal t.0 ␣ codes "frame" ␣ text)) x_is
    (record {
      is_target = (small, f.is_small);
      follows = refl;
      spelled = ap (λ more. codes "tab" ␣ decimal t.0 ␣ codes "frame" ␣ more) (parts text ∙ ap (λ w. w ++ behind (rest text)) f.spelled);
    })

tab_with_read : (t : TabId) (text : Option (List ℕ)) (x : NamedTarget × Option (List ℕ)) → IsTrue (is_small t.0) → tab_with t text ≡ Some x
    → IsReadAsTarget x.0 x.1 (codes "tab" ␣ (decimal t.0 ++ behind text))
unfolding tab_with
tab_with_read t None x small e =
    let x_is : (tab t None, nothing) ≡ x = cc in
    subst (λ (x : NamedTarget × Option (List ℕ)). IsReadAsTarget x.0 x.1 (codes "tab" ␣ (decimal t.0 ++ behind None))) x_is
    (record { is_target = small; follows = refl; spelled = refl })
tab_with_read t (Some text) x small e =
    elim (chosen (bytes_eq (word text) (codes "frame")) _ _ _ e) [
      | inl h ↦
          let p = bind_some (rest text) _ x h.1 in
          subst (λ more. IsReadAsTarget x.0 x.1 (codes "tab" ␣ decimal t.0 ␣ more)) (sym (words text (codes "frame") p.0 p.1 (same (word text) (codes "frame") h.0))) (frame_read t p.0 x small p.2)
      | inr h ↦
          let x_is : (tab t None, Some text) ≡ x = cc in
          subst (λ (x : NamedTarget × Option (List ℕ)). IsReadAsTarget x.0 x.1 (codes "tab" ␣ decimal t.0 ␣ text)) x_is
          (record { is_target = small; follows = rw (h.0) refl; spelled = refl })
    ]

tab_read : (text : List ℕ) (x : NamedTarget × Option (List ℕ)) → tab_at text ≡ Some x → IsReadAsTarget x.0 x.1 (codes "tab" ␣ text)
unfolding tab_at
tab_read text x e =
    let p = bind_some (tab_id_at (word text)) _ x e in
    let t = tab_id_read (word text) p.0 p.1 in
    subst (λ text. IsReadAsTarget x.0 x.1 (codes "tab" ␣ text)) (sym (parts text ∙ ap (λ w. w ++ behind (rest text)) t.spelled)) (tab_with_read p.0 (rest text) x t.is_small p.2)

target_read : (text : List ℕ) (x : NamedTarget × Option (List ℕ)) → target_at text ≡ Some x → IsReadAsTarget x.0 x.1 text
unfolding target_at
target_read text x e =
    elim (chosen (bytes_eq (word text) (codes "own")) _ _ _ e) [
      | inl h ↦
          let x_is : (own, rest text) ≡ x = cc in
          subst (λ (x : NamedTarget × Option (List ℕ)). IsReadAsTarget x.0 x.1 text) x_is
          (record { is_target = tt; follows = refl; spelled = parts text ∙ ap (λ w. w ++ behind (rest text)) (same (word text) (codes "own") h.0) })
      | inr h ↦ elim (chosen (bytes_eq (word text) (codes "ext")) _ _ _ h.1) [
        | inl h ↦
            let p = bind_some (rest text) _ x h.1 in
            subst (λ text. IsReadAsTarget x.0 x.1 text) (sym (words text (codes "ext") p.0 p.1 (same (word text) (codes "ext") h.0))) (extension_target_read p.0 x p.2)
        | inr h ↦ elim (chosen (bytes_eq (word text) (codes "tab")) _ _ _ h.1) [
          | inl h ↦
              let p = bind_some (rest text) _ x h.1 in
              subst (λ text. IsReadAsTarget x.0 x.1 text) (sym (words text (codes "tab") p.0 p.1 (same (word text) (codes "tab") h.0))) (tab_read p.0 x p.2)
          | inr h ↦ absurd cc
        ]
      ]
    ]

-- ---- acts

record IsReadAsPortName (name : List ℕ) (text : Option (List ℕ)) : Type 0 where
  is_printable : IsTrue (is_printable name)
  spelled : text ≡ port_spelling name

word_name : (w : List ℕ) → is_word w ≡ true → IsReadAsPortName w (Some (codes "name " ++ w))
word_name [] h = absurd cc
word_name (b ∷ bs) h = record { is_printable = h; spelled = refl }

port_name_read : (text : Option (List ℕ)) (name : List ℕ) → port_name_at text ≡ Some name → IsReadAsPortName name text
unfolding port_name_at
port_name_read None name e = subst (λ n. IsReadAsPortName n None) (let e : [] ≡ name = cc in e) (record { is_printable = refl; spelled = refl })
port_name_read (Some text) name e =
    elim (chosen (starts_with nat_eq text (codes "name ")) _ _ _ e) [
      | inl h ↦
          let q = cond_some _ _ _ h.1 in
          rw (front text (codes "name ") h.0) (subst (λ n. IsReadAsPortName n (Some (codes "name " ++ drop 5 text))) q.1 (word_name (drop 5 text) q.0))
      | inr h ↦ absurd cc
    ]

connect_read : (text : List ℕ) (a : NamedAct) → connect_at text ≡ Some a → IsReadAsAct a (codes "connect" ␣ text)
unfolding connect_at
connect_read text a e =
    let p = bind_some (name_at text) _ a e in
    let n = name_read text p.0 p.1 in
    let p2 = bind_some (target_at p.0.1) _ a p.2 in
    let t = target_read p.0.1 p2.0 p2.1 in
    let p3 = bind_some (port_name_at p2.0.1) _ a p2.2 in
    let port = port_name_read p2.0.1 p3.0 p3.1 in
    let a_is : connect p.0.0 p2.0.0 p3.0 ≡ a = cc in
    subst (λ a. IsReadAsAct a (codes "connect" ␣ text)) a_is
    (record {
      is_act = (n.is_named, t.is_target, port.is_printable);
      spelled = ap (λ t. codes "connect" ␣ t) (n.spelled ∙ ap (λ t. p.0.0 ␣ t) (t.spelled ∙ ap (target_spelling p2.0.0) port.spelled));
    })

post_read : (text : List ℕ) (a : NamedAct) → post_at text ≡ Some a → IsReadAsAct a (codes "post" ␣ text)
unfolding post_at
post_read text a e =
    let p = bind_some (name_at text) _ a e in
    let n = name_read text p.0 p.1 in
    let q = cond_some _ _ _ p.2 in
    subst (λ a. IsReadAsAct a (codes "post" ␣ text)) q.1
    (record { is_act = (n.is_named, q.0); spelled = ap (λ t. codes "post" ␣ t) n.spelled })

disconnect_read : (text : List ℕ) (a : NamedAct) → disconnect_at text ≡ Some a → IsReadAsAct a (codes "disconnect" ␣ text)
unfolding disconnect_at
disconnect_read text a e =
    let q = cond_some _ _ _ e in
    subst (λ a. IsReadAsAct a (codes "disconnect" ␣ text)) q.1 (record { is_act = q.0; spelled = refl })

channel_act_read : (head text : List ℕ) (a : NamedAct) → channel_act_with head text ≡ Some a → IsReadAsAct a (head ␣ text)
unfolding channel_act_with
channel_act_read head text a e =
    elim (chosen (bytes_eq head (codes "connect")) _ _ _ e) [
      | inl h ↦ rw (same head (codes "connect") h.0) (connect_read text a h.1)
      | inr h ↦ elim (chosen (bytes_eq head (codes "post")) _ _ _ h.1) [
        | inl h ↦ rw (same head (codes "post") h.0) (post_read text a h.1)
        | inr h ↦ elim (chosen (bytes_eq head (codes "disconnect")) _ _ _ h.1) [
          | inl h ↦ rw (same head (codes "disconnect") h.0) (disconnect_read text a h.1)
          | inr h ↦ absurd cc
        ]
      ]
    ]

native_read : (text : List ℕ) (a : NamedAct) → native_at text ≡ Some a → IsReadAsAct a (codes "native" ␣ text)
unfolding native_at
native_read text a e =
    let p = bind_some (name_at text) _ a e in
    let n = name_read text p.0 p.1 in
    let q = cond_some _ _ _ p.2 in
    subst (λ a. IsReadAsAct a (codes "native" ␣ text)) q.1
    (record { is_act = (n.is_named, q.0); spelled = ap (λ t. codes "native" ␣ t) n.spelled })

ask_read : (text : List ℕ) (a : NamedAct) → ask_at text ≡ Some a → IsReadAsAct a (codes "ask" ␣ text)
unfolding ask_at
ask_read text a e =
    let p = bind_some (name_at text) _ a e in
    let n = name_read text p.0 p.1 in
    let p2 = bind_some (rest p.0.1) _ a p.2 in
    let q = cond_some _ _ _ p2.2 in
    let given = and_parts (is_word (word p.0.1)) (is_given p2.0) q.0 in
    subst (λ a. IsReadAsAct a (codes "ask" ␣ text)) q.1
    (record {
      is_act = (n.is_named, given.0, given.1);
      spelled = ap (λ t. codes "ask" ␣ t) (n.spelled ∙ ap (λ t. p.0.0 ␣ t) (two_parts p.0.1 p2.0 p2.1));
    })

native_act_read : (head text : List ℕ) (a : NamedAct) → native_act_with head text ≡ Some a → IsReadAsAct a (head ␣ text)
unfolding native_act_with
native_act_read head text a e =
    elim (chosen (bytes_eq head (codes "native")) _ _ _ e) [
      | inl h ↦ rw (same head (codes "native") h.0) (native_read text a h.1)
      | inr h ↦ elim (chosen (bytes_eq head (codes "ask")) _ _ _ h.1) [
        | inl h ↦ rw (same head (codes "ask") h.0) (ask_read text a h.1)
        | inr h ↦ channel_act_read head text a h.1
      ]
    ]

send_read : (text : List ℕ) (a : NamedAct) → send_at text ≡ Some a → IsReadAsAct a (codes "send" ␣ text)
unfolding send_at
send_read text a e =
    let p = bind_some (name_at text) _ a e in
    let n = name_read text p.0 p.1 in
    let p2 = bind_some (target_at p.0.1) _ a p.2 in
    let t = target_read p.0.1 p2.0 p2.1 in
    let p3 = bind_some p2.0.1 _ a p2.2 in
    let q = cond_some _ _ _ p3.2 in
    subst (λ a. IsReadAsAct a (codes "send" ␣ text)) q.1
    (record {
      is_act = (n.is_named, t.is_target, subst (λ more. IsTrue (may_follow p2.0.0 more)) p3.1 t.follows, q.0);
      spelled = ap (λ t. codes "send" ␣ t) (n.spelled ∙ ap (λ t. p.0.0 ␣ t) (t.spelled ∙ ap (target_spelling p2.0.0) p3.1));
    })

reply_with_read : (head text : List ℕ) (a : NamedAct) → reply_with head text ≡ Some a → IsReadAsAct a (codes "reply" ␣ head ␣ text)
unfolding reply_with
reply_with_read head text a e =
    elim (chosen (bytes_eq head (codes "same")) _ _ _ e) [
      | inl h ↦ let q = cond_some _ _ _ h.1 in rw (same head (codes "same") h.0) (subst (λ a. IsReadAsAct a (codes "reply" ␣ codes "same" ␣ text)) q.1 (record { is_act = q.0; spelled = refl }))
      | inr h ↦
          let q = cond_some _ _ _ h.1 in
          subst (λ a. IsReadAsAct a (codes "reply" ␣ head ␣ text)) q.1
          (record { is_act = and_parts (is_name head) (is_given text) q.0; spelled = refl })
    ]

reply_read : (text : List ℕ) (a : NamedAct) → reply_at text ≡ Some a → IsReadAsAct a (codes "reply" ␣ text)
unfolding reply_at
reply_read text a e =
    let p = bind_some (rest text) _ a e in
    subst (λ t. IsReadAsAct a (codes "reply" ␣ t)) (sym (two_parts text p.0 p.1)) (reply_with_read (word text) p.0 a p.2)

decline_read : (text : List ℕ) (a : NamedAct) → decline_at text ≡ Some a → IsReadAsAct a (codes "decline" ␣ text)
unfolding decline_at
decline_read text a e =
    let q = cond_some _ _ _ e in
    subst (λ a. IsReadAsAct a (codes "decline" ␣ text)) q.1 (record { is_act = q.0; spelled = refl })

request_act_read : (head text : List ℕ) (a : NamedAct) → request_act_with head text ≡ Some a → IsReadAsAct a (head ␣ text)
unfolding request_act_with
request_act_read head text a e =
    elim (chosen (bytes_eq head (codes "send")) _ _ _ e) [
      | inl h ↦ rw (same head (codes "send") h.0) (send_read text a h.1)
      | inr h ↦ elim (chosen (bytes_eq head (codes "reply")) _ _ _ h.1) [
        | inl h ↦ rw (same head (codes "reply") h.0) (reply_read text a h.1)
        | inr h ↦ elim (chosen (bytes_eq head (codes "decline")) _ _ _ h.1) [
          | inl h ↦ rw (same head (codes "decline") h.0) (decline_read text a h.1)
          | inr h ↦ native_act_read head text a h.1
        ]
      ]
    ]

event_read : (w : List ℕ) (awaited : Awaited) → awaited_at w ≡ Some awaited → w ≡ event_word awaited
unfolding awaited_at
event_read w awaited e =
    elim (chosen (bytes_eq w (codes "connect")) _ _ _ e) [
      | inl h ↦ same w (codes "connect") h.0 ∙ ap event_word (let e : event.Connect ≡ awaited = cc in e)
      | inr h ↦ elim (chosen (bytes_eq w (codes "message")) _ _ _ h.1) [
        | inl h ↦ same w (codes "message") h.0 ∙ ap event_word (let e : event.Message ≡ awaited = cc in e)
        | inr h ↦ elim (chosen (bytes_eq w (codes "request")) _ _ _ h.1) [
          | inl h ↦ same w (codes "request") h.0 ∙ ap event_word (let e : event.Request ≡ awaited = cc in e)
          | inr h ↦ elim (chosen (bytes_eq w (codes "reply")) _ _ _ h.1) [
            | inl h ↦ same w (codes "reply") h.0 ∙ ap event_word (let e : event.Reply ≡ awaited = cc in e)
            | inr h ↦ elim (chosen (bytes_eq w (codes "close")) _ _ _ h.1) [
              | inl h ↦ same w (codes "close") h.0 ∙ ap event_word (let e : event.Close ≡ awaited = cc in e)
              | inr h ↦ absurd cc
            ]
          ]
        ]
      ]
    ]

await_read : (text : List ℕ) (a : NamedAct) → await_at text ≡ Some a → IsReadAsAct a (codes "await" ␣ text)
unfolding await_at
await_read text a e =
    let p = bind_some (rest text) _ a e in
    let p2 = bind_some (awaited_at (word text)) _ a p.2 in
    let q = cond_some _ _ _ p2.2 in
    subst (λ a. IsReadAsAct a (codes "await" ␣ text)) q.1
    (record { is_act = q.0; spelled = ap (λ t. codes "await" ␣ t) (words text (event_word p2.0) p.0 p.1 (event_read (word text) p2.0 p2.1)) })

echo_read : (text : List ℕ) (a : NamedAct) → echo_at text ≡ Some a → IsReadAsAct a (codes "echo" ␣ text)
unfolding echo_at
echo_read text a e =
    let p = bind_some (count_at text) _ a e in
    let n = count_read text p.0 p.1 in
    let a_is : echo p.0 ≡ a = cc in
    subst (λ a. IsReadAsAct a (codes "echo" ␣ text)) a_is (record { is_act = n.is_count; spelled = ap (λ t. codes "echo" ␣ t) n.spelled })

act_with_read : (head text : List ℕ) (a : NamedAct) → act_with head text ≡ Some a → IsReadAsAct a (head ␣ text)
unfolding act_with
act_with_read head text a e =
    elim (chosen (bytes_eq head (codes "listen")) _ _ _ e) [
      | inl h ↦ rw (same head (codes "listen") h.0) (listen_read text a h.1)
      | inr h ↦ elim (chosen (bytes_eq head (codes "await")) _ _ _ h.1) [
        | inl h ↦ rw (same head (codes "await") h.0) (await_read text a h.1)
        | inr h ↦ elim (chosen (bytes_eq head (codes "echo")) _ _ _ h.1) [
          | inl h ↦ rw (same head (codes "echo") h.0) (echo_read text a h.1)
          | inr h ↦ request_act_read head text a h.1
        ]
      ]
    ]

act_read : (text : List ℕ) (a : NamedAct) → act_at text ≡ Some a → IsReadAsAct a text
unfolding act_at
act_read text a e =
    elim (chosen (bytes_eq text (codes "take")) _ _ _ e) [
      | inl h ↦ rw (same text (codes "take") h.0) (subst (λ a. IsReadAsAct a (codes "take")) (let e : take_one ≡ a = cc in e) (record { is_act = tt; spelled = refl }))
      | inr h ↦
          let p = bind_some (rest text) _ a h.1 in
          subst (λ t. IsReadAsAct a t) (sym (two_parts text p.0 p.1)) (act_with_read (word text) p.0 a p.2)
    ]

repeat_read : (text : List ℕ) (c : NamedCommand) → repeat_at text ≡ Some c → IsReadAsCommand c (codes "repeat" ␣ text)
unfolding repeat_at
repeat_read text c e =
    let p = bind_some (count_at (word text)) _ c e in
    let n = count_read (word text) p.0 p.1 in
    let p2 = bind_some (rest text) _ c p.2 in
    let p3 = bind_some (act_at p2.0) _ c p2.2 in
    let a = act_read p2.0 p3.0 p3.1 in
    let c_is : repeat p.0 p3.0 ≡ c = cc in
    subst (λ c. IsReadAsCommand c (codes "repeat" ␣ text)) c_is
    (record { is_command = (n.is_count, a.is_act); spelled = ap (λ t. codes "repeat" ␣ t) (two_parts text p2.0 p2.1 ∙ ap (λ w. w ␣ p2.0) n.spelled ∙ ap (λ t. decimal p.0 ␣ t) a.spelled) })

pub command_read : (text : List ℕ) (c : NamedCommand) → command_at text ≡ Some c → IsReadAsCommand c text
unfolding command_at
command_read text c e =
    elim (chosen (starts_with nat_eq text (codes "repeat ")) _ _ _ e) [
      | inl h ↦ rw (front text (codes "repeat ") h.0) (repeat_read (drop 7 text) c h.1)
      | inr h ↦
          let p = bind_some (act_at text) _ c h.1 in
          let a = act_read text p.0 p.1 in
          let c_is : plain p.0 ≡ c = cc in
          subst (λ c. IsReadAsCommand c text) c_is (record { is_command = a.is_act; spelled = a.spelled })
    ]

pub line_read : (text : List ℕ) (l : Line) → line_at text ≡ Some l → IsReadAs l text
unfolding line_at
line_read text l e =
    elim (chosen (is_comment text) _ _ _ e) [
      | inl h ↦ let l_is : comment text ≡ l = cc in subst (λ l. IsReadAs l text) l_is (record { is_line = h.0; spelled = refl })
      | inr h ↦ elim (chosen (starts_with nat_eq text (codes "  ")) _ _ _ h.1) [
        | inl h ↦
            let p = bind_some (command_at (drop 2 text)) _ l h.1 in
            let c = command_read (drop 2 text) p.0 p.1 in
            let l_is : script p.0 ≡ l = cc in
            subst (λ l. IsReadAs l text) l_is (record { is_line = c.is_command; spelled = front text (codes "  ") h.0 ∙ ap (λ t. codes "  " ++ t) c.spelled })
        | inr h ↦ declaration_read text l h.1
      ]
    ]

pub one_spelling : (text : List ℕ) (l : Line) → line_at text ≡ Some l → IsLine l × (text ≡ spelling l)
one_spelling text l e = let r = line_read text l e in (r.is_line, r.spelled)
