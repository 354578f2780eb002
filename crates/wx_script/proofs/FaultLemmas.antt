-- Every fault of a scene names a line.
use Rattle.std.proofs.Common.{ℕ, ◌+◌, ◌≤◌, cond, arith, Bool, true, false, List, [], ◌∷◌, Some, None, Ok, Err, refl, subst}
use Rattle.std.specs.Prelude.{IfErr, IsTrue, Result, nat_le, length, not, codes, ok_or, ◌==◌}
use Rattle.std.specs.Str.{bytes_eq}
use Rattle.std.specs.declared.option.Option.{Option}
use Rattle.wx_id.specs.Results.{◌>>=◌}
use Rattle.wx_id.specs.Ids.{is_extension_id}
use Rattle.wx_script.specs.declared.scene.Scene.{Scene}
use Rattle.wx_script.specs.declared.scene.SceneKind.{SceneKind}
use Rattle.wx_script.specs.declared.scene.SceneFault.{SceneFault}
use Rattle.wx_script.specs.declared.scene.SceneReadFault.{SceneReadFault}
use Rattle.wx_script.specs.declared.scene.SceneReadFault.TheVariants as fault
use Rattle.wx_script.specs.declared.scene.SceneKind.TheVariants as kind
use Rattle.wx_script.specs.declared.scene.SceneExtension.{SceneExtension}
use Rattle.wx_script.specs.declared.line.Awaited.{Awaited}
use Rattle.wx_script.specs.declared.line.Awaited.TheVariants as event
use Rattle.wx_script.specs.declared.names.VariableNames.{VariableNames}
use Rattle.wx_context.specs.WebUrls.{web_url_of}
use Rattle.wx_json.specs.Test.{is_json_text}
use Rattle.wx_script.specs.Line.{NamedTarget, own, extension_named, tab, NamedAct, NamedCommand, NamedContext, Line, listen, connect, post, disconnect, send, reply, reply_same, decline, connect_native, send_native, take_one, await_event, echo, page, content, web, comment, extension, host, endpoint, script, line_at}
use Rattle.wx_script.specs.Names.{has_extension, has_host, has_endpoint, id_under, place_in}
use Rattle.wx_script.specs.Draft.{Draft, fresh, declared, web_url, context_of, endpoint_added, used, json_of, target_of, await_of, act_of, named_act, command_added, line_added}
use Rattle.wx_script.specs.Scene.{lines_of, line_or_form, text_added, unless_faulty, lines_added, scene_from, headed, scene_of}
use Rattle.wx_script.specs.Reading.{ReadsResult, is_of_a_line, IsOfALine, NamesALine}

abbrev OfALine : {A : Type 0} → Result A SceneKind → Type 0
OfALine r = IfErr r (λ k. IsTrue (is_of_a_line k))

of_choice : {A : Type 0} (b : Bool) (x y : Result A SceneKind) → OfALine x → OfALine y → OfALine (cond b x y)
of_choice true x y hx hy = hx
of_choice false x y hx hy = hy

of_then : {A B : Type 0} (r : Result A SceneKind) (f : A → Result B SceneKind) → OfALine r → ((x : A) → OfALine (f x)) → OfALine (r >>= f)
of_then (Ok x) f h each = each x
of_then (Err k) f h each = h

of_ok_or : {A : Type 0} (o : Option A) (k : SceneKind) → IsTrue (is_of_a_line k) → OfALine (ok_or o k)
of_ok_or None k h = h
of_ok_or (Some x) k h = tt

of_declared : (name : List ℕ) (extensions : List SceneExtension) → OfALine (declared name extensions)
of_declared name extensions = of_ok_or (id_under name extensions) kind.Unknown refl

of_web_url : (text : List ℕ) → OfALine (web_url text)
of_web_url text = of_ok_or (web_url_of text) kind.Url refl

of_context_of : (extensions : List SceneExtension) (c : NamedContext) → OfALine (context_of extensions c)
of_context_of extensions (page ext path) = of_then (declared ext extensions) _ (of_declared ext extensions) (λ id. tt)
of_context_of extensions (content ext document) =
    of_then (declared ext extensions) _ (of_declared ext extensions) (λ id. of_then (web_url document.url) _ (of_web_url document.url) (λ url. tt))
of_context_of extensions (web document) = of_then (web_url document.url) _ (of_web_url document.url) (λ url. tt)

of_endpoint_added : (d : Draft) (name : List ℕ) (c : NamedContext) → OfALine (endpoint_added d name c)
of_endpoint_added d name c =
    of_choice (has_endpoint name d.endpoints) _ _ refl
    (of_then (context_of d.extensions c) _ (of_context_of d.extensions c) (λ context. of_choice (nat_le 1024 (length d.endpoints)) _ _ refl tt))

of_used : (name : List ℕ) (variables : List (List ℕ)) → OfALine (used name variables)
of_used name variables = of_then (ok_or (place_in name variables) kind.Unbound) _ (of_ok_or (place_in name variables) kind.Unbound refl) (λ n. tt)

of_json_of : (text : List ℕ) → OfALine (json_of text)
of_json_of text = of_choice (is_json_text text) _ _ tt refl

of_target_of : (extensions : List SceneExtension) (t : NamedTarget) → OfALine (target_of extensions t)
of_target_of extensions own = tt
of_target_of extensions (extension_named name) = of_then (declared name extensions) _ (of_declared name extensions) (λ id. tt)
of_target_of extensions (tab t f) = tt

of_await_of : (variables : VariableNames) (awaited : Awaited) (name : List ℕ) → OfALine (await_of variables awaited name)
of_await_of variables event.Connect name = tt
of_await_of variables event.Message name = of_then (used name variables.channels) _ (of_used name variables.channels) (λ v. tt)
of_await_of variables event.Request name = tt
of_await_of variables event.Reply name = of_then (used name variables.asked) _ (of_used name variables.asked) (λ v. tt)
of_await_of variables event.Close name = of_then (used name variables.channels) _ (of_used name variables.channels) (λ v. tt)

of_act_of : (extensions : List SceneExtension) (variables : VariableNames) (a : NamedAct) → OfALine (act_of extensions variables a)
of_act_of extensions variables (listen l) = tt
of_act_of extensions variables (connect name target port) = of_then (target_of extensions target) _ (of_target_of extensions target) (λ t. tt)
of_act_of extensions variables (post name text) =
    of_then (used name variables.channels) _ (of_used name variables.channels) (λ v. of_then (json_of text) _ (of_json_of text) (λ json. tt))
of_act_of extensions variables (disconnect name) = of_then (used name variables.channels) _ (of_used name variables.channels) (λ v. tt)
of_act_of extensions variables (send name target text) =
    of_then (target_of extensions target) _ (of_target_of extensions target) (λ t. of_then (json_of text) _ (of_json_of text) (λ json. tt))
of_act_of extensions variables (reply name text) =
    of_then (used name variables.received) _ (of_used name variables.received) (λ v. of_then (json_of text) _ (of_json_of text) (λ json. tt))
of_act_of extensions variables (reply_same name) = of_then (used name variables.received) _ (of_used name variables.received) (λ v. tt)
of_act_of extensions variables (decline name) = of_then (used name variables.received) _ (of_used name variables.received) (λ v. tt)
of_act_of extensions variables (connect_native name host_name) = tt
of_act_of extensions variables (send_native name host_name text) = of_then (json_of text) _ (of_json_of text) (λ json. tt)
of_act_of extensions variables take_one = tt
of_act_of extensions variables (await_event awaited name) = of_await_of variables awaited name
of_act_of extensions variables (echo n) = tt

of_command_added : (d : Draft) (c : NamedCommand) → OfALine (command_added d c)
of_command_added d c =
    of_choice (length d.endpoints == 0) _ _ refl
    (of_then (act_of d.extensions d.variables (named_act c)) _ (of_act_of d.extensions d.variables (named_act c)) (λ a. tt))

of_line_added : (d : Draft) (l : Line) → OfALine (line_added d l)
of_line_added d (comment text) = tt
of_line_added d (extension name id file) = of_choice (not (is_extension_id id)) _ _ refl (of_choice (has_extension name id d.extensions) _ _ refl tt)
of_line_added d (host file) = of_choice (has_host file d.hosts) _ _ refl tt
of_line_added d (endpoint name context) = of_endpoint_added d name context
of_line_added d (script c) = of_command_added d c

of_line_or_form : (d : Draft) (l : Option Line) → OfALine (line_or_form d l)
of_line_or_form d None = refl
of_line_or_form d (Some l) = of_line_added d l

abbrev AtALine : {A : Type 0} → Result A SceneFault → Type 0
AtALine r = IfErr r IsOfALine

at_unless_faulty : {A B : Type 0} (n : ℕ) (r : Result A SceneKind) (f : A → Result B SceneFault) → 1 ≤ n → OfALine r → ((x : A) → AtALine (f x)) → AtALine (unless_faulty n r f)
at_unless_faulty n (Ok x) f low h each = each x
at_unless_faulty n (Err k) f low h each = record { line = low; kind = h }

at_lines_added : (n : ℕ) (d : Draft) (texts : List (List ℕ)) → 1 ≤ n → AtALine (lines_added n d texts)
at_lines_added n d [] low = tt
at_lines_added n d (text ∷ texts) low =
    at_unless_faulty n (text_added d text) _ low (of_line_or_form d (line_at text)) (λ d. at_lines_added (n + 1) d texts (omega (arith, low)))

at_scene_from : (r : Result Draft SceneFault) → AtALine r → AtALine (scene_from r)
at_scene_from (Ok d) h = tt
at_scene_from (Err e) h = h

first : 1 ≤ 1
first = omega arith

second : 1 ≤ 2
second = omega arith

at_choice : {A : Type 0} (b : Bool) (x y : Result A SceneFault) → AtALine x → AtALine y → AtALine (cond b x y)
at_choice true x y hx hy = hx
at_choice false x y hx hy = hy

at_headed : (texts : List (List ℕ)) → AtALine (headed texts)
at_headed [] = record { line = first; kind = refl }
at_headed (head ∷ texts) = at_choice (bytes_eq head (codes "wx scene 1 chrome")) _ _ (at_scene_from (lines_added 2 fresh texts) (at_lines_added 2 fresh texts second)) (record { line = first; kind = refl })

pub names_a_line : (r : Result Scene SceneReadFault) (text : List ℕ) → ReadsResult r (scene_of text) → IfErr r NamesALine
names_a_line (Ok scene) text h = tt
names_a_line (Err fault.NoMemory) text h = tt
names_a_line (Err (fault.Bad f)) text h = subst AtALine h (at_headed (lines_of text))
