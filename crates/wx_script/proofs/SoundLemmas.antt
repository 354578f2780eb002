-- Every scene that is read has sound scripts.
use Rattle.std.proofs.Common.{◌≡◌, ℕ, zero, suc, ◌+◌, ◌≤◌, ◌<◌, cond, arith, Bool, true, false, List, [], ◌∷◌, ◌++◌, Some, None, Ok, Err, length, get_or, refl, sym, subst}
use Rattle.std.specs.Prelude.{IfOk, IfSome, Result, All, nat_le, nat_lt, not, ok_or, ◌==◌}
use Rattle.std.specs.declared.option.Option.{Option}
use Rattle.std.specs.List.{position_or_len}
use Rattle.std.specs.Str.{bytes_eq}
use Rattle.std.proofs.lemmas.Bool.{ltb-true}
use Rattle.std.proofs.lemmas.Bool.Decides.{nat_tests}
use Rattle.std.proofs.lemmas.List.Elements.{All-append}
use Rattle.wx_id.specs.Results.{◌>>=◌}
use Rattle.wx_id.specs.Ids.{is_extension_id}
use Rattle.wx_script.specs.declared.script.Act.{Act}
use Rattle.wx_script.specs.declared.script.Act.TheVariants as act
use Rattle.wx_script.specs.declared.script.Var.{Var}
use Rattle.wx_script.specs.declared.script.Command.{Command}
use Rattle.wx_script.specs.declared.script.Command.TheVariants.{Plain, Repeat}
use Rattle.wx_script.specs.declared.scene.SceneKind.{SceneKind}
use Rattle.wx_script.specs.declared.scene.SceneKind.TheVariants as kind
use Rattle.wx_script.specs.declared.scene.SceneFault.{SceneFault}
use Rattle.wx_script.specs.declared.scene.SceneEndpoint.{SceneEndpoint}
use Rattle.wx_context.specs.declared.contexts.Context.{Context}
use Rattle.wx_script.specs.declared.line.Awaited.{Awaited}
use Rattle.wx_script.specs.declared.line.Awaited.TheVariants as event
use Rattle.wx_script.specs.declared.names.VariableNames.{VariableNames}
use Rattle.wx_script.specs.declared.scene.SceneExtension.{SceneExtension}
use Rattle.wx_script.specs.Line.{NamedAct, NamedCommand, Line, listen, connect, post, disconnect, send, reply, reply_same, decline, connect_native, send_native, take_one, await_event, echo, plain, repeat, comment, extension, host, endpoint, script, line_at}
use Rattle.wx_script.specs.Spelling.{IsNamedAct, IsNamedCommand, IsLine}
use Rattle.wx_script.specs.Names.{place_in, is_among, binding, has_extension, has_host, has_endpoint}
use Rattle.wx_script.specs.Draft.{Draft, no_variables, fresh, context_of, endpoint_pushed, var, place_or_next, bound, used, json_of, target_of, await_of, act_of, variables_after, named_act, command_by, commands, with_command, act_added, command_added, line_added}
use Rattle.wx_script.specs.Scene.{line_or_form, text_added, unless_faulty, lines_added}
use Rattle.wx_script.specs.Sound.{IsSoundAct, IsSoundCommand, IsSound, AreSound}
use Rattle.wx_script.proofs.LineLemmas.{line_read}

-- ---- each of a list

module _ {A : Type 0} (P : A → Type 0) where
  all_cons : (x : A) (xs : List A) → P x → All P xs → All P (x ∷ xs)
  all_cons x xs p all zero d h = p
  all_cons x xs p all (suc k) d h = all k d (omega (arith, h))

  all_head : (x : A) (xs : List A) → All P (x ∷ xs) → P x
  all_head x xs all = all 0 x (omega arith)

  all_tail : (x : A) (xs : List A) → All P (x ∷ xs) → All P xs
  all_tail x xs all k d h = all (suc k) d (omega (arith, h))

  all_one : (x : A) → P x → All P (x ∷ [])
  all_one x p = all_cons x [] p (λ k d h. absurd (omega (arith, h)))

-- ---- scripts that grow

sound_act_later : (n m : ℕ) (a : Act) → n ≤ m → IsSoundAct n a → IsSoundAct m a
sound_act_later n m (act.Listen l) le h = tt
sound_act_later n m (act.Connect v target name) le h = omega (arith, le, h)
sound_act_later n m (act.Post v text) le h = omega (arith, le, h)
sound_act_later n m (act.Disconnect v) le h = omega (arith, le, h)
sound_act_later n m (act.Send v target text) le h = omega (arith, le, h)
sound_act_later n m (act.Reply v text) le h = omega (arith, le, h)
sound_act_later n m (act.ReplySame v) le h = omega (arith, le, h)
sound_act_later n m (act.Decline v) le h = omega (arith, le, h)
sound_act_later n m (act.Native v name) le h = omega (arith, le, h)
sound_act_later n m (act.Ask v name text) le h = omega (arith, le, h)
sound_act_later n m act.Take le h = tt
sound_act_later n m (act.AwaitConnect v) le h = omega (arith, le, h)
sound_act_later n m (act.AwaitMessage v) le h = omega (arith, le, h)
sound_act_later n m (act.AwaitRequest v) le h = omega (arith, le, h)
sound_act_later n m (act.AwaitReply v) le h = omega (arith, le, h)
sound_act_later n m (act.AwaitClose v) le h = omega (arith, le, h)
sound_act_later n m (act.Echo k) le h = h

sound_later : (n m : ℕ) (c : Command) → n ≤ m → IsSoundCommand n c → IsSoundCommand m c
sound_later n m (Plain a) le h = sound_act_later n m a le h
sound_later n m (Repeat k a) le h = (h.0, sound_act_later n m a le h.1)

length-snoc : {A : Type 0} (xs : List A) (x : A) → length (xs ++ x ∷ []) ≡ length xs + 1
length-snoc [] x = refl
length-snoc (y ∷ xs) x = omega (arith, length-snoc xs x)

sound_push : (cs : List Command) (c : Command) → IsSound cs → IsSoundCommand (length cs + 1) c → IsSound (cs ++ c ∷ [])
sound_push cs c h new =
    subst (λ n. All (IsSoundCommand n) (cs ++ c ∷ [])) (sym (length-snoc cs c))
    (All-append (IsSoundCommand (length cs + 1)) cs (c ∷ []) (λ k d within. sound_later (length cs) (length cs + 1) (get_or cs k d) (omega arith) (h k d within)) (all_one (IsSoundCommand (length cs + 1)) c new))

abbrev HasSound : SceneEndpoint → Type 0
HasSound e = IsSound e.script

sound_with_command : (c : Command) (es : List SceneEndpoint) → AreSound es → IsSoundCommand (commands es + 1) c → AreSound (with_command c es)
sound_with_command c [] h new = h
sound_with_command c (e ∷ []) h new = all_one HasSound _ (sound_push e.script c (all_head HasSound e [] h) new)
sound_with_command c (e ∷ f ∷ es) h new = all_cons HasSound e _ (all_head HasSound e (f ∷ es) h) (sound_with_command c (f ∷ es) (all_tail HasSound e (f ∷ es) h) new)

-- ---- an act's variable

place_below : (name : List ℕ) (names : List (List ℕ)) → IfSome (place_in name names) (λ n. n < length names)
place_below name names = at (nat_lt (position_or_len (bytes_eq name) names) (length names)) refl
  where
    at : (t : Bool) → nat_lt (position_or_len (bytes_eq name) names) (length names) ≡ t → IfSome (cond t (Some (position_or_len (bytes_eq name) names)) None) (λ n. n < length names)
    at true less = ltb-true (position_or_len (bytes_eq name) names) (length names) less
    at false less = tt

-- the variables of each sort are at most n
record AreAtMost (n : ℕ) (variables : VariableNames) : Type 0 where
  channels : length variables.channels ≤ n
  asked : length variables.asked ≤ n
  received : length variables.received ≤ n

sound_bound : (name : List ℕ) (names : List (List ℕ)) (n : ℕ) → length names ≤ n → (bound name names).0 < n + 1
sound_bound name names n most = at (place_in name names) (place_below name names)
  where
    at : (place : Option ℕ) → IfSome place (λ k. k < length names) → place_or_next place names < n + 1
    at None h = omega (arith, most)
    at (Some k) h = omega (arith, h, most)

-- what follows whatever came before
sound_then : {A : Type 0} (n : ℕ) (r : Result A SceneKind) (f : A → Result Act SceneKind) → ((x : A) → IfOk (f x) (IsSoundAct n)) → IfOk (r >>= f) (IsSoundAct n)
sound_then n (Ok x) f each = each x
sound_then n (Err k) f each = tt

-- what follows of a variable that is used
sound_used : (name : List ℕ) (names : List (List ℕ)) (n : ℕ) (f : Var → Result Act SceneKind) → length names ≤ n → ((v : Var) → v.0 < n + 1 → IfOk (f v) (IsSoundAct (n + 1)))
    → IfOk (used name names >>= f) (IsSoundAct (n + 1))
sound_used name names n f most each = at (place_in name names) (place_below name names)
  where
    at : (place : Option ℕ) → IfSome place (λ k. k < length names) → IfOk ((ok_or place kind.Unbound >>= (λ n. Ok (var n))) >>= f) (IsSoundAct (n + 1))
    at None h = tt
    at (Some k) h = each (var k) (omega (arith, h, most))

sound_await_of : (variables : VariableNames) (n : ℕ) (awaited : Awaited) (name : List ℕ) → AreAtMost n variables → IfOk (await_of variables awaited name) (IsSoundAct (n + 1))
sound_await_of variables n event.Connect name most = sound_bound name variables.channels n most.channels
sound_await_of variables n event.Message name most = sound_used name variables.channels n _ most.channels (λ v below. below)
sound_await_of variables n event.Request name most = sound_bound name variables.received n most.received
sound_await_of variables n event.Reply name most = sound_used name variables.asked n _ most.asked (λ v below. below)
sound_await_of variables n event.Close name most = sound_used name variables.channels n _ most.channels (λ v below. below)

sound_act_of : (extensions : List SceneExtension) (variables : VariableNames) (n : ℕ) (a : NamedAct) → IsNamedAct a → AreAtMost n variables → IfOk (act_of extensions variables a) (IsSoundAct (n + 1))
sound_act_of extensions variables n (listen l) h most = tt
sound_act_of extensions variables n (connect name target port) h most = sound_then (n + 1) (target_of extensions target) _ (λ t. sound_bound name variables.channels n most.channels)
sound_act_of extensions variables n (post name text) h most = sound_used name variables.channels n _ most.channels (λ v below. sound_then (n + 1) (json_of text) _ (λ json. below))
sound_act_of extensions variables n (disconnect name) h most = sound_used name variables.channels n _ most.channels (λ v below. below)
sound_act_of extensions variables n (send name target text) h most =
    sound_then (n + 1) (target_of extensions target) _ (λ t. sound_then (n + 1) (json_of text) _ (λ json. sound_bound name variables.asked n most.asked))
sound_act_of extensions variables n (reply name text) h most = sound_used name variables.received n _ most.received (λ v below. sound_then (n + 1) (json_of text) _ (λ json. below))
sound_act_of extensions variables n (reply_same name) h most = sound_used name variables.received n _ most.received (λ v below. below)
sound_act_of extensions variables n (decline name) h most = sound_used name variables.received n _ most.received (λ v below. below)
sound_act_of extensions variables n (connect_native name host_name) h most = sound_bound name variables.channels n most.channels
sound_act_of extensions variables n (send_native name host_name text) h most = sound_then (n + 1) (json_of text) _ (λ json. sound_bound name variables.asked n most.asked)
sound_act_of extensions variables n take_one h most = tt
sound_act_of extensions variables n (await_event awaited name) h most = sound_await_of variables n awaited name most
sound_act_of extensions variables n (echo k) h most = h

-- ---- the scene so far

-- its scripts are sound, and the last one binds no more variables of a sort than it has commands
record IsSoundDraft (d : Draft) : Type 0 where
  scripts : AreSound d.endpoints
  variables : AreAtMost (commands d.endpoints) d.variables

abbrev Sound : Result Draft SceneKind → Type 0
Sound r = IfOk r IsSoundDraft

choice : (b : Bool) (x y : Result Draft SceneKind) → Sound x → Sound y → Sound (cond b x y)
choice true x y hx hy = hx
choice false x y hx hy = hy

commands-append : (es : List SceneEndpoint) (e : SceneEndpoint) → commands (es ++ e ∷ []) ≡ length e.script
commands-append [] e = refl
commands-append (f ∷ []) e = refl
commands-append (f ∷ g ∷ es) e = commands-append (g ∷ es) e

commands-with_command : (c : Command) (es : List SceneEndpoint) → 0 < length es → commands (with_command c es) ≡ commands es + 1
commands-with_command c [] h = absurd (omega (arith, h))
commands-with_command c (e ∷ []) h = length-snoc e.script c
commands-with_command c (e ∷ f ∷ []) h = length-snoc f.script c
commands-with_command c (e ∷ f ∷ g ∷ es) h = commands-with_command c (f ∷ g ∷ es) (omega arith)

length-binding : (name : List ℕ) (names : List (List ℕ)) → length (binding name names) ≤ length names + 1
length-binding name names =
    elim (is_among name names) as (λ t. length (cond t names (names ++ name ∷ [])) ≤ length names + 1) [
      | true ↦ omega arith
      | false ↦ omega (arith, length-snoc names name)
    ]

one_more : (n : ℕ) (variables : VariableNames) → AreAtMost n variables → AreAtMost (n + 1) variables
one_more n variables most = record { channels = omega (arith, most.channels); asked = omega (arith, most.asked); received = omega (arith, most.received) }

more_channels : (n : ℕ) (variables : VariableNames) (name : List ℕ) → AreAtMost n variables → AreAtMost (n + 1) (record variables { channels = binding name variables.channels })
more_channels n variables name most =
    record { channels = omega (arith, length-binding name variables.channels, most.channels); asked = omega (arith, most.asked); received = omega (arith, most.received) }

more_asked : (n : ℕ) (variables : VariableNames) (name : List ℕ) → AreAtMost n variables → AreAtMost (n + 1) (record variables { asked = binding name variables.asked })
more_asked n variables name most =
    record { channels = omega (arith, most.channels); asked = omega (arith, length-binding name variables.asked, most.asked); received = omega (arith, most.received) }

more_received : (n : ℕ) (variables : VariableNames) (name : List ℕ) → AreAtMost n variables → AreAtMost (n + 1) (record variables { received = binding name variables.received })
more_received n variables name most =
    record { channels = omega (arith, most.channels); asked = omega (arith, most.asked); received = omega (arith, length-binding name variables.received, most.received) }

-- an act binds one variable at most
most_after : (n : ℕ) (variables : VariableNames) (a : NamedAct) → AreAtMost n variables → AreAtMost (n + 1) (variables_after variables a)
most_after n variables (listen l) most = one_more n variables most
most_after n variables (connect name target port) most = more_channels n variables name most
most_after n variables (post name text) most = one_more n variables most
most_after n variables (disconnect name) most = one_more n variables most
most_after n variables (send name target text) most = more_asked n variables name most
most_after n variables (reply name text) most = one_more n variables most
most_after n variables (reply_same name) most = one_more n variables most
most_after n variables (decline name) most = one_more n variables most
most_after n variables (connect_native name host_name) most = more_channels n variables name most
most_after n variables (send_native name host_name text) most = more_asked n variables name most
most_after n variables take_one most = one_more n variables most
most_after n variables (await_event event.Connect name) most = more_channels n variables name most
most_after n variables (await_event event.Message name) most = one_more n variables most
most_after n variables (await_event event.Request name) most = more_received n variables name most
most_after n variables (await_event event.Reply name) most = one_more n variables most
most_after n variables (await_event event.Close name) most = one_more n variables most
most_after n variables (echo k) most = one_more n variables most

none_bound : (n : ℕ) → AreAtMost n no_variables
none_bound n = record { channels = omega arith; asked = omega arith; received = omega arith }

-- a new endpoint has no commands
sound_endpoint : (d : Draft) (e : SceneEndpoint) → e.script ≡ [] → IsSoundDraft d → IsSoundDraft (record d { endpoints = d.endpoints ++ e ∷ []; variables = no_variables })
sound_endpoint d e none h =
    record {
      scripts = All-append HasSound d.endpoints (e ∷ []) h.scripts (all_one HasSound e (subst IsSound (sym none) (λ k x within. absurd (omega (arith, within)))));
      variables = none_bound (commands (d.endpoints ++ e ∷ []));
    }

sound_after_context : (d : Draft) (name : List ℕ) (r : Result Context SceneKind) → IsSoundDraft d → Sound (r >>= endpoint_pushed d name)
sound_after_context d name (Err k) h = tt
sound_after_context d name (Ok context) h = choice (nat_le 1024 (length d.endpoints)) _ _ tt (sound_endpoint d _ refl h)

sound_command_by : (n m : ℕ) (c : NamedCommand) (a : Act) → n ≤ m → IsNamedCommand c → IsSoundAct n a → IsSoundCommand m (command_by c a)
sound_command_by n m (plain named) a le is h = sound_act_later n m a le h
sound_command_by n m (repeat k named) a le is h = (is.0, sound_act_later n m a le h)

sound_act_added : (d : Draft) (c : NamedCommand) (a : Result Act SceneKind) → 0 < length d.endpoints → IsNamedCommand c → IfOk a (IsSoundAct (commands d.endpoints + 1)) → IsSoundDraft d
    → Sound (a >>= (λ a. Ok (act_added d c a)))
sound_act_added d c (Err k) some is a_sound h = tt
sound_act_added d c (Ok a) some is a_sound h =
    let n = commands d.endpoints in
    record {
      scripts = sound_with_command (command_by c a) d.endpoints h.scripts (sound_command_by (n + 1) (n + 1) c a (omega arith) is a_sound);
      variables = subst (λ m. AreAtMost m (variables_after d.variables (named_act c))) (sym (commands-with_command (command_by c a) d.endpoints some)) (most_after n d.variables (named_act c) h.variables);
    }

is_named : (c : NamedCommand) → IsNamedCommand c → IsNamedAct (named_act c)
is_named (plain a) h = h
is_named (repeat n a) h = h.1

sound_command_added : (d : Draft) (c : NamedCommand) → IsNamedCommand c → IsSoundDraft d → Sound (command_added d c)
sound_command_added d c is h =
    let made = act_of d.extensions d.variables (named_act c) in
    elim (length d.endpoints == 0) as (λ t. (length d.endpoints == 0) ≡ t → Sound (cond t (Err kind.Order) (made >>= (λ a. Ok (act_added d c a))))) [
      | true ↦ λ none. tt
      | false ↦ λ there. sound_act_added d c made (grind (arith, nat_tests)) is (sound_act_of d.extensions d.variables (commands d.endpoints) (named_act c) (is_named c is) h.variables) h
    ] refl

sound_line_added : (d : Draft) (l : Line) → IsLine l → IsSoundDraft d → Sound (line_added d l)
sound_line_added d (comment text) is h = h
sound_line_added d (extension name id file) is h =
    choice (not (is_extension_id id)) _ _ tt (choice (has_extension name id d.extensions) _ _ tt (record { scripts = h.scripts; variables = h.variables }))
sound_line_added d (host file) is h = choice (has_host file d.hosts) _ _ tt (record { scripts = h.scripts; variables = h.variables })
sound_line_added d (endpoint name context) is h = choice (has_endpoint name d.endpoints) _ _ tt (sound_after_context d name (context_of d.extensions context) h)
sound_line_added d (script c) is h = sound_command_added d c is h

sound_text_added : (d : Draft) (text : List ℕ) → IsSoundDraft d → Sound (text_added d text)
sound_text_added d text h = at (line_at text) refl
  where
    at : (l : Option Line) → line_at text ≡ l → Sound (line_or_form d l)
    at None e = tt
    at (Some l) e = sound_line_added d l (line_read text l e).is_line h

sound_unless_faulty : (n : ℕ) (r : Result Draft SceneKind) (f : Draft → Result Draft SceneFault) → Sound r → ((d : Draft) → IsSoundDraft d → IfOk (f d) IsSoundDraft) → IfOk (unless_faulty n r f) IsSoundDraft
sound_unless_faulty n (Ok d) f h each = each d h
sound_unless_faulty n (Err k) f h each = tt

sound_lines_added : (n : ℕ) (d : Draft) (texts : List (List ℕ)) → IsSoundDraft d → IfOk (lines_added n d texts) IsSoundDraft
sound_lines_added n d [] h = h
sound_lines_added n d (text ∷ texts) h = sound_unless_faulty n (text_added d text) _ (sound_text_added d text h) (λ d h. sound_lines_added (n + 1) d texts h)

sound_fresh : IsSoundDraft fresh
sound_fresh = record { scripts = λ k d within. absurd (omega (arith, within)); variables = none_bound 0 }

-- the scripts of a scene that is read are sound
pub sound_scripts : (n : ℕ) (d : Draft) (texts : List (List ℕ)) → lines_added n fresh texts ≡ Ok d → AreSound d.endpoints
sound_scripts n d texts e = (let P : Result Draft SceneFault → Type 0 = λ r. IfOk r IsSoundDraft in subst P e (sound_lines_added n fresh texts sound_fresh)).scripts
