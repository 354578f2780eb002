-- One more turn of a round.
use Rattle.std.proofs.Common.{◌≡◌, ℕ, ◌+◌, ◌-◌, ◌<◌, ◌≤◌, length, take, set, get_or, arith, Bool, true, false, List, [], ◌∷◌, ◌++◌, Some, None, refl, sym, ap, ◌∙◌, subst, inl, inr, eqb}
use Rattle.std.specs.Prelude.{slice_get}
use Rattle.std.proofs.lemmas.Bool.{cases_lt, eqb-true, eq-eqb}
use Rattle.std.proofs.lemmas.Option.{slice_get_read, slice_get_within}
use Rattle.std.proofs.Math.Seq.{take-length}
use Rattle.wx_id.specs.declared.numbers.ContextNo.{ContextNo}
use Rattle.wx_external.specs.World.{WorldLists}
use Rattle.wx_machine.specs.declared.entries.Who.TheVariants.{Context as ByContext}
use Rattle.wx_machine.specs.declared.entries.Entry.{Entry}
use Rattle.wx_machine.specs.Words.{hosts}
use Rattle.wx_script.specs.declared.script.Command.{Command}
use Rattle.wx_script.specs.Places.{next_of}
use Rattle.wx_script.specs.Carries.{FollowsScript, AskedOf, MayCome}
use Rattle.wx_script.specs.Ends.{numbered, is_idle, AreIdle, entries_by, entry_limit}
use Rattle.wx_desk.specs.History.{seen_by}
use Rattle.wx_endpoint.specs.History.{CarriesOn}
use Rattle.wx_endpoint.specs.Turn.{CursorState}
use Rattle.wx_script.specs.declared.scene.SpentWho.TheVariants.{Endpoint}
use Rattle.wx_run.specs.declared.rounds.Rounded.TheVariants.{Idle, Spent}
use Rattle.wx_run.specs.Cursors.{cursor_of, cursors_from, AreBehind, is_spent_at, first_spent_in, work_in, scripts_in}
use Rattle.wx_run.specs.Rounds.{Turn, Turns}
use Rattle.wx_run.specs.Step.{IsReady, Moves, Rests}
use Rattle.wx_run.specs.Round.{AllStand, IsWithinLimit, AreIdleBelow, IdleUnlessMoved, RoundSoFar, IsRound, SpendsEndpoint, Falls, Lessens}
use Rattle.wx_id.proofs.ListLemmas.{set_same}
use Rattle.wx_run.proofs.ListLemmas.{take-snoc, length-take-at, element_at, sum_by-less}
use Rattle.wx_run.proofs.SeenLemmas.{carries_on}
use Rattle.wx_run.proofs.CursorLemmas.{cursors_from-own, slice_get-cursors_from, length-cursors_from, scripts_in-cursors_from, entries_by-own, entries_by-other}
use Rattle.wx_run.proofs.HostLemmas.{one_host_more}
use Rattle.wx_run.proofs.EndLemmas.{spent_behind}
use Rattle.wx_run.proofs.FirstLemmas.{none_at, none-set, found-set}

-- the endpoint of number i, its cursor, and the cursors behind its turn
pub record At (scripts : List (List Command)) (i : ℕ) (ps qs : List CursorState) (p q : CursorState) : Type 0 where
  pub script : List Command
  pub is_endpoint : slice_get scripts i ≡ Some script
  pub stands : slice_get ps i ≡ Some p
  pub below : i < length ps
  pub changed : qs ≡ set ps i q

pub length_behind : (scripts : List (List Command)) (ps : List CursorState) (past : List Entry) → AreBehind scripts ps past → length ps ≡ length scripts
length_behind scripts ps past behind = ap length behind ∙ length-cursors_from scripts 0 past

pub scripts_behind : (scripts : List (List Command)) (ps : List CursorState) (past : List Entry) → AreBehind scripts ps past → scripts_in ps ≡ scripts
scripts_behind scripts ps past behind = ap scripts_in behind ∙ scripts_in-cursors_from scripts 0 past

pub at_index : (scripts : List (List Command)) (ps : List CursorState) (i : ℕ) (p q : CursorState) (past : List Entry) → AreBehind scripts ps past → i < length ps → p ≡ get_or ps i p → At scripts i ps (set ps i q) p q
at_index scripts ps i p q past behind below is =
    let len : length ps ≡ length scripts = length_behind scripts ps past behind in
    let script = element_at scripts i (omega (arith, len)) in
    record { script = script.0; is_endpoint = script.1; stands = slice_get_read ps (length ps) i p refl below is; below = below; changed = refl }

-- its cursor is the one behind its endpoint's entries
stands_at : (scripts : List (List Command)) (i : ℕ) (ps qs : List CursorState) (p q : CursorState) (past : List Entry) → AreBehind scripts ps past → (at : At scripts i ps qs p q) → p ≡ cursor_of at.script (numbered i) past
stands_at scripts i ps qs p q past behind at =
    let there : slice_get ps i ≡ Some (cursor_of at.script (numbered i) past) = rw behind (slice_get-cursors_from scripts 0 i i at.script past at.is_endpoint (omega arith)) in
    let both : Some p ≡ Some (cursor_of at.script (numbered i) past) = sym at.stands ∙ there in
    cc

pub ready_at : (world : WorldLists) (scripts : List (List Command)) (i : ℕ) (ps qs : List CursorState) (p q : CursorState) (past : List Entry) → AllStand world scripts ps past → first_spent_in 0 ps ≡ None
    → At scripts i ps qs p q → IsReady world (numbered i) p past
ready_at world scripts i ps qs p q past stand unspent at =
    let p_is = stands_at scripts i ps qs p q past stand.behind at in
    let same_script : at.script ≡ p.script = sym (ap (λ (p : CursorState). p.script) p_is) in
    let below : i < length scripts = slice_get_within scripts i at.script at.is_endpoint in
    record {
      legal = stand.legal;
      given = (let all = stand.all_in in omega arith);
      behind = p_is ∙ ap (λ s. cursor_of s (numbered i) past) same_script;
      carries = subst (λ s. CarriesOn s (numbered i) (seen_by (ByContext (numbered i)) past)) same_script (carries_on scripts at.script (numbered i) past at.is_endpoint stand.follows);
      unspent = none_at is_spent_at ps 0 i p unspent at.stands;
    }

pub Turns-snoc : (ss : List (List Command)) (s : List Command) (n m : ℕ) (a b c : List Entry) → m ≡ n + length ss → Turns ss n a b → Turn s (numbered m) b c → Turns (ss ++ s ∷ []) n a c
Turns-snoc [] s n m a b c at so turn =
    let here : m ≡ n = omega arith in
    (c, subst (λ n. Turn s (numbered n) a c) here (subst (λ b. Turn s (numbered m) b c) so turn), refl)
Turns-snoc (x ∷ ss) s n m a b c at so turn =
    let next : m ≡ n + 1 + length ss = omega arith in
    (so.0, so.1, Turns-snoc ss s (n + 1) m so.0 b c next so.2 turn)

turns_step : (scripts : List (List Command)) (i : ℕ) (s : List Command) (a b c : List Entry) → slice_get scripts i ≡ Some s → Turns (take i scripts) 0 a b → Turn s (numbered i) b c → Turns (take (i + 1) scripts) 0 a c
turns_step scripts i s a b c is so turn = rw (take-snoc scripts i s is) (Turns-snoc (take i scripts) s 0 i a b c (length-take-at scripts i s is) so turn)

-- an entry that its endpoint's script asks for
pub follows_script : (scripts : List (List Command)) (past : List Entry) (c : ContextNo) (s : List Command) (e : Entry) → e.who ≡ ByContext c → slice_get scripts c.0 ≡ Some s → MayCome past c (next_of s c past) e → FollowsScript scripts past e
follows_script scripts past c s e own is asked =
    let here : AskedOf scripts past (ByContext c) e = record { script = s; is_endpoint = is; asked = asked } in
    subst (λ w. AskedOf scripts past w e) (sym own) here

-- one more entry of a context that has entries left
pub within_more : (c : ContextNo) (past : List Entry) (e : Entry) → e.who ≡ ByContext c → entries_by c past < entry_limit → IsWithinLimit past → IsWithinLimit (e ∷ past)
within_more c past e own less within d =
    let so : entries_by d past ≤ entry_limit = within d in
    elim (eqb c.0 d.0) as (λ b. eqb c.0 d.0 ≡ b → entries_by d (e ∷ past) ≤ entry_limit) [
      | true ↦ λ is.
          let same : c.0 ≡ d.0 = eqb-true c.0 d.0 is in
          let count : entries_by c past ≡ entries_by d past = ap (λ n. entries_by (numbered n) past) same in
          let more : entries_by d (e ∷ past) ≡ entries_by d past + 1 = entries_by-own d past e (own ∙ ap (λ n. ByContext (numbered n)) same) in
          omega (arith, less, count, more)
      | false ↦ λ is.
          let more : entries_by d (e ∷ past) ≡ entries_by d past = entries_by-other c d past e own (λ same. let never : true ≡ false = sym (eq-eqb c.0 d.0 same) ∙ is in cc) in
          omega (arith, so, more)
    ] refl

moved_stand : (world : WorldLists) (scripts : List (List Command)) (i : ℕ) (ps qs : List CursorState) (p q : CursorState) (b c : List Entry) → AllStand world scripts ps b → At scripts i ps qs p q → Moves world (numbered i) p q b c → AllStand world scripts qs c
moved_stand world scripts i ps qs p q b c stand at moves =
    let p_is = stands_at scripts i ps qs p q b stand.behind at in
    let e = moves.entry in
    let same_script : p.script ≡ at.script = ap (λ (p : CursorState). p.script) p_is in
    let q_is : q ≡ cursor_of at.script (numbered i) (e ∷ b) = moves.behind ∙ ap (λ s. cursor_of s (numbered i) c) same_script ∙ ap (λ c. cursor_of at.script (numbered i) c) moves.made in
    let asked : MayCome b (numbered i) (next_of at.script (numbered i) b) e = subst (λ s. MayCome b (numbered i) (next_of s (numbered i) b) e) same_script moves.asked in
    let here : AllStand world scripts qs (e ∷ b) = record {
      legal = (stand.legal, moves.follows);
      behind = at.changed ∙ ap (λ ps. set ps i q) stand.behind ∙ ap (λ q. set (cursors_from scripts 0 b) i q) q_is ∙ sym (cursors_from-own scripts 0 i i at.script b e at.is_endpoint (omega arith) moves.own);
      follows = (stand.follows, follows_script scripts b (numbered i) at.script e moves.own at.is_endpoint asked);
      all_in = (let all = stand.all_in in omega (arith, all));
      within_limit = within_more (numbered i) b e moves.own moves.within_limit stand.within_limit;
    } in
    subst (λ c. AllStand world scripts qs c) (sym moves.made) here

idle_step : (scripts : List (List Command)) (i : ℕ) (s : List Command) (a b : List Entry) → AreIdleBelow scripts i a b → slice_get scripts i ≡ Some s → is_idle b (numbered i) (next_of s (numbered i) b) ≡ true → AreIdleBelow scripts (i + 1) a b
idle_step scripts i s a b idle is now = record {
  same = idle.same;
  idle = λ c t below is_c. elim (cases_lt c i) [
    | inl lt ↦ idle.idle c t lt is_c
    | inr le ↦
        let here : i ≡ c = omega arith in
        let same : s ≡ t = (let both : Some s ≡ Some t = sym is ∙ ap (λ c. slice_get scripts c) here ∙ is_c in cc) in
        subst (λ j. is_idle j (numbered c) (next_of t (numbered c) j) ≡ true) idle.same
        (subst (λ c. is_idle b (numbered c) (next_of t (numbered c) b) ≡ true) here (subst (λ s. is_idle b (numbered i) (next_of s (numbered i) b) ≡ true) same now))
  ];
}

-- the turn of an endpoint that makes an entry, behind which it is not spent
pub round_moves : (world : WorldLists) (scripts : List (List Command)) (i : ℕ) (ps qs : List CursorState) (p q : CursorState) (a b c : List Entry) (moved : Bool)
    → RoundSoFar world scripts i ps a b moved → At scripts i ps qs p q → Moves world (numbered i) p q b c → is_spent_at q ≡ false → RoundSoFar world scripts (i + 1) qs a c true
round_moves world scripts i ps qs p q a b c moved so at moves is = record {
  stand = moved_stand world scripts i ps qs p q b c so.stand at moves;
  unspent = ap (first_spent_in 0) at.changed ∙ none-set is_spent_at ps 0 i q so.unspent is;
  turns = turns_step scripts i at.script a b c at.is_endpoint so.turns (inl (record { entry = moves.entry; own = moves.own; made = moves.made }));
  idle = tt;
}

-- the turn of an endpoint that makes an entry, behind which it is spent
pub round_spends : (world : WorldLists) (scripts : List (List Command)) (i : ℕ) (ps qs : List CursorState) (p q : CursorState) (a b c : List Entry) (moved : Bool)
    → RoundSoFar world scripts i ps a b moved → At scripts i ps qs p q → Moves world (numbered i) p q b c → is_spent_at q ≡ true
    → AllStand world scripts qs c × IsRound scripts qs a c (Spent (Endpoint i))
round_spends world scripts i ps qs p q a b c moved so at moves is =
    let stand = moved_stand world scripts i ps qs p q b c so.stand at moves in
    let spends : SpendsEndpoint scripts i a c = record {
      past = b;
      earlier = so.turns;
      last = moves.entry;
      made = moves.made;
      turns = turns_step scripts i at.script a b c at.is_endpoint so.turns (inl (record { entry = moves.entry; own = moves.own; made = moves.made }));
      unspent = spent_behind scripts ps b so.stand.behind ∙ so.unspent;
      spent = spent_behind scripts qs c stand.behind ∙ ap (first_spent_in 0) at.changed ∙ found-set is_spent_at ps 0 i i q at.below (omega arith) so.unspent is;
    } in
    (stand, spends)

same_cursors : (scripts : List (List Command)) (i : ℕ) (ps qs : List CursorState) (p q : CursorState) → At scripts i ps qs p q → q ≡ p → qs ≡ ps
same_cursors scripts i ps qs p q at same = at.changed ∙ ap (λ q. set ps i q) same ∙ set_same ps i p at.stands

-- the turn of an endpoint that can do nothing
pub round_rests : (world : WorldLists) (scripts : List (List Command)) (i : ℕ) (ps qs : List CursorState) (p q : CursorState) (a b c : List Entry) (moved : Bool)
    → RoundSoFar world scripts i ps a b moved → At scripts i ps qs p q → Rests (numbered i) p q b c → RoundSoFar world scripts (i + 1) qs a c moved
round_rests world scripts i ps qs p q a b c moved so at rests =
    let same : qs ≡ ps = same_cursors scripts i ps qs p q at rests.same_cursor in
    let p_is = stands_at scripts i ps qs p q b so.stand.behind at in
    let idle : is_idle b (numbered i) (next_of at.script (numbered i) b) ≡ true = subst (λ s. is_idle b (numbered i) (next_of s (numbered i) b) ≡ true) (ap (λ (p : CursorState). p.script) p_is) rests.idle in
    let here : RoundSoFar world scripts (i + 1) ps a b moved = record {
      stand = so.stand;
      unspent = so.unspent;
      turns = turns_step scripts i at.script a b b at.is_endpoint so.turns (inr (record { idle = idle; same = refl }));
      idle = elim moved as (λ m. IdleUnlessMoved scripts i a b m → IdleUnlessMoved scripts (i + 1) a b m) [
        | true ↦ λ g. g
        | false ↦ λ g. idle_step scripts i at.script a b g at.is_endpoint idle
      ] so.idle;
    } in
    subst (λ c. RoundSoFar world scripts (i + 1) qs a c moved) (sym rests.same) (subst (λ qs. RoundSoFar world scripts (i + 1) qs a b moved) (sym same) here)

-- ---- fewer entries may still be made

moves_less : (world : WorldLists) (scripts : List (List Command)) (i : ℕ) (ps qs : List CursorState) (p q : CursorState) (b c : List Entry) → AllStand world scripts ps b → At scripts i ps qs p q → Moves world (numbered i) p q b c → work_in qs < work_in ps
moves_less world scripts i ps qs p q b c stand at moves =
    let p_is = stands_at scripts i ps qs p q b stand.behind at in
    let made : p.made ≡ entries_by (numbered i) b = ap (λ (p : CursorState). p.made) p_is in
    let more : q.made ≡ entries_by (numbered i) b + 1 =
    ap (λ (q : CursorState). q.made) moves.behind ∙ ap (entries_by (numbered i)) moves.made ∙ entries_by-own (numbered i) b moves.entry moves.own in
    let less : entry_limit - q.made < entry_limit - p.made = (let below = moves.within_limit in omega arith) in
    rw at.changed (sum_by-less (λ (cursor : CursorState). entry_limit - cursor.made) ps i p q at.stands less)

turn_falls : (moved : Bool) (old before now : ℕ) → Falls moved old before → now < before → Falls true old now
turn_falls true old before now fell less = omega arith
turn_falls false old before now fell less = omega arith

-- fewer entries may be made behind one, which calls one host at most
pub moves_lessen : (world : WorldLists) (scripts : List (List Command)) (i : ℕ) (rs ps qs : List CursorState) (p q : CursorState) (a b c : List Entry) (moved : Bool)
    → AllStand world scripts ps b → At scripts i ps qs p q → Moves world (numbered i) p q b c → Lessens moved rs ps a b → Lessens true rs qs a c
moves_lessen world scripts i rs ps qs p q a b c moved stand at moves less =
    let fewer = moves_less world scripts i ps qs p q b c stand at moves in
    let called : length (hosts c) ≤ length (hosts b) + 1 = subst (λ j. length (hosts j) ≤ length (hosts b) + 1) (sym moves.made) (one_host_more b moves.entry) in
    record {
      fewer = turn_falls moved (work_in rs) (work_in ps) (work_in qs) less.fewer fewer;
      one_host_each = (let before = less.one_host_each in omega (arith, before, fewer, called));
    }

pub rests_lessen : (scripts : List (List Command)) (i : ℕ) (rs ps qs : List CursorState) (p q : CursorState) (a b c : List Entry) (moved : Bool)
    → At scripts i ps qs p q → Rests (numbered i) p q b c → Lessens moved rs ps a b → Lessens moved rs qs a c
rests_lessen scripts i rs ps qs p q a b c moved at rests less =
    subst (λ c. Lessens moved rs qs a c) (sym rests.same)
    (subst (λ qs. Lessens moved rs qs a b) (sym (same_cursors scripts i ps qs p q at rests.same_cursor)) less)

pub round_begins : (world : WorldLists) (scripts : List (List Command)) (ps : List CursorState) (a : List Entry) → AllStand world scripts ps a → first_spent_in 0 ps ≡ None → RoundSoFar world scripts 0 ps a a false
round_begins world scripts ps a stand unspent = record { stand = stand; unspent = unspent; turns = refl; idle = record { same = refl; idle = λ c s below is. absurd (omega arith) } }

-- ---- a whole round

pub all_turns : (world : WorldLists) (scripts : List (List Command)) (i : ℕ) (ps : List CursorState) (a b : List Entry) (moved : Bool) → i ≡ length scripts → RoundSoFar world scripts i ps a b moved → Turns scripts 0 a b
all_turns world scripts i ps a b moved all so = subst (λ t. Turns t 0 a b) (ap (λ i. take i scripts) all ∙ take-length scripts) so.turns

pub all_idle : (world : WorldLists) (scripts : List (List Command)) (i : ℕ) (ps : List CursorState) (a b : List Entry) → i ≡ length scripts → RoundSoFar world scripts i ps a b false → IsRound scripts ps a b Idle
all_idle world scripts i ps a b all so =
    let idle = so.idle in
    let all_are : AreIdle scripts a = λ c s is. let below : c < length scripts = slice_get_within scripts c s is in idle.idle c s (omega arith) is in
    (all_turns world scripts i ps a b false all so, so.unspent, all_are, idle.same)
