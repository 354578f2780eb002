-- Histories after what others do, and steps at a desk, one after the other.
use Rattle.std.proofs.Common.{◌≡◌, ℕ, ◌+◌, List, [], ◌∷◌, ◌++◌, cond, Bool, true, false, Some, refl, ap, sym, ◌∙◌, append_assoc, arith}
use Rattle.std.specs.Prelude.{reverse}
use Rattle.std.proofs.lemmas.List.{append-nil, map-append, length-reverse, reverse-append}
use Rattle.std.proofs.lemmas.List.Sums.{sum_by-cons}
use Rattle.std.proofs.lemmas.List.Elements.{All-nil, All-head, All-tail, All-append}
use Rattle.wx_machine.specs.declared.entries.Who.{Who}
use Rattle.wx_machine.specs.declared.entries.Call.{Call}
use Rattle.wx_machine.specs.declared.entries.Answer.{Answer}
use Rattle.wx_machine.specs.declared.entries.Entry.{Entry}
use Rattle.wx_desk.specs.History.{Seen, entries_in, AreOthers, own_in}
use Rattle.wx_desk.specs.Desks.{DeskState, past_of, MakesNone, MakesOne}

pub others_none : AreOthers []
others_none = All-nil (λ (s : Seen). s.own ≡ false)

-- the first of others, and the rest of them
pub others_first : (s : Seen) (others : List Seen) → AreOthers (s ∷ others) → s.own ≡ false
others_first s others none = All-head (λ (s : Seen). s.own ≡ false) s others none

pub others_rest : (s : Seen) (others : List Seen) → AreOthers (s ∷ others) → AreOthers others
others_rest s others none = All-tail (λ (s : Seen). s.own ≡ false) s others none

pub own_in-cons : (s : Seen) (history : List Seen) → own_in (s ∷ history) ≡ cond s.own 1 0 + own_in history
own_in-cons s history = sum_by-cons (λ (s : Seen). cond s.own 1 0) s history

pub own_in-others : (others history : List Seen) → AreOthers others → own_in (others ++ history) ≡ own_in history
own_in-others [] history none = refl
own_in-others (s ∷ others) history none =
    own_in-cons s (others ++ history)
    ∙ ap (λ (b : Bool). cond b 1 0 + own_in (others ++ history)) (others_first s others none)
    ∙ omega (arith, own_in-others others history (others_rest s others none))

module _ {A : Type 0} {as_who : A → Who} where
  pub makes_none : (desk : DeskState A as_who) → MakesNone desk desk
  makes_none desk = record {
    others = [];
    none_own = others_none;
    none_came = λ is. refl;
    seen = refl;
    same_who = refl;
    same_world = refl;
    same_alone = refl;
  }

  pub none_twice : (a b c : DeskState A as_who) → MakesNone a b → MakesNone b c → MakesNone a c
  none_twice a b c first second = record {
    others = second.others ++ first.others;
    none_own = All-append (λ (s : Seen). s.own ≡ false) second.others first.others second.none_own first.none_own;
    none_came = λ is. ap (λ o. o ++ first.others) (second.none_came (first.same_alone ∙ is)) ∙ first.none_came is;
    seen = second.seen ∙ ap (λ h. second.others ++ h) first.seen ∙ sym (append_assoc second.others first.others a.history);
    same_who = second.same_who ∙ first.same_who;
    same_world = second.same_world ∙ first.same_world;
    same_alone = second.same_alone ∙ first.same_alone;
  }

  abbrev pub none_then_one : (a b c : DeskState A as_who) (call : Call) (answer : Answer) → MakesNone a b → MakesOne b c call answer → MakesOne a c call answer
  none_then_one a b c call answer none one =
      record { between = one.between; others = none_twice a b one.between none one.others; made = one.made }

  -- the journal grew by what others did
  pub past_grown : (old new : DeskState A as_who) (none : MakesNone old new) → past_of new ≡ entries_in none.others ++ past_of old
  past_grown old new none = ap entries_in none.seen ∙ map-append (λ (s : Seen). s.entry) none.others old.history
