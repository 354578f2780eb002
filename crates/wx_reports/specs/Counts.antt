-- What a report counts, by the laws of messaging.
use Rattle.std.specs.Prelude.{ℕ, suc, zero, ◌+◌, length, List, cond}
use Rattle.wx_id.specs.declared.events.End.TheVariants.{Opener, Receiver}
use Rattle.wx_machine.specs.declared.entries.Entry.{Entry}
use Rattle.wx_machine.specs.Words.{contexts, hosts, work_of, is_for_channel, texts_taken, taken}
use Rattle.wx_laws.specs.PrefixLaw.{messages, given}

-- how many messages of channel k were given to its opener, and how many to its receivers
abbrev pub given_on : List Entry → ℕ → ℕ
given_on past k = length (given past k Opener) + length (given past k Receiver)

-- the sum of f over the numbers below n
abbrev pub sum_below : (ℕ → ℕ) → ℕ → ℕ
sum_below f zero = 0
sum_below f (suc n) = sum_below f n + f n

-- how many messages of channel k context c took
abbrev pub taken_by : List Entry → ℕ → ℕ → ℕ
taken_by past k c = length (messages k (taken past (record { 0 = c })))

-- how many texts host h took, where it works for channel k
abbrev pub taken_by_host : List Entry → ℕ → ℕ → ℕ
taken_by_host past k h = cond (is_for_channel k (work_of past (record { 0 = h })))
    (length (texts_taken past (record { 0 = h }))) 0

-- how many messages of channel k the contexts took and the hosts that work for it, each of them counted
abbrev pub taken_on : List Entry → ℕ → ℕ
taken_on past k = sum_below (taken_by past k) (contexts past) + sum_below (taken_by_host past k) (length (hosts past))
