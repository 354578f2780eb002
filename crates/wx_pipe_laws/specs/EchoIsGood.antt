-- The echo law of a pipe.
use Rattle.std.specs.Prelude.{◌≡◌, ℕ, true, List, [], Some, reverse}
use Rattle.wx_id.specs.declared.numbers.ChannelNo.{ChannelNo}
use Rattle.wx_id.specs.declared.numbers.HostNo.{HostNo}
use Rattle.wx_external.specs.World.{WorldLists}
use Rattle.wx_machine.specs.declared.entries.Entry.{Entry}
use Rattle.wx_machine.specs.declared.work.Work.TheVariants.{Channel as ForChannel}
use Rattle.wx_machine.specs.Words.{IsLegal, work_of}
use Rattle.wx_laws.specs.Prefix.{IsPrefix}
use Rattle.wx_host_launch.specs.Pipes.{InState, OutState}
use Rattle.wx_host_launch.specs.Records.{Account, HostRecord, Writing}
use Rattle.wx_host_slot.specs.Meets.{RecordMeets}
use Rattle.wx_host_kit.specs.declared.KitEnd.{KitEnd}
use Rattle.wx_host_kit.specs.Kit.{IsServed}
use Rattle.wx_pipe.specs.Pipe.{pipe_check}

-- A kit with the echo read these bytes, from the first on, and wrote those.
pub record IsEcho (read written : List ℕ) : Type 0 where
  pub old : OutState
  pub new : OutState
  pub before : InState
  pub now : InState
  pub end : KitEnd
  pub served : IsServed (λ text. Some text) old new before now end
  pub coming : List ℕ
  pub unread : List ℕ
  pub begins : old.stream ≡ Some (record { read = []; coming = coming })
  pub reads : new.stream ≡ Some (record { read = read; coming = unread })
  pub empty : before.sent ≡ Some []
  pub writes : now.sent ≡ Some written

-- The host answers by the echo: a kit read the first of the bytes that the host was sent, and the bytes read of the
-- host are the first of those that the kit wrote.
pub record AnswersByEcho (account : Account) : Type 0 where
  pub read : List ℕ
  pub written : List ℕ
  pub echo : IsEcho read written
  pub sent_first : IsPrefix read account.sent
  pub read_first : IsPrefix account.read written

-- A pipe to a host that answers by the echo is good, where the host's record meets the legal journal, whether the run
-- was spent or not.
abbrev pub EchoIsGood : Type 0
EchoIsGood = (writing : Writing) (world : WorldLists) (journal : List Entry) (h : HostNo) (k : ChannelNo)
    (r : HostRecord) (account : Account) → IsLegal world journal → work_of (reverse journal) h ≡ Some (ForChannel k)
    → RecordMeets (Unit {0}) (Some writing) world (reverse journal) h r → r.account ≡ Some account
    → AnswersByEcho account → pipe_check k.0 journal ≡ Some true
