-- The scene that stands under a name, or why it is refused; and the text that a run of it leaves.
use Rattle.std.specs.Prelude.{◌≡◌, ℕ, List, Result, Err, reverse}
use Rattle.wx_outside.specs.Shelf.{Content, present, absent, too_large}
use Rattle.wx_external.specs.World.{WorldLists}
use Rattle.wx_machine.specs.declared.entries.Entry.{Entry}
use Rattle.wx_journal_text.specs.Text.{journal_text}
use Rattle.wx_journal_read.specs.Fits.{JournalFits}
use Rattle.wx_journal.specs.Journal.{IsTextOfNoOther}
use Rattle.wx_script.specs.declared.scene.SceneFault.{SceneFault}
use Rattle.wx_script.specs.declared.scene.SceneKind.{SceneKind}
use Rattle.wx_script.specs.declared.scene.SceneKind.TheVariants.{Missing, Large}
use Rattle.wx_script.specs.declared.scene.How.{How}
use Rattle.wx_script.specs.declared.scene.How.TheVariants.{Rounds}
use Rattle.wx_script.specs.SceneValue.{SceneValue, scripts_of}
use Rattle.wx_script.specs.Scene.{scene_of}
use Rattle.wx_run.specs.declared.outcome.RunEnd.{RunEnd}
use Rattle.wx_run.specs.Run.{IsRunOf, IsInRounds}
use Rattle.wx_run.specs.Rounds.{IsSpent}
use Rattle.wx_run.specs.Hosts.{HaveRecords}
use Rattle.wx_cmd.specs.Endings.{lines_of_end}
use Rattle.wx_cmd.specs.Starters.{StarterChange}

-- a fault that is in no line
abbrev pub refusal : SceneKind → SceneFault
refusal kind = record { line = 0; kind = kind }

-- the scene that stands there, or why it is refused
abbrev pub scene_of_content : Content → Result SceneValue SceneFault
scene_of_content absent = Err (refusal Missing)
scene_of_content too_large = Err (refusal Large)
scene_of_content (present bytes) = scene_of bytes

-- A run of the scene in this world leaves a journal and comes to this end; each host's record meets the journal; the
-- text is that journal's, and of no other that fits, and the lines tell of the end.
pub record IsTextOfRun (how : How) (world : WorldLists) (scene : SceneValue) (starter : StarterChange) (end : RunEnd)
    (text lines : List ℕ) : Type 0 where
  pub journal : List Entry
  pub run : IsRunOf world scene journal end
  -- where it was to be made in rounds, its entries after the opening fall into rounds
  pub rounds : how ≡ Rounds → IsInRounds scene journal
  -- the starter took over one record for each host of the journal, in rising number, each meets the journal, and
  -- nothing else was started
  pub records : HaveRecords (IsSpent (scripts_of scene) (reverse journal)) world (reverse journal) starter.before
      starter.after
  pub text_of_run : text ≡ journal_text journal
  -- the journal fits, and no other that fits has this text
  pub fits : JournalFits journal
  pub alone : IsTextOfNoOther text journal
  pub lines_of_run : lines ≡ lines_of_end scene (reverse journal) end
