-- Whether bytes are a JSON text, as a test that computes. The law `json_test` says that it is the grammar's.
use Rattle.std.specs.Prelude.{ℕ, List, Bool, false}
use Rattle.wx_json.specs.Machine.{accepts_at}
use Rattle.wx_json.specs.Check.{Progress, running, failed, advances, beginning}

-- the bytes so far are a whole text
abbrev pub completes : Progress → Bool
completes (running k u m n σ) = accepts_at m σ
completes (failed f) = false

unfoldable pub is_json_text : List ℕ → Bool
is_json_text text = completes (advances beginning text)
