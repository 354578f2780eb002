-- The rows of the tables that a host's end changes, as the calls of the tables say it.
use Rattle.std.proofs.Common.{◌≡◌, ℕ, suc, zero, ◌<◌, List, [], ◌∷◌, length, set, refl, ap, sym, ◌∙◌, true, false, cond, not, arith}
use Rattle.std.specs.Prelude.{Option, Some, None, IfSome, slice_get, ◌&&◌, ◌==◌}
use Rattle.std.specs.Option.{option_map}
use Rattle.std.proofs.lemmas.Bool.{false≢true}
use Rattle.wx_port.specs.Port.{Port, is_open_port, closed}
use Rattle.wx_one_shot.specs.Requests.{Request, is_settled_at, is_unsettled_at, settled}
use Rattle.wx_broker.proofs.TestsLater.{where_set, where_stays}

pub port_closed : (ports ports' : List Port) (k : ℕ) → is_open_port (slice_get ports k) ≡ true → IfSome (slice_get ports k) (λ port. ports' ≡ set ports k (closed port)) → (j : ℕ) → slice_get ports' j ≡ option_map (λ port. cond ((k == j) && port.is_open) (closed port) port) (slice_get ports j)
port_closed ports ports' k opened changed = by (slice_get ports k) refl opened changed
  where
    by : (o : Option Port) → slice_get ports k ≡ o → is_open_port o ≡ true → IfSome o (λ port. ports' ≡ set ports k (closed port)) → (j : ℕ) → slice_get ports' j ≡ option_map (λ port. cond ((k == j) && port.is_open) (closed port) port) (slice_get ports j)
    by None at opened changed = absurd (false≢true opened)
    by (Some port) at opened changed = where_set (λ p. p.is_open) closed ports ports' k port at opened changed

pub port_stays : (ports : List Port) (k : ℕ) → is_open_port (slice_get ports k) ≡ false → (j : ℕ) → slice_get ports j ≡ option_map (λ port. cond ((k == j) && port.is_open) (closed port) port) (slice_get ports j)
port_stays ports k shut = where_stays (λ p. p.is_open) closed ports k (λ port at. ap is_open_port (sym at) ∙ shut)

pub request_settled : (rows rows' : List Request) (r : ℕ) → is_settled_at (slice_get rows r) ≡ false → is_unsettled_at (slice_get rows r) ≡ true → IfSome (slice_get rows r) (λ row. rows' ≡ set rows r (settled row)) → (j : ℕ) → slice_get rows' j ≡ option_map (λ row. cond ((r == j) && not row.is_settled) (settled row) row) (slice_get rows j)
request_settled rows rows' r open_now there changed = by (slice_get rows r) refl there changed
  where
    by : (o : Option Request) → slice_get rows r ≡ o → is_unsettled_at o ≡ true → IfSome o (λ row. rows' ≡ set rows r (settled row)) → (j : ℕ) → slice_get rows' j ≡ option_map (λ row. cond ((r == j) && not row.is_settled) (settled row) row) (slice_get rows j)
    by None at there changed = absurd (false≢true there)
    by (Some row) at there changed = where_set (λ q. not q.is_settled) settled rows rows' r row at there changed

pub request_stays : (rows : List Request) (r : ℕ) → is_settled_at (slice_get rows r) ≡ true → (j : ℕ) → slice_get rows j ≡ option_map (λ row. cond ((r == j) && not row.is_settled) (settled row) row) (slice_get rows j)
request_stays rows r shut = where_stays (λ q. not q.is_settled) settled rows r (λ row at. ap not (ap is_settled_at (sym at) ∙ shut))

-- a request that is there and not settled
pub unsettled_from : (rows : List Request) (r : ℕ) → r < length rows → is_settled_at (slice_get rows r) ≡ false → is_unsettled_at (slice_get rows r) ≡ true
unsettled_from [] r within h = absurd (omega (arith, within))
unsettled_from (row ∷ rows) zero within h = ap not h
unsettled_from (row ∷ rows) (suc r) within h = unsettled_from rows r (omega (arith, within)) h
