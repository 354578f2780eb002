use Rattle.std.proofs.Common.{rules, ◌≡◌, ◌+◌, ◌∙◌, true, Some, ap, sym, subst, refl, arith, length}
use Rattle.std.specs.Prelude.{is_ok, slice_get, reverse}
use Rattle.std.proofs.lemmas.Option.{slice_get_read}
use Rattle.wx_machine.specs.Words.{IsLegal}
use Rattle.wx_run.specs.Opened.{OpenedSoFar, IsOpened, AreBelow}
use Rattle.wx_run.proofs.OpeningLemmas.{opened_step, opened_push, opened_none}
use Rattle.wx_run.proofs.opening.open.Goals as goal

pub loop-endpoint-init : goal.loop-endpoint-init
loop-endpoint-init c = record {
  same_world = refl;
  so_far = rw (c.new-endpoints.ensures.items, c.requires) (opened_none c.args.desk.now.broker.world c.args.scene.now.endpoints);
}

pub open_one-requires-clause-legal : goal.open_one-requires-clause-legal
open_one-requires-clause-legal c = subst (λ w. IsLegal w c.loop-endpoint.desk.broker.entries) (sym c.loop-endpoint.invariant.same_world) c.loop-endpoint.invariant.so_far.legal

pub open_one-requires-clause-all_in : goal.open_one-requires-clause-all_in
open_one-requires-clause-all_in c =
    let so = c.loop-endpoint.invariant.so_far in
    subst (λ n. AreBelow n (reverse c.loop-endpoint.desk.broker.entries)) (sym so.all_in.counted) so.all_in.below

pub loop-endpoint-preserved : goal.loop-endpoint-preserved
loop-endpoint-preserved c =
    let endpoints = c.args.scene.now.endpoints in
    let world = c.args.desk.now.broker.world in
    let i = c.loop-endpoint.endpoint-index in
    let items = c.endpoints-endpoint-items.result.now in
    let ok : is_ok c.push.result ≡ true = search rules in
    let at : slice_get endpoints i ≡ Some c.endpoint-item.result =
    subst (λ es. slice_get es i ≡ Some c.endpoint-item.result) c.endpoints-endpoint-items.ensures.value
    (slice_get_read items (length items) i c.endpoint-item.result refl c.loop-endpoint-test.true c.endpoint-item.is) in
    let opened : IsOpened world c.endpoint-item.result c.in_ok-opened.opened (reverse c.loop-endpoint.desk.broker.entries) (reverse c.open_one.new.desk.broker.entries) =
    subst (λ w. IsOpened w c.endpoint-item.result c.in_ok-opened.opened (reverse c.loop-endpoint.desk.broker.entries) (reverse c.open_one.new.desk.broker.entries)) c.loop-endpoint.invariant.same_world c.in_ok-opened.ensures.opened in
    record {
      same_world = c.in_ok-opened.ensures.same_world ∙ c.loop-endpoint.invariant.same_world;
      so_far = opened_push world endpoints (i + 1) c.loop-endpoint.endpoints.items c.push.new.self.items c.in_ok-opened.opened (is_ok c.push.result) (reverse c.open_one.new.desk.broker.entries) c.push.ensures.items ok
          (opened_step world endpoints i c.endpoint-item.result c.loop-endpoint.endpoints.items c.in_ok-opened.opened (reverse c.loop-endpoint.desk.broker.entries) (reverse c.open_one.new.desk.broker.entries)
          at c.loop-endpoint.invariant.so_far opened);
    }

pub returns-clause-opened : goal.returns-clause-opened
returns-clause-opened c =
    let e : c.loop-endpoint.endpoint-index ≡ length c.endpoints-endpoint-items.result.now = omega (arith, c.loop-endpoint-test.false, c.loop-endpoint.auto.endpoint-index-end) in
    subst (λ n. OpenedSoFar c.args.desk.now.broker.world c.args.scene.now.endpoints n c.loop-endpoint.endpoints.items (reverse c.loop-endpoint.desk.broker.entries)) (e ∙ ap length c.endpoints-endpoint-items.ensures.value) c.loop-endpoint.invariant.so_far
