use Rattle.std.proofs.Common.{◌≡◌, ◌∙◌, [], ap, sym, subst, length}
use Rattle.std.specs.Prelude.{reverse}
use Rattle.std.proofs.lemmas.List.{length-map}
use Rattle.wx_machine.specs.Words.{IsLegal}
use Rattle.wx_broker.specs.State.{BrokerState}
use Rattle.wx_script.specs.SceneValue.{scripts_of}
use Rattle.wx_host_slot.specs.Slots.{slot_of, slots_of}
use Rattle.wx_run.specs.Opened.{OpenedSoFar}
use Rattle.wx_run.specs.Rounds.{IsSpent}
use Rattle.wx_run.specs.Hosts.{HaveRecords}
use Rattle.wx_run.specs.Cursors.{scripts_in}
use Rattle.wx_run.specs.Run.{IsRunOf, IsInRounds}
use Rattle.wx_run.specs.Running.{AreReady, KeepsPlaces}
use Rattle.wx_run.proofs.AddLemmas.{none_below}
use Rattle.wx_run.proofs.RunLemmas.{keeps_on, keeps_writing, places_added, hosts_now, have_records}
use Rattle.wx_run.proofs.OpeningLemmas.{opened_ready, opened_rounds, run_of}
use Rattle.wx_run.proofs.run.run_scene.Goals as goal

pub run_rounds-requires-after_bounds : goal.run_rounds-requires-after_bounds
run_rounds-requires-after_bounds g c κs within =
    let writing = (g.P.Starter.state c.args.starter.now).writing in
    let world = c.open.new.desk.broker.world in
    let past = reverse c.open.new.desk.broker.entries in
    let ps = c.in_ok-endpoints.endpoints.items in
    let endpoints = c.args.scene.now.endpoints in
    let ready : AreReady writing world (scripts_in ps) ps [] past = opened_ready writing world endpoints ps past
    (subst (λ w. OpenedSoFar w endpoints (length endpoints) ps past) (sym c.in_ok-endpoints.ensures.same_world) c.in_ok-endpoints.ensures.opened) in
    subst (λ slots. AreReady writing world (scripts_in ps) ps (slots_of g.P.Starter.state slots) past) (sym c.new-slots.ensures.items) ready

pub returns-clause-run : goal.returns-clause-run
returns-clause-run g c =
    let entries = c.run_rounds.new.desk.broker.entries in
    let same : c.run_rounds.new.desk.broker.world ≡ c.args.world = c.in_ok-end.ensures.same_world ∙ c.in_ok-endpoints.ensures.same_world ∙ ap (λ (b : BrokerState). b.world) c.new-desk.ensures ∙ c.new.ensures.world in
    let legal : IsLegal c.args.world entries = subst (λ world. IsLegal world entries) same (subst (λ (b : BrokerState). IsLegal b.world b.entries) c.into_broker.ensures c.into_journal.ensures.legal) in
    let within = c.in_ok-add_slots.ensures.stand.within_limit in
    let rounds = opened_rounds c.new-desk.result.broker.world c.args.scene.now c.in_ok-endpoints.endpoints.items (reverse c.open.new.desk.broker.entries) (reverse entries) c.in_ok-end.end c.in_ok-endpoints.ensures.opened (c.in_ok-end.ensures.rounds 0 (none_below _)) in
    subst (λ entries. IsRunOf c.args.world c.args.scene.now entries c.in_ok-end.end) (sym (c.into_journal.ensures.entries ∙ ap (λ (b : BrokerState). b.entries) c.into_broker.ensures)) (run_of c.args.world c.args.scene.now entries c.in_ok-end.end legal within rounds)

pub returns-clause-rounds : goal.returns-clause-rounds
returns-clause-rounds g c how =
    let entries = c.run_rounds.new.desk.broker.entries in
    let rounds = opened_rounds c.new-desk.result.broker.world c.args.scene.now c.in_ok-endpoints.endpoints.items (reverse c.open.new.desk.broker.entries) (reverse entries) c.in_ok-end.end c.in_ok-endpoints.ensures.opened (c.in_ok-end.ensures.rounds 0 (none_below _)) in
    subst (IsInRounds c.args.scene.now) (sym (c.into_journal.ensures.entries ∙ ap (λ (b : BrokerState). b.entries) c.into_broker.ensures)) (record { count = rounds.count; in_rounds = rounds.rounds })

pub returns-clause-records : goal.returns-clause-records
returns-clause-records g c =
    let state = g.P.Starter.state in
    let entries = c.run_rounds.new.desk.broker.entries in
    let past = reverse entries in
    let old = state c.args.starter.now in
    let between = state c.run_rounds.new.starter in
    let mid = state c.add_slots.new.starter in
    let ran = slots_of state c.run_rounds.new.slots.items in
    let slots = slots_of state c.add_slots.new.slots.items in
    let scripts = scripts_of c.args.scene.now in
    let added = c.in_ok-add_slots.ensures in
    let same : c.run_rounds.new.desk.broker.world ≡ c.args.world = c.in_ok-end.ensures.same_world ∙ c.in_ok-endpoints.ensures.same_world ∙ ap (λ (b : BrokerState). b.world) c.new-desk.ensures ∙ c.new.ensures.world in
    let rounds = opened_rounds c.new-desk.result.broker.world c.args.scene.now c.in_ok-endpoints.endpoints.items (reverse c.open.new.desk.broker.entries) past c.in_ok-end.end c.in_ok-endpoints.ensures.opened (c.in_ok-end.ensures.rounds 0 (none_below _)) in
    let first : KeepsPlaces [] ran old between = subst (λ slots. KeepsPlaces (slots_of state slots) ran old between) c.new-slots.ensures.items c.in_ok-end.ensures.kept in
    let second = places_added state _ _ past c.run_rounds.new.slots.items c.add_slots.new.slots.items between mid c.in_ok-end.ensures.hosts_stand added.all added.kept in
    let stand = hosts_now old.writing between.writing c.args.world c.run_rounds.new.desk.broker.world past slots (keeps_writing _ _ _ _ first) same added.stand in
    let records = have_records scripts c.args.world past c.in_ok-end.end slots old mid (state c.finish_hosts.new.starter) rounds.ended stand (length-map c.add_slots.new.slots.items (slot_of state) ∙ added.all)
    (keeps_on [] ran slots old between mid first second) c.finish_hosts.ensures in
    subst (λ entries. HaveRecords (IsSpent scripts (reverse entries)) c.args.world (reverse entries) old (state c.finish_hosts.new.starter)) (sym (c.into_journal.ensures.entries ∙ ap (λ (b : BrokerState). b.entries) c.into_broker.ensures)) records
