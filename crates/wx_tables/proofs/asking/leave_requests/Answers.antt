use Rattle.std.proofs.Common.{refl, arith, ◌≤◌, ◌<◌, length, ◌≡◌, true, false, ℕ}
use Rattle.std.specs.Prelude.{Option, Some, None, ◌&&◌}
use Rattle.wx_id.specs.declared.numbers.ContextNo.{ContextNo}
use Rattle.wx_id.specs.declared.events.EventKind.{EventKind}
use Rattle.wx_id.specs.declared.events.EventKind.TheVariants.{Closed}
use Rattle.wx_id.specs.Contexts.{same_context}
use Rattle.wx_one_shot.specs.Requests.{Request, concerns_at}
use Rattle.wx_tables.specs.State.{queues_in}
use Rattle.wx_tables.specs.Asking.{closes_request, hears_outcome, request_left}
use Rattle.wx_tables.proofs.LoopLater.{left_more, left_all, told_more, told_all, live_within}
use Rattle.wx_tables.proofs.asking.leave_requests.Goals as goal

abbrev closed_at : ℕ → EventKind
closed_at r = Closed (record { 0 = r })

silent : (c : ContextNo) (o : Option Request) (d : ContextNo) → concerns_at o c ≡ false → hears_outcome o c d ≡ false
silent c None d h = refl
silent c (Some request) d h = rw h refl

agree : (c : ContextNo) (request : Request) (d : ContextNo) → concerns_at (Some request) c ≡ true → hears_outcome (Some request) c d ≡ (closes_request request c && same_context request.asker d)
agree c request d h = rw h refl

pub loop-r-preserved : goal.loop-r-preserved
loop-r-preserved c =
    let l = c.loop-r in
    let r = c.in-Some.r in
    let within : r.0 < length c.args.requests.now = live_within (λ o. concerns_at o c.args.c) (request_left c.args.c) refl l.from r.0 c.args.requests.now l.requests l.invariant.requests c.in-Some.ensures.found.1 in
    let counted : c.count-count.result ≡ length c.args.requests.now = l.invariant.counted in
    record {
      owed = c.leave_request.ensures.owed;
      counted = counted;
      within = omega (arith, within, counted);
      requests = left_more (λ o. concerns_at o c.args.c) (request_left c.args.c) refl l.from r.0 c.args.requests.now l.requests c.leave_request.new.requests l.invariant.requests c.in-Some.ensures.found.0 c.in-Some.ensures.found.1 (λ j low high. c.in-Some.ensures.least j high low) c.leave_request.ensures.requests;
      queues = told_more (λ o. concerns_at o c.args.c) (request_left c.args.c) (λ o d. hears_outcome o c.args.c d) closed_at refl (silent c.args.c) (λ request d. closes_request request c.args.c && same_context request.asker d) (agree c.args.c) c.args.requests.now l.requests c.args.n l.from r.0 (queues_in c.args.boxes.now.items) (queues_in l.boxes.items) (queues_in c.leave_request.new.boxes.items) l.invariant.requests c.in-Some.ensures.found.0 c.in-Some.ensures.found.1 (λ j low high. c.in-Some.ensures.least j high low) l.invariant.queues c.leave_request.ensures.queues;
    }

pub returns-clause-requests : goal.returns-clause-requests
returns-clause-requests c = left_all (λ o. concerns_at o c.args.c) (request_left c.args.c) c.loop-r.from c.args.requests.now c.loop-r.requests c.loop-r.invariant.requests c.in_default.ensures.none

pub returns-clause-queues : goal.returns-clause-queues
returns-clause-queues c =
    let counted : c.count-count.result ≡ length c.args.requests.now = c.loop-r.invariant.counted in
    let within : c.loop-r.from ≤ c.count-count.result = c.loop-r.invariant.within in
    told_all (λ o. concerns_at o c.args.c) (request_left c.args.c) (λ o d. hears_outcome o c.args.c d) closed_at (silent c.args.c) c.args.requests.now c.loop-r.requests c.args.n c.loop-r.from (queues_in c.args.boxes.now.items) (queues_in c.loop-r.boxes.items) c.loop-r.invariant.requests (omega (arith, counted, within)) c.in_default.ensures.none c.loop-r.invariant.queues
