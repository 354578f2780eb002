use Rattle.std.proofs.Common.{◌∙◌, sym}
use Rattle.std.specs.Prelude.{reverse}
use Rattle.std.proofs.lemmas.List.{length-reverse}
use Rattle.wx_machine.specs.Words.{FollowsMachine}
use Rattle.wx_broker.proofs.KeptLater.{may_call, ok_holds}
use Rattle.wx_broker.proofs.MessagesLater.{post_entry}
use Rattle.wx_broker.proofs.PostedLater.{told_posted_host}
use Rattle.wx_broker.proofs.broker.Broker.post_to_host.Goals as goal

pub invariant_of-self-2 : goal.invariant_of-self-2
invariant_of-self-2 c =
    let i = c.self.inside in
    let follows : FollowsMachine i.world (reverse i.journal.entries) (post_entry c.args.c c.args.k c.args.text) = record { may = may_call (reverse i.journal.entries) c.args.c (rw (← c.self.view_is) at c.requires.known); answered = sym (rw (← c.self.view_is) at c.requires.posted) } in
    told_posted_host i.world i.journal.entries c.push_reserved.new.self.entries c.args.c c.args.k c.args.text c.args.h i.roster i.tables i.hosts.hosts c.tell.new.self.hosts (record { 0 = c.len.result }) c.self.invariant follows
    c.push_reserved.ensures.entries
    (c.len.ensures ∙ sym (length-reverse i.journal.entries))
    (rw (← c.self.view_is) at c.requires.works)
    (ok_holds c.tell.result c.tell.ensures.ok (sym c.is_err.ensures.value ∙ c.if-is_err.false))
    c.tell.ensures.count
