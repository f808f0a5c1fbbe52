use Rattle.fed_status.specs.Shared.{world_of}
use Rattle.fed_call.proofs.providers.Left.{some_there}
use Rattle.fed_call.proofs.providers.May.{not_true}
use Rattle.fed_call.proofs.table.Gathers.{facts_after_reply, settled_facts}
use Rattle.fed_call.proofs.gathering.gathers.Goals as goal

pub returns-in-First-clause-state : goal.returns-in-First-clause-state
returns-in-First-clause-state c =
    let there = some_there c.args.begun.providers c.args.incoming.now.place c.requires.known in
    let came = rw (c.in-First.is, there.1, c.as_slice.ensures) at c.in_ok-heard.ensures.came in
    rw (← facts_after_reply (world_of c.args.shared.now) c.args.begun c.args.progress c.args.incoming.now.place there.0
    c.args.incoming.now.kind c.args.incoming.now.raw.now _ c.requires.several there.1 came)
    (rw there.1 at c.hears.ensures.state)

pub returns-in-Accounts-clause-state : goal.returns-in-Accounts-clause-state
returns-in-Accounts-clause-state c =
    let there = some_there c.args.begun.providers c.args.incoming.now.place c.requires.known in
    let came = rw (c.in-Accounts.is, there.1, c.as_slice.ensures) at c.in_ok-heard.ensures.came in
    let sound = rw (c.in-Accounts.is, there.1) at c.in_ok-heard.ensures.sound in
    let settled = not_true _ sound in
    rw (
      ← facts_after_reply (world_of c.args.shared.now) c.args.begun c.args.progress c.args.incoming.now.place there.0
          c.args.incoming.now.kind c.args.incoming.now.raw.now _ c.requires.several there.1 came,
      ← settled_facts (world_of c.args.shared.now) c.args.begun c.args.progress c.args.incoming.now.place there.0 c.in-Accounts.came
          c.requires.several settled,
    )
    c.lists.ensures.state
