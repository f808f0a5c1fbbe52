use Rattle.std.proofs.Common.{◌≡◌, ◌∙◌, sym, subst}
use Rattle.std.specs.Prelude.{IfOk}
use Rattle.fed_status.specs.Shared.{world_of}
use Rattle.fed_call.specs.State.{facts_of}
use Rattle.fed_call.proofs.replies.First.{read_facts, read_row}
use Rattle.fed_call.proofs.replies.Listed.{listed_facts}
use Rattle.fed_call.proofs.pending.Pending.reply.Goals as goal

pub returns-in-Reading-clause-effects : goal.returns-in-Reading-clause-effects
returns-in-Reading-clause-effects c =
    let incoming = c.args.incoming.now in
    let row = read_row (world_of c.args.shared.now) c.args.self.begun c.args.self.at c.in-Reading.replies incoming.place incoming.kind
    incoming.raw.now c.in-Reading.is c.args.self.fits c.awaits.ensures.about (sym c.awaits.ensures.value ∙ c.if-not-awaits.false) in
    subst (λ o. IfOk c.first_reply.result (λ r. r.1 ≡ o.effects)) (sym row) c.first_reply.ensures.effects

pub returns-in-Reading-clause-state : goal.returns-in-Reading-clause-state
returns-in-Reading-clause-state c =
    let incoming = c.args.incoming.now in
    let facts = read_facts (world_of c.args.shared.now) c.args.self.begun c.args.self.at c.in-Reading.replies incoming.place incoming.kind
    incoming.raw.now c.in-Reading.is c.args.self.fits c.awaits.ensures.about (sym c.awaits.ensures.value ∙ c.if-not-awaits.false) in
    subst (λ f. IfOk c.first_reply.result (λ r. facts_of r.0 ≡ f)) (sym facts) c.first_reply.ensures.state

pub returns-in-Listing-clause-state : goal.returns-in-Listing-clause-state
returns-in-Listing-clause-state c =
    let incoming = c.args.incoming.now in
    let facts = listed_facts (world_of c.args.shared.now) c.args.self.begun c.args.self.at c.in-Listing.config incoming.place incoming.kind
    incoming.raw.now c.in-Listing.is c.args.self.fits c.awaits.ensures.about (sym c.awaits.ensures.value ∙ c.if-not-awaits.false) in
    subst (λ f. IfOk c.accounts_reply.result (λ r. facts_of r.0 ≡ f)) (sym facts) c.accounts_reply.ensures.state
