use Rattle.std.proofs.Common.{arith}
use Rattle.fed_links.proofs.calls.Calls.{node_within, stands_waiting, stands_idle, untouched, none_without}
use Rattle.fed_links.proofs.links.Links.forget.Goals as goal

pub index-requires : goal.index-requires
index-requires g c = rw c.self.inside.slots.ok.0 (node_within c.self.invariant c.self.view_is c.args.node c.requires)

pub returns-in_default-clause-waits : goal.returns-in_default-clause-waits
returns-in_default-clause-waits g c =
    untouched _ _ (stands_idle c.self.invariant c.self.view_is c.args.node c.index.result.now c.requires c.index.ensures c.in_default.is)

pub returns-in_default-clause-idle : goal.returns-in_default-clause-idle
returns-in_default-clause-idle g c =
    stands_idle c.self.invariant c.self.view_is c.args.node c.index.result.now c.requires c.index.ensures c.in_default.is

pub returns-in_default-clause-counted : goal.returns-in_default-clause-counted
returns-in_default-clause-counted g c =
    rw (stands_idle c.self.invariant c.self.view_is c.args.node c.index.result.now c.requires c.index.ensures c.in_default.is) (omega arith)

pub returns-clause-counted : goal.returns-clause-counted
returns-clause-counted g c =
    rw (stands_waiting c.self.invariant c.self.view_is c.args.node c.in-Some.field-0 c.index.result.now c.requires c.index.ensures
    c.in-Some.is) c.unwait.ensures.counted

pub unwait-requires : goal.unwait-requires
unwait-requires g c =
    stands_waiting c.self.invariant c.self.view_is c.args.node c.in-Some.field-0 c.index.result.now c.requires c.index.ensures c.in-Some.is

pub returns-clause-idle : goal.returns-clause-idle
returns-clause-idle g c = rw c.unwait.ensures.waits (none_without c.args.node c.args.self.now.waits)
