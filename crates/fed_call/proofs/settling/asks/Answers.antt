use Rattle.std.proofs.Common.{◌∙◌, sym}
use Rattle.fed_call.proofs.shortlists.Offered.{several_picks}
use Rattle.fed_call.proofs.settling.asks.Goals as goal

pub asks_for_choice-requires-clause-several : goal.asks_for_choice-requires-clause-several
asks_for_choice-requires-clause-several c =
    several_picks c.args.begun.providers c.args.configs c.args.begun.call c.args.offers c.requires.some c.requires.known c.requires.whole
    (sym (rw c.as_slice.ensures at c.is_alone.ensures) ∙ c.if-is_alone.false)
