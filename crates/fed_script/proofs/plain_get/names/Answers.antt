use Rattle.fed_script.proofs.plain_get.names.Goals as goal

pub returns-clause-text : goal.returns-clause-text
returns-clause-text c = rw (c.in_ok-rest.ensures, c.in_ok-client.ensures.0) at c.in_ok-config.ensures.0
