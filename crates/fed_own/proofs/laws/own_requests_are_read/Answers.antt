use Rattle.fed_own.proofs.requests.Due.{cookies_lem, heads_lem, pages_lem}
use Rattle.fed_own.proofs.requests.Heads.{read_lem}
use Rattle.fed_own.proofs.laws.own_requests_are_read.Goals as goal

pub returns-clause-read : goal.returns-clause-read
returns-clause-read c = read_lem

pub returns-clause-heads : goal.returns-clause-heads
returns-clause-heads c = heads_lem

pub returns-clause-pages : goal.returns-clause-pages
returns-clause-pages c = pages_lem

pub returns-clause-cookies : goal.returns-clause-cookies
returns-clause-cookies c = cookies_lem
