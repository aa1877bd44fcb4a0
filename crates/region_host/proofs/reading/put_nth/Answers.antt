-- Below the list's length it is the one at the index, and from there on none is.
use Rattle.region_host.proofs.Nth.{nth_there, nth_past}
use Rattle.region_host.proofs.reading.put_nth.Goals as goal

pub returns-in-Some : goal.returns-in-Some
returns-in-Some g c =
    let a = c.args in
    let found = c.in-Some.ensures.lookup.3 in
    nth_there (λ x. x) a.items.now a.index a.out.now a.out.now (found.1 a.out.now) found.0

pub returns-in-None : goal.returns-in-None
returns-in-None g c =
    let a = c.args in
    nth_past (λ x. x) a.items.now a.index a.out.now c.in-None.ensures.lookup.3
