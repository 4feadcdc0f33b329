use Rattle.pop_order.proofs.turns.PopTurns.certain.Goals as goal

pub returns-in-Some : goal.returns-in-Some
returns-in-Some c = (c.in-Some.ensures.pops, c.in-Some.ensures.oldest)

pub returns-in-Some-first_earlier : goal.returns-in-Some-first_earlier
returns-in-Some-first_earlier c =
    let first = c.in-Some-first_earlier.ensures in
    (c.in_default.ensures.none, rw (← c.self.view_is) first.0, rw (← c.self.view_is) first.1)

pub returns-in-None : goal.returns-in-None
returns-in-None c = (c.in_default.ensures.none, rw (← c.self.view_is) c.in-None.ensures)
