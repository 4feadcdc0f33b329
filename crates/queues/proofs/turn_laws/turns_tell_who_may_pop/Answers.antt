use Rattle.queues.proofs.TurnsTold.{before_turns, blocked, blocker_before, blocks_too, certain_told, has_turn, turns_before}
use Rattle.queues.proofs.turn_laws.turns_tell_who_may_pop.Goals as goal

pub returns-clause-start : goal.returns-clause-start
returns-clause-start c state turns tree is n frame live none = has_turn state tree turns is n frame live none

pub returns-clause-blocker : goal.returns-clause-blocker
returns-clause-blocker c state turns tree is n older frame live blocks = blocker_before state tree turns is n older frame live blocks

pub returns-clause-blocks : goal.returns-clause-blocks
returns-clause-blocks c state turns tree is n older = (blocked state tree turns is n older, blocks_too state tree turns is n older)

pub returns-clause-earlier : goal.returns-clause-earlier
returns-clause-earlier c state turns tree is n other frame also live too before = turns_before state tree turns is n other frame also before live too

pub returns-clause-before : goal.returns-clause-before
returns-clause-before c state turns tree is queue n other mode too frame also live live_too held held_too before = before_turns state tree turns is queue n other mode too frame also live live_too held held_too before

pub returns-clause-answer : goal.returns-clause-answer
returns-clause-answer c state turns tree is n queue frame answer live has told = certain_told state tree turns is queue n frame live has answer told
