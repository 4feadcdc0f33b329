use Rattle.pop_order.proofs.Noted.{taken_out, left_alone}
use Rattle.pop_order.proofs.sets.Sets.take_out.Goals as goal

pub returns-clause-this : goal.returns-clause-this
returns-clause-this c = λ before after shrunk kept.
    taken_out before after c.args.parent c.args.child shrunk c.args.queue
    c.args.self.now.poppers c.args.self.now.pushers c.remove.new.self c.remove-2.new.self c.args.self.now.givers c.settle.new.givers
    c.remove.ensures c.remove-2.ensures c.settle.ensures kept

pub returns-clause-others : goal.returns-clause-others
returns-clause-others c = λ any other apart kept.
    left_alone any c.args.parent c.args.child c.args.queue other
    c.args.self.now.poppers c.args.self.now.pushers c.remove.new.self c.remove-2.new.self c.args.self.now.givers c.settle.new.givers
    c.remove.ensures c.remove-2.ensures c.settle.ensures apart kept
