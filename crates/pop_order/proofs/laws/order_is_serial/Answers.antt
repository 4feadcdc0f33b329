use Rattle.pop_order.proofs.SerialOrder.{order_is_serial, serial_is_order}
use Rattle.pop_order.proofs.laws.order_is_serial.Goals as goal

pub returns-clause-earlier : goal.returns-clause-earlier
returns-clause-earlier c = order_is_serial

pub returns-clause-before : goal.returns-clause-before
returns-clause-before c = serial_is_order
