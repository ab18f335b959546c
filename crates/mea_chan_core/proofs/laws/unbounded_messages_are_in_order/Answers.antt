use Rattle.mea_chan_core.proofs.InOrder.{mail_in_order}
use Rattle.mea_chan_core.proofs.laws.unbounded_messages_are_in_order.Goals as goal

pub returns : goal.returns
returns g c = record {
  order = λ channel accepted received fallen runs. (mail_in_order channel accepted received fallen runs).order;
  lives = λ channel accepted received fallen runs. (mail_in_order channel accepted received fallen runs).lives;
  ended = λ channel accepted received fallen runs. (mail_in_order channel accepted received fallen runs).ended_none;
}
