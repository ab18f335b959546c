use Rattle.std.proofs.Common.{ap, not}
use Rattle.mea_chan_core.proofs.InOrder.{shoots}
use Rattle.mea_chan_core.proofs.laws.a_oneshot_has_one_message.Goals as goal

pub returns : goal.returns
returns g c = record {
  order = λ channel accepted received fallen runs. (shoots channel accepted received fallen runs).ordered.order;
  once = λ channel accepted received fallen runs. (shoots channel accepted received fallen runs).once;
  lives = λ channel accepted received fallen runs lives. (shoots channel accepted received fallen runs).ordered.lives (ap not lives);
}
