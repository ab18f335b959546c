use Rattle.mea_chan_model.proofs.Messages.{in_order, living, over}
use Rattle.mea_chan_model.proofs.laws.messages_are_in_order.Goals as goal

pub returns-clause-order : goal.returns-clause-order
returns-clause-order c = λ run runs k o. in_order run runs k o

pub returns-clause-lives : goal.returns-clause-lives
returns-clause-lives c = λ run runs k o c is lives. living run runs k o c is lives

pub returns-clause-ended : goal.returns-clause-ended
returns-clause-ended c = λ run runs k o c is ended. over run runs k o c is ended
