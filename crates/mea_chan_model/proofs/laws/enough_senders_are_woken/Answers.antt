use Rattle.mea_chan_model.proofs.EnoughEvents.{woken, enough, all_are_woken}
use Rattle.mea_chan_model.proofs.laws.enough_senders_are_woken.Goals as goal

pub returns-clause-woken : goal.returns-clause-woken
returns-clause-woken c = λ run runs f x is granted. woken run runs f x is granted

pub returns-clause-enough : goal.returns-clause-enough
returns-clause-enough c = λ run runs o c is lives. enough run runs o c is lives

pub returns-clause-all : goal.returns-clause-all
returns-clause-all c = λ run runs o c is ends. all_are_woken run runs o c is ends
