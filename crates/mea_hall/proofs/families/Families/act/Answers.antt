use Rattle.std.proofs.Common.{ap}
use Rattle.mea_hall.specs.World.{Semaphores, Meets, Locks, Chans, Shares, Onces, addressed}
use Rattle.mea_hall.proofs.EachFamily.{plays_one}
use Rattle.mea_hall.proofs.families.Families.act.Goals as goal

pub returns-in-Sem-clause-played : goal.returns-in-Sem-clause-played
returns-in-Sem-clause-played c = plays_one c.args.self.now c.args.number c.requires.next Semaphores c.in-Sem.event c.args.event.now (ap addressed c.in-Sem.is) c.act.new.self c.args.ready.now c.act.new.ready c.act.result c.act.ensures.played

pub returns-in-Meet-clause-played : goal.returns-in-Meet-clause-played
returns-in-Meet-clause-played c = rw c.answered.ensures (plays_one c.args.self.now c.args.number c.requires.next Meets c.in-Meet.event c.args.event.now (ap addressed c.in-Meet.is) c.act-in-Meet.new.self c.args.ready.now c.act-in-Meet.new.ready c.act-in-Meet.result c.act-in-Meet.ensures.played)

pub returns-in-Lock-clause-played : goal.returns-in-Lock-clause-played
returns-in-Lock-clause-played c = rw c.answered-in-Lock.ensures (plays_one c.args.self.now c.args.number c.requires.next Locks c.in-Lock.event c.args.event.now (ap addressed c.in-Lock.is) c.act-in-Lock.new.self c.args.ready.now c.act-in-Lock.new.ready c.act-in-Lock.result c.act-in-Lock.ensures.played)

pub returns-in-Chan-clause-played : goal.returns-in-Chan-clause-played
returns-in-Chan-clause-played c = rw c.answered-in-Chan.ensures (plays_one c.args.self.now c.args.number c.requires.next Chans c.in-Chan.event c.args.event.now (ap addressed c.in-Chan.is) c.act-in-Chan.new.self c.args.ready.now c.act-in-Chan.new.ready c.act-in-Chan.result c.act-in-Chan.ensures.played)

pub returns-in-Share-clause-played : goal.returns-in-Share-clause-played
returns-in-Share-clause-played c = rw c.answered-in-Share.ensures (plays_one c.args.self.now c.args.number c.requires.next Shares c.in-Share.event c.args.event.now (ap addressed c.in-Share.is) c.act-in-Share.new.self c.args.ready.now c.act-in-Share.new.ready c.act-in-Share.result c.act-in-Share.ensures.played)

pub returns-in-Once-clause-played : goal.returns-in-Once-clause-played
returns-in-Once-clause-played c = rw c.answered-in-Once.ensures (plays_one c.args.self.now c.args.number c.requires.next Onces c.in-Once.event c.args.event.now (ap addressed c.in-Once.is) c.act-in-Once.new.self c.args.ready.now c.act-in-Once.new.ready c.act-in-Once.result c.act-in-Once.ensures.played)
