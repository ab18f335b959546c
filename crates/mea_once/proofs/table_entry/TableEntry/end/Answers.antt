use Rattle.std.proofs.Common.{◌≤◌, ap, sym, subst, ◌∙◌, nat_eq, is_some, arith}
use Rattle.std.specs.FinMap.{get}
use Rattle.mea_once_core.specs.Keyed.{MayEndKey, EndsAt}
use Rattle.mea_once.specs.KeyEntries.{KeptTable, left_round, one_future_less}
use Rattle.mea_once.proofs.KeyEvents.{its_there}
use Rattle.mea_once.proofs.KeyPolls.{left_futures}
use Rattle.mea_once.proofs.KeyCalls.{may_end_key, some_futures, room_for}
use Rattle.mea_once.proofs.KeyAnswers.{ends_none, ends_so}
use Rattle.mea_once.proofs.table_entry.TableEntry.end.Goals as goal

pub end-requires : goal.end-requires
end-requires g c = subst (λ (e : KeptTable). MayEndKey nat_eq e.keyed c.args.future.call) (sym c.self.view_is) (may_end_key g.C.TableCore.is_once c.args.self.now c.args.f c.args.future c.requires.stands.0 c.requires.stands.1)

pub finish-requires : goal.finish-requires
finish-requires g c = subst (λ (e : KeptTable). 1 ≤ e.futures) (sym c.self.view_is) (some_futures g.C.TableCore.is_once c.args.self.now c.args.f c.args.future c.requires.stands.0 c.requires.stands.1)

pub returns-in_default : goal.returns-in_default
returns-in_default g c = λ i s. ends_none g.C.TableCore.is_once c.args.self.now c.args.f c.args.future i s c.in_default.is (g.C.TableCore.seen_as c.end.new.self) (subst (λ (e : KeptTable). EndsAt nat_eq c.args.future.call.stage e.keyed c.args.future.call.call.stage (g.C.TableCore.seen_as c.end.new.self)) c.self.view_is c.end.ensures) c.finish.new.self
    (c.finish.ensures ∙ ap (λ (e : KeptTable). one_future_less (record e { keyed = g.C.TableCore.seen_as c.end.new.self })) c.self.view_is) c.args.ready.now

pub at-round-requires : goal.at-round-requires
at-round-requires g c = ap is_some (ap (λ (e : KeptTable). get e.rounds c.in-Some.n) c.self-2.view_is ∙ its_there g.C.TableCore.is_once c.args.self.now c.args.f c.args.future c.requires.stands.0 c.requires.stands.1 c.in-Some.n c.in-Some.is)

pub keeps-more-requires : goal.keeps-more-requires
keeps-more-requires g c =
    let few = room_for g.C.TableCore.is_once c.args.self.now c.args.f c.args.future c.requires.stands.0 c.requires.stands.1 c.in-Some.n c.at-round.result.now (ap (λ (e : KeptTable). get e.rounds c.in-Some.n) (sym c.self-2.view_is) ∙ c.at-round.ensures) in
    let room = c.requires.room in
    omega arith

pub end-requires-2 : goal.end-requires-2
end-requires-2 g c = subst (λ (e : KeptTable). MayEndKey nat_eq e.keyed c.args.future.call) (sym c.self-2.view_is) (may_end_key g.C.TableCore.is_once c.args.self.now c.args.f c.args.future c.requires.stands.0 c.requires.stands.1)

pub leave-requires-clause-some : goal.leave-requires-clause-some
leave-requires-clause-some g c = let s = c.requires.stands.1 in (s.kept.rounds c.in-Some.n c.at-round.result.now (ap (λ (e : KeptTable). get e.rounds c.in-Some.n) (sym c.self-2.view_is) ∙ c.at-round.ensures)).some

pub finish-requires-2 : goal.finish-requires-2
finish-requires-2 g c = subst (λ (e : KeptTable). 1 ≤ e.futures) (sym c.leave.ensures) (rw left_futures (subst (λ (e : KeptTable). 1 ≤ e.futures) (sym c.self-2.view_is) (some_futures g.C.TableCore.is_once c.args.self.now c.args.f c.args.future c.requires.stands.0 c.requires.stands.1)))

pub hand_on-requires-clause-fits : goal.hand_on-requires-clause-fits
hand_on-requires-clause-fits g c = omega (arith, c.keeps-more.ensures, (ends_so g.C.TableCore.is_once c.args.self.now c.args.f c.args.future c.requires.stands.0 c.requires.stands.1 c.in-Some.n c.in-Some.is c.at-round.result.now (ap (λ (e : KeptTable). get e.rounds c.in-Some.n) (sym c.self-2.view_is) ∙ c.at-round.ensures) (g.C.TableCore.seen_as c.end-2.new.self) (subst (λ (e : KeptTable). EndsAt nat_eq c.args.future.call.stage e.keyed c.args.future.call.call.stage (g.C.TableCore.seen_as c.end-2.new.self)) c.self-2.view_is c.end-2.ensures) c.stopped-running.result c.stopped-running.ensures c.finish-2.new.self (c.finish-2.ensures ∙ ap one_future_less c.leave.ensures ∙ ap (λ (e : KeptTable). one_future_less (left_round (record e { keyed = (g.C.TableCore.seen_as c.end-2.new.self) }) c.args.future.key c.in-Some.n (record c.at-round.result.now { running = c.stopped-running.result }))) c.self-2.view_is)).0)

pub hand_on-requires-clause-room : goal.hand_on-requires-clause-room
hand_on-requires-clause-room g c =
    let few = room_for g.C.TableCore.is_once c.args.self.now c.args.f c.args.future c.requires.stands.0 c.requires.stands.1 c.in-Some.n c.at-round.result.now (ap (λ (e : KeptTable). get e.rounds c.in-Some.n) (sym c.self-2.view_is) ∙ c.at-round.ensures) in
    let room = c.requires.room in
    omega (arith, c.keeps-more.ensures)

pub returns : goal.returns
returns g c = λ i s. (ends_so g.C.TableCore.is_once c.args.self.now c.args.f c.args.future i s c.in-Some.n c.in-Some.is c.at-round.result.now (ap (λ (e : KeptTable). get e.rounds c.in-Some.n) (sym c.self-2.view_is) ∙ c.at-round.ensures) (g.C.TableCore.seen_as c.end-2.new.self) (subst (λ (e : KeptTable). EndsAt nat_eq c.args.future.call.stage e.keyed c.args.future.call.call.stage (g.C.TableCore.seen_as c.end-2.new.self)) c.self-2.view_is c.end-2.ensures) c.stopped-running.result c.stopped-running.ensures c.finish-2.new.self (c.finish-2.ensures ∙ ap one_future_less c.leave.ensures ∙ ap (λ (e : KeptTable). one_future_less (left_round (record e { keyed = (g.C.TableCore.seen_as c.end-2.new.self) }) c.args.future.key c.in-Some.n (record c.at-round.result.now { running = c.stopped-running.result }))) c.self-2.view_is)).1 c.hand_on.new.self c.keeps-more.result c.args.ready.now c.hand_on.new.ready c.hand_on.ensures c.keeps-more.ensures
