use Rattle.std.proofs.Common.{◌++◌, ◌-◌, ◌∷◌, [], cond, None, Some, ap, sym, subst, ◌∙◌, is_some, arith}
use Rattle.mea_family.specs.declared.answer.Answer.TheVariants.{Done}
use Rattle.mea_once_model.specs.declared.errand.Initialiser.{Initialiser}
use Rattle.mea_once_model.specs.Tables as tables
use Rattle.mea_once.specs.Entries.{runs}
use Rattle.mea_once.specs.KeyEntries.{with_running}
use Rattle.mea_once.specs.KeyParts.{SteppedTable, table_seen, key_future_seen}
use Rattle.mea_once.proofs.KeyEvents.{its_round, its_there}
use Rattle.mea_once.proofs.KeyCalls.{settled_future, room_for}
use Rattle.mea_once.proofs.KeyDiscards.{some_runs, settles_none}
use Rattle.mea_once.proofs.KeyAnswers.{settles_quiet, settles_waking}
use Rattle.mea_once.proofs.table_entry.TableEntry.settle.Goals as goal

pub returns-in_default : goal.returns-in_default
returns-in_default g c = λ i s. subst (λ (o : Initialiser). SteppedTable g.C.TableCore.is_once c.args.self.now s.fs i c.args.f c.args.future.now.table (Some (settled_future c.args.future.now o)) (λ h. tables.settle g.C.TableCore.is_once h c.args.f c.args.outcome (key_future_seen c.args.future.now) (table_seen c.args.self.now) c.args.future.now.round) Done c.args.self.now c.args.ready.now c.args.ready.now) (sym c.settle.ensures)
    (settles_none g.C.TableCore.is_once c.args.self.now c.args.f c.args.future.now i s c.in_default.is c.args.outcome c.args.ready.now)

pub stop-requires : goal.stop-requires
stop-requires g c = ap is_some (its_there g.C.TableCore.is_once c.args.self.now c.args.f c.args.future.now c.requires.stands.0 c.requires.stands.1 c.in-Some.n c.in-Some.is)

pub wake-requires : goal.wake-requires
wake-requires g c =
    let some = some_runs (its_round g.C.TableCore.is_once c.args.self.now c.args.f c.args.future.now c.requires.stands.0 c.requires.stands.1 c.in-Some.n c.in-Some.is).running c.args.f c.in-Some-stop.waker (sym (c.stop.ensures.waker (its_round g.C.TableCore.is_once c.args.self.now c.args.f c.args.future.now c.requires.stands.0 c.requires.stands.1 c.in-Some.n c.in-Some.is) (its_there g.C.TableCore.is_once c.args.self.now c.args.f c.args.future.now c.requires.stands.0 c.requires.stands.1 c.in-Some.n c.in-Some.is)) ∙ c.in-Some-stop.is) in
    let few = room_for g.C.TableCore.is_once c.args.self.now c.args.f c.args.future.now c.requires.stands.0 c.requires.stands.1 c.in-Some.n (its_round g.C.TableCore.is_once c.args.self.now c.args.f c.args.future.now c.requires.stands.0 c.requires.stands.1 c.in-Some.n c.in-Some.is) (its_there g.C.TableCore.is_once c.args.self.now c.args.f c.args.future.now c.requires.stands.0 c.requires.stands.1 c.in-Some.n c.in-Some.is) in
    let room = c.requires.room in
    omega arith

pub returns-in-Some-stop : goal.returns-in-Some-stop
returns-in-Some-stop g c = λ i s. rw (c.stop.ensures.is (its_round g.C.TableCore.is_once c.args.self.now c.args.f c.args.future.now i s c.in-Some.n c.in-Some.is) (its_there g.C.TableCore.is_once c.args.self.now c.args.f c.args.future.now i s c.in-Some.n c.in-Some.is), c.wake.ensures) (subst (λ (o : Initialiser). SteppedTable g.C.TableCore.is_once c.args.self.now s.fs i c.args.f c.args.future.now.table (Some (settled_future c.args.future.now o)) (λ h. tables.settle g.C.TableCore.is_once h c.args.f c.args.outcome (key_future_seen c.args.future.now) (table_seen c.args.self.now) c.args.future.now.round) Done (with_running c.args.self.now c.in-Some.n (its_round g.C.TableCore.is_once c.args.self.now c.args.f c.args.future.now i s c.in-Some.n c.in-Some.is) (cond (runs (its_round g.C.TableCore.is_once c.args.self.now c.args.f c.args.future.now i s c.in-Some.n c.in-Some.is).running c.args.f) None (its_round g.C.TableCore.is_once c.args.self.now c.args.f c.args.future.now i s c.in-Some.n c.in-Some.is).running)) c.args.ready.now (record { wakers = c.args.ready.now.wakers ++ c.in-Some-stop.waker ∷ []; registered = c.args.ready.now.registered - 1 })) (sym c.settle.ensures)
    (settles_waking g.C.TableCore.is_once c.args.self.now c.args.f c.args.future.now i s c.in-Some.n c.in-Some.is (its_round g.C.TableCore.is_once c.args.self.now c.args.f c.args.future.now i s c.in-Some.n c.in-Some.is) c.in-Some-stop.waker (its_there g.C.TableCore.is_once c.args.self.now c.args.f c.args.future.now i s c.in-Some.n c.in-Some.is) c.args.outcome c.args.ready.now c.requires.room (sym (c.stop.ensures.waker (its_round g.C.TableCore.is_once c.args.self.now c.args.f c.args.future.now i s c.in-Some.n c.in-Some.is) (its_there g.C.TableCore.is_once c.args.self.now c.args.f c.args.future.now i s c.in-Some.n c.in-Some.is)) ∙ c.in-Some-stop.is)))

pub returns-in_default-stop : goal.returns-in_default-stop
returns-in_default-stop g c = λ i s. rw (c.stop.ensures.is (its_round g.C.TableCore.is_once c.args.self.now c.args.f c.args.future.now i s c.in-Some.n c.in-Some.is) (its_there g.C.TableCore.is_once c.args.self.now c.args.f c.args.future.now i s c.in-Some.n c.in-Some.is)) (subst (λ (o : Initialiser). SteppedTable g.C.TableCore.is_once c.args.self.now s.fs i c.args.f c.args.future.now.table (Some (settled_future c.args.future.now o)) (λ h. tables.settle g.C.TableCore.is_once h c.args.f c.args.outcome (key_future_seen c.args.future.now) (table_seen c.args.self.now) c.args.future.now.round) Done (with_running c.args.self.now c.in-Some.n (its_round g.C.TableCore.is_once c.args.self.now c.args.f c.args.future.now i s c.in-Some.n c.in-Some.is) (cond (runs (its_round g.C.TableCore.is_once c.args.self.now c.args.f c.args.future.now i s c.in-Some.n c.in-Some.is).running c.args.f) None (its_round g.C.TableCore.is_once c.args.self.now c.args.f c.args.future.now i s c.in-Some.n c.in-Some.is).running)) c.args.ready.now c.args.ready.now) (sym c.settle.ensures)
    (settles_quiet g.C.TableCore.is_once c.args.self.now c.args.f c.args.future.now i s c.in-Some.n c.in-Some.is (its_round g.C.TableCore.is_once c.args.self.now c.args.f c.args.future.now i s c.in-Some.n c.in-Some.is) (its_there g.C.TableCore.is_once c.args.self.now c.args.f c.args.future.now i s c.in-Some.n c.in-Some.is) c.args.outcome c.args.ready.now c.requires.room (sym (c.stop.ensures.waker (its_round g.C.TableCore.is_once c.args.self.now c.args.f c.args.future.now i s c.in-Some.n c.in-Some.is) (its_there g.C.TableCore.is_once c.args.self.now c.args.f c.args.future.now i s c.in-Some.n c.in-Some.is)) ∙ c.in_default-stop.is)))
