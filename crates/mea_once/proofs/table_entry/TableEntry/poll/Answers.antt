use Rattle.std.specs.FinMap.{get}
use Rattle.std.proofs.Common.{ℕ, ◌+◌, ◌-◌, Some, nat_eq, is_some, ap, sym, subst, ◌∙◌, arith}
use Rattle.mea_base.specs.Ready.{Waking}
use Rattle.mea_once_core.specs.Keyed.{MayPollKey}
use Rattle.mea_once_core.specs.Waiting.{waiting_in}
use Rattle.mea_once.specs.Entries.{of_running}
use Rattle.mea_once.specs.KeyCores.{NamedKeyed}
use Rattle.mea_once.specs.KeyEntries.{KeptTable, Enters, IsSameTable, HandsKeys, runs_round}
use Rattle.mea_once.specs.KeyParts.{SteppedTable, table_seen, key_future_seen}
use Rattle.mea_once_model.specs.Tables as tables
use Rattle.mea_family.specs.declared.answer.Answer.TheVariants.{Pending}
use Rattle.mea_once.proofs.KeyEvents.{its_round, its_there}
use Rattle.mea_once.proofs.KeyCalls.{rewakes_so, enter_few, may_poll_key, some_futures}
use Rattle.mea_once.proofs.KeyAnswers.{one_back, polls_any, own_runs, idle_where, entered_so, undone}
use Rattle.mea_once.proofs.table_entry.TableEntry.poll.Goals as goal

pub returns-then-runs-clause-steps : goal.returns-then-runs-clause-steps
returns-then-runs-clause-steps g c = λ s.
    let there = its_there g.C.TableCore.is_once c.args.self.now c.args.f c.args.future.now c.args.number s c.in-Some.n c.in-Some.is in
    subst (λ new. SteppedTable g.C.TableCore.is_once c.args.self.now s.fs c.args.number c.args.f c.args.future.now.table (Some c.args.future.now) (λ h. tables.poll g.C.TableCore.is_once h c.args.number c.args.f c.args.waker (key_future_seen c.args.future.now) (table_seen c.args.self.now) c.args.future.now.round) Pending new c.args.ready.now c.args.ready.now)
    (sym (c.rewake.ensures (its_round g.C.TableCore.is_once c.args.self.now c.args.f c.args.future.now c.args.number s c.in-Some.n c.in-Some.is) there))
    (rewakes_so g.C.TableCore.is_once c.args.self.now c.args.f c.args.waker c.args.future.now c.args.number s c.in-Some.n c.in-Some.is c.args.ready.now (ap (λ o. runs_round o c.args.f) (sym there) ∙ sym (own_runs g.C.TableCore.is_once c.args.self.now c.args.f c.args.waker c.args.future.now c.args.number s c.own_round-own.result c.own_round-own.ensures c.in-Some.n c.in-Some.is) ∙ sym c.runs.ensures ∙ c.if-runs.true))

pub own_round-own-requires : goal.own_round-own-requires
own_round-own-requires g c = λ n of. ap is_some (its_there g.C.TableCore.is_once c.args.self.now c.args.f c.args.future.now c.args.number c.requires.stands n of)

pub enter-requires-clause-few : goal.enter-requires-clause-few
enter-requires-clause-few g c = λ n r there. enter_few g.C.TableCore.is_once c.args.self.now c.args.f c.args.future.now c.args.number c.requires.stands n r there

pub overflow_add-more : goal.overflow_add-more
overflow_add-more g c =
    let enters : Enters c.args.self.now c.args.number c.args.future.now c.in-Ok-enter.n (record { keyed = g.C.TableCore.seen_as c.self.inside.core; current = c.self.inside.current.things; rounds = c.self.inside.rounds; futures = c.self.inside.futures }) = subst (Enters c.args.self.now c.args.number c.args.future.now c.in-Ok-enter.n) (sym c.self.view_is) c.in-Ok-enter.ensures.enters in
    let it = entered_so g.C.TableCore.is_once c.args.self.now c.args.f c.args.waker c.args.future.now c.args.number c.requires.stands c.in-Ok-enter.n _ enters c.in-Ok-enter.round (ap (λ (e : KeptTable). get e.rounds c.in-Ok-enter.n) c.self.view_is ∙ c.in-Ok-enter.ensures.round) in
    omega (arith, it.kept, c.requires.room, c.keeps-more.ensures, ap (λ (e : KeptTable). waiting_in e.keyed.table.slots) c.self.view_is, ap (λ (r : Waking ℕ). r.registered) c.in-Ok.ensures.ok, c.registered-room.ensures)

pub poll-requires : goal.poll-requires
poll-requires g c =
    let enters : Enters c.args.self.now c.args.number c.args.future.now c.in-Ok-enter.n (record { keyed = g.C.TableCore.seen_as c.self.inside.core; current = c.self.inside.current.things; rounds = c.self.inside.rounds; futures = c.self.inside.futures }) = subst (Enters c.args.self.now c.args.number c.args.future.now c.in-Ok-enter.n) (sym c.self.view_is) c.in-Ok-enter.ensures.enters in
    let it = entered_so g.C.TableCore.is_once c.args.self.now c.args.f c.args.waker c.args.future.now c.args.number c.requires.stands c.in-Ok-enter.n _ enters c.in-Ok-enter.round (ap (λ (e : KeptTable). get e.rounds c.in-Ok-enter.n) c.self.view_is ∙ c.in-Ok-enter.ensures.round) in
    record { may = subst (λ (k : NamedKeyed). MayPollKey nat_eq k c.args.future.now.call) (sym it.keyed) (may_poll_key g.C.TableCore.is_once c.args.self.now c.args.f c.args.future.now c.args.number c.requires.stands) }

pub undo-requires-clause-there : goal.undo-requires-clause-there
undo-requires-clause-there g c = ap is_some (ap (λ (e : KeptTable). get e.rounds c.in-Ok-enter.n) c.self.view_is ∙ c.in-Ok-enter.ensures.round)

pub undo-requires-clause-some : goal.undo-requires-clause-some
undo-requires-clause-some g c =
    let enters : Enters c.args.self.now c.args.number c.args.future.now c.in-Ok-enter.n (record { keyed = g.C.TableCore.seen_as c.self.inside.core; current = c.self.inside.current.things; rounds = c.self.inside.rounds; futures = c.self.inside.futures }) = subst (Enters c.args.self.now c.args.number c.args.future.now c.in-Ok-enter.n) (sym c.self.view_is) c.in-Ok-enter.ensures.enters in
    let it = entered_so g.C.TableCore.is_once c.args.self.now c.args.f c.args.waker c.args.future.now c.args.number c.requires.stands c.in-Ok-enter.n _ enters c.in-Ok-enter.round (ap (λ (e : KeptTable). get e.rounds c.in-Ok-enter.n) c.self.view_is ∙ c.in-Ok-enter.ensures.round) in
    it.some

pub returns-in_default-poll-clause-err : goal.returns-in_default-poll-clause-err
returns-in_default-poll-clause-err g c =
    let enters : Enters c.args.self.now c.args.number c.args.future.now c.in-Ok-enter.n (record { keyed = g.C.TableCore.seen_as c.self.inside.core; current = c.self.inside.current.things; rounds = c.self.inside.rounds; futures = c.self.inside.futures }) = subst (Enters c.args.self.now c.args.number c.args.future.now c.in-Ok-enter.n) (sym c.self.view_is) c.in-Ok-enter.ensures.enters in
    let same = undone g.C.TableCore.is_once c.args.self.now c.args.f c.args.waker c.args.future.now c.args.number c.requires.stands (g.C.TableCore.seen_as c.poll.new.self) c.in-Ok-enter.n _ enters c.in-Ok-enter.round (ap (λ (e : KeptTable). get e.rounds c.in-Ok-enter.n) c.self.view_is ∙ c.in-Ok-enter.ensures.round) c.in_default-poll.ensures.err.0 in (
      subst (IsSameTable c.args.self.now) (sym c.undo.ensures) same,
      (λ i. record { table = c.args.future.now.table; key = c.args.future.now.key; round = c.args.future.now.round; call = c.in_default-poll.ensures.err.1 i }),
      c.unregister-in_default-poll.ensures ∙ ap (λ (r : Waking ℕ). record r { registered = r.registered - 1 }) c.in-Ok.ensures.ok ∙ (λ i. record c.args.ready.now { registered = one_back c.args.ready.now.registered i }),
    )

pub follow-told-requires-clause-there : goal.follow-told-requires-clause-there
follow-told-requires-clause-there g c = ap is_some (ap (λ (e : KeptTable). get e.rounds c.in-Ok-enter.n) c.self.view_is ∙ c.in-Ok-enter.ensures.round)

pub follow-told-requires-clause-some : goal.follow-told-requires-clause-some
follow-told-requires-clause-some g c =
    let enters : Enters c.args.self.now c.args.number c.args.future.now c.in-Ok-enter.n (record { keyed = g.C.TableCore.seen_as c.self.inside.core; current = c.self.inside.current.things; rounds = c.self.inside.rounds; futures = c.self.inside.futures }) = subst (Enters c.args.self.now c.args.number c.args.future.now c.in-Ok-enter.n) (sym c.self.view_is) c.in-Ok-enter.ensures.enters in
    let it = entered_so g.C.TableCore.is_once c.args.self.now c.args.f c.args.waker c.args.future.now c.args.number c.requires.stands c.in-Ok-enter.n _ enters c.in-Ok-enter.round (ap (λ (e : KeptTable). get e.rounds c.in-Ok-enter.n) c.self.view_is ∙ c.in-Ok-enter.ensures.round) in
    it.some

pub follow-told-requires-clause-futures : goal.follow-told-requires-clause-futures
follow-told-requires-clause-futures g c =
    let enters : Enters c.args.self.now c.args.number c.args.future.now c.in-Ok-enter.n (record { keyed = g.C.TableCore.seen_as c.self.inside.core; current = c.self.inside.current.things; rounds = c.self.inside.rounds; futures = c.self.inside.futures }) = subst (Enters c.args.self.now c.args.number c.args.future.now c.in-Ok-enter.n) (sym c.self.view_is) c.in-Ok-enter.ensures.enters in
    let it = entered_so g.C.TableCore.is_once c.args.self.now c.args.f c.args.waker c.args.future.now c.args.number c.requires.stands c.in-Ok-enter.n _ enters c.in-Ok-enter.round (ap (λ (e : KeptTable). get e.rounds c.in-Ok-enter.n) c.self.view_is ∙ c.in-Ok-enter.ensures.round) in
    omega (arith, it.futures, some_futures g.C.TableCore.is_once c.args.self.now c.args.f c.args.future.now c.args.number c.requires.stands)

pub hand_on-requires-clause-fits : goal.hand_on-requires-clause-fits
hand_on-requires-clause-fits g c =
    let enters : Enters c.args.self.now c.args.number c.args.future.now c.in-Ok-enter.n (record { keyed = g.C.TableCore.seen_as c.self.inside.core; current = c.self.inside.current.things; rounds = c.self.inside.rounds; futures = c.self.inside.futures }) = subst (Enters c.args.self.now c.args.number c.args.future.now c.in-Ok-enter.n) (sym c.self.view_is) c.in-Ok-enter.ensures.enters in
    let it = entered_so g.C.TableCore.is_once c.args.self.now c.args.f c.args.waker c.args.future.now c.args.number c.requires.stands c.in-Ok-enter.n _ enters c.in-Ok-enter.round (ap (λ (e : KeptTable). get e.rounds c.in-Ok-enter.n) c.self.view_is ∙ c.in-Ok-enter.ensures.round) in
    let done = polls_any g.C.TableCore.is_once c.args.self.now c.args.f c.args.waker c.args.future.now c.args.number c.requires.stands (idle_where g.C.TableCore.is_once c.args.self.now c.args.f c.args.waker c.args.future.now c.args.number c.requires.stands c.own_round-own.result c.own_round-own.ensures (sym c.runs.ensures ∙ c.if-runs.false)) (g.C.TableCore.seen_as c.poll.new.self) c.poll.new.call c.in-Ok-poll.answer c.follow-told.result c.follow-told.new.self c.follow-told.new.future
    c.in-Ok-enter.n _ enters c.in-Ok-enter.round (ap (λ (e : KeptTable). get e.rounds c.in-Ok-enter.n) c.self.view_is ∙ c.in-Ok-enter.ensures.round) c.in-Ok-poll.ensures.polls c.follow-told.ensures in
    omega (arith, done.fit, c.keeps-more.ensures, ap (λ (e : KeptTable). waiting_in e.keyed.table.slots) c.self.view_is, ap (λ (k : NamedKeyed). waiting_in k.table.slots) it.keyed, ap of_running c.running_after-running.ensures)

pub hand_on-requires-clause-room : goal.hand_on-requires-clause-room
hand_on-requires-clause-room g c =
    let enters : Enters c.args.self.now c.args.number c.args.future.now c.in-Ok-enter.n (record { keyed = g.C.TableCore.seen_as c.self.inside.core; current = c.self.inside.current.things; rounds = c.self.inside.rounds; futures = c.self.inside.futures }) = subst (Enters c.args.self.now c.args.number c.args.future.now c.in-Ok-enter.n) (sym c.self.view_is) c.in-Ok-enter.ensures.enters in
    let it = entered_so g.C.TableCore.is_once c.args.self.now c.args.f c.args.waker c.args.future.now c.args.number c.requires.stands c.in-Ok-enter.n _ enters c.in-Ok-enter.round (ap (λ (e : KeptTable). get e.rounds c.in-Ok-enter.n) c.self.view_is ∙ c.in-Ok-enter.ensures.round) in
    omega (arith, it.kept, c.requires.room, c.keeps-more.ensures, ap (λ (e : KeptTable). waiting_in e.keyed.table.slots) c.self.view_is, ap (λ (r : Waking ℕ). r.registered) c.in-Ok.ensures.ok)

pub returns-clause-steps : goal.returns-clause-steps
returns-clause-steps g c = λ s.
    let enters : Enters c.args.self.now c.args.number c.args.future.now c.in-Ok-enter.n (record { keyed = g.C.TableCore.seen_as c.self.inside.core; current = c.self.inside.current.things; rounds = c.self.inside.rounds; futures = c.self.inside.futures }) = subst (Enters c.args.self.now c.args.number c.args.future.now c.in-Ok-enter.n) (sym c.self.view_is) c.in-Ok-enter.ensures.enters in
    let it = entered_so g.C.TableCore.is_once c.args.self.now c.args.f c.args.waker c.args.future.now c.args.number s c.in-Ok-enter.n _ enters c.in-Ok-enter.round (ap (λ (e : KeptTable). get e.rounds c.in-Ok-enter.n) c.self.view_is ∙ c.in-Ok-enter.ensures.round) in
    let done = polls_any g.C.TableCore.is_once c.args.self.now c.args.f c.args.waker c.args.future.now c.args.number s (idle_where g.C.TableCore.is_once c.args.self.now c.args.f c.args.waker c.args.future.now c.args.number s c.own_round-own.result c.own_round-own.ensures (sym c.runs.ensures ∙ c.if-runs.false)) (g.C.TableCore.seen_as c.poll.new.self) c.poll.new.call c.in-Ok-poll.answer c.follow-told.result c.follow-told.new.self c.follow-told.new.future
    c.in-Ok-enter.n _ enters c.in-Ok-enter.round (ap (λ (e : KeptTable). get e.rounds c.in-Ok-enter.n) c.self.view_is ∙ c.in-Ok-enter.ensures.round) c.in-Ok-poll.ensures.polls c.follow-told.ensures in
    done.steps c.hand_on.new.self (c.keeps-more.result + 1) c.args.ready.now c.register.new.self c.hand_on.new.ready (subst (λ q. HandsKeys c.follow-told.new.self q c.hand_on.new.self (c.keeps-more.result + 1) c.register.new.self c.hand_on.new.ready) c.running_after-running.ensures c.hand_on.ensures)
    (omega (arith, c.keeps-more.ensures, ap (λ (e : KeptTable). waiting_in e.keyed.table.slots) c.self.view_is, ap (λ (k : NamedKeyed). waiting_in k.table.slots) it.keyed)) (ap (λ (r : Waking ℕ). r.wakers) c.in-Ok.ensures.ok) (ap (λ (r : Waking ℕ). r.registered) c.in-Ok.ensures.ok)
