-- what the calls of an entry of a map or a group are asked for, as its code leaves it, and polls in whichever way a future comes to a round
use Rattle.std.proofs.Common.{◌≡◌, ℕ, ◌+◌, ◌-◌, ◌≤◌, ◌++◌, Bool, cond, length, [], ◌∷◌, Option, Some, None, nat_eq, refl, ap, sym, subst, ◌∙◌, arith, append-nil, ◌==◌, false, Result, Ok, is_some}
use Rattle.std.specs.FinMap.{get, remove, insert}
use Rattle.mea_family.specs.declared.answer.Answer.TheVariants as answer_is
use Rattle.mea_base.specs.Ready.{Waking}
use Rattle.mea_base.proofs.Maps.{inside, get-there}
use Rattle.mea_by_name.specs.declared.named_waker.NamedWaker.{NamedWaker}
use Rattle.mea_by_name.specs.ByName.{Names}
use Rattle.mea_by_name.proofs.Own.{insert_same, put_gone, gone_none}
use Rattle.mea_once_core.specs.Keyed.{EndsAt, Discards, IsSameKeyed, PollsKey}
use Rattle.mea_once_model.specs.declared.errand.Initialiser.{Initialiser}
use Rattle.mea_once_model.specs.Tables as tables
use Rattle.mea_once_model.specs.Tables.{without_key, is_this}
use Rattle.mea_once.specs.declared.key_future.KeyFuture.{KeyFuture}
use Rattle.mea_once.specs.declared.round.Round.{Round}
use Rattle.mea_once.specs.Entries.{runs, waking}
use Rattle.mea_once.specs.KeyCores.{NamedKeyed, answers}
use Rattle.mea_once.specs.KeyEntries.{KeptTable, HandsKeys, kept_with, left_round, one_future_less, with_running, stopped_waker, Enters, Stays, Joins, Opens, FollowsKey, joined, new_round, parted, running_in, IsSameTable, runs_round, IsOwn, runs_own}
use Rattle.mea_once.specs.KeyParts.{table_seen, key_future_seen, AreTogether, table_keeps, StandsTable, SteppedTable, IsRound, callers_of}
use Rattle.mea_once.proofs.KeyEvents.{its_call, its_round, its_there, no_round, not_of}
use Rattle.mea_once.proofs.KeyCalls.{leaves_so, settled_future, settles_so, end_fit, end_steps, Polled_so, polls_there, polls_joined, polls_opened, room_for}
use Rattle.mea_once.proofs.KeyDiscards.{waking_none, waking_some, cell_room, discards_so}
use Rattle.std.proofs.lemmas.Bool.{eq-eqb, ne_eqb}
use Rattle.mea_sets.specs.Poll.{Poll}
use Rattle.mea_once_core.specs.declared.key_call.KeyCall.{KeyCall}
use Rattle.mea_once.specs.declared.scripted.Scripted.{Scripted}
use Rattle.mea_once.specs.declared.poll_reply.PollReply.{PollReply}
use Rattle.mea_once.proofs.KeyCells.{named}
use Rattle.mea_once.proofs.KeyTables.{put_twice}

module _ (once : Bool) (e : KeptTable) (f : ℕ) (x : KeyFuture) (i : ℕ) (s : StandsTable once e f x i) where
  -- ---- an end
  -- of a future of no round
  pub ends_none : x.round ≡ None → (k' : NamedKeyed) → EndsAt nat_eq x.call.stage e.keyed x.call.call.stage k' → (new : KeptTable) → new ≡ one_future_less (record e { keyed = k' }) → (before : Waking ℕ)
      → SteppedTable once e s.fs i f x.table None (λ h. tables.end once h f (key_future_seen x) (Some (table_seen e))) answer_is.Done new before before
  ends_none of k' ends new new_is before =
      let stage = (its_call once e f x i s None of).0 in
      leaves_so once e f x i s k' (subst (λ st. EndsAt nat_eq st e.keyed x.call.call.stage k') stage ends) of (λ h. tables.end once h f (key_future_seen x) (Some (table_seen e))) answer_is.Done (record { table = table_seen e; future = None; reply = answer_is.Done; wakes = [] })
      (λ h there count. ap (tables.end_in once h f (key_future_seen x) (table_seen e)) of ∙ (λ j. record { hall = record { tables = sym (insert_same h.tables x.table (table_seen e) there) j; futures = remove h.futures f }; reply = answer_is.Done; wakes = [] }))
      refl refl refl new before before new_is (sym (append-nil before.wakers)) refl

  module _ (n : ℕ) (of : x.round ≡ Some n) where
    pub its_there_too : (r : Round) → get e.rounds n ≡ Some r → its_round once e f x i s n of ≡ r
    its_there_too r there = inside (sym (its_there once e f x i s n of) ∙ there)

    module _ (r : Round) (there : get e.rounds n ≡ Some r) (k' : NamedKeyed) (ends : EndsAt nat_eq x.call.stage e.keyed x.call.call.stage k') (run : Option NamedWaker) (run_is : run ≡ cond (runs r.running f) None r.running) (e3 : KeptTable)
        (e3_is : e3 ≡ one_future_less (left_round (record e { keyed = k' }) x.key n (record r { running = run }))) where
      same_round : its_round once e f x i s n of ≡ r
      same_round = its_there_too r there

      abbrev End_so : Round → Option NamedWaker → KeptTable → Type 0
      End_so r run e3 = (kept_with e3 run + length e3.keyed.wakes ≤ kept_with e r.running)
          × ((new : KeptTable) (more : ℕ) (before after : Waking ℕ) → HandsKeys e3 run new more before after → more ≡ kept_with e r.running → SteppedTable once e s.fs i f x.table None (λ h. tables.end once h f (key_future_seen x) (Some (table_seen e))) answer_is.Done new before after)

      pub ends_so : End_so r run e3
      ends_so = rw (e3_is, run_is) (subst (λ r. End_so r (cond (runs r.running f) None r.running) (one_future_less (left_round (record e { keyed = k' }) x.key n (record r { running = cond (runs r.running f) None r.running })))) same_round
          (end_fit once e f x i s n of k' ends, end_steps once e f x i s n of k' ends))

    -- ---- it is settled
    pub settles_round : (r : Round) → get e.rounds n ≡ Some r → (o : Initialiser) (before : Waking ℕ) → table_keeps e ≤ before.registered
        → SteppedTable once e s.fs i f x.table (Some (settled_future x o)) (λ h. tables.settle once h f o (key_future_seen x) (table_seen e) x.round) answer_is.Done (with_running e n r (cond (runs r.running f) None r.running)) before (waking r.running f before)
    settles_round r there o before room =
        subst (λ r. SteppedTable once e s.fs i f x.table (Some (settled_future x o)) (λ h. tables.settle once h f o (key_future_seen x) (table_seen e) x.round) answer_is.Done (with_running e n r (cond (runs r.running f) None r.running)) before (waking r.running f before)) (its_there_too r there)
        (settles_so once e f x i s n of o before (let few = cell_room once e f x i s n of in omega arith))

    pub settles_quiet : (r : Round) → get e.rounds n ≡ Some r → (o : Initialiser) (before : Waking ℕ) → table_keeps e ≤ before.registered → stopped_waker r.running f ≡ None
        → SteppedTable once e s.fs i f x.table (Some (settled_future x o)) (λ h. tables.settle once h f o (key_future_seen x) (table_seen e) x.round) answer_is.Done (with_running e n r (cond (runs r.running f) None r.running)) before before
    settles_quiet r there o before room none = rw (waking_none r.running f before none) at (settles_round r there o before room)

    pub settles_waking : (r : Round) (w : ℕ) → get e.rounds n ≡ Some r → (o : Initialiser) (before : Waking ℕ) → table_keeps e ≤ before.registered → stopped_waker r.running f ≡ Some w
        → SteppedTable once e s.fs i f x.table (Some (settled_future x o)) (λ h. tables.settle once h f o (key_future_seen x) (table_seen e) x.round) answer_is.Done (with_running e n r (cond (runs r.running f) None r.running)) before (record { wakers = before.wakers ++ w ∷ []; registered = before.registered - 1 })
    settles_waking r w there o before room some = rw (waking_some r.running f w before some) at (settles_round r there o before room)

-- ---- a key is taken out
pub discards_all : (once : Bool) (e : KeptTable) (k : ℕ) (k' : NamedKeyed) (new : KeptTable) → Discards nat_eq e.keyed k k' → new ≡ record e { keyed = k'; current = remove e.current k }
    → (fs : Names KeyFuture) → AreTogether once e fs → (table_seen new ≡ without_key k (table_seen e)) × AreTogether once new fs × (table_keeps new ≡ table_keeps e) × (new.rounds ≡ e.rounds) × (new.futures ≡ e.futures)
discards_all once e k k' new discards new_is fs kept = rw new_is (let it = discards_so once e fs kept k k' discards in (it.seen, it.together, it.keeps, refl, refl))

pub one_back : (m : ℕ) → m + 1 - 1 ≡ m
one_back m = omega arith

module _ (once : Bool) (e : KeptTable) (f w : ℕ) (x : KeyFuture) (i : ℕ) (s : StandsTable once e f x i) where
  -- a future of no round keeps no waker in one
  none_runs : x.round ≡ None → (n : ℕ) (r : Round) → get e.rounds n ≡ Some r → runs r.running f ≡ false
  none_runs of n r there = at r.running refl
    where
      it : IsRound e s.fs n r
      it = s.kept.rounds n r there

      at : (o : Option NamedWaker) → r.running ≡ o → runs o f ≡ false
      at None is = refl
      at (Some k) is = ne_eqb k.name f (λ same.
          let one = it.kept.tied.runner k is in
          absurd (let none : get (callers_of n s.fs) k.name ≡ None = ap (get (callers_of n s.fs)) same ∙ not_of once e f x i s of n in let some = one.1 in cc))

  -- its own initialiser keeps none
  abbrev pub IsIdle : Type 0
  IsIdle = (m : ℕ) (r : Round) → x.round ≡ Some m → get e.rounds m ≡ Some r → runs r.running f ≡ false

  -- what is told of its own round
  pub own_runs : (o : Option (ℕ × Round)) → IsOwn e x.round o → (m : ℕ) → x.round ≡ Some m → runs_own o f ≡ runs_round (get e.rounds m) f
  own_runs None is m of = absurd (let no : x.round ≡ None = is in cc)
  own_runs (Some a) is m of =
      let same : a.0 ≡ m = inside (sym is.0 ∙ of) in
      ap (λ p. runs_round p f) (sym is.1 ∙ ap (get e.rounds) same)

  pub idle_where : (o : Option (ℕ × Round)) → IsOwn e x.round o → runs_own o f ≡ false → IsIdle
  idle_where o is idle m r of there = ap (λ p. runs_round p f) (sym there) ∙ sym (own_runs o is m of) ∙ idle

  module _ (idle : IsIdle) (k' : NamedKeyed) (call' : KeyCall ℕ Scripted) (poll : Poll (Result ℕ ℕ)) (told : PollReply) (e3 : KeptTable) (x3 : KeyFuture) where
    abbrev x2 : KeyFuture
    x2 = record x { call = call' }

    abbrev Result_is : Option NamedWaker → Type 0
    Result_is r = Polled_so once e f w x i s (running_in call'.call.stage r (named f w)) r told e3 x3

    pub polls_any : (n : ℕ) (e1 : KeptTable) → Enters e i x n e1 → (r : Round) → get e1.rounds n ≡ Some r → PollsKey answers nat_eq once e1.keyed x.call (named f w) (Ok poll) k' call' → FollowsKey poll (record e1 { keyed = k' }) n r x2 (named f w) told e3 x3 → Result_is r.running
    polls_any _ _ (Stays n of) r there polls follows =
        let same : its_round once e f x i s n of ≡ r = inside (sym (its_there once e f x i s n of) ∙ there) in
        subst (λ r. FollowsKey poll (record e { keyed = k' }) n r x2 (named f w) told e3 x3 → Result_is r.running) same
        (polls_there once e f w x i s n of (idle n (its_round once e f x i s n of) of (its_there once e f x i s n of)) k' call' poll polls told e3 x3) follows
    polls_any _ _ (Joins n r1 of now is) r there polls follows =
        let same : joined r1 ≡ r = inside (sym (get-there e.rounds n (joined r1)) ∙ there) in
        subst (λ r. FollowsKey poll (record e { keyed = k'; rounds = insert e.rounds n (joined r1) }) n r x2 (named f w) told e3 x3 → Result_is r.running) same
        (polls_joined once e f w x i s of k' call' poll polls n now r1 is (none_runs of n r1 is) told e3 x3) follows
    polls_any _ _ (Opens of none) r there polls follows =
        let same : new_round x.key ≡ r = inside (sym (get-there e.rounds i (new_round x.key)) ∙ there) in
        subst (λ r. FollowsKey poll (record e { keyed = k'; rounds = insert e.rounds i (new_round x.key); current = insert e.current x.key i }) i r x2 (named f w) told e3 x3 → Result_is r.running) same
        (polls_opened once e f w x i s of k' call' poll polls none told e3 x3) follows

  -- ---- what a round has that a future has come to
  pub record Entered (n : ℕ) (e1 : KeptTable) (r : Round) : Type 0 where
    pub keyed : e1.keyed ≡ e.keyed
    pub futures : e1.futures ≡ e.futures
    pub some : 1 ≤ r.callers
    pub kept : kept_with e1 r.running ≤ table_keeps e

  pub entered_so : (n : ℕ) (e1 : KeptTable) → Enters e i x n e1 → (r : Round) → get e1.rounds n ≡ Some r → Entered n e1 r
  entered_so _ _ (Stays n of) r there = record { keyed = refl; futures = refl; some = (s.kept.rounds n r there).some; kept = room_for once e f x i s n r there }
  entered_so _ _ (Joins n r1 of now is) r there =
      let same : joined r1 ≡ r = inside (sym (get-there e.rounds n (joined r1)) ∙ there) in
      rw (← same) (record { keyed = refl; futures = refl; some = omega arith; kept = room_for once e f x i s n r1 is })
  entered_so _ _ (Opens of none) r there =
      let same : new_round x.key ≡ r = inside (sym (get-there e.rounds i (new_round x.key)) ∙ there) in
      rw (← same) (record { keyed = refl; futures = refl; some = omega arith; kept = omega arith })

  -- where the core found no memory, the future leaves it again
  pub undone : (k' : NamedKeyed) (n : ℕ) (e1 : KeptTable) → Enters e i x n e1 → (r : Round) → get e1.rounds n ≡ Some r → IsSameKeyed nat_eq e1.keyed k' → IsSameTable e (cond (is_some x.round) (record e1 { keyed = k' }) (left_round (record e1 { keyed = k' }) x.key n r))
  undone k' _ _ (Stays n of) r there same = subst (λ o. IsSameTable e (cond (is_some o) (record e { keyed = k' }) (left_round (record e { keyed = k' }) x.key n r))) (sym of) (record { keyed = same; current = refl; rounds = refl; futures = refl })
  undone k' _ _ (Joins n r1 of now is) r there same =
      let both : joined r1 ≡ r = inside (sym (get-there e.rounds n (joined r1)) ∙ there) in
      let more : (r1.callers + 1 == 1) ≡ false = ne_eqb (r1.callers + 1) 1 (λ one. let some = (s.kept.rounds n r1 is).some in absurd (omega arith)) in
      let back : parted (joined r1) ≡ r1 = λ j. record r1 { callers = one_back r1.callers j } in
      subst (λ o. IsSameTable e (cond (is_some o) (record e { keyed = k'; rounds = insert e.rounds n (joined r1) }) (left_round (record e { keyed = k'; rounds = insert e.rounds n (joined r1) }) x.key n r))) (sym of)
      (subst (λ r. IsSameTable e (left_round (record e { keyed = k'; rounds = insert e.rounds n (joined r1) }) x.key n r)) both
      (rw more (record { keyed = same; current = refl; rounds = put_twice e.rounds n (joined r1) (parted (joined r1)) ∙ ap (insert e.rounds n) back ∙ insert_same e.rounds n r1 is; futures = refl })))
  undone k' _ _ (Opens of none) r there same =
      let both : new_round x.key ≡ r = inside (sym (get-there e.rounds i (new_round x.key)) ∙ there) in
      subst (λ o. IsSameTable e (cond (is_some o) (record e { keyed = k'; rounds = insert e.rounds i (new_round x.key); current = insert e.current x.key i }) (left_round (record e { keyed = k'; rounds = insert e.rounds i (new_round x.key); current = insert e.current x.key i }) x.key i r))) (sym of)
      (subst (λ r. IsSameTable e (left_round (record e { keyed = k'; rounds = insert e.rounds i (new_round x.key); current = insert e.current x.key i }) x.key i r)) both (record {
        keyed = same;
        current = ap (λ o. cond (is_this i o) (remove (insert e.current x.key i) x.key) (insert e.current x.key i)) (get-there e.current x.key i) ∙ ap (λ b. cond b (remove (insert e.current x.key i) x.key) (insert e.current x.key i)) (eq-eqb i i refl) ∙ put_gone e.current x.key i ∙ gone_none e.current x.key none;
        rounds = put_gone e.rounds i (new_round x.key) ∙ gone_none e.rounds i (no_round once e f x i s);
        futures = refl;
      }))
