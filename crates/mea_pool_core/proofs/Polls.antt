-- the polls of a pool, from those of its places and its gate
use Rattle.std.proofs.Common.{◌≡◌, ◌≢◌, ◌∙◌, ℕ, ◌+◌, ◌<◌, ◌≤◌, ◌++◌, ◌⊎◌, inl, inr, true, false, [], ◌∷◌, Some, None, Result, Ok, Err, MatchResult, length, refl, ap, sym, subst, arith, length-set}
use Rattle.std.proofs.lemmas.Bool.{cases_lt, cases_Bool}
use Rattle.std.specs.Prelude.{OnErr}
use Rattle.std.specs.FinMap as map
use Rattle.mea_base.specs.declared.poll.Poll.{Poll}
use Rattle.mea_base.specs.declared.poll.Poll.TheVariants as poll
use Rattle.mea_base.specs.declared.no_memory.NoMemory.{NoMemory}
use Rattle.mea_sem_core.specs.declared.open_turn.OpenTurn.{OpenTurn}
use Rattle.mea_sem_core.specs.declared.open_turn.OpenTurn.TheVariants.{Ready, Pending}
use Rattle.mea_lock_core.specs.Condvar.{with_waker, without_wait}
use Rattle.mea_pool_core.specs.declared.lease_wait.LeaseWait.{LeaseWait}
use Rattle.mea_pool_core.specs.declared.lease_wait.LeaseWait.TheVariants.{New, Queued, Done, Refused}
use Rattle.mea_pool_core.specs.declared.lease_poll.LeasePoll.TheVariants as answer
use Rattle.mea_pool_core.specs.declared.drain_wait.DrainWait.{DrainWait}
use Rattle.mea_pool_core.specs.declared.drain_wait.DrainWait.TheVariants as drain
use Rattle.mea_pool_core.specs.Shelf.{Shelf, lent_count, Lends}
use Rattle.mea_pool_core.specs.Places.{Places, taken_of, are_drained, IsUnmet, PollsPlace, FindsPlace, TriesPlace}
use Rattle.mea_pool_core.specs.Gate.{Gate, MayPollAt, StandsLast, PollsGate, EndsGate}
use Rattle.mea_pool_core.specs.Pool.{Pool, taken, is_drained}
use Rattle.mea_pool_core.specs.Calls.{MayPoll, Gets, PollsLease, TriesLease, Lists, PollsDrain, EndsDrain}
use Rattle.mea_pool_core.specs.Parts.{pool_of, ArePool}
use Rattle.mea_pool_core.proofs.Gates.{by_flag}
use Rattle.mea_pool_core.proofs.Lines.{some_counted}
use Rattle.mea_pool_core.proofs.Pools.{opened_is, not_drained, not_closed}

module _ {W : Type 0} where
  granted_undrained : (s : Places W) (n : ℕ) → map.get s.granted n ≡ Some 1 → are_drained s ≡ false
  granted_undrained s n there = not_drained s (let some : 1 ≤ map.len s.granted = some_counted s.granted n 1 there in omega arith)

module _ {R W : Type 0} where
  -- ---- a lease is got

  pub place_found : (x : Shelf R) (s : Places W) (g : Gate W) (a : LeaseWait) (t : OpenTurn W) (w : W) → ArePool x s g → MayPoll (pool_of x s g) a → t ≡ Ready w → (a ≢ Done → FindsPlace s t) → lent_count x.lent < length x.lent
  place_found x s g a t w are may ready finds =
      let found : s.held < s.size = subst (λ (u : OpenTurn W). FindsPlace s u) ready (finds (unmet a may.1)) in
      let size : s.size ≡ length x.lent = are.size in
      let held : s.held ≡ lent_count x.lent = are.held in
      omega arith
    where
      unmet : (a : LeaseWait) → IsUnmet a → a ≢ Done
      unmet New u is = cc
      unmet (Queued n) u is = cc
      unmet Done u is = absurd u
      unmet Refused u is = cc

  -- the place was free or granted before, and is held now
  got_by : (x x' : Shelf R) (s s' : Places W) (g : Gate W) (lease : ℕ × R) (m : map.FinMap _ ℕ) → ArePool x s g → Lends x lease x' → s' ≡ record s { held = s.held + 1; granted = m } → are_drained s ≡ false
      → ArePool x' s' g × Gets {R = R} {W = W} (record (pool_of x s g) { granted = m }) (Ok (answer.Got lease)) (pool_of x' s' g)
  got_by x x' s s' g lease m are lends is undrained =
      let long : length x'.lent ≡ length x.lent = ap length lends.marked ∙ length-set x.lent lease.0 true in
      let some : are_drained s' ≡ false = not_drained s' (let held : s'.held ≡ s.held + 1 = ap (λ (p : Places W). p.held) is in omega arith) in (
        record {
          size = ap (λ (p : Places W). p.size) is ∙ are.size ∙ sym long;
          held = let held : s'.held ≡ s.held + 1 = ap (λ (p : Places W). p.held) is in let was : s.held ≡ lent_count x.lent = are.held in let more : lent_count x'.lent ≡ lent_count x.lent + 1 = lends.more in omega arith;
          gate = are.gate ∙ undrained ∙ sym some;
          early = are.early;
        },
        record {
          lease = lease;
          answers = refl;
          first = lends.first;
          within = lends.within;
          free = lends.free;
          is = λ i. record (pool_of x' (is i) g) { lent = lends.marked i };
        },
      )

  room_is : (x : Shelf R) (s : Places W) (g : Gate W) → ArePool x s g → taken (pool_of x s g) < length x.lent → taken_of s < s.size
  room_is x s g are room = let size : s.size ≡ length x.lent = are.size in let held : s.held ≡ lent_count x.lent = are.held in omega arith

  full_is : (x : Shelf R) (s : Places W) (g : Gate W) → ArePool x s g → length x.lent ≤ taken (pool_of x s g) → s.size ≤ taken_of s
  full_is x s g are full = let size : s.size ≡ length x.lent = are.size in let held : s.held ≡ lent_count x.lent = are.held in omega arith

  pub got : (x x' : Shelf R) (s s' : Places W) (g : Gate W) (a a' : LeaseWait) (w y : W) (lease : ℕ × R) → ArePool x s g → PollsPlace s a w (Ok (Ready y)) s' a' → Lends x lease x'
      → PollsLease (pool_of x s g) a w (Ok (answer.Got lease)) (pool_of x' s' g) a'
  got x x' s s' g New a' w y lease are polls lends = (
    (λ closed. absurd (let no = (polls.0 closed).0 in cc)),
    (λ opens room. let h = polls.1 opens (room_is x s g are room) in ((got_by x x' s s' g lease s.granted are lends h.1 (not_closed s opens)).1, h.2)),
    (λ opens full. absurd (let no = (polls.2 opens (full_is x s g are full)).0 in cc)),
  )
  got x x' s s' g (Queued n) a' w y lease are polls lends = (
    (λ there. let h = polls.0 there in ((got_by x x' s s' g lease (map.remove s.granted n) are lends h.1 (granted_undrained s n there)).1, h.2)),
    (λ some. absurd (let no = (polls.1 some).0 in cc)),
    (λ there. absurd (let no = (polls.2 there).0 in cc)),
  )
  got x x' s s' g Done a' w y lease are polls lends = tt
  got x x' s s' g Refused a' w y lease are polls lends = absurd (let no = polls.0 in cc)

  pub got_keeps : (x x' : Shelf R) (s s' : Places W) (g : Gate W) (a a' : LeaseWait) (w y : W) (lease : ℕ × R) → ArePool x s g → MayPoll (pool_of x s g) a → PollsPlace s a w (Ok (Ready y)) s' a' → Lends x lease x' → ArePool x' s' g
  got_keeps x x' s s' g New a' w y lease are may polls lends = elim (cases_Bool s.closed) [
    | inl closed ↦ absurd (let no = (polls.0 closed).0 in cc)
    | inr opens ↦ elim (cases_lt (taken_of s) s.size) [
      | inl room ↦ (got_by x x' s s' g lease s.granted are lends (polls.1 opens room).1 (not_closed s opens)).0
      | inr full ↦ absurd (let no = (polls.2 opens full).0 in cc)
    ]
  ]
  got_keeps x x' s s' g (Queued n) a' w y lease are (inl (inl there), _) polls lends = (got_by x x' s s' g lease (map.remove s.granted n) are lends (polls.0 there).1 (granted_undrained s n there)).0
  got_keeps x x' s s' g (Queued n) a' w y lease are (inl (inr some), _) polls lends = absurd (let no = (polls.1 some).0 in cc)
  got_keeps x x' s s' g (Queued n) a' w y lease are (inr there, _) polls lends = absurd (let no = (polls.2 there).0 in cc)
  got_keeps x x' s s' g Done a' w y lease are may polls lends = absurd may.1
  got_keeps x x' s s' g Refused a' w y lease are may polls lends = absurd (let no = polls.0 in cc)

  -- ---- a lease is got by a try

  pub tried_room : (x : Shelf R) (s s' : Places W) (g : Gate W) → ArePool x s g → TriesPlace s true s' → lent_count x.lent < length x.lent
  tried_room x s s' g are tries = let room : taken_of s < s.size = tries.1 in let size : s.size ≡ length x.lent = are.size in let held : s.held ≡ lent_count x.lent = are.held in omega arith

  pub tried_got : (x x' : Shelf R) (s s' : Places W) (g : Gate W) (lease : ℕ × R) → ArePool x s g → TriesPlace s true s' → Lends x lease x' → ArePool x' s' g × TriesLease (pool_of x s g) (Some lease) (pool_of x' s' g)
  tried_got x x' s s' g lease are tries lends =
      let both = got_by x x' s s' g lease s.granted are lends tries.2 (not_closed s tries.0) in
      let room : taken_of s < s.size = tries.1 in
      let size : s.size ≡ length x.lent = are.size in
      let held : s.held ≡ lent_count x.lent = are.held in
      (both.0, (tries.0, omega arith, both.1))

  pub tried_none : (x : Shelf R) (s s' : Places W) (g : Gate W) → ArePool x s g → TriesPlace s false s' → ArePool x s' g × TriesLease (pool_of x s g) None (pool_of x s' g)
  tried_none x s s' g are tries = (subst (λ (p : Places W). ArePool x p g) (sym tries.1) are, (why tries.0, ap (λ (p : Places W). pool_of x p g) tries.1))
    where
      why : (s.closed ≡ true) ⊎ (s.size ≤ taken_of s) → (s.closed ≡ true) ⊎ (length x.lent ≤ taken (pool_of x s g))
      why (inl closed) = inl closed
      why (inr full) = inr (let size : s.size ≡ length x.lent = are.size in let held : s.held ≡ lent_count x.lent = are.held in omega arith)

  -- ---- the end of a drain

  gate_kept : (x : Shelf R) (s : Places W) (g h t : Gate W) → ArePool x s g → h ≡ t → t.opened ≡ g.opened → t.wakes ≡ g.wakes → ArePool x s h
  gate_kept x s g h t are is opened wakes =
      subst (λ (k : Gate W). ArePool x s k) (sym is) (record { size = are.size; held = are.held; gate = opened ∙ are.gate; early = λ shut. wakes ∙ are.early (sym opened ∙ shut) })

  -- a new wait stands last, or there was no memory
  listed : (x : Shelf R) (s : Places W) (g h : Gate W) (c : DrainWait) (w : W) (r : Result (Poll (Unit {0})) (W × NoMemory))
      → MatchResult r (λ p. (p ≡ poll.Pending) × ((n : ℕ) × StandsLast g h n w × (c ≡ drain.Listed n))) (λ e. (e.0 ≡ w) × (h ≡ g) × (c ≡ drain.New))
      → MatchResult r (λ p. (p ≡ poll.Pending) × ((n : ℕ) × Lists (pool_of x s g) (pool_of x s h) n w × (c ≡ drain.Listed n))) (λ e. (e.0 ≡ w) × (pool_of x s h ≡ pool_of x s g) × (c ≡ drain.New))
  listed x s g h c w (Ok p) k = let last : StandsLast g h k.1.0 w = k.1.1 in (k.0, (k.1.0, record { is = ap (λ (j : Gate W). pool_of x s j) last.is; not_listed = last.not_waiting; not_told = last.not_told }, k.1.2))
  listed x s g h c w (Err e) k = (k.0, ap (λ (j : Gate W). pool_of x s j) k.1, k.2)

  pub poll_drains : (x : Shelf R) (s : Places W) (g h : Gate W) (d c : DrainWait) (w : W) (r : Result (Poll (Unit {0})) (W × NoMemory)) → ArePool x s g → PollsGate g d w r h c → PollsDrain (pool_of x s g) d w r (pool_of x s h) c
  poll_drains x s g h drain.New c w r are polls =
      let is : g.opened ≡ is_drained (pool_of x s g) = opened_is x s g are in (
        (λ yes. let k = polls.0 (is ∙ yes) in (k.0, ap (λ (j : Gate W). pool_of x s j) k.1, k.2)),
        (λ no. listed x s g h c w r (polls.1 (is ∙ no))),
      )
  poll_drains x s g h (drain.Listed n) c w r are polls =
      let is : g.opened ≡ is_drained (pool_of x s g) = opened_is x s g are in (
        (λ yes. let k = polls.0 (is ∙ yes) in (k.0, ap (λ (j : Gate W). pool_of x s j) k.1, k.2)),
        (λ no. let k = polls.1 (is ∙ no) in (k.0, ap (λ (j : Gate W). pool_of x s j) k.1, k.2)),
      )
  poll_drains x s g h drain.Done c w r are polls = tt

  listed_keeps : (x : Shelf R) (s : Places W) (g h : Gate W) (c : DrainWait) (w : W) (r : Result (Poll (Unit {0})) (W × NoMemory)) → ArePool x s g
      → MatchResult r (λ p. (p ≡ poll.Pending) × ((n : ℕ) × StandsLast g h n w × (c ≡ drain.Listed n))) (λ e. (e.0 ≡ w) × (h ≡ g) × (c ≡ drain.New)) → ArePool x s h
  listed_keeps x s g h c w (Ok p) are k = let last : StandsLast g h k.1.0 w = k.1.1 in gate_kept x s g h (record g { waiting = g.waiting ++ (k.1.0, w) ∷ [] }) are last.is refl refl
  listed_keeps x s g h c w (Err e) are k = gate_kept x s g h g are k.1 refl refl

  pub poll_drains_keeps : (x : Shelf R) (s : Places W) (g h : Gate W) (d c : DrainWait) (w : W) (r : Result (Poll (Unit {0})) (W × NoMemory)) → ArePool x s g → MayPollAt g.waiting g.told d → PollsGate g d w r h c → ArePool x s h
  poll_drains_keeps x s g h drain.New c w r are may polls = by_flag g.opened (λ opens. gate_kept x s g h g are (polls.0 opens).1 refl refl) (λ shut. listed_keeps x s g h c w r are (polls.1 shut))
  poll_drains_keeps x s g h (drain.Listed n) c w r are may polls = by_flag g.opened
      (λ opens. gate_kept x s g h (record g { told = map.remove g.told n }) are (polls.0 opens).1 refl refl)
      (λ shut. gate_kept x s g h (record g { waiting = with_waker g.waiting n w }) are (polls.1 shut).1 refl refl)
  poll_drains_keeps x s g h drain.Done c w r are may polls = absurd may

  pub end_drains : (x : Shelf R) (s : Places W) (g h : Gate W) (d : DrainWait) → ArePool x s g → EndsGate g d h → EndsDrain (pool_of x s g) d (pool_of x s h)
  end_drains x s g h drain.New are ends = ap (λ (j : Gate W). pool_of x s j) ends
  end_drains x s g h (drain.Listed n) are ends =
      let is : g.opened ≡ is_drained (pool_of x s g) = opened_is x s g are in
      ((λ yes. ap (λ (j : Gate W). pool_of x s j) (ends.0 (is ∙ yes))), (λ no. ap (λ (j : Gate W). pool_of x s j) (ends.1 (is ∙ no))))
  end_drains x s g h drain.Done are ends = ap (λ (j : Gate W). pool_of x s j) ends

  pub end_drains_keeps : (x : Shelf R) (s : Places W) (g h : Gate W) (d : DrainWait) → ArePool x s g → EndsGate g d h → ArePool x s h
  end_drains_keeps x s g h drain.New are ends = gate_kept x s g h g are ends refl refl
  end_drains_keeps x s g h (drain.Listed n) are ends = by_flag g.opened
      (λ opens. gate_kept x s g h (record g { told = map.remove g.told n }) are (ends.0 opens) refl refl)
      (λ shut. gate_kept x s g h (record g { waiting = without_wait g.waiting n }) are (ends.1 shut) refl refl)
  end_drains_keeps x s g h drain.Done are ends = gate_kept x s g h g are ends refl refl

  -- where there was no memory nothing has changed
  pub drain_err : (x : Shelf R) (s : Places W) (g h : Gate W) (p : Pool R W) (d c : DrainWait) (r : Result (Poll (Unit {0})) (W × NoMemory)) → pool_of x s g ≡ p → OnErr r ((h ≡ g) × (c ≡ d)) → OnErr r ((pool_of x s h ≡ p) × (c ≡ d))
  drain_err x s g h p d c (Ok y) view k = tt
  drain_err x s g h p d c (Err e) view k = (ap (λ (j : Gate W). pool_of x s j) k.0 ∙ view, k.1)
