-- each slot is on the shelf or out, over every list of calls, and a pool that is drained stays so
use Rattle.std.proofs.Common.{◌≡◌, ◌≢◌, ◌∙◌, ℕ, zero, suc, ◌+◌, ◌<◌, ◌≤◌, ◌==◌, ◌++◌, inl, inr, Bool, true, false, cond, nat_lt, List, [], ◌∷◌, Some, Result, Ok, Err, MatchResult, length, set, refl, ap, sym, subst, arith, length-append, length-set}
use Rattle.std.proofs.lemmas.Bool.{cases_lt, cases_eq, cases_Bool, and_parts, eq-eqb, eqb-true}
use Rattle.std.proofs.lemmas.List.{get_or-set_same, get_or-set_other}
use Rattle.std.proofs.lemmas.List.Sums.{sum_by-cons}
use Rattle.std.specs.Prelude.{map as map_list}
use Rattle.std.specs.FinMap as map
use Rattle.mea_base.specs.declared.poll.Poll.{Poll}
use Rattle.mea_base.specs.declared.poll.Poll.TheVariants as poll
use Rattle.mea_base.specs.declared.no_memory.NoMemory.{NoMemory}
use Rattle.mea_lock_core.specs.Condvar.{with_waker, without_wait, notifying}
use Rattle.mea_pool_core.specs.declared.lease_wait.LeaseWait.{LeaseWait}
use Rattle.mea_pool_core.specs.declared.lease_wait.LeaseWait.TheVariants.{New, Queued, Done, Refused}
use Rattle.mea_pool_core.specs.declared.lease_poll.LeasePoll.{LeasePoll}
use Rattle.mea_pool_core.specs.declared.lease_poll.LeasePoll.TheVariants as answer
use Rattle.mea_pool_core.specs.declared.drain_wait.DrainWait.{DrainWait}
use Rattle.mea_pool_core.specs.declared.drain_wait.DrainWait.TheVariants as drain
use Rattle.mea_pool_core.specs.Shelf.{is_lent, lent_count, times, one_if, StandOnce, slots_of, slots_below, none_lent}
use Rattle.mea_pool_core.specs.Places.{cutting}
use Rattle.mea_pool_core.specs.Pool.{Pool, fresh, taken, is_drained, settled, passed_for, passed_on, with_lease, drained}
use Rattle.mea_pool_core.specs.Calls.{MayPoll, Belongs, Gets, Waits, PollsLease, TriesLease, CancelsLease, MayPollDrain, Lists, PollsDrain, EndsDrain}
use Rattle.mea_pool_core.specs.Runs.{History, nothing_yet, without_slot, heard, after_poll, Goes, Runs, Further}
use Rattle.mea_pool_core.specs.Runs.Goes.{PollLease, TryLease, CancelLease, PutBack, Drain, PollDrained, EndDrain, NextWake}
use Rattle.mea_pool_core.specs.Runs.Runs.{Starts, Later}
use Rattle.mea_pool_core.specs.Runs.Further.{Here, There}
use Rattle.mea_pool_core.proofs.Gates.{by_flag}
use Rattle.mea_pool_core.proofs.Lines.{some_counted}
use Rattle.mea_pool_core.proofs.Shelves.{times_first, times_other, first_free, once_lent, count_lent, lent_within, once_back, count_back, length_below, length_none, count_none, unmarked, once_fresh, slots_zip, length_zip}

-- ---- the slots of leases that are out

gone : (s : ℕ) (xs : List ℕ) → times s (without_slot s xs) ≡ 0
gone s [] = refl
gone s (x ∷ xs) = by_test (x == s) refl (gone s xs)
  where
    by_test : (b : Bool) → (x == s) ≡ b → times s (without_slot s xs) ≡ 0 → times s (cond b (without_slot s xs) (x ∷ without_slot s xs)) ≡ 0
    by_test true is rest = rest
    by_test false is rest = times_other s x (without_slot s xs) (λ same. let yes = eq-eqb x s (sym same) in let no : true ≡ false = sym yes ∙ is in cc) ∙ rest

others_stay : (n s : ℕ) (xs : List ℕ) → n ≢ s → times n (without_slot s xs) ≡ times n xs
others_stay n s [] differs = refl
others_stay n s (x ∷ xs) differs = by_test (x == s) refl (others_stay n s xs differs)
  where
    first : times n (x ∷ xs) ≡ one_if (x == n) + times n xs
    first = sum_by-cons (λ (m : ℕ). cond (m == n) 1 0) x xs

    by_test : (b : Bool) → (x == s) ≡ b → times n (without_slot s xs) ≡ times n xs → times n (cond b (without_slot s xs) (x ∷ without_slot s xs)) ≡ times n (x ∷ xs)
    by_test true is rest = rest ∙ sym (times_other n x xs (λ same. differs (same ∙ eqb-true x s is)))
    by_test false is rest = sum_by-cons (λ (m : ℕ). cond (m == n) 1 0) x (without_slot s xs) ∙ ap (λ k. one_if (x == n) + k) rest ∙ sym first

none_out : (xs : List ℕ) → ((n : ℕ) → times n xs ≡ 0) → xs ≡ []
none_out [] none = refl
none_out (x ∷ xs) none = absurd (let first : times x (x ∷ xs) ≡ 1 + times x xs = times_first x xs in let zero : times x (x ∷ xs) ≡ 0 = none x in omega arith)

first_marked : (lent : List Bool) (b : Bool) (n : ℕ) → lent_count (b ∷ lent) ≡ one_if b + lent_count lent → lent_count (b ∷ lent) ≡ 0 → ((m : ℕ) → lent_count lent ≡ 0 → is_lent lent m ≡ false) → is_lent (b ∷ lent) n ≡ false
first_marked lent true n sum none rest = absurd (omega arith)
first_marked lent false zero sum none rest = refl
first_marked lent false (suc n) sum none rest = rest n (omega arith)

none_marked : (lent : List Bool) (n : ℕ) → lent_count lent ≡ 0 → is_lent lent n ≡ false
none_marked [] zero none = refl
none_marked [] (suc n) none = refl
none_marked (b ∷ lent) n none = first_marked lent b n (sum_by-cons (λ (x : Bool). cond x 1 0) b lent) none (λ m still. none_marked lent m still)

module _ {R W : Type 0} where
  -- ---- what holds of the slots

  pub record Slots (resources : List R) (p : Pool R W) (h : History) : Type 0 where
    pub size : length p.lent ≡ length resources
    pub once : StandOnce (slots_of p.shelf) p.lent
    pub counted : length p.shelf + lent_count p.lent ≡ length p.lent
    pub out : (n : ℕ) → times n h.out ≡ one_if (is_lent p.lent n)

  fresh_slots : (resources : List R) → Slots resources (fresh resources) nothing_yet
  fresh_slots resources =
      let n : ℕ = length resources in
      let same : length (slots_below n) ≡ length resources = length_below n in
      record {
        size = length_none n;
        once = subst (λ (xs : List ℕ). StandOnce xs (none_lent n)) (sym (slots_zip (slots_below n) resources same)) (once_fresh n);
        counted = omega (arith, length_zip (slots_below n) resources same, length_below n, length_none n, count_none n);
        out = λ k. sym (ap one_if (unmarked n k));
      }

  slots_same : (resources : List R) (p p' : Pool R W) (h h' : History) → p'.shelf ≡ p.shelf → p'.lent ≡ p.lent → h'.out ≡ h.out → Slots resources p h → Slots resources p' h'
  slots_same resources p p' h h' shelf lent out are = record {
    size = ap length lent ∙ are.size;
    once = λ n. (λ i. times n (slots_of (shelf i)) + one_if (is_lent (lent i) n)) ∙ are.once n ∙ (λ i. one_if (nat_lt n (length (sym lent i))));
    counted = (λ i. length (shelf i) + lent_count (lent i)) ∙ are.counted ∙ ap length (sym lent);
    out = λ n. ap (times n) out ∙ are.out n ∙ ap (λ (l : List Bool). one_if (is_lent l n)) (sym lent);
  }

  slots_got : (resources : List R) (p p' : Pool R W) (h h' : History) (l : ℕ × R) → p.shelf ≡ l ∷ p'.shelf → p'.lent ≡ set p.lent l.0 true → h'.out ≡ l.0 ∷ h.out → Slots resources p h → Slots resources p' h'
  slots_got resources p p' h h' l shelf lent out_is are =
      let once : StandOnce (l.0 ∷ slots_of p'.shelf) p.lent = subst (λ (s : List (ℕ × R)). StandOnce (slots_of s) p.lent) shelf are.once in
      let free = first_free l.0 (slots_of p'.shelf) p.lent once in
      let long : length p'.lent ≡ length p.lent = ap length lent ∙ length-set p.lent l.0 true in
      record {
        size = long ∙ are.size;
        once = subst (λ (m : List Bool). StandOnce (slots_of p'.shelf) m) (sym lent) (once_lent l.0 (slots_of p'.shelf) p.lent once);
        counted =
            let fewer : length p.shelf ≡ suc (length p'.shelf) = ap length shelf in
            let more : lent_count p'.lent ≡ lent_count p.lent + 1 = ap lent_count lent ∙ count_lent l.0 p.lent free.0 free.1 in
            let all : length p.shelf + lent_count p.lent ≡ length p.lent = are.counted in
            omega arith;
        out = λ n. ap (times n) out_is ∙ elim (cases_eq n l.0) [ inl same ↦ here n same free | inr differs ↦ there n differs ];
      }
    where
      here : (n : ℕ) → n ≡ l.0 → (l.0 < length p.lent) × (is_lent p.lent l.0 ≡ false) → times n (l.0 ∷ h.out) ≡ one_if (is_lent p'.lent n)
      here n same free =
          let first : times l.0 (l.0 ∷ h.out) ≡ 1 + times l.0 h.out = times_first l.0 h.out in
          let was : times l.0 h.out ≡ 0 = are.out l.0 ∙ ap one_if free.1 in
          let is : one_if (is_lent p'.lent l.0) ≡ 1 = ap (λ (m : List Bool). one_if (is_lent m l.0)) lent ∙ ap one_if (get_or-set_same p.lent l.0 true false free.0) in
          let one : times l.0 (l.0 ∷ h.out) ≡ one_if (is_lent p'.lent l.0) = omega arith in
          subst (λ (m : ℕ). times m (l.0 ∷ h.out) ≡ one_if (is_lent p'.lent m)) (sym same) one

      there : (n : ℕ) → n ≢ l.0 → times n (l.0 ∷ h.out) ≡ one_if (is_lent p'.lent n)
      there n differs =
          times_other n l.0 h.out differs ∙ are.out n ∙ sym (ap one_if (get_or-set_other p.lent l.0 n true false differs)) ∙ sym (ap (λ (m : List Bool). one_if (is_lent m n)) lent)

  slots_back : (resources : List R) (p p' : Pool R W) (h h' : History) (l : ℕ × R) → p'.shelf ≡ p.shelf ++ l ∷ [] → p'.lent ≡ set p.lent l.0 false → h'.out ≡ without_slot l.0 h.out → 1 ≤ times l.0 h.out → Slots resources p h → Slots resources p' h'
  slots_back resources p p' h h' l shelf lent out stands are =
      let is : is_lent p.lent l.0 ≡ true = by_flag (is_lent p.lent l.0) (λ x. x) (λ no. absurd (let none : times l.0 h.out ≡ 0 = are.out l.0 ∙ ap one_if no in omega arith)) in
      let within = lent_within l.0 (slots_of p.shelf) p.lent are.once is in
      let long : length p'.lent ≡ length p.lent = ap length lent ∙ length-set p.lent l.0 false in
      record {
        size = long ∙ are.size;
        once = λ n. (λ i. times n (slots_of (shelf i)) + one_if (is_lent (lent i) n)) ∙ ap (λ (xs : List ℕ). times n xs + one_if (is_lent (set p.lent l.0 false) n)) (slots_last p.shelf l)
            ∙ once_back l.0 (slots_of p.shelf) p.lent are.once is n ∙ (λ i. one_if (nat_lt n (length (sym lent i))));
        counted =
            let more : length p'.shelf ≡ length p.shelf + 1 = ap length shelf ∙ length-append p.shelf (l ∷ []) in
            let fewer : lent_count p'.lent + 1 ≡ lent_count p.lent = ap (λ (m : List Bool). lent_count m + 1) lent ∙ count_back l.0 p.lent within is in
            let all : length p.shelf + lent_count p.lent ≡ length p.lent = are.counted in
            omega arith;
        out = λ n. elim (cases_eq n l.0) [ inl same ↦ here n same within | inr differs ↦ there n differs ];
      }
    where
      slots_last : (s : List (ℕ × R)) (l : ℕ × R) → slots_of (s ++ l ∷ []) ≡ slots_of s ++ l.0 ∷ []
      slots_last [] l = refl
      slots_last (e ∷ s) l = ap (λ (xs : List ℕ). e.0 ∷ xs) (slots_last s l)

      here : (n : ℕ) → n ≡ l.0 → l.0 < length p.lent → times n h'.out ≡ one_if (is_lent p'.lent n)
      here n same within =
          let now : one_if (is_lent p'.lent l.0) ≡ 0 = ap (λ (m : List Bool). one_if (is_lent m l.0)) lent ∙ ap one_if (get_or-set_same p.lent l.0 false false within) in
          subst (λ (m : ℕ). times m h'.out ≡ one_if (is_lent p'.lent m)) (sym same) (ap (times l.0) out ∙ gone l.0 h.out ∙ sym now)

      there : (n : ℕ) → n ≢ l.0 → times n h'.out ≡ one_if (is_lent p'.lent n)
      there n differs =
          ap (times n) out ∙ others_stay n l.0 h.out differs ∙ are.out n ∙ sym (ap one_if (get_or-set_other p.lent l.0 n false false differs)) ∙ sym (ap (λ (m : List Bool). one_if (is_lent m n)) lent)

  -- ---- what leaves the slots

  record Kept (p q : Pool R W) : Type 0 where
    shelf : q.shelf ≡ p.shelf
    lent : q.lent ≡ p.lent

  unchanged : (p : Pool R W) → Kept p p
  unchanged p = record { shelf = refl; lent = refl }

  pick_kept : (b : Bool) (q r p : Pool R W) → Kept p q → Kept p r → Kept p (cond b q r)
  pick_kept true q r p first second = first
  pick_kept false q r p first second = second

  settled_kept : (p : Pool R W) → Kept p (settled p)
  settled_kept p = pick_kept (is_drained p) _ p p (record { shelf = refl; lent = refl }) (unchanged p)

  passed_kept : (ws : List (ℕ × W)) (p : Pool R W) → Kept p (passed_for ws p)
  passed_kept [] p = unchanged p
  passed_kept (e ∷ ws) p = record { shelf = refl; lent = refl }

  passed_on_kept : (p : Pool R W) → Kept p (passed_on p)
  passed_on_kept p =
      let there = passed_kept p.waiting p in
      let rest = settled_kept (passed_for p.waiting p) in
      record { shelf = rest.shelf ∙ there.shelf; lent = rest.lent ∙ there.lent }

  drained_kept : (p : Pool R W) → Kept p (drained p)
  drained_kept p = pick_kept p.draining p _ p (unchanged p) (let rest = settled_kept (record p { waiting = []; cut = _; draining = true; wakes = _ }) in record { shelf = rest.shelf; lent = rest.lent })

  kept_is : (p q r : Pool R W) → r ≡ q → Kept p q → Kept p r
  kept_is p q r is kept = subst (λ (x : Pool R W). Kept p x) (sym is) kept

  from_kept : (resources : List R) (p p' : Pool R W) (h h' : History) → Slots resources p h → Kept p p' → h'.out ≡ h.out → Slots resources p' h'
  from_kept resources p p' h h' are kept out = slots_same resources p p' h h' kept.shelf kept.lent out are

  -- ---- calls

  waits_slots : (resources : List R) (p p' : Pool R W) (h : History) (a' : LeaseWait) (w : W) (r : Result (LeasePoll R) (W × NoMemory)) → Slots resources p h
      → MatchResult r (λ x. (x ≡ answer.Pending) × ((n : ℕ) × Waits p p' n w × (a' ≡ Queued n))) (λ e. (e.0 ≡ w) × (p' ≡ p) × (a' ≡ New)) → Slots resources p' (after_poll New r a' h)
  waits_slots resources p p' h a' w (Ok x) are k =
      let last : Waits p p' k.1.0 w = k.1.1 in
      from_kept resources p p' h (after_poll {R = R} {W = W} New (Ok x) a' h) are (kept_is p (record p { waiting = p.waiting ++ (k.1.0, w) ∷ [] }) p' last.is (record { shelf = refl; lent = refl }))
      (ap (λ (y : LeasePoll R). (after_poll {R = R} {W = W} New (Ok y) a' h).out) k.0 ∙ ap (λ (a : LeaseWait). (after_poll {R = R} {W = W} New (Ok answer.Pending) a h).out) k.1.2)
  waits_slots resources p p' h a' w (Err e) are k = from_kept resources p p' h h are (kept_is p p p' k.1 (unchanged p)) refl

  poll_slots : (resources : List R) (p p' : Pool R W) (h : History) (a a' : LeaseWait) (w : W) (r : Result (LeasePoll R) (W × NoMemory)) → Slots resources p h → MayPoll p a → PollsLease p a w r p' a' → Slots resources p' (after_poll a r a' h)
  poll_slots resources p p' h New a' w r are may polls = elim (cases_Bool p.draining) [
    | inl closed ↦ let k = polls.0 closed in from_kept resources p p' h (after_poll New r a' h) are (kept_is p p p' k.1 (unchanged p)) (ap (λ (x : Result (LeasePoll R) (W × NoMemory)). (after_poll New x a' h).out) k.0)
    | inr opens ↦ elim (cases_lt (taken p) (length p.lent)) [
      | inl room ↦ let k = (polls.1 opens room).0 in
          slots_got resources p p' h (after_poll New r a' h) k.lease k.first (ap (λ (x : Pool R W). x.lent) k.is) (ap (λ (x : Result (LeasePoll R) (W × NoMemory)). (after_poll New x a' h).out) k.answers) are
      | inr full ↦ waits_slots resources p p' h a' w r are (polls.2 opens full)
    ]
  ]
  poll_slots resources p p' h (Queued n) a' w r are (inl (inl there), _) polls =
      let k = (polls.0 there).0 in
      slots_got resources p p' h (after_poll (Queued n) r a' h) k.lease k.first (ap (λ (x : Pool R W). x.lent) k.is) (ap (λ (x : Result (LeasePoll R) (W × NoMemory)). (after_poll (Queued n) x a' h).out) k.answers) are
  poll_slots resources p p' h (Queued n) a' w r are (inl (inr some), _) polls =
      let k = polls.1 some in
      from_kept resources p p' h (after_poll (Queued n) r a' h) are (kept_is p (record p { waiting = with_waker p.waiting n w }) p' k.1 (record { shelf = refl; lent = refl })) (ap (λ (x : Result (LeasePoll R) (W × NoMemory)). (after_poll (Queued n) x a' h).out) k.0)
  poll_slots resources p p' h (Queued n) a' w r are (inr there, _) polls =
      let k = polls.2 there in
      from_kept resources p p' h (after_poll (Queued n) r a' h) are (kept_is p (record p { cut = map.remove p.cut n }) p' k.1 (record { shelf = refl; lent = refl })) (ap (λ (x : Result (LeasePoll R) (W × NoMemory)). (after_poll (Queued n) x a' h).out) k.0)
  poll_slots resources p p' h Done a' w r are may polls = absurd may.1
  poll_slots resources p p' h Refused a' w r are may polls = from_kept resources p p' h h are (kept_is p p p' polls.1 (unchanged p)) refl

  cancel_kept : (p p' : Pool R W) (a : LeaseWait) → Belongs p a → CancelsLease p a p' → Kept p p'
  cancel_kept p p' New fits is = kept_is p p p' is (unchanged p)
  cancel_kept p p' (Queued n) (inl (inl there)) is =
      let rest = passed_on_kept (record p { granted = map.remove p.granted n }) in
      kept_is p (passed_on (record p { granted = map.remove p.granted n })) p' (is.0 there) (record { shelf = rest.shelf; lent = rest.lent })
  cancel_kept p p' (Queued n) (inl (inr some)) is = kept_is p (record p { waiting = without_wait p.waiting n }) p' (is.1 some) (record { shelf = refl; lent = refl })
  cancel_kept p p' (Queued n) (inr there) is = kept_is p (record p { cut = map.remove p.cut n }) p' (is.2 there) (record { shelf = refl; lent = refl })
  cancel_kept p p' Done fits is = kept_is p p p' is (unchanged p)
  cancel_kept p p' Refused fits is = kept_is p p p' is (unchanged p)

  listed_kept : (p p' : Pool R W) (c' : DrainWait) (w : W) (r : Result (Poll (Unit {0})) (W × NoMemory))
      → MatchResult r (λ x. (x ≡ poll.Pending) × ((n : ℕ) × Lists p p' n w × (c' ≡ drain.Listed n))) (λ e. (e.0 ≡ w) × (p' ≡ p) × (c' ≡ drain.New)) → Kept p p'
  listed_kept p p' c' w (Ok x) k = let last : Lists p p' k.1.0 w = k.1.1 in kept_is p (record p { drains = p.drains ++ (k.1.0, w) ∷ [] }) p' last.is (record { shelf = refl; lent = refl })
  listed_kept p p' c' w (Err e) k = kept_is p p p' k.1 (unchanged p)

  poll_drained_kept : (p p' : Pool R W) (c c' : DrainWait) (w : W) (r : Result (Poll (Unit {0})) (W × NoMemory)) → MayPollDrain p c → PollsDrain p c w r p' c' → Kept p p'
  poll_drained_kept p p' drain.New c' w r may polls = by_flag (is_drained p) (λ all. kept_is p p p' (polls.0 all).1 (unchanged p)) (λ some. listed_kept p p' c' w r (polls.1 some))
  poll_drained_kept p p' (drain.Listed n) c' w r may polls = by_flag (is_drained p)
      (λ all. kept_is p (record p { told = map.remove p.told n }) p' (polls.0 all).1 (record { shelf = refl; lent = refl }))
      (λ some. kept_is p (record p { drains = with_waker p.drains n w }) p' (polls.1 some).1 (record { shelf = refl; lent = refl }))
  poll_drained_kept p p' drain.Done c' w r may polls = absurd may

  end_drain_kept : (p p' : Pool R W) (c : DrainWait) → EndsDrain p c p' → Kept p p'
  end_drain_kept p p' drain.New ends = kept_is p p p' ends (unchanged p)
  end_drain_kept p p' (drain.Listed n) ends = by_flag (is_drained p)
      (λ all. kept_is p (record p { told = map.remove p.told n }) p' (ends.0 all) (record { shelf = refl; lent = refl }))
      (λ some. kept_is p (record p { drains = without_wait p.drains n }) p' (ends.1 some) (record { shelf = refl; lent = refl }))
  end_drain_kept p p' drain.Done ends = kept_is p p p' ends (unchanged p)

  -- a try has got the first of the shelf
  pub got_that : (p p' : Pool R W) (l : ℕ × R) (tries : TriesLease p (Some l) p') → tries.2.lease ≡ l
  got_that p p' l tries = let same : Ok (answer.Got l) ≡ Ok (answer.Got tries.2.lease) = tries.2.answers in cc

  got_it : (p p' : Pool R W) (l : ℕ × R) → TriesLease p (Some l) p' → p.shelf ≡ l ∷ p'.shelf
  got_it p p' l tries = tries.2.first ∙ ap (λ (k : ℕ × R). k ∷ p'.shelf) (got_that p p' l tries)

  goes_slots : (resources : List R) (p p' : Pool R W) (h h' : History) → Slots resources p h → Goes p h p' h' → Slots resources p' h'
  goes_slots resources p _ h _ are (PollLease a a' w r p' may polls) = poll_slots resources p p' h a a' w r are may polls
  goes_slots resources p _ h _ are (TryLease l p' tries) = slots_got resources p p' h (record h { out = l.0 ∷ h.out; asked = h.asked + 1; granted = h.granted ++ h.asked ∷ [] }) l (got_it p p' l tries) (ap (λ (x : Pool R W). x.lent) tries.2.is ∙ ap (λ (k : ℕ × R). set p.lent k.0 true) (got_that p p' l tries)) refl are
  goes_slots resources p _ h _ are (CancelLease a p' fits cancels) = from_kept resources p p' h (heard p' h) are (cancel_kept p p' a fits cancels) refl
  goes_slots resources p _ h _ are (PutBack l stands) =
      let rest = passed_on_kept (record p { shelf = p.shelf ++ l ∷ []; lent = set p.lent l.0 false }) in
      slots_back resources p (with_lease p l) h (heard (with_lease p l) (record h { out = without_slot l.0 h.out })) l rest.shelf rest.lent refl stands are
  goes_slots resources p _ h _ are Drain = from_kept resources p (drained p) h (heard (drained p) h) are (drained_kept p) refl
  goes_slots resources p _ h _ are (PollDrained c c' w r p' may polls) = from_kept resources p p' h h are (poll_drained_kept p p' c c' w r may polls) refl
  goes_slots resources p _ h _ are (EndDrain c p' may ends) = from_kept resources p p' h h are (end_drain_kept p p' c ends) refl
  goes_slots resources p _ h _ are (NextWake wakes) = from_kept resources p (record p { wakes = wakes }) h h are (record { shelf = refl; lent = refl }) refl

  pub slots_of_run : (resources : List R) (p : Pool R W) (h : History) → Runs resources p h → Slots resources p h
  slots_of_run resources _ _ Starts = fresh_slots resources
  slots_of_run resources _ _ (Later p p' h h' runs goes) = goes_slots resources p p' h h' (slots_of_run resources p h runs) goes

  pub once_in_run : (resources : List R) (p : Pool R W) (h : History) → Runs resources p h → (slot : ℕ) → times slot (slots_of p.shelf) + times slot h.out ≡ one_if (nat_lt slot (length resources))
  once_in_run resources p h runs slot =
      let are = slots_of_run resources p h runs in
      ap (λ (n : ℕ). times slot (slots_of p.shelf) + n) (are.out slot) ∙ are.once slot ∙ ap (λ (n : ℕ). one_if (nat_lt slot n)) are.size

  -- ---- a pool that is drained

  pub record AllFree (p : Pool R W) : Type 0 where
    pub draining : p.draining ≡ true
    pub lent : lent_count p.lent ≡ 0
    pub granted : map.len p.granted ≡ 0

  pub all_free : (p : Pool R W) → is_drained p ≡ true → AllFree p
  all_free p is =
      let parts = and_parts p.draining (taken p == 0) is in
      let none : taken p ≡ 0 = eqb-true (taken p) 0 parts.1 in
      record { draining = parts.0; lent = omega arith; granted = omega arith }

  poll_stays : (p p' : Pool R W) (a a' : LeaseWait) (w : W) (r : Result (LeasePoll R) (W × NoMemory)) → is_drained p ≡ true → MayPoll p a → PollsLease p a w r p' a' → is_drained p' ≡ true
  poll_stays p p' New a' w r is may polls = ap (λ (q : Pool R W). is_drained q) (polls.0 (all_free p is).draining).1 ∙ is
  poll_stays p p' (Queued n) a' w r is (inl (inl there), _) polls = absurd (let some : 1 ≤ map.len p.granted = some_counted p.granted n 1 there in let none : map.len p.granted ≡ 0 = (all_free p is).granted in omega arith)
  poll_stays p p' (Queued n) a' w r is (inl (inr some), _) polls = ap (λ (q : Pool R W). is_drained q) (polls.1 some).1 ∙ is
  poll_stays p p' (Queued n) a' w r is (inr there, _) polls = ap (λ (q : Pool R W). is_drained q) (polls.2 there).1 ∙ is
  poll_stays p p' Done a' w r is may polls = absurd may.1
  poll_stays p p' Refused a' w r is may polls = ap (λ (q : Pool R W). is_drained q) polls.1 ∙ is

  cancel_stays : (p p' : Pool R W) (a : LeaseWait) → is_drained p ≡ true → Belongs p a → CancelsLease p a p' → is_drained p' ≡ true
  cancel_stays p p' New is fits ends = ap (λ (q : Pool R W). is_drained q) ends ∙ is
  cancel_stays p p' (Queued n) is (inl (inl there)) ends = absurd (let some : 1 ≤ map.len p.granted = some_counted p.granted n 1 there in let none : map.len p.granted ≡ 0 = (all_free p is).granted in omega arith)
  cancel_stays p p' (Queued n) is (inl (inr some)) ends = ap (λ (q : Pool R W). is_drained q) (ends.1 some) ∙ is
  cancel_stays p p' (Queued n) is (inr there) ends = ap (λ (q : Pool R W). is_drained q) (ends.2 there) ∙ is
  cancel_stays p p' Done is fits ends = ap (λ (q : Pool R W). is_drained q) ends ∙ is
  cancel_stays p p' Refused is fits ends = ap (λ (q : Pool R W). is_drained q) ends ∙ is

  end_stays : (p p' : Pool R W) (c : DrainWait) → is_drained p ≡ true → EndsDrain p c p' → is_drained p' ≡ true
  end_stays p p' drain.New is ends = ap (λ (q : Pool R W). is_drained q) ends ∙ is
  end_stays p p' (drain.Listed n) is ends = ap (λ (q : Pool R W). is_drained q) (ends.0 is) ∙ is
  end_stays p p' drain.Done is ends = ap (λ (q : Pool R W). is_drained q) ends ∙ is

  poll_end_stays : (p p' : Pool R W) (c c' : DrainWait) (w : W) (r : Result (Poll (Unit {0})) (W × NoMemory)) → is_drained p ≡ true → MayPollDrain p c → PollsDrain p c w r p' c' → is_drained p' ≡ true
  poll_end_stays p p' drain.New c' w r is may polls = ap (λ (q : Pool R W). is_drained q) (polls.0 is).1 ∙ is
  poll_end_stays p p' (drain.Listed n) c' w r is may polls = ap (λ (q : Pool R W). is_drained q) (polls.0 is).1 ∙ is
  poll_end_stays p p' drain.Done c' w r is may polls = absurd may

  nothing_out : (resources : List R) (p : Pool R W) (h : History) → Slots resources p h → is_drained p ≡ true → (n : ℕ) → times n h.out ≡ 0
  nothing_out resources p h are is n = are.out n ∙ ap one_if (none_marked p.lent n (all_free p is).lent)

  drained_again : (p : Pool R W) → p.draining ≡ true → drained p ≡ p
  drained_again p is = ap (λ (b : Bool). cond b p (settled (record p { waiting = []; cut = cutting p.cut p.waiting; draining = true; wakes = p.wakes ++ map_list {A = ℕ × W} (λ e. e.1) p.waiting }))) is

  goes_stays : (resources : List R) (p p' : Pool R W) (h h' : History) → Slots resources p h → is_drained p ≡ true → Goes p h p' h' → is_drained p' ≡ true
  goes_stays resources p _ h _ are is (PollLease a a' w r p' may polls) = poll_stays p p' a a' w r is may polls
  goes_stays resources p _ h _ are is (TryLease l p' tries) = absurd (let both : true ≡ false = sym (all_free p is).draining ∙ tries.0 in cc)
  goes_stays resources p _ h _ are is (CancelLease a p' fits ends) = cancel_stays p p' a is fits ends
  goes_stays resources p _ h _ are is (PutBack l stands) = absurd (let none : times l.0 h.out ≡ 0 = nothing_out resources p h are is l.0 in omega arith)
  goes_stays resources p _ h _ are is Drain = ap (λ (q : Pool R W). is_drained q) (drained_again p (all_free p is).draining) ∙ is
  goes_stays resources p _ h _ are is (PollDrained c c' w r p' may polls) = poll_end_stays p p' c c' w r is may polls
  goes_stays resources p _ h _ are is (EndDrain c p' may ends) = end_stays p p' c is ends
  goes_stays resources p _ h _ are is (NextWake wakes) = is

  record StaysDrained (resources : List R) (p : Pool R W) (h : History) : Type 0 where
    slots : Slots resources p h
    drained_is : is_drained p ≡ true

  further_stays : (resources : List R) (p : Pool R W) (h : History) → StaysDrained resources p h → (p' : Pool R W) (h' : History) → Further p h p' h' → StaysDrained resources p' h'
  further_stays resources p h are _ _ Here = are
  further_stays resources p h are _ _ (There q p' k h' further goes) =
      let there = further_stays resources p h are q k further in
      record { slots = goes_slots resources q p' k h' there.slots goes; drained_is = goes_stays resources q p' k h' there.slots there.drained_is goes }

  pub stays_drained : (resources : List R) (p p' : Pool R W) (h h' : History) → Runs resources p h → is_drained p ≡ true → Further p h p' h' → is_drained p' ≡ true
  stays_drained resources p p' h h' runs is further = (further_stays resources p h (record { slots = slots_of_run resources p h runs; drained_is = is }) p' h' further).drained_is

  pub all_back : (resources : List R) (p : Pool R W) (h : History) → Runs resources p h → is_drained p ≡ true → (length p.shelf ≡ length resources) × (h.out ≡ [])
  all_back resources p h runs is =
      let are = slots_of_run resources p h runs in
      let none : lent_count p.lent ≡ 0 = (all_free p is).lent in
      let all : length p.shelf + lent_count p.lent ≡ length p.lent = are.counted in
      let size : length p.lent ≡ length resources = are.size in
      (omega arith, none_out h.out (nothing_out resources p h are is))

  -- ---- nobody waits for the end of a pool that is drained

  abbrev Told : Pool R W → Type 0
  Told p = is_drained p ≡ true → p.drains ≡ []

  told_same : (p q p' : Pool R W) → p' ≡ q → q.drains ≡ p.drains → is_drained q ≡ is_drained p → Told p → Told p'
  told_same p q p' is drains all told = λ now. ap (λ (x : Pool R W). x.drains) is ∙ drains ∙ told (sym all ∙ sym (ap (λ (x : Pool R W). is_drained x) is) ∙ now)

  abbrev told_now : Pool R W → Pool R W
  told_now p = record p { drains = []; told = notifying p.told p.drains; wakes = p.wakes ++ map_list {A = ℕ × W} (λ e. e.1) p.drains }

  told_settled : (p : Pool R W) → Told (settled p)
  told_settled p now = by_flag (is_drained p)
      (λ all. ap (λ (b : Bool). (cond b (told_now p) p).drains) all)
      (λ some. absurd (let stays : settled p ≡ p = ap (λ (b : Bool). cond b (told_now p) p) some in let both : true ≡ false = sym now ∙ ap (λ (x : Pool R W). is_drained x) stays ∙ some in cc))

  told_got : (resources : List R) (p q p' : Pool R W) (h : History) (r : Result (LeasePoll R) (W × NoMemory)) → Slots resources p h → q.shelf ≡ p.shelf → q.lent ≡ p.lent → Gets q r p' → Told p'
  told_got resources p q p' h r are shelf lent gets now = absurd (
      let l = gets.lease in
      let once : StandOnce (l.0 ∷ slots_of p'.shelf) p.lent = subst (λ (s : List (ℕ × R)). StandOnce (slots_of s) p.lent) (sym shelf ∙ gets.first) are.once in
      let free = first_free l.0 (slots_of p'.shelf) p.lent once in
      let marked : p'.lent ≡ set p.lent l.0 true = ap (λ (x : Pool R W). x.lent) gets.is ∙ ap (λ (m : List Bool). set m l.0 true) lent in
      let more : lent_count p'.lent ≡ lent_count p.lent + 1 = ap lent_count marked ∙ count_lent l.0 p.lent free.0 free.1 in
      let none : lent_count p'.lent ≡ 0 = (all_free p' now).lent in
      omega arith)

  told_waits : (p p' : Pool R W) (a' : LeaseWait) (w : W) (r : Result (LeasePoll R) (W × NoMemory)) → Told p
      → MatchResult r (λ x. (x ≡ answer.Pending) × ((n : ℕ) × Waits p p' n w × (a' ≡ Queued n))) (λ e. (e.0 ≡ w) × (p' ≡ p) × (a' ≡ New)) → Told p'
  told_waits p p' a' w (Ok x) told k = let last : Waits p p' k.1.0 w = k.1.1 in told_same p (record p { waiting = p.waiting ++ (k.1.0, w) ∷ [] }) p' last.is refl refl told
  told_waits p p' a' w (Err e) told k = told_same p p p' k.1 refl refl told

  poll_told : (resources : List R) (p p' : Pool R W) (h : History) (a a' : LeaseWait) (w : W) (r : Result (LeasePoll R) (W × NoMemory)) → Slots resources p h → Told p → MayPoll p a → PollsLease p a w r p' a' → Told p'
  poll_told resources p p' h New a' w r are told may polls = elim (cases_Bool p.draining) [
    | inl closed ↦ told_same p p p' (polls.0 closed).1 refl refl told
    | inr opens ↦ elim (cases_lt (taken p) (length p.lent)) [
      | inl room ↦ told_got resources p p p' h r are refl refl (polls.1 opens room).0
      | inr full ↦ told_waits p p' a' w r told (polls.2 opens full)
    ]
  ]
  poll_told resources p p' h (Queued n) a' w r are told (inl (inl there), _) polls = told_got resources p (record p { granted = map.remove p.granted n }) p' h r are refl refl (polls.0 there).0
  poll_told resources p p' h (Queued n) a' w r are told (inl (inr some), _) polls = told_same p (record p { waiting = with_waker p.waiting n w }) p' (polls.1 some).1 refl refl told
  poll_told resources p p' h (Queued n) a' w r are told (inr there, _) polls = told_same p (record p { cut = map.remove p.cut n }) p' (polls.2 there).1 refl refl told
  poll_told resources p p' h Done a' w r are told may polls = absurd may.1
  poll_told resources p p' h Refused a' w r are told may polls = told_same p p p' polls.1 refl refl told

  told_is : (p q : Pool R W) → p ≡ q → Told q → Told p
  told_is p q is told = subst (λ (x : Pool R W). Told x) (sym is) told

  cancel_told : (p p' : Pool R W) (a : LeaseWait) → Told p → Belongs p a → CancelsLease p a p' → Told p'
  cancel_told p p' New told fits ends = told_same p p p' ends refl refl told
  cancel_told p p' (Queued n) told (inl (inl there)) ends = told_is p' _ (ends.0 there) (told_settled (passed_for p.waiting (record p { granted = map.remove p.granted n })))
  cancel_told p p' (Queued n) told (inl (inr some)) ends = told_same p (record p { waiting = without_wait p.waiting n }) p' (ends.1 some) refl refl told
  cancel_told p p' (Queued n) told (inr there) ends = told_same p (record p { cut = map.remove p.cut n }) p' (ends.2 there) refl refl told
  cancel_told p p' Done told fits ends = told_same p p p' ends refl refl told
  cancel_told p p' Refused told fits ends = told_same p p p' ends refl refl told

  pick_told : (b : Bool) (q r : Pool R W) → Told q → Told r → Told (cond b q r)
  pick_told true q r first second = first
  pick_told false q r first second = second

  -- nobody is listed at a pool that is not drained but one that is not drained after
  told_undrained : (p q p' : Pool R W) → p' ≡ q → is_drained q ≡ is_drained p → is_drained p ≡ false → Told p'
  told_undrained p q p' is all some now = absurd (let both : true ≡ false = sym now ∙ ap (λ (x : Pool R W). is_drained x) is ∙ all ∙ some in cc)

  listed_told : (p p' : Pool R W) (c' : DrainWait) (w : W) (r : Result (Poll (Unit {0})) (W × NoMemory)) → is_drained p ≡ false
      → MatchResult r (λ x. (x ≡ poll.Pending) × ((n : ℕ) × Lists p p' n w × (c' ≡ drain.Listed n))) (λ e. (e.0 ≡ w) × (p' ≡ p) × (c' ≡ drain.New)) → Told p'
  listed_told p p' c' w (Ok x) some k = let last : Lists p p' k.1.0 w = k.1.1 in told_undrained p (record p { drains = p.drains ++ (k.1.0, w) ∷ [] }) p' last.is refl some
  listed_told p p' c' w (Err e) some k = told_undrained p p p' k.1 refl some

  poll_end_told : (p p' : Pool R W) (c c' : DrainWait) (w : W) (r : Result (Poll (Unit {0})) (W × NoMemory)) → Told p → MayPollDrain p c → PollsDrain p c w r p' c' → Told p'
  poll_end_told p p' drain.New c' w r told may polls = by_flag (is_drained p) (λ all. told_same p p p' (polls.0 all).1 refl refl told) (λ some. listed_told p p' c' w r some (polls.1 some))
  poll_end_told p p' (drain.Listed n) c' w r told may polls = by_flag (is_drained p)
      (λ all. told_same p (record p { told = map.remove p.told n }) p' (polls.0 all).1 refl refl told)
      (λ some. told_undrained p (record p { drains = with_waker p.drains n w }) p' (polls.1 some).1 refl some)
  poll_end_told p p' drain.Done c' w r told may polls = absurd may

  end_told : (p p' : Pool R W) (c : DrainWait) → Told p → EndsDrain p c p' → Told p'
  end_told p p' drain.New told ends = told_same p p p' ends refl refl told
  end_told p p' (drain.Listed n) told ends = by_flag (is_drained p)
      (λ all. told_same p (record p { told = map.remove p.told n }) p' (ends.0 all) refl refl told)
      (λ some. told_undrained p (record p { drains = without_wait p.drains n }) p' (ends.1 some) refl some)
  end_told p p' drain.Done told ends = told_same p p p' ends refl refl told

  goes_told : (resources : List R) (p p' : Pool R W) (h h' : History) → Slots resources p h → Told p → Goes p h p' h' → Told p'
  goes_told resources p _ h _ are told (PollLease a a' w r p' may polls) = poll_told resources p p' h a a' w r are told may polls
  goes_told resources p _ h _ are told (TryLease l p' tries) = told_got resources p p p' h (Ok (answer.Got l)) are refl refl tries.2
  goes_told resources p _ h _ are told (CancelLease a p' fits ends) = cancel_told p p' a told fits ends
  goes_told resources p _ h _ are told (PutBack l stands) = told_settled (passed_for p.waiting (record p { shelf = p.shelf ++ l ∷ []; lent = set p.lent l.0 false }))
  goes_told resources p _ h _ are told Drain = pick_told p.draining p _ told (told_settled (record p { waiting = []; cut = cutting p.cut p.waiting; draining = true; wakes = p.wakes ++ map_list {A = ℕ × W} (λ e. e.1) p.waiting }))
  goes_told resources p _ h _ are told (PollDrained c c' w r p' may polls) = poll_end_told p p' c c' w r told may polls
  goes_told resources p _ h _ are told (EndDrain c p' may ends) = end_told p p' c told ends
  goes_told resources p _ h _ are told (NextWake wakes) = told

  pub told_of_run : (resources : List R) (p : Pool R W) (h : History) → Runs resources p h → is_drained p ≡ true → p.drains ≡ []
  told_of_run resources _ _ Starts = λ _. refl
  told_of_run resources _ _ (Later p p' h h' runs goes) = goes_told resources p p' h h' (slots_of_run resources p h runs) (told_of_run resources p h runs) goes
