-- the rounds of a barrier by all its arrivals
use Rattle.std.proofs.Common.{◌≡◌, ◌≢◌, ℕ, ◌+◌, ◌*◌, ◌/◌, ◌%◌, ◌<◌, ◌==◌, ◌++◌, ◌∷◌, [], List, length, Option, None, cond, Bool, true, false, Result, Ok, Err, MatchResult, arith, refl, ap, sym, ◌∙◌, subst, inl, inr, length-append, add-zero}
use Rattle.std.proofs.Math.Nat.{div-zero, mod-zero, add-div_right}
use Rattle.std.proofs.lemmas.Nat.{div-mul-add, div-add-mod', mod_below}
use Rattle.std.proofs.lemmas.List.Sums.{sum_by-append}
use Rattle.std.proofs.lemmas.Bool.{cases_eq, cases_lt, cases_Bool}
use Rattle.std.proofs.lemmas.Bool.Decides.{nat_tests}
use Rattle.mea_sets.specs.Poll.{Poll, Pending}
use Rattle.mea_meet_core.specs.declared.barrier_fault.BarrierFault.{BarrierFault}
use Rattle.mea_meet_core.specs.declared.barrier_fault.BarrierFault.TheVariants.{NoMemory}
use Rattle.mea_sets.specs.declared.place.Place.{Place}
use Rattle.mea_sets.specs.WaitSet.{with_waker, slot_after}
use Rattle.mea_meet_core.specs.declared.barrier_wait.BarrierWait.{BarrierWait}
use Rattle.mea_meet_core.specs.declared.barrier_wait.BarrierWait.TheVariants.{New, Arrived, Done}
use Rattle.mea_meet_core.specs.Barrier.{Barrier, round_of, leads, led, joined, Arrives, Returns, Polls, is_open}
use Rattle.mea_meet_core.specs.BarrierRuns.{BarrierRuns, Starts, Polled, Woken, arrival_of, arrival_by, leaders}
use Rattle.mea_meet_core.proofs.Rounds.{last_of_round, not_last_of_round, next_round}

-- one arrival more completes a round where the sum is a multiple of the size
div-next : (a n : ℕ) → (a + 1) % n ≡ 0 → (a + 1) / n ≡ a / n + 1
div-next a n ends = elim (cases_lt 0 n) [
  | inl positive ↦
      let split = div-add-mod' a n in
      let within = mod_below a n positive in
      let sum : a / n * n + a % n + 1 ≡ a + 1 = omega (arith, split) in
      let last = last_of_round n (a / n) (a % n) within (ap (λ k. k % n == 0) sum ∙ ap (λ k. k == 0) ends) in
      let all = next_round n (a / n) (a % n) last in
      ap (λ k. k / n) (sym (all ∙ sum)) ∙ div-mul-add (a / n + 1) n 0 positive
  | inr none ↦
      let zero : n ≡ 0 = omega arith in
      let rest = subst (λ (k : ℕ). (a + 1) % k ≡ 0) zero ends in
      absurd (omega (arith, mod-zero (a + 1), rest))
]

-- and else stays in the round
div-within : (a n : ℕ) → (a + 1) % n ≢ 0 → (a + 1) / n ≡ a / n
div-within a n goes_on = elim (cases_lt 0 n) [
  | inl positive ↦
      let split = div-add-mod' a n in
      let within = mod_below a n positive in
      let sum : a / n * n + a % n + 1 ≡ a + 1 = omega (arith, split) in
      let waits : ((a + 1) % n == 0) ≡ false = grind (arith, nat_tests) in
      let before = not_last_of_round n (a / n) (a % n) within (ap (λ k. k % n == 0) sum ∙ waits) in
      let same : a + 1 ≡ a / n * n + (a % n + 1) = omega (arith, split) in
      ap (λ k. k / n) same ∙ div-mul-add (a / n) n (a % n + 1) before
  | inr none ↦
      let zero : n ≡ 0 = omega arith in
      rw zero (div-zero (a + 1) ∙ sym (div-zero a))
]

leaders-append : (xs ys : List Bool) → leaders (xs ++ ys) ≡ leaders xs + leaders ys
leaders-append xs ys = sum_by-append (λ leads. cond leads 1 0) xs ys

module _ {W : Type 0} where
  -- what polls do to the arrivals and to the round, when these arrivals came
  pub record Moves (b d : Barrier W) (arrivals : List Bool) : Type 0 where
    pub size : d.size ≡ b.size
    pub counted : d.arrivals ≡ b.arrivals + length arrivals
    pub rounds : round_of d ≡ round_of b + leaders arrivals

  none_moves : (b d : Barrier W) → d ≡ b → Moves b d []
  none_moves b d same = rw same (record { size = refl; counted = omega arith; rounds = omega arith })

  leads_on : (b d : Barrier W) → leads b ≡ true → d ≡ led b → Moves b d (true ∷ [])
  leads_on b d completes is =
      let ends : (b.arrivals + 1) % b.size ≡ 0 = grind (arith, nat_tests) in
      rw is (record { size = refl; counted = refl; rounds = div-next b.arrivals b.size ends })

  joins_on : (b d : Barrier W) (w : W) → leads b ≡ false → d ≡ joined b w → Moves b d (false ∷ [])
  joins_on b d w waits is =
      let goes_on : (b.arrivals + 1) % b.size ≢ 0 = grind (arith, nat_tests) in
      rw is (record { size = refl; counted = refl; rounds = div-within b.arrivals b.size goes_on ∙ sym (add-zero _) })

  follows_on : (b d : Barrier W) (w : W) (result : Result (Poll Bool) (BarrierFault W)) → leads b ≡ false
      → MatchResult result (λ turn. (turn ≡ Pending) × (d ≡ joined b w)) (λ fault. d ≡ b)
      → Moves b d (arrival_of result)
  follows_on b d w (Ok turn) waits (pending, is) = rw pending (joins_on b d w waits is)
  follows_on b d w (Err fault) waits same = none_moves b d same

  joined_or_not : (b d : Barrier W) (w : W) (result : Result (Poll Bool) (BarrierFault W)) (wait' : BarrierWait)
      → MatchResult result
      (λ turn. (turn ≡ Pending) × (d ≡ joined b w) × (wait' ≡ Arrived (round_of b) (slot_after b.waiting None)))
      (λ fault. (fault ≡ NoMemory w) × (d ≡ b) × (wait' ≡ New))
      → MatchResult result (λ turn. (turn ≡ Pending) × (d ≡ joined b w)) (λ fault. d ≡ b)
  joined_or_not b d w (Ok turn) wait' told = (told.0, told.1)
  joined_or_not b d w (Err fault) wait' told = told.1

  again : (b d : Barrier W) (round : ℕ) (slot : Option Place) (w : W) (result : Result (Poll Bool) (BarrierFault W)) (wait' : BarrierWait)
      → MatchResult result
      (λ turn. (turn ≡ Pending) × (d ≡ record b { waiting = with_waker b.waiting slot w }) × (wait' ≡ Arrived round (slot_after b.waiting slot)))
      (λ fault. (fault ≡ NoMemory w) × (d ≡ b) × (wait' ≡ Arrived round slot))
      → Moves b d []
  again b d round slot w (Ok turn) wait' told = rw told.1 (record { size = refl; counted = omega arith; rounds = omega arith })
  again b d round slot w (Err fault) wait' told = none_moves b d told.1

  arrives_on : (b d : Barrier W) (w : W) (result : Result (Poll Bool) (BarrierFault W)) (wait' : BarrierWait) → Arrives b w result d wait'
      → Moves b d (arrival_of result)
  arrives_on b d w result wait' arrives = elim (cases_Bool (leads b)) [
    | inl completes ↦ elim (cases_eq (round_of b) 18446744073709551615) [
      | inl greatest ↦ let told = arrives.overflow completes greatest in rw told.0 (none_moves b d told.1)
      | inr few ↦ let told = arrives.completes completes few in rw told.0 (leads_on b d completes told.1)
    ]
    | inr waits ↦ follows_on b d w result waits (joined_or_not b d w result wait' (arrives.follows waits))
  ]

  returns_on : (b d : Barrier W) (round : ℕ) (slot : Option Place) (w : W) (result : Result (Poll Bool) (BarrierFault W)) (wait' : BarrierWait)
      → Returns b round slot w result d wait' → Moves b d []
  returns_on b d round slot w result wait' returns = elim (cases_lt b.arrivals ((round + 1) * b.size)) [
    | inl before ↦ again b d round slot w result wait' (returns.pending before)
    | inr over ↦ none_moves b d (returns.ready over).1
  ]

  polls_on : (b d : Barrier W) (wait wait' : BarrierWait) (w : W) (result : Result (Poll Bool) (BarrierFault W)) → is_open b wait ≡ true
      → Polls b wait w result d wait' → Moves b d (arrival_by wait result)
  polls_on b d New wait' w result may polls = arrives_on b d w result wait' polls
  polls_on b d (Arrived round slot) wait' w result may polls = returns_on b d round slot w result wait' polls
  polls_on b d Done wait' w result may polls = absurd (cc)

  on_after : (b c d : Barrier W) (xs ys : List Bool) → Moves b c xs → Moves c d ys → Moves b d (ys ++ xs)
  on_after b c d xs ys m n = record {
    size = n.size ∙ m.size;
    counted = omega (arith, length-append ys xs);
    rounds = omega (arith, leaders-append ys xs);
  }

  pub runs_on : (b c : Barrier W) (arrivals : List Bool) → BarrierRuns b arrivals c → Moves b c arrivals
  runs_on _ _ _ (Starts b) = none_moves b b refl
  runs_on _ _ _ (Polled b c d arrivals wait wait' w result run may polls) =
      on_after b c d arrivals (arrival_by wait result) (runs_on b c arrivals run) (polls_on c d wait wait' w result may polls)
  runs_on _ _ _ (Woken b c d arrivals w run taken) =
      let m = runs_on b c arrivals run in
      record {
        size = sym (ap (λ (x : Barrier W). x.size) taken) ∙ m.size;
        counted = sym (ap (λ (x : Barrier W). x.arrivals) taken) ∙ m.counted;
        rounds = sym (ap (λ (x : Barrier W). round_of x) taken) ∙ m.rounds;
      }

  -- as many arrivals as make a round complete one
  pub a_round : (b c : Barrier W) (arrivals : List Bool) → BarrierRuns b arrivals c → 0 < b.size → length arrivals ≡ b.size
      → (round_of c ≡ round_of b + 1) × (leaders arrivals ≡ 1)
  a_round b c arrivals run positive whole =
      let m = runs_on b c arrivals run in
      let sum : c.arrivals ≡ b.arrivals + b.size = omega (arith, m.counted) in
      let next : round_of c ≡ round_of b + 1 = ap (λ n. c.arrivals / n) m.size ∙ ap (λ n. n / b.size) sum ∙ add-div_right b.arrivals positive in
      (next, omega (arith, m.rounds, next))

  -- fewer, from the start of a round, do not
  pub a_part : (b c : Barrier W) (arrivals : List Bool) → BarrierRuns b arrivals c → b.arrivals % b.size ≡ 0 → length arrivals < b.size
      → (round_of c ≡ round_of b) × (leaders arrivals ≡ 0)
  a_part b c arrivals run start few =
      let m = runs_on b c arrivals run in
      let split = div-add-mod' b.arrivals b.size in
      let sum : c.arrivals ≡ b.arrivals / b.size * b.size + length arrivals = omega (arith, m.counted, split, start) in
      let same : round_of c ≡ round_of b = ap (λ n. c.arrivals / n) m.size ∙ ap (λ n. n / b.size) sum
      ∙ div-mul-add (b.arrivals / b.size) b.size (length arrivals) few in
      (same, omega (arith, m.rounds, same))
