-- the jobs that a stop returned come back, each once and in order
use Rattle.std.proofs.Common.{◌≡◌, ℕ, ◌==◌, ◌++◌, Bool, true, false, cond, T, List, [], ◌∷◌, length, Option, Some, None, option_to_list, if◌then◌else◌, refl, ap, sym, subst, ◌∙◌, append_assoc}
use Rattle.std.specs.Ordering.{nat_cmp}
use Rattle.std.specs.FinMap.{find, is_sorted, entries, entries_sorted, get, remove, from_sorted, entries-from_sorted, get-from_sorted, get-entries}
use Rattle.std.specs.FinMap.Entries.{below_all}
use Rattle.std.proofs.lemmas.Bool.{eqb-true}
use Rattle.mea_base.proofs.NamedMaps.{same_named}
use Rattle.mea_base.proofs.Tests.{same_test}
use Rattle.mea_base.proofs.Totals.{get_removed}
use Rattle.mea_by_name.specs.ByName.{Names, seen}
use Rattle.mea_job_core.specs.Calls as call
use Rattle.mea_job_core.specs.Calls.{Call, submits, refusal_in, called, all_called, handed_by, all_handed}
use Rattle.mea_job_core.specs.declared.submit_error.SubmitError.{SubmitError}
use Rattle.mea_job_core.specs.Record.{Job, Record, Finished, is_running, queued_in, running_in, in_state, returned, put, tells, starts_one, starts, finishes_as, recalls_one, stops, hands_one, polls}
use Rattle.mea_job_core.specs.Work.{Submission, first_in, next_of}
use Rattle.mea_by_name.proofs.Sorted.{below_none, both_first, both_second}
use Rattle.mea_job_core.proofs.Stops.{stops_as}

-- the entries of a map without its first are the others
first_removed : {X : Type 0} (m : Names X) (e : ℕ × X) (es : List (ℕ × X)) → entries m ≡ e ∷ es → entries (remove m e.0) ≡ es
first_removed {X} m e es is = ap entries (same_named _ _ same) ∙ entries-from_sorted nat_cmp es sorted
  where
    whole : T (is_sorted nat_cmp (e ∷ es))
    whole = subst (λ l. T (is_sorted nat_cmp l)) is (entries_sorted m)

    sorted : T (is_sorted nat_cmp es)
    sorted = both_second (below_all nat_cmp e.0 es) (is_sorted nat_cmp es) whole

    none : find nat_cmp e.0 es ≡ None
    none = below_none e.0 es (both_first (below_all nat_cmp e.0 es) (is_sorted nat_cmp es) whole)

    by_test : (q : ℕ) (b : Bool) → (e.0 == q) ≡ b → cond b None (cond b (Some e.1) (find nat_cmp q es)) ≡ find nat_cmp q es
    by_test q true same = sym (ap (λ j. find nat_cmp j es) (sym (eqb-true e.0 q same)) ∙ none)
    by_test q false apart = refl

    same : (q : ℕ) → get (remove m e.0) q ≡ get (from_sorted {R = nat_cmp} es) q
    same q =
        get_removed m e.0 q
        ∙ ap (λ o. cond (e.0 == q) None o) (get-entries m q ∙ ap (find nat_cmp q) is ∙ ap (λ b. cond b (Some e.1) (find nat_cmp q es)) (same_test q e.0))
        ∙ by_test q (e.0 == q) refl
        ∙ sym (get-from_sorted nat_cmp es q sorted)

-- a record that is stopped stays so, and what comes back stays but for what is handed out
record Hands {W : Type 0} (r r' : Record W) (handed : List (ℕ × ℕ)) : Type 0 where
  back : entries r.back ≡ handed ++ entries r'.back
  stopped : r'.stopped ≡ r.stopped

module _ {W : Type 0} where
  submit_hands : (r : Record W) (n key value : ℕ) (o : Option SubmitError) → Hands r (submits r n key value o) []
  submit_hands r n key value (Some why) = record { back = refl; stopped = refl }
  submit_hands r n key value None = record { back = refl; stopped = refl }

  -- nothing but the jobs and results changes
  record IsBeside (r r' : Record W) : Type 0 where
    back : r'.back ≡ r.back
    stopped : r'.stopped ≡ r.stopped

  tells_beside : (r : Record W) → IsBeside r (tells r)
  tells_beside r = by_test _
    where
      by_test : (b : Bool) → IsBeside r (if b then record r { waker = None; wakes = r.wakes ++ option_to_list r.waker } else r)
      by_test true = record { back = refl; stopped = refl }
      by_test false = record { back = refl; stopped = refl }

  starts_beside : (r : Record W) (o : Option (ℕ × Submission)) → IsBeside r (starts_one r o)
  starts_beside r None = record { back = refl; stopped = refl }
  starts_beside r (Some job) = record { back = refl; stopped = refl }

  finish_beside : (r : Record W) (n result : ℕ) (o : Option Job) → IsBeside r (finishes_as r n result o)
  finish_beside r n result None = record { back = refl; stopped = refl }
  finish_beside r n result (Some job) = by_tests (is_running job.state) (length r.results == r.capacity)
    where
      r1 : Record W
      r1 = record (put r n (in_state job (Finished result))) { results = r.results ++ (n, result) ∷ [] }

      by_tests : (b c : Bool) → IsBeside r (if b then (if c then r else tells (starts r1)) else r)
      by_tests false c = record { back = refl; stopped = refl }
      by_tests true true = record { back = refl; stopped = refl }
      by_tests true false =
          let told = tells_beside (starts r1) in
          let started = starts_beside r1 (next_of (queued_in r1.jobs) (running_in r1.jobs)) in
          record { back = told.back ∙ started.back; stopped = told.stopped ∙ started.stopped }

  recall_beside : (r : Record W) (n : ℕ) (o : Option Job) → IsBeside r (recalls_one r n o)
  recall_beside r n None = record { back = refl; stopped = refl }
  recall_beside r n (Some job) = record { back = refl; stopped = refl }

  poll_beside : (r : Record W) (w : W) → IsBeside r (polls r w)
  poll_beside r w = by_test _
    where
      by_test : (b : Bool) → IsBeside r (if b then r else record r { waker = Some w })
      by_test true = record { back = refl; stopped = refl }
      by_test false = record { back = refl; stopped = refl }

  beside_hands : (r r' : Record W) → IsBeside r r' → Hands r r' []
  beside_hands r r' beside = record { back = ap entries (sym beside.back); stopped = beside.stopped }

  back_hands : (r : Record W) (es : List (ℕ × ℕ)) → entries r.back ≡ es → Hands r (hands_one r (first_in es)) (option_to_list (first_in es))
  back_hands r [] is = record { back = refl; stopped = refl }
  back_hands r (e ∷ es) is = record { back = is ∙ ap (λ l. e ∷ l) (sym (first_removed r.back e es is)); stopped = refl }

  -- what a stop that is the first makes of it
  abbrev stopped_now : Record W → Record W
  stopped_now r = record r { jobs = seen returned r.jobs; back = seen (λ (q : Submission). q.value) (queued_in r.jobs); stopped = true }

  call_hands : (r : Record W) (c : Call W) → r.stopped ≡ true → Hands r (called r c) (handed_by r c)
  call_hands r (call.Submit n key value) over = submit_hands r n key value (refusal_in r)
  call_hands r (call.SubmitLacking n) over = record { back = refl; stopped = refl }
  call_hands r (call.Finish n result) over = beside_hands r _ (finish_beside r n result _)
  call_hands r (call.Recall n) over = beside_hands r _ (recall_beside r n _)
  call_hands r call.Take over = record { back = refl; stopped = refl }
  call_hands r call.Stop over = subst (λ (t : Record W). Hands r t []) (sym (ap (λ b. if b then r else tells (stopped_now r)) over)) (record { back = refl; stopped = refl })
  call_hands r call.TakeBack over = back_hands r (entries r.back) refl
  call_hands r (call.PollEnd w) over = beside_hands r _ (poll_beside r w)
  call_hands r call.NextWake over = record { back = refl; stopped = refl }
  call_hands r call.Counts over = record { back = refl; stopped = refl }

  -- over every list of calls after a stop
  come_back : (cs : List (Call W)) (r : Record W) → r.stopped ≡ true → entries r.back ≡ all_handed r cs ++ entries (all_called r cs).back
  come_back [] r over = refl
  come_back (c ∷ cs) r over =
      let hands = call_hands r c over in
      hands.back ∙ ap (λ l. handed_by r c ++ l) (come_back cs (called r c) (hands.stopped ∙ over)) ∙ sym (append_assoc (handed_by r c) (all_handed (called r c) cs) (entries (all_called (called r c) cs).back))

  pub stop_comes_back : (r : Record W) (cs : List (Call W)) → r.stopped ≡ false
      → entries (seen (λ (q : Submission). q.value) (queued_in r.jobs)) ≡ all_handed (stops r) cs ++ entries (all_called (stops r) cs).back
  stop_comes_back r cs going = ap entries (sym (stops_as r going).0) ∙ come_back cs (stops r) (stops_over r going)
    where
      stops_over : (r : Record W) → r.stopped ≡ false → (stops r).stopped ≡ true
      stops_over r going = subst (λ b. (if b then r else tells (stopped_now r)).stopped ≡ true) (sym going) (tells_beside (stopped_now r)).stopped
