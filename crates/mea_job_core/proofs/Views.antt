-- what is seen of the jobs, while the service goes and once it was stopped
use Rattle.std.proofs.Common.{◌≡◌, ℕ, ◌+◌, ◌<◌, ◌≤◌, ◌==◌, ◌&&◌, Bool, true, false, cond, T, List, [], ◌∷◌, length, Option, Some, None, IsSome, is_some, refl, ap, sym, subst, ◌∙◌, arith}
use Rattle.std.specs.Ordering.{nat_cmp, is_lt}
use Rattle.std.specs.FinMap.{find, is_sorted, empty, entries, entries_sorted, get, insert, remove, len, get-empty, get-entries, len-empty, len-entries}
use Rattle.std.specs.FinMap.Entries.{below_all}
use Rattle.std.proofs.lemmas.Bool.{eqb-true}
use Rattle.std.proofs.lemmas.Bool.Decides.{nat_tests}
use Rattle.mea_base.proofs.Tests.{same_test}
use Rattle.mea_base.proofs.Maps.{inside, is_there, is_absent, nothing_there}
use Rattle.mea_base.proofs.NamedMaps.{get-seen, is_some-map}
use Rattle.mea_by_name.specs.ByName.{Names}
use Rattle.mea_by_name.proofs.Own.{seen-insert, seen-remove, seen-empty, seen-at, len-seen}
use Rattle.mea_job_core.specs.Waiting.{Waiting}
use Rattle.mea_job_core.specs.Work.{Submission, Work, Kept, new_work, soonest, next_of, started, next_after, ended, recalled, first_in, first_back, handed, handed_of}
use Rattle.mea_job_core.specs.Tied.{submission_of, submissions, values, work_seen, EndsJob}
use Rattle.mea_by_name.proofs.Sorted.{AllIn, all_there}

-- the jobs of what is kept
pub is_seen : {k l : Kept} → k ≡ l → k.seen ≡ l.seen
is_seen is = ap (λ (k : Kept). k.seen) is

pub has_submission : (q : Names Waiting) (n : ℕ) → is_some (get (submissions q) n) ≡ is_some (get q n)
has_submission q n = ap is_some (get-seen (λ k x. submission_of x) q n) ∙ is_some-map submission_of (get q n)

-- a number that is above all is not there
pub not_there : {X : Type 0} (m : Names X) (n : ℕ) → ((a : ℕ) → IsSome (get m a) → a < n) → get m n ≡ None
not_there m n above = is_absent (get m n) (λ some. absurd (let low = above n some in omega (arith, low)))

-- no entries
no_entries : {X : Type 0} → entries (empty {X = X} {R = nat_cmp}) ≡ []
no_entries {X} = of_length (entries (empty {X = X} {R = nat_cmp})) (sym (len-entries (empty {X = X} {R = nat_cmp})) ∙ len-empty nat_cmp X)
  where
    of_length : (es : List (ℕ × X)) → length es ≡ 0 → es ≡ []
    of_length [] is = refl
    of_length (e ∷ es) is = absurd (omega arith)

pub first_of_none : {X : Type 0} (m : Names X) → m ≡ empty → first_in (entries m) ≡ None
first_of_none m is = ap (λ n. first_in (entries n)) is ∙ ap first_in no_entries

-- ---- the first entry is that of the least number
both_first : (a b : Bool) → T (a && b) → T a
both_first true b p = tt
both_first false b p = absurd p

both_second : (a b : Bool) → T (a && b) → T b
both_second true b p = p
both_second false b p = absurd p

as_true : (b : Bool) → T b → b ≡ true
as_true true t = refl
as_true false t = absurd t

lower : (a b : ℕ) → is_lt (nat_cmp a b) ≡ true → a < b
lower a b is = grind (arith, nat_tests)

-- who is found among those above is above
above_found : {X : Type 0} (a k : ℕ) (x : X) (es : List (ℕ × X)) → T (below_all nat_cmp a es) → find nat_cmp k es ≡ Some x → a < k
above_found a k x [] below is = absurd (cc)
above_found a k x (e ∷ es) below is =
    by_test (above_found a k x es (both_second (is_lt (nat_cmp a e.0)) (below_all nat_cmp a es) below)) (e.0 == k) refl (sym (ap (λ b. cond b (Some e.1) (find nat_cmp k es)) (same_test k e.0)) ∙ is)
  where
    by_test : (find nat_cmp k es ≡ Some x → a < k) → (b : Bool) → (e.0 == k) ≡ b → cond b (Some e.1) (find nat_cmp k es) ≡ Some x → a < k
    by_test rest true same there = subst (λ j. a < j) (eqb-true e.0 k same) (lower a e.0 (as_true (is_lt (nat_cmp a e.0)) (both_first (is_lt (nat_cmp a e.0)) (below_all nat_cmp a es) below)))
    by_test rest false apart there = rest there

pub first_is : {X : Type 0} (m : Names X) (k : ℕ) (x : X) → get m k ≡ Some x → ((j : ℕ) → IsSome (get m j) → k ≤ j) → first_in (entries m) ≡ Some (k, x)
first_is {X} m k x is least = by_entries (entries m) (all_there m) (entries_sorted m) (sym (get-entries m k) ∙ is)
  where
    by_entries : (es : List (ℕ × X)) → AllIn (λ j y. get m j ≡ Some y) es → T (is_sorted nat_cmp es) → find nat_cmp k es ≡ Some x → first_in es ≡ Some (k, x)
    by_entries [] all sorted there = absurd (cc)
    by_entries (e ∷ es) all sorted there = by_test (e.0 == k) refl (sym (ap (λ b. cond b (Some e.1) (find nat_cmp k es)) (same_test k e.0)) ∙ there)
      where
        by_test : (b : Bool) → (e.0 == k) ≡ b → cond b (Some e.1) (find nat_cmp k es) ≡ Some x → Some e ≡ Some (k, x)
        by_test true same here =
            let number : e.0 ≡ k = eqb-true e.0 k same in
            let value : e.1 ≡ x = inside here in
            ap (λ (d : ℕ × X). Some d) (λ i. (number i, value i))
        by_test false apart here =
            absurd (let above = above_found e.0 k x es (both_first (below_all nat_cmp e.0 es) (is_sorted nat_cmp es) sorted) here in
            let low = least e.0 (is_there (get m e.0) e.1 all.0) in omega (arith, above, low))

module _ (p : ℕ) (q : Names Waiting) (r : Names ℕ) where
  -- ---- who is queued is so while the service goes
  pub not_over : (s : Bool) (n : ℕ) → IsSome (get (work_seen p q r s).queued n) → s ≡ false
  not_over true n some = absurd (nothing_there Submission n some)
  not_over false n some = refl

  pub was_queued : (s : Bool) (old : Work) (n : ℕ) → work_seen p q r s ≡ old → IsSome (get old.queued n) → (s ≡ false) × IsSome (get q n)
  was_queued s old n is some =
      let there = subst (λ (w : Work). IsSome (get w.queued n)) (sym is) some in
      let going = not_over s n there in
      (going, sym (has_submission q n) ∙ ap (λ b. is_some (get (work_seen p q r b).queued n)) (sym going) ∙ there)

  pub going : (s : Bool) (old : Work) → work_seen p q r s ≡ old → old.stopped ≡ false → s ≡ false
  going s old is still = ap (λ (w : Work). w.stopped) is ∙ still

  -- how many are queued
  pub queued_len : (s : Bool) (old : Work) → work_seen p q r s ≡ old → s ≡ false → len q ≡ len old.queued
  queued_len s old is still = sym (len-seen submission_of q) ∙ ap (λ b. len (work_seen p q r b).queued) (sym still) ∙ ap (λ (w : Work). len w.queued) is

  pub none_queued : (s : Bool) (old : Work) → work_seen p q r s ≡ old → s ≡ true → 0 ≡ len old.queued
  none_queued s old is over = sym (len-empty nat_cmp Submission) ∙ ap (λ b. len (work_seen p q r b).queued) (sym over) ∙ ap (λ (w : Work). len w.queued) is

  pub is_queued : (s : Bool) (old : Work) (n : ℕ) → work_seen p q r s ≡ old → s ≡ false → is_some (get q n) ≡ is_some (get old.queued n)
  is_queued s old n is still = sym (has_submission q n) ∙ ap (λ b. is_some (get (work_seen p q r b).queued n)) (sym still) ∙ ap (λ (w : Work). is_some (get w.queued n)) is

  pub not_queued : (s : Bool) (old : Work) (n : ℕ) → work_seen p q r s ≡ old → s ≡ true → false ≡ is_some (get old.queued n)
  not_queued s old n is over = ap is_some (sym (get-empty nat_cmp n)) ∙ ap (λ b. is_some (get (work_seen p q r b).queued n)) (sym over) ∙ ap (λ (w : Work). is_some (get w.queued n)) is

  pub submission_seen : (s : Bool) (old : Work) (n : ℕ) (x : Waiting) (submission : Submission) → work_seen p q r s ≡ old → s ≡ false → get q n ≡ Some x → get old.queued n ≡ Some submission → x.value ≡ submission.value
  submission_seen s old n x submission is still there asked =
      let seen_so : get (submissions q) n ≡ Some (submission_of x) = seen-at submission_of q n x there in
      let old_so : get (submissions q) n ≡ get old.queued n = ap (λ b. get (work_seen p q r b).queued n) (sym still) ∙ ap (λ (w : Work). get w.queued n) is in
      ap (λ (y : Submission). y.value) (inside (sym seen_so ∙ old_so ∙ asked))

  -- ---- what is done
  pub seen_recalled : (s : Bool) (old : Work) (n : ℕ) → work_seen p q r s ≡ old → s ≡ false → work_seen p (remove q n) r s ≡ recalled old n
  seen_recalled true old n is still = absurd (cc)
  seen_recalled false old n is still = (λ i. record (work_seen p q r false) { queued = seen-remove submission_of q n i }) ∙ ap (λ w. recalled w n) is

  pub seen_queued : (s : Bool) (old : Work) (n : ℕ) (x : Waiting) → work_seen p q r s ≡ old → s ≡ false → work_seen p (insert q n x) r s ≡ record old { queued = insert old.queued n (submission_of x) }
  seen_queued true old n x is still = absurd (cc)
  seen_queued false old n x is still = (λ i. record (work_seen p q r false) { queued = seen-insert submission_of q n x i }) ∙ ap (λ (w : Work). record w { queued = insert w.queued n (submission_of x) }) is

  -- ---- what is handed back
  pub none_back : (s : Bool) (old : Work) → work_seen p q r s ≡ old → s ≡ false → None ≡ first_back old
  none_back true old is still = absurd (cc)
  none_back false old is still = sym (first_of_none empty refl) ∙ ap first_back is

  pub handed_none : (old : Work) → None ≡ first_back old → old ≡ handed old
  handed_none old none = ap (handed_of old) none

  pub no_back : (s : Bool) (old : Work) → work_seen p q r s ≡ old → q ≡ empty → None ≡ first_back old
  no_back false old is none = none_back false old is refl
  no_back true old is none = sym (first_of_none (values (submissions q)) (ap (λ m. values (submissions m)) none ∙ ap values (seen-empty submission_of) ∙ seen-empty (λ (x : Submission). x.value))) ∙ ap first_back is

  pub first_is_back : (s : Bool) (old : Work) (n : ℕ) (x : Waiting) → work_seen p q r s ≡ old → s ≡ true → get q n ≡ Some x → ((j : ℕ) → IsSome (get q j) → n ≤ j) → Some (n, x.value) ≡ first_back old
  first_is_back false old n x is over there least = absurd (cc)
  first_is_back true old n x is over there least =
      sym (first_is (values (submissions q)) n x.value (seen-at (λ (y : Submission). y.value) (submissions q) n (submission_of x) (seen-at submission_of q n x there))
      (λ j some. least j (sym (has_submission q j) ∙ sym (ap is_some (get-seen (λ k (y : Submission). y.value) (submissions q) j) ∙ is_some-map (λ (y : Submission). y.value) (get (submissions q) j)) ∙ some)))
      ∙ ap first_back is

  pub seen_handed : (s : Bool) (old : Work) (n v : ℕ) → work_seen p q r s ≡ old → s ≡ true → Some (n, v) ≡ first_back old → work_seen p (remove q n) r s ≡ handed old
  seen_handed false old n v is over first = absurd (cc)
  seen_handed true old n v is over first =
      (λ i. record (work_seen p q r true) { back = (ap values (seen-remove submission_of q n) ∙ seen-remove (λ (y : Submission). y.value) (submissions q) n) i })
      ∙ ap (λ (w : Work). record w { back = remove w.back n }) is ∙ ap (handed_of old) first

  -- ---- a running job is over
  pub ends_over : (s : Bool) (old : Work) (n : ℕ) → work_seen p q r s ≡ old → s ≡ true → (None ≡ next_after old n) × (work_seen p q (remove r n) s ≡ ended old n)
  ends_over false old n is over = absurd (cc)
  ends_over true old n is over =
      let none : None ≡ next_after old n = ap (λ es. soonest (remove r n) es) (sym (no_entries {X = Submission})) ∙ ap (λ w. next_after w n) is in
      (none, ap (λ (w : Work). record w { running = remove w.running n }) is ∙ ap (started (record old { running = remove old.running n })) none)

  pub ends_going : (s : Bool) (old : Work) (n : ℕ) (q' : Names Waiting) (r' : Names ℕ) → work_seen p q r s ≡ old → s ≡ false → EndsJob q r n q' r' → work_seen p q' r' s ≡ ended old n
  ends_going true old n q' r' is still ends = absurd (cc)
  ends_going false old n q' r' is still ends = by_next (next_of (submissions q) (remove r n)) refl
    where
      without : Work
      without = record (work_seen p q r false) { running = remove r n }

      by_next : (o : Option (ℕ × Submission)) → next_of (submissions q) (remove r n) ≡ o → work_seen p q' r' false ≡ ended old n
      by_next None none =
          let did = ends.none none in
          (λ i. work_seen p (did.0 i) (did.1 i) false) ∙ ap (started without) (sym none) ∙ ap (λ w. ended w n) is
      by_next (Some job) some =
          let did = ends.some job some in
          (λ i. work_seen p (did.0 i) (did.1 i) false) ∙ (λ i. record without { queued = seen-remove submission_of q job.0 i; running = insert (remove r n) job.0 job.1.key })
          ∙ ap (started without) (sym some) ∙ ap (λ w. ended w n) is

  -- of the jobs that are queued and that run there is one less
  pub fewer_jobs : (s : Bool) (old : Work) (q' : Names Waiting) (r' : Names ℕ) → work_seen p q r s ≡ old → s ≡ false → len q' + len r' + 1 ≡ len q + len r
      → len (work_seen p q' r' s).queued + len (work_seen p q' r' s).running + 1 ≡ len old.queued + len old.running
  fewer_jobs true old q' r' is still less = absurd (cc)
  fewer_jobs false old q' r' is still less =
      let queued = ap (λ (w : Work). len w.queued) is in
      let running = ap (λ (w : Work). len w.running) is in
      omega (arith, less, queued, running, len-seen submission_of q, len-seen submission_of q')

pub new_seen : (p : ℕ) (q : Names Waiting) (r : Names ℕ) → q ≡ empty → r ≡ empty → work_seen p q r false ≡ new_work p
new_seen p q r none nobody = (λ i. work_seen p (none i) (nobody i) false) ∙ (λ i. record (new_work p) { queued = seen-empty submission_of i })
