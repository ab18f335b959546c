-- what a permit that comes back does to the jobs
use Rattle.std.proofs.Common.{◌≡◌, ℕ, zero, suc, ◌+◌, ◌-◌, ◌<◌, ◌++◌, ◌==◌, cond, [], ◌∷◌, Option, Some, None, IsSome, nat_eq, inl, inr, refl, ap, sym, subst, ◌∙◌, arith}
use Rattle.std.specs.Ordering.{nat_cmp}
use Rattle.std.specs.FinMap.{empty, get, insert, remove, len-empty}
use Rattle.mea_base.proofs.Maps.{inside, is_there, nothing_at, nothing_there, get-there}
use Rattle.mea_base.proofs.Totals.{total-empty}
use Rattle.mea_by_name.specs.ByName.{Names}
use Rattle.mea_by_name.proofs.Own.{len-seen}
use Rattle.mea_share_core.specs.declared.share_acquire.ShareStage.{ShareStage}
use Rattle.mea_share_core.specs.declared.share_acquire.ShareStage.TheVariants.{Queued}
use Rattle.mea_share_core.specs.Share.{Share, IsWaiting, taken, queued, left, released, admitting}
use Rattle.mea_share_core.specs.Groups.{share_in, Sets}
use Rattle.mea_share_core.specs.Fair.{Fair, IsSettled, IsSame, share_of, waiters_of, Becomes, GivesBack, Belongs, Cancels}
use Rattle.mea_share_core.proofs.Numbered.{n_new}
use Rattle.mea_by_name.specs.Room.{Room}
use Rattle.mea_job_core.specs.Waiting.{Waiting}
use Rattle.mea_job_core.specs.Work.{Submission, next_of}
use Rattle.mea_job_core.specs.Tied.{submission_of, submissions, waker_at, AreTied, IsFair, Asks, IsAdmittedJob, StartsJob, EndsBy}
use Rattle.mea_job_core.proofs.Shares.{running_less, share_here}
use Rattle.mea_job_core.proofs.Tying.{alike, takes, gives, goes, comes, starts, returns}
use Rattle.mea_job_core.proofs.Nexts.{none_next, admitted_next}

-- ---- nothing yet
pub tied_none : AreTied [] 0 empty empty
tied_none = record {
  numbered = λ k. n_new 0;
  counted = λ k. record { weight = refl; living = sym (total-empty {X = ℕ} (λ j x. cond (x == k) 1 0)); admitted = refl };
  waits = λ m x is. absurd (nothing_at Waiting m x is);
  is_queued = λ k n m is. absurd (nothing_at ℕ n m is);
  as_many = sym (len-empty nat_cmp Waiting);
  order = λ k n m k' n' m' is. absurd (nothing_at ℕ n m is);
  apart = λ m some. absurd (nothing_there Waiting m some);
}

module _ (f : Fair ℕ ℕ) (q : Names Waiting) (r : Names ℕ) (fair : IsFair f q r) where
  -- ---- a queued job is over
  module _ (n : ℕ) (x : Waiting) (there : get q n ≡ Some x) (key : ℕ) (stage : ShareStage) (same_key : key ≡ x.key) (same_stage : stage ≡ x.stage) where
    pub belongs : Belongs nat_eq f key stage
    belongs =
        let was = fair.tied.waits n x there in
        subst (Belongs nat_eq f key) (sym (same_stage ∙ was.stage))
        (inl (is_there (waker_at f.shares key was.number) n (ap (λ k. waker_at f.shares k was.number) same_key ∙ was.waker)))

    pub recalls : (f' : Fair ℕ ℕ) → Cancels nat_eq f key stage f' → IsSettled f' → IsFair f' (remove q n) r × (f'.free ≡ f.free) × (f'.next ≡ f.next)
    recalls f' cancels settled =
        let was = fair.tied.waits n x there in
        let waits = is_there (waker_at f.shares key was.number) n (ap (λ k. waker_at f.shares k was.number) same_key ∙ was.waker) in
        let becomes = (subst (λ a. Cancels nat_eq f key a f') (same_stage ∙ was.stage) cancels).0 waits in (
          record {
            tied = subst (λ l. AreTied f'.shares l (remove q n) r) (sym becomes.number) (goes f.shares f'.shares f.next q r key fair.tied n was.number x there (sym same_key) was.stage becomes.shares);
            settled = settled;
            quiet = becomes.wakes ∙ fair.quiet;
          },
          becomes.permits,
          becomes.number,
        )

  -- ---- a job takes a free permit
  pub runs : (f' : Fair ℕ ℕ) (m k : ℕ) → get q m ≡ None → get r m ≡ None → Becomes nat_eq f f' k (taken (share_of nat_eq f k)) (f.free - 1) f.next → IsSettled f' → IsFair f' q (insert r m k)
  runs f' m k none new becomes settled = record {
    tied = subst (λ l. AreTied f'.shares l q (insert r m k)) (sym becomes.number) (takes f.shares f'.shares f.next q r k fair.tied m becomes.shares none new);
    settled = settled;
    quiet = becomes.wakes ∙ fair.quiet;
  }

  -- ---- a job asks for a permit, and is queued or not
  module _ (f' : Fair ℕ ℕ) (m k key : ℕ) (stage : ShareStage) (asks : Asks f k m f' key stage) where
    pub queues : (v : ℕ) → ((a : ℕ) → IsSome (get q a) → a < m) → get r m ≡ None → IsSettled f' → IsFair f' (insert q m (record { key = key; stage = stage; value = v })) r
    queues v above new settled =
        subst (λ j. IsFair f' (insert q m (record { key = j; stage = stage; value = v })) r) (sym asks.key)
        (subst (λ a. IsFair f' (insert q m (record { key = k; stage = a; value = v })) r) (sym asks.stage) (record {
          tied = subst (λ l. AreTied f'.shares l (insert q m (record { key = k; stage = Queued f.next; value = v })) r) (sym asks.becomes.number) (comes f.shares f'.shares f.next q r k fair.tied m v asks.becomes.shares above new);
          settled = settled;
          quiet = asks.becomes.wakes ∙ fair.quiet;
        }))

    waits_now : IsWaiting (share_of nat_eq f' key) f.next
    waits_now = is_there (waker_at f'.shares key f.next) m
        (ap (λ j. waker_at f'.shares j f.next) asks.key ∙ ap (λ (s : Share ℕ). get s.waiting f.next) (share_here f.shares f'.shares k (queued (share_of nat_eq f k) f.next m) asks.becomes.shares) ∙ get-there (share_of nat_eq f k).waiting f.next m)

    pub asked_belongs : Belongs nat_eq f' key stage
    asked_belongs = subst (Belongs nat_eq f' key) (sym asks.stage) (inl waits_now)

    pub gives_up : (f'' : Fair ℕ ℕ) → Cancels nat_eq f' key stage f'' → IsSettled f'' → IsFair f'' q r × (f''.free ≡ f'.free) × (f''.next ≡ f.next + 1)
    gives_up f'' cancels settled =
        let becomes = (subst (λ a. Cancels nat_eq f' key a f'') asks.stage cancels).0 waits_now in
        let then : Sets nat_eq f'.shares f''.shares k (left (share_of nat_eq f' k) f.next) = subst (λ j. Sets nat_eq f'.shares f''.shares j (left (share_in nat_eq f'.shares j) f.next)) asks.key becomes.shares in (
          record {
            tied = subst (λ l. AreTied f''.shares l q r) (sym (becomes.number ∙ asks.becomes.number)) (returns f.shares f'.shares f.next q r k fair.tied f''.shares m asks.becomes.shares then);
            settled = settled;
            quiet = becomes.wakes ∙ asks.becomes.wakes ∙ fair.quiet;
          },
          becomes.permits,
          becomes.number ∙ asks.becomes.number,
        )

  -- nothing that can be asked for has changed
  pub rests : (f' : Fair ℕ ℕ) → IsSame nat_eq f f' → IsSettled f' → IsFair f' q r
  rests f' same settled = record {
    tied = subst (λ l. AreTied f'.shares l q r) (sym same.next) (alike f.shares f'.shares f.next q r fair.tied same.shares);
    settled = settled;
    quiet = same.wakes ∙ fair.quiet;
  }

  -- ---- a running job is over
  module _ (m k : ℕ) (is : get r m ≡ Some k) where
    pub lives : 0 < (share_of nat_eq f k).living
    lives = omega (arith, (fair.tied.counted k).living, running_less r m k is)

    module _ (f1 : Fair ℕ ℕ) (gives_back : GivesBack nat_eq f f1 k (released (share_of nat_eq f k))) where
      tied_between : AreTied gives_back.between.shares gives_back.between.next q (remove r m)
      tied_between = subst (λ l. AreTied gives_back.between.shares l q (remove r m)) (sym gives_back.becomes.number) (gives f.shares gives_back.between.shares f.next q r k fair.tied m gives_back.becomes.shares is)

      quiet_between : gives_back.between.wakes ≡ []
      quiet_between = gives_back.becomes.wakes ∙ fair.quiet

      -- and nobody starts
      pub record Nobody : Type 0 where
        pub kept : IsFair f1 q (remove r m)
        pub free : f1.free ≡ f.free + 1
        pub next : next_of (submissions q) (remove r m) ≡ None
        pub last : f1.next ≡ f.next

      pub nobody : f1.wakes ≡ [] → IsSettled f1 → Nobody
      nobody none settled = by_waiters (waiters_of gives_back.between) refl
        where
          by_waiters : (n : ℕ) → waiters_of gives_back.between ≡ n → Nobody
          by_waiters zero nobody_waits =
              let e = gives_back.passes.rests nobody_waits in record {
                kept = record { tied = subst (λ (g : Fair ℕ ℕ). AreTied g.shares g.next q (remove r m)) (sym e) tied_between; settled = settled; quiet = none };
                free = (let more = ap (λ (g : Fair ℕ ℕ). g.free) e in omega (arith, more, gives_back.becomes.permits));
                next = none_next (remove r m) (submissions q) (len-seen submission_of q ∙ sym tied_between.as_many ∙ nobody_waits);
                last = ap (λ (g : Fair ℕ ℕ). g.next) e ∙ gives_back.becomes.number;
              }
          by_waiters (suc n) some =
              let p = gives_back.passes.passes (omega (arith, some)) in
              absurd (let w = ap (λ (g : Fair ℕ ℕ). g.wakes) p.2 ∙ ap (λ ws. ws ++ p.0 ∷ []) quiet_between in cc (w, none))

      -- and this job is admitted
      pub record Admitted (f2 : Fair ℕ ℕ) (w : ℕ) : Type 0 where
        pub job : Waiting
        pub number : ℕ
        pub there : get q w ≡ Some job
        pub stage : job.stage ≡ Queued number
        pub next : next_of (submissions q) (remove r m) ≡ Some (w, submission_of job)
        pub waits : IsWaiting (share_in nat_eq gives_back.between.shares job.key) number
        pub sets : Sets nat_eq gives_back.between.shares f2.shares job.key (admitting (share_in nat_eq gives_back.between.shares job.key) number)
        pub quiet : f2.wakes ≡ []
        pub free : f2.free ≡ f.free
        pub last : f2.next ≡ gives_back.between.next

      pub admitted : (f2 : Fair ℕ ℕ) (w : ℕ) → f1 ≡ record f2 { wakes = w ∷ f2.wakes } → Admitted f2 w
      admitted f2 w is_next = by_waiters (waiters_of gives_back.between) refl
        where
          by_waiters : (n : ℕ) → waiters_of gives_back.between ≡ n → Admitted f2 w
          by_waiters zero nobody_waits =
              absurd (let e = ap (λ (g : Fair ℕ ℕ). g.wakes) (gives_back.passes.rests nobody_waits) ∙ quiet_between in let wakes = ap (λ (g : Fair ℕ ℕ). g.wakes) is_next in cc (e, wakes))
          by_waiters (suc n) some =
              let p = gives_back.passes.passes (omega (arith, some)) in
              let wakes : p.0 ∷ [] ≡ w ∷ f2.wakes = sym (ap (λ (g : Fair ℕ ℕ). g.wakes) p.2 ∙ ap (λ ws. ws ++ p.0 ∷ []) quiet_between) ∙ ap (λ (g : Fair ℕ ℕ). g.wakes) is_next in
              let same : p.0 ≡ w = cc in
              let quiet : f2.wakes ≡ [] = cc in
              let shares : f1.shares ≡ f2.shares = ap (λ (g : Fair ℕ ℕ). g.shares) is_next in
              let job = tied_between.is_queued p.1.key p.1.number p.0 p.1.waker in record {
                job = job.job;
                number = p.1.number;
                there = ap (get q) (sym same) ∙ job.there;
                stage = job.stage;
                next = admitted_next gives_back.between.shares gives_back.between.next q (remove r m) p.1.key p.1.number p.0 job.job tied_between p.1.next p.1.waker job.there job.key job.stage
                    ∙ ap (λ v. Some (v, submission_of job.job)) same;
                waits = subst (λ j. IsWaiting (share_in nat_eq gives_back.between.shares j) p.1.number) (sym job.key) p.1.next.waits;
                sets = subst (λ j. Sets nat_eq gives_back.between.shares f2.shares j (admitting (share_in nat_eq gives_back.between.shares j) p.1.number)) (sym job.key)
                    (subst (λ es. Sets nat_eq gives_back.between.shares es p.1.key (admitting (share_in nat_eq gives_back.between.shares p.1.key) p.1.number)) shares p.1.sets);
                quiet = quiet;
                free = (let a = ap (λ (g : Fair ℕ ℕ). g.free) is_next in let b = ap (λ (g : Fair ℕ ℕ). g.free) p.2 in sym a ∙ b ∙ gives_back.becomes.permits);
                last = (let a = ap (λ (g : Fair ℕ ℕ). g.next) is_next in let b = ap (λ (g : Fair ℕ ℕ). g.next) p.2 in sym a ∙ b);
              }

      module _ (f2 : Fair ℕ ℕ) (w : ℕ) (a : Admitted f2 w) where
        pub admitted_job : IsAdmittedJob f2 q w
        admitted_job = record {
          job = a.job;
          number = a.number;
          there = a.there;
          stage = a.stage;
          admitted = is_there (get (share_of nat_eq f2 a.job.key).admitted a.number) tt
              (ap (λ (s : Share ℕ). get s.admitted a.number) (share_here gives_back.between.shares f2.shares a.job.key (admitting (share_in nat_eq gives_back.between.shares a.job.key) a.number) a.sets)
              ∙ get-there (share_in nat_eq gives_back.between.shares a.job.key).admitted a.number tt);
        }

        -- it starts
        pub record Started (f3 : Fair ℕ ℕ) (q' : Names Waiting) (r' : Names ℕ) : Type 0 where
          pub kept : IsFair f3 q' r'
          pub queued : q' ≡ remove q w
          pub running : r' ≡ insert (remove r m) w a.job.key
          pub free : f3.free ≡ f.free
          pub last : f3.next ≡ f.next

        pub starts_now : (f3 : Fair ℕ ℕ) (q' : Names Waiting) (room room' : Room ℕ) → room.things ≡ remove r m → StartsJob f2 q room w f3 q' room' → IsSettled f3 → Started f3 q' room'.things
        starts_now f3 q' room room' was starts_job settled =
            let did = starts_job a.job a.number a.there a.stage in
            let things : room'.things ≡ insert (remove r m) w a.job.key = did.2 ∙ ap (λ n. insert n w a.job.key) was in
            let tied = subst (λ l. AreTied f3.shares l (remove q w) (insert (remove r m) w a.job.key)) (sym (did.0.number ∙ a.last))
            (starts gives_back.between.shares f2.shares gives_back.between.next q (remove r m) a.job.key tied_between f3.shares w a.number a.job a.there refl a.stage a.waits a.sets did.0.shares) in
            record {
              kept = subst (λ n. IsFair f3 n room'.things) (sym did.1) (subst (λ n. IsFair f3 (remove q w) n) (sym things) (record { tied = tied; settled = settled; quiet = did.0.wakes ∙ a.quiet }));
              queued = did.1;
              running = things;
              free = did.0.permits ∙ a.free;
              last = did.0.number ∙ a.last ∙ gives_back.becomes.number;
            }

pub fair_none : (f : Fair ℕ ℕ) (q : Names Waiting) (r : Names ℕ) (p : ℕ) → f ≡ record { free = p; next = 0; shares = []; wakes = [] } → q ≡ empty → r ≡ empty → IsFair f q r
fair_none f q r p is none nobody =
    subst (λ (g : Fair ℕ ℕ). IsFair g q r) (sym is)
    (subst (λ n. IsFair (record { free = p; next = 0; shares = []; wakes = [] }) n r) (sym none)
    (subst (λ n. IsFair (record { free = p; next = 0; shares = []; wakes = [] }) empty n) (sym nobody) (record { tied = tied_none; settled = inr refl; quiet = refl })))

-- the jobs after that
pub none_ends : (o : Option (ℕ × Submission)) (q q' : Names Waiting) (r r' : Names ℕ) → o ≡ None → q' ≡ q → r' ≡ r → EndsBy o q r q' r'
none_ends o q q' r r' none same_queued same_running = record { none = λ _. (same_queued, same_running); some = λ job some. absurd (cc) }

pub one_ends : (o : Option (ℕ × Submission)) (job : ℕ × Submission) (q q' : Names Waiting) (r r' : Names ℕ) → o ≡ Some job → q' ≡ remove q job.0 → r' ≡ insert r job.0 job.1.key → EndsBy o q r q' r'
one_ends o job q q' r r' is gone started = record {
  none = λ none. absurd (cc);
  some = λ other some.
      let same : job ≡ other = inside (sym is ∙ some) in
      (gone ∙ ap (λ (j : ℕ × Submission). remove q j.0) same, started ∙ ap (λ (j : ℕ × Submission). insert r j.0 j.1.key) same);
}
