-- of the queued jobs the one that fair admission admits is the next
use Rattle.std.proofs.Common.{◌≡◌, ℕ, ◌*◌, ◌<◌, ◌==◌, ◌&&◌, ◌||◌, inl, inr, ◌⊎◌, Bool, true, false, cond, nat_lt, length, List, [], ◌∷◌, Option, Some, None, nat_eq, if◌then◌else◌, refl, ap, sym, subst, ◌∙◌, arith}
use Rattle.std.specs.Ordering.{nat_cmp}
use Rattle.std.specs.Option.{option_map}
use Rattle.std.specs.FinMap.{find, empty, entries, get, len, get-entries, empty_of_len, len-empty, len-entries}
use Rattle.std.proofs.lemmas.Bool.{eqb-true}
use Rattle.std.proofs.lemmas.Bool.Decides.{nat_tests}
use Rattle.mea_base.proofs.Maps.{inside, is_there}
use Rattle.mea_base.proofs.NamedMaps.{get-seen}
use Rattle.mea_base.proofs.Tests.{same_test}
use Rattle.mea_by_name.specs.ByName.{Names}
use Rattle.mea_share_core.specs.declared.share_acquire.ShareStage.TheVariants.{Queued}
use Rattle.mea_share_core.specs.Share.{Share, held_of, IsWaiting}
use Rattle.mea_share_core.specs.Groups.{share_in, IsNextOf, IsBefore}
use Rattle.mea_job_core.specs.Waiting.{Waiting}
use Rattle.mea_job_core.specs.Work.{Submission, running_of, starts_before, sooner, soonest, next_of}
use Rattle.mea_job_core.specs.Tied.{submission_of, submissions, waker_at, Waits, AreTied}
use Rattle.mea_by_name.proofs.Sorted.{AllIn, all_there}

-- ---- two jobs, by how many of the key run and by their numbers
abbrev before : ℕ → ℕ → ℕ → ℕ → Bool
before u n v m = nat_lt u v || ((u == v) && nat_lt n m)

itself : (u n : ℕ) → before u n u n ≡ false
itself u n = grind (arith, nat_tests)

turned : (u n v m : ℕ) → before v m u n ≡ true → before u n v m ≡ false
turned u n v m is = grind (arith, nat_tests)

chained : (u n v m w l : ℕ) → before u n v m ≡ false → before v m w l ≡ false → before u n w l ≡ false
chained u n v m w l first second = grind (arith, nat_tests)

same_number : (u n v m : ℕ) → before u n v m ≡ false → before v m u n ≡ false → n ≡ m
same_number u n v m first second = grind (arith, nat_tests)

not_before : (u n v m : ℕ) → (u < v → ⊥) → (u ≡ v → n < m → ⊥) → before u n v m ≡ false
not_before u n v m less as_many = by_tests (nat_lt u v) refl
  where
    by_tests : (b : Bool) → nat_lt u v ≡ b → (b || ((u == v) && nat_lt n m)) ≡ false
    by_tests true is = absurd (less (grind (arith, nat_tests)))
    by_tests false is = by_same (u == v) refl
      where
        by_same : (c : Bool) → (u == v) ≡ c → (c && nat_lt n m) ≡ false
        by_same false _ = refl
        by_same true same = by_number (nat_lt n m) refl
          where
            by_number : (d : Bool) → nat_lt n m ≡ d → d ≡ false
            by_number false _ = refl
            by_number true low = absurd (as_many (eqb-true u v same) (grind (arith, nat_tests)))

-- ---- among some jobs
abbrev pub IsIn : ℕ × Submission → List (ℕ × Submission) → Type 0
IsIn a [] = ⊥
IsIn a (b ∷ bs) = (b ≡ a) ⊎ IsIn a bs

pub found_in : (k : ℕ) (x : Submission) (es : List (ℕ × Submission)) → find nat_cmp k es ≡ Some x → IsIn (k, x) es
found_in k x [] is = absurd (cc)
found_in k x (e ∷ es) is = by_test (found_in k x es) (e.0 == k) refl (sym (ap (λ b. cond b (Some e.1) (find nat_cmp k es)) (same_test k e.0)) ∙ is)
  where
    by_test : (find nat_cmp k es ≡ Some x → IsIn (k, x) es) → (b : Bool) → (e.0 == k) ≡ b → cond b (Some e.1) (find nat_cmp k es) ≡ Some x → IsIn (k, x) (e ∷ es)
    by_test rest true same there = inl (let number : e.0 ≡ k = eqb-true e.0 k same in let value : e.1 ≡ x = inside there in λ i. (number i, value i))
    by_test rest false apart there = inr (rest there)

in_all : (P : ℕ → Submission → Type 0) (a : ℕ × Submission) (es : List (ℕ × Submission)) → AllIn P es → IsIn a es → P a.0 a.1
in_all P a [] all among = absurd among
in_all P a (e ∷ es) all (inl same) = subst (λ (b : ℕ × Submission). P b.0 b.1) same all.0
in_all P a (e ∷ es) all (inr among) = in_all P a es all.1 among

module _ (r : Names ℕ) where
  -- it is among them, and none of them starts before it
  pub record IsFirst (es : List (ℕ × Submission)) (a : ℕ × Submission) : Type 0 where
    pub among : IsIn a es
    pub first : (d : ℕ × Submission) → IsIn d es → starts_before r d a ≡ false

  some_in : (a : ℕ × Submission) (es : List (ℕ × Submission)) → soonest r (a ∷ es) ≡ None → ⊥
  some_in a es none = by_rest (soonest r es) none
    where
      by_test : (b : ℕ × Submission) (t : Bool) → (if t then Some b else Some a) ≡ None → ⊥
      by_test b true is = absurd (cc)
      by_test b false is = absurd (cc)

      by_rest : (o : Option (ℕ × Submission)) → sooner r a o ≡ None → ⊥
      by_rest None is = absurd (cc)
      by_rest (Some b) is = by_test b (starts_before r b a) is

  pub soonest_first : (es : List (ℕ × Submission)) (a : ℕ × Submission) → soonest r es ≡ Some a → IsFirst es a
  soonest_first [] a is = absurd (cc)
  soonest_first (e ∷ es) a is = by_rest (λ b some. soonest_first es b some) (soonest r es) refl is
    where
      alone : (es : List (ℕ × Submission)) → soonest r es ≡ None → (d : ℕ × Submission) → IsIn d es → ⊥
      alone [] none d among = among
      alone (b ∷ bs) none d among = absurd (some_in b bs none)

      itself_first : (d : ℕ × Submission) → e ≡ d → starts_before r d e ≡ false
      itself_first d same = subst (λ (c : ℕ × Submission). starts_before r c e ≡ false) same (itself (running_of r e.1.key) e.0)

      by_rest : ((b : ℕ × Submission) → soonest r es ≡ Some b → IsFirst es b) → (o : Option (ℕ × Submission)) → soonest r es ≡ o → sooner r e o ≡ Some a → IsFirst (e ∷ es) a
      by_rest rest_first None none got = subst (IsFirst (e ∷ es)) (inside got) (record {
        among = inl refl;
        first = λ d among. one d among;
      })
        where
          one : (d : ℕ × Submission) → IsIn d (e ∷ es) → starts_before r d e ≡ false
          one d (inl same) = itself_first d same
          one d (inr among) = absurd (alone es none d among)
      by_rest rest_first (Some b) some got = by_test (starts_before r b e) refl got
        where
          rest : IsFirst es b
          rest = rest_first b some

          by_test : (t : Bool) → starts_before r b e ≡ t → (if t then Some b else Some e) ≡ Some a → IsFirst (e ∷ es) a
          by_test true sooner_than got = subst (IsFirst (e ∷ es)) (inside got) (record { among = inr rest.among; first = one })
            where
              one : (d : ℕ × Submission) → IsIn d (e ∷ es) → starts_before r d b ≡ false
              one d (inl same) = subst (λ (c : ℕ × Submission). starts_before r c b ≡ false) same (turned (running_of r e.1.key) e.0 (running_of r b.1.key) b.0 sooner_than)
              one d (inr among) = rest.first d among
          by_test false not_sooner got = subst (IsFirst (e ∷ es)) (inside got) (record { among = inl refl; first = one })
            where
              one : (d : ℕ × Submission) → IsIn d (e ∷ es) → starts_before r d e ≡ false
              one d (inl same) = itself_first d same
              one d (inr among) = chained (running_of r d.1.key) d.0 (running_of r b.1.key) b.0 (running_of r e.1.key) e.0 (rest.first d among) not_sooner

-- a queued job that no other starts before is the next
pub next_is : (r : Names ℕ) (m : Names Submission) (k : ℕ) (x : Submission) → get m k ≡ Some x → ((j : ℕ) (y : Submission) → get m j ≡ Some y → starts_before r (j, y) (k, x) ≡ false) → next_of m r ≡ Some (k, x)
next_is r m k x is first = by_answer (next_of m r) refl
  where
    among : IsIn (k, x) (entries m)
    among = found_in k x (entries m) (sym (get-entries m k) ∙ is)

    there : (a : ℕ × Submission) → IsIn a (entries m) → get m a.0 ≡ Some a.1
    there a is = in_all (λ j y. get m j ≡ Some y) a (entries m) (all_there m) is

    nothing : (es : List (ℕ × Submission)) → IsIn (k, x) es → soonest r es ≡ None → ⊥
    nothing [] is none = is
    nothing (e ∷ es) is none = some_in r e es none

    by_answer : (o : Option (ℕ × Submission)) → next_of m r ≡ o → o ≡ Some (k, x)
    by_answer None none = absurd (nothing (entries m) among none)
    by_answer (Some a) some =
        let least = soonest_first r (entries m) a some in
        let here = there a least.among in
        let number : a.0 ≡ k = same_number (running_of r a.1.key) a.0 (running_of r x.key) k (first a.0 a.1 here) (least.first (k, x) among) in
        let value : a.1 ≡ x = inside (sym here ∙ ap (get m) number ∙ is) in
        ap (λ (b : ℕ × Submission). Some b) (λ i. (number i, value i))

-- with no job queued none is next
pub none_next : (r : Names ℕ) (m : Names Submission) → len m ≡ 0 → next_of m r ≡ None
none_next r m none = ap (λ n. next_of n r) (empty_of_len m none) ∙ ap (soonest r) no_entries
  where
    no_entries : entries (empty {X = Submission} {R = nat_cmp}) ≡ []
    no_entries = of_length (entries empty) (sym (len-entries (empty {X = Submission} {R = nat_cmp})) ∙ len-empty nat_cmp Submission)
      where
        of_length : (es : List (ℕ × Submission)) → length es ≡ 0 → es ≡ []
        of_length [] is = refl
        of_length (e ∷ es) is = absurd (omega arith)

-- what is asked for of a queued job
pub submission_at : (q : Names Waiting) (m : ℕ) (x : Waiting) → get q m ≡ Some x → get (submissions q) m ≡ Some (submission_of x)
submission_at q m x is = get-seen (λ k y. submission_of y) q m ∙ ap (option_map submission_of) is

pub submission_was : (q : Names Waiting) (m : ℕ) (y : Submission) → get (submissions q) m ≡ Some y → (x : Waiting) × (get q m ≡ Some x) × (submission_of x ≡ y)
submission_was q m y is = by_value (get q m) refl (sym (get-seen (λ k z. submission_of z) q m) ∙ is)
  where
    by_value : (o : Option Waiting) → get q m ≡ o → option_map submission_of o ≡ Some y → (x : Waiting) × (get q m ≡ Some x) × (submission_of x ≡ y)
    by_value None none got = absurd (cc)
    by_value (Some x) some got = (x, some, inside got)

-- whom fair admission admits is the next
pub admitted_next : (es : List (ℕ × Share ℕ)) (next : ℕ) (q : Names Waiting) (r : Names ℕ) (k n m : ℕ) (x : Waiting) → AreTied es next q r → IsNextOf nat_eq es k n → waker_at es k n ≡ Some m
    → get q m ≡ Some x → x.key ≡ k → x.stage ≡ Queued n → next_of (submissions q) r ≡ Some (m, submission_of x)
admitted_next es next q r k n m x tied first waker there key stage =
    next_is r (submissions q) m (submission_of x) (submission_at q m x there) (λ j y is. before_none j y (submission_was q j y is))
  where
    held : (j : ℕ) → held_of (share_in nat_eq es j) ≡ running_of r j
    held j = let is = tied.counted j in let none = ap len is.admitted ∙ len-empty nat_cmp (Unit {0}) in omega (arith, is.living, none)

    before_none : (j : ℕ) (y : Submission) → ((z : Waiting) × (get q j ≡ Some z) × (submission_of z ≡ y)) → starts_before r (j, y) (m, submission_of x) ≡ false
    before_none j y (z, is, same) = subst (λ (w : Submission). starts_before r (j, w) (m, submission_of x) ≡ false) same
        (subst (λ i. before (running_of r z.key) j (running_of r i) m ≡ false) (sym key) (not_before (running_of r z.key) j (running_of r k) m less as_many))
      where
        was : Waits es j z
        was = tied.waits j z is

        waits : IsWaiting (share_in nat_eq es z.key) was.number
        waits = is_there (waker_at es z.key was.number) j was.waker

        none : ¬ (IsBefore (share_in nat_eq es z.key) was.number (share_in nat_eq es k) n)
        none = first.least z.key was.number waits

        by_one : (a : ℕ) → a * 1 ≡ a
        by_one a = omega arith

        theirs : held_of (share_in nat_eq es z.key) * (share_in nat_eq es k).weight ≡ running_of r z.key
        theirs = (let one = (tied.counted k).weight in let h = held z.key in ap (λ w. held_of (share_in nat_eq es z.key) * w) one ∙ by_one (held_of (share_in nat_eq es z.key)) ∙ h)

        ours : held_of (share_in nat_eq es k) * (share_in nat_eq es z.key).weight ≡ running_of r k
        ours = (let one = (tied.counted z.key).weight in let h = held k in ap (λ w. held_of (share_in nat_eq es k) * w) one ∙ by_one (held_of (share_in nat_eq es k)) ∙ h)

        less : running_of r z.key < running_of r k → ⊥
        less low = none (inl (omega (arith, theirs, ours, low)))

        as_many : running_of r z.key ≡ running_of r k → j < m → ⊥
        as_many same low = none (inr (theirs ∙ same ∙ sym ours, tied.order z.key was.number j k n m was.waker waker low))

-- who is next is queued
pub next_there : (r : Names ℕ) (m : Names Submission) (a : ℕ × Submission) → next_of m r ≡ Some a → get m a.0 ≡ Some a.1
next_there r m a is = in_all (λ j y. get m j ≡ Some y) a (entries m) (all_there m) (soonest_first r (entries m) a is).among

-- where none is next none is queued
pub none_left : (r : Names ℕ) (m : Names Submission) → next_of m r ≡ None → len m ≡ 0
none_left r m none = len-entries m ∙ by_entries (entries m) none
  where
    by_entries : (es : List (ℕ × Submission)) → soonest r es ≡ None → length es ≡ 0
    by_entries [] is = refl
    by_entries (e ∷ es) is = absurd (some_in r e es is)
