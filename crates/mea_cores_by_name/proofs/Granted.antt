-- as many numbers of a core were granted as futures were granted what they asked for
use Rattle.std.proofs.Common.{◌≡◌, ◌≢◌, ◌⊎◌, ℕ, zero, suc, ◌+◌, ◌-◌, ◌<◌, inl, inr, Bool, true, false, not, cond, length, List, [], ◌∷◌, Option, Some, None, is_some, refl, ap, sym, ◌∙◌, arith}
use Rattle.std.specs.Option.{option_map}
use Rattle.std.specs.Ordering.{nat_cmp}
use Rattle.std.specs.Cmp.{nat_cmp_total}
use Rattle.std.specs.FinMap.{FinMap, get, remove, entries, len, len-entries, len-remove, contains_key, empty_of_len, get-empty}
use Rattle.mea_base.specs.Totals.{total, weight}
use Rattle.mea_base.proofs.Maps.{removed_there}
use Rattle.mea_base.proofs.Totals.{total-remove, total-zero, total-plus, total-alike}
use Rattle.mea_base.proofs.NamedMaps.{get-seen}
use Rattle.mea_by_name.specs.declared.named_waker.NamedWaker.{NamedWaker}
use Rattle.mea_by_name.specs.ByName.{Names, seen}
use Rattle.mea_by_name.specs.NamedQueue.{waits}
use Rattle.mea_by_name.specs.LackingQueue.{who}
use Rattle.mea_by_name.proofs.Sorted.{AllIn, all_there}
use Rattle.mea_sem_core.specs.declared.acquire.Acquire.{Acquire}
use Rattle.mea_sem_core.specs.declared.acquire.Acquire.TheVariants.{New, Queued, Done, Refused}
use Rattle.mea_sem_core.specs.Core.{Waiter, HasNoDebt, waiting}
use Rattle.mea_cores_by_name.specs.Linked.{names_in, IsHome, Linked}
use Rattle.mea_cores_by_name.proofs.Linking.{queued_waits, linked_taken}

-- some entry of a map that is not empty
entry_in : {X : Type 0} (m : FinMap nat_cmp X) (es : List (ℕ × X)) → AllIn (λ k x. get m k ≡ Some x) es → 0 < length es → (k : ℕ) × (x : X) × (get m k ≡ Some x)
entry_in m [] all some = absurd (omega arith)
entry_in m (e ∷ es) all some = (e.0, e.1, all.0)

pub an_entry : {X : Type 0} (m : FinMap nat_cmp X) (c : ℕ) → len m ≡ suc c → (k : ℕ) × (x : X) × (get m k ≡ Some x)
an_entry m c is = entry_in m (entries m) (all_there m) (let size : length (entries m) ≡ suc c = sym (len-entries m) ∙ is in omega arith)

-- without one that is there a map has one entry fewer
pub one_fewer : {X : Type 0} (m : FinMap nat_cmp X) (c k : ℕ) (x : X) → len m ≡ suc c → get m k ≡ Some x → len (remove m k) ≡ c
one_fewer m c k x is there =
    let has : contains_key m k ≡ true = ap is_some there in
    len-remove nat_cmp_total m k ∙ ap (λ b. cond b (len m - 1) (len m)) has ∙ (let less : len m - 1 ≡ c = omega arith in less)

-- nothing is in a map that has no entry
pub nothing_in : {X : Type 0} (m : FinMap nat_cmp X) (k : ℕ) → len m ≡ 0 → get m k ≡ None
nothing_in m k none = ap (λ n. get n k) (empty_of_len m none) ∙ get-empty nat_cmp k

-- ---- the futures of a core
-- whether a future was granted what it asked for: its acquire has a number, and it does not wait
abbrev pub was_granted : List (Waiter NamedWaker × ℕ) → ℕ → Acquire → Bool
was_granted q f (New d) = false
was_granted q f (Queued d n) = not (waits (who (names_in q)) f)
was_granted q f (Done d) = false
was_granted q f (Refused d) = false

abbrev pub one_if_granted : List (Waiter NamedWaker × ℕ) → ℕ → Acquire → ℕ
one_if_granted q f a = cond (was_granted q f a) 1 0

-- 1 for one that does not wait
abbrev pub one_unless : Bool → ℕ
one_unless b = cond (not b) 1 0

-- a number that was granted does not wait
granted_idle : (q : List (Waiter NamedWaker × ℕ)) (granted : FinMap nat_cmp ℕ) → ((n : ℕ) → waiting q n ≢ None → get granted n ≡ None) → (n d : ℕ) → get granted n ≡ Some d → waiting q n ≡ None
granted_idle q granted apart n d is = at (waiting q n) refl
  where
    at : (o : Option (ℕ × ℕ)) → waiting q n ≡ o → waiting q n ≡ None
    at None none = none
    at (Some p) some = absurd (let none = apart n (λ none. absurd (cc)) in cc)

module _ (q : List (Waiter NamedWaker × ℕ)) (no_debt : HasNoDebt q) where
  -- where no number was granted, no future was granted anything
  module _ (granted : FinMap nat_cmp ℕ) (acquires : Names Acquire) (linked : Linked q granted acquires) (none : len granted ≡ 0) (f : ℕ) where
    none_at : (d n : ℕ) → get acquires f ≡ Some (Queued d n) → (get granted n ≡ Some d) ⊎ ((lack : ℕ) × (waiting q n ≡ Some (d, lack))) → one_if_granted q f (Queued d n) ≡ 0
    none_at d n there (inl held) = absurd (let nothing = nothing_in granted n none in cc)
    none_at d n there (inr queued) = ap one_unless (queued_waits q granted acquires linked f d n there no_debt ∙ ap is_some queued.1)

    none_granted : (a : Acquire) → get acquires f ≡ Some a → IsHome q granted a → one_if_granted q f a ≡ 0
    none_granted (New d) there home = refl
    none_granted (Queued d n) there home = none_at d n there home
    none_granted (Done d) there home = refl
    none_granted (Refused d) there home = refl

  granted_are : (c : ℕ) (granted : FinMap nat_cmp ℕ) (acquires : Names Acquire) → len granted ≡ c → Linked q granted acquires → ((n d : ℕ) → get granted n ≡ Some d → waiting q n ≡ None)
      → total (λ f a. one_if_granted q f a) acquires ≡ c
  granted_are zero granted acquires is linked idle = total-zero (λ f a. one_if_granted q f a) acquires (λ f a there. none_granted granted acquires linked is f a there (linked.home f a there))
  granted_are (suc c) granted acquires is linked idle =
      let one = an_entry granted c is in
      let owner = linked.owned one.0 one.1 one.2 in
      let waits_not = idle one.0 one.1 one.2 in
      let taken = linked_taken q granted acquires linked owner.0 one.1 one.0 owner.1 waits_not in
      let rest : total (λ f a. one_if_granted q f a) (remove acquires owner.0) ≡ c =
      granted_are c (remove granted one.0) (remove acquires owner.0) (one_fewer granted c one.0 one.1 is one.2) taken (λ n d there. idle n d (removed_there granted one.0 n d there)) in
      let here : weight (λ f a. one_if_granted q f a) owner.0 (get acquires owner.0) ≡ 1 = ap (weight (λ f a. one_if_granted q f a) owner.0) owner.1
      ∙ ap one_unless (queued_waits q granted acquires linked owner.0 one.1 one.0 owner.1 no_debt ∙ ap is_some waits_not) in
      omega (arith, rest, here, total-remove (λ f a. one_if_granted q f a) acquires owner.0)

-- things that are seen otherwise, each with an acquire: where each counts one if it was granted what it asked for, and something
-- more, they count together as many as there are granted numbers, and that
pub granted_seen : {X Y : Type 0} (q : List (Waiter NamedWaker × ℕ)) (granted : FinMap nat_cmp ℕ) (acquire : X → Acquire) (view : X → Y) (xs : Names X) (counts : ℕ → Y → ℕ) (more : X → ℕ)
    → HasNoDebt q → ((n : ℕ) → waiting q n ≢ None → get granted n ≡ None) → Linked q granted (seen acquire xs)
    → ((f : ℕ) (x : X) → get xs f ≡ Some x → counts f (view x) ≡ one_if_granted q f (acquire x) + more x) → total counts (seen view xs) ≡ len granted + total (λ f x. more x) xs
granted_seen {X} {Y} q granted acquire view xs counts more no_debt apart linked each =
    let all : total counts (seen view xs) ≡ total (λ f x. one_if_granted q f (acquire x) + more x) xs
    = total-alike counts (λ f x. one_if_granted q f (acquire x) + more x) (seen view xs) xs (λ f. ap (weight counts f) (get-seen (λ k x. view x) xs f) ∙ at f (get xs f) refl) in
    let acquires : total (λ f a. one_if_granted q f a) (seen acquire xs) ≡ total (λ f x. one_if_granted q f (acquire x)) xs
    = total-alike (λ f a. one_if_granted q f a) (λ f x. one_if_granted q f (acquire x)) (seen acquire xs) xs (λ f. ap (weight (λ f a. one_if_granted q f a) f) (get-seen (λ k x. acquire x) xs f) ∙ by f (get xs f)) in
    let numbers = granted_are q no_debt (len granted) granted (seen acquire xs) refl linked (granted_idle q granted apart) in
    omega (arith, all, acquires, numbers, total-plus (λ f (x : X). one_if_granted q f (acquire x)) (λ f x. more x) xs)
  where
    at : (f : ℕ) (o : Option X) → get xs f ≡ o → weight counts f (option_map view o) ≡ weight (λ f (x : X). one_if_granted q f (acquire x) + more x) f o
    at f None is = refl
    at f (Some x) is = each f x is

    by : (f : ℕ) (o : Option X) → weight (λ f a. one_if_granted q f a) f (option_map acquire o) ≡ weight (λ f (x : X). one_if_granted q f (acquire x)) f o
    by f None = refl
    by f (Some x) = refl
