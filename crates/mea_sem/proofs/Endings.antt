-- a semaphore of which nothing is left stands among the others as its account alone
use Rattle.std.proofs.Common.{◌≡◌, ◌⊎◌, inl, inr, ℕ, ◌≤◌, ◌==◌, ◌&&◌, ◌++◌, Bool, true, false, cond, List, [], ◌∷◌, map, reverse, Option, Some, None, nat_eq, refl, ap, sym, subst, ◌∙◌, arith}
use Rattle.std.specs.Option.{option_map}
use Rattle.std.specs.Ordering.{nat_cmp}
use Rattle.std.specs.FinMap.{FinMap, get, empty, get-empty}
use Rattle.std.proofs.lemmas.Bool.{eqb-true, eq-eqb}
use Rattle.std.proofs.lemmas.List.{reverse-append, map-append}
use Rattle.mea_base.specs.Named.{at, ChangesAt}
use Rattle.mea_base.proofs.Maps.{inside, total-has}
use Rattle.mea_base.proofs.NamedMaps.{named-same, same_named, found, get-seen}
use Rattle.std.proofs.lemmas.Bool.Decides.{nat_tests}
use Rattle.mea_base.proofs.Totals.{total-zero}
use Rattle.mea_sem_model.specs.Hall.{Hall, Semaphore, Future, Permit, free, held, paid, paid_to, queue_at}
use Rattle.mea_sem.specs.declared.entries.SemaphoreEntry.{SemaphoreEntry}
use Rattle.mea_sem.specs.declared.entries.EndedEntry.{EndedEntry}
use Rattle.mea_sem.specs.declared.entries.FutureEntry.{FutureEntry}
use Rattle.mea_sem.proofs.Inside.{Inside}
use Rattle.mea_sem.specs.Entries.{IsOver, account_of}
use Rattle.mea_sem.specs.Store.{store_of, as_ended, ended_of, with_ended, future_of, IsOwned}
use Rattle.mea_sem.specs.Kept.{IsKeptEntry, things}
use Rattle.mea_sem.proofs.Lives.{live-seen}
use Rattle.mea_sem.proofs.Seen.{seen_at}
use Rattle.mea_sem.proofs.Standing.{Semaphores}
use Rattle.mea_sem.proofs.Meets.{registered_in, semaphores_in, futures_in, permits_in, store_in, hall_in, IsKeptIn}
use Rattle.mea_base.proofs.Tests.{on_false, on_first_false}

-- ---- one list before another
abbrev first : {X : Type 0} → Option X → Option X → Option X
first None y = y
first (Some x) y = Some x

at-append : {X : Type 0} (xs ys : List (ℕ × X)) (q : ℕ) → at (xs ++ ys) q ≡ first (at xs q) (at ys q)
at-append [] ys q = refl
at-append {X} (x ∷ xs) ys q = ap (cond (nat_eq q x.0) (Some x.1)) (at-append xs ys q) ∙ by_test (nat_eq q x.0)
  where
    by_test : (b : Bool) → cond b (Some x.1) (first (at xs q) (at ys q)) ≡ first (cond b (Some x.1) (at xs q)) (at ys q)
    by_test true = refl
    by_test false = refl

pub living : (ss : Semaphores) (xs : List EndedEntry) (s : ℕ) (e : SemaphoreEntry) → at ss s ≡ Some e → at (with_ended ss xs) s ≡ Some e
living ss xs s e is = at-append ss (ended_of xs) s ∙ ap (λ o. first o (at (ended_of xs) s)) is

pub living_in : (a : Inside) (s : ℕ) (e : SemaphoreEntry) → at a.kept.semaphores.entries s ≡ Some e → at (semaphores_in a) s ≡ Some e
living_in a s e is = living a.kept.semaphores.entries a.kept.ended.items s e is

pub beside : (a : Inside) (ss' : Semaphores) (s : ℕ) (e : SemaphoreEntry) → ChangesAt a.kept.semaphores.entries ss' s (Some e)
    → ChangesAt (semaphores_in a) (with_ended ss' a.kept.ended.items) s (Some e)
beside a ss' s e changes q = at-append ss' (ended_of a.kept.ended.items) q ∙ ap (λ o. first o (at (ended_of a.kept.ended.items) q)) (changes q)
    ∙ by_test (s == q) ∙ ap (cond (s == q) (Some e)) (sym (at-append a.kept.semaphores.entries (ended_of a.kept.ended.items) q))
  where
    by_test : (b : Bool) → first (cond b (Some e) (at a.kept.semaphores.entries q)) (at (ended_of a.kept.ended.items) q)
        ≡ cond b (Some e) (first (at a.kept.semaphores.entries q) (at (ended_of a.kept.ended.items) q))
    by_test true = refl
    by_test false = refl

-- ---- what stands among those of which nothing is left
abbrev HasEnded : SemaphoreEntry → Type 0
HasEnded e = (e.named ≡ false) × (e.things ≡ 0)

has_ended : (xs : List EndedEntry) (q : ℕ) (e : SemaphoreEntry) → at (ended_of xs) q ≡ Some e → HasEnded e
has_ended [] q e is = absurd (cc)
has_ended (x ∷ xs) q e is = by_first (has_ended xs q) (at (ended_of xs) q) refl
    (sym (ap (λ es. at es q) (reverse-append ((x.name, as_ended x) ∷ []) (map (λ (y : EndedEntry). (y.name, as_ended y)) xs))
    ∙ at-append (ended_of xs) ((x.name, as_ended x) ∷ []) q) ∙ is)
  where
    by_name : (b : Bool) → cond b (Some (as_ended x)) None ≡ Some e → HasEnded e
    by_name true same = subst HasEnded (inside same) (refl, refl)
    by_name false same = absurd (cc)

    by_first : ((d : SemaphoreEntry) → at (ended_of xs) q ≡ Some d → HasEnded d) → (o : Option SemaphoreEntry) → at (ended_of xs) q ≡ o
        → first o (cond (nat_eq q x.name) (Some (as_ended x)) None) ≡ Some e → HasEnded e
    by_first others None none same = by_name (nat_eq q x.name) same
    by_first others (Some d) there same = others e (there ∙ same)

-- what is not there among the others is nowhere, or has ended
pub missing : (a : Inside) (s : ℕ) → at a.kept.semaphores.entries s ≡ None
    → (at (semaphores_in a) s ≡ None) ⊎ ((e : SemaphoreEntry) × (at (semaphores_in a) s ≡ Some e) × (e.named ≡ false) × (e.things ≡ 0))
missing a s none = by_value (at (ended_of a.kept.ended.items) s) refl
  where
    all : at (semaphores_in a) s ≡ at (ended_of a.kept.ended.items) s
    all = at-append a.kept.semaphores.entries (ended_of a.kept.ended.items) s ∙ ap (λ o. first o (at (ended_of a.kept.ended.items) s)) none

    by_value : (o : Option SemaphoreEntry) → at (ended_of a.kept.ended.items) s ≡ o
        → (at (semaphores_in a) s ≡ None) ⊎ ((e : SemaphoreEntry) × (at (semaphores_in a) s ≡ Some e) × (e.named ≡ false) × (e.things ≡ 0))
    by_value None is = inl (all ∙ is)
    by_value (Some e) is = (let h = has_ended a.kept.ended.items s e is in inr (e, all ∙ is, h.0, h.1))

-- ---- a semaphore with nothing: it is its account
module _ (a : Inside) (k : IsKeptIn a) (s : ℕ) (e : SemaphoreEntry) (there : at (semaphores_in a) s ≡ Some e) (none : e.things ≡ 0) where
  abbrev h : Hall
  h = hall_in a

  here : get (store_in a).semaphores s ≡ Some e
  here = found (semaphores_in a) s e there

  entry : IsKeptEntry h a.kept.next s e
  entry = k.each s e here

  no_things : things h s ≡ 0
  no_things = sym entry.things ∙ none

  one_if_there : (b : Bool) → b ≡ true → 1 ≤ cond (b && true) 1 0
  one_if_there true is = omega arith
  one_if_there false is = absurd (cc)

  pub not_future : (f : ℕ) (x : Future) → get h.futures f ≡ Some x → (x.semaphore == s) ≡ false
  not_future f x is = by_test (x.semaphore == s) refl
    where
      by_test : (b : Bool) → (x.semaphore == s) ≡ b → b ≡ false
      by_test false same = refl
      by_test true same = absurd (let most = total-has (λ g (y : Future). cond (y.semaphore == s && true) 1 0) h.futures f x is in
          let one = one_if_there (x.semaphore == s) same in let all = no_things in omega (arith, most, one, all))

  pub not_permit : (p : ℕ) (x : Permit) → get h.permits p ≡ Some x → (x.semaphore == s) ≡ false
  not_permit p x is = by_test (x.semaphore == s) refl
    where
      by_test : (b : Bool) → (x.semaphore == s) ≡ b → b ≡ false
      by_test false same = refl
      by_test true same = absurd (let most = total-has (λ g (y : Permit). cond (y.semaphore == s && true) 1 0) h.permits p x is in
          let one = one_if_there (x.semaphore == s) same in let all = no_things in omega (arith, most, one, all))

  pub no_entry : (f : ℕ) (x : FutureEntry) → get (store_in a).futures f ≡ Some x → x.semaphore ≡ s → ⊥
  no_entry f x is mine = absurd (
      let seen : get h.futures f ≡ Some (future_of (store_in a).semaphores x) =
      get-seen (λ g y. future_of (store_in a).semaphores y) (store_in a).futures f ∙ ap (option_map (future_of (store_in a).semaphores)) is in
      let other = not_future f (future_of (store_in a).semaphores x) seen in
      let same = eq-eqb x.semaphore s mine in
      cc)

  nothing_under : (m : FinMap nat_cmp ℕ) → ((n d : ℕ) → get m n ≡ Some d → IsOwned (store_in a) s n d) → m ≡ empty
  nothing_under m owned = same_named m empty (λ n. by_value n (get m n) refl)
    where
      by_value : (n : ℕ) (o : Option ℕ) → get m n ≡ o → o ≡ get (empty {X = ℕ} {R = nat_cmp}) n
      by_value n None is = sym (get-empty nat_cmp n)
      by_value n (Some d) is = absurd (let o = owned n d is in no_entry o.name o.entry o.there o.semaphore)

  live_is : e.core.live ≡ e.core.free
  live_is =
      let all = live-seen (store_in a) (registered_in a) a.list.registered a.kept.next s e k here in
      let idle : free h s ≡ e.core.free = ap (λ (r : Semaphore). r.free) (seen_at (store_in a) a.kept.next s e k.linked here) in
      let holds : held h s ≡ 0 = total-zero (λ p (x : Permit). cond (x.semaphore == s) x.size 0) h.permits
      (λ p x is. on_false (x.semaphore == s) x.size (not_permit p x is)) in
      let pays : paid h s ≡ 0 = total-zero (λ f (x : Future). cond (x.semaphore == s) (paid_to (queue_at h s) f x.demand x.stage) 0) h.futures
      (λ f x is. on_false (x.semaphore == s) (paid_to (queue_at h s) f x.demand x.stage) (not_future f x is)) in
      omega (arith, all, idle, holds, pays)

  plain_is : e.plain ≡ 0
  plain_is =
      let all = entry.plain in
      let fs = total-zero (λ f (x : Future). cond (x.semaphore == s && x.plain) 1 0) h.futures
      (λ f x is. on_first_false (x.semaphore == s) x.plain (not_future f x is)) in
      let ps = total-zero (λ p (x : Permit). cond (x.semaphore == s && x.plain) 1 0) h.permits
      (λ p x is. on_first_false (x.semaphore == s) x.plain (not_permit p x is)) in
      omega (arith, all, fs, ps)

  pub is_account : IsOver e → e ≡ as_ended (account_of e s)
  is_account over =
      let granted = nothing_under e.core.granted (λ n d is. k.linked.granted s e n d here is) in
      let cut = nothing_under e.core.cut (λ n d is. k.linked.cut s e n d here is) in
      λ j. record {
        core = record {
          free = e.core.free;
          live = live_is j;
          queue = over.queue j;
          granted = granted j;
          cut = cut j;
          closed = e.core.closed;
          wakes = entry.quiet j;
        };
        made = e.made;
        released = e.released;
        forgotten = e.forgotten;
        named = over.named j;
        plain = plain_is j;
        things = over.things j;
      }

-- ---- its account takes its place
pub moved : (a : Inside) (s : ℕ) (e : SemaphoreEntry) (ss' : Semaphores) (xs' : List EndedEntry) → IsKeptIn a → at a.kept.semaphores.entries s ≡ Some e → IsOver e
    → ChangesAt a.kept.semaphores.entries ss' s None → xs' ≡ a.kept.ended.items ++ account_of e s ∷ []
    → store_of (with_ended ss' xs') (futures_in a) (permits_in a) ≡ store_in a
moved a s e ss' xs' k there over gone pushed =
    let same = named-same (λ q x. x) (λ q x. x) (with_ended ss' xs') (semaphores_in a) (λ q. ap (option_map (λ x. x)) (at_each q)) in
    λ j. record { semaphores = same j; futures = (store_in a).futures; permits = (store_in a).permits }
  where
    es : Semaphores
    es = ended_of a.kept.ended.items

    last : ended_of xs' ≡ (s, as_ended (account_of e s)) ∷ es
    last = ap ended_of pushed
        ∙ ap reverse (map-append (λ (x : EndedEntry). (x.name, as_ended x)) a.kept.ended.items (account_of e s ∷ []))
        ∙ reverse-append (map (λ (x : EndedEntry). (x.name, as_ended x)) a.kept.ended.items) ((s, as_ended (account_of e s)) ∷ [])

    turned : (m n : ℕ) → nat_eq m n ≡ (n == m)
    turned m n = grind (arith, nat_tests)

    by_test : (q : ℕ) (b : Bool) → (s == q) ≡ b
        → first (cond b None (at a.kept.semaphores.entries q)) (cond b (Some (as_ended (account_of e s))) (at es q)) ≡ first (at a.kept.semaphores.entries q) (at es q)
    by_test q true is = ap (λ x. Some x) (sym (is_account a k s e (living_in a s e there) over.things over))
        ∙ sym (ap (λ o. first o (at es q)) (ap (at a.kept.semaphores.entries) (sym (eqb-true s q is)) ∙ there))
    by_test q false is = refl

    at_each : (q : ℕ) → at (with_ended ss' xs') q ≡ at (semaphores_in a) q
    at_each q = at-append ss' (ended_of xs') q ∙ (λ j. first (gone q j) (at (last j) q))
        ∙ ap (λ b. first (cond (s == q) None (at a.kept.semaphores.entries q)) (cond b (Some (as_ended (account_of e s))) (at es q))) (turned q s)
        ∙ by_test q (s == q) refl ∙ sym (at-append a.kept.semaphores.entries es q)

-- room was made among those of which nothing is left
pub beside_reserved : (a : Inside) (ss' : Semaphores) (xs' : List EndedEntry) (s : ℕ) (e : SemaphoreEntry) → xs' ≡ a.kept.ended.items
    → ChangesAt a.kept.semaphores.entries ss' s (Some e) → ChangesAt (semaphores_in a) (with_ended ss' xs') s (Some e)
beside_reserved a ss' xs' s e same changes = subst (λ (xs : List EndedEntry). ChangesAt (semaphores_in a) (with_ended ss' xs) s (Some e)) (sym same)
    (beside a ss' s e changes)
