-- the loop of a close: what is still to be cut gives what the whole queue gives
use Rattle.std.proofs.Common.{◌≡◌, ℕ, ◌+◌, ◌-◌, ◌<◌, ◌≤◌, Bool, true, false, cond, eqb, ◌||◌, List, [], ◌∷◌, ◌++◌, drop, length, get_or, Option, Some, None, IfSome, IfNone, refl, sym, ap, subst, ◌∙◌, inl, inr, arith, append_assoc}
use Rattle.std.proofs.lemmas.Bool.{cases_eq}
use Rattle.std.proofs.lemmas.List.{append-nil, get_or-set_same, get_or-set_other}
use Rattle.std.proofs.lemmas.List.Sums.{sum_by-cons}
use Rattle.std.specs.List.{list_any}
use Rattle.std.specs.Ordering.{nat_cmp}
use Rattle.std.specs.FinMap as fin
use Rattle.mea_base.specs.WaitList.{Waits, get, is_linked, with_value, without, IsAbsent, IsDistinct, StandsBefore, StandsLast, Updates}
use Rattle.mea_base.specs.Outbox.{Wakes}
use Rattle.mea_base.proofs.Tests.{test_same, test_differs}
use Rattle.mea_base.proofs.Waits.{without_absent, in_use_within}
use Rattle.mea_sem_core.specs.declared.wait_record.WaitRecord.{WaitRecord}
use Rattle.mea_sem_core.specs.declared.wait_record.WaitRecord.TheVariants.{Acquire, Debt, Granted, Cut}
use Rattle.mea_sem_core.specs.Core.{Waiter, Acquires, Owes, paid_to, paid_waiting, waiters_of, with_demands, wakers_of, only_debts, HasOnlyDebts}
use Rattle.mea_sem_core.specs.Places.{entry, entries, queue_of, granted_of, cut_of, cut_demand, is_debt, waker_of, IsWaiting, AllWaiting, IsQueue, LacksAtMost, paid_in, CutsPlace, CutsQueue}
use Rattle.mea_sem_core.proofs.Enqueues.{entries-push}
use Rattle.mea_sem_core.proofs.Leaves.{unqueues}
use Rattle.mea_sem_core.proofs.Places.{entries-updated, demands_inserted}

-- ---- the numbers of the queue
abbrev pub first_of : List ℕ → Option ℕ
first_of [] = None
first_of (n ∷ ns) = Some n

abbrev from_number : ℕ → List ℕ → List ℕ
from_number n [] = []
from_number n (m ∷ ms) = cond (eqb m n) (m ∷ ms) (from_number n ms)

-- the numbers from this one on
abbrev pub rest_from : Option ℕ → List ℕ → List ℕ
rest_from None ns = []
rest_from (Some n) ns = from_number n ns

pub absent_front : (front : List ℕ) (n : ℕ) (back : List ℕ) → IsDistinct (front ++ n ∷ back) → IsAbsent n front
absent_front [] n back distinct = tt
absent_front (k ∷ ks) n back distinct = (absent_behind ks distinct.0, absent_front ks n back distinct.1)
  where
    absent_behind : (js : List ℕ) → IsAbsent k (js ++ n ∷ back) → k ≡ n → ⊥
    absent_behind [] absent same = absent.0 (sym same)
    absent_behind (j ∷ js) absent same = absent_behind js absent.1 same

absent_back : (front : List ℕ) (n : ℕ) (back : List ℕ) → IsDistinct (front ++ n ∷ back) → IsAbsent n back
absent_back [] n back distinct = distinct.0
absent_back (k ∷ ks) n back distinct = absent_back ks n back distinct.1

absent_both : (n : ℕ) (front back : List ℕ) → IsAbsent n front → IsAbsent n back → IsAbsent n (front ++ back)
absent_both n [] back a b = b
absent_both n (k ∷ ks) back a b = (a.0, absent_both n ks back a.1 b)

pub from_split : (front : List ℕ) (n : ℕ) (back : List ℕ) → IsAbsent n front → from_number n (front ++ n ∷ back) ≡ n ∷ back
from_split [] n back absent = rw (test_same n n refl) refl
from_split (k ∷ ks) n back absent = rw (test_differs k n absent.0) (from_split ks n back absent.1)

pub rest_split : (front back : List ℕ) → IsDistinct (front ++ back) → rest_from (first_of back) (front ++ back) ≡ back
rest_split front [] distinct = refl
rest_split front (n ∷ back) distinct = from_split front n back (absent_front front n back distinct)

without_split : (front : List ℕ) (n : ℕ) (back : List ℕ) → IsDistinct (front ++ n ∷ back) → without n (front ++ n ∷ back) ≡ front ++ back
without_split [] n back distinct = rw (test_same n n refl) (without_absent n back distinct.0)
without_split (k ∷ ks) n back distinct =
    let absent = absent_front (k ∷ ks) n back distinct in
    rw (test_differs k n absent.0) (ap (λ js. k ∷ js) (without_split ks n back distinct.1))

pub linked_split : (front : List ℕ) (n : ℕ) (back : List ℕ) → list_any (λ k. eqb k n) (front ++ n ∷ back) ≡ true
linked_split [] n back = rw (test_same n n refl) refl
linked_split (k ∷ ks) n back = by_test (eqb k n) (linked_split ks n back)
  where
    by_test : (b : Bool) → list_any (λ j. eqb j n) (ks ++ n ∷ back) ≡ true → (b || list_any (λ j. eqb j n) (ks ++ n ∷ back)) ≡ true
    by_test true rest = refl
    by_test false rest = rest

-- what stands behind a number is the same however the order is split there
pub tail_is : (order front back f b : List ℕ) (n : ℕ) → IsDistinct order → order ≡ front ++ n ∷ back → order ≡ f ++ n ∷ b → back ≡ b
tail_is order front back f b n distinct one two =
    let first = from_split front n back (absent_front front n back (rw one at distinct)) in
    let second = from_split f n b (absent_front f n b (rw two at distinct)) in
    let same : n ∷ back ≡ n ∷ b = sym first ∙ ap (from_number n) (sym one ∙ two) ∙ second in
    cc

-- the number that `next` tells is the first behind
pub next_behind : (order front back : List ℕ) (n : ℕ) (next : Option ℕ) → IsDistinct order → order ≡ front ++ n ∷ back
    → IfSome next (λ m. StandsBefore n m order) → IfNone next (StandsLast n order) → next ≡ first_of back
next_behind order front back n None distinct split some last = ap first_of (sym (tail_is order front back last.0 [] n distinct split last.1))
next_behind order front back n (Some m) distinct split some last =
    ap first_of (sym (tail_is order front back some.0 (m ∷ some.1) n distinct split some.2))

length-middle : (front : List ℕ) (n : ℕ) (back : List ℕ) → length (front ++ n ∷ back) ≡ length (front ++ back) + 1
length-middle [] n back = omega arith
length-middle (k ∷ ks) n back = omega (arith, length-middle ks n back)

module _ {W : Type 0} where
  -- ---- a queue with an acquire behind debts, and without it
  pub entries-append : (slots : List (Option (WaitRecord W))) (front back : List ℕ) → entries slots (front ++ back) ≡ entries slots front ++ entries slots back
  entries-append slots [] back = refl
  entries-append slots (k ∷ ks) back = ap (λ es. entry k (get_or slots k None) ∷ es) (entries-append slots ks back)

  debts-middle : (a b : List (Waiter W × ℕ)) (n d l : ℕ) (w : W) → only_debts (a ++ (Acquires n d w, l) ∷ b) ≡ only_debts (a ++ b)
  debts-middle [] b n d l w = refl
  debts-middle ((Acquires m e v, k) ∷ a) b n d l w = debts-middle a b n d l w
  debts-middle ((Owes, k) ∷ a) b n d l w = ap (λ q. (Owes, k) ∷ q) (debts-middle a b n d l w)

  demands-middle : (pairs : fin.FinMap nat_cmp ℕ) (a b : List (Waiter W × ℕ)) (n d l : ℕ) (w : W) → HasOnlyDebts a
      → with_demands pairs (waiters_of (a ++ (Acquires n d w, l) ∷ b)) ≡ with_demands (fin.insert pairs n d) (waiters_of (a ++ b))
  demands-middle pairs [] b n d l w h = refl
  demands-middle pairs ((Acquires m e v, k) ∷ a) b n d l w h = absurd h
  demands-middle pairs ((Owes, k) ∷ a) b n d l w h = demands-middle pairs a b n d l w h

  wakers-middle : (a b : List (Waiter W × ℕ)) (n d l : ℕ) (w : W) → HasOnlyDebts a
      → wakers_of (waiters_of (a ++ (Acquires n d w, l) ∷ b)) ≡ w ∷ wakers_of (waiters_of (a ++ b))
  wakers-middle [] b n d l w h = refl
  wakers-middle ((Acquires m e v, k) ∷ a) b n d l w h = absurd h
  wakers-middle ((Owes, k) ∷ a) b n d l w h = wakers-middle a b n d l w h

  paid-cons : (e : Waiter W × ℕ) (q : List (Waiter W × ℕ)) → paid_waiting (e ∷ q) ≡ paid_to e.0 e.1 + paid_waiting q
  paid-cons e q = sum_by-cons {X = Waiter W × ℕ} (λ x. paid_to x.0 x.1) e q

  paid-middle : (a b : List (Waiter W × ℕ)) (e : Waiter W × ℕ) → paid_waiting (a ++ e ∷ b) ≡ paid_to e.0 e.1 + paid_waiting (a ++ b)
  paid-middle [] b e = paid-cons e b
  paid-middle (x ∷ a) b e = omega (arith, paid-cons x (a ++ e ∷ b), paid-cons x (a ++ b), paid-middle a b e)

  debts-push : (a : List (Waiter W × ℕ)) (lack : ℕ) → HasOnlyDebts a → HasOnlyDebts (a ++ (Owes, lack) ∷ [])
  debts-push [] lack h = tt
  debts-push ((Acquires m e v, k) ∷ a) lack h = absurd h
  debts-push ((Owes, k) ∷ a) lack h = debts-push a lack h

  -- a queue of debts
  debts-stay : (q : List (Waiter W × ℕ)) → HasOnlyDebts q → only_debts q ≡ q
  debts-stay [] h = refl
  debts-stay ((Acquires m e v, k) ∷ q) h = absurd h
  debts-stay ((Owes, k) ∷ q) h = ap (λ r. (Owes, k) ∷ r) (debts-stay q h)

  demands-none : (pairs : fin.FinMap nat_cmp ℕ) (q : List (Waiter W × ℕ)) → HasOnlyDebts q → with_demands pairs (waiters_of q) ≡ pairs
  demands-none pairs [] h = refl
  demands-none pairs ((Acquires m e v, k) ∷ q) h = absurd h
  demands-none pairs ((Owes, k) ∷ q) h = demands-none pairs q h

  wakers-none : (q : List (Waiter W × ℕ)) → HasOnlyDebts q → wakers_of (waiters_of q) ≡ []
  wakers-none [] h = refl
  wakers-none ((Acquires m e v, k) ∷ q) h = absurd h
  wakers-none ((Owes, k) ∷ q) h = wakers-none q h

  paid-none : (q : List (Waiter W × ℕ)) → HasOnlyDebts q → paid_waiting q ≡ 0
  paid-none [] h = refl
  paid-none ((Acquires m e v, k) ∷ q) h = absurd h
  paid-none ((Owes, k) ∷ q) h = omega (arith, paid-cons (Owes, k) q, paid-none q h)

  -- ---- one waiter
  pub linked_waits : (slots : List (Option (WaitRecord W))) (n : ℕ) (ns : List ℕ) → list_any (λ k. eqb k n) ns ≡ true → AllWaiting slots ns
      → IsWaiting (get_or slots n None)
  linked_waits slots n [] found all = absurd (cc)
  linked_waits slots n (k ∷ ks) found all =
      elim (cases_eq k n) [
        | inl same ↦ subst (λ j. IsWaiting (get_or slots j None)) same all.0
        | inr differs ↦ linked_waits slots n ks (rw (test_differs k n differs) at found) all.1
      ]

  pub waiting_within : (x : WaitRecord W) → IsWaiting (Some x) → LacksAtMost x
  waiting_within (Acquire d l w) waits = waits.1
  waiting_within (Debt l) waits = tt
  waiting_within (Granted d) waits = tt
  waiting_within (Cut d) waits = tt

  -- who waits and is no debt has a waker
  pub has_waker : (x : WaitRecord W) → IsWaiting (Some x) → is_debt x ≡ false → None ≡ waker_of x → ⊥
  has_waker (Acquire d l w) waits differs none = absurd (cc)
  has_waker (Debt l) waits differs none = absurd (cc)
  has_waker (Granted d) waits differs none = waits
  has_waker (Cut d) waits differs none = waits

  -- ---- the loop

  -- before the next number stand debts alone
  pub record Reaches (slots : List (Option (WaitRecord W))) (order : List ℕ) (next : Option ℕ) : Type 0 where
    pub front : List ℕ
    pub back : List ℕ
    pub split : order ≡ front ++ back
    pub debts : HasOnlyDebts (entries slots front)
    pub next_is : next ≡ first_of back

  -- what was cut, and what is cut from `now` on, is what the close cuts from `start`
  pub record Cutting (start now : Waits (WaitRecord W)) (start_box now_box : Wakes W) (paid : ℕ) (next : Option ℕ) : Type 0 where
    pub queue : only_debts (queue_of now) ≡ only_debts (queue_of start)
    pub granted : granted_of now ≡ granted_of start
    pub cut : with_demands (cut_of now) (waiters_of (queue_of now)) ≡ with_demands (cut_of start) (waiters_of (queue_of start))
    pub wakers : now_box.wakers ++ wakers_of (waiters_of (queue_of now)) ≡ start_box.wakers ++ wakers_of (waiters_of (queue_of start))
    pub paid_is : paid + paid_waiting (queue_of now) ≡ paid_waiting (queue_of start)
    pub kept : IsQueue now
    pub room : length now.order ≤ now_box.spare
    pub paid_left : paid_in now + paid ≡ paid_in start
    pub place : Reaches now.slots now.order next

  pub Cutting-end : (start now : Waits (WaitRecord W)) (start_box now_box : Wakes W) (paid : ℕ) → Cutting start now start_box now_box paid None
      → CutsQueue start now start_box now_box paid
  Cutting-end start now start_box now_box paid so = by_back so.place.back so.place.split so.place.next_is
    where
      ended : HasOnlyDebts (queue_of now) → CutsQueue start now start_box now_box paid
      ended debts =
          let wakers = so.wakers in
          record {
            queue = sym (debts-stay (queue_of now) debts) ∙ so.queue;
            granted = so.granted;
            cut = sym (demands-none (cut_of now) (queue_of now) debts) ∙ so.cut;
            wakers = sym (append-nil now_box.wakers) ∙ (rw (wakers-none (queue_of now) debts) at wakers);
            paid_is = omega (arith, so.paid_is, paid-none (queue_of now) debts);
            kept = so.kept;
            room = so.room;
            paid_left = so.paid_left;
          }

      by_back : (back : List ℕ) → now.order ≡ so.place.front ++ back → None ≡ first_of back → CutsQueue start now start_box now_box paid
      by_back [] split is = ended (rw (split, append-nil so.place.front) so.place.debts)
      by_back (n ∷ ns) split is = absurd (cc)

  -- one turn, and what of the queue is left to be looked at
  pub record Turns (start new : Waits (WaitRecord W)) (start_box new_box : Wakes W) (paid : ℕ) (next : Option ℕ) (left : ℕ) : Type 0 where
    pub cutting : Cutting start new start_box new_box paid next
    pub less : length (rest_from next new.order) < left

  -- a debt stays
  turn-debt : (start now : Waits (WaitRecord W)) (start_box now_box : Wakes W) (paid n lack : ℕ) (front back : List ℕ) (next : Option ℕ)
      → Cutting start now start_box now_box paid (Some n) → HasOnlyDebts (entries now.slots front) → now.order ≡ front ++ n ∷ back
      → get now n ≡ Some (Debt lack) → next ≡ first_of back
      → Turns start now start_box now_box (paid + 0) next (length (rest_from (Some n) now.order))
  turn-debt start now start_box now_box paid n lack front back next so debts split found next_is =
      let kept = so.kept in
      let distinct = rw split at kept.distinct in
      let split_on : now.order ≡ (front ++ n ∷ []) ++ back = split ∙ sym (append_assoc front (n ∷ []) back) in
      let here : rest_from (Some n) now.order ≡ n ∷ back = rw split (from_split front n back (absent_front front n back distinct)) in
      let behind : rest_from next now.order ≡ back = rw (next_is, split_on) (rest_split (front ++ n ∷ []) back (rw split_on at kept.distinct)) in
      record {
        cutting = record {
          queue = so.queue;
          granted = so.granted;
          cut = so.cut;
          wakers = so.wakers;
          paid_is = omega (arith, so.paid_is);
          kept = so.kept;
          room = so.room;
          paid_left = omega (arith, so.paid_left);
          place = record {
            front = front ++ n ∷ [];
            back = back;
            split = split_on;
            debts = rw (entries-push now.slots n front, found) (debts-push (entries now.slots front) lack debts);
            next_is = next_is;
          };
        };
        less = rw (here, behind) (omega arith);
      }

  -- an acquire leaves
  turn-acquire : (start now : Waits (WaitRecord W)) (start_box now_box : Wakes W) (paid n demand lack : ℕ) (waker : W) (front back : List ℕ) (next : Option ℕ)
      → Cutting start now start_box now_box paid (Some n) → HasOnlyDebts (entries now.slots front) → now.order ≡ front ++ n ∷ back
      → get now n ≡ Some (Acquire demand lack waker) → next ≡ first_of back
      → Turns start (with_value (record now { order = without n now.order }) n (Cut demand)) start_box
      (record { wakers = now_box.wakers ++ waker ∷ []; spare = now_box.spare - 1 }) (paid + (demand - lack)) next (length (rest_from (Some n) now.order))
  turn-acquire start now start_box now_box paid n demand lack waker front back next so debts split found next_is =
      let new = with_value (record now { order = without n now.order }) n (Cut demand) in
      let e : Waiter W × ℕ = (Acquires n demand waker, lack) in
      let kept = so.kept in
      let distinct = rw split at kept.distinct in
      let left : new.order ≡ front ++ back = rw split (without_split front n back distinct) in
      let updates : Updates now new n (Some (Cut demand)) = record {
        changed = get_or-set_same now.slots n (Some (Cut demand)) None (in_use_within now.slots n (rw found refl));
        others = λ other differs. get_or-set_other now.slots n other (Some (Cut demand)) None differs;
      } in
      let absent = absent_both n front back (absent_front front n back distinct) (absent_back front n back distinct) in
      let slots = entries-updated now.slots new.slots n (front ++ back) updates.others absent in
      let a = entries now.slots front in
      let b = entries now.slots back in
      let was : queue_of now ≡ a ++ e ∷ b = rw split (entries-append now.slots front (n ∷ back) ∙ ap (λ x. a ++ entry n x ∷ b) found) in
      let is : queue_of new ≡ a ++ b = ap (entries new.slots) left ∙ slots ∙ entries-append now.slots front back in
      let cut : cut_of new ≡ fin.insert (cut_of now) n demand = demands_inserted cut_demand refl now.slots new.slots n demand updates.others (ap cut_demand updates.changed) in
      let out = unqueues now new n demand lack waker (Some (Cut demand)) tt refl refl found updates refl kept in
      let new_kept = out.kept in
      let new_distinct = rw left at new_kept.distinct in
      let here : rest_from (Some n) now.order ≡ n ∷ back = rw split (from_split front n back (absent_front front n back distinct)) in
      let behind : rest_from next new.order ≡ back = rw (next_is, left) (rest_split front back new_distinct) in
      let shorter : length new.order + 1 ≡ length now.order = rw (left, split) (sym (length-middle front n back)) in
      let fronts = entries-updated now.slots new.slots n front updates.others (absent_front front n back distinct) in
      let queue = so.queue in
      let cuts = so.cut in
      let wakers = so.wakers in
      let paid_is = so.paid_is in
      record {
        cutting = record {
          queue = rw is (sym (debts-middle a b n demand lack waker) ∙ (rw was at queue));
          granted = out.granted ∙ so.granted;
          cut = rw (is, cut) (sym (demands-middle (cut_of now) a b n demand lack waker debts) ∙ (rw was at cuts));
          wakers = rw is (append_assoc now_box.wakers (waker ∷ []) (wakers_of (waiters_of (a ++ b)))
              ∙ ap (λ ws. now_box.wakers ++ ws) (sym (wakers-middle a b n demand lack waker debts)) ∙ (rw was at wakers));
          paid_is = rw is (let before = rw (was, paid-middle a b e) at paid_is in omega (arith, before));
          kept = out.kept;
          room = omega (arith, shorter, so.room);
          paid_left = omega (arith, out.paid, so.paid_left);
          place = record { front = front; back = back; split = left; debts = rw fronts debts; next_is = next_is };
        };
        less = rw (here, behind) (omega arith);
      }

  pub Cutting-turn : (start now new : Waits (WaitRecord W)) (start_box now_box new_box : Wakes W) (paid part n : ℕ) (next : Option ℕ)
      → Cutting start now start_box now_box paid (Some n) → IfSome next (λ m. StandsBefore n m now.order) → IfNone next (StandsLast n now.order)
      → ((place : WaitRecord W) → get now n ≡ Some place → CutsPlace now new now_box new_box n part place)
      → Turns start new start_box new_box (paid + part) next (length (rest_from (Some n) now.order))
  Cutting-turn start now new start_box now_box new_box paid part n next so some last cuts =
      by_back so.place.back so.place.split so.place.next_is
    where
      by_place : (back : List ℕ) → now.order ≡ so.place.front ++ n ∷ back → (x : Option (WaitRecord W)) → get now n ≡ x → IsWaiting x
          → Turns start new start_box new_box (paid + part) next (length (rest_from (Some n) now.order))
      by_place back split None found waits = absurd waits
      by_place back split (Some (Granted d)) found waits = absurd waits
      by_place back split (Some (Cut d)) found waits = absurd waits
      by_place back split (Some (Debt l)) found waits =
          let one = cuts (Debt l) found in
          rw (one.0, one.1, one.2)
          (turn-debt start now start_box now_box paid n l so.place.front back next so so.place.debts split found
          (next_behind now.order so.place.front back n next so.kept.distinct split some last))
      by_place back split (Some (Acquire d l w)) found waits =
          let one = cuts (Acquire d l w) found in
          rw (one.0, one.1, one.2)
          (turn-acquire start now start_box now_box paid n d l w so.place.front back next so so.place.debts split found
          (next_behind now.order so.place.front back n next so.kept.distinct split some last))

      by_back : (back : List ℕ) → now.order ≡ so.place.front ++ back → Some n ≡ first_of back
          → Turns start new start_box new_box (paid + part) next (length (rest_from (Some n) now.order))
      by_back [] split is = absurd (cc)
      by_back (k ∷ ks) split is =
          let same : k ≡ n = cc in
          let here : now.order ≡ so.place.front ++ n ∷ ks = split ∙ ap (λ j. so.place.front ++ j ∷ ks) same in
          by_place ks here (get now n) refl (linked_waits now.slots n now.order (rw here (linked_split so.place.front n ks)) so.kept.waiting)
