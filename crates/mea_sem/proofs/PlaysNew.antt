-- a new semaphore
use Rattle.std.proofs.Common.{◌≡◌, ℕ, ◌+◌, ◌^◌, ◌<◌, ◌≤◌, ◌==◌, ◌&&◌, Bool, true, false, cond, [], refl, ap, sym, subst, ◌∙◌, arith, Option, Some, None, is_some}
use Rattle.std.specs.Option.{IsSome, option_map}
use Rattle.std.specs.Ordering.{nat_cmp}
use Rattle.std.specs.FinMap.{FinMap, get, insert, empty, get-empty}
use Rattle.std.proofs.lemmas.Bool.{eqb-true}
use Rattle.mea_base.specs.Totals.{total, weight}
use Rattle.mea_base.proofs.NamedMaps.{same_named, get-seen}
use Rattle.mea_base.proofs.Totals.{get_inserted, total-insert, total-zero}
use Rattle.mea_base.proofs.Tests.{on_false, on_first_false}
use Rattle.mea_events.specs.declared.sem_event.SemEvent.TheVariants as events
use Rattle.mea_sem_model.specs.Hall.{Hall, Future, Permit, made_with, held, plain_things, with_semaphore}
use Rattle.mea_sem_model.specs.Valid.{IsValid, IsBelow, IsAccounted}
use Rattle.mea_sem_model.proofs.Keeps.{keeps_below, keeps_account, below_later}
use Rattle.mea_sem_model.proofs.StaysValid.{kept_valid}
use Rattle.mea_sem_core.specs.Core as cores
use Rattle.mea_sem.specs.declared.entries.SemaphoreEntry.{SemaphoreEntry}
use Rattle.mea_sem.specs.declared.entries.FutureEntry.{FutureEntry}
use Rattle.mea_sem.specs.Store.{Store, semaphore_of, stage_of, core_in, future_of, hall_of, IsOwned, IsNumbered, IsLinked, at_stage}
use Rattle.mea_sem.specs.Kept.{things_by, things, wakers_in, IsKeptEntry, AreKeptSemaphores}
use Rattle.mea_sem.proofs.Replaced.{semaphore_other, each_semaphore, future_back, owned_on}
use Rattle.mea_sem.proofs.Renumbered.{hall_renumbered}
use Rattle.mea_sem.proofs.Weighs.{if_plain, always}
use Rattle.mea_sem.proofs.Keeping.{Plays}

abbrev pub fresh_core : ℕ → cores.Core ℕ
fresh_core n = record { free = n; live = n; queue = []; granted = empty; cut = empty; closed = false; wakes = [] }

abbrev pub fresh_entry : ℕ → SemaphoreEntry
fresh_entry n = record { core = fresh_core n; made = n; released = 0; forgotten = 0; named = true; plain = 0; things = 0 }

module _ (st : Store) (w sp next i : ℕ) (k : AreKeptSemaphores st w sp next) (less : next ≤ i) (low : i < 2 ^ 64) where
  -- there is no semaphore of a number that was not given
  no_semaphore : get st.semaphores i ≡ None
  no_semaphore = at_value (get st.semaphores i) refl
    where
      at_value : (o : Option SemaphoreEntry) → get st.semaphores i ≡ o → o ≡ None
      at_value None is = refl
      at_value (Some e) is =
          let seen : get (hall_of st next).semaphores i ≡ Some (semaphore_of st.futures next i e) =
          get-seen (semaphore_of st.futures next) st.semaphores i ∙ ap (option_map (semaphore_of st.futures next i)) is in
          let small : i < next = k.below.semaphores i (ap is_some seen) in
          absurd (omega arith)

  none_seen : is_some (get (hall_of st next).semaphores i) ≡ false
  none_seen = ap is_some (get-seen (semaphore_of st.futures next) st.semaphores i ∙ ap (option_map (semaphore_of st.futures next i)) no_semaphore)

  not_of : (s : ℕ) → IsSome (get (hall_of st next).semaphores s) → (t : Bool) → (s == i) ≡ t → t ≡ false
  not_of s some false h = refl
  not_of s some true h = absurd (let here : is_some (get (hall_of st next).semaphores i) ≡ true = ap
      (λ q. is_some (get (hall_of st next).semaphores q)) (sym (eqb-true s i h)) ∙ some in let none = none_seen in cc)

  -- nothing is of a number that was not given
  pub none_held : held (hall_of st next) i ≡ 0
  none_held = total-zero (λ j (p : Permit). cond (p.semaphore == i) p.size 0) (hall_of st next).permits
      (λ j p is. on_false (p.semaphore == i) p.size (not_of p.semaphore (k.valid.permits_of j p is) (p.semaphore == i) refl))

  none_by : (chosen : Bool → Bool) → things_by chosen (hall_of st next) i ≡ 0
  none_by chosen =
      let fs = total-zero (λ j (p : Future). cond (p.semaphore == i && chosen p.plain) 1 0) (hall_of st next).futures
      (λ j p is. on_first_false (p.semaphore == i) (chosen p.plain) (not_of p.semaphore (k.valid.futures_of j p is) (p.semaphore == i) refl)) in
      let ps = total-zero (λ j (p : Permit). cond (p.semaphore == i && chosen p.plain) 1 0) (hall_of st next).permits
      (λ j p is. on_first_false (p.semaphore == i) (chosen p.plain) (not_of p.semaphore (k.valid.permits_of j p is) (p.semaphore == i) refl)) in
      omega (arith, fs, ps)

  pub none_plain : plain_things (hall_of st next) i ≡ 0
  none_plain = none_by if_plain

  none_things : things (hall_of st next) i ≡ 0
  none_things = none_by always

  module _ (st' : Store) (n : ℕ) (small : n < 2 ^ 64)
      (semaphores : (q : ℕ) → get st'.semaphores q ≡ cond (i == q) (Some (fresh_entry n)) (get st.semaphores q)) (futures : st'.futures ≡ st.futures)
      (permits : st'.permits ≡ st.permits) where
    not_there : (q : ℕ) (e : SemaphoreEntry) → get st.semaphores q ≡ Some e → i ≡ q → ⊥
    not_there q e is same = absurd (let gone : get st.semaphores q ≡ None = ap (get st.semaphores) (sym same) ∙ no_semaphore in cc)

    linked_now : IsLinked st' (i + 1)
    linked_now = record {
      home = λ f x is. (let h = k.linked.home f x (future_back st st' futures f x is) in
          record {
            entry = h.entry;
            there = semaphore_other st st' i (fresh_entry n) semaphores x.semaphore (not_there x.semaphore h.entry h.there) ∙ h.there;
            belongs = h.belongs;
            open_still = h.open_still;
          });
      owned = λ q e m d l is waits. each_semaphore st st' i (fresh_entry n) semaphores (λ q e. cores.waiting e.core.queue m ≡ Some (d, l) → IsOwned st' q m d)
          (λ none. absurd (cc)) (λ q e apart old waits. owned_on st st' futures q m d (k.linked.owned q e m d l old waits)) q e is waits;
      granted = placed (λ c. c.granted) refl k.linked.granted;
      cut = placed (λ c. c.cut) refl k.linked.cut;
      apart = λ f g m x y isx isy. k.linked.apart f g m x y (future_back st st' futures f x isx) (future_back st st' futures g y isy);
      below = λ f x is. (let small = k.linked.below f x (future_back st st' futures f x is) in omega arith);
      numbered = each_semaphore st st' i (fresh_entry n) semaphores (λ q e. IsNumbered e.core)
          (record { apart = tt; granted_apart = λ m waits. absurd (waits refl); cut_apart = λ m some. absurd (some (get-empty nat_cmp m)); closing = refl })
          (λ q e apart old. k.linked.numbered q e old);
    }
      where
        placed : (pairs : cores.Core ℕ → FinMap nat_cmp ℕ) → pairs (fresh_core n) ≡ empty
            → ((q : ℕ) (x : SemaphoreEntry) (m d : ℕ) → get st.semaphores q ≡ Some x → get (pairs x.core) m ≡ Some d → IsOwned st q m d)
            → (q : ℕ) (e : SemaphoreEntry) (m d : ℕ) → get st'.semaphores q ≡ Some e → get (pairs e.core) m ≡ Some d → IsOwned st' q m d
        placed pairs nothing owned q e m d is there = each_semaphore st st' i (fresh_entry n) semaphores (λ q e. get (pairs e.core) m ≡ Some d → IsOwned st' q m d)
            (λ some. absurd (let none : get (pairs (fresh_core n)) m ≡ None = ap (λ g. get g m) nothing ∙ get-empty {X = ℕ} nat_cmp m in cc))
            (λ q e apart old there. owned_on st st' futures q m d (owned q e m d old there)) q e is there

    -- the hall after it
    semaphores_now : (hall_of st' (i + 1)).semaphores ≡ insert (hall_of st (i + 1)).semaphores i (made_with n)
    semaphores_now = same_named _ _ (λ q.
        get-seen (semaphore_of st'.futures (i + 1)) st'.semaphores q ∙ ap (option_map (semaphore_of st'.futures (i + 1) q)) (semaphores q)
        ∙ at_each q (i == q) (get st.semaphores q)
        ∙ ap (cond (i == q) (Some (made_with n))) (sym (get-seen (semaphore_of st.futures (i + 1)) st.semaphores q))
        ∙ sym (get_inserted (hall_of st (i + 1)).semaphores i q (made_with n)))
      where
        at_each : (q : ℕ) (t : Bool) (o : Option SemaphoreEntry)
            → option_map (semaphore_of st'.futures (i + 1) q) (cond t (Some (fresh_entry n)) o) ≡ cond t (Some (made_with n))
            (option_map (semaphore_of st.futures (i + 1) q) o)
        at_each q true o = refl
        at_each q false None = refl
        at_each q false (Some e) = ap (λ m. Some (semaphore_of m (i + 1) q e)) futures

    futures_now : (hall_of st' (i + 1)).futures ≡ (hall_of st (i + 1)).futures
    futures_now = same_named _ _ (λ g. get-seen (λ f x. future_of st'.semaphores x) st'.futures g
        ∙ ap (λ m. option_map (future_of st'.semaphores) (get m g)) futures ∙ at_each g (get st.futures g) refl
        ∙ sym (get-seen (λ f x. future_of st.semaphores x) st.futures g))
      where
        at_each : (g : ℕ) (o : Option FutureEntry) → get st.futures g ≡ o → option_map (future_of st'.semaphores) o ≡ option_map (future_of st.semaphores) o
        at_each g None is = refl
        at_each g (Some x) is =
            let h = k.linked.home g x is in
            ap (λ d. Some (at_stage x (stage_of x.acquire (core_in d)))) (semaphore_other st st' i (fresh_entry n) semaphores x.semaphore (not_there x.semaphore h.entry h.there))

    hall_now : hall_of st' (i + 1) ≡ with_semaphore (hall_of st next) i (made_with n)
    hall_now =
        (λ j. record { semaphores = semaphores_now j; futures = futures_now j; permits = permits j })
        ∙ ap (λ h. with_semaphore h i (made_with n)) (hall_renumbered st next (i + 1) k.linked (omega arith))

    abbrev after : Hall
    after = with_semaphore (hall_of st next) i (made_with n)

    each_now : cores.held_of (fresh_core n) ≡ 0 → (q : ℕ) (e : SemaphoreEntry) → get st'.semaphores q ≡ Some e → IsKeptEntry after (i + 1) q e
    each_now held = each_semaphore st st' i (fresh_entry n) semaphores (λ q e. IsKeptEntry after (i + 1) q e)
        (let nothing = none_held in
        let no_thing = none_plain in
        record {
          account = omega arith;
          held = omega (arith, held, nothing);
          plain = omega (arith, no_thing);
          things = omega (arith, none_things);
          few = (omega arith, omega arith);
          quiet = refl;
          released = omega arith;
          forgotten = omega arith;
        })
        (λ q e apart old. let o = k.each q e old in
        record {
          account = o.account;
          held = o.held;
          plain = o.plain;
          things = o.things;
          few = ((let t = o.few.0 in omega (arith, t)), (let t = o.few.1 in omega (arith, t)));
          quiet = o.quiet;
          released = (let t = o.released in omega (arith, t));
          forgotten = (let t = o.forgotten in omega (arith, t));
        })

    pub plays_new : cores.held_of (fresh_core n) ≡ 0 → Plays st st' next i (events.New n) w sp
    plays_new held = record {
      hall = hall_now;
      kept = record {
        valid = subst IsValid (sym hall_now)
            (kept_valid (hall_of st next) i (events.New n) k.valid (below_later (hall_of st next) next i less k.below) small refl);
        below = subst (λ h. IsBelow h (i + 1)) (sym hall_now)
            (keeps_below (hall_of st next) i (events.New n) k.valid (below_later (hall_of st next) next i less k.below) refl);
        accounted = λ q. subst (λ h. IsAccounted h q) (sym hall_now)
            (keeps_account (hall_of st next) i (events.New n) k.valid (below_later (hall_of st next) next i less k.below) refl k.accounted q);
        linked = linked_now;
        each = λ q e is. subst (λ h. IsKeptEntry h (i + 1) q e) (sym hall_now) (each_now held q e is);
        counted =
            let sums = total-insert (λ q (x : SemaphoreEntry). wakers_in x.core.queue) st.semaphores i (fresh_entry n) in
            let mine : weight (λ q (x : SemaphoreEntry). wakers_in x.core.queue) i (get st.semaphores i) ≡ 0 =
            ap (weight (λ q (x : SemaphoreEntry). wakers_in x.core.queue) i) no_semaphore in
            let now : total (λ q (x : SemaphoreEntry). wakers_in x.core.queue) st'.semaphores ≡ total
            (λ q (x : SemaphoreEntry). wakers_in x.core.queue) (insert st.semaphores i (fresh_entry n)) =
            ap (total (λ q (x : SemaphoreEntry). wakers_in x.core.queue)) inserted in
            let before = k.counted in
            omega (arith, sums, mine, now, before);
        room = k.room;
        few = (let f = k.few in omega (arith, f));
        low = omega arith;
      };
    }
      where
        inserted : st'.semaphores ≡ insert st.semaphores i (fresh_entry n)
        inserted = same_named _ _ (λ q. semaphores q ∙ sym (get_inserted st.semaphores i q (fresh_entry n)))
