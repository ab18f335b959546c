-- a wait for a lease is polled
use Rattle.std.proofs.Common.{◌≡◌, ℕ, ◌+◌, ◌<◌, ◌==◌, ◌&&◌, inl, inr, not, nat_lt, Bool, true, false, List, [], ◌∷◌, Some, None, is_some, Result, Ok, set, length, length-set, refl, ap, sym, subst, ◌∙◌, arith}
use Rattle.std.specs.Option.{IsSome}
use Rattle.std.specs.Ordering.{nat_cmp}
use Rattle.std.specs.FinMap as map
use Rattle.std.specs.FinMap.{FinMap, get, insert, remove}
use Rattle.std.proofs.lemmas.Bool.{cases_Bool, cases_lt, lt-ltb, le-ltb}
use Rattle.mea_base.specs.declared.no_memory.NoMemory.{NoMemory}
use Rattle.mea_by_name.specs.declared.named_waker.NamedWaker.{NamedWaker}
use Rattle.mea_by_name.specs.ByName.{Names, seen}
use Rattle.mea_by_name.specs.NamedQueue.{waits, registering}
use Rattle.mea_by_name.proofs.Own.{seen-at, seen-insert, seen-remove, seen-alike}
use Rattle.mea_family.specs.declared.answer.Answer.TheVariants as answers
use Rattle.mea_lock_core.specs.Condvar.{waker_under, with_waker}
use Rattle.mea_pool_core.specs.declared.lease_poll.LeasePoll.TheVariants as answer
use Rattle.mea_pool_core.specs.declared.lease_wait.LeaseWait.{LeaseWait}
use Rattle.mea_pool_core.specs.declared.lease_wait.LeaseWait.TheVariants as lease
use Rattle.mea_pool_core.specs.Calls.{MayPoll, Gets, PollsLease}
use Rattle.mea_pool_core.specs.Pool.{Pool, taken, is_drained}
use Rattle.mea_pool_core.specs.Shelf.{is_lent, lent_count}
use Rattle.mea_pool_core.proofs.Lines.{removed}
use Rattle.mea_pool_core.proofs.Shelves.{count_lent}
use Rattle.mea_pool_run.specs.declared.reply.PoolReply.TheVariants.{Told, Leased}
use Rattle.mea_pool_run.specs.declared.thing.Thing.{Thing}
use Rattle.mea_pool_run.specs.declared.thing.Thing.TheVariants.{Ask, Held}
use Rattle.mea_pool_run.specs.PoolByName.{asks, leases, PoolByName, Outcome, quietly, lent, gets_or_waits, polled_at, polled, poll_of}
use Rattle.mea_pool_run.specs.Kept.{names_of, is_granted, live_of, pool_by_name, asked, awaited, held, IsGoing, AsksStand, LeasesStand, WaitsStand, Keeps, Stands, Goes, wakers_of}
use Rattle.mea_pool_run.proofs.Linking.{At, put, absent, registered_last, waits_named, registered_again}
use Rattle.mea_pool_run.proofs.Standing.{took, waits_last, rewaked_waits, refused, lends}
use Rattle.mea_pool_run.proofs.Things.{put_back, at_each, at_alike, at_inserted, at_removed, at_without, at_gone, at_come, at_still, going_put, going_gone, seen_took}

abbrev pub pool_path : (s t : PoolByName) → s.size ≡ t.size → s.taken ≡ t.taken → s.shelf ≡ t.shelf → s.things ≡ t.things → s.waiting ≡ t.waiting → s.draining ≡ t.draining → s.drains ≡ t.drains → s ≡ t
pool_path s t size taken shelf things waiting draining drains =
    λ i. record { size = size i; taken = taken i; shelf = shelf i; things = things i; waiting = waiting i; draining = draining i; drains = drains i }

-- the waits that are known by name are those of the pool
pub may_poll : (p : Pool ℕ NamedWaker) (things : Names Thing) (f : ℕ) (a : LeaseWait) → Keeps p things → get things f ≡ Some (Ask a) → MayPoll p a
may_poll p things f lease.New keeps is = (tt, tt)
may_poll p things f (lease.Queued n) keeps is = (
  elim (keeps.asking.linked.home f n (ap asked is)) [
    | inl some ↦ inl (inr some)
    | inr met ↦ elim met [ inl one ↦ inl (inl one) | inr c ↦ inr (c.0, c.1) ]
  ],
  tt,
)
may_poll p things f lease.Done keeps is = absurd (subst IsGoing is (keeps.going f))
may_poll p things f lease.Refused keeps is = absurd (subst IsGoing is (keeps.going f))

module _ (p : Pool ℕ NamedWaker) (things : Names Thing) (stands : Stands p things) where
  abbrev s : PoolByName
  s = pool_by_name p things

  abbrev ask_at : At
  ask_at = λ q. asked (get things q)

  silent : wakers_of p.wakes ≡ []
  silent = ap wakers_of stands.quiet

  poll_is : (f n w : ℕ) (a : LeaseWait) (b : Bool) → get things f ≡ Some (Ask a) → is_granted p.granted a ≡ b → poll_of (get s.things f) s n f w ≡ polled b s n f w
  poll_is f n w a b is granted = ap (λ x. poll_of x s n f w) (seen-at (live_of p.granted) things f (Ask a) is) ∙ ap (λ c. polled c s n f w) granted

  -- ---- a lease is got

  -- the pool after it
  abbrev with_lent : FinMap nat_cmp ℕ → List (ℕ × ℕ) → ℕ → Pool ℕ NamedWaker
  with_lent g shelf slot = record p { granted = g; shelf = shelf; lent = set p.lent slot true }

  gets_lease : (f n t : ℕ) (a : LeaseWait) (l : ℕ × ℕ) (shelf : List (ℕ × ℕ)) (g : FinMap nat_cmp ℕ) → get things f ≡ Some (Ask a) → get things n ≡ None
      → p.shelf ≡ l ∷ shelf → l.0 < length p.lent → is_lent p.lent l.0 ≡ false
      → lent_count p.lent + 1 + map.len g ≡ t → seen (live_of g) (remove things f) ≡ remove (seen (live_of p.granted) things) f
      → AsksStand (put ask_at f None) p.waiting g p.cut p.draining → (p.draining && (t == 0)) ≡ is_drained p
      → Goes (lent s.shelf s n f t) (with_lent g shelf l.0) (insert (remove things f) n (Held l)) (Leased l.0 l.1)
  gets_lease f n t a l shelf g is fresh first within free count sees asking drained =
      subst (λ (x : List (ℕ × ℕ)). Goes (lent x s n f t) (with_lent g shelf l.0) (insert (remove things f) n (Held l)) (Leased l.0 l.1)) (sym first) (record {
        pool = pool_path _ _ (length-set p.lent l.0 true) total refl (seen-insert (live_of g) (remove things f) n (Held l) ∙ ap (λ m. insert m n (leases l.0 l.1)) sees) refl refl refl;
        replied = refl;
        woken = silent;
        keeps = record {
          going = going_put (remove things f) n (Held l) (going_gone things f stands.keeps.going) tt;
          asking = subst (λ (at : At). AsksStand at p.waiting g p.cut p.draining) (sym (at_gone asked refl things f n (Held l) fresh refl)) asking;
          lending = subst (λ (at : At). LeasesStand at (set p.lent l.0 true)) (sym (at_come held refl things f n (Held l) fresh (ap held is))) (lends (at_each held things) p.lent stands.keeps.lending n l.0 within free);
          ending = subst (λ (b : Bool). WaitsStand (λ q. awaited (get (insert (remove things f) n (Held l)) q)) p.drains p.told b) (sym drained ∙ ap (λ k. p.draining && (k == 0)) (sym total))
              (subst (λ (at : At). WaitsStand at p.drains p.told (is_drained p)) (sym (at_still awaited refl things f n (Held l) fresh (ap awaited is) refl)) stands.keeps.ending);
        };
      })
    where
      total : lent_count (set p.lent l.0 true) + map.len g ≡ t
      total = let more : lent_count (set p.lent l.0 true) ≡ lent_count p.lent + 1 = count_lent l.0 p.lent within free in omega arith

  new_gets : (f n w : ℕ) (p' : Pool ℕ NamedWaker) (l : ℕ × ℕ) → get things f ≡ Some (Ask lease.New) → get things n ≡ None → p.draining ≡ false → taken p < length p.lent
      → Gets p (Ok (answer.Got l)) p' → Goes (poll_of (get s.things f) s n f w) p' (insert (remove things f) n (Held l)) (Leased l.0 l.1)
  new_gets f n w p' l is fresh undrained room gets =
      let same : l ≡ gets.lease = (let both : ◌≡◌ {A = Result _ (NamedWaker × NoMemory)} (Ok (answer.Got l)) (Ok (answer.Got gets.lease)) = gets.answers in cc) in
      let whole : p' ≡ with_lent p.granted p'.shelf l.0 = gets.is ∙ (λ i. record p { shelf = p'.shelf; lent = set p.lent (sym same i).0 true }) in
      let free_place : (not (waits (names_of p.waiting) f) && nat_lt (taken p) (length p.lent)) ≡ true =
      ap (λ b. not b && nat_lt (taken p) (length p.lent)) (absent ask_at f p.waiting stands.keeps.asking.linked.named (ap asked is)) ∙ lt-ltb (taken p) (length p.lent) room in
      let told = poll_is f n w lease.New false is refl ∙ ap (λ d. polled_at d s n f w) undrained ∙ ap (λ b. gets_or_waits b s n f w) free_place in
      subst (λ (o : Outcome). Goes o p' (insert (remove things f) n (Held l)) (Leased l.0 l.1)) (sym told)
      (subst (λ (q : Pool ℕ NamedWaker). Goes (lent s.shelf s n f (taken p + 1)) q (insert (remove things f) n (Held l)) (Leased l.0 l.1)) (sym whole)
      (gets_lease f n (taken p + 1) lease.New l p'.shelf p.granted is fresh (gets.first ∙ ap (λ (x : ℕ × ℕ). x ∷ p'.shelf) (sym same))
      (subst (λ (x : ℕ × ℕ). x.0 < length p.lent) (sym same) gets.within) (subst (λ (x : ℕ × ℕ). is_lent p.lent x.0 ≡ false) (sym same) gets.free)
      (omega arith) (seen-remove (live_of p.granted) things f)
      (subst (λ (at : At). AsksStand at p.waiting p.granted p.cut p.draining) (sym (put_back ask_at f None (ap asked is))) stands.keeps.asking)
      (ap (λ d. d && (taken p + 1 == 0)) undrained ∙ sym (ap (λ d. d && (taken p == 0)) undrained))))

  granted_gets : (f n w m : ℕ) (p' : Pool ℕ NamedWaker) (l : ℕ × ℕ) → get things f ≡ Some (Ask (lease.Queued m)) → get things n ≡ None → get p.granted m ≡ Some 1
      → Gets (record p { granted = remove p.granted m }) (Ok (answer.Got l)) p' → Goes (poll_of (get s.things f) s n f w) p' (insert (remove things f) n (Held l)) (Leased l.0 l.1)
  granted_gets f n w m p' l is fresh one gets =
      let same : l ≡ gets.lease = (let both : ◌≡◌ {A = Result _ (NamedWaker × NoMemory)} (Ok (answer.Got l)) (Ok (answer.Got gets.lease)) = gets.answers in cc) in
      let whole : p' ≡ with_lent (remove p.granted m) p'.shelf l.0 = gets.is ∙ (λ i. record p { granted = remove p.granted m; shelf = p'.shelf; lent = set p.lent (sym same i).0 true }) in
      let fewer : map.len (remove p.granted m) + 1 ≡ map.len p.granted = removed p.granted m 1 one in
      subst (λ (o : Outcome). Goes o p' (insert (remove things f) n (Held l)) (Leased l.0 l.1)) (sym (poll_is f n w (lease.Queued m) true is (ap is_some one)))
      (subst (λ (q : Pool ℕ NamedWaker). Goes (lent s.shelf s n f (taken p)) q (insert (remove things f) n (Held l)) (Leased l.0 l.1)) (sym whole)
      (gets_lease f n (taken p) (lease.Queued m) l p'.shelf (remove p.granted m) is fresh (gets.first ∙ ap (λ (x : ℕ × ℕ). x ∷ p'.shelf) (sym same))
      (subst (λ (x : ℕ × ℕ). x.0 < length p.lent) (sym same) gets.within) (subst (λ (x : ℕ × ℕ). is_lent p.lent x.0 ≡ false) (sym same) gets.free)
      (omega arith) (seen_took p.granted things f m stands.keeps.asking.linked.single (ap asked is))
      (took ask_at p.waiting p.granted p.cut p.draining stands.keeps.asking f m (ap asked is) one)
      refl))

  pub got : (f n w : ℕ) (a a' : LeaseWait) (k : NamedWaker) (p' : Pool ℕ NamedWaker) (l : ℕ × ℕ) → get things f ≡ Some (Ask a) → get things n ≡ None
      → PollsLease p a k (Ok (answer.Got l)) p' a' → Goes (poll_of (get s.things f) s n f w) p' (insert (remove things f) n (Held l)) (Leased l.0 l.1)
  got f n w lease.New a' k p' l is fresh polls = elim (cases_Bool p.draining) [
    | inl closed ↦ absurd (let no = (polls.0 closed).0 in cc)
    | inr undrained ↦ elim (cases_lt (taken p) (length p.lent)) [
      | inl room ↦ new_gets f n w p' l is fresh undrained room (polls.1 undrained room).0
      | inr full ↦ absurd (let no = (polls.2 undrained full).0 in cc)
    ]
  ]
  got f n w (lease.Queued m) a' k p' l is fresh polls = elim (stands.keeps.asking.linked.home f m (ap asked is)) [
    | inl some ↦ absurd (let no = (polls.1 some).0 in cc)
    | inr met ↦ elim met [
      | inl one ↦ granted_gets f n w m p' l is fresh one (polls.0 one).0
      | inr c ↦ absurd (let no = (polls.2 (c.0, c.1)).0 in cc)
    ]
  ]
  got f n w lease.Done a' k p' l is fresh polls = absurd (subst IsGoing is (stands.keeps.going f))
  got f n w lease.Refused a' k p' l is fresh polls = absurd (subst IsGoing is (stands.keeps.going f))

  -- ---- a wait that stays, or is refused

  -- a change of the waits for a lease alone
  pub keeps_asks : (things' : Names Thing) (waiting : List (ℕ × NamedWaker)) (granted cut : FinMap nat_cmp ℕ) → ((f : ℕ) → IsGoing (get things' f))
      → AsksStand (λ q. asked (get things' q)) waiting granted cut p.draining
      → ◌≡◌ {A = At} (λ q. held (get things' q)) (λ q. held (get things q)) → ◌≡◌ {A = At} (λ q. awaited (get things' q)) (λ q. awaited (get things q))
      → map.len granted ≡ map.len p.granted → Keeps (record p { waiting = waiting; granted = granted; cut = cut }) things'
  keeps_asks things' waiting granted cut going asking same_held same_awaited counted = record {
    going = going;
    asking = asking;
    lending = subst (λ (at : At). LeasesStand at p.lent) (sym same_held) stands.keeps.lending;
    ending = subst (λ (k : ℕ). WaitsStand (λ q. awaited (get things' q)) p.drains p.told (p.draining && (lent_count p.lent + k == 0))) (sym counted)
        (subst (λ (at : At). WaitsStand at p.drains p.told (is_drained p)) (sym same_awaited) stands.keeps.ending);
  }

  -- the wait goes on, under this number
  stays : (f n w : ℕ) (a : LeaseWait) (m : ℕ) (waiting : List (ℕ × NamedWaker)) → get things f ≡ Some (Ask a) → is_granted p.granted a ≡ false → is_some (get p.granted m) ≡ false
      → names_of waiting ≡ registering (names_of p.waiting) f w → AsksStand (put ask_at f (Some m)) waiting p.granted p.cut p.draining
      → Goes (quietly (record s { waiting = registering s.waiting f w }) (Told answers.Pending)) (record p { waiting = waiting }) (insert things f (Ask (lease.Queued m))) (Told answers.Pending)
  stays f n w a m waiting is was not_granted named asking = record {
    pool = pool_path _ _ refl refl refl (seen-alike (live_of p.granted) things f (Ask a) (Ask (lease.Queued m)) is (ap asks (not_granted ∙ sym was))) named refl refl;
    replied = refl;
    woken = silent;
    keeps = keeps_asks (insert things f (Ask (lease.Queued m))) waiting p.granted p.cut (going_put things f (Ask (lease.Queued m)) stands.keeps.going tt)
        (subst (λ (at : At). AsksStand at waiting p.granted p.cut p.draining) (sym (at_inserted asked things f (Ask (lease.Queued m)))) asking)
        (at_alike held things f (Ask (lease.Queued m)) (ap held is)) (at_alike awaited things f (Ask (lease.Queued m)) (ap awaited is)) refl;
  }

  pub pending : (f n w : ℕ) (a a' : LeaseWait) (p' : Pool ℕ NamedWaker) → get things f ≡ Some (Ask a)
      → PollsLease p a (record { name = f; waker = w }) (Ok answer.Pending) p' a' → Goes (poll_of (get s.things f) s n f w) p' (insert things f (Ask a')) (Told answers.Pending)
  pending f n w lease.New a' p' is polls = elim (cases_Bool p.draining) [
    | inl closed ↦ absurd (let no = (polls.0 closed).0 in cc)
    | inr undrained ↦ elim (cases_lt (taken p) (length p.lent)) [
      | inl room ↦ absurd (let no = (polls.1 undrained room).0.answers in cc)
      | inr full ↦
          let new = (polls.2 undrained full).1 in
          let no_place : (not (waits (names_of p.waiting) f) && nat_lt (taken p) (length p.lent)) ≡ false =
          ap (λ b. not b && nat_lt (taken p) (length p.lent)) (absent ask_at f p.waiting stands.keeps.asking.linked.named (ap asked is)) ∙ le-ltb (taken p) (length p.lent) full in
          let told = poll_is f n w lease.New false is refl ∙ ap (λ d. polled_at d s n f w) undrained ∙ ap (λ b. gets_or_waits b s n f w) no_place in
          subst (λ (o : Outcome). Goes o p' (insert things f (Ask a')) (Told answers.Pending)) (sym told)
          (subst (λ (b : LeaseWait). Goes (gets_or_waits false s n f w) p' (insert things f (Ask b)) (Told answers.Pending)) (sym new.2)
          (subst (λ (q : Pool ℕ NamedWaker). Goes (gets_or_waits false s n f w) q (insert things f (Ask (lease.Queued new.0))) (Told answers.Pending)) (sym new.1.is)
          (stays f n w lease.New new.0 _ is refl (ap is_some new.1.not_granted)
          (registered_last ask_at f new.0 w p.waiting stands.keeps.asking.linked.named (ap asked is))
          (waits_last ask_at p.waiting p.granted p.cut p.draining stands.keeps.asking f new.0 w undrained (ap asked is) new.1.not_waiting new.1.not_granted))))
    ]
  ]
  pending f n w (lease.Queued m) a' p' is polls = elim (stands.keeps.asking.linked.home f m (ap asked is)) [
    | inl some ↦
        let again = polls.1 some in
        let none = stands.keeps.asking.ungranted m some in
        let here : ask_at f ≡ Some m = ap asked is in
        let named = stands.keeps.asking.linked.named in
        let single = stands.keeps.asking.linked.single in
        let no_place : (not (waits (names_of p.waiting) f) && nat_lt (taken p) (length p.lent)) ≡ false =
        ap (λ b. not b && nat_lt (taken p) (length p.lent)) (waits_named ask_at f m single here p.waiting named ∙ some) in
        let told = poll_is f n w (lease.Queued m) false is (ap is_some none) ∙ ap (λ d. polled_at d s n f w) (undrained_while m some) ∙ ap (λ b. gets_or_waits b s n f w) no_place in
        subst (λ (o : Outcome). Goes o p' (insert things f (Ask a')) (Told answers.Pending)) (sym told)
        (subst (λ (b : LeaseWait). Goes (gets_or_waits false s n f w) p' (insert things f (Ask b)) (Told answers.Pending)) (sym again.2)
        (subst (λ (q : Pool ℕ NamedWaker). Goes (gets_or_waits false s n f w) q (insert things f (Ask (lease.Queued m))) (Told answers.Pending)) (sym again.1)
        (stays f n w (lease.Queued m) m _ is (ap is_some none) (ap is_some none)
        (registered_again ask_at f m single here w p.waiting named stands.keeps.asking.linked.apart some)
        (subst (λ (at : At). AsksStand at (with_waker p.waiting m (record { name = f; waker = w })) p.granted p.cut p.draining) (sym (put_back ask_at f (Some m) here))
        (rewaked_waits ask_at p.waiting p.granted p.cut p.draining stands.keeps.asking f m w here)))))
    | inr met ↦ elim met [
      | inl one ↦ absurd (let no = (polls.0 one).0.answers in cc)
      | inr c ↦ absurd (let no = (polls.2 (c.0, c.1)).0 in cc)
    ]
  ]
    where
      undrained_while : (m : ℕ) → IsSome (waker_under p.waiting m) → p.draining ≡ false
      undrained_while m some = elim (cases_Bool p.draining) [
        | inl closed ↦ absurd (let no : false ≡ true = sym (ap (λ (q : List (ℕ × NamedWaker)). is_some (waker_under q m)) (stands.keeps.asking.all_cut closed)) ∙ some in cc)
        | inr undrained ↦ undrained
      ]
  pending f n w lease.Done a' p' is polls = absurd (subst IsGoing is (stands.keeps.going f))
  pending f n w lease.Refused a' p' is polls = absurd (subst IsGoing is (stands.keeps.going f))

  -- the wait goes
  goes_away : (f : ℕ) (a : LeaseWait) (cut : FinMap nat_cmp ℕ) → get things f ≡ Some (Ask a) → AsksStand (put ask_at f None) p.waiting p.granted cut p.draining
      → Goes (quietly (record s { things = remove s.things f }) (Told answers.Gone)) (record p { cut = cut }) (remove things f) (Told answers.Gone)
  goes_away f a cut is asking = record {
    pool = pool_path _ _ refl refl refl (seen-remove (live_of p.granted) things f) refl refl refl;
    replied = refl;
    woken = silent;
    keeps = keeps_asks (remove things f) p.waiting p.granted cut (going_gone things f stands.keeps.going)
        (subst (λ (at : At). AsksStand at p.waiting p.granted cut p.draining) (sym (at_removed asked things f)) asking)
        (at_without held things f (ap held is)) (at_without awaited things f (ap awaited is)) refl;
  }

  pub closed_to : (f n w : ℕ) (a a' : LeaseWait) (k : NamedWaker) (p' : Pool ℕ NamedWaker) → get things f ≡ Some (Ask a)
      → PollsLease p a k (Ok answer.Closed) p' a' → Goes (poll_of (get s.things f) s n f w) p' (remove things f) (Told answers.Gone)
  closed_to f n w lease.New a' k p' is polls = elim (cases_Bool p.draining) [
    | inl closed ↦
        subst (λ (o : Outcome). Goes o p' (remove things f) (Told answers.Gone)) (sym (poll_is f n w lease.New false is refl ∙ ap (λ d. polled_at d s n f w) closed))
        (subst (λ (q : Pool ℕ NamedWaker). Goes (polled_at true s n f w) q (remove things f) (Told answers.Gone)) (sym (polls.0 closed).1)
        (goes_away f lease.New p.cut is (subst (λ (at : At). AsksStand at p.waiting p.granted p.cut p.draining) (sym (put_back ask_at f None (ap asked is))) stands.keeps.asking)))
    | inr undrained ↦ elim (cases_lt (taken p) (length p.lent)) [
      | inl room ↦ absurd (let no = (polls.1 undrained room).0.answers in cc)
      | inr full ↦ absurd (let no = (polls.2 undrained full).0 in cc)
    ]
  ]
  closed_to f n w (lease.Queued m) a' k p' is polls = elim (stands.keeps.asking.linked.home f m (ap asked is)) [
    | inl some ↦ absurd (let no = (polls.1 some).0 in cc)
    | inr met ↦ elim met [
      | inl one ↦ absurd (let no = (polls.0 one).0.answers in cc)
      | inr c ↦
          subst (λ (o : Outcome). Goes o p' (remove things f) (Told answers.Gone)) (sym (poll_is f n w (lease.Queued m) false is (ap is_some c.2) ∙ ap (λ d. polled_at d s n f w) c.0))
          (subst (λ (q : Pool ℕ NamedWaker). Goes (polled_at true s n f w) q (remove things f) (Told answers.Gone)) (sym (polls.2 (c.0, c.1)).1)
          (goes_away f (lease.Queued m) (remove p.cut m) is (refused ask_at p.waiting p.granted p.cut p.draining stands.keeps.asking f m (ap asked is) c.0)))
    ]
  ]
  closed_to f n w lease.Done a' k p' is polls = absurd (subst IsGoing is (stands.keeps.going f))
  closed_to f n w lease.Refused a' k p' is polls = absurd (subst IsGoing is (stands.keeps.going f))
