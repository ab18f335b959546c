-- a place that becomes free, and a pool that drains
use Rattle.std.proofs.Common.{◌≡◌, ℕ, ◌+◌, ◌-◌, ◌<◌, ◌≤◌, ◌==◌, ◌&&◌, ◌++◌, inl, inr, Bool, true, false, cond, List, [], ◌∷◌, Some, None, is_some, map as map_list, set, length, length-set, refl, ap, sym, subst, ◌∙◌, arith, if◌then◌else◌}
use Rattle.std.specs.Ordering.{nat_cmp}
use Rattle.std.specs.FinMap as map
use Rattle.std.specs.FinMap.{FinMap, get, insert, remove}
use Rattle.std.proofs.lemmas.Bool.{cases_lt, eq-eqb, ne_eqb}
use Rattle.std.proofs.lemmas.List.{get_or_past}
use Rattle.mea_by_name.specs.declared.named_waker.NamedWaker.{NamedWaker}
use Rattle.mea_by_name.specs.ByName.{Names, seen}
use Rattle.mea_by_name.specs.NamedQueue.{wakers, without}
use Rattle.mea_by_name.proofs.Own.{seen-at, seen-remove}
use Rattle.mea_family.specs.declared.answer.Answer.TheVariants as answers
use Rattle.mea_lock_core.specs.Condvar.{waker_under, without_wait, notifying}
use Rattle.mea_pool_core.specs.declared.lease_wait.LeaseWait.{LeaseWait}
use Rattle.mea_pool_core.specs.declared.lease_wait.LeaseWait.TheVariants as lease
use Rattle.mea_pool_core.specs.Calls.{CancelsLease}
use Rattle.mea_pool_core.specs.Places.{cutting}
use Rattle.mea_pool_core.specs.Pool as pool
use Rattle.mea_pool_core.specs.Pool.{Pool, taken, is_drained}
use Rattle.mea_pool_core.specs.Shelf.{is_lent, lent_count}
use Rattle.mea_pool_core.proofs.Lines.{inserted, removed}
use Rattle.mea_pool_core.proofs.Shelves.{count_back}
use Rattle.mea_pool_run.specs.declared.reply.PoolReply.TheVariants.{Told}
use Rattle.mea_pool_run.specs.declared.thing.Thing.{Thing}
use Rattle.mea_pool_run.specs.declared.thing.Thing.TheVariants.{Ask, Held}
use Rattle.mea_pool_run.specs.PoolByName.{asks, PoolByName, Outcome, quietly, settled_at, settled, passed_for, drained_at, drained, ended, end_of, back_of}
use Rattle.mea_pool_run.specs.Kept.{Numbered, names_of, is_granted, live_of, pool_by_name, asked, awaited, held, IsGoing, AsksStand, LeasesStand, WaitsStand, Stands, Goes, wakers_of}
use Rattle.mea_pool_run.proofs.Linking.{At, put, left_named, absent_left}
use Rattle.mea_pool_run.proofs.Polls.{pool_path, keeps_asks}
use Rattle.mea_pool_run.proofs.Standing.{took, refused, leaves, all_leave, first_granted, all_hear, comes_back}
use Rattle.mea_pool_run.proofs.Things.{put_back, at_each, at_removed, at_without, going_gone, seen_took, seen_granted}

-- ---- wakers

wakers_last : (ks ls : List NamedWaker) → wakers_of (ks ++ ls) ≡ wakers_of ks ++ wakers_of ls
wakers_last [] ls = refl
wakers_last (k ∷ ks) ls = ap (λ ws. k.waker ∷ ws) (wakers_last ks ls)

wakers_named : (q : Numbered) → wakers_of (map_list {A = ℕ × NamedWaker} (λ e. e.1) q) ≡ wakers (names_of q)
wakers_named [] = refl
wakers_named (e ∷ q) = ap (λ ws. e.1.waker ∷ ws) (wakers_named q)

-- ---- what a pool keeps to before those who wait for the end are told

record Halfway (q : Pool ℕ NamedWaker) (things : Names Thing) : Type 0 where
  going : (f : ℕ) → IsGoing (get things f)
  asking : AsksStand (λ f. asked (get things f)) q.waiting q.granted q.cut q.draining
  lending : LeasesStand (λ f. held (get things f)) q.lent
  ending : WaitsStand (λ f. awaited (get things f)) q.drains q.told false

-- those who wait for the end have heard
abbrev heard : Pool ℕ NamedWaker → Pool ℕ NamedWaker
heard q = record q { drains = []; told = notifying q.told q.drains; wakes = q.wakes ++ map_list {A = ℕ × NamedWaker} (λ e. e.1) q.drains }

settles_at : (b : Bool) (q : Pool ℕ NamedWaker) (things : Names Thing) (ws : List ℕ) → is_drained q ≡ b → Halfway q things → wakers_of q.wakes ≡ ws
    → Goes (settled_at b (pool_by_name q things) ws) (if b then heard q else q) things (Told answers.Done)
settles_at true q things ws drained half woken = record {
  pool = refl;
  replied = refl;
  woken = wakers_last q.wakes (map_list {A = ℕ × NamedWaker} (λ e. e.1) q.drains) ∙ (λ i. woken i ++ wakers_named q.drains i);
  keeps = record {
    going = half.going;
    asking = half.asking;
    lending = half.lending;
    ending = subst (λ (b : Bool). WaitsStand (λ f. awaited (get things f)) [] (notifying q.told q.drains) b) (sym drained) (all_hear (λ f. awaited (get things f)) q.drains q.told false half.ending);
  };
}
settles_at false q things ws drained half woken = record {
  pool = refl;
  replied = refl;
  woken = woken;
  keeps = record {
    going = half.going;
    asking = half.asking;
    lending = half.lending;
    ending = subst (λ (b : Bool). WaitsStand (λ f. awaited (get things f)) q.drains q.told b) (sym drained) half.ending;
  };
}

settles : (q : Pool ℕ NamedWaker) (things : Names Thing) (ws : List ℕ) → Halfway q things → wakers_of q.wakes ≡ ws → Goes (settled (pool_by_name q things) ws) (pool.settled q) things (Told answers.Done)
settles q things ws half woken = settles_at (is_drained q) q things ws refl half woken

-- ---- a place that becomes free

-- where one place less is taken than was
passes_for : (waiting : Numbered) (q : Pool ℕ NamedWaker) (things : Names Thing) (k : ℕ) → q.waiting ≡ waiting → Halfway q things → k ≡ taken q + 1 → q.wakes ≡ []
    → Goes (passed_for (names_of waiting) (record (pool_by_name q things) { taken = k })) (pool.settled (pool.passed_for waiting q)) things (Told answers.Done)
passes_for [] q things k waits half more quiet =
    let less : taken q ≡ k - 1 = omega arith in
    subst (λ (t : ℕ). Goes (settled (record (pool_by_name q things) { taken = t }) []) (pool.settled q) things (Told answers.Done)) less (settles q things [] half (ap wakers_of quiet))
passes_for (e ∷ rest) q things k waits half more quiet =
    let asking : AsksStand (λ f. asked (get things f)) (e ∷ rest) q.granted q.cut q.draining = subst (λ (l : Numbered). AsksStand (λ f. asked (get things f)) l q.granted q.cut q.draining) waits half.asking in
    let none : get q.granted e.0 ≡ None = asking.ungranted e.0 (ap (λ b. is_some (cond b (Some e.1) (waker_under rest e.0))) (eq-eqb e.0 e.0 refl)) in
    let counted : map.len (insert q.granted e.0 1) ≡ map.len q.granted + 1 = inserted q.granted e.0 1 none in
    let total : taken q + 1 ≡ lent_count q.lent + map.len (insert q.granted e.0 1) = omega arith in
    subst (λ (t : PoolByName). Goes (settled t (e.1.waker ∷ [])) (pool.settled (record q { waiting = rest; granted = insert q.granted e.0 1; wakes = q.wakes ++ e.1 ∷ [] })) things (Told answers.Done))
    (pool_path (pool_by_name (record q { waiting = rest; granted = insert q.granted e.0 1; wakes = q.wakes ++ e.1 ∷ [] }) things)
    (record (pool_by_name q things) { taken = k; waiting = names_of rest; things = insert (seen (live_of q.granted) things) e.1.name (asks true) })
    refl (sym total ∙ sym more) refl (seen_granted q.granted things e.1.name e.0 asking.linked.single asking.linked.named.0) refl refl refl)
    (settles (record q { waiting = rest; granted = insert q.granted e.0 1; wakes = q.wakes ++ e.1 ∷ [] }) things (e.1.waker ∷ []) (record {
      going = half.going;
      asking = first_granted (λ f. asked (get things f)) e rest q.granted q.cut q.draining asking;
      lending = half.lending;
      ending = half.ending;
    }) (ap (λ (ks : List NamedWaker). wakers_of (ks ++ e.1 ∷ [])) quiet))

undrained_while : (draining : Bool) (k : ℕ) → 1 ≤ k → (draining && (k == 0)) ≡ false
undrained_while draining k some = ap (λ b. draining && b) (ne_eqb k 0 (λ none. absurd (omega arith))) ∙ by_flag draining
  where
    by_flag : (d : Bool) → (d && false) ≡ false
    by_flag true = refl
    by_flag false = refl

lent_within : (lent : List Bool) (slot : ℕ) → is_lent lent slot ≡ true → slot < length lent
lent_within lent slot is = elim (cases_lt slot (length lent)) [
  | inl low ↦ low
  | inr high ↦ absurd (let out : is_lent lent slot ≡ false = get_or_past lent slot false high in cc)
]

module _ (p : Pool ℕ NamedWaker) (things : Names Thing) (stands : Stands p things) where
  abbrev s : PoolByName
  s = pool_by_name p things

  abbrev ask_at : At
  ask_at = λ q. asked (get things q)

  silent : wakers_of p.wakes ≡ []
  silent = ap wakers_of stands.quiet

  -- ---- a lease is put back

  pub comes_back_to : (l : ℕ) (lease : ℕ × ℕ) → get things l ≡ Some (Held lease) → Goes (back_of (get s.things l) s l) (pool.with_lease p lease) (remove things l) (Told answers.Done)
  comes_back_to l lease is =
      let there : is_lent p.lent lease.0 ≡ true = stands.keeps.lending.out l lease.0 (ap held is) in
      let less : lent_count (set p.lent lease.0 false) + 1 ≡ lent_count p.lent = count_back lease.0 p.lent (lent_within p.lent lease.0 there) there in
      let some : 1 ≤ taken p = omega arith in
      let more : taken p ≡ lent_count (set p.lent lease.0 false) + map.len p.granted + 1 = omega arith in
      subst (λ (o : Outcome). Goes o (pool.with_lease p lease) (remove things l) (Told answers.Done)) (sym (ap (λ x. back_of x s l) (seen-at (live_of p.granted) things l (Held lease) is)))
      (subst (λ (t : PoolByName). Goes (passed_for (names_of p.waiting) t) (pool.with_lease p lease) (remove things l) (Told answers.Done))
      (pool_path (record (pool_by_name (record p { shelf = p.shelf ++ lease ∷ []; lent = set p.lent lease.0 false }) (remove things l)) { taken = taken p })
      (record s { shelf = s.shelf ++ (lease.0, lease.1) ∷ []; things = remove s.things l })
      (length-set p.lent lease.0 false) refl refl (seen-remove (live_of p.granted) things l) refl refl refl)
      (passes_for p.waiting (record p { shelf = p.shelf ++ lease ∷ []; lent = set p.lent lease.0 false }) (remove things l) (taken p) refl (record {
        going = going_gone things l stands.keeps.going;
        asking = subst (λ (at : At). AsksStand at p.waiting p.granted p.cut p.draining) (sym (at_without asked things l (ap asked is))) stands.keeps.asking;
        lending = subst (λ (at : At). LeasesStand at (set p.lent lease.0 false)) (sym (at_removed held things l)) (comes_back (at_each held things) p.lent stands.keeps.lending l lease.0 (ap held is));
        ending = subst (λ (b : Bool). WaitsStand (λ q. awaited (get (remove things l) q)) p.drains p.told b) (undrained_while p.draining (taken p) some)
            (subst (λ (at : At). WaitsStand at p.drains p.told (is_drained p)) (sym (at_without awaited things l (ap awaited is))) stands.keeps.ending);
      }) more stands.quiet))

  -- ---- a wait for a lease ends

  end_is : (f : ℕ) (a : LeaseWait) (b : Bool) → get things f ≡ Some (Ask a) → is_granted p.granted a ≡ b → end_of (get s.things f) s f ≡ ended b s f
  end_is f a b is granted = ap (λ x. end_of x s f) (seen-at (live_of p.granted) things f (Ask a) is) ∙ ap (λ c. ended c s f) granted

  -- the wait goes, and nobody is woken
  just_ends : (f : ℕ) (a : LeaseWait) (waiting : Numbered) (cut : FinMap nat_cmp ℕ) → get things f ≡ Some (Ask a) → names_of waiting ≡ without (names_of p.waiting) f
      → AsksStand (put ask_at f None) waiting p.granted cut p.draining
      → Goes (quietly (record s { things = remove s.things f; waiting = without s.waiting f }) (Told answers.Done)) (record p { waiting = waiting; cut = cut }) (remove things f) (Told answers.Done)
  just_ends f a waiting cut is named asking = record {
    pool = pool_path _ _ refl refl refl (seen-remove (live_of p.granted) things f) named refl refl;
    replied = refl;
    woken = silent;
    keeps = keeps_asks p things stands (remove things f) waiting p.granted cut (going_gone things f stands.keeps.going)
        (subst (λ (at : At). AsksStand at waiting p.granted cut p.draining) (sym (at_removed asked things f)) asking)
        (at_without held things f (ap held is)) (at_without awaited things f (ap awaited is)) refl;
  }

  gives_up : (f m : ℕ) → get things f ≡ Some (Ask (lease.Queued m)) → get p.granted m ≡ Some 1
      → Goes (end_of (get s.things f) s f) (pool.passed_on (record p { granted = remove p.granted m })) (remove things f) (Told answers.Done)
  gives_up f m is one =
      let fewer : map.len (remove p.granted m) + 1 ≡ map.len p.granted = removed p.granted m 1 one in
      let some : 1 ≤ taken p = omega arith in
      let more : taken p ≡ lent_count p.lent + map.len (remove p.granted m) + 1 = omega arith in
      subst (λ (o : Outcome). Goes o (pool.passed_on (record p { granted = remove p.granted m })) (remove things f) (Told answers.Done)) (sym (end_is f (lease.Queued m) true is (ap is_some one)))
      (subst (λ (t : PoolByName). Goes (passed_for (names_of p.waiting) t) (pool.passed_on (record p { granted = remove p.granted m })) (remove things f) (Told answers.Done))
      (pool_path (record (pool_by_name (record p { granted = remove p.granted m }) (remove things f)) { taken = taken p }) (record s { things = remove s.things f })
      refl refl refl (seen_took p.granted things f m stands.keeps.asking.linked.single (ap asked is)) refl refl refl)
      (passes_for p.waiting (record p { granted = remove p.granted m }) (remove things f) (taken p) refl (record {
        going = going_gone things f stands.keeps.going;
        asking = subst (λ (at : At). AsksStand at p.waiting (remove p.granted m) p.cut p.draining) (sym (at_removed asked things f)) (took ask_at p.waiting p.granted p.cut p.draining stands.keeps.asking f m (ap asked is) one);
        lending = subst (λ (at : At). LeasesStand at p.lent) (sym (at_without held things f (ap held is))) stands.keeps.lending;
        ending = subst (λ (b : Bool). WaitsStand (λ q. awaited (get (remove things f) q)) p.drains p.told b) (undrained_while p.draining (taken p) some)
            (subst (λ (at : At). WaitsStand at p.drains p.told (is_drained p)) (sym (at_without awaited things f (ap awaited is))) stands.keeps.ending);
      }) more stands.quiet))

  pub ends : (f : ℕ) (a : LeaseWait) (p' : Pool ℕ NamedWaker) → get things f ≡ Some (Ask a) → CancelsLease p a p' → Goes (end_of (get s.things f) s f) p' (remove things f) (Told answers.Done)
  ends f lease.New p' is cancels =
      subst (λ (o : Outcome). Goes o p' (remove things f) (Told answers.Done)) (sym (end_is f lease.New false is refl))
      (subst (λ (q : Pool ℕ NamedWaker). Goes (ended false s f) q (remove things f) (Told answers.Done)) (sym cancels)
      (just_ends f lease.New p.waiting p.cut is (sym (absent_left ask_at f p.waiting stands.keeps.asking.linked.named (ap asked is)))
      (subst (λ (at : At). AsksStand at p.waiting p.granted p.cut p.draining) (sym (put_back ask_at f None (ap asked is))) stands.keeps.asking)))
  ends f (lease.Queued m) p' is cancels = elim (stands.keeps.asking.linked.home f m (ap asked is)) [
    | inl some ↦
        subst (λ (o : Outcome). Goes o p' (remove things f) (Told answers.Done)) (sym (end_is f (lease.Queued m) false is (ap is_some (stands.keeps.asking.ungranted m some))))
        (subst (λ (q : Pool ℕ NamedWaker). Goes (ended false s f) q (remove things f) (Told answers.Done)) (sym (cancels.1 some))
        (just_ends f (lease.Queued m) (without_wait p.waiting m) p.cut is (left_named ask_at f m stands.keeps.asking.linked.single (ap asked is) p.waiting stands.keeps.asking.linked.named)
        (leaves ask_at p.waiting p.granted p.cut p.draining stands.keeps.asking f m (ap asked is))))
    | inr met ↦ elim met [
      | inl one ↦ subst (λ (q : Pool ℕ NamedWaker). Goes (end_of (get s.things f) s f) q (remove things f) (Told answers.Done)) (sym (cancels.0 one)) (gives_up f m is one)
      | inr c ↦
          subst (λ (o : Outcome). Goes o p' (remove things f) (Told answers.Done)) (sym (end_is f (lease.Queued m) false is (ap is_some c.2)))
          (subst (λ (q : Pool ℕ NamedWaker). Goes (ended false s f) q (remove things f) (Told answers.Done)) (sym (cancels.2 (c.0, c.1)))
          (just_ends f (lease.Queued m) p.waiting (remove p.cut m) is (nobody f (stands.keeps.asking.all_cut c.0))
          (refused ask_at p.waiting p.granted p.cut p.draining stands.keeps.asking f m (ap asked is) c.0)))
    ]
  ]
    where
      nobody : (f : ℕ) → p.waiting ≡ [] → names_of p.waiting ≡ without (names_of p.waiting) f
      nobody f none = ap (λ (q : Numbered). names_of q) none ∙ sym (ap (λ (q : Numbered). without (names_of q) f) none)
  ends f lease.Done p' is cancels = absurd (subst IsGoing is (stands.keeps.going f))
  ends f lease.Refused p' is cancels = absurd (subst IsGoing is (stands.keeps.going f))

  -- ---- the pool drains

  -- before those who wait for the end have heard
  abbrev cut_off : Pool ℕ NamedWaker
  cut_off = record p { waiting = []; cut = cutting p.cut p.waiting; draining = true; wakes = p.wakes ++ map_list {A = ℕ × NamedWaker} (λ e. e.1) p.waiting }

  pub drains : Goes (drained s) (pool.drained p) things (Told answers.Done)
  drains = by_flag p.draining refl
    where
      by_flag : (b : Bool) → p.draining ≡ b → Goes (drained_at b s) (if b then p else pool.settled cut_off) things (Told answers.Done)
      by_flag true draining = record { pool = refl; replied = refl; woken = silent; keeps = stands.keeps }
      by_flag false undrained = settles cut_off things (wakers (names_of p.waiting)) (record {
        going = stands.keeps.going;
        asking = all_leave ask_at p.waiting p.granted p.cut p.draining stands.keeps.asking undrained;
        lending = stands.keeps.lending;
        ending = subst (λ (b : Bool). WaitsStand (λ q. awaited (get things q)) p.drains p.told b) (ap (λ d. d && (taken p == 0)) undrained) stands.keeps.ending;
      }) (ap (λ (ks : List NamedWaker). wakers_of (ks ++ map_list {A = ℕ × NamedWaker} (λ e. e.1) p.waiting)) stands.quiet ∙ wakers_named p.waiting)
