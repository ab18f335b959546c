-- what each event keeps, and how it treats those who wait
use Rattle.std.proofs.Common.{◌≡◌, ℕ, suc, ◌+◌, ◌-◌, ◌<◌, ◌≤◌, ◌==◌, ◌&&◌, ◌++◌, ◌⊎◌, inl, inr, Bool, true, false, not, nat_lt, List, [], ◌∷◌, Option, Some, None, length, refl, ap, sym, subst, ◌∙◌, arith}
use Rattle.std.proofs.lemmas.Bool.{cases_lt, cases_Bool, and_parts, eqb-true, ltb-true, ltb-false, lt-ltb, le-ltb}
use Rattle.std.specs.Ordering.{nat_cmp}
use Rattle.std.specs.FinMap.{get, insert, remove, empty, get-empty}
use Rattle.mea_base.specs.Totals.{total, weight}
use Rattle.mea_base.proofs.Maps.{by_put, by_gone, get-there}
use Rattle.mea_base.proofs.Totals.{total-empty, total-insert, total-remove}
use Rattle.mea_by_name.specs.ByName.{Names}
use Rattle.mea_by_name.specs.NamedQueue.{Waiting, waker_for, waits, registering, without, wakers}
use Rattle.mea_pool_core.specs.Shelf.{is_lent, lent_count, times, one_if, slots_of}
use Rattle.mea_script.proofs.Events.{of_script}
use Rattle.mea_pool_run.specs.declared.event.PoolEvent.{PoolEvent}
use Rattle.mea_pool_run.specs.declared.event.PoolEvent.TheVariants.{Ask, Wait, Poll, Use, Back, End, Drain, Idle}
use Rattle.mea_pool_run.specs.PoolByName.{Live, asks, awaits, leases, PoolByName, begun, is_drained, settled_at, passed_for, drained_at, lent, gets_or_waits, polled_at, polled, polled_drain, ended, poll_of, end_of, use_of, back_of, outcome}
use Rattle.mea_pool_run.specs.Orderly.{Leases, IsOnce, AreOnce, names, IsPart, IsInOrder, IsOrderly, AreOrderly}
use Rattle.mea_pool_run.specs.Script.{pool_rules}
use Rattle.mea_pool_run.proofs.Lending.{IsNoLease, none_no_lease, ask_no_lease, wait_no_lease, Lends, lends_put, lends_gone, lends_set, lends_got, lends_back, lends_none}
use Rattle.mea_pool_run.proofs.Queueing.{Line, line_none, line_put, line_gone, elsewhere, line_registering, line_without, first_asks, line_rest, order_same, order_without, order_rest, order_none, order_last}

-- ---- how many places are taken

abbrev takes : ℕ → Live → ℕ
takes f (asks true) = 1
takes f (asks false) = 0
takes f awaits = 0
takes f (leases slot value) = 1

abbrev taken_in : Names Live → ℕ
taken_in things = total takes things

taken_put : (things : Names Live) (k : ℕ) (x : Live) (o : Option Live) → get things k ≡ o → taken_in (insert things k x) + weight takes k o ≡ taken_in things + takes k x
taken_put things k x o is = ap (λ (p : Option Live). taken_in (insert things k x) + weight takes k p) (sym is) ∙ total-insert takes things k x

taken_gone : (things : Names Live) (k : ℕ) (o : Option Live) → get things k ≡ o → taken_in (remove things k) + weight takes k o ≡ taken_in things
taken_gone things k o is = ap (λ (p : Option Live). taken_in (remove things k) + weight takes k p) (sym is) ∙ total-remove takes things k

-- ---- what holds of a pool before line n

record Keeps (s : PoolByName) (n : ℕ) : Type 0 where
  lends : Lends s.size s.shelf s.things
  taken : s.taken ≡ taken_in s.things
  line : Line s.waiting s.things
  full : (s.waiting ≡ [] → ⊥) → s.size ≤ s.taken
  closed : s.draining ≡ true → s.waiting ≡ []
  told : is_drained s ≡ true → s.drains ≡ []
  below : (k : ℕ) → n ≤ k → get s.things k ≡ None

-- what the event of line n leaves
record Step (s : PoolByName) (n : ℕ) (e : PoolEvent) (s' : PoolByName) : Type 0 where
  keeps : Keeps s' (n + 1)
  size : s'.size ≡ s.size
  order : IsInOrder s n e s'
  stays : is_drained s ≡ true → is_drained s' ≡ true

below_next : (things : Names Live) (n : ℕ) → ((k : ℕ) → n ≤ k → get things k ≡ None) → (k : ℕ) → n + 1 ≤ k → get things k ≡ None
below_next things n below k high = below k (omega arith)

below_gone : (things : Names Live) (n f : ℕ) → ((k : ℕ) → n ≤ k → get things k ≡ None) → (k : ℕ) → n ≤ k → get (remove things f) k ≡ None
below_gone things n f below k high = by_gone things f (λ q o. n ≤ q → o ≡ None) (λ _. refl) (λ q apart high. below q high) k high

below_put : (things : Names Live) (n k : ℕ) (x : Live) → k < n → ((j : ℕ) → n ≤ j → get things j ≡ None) → (j : ℕ) → n ≤ j → get (insert things k x) j ≡ None
below_put things n k x low below j high = by_put things k x (λ q o. n ≤ q → o ≡ None) (λ high. absurd (omega arith)) (λ q apart high. below q high) j high

there_below : (things : Names Live) (n f : ℕ) (x : Live) → ((k : ℕ) → n ≤ k → get things k ≡ None) → get things f ≡ Some x → f < n
there_below things n f x below is = elim (cases_lt f n) [
  | inl low ↦ low
  | inr high ↦ absurd (let both : None ≡ Some x = sym (below f high) ∙ is in cc)
]

-- ---- no wait is granted a place

abbrev Ungranted : Names Live → Names Live → Type 0
Ungranted things things' = (f : ℕ) → get things f ≡ Some (asks false) → get things' f ≡ Some (asks true) → ⊥

both_asks : (o : Option Live) → o ≡ Some (asks false) → o ≡ Some (asks true) → ⊥
both_asks o waits granted = let same : Some (asks false) ≡ Some (asks true) = sym waits ∙ granted in absurd (cc)

ungranted_same : (things : Names Live) → Ungranted things things
ungranted_same things f waits granted = both_asks (get things f) waits granted

ungranted_put : (things : Names Live) (k : ℕ) (x : Live) → (Some x ≡ Some (asks true) → ⊥) → Ungranted things (insert things k x)
ungranted_put things k x other f = by_put things k x (λ q o. get things q ≡ Some (asks false) → o ≡ Some (asks true) → ⊥) (λ no yes. other yes) (λ q apart no yes. both_asks (get things q) no yes) f

ungranted_gone : (things : Names Live) (k : ℕ) → Ungranted things (remove things k)
ungranted_gone things k f = by_gone things k (λ q o. get things q ≡ Some (asks false) → o ≡ Some (asks true) → ⊥) (λ no yes. absurd (cc)) (λ q apart no yes. both_asks (get things q) no yes) f

ungranted_moved : (things : Names Live) (f n : ℕ) (x : Live) → (Some x ≡ Some (asks true) → ⊥) → Ungranted things (insert (remove things f) n x)
ungranted_moved things f n x other g = by_put (remove things f) n x (λ q o. get things q ≡ Some (asks false) → o ≡ Some (asks true) → ⊥) (λ no yes. other yes) (λ q apart no yes. ungranted_gone things f q no yes) g

-- ---- the order, where nobody is granted a place and no lease is made

quiet_order : (s : PoolByName) (n : ℕ) (e : PoolEvent) (s' : PoolByName) → Ungranted s.things s'.things → IsNoLease (get s'.things n) → (new : List ℕ) × (length new ≤ 1) × IsPart (names s'.waiting) (names s.waiting ++ new) → IsInOrder s n e s'
quiet_order s n e s' none fresh line = record {
  first = λ f no yes. absurd (none f no yes);
  nobody = λ f w slot is no lent. absurd (fresh slot lent);
  line = line;
}

fresh_in : (things : Names Live) (n : ℕ) → get things n ≡ None → IsNoLease (get things n)
fresh_in things n none slot h = none_no_lease slot (h.0, sym none ∙ h.1)

-- nothing changes
unchanged : (s : PoolByName) (n : ℕ) (e : PoolEvent) → Keeps s n → Step s n e s
unchanged s n e kept = record {
  keeps = record { lends = kept.lends; taken = kept.taken; line = kept.line; full = kept.full; closed = kept.closed; told = kept.told; below = below_next s.things n kept.below };
  size = refl;
  order = quiet_order s n e s (ungranted_same s.things) (fresh_in s.things n (kept.below n (omega arith))) (order_same s.waiting);
  stays = λ is. is;
}

-- ---- a wait is made

makes : (s : PoolByName) (n : ℕ) (e : PoolEvent) (x : Live) → IsNoLease (Some x) → takes n x ≡ 0 → (Some x ≡ Some (asks true) → ⊥) → Keeps s n → Step s n e (record s { things = insert s.things n x })
makes s n e x unlent light other kept =
    let fresh : get s.things n ≡ None = kept.below n (omega arith) in
    let weighs : taken_in (insert s.things n x) + 0 ≡ taken_in s.things + takes n x = taken_put s.things n x None fresh in
    let was : s.taken ≡ taken_in s.things = kept.taken in
    record {
      keeps = record {
        lends = lends_put s.size s.shelf s.things n x (fresh_in s.things n fresh) unlent kept.lends;
        taken = omega arith;
        line = line_put s.waiting s.things n x (elsewhere s.waiting s.things n kept.line (λ is. let both : None ≡ Some (asks false) = sym fresh ∙ is in absurd (cc))) kept.line;
        full = kept.full;
        closed = kept.closed;
        told = kept.told;
        below = below_put s.things (n + 1) n x (omega arith) (below_next s.things n kept.below);
      };
      size = refl;
      order = quiet_order s n e _ (ungranted_put s.things n x other) (λ slot h. unlent slot (h.0, sym (get-there s.things n x) ∙ h.1)) (order_same s.waiting);
      stays = λ is. is;
    }

-- ---- a wait that takes no place goes, and with it its place in the line or its waker

goes_free : (s : PoolByName) (n f : ℕ) (e : PoolEvent) (x : Live) (waiting drains : Waiting) → get s.things f ≡ Some x → IsNoLease (Some x) → takes f x ≡ 0 → Keeps s n → Line waiting (remove s.things f)
    → ((waiting ≡ [] → ⊥) → s.waiting ≡ [] → ⊥) → (s.waiting ≡ [] → waiting ≡ []) → (is_drained s ≡ true → drains ≡ []) → (new : List ℕ) × (length new ≤ 1) × IsPart (names waiting) (names s.waiting ++ new)
    → Step s n e (record s { things = remove s.things f; waiting = waiting; drains = drains })
goes_free s n f e x waiting drains here unlent light kept line some none told order =
    let weighs : taken_in (remove s.things f) + takes f x ≡ taken_in s.things = taken_gone s.things f (Some x) here in
    let was : s.taken ≡ taken_in s.things = kept.taken in
    record {
      keeps = record {
        lends = lends_gone s.size s.shelf s.things f (λ slot h. unlent slot (h.0, sym here ∙ h.1)) kept.lends;
        taken = omega arith;
        line = line;
        full = λ waits. kept.full (some waits);
        closed = λ is. none (kept.closed is);
        told = told;
        below = below_next (remove s.things f) n (below_gone s.things n f kept.below);
      };
      size = refl;
      order = quiet_order s n e _ (ungranted_gone s.things f) (fresh_in (remove s.things f) n (below_gone s.things n f kept.below n (omega arith))) order;
      stays = λ is. is;
    }

-- ---- a place that becomes free

-- the thing of which it was has gone, and with it its place
record Left (s t : PoolByName) (n : ℕ) : Type 0 where
  lends : Lends t.size t.shelf t.things
  taken : t.taken ≡ taken_in t.things + 1
  line : Line t.waiting t.things
  full : (t.waiting ≡ [] → ⊥) → t.size ≤ t.taken
  closed : t.draining ≡ true → t.waiting ≡ []
  below : (k : ℕ) → n ≤ k → get t.things k ≡ None
  size : t.size ≡ s.size
  waiting : t.waiting ≡ s.waiting
  draining : t.draining ≡ s.draining
  ungranted : Ungranted s.things t.things

-- who waits for the end hears of it, once the pool is drained
settles : (s : PoolByName) (n : ℕ) (e : PoolEvent) (t : PoolByName) (ws : List ℕ) (b : Bool) → is_drained t ≡ b → Lends t.size t.shelf t.things → t.taken ≡ taken_in t.things → Line t.waiting t.things → ((t.waiting ≡ [] → ⊥) → t.size ≤ t.taken)
    → (t.draining ≡ true → t.waiting ≡ []) → ((k : ℕ) → n ≤ k → get t.things k ≡ None) → t.size ≡ s.size → IsInOrder s n e t → (is_drained s ≡ true → is_drained t ≡ true) → Step s n e (settled_at b t ws).pool
settles s n e t ws true is lends taken line full closed below size order stays = record {
  keeps = record { lends = lends; taken = taken; line = line; full = full; closed = closed; told = λ _. refl; below = below_next t.things n below };
  size = size;
  order = record { first = order.first; nobody = order.nobody; line = order.line };
  stays = stays;
}
settles s n e t ws false is lends taken line full closed below size order stays = record {
  keeps = record { lends = lends; taken = taken; line = line; full = full; closed = closed; told = λ now. absurd (let both : true ≡ false = sym now ∙ is in cc); below = below_next t.things n below };
  size = size;
  order = order;
  stays = stays;
}

drained_parts : (s : PoolByName) → is_drained s ≡ true → (s.draining ≡ true) × (s.taken ≡ 0)
drained_parts s is = let parts = and_parts s.draining (s.taken == 0) is in (parts.0, eqb-true s.taken 0 parts.1)

passes : (s : PoolByName) (n : ℕ) (e : PoolEvent) (t : PoolByName) (q : Waiting) → t.waiting ≡ q → (1 ≤ s.taken) → Left s t n → Step s n e (passed_for q t).pool
passes s n e t [] none some left =
    let fewer : t.taken ≡ taken_in t.things + 1 = left.taken in
    settles s n e (record t { taken = t.taken - 1 }) [] (is_drained (record t { taken = t.taken - 1 })) refl left.lends (omega arith) left.line (λ waits. absurd (waits none)) left.closed left.below left.size
    (quiet_order s n e (record t { taken = t.taken - 1 }) left.ungranted (fresh_in t.things n (left.below n (omega arith))) (subst (λ (q : Waiting). (new : List ℕ) × (length new ≤ 1) × IsPart (names q) (names s.waiting ++ new)) (sym left.waiting) (order_same s.waiting)))
    (λ is. absurd (let parts = drained_parts s is in let zero : s.taken ≡ 0 = parts.1 in omega arith))
passes s n e t (first ∷ rest) is some left =
    let line : Line (first ∷ rest) t.things = subst (λ (q : Waiting). Line q t.things) is left.line in
    let here = first_asks first rest t.things line in
    let weighs : taken_in (insert t.things first.0 (asks true)) + 0 ≡ taken_in t.things + 1 = taken_put t.things first.0 (asks true) (Some (asks false)) here in
    let fewer : t.taken ≡ taken_in t.things + 1 = left.taken in
    let low = there_below t.things n first.0 (asks false) left.below here in
    let after : PoolByName = record t { waiting = rest; things = insert t.things first.0 (asks true) } in
    settles s n e after (first.1 ∷ []) (is_drained after) refl
    (lends_put t.size t.shelf t.things first.0 (asks true) (λ slot h. ask_no_lease false slot (h.0, sym here ∙ h.1)) (ask_no_lease true) left.lends)
    (omega arith) (line_rest first rest t.things line) (λ _. left.full (λ none. let no : first ∷ rest ≡ [] = sym is ∙ none in absurd (cc)))
    (λ now. absurd (let no : first ∷ rest ≡ [] = sym is ∙ left.closed now in cc)) (below_put t.things n first.0 (asks true) low left.below) left.size
    (record {
      first = λ f no yes. by_put t.things first.0 (asks true) (λ q o. get s.things q ≡ Some (asks false) → o ≡ Some (asks true) → (w : ℕ) × ((more : Waiting) × (s.waiting ≡ (q, w) ∷ more)))
          (λ no yes. (first.1, (rest, sym left.waiting ∙ is))) (λ q apart no yes. absurd (left.ungranted q no yes)) f no yes;
      nobody = λ f w slot polls no lent. absurd (fresh_in after.things n (below_put t.things n first.0 (asks true) low left.below n (omega arith)) slot lent);
      line = subst (λ (q : Waiting). (new : List ℕ) × (length new ≤ 1) × IsPart (names rest) (names q ++ new)) (sym is ∙ left.waiting) (order_rest first rest);
    })
    (λ is. absurd (let parts = drained_parts s is in let zero : s.taken ≡ 0 = parts.1 in omega arith))

-- what takes a place goes
goes_taken : (s : PoolByName) (n f : ℕ) (x : Live) (shelf : List (ℕ × ℕ)) → get s.things f ≡ Some x → takes f x ≡ 1 → (Some x ≡ Some (asks false) → ⊥) → Keeps s n → Lends s.size shelf (remove s.things f) → (1 ≤ s.taken) × Left s (record s { shelf = shelf; things = remove s.things f }) n
goes_taken s n f x shelf here heavy other kept lends =
    let weighs : taken_in (remove s.things f) + takes f x ≡ taken_in s.things = taken_gone s.things f (Some x) here in
    let was : s.taken ≡ taken_in s.things = kept.taken in (
      omega arith,
      record {
        lends = lends;
        taken = omega arith;
        line = line_gone s.waiting s.things f (elsewhere s.waiting s.things f kept.line (λ is. other (sym here ∙ is))) kept.line;
        full = kept.full;
        closed = kept.closed;
        below = below_gone s.things n f kept.below;
        size = refl;
        waiting = refl;
        draining = refl;
        ungranted = ungranted_gone s.things f;
      },
    )

-- ---- a lease is got

gets_one : (s : PoolByName) (n f w taken : ℕ) (b : Bool) (q : List (ℕ × ℕ)) → s.shelf ≡ q → get s.things f ≡ Some (asks b) → taken + takes f (asks b) ≡ s.taken + 1 → (b ≡ false → s.waiting ≡ []) → (is_drained s ≡ true → taken ≡ s.taken) → Keeps s n → Step s n (Poll f w) (lent q s n f taken).pool
gets_one s n f w taken b [] shelf here more nobody same kept = unchanged s n (Poll f w) kept
gets_one s n f w taken b (l ∷ rest) shelf here more nobody same kept =
    let gone : taken_in (remove s.things f) + takes f (asks b) ≡ taken_in s.things = taken_gone s.things f (Some (asks b)) here in
    let fresh : get (remove s.things f) n ≡ None = below_gone s.things n f kept.below n (omega arith) in
    let come : taken_in (insert (remove s.things f) n (leases l.0 l.1)) + 0 ≡ taken_in (remove s.things f) + 1 = taken_put (remove s.things f) n (leases l.0 l.1) None fresh in
    let was : s.taken ≡ taken_in s.things = kept.taken in
    let lends : Lends s.size (l ∷ rest) (remove s.things f) = subst (λ (x : List (ℕ × ℕ)). Lends s.size x (remove s.things f)) shelf (lends_gone s.size s.shelf s.things f (λ slot h. ask_no_lease b slot (h.0, sym here ∙ h.1)) kept.lends) in
    let away : waker_for s.waiting f ≡ None = not_waiting b here nobody in
    record {
      keeps = record {
        lends = lends_got s.size l rest (remove s.things f) n fresh lends;
        taken = omega arith;
        line = line_put s.waiting (remove s.things f) n (leases l.0 l.1) (elsewhere s.waiting s.things n kept.line (λ is. let both : None ≡ Some (asks false) = sym (kept.below n (omega arith)) ∙ is in absurd (cc))) (line_gone s.waiting s.things f away kept.line);
        full = λ waits. let less : s.size ≤ s.taken = kept.full waits in by_flag b more nobody waits less;
        closed = kept.closed;
        told = λ now. by_drained now;
        below = below_put (remove s.things f) (n + 1) n (leases l.0 l.1) (omega arith) (below_next (remove s.things f) n (below_gone s.things n f kept.below));
      };
      size = refl;
      order = record {
        first = λ g no yes. absurd (ungranted_moved s.things f n (leases l.0 l.1) (λ same. absurd (cc)) g no yes);
        nobody = λ g v slot is no there. nobody (which g v is no);
        line = order_same s.waiting;
      };
      stays = λ is. (λ i. s.draining && (same is i == 0)) ∙ is;
    }
  where
    not_waiting : (c : Bool) → get s.things f ≡ Some (asks c) → (c ≡ false → s.waiting ≡ []) → waker_for s.waiting f ≡ None
    not_waiting true is none = elsewhere s.waiting s.things f kept.line (λ asks. both_asks (get s.things f) asks is)
    not_waiting false is none = ap (λ (q : Waiting). waker_for q f) (none refl)

    by_flag : (c : Bool) → taken + takes f (asks c) ≡ s.taken + 1 → (c ≡ false → s.waiting ≡ []) → (s.waiting ≡ [] → ⊥) → s.size ≤ s.taken → s.size ≤ taken
    by_flag true more none waits less = omega arith
    by_flag false more none waits less = absurd (waits (none refl))

    -- a place is taken by the lease, so the pool is not drained
    by_drained : is_drained (record s { taken = taken }) ≡ true → s.drains ≡ []
    by_drained now = absurd (let zero : taken ≡ 0 = (drained_parts (record s { taken = taken }) now).1 in let some = taken_some in omega arith)
      where
        taken_some : 1 ≤ taken
        taken_some =
            let gone : taken_in (remove s.things f) + takes f (asks b) ≡ taken_in s.things = taken_gone s.things f (Some (asks b)) here in
            let was : s.taken ≡ taken_in s.things = kept.taken in
            omega arith

    which : (g v : ℕ) → Poll f w ≡ Poll g v → get s.things g ≡ Some (asks false) → b ≡ false
    which g v is asks_still =
        let same : f ≡ g = cc in
        let both : Some (asks b) ≡ Some (asks false) = sym here ∙ ap (λ (k : ℕ). get s.things k) same ∙ asks_still in
        cc

-- ---- a wait for a lease is polled

waits_on : (s : PoolByName) (n f w : ℕ) → get s.things f ≡ Some (asks false) → s.draining ≡ false → s.size ≤ s.taken → Keeps s n → Step s n (Poll f w) (record s { waiting = registering s.waiting f w })
waits_on s n f w here opens full kept = record {
  keeps = record {
    lends = kept.lends;
    taken = kept.taken;
    line = line_registering s.waiting s.things f w here kept.line;
    full = λ _. full;
    closed = λ is. absurd (let both : true ≡ false = sym is ∙ opens in cc);
    told = kept.told;
    below = below_next s.things n kept.below;
  };
  size = refl;
  order = quiet_order s n (Poll f w) _ (ungranted_same s.things) (fresh_in s.things n (kept.below n (omega arith))) (order_last s.waiting f w);
  stays = λ is. is;
}

-- nobody waits where a place is free
nobody_waits : (s : PoolByName) (n : ℕ) (q : Waiting) → s.waiting ≡ q → s.taken < s.size → Keeps s n → q ≡ []
nobody_waits s n [] is room kept = refl
nobody_waits s n (e ∷ q) is room kept = absurd (let full : s.size ≤ s.taken = kept.full (λ none. let no : e ∷ q ≡ [] = sym is ∙ none in absurd (cc)) in omega arith)

waits_full : (s : PoolByName) (n f : ℕ) (q : Waiting) → s.waiting ≡ q → waits q f ≡ true → Keeps s n → s.size ≤ s.taken
waits_full s n f [] is some kept = absurd (cc)
waits_full s n f (e ∷ q) is some kept = kept.full (λ none. let no : e ∷ q ≡ [] = sym is ∙ none in absurd (cc))

gets_or : (s : PoolByName) (n f w : ℕ) (c d : Bool) → waits s.waiting f ≡ c → nat_lt s.taken s.size ≡ d → get s.things f ≡ Some (asks false) → s.draining ≡ false → Keeps s n → Step s n (Poll f w) (gets_or_waits (not c && d) s n f w).pool
gets_or s n f w true d there room here opens kept = waits_on s n f w here opens (waits_full s n f s.waiting refl there kept) kept
gets_or s n f w false true there room here opens kept =
    gets_one s n f w (s.taken + 1) false s.shelf refl here (omega arith) (λ _. nobody_waits s n s.waiting refl (ltb-true s.taken s.size room) kept)
    (λ is. absurd (let both : true ≡ false = sym (drained_parts s is).0 ∙ opens in cc)) kept
gets_or s n f w false false there room here opens kept = waits_on s n f w here opens (ltb-false s.taken s.size room) kept

polls_at : (s : PoolByName) (n f w : ℕ) (b : Bool) → s.draining ≡ b → get s.things f ≡ Some (asks false) → Keeps s n → Step s n (Poll f w) (polled_at b s n f w).pool
polls_at s n f w true closed here kept =
    goes_free s n f (Poll f w) (asks false) s.waiting s.drains here (ask_no_lease false) refl kept
    (line_gone s.waiting s.things f (ap (λ (q : Waiting). waker_for q f) (kept.closed closed)) kept.line) (λ waits. waits) (λ none. none) kept.told (order_same s.waiting)
polls_at s n f w false opens here kept = gets_or s n f w (waits s.waiting f) (nat_lt s.taken s.size) refl refl here opens kept

polls : (s : PoolByName) (n f w : ℕ) (b : Bool) → get s.things f ≡ Some (asks b) → Keeps s n → Step s n (Poll f w) (polled b s n f w).pool
polls s n f w true here kept = gets_one s n f w s.taken true s.shelf refl here refl (λ no. absurd (cc)) (λ _. refl) kept
polls s n f w false here kept = polls_at s n f w s.draining refl here kept

-- ---- a wait for the end

not_asking : (s : PoolByName) (n f : ℕ) (x : Live) → get s.things f ≡ Some x → (Some x ≡ Some (asks false) → ⊥) → Keeps s n → Line s.waiting (remove s.things f)
not_asking s n f x here other kept = line_gone s.waiting s.things f (elsewhere s.waiting s.things f kept.line (λ is. other (sym here ∙ is))) kept.line

polls_end : (s : PoolByName) (n f w : ℕ) (b : Bool) → is_drained s ≡ b → get s.things f ≡ Some awaits → Keeps s n → Step s n (Poll f w) (polled_drain b s f w).pool
polls_end s n f w true is here kept =
    goes_free s n f (Poll f w) awaits s.waiting s.drains here wait_no_lease refl kept (not_asking s n f awaits here (λ no. absurd (cc)) kept) (λ waits. waits) (λ none. none) kept.told (order_same s.waiting)
polls_end s n f w false is here kept = record {
  keeps = record {
    lends = kept.lends;
    taken = kept.taken;
    line = kept.line;
    full = kept.full;
    closed = kept.closed;
    told = λ now. absurd (let both : true ≡ false = sym now ∙ is in cc);
    below = below_next s.things n kept.below;
  };
  size = refl;
  order = quiet_order s n (Poll f w) _ (ungranted_same s.things) (fresh_in s.things n (kept.below n (omega arith))) (order_same s.waiting);
  stays = λ now. now;
}

-- ---- ends

no_more : (q : Waiting) (f : ℕ) → q ≡ [] → without q f ≡ []
no_more q f none = ap (λ (x : Waiting). without x f) none

ends : (s : PoolByName) (n f : ℕ) (b : Bool) → get s.things f ≡ Some (asks b) → Keeps s n → Step s n (End f) (ended b s f).pool
ends s n f true here kept =
    let left = goes_taken s n f (asks true) s.shelf here refl (λ no. absurd (cc)) kept (lends_gone s.size s.shelf s.things f (λ slot h. ask_no_lease true slot (h.0, sym here ∙ h.1)) kept.lends) in
    passes s n (End f) (record s { things = remove s.things f }) s.waiting refl left.0 left.1
ends s n f false here kept =
    goes_free s n f (End f) (asks false) (without s.waiting f) s.drains here (ask_no_lease false) refl kept (line_without s.waiting s.things f kept.line)
    (λ waits none. waits (no_more s.waiting f none)) (λ none. no_more s.waiting f none) kept.told (order_without s.waiting f)

-- ---- a drain

drains_at : (s : PoolByName) (n : ℕ) (b : Bool) → s.draining ≡ b → Keeps s n → Step s n Drain (drained_at b s).pool
drains_at s n true is kept = unchanged s n Drain kept
drains_at s n false is kept =
    let after : PoolByName = record s { waiting = []; draining = true } in
    settles s n Drain after (wakers s.waiting) (is_drained after) refl kept.lends kept.taken (line_none s.things) (λ no. absurd (no refl)) (λ _. refl) kept.below refl
    (quiet_order s n Drain after (ungranted_same s.things) (fresh_in s.things n (kept.below n (omega arith))) (order_none s.waiting))
    (λ now. absurd (let both : true ≡ false = sym (drained_parts s now).0 ∙ is in cc))

-- ---- by what lives under a name

poll_steps : (s : PoolByName) (n f w : ℕ) (o : Option Live) → get s.things f ≡ o → Keeps s n → Step s n (Poll f w) (poll_of o s n f w).pool
poll_steps s n f w None here kept = unchanged s n (Poll f w) kept
poll_steps s n f w (Some (asks granted)) here kept = polls s n f w granted here kept
poll_steps s n f w (Some awaits) here kept = polls_end s n f w (is_drained s) refl here kept
poll_steps s n f w (Some (leases slot value)) here kept = unchanged s n (Poll f w) kept

end_steps : (s : PoolByName) (n f : ℕ) (o : Option Live) → get s.things f ≡ o → Keeps s n → Step s n (End f) (end_of o s f).pool
end_steps s n f None here kept = unchanged s n (End f) kept
end_steps s n f (Some (asks granted)) here kept = ends s n f granted here kept
end_steps s n f (Some awaits) here kept =
    goes_free s n f (End f) awaits s.waiting (without s.drains f) here wait_no_lease refl kept (not_asking s n f awaits here (λ no. absurd (cc)) kept) (λ waits. waits) (λ none. none) (λ now. no_more s.drains f (kept.told now)) (order_same s.waiting)
end_steps s n f (Some (leases slot value)) here kept = unchanged s n (End f) kept

use_steps : (s : PoolByName) (n l v : ℕ) (o : Option Live) → get s.things l ≡ o → Keeps s n → Step s n (Use l v) (use_of o s l v).pool
use_steps s n l v None here kept = unchanged s n (Use l v) kept
use_steps s n l v (Some (asks granted)) here kept = unchanged s n (Use l v) kept
use_steps s n l v (Some awaits) here kept = unchanged s n (Use l v) kept
use_steps s n l v (Some (leases slot value)) here kept =
    let weighs : taken_in (insert s.things l (leases slot v)) + 1 ≡ taken_in s.things + 1 = taken_put s.things l (leases slot v) (Some (leases slot value)) here in
    let was : s.taken ≡ taken_in s.things = kept.taken in
    let low = there_below s.things n l (leases slot value) kept.below here in
    record {
      keeps = record {
        lends = lends_set s.size s.shelf s.things l slot value v here kept.lends;
        taken = omega arith;
        line = line_put s.waiting s.things l (leases slot v) (elsewhere s.waiting s.things l kept.line (λ is. let both : Some (leases slot value) ≡ Some (asks false) = sym here ∙ is in absurd (cc))) kept.line;
        full = kept.full;
        closed = kept.closed;
        told = kept.told;
        below = below_next (insert s.things l (leases slot v)) n (below_put s.things n l (leases slot v) low kept.below);
      };
      size = refl;
      order = quiet_order s n (Use l v) _ (ungranted_put s.things l (leases slot v) (λ no. absurd (cc))) (fresh_in (insert s.things l (leases slot v)) n (below_put s.things n l (leases slot v) low kept.below n (omega arith))) (order_same s.waiting);
      stays = λ is. is;
    }

back_steps : (s : PoolByName) (n l : ℕ) (o : Option Live) → get s.things l ≡ o → Keeps s n → Step s n (Back l) (back_of o s l).pool
back_steps s n l None here kept = unchanged s n (Back l) kept
back_steps s n l (Some (asks granted)) here kept = unchanged s n (Back l) kept
back_steps s n l (Some awaits) here kept = unchanged s n (Back l) kept
back_steps s n l (Some (leases slot value)) here kept =
    let left = goes_taken s n l (leases slot value) (s.shelf ++ (slot, value) ∷ []) here refl (λ no. absurd (cc)) kept (lends_back s.size s.shelf s.things l slot value here kept.lends) in
    passes s n (Back l) (record s { shelf = s.shelf ++ (slot, value) ∷ []; things = remove s.things l }) s.waiting refl left.0 left.1

steps : (s : PoolByName) (n : ℕ) (e : PoolEvent) → Keeps s n → Step s n e (outcome s n e).pool
unfolding outcome
steps s n Ask kept = makes s n Ask (asks false) (ask_no_lease false) refl (λ no. absurd (cc)) kept
steps s n Wait kept = makes s n Wait awaits wait_no_lease refl (λ no. absurd (cc)) kept
steps s n (Poll f w) kept = poll_steps s n f w (get s.things f) refl kept
steps s n (Use l v) kept = use_steps s n l v (get s.things l) refl kept
steps s n (Back l) kept = back_steps s n l (get s.things l) refl kept
steps s n (End f) kept = end_steps s n f (get s.things f) refl kept
steps s n Drain kept = drains_at s n s.draining refl kept
steps s n Idle kept = unchanged s n Idle kept

-- ---- what each state shows

module _ (s : PoolByName) (n : ℕ) (kept : Keeps s n) where
  sum_of : (slot : ℕ) → times slot (slots_of s.shelf) + one_if (is_lent kept.lends.lent slot) ≡ one_if (nat_lt slot (length kept.lends.lent))
  sum_of slot = kept.lends.once slot

  one_of : (slot : ℕ) → slot < s.size → one_if (nat_lt slot (length kept.lends.lent)) ≡ 1
  one_of slot low = ap one_if (lt-ltb slot (length kept.lends.lent) (subst (λ (m : ℕ). slot < m) (sym kept.lends.long) low))

  none_of : (slot : ℕ) → s.size ≤ slot → one_if (nat_lt slot (length kept.lends.lent)) ≡ 0
  none_of slot high = ap one_if (le-ltb slot (length kept.lends.lent) (subst (λ (m : ℕ). m ≤ slot) (sym kept.lends.long) high))

  times_of : (slot : ℕ) → slot < s.size → (b : Bool) → is_lent kept.lends.lent slot ≡ b → times slot (slots_of s.shelf) + one_if b ≡ 1
  times_of slot low b is =
      let sum : times slot (slots_of s.shelf) + one_if (is_lent kept.lends.lent slot) ≡ one_if (nat_lt slot (length kept.lends.lent)) = sum_of slot in
      let one : one_if (nat_lt slot (length kept.lends.lent)) ≡ 1 = one_of slot low in
      let same : one_if (is_lent kept.lends.lent slot) ≡ one_if b = ap one_if is in
      omega arith

  is_once : (slot : ℕ) → slot < s.size → (b : Bool) → is_lent kept.lends.lent slot ≡ b → IsOnce s slot
  is_once slot low true is =
      let sum : times slot (slots_of s.shelf) + 1 ≡ 1 = times_of slot low true is in
      let none : times slot (slots_of s.shelf) ≡ 0 = omega arith in
      let home = kept.lends.home slot is in
      inr (none, (home.0, home.1, λ g h. kept.lends.single g home.0 slot h home.1))
  is_once slot low false is =
      let sum : times slot (slots_of s.shelf) + 0 ≡ 1 = times_of slot low false is in
      let one : times slot (slots_of s.shelf) ≡ 1 = omega arith in
      inl (one, λ f h. let both : true ≡ false = sym (kept.lends.out f slot h) ∙ is in absurd (cc))

  stand_once : AreOnce s
  stand_once = record {
    once = λ slot low. is_once slot low (is_lent kept.lends.lent slot) refl;
    idle = λ slot high. let sum = sum_of slot in let none = none_of slot high in omega arith;
    lent = λ slot f h. elim (cases_lt slot s.size) [
      | inl low ↦ low
      | inr high ↦ absurd (
          let sum : times slot (slots_of s.shelf) + one_if (is_lent kept.lends.lent slot) ≡ one_if (nat_lt slot (length kept.lends.lent)) = sum_of slot in
          let none : one_if (nat_lt slot (length kept.lends.lent)) ≡ 0 = none_of slot high in
          let one : one_if (is_lent kept.lends.lent slot) ≡ 1 = ap one_if (kept.lends.out f slot h) in
          omega arith)
    ];
  }

-- no lease lives where no place is taken
unlent : (s : PoolByName) (n : ℕ) → Keeps s n → s.taken ≡ 0 → (slot f : ℕ) → Leases s slot f → ⊥
unlent s n kept none slot f h =
    let weighs : taken_in (remove s.things f) + 1 ≡ taken_in s.things = taken_gone s.things f (Some (leases slot h.0)) h.1 in
    let was : s.taken ≡ taken_in s.things = kept.taken in
    absurd (omega arith)

none_count : (marks : List Bool) → ((slot : ℕ) → is_lent marks slot ≡ false) → lent_count marks ≡ 0
none_count [] none = refl
none_count (b ∷ marks) none = first b (none 0) (none_count marks (λ slot. none (suc slot)))
  where
    first : (c : Bool) → c ≡ false → lent_count marks ≡ 0 → lent_count (c ∷ marks) ≡ 0
    first true is rest = absurd (cc)
    first false is rest = rest

all_idle : (s : PoolByName) (n : ℕ) → Keeps s n → s.taken ≡ 0 → length s.shelf ≡ s.size
all_idle s n kept none =
    let lends = kept.lends in
    let counted : length s.shelf + lent_count lends.lent ≡ length lends.lent = lends.counted in
    let long : length lends.lent ≡ s.size = lends.long in
    let zero : lent_count lends.lent ≡ 0 = none_count lends.lent (λ slot. by_flag slot (cases_Bool (is_lent lends.lent slot))) in
    omega arith
  where
    by_flag : (slot : ℕ) → (is_lent kept.lends.lent slot ≡ true) ⊎ (is_lent kept.lends.lent slot ≡ false) → is_lent kept.lends.lent slot ≡ false
    by_flag slot (inl is) = let home = kept.lends.home slot is in absurd (unlent s n kept none slot home.0 home.1)
    by_flag slot (inr is) = is

orderly : (s : PoolByName) (n : ℕ) (e : PoolEvent) → Keeps s n → IsOrderly s n e (outcome s n e).pool
orderly s n e kept =
    let step = steps s n e kept in
    record {
      size = step.size;
      once = stand_once (outcome s n e).pool (n + 1) step.keeps;
      order = step.order;
      drained = record {
        stays = step.stays;
        idle = λ now. all_idle (outcome s n e).pool (n + 1) step.keeps (drained_parts (outcome s n e).pool now).1;
        unlent = λ now slot f h. unlent (outcome s n e).pool (n + 1) step.keeps (drained_parts (outcome s n e).pool now).1 slot f h;
        told = step.keeps.told;
      };
    }

begins : (size : ℕ) → Keeps (begun size) 0
begins size = record {
  lends = lends_none size empty (λ f. get-empty nat_cmp f);
  taken = sym (total-empty takes);
  line = line_none empty;
  full = λ waits. absurd (waits refl);
  closed = λ _. refl;
  told = λ _. refl;
  below = λ k high. get-empty nat_cmp k;
}

pub are_orderly : (size : ℕ) (script : List ℕ) → AreOrderly size script
are_orderly size script = of_script (λ s n (e : PoolEvent) s'. IsOrderly s n e s') pool_rules Keeps orderly (λ s n e kept. (steps s n e kept).keeps) (begun size) (begins size) script
