-- the ring of a `WaitList` through its nodes, and what each call does to it
use Rattle.std.proofs.Common.{◌≡◌, ◌≢◌, ℕ, ◌+◌, ◌-◌, ◌<◌, ◌≤◌, ◌^◌, Bool, true, false, cond, not, eqb, List, [], ◌∷◌, ◌++◌, map, length, get_or, set, Option, Some, None, IsSome, is_some, count_by, refl, sym, ap, subst, ◌∙◌, inl, inr, arith}
use Rattle.std.proofs.lemmas.Bool.{cases_eq, eq-eqb, ne_eqb}
use Rattle.std.proofs.lemmas.List.{get_or-set_same, get_or-set_other, get_or_past, map-set, length-append}
use Rattle.std.proofs.lemmas.List.Sums.{sum_by-cons, sum_by-set}
use Rattle.std.proofs.Math.ListN as math
use Rattle.std.specs.List.{list_any, AllByRecursion}
use Rattle.slab.specs.Slab.{Slab, slab_len}
use Rattle.slab.specs.Slab as slab
use Rattle.mea_base.specs.declared.links.Node.{Node}
use Rattle.mea_base.specs.WaitList.{without, IsAbsent, AllInUse, IsSound, Updates, trim}
use Rattle.mea_base.specs.WaitListLinks.{IsChain, node_at, value_of, next_of, prev_of, next_in, prev_in, order_of, IsRing, Relinks, Inserts, SameQueue}
use Rattle.mea_base.proofs.Chains.{all_from_absent, unlinked_from_absent, length-without, absent_before, absent_from_push, length-walk, walk-chain, chain-alike, all_but, found_of, HasNeighbours, neighbours, last_of, first_of, next_differs, chain-without, IsPutBehind, chain-push_head, chain-push_tail}
use Rattle.mea_base.proofs.Trims.{get_or-trim, trim-same, trim-set, AllInUse-trim}
use Rattle.mea_base.proofs.Waits.{AllInUse-updated, AllInUse-push, AllInUse-without, IsAbsent-push, IsDistinct-push, IsAbsent-without, IsDistinct-without, absent_from_unlinked, length_order-le-count, sum_by-same}

-- nothing and something at once
some_none : {X : Type 0} (s t : Option X) → s ≡ t → IsSome s → t ≡ None → ⊥
some_none None t same some none = absurd (cc)
some_none (Some x) t same some none = absurd (cc)

-- two writes at two keys, in either order
swaps : (n x y p k : ℕ) → p ≢ n → cond (eqb k p) x (cond (eqb k n) n y) ≡ cond (eqb k n) n (cond (eqb k p) x y)
swaps n x y p k differs =
    elim (cases_eq k n) [
      | inl same ↦ rw (eq-eqb k n same, ne_eqb k p (λ is. differs (sym is ∙ same))) refl
      | inr other ↦ rw (ne_eqb k n other) refl
    ]

-- a write of what is there
own : (n : ℕ) (f : ℕ → ℕ) (k : ℕ) → f n ≡ n → cond (eqb k n) n (f k) ≡ f k
own n f k is =
    elim (cases_eq k n) [
      | inl same ↦ rw (eq-eqb k n same) (sym is ∙ ap f (sym same))
      | inr other ↦ rw (ne_eqb k n other) refl
    ]

module _ {T : Type 0} where
  value_in : (slots : List (Option (Node T))) (k : ℕ) → get_or (map value_of slots) k None ≡ value_of (node_at slots k)
  value_in slots k = math.get_or-map value_of slots k None

  -- what a contract sees under a number
  pub view_at : (slots : List (Option (Node T))) (k : ℕ) → get_or (trim (map value_of slots)) k None ≡ value_of (node_at slots k)
  view_at slots k = get_or-trim (map value_of slots) k ∙ value_in slots k

  -- what a contract sees under a number with a node
  pub get_view : (slots : List (Option (Node T))) (n : ℕ) (node : Node T) → node_at slots n ≡ Some node → get_or (trim (map value_of slots)) n None ≡ node.value
  get_view slots n node found = view_at slots n ∙ ap value_of found

  -- nodes with the same values look the same to a contract
  pub same_view : (old new : List (Option (Node T))) → ((k : ℕ) → value_of (node_at new k) ≡ value_of (node_at old k))
      → trim (map value_of new) ≡ trim (map value_of old)
  same_view old new values = trim-same _ _ (λ k. value_in new k ∙ values k ∙ sym (value_in old k))

  -- once there is a sentinel, any key may be given next
  pub any_key : (slots : List (Option (Node T))) (key : ℕ) → IsSome (node_at slots 0) → node_at slots 0 ≡ None → key ≡ 0
  any_key slots key made none = absurd (some_none (node_at slots 0) (node_at slots 0) refl made none)

  -- a number in use has a node with a value
  pub used_node : (slots : List (Option (Node T))) (n : ℕ) → IsSome (get_or (trim (map value_of slots)) n None) → IsSome (value_of (node_at slots n))
  used_node slots n used = rw (← view_at slots n) used

  pub node_behind : (s : Option (Node T)) → IsSome (value_of s) → IsSome s
  node_behind None some = some
  node_behind (Some node) some = refl

  nodes_behind : (slots : List (Option (Node T))) (ks : List ℕ) → AllInUse (map value_of slots) ks → AllByRecursion (λ k. IsSome (node_at slots k)) ks
  nodes_behind slots [] used = tt
  nodes_behind slots (k ∷ ks) used = (node_behind (node_at slots k) (rw (value_in slots k) at used.0), nodes_behind slots ks used.1)

  AllInUse-same : (old new : List (Option (Node T))) (ks : List ℕ)
      → ((k : ℕ) → is_some (value_of (node_at new k)) ≡ is_some (value_of (node_at old k))) → AllInUse (map value_of old) ks → AllInUse (map value_of new) ks
  AllInUse-same old new [] same used = tt
  AllInUse-same old new (k ∷ ks) same used =
      (rw (value_in new k) (same k ∙ (rw (value_in old k) at used.0)), AllInUse-same old new ks same used.1)

  count-values : (slots : List (Option (Node T))) → count_by is_some (map value_of slots) ≤ count_by is_some slots
  count-values [] = omega arith
  count-values (None ∷ slots) = omega (
    arith,
    sum_by-cons (λ (o : Option T). cond (is_some o) 1 0) None (map value_of slots),
    sum_by-cons
        (λ (o : Option (Node T)). cond (is_some o) 1 0) None slots,
    count-values slots,
  )
  count-values (Some node ∷ slots) = by_value node.value (count-values slots)
    where
      by_value : (v : Option T) → count_by is_some (map value_of slots) ≤ count_by is_some slots
          → count_by is_some (v ∷ map value_of slots) ≤ count_by is_some (Some node ∷ slots)
      by_value None rest = omega (
        arith,
        rest,
        sum_by-cons (λ (o : Option T). cond (is_some o) 1 0) None (map value_of slots),
        sum_by-cons
            (λ (o : Option (Node T)). cond (is_some o) 1 0) (Some node) slots,
      )
      by_value (Some v) rest = omega (
        arith,
        rest,
        sum_by-cons (λ (o : Option T). cond (is_some o) 1 0) (Some v) (map value_of slots),
        sum_by-cons
            (λ (o : Option (Node T)). cond (is_some o) 1 0) (Some node) slots,
      )

  -- what a contract sees is sound
  pub sound_view : (slots : List (Option (Node T))) (order : List ℕ) (spare : ℕ) → IsRing slots order → count_by is_some slots < 2 ^ 64
      → IsSound (record { order = order; slots = trim (map value_of slots); spare = spare })
  sound_view slots order spare ring fits = record {
    distinct = ring.distinct.1;
    in_use = AllInUse-trim _ _ ring.in_use;
    few =
        let same = sum_by-same (λ (o : Option T). cond (is_some o) 1 0) refl (map value_of slots) (trim (map value_of slots)) (get_or-trim (map value_of slots)) in
        omega (arith, same, count-values slots);
  }

  -- the node of a linked number
  pub linked_node : (slots : List (Option (Node T))) (order : List ℕ) (n : ℕ) → IsRing slots order → list_any (λ k. eqb k n) order ≡ true
      → IsSome (node_at slots n)
  linked_node slots order n ring found = found_of (λ k. IsSome (node_at slots k)) n order (nodes_behind slots order ring.in_use) found

  module _ (slots : List (Option (Node T))) (order : List ℕ) (ring : IsRing slots order) (n : ℕ) (used : IsSome (value_of (node_at slots n))) where
    -- a number in use is not the sentinel
    not_sentinel : n ≢ 0
    not_sentinel same = some_none (value_of (node_at slots n)) (value_of (node_at slots 0)) (ap (λ k. value_of (node_at slots k)) same) used ring.no_value

    -- and a number that names itself is not linked
    pub absent_here : next_in slots n ≡ n → IsAbsent n order
    absent_here stays = by_test (list_any (λ k. eqb k n) order) refl
      where
        by_test : (b : Bool) → list_any (λ k. eqb k n) order ≡ b → IsAbsent n order
        by_test false is = absent_from_unlinked n order is
        by_test true is = absurd (next_differs (next_in slots) (prev_in slots) 0 order 0 n ring.chain ring.distinct.1 ring.distinct.0 is stays)

    -- while one that names another is
    linked_here : next_in slots n ≢ n → list_any (λ k. eqb k n) order ≡ true
    linked_here moves = by_test (list_any (λ k. eqb k n) order) refl
      where
        by_test : (b : Bool) → list_any (λ k. eqb k n) order ≡ b → list_any (λ k. eqb k n) order ≡ true
        by_test true is = is
        by_test false is = absurd (moves (ring.off_ring n not_sentinel (absent_from_unlinked n order is) (node_behind _ used)).1)

    -- one look at a node tells whether it is linked
    pub linked_test : not (eqb (next_in slots n) n) ≡ list_any (λ k. eqb k n) order
    linked_test =
        elim (cases_eq (next_in slots n) n) [
          | inl same ↦ rw (eq-eqb (next_in slots n) n same) (sym (unlinked_from_absent n order (absent_here same)))
          | inr moves ↦ rw (ne_eqb (next_in slots n) n moves) (sym (linked_here moves))
        ]

    -- where a number is in use there is a sentinel
    pub sentinel_here : IsSome (node_at slots 0)
    sentinel_here = ring.closed n (node_behind _ used)

    -- the neighbours of a linked number
    pub around : next_in slots n ≢ n → HasNeighbours (next_in slots) (prev_in slots) (λ k. IsSome (node_at slots k)) n
    around moves =
        neighbours (next_in slots) (prev_in slots) (λ k. IsSome (node_at slots k)) 0 order 0 n ring.chain sentinel_here
        (nodes_behind slots order ring.in_use) sentinel_here (linked_here moves)

    -- nor does its key before
    pub before_moves : next_in slots n ≢ n → prev_in slots n ≢ n
    before_moves moves same = moves (ap (next_in slots) (sym same) ∙ (around moves).before)

    -- a number that is off the ring names itself both ways
    pub alone_here : next_in slots n ≡ n → prev_in slots n ≡ n
    alone_here stays = (ring.off_ring n not_sentinel (absent_here stays) (node_behind _ used)).2

    left_count : next_in slots n ≢ n → length (without n order) + 1 ≡ length order
    left_count moves = length-without n order ring.distinct.1 (linked_here moves)

  -- the keys behind and before each key, once n is taken out
  abbrev next_after : List (Option (Node T)) → ℕ → ℕ → ℕ
  next_after slots n k = cond (eqb k n) n (cond (eqb k (prev_in slots n)) (next_in slots n) (next_in slots k))

  abbrev prev_after : List (Option (Node T)) → ℕ → ℕ → ℕ
  prev_after slots n k = cond (eqb k n) n (cond (eqb k (next_in slots n)) (prev_in slots n) (prev_in slots k))

  -- the three writes that take n out, the first of which makes it name itself
  pub taken_out : (a b c d : Slab (Node T)) (n prev next : ℕ) → prev ≡ prev_in a.slots n → next ≡ next_in a.slots n → prev ≢ n → next ≢ n
      → Relinks a b (λ k. cond (eqb k n) n (next_in a.slots k)) (λ k. cond (eqb k n) n (prev_in a.slots k))
      → Relinks b c (λ k. cond (eqb k prev) next (next_in b.slots k)) (λ k. prev_in b.slots k)
      → Relinks c d (λ k. next_in c.slots k) (λ k. cond (eqb k next) prev (prev_in c.slots k))
      → Relinks a d (next_after a.slots n) (prev_after a.slots n)
  taken_out a b c d n prev next prev_is next_is prev_moves next_moves ab bc cd = record {
    next_is = λ k. rw (← prev_is, ← next_is) (cd.next_is k ∙ bc.next_is k ∙ ap (cond (eqb k prev) next) (ab.next_is k) ∙ swaps n next (next_in a.slots k) prev k prev_moves);
    prev_is = λ k. rw (← prev_is, ← next_is) (cd.prev_is k ∙ ap (cond (eqb k next) prev) (bc.prev_is k ∙ ab.prev_is k) ∙ swaps n prev (prev_in a.slots k) next k next_moves);
    values = λ k. cd.values k ∙ bc.values k ∙ ab.values k;
    nodes = λ k. cd.nodes k ∙ bc.nodes k ∙ ab.nodes k;
    vacant_key = cd.vacant_key ∙ bc.vacant_key ∙ ab.vacant_key;
    len = cd.len ∙ bc.len ∙ ab.len;
    capacity = cd.capacity ∙ bc.capacity ∙ ab.capacity;
  }

  -- a node that names itself is made to name itself
  pub left_alone : (a b : Slab (Node T)) (n : ℕ) → next_in a.slots n ≡ n → prev_in a.slots n ≡ n
      → Relinks a b (λ k. cond (eqb k n) n (next_in a.slots k)) (λ k. cond (eqb k n) n (prev_in a.slots k))
      → Relinks a b (λ k. next_in a.slots k) (λ k. prev_in a.slots k)
  left_alone a b n next prev ab = record {
    next_is = λ k. ab.next_is k ∙ own n (next_in a.slots) k next;
    prev_is = λ k. ab.prev_is k ∙ own n (prev_in a.slots) k prev;
    values = ab.values;
    nodes = ab.nodes;
    vacant_key = ab.vacant_key;
    len = ab.len;
    capacity = ab.capacity;
  }

  -- the ring without n
  module _ (old new : Slab (Node T)) (order : List ℕ) (ring : IsRing old.slots order) (n : ℕ) (used : IsSome (value_of (node_at old.slots n)))
      (moves : next_in old.slots n ≢ n) (links : Relinks old new (next_after old.slots n) (prev_after old.slots n)) where
    prev_moves : prev_in old.slots n ≢ n
    prev_moves same = before_moves old.slots order ring n used moves same

    chain_left : IsChain (next_in new.slots) (prev_in new.slots) 0 (without n order) 0
    chain_left =
        let beside = around old.slots order ring n used moves in
        let other : 0 ≢ n = λ same. not_sentinel old.slots order ring n used (sym same) in
        chain-without (next_in old.slots) (prev_in old.slots) (next_in new.slots) (prev_in new.slots) n beside.before beside.after
        (links.next_is (prev_in old.slots n) ∙ rw (ne_eqb (prev_in old.slots n) n prev_moves, eq-eqb (prev_in old.slots n) (prev_in old.slots n) refl) refl)
        (links.prev_is (next_in old.slots n) ∙ rw (ne_eqb (next_in old.slots n) n moves, eq-eqb (next_in old.slots n) (next_in old.slots n) refl) refl)
        (λ k away here. links.next_is k ∙ rw (ne_eqb k n here, ne_eqb k (prev_in old.slots n) away) refl)
        (λ k away here. links.prev_is k ∙ rw (ne_eqb k n here, ne_eqb k (next_in old.slots n) away) refl)
        0 order 0 ring.chain ring.distinct.1 other other

    -- a node off the ring still names itself
    off : (k : ℕ) → k ≢ 0 → IsAbsent k (without n order) → IsSome (node_at old.slots k)
        → IsSome (value_of (node_at new.slots k)) × (next_in new.slots k ≡ k) × (prev_in new.slots k ≡ k)
    off k other absent node =
        elim (cases_eq k n) [
          | inl same ↦ rw same (
            rw (links.values n) used,
            links.next_is n ∙ rw (eq-eqb n n refl) refl,
            links.prev_is n ∙ rw (eq-eqb n n refl) refl,
          )
          | inr differs ↦
              let away = absent_before k n order differs absent in
              let was = ring.off_ring k other away node in
              let beside = neighbours (next_in old.slots) (prev_in old.slots) (λ j. j ≢ k) 0 order 0 n ring.chain (λ same. other (sym same))
              (all_from_absent k order away) (λ same. other (sym same)) (linked_here old.slots order ring n used moves) in (
                rw (links.values k) was.0,
                links.next_is k ∙ rw (ne_eqb k n differs, ne_eqb k (prev_in old.slots n) (λ same. beside.prev_on (sym same))) was.1,
                links.prev_is k ∙ rw (ne_eqb k n differs, ne_eqb k (next_in old.slots n) (λ same. beside.next_on (sym same))) was.2,
              )
        ]

    ring_left : IsRing new.slots (without n order)
    ring_left = record {
      chain = chain_left;
      distinct = (IsAbsent-without 0 n order ring.distinct.0, IsDistinct-without n order ring.distinct.1);
      in_use = AllInUse-same old.slots new.slots (without n order) (λ k. ap is_some (links.values k))
          (AllInUse-without (map value_of old.slots) n order ring.in_use);
      no_value = links.values 0 ∙ ring.no_value;
      closed = λ k node. links.nodes 0 ∙ ring.closed k (sym (links.nodes k) ∙ node);
      off_ring = λ k other absent node. off k other absent (sym (links.nodes k) ∙ node);
    }

  -- a node off the ring is gone
  ring_removed : (old new : List (Option (Node T))) (n : ℕ) (order : List ℕ) → IsRing old order → IsSome (value_of (node_at old n)) → IsAbsent n order
      → ((k : ℕ) → k ≢ n → node_at new k ≡ node_at old k) → node_at new n ≡ None → IsRing new order
  ring_removed old new n order ring used absent same gone =
      let other : 0 ≢ n = λ is. not_sentinel old order ring n used (sym is) in
      let next_same : (k : ℕ) → k ≢ n → next_in new k ≡ next_in old k = λ k differs. ap next_of (same k differs) in
      let prev_same : (k : ℕ) → k ≢ n → prev_in new k ≡ prev_in old k = λ k differs. ap prev_of (same k differs) in
      record {
        chain = chain-alike (next_in old) (prev_in old) (next_in new) (prev_in new) 0 order 0 (next_same 0 other)
            (all_but (λ k. (next_in new k ≡ next_in old k) × (prev_in new k ≡ prev_in old k)) n order
            (λ k differs. (next_same k differs, prev_same k differs)) absent) (prev_same 0 other) ring.chain;
        distinct = ring.distinct;
        in_use = AllInUse-updated (map value_of old) (map value_of new) n order
            (λ k differs. value_in new k ∙ ap value_of (same k differs) ∙ sym (value_in old k)) absent ring.in_use;
        no_value = ap value_of (same 0 other) ∙ ring.no_value;
        closed = λ k node. ap is_some (same 0 other) ∙ sentinel_here old order ring n used;
        off_ring = λ k k_other k_absent node. elim (cases_eq k n) [
          | inl here ↦ absurd (some_none (node_at new k) (node_at new n) (ap (node_at new) here) node gone)
          | inr differs ↦
              let was = ring.off_ring k k_other k_absent (rw (same k differs) at node) in
              (rw (same k differs) was.0, next_same k differs ∙ was.1, prev_same k differs ∙ was.2)
        ];
      }

  not_some : (o : Option T) → is_some o ≡ is_some {T = T} None → o ≡ None
  not_some None same = refl
  not_some (Some v) same = absurd (cc)

  -- the same links, and values where there were values
  ring_alike : (old new : List (Option (Node T))) (order : List ℕ) → IsRing old order → IsSome (node_at new 0)
      → ((k : ℕ) → next_in new k ≡ next_in old k) → ((k : ℕ) → prev_in new k ≡ prev_in old k)
      → ((k : ℕ) → k ≢ 0 → is_some (node_at new k) ≡ is_some (node_at old k))
      → ((k : ℕ) → is_some (value_of (node_at new k)) ≡ is_some (value_of (node_at old k))) → IsRing new order
  ring_alike old new order ring made next prev nodes values = record {
    chain = chain-alike (next_in old) (prev_in old) (next_in new) (prev_in new) 0 order 0 (next 0) (all_of order) (prev 0) ring.chain;
    distinct = ring.distinct;
    in_use = AllInUse-same old new order values ring.in_use;
    no_value = not_some _ (values 0 ∙ ap is_some ring.no_value);
    closed = λ k node. made;
    off_ring = λ k other absent node. let was = ring.off_ring k other absent (sym (nodes k other) ∙ node) in (values k ∙ was.0, next k ∙ was.1, prev k ∙ was.2);
  }
    where
      all_of : (ks : List ℕ) → AllByRecursion (λ k. (next_in new k ≡ next_in old k) × (prev_in new k ≡ prev_in old k)) ks
      all_of [] = tt
      all_of (k ∷ ks) = ((next k, prev k), all_of ks)

  -- a value was put between p and the key behind p
  module _ (old new : Slab (Node T)) (order : List ℕ) (ring : IsRing old.slots order) (made : IsSome (node_at old.slots 0)) (p z n : ℕ) (value : T)
      (inserts : Inserts old new p z n value) where
    n_absent : IsAbsent n order
    n_absent = fresh order (nodes_behind old.slots order ring.in_use)
      where
        fresh : (ks : List ℕ) → AllByRecursion (λ k. IsSome (node_at old.slots k)) ks → IsAbsent n ks
        fresh [] all = tt
        fresh (k ∷ ks) all = (
          (λ same. some_none (node_at old.slots k) (node_at old.slots n) (ap (node_at old.slots) same)
              all.0 inserts.vacant),
          fresh ks all.1,
        )

    not_new : (k : ℕ) → IsSome (node_at old.slots k) → k ≢ n
    not_new k node same = some_none (node_at old.slots k) (node_at old.slots n) (ap (node_at old.slots) same) node inserts.vacant

    -- what a contract sees
    pub updates_view : (a b : List ℕ) (s t : ℕ) → Updates (record { order = a; slots = trim (map value_of old.slots); spare = s })
        (record { order = b; slots = trim (map value_of new.slots); spare = t }) n (Some value)
    updates_view a b s t = record {
      changed = view_at new.slots n ∙ inserts.changed;
      others = λ k differs. view_at new.slots k ∙ inserts.values k differs ∙ sym (view_at old.slots k);
    }

    in_use_new : AllInUse (map value_of new.slots) order
    in_use_new = AllInUse-updated (map value_of old.slots) (map value_of new.slots) n order
        (λ k differs. value_in new.slots k ∙ inserts.values k differs ∙ sym (value_in old.slots k)) n_absent ring.in_use

    here : IsSome (get_or (map value_of new.slots) n None)
    here = ap is_some (value_in new.slots n ∙ inserts.changed)

    pub sentinel_new : IsSome (node_at new.slots 0)
    sentinel_new = inserts.nodes 0 (not_new 0 made) ∙ made

    no_value_new : value_of (node_at new.slots 0) ≡ None
    no_value_new = inserts.values 0 (not_new 0 made) ∙ ring.no_value

    put_behind : IsSome (node_at old.slots p) → IsSome (node_at old.slots z) → z ≡ next_in old.slots p → prev_in old.slots z ≡ p
        → IsPutBehind (next_in old.slots) (prev_in old.slots) (next_in new.slots) (prev_in new.slots) p n
    put_behind p_node z_node behind before = record {
      after = ap (prev_in old.slots) (sym behind) ∙ before;
      p_next = inserts.next_is p ∙ rw (eq-eqb p p refl) refl;
      n_next = inserts.next_is n ∙ rw (ne_eqb n p (λ same. not_new p p_node (sym same)), eq-eqb n n refl) behind;
      n_prev = inserts.prev_is n ∙ rw (ne_eqb n z (λ same. not_new z z_node (sym same)), eq-eqb n n refl) refl;
      next_prev = ap (prev_in new.slots) (sym behind) ∙ inserts.prev_is z ∙ rw (eq-eqb z z refl) refl;
      other_next = λ k p_other n_other. inserts.next_is k ∙ rw (ne_eqb k p p_other, ne_eqb k n n_other) refl;
      other_prev = λ k next_other n_other. inserts.prev_is k ∙ rw (ne_eqb k z (λ same. next_other (same ∙ behind)), ne_eqb k n n_other) refl;
    }

    -- a node off the ring is neither of the neighbours
    off_new : IsPutBehind (next_in old.slots) (prev_in old.slots) (next_in new.slots) (prev_in new.slots) p n → z ≡ next_in old.slots p → (k : ℕ)
        → k ≢ 0 → IsAbsent k order → k ≢ n → p ≢ k → z ≢ k → IsSome (node_at new.slots k)
        → IsSome (value_of (node_at new.slots k)) × (next_in new.slots k ≡ k) × (prev_in new.slots k ≡ k)
    off_new put behind k other absent n_other p_other z_other node =
        let was = ring.off_ring k other absent (sym (inserts.nodes k n_other) ∙ node) in (
          rw (inserts.values k n_other) was.0,
          put.other_next k (λ same. p_other (sym same)) n_other ∙ was.1,
          put.other_prev k (λ same. z_other (behind ∙ sym same)) n_other ∙ was.2,
        )

  -- the ring with n behind the sentinel
  ring_head : (old new : Slab (Node T)) (order : List ℕ) → IsRing old.slots order → IsSome (node_at old.slots 0) → (z n : ℕ) (value : T)
      → z ≡ next_in old.slots 0 → Inserts old new 0 z n value → IsRing new.slots (n ∷ order)
  ring_head old new order ring made z n value behind inserts =
      let first = first_of (next_in old.slots) (prev_in old.slots) (λ k. IsSome (node_at old.slots k)) 0 order 0 ring.chain
      (nodes_behind old.slots order ring.in_use) made in
      let put = put_behind old new order ring made 0 z n value inserts made (rw behind first.1) behind (rw behind first.0) in
      let absent = n_absent old new order ring made 0 z n value inserts in
      let other : 0 ≢ n = not_new old new order ring made 0 z n value inserts 0 made in
      record {
        chain = chain-push_head (next_in old.slots) (prev_in old.slots) (next_in new.slots) (prev_in new.slots)
            0 n put order 0 ring.chain absent ring.distinct.0 ring.distinct.1 ring.distinct.0 other;
        distinct = (((λ same. other (sym same)), ring.distinct.0), (absent, ring.distinct.1));
        in_use = (here old new order ring made 0 z n value inserts, in_use_new old new order ring made 0 z n value inserts);
        no_value = no_value_new old new order ring made 0 z n value inserts;
        closed = λ k node. sentinel_new old new order ring made 0 z n value inserts;
        off_ring = λ k away off node.
            let from_start : 0 ≢ k = λ same. away (sym same) in
            let beside = first_of (next_in old.slots) (prev_in old.slots) (λ j. j ≢ k) 0 order 0 ring.chain (all_from_absent k order off.1) from_start in
            off_new old new order ring made 0 z n value inserts put behind k away off.1 (λ same. off.0 (sym same)) from_start
            (λ same. beside.1 (sym behind ∙ same)) node;
      }

  -- the ring with n before the sentinel
  ring_tail : (old new : Slab (Node T)) (order : List ℕ) → IsRing old.slots order → IsSome (node_at old.slots 0) → (p n : ℕ) (value : T)
      → p ≡ prev_in old.slots 0 → Inserts old new p 0 n value → IsRing new.slots (order ++ n ∷ [])
  ring_tail old new order ring made p n value before inserts =
      let last = last_of (next_in old.slots) (prev_in old.slots) (λ k. IsSome (node_at old.slots k)) 0 order 0 ring.chain made
      (nodes_behind old.slots order ring.in_use) in
      let ends : next_in old.slots p ≡ 0 = rw before last.0 in
      let put = put_behind old new order ring made p 0 n value inserts (rw before last.1) made (sym ends) (sym before) in
      let absent = n_absent old new order ring made p 0 n value inserts in
      let other : 0 ≢ n = not_new old new order ring made p 0 n value inserts 0 made in
      let longer : IsChain (next_in new.slots) (prev_in new.slots) 0 (order ++ n ∷ []) (next_in old.slots p) =
      chain-push_tail (next_in old.slots) (prev_in old.slots) (next_in new.slots) (prev_in new.slots) p n put 0 order
      (subst (IsChain (next_in old.slots) (prev_in old.slots) 0 order) (sym ends) ring.chain)
      (subst (λ z. IsAbsent z order) (sym ends) ring.distinct.0)
      absent other in
      record {
        chain = subst (IsChain (next_in new.slots) (prev_in new.slots) 0 (order ++ n ∷ [])) ends longer;
        distinct = (IsAbsent-push 0 n order (λ same. other (sym same)) ring.distinct.0, IsDistinct-push n order absent ring.distinct.1);
        in_use = AllInUse-push (map value_of new.slots) n order (here old new order ring made p 0 n value inserts)
            (in_use_new old new order ring made p 0 n value inserts);
        no_value = no_value_new old new order ring made p 0 n value inserts;
        closed = λ k node. sentinel_new old new order ring made p 0 n value inserts;
        off_ring = λ k away off node.
            let parts = absent_from_push k n order off in
            let from_start : 0 ≢ k = λ same. away (sym same) in
            let beside = last_of (next_in old.slots) (prev_in old.slots) (λ j. j ≢ k) 0 order 0 ring.chain from_start (all_from_absent k order parts.0) in
            off_new old new order ring made p 0 n value inserts put (sym ends) k away parts.0 (λ same. parts.1 (sym same))
            (λ same. beside.1 (sym before ∙ same)) from_start node;
      }

  -- the value of the node under n was written
  module _ (slots : List (Option (Node T))) (n : ℕ) (node : Node T) (w : T) (found : node_at slots n ≡ Some node) (full : IsSome node.value) where
    within : n < length slots
    within = grind (arith, get_or_past, found)

    same_by : {X : Type 0} (f : Option (Node T) → X) → f (Some (record node { value = Some w })) ≡ f (Some node) → (k : ℕ)
        → f (node_at (set slots n (Some (record node { value = Some w }))) k) ≡ f (node_at slots k)
    same_by f alike k =
        elim (cases_eq k n) [
          | inl same ↦
              ap (λ j. f (node_at (set slots n (Some (record node { value = Some w }))) j)) same
              ∙ ap f (get_or-set_same slots n (Some (record node { value = Some w })) None within)
              ∙ alike ∙ ap f (sym found) ∙ ap (λ j. f (node_at slots j)) (sym same)
          | inr differs ↦ ap f (get_or-set_other slots n k (Some (record node { value = Some w })) None differs)
        ]

    pub sentinel_kept : (order : List ℕ) → IsRing slots order → IsSome (node_at (set slots n (Some (record node { value = Some w }))) 0)
    sentinel_kept order ring = same_by (λ o. is_some o) refl 0 ∙ ring.closed n (ap is_some found)

    ring_kept : (order : List ℕ) → IsRing slots order → IsRing (set slots n (Some (record node { value = Some w }))) order
    ring_kept order ring =
        ring_alike slots (set slots n (Some (record node { value = Some w }))) order ring (sentinel_kept order ring) (same_by next_of refl)
        (same_by prev_of refl) (λ k other. same_by (λ o. is_some o) refl k) (same_by (λ o. is_some (value_of o)) (sym full))

    pub count_kept : count_by is_some (set slots n (Some (record node { value = Some w }))) ≡ count_by is_some slots
    count_kept =
        let counted = sum_by-set (λ o. cond (is_some o) 1 0) slots n (Some (record node { value = Some w })) None within in
        let part = rw found at counted in
        omega (arith, part)

    pub slots_written : trim (map value_of (set slots n (Some (record node { value = Some w })))) ≡ set (trim (map value_of slots)) n (Some w)
    slots_written =
        ap trim (map-set value_of slots n (Some (record node { value = Some w })))
        ∙ trim-set (map value_of slots) n w (rw (value_in slots n, found) full)

  -- no more numbers are linked than there are nodes
  pub linked-le-nodes : (nodes : Slab (Node T)) (order : List ℕ) → IsRing nodes.slots order → length order ≤ slab_len nodes
  linked-le-nodes nodes order ring =
      omega (arith, length_order-le-count (map value_of nodes.slots) order ring.distinct.1 ring.in_use, count-values nodes.slots)

  -- as many numbers stand in the order as are linked
  pub length-order : (slots : List (Option (Node T))) (len : ℕ) → length (order_of slots len) ≡ len
  length-order slots len = length-walk (next_in slots) len (next_in slots 0)

  -- the ring and the order after a call, where so many are linked then
  pub record Walks (slots : List (Option (Node T))) (keys : List ℕ) (len : ℕ) : Type 0 where
    pub ring : IsRing slots (order_of slots len)
    pub order : order_of slots len ≡ keys

  walks : (slots : List (Option (Node T))) (order : List ℕ) (len : ℕ) → length order ≡ len → IsRing slots order → Walks slots order len
  walks slots order len count ring =
      let is : order_of slots len ≡ order = ap (λ l. order_of slots l) (sym count) ∙ walk-chain (next_in slots) (prev_in slots) 0 order 0 ring.chain in
      record { ring = subst (IsRing slots) (sym is) ring; order = is }

  pub after_head : (old new : Slab (Node T)) (len : ℕ) → IsRing old.slots (order_of old.slots len) → IsSome (node_at old.slots 0)
      → (z n : ℕ) (value : T) → z ≡ next_in old.slots 0 → Inserts old new 0 z n value → Walks new.slots (n ∷ order_of old.slots len) (len + 1)
  after_head old new len ring made z n value behind inserts =
      walks new.slots _ (len + 1) (omega (arith, length-order old.slots len)) (ring_head old new _ ring made z n value behind inserts)

  pub after_tail : (old new : Slab (Node T)) (len : ℕ) → IsRing old.slots (order_of old.slots len) → IsSome (node_at old.slots 0)
      → (p n : ℕ) (value : T) → p ≡ prev_in old.slots 0 → Inserts old new p 0 n value → Walks new.slots (order_of old.slots len ++ n ∷ []) (len + 1)
  after_tail old new len ring made p n value before inserts =
      walks new.slots _ (len + 1) (omega (arith, length-append (order_of old.slots len) (n ∷ []), length-order old.slots len))
      (ring_tail old new _ ring made p n value before inserts)

  pub after_unlink : (old new : Slab (Node T)) (len n : ℕ) → IsRing old.slots (order_of old.slots len) → IsSome (value_of (node_at old.slots n))
      → next_in old.slots n ≢ n → Relinks old new (next_after old.slots n) (prev_after old.slots n)
      → Walks new.slots (without n (order_of old.slots len)) (len - 1)
  after_unlink old new len n ring used moves links =
      walks new.slots _ (len - 1) (omega (arith, left_count old.slots _ ring n used moves, length-order old.slots len))
      (ring_left old new _ ring n used moves links)

  -- nothing was taken out
  pub after_nothing : (old new : Slab (Node T)) (len : ℕ) → IsRing old.slots (order_of old.slots len) → IsSome (node_at old.slots 0)
      → Relinks old new (λ k. next_in old.slots k) (λ k. prev_in old.slots k) → Walks new.slots (order_of old.slots len) len
  after_nothing old new len ring made links =
      walks new.slots _ len (length-order old.slots len)
      (ring_alike old.slots new.slots _ ring (links.nodes 0 ∙ made) links.next_is links.prev_is (λ k other. links.nodes k) (λ k. ap is_some (links.values k)))

  pub after_remove : (old new : Slab (Node T)) (len n : ℕ) → IsRing old.slots (order_of old.slots len) → IsSome (value_of (node_at old.slots n))
      → list_any (λ k. eqb k n) (order_of old.slots len) ≡ false → slab.Updates old new n None → Walks new.slots (order_of old.slots len) len
  after_remove old new len n ring used unlinked updates =
      walks new.slots _ len (length-order old.slots len)
      (ring_removed old.slots new.slots n _ ring used (absent_from_unlinked n _ unlinked) updates.others updates.changed)

  pub after_reserve : (old new : List (Option (Node T))) (len : ℕ) → IsRing old (order_of old len) → SameQueue old new → IsSome (node_at new 0)
      → Walks new (order_of old len) len
  after_reserve old new len ring same made =
      walks new _ len (length-order old len)
      (ring_alike old new _ ring made same.next_is same.prev_is (λ k other. ap is_some (same.others k other)) (λ k. ap is_some (same.values k)))

  -- the nodes beside the sentinel
  pub first_node : (slots : List (Option (Node T))) (order : List ℕ) → IsRing slots order → IsSome (node_at slots 0) → IsSome (node_at slots (next_in slots 0))
  first_node slots order ring made =
      (first_of (next_in slots) (prev_in slots) (λ k. IsSome (node_at slots k)) 0 order 0 ring.chain (nodes_behind slots order ring.in_use) made).1

  pub last_node : (slots : List (Option (Node T))) (order : List ℕ) → IsRing slots order → IsSome (node_at slots 0) → IsSome (node_at slots (prev_in slots 0))
  last_node slots order ring made =
      (last_of (next_in slots) (prev_in slots) (λ k. IsSome (node_at slots k)) 0 order 0 ring.chain made (nodes_behind slots order ring.in_use)).1

  pub after_write : (slots : List (Option (Node T))) (n : ℕ) (node : Node T) (w : T) → node_at slots n ≡ Some node → IsSome node.value → (len : ℕ)
      → IsRing slots (order_of slots len) → Walks (set slots n (Some (record node { value = Some w }))) (order_of slots len) len
  after_write slots n node w found full len ring =
      walks (set slots n (Some (record node { value = Some w }))) _ len (length-order slots len) (ring_kept slots n node w found full _ ring)

  -- a removal leaves the sentinel
  pub sentinel_removed : (old new : Slab (Node T)) (order : List ℕ) → IsRing old.slots order → (n : ℕ) → IsSome (value_of (node_at old.slots n))
      → slab.Updates old new n None → IsSome (node_at new.slots 0)
  sentinel_removed old new order ring n used updates =
      ap is_some (updates.others 0 (λ same. not_sentinel old.slots order ring n used (sym same))) ∙ sentinel_here old.slots order ring n used
